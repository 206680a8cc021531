-- Tags that ascend by their names are the members of an object in their order.
use Rattle.std.proofs.Common.{◌≡◌, ℕ, List, [], ◌∷◌, ◌++◌, Ordering, Less, Greater, refl, sym, ap, ◌∙◌, subst, append-nil, append_assoc}
use Rattle.std.specs.Cmp.Lexicographic.{slice_cmp}
use Rattle.std.specs.List.{All, AllByRecursion}
use Rattle.std.specs.List.Sorted.{IsStrictlySortedBy}
use Rattle.std.specs.Ordering.{nat_cmp, match_ordering, ordering_reverse}
use Rattle.std.proofs.lemmas.Cmp.{nat_list_cmp_total}
use Rattle.std.proofs.lemmas.List.Elements.{All-head, All-tail}
use Rattle.serde_json.specs.Data.{Data, Members, no_members, member, put}
use Rattle.ak_base.specs.Heads.{IsTagInRange, tag_names}
use Rattle.ak_base.specs.declared.heads.Tag.{Tag}
use Rattle.ak_json.specs.Written.{integer}
use Rattle.ak_journal_rows.specs.Texts.{tag_members}
use Rattle.ak_journal_rows.specs.declared.faults.ChangeFault.{ChangeFault}
use Rattle.ak_journal_rows.specs.declared.faults.ChangeFault.TheVariants.{Memory}

-- ---- writing
abbrev pub Ascend : List Tag → Type 0
Ascend tags = IsStrictlySortedBy (slice_cmp nat_cmp) (tag_names tags)

-- the members with one for each tag
abbrev pub put_tags : List Tag → Members → Members
put_tags [] ms = ms
put_tags (tag ∷ tags) ms = put_tags tags (put tag.name (integer tag.usn) ms)

before_behind : (first : Tag) (front : List Tag) (tag : Tag) (tags : List Tag)
    → AllByRecursion (λ y. slice_cmp nat_cmp first.name y ≡ Less) (tag_names (front ++ tag ∷ tags)) → slice_cmp nat_cmp first.name tag.name ≡ Less
before_behind first [] tag tags h = h.0
before_behind first (next ∷ front) tag tags h = before_behind first front tag tags h.1

put_last : (front : List Tag) (tag : Tag) (tags : List Tag) → Ascend (front ++ tag ∷ tags)
    → put tag.name (integer tag.usn) (tag_members front) ≡ tag_members (front ++ tag ∷ [])
unfolding IsStrictlySortedBy
put_last [] tag tags s = refl
put_last (first ∷ front) tag tags s =
    let above : slice_cmp nat_cmp tag.name first.name ≡ Greater =
    nat_list_cmp_total.antisymm tag.name first.name ∙ ap ordering_reverse (before_behind first front tag tags s.0) in
    ap (λ (o : Ordering). match_ordering o (member tag.name (integer tag.usn) (member first.name (integer first.usn) (tag_members front)))
    (member first.name (integer tag.usn) (tag_members front)) (member first.name (integer first.usn) (put tag.name (integer tag.usn) (tag_members front)))) above
    ∙ ap (member first.name (integer first.usn)) (put_last front tag tags s.1)

put_behind : (front tags : List Tag) → Ascend (front ++ tags) → put_tags tags (tag_members front) ≡ tag_members (front ++ tags)
put_behind front [] s = ap tag_members (sym (append-nil front))
put_behind front (tag ∷ tags) s =
    let same : front ++ tag ∷ [] ++ tags ≡ front ++ tag ∷ tags = append_assoc front (tag ∷ []) tags in
    ap (put_tags tags) (put_last front tag tags s)
    ∙ (put_behind (front ++ tag ∷ []) tags (subst Ascend (sym same) s) ∙ ap tag_members same)

-- tags that ascend are written in their order
pub put_in_order : (tags : List Tag) → Ascend tags → put_tags tags no_members ≡ tag_members tags
put_in_order tags s = put_behind [] tags s

-- ---- reading
-- the tags so far are the front of these, and the members that are left are those of the others
abbrev pub IsReadTo : List Tag → List Tag → Members → Type 0
IsReadTo tags so_far rest = (left : List Tag) × (tags ≡ so_far ++ left) × (rest ≡ tag_members left) × All IsTagInRange left

-- the member is that of the tag that comes next
abbrev pub IsNext : List Tag → List Tag → List ℕ → Data → Members → Type 0
IsNext tags so_far name d ms =
    (tag : Tag) × IsTagInRange tag × (name ≡ tag.name) × (d ≡ integer tag.usn) × IsReadTo tags (so_far ++ tag ∷ []) ms

key_of : (k l : List ℕ) (d e : Data) (ms ns : Members) → member k d ms ≡ member l e ns → k ≡ l
key_of k l d e ms ns is = cc

value_of : (k l : List ℕ) (d e : Data) (ms ns : Members) → member k d ms ≡ member l e ns → d ≡ e
value_of k l d e ms ns is = cc

others_of : (k l : List ℕ) (d e : Data) (ms ns : Members) → member k d ms ≡ member l e ns → ms ≡ ns
others_of k l d e ms ns is = cc

pub next_read : (tags so_far : List Tag) (name : List ℕ) (d : Data) (ms : Members) → IsReadTo tags so_far (member name d ms) → IsNext tags so_far name d ms
next_read tags so_far name d ms (left, whole, members, fit) = among left whole members fit
  where
    among : (left : List Tag) → tags ≡ so_far ++ left → member name d ms ≡ tag_members left → All IsTagInRange left → IsNext tags so_far name d ms
    among [] whole members fit = cc
    among (tag ∷ others) whole members fit = (
      tag,
      All-head IsTagInRange tag others fit,
      key_of name tag.name d (integer tag.usn) ms (tag_members others) members,
      value_of name tag.name d (integer tag.usn) ms (tag_members others) members,
      (
        others,
        whole ∙ sym (append_assoc so_far (tag ∷ []) others),
        others_of name tag.name d (integer tag.usn) ms (tag_members others) members,
        All-tail IsTagInRange tag others fit,
      ),
    )

-- one more is read
pub read_on : (tags so_far new : List Tag) (made : Tag) (name : List ℕ) (d : Data) (ms all : Members)
    → ((tag : Tag) → IsTagInRange tag → name ≡ tag.name → d ≡ integer tag.usn → made ≡ tag) → new ≡ so_far ++ made ∷ [] → all ≡ member name d ms
    → IsReadTo tags so_far all → IsReadTo tags new ms
read_on tags so_far new made name d ms all read is these to = on (next_read tags so_far name d ms (subst (IsReadTo tags so_far) these to))
  where
    on : IsNext tags so_far name d ms → IsReadTo tags new ms
    on (tag, fit, key, value, rest) =
        subst (λ (read_so_far : List Tag). IsReadTo tags read_so_far ms) (sym (is ∙ ap (λ (last : Tag). so_far ++ last ∷ []) (read tag fit key value))) rest

-- what refuses it is that memory ran out
pub read_fails : (tags so_far : List Tag) (fault : ChangeFault) (name : List ℕ) (d : Data) (ms all : Members)
    → ((tag : Tag) → IsTagInRange tag → name ≡ tag.name → d ≡ integer tag.usn → fault ≡ Memory) → all ≡ member name d ms → IsReadTo tags so_far all → fault ≡ Memory
read_fails tags so_far fault name d ms all read these to = on (next_read tags so_far name d ms (subst (IsReadTo tags so_far) these to))
  where
    on : IsNext tags so_far name d ms → fault ≡ Memory
    on (tag, fit, key, value, rest) = read tag fit key value

-- all are read
pub read_all : (tags so_far : List Tag) (all : Members) → all ≡ no_members → IsReadTo tags so_far all → so_far ≡ tags
read_all tags so_far all none (left, whole, members, fit) = among left whole (sym none ∙ members)
  where
    among : (left : List Tag) → tags ≡ so_far ++ left → no_members ≡ tag_members left → so_far ≡ tags
    among [] whole members = sym (whole ∙ append-nil so_far)
    among (tag ∷ others) whole members = cc

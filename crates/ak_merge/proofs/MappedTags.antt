-- Tags as entries of a map: what is put in, and what is found.
use Rattle.std.specs.Prelude.{◌≡◌, ℕ, ℤ, Bool, true, false, ◌&&◌, cond, if◌then◌else◌, List, [], ◌∷◌, ◌++◌, Some, is_some, String}
use Rattle.std.proofs.Common.{refl, sym, ap, ◌∙◌}
use Rattle.std.proofs.lemmas.Cmp.{nat_list_eq_equiv}
use Rattle.std.proofs.lemmas.Map.Text.{is_eq-slice_cmp}
use Rattle.std.specs.BTreeMap.{BTreeMap, insert_entry, get_by_text}
use Rattle.std.specs.Cmp.Lexicographic.{slice_cmp}
use Rattle.std.specs.Map.{lookup}
use Rattle.std.specs.Ordering.{is_lt, is_eq, nat_cmp, match_ordering}
use Rattle.std.specs.String.{string_bytes, string_cmp}
use Rattle.std.specs.declared.cmp.Ordering.TheVariants.{Less, Equal, Greater}
use Rattle.ak_base.specs.declared.heads.Tag.{Tag}
use Rattle.ak_merge.proofs.TagLaws.{first_held, first_number, is_same, not_both}
use Rattle.ak_merge.specs.Holdings.{has_tag, tag_usn}
use Rattle.ak_merge.specs.TagMaps.{ascend, precedes, tag_of, mapped_tags}
use Rattle.ak_merge.specs.Tags.{with_tag, tag_taken}

-- ---- tags that ascend
first_true : (a b : Bool) → (a && b) ≡ true → a ≡ true
first_true true b so = refl
first_true false b so = so

second_true : (a b : Bool) → (a && b) ≡ true → b ≡ true
second_true true b so = so
second_true false b so = not_both so refl

-- the tags after some of those that ascend do so too
after_some : (front tags : List Tag) → ascend (front ++ tags) ≡ true → ascend tags ≡ true
after_some [] tags so = so
after_some (tag ∷ front) tags so = after_some front tags (second_true (precedes tag.name (front ++ tags)) (ascend (front ++ tags)) so)

-- a tag comes before those that follow it
pub before_next : (front : List Tag) (tag : Tag) (tags : List Tag) → ascend (front ++ tag ∷ tags) ≡ true → precedes tag.name tags ≡ true
before_next front tag tags so = first_true (precedes tag.name tags) (ascend tags) (after_some front (tag ∷ tags) so)

-- ---- entries
-- a name that is before the others is put in first
pub put_first : {Y : Type 0} (es : List (String Y × ℤ)) (name : String Y) (usn : ℤ) → precedes (string_bytes name) (mapped_tags es) ≡ true
    → mapped_tags (insert_entry string_cmp es name usn) ≡ tag_of (name, usn) ∷ mapped_tags es
put_first [] name usn before = refl
put_first {Y} (e ∷ es) name usn before =
    let more = insert_entry string_cmp es name usn in
    elim (string_cmp name e.0) as (λ r. is_lt r ≡ true → mapped_tags (match_ordering r ((name, usn) ∷ e ∷ es) ((e.0, usn) ∷ es) (e ∷ more)) ≡ tag_of (name, usn) ∷ mapped_tags (e ∷ es)) [
      | Less ↦ λ _. refl
      | Equal ↦ λ less. not_both less refl
      | Greater ↦ λ less. not_both less refl
    ] before

-- a name that is not held is put in before the first that is greater
pub put_new : {Y : Type 0} (es : List (String Y × ℤ)) (name : String Y) (usn : ℤ) → has_tag (mapped_tags es) (string_bytes name) ≡ false
    → mapped_tags (insert_entry string_cmp es name usn) ≡ with_tag (tag_of (name, usn)) (mapped_tags es)
put_new [] name usn none = refl
put_new {Y} (e ∷ es) name usn none =
    let apart = first_held (tag_of e) (mapped_tags es) (string_bytes name) none in
    let more = insert_entry string_cmp es name usn in
    elim (string_cmp name e.0) as (λ r. string_cmp name e.0 ≡ r
    → mapped_tags (match_ordering r ((name, usn) ∷ e ∷ es) ((e.0, usn) ∷ es) (e ∷ more)) ≡ (if is_lt r then tag_of (name, usn) ∷ mapped_tags (e ∷ es) else tag_of e ∷ with_tag (tag_of (name, usn)) (mapped_tags es))) [
      | Less ↦ λ _. refl
      | Equal ↦ λ equal.
          let same : is_same (string_bytes name) (string_bytes e.0) ≡ true = sym (is_eq-slice_cmp (string_bytes name) (string_bytes e.0)) ∙ ap is_eq equal in
          not_both (nat_list_eq_equiv.symm (string_bytes e.0) (string_bytes name) ∙ same) apart.0
      | Greater ↦ λ _. ap (λ (tags : List Tag). tag_of e ∷ tags) (put_new es name usn apart.1)
    ] refl

-- whether a map has a name
abbrev pub held_in : {Y : Type 0} → BTreeMap (String Y) ℤ → List ℕ → Bool
held_in numbers name = is_some (get_by_text numbers name)

-- a name is found where a tag has it
pub found : {Y : Type 0} (es : List (String Y × ℤ)) (name : List ℕ) → is_some (lookup (λ (key : String Y). is_eq (slice_cmp nat_cmp name (string_bytes key))) es) ≡ has_tag (mapped_tags es) name
found [] name = refl
found {Y} (e ∷ es) name =
    let rest = lookup (λ (key : String Y). is_eq (slice_cmp nat_cmp name (string_bytes key))) es in
    ap (λ b. is_some (cond b (Some e.1) rest)) (is_eq-slice_cmp name (string_bytes e.0) ∙ nat_list_eq_equiv.symm name (string_bytes e.0))
    ∙ (elim (is_same (string_bytes e.0) name) as (λ b. is_some (cond b (Some e.1) rest) ≡ is_some (if b then Some e.1 else tag_usn (mapped_tags es) name)) [
      | true ↦ refl
      | false ↦ found es name
    ])
    ∙ ap is_some (sym (first_number (tag_of e) (mapped_tags es) name))

-- a tag that is held stays
pub stays : (usn : ℤ) (name : List ℕ) (tags : List Tag) → has_tag tags name ≡ true → tags ≡ tag_taken usn name tags
stays usn name tags there = sym (ap (λ b. if b then tags else with_tag (record { name = name; usn = usn }) tags) there)

-- one that is not held comes
pub comes : (usn : ℤ) (name : List ℕ) (tags : List Tag) → has_tag tags name ≡ false → with_tag (record { name = name; usn = usn }) tags ≡ tag_taken usn name tags
comes usn name tags none = sym (ap (λ b. if b then tags else with_tag (record { name = name; usn = usn }) tags) none)

-- Lists of tags: those that are wanted, those that come part by part, and those that are settled.
use Rattle.ak_base.specs.Heads.{IsWithin, IsTagInRange, tag_names}
use Rattle.ak_base.specs.Limits.{last_usn}
use Rattle.ak_base.specs.declared.heads.Tag.{Tag}
use Rattle.ak_keep.specs.declared.keepers.Wanted.{Wanted}
use Rattle.ak_keep.specs.declared.keepers.Wanted.TheVariants.{Unsent, From}
use Rattle.ak_merge.proofs.TagLaws.{IsBelow, first_number, is_same, not_both}
use Rattle.ak_merge.specs.Exchanges.{is_wanted_number, wanted_tags, unsent_tags, tags_from, settled_number, settled_tag, settled_tags}
use Rattle.ak_merge.specs.Holdings.{tag_usn}
use Rattle.ak_merge.specs.Tags.{IsTagName, has_name, tag_taken, tags_taken}
use Rattle.std.proofs.lemmas.List.Elements.{recursion_from_All, All-from_recursion}
use Rattle.std.proofs.lemmas.Map.Text.{is_eq-slice_cmp}
use Rattle.std.specs.Cmp.Lexicographic.{slice_cmp, bytes_decides}
use Rattle.std.specs.List.{All, AllByRecursion}
use Rattle.std.specs.List.Sorted.{IsStrictlySortedBy}
use Rattle.std.specs.Option.{option_map_or}
use Rattle.std.specs.Ordering.{is_eq, int_eq, nat_cmp}
use Rattle.std.specs.declared.cmp.Ordering.TheVariants.{Less}
use Rattle.std.specs.Prelude.{◌≡◌, ℕ, ℤ, pos, negsuc, true, false, ◌||◌, if◌then◌else◌, List, [], ◌∷◌, ◌++◌, map, filter, Some}
use Rattle.std.proofs.Common.{◌<◌, ◌≤◌, length, get_or, refl, sym, ap, subst, ◌∙◌, arith}
use Rattle.std.proofs.lemmas.List.{ext_get_or, get_or-map, length-map}
use Rattle.std.proofs.lemmas.Int.{ints}

-- ---- wanted
apart_below : (name other : List ℕ) → slice_cmp nat_cmp name other ≡ Less → is_same other name ≡ false
apart_below name other less =
    let apart : is_same name other ≡ false = sym (is_eq-slice_cmp name other) ∙ ap is_eq less in
    elim (is_same other name) as (λ b. is_same other name ≡ b → b ≡ false) [
      | true ↦ λ is. not_both ((bytes_decides name other).1 (sym ((bytes_decides other name).0 is))) apart
      | false ↦ λ _. refl
    ] refl

-- no name is among greater ones
not_among : (want : Wanted) (name : List ℕ) (tags : List Tag) → IsBelow name (tag_names tags) → has_name (wanted_tags want tags) name ≡ false
not_among want name [] below = refl
not_among want name (tag ∷ more) below =
    let rest = filter (λ (tag : Tag). is_wanted_number want tag.usn) more in
    elim (is_wanted_number want tag.usn) as (λ b. has_name (map (λ (tag : Tag). tag.name) (if b then tag ∷ rest else rest)) name ≡ false) [
      | true ↦ ap (λ b. b || has_name (wanted_tags want more) name) (apart_below name tag.name below.0) ∙ not_among want name more below.1
      | false ↦ not_among want name more below.1
    ]

-- the names are those of the tags whose number is wanted
names_wanted : (want : Wanted) (tags : List Tag) (name : List ℕ) → IsStrictlySortedBy (slice_cmp nat_cmp) (tag_names tags)
    → has_name (wanted_tags want tags) name ≡ option_map_or (is_wanted_number want) (tag_usn tags name) false
unfolding IsStrictlySortedBy
names_wanted want [] name ordered = refl
names_wanted want (tag ∷ more) name ordered =
    let rest = filter (λ (tag : Tag). is_wanted_number want tag.usn) more in
    elim (is_same tag.name name) as (λ b. is_same tag.name name ≡ b → has_name (wanted_tags want (tag ∷ more)) name ≡ option_map_or (is_wanted_number want) (if b then Some tag.usn else tag_usn more name) false) [
      | true ↦ λ is. elim (is_wanted_number want tag.usn) as (λ b. has_name (map (λ (tag : Tag). tag.name) (if b then tag ∷ rest else rest)) name ≡ b) [
        | true ↦ ap (λ b. b || has_name (wanted_tags want more) name) is
        | false ↦ not_among want name more (subst (λ (n : List ℕ). IsBelow n (tag_names more)) ((bytes_decides tag.name name).0 is) ordered.0)
      ]
      | false ↦ λ apart. elim (is_wanted_number want tag.usn) as (λ b. has_name (map (λ (tag : Tag). tag.name) (if b then tag ∷ rest else rest)) name ≡ has_name (wanted_tags want more) name) [
        | true ↦ ap (λ b. b || has_name (wanted_tags want more) name) apart
        | false ↦ refl
      ] ∙ names_wanted want more name ordered.1
    ] refl
    ∙ sym (ap (λ o. option_map_or (is_wanted_number want) o false) (first_number tag more name))

pub unsent_listed : (tags : List Tag) (name : List ℕ) → IsStrictlySortedBy (slice_cmp nat_cmp) (tag_names tags) → has_name (wanted_tags Unsent tags) name ≡ unsent_tags tags name
unsent_listed tags name ordered = names_wanted Unsent tags name ordered

pub from_listed : (usn : ℤ) (tags : List Tag) (name : List ℕ) → IsStrictlySortedBy (slice_cmp nat_cmp) (tag_names tags) → has_name (wanted_tags (From usn) tags) name ≡ tags_from usn tags name
from_listed usn tags name ordered = names_wanted (From usn) tags name ordered

named_in_range : (want : Wanted) (tags : List Tag) → AllByRecursion IsTagInRange tags → AllByRecursion IsTagName (wanted_tags want tags)
named_in_range want [] fits = tt
named_in_range want (tag ∷ more) fits =
    let rest = filter (λ (tag : Tag). is_wanted_number want tag.usn) more in
    elim (is_wanted_number want tag.usn) as (λ b. AllByRecursion IsTagName (map (λ (tag : Tag). tag.name) (if b then tag ∷ rest else rest))) [
      | true ↦ (record { some = fits.0.some; short = fits.0.short }, named_in_range want more fits.1)
      | false ↦ named_in_range want more fits.1
    ]

pub wanted_in_range : (want : Wanted) (tags : List Tag) → All IsTagInRange tags → All IsTagName (wanted_tags want tags)
wanted_in_range want tags fits = All-from_recursion IsTagName (wanted_tags want tags) (named_in_range want tags (recursion_from_All IsTagInRange tags fits))

-- ---- parts
-- to take all names is to take the rest after the front
pub tag_parts_add_up : (usn : ℤ) (front rest : List (List ℕ)) (tags : List Tag) → tags_taken usn (front ++ rest) tags ≡ tags_taken usn rest (tags_taken usn front tags)
tag_parts_add_up usn [] rest tags = refl
tag_parts_add_up usn (name ∷ more) rest tags = tag_parts_add_up usn more rest (tag_taken usn name tags)

-- ---- settled
pub settled_names : (usn : ℤ) (tags : List Tag) → tag_names (settled_tags usn tags) ≡ tag_names tags
settled_names usn [] = refl
settled_names usn (tag ∷ more) = ap (λ (names : List (List ℕ)). tag.name ∷ names) (settled_names usn more)

pub settled_order : (usn : ℤ) (tags : List Tag) → IsStrictlySortedBy (slice_cmp nat_cmp) (tag_names tags) → IsStrictlySortedBy (slice_cmp nat_cmp) (tag_names (settled_tags usn tags))
settled_order usn tags ordered = subst (λ (names : List (List ℕ)). IsStrictlySortedBy (slice_cmp nat_cmp) names) (sym (settled_names usn tags)) ordered

settled_within : (usn number : ℤ) → IsWithin (pos 0) last_usn usn → IsWithin (negsuc 0) last_usn number → IsWithin (negsuc 0) last_usn (settled_number usn number)
settled_within usn number within own =
    elim (int_eq number (negsuc 0)) as (λ b. IsWithin (negsuc 0) last_usn (if b then usn else number)) [
      | true ↦ record { low = omega (arith, ints, within.low); high = within.high }
      | false ↦ own
    ]

each_settled : (usn : ℤ) (tags : List Tag) → IsWithin (pos 0) last_usn usn → AllByRecursion IsTagInRange tags → AllByRecursion IsTagInRange (settled_tags usn tags)
each_settled usn [] within fits = tt
each_settled usn (tag ∷ more) within fits = (record { some = fits.0.some; short = fits.0.short; usn = settled_within usn tag.usn within fits.0.usn }, each_settled usn more within fits.1)

pub settled_in_range : (usn : ℤ) (tags : List Tag) → IsWithin (pos 0) last_usn usn → All IsTagInRange tags → All IsTagInRange (settled_tags usn tags)
settled_in_range usn tags within fits = All-from_recursion IsTagInRange (settled_tags usn tags) (each_settled usn tags within (recursion_from_All IsTagInRange tags fits))

-- a tag that stands past the end of a list
abbrev pub no_tag : Tag
no_tag = record { name = []; usn = pos 0 }

-- tags each of which is settled are the settled tags
pub settled_each : (own usn : ℤ) (now before : List Tag) (n : ℕ) → own ≡ usn → length now ≡ length before → length before ≤ n
    → ((k : ℕ) → k < n → get_or now k no_tag ≡ settled_tag own (get_or before k no_tag)) → now ≡ settled_tags usn before
settled_each own usn now before n one same most each =
    ext_get_or no_tag now (settled_tags usn before) (same ∙ sym (length-map before (settled_tag usn)))
    (λ k within. let inside : k < length before = omega (arith, within, same) in each k (omega (arith, inside, most)) ∙ ap (λ (u : ℤ). settled_tag u (get_or before k no_tag)) one ∙ sym (get_or-map (settled_tag usn) before k no_tag no_tag inside))

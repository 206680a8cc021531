-- What is held of tags after some came.
use Rattle.ak_base.specs.Limits.{last_usn}
use Rattle.std.specs.Prelude.{◌≡◌, ℕ, ℤ, negsuc, Bool, true, false, ◌||◌, ◌==◌, T, if◌then◌else◌, List, [], ◌∷◌, find, Option, Some, None, is_some}
use Rattle.std.proofs.Common.{refl, sym, ap, subst, ◌∙◌}
use Rattle.std.proofs.lemmas.Cmp.{nat_list_cmp_total}
use Rattle.std.proofs.lemmas.List.Elements.{recursion_from_All, All-from_recursion}
use Rattle.std.proofs.lemmas.Map.Text.{is_eq-slice_cmp}
use Rattle.std.specs.Cmp.Lexicographic.{pointwise, slice_cmp, bytes_decides}
use Rattle.std.specs.List.{All, AllByRecursion}
use Rattle.std.specs.List.Sorted.{IsStrictlySortedBy}
use Rattle.std.specs.Option.{option_map, option_or}
use Rattle.std.specs.Ordering.{is_lt, is_eq, nat_cmp, ordering_reverse}
use Rattle.std.specs.declared.cmp.Ordering.{Ordering}
use Rattle.std.specs.declared.cmp.Ordering.TheVariants.{Less, Equal, Greater}
use Rattle.ak_base.specs.Heads.{IsWithin, IsTagInRange, tag_names}
use Rattle.ak_base.specs.declared.heads.Tag.{Tag}
use Rattle.ak_merge.specs.Holdings.{tag_usn, has_tag}
use Rattle.ak_merge.specs.Tags.{IsTagName, has_name, with_tag, tag_taken, tags_taken}

-- whether two names are one
abbrev pub is_same : List ℕ → List ℕ → Bool
is_same = pointwise ◌==◌

pub not_both : {X : Type 0} {b : Bool} → b ≡ true → b ≡ false → X
not_both so other = absurd (subst T (sym so ∙ other) tt)

-- ---- one tag more
pub first_number : (tag : Tag) (more : List Tag) (name : List ℕ) → tag_usn (tag ∷ more) name ≡ (if is_same tag.name name then Some tag.usn else tag_usn more name)
first_number tag more name = elim (is_same tag.name name) as (λ b. option_map (λ (tag : Tag). tag.usn) (if b then Some tag else find (λ (tag : Tag). is_same tag.name name) more) ≡ (if b then Some tag.usn else tag_usn more name)) [ true ↦ refl | false ↦ refl ]

pub first_held : (other : Tag) (more : List Tag) (name : List ℕ) → has_tag (other ∷ more) name ≡ false → (is_same other.name name ≡ false) × (has_tag more name ≡ false)
first_held other more name none =
    elim (is_same other.name name) as (λ b. is_same other.name name ≡ b → is_some (if b then Some other.usn else tag_usn more name) ≡ false → (is_same other.name name ≡ false) × (has_tag more name ≡ false)) [
      | true ↦ λ _ none. not_both refl none
      | false ↦ λ is none. (is, none)
    ] refl (ap is_some (sym (first_number other more name)) ∙ none)

-- of two tests that are not both true, the order makes no difference
either_first : (s t : Bool) (x y z : Option ℤ) → (s ≡ true → t ≡ true → s ≡ false) → (if s then x else if t then y else z) ≡ (if t then y else if s then x else z)
either_first true true x y z apart = not_both refl (apart refl refl)
either_first true false x y z apart = refl
either_first false true x y z apart = refl
either_first false false x y z apart = refl

-- the number of each tag, with one tag more that was not held
with_number : (tag : Tag) (tags : List Tag) (name : List ℕ) → has_tag tags tag.name ≡ false → tag_usn (with_tag tag tags) name ≡ (if is_same tag.name name then Some tag.usn else tag_usn tags name)
with_number tag [] name none = first_number tag [] name
with_number tag (other ∷ more) name none =
    elim (is_lt (slice_cmp nat_cmp tag.name other.name)) as (λ b. tag_usn (if b then tag ∷ other ∷ more else other ∷ with_tag tag more) name ≡ (if is_same tag.name name then Some tag.usn else tag_usn (other ∷ more) name)) [
      | true ↦ first_number tag (other ∷ more) name
      | false ↦
          first_number other (with_tag tag more) name
          ∙ ap (λ o. if is_same other.name name then Some other.usn else o) (with_number tag more name (first_held other more tag.name none).1)
          ∙ either_first (is_same other.name name) (is_same tag.name name) (Some other.usn) (Some tag.usn) (tag_usn more name) (λ one two.
          let first : other.name ≡ name = (bytes_decides other.name name).0 one in
          let second : tag.name ≡ name = (bytes_decides tag.name name).0 two in
          ap (is_same other.name) (sym second) ∙ (first_held other more tag.name none).0)
          ∙ ap (λ o. if is_same tag.name name then Some tag.usn else o) (sym (first_number other more name))
    ]

-- ---- the union
held_stays : (own : Option ℤ) (same : Bool) (new : Option ℤ) → is_some own ≡ true → own ≡ option_or own (if same then new else None)
held_stays None same new held = not_both held refl
held_stays (Some number) same new held = refl

new_comes : (own : Option ℤ) (same : Bool) (usn : ℤ) → (same ≡ true → is_some own ≡ false) → (if same then Some usn else own) ≡ option_or own (if same then Some usn else None)
new_comes None true usn none = refl
new_comes None false usn none = refl
new_comes (Some number) true usn none = not_both refl (none refl)
new_comes (Some number) false usn none = refl

same_held : (tags : List Tag) (one name : List ℕ) → is_same one name ≡ true → has_tag tags one ≡ has_tag tags name
same_held tags one name is = ap (has_tag tags) ((bytes_decides one name).0 is)

one_taken : (usn : ℤ) (one : List ℕ) (tags : List Tag) (name : List ℕ) → tag_usn (tag_taken usn one tags) name ≡ option_or (tag_usn tags name) (if is_same one name then Some usn else None)
one_taken usn one tags name =
    elim (has_tag tags one) as (λ b. has_tag tags one ≡ b → tag_usn (if b then tags else with_tag (record { name = one; usn = usn }) tags) name ≡ option_or (tag_usn tags name) (if is_same one name then Some usn else None)) [
      | true ↦ λ held. elim (is_same one name) as (λ s. is_same one name ≡ s → tag_usn tags name ≡ option_or (tag_usn tags name) (if s then Some usn else None)) [
        | true ↦ λ is. held_stays (tag_usn tags name) true (Some usn) (sym (same_held tags one name is) ∙ held)
        | false ↦ λ _. or_none (tag_usn tags name)
      ] refl
      | false ↦ λ none. with_number (record { name = one; usn = usn }) tags name none
          ∙ new_comes (tag_usn tags name) (is_same one name) usn (λ is. sym (same_held tags one name is) ∙ none)
    ] refl
  where
    or_none : (o : Option ℤ) → o ≡ option_or o None
    or_none None = refl
    or_none (Some number) = refl

or_more : (own : Option ℤ) (s t : Bool) (usn : ℤ) → option_or (option_or own (if s then Some usn else None)) (if t then Some usn else None) ≡ option_or own (if s || t then Some usn else None)
or_more (Some number) s t usn = refl
or_more None true t usn = refl
or_more None false t usn = refl

-- the number of each tag once these names came: its own if it was held, else this one if its name came
pub tags_are_united : (usn : ℤ) (names : List (List ℕ)) (tags : List Tag) (name : List ℕ)
    → tag_usn (tags_taken usn names tags) name ≡ option_or (tag_usn tags name) (if has_name names name then Some usn else None)
tags_are_united usn [] tags name = or_none (tag_usn tags name)
  where
    or_none : (o : Option ℤ) → o ≡ option_or o None
    or_none None = refl
    or_none (Some number) = refl
tags_are_united usn (one ∷ more) tags name =
    tags_are_united usn more (tag_taken usn one tags) name
    ∙ ap (λ o. option_or o (if has_name more name then Some usn else None)) (one_taken usn one tags name)
    ∙ or_more (tag_usn tags name) (is_same one name) (has_name more name) usn

-- ---- order
-- a name is below each of these
abbrev pub IsBelow : List ℕ → List (List ℕ) → Type 0
IsBelow name names = AllByRecursion (λ other. slice_cmp nat_cmp name other ≡ Less) names

below_more : (name other : List ℕ) (names : List (List ℕ)) → slice_cmp nat_cmp name other ≡ Less → IsBelow other names → IsBelow name names
below_more name other [] less below = tt
below_more name other (next ∷ names) less below = (nat_list_cmp_total.trans name other next less below.0, below_more name other names less below.1)

below_with : (name : List ℕ) (tag : Tag) (tags : List Tag) → slice_cmp nat_cmp name tag.name ≡ Less → IsBelow name (tag_names tags) → IsBelow name (tag_names (with_tag tag tags))
below_with name tag [] less below = (less, tt)
below_with name tag (other ∷ more) less below =
    elim (is_lt (slice_cmp nat_cmp tag.name other.name)) as (λ b. IsBelow name (tag_names (if b then tag ∷ other ∷ more else other ∷ with_tag tag more))) [
      | true ↦ (less, below)
      | false ↦ (below.0, below_with name tag more less below.1)
    ]

less_of : (r : Ordering) → is_lt r ≡ true → r ≡ Less
less_of Less is = refl
less_of Equal is = not_both is refl
less_of Greater is = not_both is refl

-- two names that are not one, and of which the first is not below the second
other_way : (r : Ordering) → is_lt r ≡ false → is_eq r ≡ false → ordering_reverse r ≡ Less
other_way Less less same = not_both refl less
other_way Equal less same = not_both refl same
other_way Greater less same = refl

over_of : (name other : List ℕ) → is_lt (slice_cmp nat_cmp name other) ≡ false → is_same other name ≡ false → slice_cmp nat_cmp other name ≡ Less
over_of name other not_less apart =
    nat_list_cmp_total.antisymm other name
    ∙ other_way (slice_cmp nat_cmp name other) not_less (elim (is_eq (slice_cmp nat_cmp name other)) as (λ b. is_eq (slice_cmp nat_cmp name other) ≡ b → b ≡ false) [
      | true ↦ λ is. let same : name ≡ other = (bytes_decides name other).0 (sym (is_eq-slice_cmp name other) ∙ is) in
          not_both ((bytes_decides other name).1 (sym same)) apart
      | false ↦ λ _. refl
    ] refl)

ordered_with : (tag : Tag) (tags : List Tag) → has_tag tags tag.name ≡ false → IsStrictlySortedBy (slice_cmp nat_cmp) (tag_names tags) → IsStrictlySortedBy (slice_cmp nat_cmp) (tag_names (with_tag tag tags))
unfolding IsStrictlySortedBy
ordered_with tag [] none ordered = (tt, tt)
ordered_with tag (other ∷ more) none ordered =
    elim (is_lt (slice_cmp nat_cmp tag.name other.name)) as (λ b. is_lt (slice_cmp nat_cmp tag.name other.name) ≡ b → IsStrictlySortedBy (slice_cmp nat_cmp) (tag_names (if b then tag ∷ other ∷ more else other ∷ with_tag tag more))) [
      | true ↦ λ is. let less = less_of (slice_cmp nat_cmp tag.name other.name) is in ((less, below_more tag.name other.name (tag_names more) less ordered.0), ordered)
      | false ↦ λ is. (below_with other.name tag more (over_of tag.name other.name is (first_held other more tag.name none).0) ordered.0, ordered_with tag more (first_held other more tag.name none).1 ordered.1)
    ] refl

one_ordered : (usn : ℤ) (name : List ℕ) (tags : List Tag) → IsStrictlySortedBy (slice_cmp nat_cmp) (tag_names tags) → IsStrictlySortedBy (slice_cmp nat_cmp) (tag_names (tag_taken usn name tags))
one_ordered usn name tags ordered =
    elim (has_tag tags name) as (λ b. has_tag tags name ≡ b → IsStrictlySortedBy (slice_cmp nat_cmp) (tag_names (if b then tags else with_tag (record { name = name; usn = usn }) tags))) [
      | true ↦ λ _. ordered
      | false ↦ λ none. ordered_with (record { name = name; usn = usn }) tags none ordered
    ] refl

-- the names stay distinct and ascend by bytes
pub tags_stay_ordered : (usn : ℤ) (names : List (List ℕ)) (tags : List Tag) → IsStrictlySortedBy (slice_cmp nat_cmp) (tag_names tags)
    → IsStrictlySortedBy (slice_cmp nat_cmp) (tag_names (tags_taken usn names tags))
tags_stay_ordered usn [] tags ordered = ordered
tags_stay_ordered usn (name ∷ more) tags ordered = tags_stay_ordered usn more (tag_taken usn name tags) (one_ordered usn name tags ordered)

-- ---- ranges
each_with : (P : Tag → Type 0) (tag : Tag) (tags : List Tag) → P tag → AllByRecursion P tags → AllByRecursion P (with_tag tag tags)
each_with P tag [] one all = (one, tt)
each_with P tag (other ∷ more) one all =
    elim (is_lt (slice_cmp nat_cmp tag.name other.name)) as (λ b. AllByRecursion P (if b then tag ∷ other ∷ more else other ∷ with_tag tag more)) [
      | true ↦ (one, all)
      | false ↦ (all.0, each_with P tag more one all.1)
    ]

-- what holds of each tag that is held and of each that comes holds of each that is held then
pub each_taken : (P : Tag → Type 0) (usn : ℤ) (names : List (List ℕ)) (tags : List Tag) → AllByRecursion (λ name. P (record { name = name; usn = usn })) names → AllByRecursion P tags
    → AllByRecursion P (tags_taken usn names tags)
each_taken P usn [] tags came all = all
each_taken P usn (name ∷ more) tags came all =
    each_taken P usn more (tag_taken usn name tags) came.1
    (elim (has_tag tags name) as (λ b. AllByRecursion P (if b then tags else with_tag (record { name = name; usn = usn }) tags)) [
      | true ↦ all
      | false ↦ each_with P (record { name = name; usn = usn }) tags came.0 all
    ])

pub weaker_all : {A : Type 0} (P Q : A → Type 0) → ((x : A) → P x → Q x) → (xs : List A) → AllByRecursion P xs → AllByRecursion Q xs
weaker_all P Q weaker [] all = tt
weaker_all P Q weaker (x ∷ xs) all = (weaker x all.0, weaker_all P Q weaker xs all.1)

-- the tags stay in their ranges
pub tags_stay_in_range : (usn : ℤ) (names : List (List ℕ)) (tags : List Tag) → All IsTagName names → IsWithin (negsuc 0) last_usn usn → All IsTagInRange tags
    → All IsTagInRange (tags_taken usn names tags)
tags_stay_in_range usn names tags named within all =
    All-from_recursion IsTagInRange (tags_taken usn names tags)
    (each_taken IsTagInRange usn names tags
    (weaker_all IsTagName (λ name. IsTagInRange (record { name = name; usn = usn })) (λ name is. record { some = is.some; short = is.short; usn = within }) names (recursion_from_All IsTagName names named))
    (recursion_from_All IsTagInRange tags all))

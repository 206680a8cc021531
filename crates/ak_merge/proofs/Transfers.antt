-- What an upload leaves on a server.
use Rattle.ak_base.proofs.RowFacts.{usn_of-with_usn}
use Rattle.ak_base.specs.Heads.{IsTagInRange, IsMoment, IsConfInRange, IsHeadInRange, IsWithin, tag_names}
use Rattle.ak_base.specs.Limits.{last_stamp}
use Rattle.ak_base.specs.Names.{names_total}
use Rattle.ak_base.specs.Rows.{IsChecked, buried_of, name_of, usn_of, with_usn}
use Rattle.ak_base.specs.Tables.{graves_of}
use Rattle.ak_base.specs.declared.heads.Tag.{Tag}
use Rattle.ak_base.specs.declared.names.Name.{Name}
use Rattle.ak_base.specs.declared.names.Table.{Table}
use Rattle.ak_base.specs.declared.rows.Row.{Row}
use Rattle.ak_base.specs.declared.rows.Row.TheVariants as rows
use Rattle.ak_keep.proofs.RowsByName.{all_find, named-get, named-rows_of}
use Rattle.ak_keep.specs.Collections.{Collection, Rows, rows_of}
use Rattle.ak_merge.proofs.CheckedRows.{checked_with_usn}
use Rattle.ak_merge.proofs.CommitLaws.{when_some}
use Rattle.ak_merge.proofs.FirstLinks.{openings_are_lawful}
use Rattle.ak_merge.proofs.TagLaws.{tags_are_united, tags_stay_ordered, tags_stay_in_range}
use Rattle.ak_merge.proofs.TakingLaws.{buries, grave_in, its_grave}
use Rattle.ak_merge.specs.Commits.{Settings, Whole, IsUploadOf, IsWholeInRange, IsCommitted, uploaded_rows}
use Rattle.ak_merge.specs.Edits.{Reversal}
use Rattle.ak_keep.specs.Graves.{is_dead}
use Rattle.ak_merge.specs.Holdings.{AreNamed, AreChecked, tag_usn}
use Rattle.ak_merge.specs.Links.{AreLinked}
use Rattle.ak_merge.specs.Tags.{has_name, tags_taken}
use Rattle.ak_merge.specs.Undoing.{StepFits}
use Rattle.std.proofs.lemmas.List.Elements.{recursion_from_All, All-from_recursion}
use Rattle.std.specs.Cmp.Lexicographic.{slice_cmp}
use Rattle.std.specs.FinMap.{get, get-from_entries}
use Rattle.std.specs.List.{All, AllByRecursion}
use Rattle.std.specs.List.Sorted.{IsStrictlySortedBy}
use Rattle.std.specs.Ordering.{nat_cmp}
use Rattle.std.specs.Prelude.{◌≡◌, ℕ, ℤ, pos, ◌≤ℤ◌, Bool, true, false, not, is_some, if◌then◌else◌, IfSome, T, List, [], ◌∷◌, map, filter, Option, Some, None, ◌⊎◌}
use Rattle.std.proofs.Common.{refl, sym, subst, ◌∙◌, inl, inr, arith}
use Rattle.std.proofs.lemmas.Int.{ints}

-- ---- rows
each_entry : (P : Row → Type 0) (xs : List Row) → AllByRecursion P xs → AllByRecursion (λ (entry : Name × Row). P entry.1) (map (λ (row : Row). (name_of row, row)) xs)
each_entry P [] all = tt
each_entry P (row ∷ more) all = (all.0, each_entry P more all.1)

-- what holds of each of these rows holds of whatever stands there
each_of_rows : (P : Row → Type 0) (xs : List Row) → AllByRecursion P xs → (name : Name) (row : Row) → get (rows_of xs) name ≡ Some row → P row
each_of_rows P xs all name row is =
    all_find (λ (entry : Name × Row). P entry.1) name row (map (λ (row : Row). (name_of row, row)) xs) (each_entry P xs all) (sym (get-from_entries names_total (map (λ (row : Row). (name_of row, row)) xs) name) ∙ is)

-- what holds under the number 0 of each row that came and is no grave holds of each that is held
each_uploaded : (P Q : Row → Type 0) → ((row : Row) → P row → not (is_some (buried_of row)) ≡ true → Q (with_usn row (pos 0))) → (came : List Row) → AllByRecursion P came → AllByRecursion Q (uploaded_rows came)
each_uploaded P Q so [] all = tt
each_uploaded P Q so (row ∷ more) all =
    elim (not (is_some (buried_of row))) as (λ b. not (is_some (buried_of row)) ≡ b
    → AllByRecursion Q (map (λ (row : Row). with_usn row (pos 0)) (if b then row ∷ filter (λ (row : Row). not (is_some (buried_of row))) more else filter (λ (row : Row). not (is_some (buried_of row))) more))) [
      | true ↦ λ is. (so row all.0 is, each_uploaded P Q so more all.1)
      | false ↦ λ _. each_uploaded P Q so more all.1
    ] refl

all_true : (xs : List Row) → AllByRecursion (λ (row : Row). Unit {0}) xs
all_true [] = tt
all_true (row ∷ more) = (tt, all_true more)

uploaded_usn : (came : List Row) → AllByRecursion (λ (row : Row). usn_of row ≡ pos 0) (uploaded_rows came)
uploaded_usn came = each_uploaded (λ (row : Row). Unit {0}) (λ (row : Row). usn_of row ≡ pos 0) (λ row _ _. usn_of-with_usn row (pos 0)) came (all_true came)

buries_none : (row : Row) (usn : ℤ) → not (is_some (buried_of row)) ≡ true → (name : Name) → buries (with_usn row usn) name ≡ false
buries_none (rows.Note n) usn is name = refl
buries_none (rows.Card c) usn is name = refl
buries_none (rows.Review r) usn is name = refl
buries_none (rows.NoteType t) usn is name = refl
buries_none (rows.Deck d) usn is name = refl
buries_none (rows.Options o) usn is name = refl
buries_none (rows.Grave g) usn is name = absurd (subst (λ (b : Bool). T (not b)) is tt)

uploaded_graves : (came : List Row) → AllByRecursion (λ (row : Row). (name : Name) → buries row name ≡ false) (uploaded_rows came)
uploaded_graves came = each_uploaded (λ (row : Row). Unit {0}) (λ (row : Row). (name : Name) → buries row name ≡ false) (λ row _ is. buries_none row (pos 0) is) came (all_true came)

uploaded_checked : (came : List Row) → All IsChecked came → AllByRecursion IsChecked (uploaded_rows came)
uploaded_checked came checked =
    each_uploaded IsChecked IsChecked (λ row fits _. checked_with_usn row (pos 0) (omega (arith, ints)) (omega (arith, ints)) fits) came (recursion_from_All IsChecked came checked)

rows_named : (xs : List Row) → AreNamed (get (rows_of xs))
rows_named xs name row is = named-get (rows_of xs) name row (named-rows_of xs) is

-- no grave is held
no_grave : (came : List Row) (name : Name) (graves : Option Table) → graves_of name.table ≡ graves → is_some (grave_in (get (rows_of (uploaded_rows came))) name graves) ≡ false
no_grave came name None is = refl
no_grave came name (Some graves) is =
    let grave : Name = record { table = graves; id = name.id } in
    elim (get (rows_of (uploaded_rows came)) grave) as (λ o. get (rows_of (uploaded_rows came)) grave ≡ o → is_some o ≡ false) [
      | None ↦ λ _. refl
      | Some row ↦ λ held.
          let none : buries row name ≡ false = each_of_rows (λ (row : Row). (name : Name) → buries row name ≡ false) (uploaded_rows came) (uploaded_graves came) grave row held name in
          let one : buries row name ≡ true = its_grave row name graves is (sym (rows_named (uploaded_rows came) grave row held)) in
          sym one ∙ none
    ] refl

-- ---- tags
uploaded_tag : (names : List (List ℕ)) (name : List ℕ) → IfSome (tag_usn (tags_taken (pos 0) names []) name) (λ number. number ≡ pos 0)
uploaded_tag names name =
    subst (λ (o : Option ℤ). IfSome o (λ number. number ≡ pos 0)) (sym (tags_are_united (pos 0) names [] name))
    (elim (has_name names name) as (λ b. IfSome (if b then Some (pos 0) else None) (λ number. number ≡ pos 0)) [ true ↦ refl | false ↦ tt ])

none_ordered : IsStrictlySortedBy (slice_cmp nat_cmp) (tag_names [])
unfolding IsStrictlySortedBy
none_ordered = tt

-- ---- lawful
head_in_range : (came : Whole) (s t : Collection) → IsUploadOf came s t → IsWholeInRange came t.head.schema t.head.moment → IsHeadInRange s.head → IsHeadInRange t.head
head_in_range came s t upload fits own = record {
  crt = subst (λ (settings : Settings). IsWithin (pos 0) last_stamp settings.crt) (sym upload.settings) fits.crt;
  moment = fits.moment;
  schema = fits.schema;
  usn = record { low = omega (arith, ints, upload.usn); high = omega (arith, ints, upload.usn) };
  last_sync = subst IsMoment (sym upload.last_sync) own.last_sync;
  conf = subst (λ (settings : Settings). IsConfInRange settings.conf) (sym upload.settings) fits.conf;
  tags = subst (All IsTagInRange) (sym upload.tags)
      (tags_stay_in_range (pos 0) came.tags [] fits.tags (record { low = omega (arith, ints); high = omega (arith, ints) }) (All-from_recursion IsTagInRange [] tt));
  ascending = subst (λ (tags : List Tag). IsStrictlySortedBy (slice_cmp nat_cmp) (tag_names tags)) (sym upload.tags) (tags_stay_ordered (pos 0) came.tags [] none_ordered);
}

-- what an upload in its ranges leaves is what a server may hold
pub uploads_are_lawful : (came : Whole) (s t : Collection) → IsUploadOf came s t → IsWholeInRange came t.head.schema t.head.moment → IsCommitted s → IsCommitted t
uploads_are_lawful came s t upload fits kept =
    let held = uploaded_rows came.rows in
    openings_are_lawful t
    (subst (λ (rows : Rows). AreNamed (get rows)) (sym upload.rows) (rows_named held))
    (subst (λ (rows : Rows). AreChecked (get rows)) (sym upload.rows) (each_of_rows IsChecked held (uploaded_checked came.rows fits.rows)))
    (head_in_range came s t upload fits kept.head)
    (record {
      rows = λ name. subst (λ (rows : Rows). IfSome (get rows name) (λ row. usn_of row ≡ pos 0)) (sym upload.rows)
          (when_some (λ row. usn_of row ≡ pos 0) (get (rows_of held) name) (each_of_rows (λ (row : Row). usn_of row ≡ pos 0) held (uploaded_usn came.rows) name));
      tags = λ name. subst (λ (tags : List Tag). IfSome (tag_usn tags name) (λ number. number ≡ pos 0)) (sym upload.tags) (uploaded_tag came.tags name);
      graves = λ name. subst (λ (rows : Rows). is_dead (get rows) name ≡ false) (sym upload.rows) (no_grave came.rows name (graves_of name.table) refl);
      usn = upload.usn;
    })

-- ---- links
other_schema : (came : Whole) (c s t : Collection) → IsUploadOf came s t → (c.head.schema ≤ℤ s.head.schema) ⊎ (c.head.schema ≤ℤ came.schema) → c.head.schema ≡ t.head.schema → ⊥
other_schema came c s t upload (inl most) same = omega (arith, ints, most, same, upload.schema)
other_schema came c s t upload (inr most) same = omega (arith, ints, most, same, upload.their_schema)

-- a device of a schema moment that is at most one of the two is linked then
pub uploads_link : (came : Whole) (c s t : Collection) → IsUploadOf came s t → (c.head.schema ≤ℤ s.head.schema) ⊎ (c.head.schema ≤ℤ came.schema) → AreLinked c t
uploads_link came c s t upload most = inl (other_schema came c s t upload most)

pub uploads_fit : (came : Whole) (c s t : Collection) (step : Reversal) → IsUploadOf came s t → (c.head.schema ≤ℤ s.head.schema) ⊎ (c.head.schema ≤ℤ came.schema) → StepFits c step t
uploads_fit came c s t step upload most = inl (other_schema came c s t upload most)

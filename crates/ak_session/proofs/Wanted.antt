-- The rows that a side gives: they stand there, and each that still stands in the end is among them.
use Rattle.std.specs.Prelude.{◌≡◌, ◌≢◌, zero, suc, ℤ, pos, ◌≤ℤ◌, IsTrue, IfSome, List, [], ◌∷◌, ◌++◌, length, Option, Some, None}
use Rattle.std.specs.FinMap.{get, entries}
use Rattle.std.specs.List.{AllByRecursion, Contains}
use Rattle.std.proofs.Common.{refl, sym, ap, subst, ◌∙◌, arith}
use Rattle.std.proofs.lemmas.List.Elements.{Contains-append_left, Contains-append_right, All-from_recursion}
use Rattle.std.proofs.lemmas.List.{take_all}
use Rattle.std.proofs.lemmas.Option.{none-some}
use Rattle.ak_base.specs.Rows.{IsChecked, name_of, usn_of}
use Rattle.ak_base.specs.declared.names.Name.{Name}
use Rattle.ak_base.specs.declared.names.Table.{Table}
use Rattle.ak_base.specs.declared.names.Table.TheVariants as tables
use Rattle.ak_base.specs.declared.rows.Row.{Row}
use Rattle.ak_keep.proofs.Paging.{wanted_page-ascends}
use Rattle.ak_keep.proofs.RowsByName.{entries_found}
use Rattle.ak_keep.specs.Collections.{Rows, AscendsPast, is_wanted, wanted_past}
use Rattle.ak_keep.specs.declared.keepers.Wanted.{Wanted}
use Rattle.ak_keep.specs.declared.keepers.Wanted.TheVariants.{Unsent}
use Rattle.ak_merge.proofs.ExchangeCells.{only_wanted, only_is, is_only}
use Rattle.ak_merge.proofs.PartLaws.{wanted_rows_are_listed, rows_stand_between, pending_was_held}
use Rattle.ak_merge.proofs.TakingLaws.{all_taken_at, received_by, newest_in, each_newest}
use Rattle.ak_merge.specs.Exchanges.{StandsWanted, wanted_under, IsSent}
use Rattle.ak_keep.specs.Graves.{grave_under}
use Rattle.ak_merge.specs.Holdings.{AreNamed, AreChecked}
use Rattle.ak_merge.specs.Takings.{all_taken}
use Rattle.ak_session.specs.Slices.{wanted_of, wanted_graves, wanted_changes, wanted_in_chunks}
use Rattle.ak_session.proofs.InOrder.{InThree}
use Rattle.ak_session.proofs.Ranges.{all_append}
use Rattle.ak_merge.specs.declared.sides.Side.{Side}

-- ---- what a list of wanted rows has
-- what holds of each element of a list
from_contains : (P : Row → Type 0) (xs : List Row) → ((x : Row) → Contains xs x → P x) → AllByRecursion P xs
from_contains P [] all = tt
from_contains P (x ∷ xs) all = (all x (zero, omega arith, refl), from_contains P xs (λ y has. all y (there y has)))
  where
    there : (y : Row) → Contains xs y → Contains (x ∷ xs) y
    there y (k, within, is) = (suc k, omega (arith, within), is)

-- a row of this table that is wanted, stands under its name and passes its check
pub record Stands (table : Table) (want : Wanted) (held : Rows) (row : Row) : Type 0 where
  pub of_table : (name_of row).table ≡ table
  pub wanted : IsTrue (is_wanted want row)
  pub stands : get held (name_of row) ≡ Some row
  pub checked : IsChecked row

pub all_stand : (table : Table) (want : Wanted) (held : Rows) → AreNamed (get held) → AreChecked (get held) → AllByRecursion (Stands table want held) (wanted_past table want (pos 0) held)
all_stand table want held named checked =
    from_contains (Stands table want held) (wanted_past table want (pos 0) held) (λ row has.
    let one : StandsWanted table want held row = (wanted_rows_are_listed table want held row named checked).0 has in
    record { of_table = one.of_table; wanted = one.wanted; stands = one.stands; checked = checked (name_of row) row one.stands })

pub three_stand : (one two three : Table) (want : Wanted) (held : Rows) → AreNamed (get held) → AreChecked (get held)
    → InThree (Stands one want held) (Stands two want held) (Stands three want held) (wanted_of one two three want held)
three_stand one two three want held named checked = record {
  first = wanted_past one want (pos 0) held;
  second = wanted_past two want (pos 0) held;
  third = wanted_past three want (pos 0) held;
  is = refl;
  ones = all_stand one want held named checked;
  twos = all_stand two want held named checked;
  threes = all_stand three want held named checked;
}

pub weaker : (P Q : Row → Type 0) → ((row : Row) → P row → Q row) → (xs : List Row) → AllByRecursion P xs → AllByRecursion Q xs
weaker P Q so [] all = tt
weaker P Q so (x ∷ xs) all = (so x all.0, weaker P Q so xs all.1)

pub three_weaker : (P Q R P' Q' R' : Row → Type 0) → ((row : Row) → P row → P' row) → ((row : Row) → Q row → Q' row) → ((row : Row) → R row → R' row) → (list : List Row) → InThree P Q R list → InThree P' Q' R' list
three_weaker P Q R P' Q' R' one two three list own = record {
  first = own.first;
  second = own.second;
  third = own.third;
  is = own.is;
  ones = weaker P P' one own.first own.ones;
  twos = weaker Q Q' two own.second own.twos;
  threes = weaker R R' three own.third own.threes;
}

-- what holds of the rows of three kinds holds of all
pub all_of_three : (P : Row → Type 0) (list : List Row) → InThree P P P list → AllByRecursion P list
all_of_three P list own = subst (AllByRecursion P) (sym own.is) (all_append P own.first (own.second ++ own.third) own.ones (all_append P own.second own.third own.twos own.threes))

-- ---- what stood before
kept_cell : (side : Side) (usn : ℤ) (x g h : Option Row) (row : Row) → received_by side usn x g None h ≡ Some row → x ≡ Some row
kept_cell side usn x g (Some h) row is = absurd (none-some row is)
kept_cell side usn x (Some g) None row is = is
kept_cell side usn None None None row is = is
kept_cell side usn (Some x) None None row is = is

none_newest : (name : Name) (o : Option Row) → IfSome o (λ (row : Row). (name_of row ≢ name) × (name_of row ≡ name)) → o ≡ None
none_newest name None all = refl
none_newest name (Some row) all = absurd (all.0 all.1)

-- a row whose name is that of none that came stood before
pub others_were_held : (side : Side) (usn : ℤ) (came : List Row) (held : Rows) (name : Name) (row : Row) → AllByRecursion (λ (other : Row). name_of other ≢ name) came
    → get (all_taken side usn came held) name ≡ Some row → get held name ≡ Some row
others_were_held side usn came held name row differ is =
    let none : newest_in side came name ≡ None = none_newest name (newest_in side came name) (each_newest side (λ (other : Row). name_of other ≢ name) came name differ) in
    kept_cell side usn (get held name) (grave_under (get held) name) (grave_under (newest_in side came) name) row
    (ap (λ (o : Option Row). received_by side usn (get held name) (grave_under (get held) name) o (grave_under (newest_in side came) name)) (sym none) ∙ sym (all_taken_at side usn came held name) ∙ is)

-- ---- what a side gives while rows come to it
-- a front of the rows that come, after which each row stands under its name and passes its check
pub record IsFront (side : Side) (usn : ℤ) (held : Rows) (came front : List Row) : Type 0 where
  pub rest : List Row
  pub is : front ++ rest ≡ came
  pub named : AreNamed (get (all_taken side usn front held))
  pub checked : AreChecked (get (all_taken side usn front held))

only_held : (want : Wanted) (o : Option Row) (row : Row) → only_wanted want o ≡ Some row → (o ≡ Some row) × IsTrue (is_wanted want row)
only_held want None row is = absurd (none-some row is)
only_held want (Some x) row is = let one = only_is want x row is in (ap (λ (r : Row). Some r) one.0, subst (λ (r : Row). IsTrue (is_wanted want r)) one.0 one.1)

whole_at : (side : Side) (usn : ℤ) (want : Wanted) (held : Rows) (came front : List Row) (table : Table) (row : Row) → IsFront side usn held came front → (name_of row).table ≡ table → IsTrue (is_wanted want row)
    → usn_of row ≢ usn → get (all_taken side usn came held) (name_of row) ≡ Some row → Contains (wanted_past table want (pos 0) (all_taken side usn front held)) row
whole_at side usn want held came front table row own is wanted differ after =
    (wanted_rows_are_listed table want (all_taken side usn front held) row own.named own.checked).1 (record {
      of_table = is;
      wanted = wanted;
      stands = rows_stand_between side usn front own.rest held (name_of row) row differ (ap (λ (l : List Row). get (all_taken side usn l held) (name_of row)) own.is ∙ after);
    })

-- what a side gives: graves after a front, changes after another, rows in chunks after a third
abbrev pub all_wanted : Wanted → Rows → Rows → Rows → List Row
all_wanted want one two three = wanted_graves want one ++ (wanted_changes want two ++ wanted_in_chunks want three)

module _ (one two three : Table) (want : Wanted) (held : Rows) (row : Row) where
  in_first : Contains (wanted_past one want (pos 0) held) row → Contains (wanted_of one two three want held) row
  in_first has = Contains-append_left (wanted_past one want (pos 0) held) (wanted_past two want (pos 0) held ++ wanted_past three want (pos 0) held) row has

  in_second : Contains (wanted_past two want (pos 0) held) row → Contains (wanted_of one two three want held) row
  in_second has =
      Contains-append_right (wanted_past one want (pos 0) held) (wanted_past two want (pos 0) held ++ wanted_past three want (pos 0) held) row
      (Contains-append_left (wanted_past two want (pos 0) held) (wanted_past three want (pos 0) held) row has)

  in_third : Contains (wanted_past three want (pos 0) held) row → Contains (wanted_of one two three want held) row
  in_third has =
      Contains-append_right (wanted_past one want (pos 0) held) (wanted_past two want (pos 0) held ++ wanted_past three want (pos 0) held) row
      (Contains-append_right (wanted_past two want (pos 0) held) (wanted_past three want (pos 0) held) row has)

module _ (want : Wanted) (a b c : Rows) (row : Row) where
  among_graves : Contains (wanted_graves want a) row → Contains (all_wanted want a b c) row
  among_graves has = Contains-append_left (wanted_graves want a) (wanted_changes want b ++ wanted_in_chunks want c) row has

  among_changes : Contains (wanted_changes want b) row → Contains (all_wanted want a b c) row
  among_changes has =
      Contains-append_right (wanted_graves want a) (wanted_changes want b ++ wanted_in_chunks want c) row
      (Contains-append_left (wanted_changes want b) (wanted_in_chunks want c) row has)

  among_chunks : Contains (wanted_in_chunks want c) row → Contains (all_wanted want a b c) row
  among_chunks has =
      Contains-append_right (wanted_graves want a) (wanted_changes want b ++ wanted_in_chunks want c) row
      (Contains-append_right (wanted_changes want b) (wanted_in_chunks want c) row has)

-- each wanted row that stands in the end with another number than the one that rows are taken with is given
given_at : (side : Side) (usn : ℤ) (want : Wanted) (held : Rows) (came one two three : List Row) (row : Row) → IsFront side usn held came one → IsFront side usn held came two → IsFront side usn held came three
    → IsTrue (is_wanted want row) → usn_of row ≢ usn → get (all_taken side usn came held) (name_of row) ≡ Some row → (table : Table) → (name_of row).table ≡ table
    → Contains (all_wanted want (all_taken side usn one held) (all_taken side usn two held) (all_taken side usn three held)) row
given_at side usn want held came one two three row first second third wanted differ after table is = by_table table is
  where
    by_table : (table : Table) → (name_of row).table ≡ table → Contains (all_wanted want (all_taken side usn one held) (all_taken side usn two held) (all_taken side usn three held)) row
    by_table tables.NoteGrave is =
        among_graves want (all_taken side usn one held) (all_taken side usn two held) (all_taken side usn three held) row (in_first tables.NoteGrave tables.CardGrave tables.DeckGrave want (all_taken side usn one held) row
        (whole_at side usn want held came one tables.NoteGrave row first is wanted differ after))
    by_table tables.CardGrave is =
        among_graves want (all_taken side usn one held) (all_taken side usn two held) (all_taken side usn three held) row (in_second tables.NoteGrave tables.CardGrave tables.DeckGrave want (all_taken side usn one held) row
        (whole_at side usn want held came one tables.CardGrave row first is wanted differ after))
    by_table tables.DeckGrave is =
        among_graves want (all_taken side usn one held) (all_taken side usn two held) (all_taken side usn three held) row (in_third tables.NoteGrave tables.CardGrave tables.DeckGrave want (all_taken side usn one held) row
        (whole_at side usn want held came one tables.DeckGrave row first is wanted differ after))
    by_table tables.NoteType is =
        among_changes want (all_taken side usn one held) (all_taken side usn two held) (all_taken side usn three held) row (in_first tables.NoteType tables.Deck tables.Options want (all_taken side usn two held) row
        (whole_at side usn want held came two tables.NoteType row second is wanted differ after))
    by_table tables.Deck is =
        among_changes want (all_taken side usn one held) (all_taken side usn two held) (all_taken side usn three held) row (in_second tables.NoteType tables.Deck tables.Options want (all_taken side usn two held) row
        (whole_at side usn want held came two tables.Deck row second is wanted differ after))
    by_table tables.Options is =
        among_changes want (all_taken side usn one held) (all_taken side usn two held) (all_taken side usn three held) row (in_third tables.NoteType tables.Deck tables.Options want (all_taken side usn two held) row
        (whole_at side usn want held came two tables.Options row second is wanted differ after))
    by_table tables.Review is =
        among_chunks want (all_taken side usn one held) (all_taken side usn two held) (all_taken side usn three held) row (in_first tables.Review tables.Card tables.Note want (all_taken side usn three held) row
        (whole_at side usn want held came three tables.Review row third is wanted differ after))
    by_table tables.Card is =
        among_chunks want (all_taken side usn one held) (all_taken side usn two held) (all_taken side usn three held) row (in_second tables.Review tables.Card tables.Note want (all_taken side usn three held) row
        (whole_at side usn want held came three tables.Card row third is wanted differ after))
    by_table tables.Note is =
        among_chunks want (all_taken side usn one held) (all_taken side usn two held) (all_taken side usn three held) row (in_third tables.Review tables.Card tables.Note want (all_taken side usn three held) row
        (whole_at side usn want held came three tables.Note row third is wanted differ after))

-- what a side gives is all that is wanted of it, if each row that it gives stood before, and none that is wanted has the number that rows
-- are taken with
pub gives_all : (side : Side) (usn : ℤ) (want : Wanted) (held : Rows) (came one two three : List Row) → AreNamed (get held)
    → ((name : Name) (row : Row) → get held name ≡ Some row → IsTrue (is_wanted want row) → usn_of row ≢ usn) → IsFront side usn held came one → IsFront side usn held came two → IsFront side usn held came three
    → AllByRecursion (λ (row : Row). (get held (name_of row) ≡ Some row) × IsTrue (is_wanted want row)) (all_wanted want (all_taken side usn one held) (all_taken side usn two held) (all_taken side usn three held))
    → IsSent (all_wanted want (all_taken side usn one held) (all_taken side usn two held) (all_taken side usn three held)) (wanted_under want (get held)) (get (all_taken side usn came held))
gives_all side usn want held came one two three named differ first second third stood = record {
  each = All-from_recursion (λ (row : Row). wanted_under want (get held) (name_of row) ≡ Some row) (all_wanted want (all_taken side usn one held) (all_taken side usn two held) (all_taken side usn three held))
      (weaker (λ (row : Row). (get held (name_of row) ≡ Some row) × IsTrue (is_wanted want row)) (λ (row : Row). wanted_under want (get held) (name_of row) ≡ Some row)
      (λ row own. ap (only_wanted want) own.0 ∙ is_only want row own.1) (all_wanted want (all_taken side usn one held) (all_taken side usn two held) (all_taken side usn three held)) stood);
  whole = λ name row is after.
      let own = only_held want (get held name) row is in
      let bears : name_of row ≡ name = named name row own.0 in
      given_at side usn want held came one two three row first second third own.1 (differ name row own.0 own.1) (ap (get (all_taken side usn came held)) bears ∙ after) (name_of row).table refl;
}

-- ---- rows that stood before
-- what stands and was not sent yet stood before
pub unsent_stood : (side : Side) (usn : ℤ) (held : Rows) (front : List Row) (table : Table) → pos 0 ≤ℤ usn → (row : Row) → Stands table Unsent (all_taken side usn front held) row
    → (get held (name_of row) ≡ Some row) × IsTrue (is_wanted Unsent row)
unsent_stood side usn held front table low row own = (pending_was_held side usn front held (name_of row) row low own.stands own.wanted, own.wanted)

-- what stands in a table of which nothing came stood before
pub others_stood : (side : Side) (usn : ℤ) (want : Wanted) (held : Rows) (front : List Row) (table : Table) → AllByRecursion (λ (other : Row). (name_of other).table ≢ table) front → (row : Row) → Stands table want (all_taken side usn front held) row
    → (get held (name_of row) ≡ Some row) × IsTrue (is_wanted want row)
others_stood side usn want held front table differ row own = (
  others_were_held side usn front held (name_of row) row
      (weaker (λ (other : Row). (name_of other).table ≢ table) (λ (other : Row). name_of other ≢ name_of row) (λ other apart same. apart (ap (λ (n : Name). n.table) same ∙ own.of_table)) front differ) own.stands,
  own.wanted,
)

-- ---- each once
each_named : (held : Rows) → AreNamed (get held) → (es : List (Name × Row)) → AllByRecursion (λ (entry : Name × Row). get held entry.0 ≡ Some entry.1) es → AllByRecursion (λ (entry : Name × Row). name_of entry.1 ≡ entry.0) es
each_named held named [] all = tt
each_named held named (entry ∷ more) all = (named entry.0 entry.1 all.0, each_named held named more all.1)

pub parts_ascend : (table : Table) (want : Wanted) (held : Rows) → AreNamed (get held) → AscendsPast table (pos 0) (wanted_past table want (pos 0) held)
parts_ascend table want held named =
    let list : List Row = wanted_past table want (pos 0) held in
    wanted_page-ascends (is_wanted want) table (pos 0) held (length list) list (each_named held named (entries held) (entries_found held)) (sym (take_all (length list) list (omega arith)))

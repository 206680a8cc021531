-- How many graves a device may have to send: their ids differ, and each is at most the last one.
use Rattle.std.specs.List.{AllByRecursion}
use Rattle.std.specs.Prelude.{◌≡◌, ◌≤◌, ◌||◌, ℕ, suc, ℤ, pos, ◌+ℤ◌, ◌≤ℤ◌, ◌==◌, int_lt, Bool, true, false, if◌then◌else◌, IsTrue, List, [], ◌∷◌, ◌++◌, map, filter, length, None, Some}
use Rattle.std.specs.Cmp.{second_so}
use Rattle.std.specs.FinMap.{entries, get}
use Rattle.std.proofs.Common.{refl, arith}
use Rattle.std.proofs.lemmas.Int.{ints}
use Rattle.std.proofs.lemmas.List.{length-append}
use Rattle.ak_base.specs.Cards.{place_faults, schedule_faults, mark_faults}
use Rattle.ak_base.specs.Columns.{id_fault}
use Rattle.ak_base.specs.Decks.{title_faults as deck_titles, taken_faults}
use Rattle.ak_base.specs.Graves.{grave_faults}
use Rattle.ak_base.specs.Limits.{last_id}
use Rattle.ak_base.specs.NoteTypes.{title_faults as type_titles, form_faults}
use Rattle.ak_base.specs.Notes.{identity_faults, content_faults}
use Rattle.ak_base.specs.OptionGroups.{general_faults, new_faults, rev_faults, lapse_faults}
use Rattle.ak_base.specs.Reviews.{review_faults}
use Rattle.ak_base.specs.Rows.{IsChecked, name_of}
use Rattle.ak_base.specs.declared.errors.RowFault.TheVariants.{IdRange}
use Rattle.ak_base.specs.Names.{table_place}
use Rattle.ak_base.specs.declared.names.Name.{Name}
use Rattle.ak_base.specs.declared.names.Table.{Table}
use Rattle.ak_base.specs.declared.names.Table.TheVariants as tables
use Rattle.ak_base.specs.declared.rows.Row.{Row}
use Rattle.ak_base.specs.declared.rows.Row.TheVariants as rows
use Rattle.ak_keep.specs.Collections.{AscendsPast, Rows, is_past, is_wanted, wanted_past}
use Rattle.ak_keep.specs.declared.keepers.Wanted.{Wanted}
use Rattle.ak_keep.specs.declared.keepers.Wanted.TheVariants.{Unsent}
use Rattle.ak_merge.proofs.CheckedRows.{faultless_of}
use Rattle.ak_merge.specs.Holdings.{AreNamed}
use Rattle.ak_session.proofs.Accepting.{between}
use Rattle.ak_session.proofs.Ranges.{within}
use Rattle.ak_session.proofs.Wanted.{parts_ascend}
use Rattle.ak_session.specs.Refusals.{is_id}
use Rattle.ak_session.specs.Slices.{wanted_graves}

-- the id of a row is in its range
abbrev pub HasId : Row → Type 0
HasId row = is_id (name_of row).id ≡ true

faultless_id : (id : ℤ) → id_fault id ≡ None → is_id id ≡ true
unfolding id_fault
faultless_id id = by (int_lt id (pos 1)) (int_lt last_id id) refl refl
  where
    by : (low high : Bool) → int_lt id (pos 1) ≡ low → int_lt last_id id ≡ high → (if low || high then Some IdRange else None) ≡ None → is_id id ≡ true
    by true high under over is = grind (arith, is)
    by false true under over is = grind (arith, is)
    by false false under over is = between (pos 1) last_id id (record { low = grind (arith, ints, under); high = grind (arith, ints, over) })

-- a row that passes its check has such an id
pub checked_id : (row : Row) → IsChecked row → HasId row
unfolding identity_faults content_faults place_faults schedule_faults mark_faults type_titles form_faults deck_titles taken_faults general_faults new_faults rev_faults lapse_faults
checked_id (rows.Note n) checked = faultless_id n.id (faultless_of (identity_faults n ++ content_faults n) checked).0
checked_id (rows.Card c) checked = faultless_id c.id (faultless_of (place_faults c ++ (schedule_faults c ++ mark_faults c)) checked).0
checked_id (rows.Review r) checked = faultless_id r.id (faultless_of (review_faults r) checked).0
checked_id (rows.NoteType t) checked = faultless_id t.id (faultless_of (type_titles t ++ form_faults t) checked).0
checked_id (rows.Deck d) checked = faultless_id d.id (faultless_of (deck_titles d ++ taken_faults d) checked).0
checked_id (rows.Options o) checked = faultless_id o.id (faultless_of (general_faults o ++ (new_faults o ++ (rev_faults o ++ lapse_faults o))) checked).0
checked_id (rows.Grave g) checked = faultless_id g.oid (faultless_of (grave_faults g) checked).1.0

-- so have those that are wanted
wanted_ids : (table : Table) (want : Wanted) (past : ℤ) (es : List (Name × Row)) → AllByRecursion (λ (entry : Name × Row). IsChecked entry.1) es
    → AllByRecursion HasId (filter (is_wanted want) (map (λ (entry : Name × Row). entry.1) (filter (λ (entry : Name × Row). is_past table past entry.0) es)))
wanted_ids table want past [] all = tt
wanted_ids table want past (entry ∷ more) all =
    let rest = wanted_ids table want past more all.1 in
    let others : List Row = map (λ (entry : Name × Row). entry.1) (filter (λ (entry : Name × Row). is_past table past entry.0) more) in
    elim (is_past table past entry.0) as (λ b. AllByRecursion HasId (filter (is_wanted want)
    (map (λ (entry : Name × Row). entry.1) (if b then entry ∷ filter (λ (entry : Name × Row). is_past table past entry.0) more else filter (λ (entry : Name × Row). is_past table past entry.0) more)))) [
      | true ↦ elim (is_wanted want entry.1) as (λ b. AllByRecursion HasId (if b then entry.1 ∷ filter (is_wanted want) others else filter (is_wanted want) others)) [
        | true ↦ (checked_id entry.1 all.0, rest)
        | false ↦ rest
      ]
      | false ↦ rest
    ]

-- ids that ascend from over one are at most as many as there are between it and the last one
ascending_few : (table : Table) (past : ℤ) (list : List Row) → AscendsPast table past list → AllByRecursion HasId list → past ≤ℤ last_id → (past +ℤ pos (length list)) ≤ℤ last_id
ascending_few table past [] up all low = grind (arith, ints, low)
ascending_few table past (row ∷ list) up all low = counted (length list) (name_of row).id (over (name_of row) up.0) (ascending_few table (name_of row).id list up.1 all.1 (within (pos 1) last_id (name_of row).id all.0).high)
  where
    over : (name : Name) → IsTrue (is_past table past name) → int_lt past name.id ≡ true
    over name is = second_so (table_place name.table == table_place table) (int_lt past name.id) is

    counted : (n : ℕ) (id : ℤ) → int_lt past id ≡ true → (id +ℤ pos n) ≤ℤ last_id → (past +ℤ pos (suc n)) ≤ℤ last_id
    counted n id less few = grind (arith, ints, less, few)

module _ (held : Rows) (named : AreNamed (get held)) (checked : AllByRecursion (λ (entry : Name × Row). IsChecked entry.1) (entries held)) where
  few_of : (table : Table) → length (wanted_past table Unsent (pos 0) held) ≤ 9_007_199_254_740_991
  few_of table =
      let few = ascending_few table (pos 0) (wanted_past table Unsent (pos 0) held) (parts_ascend table Unsent held named) (wanted_ids table Unsent (pos 0) (entries held) checked) (grind (arith, ints)) in
      counted (length (wanted_past table Unsent (pos 0) held)) few
    where
      counted : (n : ℕ) → (pos 0 +ℤ pos n) ≤ℤ last_id → n ≤ 9_007_199_254_740_991
      counted n few = grind (arith, ints, few)

  -- the graves that a device has to send are fewer than three times as many as there are ids
  pub graves_few : length (wanted_graves Unsent held) ≤ 27_021_597_764_222_973
  graves_few =
      let notes = few_of tables.NoteGrave in
      let cards = few_of tables.CardGrave in
      let decks = few_of tables.DeckGrave in
      let one = length-append (wanted_past tables.NoteGrave Unsent (pos 0) held) (wanted_past tables.CardGrave Unsent (pos 0) held ++ wanted_past tables.DeckGrave Unsent (pos 0) held) in
      let two = length-append (wanted_past tables.CardGrave Unsent (pos 0) held) (wanted_past tables.DeckGrave Unsent (pos 0) held) in
      omega (arith, notes, cards, decks, one, two)

-- The ids of rows that pass their checks.
use Rattle.std.specs.Prelude.{◌≡◌, ℤ, pos, Bool, true, false, ◌||◌, int_lt, if◌then◌else◌, ◌++◌, Some, None}
use Rattle.std.proofs.Common.{refl, sym, subst, arith}
use Rattle.std.proofs.lemmas.Int.{ints}
use Rattle.std.proofs.lemmas.Option.{none-some}
use Rattle.ak_base.specs.Cards.{place_faults, schedule_faults, mark_faults}
use Rattle.ak_base.specs.Columns.{id_fault}
use Rattle.ak_base.specs.Decks.{title_faults as deck_titles, taken_faults}
use Rattle.ak_base.specs.Graves.{grave_faults}
use Rattle.ak_base.specs.Limits.{last_id}
use Rattle.ak_base.specs.NoteTypes.{title_faults as type_titles, form_faults}
use Rattle.ak_base.specs.Notes.{identity_faults, content_faults}
use Rattle.ak_base.specs.OptionGroups.{general_faults, new_faults, rev_faults, lapse_faults}
use Rattle.ak_base.specs.Reviews.{review_faults}
use Rattle.ak_base.specs.Rows.{IsChecked, name_of}
use Rattle.ak_base.specs.declared.errors.RowFault.TheVariants as row_faults
use Rattle.ak_base.specs.declared.names.Name.{Name}
use Rattle.ak_base.specs.declared.rows.Row.{Row}
use Rattle.ak_base.specs.declared.rows.Row.TheVariants as rows
use Rattle.ak_keep.specs.Collections.{IsId}
use Rattle.ak_merge.proofs.CheckedRows.{faultless_of}

range_of : (id : ℤ) (under over : Bool) → int_lt id (pos 1) ≡ under → int_lt last_id id ≡ over → (if under || over then Some row_faults.IdRange else None) ≡ None → IsId id
range_of id false false low high none = record { low = grind (arith, ints, low); high = grind (arith, ints, high) }
range_of id true over low high none = absurd (none-some row_faults.IdRange (sym none))
range_of id false true low high none = absurd (none-some row_faults.IdRange (sym none))

id_within : (id : ℤ) → id_fault id ≡ None → IsId id
unfolding id_fault
id_within id none = range_of id (int_lt id (pos 1)) (int_lt last_id id) refl refl none

pub id_fits : (id : ℤ) → IsId id → id_fault id ≡ None
unfolding id_fault
id_fits id range =
    let not_less : int_lt id (pos 1) ≡ false = grind (arith, ints, range.low) in
    let not_more : int_lt last_id id ≡ false = grind (arith, ints, range.high) in
    rw (not_less, not_more) refl

id_of_row : (row : Row) → IsChecked row → IsId (name_of row).id
unfolding identity_faults content_faults place_faults schedule_faults mark_faults type_titles form_faults deck_titles taken_faults general_faults new_faults rev_faults lapse_faults
id_of_row (rows.Note n) checked = id_within n.id (faultless_of (identity_faults n ++ content_faults n) checked).0
id_of_row (rows.Card c) checked = id_within c.id (faultless_of (place_faults c ++ (schedule_faults c ++ mark_faults c)) checked).0
id_of_row (rows.Review r) checked = id_within r.id (faultless_of (review_faults r) checked).0
id_of_row (rows.NoteType t) checked = id_within t.id (faultless_of (type_titles t ++ form_faults t) checked).0
id_of_row (rows.Deck d) checked = id_within d.id (faultless_of (deck_titles d ++ taken_faults d) checked).0
id_of_row (rows.Options o) checked = id_within o.id (faultless_of (general_faults o ++ (new_faults o ++ (rev_faults o ++ lapse_faults o))) checked).0
id_of_row (rows.Grave g) checked = id_within g.oid (faultless_of (grave_faults g) checked).1.0

-- the id of a row's name is in range
pub id_of_checked : (row : Row) (name : Name) → IsChecked row → name_of row ≡ name → IsId name.id
id_of_checked row name checked named = subst (λ (n : Name). IsId n.id) named (id_of_row row checked)

-- A note type that passes its check has a template and a field.
use Rattle.std.specs.Prelude.{◌≡◌, ◌≤◌, ℕ, List, [], ◌∷◌, ◌++◌, length, Option, Some, None, Ok}
use Rattle.std.proofs.Common.{arith, refl}
use Rattle.ak_base.proofs.Optional.{both_none}
use Rattle.ak_base.specs.Columns.{first_fault, long_fault}
use Rattle.ak_base.specs.NoteTypes.{entries_fault, fields_fault, form_faults, note_type_faults, place_fault, templates_fault, title_faults}
use Rattle.ak_base.specs.declared.errors.RowFault.{RowFault}
use Rattle.ak_base.specs.declared.note_types.NoteType.{NoteType}

-- where no column has a fault, neither have the last ones
later_good : (one other : List (Option RowFault)) → first_fault (one ++ other) ≡ Ok tt → first_fault other ≡ Ok tt
later_good [] other good = good
later_good (None ∷ one) other good = later_good one other good
later_good (Some fault ∷ one) other good = cc

after_good : (one : Option RowFault) (others : List (Option RowFault)) → first_fault (one ∷ others) ≡ Ok tt → first_fault others ≡ Ok tt
after_good None others good = good
after_good (Some fault) others good = cc

first_good : (one : Option RowFault) (others : List (Option RowFault)) → first_fault (one ∷ others) ≡ Ok tt → one ≡ None
first_good None others good = refl
first_good (Some fault) others good = cc

templates_good : (t : NoteType) → first_fault (form_faults t) ≡ Ok tt → templates_fault t.templates ≡ None
unfolding form_faults
templates_good t good =
    let last : List (Option RowFault) = long_fault 8 (length t.rest.text) 262_144 ∷ [] in
    first_good (templates_fault t.templates) last
    (after_good (fields_fault t.fields) (templates_fault t.templates ∷ last)
    (after_good (place_fault 5 t.sortf (length t.fields)) (fields_fault t.fields ∷ templates_fault t.templates ∷ last) good))

some_entry : (column entries : ℕ) → entries_fault column entries ≡ None → 1 ≤ entries
unfolding entries_fault
some_entry column entries good = grind arith

-- a type that passes its check has a template
pub checked_templates : (t : NoteType) → first_fault (note_type_faults t) ≡ Ok tt → 1 ≤ length t.templates
checked_templates t good = some_entry 7 (length t.templates) (both_none _ _ (templates_good t (later_good (title_faults t) (form_faults t) good))).0

-- and a field
fields_good : (t : NoteType) → first_fault (form_faults t) ≡ Ok tt → fields_fault t.fields ≡ None
unfolding form_faults
fields_good t good =
    let last : List (Option RowFault) = templates_fault t.templates ∷ long_fault 8 (length t.rest.text) 262_144 ∷ [] in
    first_good (fields_fault t.fields) last (after_good (place_fault 5 t.sortf (length t.fields)) (fields_fault t.fields ∷ last) good)

pub checked_fields : (t : NoteType) → first_fault (note_type_faults t) ≡ Ok tt → 1 ≤ length t.fields
checked_fields t good = some_entry 6 (length t.fields) (both_none _ _ (fields_good t (later_good (title_faults t) (form_faults t) good))).0

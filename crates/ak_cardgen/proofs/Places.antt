-- In a type that passes its check the place `sortf` is that of a field.
use Rattle.std.proofs.Common.{◌≤◌, ◌≡◌, ℕ, ◌-◌, ◌<◌, ℤ, pos, ◌≤ℤ◌, ◌<ℤ◌, List, [], ◌∷◌, ◌++◌, length, refl, arith}
use Rattle.ak_base.proofs.Optional.{both_none}
use Rattle.std.proofs.lemmas.Int.{ints}
use Rattle.std.specs.Prelude.{Option, Some, None, Ok}
use Rattle.ak_base.specs.Columns.{first_fault, code_fault, long_fault}
use Rattle.ak_base.specs.NoteTypes.{note_type_faults, title_faults, form_faults, place_fault, entries_fault, fields_fault, templates_fault}
use Rattle.ak_base.specs.declared.errors.RowFault.{RowFault}
use Rattle.ak_base.specs.declared.note_types.NoteType.{NoteType}

-- where no column has a fault, neither have the last ones
good_behind : (fs gs : List (Option RowFault)) → first_fault (fs ++ gs) ≡ Ok tt → first_fault gs ≡ Ok tt
good_behind [] gs e = e
good_behind (None ∷ fs) gs e = good_behind fs gs e
good_behind (Some f ∷ fs) gs e = cc

-- nor the first one
good_first : (o : Option RowFault) (fs : List (Option RowFault)) → first_fault (o ∷ fs) ≡ Ok tt → o ≡ None
good_first None fs e = refl
good_first (Some f) fs e = cc

good_after : (o : Option RowFault) (fs : List (Option RowFault)) → first_fault (o ∷ fs) ≡ Ok tt → first_fault fs ≡ Ok tt
good_after None fs e = e
good_after (Some f) fs e = cc

place_low : (column : ℕ) (place : ℤ) (entries : ℕ) → place_fault column place entries ≡ None → pos 0 ≤ℤ place
unfolding place_fault code_fault
place_low column place entries e = grind (arith, ints)

place_high : (column : ℕ) (place : ℤ) (entries : ℕ) → place_fault column place entries ≡ None → place ≤ℤ pos (entries - 1)
unfolding place_fault code_fault
place_high column place entries e = grind (arith, ints)

some_entry : (column entries : ℕ) → entries_fault column entries ≡ None → 0 < entries
unfolding entries_fault
some_entry column entries e = grind arith

form_good : (n : NoteType) → first_fault (note_type_faults n) ≡ Ok tt → first_fault (form_faults n) ≡ Ok tt
form_good n e = good_behind (title_faults n) (form_faults n) e

sortf_good : (n : NoteType) → first_fault (form_faults n) ≡ Ok tt → place_fault 5 n.sortf (length n.fields) ≡ None
unfolding form_faults
sortf_good n e = good_first _ _ e

fields_good : (n : NoteType) → first_fault (form_faults n) ≡ Ok tt → fields_fault n.fields ≡ None
unfolding form_faults
fields_good n e =
    let others : first_fault (fields_fault n.fields ∷ templates_fault n.templates ∷ long_fault 8 (length n.rest.text) 262_144 ∷ []) ≡ Ok tt = good_after (place_fault 5 n.sortf (length n.fields)) _ e in
    good_first (fields_fault n.fields) (templates_fault n.templates ∷ long_fault 8 (length n.rest.text) 262_144 ∷ []) others

pub sortf_low : (n : NoteType) → first_fault (note_type_faults n) ≡ Ok tt → pos 0 ≤ℤ n.sortf
sortf_low n e = place_low 5 n.sortf (length n.fields) (sortf_good n (form_good n e))

pub sortf_high : (n : NoteType) → first_fault (note_type_faults n) ≡ Ok tt → n.sortf <ℤ pos (length n.fields)
sortf_high n e =
    let high = place_high 5 n.sortf (length n.fields) (sortf_good n (form_good n e)) in
    let some = some_entry 6 (length n.fields) (both_none _ _ (fields_good n (form_good n e))).0 in
    omega (arith, ints)

templates_good : (n : NoteType) → first_fault (form_faults n) ≡ Ok tt → templates_fault n.templates ≡ None
unfolding form_faults
templates_good n e =
    let others : first_fault (fields_fault n.fields ∷ templates_fault n.templates ∷ long_fault 8 (length n.rest.text) 262_144 ∷ []) ≡ Ok tt = good_after (place_fault 5 n.sortf (length n.fields)) _ e in
    let last : first_fault (templates_fault n.templates ∷ long_fault 8 (length n.rest.text) 262_144 ∷ []) ≡ Ok tt = good_after (fields_fault n.fields) _ others in
    good_first (templates_fault n.templates) (long_fault 8 (length n.rest.text) 262_144 ∷ []) last

few_entries : (column entries : ℕ) → entries_fault column entries ≡ None → entries ≤ 100
unfolding entries_fault long_fault
few_entries column entries e = grind arith

pub templates_few : (n : NoteType) → first_fault (note_type_faults n) ≡ Ok tt → length n.templates ≤ 100
templates_few n e = few_entries 7 (length n.templates) (both_none _ _ (templates_good n (form_good n e))).0

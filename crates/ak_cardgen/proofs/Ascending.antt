-- The ords of a note ascend.
use Rattle.std.proofs.Common.{◌≡◌, ℕ, zero, suc, ℤ, pos, ◌+◌, ◌≤◌, Bool, true, false, cond, Result, Ok, Err, IfOk, List, [], ◌∷◌, ◌++◌, length, append-nil, sym, subst, arith}
use Rattle.std.specs.Prelude.{◌+ℤ◌}
use Rattle.std.proofs.lemmas.Int.{ints}
use Rattle.ak_base.specs.Columns.{first_fault}
use Rattle.ak_base.specs.NoteTypes.{note_type_faults}
use Rattle.ak_base.specs.declared.note_types.CardTemplate.{CardTemplate}
use Rattle.ak_base.specs.declared.note_types.NoteType.{NoteType}
use Rattle.ak_template.specs.Clozes.{AscendsWithin}
use Rattle.ak_template.specs.Pages.{shows_in}
use Rattle.ak_template.specs.declared.faces.Face.{Face}
use Rattle.ak_template.proofs.Numbering.{ascends_wider, ascends_lower, ascends_push}
use Rattle.ak_cardgen.specs.Generation.{AreShown, has_number, ords_below, AreClozed, AreOrdsBy, ord_end}
use Rattle.ak_cardgen.proofs.Places.{templates_few}

shown_ascend : (face : Face) (place : ℕ) (templates : List CardTemplate) (ords : List ℤ) → AreShown face place templates ords → AscendsWithin (pos place) (pos (place + length templates)) ords
shown_ascend face place [] ords h = subst (AscendsWithin (pos place) (pos (place + 0))) (sym h) tt
shown_ascend face place (template ∷ templates) ords h =
    let high : ℤ = pos (place + length (template ∷ templates)) in
    let later : AscendsWithin (pos (suc place)) high h.1 = ascends_wider (pos (suc place)) (pos (suc place + length templates)) high h.1 (omega (arith, ints)) (shown_ascend face (suc place) templates h.1 h.4) in
    subst (AscendsWithin (pos place) high) (sym h.3) (elim (shows_in face h.0) as (λ v. AscendsWithin (pos place) high (cond v (pos place ∷ []) [] ++ h.1)) [
      | true ↦ (omega (arith, ints), omega (arith, ints), ascends_lower (pos place +ℤ pos 1) (pos (suc place)) high h.1 (omega (arith, ints)) later)
      | false ↦ ascends_lower (pos place) (pos (suc place)) high h.1 (omega (arith, ints)) later
    ])

below_ascend : (bound : ℕ) (numbers : List ℤ) → AscendsWithin (pos 0) (pos bound) (ords_below bound numbers)
unfolding ords_below
below_ascend zero numbers = tt
below_ascend (suc ord) numbers = elim (has_number (pos (suc ord)) numbers) as (λ v. AscendsWithin (pos 0) (pos (suc ord)) (ords_below ord numbers ++ cond v (pos ord ∷ []) [])) [
  | true ↦ ascends_push (pos 0) (pos ord) (pos (suc ord)) (pos ord) (ords_below ord numbers) (omega (arith, ints)) (omega (arith, ints)) (omega (arith, ints)) (below_ascend ord numbers)
  | false ↦ rw (append-nil (ords_below ord numbers)) (ascends_wider (pos 0) (pos ord) (pos (suc ord)) (ords_below ord numbers) (omega (arith, ints)) (below_ascend ord numbers))
]

clozed_ascend : (face : Face) (templates : List CardTemplate) (ords : List ℤ) → AreClozed face templates ords → AscendsWithin (pos 0) (pos 500) ords
clozed_ascend face [] ords h = subst (AscendsWithin (pos 0) (pos 500)) (sym h) tt
clozed_ascend face (template ∷ templates) ords h = subst (AscendsWithin (pos 0) (pos 500)) (sym h.2) (below_ascend 500 _)

pub ascend_by : (cloze : Bool) (face : Face) (templates : List CardTemplate) (ords : List ℤ) → AreOrdsBy cloze face templates ords → AscendsWithin (pos 0) (pos (cond cloze 500 (length templates))) ords
ascend_by true face templates ords h = clozed_ascend face templates ords h
ascend_by false face templates ords h =
    let shown = shown_ascend face 0 templates ords h in
    ascends_wider (pos 0) (pos (0 + length templates)) (pos (length templates)) ords (omega (arith, ints)) shown

pub ords_ascend : {E : Type 0} (note_type : NoteType) (face : Face) (result : Result (List ℤ) E) → IfOk result (AreOrdsBy note_type.cloze face note_type.templates) → IfOk result (AscendsWithin (pos 0) (pos (ord_end note_type)))
ords_ascend note_type face (Ok ords) h = ascend_by note_type.cloze face note_type.templates ords h
ords_ascend note_type face (Err fault) h = tt

end_low : (cloze : Bool) (n : ℕ) → n ≤ 100 → cond cloze 500 n ≤ 500
end_low true n h = omega arith
end_low false n h = omega (arith, h)

pub below : (note_type : NoteType) (face : Face) (ords : List ℤ) → AreOrdsBy note_type.cloze face note_type.templates ords → first_fault (note_type_faults note_type) ≡ Ok tt → AscendsWithin (pos 0) (pos 500) ords
below note_type face ords h checked =
    let few = end_low note_type.cloze (length note_type.templates) (templates_few note_type checked) in
    ascends_wider (pos 0) (pos (ord_end note_type)) (pos 500) ords (omega (arith, ints, few)) (ascend_by note_type.cloze face note_type.templates ords h)

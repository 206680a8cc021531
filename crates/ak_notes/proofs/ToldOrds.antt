-- A note's cards are told by its type and its fields.
use Rattle.std.specs.Prelude.{◌≡◌, ℕ, suc, ℤ, pos, Bool, true, false, List, [], ◌∷◌, ◌++◌}
use Rattle.std.proofs.Common.{sym, ap, ◌∙◌}
use Rattle.ak_base.specs.declared.note_types.CardTemplate.{CardTemplate}
use Rattle.ak_base.specs.declared.note_types.NoteType.{NoteType}
use Rattle.ak_cardgen.specs.Generation.{AreClozed, AreOrds, AreOrdsBy, AreShown, face_of, numbers_in, ords_below, place_of}
use Rattle.ak_template.proofs.Grammars.{one_tree}
use Rattle.ak_template.specs.Trees.{Tree, tree_steps}
use Rattle.ak_template.specs.declared.faces.Face.{Face}

shown_once : (face : Face) (place : ℕ) (templates : List CardTemplate) (x y : List ℤ) → AreShown face place templates x → AreShown face place templates y → x ≡ y
shown_once face place [] x y one other = one ∙ sym other
shown_once face place (t ∷ ts) x y one other =
    let tree : one.0 ≡ other.0 = one_tree t.front one.0 other.0 one.2 other.2 in
    let rest : one.1 ≡ other.1 = shown_once face (suc place) ts one.1 other.1 one.4 other.4 in
    one.3 ∙ ap (λ (u : Tree). place_of face (pos place) u ++ one.1) tree ∙ ap (λ (others : List ℤ). place_of face (pos place) other.0 ++ others) rest ∙ sym other.3

clozed_once : (face : Face) (templates : List CardTemplate) (x y : List ℤ) → AreClozed face templates x → AreClozed face templates y → x ≡ y
clozed_once face [] x y one other = one ∙ sym other
clozed_once face (t ∷ ts) x y one other =
    let tree : one.0 ≡ other.0 = one_tree t.front one.0 other.0 one.1 other.1 in
    one.2 ∙ ap (λ (u : Tree). ords_below 500 (numbers_in face (tree_steps u))) tree ∙ sym other.2

by_once : (cloze : Bool) (face : Face) (templates : List CardTemplate) (x y : List ℤ) → AreOrdsBy cloze face templates x → AreOrdsBy cloze face templates y → x ≡ y
by_once true face templates x y one other = clozed_once face templates x y one other
by_once false face templates x y one other = shown_once face 0 templates x y one other

-- of one type and the same fields there are no two lists of ords
pub ords_once : (note_type : NoteType) (fields : List (List ℕ)) (x y : List ℤ) → AreOrds note_type fields x → AreOrds note_type fields y → x ≡ y
ords_once note_type fields x y one other = by_once note_type.cloze (face_of note_type fields) note_type.templates x y one other

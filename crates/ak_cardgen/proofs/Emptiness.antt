-- A note whose values are all empty shows nothing.
use Rattle.std.proofs.Common.{◌≡◌, ℕ, suc, ℤ, pos, ◌==◌, Bool, true, false, not, ◌&&◌, ◌||◌, cond, Some, List, [], ◌∷◌, ◌++◌, refl, ap, ◌∙◌, subst}
use Rattle.std.specs.Prelude.{codes}
use Rattle.std.specs.Option.{unwrap_or}
use Rattle.std.specs.Cmp.Lexicographic.{pointwise}
use Rattle.ak_base.specs.declared.note_types.CardTemplate.{CardTemplate}
use Rattle.ak_base.specs.declared.note_types.FieldDef.{FieldDef}
use Rattle.ak_base.specs.declared.note_types.NoteType.{NoteType}
use Rattle.ak_filters.specs.Strips.{empty_value}
use Rattle.ak_template.specs.Pages.{pair_value, is_filled, shows_in}
use Rattle.ak_template.specs.Trees.{Tree, End, Plain, Value, Section}
use Rattle.ak_cardgen.specs.Generation.{pairs, face_of, AreShown, AreOrdsBy, AreOrds, AreEmpty}

value_empty : (defs : List FieldDef) (values : List (List ℕ)) (name : List ℕ) → AreEmpty values → empty_value (unwrap_or (pair_value (pairs defs values) name) []) ≡ true
value_empty [] values name h = refl
value_empty (def ∷ defs) [] name h = elim (pointwise ◌==◌ def.name name) as (λ v. empty_value (unwrap_or (cond v (Some []) (pair_value (pairs defs []) name)) []) ≡ true) [ true ↦ refl | false ↦ value_empty defs [] name h ]
value_empty (def ∷ defs) (value ∷ values) name h = elim (pointwise ◌==◌ def.name name) as (λ v. empty_value (unwrap_or (cond v (Some value) (pair_value (pairs defs values) name)) []) ≡ true) [ true ↦ h.0 | false ↦ value_empty defs values name h.1 ]

none_filled : (note_type : NoteType) (values : List (List ℕ)) (name : List ℕ) → AreEmpty values → is_filled (face_of note_type values) name ≡ false
none_filled note_type values name h = elim (pointwise ◌==◌ name (codes "FrontSide")) as (λ v. not (empty_value (unwrap_or (cond v (Some []) (pair_value (pairs note_type.fields values) name)) [])) ≡ false) [
  | true ↦ refl
  | false ↦ ap not (value_empty note_type.fields values name h)
]

both_false : (v w u : Bool) → v ≡ false → w ≡ false → ((u && v) || w) ≡ false
both_false v w true h k = ap (λ x. x || w) h ∙ k
both_false v w false h k = k

section_false : (v w u x : Bool) → v ≡ false → w ≡ false → (((u && v) && x) || w) ≡ false
section_false v w true x h k = ap (λ y. (y && x) || w) h ∙ k
section_false v w false x h k = k

nothing_shown : (note_type : NoteType) (values : List (List ℕ)) (tree : Tree) → AreEmpty values → shows_in (face_of note_type values) tree ≡ false
nothing_shown note_type values End h = refl
nothing_shown note_type values (Plain words after) h = nothing_shown note_type values after h
nothing_shown note_type values (Value names name after) h = ap (λ v. v || shows_in (face_of note_type values) after) (none_filled note_type values name h) ∙ nothing_shown note_type values after h
nothing_shown note_type values (Section inverted name inside after) h =
    section_false (is_filled (face_of note_type values) name) (shows_in (face_of note_type values) after) (not inverted) (shows_in (face_of note_type values) inside) (none_filled note_type values name h) (nothing_shown note_type values after h)

none_shown : (note_type : NoteType) (values : List (List ℕ)) (place : ℕ) (templates : List CardTemplate) (ords : List ℤ) → AreEmpty values → AreShown (face_of note_type values) place templates ords → ords ≡ []
none_shown note_type values place [] ords h shown = shown
none_shown note_type values place (template ∷ templates) ords h shown =
    shown.3 ∙ ap (λ v. cond v (pos place ∷ []) [] ++ shown.1) (nothing_shown note_type values shown.0 h) ∙ none_shown note_type values (suc place) templates shown.1 h shown.4

pub no_cards : (note_type : NoteType) (values : List (List ℕ)) (ords : List ℤ) → note_type.cloze ≡ false → AreEmpty values → AreOrds note_type values ords → ords ≡ []
no_cards note_type values ords standard h are =
    let P : Bool → Type 0 = λ v. AreOrdsBy v (face_of note_type values) note_type.templates ords in
    none_shown note_type values 0 note_type.templates ords h (subst P standard are)

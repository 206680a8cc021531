-- The cards that a note has, as the ords of its type.
use Rattle.std.specs.Prelude.{◌≡◌, ◌⊎◌, ⊤, take, IfOk, OnOk, IfErr, Result, ℕ, zero, suc, ◌<◌, ℤ, pos, Bool, true, false, ◌||◌, if◌then◌else◌, List, [], ◌∷◌, ◌++◌, length, Option, Some, None}
use Rattle.std.specs.List.{slice_index_or}
use Rattle.std.specs.Option.{option_map, option_or, unwrap_or}
use Rattle.std.specs.Ordering.{int_eq}
use Rattle.ak_base.specs.declared.note_types.FieldDef.{FieldDef}
use Rattle.ak_base.specs.declared.note_types.CardTemplate.{CardTemplate}
use Rattle.ak_base.specs.declared.note_types.NoteType.{NoteType}
use Rattle.ak_filters.specs.Strips.{empty_value}
use Rattle.ak_cardgen.specs.declared.faults.GenFault.{GenFault}
use Rattle.ak_cardgen.specs.declared.faults.GenFault.TheVariants.{Template as OfTemplate, Memory}
use Rattle.ak_cardgen.specs.declared.fronts.Fronts.{Fronts}
use Rattle.ak_template.specs.Clozes.{numbers_of}
use Rattle.ak_template.specs.Grammar.{IsTemplate, first_fault}
use Rattle.ak_template.specs.Pages.{field_value, ends_in_cloze, shows_in}
use Rattle.ak_template.specs.Trees.{Tree, tree_steps}
use Rattle.ak_template.specs.declared.faces.Face.{Face}
use Rattle.ak_template.specs.declared.faces.Pair.{Pair}
use Rattle.ak_template.specs.declared.faults.TemplateFault.{TemplateFault}
use Rattle.ak_template.specs.declared.steps.Step.{Step}
use Rattle.ak_template.specs.declared.steps.Template.{Template}
use Rattle.ak_template.specs.declared.steps.Step.TheVariants.{Words, Field, Open, Close}

-- a field's text under its name in the type
abbrev pub pair_of : FieldDef → List ℕ → Pair
pair_of def text = record { name = def.name; value = text }

-- the fields of a note by their names: a missing text counts as empty, one too many is not shown
abbrev pub pairs : List FieldDef → List (List ℕ) → List Pair
pairs [] texts = []
pairs (def ∷ defs) [] = pair_of def [] ∷ pairs defs []
pairs (def ∷ defs) (text ∷ texts) = pair_of def text ∷ pairs defs texts

-- a front of card 1 with the note's fields and no other names
abbrev pub face_of : NoteType → List (List ℕ) → Face
face_of note_type texts = record { fields = pairs note_type.fields texts; front = None; number = pos 1 }

-- ---- the fronts of a type

-- the template was read of the text
abbrev pub IsFrontOf : List ℕ → Template → Type 0
IsFrontOf text template = (tree : Tree) × IsTemplate text tree × (template.steps ≡ tree_steps tree)

-- these templates were read of the fronts, one of each
abbrev pub AreFronts : List CardTemplate → List Template → Type 0
AreFronts [] [] = ⊤
AreFronts [] (front ∷ fronts) = ⊥
AreFronts (template ∷ templates) [] = ⊥
AreFronts (template ∷ templates) (front ∷ fronts) =
    IsFrontOf template.front front × AreFronts templates fronts

-- the templates whose fronts tell the cards: all, or the first one in a cloze type; there is one in a type that passes its check
abbrev pub telling : NoteType → List CardTemplate
telling note_type = if note_type.cloze then take 1 note_type.templates else note_type.templates

-- the fronts of a type, read
pub record AreFrontsOf (note_type : NoteType) (read : Fronts) : Type 0 where
  pub cloze : read.cloze ≡ note_type.cloze
  pub fronts : AreFronts (telling note_type) read.fronts

-- ---- a standard type: the places of the templates whose front shows something

-- the place, if the front at it shows something
abbrev pub place_of : Face → ℤ → Tree → List ℤ
place_of face place tree = if shows_in face tree then place ∷ [] else []

-- the ords of the templates, of which the first is at this place
abbrev pub AreShown : Face → ℕ → List CardTemplate → List ℤ → Type 0
AreShown face place [] ords = ords ≡ []
AreShown face place (template ∷ templates) ords =
    (tree : Tree) × (others : List ℤ) × IsTemplate template.front tree × (ords ≡ place_of face (pos place) tree ++ others) × AreShown face (suc place) templates others

-- ---- a cloze type: N - 1 for each number N of a cloze in a field that the front names with `cloze:`

-- the numbers that a step names; a name that is no field has no text
abbrev pub step_numbers : Face → Step → List ℤ
step_numbers face (Words words) = []
step_numbers face (Field filters name) = if ends_in_cloze filters then numbers_of (unwrap_or (field_value face name) []) else []
step_numbers face (Open inverted name) = []
step_numbers face (Close name) = []

-- those of all steps
abbrev pub numbers_in : Face → List Step → List ℤ
numbers_in face [] = []
numbers_in face (step ∷ steps) = step_numbers face step ++ numbers_in face steps

-- the number is one of these
abbrev pub has_number : ℤ → List ℤ → Bool
has_number number [] = false
has_number number (first ∷ others) = int_eq first number || has_number number others

-- these marks say of each ord below 500 whether its number is there
abbrev pub AreMarksOf : List Bool → List ℤ → Type 0
AreMarksOf marks numbers = (ord : ℕ) → ord < 500 → slice_index_or marks ord false ≡ has_number (pos (suc ord)) numbers

-- the ord of one number was marked
abbrev pub MarksOne : ℤ → List Bool → List Bool → Type 0
MarksOne number old new = (ord : ℕ) → ord < 500 → slice_index_or new ord false ≡ (slice_index_or old ord false || int_eq number (pos (suc ord)))

-- those ords below a bound whose numbers are there, ascending
unfoldable pub ords_below : ℕ → List ℤ → List ℤ
ords_below zero numbers = []
ords_below (suc ord) numbers = ords_below ord numbers ++ (if has_number (pos (suc ord)) numbers then pos ord ∷ [] else [])

-- those of the first template; none, if the type has no template
abbrev pub AreClozed : Face → List CardTemplate → List ℤ → Type 0
AreClozed face [] ords = ords ≡ []
AreClozed face (template ∷ templates) ords =
    (tree : Tree) × IsTemplate template.front tree × (ords ≡ ords_below 500 (numbers_in face (tree_steps tree)))

-- ---- both

-- the ords of a note that is shown by this face
abbrev pub AreOrdsBy : Bool → Face → List CardTemplate → List ℤ → Type 0
AreOrdsBy true face templates ords = AreClozed face templates ords
AreOrdsBy false face templates ords = AreShown face 0 templates ords

-- the ords of a note's cards, also in a type that breaks its check: then there may be no template, or any number of them
abbrev pub AreOrds : NoteType → List (List ℕ) → List ℤ → Type 0
AreOrds note_type texts ords = AreOrdsBy note_type.cloze (face_of note_type texts) note_type.templates ords

-- the first fault of the fronts, in the order of the templates
abbrev pub fronts_fault : List CardTemplate → Option TemplateFault
fronts_fault [] = None
fronts_fault (template ∷ templates) = option_or (first_fault template.front) (fronts_fault templates)

-- the fault of the first front
abbrev pub front_fault : List CardTemplate → Option TemplateFault
front_fault [] = None
front_fault (template ∷ templates) = first_fault template.front

-- of a cloze type the first front alone is read
abbrev pub generation_fault : NoteType → Option TemplateFault
generation_fault note_type = if note_type.cloze then front_fault note_type.templates else fronts_fault note_type.templates

-- no ord of the type is this high
abbrev pub ord_end : NoteType → ℕ
ord_end note_type = if note_type.cloze then 500 else length note_type.templates

-- ---- what a call answers

-- a refusal is that memory ran out, or it is this fault of a front
abbrev pub RefusesAs : {A : Type 0} → Option TemplateFault → Result A GenFault → Type 0
RefusesAs found result = IfErr result (λ fault. (fault ≡ Memory) ⊎ (option_map OfTemplate found ≡ Some fault))

-- an answer has the ords by these fronts, whatever type they are of
abbrev pub TellsOrds : {E : Type 0} → Face → Fronts → Result (List ℤ) E → Type 0
TellsOrds face fronts result =
    (note_type : NoteType) → AreFrontsOf note_type fronts → IfOk result (AreOrdsBy note_type.cloze face note_type.templates)

-- the same of a standard type
abbrev pub TellsShown : {E : Type 0} → Face → List Template → Result (List ℤ) E → Type 0
TellsShown face fronts result =
    (templates : List CardTemplate) → AreFronts templates fronts → IfOk result (AreShown face 0 templates)

-- the same of a cloze type, whose first front alone is read
abbrev pub TellsClozed : {E : Type 0} → Face → List Template → Result (List ℤ) E → Type 0
TellsClozed face fronts result =
    (templates : List CardTemplate) → AreFronts (take 1 templates) fronts → IfOk result (AreClozed face templates)

-- the place was added, if the front shows something
abbrev pub AddsPlace : {A E : Type 0} → List ℤ → List ℤ → Face → ℕ → Template → Result A E → Type 0
AddsPlace old new face place front result =
    (tree : Tree) → front.steps ≡ tree_steps tree → OnOk result (new ≡ old ++ place_of face (pos place) tree)

-- ---- a note whose values are all empty

-- each of the values is empty
abbrev pub AreEmpty : List (List ℕ) → Type 0
AreEmpty [] = ⊤
AreEmpty (value ∷ values) = (empty_value value ≡ true) × AreEmpty values

-- a note of a standard type whose values are all empty has no cards
abbrev pub EmptyNotesHaveNoCards : Type 0
EmptyNotesHaveNoCards =
    (note_type : NoteType) (values : List (List ℕ)) (ords : List ℤ) → note_type.cloze ≡ false → AreEmpty values →
    AreOrds note_type values ords → ords ≡ []

-- The grammar of templates: which texts have a tree, which tree it is, and where a text that has none goes wrong.
use Rattle.std.specs.Prelude.{◌≡◌, ◌⊎◌, ◌++◌, ◌<◌, IfErr, Result, ℕ, ◌-◌, ◌==◌, nat_lt, Bool, false, if◌then◌else◌, List, [], ◌∷◌, length, map, Option, Some, None}
use Rattle.std.specs.List.{slice_get}
use Rattle.std.specs.Option.{option_map, option_or}
use Rattle.std.specs.Cmp.Lexicographic.{pointwise}
use Rattle.ak_template.specs.declared.steps.Step.TheVariants.{Words, Field, Open, Close}
use Rattle.ak_template.specs.declared.faults.TemplateFault.{TemplateFault}
use Rattle.ak_template.specs.declared.faults.TemplateFault.TheVariants as faults
use Rattle.ak_template.specs.declared.builders.Opened.{Opened}
use Rattle.ak_template.specs.declared.steps.Step.{Step}
use Rattle.ak_template.specs.Pieces.{Piece, pieces, with_tag, steps_in}
use Rattle.ak_template.specs.Trees.{Tree, tree_steps, Nests}

-- the text has the tree: its pieces are the tree from front to back, none of them an empty tag, and sections nest at
-- most 32 deep
pub record IsTemplate (text : List ℕ) (tree : Tree) : Type 0 where
  pub pieces : map (λ (piece : Piece). piece.1) (pieces text) ≡ map Some (tree_steps tree)
  pub nests : Nests 0 tree

-- ---- the fault of a text that has no tree

-- the number of a fault among the refusals; running out of memory is no fault of a text
abbrev pub fault_number : TemplateFault → ℕ
fault_number (faults.Unclosed place) = 1
fault_number (faults.WrongClose place) = 2
fault_number (faults.EmptyTag place) = 3
fault_number (faults.TooDeep place) = 4
fault_number faults.Memory = 0

-- the byte place at which the tag of a fault opens
abbrev pub fault_place : TemplateFault → ℕ
fault_place (faults.Unclosed place) = place
fault_place (faults.WrongClose place) = place
fault_place (faults.EmptyTag place) = place
fault_place (faults.TooDeep place) = place
fault_place faults.Memory = 0

-- whether a close tag of that name closes the innermost of the open sections, which are listed from the innermost
abbrev pub closes : List Opened → List ℕ → Bool
closes [] name = false
closes (section ∷ sections) name = pointwise ◌==◌ section.name name

-- the fault of one piece inside these open sections
abbrev pub fault_at : List Opened → Piece → Option TemplateFault
fault_at sections (place, None) = Some (faults.EmptyTag place)
fault_at sections (place, Some (Words words)) = None
fault_at sections (place, Some (Field filters name)) = None
fault_at sections (place, Some (Open inverted name)) = if nat_lt (length sections) 32 then None else Some (faults.TooDeep place)
fault_at sections (place, Some (Close name)) = if closes sections name then None else Some (faults.WrongClose place)

-- the section that is opened at this place would be the 33rd
abbrev pub IsTooDeep : List Opened → ℕ → TemplateFault → Type 0
IsTooDeep sections place fault = (nat_lt (length sections) 32 ≡ false) × (fault ≡ faults.TooDeep place)

-- the close tag at this place is not of the innermost open section
abbrev pub IsWrongClose : List Opened → List ℕ → ℕ → TemplateFault → Type 0
IsWrongClose sections name place fault = (closes sections name ≡ false) × (fault ≡ faults.WrongClose place)

-- the open sections without the innermost
abbrev pub outside : List Opened → List Opened
outside [] = []
outside (section ∷ sections) = sections

-- the open sections after a piece
abbrev pub opened : List Opened → Piece → List Opened
opened sections (place, None) = sections
opened sections (place, Some (Words words)) = sections
opened sections (place, Some (Field filters name)) = sections
opened sections (place, Some (Open inverted name)) = record { place = place; name = name } ∷ sections
opened sections (place, Some (Close name)) = outside sections

-- at the end the outermost open section is unclosed
abbrev pub unclosed : List Opened → Option TemplateFault
unclosed sections = option_map (λ (section : Opened). faults.Unclosed section.place) (slice_get sections (length sections - 1))

-- the first fault of the pieces inside these open sections
abbrev pub fault_in : List Opened → List Piece → Option TemplateFault
fault_in sections [] = unclosed sections
fault_in sections (piece ∷ pieces) = option_or (fault_at sections piece) (fault_in (opened sections piece) pieces)

-- ---- what a call answers that reads a text

-- a refusal is that memory ran out, or it is this fault
abbrev pub RefusesAs : {A : Type 0} → Option TemplateFault → Result A TemplateFault → Type 0
RefusesAs found result = IfErr result (λ fault. (fault ≡ faults.Memory) ⊎ (found ≡ Some fault))

-- after the words and the tag at this place these sections are open, and the other pieces alone may have a fault
abbrev pub PassesTag : List Opened → List Opened → List ℕ → ℕ → List ℕ → Type 0
PassesTag old new words place inside =
    (front : ℕ) (others : List Piece) → fault_in old (with_tag front words place inside others) ≡ fault_in new others

-- the steps of the words and of the tag at this place were added
abbrev pub AddsTag : List Step → List Step → List ℕ → ℕ → List ℕ → Type 0
AddsTag old new words place inside =
    (front : ℕ) (others : List Piece) → old ++ steps_in (with_tag front words place inside others) ≡ new ++ steps_in others

-- a refusal is that memory ran out, or it is the fault of the tag at this place
abbrev pub RefusesTag : {A : Type 0} → List Opened → List ℕ → ℕ → List ℕ → Result A TemplateFault → Type 0
RefusesTag sections words place inside result =
    IfErr result (λ fault. (fault ≡ faults.Memory) ⊎ ((front : ℕ) (others : List Piece) → fault_in sections (with_tag front words place inside others) ≡ Some fault))

-- the first fault of a text
abbrev pub first_fault : List ℕ → Option TemplateFault
first_fault text = fault_in [] (pieces text)

-- the fault is one of this text, and its place is inside the text
pub record IsFaultOf (text : List ℕ) (fault : TemplateFault) : Type 0 where
  pub number : 0 < fault_number fault
  pub within : fault_place fault < length text

-- Laws of templates, pages and clozes, over every text, tree, face and list of filters.
use Rattle.std.specs.Prelude.{◌≡◌, ⊤, ◌<◌, false, ℕ, List, [], ◌∷◌, ◌++◌, length, codes, Some, None, Ok}
use Rattle.std.specs.Option.{option_map}
use Rattle.ak_filters.specs.Lists.{without_filter}
use Rattle.ak_filters.specs.Meanings.{Meaning}
use Rattle.ak_template.specs.declared.faces.Face.{Face}
use Rattle.ak_base.specs.Cuts.{has}
use Rattle.ak_template.specs.declared.faults.TemplateFault.{TemplateFault}
use Rattle.ak_template.specs.declared.faults.TemplateFault.TheVariants as faults
use Rattle.ak_template.specs.declared.steps.Step.TheVariants.{Words, Field, Open, Close}
use Rattle.ak_template.specs.Grammar.{IsTemplate, fault_number, fault_place, first_fault}
use Rattle.ak_template.specs.Pieces.{Piece, pieces}
use Rattle.ak_template.specs.Trees.{Tree}
use Rattle.ak_template.specs.Pages.{page, turned_by, shown_filters, filter_named, occurrences}

-- on a page without a fault the turn of each filter rises by the number of shown occurrences of its name
abbrev pub TurnsAreOccurrences : Type 0
TurnsAreOccurrences =
    (face : Face) (tree : Tree) (filters later : List Meaning) (text name : List ℕ) → page face tree filters ≡ (Ok text, later) →
    filter_named name later ≡ option_map (turned_by (occurrences name (shown_filters face tree))) (filter_named name filters)

-- a page that asks for no filter of a name is the same without the first filter of that name: its text or its fault, and the turns of the others
abbrev pub UnaskedMayGo : Type 0
UnaskedMayGo =
    (face : Face) (tree : Tree) (filters : List Meaning) (name : List ℕ) → occurrences name (shown_filters face tree) ≡ 0 →
    page face tree (without_filter name filters) ≡ ((page face tree filters).0, without_filter name (page face tree filters).1)

-- some text makes it a template when it is added
abbrev pub CanGoOn : List ℕ → Type 0
CanGoOn text = (rest : List ℕ) × (tree : Tree) × IsTemplate (text ++ rest) tree

-- a tag is at fault: the text before it can be continued to a template; whatever follows the tag, the fault is the same
pub record IsAtFault (text : List ℕ) (fault : TemplateFault) : Type 0 where
  pub before : List ℕ
  pub inside : List ℕ
  pub tag : List ℕ
  pub after : List ℕ
  pub tag_is : tag ≡ codes "{{" ++ (inside ++ codes "}}")
  pub ends_first : has (codes "}}") (inside ++ codes "}") ≡ false
  pub split : text ≡ before ++ (tag ++ after)
  pub at : length before ≡ fault_place fault
  pub goes : CanGoOn before
  pub stays : (other : List ℕ) → first_fault (before ++ (tag ++ other)) ≡ Some fault

-- every first fault but that of an unclosed section is the fault of a tag
abbrev pub FaultsAreTags : Type 0
FaultsAreTags = (text : List ℕ) (fault : TemplateFault) → first_fault text ≡ Some fault → 1 < fault_number fault → IsAtFault text fault

-- the plain words of a piece open no tag
abbrev pub HasPlainWords : Piece → Type 0
HasPlainWords (place, None) = ⊤
HasPlainWords (place, Some (Words words)) = has (codes "{{") words ≡ false
HasPlainWords (place, Some (Field filters name)) = ⊤
HasPlainWords (place, Some (Open inverted name)) = ⊤
HasPlainWords (place, Some (Close name)) = ⊤

-- none of the pieces opens a tag that isn't closed; only the last could
abbrev pub EndsPlainly : List Piece → Type 0
EndsPlainly [] = ⊤
EndsPlainly (piece ∷ pieces) = HasPlainWords piece × EndsPlainly pieces

-- a text whose fault is an unclosed section, and which ends in no opened tag, can be continued
abbrev pub UnclosedGoesOn : Type 0
UnclosedGoesOn = (text : List ℕ) (place : ℕ) → first_fault text ≡ Some (faults.Unclosed place) → EndsPlainly (pieces text) → CanGoOn text

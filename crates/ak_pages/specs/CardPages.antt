-- The two sides of a card as pages, and why there is none.
use Rattle.std.specs.Prelude.{◌≡◌, ◌⊎◌, ℕ, ℤ, Bool, true, false, List, map, Option, Some, Result, Ok, Err, IfErr, IfOk}
use Rattle.std.specs.Option.{option_or}
use Rattle.ak_base.specs.declared.names.Name.{Name}
use Rattle.ak_edit.specs.DeskFaults.{of_page_fault, of_template_fault}
use Rattle.ak_edit.specs.Refusals.{IsFromOutside}
use Rattle.ak_edit.specs.declared.desk_faults.DeskFault.{DeskFault}
use Rattle.ak_edit.specs.declared.desk_faults.DeskFault.TheVariants as faults
use Rattle.ak_filters.specs.Meanings.{Meaning}
use Rattle.ak_keep.specs.Collections.{Rows}
use Rattle.ak_pages.specs.CardFaces.{shown_card}
use Rattle.ak_pages.specs.declared.shown_cards.ShownCard.{ShownCard}
use Rattle.ak_template.specs.Grammar.{IsTemplate, first_fault}
use Rattle.ak_template.specs.Pages.{IsOnward, Page, TurnedSome, page, passed, shown_filters}
use Rattle.ak_template.specs.Trees.{Tree, tree_steps}
use Rattle.ak_template.specs.declared.faces.Face.{Face}
use Rattle.ak_template.specs.declared.faces.PageFault.{PageFault}
use Rattle.ak_template.specs.declared.faults.TemplateFault.{TemplateFault}
use Rattle.ak_template.specs.declared.steps.Template.{Template}

-- ---- the two sides
-- the same face on the back, where `FrontSide` is this text
abbrev pub back_face : Face → List ℕ → Face
back_face face front = record { fields = face.fields; front = Some front; number = face.number }

-- the page of the back: the front's page is made first, once, also if the back does not show it, and the turns of the filters
-- run on from it
abbrev pub back_page : Face → Tree → Tree → List Meaning → Page
back_page face front back filters = passed (page face front filters) (λ text. page (back_face face text) back)

-- the page of a side: of a front the front alone is read, of a back both sides
abbrev pub IsSide : Bool → ShownCard → List Meaning → Page → Type 0
IsSide false shown filters made =
    (front : Tree) × IsTemplate shown.template.front front × (made ≡ page shown.face front filters)
IsSide true shown filters made =
    (front : Tree) × (back : Tree) × IsTemplate shown.template.front front × IsTemplate shown.template.back back
    × (made ≡ back_page shown.face front back filters)

-- a template that was read of a text
abbrev pub IsOf : List ℕ → Template → Type 0
IsOf text template = (tree : Tree) × IsTemplate text tree × (template.steps ≡ tree_steps tree)

-- the first fault of the sides that are read, the front before the back
abbrev pub side_fault : Bool → ShownCard → Option TemplateFault
side_fault false shown = first_fault shown.template.front
side_fault true shown = option_or (first_fault shown.template.front) (first_fault shown.template.back)

-- ---- the page of a card, by the filters before and after the call
-- the text is the page of this side
abbrev pub ShowsSide : Bool → ShownCard → List Meaning → List Meaning → List ℕ → Type 0
ShowsSide back shown before after text = IsSide back shown before (Ok text, after)

-- a side can't be read, and no filter was applied
abbrev pub RefusesTemplate : Bool → ShownCard → List Meaning → List Meaning → DeskFault → Type 0
RefusesTemplate back shown before after fault =
    (found : TemplateFault) × (side_fault back shown ≡ Some found) × (fault ≡ of_template_fault found) × (after ≡ before)

-- the page has this first fault, and the filters are as it leaves them
abbrev pub RefusesSide : Bool → ShownCard → List Meaning → List Meaning → DeskFault → Type 0
RefusesSide back shown before after fault =
    (found : PageFault) × (fault ≡ of_page_fault found) × IsSide back shown before (Err found, after)

-- some first ones of the filters of the page were applied, from left to right, and none that the page does not apply before its
-- first fault
abbrev pub IsOnPage : Face → Tree → List Meaning → List Meaning → Type 0
IsOnPage face tree before after = TurnedSome (shown_filters face tree) before after × IsOnward after (page face tree before)

-- some of the filters of the front's page were applied
abbrev pub IsOnFront : ShownCard → List Meaning → List Meaning → Type 0
IsOnFront shown before after =
    (front : Tree) × IsTemplate shown.template.front front × IsOnPage shown.face front before after

-- the front's page was made, and then some of the filters of the back's page were applied
abbrev pub IsOnBack : ShownCard → List Meaning → List Meaning → Type 0
IsOnBack shown before after =
    (front : Tree) × (back : Tree) × (text : List ℕ) × (between : List Meaning) × IsTemplate shown.template.front front
    × IsTemplate shown.template.back back × (page shown.face front before ≡ (Ok text, between))
    × IsOnPage (back_face shown.face text) back between after

-- the filters are on the way along this side; a back is begun only if it can be read
abbrev pub IsOnSide : Bool → ShownCard → List Meaning → List Meaning → Type 0
IsOnSide false shown before after = IsOnFront shown before after
IsOnSide true shown before after =
    ((back : Tree) × IsTemplate shown.template.back back × IsOnFront shown before after) ⊎ IsOnBack shown before after

-- memory ran out, and the filters are as they were, or on the way
abbrev pub HaltsSide : Bool → ShownCard → List Meaning → List Meaning → DeskFault → Type 0
HaltsSide back shown before after fault = (fault ≡ faults.Memory) × ((after ≡ before) ⊎ IsOnSide back shown before after)

-- how a side that can be shown is refused
abbrev pub RefusesShown : Bool → ShownCard → List Meaning → List Meaning → DeskFault → Type 0
RefusesShown back shown before after fault =
    RefusesTemplate back shown before after fault ⊎ RefusesSide back shown before after fault ⊎ HaltsSide back shown before after fault

-- a row that the card needs is not held, and no filter was applied
abbrev pub RefusesMissing : Rows → ℤ → List Meaning → List Meaning → DeskFault → Type 0
RefusesMissing held card before after fault =
    (name : Name) × (shown_card held card ≡ Err name) × (fault ≡ faults.NoSuch name) × (after ≡ before)

-- an answer is the page of this side of the card
abbrev pub ShowsCard : Rows → ℤ → Bool → List Meaning → List Meaning → List ℕ → Type 0
ShowsCard held card back before after text = (shown : ShownCard) × (shown_card held card ≡ Ok shown) × ShowsSide back shown before after text

-- a refusal of a card that can be shown is one of its side
abbrev pub RefusesHeld : Rows → ℤ → Bool → List Meaning → List Meaning → DeskFault → Type 0
RefusesHeld held card back before after fault =
    (shown : ShownCard) × (shown_card held card ≡ Ok shown) × RefusesShown back shown before after fault

-- a refusal from outside applied no filter; any other is for a row that is not held, or of the side
abbrev pub RefusesCard : Rows → ℤ → Bool → List Meaning → List Meaning → DeskFault → Type 0
RefusesCard held card back before after fault =
    (IsFromOutside fault × (after ≡ before)) ⊎ RefusesMissing held card before after fault ⊎ RefusesHeld held card back before after fault

-- a row that is needed is not held
abbrev pub IsMissingRow : DeskFault → Type 0
IsMissingRow fault = (name : Name) × (fault ≡ faults.NoSuch name)

-- what the call may answer
abbrev pub IsPageRefusal : DeskFault → Type 0
IsPageRefusal fault =
    IsFromOutside fault ⊎ IsMissingRow fault
    ⊎ ((found : TemplateFault) × (fault ≡ of_template_fault found)) ⊎ ((found : PageFault) × (fault ≡ of_page_fault found))

-- an answer is what is told, and a refusal names the row that is told to be missing, but for what comes from outside
pub record AnswersAs (told : Result ShownCard Name) (result : Result ShownCard DeskFault) : Type 0 where
  pub shown : IfOk result (λ made. told ≡ Ok made)
  pub missing : IfErr result (λ fault. IsFromOutside fault ⊎ ((name : Name) × (told ≡ Err name) × (fault ≡ faults.NoSuch name)))

-- The page that a template makes of a note's fields, and whether a front shows anything.
use Rattle.std.specs.Prelude.{◌≡◌, ◌⊎◌, IfOk, IfErr, ℕ, zero, suc, ◌-◌, ◌==◌, Bool, false, not, ◌&&◌, ◌||◌, if◌then◌else◌, List, [], ◌∷◌, ◌++◌, length, take, map, count_by, Option, Some, None, is_some, Result, Ok, Err, codes}
use Rattle.std.specs.List.{slice_get}
use Rattle.std.specs.Option.{unwrap_or}
use Rattle.std.specs.Cmp.Lexicographic.{pointwise}
use Rattle.ak_filters.specs.Meanings.{Meaning, Form, filtered, turned}
use Rattle.ak_filters.specs.Strips.{empty_value}
use Rattle.ak_template.specs.declared.faces.Face.{Face}
use Rattle.ak_template.specs.declared.faces.Pair.{Pair}
use Rattle.ak_template.specs.declared.faces.PageFault.{PageFault}
use Rattle.ak_template.specs.declared.faces.PageFault.TheVariants.{NoField, NoFilter, Memory}
use Rattle.ak_template.specs.declared.steps.Step.{Step}
use Rattle.ak_template.specs.declared.steps.Step.TheVariants.{Words, Field, Open, Close}
use Rattle.ak_template.specs.declared.steps.Template.{Template}
use Rattle.ak_template.specs.Trees.{Tree, tree_steps, End, Plain, Value, Section}
use Rattle.ak_template.specs.Clozes.{clozed}

-- ---- a field's value

-- of the first pair of that name
abbrev pub pair_value : List Pair → List ℕ → Option (List ℕ)
pair_value [] name = None
pair_value (pair ∷ pairs) name = if pointwise ◌==◌ pair.name name then Some pair.value else pair_value pairs name

-- `FrontSide` is the front's page on the back, and empty on the front, whatever the pairs are
abbrev pub field_value : Face → List ℕ → Option (List ℕ)
field_value face name = if pointwise ◌==◌ name (codes "FrontSide") then Some (unwrap_or face.front []) else pair_value face.fields name

-- whether a section of a field with that value is shown
abbrev pub is_shown : Bool → List ℕ → Bool
is_shown inverted value = if inverted then empty_value value else not (empty_value value)

-- ---- a page

-- its text, or the first fault along it, and the filters then
abbrev pub Page : Type 0
Page = Result (List ℕ) PageFault × List Meaning

-- a page with a text in front
abbrev pub prefixed : List ℕ → Page → Page
prefixed text (Ok more, filters) = (Ok (text ++ more), filters)
prefixed text (Err fault, filters) = (Err fault, filters)

-- a page, and if it has no fault another one, with the filters as the first left them
abbrev pub followed : Page → (List Meaning → Page) → Page
followed (Ok text, filters) next = prefixed text (next filters)
followed (Err fault, filters) next = (Err fault, filters)

-- the same, if the other is made of the first one's text
abbrev pub passed : Page → (List ℕ → List Meaning → Page) → Page
passed (Ok text, filters) next = next text filters
passed (Err fault, filters) next = (Err fault, filters)

-- a page made with the filters after this one
abbrev pub behind_filter : Meaning → Page → Page
behind_filter filter page = (page.0, filter ∷ page.1)

-- the first filter of a name is applied to a text, and its turn rises
abbrev pub filter_text : List ℕ → List ℕ → List Meaning → Page
filter_text name text [] = (Err (NoFilter name), [])
filter_text name text (filter ∷ filters) =
    if pointwise ◌==◌ filter.name name then (Ok (filtered filter text), turned filter ∷ filters)
    else behind_filter filter (filter_text name text filters)

-- the filter at a place is applied to a text: what it makes, and the filters after that
abbrev pub applied_at : ℕ → List ℕ → List Meaning → List ℕ × List Meaning
applied_at place text [] = ([], [])
applied_at zero text (filter ∷ filters) = (filtered filter text, turned filter ∷ filters)
applied_at (suc place) text (filter ∷ filters) = ((applied_at place text filters).0, filter ∷ (applied_at place text filters).1)

-- the filters of the names are applied from right to left: the last one to the text, and each other one to what the filter on its right made
abbrev pub chain_text : List (List ℕ) → List ℕ → List Meaning → Page
chain_text [] text filters = (Ok text, filters)
chain_text (name ∷ names) text filters = passed (chain_text names text filters) (filter_text name)

-- the filter is `cloze`
abbrev pub is_cloze_filter : Option (List ℕ) → Bool
is_cloze_filter None = false
is_cloze_filter (Some filter) = pointwise ◌==◌ filter (codes "cloze")

-- the last of these filters, which is right before the field's name, is `cloze`
abbrev pub ends_in_cloze : List (List ℕ) → Bool
ends_in_cloze names = is_cloze_filter (slice_get names (length names - 1))

-- the filters of a tag that are looked up in the list. `cloze` right before the field's name is none of them
abbrev pub looked_up : List (List ℕ) → List (List ℕ)
looked_up names = if ends_in_cloze names then take (length names - 1) names else names

-- the text that these are applied to: the field's, or with that `cloze` the clozes of the card's number in it
abbrev pub inner_text : Face → List (List ℕ) → List ℕ → List ℕ
inner_text face names text = if ends_in_cloze names then clozed (is_some face.front) face.number text else text

-- the text of a tag with these filters, from the field's text
abbrev pub tag_text : Face → List (List ℕ) → List ℕ → List Meaning → Page
tag_text face names text = chain_text (looked_up names) (inner_text face names text)

-- a missing field comes before a missing filter
abbrev pub value_text : Option (List ℕ) → Face → List (List ℕ) → List ℕ → List Meaning → Page
value_text None face names name filters = (Err (NoField name), filters)
value_text (Some value) face names name filters = tag_text face names value filters

-- the text of the tag of a field
abbrev pub field_text : Face → List (List ℕ) → List ℕ → List Meaning → Page
field_text face names name filters = value_text (field_value face name) face names name filters

-- the page of a section and what follows it, by the value of its field
abbrev pub section_page : Option (List ℕ) → Bool → List ℕ → Page → Page → List Meaning → Page
section_page None inverted name shown hidden filters = (Err (NoField name), filters)
section_page (Some value) inverted name shown hidden filters = if is_shown inverted value then shown else hidden

-- the page of a tree: what is shown, left to right
abbrev pub page : Face → Tree → List Meaning → Page
page face End filters = (Ok [], filters)
page face (Plain words after) filters = followed (Ok words, filters) (page face after)
page face (Value names name after) filters = followed (field_text face names name filters) (page face after)
page face (Section inverted name inside after) filters =
    section_page (field_value face name) inverted name (followed (page face inside filters) (page face after)) (page face after filters) filters

-- what a filter keeps
abbrev pub kinds : List Meaning → List (List ℕ × Form)
kinds filters = map (λ (filter : Meaning). (filter.name, filter.form)) filters

-- a filter after it was applied that many times
abbrev pub turned_by : ℕ → Meaning → Meaning
turned_by zero filter = filter
turned_by (suc times) filter = turned_by times (turned filter)

-- ---- how often a page applies a filter

-- filters in the order in which they are applied: from right to left
abbrev pub applied_order : List (List ℕ) → List (List ℕ)
applied_order [] = []
applied_order (name ∷ names) = applied_order names ++ (name ∷ [])

-- the filters of a tag that are applied, in that order
abbrev pub tag_filters : List (List ℕ) → List (List ℕ)
tag_filters names = applied_order (looked_up names)

-- those of a section, by the value of its field
abbrev pub section_filters : Option (List ℕ) → Bool → List (List ℕ) → List (List ℕ)
section_filters None inverted names = []
section_filters (Some value) inverted names = if is_shown inverted value then names else []

-- those of the tags that are shown, left to right
abbrev pub shown_filters : Face → Tree → List (List ℕ)
shown_filters face End = []
shown_filters face (Plain words after) = shown_filters face after
shown_filters face (Value names name after) = tag_filters names ++ shown_filters face after
shown_filters face (Section inverted name inside after) = section_filters (field_value face name) inverted (shown_filters face inside) ++ shown_filters face after

-- the filter of a name, which is the first of that name
abbrev pub filter_named : List ℕ → List Meaning → Option Meaning
filter_named name [] = None
filter_named name (filter ∷ filters) = if pointwise ◌==◌ filter.name name then Some filter else filter_named name filters

-- how often a name occurs among these
abbrev pub occurrences : List ℕ → List (List ℕ) → ℕ
occurrences name names = count_by (λ (other : List ℕ). pointwise ◌==◌ other name) names

-- the first filter of a name was applied, and its turn rose
abbrev pub turned_named : List ℕ → List Meaning → List Meaning
turned_named name [] = []
turned_named name (filter ∷ filters) = if pointwise ◌==◌ filter.name name then turned filter ∷ filters else filter ∷ turned_named name filters

-- the filters of these names were applied, one after the other
abbrev pub turned_in_order : List (List ℕ) → List Meaning → List Meaning
turned_in_order [] filters = filters
turned_in_order (name ∷ names) filters = turned_in_order names (turned_named name filters)

-- of the names in order, the filters of some first ones were applied, and of no other
pub record TurnedSome (names : List (List ℕ)) (old new : List Meaning) : Type 0 where
  pub applied : List (List ℕ)
  pub others : List (List ℕ)
  pub all : names ≡ applied ++ others
  pub are : new ≡ turned_in_order applied old

-- ---- what a call answers that makes a page with filters. `meant` is the meaning of one filter; the filters are those before and after the call

-- an answer is the page's text, and the filters are those after the page
abbrev pub Makes : {X : Type 0} → (X → Meaning) → List X → List X → (List Meaning → Page) → Result (List ℕ) PageFault → Type 0
Makes meant old new making result = IfOk result (λ made. making (map meant old) ≡ (Ok made, map meant new))

-- a refusal is that memory ran out, or it is the page's fault, and the filters are those at that place
abbrev pub Refuses : {X : Type 0} {A : Type 0} → (X → Meaning) → List X → List X → (List Meaning → Page) → Result A PageFault → Type 0
Refuses meant old new making result = IfErr result (λ fault. (fault ≡ Memory) ⊎ (making (map meant old) ≡ (Err fault, map meant new)))

-- if memory ran out, some first ones of these names were applied
abbrev pub Halts : {X : Type 0} {A : Type 0} → (X → Meaning) → List X → List X → List (List ℕ) → Result A PageFault → Type 0
Halts meant old new names result = IfErr result (λ fault. fault ≡ Memory → TurnedSome names (map meant old) (map meant new))

-- the page leaves the filters as these become when some more of them are applied
abbrev pub IsOnward : List Meaning → Page → Type 0
IsOnward filters page = (later : List (List ℕ)) × (page.1 ≡ turned_in_order later filters)

-- if memory ran out, the filters are on the way to where the page leaves them
abbrev pub HaltsOnWay : {X : Type 0} {A : Type 0} → (X → Meaning) → List X → List X → (List Meaning → Page) → Result A PageFault → Type 0
HaltsOnWay meant old new making result = IfErr result (λ fault. fault ≡ Memory → IsOnward (map meant new) (making (map meant old)))

-- an answer is what the filter at this place makes of the text, which was then applied
abbrev pub Applies : {X : Type 0} {E : Type 0} → (X → Meaning) → List X → List X → ℕ → List ℕ → Result (List ℕ) E → Type 0
Applies meant old new place text result = IfOk result (λ made. ◌≡◌ {A = List ℕ × List Meaning} (made, map meant new) (applied_at place text (map meant old)))

-- if memory ran out, the filters are as they were
abbrev pub HaltsAsBefore : {X : Type 0} → (X → Meaning) → List X → List X → Result (List ℕ) PageFault → Type 0
HaltsAsBefore meant old new result = IfErr result (λ fault. fault ≡ Memory → map meant new ≡ map meant old)

-- the page of the template's tree
abbrev pub MakesPage : {X : Type 0} → (X → Meaning) → List X → List X → Face → Template → Result (List ℕ) PageFault → Type 0
MakesPage meant old new face template result = (tree : Tree) → template.steps ≡ tree_steps tree → Makes meant old new (page face tree) result

-- the first fault along the page of the template's tree
abbrev pub RefusesPage : {X : Type 0} → (X → Meaning) → List X → List X → Face → Template → Result (List ℕ) PageFault → Type 0
RefusesPage meant old new face template result = (tree : Tree) → template.steps ≡ tree_steps tree → Refuses meant old new (page face tree) result

-- if memory ran out, some first ones of the filters that the page shows were applied, from left to right
abbrev pub HaltsOnPage : {X : Type 0} → (X → Meaning) → List X → List X → Face → Template → Result (List ℕ) PageFault → Type 0
HaltsOnPage meant old new face template result = (tree : Tree) → template.steps ≡ tree_steps tree → Halts meant old new (shown_filters face tree) result

-- if memory ran out, the filters are on the way to where the page of the template's tree leaves them
abbrev pub HaltsBeforeEnd : {X : Type 0} → (X → Meaning) → List X → List X → Face → Template → Result (List ℕ) PageFault → Type 0
HaltsBeforeEnd meant old new face template result = (tree : Tree) → template.steps ≡ tree_steps tree → HaltsOnWay meant old new (page face tree) result

-- the filters are the same, in the same order, but for their turns
abbrev pub SameKinds : {X : Type 0} → (X → Meaning) → List X → List X → Type 0
SameKinds meant old new = kinds (map meant new) ≡ kinds (map meant old)

-- ---- the same, step by step. The number is how many sections are open from the outermost hidden one on

-- what the opening of a section adds: nothing, or its fault
abbrev pub open_page : Option (List ℕ) → List ℕ → List Meaning → Page
open_page None name filters = (Err (NoField name), filters)
open_page (Some value) name filters = (Ok [], filters)

-- what one step adds
abbrev pub step_page : Face → ℕ → Step → List Meaning → Page
step_page face zero (Words words) filters = (Ok words, filters)
step_page face zero (Field names name) filters = field_text face names name filters
step_page face zero (Open inverted name) filters = open_page (field_value face name) name filters
step_page face zero (Close name) filters = (Ok [], filters)
step_page face (suc hidden) step filters = (Ok [], filters)

-- how many sections are hidden after the opening of one, if none was before
abbrev pub hidden_section : Option (List ℕ) → Bool → ℕ
hidden_section None inverted = 1
hidden_section (Some value) inverted = if is_shown inverted value then 0 else 1

-- how many sections are hidden after a step
abbrev pub hidden_after : Face → ℕ → Step → ℕ
hidden_after face zero (Words words) = 0
hidden_after face zero (Field names name) = 0
hidden_after face zero (Open inverted name) = hidden_section (field_value face name) inverted
hidden_after face zero (Close name) = 0
hidden_after face (suc hidden) (Words words) = suc hidden
hidden_after face (suc hidden) (Field names name) = suc hidden
hidden_after face (suc hidden) (Open inverted name) = suc (suc hidden)
hidden_after face (suc hidden) (Close name) = hidden

-- the page of the steps
abbrev pub walk : Face → ℕ → List Step → List Meaning → Page
walk face hidden [] filters = (Ok [], filters)
walk face hidden (step ∷ steps) filters = followed (step_page face hidden step filters) (walk face (hidden_after face hidden step) steps)

-- the field is missing, and that is the fault
abbrev pub IsMissing : Option (List ℕ) → List ℕ → PageFault → Type 0
IsMissing value name fault = (value ≡ None) × (fault ≡ NoField name)

-- the filters that a step shows, in the order in which they are applied
abbrev pub step_filters : ℕ → Step → List (List ℕ)
step_filters zero (Words words) = []
step_filters zero (Field names name) = tag_filters names
step_filters zero (Open inverted name) = []
step_filters zero (Close name) = []
step_filters (suc hidden) step = []

-- those of all steps
abbrev pub walk_filters : Face → ℕ → List Step → List (List ℕ)
walk_filters face hidden [] = []
walk_filters face hidden (step ∷ steps) = step_filters hidden step ++ walk_filters face (hidden_after face hidden step) steps

-- the text that was made so far, with what a step adds to it
abbrev pub Adds : {X : Type 0} {A : Type 0} → (X → Meaning) → List X → List X → (List Meaning → Page) → List ℕ → List ℕ → Result A PageFault → Type 0
Adds meant old new adding before after result = IfOk result (λ done. prefixed before (adding (map meant old)) ≡ (Ok after, map meant new))

-- ---- whether a front shows anything of the note

-- a missing field counts as empty
abbrev pub is_filled : Face → List ℕ → Bool
is_filled face name = not (empty_value (unwrap_or (field_value face name) []))

-- some field is not empty, under no inverted section, and under sections of fields alone that are not empty
abbrev pub shows_in : Face → Tree → Bool
shows_in face End = false
shows_in face (Plain words after) = shows_in face after
shows_in face (Value names name after) = is_filled face name || shows_in face after
shows_in face (Section inverted name inside after) = ((not inverted && is_filled face name) && shows_in face inside) || shows_in face after

-- the same, step by step: how many sections are open, counted from the outermost that counts for nothing
abbrev pub idle_after : Face → ℕ → Step → ℕ
idle_after face zero (Words words) = 0
idle_after face zero (Field names name) = 0
idle_after face zero (Open inverted name) = if not inverted && is_filled face name then 0 else 1
idle_after face zero (Close name) = 0
idle_after face (suc idle) (Words words) = suc idle
idle_after face (suc idle) (Field names name) = suc idle
idle_after face (suc idle) (Open inverted name) = suc (suc idle)
idle_after face (suc idle) (Close name) = idle

-- a step shows something of the note
abbrev pub step_shows : Face → ℕ → Step → Bool
step_shows face zero (Words words) = false
step_shows face zero (Field names name) = is_filled face name
step_shows face zero (Open inverted name) = false
step_shows face zero (Close name) = false
step_shows face (suc idle) step = false

-- some step does
abbrev pub walk_shows : Face → ℕ → List Step → Bool
walk_shows face idle [] = false
walk_shows face idle (step ∷ steps) = step_shows face idle step || walk_shows face (idle_after face idle step) steps

-- What is known of a side when a template can't be read, or a page is made or has a fault.
use Rattle.std.specs.Prelude.{◌≡◌, ◌⊎◌, ℕ, false, true, List, Option, Some, None, Result, Ok, Err, IfErr}
use Rattle.std.specs.Option.{option_or}
use Rattle.std.proofs.Common.{refl, sym, ap, subst, ◌∙◌, inl, inr}
use Rattle.ak_edit.specs.DeskFaults.{of_page_fault}
use Rattle.ak_filters.specs.Meanings.{Meaning}
use Rattle.ak_pages.specs.CardPages.{IsOf, IsOnPage, RefusesShown, ShowsSide, back_face, side_fault}
use Rattle.ak_pages.specs.declared.shown_cards.ShownCard.{ShownCard}
use Rattle.ak_template.proofs.Grammars.{no_fault}
use Rattle.ak_template.specs.Grammar.{IsTemplate, first_fault}
use Rattle.ak_template.specs.Pages.{Page, page, passed}
use Rattle.ak_template.specs.Trees.{Tree, tree_steps}
use Rattle.ak_template.specs.declared.faces.Face.{Face}
use Rattle.ak_template.specs.declared.faces.PageFault.{PageFault}
use Rattle.ak_template.specs.declared.faces.PageFault.TheVariants as pages
use Rattle.ak_template.specs.declared.faults.TemplateFault.{TemplateFault}
use Rattle.ak_template.specs.declared.faults.TemplateFault.TheVariants as templates
use Rattle.ak_template.specs.declared.steps.Step.{Step}
use Rattle.ak_template.specs.declared.steps.Template.{Template}

-- how a page of the template was refused, for each tree that it is of
abbrev pub Refused : Face → Template → List Meaning → List Meaning → PageFault → Type 0
Refused face template before after fault =
    (tree : Tree) → template.steps ≡ tree_steps tree → (fault ≡ pages.Memory) ⊎ (page face tree before ≡ (Err fault, after))

-- where its filters are, if memory ran out
abbrev pub Halted : Face → Template → List Meaning → List Meaning → PageFault → Type 0
Halted face template before after fault =
    (tree : Tree) → template.steps ≡ tree_steps tree → fault ≡ pages.Memory → IsOnPage face tree before after

-- a page of the template was made, for each tree that it is of
abbrev pub Made : Face → Template → List Meaning → List Meaning → List ℕ → Type 0
Made face template before after text = (tree : Tree) → template.steps ≡ tree_steps tree → page face tree before ≡ (Ok text, after)

-- ---- the front
front_fault : (shown : ShownCard) (before after : List Meaning) (tree : Tree) (fault : PageFault) → IsTemplate shown.template.front tree
    → (fault ≡ pages.Memory) ⊎ (page shown.face tree before ≡ (Err fault, after)) → (fault ≡ pages.Memory → IsOnPage shown.face tree before after)
    → RefusesShown false shown before after (of_page_fault fault)
front_fault shown before after tree fault is (inl out) halted = inr (inr (ap of_page_fault out, inr (tree, is, halted out)))
front_fault shown before after tree fault is (inr made) halted = inr (inl (fault, refl, (tree, is, sym made)))

pub front_refused : (shown : ShownCard) (template : Template) (before after : List Meaning) (fault : PageFault) → IsOf shown.template.front template
    → Refused shown.face template before after fault → Halted shown.face template before after fault
    → RefusesShown false shown before after (of_page_fault fault)
front_refused shown template before after fault of refused halted =
    front_fault shown before after of.0 fault of.1 (refused of.0 of.2) (halted of.0 of.2)

-- ---- the back
-- what the back makes of the page of the front
abbrev on_back : ShownCard → Tree → Page → Page
on_back shown back made = passed made (λ text. page (back_face shown.face text) back)

first_fault_of : (shown : ShownCard) (before after : List Meaning) (front back : Tree) (fault : PageFault) → IsTemplate shown.template.front front
    → IsTemplate shown.template.back back → (fault ≡ pages.Memory) ⊎ (page shown.face front before ≡ (Err fault, after))
    → (fault ≡ pages.Memory → IsOnPage shown.face front before after) → RefusesShown true shown before after (of_page_fault fault)
first_fault_of shown before after front back fault is behind (inl out) halted = inr (inr (ap of_page_fault out, inr (inl (back, behind, (front, is, halted out)))))
first_fault_of shown before after front back fault is behind (inr made) halted =
    inr (inl (fault, refl, (front, back, is, behind, sym (ap (on_back shown back) made))))

pub first_refused : (shown : ShownCard) (front back : Template) (before after : List Meaning) (fault : PageFault) → IsOf shown.template.front front
    → IsOf shown.template.back back → Refused shown.face front before after fault → Halted shown.face front before after fault
    → RefusesShown true shown before after (of_page_fault fault)
first_refused shown front back before after fault of behind refused halted =
    first_fault_of shown before after of.0 behind.0 fault of.1 behind.1 (refused of.0 of.2) (halted of.0 of.2)

second_fault_of : (shown : ShownCard) (before between after : List Meaning) (text : List ℕ) (front back : Tree) (fault : PageFault)
    → IsTemplate shown.template.front front → IsTemplate shown.template.back back → page shown.face front before ≡ (Ok text, between)
    → (fault ≡ pages.Memory) ⊎ (page (back_face shown.face text) back between ≡ (Err fault, after))
    → (fault ≡ pages.Memory → IsOnPage (back_face shown.face text) back between after) → RefusesShown true shown before after (of_page_fault fault)
second_fault_of shown before between after text front back fault is behind made (inl out) halted =
    inr (inr (ap of_page_fault out, inr (inr (front, back, text, between, is, behind, made, halted out))))
second_fault_of shown before between after text front back fault is behind made (inr found) halted =
    inr (inl (fault, refl, (front, back, is, behind, sym (ap (on_back shown back) made ∙ found))))

pub second_refused : (shown : ShownCard) (front back : Template) (before between after : List Meaning) (text : List ℕ) (fault : PageFault)
    → IsOf shown.template.front front → IsOf shown.template.back back → Made shown.face front before between text
    → Refused (back_face shown.face text) back between after fault → Halted (back_face shown.face text) back between after fault
    → RefusesShown true shown before after (of_page_fault fault)
second_refused shown front back before between after text fault of behind made refused halted =
    second_fault_of shown before between after text of.0 behind.0 fault of.1 behind.1 (made of.0 of.2) (refused behind.0 behind.2) (halted behind.0 behind.2)

pub back_shown : (shown : ShownCard) (front back : Template) (before between after : List Meaning) (text whole : List ℕ)
    → IsOf shown.template.front front → IsOf shown.template.back back → Made shown.face front before between text
    → Made (back_face shown.face text) back between after whole → ShowsSide true shown before after whole
back_shown shown front back before between after text whole of behind made found =
    (of.0, behind.0, of.1, behind.1, sym (ap (on_back shown behind.0) (made of.0 of.2) ∙ found behind.0 behind.2))

-- the back can't be read
unread : (shown : ShownCard) (fault : TemplateFault) → first_fault shown.template.front ≡ None
    → (fault ≡ templates.Memory) ⊎ (first_fault shown.template.back ≡ Some fault) → (fault ≡ templates.Memory) ⊎ (side_fault true shown ≡ Some fault)
unread shown fault none (inl out) = inl out
unread shown fault none (inr found) = inr (ap (λ (first : Option TemplateFault). option_or first (first_fault shown.template.back)) none ∙ found)

back_fault : (shown : ShownCard) (front : Template) (result : Result Template TemplateFault) → IsOf shown.template.front front
    → IfErr result (λ fault. (fault ≡ templates.Memory) ⊎ (first_fault shown.template.back ≡ Some fault))
    → IfErr result (λ fault. (fault ≡ templates.Memory) ⊎ (side_fault true shown ≡ Some fault))
back_fault shown front (Ok template) of found = tt
back_fault shown front (Err fault) of found = unread shown fault (no_fault shown.template.front of.0 of.1) found

pub back_unread : (shown : ShownCard) (front : Template) (text : List ℕ) (result : Result Template TemplateFault) → IsOf shown.template.front front
    → text ≡ shown.template.back → IfErr result (λ fault. (fault ≡ templates.Memory) ⊎ (first_fault text ≡ Some fault))
    → IfErr result (λ fault. (fault ≡ templates.Memory) ⊎ (side_fault true shown ≡ Some fault))
back_unread shown front text result of same found =
    back_fault shown front result of (subst (λ (read : List ℕ). IfErr result (λ fault. (fault ≡ templates.Memory) ⊎ (first_fault read ≡ Some fault))) same found)

-- A walk along the fronts finds the ords of all; a walk along the templates reads all fronts, and finds their first fault.
use Rattle.std.proofs.Common.{◌≡◌, ℕ, zero, suc, ◌+◌, ◌<◌, ◌≤◌, ℤ, pos, List, [], ◌∷◌, ◌++◌, length, drop, take, get_or, refl, sym, ap, subst, ◌∙◌, append_assoc, append-nil, add-one, arith, Bool, true, false, cond, Result, IfOk}
use Rattle.std.proofs.lemmas.List.{drop_all}
use Rattle.std.specs.Prelude.{Option, None}
use Rattle.std.specs.List.{slice_index_or}
use Rattle.std.specs.Option.{option_or}
use Rattle.ak_base.specs.declared.note_types.CardTemplate.{CardTemplate}
use Rattle.ak_base.specs.declared.note_types.FieldDef.{FieldDef}
use Rattle.ak_base.specs.declared.note_types.NoteType.{NoteType}
use Rattle.ak_cardgen.specs.declared.fronts.Fronts.{Fronts}
use Rattle.ak_cardgen.specs.Generation.{pair_of, pairs, AreFronts, AreFrontsOf, AreShown, AreClozed, AreOrdsBy, place_of, fronts_fault, numbers_in, ords_below}
use Rattle.ak_template.proofs.Running.{first_left}
use Rattle.ak_template.specs.Grammar.{IsTemplate, first_fault}
use Rattle.ak_template.specs.Trees.{Tree, tree_steps}
use Rattle.ak_template.specs.declared.faces.Face.{Face}
use Rattle.ak_template.specs.declared.faces.Pair.{Pair}
use Rattle.ak_template.specs.declared.faults.TemplateFault.{TemplateFault}
use Rattle.ak_template.specs.declared.steps.Template.{Template}

-- ---- the pairs of a note

drop_none : (n : ℕ) → ◌≡◌ {A = List (List ℕ)} (drop n []) []
drop_none zero = refl
drop_none (suc n) = refl

pairs_next : (defs : List FieldDef) (texts : List (List ℕ)) (place : ℕ) (def : FieldDef) (text : List ℕ) → place < length defs → def ≡ get_or defs place def → text ≡ slice_index_or texts place [] → pairs (drop place defs) (drop place texts) ≡ pair_of def text ∷ pairs (drop (suc place) defs) (drop (suc place) texts)
pairs_next [] texts place def text l d t = absurd (omega (arith, l))
pairs_next (first ∷ defs) [] zero def text l d t = ap (λ (x : FieldDef). pair_of x [] ∷ pairs defs []) (sym d) ∙ ap (λ x. pair_of def x ∷ pairs defs []) (sym t)
pairs_next (first ∷ defs) (value ∷ texts) zero def text l d t = ap (λ (x : FieldDef). pair_of x value ∷ pairs defs texts) (sym d) ∙ ap (λ x. pair_of def x ∷ pairs defs texts) (sym t)
pairs_next (first ∷ defs) [] (suc place) def text l d t =
    let later : pairs (drop place defs) (drop place []) ≡ pair_of def text ∷ pairs (drop (suc place) defs) (drop (suc place) []) = pairs_next defs [] place def text (omega arith) d t in
    ap (pairs (drop place defs)) (sym (drop_none place)) ∙ later
pairs_next (first ∷ defs) (value ∷ texts) (suc place) def text l d t = pairs_next defs texts place def text (omega arith) d t

pub pairs_step : (defs : List FieldDef) (texts : List (List ℕ)) (place : ℕ) (def : FieldDef) (text : List ℕ) (made later whole : List Pair) → place < length defs → def ≡ get_or defs place def → text ≡ slice_index_or texts place [] → later ≡ made ++ (pair_of def text ∷ []) → made ++ pairs (drop place defs) (drop place texts) ≡ whole → later ++ pairs (drop (place + 1) defs) (drop (place + 1) texts) ≡ whole
pairs_step defs texts place def text made later whole l d t m w =
    ap (λ (n : ℕ). later ++ pairs (drop n defs) (drop n texts)) (add-one place)
    ∙ ap (λ (ps : List Pair). ps ++ pairs (drop (suc place) defs) (drop (suc place) texts)) m
    ∙ append_assoc made (pair_of def text ∷ []) (pairs (drop (suc place) defs) (drop (suc place) texts))
    ∙ ap (λ (ps : List Pair). made ++ ps) (sym (pairs_next defs texts place def text l d t))
    ∙ w

-- ---- the fronts are read

-- what the fronts so far are to all of them
abbrev pub ReadsOn : ℕ → List CardTemplate → List Template → Type 0
ReadsOn at templates fronts = (rest : List Template) → AreFronts (drop at templates) rest → AreFronts templates (fronts ++ rest)

pub read_end : (at : ℕ) (templates : List CardTemplate) (fronts : List Template) → length templates ≤ at → ReadsOn at templates fronts → AreFronts templates fronts
read_end at templates fronts h goes =
    let none : AreFronts (drop at templates) [] = subst (λ (ts : List CardTemplate). AreFronts ts []) (sym (drop_all at templates h)) tt in
    subst (AreFronts templates) (append-nil fronts) (goes [] none)

pub read_step : (at : ℕ) (templates : List CardTemplate) (template : CardTemplate) (fronts made : List Template) (front : Template) (tree : Tree) → at < length templates → template ≡ get_or templates at template → IsTemplate template.front tree → front.steps ≡ tree_steps tree → made ≡ fronts ++ (front ∷ []) → ReadsOn at templates fronts → ReadsOn (at + 1) templates made
read_step at templates template fronts made front tree h is reads lays added goes rest others =
    let here : AreFronts (template ∷ drop (at + 1) templates) (front ∷ rest) = ((tree, reads, lays), others) in
    let all : AreFronts templates (fronts ++ (front ∷ rest)) = goes (front ∷ rest) (subst (λ (ts : List CardTemplate). AreFronts ts (front ∷ rest)) (sym (first_left templates at template h is)) here) in
    subst (AreFronts templates) (sym (append_assoc fronts (front ∷ []) rest) ∙ ap (λ (fs : List Template). fs ++ rest) (sym added)) all

pub none_step : (at : ℕ) (templates : List CardTemplate) (template : CardTemplate) → at < length templates → template ≡ get_or templates at template → first_fault template.front ≡ None → fronts_fault (drop at templates) ≡ fronts_fault templates → fronts_fault (drop (at + 1) templates) ≡ fronts_fault templates
none_step at templates template h is none so_far =
    sym (ap (λ (o : Option TemplateFault). option_or o (fronts_fault (drop (at + 1) templates))) none) ∙ sym (ap fronts_fault (first_left templates at template h is)) ∙ so_far

pub one_front : (templates : List CardTemplate) (template : CardTemplate) (others : List CardTemplate) (fronts : List Template) (front : Template) (tree : Tree) → templates ≡ template ∷ others → IsTemplate template.front tree → front.steps ≡ tree_steps tree → fronts ≡ front ∷ [] → AreFronts (take 1 templates) fronts
one_front templates template others fronts front tree t reads lays f =
    let here : AreFronts (take 1 (template ∷ others)) (front ∷ []) = ((tree, reads, lays), tt) in
    subst (λ (fs : List Template). AreFronts (take 1 templates) fs) (sym f) (subst (λ (ts : List CardTemplate). AreFronts (take 1 ts) (front ∷ [])) (sym t) here)

-- ---- the ords are found

-- what the ords so far are to all of them
abbrev pub ShowsOn : Face → ℕ → List CardTemplate → List ℤ → Type 0
ShowsOn face place templates ords = (rest : List ℤ) → AreShown face place (drop place templates) rest → AreShown face 0 templates (ords ++ rest)

-- the template at the place of a front, and the front's tree
front_at : (templates : List CardTemplate) (fronts : List Template) (place : ℕ) (front : Template) → AreFronts templates fronts → place < length fronts → front ≡ get_or fronts place front → (template : CardTemplate) × (tree : Tree) × IsTemplate template.front tree × (front.steps ≡ tree_steps tree) × (drop place templates ≡ template ∷ drop (suc place) templates)
front_at [] [] place front h l is = absurd (omega (arith, l))
front_at [] (first ∷ fronts) place front h l is = absurd h
front_at (template ∷ templates) [] place front h l is = absurd h
front_at (template ∷ templates) (first ∷ fronts) zero front h l is = (template, h.0.0, h.0.1, ap (λ (t : Template). t.steps) is ∙ h.0.2, refl)
front_at (template ∷ templates) (first ∷ fronts) (suc place) front h l is = front_at templates fronts place front h.1 (omega arith) is

all_matched : (templates : List CardTemplate) (fronts : List Template) → AreFronts templates fronts → length templates ≡ length fronts
all_matched [] [] h = refl
all_matched [] (front ∷ fronts) h = absurd h
all_matched (template ∷ templates) [] h = absurd h
all_matched (template ∷ templates) (front ∷ fronts) h = ap suc (all_matched templates fronts h.1)

pub shown_end : (face : Face) (place : ℕ) (templates : List CardTemplate) (fronts : List Template) (ords : List ℤ) → AreFronts templates fronts → length fronts ≤ place → ShowsOn face place templates ords → AreShown face 0 templates ords
shown_end face place templates fronts ords are h goes =
    let short : length templates ≤ place = omega (arith, h, all_matched templates fronts are) in
    let none : AreShown face place (drop place templates) [] = subst (λ (ts : List CardTemplate). AreShown face place ts []) (sym (drop_all place templates short)) refl in
    subst (λ (os : List ℤ). AreShown face 0 templates os) (append-nil ords) (goes [] none)

pub shown_step : (face : Face) (place : ℕ) (templates : List CardTemplate) (fronts : List Template) (front : Template) (ords made : List ℤ) → AreFronts templates fronts → place < length fronts → front ≡ get_or fronts place front → ((tree : Tree) → front.steps ≡ tree_steps tree → made ≡ ords ++ place_of face (pos place) tree) → ShowsOn face place templates ords → ShowsOn face (place + 1) templates made
shown_step face place templates fronts front ords made are h is added goes rest shown =
    let found = front_at templates fronts place front are h is in
    let others : AreShown face (suc place) (drop (suc place) templates) rest = subst (λ (n : ℕ). AreShown face n (drop n templates) rest) (add-one place) shown in
    let here : AreShown face place (found.0 ∷ drop (suc place) templates) (place_of face (pos place) found.1 ++ rest) = (found.1, rest, found.2, refl, others) in
    let all : AreShown face 0 templates (ords ++ (place_of face (pos place) found.1 ++ rest)) = goes _ (subst (λ (ts : List CardTemplate). AreShown face place ts (place_of face (pos place) found.1 ++ rest)) (sym found.4) here) in
    subst (λ (os : List ℤ). AreShown face 0 templates os) (sym (append_assoc ords (place_of face (pos place) found.1) rest) ∙ ap (λ (os : List ℤ). os ++ rest) (sym (added found.1 found.3))) all

-- ---- a cloze type

pub clozed_none : (face : Face) (templates : List CardTemplate) (fronts : List Template) (ords : List ℤ) → fronts ≡ [] → ords ≡ [] → AreFronts (take 1 templates) fronts → AreClozed face templates ords
clozed_none face [] fronts ords f o are = o
clozed_none face (template ∷ templates) fronts ords f o are =
    let none : AreFronts (template ∷ []) [] = subst (AreFronts (template ∷ [])) f are in
    absurd none

pub clozed_some : (face : Face) (templates : List CardTemplate) (fronts others : List Template) (front : Template) (ords : List ℤ) → fronts ≡ front ∷ others → ords ≡ ords_below 500 (numbers_in face front.steps) → AreFronts (take 1 templates) fronts → AreClozed face templates ords
clozed_some face [] fronts others front ords f o are =
    let none : AreFronts [] (front ∷ others) = subst (AreFronts []) f are in
    absurd none
clozed_some face (template ∷ templates) fronts others front ords f o are =
    let one : AreFronts (template ∷ []) (front ∷ others) = subst (AreFronts (template ∷ [])) f are in
    (one.0.0, one.0.1, o ∙ ap (λ steps. ords_below 500 (numbers_in face steps)) one.0.2)

-- ---- both

pub ords_clozed : {E : Type 0} (note_type : NoteType) (fronts : Fronts) (face : Face) (r : Result (List ℤ) E) → fronts.cloze ≡ true → AreFrontsOf note_type fronts → ((templates : List CardTemplate) → AreFronts (take 1 templates) fronts.fronts → IfOk r (AreClozed face templates)) → IfOk r (AreOrdsBy note_type.cloze face note_type.templates)
ords_clozed note_type fronts face r c are h =
    let cloze : note_type.cloze ≡ true = sym are.cloze ∙ c in
    let P : Bool → Type 0 = λ v. AreFronts (cond v (take 1 note_type.templates) note_type.templates) fronts.fronts in
    let Q : Bool → Type 0 = λ v. IfOk r (AreOrdsBy v face note_type.templates) in
    subst Q (sym cloze) (h note_type.templates (subst P cloze are.fronts))

pub ords_shown : {E : Type 0} (note_type : NoteType) (fronts : Fronts) (face : Face) (r : Result (List ℤ) E) → fronts.cloze ≡ false → AreFrontsOf note_type fronts → ((templates : List CardTemplate) → AreFronts templates fronts.fronts → IfOk r (AreShown face 0 templates)) → IfOk r (AreOrdsBy note_type.cloze face note_type.templates)
ords_shown note_type fronts face r c are h =
    let cloze : note_type.cloze ≡ false = sym are.cloze ∙ c in
    let P : Bool → Type 0 = λ v. AreFronts (cond v (take 1 note_type.templates) note_type.templates) fronts.fronts in
    let Q : Bool → Type 0 = λ v. IfOk r (AreOrdsBy v face note_type.templates) in
    subst Q (sym cloze) (h note_type.templates (subst P cloze are.fronts))

pub fronts_of : (note_type : NoteType) (fronts : Fronts) (v : Bool) → note_type.cloze ≡ v → fronts.cloze ≡ v → AreFronts (cond v (take 1 note_type.templates) note_type.templates) fronts.fronts → AreFrontsOf note_type fronts
fronts_of note_type fronts v n c h =
    let P : Bool → Type 0 = λ w. AreFronts (cond w (take 1 note_type.templates) note_type.templates) fronts.fronts in
    record { cloze = c ∙ sym n; fronts = subst P (sym n) h }

-- A fault is at a place inside the text.
use Rattle.std.proofs.Common.{◌≡◌, ℕ, zero, suc, ◌+◌, ◌-◌, ◌<◌, ◌≤◌, ◌⊎◌, inl, inr, true, false, ◌==◌, nat_lt, cond, Option, Some, None, IfSome, Result, Ok, Err, IfErr, List, [], ◌∷◌, ◌++◌, length, get_or, length-append, refl, ap, sym, subst, arith}
use Rattle.std.specs.Prelude.{⊤, codes}
use Rattle.std.specs.Option.{option_map, option_or}
use Rattle.std.proofs.lemmas.Option.{slice_get-get_or}
use Rattle.ak_base.specs.Cuts.{behind}
use Rattle.ak_template.specs.declared.steps.Step.TheVariants.{Words, Field, Open, Close}
use Rattle.ak_template.specs.declared.faults.TemplateFault.{TemplateFault}
use Rattle.ak_template.specs.declared.faults.TemplateFault.TheVariants as faults
use Rattle.ak_template.specs.declared.builders.Opened.{Opened}
use Rattle.ak_template.specs.Pieces.{Piece, has_tag, before_tag, inside_tag, behind_tag, words_at, pieces_in, pieces, tag_of, trimmed}
use Rattle.ak_template.specs.Grammar.{fault_number, fault_place, closes, fault_at, opened, outside, unclosed, fault_in, first_fault, IsFaultOf}
use Rattle.ak_template.proofs.Writing.{opens, cut_whole}

-- a fault of a text of that length
abbrev InText : ℕ → TemplateFault → Type 0
InText bound fault = (0 < fault_number fault) × (fault_place fault < bound)

abbrev SectionsIn : ℕ → List Opened → Type 0
SectionsIn bound [] = ⊤
SectionsIn bound (section ∷ sections) = (section.place < bound) × SectionsIn bound sections

abbrev PiecesIn : ℕ → List Piece → Type 0
PiecesIn bound [] = ⊤
PiecesIn bound (piece ∷ pieces) = (piece.0 < bound) × PiecesIn bound pieces

section_in : (bound : ℕ) (sections : List Opened) (i : ℕ) (d : Opened) → SectionsIn bound sections → i < length sections → (get_or sections i d).place < bound
section_in bound [] i d h l = absurd (omega (arith, l))
section_in bound (section ∷ sections) zero d h l = h.0
section_in bound (section ∷ sections) (suc i) d h l = section_in bound sections i d h.1 (omega arith)

unclosed_in : (bound : ℕ) (sections : List Opened) → SectionsIn bound sections → IfSome (unclosed sections) (InText bound)
unclosed_in bound [] h = tt
unclosed_in bound (section ∷ sections) h =
    let last = slice_get-get_or (section ∷ sections) (length (section ∷ sections) - 1) section (omega arith) in
    let P : Option Opened → Type 0 = λ o. IfSome (option_map (λ (s : Opened). faults.Unclosed s.place) o) (InText bound) in
    subst P (sym last) (omega arith, section_in bound (section ∷ sections) (length (section ∷ sections) - 1) section h (omega arith))

outside_in : (bound : ℕ) (sections : List Opened) → SectionsIn bound sections → SectionsIn bound (outside sections)
outside_in bound [] h = tt
outside_in bound (section ∷ sections) h = h.1

opened_in : (bound : ℕ) (sections : List Opened) (piece : Piece) → piece.0 < bound → SectionsIn bound sections → SectionsIn bound (opened sections piece)
opened_in bound sections (place, None) l h = h
opened_in bound sections (place, Some (Words words)) l h = h
opened_in bound sections (place, Some (Field filters name)) l h = h
opened_in bound sections (place, Some (Open inverted name)) l h = (l, h)
opened_in bound sections (place, Some (Close name)) l h = outside_in bound sections h

at_in : (bound : ℕ) (sections : List Opened) (piece : Piece) → piece.0 < bound → IfSome (fault_at sections piece) (InText bound)
at_in bound sections (place, None) l = (omega arith, l)
at_in bound sections (place, Some (Words words)) l = tt
at_in bound sections (place, Some (Field filters name)) l = tt
at_in bound sections (place, Some (Open inverted name)) l = elim (nat_lt (length sections) 32) as (λ v. IfSome (cond v None (Some (faults.TooDeep place))) (InText bound)) [ true ↦ tt | false ↦ (omega arith, l) ]
at_in bound sections (place, Some (Close name)) l = elim (closes sections name) as (λ v. IfSome (cond v None (Some (faults.WrongClose place))) (InText bound)) [ true ↦ tt | false ↦ (omega arith, l) ]

or_in : (bound : ℕ) (one other : Option TemplateFault) → IfSome one (InText bound) → IfSome other (InText bound) → IfSome (option_or one other) (InText bound)
or_in bound None other h k = k
or_in bound (Some fault) other h k = h

faults_in : (bound : ℕ) (sections : List Opened) (ps : List Piece) → SectionsIn bound sections → PiecesIn bound ps → IfSome (fault_in sections ps) (InText bound)
faults_in bound sections [] h k = unclosed_in bound sections h
faults_in bound sections (piece ∷ ps) h k = or_in bound (fault_at sections piece) (fault_in (opened sections piece) ps) (at_in bound sections piece k.0) (faults_in bound (opened sections piece) ps (opened_in bound sections piece k.0 h) k.1)

-- ---- the pieces are inside the text

words_here : (place b : ℕ) (bs : List ℕ) → words_at place (b ∷ bs) ≡ (place, Some (Words (b ∷ bs))) ∷ []
words_here place b bs = let some : (length (b ∷ bs) == 0) ≡ false = grind arith in ap (λ v. cond v [] ((place, Some (Words (b ∷ bs))) ∷ [])) some

words_in : (bound place : ℕ) (text : List ℕ) (ps : List Piece) → (0 < length text → place < bound) → PiecesIn bound ps → PiecesIn bound (words_at place text ++ ps)
words_in bound place [] ps h k = k
words_in bound place (b ∷ bs) ps h k = let P : List Piece → Type 0 = λ qs. PiecesIn bound (qs ++ ps) in subst P (sym (words_here place b bs)) (h (omega arith), k)

before_shorter : (text : List ℕ) → has_tag text ≡ true → length (before_tag text) + 2 ≤ length text
before_shorter text h =
    let whole = ap length (cut_whole (codes "{{") text (opens text h)) in
    omega (arith, whole, length-append (before_tag text) (codes "{{" ++ behind (codes "{{") text))

behind_shorter : (text : List ℕ) → has_tag text ≡ true → length (behind_tag text) ≤ length text
behind_shorter text h =
    let whole = ap length (cut_whole (codes "{{") text (opens text h)) in
    let inner = ap length (cut_whole (codes "}}") (behind (codes "{{") text) h) in
    omega (arith, whole, inner, length-append (before_tag text) (codes "{{" ++ behind (codes "{{") text), length-append (inside_tag text) (codes "}}" ++ behind_tag text))

words_alone : (size : ℕ) (text : List ℕ) → length text ≤ size → PiecesIn size (words_at (size - length text) text)
words_alone size [] l = tt
words_alone size (b ∷ bs) l = subst (PiecesIn size) (sym (words_here (size - length (b ∷ bs)) b bs)) (omega (arith, l), tt)

pieces_within : (n size : ℕ) (text : List ℕ) → length text ≤ size → PiecesIn size (pieces_in n size text)
pieces_within zero size text l = words_alone size text l
pieces_within (suc n) size text l = elim (has_tag text) as (λ v. has_tag text ≡ v → PiecesIn size (cond v (words_at (size - length text) (before_tag text) ++ ((size - length text + length (before_tag text), tag_of (trimmed (inside_tag text))) ∷ pieces_in n size (behind_tag text))) (words_at (size - length text) text))) [
  | true ↦ λ h. words_in size (size - length text) (before_tag text) _ (λ k. omega (arith, l, before_shorter text h)) (omega (arith, l, before_shorter text h), pieces_within n size (behind_tag text) (omega (arith, l, behind_shorter text h)))
  | false ↦ λ h. words_alone size text l
] refl

-- ---- the whole

within : (text : List ℕ) (fault : TemplateFault) → first_fault text ≡ Some fault → InText (length text) fault
within text fault e = let P : Option TemplateFault → Type 0 = λ o. IfSome o (InText (length text)) in subst P e (faults_in (length text) [] (pieces text) tt (pieces_within (length text) (length text) text (omega arith)))

pub first_within : (text : List ℕ) (fault : TemplateFault) → first_fault text ≡ Some fault → IsFaultOf text fault
first_within text fault e = let found = within text fault e in record { number = found.0; within = found.1 }

pub refused_within : {A : Type 0} (text : List ℕ) (r : Result A TemplateFault) → IfErr r (λ fault. (fault ≡ faults.Memory) ⊎ (first_fault text ≡ Some fault)) → IfErr r (λ fault. (fault ≡ faults.Memory) ⊎ (fault_place fault < length text))
refused_within text (Ok x) h = tt
refused_within text (Err fault) (inl m) = inl m
refused_within text (Err fault) (inr e) = inr (within text fault e).1

-- The pieces that a text is cut into: plain words and tags, each with its place.
use Rattle.std.specs.Prelude.{ℕ, zero, suc, ◌+◌, ◌-◌, ◌==◌, Bool, true, false, if◌then◌else◌, List, [], ◌∷◌, ◌++◌, length, drop, Option, Some, None, codes}
use Rattle.std.specs.List.{slice_split}
use Rattle.ak_base.specs.Cuts.{begins, has, front, behind}
use Rattle.ak_template.specs.declared.steps.Step.{Step}
use Rattle.ak_template.specs.declared.steps.Step.TheVariants.{Words, Field, Open, Close}

-- a tag opens at the first `{{` and ends at the next `}}`
abbrev pub has_tag : List ℕ → Bool
has_tag text = has (codes "}}") (behind (codes "{{") text)

-- the text before the first tag
abbrev pub before_tag : List ℕ → List ℕ
before_tag text = front (codes "{{") text

-- the inside of the first tag
abbrev pub inside_tag : List ℕ → List ℕ
inside_tag text = front (codes "}}") (behind (codes "{{") text)

-- the text after the first tag
abbrev pub behind_tag : List ℕ → List ℕ
behind_tag text = behind (codes "}}") (behind (codes "{{") text)

-- the bytes of a text that is cut at a tag: the two braces on each side too
abbrev pub tag_length : List ℕ → List ℕ → List ℕ → ℕ
tag_length before inside after = length before + 2 + length inside + 2 + length after

-- without the spaces at its front
abbrev pub without_front : List ℕ → List ℕ
without_front [] = []
without_front (byte ∷ bytes) = if begins (codes " ") (byte ∷ bytes) then without_front bytes else byte ∷ bytes

-- a byte before others; a space before none goes
abbrev pub joined : ℕ → List ℕ → List ℕ
joined byte [] = if byte == 32 then [] else byte ∷ []
joined byte (other ∷ bytes) = byte ∷ (other ∷ bytes)

-- without the spaces at its back
abbrev pub without_back : List ℕ → List ℕ
without_back [] = []
without_back (byte ∷ bytes) = joined byte (without_back bytes)

-- without the spaces at its ends
abbrev pub trimmed : List ℕ → List ℕ
trimmed text = without_back (without_front text)

-- a tag that bears a name, which is not empty
abbrev pub named : (List ℕ → Step) → List ℕ → Option Step
named tag name = if length name == 0 then None else Some (tag name)

-- the tag of a field, after these filters, by the parts that are left between colons: the last one is the field's name, each other one a
-- filter. None, if a part is empty
abbrev pub field_parts : List (List ℕ) → List (List ℕ) → Option Step
field_parts filters [] = None
field_parts filters (name ∷ []) = named (Field filters) name
field_parts filters (filter ∷ part ∷ parts) = if length filter == 0 then None else field_parts (filters ++ filter ∷ []) (part ∷ parts)

-- a field's tag splits at each colon
abbrev pub field_tag : List ℕ → Option Step
field_tag inside = field_parts [] (slice_split (λ byte. byte == 58) inside)

-- the tag of an inside; none, if the inside or its name is empty
abbrev pub tag_of : List ℕ → Option Step
tag_of inside =
    if begins (codes "#") inside then named (Open false) (drop 1 inside)
    else (if begins (codes "^") inside then named (Open true) (drop 1 inside)
    else (if begins (codes "/") inside then named Close (drop 1 inside)
    else field_tag inside))

-- a place in the text, and the step there; none for a tag that is empty
abbrev pub Piece : Type 0
Piece = ℕ × Option Step

-- plain words at a place, if there are any
abbrev pub words_at : ℕ → List ℕ → List Piece
words_at place text = if length text == 0 then [] else (place, Some (Words text)) ∷ []

-- the words before a tag, the tag at this place, and the other pieces
abbrev pub with_tag : ℕ → List ℕ → ℕ → List ℕ → List Piece → List Piece
with_tag front words place inside others = words_at front words ++ ((place, tag_of (trimmed inside)) ∷ others)

-- the pieces of what is left of a text of that size. The first number bounds the tags; the size is enough
abbrev pub pieces_in : ℕ → ℕ → List ℕ → List Piece
pieces_in zero size text = words_at (size - length text) text
pieces_in (suc more) size text =
    if has_tag text then
    words_at (size - length text) (before_tag text)
    ++ ((size - length text + length (before_tag text), tag_of (trimmed (inside_tag text))) ∷ pieces_in more size (behind_tag text))
    else words_at (size - length text) text

-- the pieces of a text
abbrev pub pieces : List ℕ → List Piece
pieces text = pieces_in (length text) (length text) text

-- the step of plain words, if there are any
abbrev pub words_step : List ℕ → List Step
words_step text = if length text == 0 then [] else Words text ∷ []

-- the steps that pieces are
abbrev pub steps_in : List Piece → List Step
steps_in [] = []
steps_in ((place, None) ∷ pieces) = steps_in pieces
steps_in ((place, Some step) ∷ pieces) = step ∷ steps_in pieces

-- The clozes of a field: `{{cN::text}}` and `{{cN::text::hint}}`.
use Rattle.std.specs.Prelude.{◌≡◌, ⊤, ◌<◌, ◌+ℤ◌, ◌≤ℤ◌, ◌<ℤ◌, ℕ, zero, suc, ◌+◌, ◌-◌, ◌*◌, ◌==◌, ◌&&◌, nat_lt, Bool, false, ◌||◌, if◌then◌else◌, List, [], ◌∷◌, ◌++◌, length, drop, Option, Some, None, codes, ℤ, pos}
use Rattle.std.specs.Fmt.{decimal}
use Rattle.std.specs.Option.{MatchOption}
use denote.Ref.{Bor}
use Rattle.std.specs.Ordering.{int_eq}
use Rattle.ak_template.specs.declared.clozes.Part.{Part}
use Rattle.ak_template.specs.declared.clozes.Part.TheVariants.{Bare, Gap}
use Rattle.ak_base.specs.Cuts.{begins, has, front, behind}

-- a digit in front, and what follows it
abbrev pub digit_front : List ℕ → Option (ℕ × List ℕ)
digit_front [] = None
digit_front (byte ∷ bytes) = if nat_lt 47 byte && nat_lt byte 58 then Some (byte - 48, bytes) else None

-- a number that a cloze may have
abbrev pub is_number : ℕ → Bool
is_number number = nat_lt 0 number && nat_lt number 501

-- a number from 1 to 500 without a leading zero that `::` ends, and what follows that. The first number is
-- what the digits before gave: as none leads with 0, each front of them is from 1 to 500
abbrev pub number_at : ℕ → List ℕ → Option (ℕ × List ℕ)
number_at number [] = None
number_at number (byte ∷ bytes) =
    if begins (codes "::") (byte ∷ bytes) then (if nat_lt 0 number then Some (number, drop 1 bytes) else None)
    else (if nat_lt 47 byte && nat_lt byte 58 then (if is_number (number * 10 + (byte - 48)) then number_at (number * 10 + (byte - 48)) bytes else None) else None)

-- what a `{{c` begins, by what was read of the number after it: a gap up to the next `}}`, and what is left to be
-- read; or bare words. With no `}}` left there is no gap any more, and nothing is left
abbrev pub marked : Option (ℕ × List ℕ) → List ℕ → List Part × Option (List ℕ)
marked None text = (Bare (codes "{{c") ∷ [], Some text)
marked (Some found) text =
    if has (codes "}}") found.1 then (Gap found.0 (front (codes "}}") found.1) ∷ [], Some (behind (codes "}}") found.1))
    else (Bare (codes "{{c") ∷ (Bare text ∷ []), None)

-- the same, by the text after the `{{c`
abbrev pub mark_parts : List ℕ → List Part × Option (List ℕ)
mark_parts text = marked (number_at 0 text) text

-- the text that is left to be read, in the place where it is kept
abbrev pub IsLeft : Option (List ℕ) → Option (Bor (List ℕ)) → Type 0
IsLeft left kept = MatchOption kept (left ≡ None) (λ rest. left ≡ Some rest.now)

-- the parts of what is left to be read
abbrev pub left_in : (List ℕ → List Part) → Option (List ℕ) → List Part
left_in reads None = []
left_in reads (Some text) = reads text

-- bare words and gaps, in order. The first number bounds the gaps; the length is enough
abbrev pub parts_in : ℕ → List ℕ → List Part
parts_in zero text = Bare text ∷ []
parts_in (suc more) text =
    if has (codes "{{c") text then
    Bare (front (codes "{{c") text) ∷ ((mark_parts (behind (codes "{{c") text)).0 ++ left_in (parts_in more) (mark_parts (behind (codes "{{c") text)).1)
    else Bare text ∷ []

-- the parts of a field
abbrev pub parts : List ℕ → List Part
parts text = parts_in (length text) text

-- the first `::` of a gap ends its text, and all that follows it is the hint
abbrev pub gap_hint : List ℕ → List ℕ
gap_hint inside = if has (codes "::") inside then behind (codes "::") inside else codes "..."

-- a cloze that is shown
abbrev pub spanned : List ℕ → List ℕ
spanned text = codes "<span class=cloze>" ++ (text ++ codes "</span>")

-- a cloze that is hidden
abbrev pub hinted : List ℕ → List ℕ
hinted hint = codes "<span class=cloze>[" ++ (hint ++ codes "]</span>")

-- what the card of that number shows, on its back or its front
abbrev pub gap_text : Bool → ℤ → ℤ → List ℕ → List ℕ
gap_text back card number inside =
    if int_eq number card then (if back then spanned (front (codes "::") inside) else hinted (gap_hint inside))
    else front (codes "::") inside

-- what a card shows of a part
abbrev pub part_text : Bool → ℤ → Part → List ℕ
part_text back card (Bare words) = words
part_text back card (Gap number inside) = gap_text back card (pos number) inside

-- what a card shows of the parts
abbrev pub parts_text : Bool → ℤ → List Part → List ℕ
parts_text back card [] = []
parts_text back card (part ∷ others) = part_text back card part ++ parts_text back card others

-- what a card shows of a field
abbrev pub clozed : Bool → ℤ → List ℕ → List ℕ
clozed back card text = parts_text back card (parts text)

-- ---- the text of the parts

-- a part as it was written
abbrev pub part_written : Part → List ℕ
part_written (Bare words) = words
part_written (Gap number inside) = codes "{{c" ++ (decimal number ++ (codes "::" ++ (inside ++ codes "}}")))

-- the parts as they were written, one after the other
abbrev pub parts_written : List Part → List ℕ
parts_written [] = []
parts_written (part ∷ others) = part_written part ++ parts_written others

-- each gap ends at its first `}}`, and has a number from 1 to 500
abbrev pub AreGaps : List Part → Type 0
AreGaps [] = ⊤
AreGaps (Bare words ∷ others) = AreGaps others
AreGaps (Gap number inside ∷ others) = (has (codes "}}") inside ≡ false) × (0 < number) × (number < 501) × AreGaps others

-- ---- which numbers the gaps have

-- ascending, each at least the low one and below the high one
abbrev pub AscendsWithin : ℤ → ℤ → List ℤ → Type 0
AscendsWithin low high [] = ⊤
AscendsWithin low high (first ∷ others) = (low ≤ℤ first) × (first <ℤ high) × AscendsWithin (first +ℤ pos 1) high others

-- the numbers of the gaps, in order
abbrev pub gaps : List Part → List ℕ
gaps [] = []
gaps (Bare words ∷ others) = gaps others
gaps (Gap number inside ∷ others) = number ∷ gaps others

-- the number is one of these
abbrev pub among : ℕ → List ℕ → Bool
among number [] = false
among number (first ∷ others) = (first == number) || among number others

-- those of the numbers up to a last one, ascending, each once
unfoldable pub borne : ℕ → List ℕ → List ℤ
borne zero numbers = []
borne (suc last) numbers = borne last numbers ++ (if among (last + 1) numbers then pos (last + 1) ∷ [] else [])

-- the numbers of a field's clozes, ascending, each once
abbrev pub numbers_of : List ℕ → List ℤ
numbers_of text = borne 500 (gaps (parts text))

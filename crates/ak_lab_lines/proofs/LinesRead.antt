-- A text that says a line is read as that line.
use Rattle.std.proofs.Common.{◌≡◌, ℕ, ◌≤◌, ℤ, pos, List, ◌∷◌, ◌++◌, Option, Some, option_and_then, option_map, inl, inr, refl, sym, ap, ◌∙◌, arith}
use Rattle.std.specs.Prelude.{codes}
use Rattle.std.proofs.lemmas.Int.{ints}
use Rattle.std.specs.Fmt.{decimal, signed_decimal}
use Rattle.std.specs.Int.RustNames.{unsigned_abs}
use Rattle.ak_base.specs.Heads.{IsWithin}
use Rattle.ak_base.specs.declared.names.Table.TheVariants as tables
use Rattle.ak_desk_language.specs.Reading.{number_in, next_number}
use Rattle.ak_desk_language.proofs.Numerals.{number_read}
use Rattle.ak_lab_lines.specs.LabLines.{side_of, shown_of, signed_number, reviews_of, lost_of, losing_of, another_word, crossing_of, replaying_of, lab_line_of}
use Rattle.ak_lab_lines.specs.Written.{IsShown, AreReviews, IsLabNumber, IsCrossing, IsReplaying, IsLabLine, side_word, shown_word, reviews_text, replaying_text, line_text, IsMinusZero, SaysLine}
use Rattle.ak_lab_lines.specs.declared.lab_lines.Direction.TheVariants as directions
use Rattle.ak_lab_lines.specs.declared.lab_lines.LabLine.{LabLine}
use Rattle.ak_lab_lines.specs.declared.lab_lines.LabLine.TheVariants as lines
use Rattle.ak_lab_lines.specs.declared.lab_lines.Shown.{Shown}
use Rattle.ak_lab_lines.specs.declared.lab_lines.Shown.TheVariants as shown
use Rattle.ak_sync_in_memory.specs.declared.mishaps.What.{What}
use Rattle.ak_sync_in_memory.specs.declared.mishaps.What.TheVariants as whats
use Rattle.ak_lab_lines.proofs.WordsRead.{word_read, another_read, next_word_read, side_filled, side_read, next_number_read, signed_read, minus_zero_read}

reviews_within : (count : ℕ) → 1 ≤ count → count ≤ 100_000 → IsWithin (pos 1) (pos 100_000) (pos count)
reviews_within count least most = record { low = omega (arith, ints, least); high = omega (arith, ints, most) }

reviews_read : (device : List ℕ) (card ease : ℤ) (count : ℕ) → AreReviews card ease count
    → reviews_of device (reviews_text card ease count) ≡ Some (lines.Review device card ease count)
reviews_read device card ease count r =
    ap (λ o. option_and_then (λ (c : ℤ × List ℕ). option_and_then (λ (e : ℤ × List ℕ). option_map (λ n. lines.Review device c.0 e.0 (unsigned_abs n)) (number_in (1, 100_000) e.1)) (next_number (1, 4) c.1)) o)
    (next_number_read 1 9_007_199_254_740_991 card (signed_decimal ease ++ (32 ∷ decimal count)) (omega arith) r.id)
    ∙ ap (λ o. option_and_then (λ (e : ℤ × List ℕ). option_map (λ n. lines.Review device card e.0 (unsigned_abs n)) (number_in (1, 100_000) e.1)) o)
    (next_number_read 1 4 ease (decimal count) (omega arith) r.button)
    ∙ ap (λ o. option_map (λ n. lines.Review device card ease (unsigned_abs n)) o)
    (number_read 1 100_000 (pos count) (omega arith) (reviews_within count r.least r.most))

-- a number that is not bounded
count_within : (count : ℕ) → IsLabNumber count → IsWithin (pos 0) (pos 9_223_372_036_854_775_807) (pos count)
count_within count most = record { low = omega (arith, ints); high = omega (arith, ints, most) }

losing_read : (device word : List ℕ) (call : ℕ) (what : What) → IsLabNumber call → lost_of word ≡ Some what
    → losing_of device (decimal call ++ (32 ∷ word)) ≡ Some (lines.Disturb device call what)
losing_read device word call what small is =
    ap (λ o. option_and_then (λ (c : ℤ × List ℕ). option_map (lines.Disturb device (unsigned_abs c.0)) (lost_of c.1)) o)
    (next_number_read 0 9_223_372_036_854_775_807 (pos call) word (omega arith) (count_within call small))
    ∙ ap (option_map (lines.Disturb device call)) is

crossing_read : (device other : List ℕ) (call : ℕ) → IsCrossing device call other
    → crossing_of device (decimal call ++ (32 ∷ other)) ≡ Some (lines.Cross device call other)
crossing_read device other call c =
    ap (λ o. option_and_then (λ (n : ℤ × List ℕ). option_map (lines.Cross device (unsigned_abs n.0)) (another_word device n.1)) o)
    (next_number_read 0 9_223_372_036_854_775_807 (pos call) other (omega arith) (count_within call c.call_fits))
    ∙ ap (option_map (lines.Cross device call)) (another_read device other c.word c.another)

replaying_read : (device : List ℕ) (call from count : ℕ) → IsReplaying call from count
    → replaying_of device (replaying_text call from count) ≡ Some (lines.Replay device call from count)
replaying_read device call from count r =
    ap (λ o. option_and_then (λ (c : ℤ × List ℕ). option_and_then (λ (f : ℤ × List ℕ). option_map (λ n. lines.Replay device (unsigned_abs c.0) (unsigned_abs f.0) (unsigned_abs n)) (number_in (0, 9_223_372_036_854_775_807) f.1)) (next_number (0, 9_223_372_036_854_775_807) c.1)) o)
    (next_number_read 0 9_223_372_036_854_775_807 (pos call) (decimal from ++ (32 ∷ decimal count)) (omega arith) (count_within call r.call_fits))
    ∙ ap (λ o. option_and_then (λ (f : ℤ × List ℕ). option_map (λ n. lines.Replay device call (unsigned_abs f.0) (unsigned_abs n)) (number_in (0, 9_223_372_036_854_775_807) f.1)) o)
    (next_number_read 0 9_223_372_036_854_775_807 (pos from) (decimal count) (omega arith) (count_within from r.from_fits))
    ∙ ap (λ o. option_map (λ n. lines.Replay device call from (unsigned_abs n)) o)
    (number_read 0 9_223_372_036_854_775_807 (pos count) (omega arith) (count_within count r.count_fits))

shown_read : (what : Shown) → IsShown what → shown_of (shown_word what) ≡ Some what
shown_read (shown.Rows tables.Note) h = refl
shown_read (shown.Rows tables.Card) h = refl
shown_read (shown.Rows tables.Review) h = refl
shown_read (shown.Rows tables.NoteType) h = refl
shown_read (shown.Rows tables.Deck) h = refl
shown_read (shown.Rows tables.Options) h = refl
shown_read (shown.Rows tables.NoteGrave) h = absurd (grind (arith, h))
shown_read (shown.Rows tables.CardGrave) h = absurd (grind (arith, h))
shown_read (shown.Rows tables.DeckGrave) h = absurd (grind (arith, h))
shown_read shown.Graves h = refl
shown_read shown.Head h = refl

abbrev shift_of : Option (List ℕ × List ℕ) → Option LabLine
shift_of o = option_and_then (λ p. option_map (lines.Shift p.0) (signed_number p.1)) o

written_read : (line : LabLine) → IsLabLine line → lab_line_of (line_text line) ≡ Some line
written_read (lines.Clock at) h = ap (option_map lines.Clock) (number_read 0 9_223_372_036_854_775_807 at (omega arith) h)
written_read (lines.Device name) h = rw h refl
written_read (lines.Shift device by) h =
    ap shift_of (next_word_read device (signed_decimal by) h.0) ∙ ap (option_map (lines.Shift device)) (signed_read by h.1)
written_read (lines.Review device card ease count) h =
    ap (option_and_then (λ (p : List ℕ × List ℕ). reviews_of p.0 p.1)) (next_word_read device (reviews_text card ease count) h.0) ∙ reviews_read device card ease count h.1
written_read (lines.Do device line) h = ap (option_map (λ (p : List ℕ × List ℕ). lines.Do p.0 p.1)) (next_word_read device line h)
written_read (lines.Sync device) h = ap (option_map lines.Sync) (word_read device h)
written_read (lines.Disturb device call whats.LoseRequest) h =
    ap (option_and_then (λ (p : List ℕ × List ℕ). losing_of p.0 p.1)) (next_word_read device (decimal call ++ (32 ∷ codes "request")) h.0)
    ∙ losing_read device (codes "request") call whats.LoseRequest h.1 refl
written_read (lines.Disturb device call whats.LoseReply) h =
    ap (option_and_then (λ (p : List ℕ × List ℕ). losing_of p.0 p.1)) (next_word_read device (decimal call ++ (32 ∷ codes "reply")) h.0)
    ∙ losing_read device (codes "reply") call whats.LoseReply h.1 refl
written_read (lines.Disturb device call whats.Repeat) h =
    ap (option_and_then (λ (p : List ℕ × List ℕ). option_map (λ n. lines.Disturb p.0 (unsigned_abs n) whats.Repeat) (number_in (0, 9_223_372_036_854_775_807) p.1)))
    (next_word_read device (decimal call) h.0)
    ∙ ap (option_map (λ n. lines.Disturb device (unsigned_abs n) whats.Repeat)) (number_read 0 9_223_372_036_854_775_807 (pos call) (omega arith) (count_within call h.1))
written_read (lines.Cross device call other) h =
    ap (option_and_then (λ (p : List ℕ × List ℕ). crossing_of p.0 p.1)) (next_word_read device (decimal call ++ (32 ∷ other)) h.0)
    ∙ crossing_read device other call h.1
written_read (lines.Replay device call from count) h =
    ap (option_and_then (λ (p : List ℕ × List ℕ). replaying_of p.0 p.1)) (next_word_read device (replaying_text call from count) h.0)
    ∙ replaying_read device call from count h.1
written_read (lines.Resend from count) h =
    ap (λ o. option_and_then (λ (f : ℤ × List ℕ). option_map (λ n. lines.Resend (unsigned_abs f.0) (unsigned_abs n)) (number_in (0, 9_223_372_036_854_775_807) f.1)) o)
    (next_number_read 0 9_223_372_036_854_775_807 (pos from) (decimal count) (omega arith) (count_within from h.0))
    ∙ ap (λ o. option_map (λ n. lines.Resend from (unsigned_abs n)) o)
    (number_read 0 9_223_372_036_854_775_807 (pos count) (omega arith) (count_within count h.1))
written_read (lines.Break side) h =
    ap (option_map (λ word. lines.Break (side_of word))) (word_read (side_word side) (side_filled side h)) ∙ ap (λ s. Some (lines.Break s)) (side_read side h)
written_read (lines.Transfer directions.Upload device) h = ap (option_map (lines.Transfer directions.Upload)) (word_read device h)
written_read (lines.Transfer directions.Download device) h = ap (option_map (lines.Transfer directions.Download)) (word_read device h)
written_read (lines.Show side what) h =
    ap (option_and_then (λ (p : List ℕ × List ℕ). option_map (lines.Show (side_of p.0)) (shown_of p.1))) (next_word_read (side_word side) (shown_word what) (side_filled side h.0))
    ∙ ap (λ s. option_map (lines.Show s) (shown_of (shown_word what))) (side_read side h.0)
    ∙ ap (option_map (lines.Show side)) (shown_read what h.1)
written_read (lines.Count side) h =
    ap (option_map (λ word. lines.Count (side_of word))) (word_read (side_word side) (side_filled side h)) ∙ ap (λ s. Some (lines.Count s)) (side_read side h)
written_read (lines.Requests device) h = ap (option_map lines.Requests) (word_read device h)

minus_zero_line : (text : List ℕ) (line : LabLine) → IsLabLine line → IsMinusZero text line → lab_line_of text ≡ Some line
minus_zero_line text (lines.Shift device by) h m =
    ap lab_line_of m.1
    ∙ ap shift_of (next_word_read device (codes "-0") h.0)
    ∙ ap (option_map (lines.Shift device)) minus_zero_read
    ∙ ap (λ n. Some (lines.Shift device n)) (sym m.0)
minus_zero_line text line h m = absurd m

pub said_read : (text : List ℕ) (line : LabLine) → SaysLine text line → lab_line_of text ≡ Some line
said_read text line (h, inl written) = ap lab_line_of written ∙ written_read line h
said_read text line (h, inr minus_zero) = minus_zero_line text line h minus_zero

-- The lines of a lab script: which line a text says, if it says one.
use Rattle.std.specs.Prelude.{ℕ, ℤ, pos, Bool, not, ◌&&◌, ◌-ℤ◌, nat_lt, nat_le, if◌then◌else◌, List, [], ◌∷◌, length, drop, Option, Some, None, option_and_then, option_map, codes}
use Rattle.std.specs.Char.{is_ascii_alphanumeric}
use Rattle.std.specs.Int.RustNames.{unsigned_abs}
use Rattle.std.specs.List.{list_all}
use Rattle.ak_base.specs.Cuts.{begins, has, front, behind}
use Rattle.ak_base.specs.Decimals.{number_of}
use Rattle.ak_base.specs.declared.names.Table.TheVariants as tables
use Rattle.ak_desk_language.specs.Reading.{number_in, next_number}
use Rattle.ak_search.specs.Terms.{is_word}
use Rattle.ak_lab_lines.specs.declared.lab_lines.Direction.{Direction}
use Rattle.ak_lab_lines.specs.declared.lab_lines.Direction.TheVariants as directions
use Rattle.ak_lab_lines.specs.declared.lab_lines.LabLine.{LabLine}
use Rattle.ak_lab_lines.specs.declared.lab_lines.LabLine.TheVariants as lines
use Rattle.ak_lab_lines.specs.declared.lab_lines.Shown.{Shown}
use Rattle.ak_lab_lines.specs.declared.lab_lines.Shown.TheVariants as shown
use Rattle.ak_lab_lines.specs.declared.lab_lines.Side.{Side}
use Rattle.ak_lab_lines.specs.declared.lab_lines.Side.TheVariants as sides
use Rattle.ak_sync_in_memory.specs.declared.mishaps.What.{What}
use Rattle.ak_sync_in_memory.specs.declared.mishaps.What.TheVariants as whats

-- ---- words
-- the text, if it is not empty
abbrev pub filled : List ℕ → Option (List ℕ)
filled [] = None
filled (byte ∷ bytes) = Some (byte ∷ bytes)

-- the text, if it is one word: not empty, and without a space
abbrev pub word_of : List ℕ → Option (List ℕ)
word_of text = if has (codes " ") text then None else filled text

-- the text, if it is one word and not the first one
abbrev pub another_word : List ℕ → List ℕ → Option (List ℕ)
another_word first text = if is_word text first then None else word_of text

-- the word before the first space, and what follows that space
abbrev pub next_word : List ℕ → Option (List ℕ × List ℕ)
next_word text =
    if has (codes " ") text
    then option_map (λ word. (word, behind (codes " ") text)) (filled (front (codes " ") text))
    else None

-- the name of a new device: 1 to 16 ASCII letters or digits, and not the server's name
abbrev pub is_device_name : List ℕ → Bool
is_device_name name =
    nat_lt 0 (length name) && nat_le (length name) 16 && list_all is_ascii_alphanumeric name
    && not (is_word name (codes "server"))

-- the side that a word names: the server, or the device of that name
abbrev pub side_of : List ℕ → Side
side_of word = if is_word word (codes "server") then sides.Server else sides.Device word

-- what of a side a word names
abbrev pub shown_of : List ℕ → Option Shown
shown_of word =
    if is_word word (codes "notes") then Some (shown.Rows tables.Note)
    else if is_word word (codes "cards") then Some (shown.Rows tables.Card)
    else if is_word word (codes "reviews") then Some (shown.Rows tables.Review)
    else if is_word word (codes "types") then Some (shown.Rows tables.NoteType)
    else if is_word word (codes "decks") then Some (shown.Rows tables.Deck)
    else if is_word word (codes "options") then Some (shown.Rows tables.Options)
    else if is_word word (codes "graves") then Some shown.Graves
    else if is_word word (codes "head") then Some shown.Head
    else None

-- the message of a call that a word names, lost
abbrev pub lost_of : List ℕ → Option What
lost_of word =
    if is_word word (codes "request") then Some whats.LoseRequest
    else if is_word word (codes "reply") then Some whats.LoseReply
    else None

-- ---- numbers
-- minus the number
abbrev pub negated : ℕ → ℤ
negated n = pos 0 -ℤ pos n

-- a number that may have a `-`, if it fits 64 bits with its sign; `-0` is 0
abbrev pub signed_number : List ℕ → Option ℤ
signed_number text =
    if begins (codes "-") text
    then option_map negated (number_of 9_223_372_036_854_775_808 (drop 1 text))
    else number_in (0, 9_223_372_036_854_775_807) text

-- ---- lines, by what follows the space after their first word
-- `clock <ms>`
abbrev pub clock_line : List ℕ → Option LabLine
clock_line text = option_map lines.Clock (number_in (0, 9_223_372_036_854_775_807) text)

-- `device <name>`
abbrev pub device_line : List ℕ → Option LabLine
device_line text = if is_device_name text then Some (lines.Device text) else None

-- `shift <device> <ms>`
abbrev pub shift_line : List ℕ → Option LabLine
shift_line text = option_and_then (λ p. option_map (lines.Shift p.0) (signed_number p.1)) (next_word text)

-- the card, the button and the number of reviews of a device
abbrev pub reviews_of : List ℕ → List ℕ → Option LabLine
reviews_of device text =
    option_and_then (λ card. option_and_then (λ ease.
    option_map (λ count. lines.Review device card.0 ease.0 (unsigned_abs count)) (number_in (1, 100_000) ease.1))
    (next_number (1, 4) card.1)) (next_number (1, 9_007_199_254_740_991) text)

-- `review <device> <card> <ease> <count>`
abbrev pub review_line : List ℕ → Option LabLine
review_line text = option_and_then (λ p. reviews_of p.0 p.1) (next_word text)

-- `do <device> <line>`: the line goes to the end; it may hold spaces, and may be empty
abbrev pub do_line : List ℕ → Option LabLine
do_line text = option_map (λ p. lines.Do p.0 p.1) (next_word text)

-- `sync <device>`
abbrev pub sync_line : List ℕ → Option LabLine
sync_line text = option_map lines.Sync (word_of text)

-- the call of a `lose` line of a device, and what of it is lost
abbrev pub losing_of : List ℕ → List ℕ → Option LabLine
losing_of device text =
    option_and_then (λ call. option_map (lines.Disturb device (unsigned_abs call.0)) (lost_of call.1))
    (next_number (0, 9_223_372_036_854_775_807) text)

-- `lose <device> <call> request`, `lose <device> <call> reply`
abbrev pub lose_line : List ℕ → Option LabLine
lose_line text = option_and_then (λ p. losing_of p.0 p.1) (next_word text)

-- `repeat <device> <call>`
abbrev pub repeat_line : List ℕ → Option LabLine
repeat_line text =
    option_and_then (λ p. option_map (λ call. lines.Disturb p.0 (unsigned_abs call) whats.Repeat)
    (number_in (0, 9_223_372_036_854_775_807) p.1)) (next_word text)

-- the call of a `cross` line of a device, and the other device
abbrev pub crossing_of : List ℕ → List ℕ → Option LabLine
crossing_of device text =
    option_and_then (λ call. option_map (lines.Cross device (unsigned_abs call.0)) (another_word device call.1))
    (next_number (0, 9_223_372_036_854_775_807) text)

-- `cross <device> <call> <other>`: the other device is not the same
abbrev pub cross_line : List ℕ → Option LabLine
cross_line text = option_and_then (λ p. crossing_of p.0 p.1) (next_word text)

-- the call of a `replay` line of a device, the first request and how many there are
abbrev pub replaying_of : List ℕ → List ℕ → Option LabLine
replaying_of device text =
    option_and_then (λ call. option_and_then (λ from.
    option_map (λ count. lines.Replay device (unsigned_abs call.0) (unsigned_abs from.0) (unsigned_abs count))
    (number_in (0, 9_223_372_036_854_775_807) from.1))
    (next_number (0, 9_223_372_036_854_775_807) call.1)) (next_number (0, 9_223_372_036_854_775_807) text)

-- `replay <device> <call> <from> <count>`
abbrev pub replay_line : List ℕ → Option LabLine
replay_line text = option_and_then (λ p. replaying_of p.0 p.1) (next_word text)

-- `resend <from> <count>`
abbrev pub resend_line : List ℕ → Option LabLine
resend_line text =
    option_and_then (λ from. option_map (λ count. lines.Resend (unsigned_abs from.0) (unsigned_abs count))
    (number_in (0, 9_223_372_036_854_775_807) from.1)) (next_number (0, 9_223_372_036_854_775_807) text)

-- `break <side>`
abbrev pub break_line : List ℕ → Option LabLine
break_line text = option_map (λ word. lines.Break (side_of word)) (word_of text)

-- `upload <device>`, `download <device>`
abbrev pub transfer_line : Direction → List ℕ → Option LabLine
transfer_line direction text = option_map (lines.Transfer direction) (word_of text)

-- `show <side> <table>`
abbrev pub show_line : List ℕ → Option LabLine
show_line text = option_and_then (λ p. option_map (lines.Show (side_of p.0)) (shown_of p.1)) (next_word text)

-- `count <side>`
abbrev pub count_line : List ℕ → Option LabLine
count_line text = option_map (λ word. lines.Count (side_of word)) (word_of text)

-- `requests <device>`
abbrev pub requests_line : List ℕ → Option LabLine
requests_line text = option_map lines.Requests (word_of text)

-- the line of its first word and of what follows the space after it
abbrev pub line_of : List ℕ → List ℕ → Option LabLine
line_of word text =
    if is_word word (codes "clock") then clock_line text
    else if is_word word (codes "device") then device_line text
    else if is_word word (codes "shift") then shift_line text
    else if is_word word (codes "review") then review_line text
    else if is_word word (codes "do") then do_line text
    else if is_word word (codes "sync") then sync_line text
    else if is_word word (codes "lose") then lose_line text
    else if is_word word (codes "repeat") then repeat_line text
    else if is_word word (codes "cross") then cross_line text
    else if is_word word (codes "replay") then replay_line text
    else if is_word word (codes "resend") then resend_line text
    else if is_word word (codes "break") then break_line text
    else if is_word word (codes "upload") then transfer_line directions.Upload text
    else if is_word word (codes "download") then transfer_line directions.Download text
    else if is_word word (codes "show") then show_line text
    else if is_word word (codes "count") then count_line text
    else if is_word word (codes "requests") then requests_line text
    else None

-- the line that a text says, if it says one
abbrev pub lab_line_of : List ℕ → Option LabLine
lab_line_of text =
    if has (codes " ") text then line_of (front (codes " ") text) (behind (codes " ") text) else None

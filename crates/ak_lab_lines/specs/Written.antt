-- The texts that say a line of a lab script.
use Rattle.std.specs.Prelude.{◌≡◌, ◌≢◌, ◌⊎◌, ◌≤◌, ℕ, ℤ, pos, negsuc, true, false, List, [], ◌++◌, None, codes, decimal, ⊤}
use Rattle.std.specs.Fmt.{signed_decimal}
use Rattle.ak_base.specs.Cuts.{has}
use Rattle.ak_base.specs.Heads.{IsWithin}
use Rattle.ak_base.specs.Tables.{buried_in}
use Rattle.ak_base.specs.declared.names.Table.{Table}
use Rattle.ak_base.specs.declared.names.Table.TheVariants as tables
use Rattle.ak_lab_lines.specs.LabLines.{is_device_name}
use Rattle.ak_lab_lines.specs.LabTexts.{direction_word}
use Rattle.ak_lab_lines.specs.declared.lab_lines.LabLine.{LabLine}
use Rattle.ak_lab_lines.specs.declared.lab_lines.LabLine.TheVariants as lines
use Rattle.ak_lab_lines.specs.declared.lab_lines.Shown.{Shown}
use Rattle.ak_lab_lines.specs.declared.lab_lines.Shown.TheVariants as shown
use Rattle.ak_lab_lines.specs.declared.lab_lines.Side.{Side}
use Rattle.ak_lab_lines.specs.declared.lab_lines.Side.TheVariants as sides
use Rattle.ak_sync_in_memory.specs.declared.mishaps.What.{What}
use Rattle.ak_sync_in_memory.specs.declared.mishaps.What.TheVariants as whats

-- ---- the parts of a line are in their ranges
-- a word: not empty, and without a space
pub record IsWord (text : List ℕ) : Type 0 where
  pub filled : text ≢ []
  pub spaceless : has (codes " ") text ≡ false

-- the server, or a device by a word that is not the server's
abbrev pub IsSide : Side → Type 0
IsSide sides.Server = ⊤
IsSide (sides.Device name) = IsWord name × (name ≢ codes "server")

-- graves are shown together, never those of one table alone
abbrev pub IsShown : Shown → Type 0
IsShown (shown.Rows table) = buried_in table ≡ None
IsShown shown.Graves = ⊤
IsShown shown.Head = ⊤

-- the numbers of a `review` line: a card's id, a button, and how many reviews
pub record AreReviews (card ease : ℤ) (count : ℕ) : Type 0 where
  pub id : IsWithin (pos 1) (pos 9_007_199_254_740_991) card
  pub button : IsWithin (pos 1) (pos 4) ease
  pub least : 1 ≤ count
  pub most : count ≤ 100_000

-- a number that fits 64 bits with its sign
abbrev pub IsLabNumber : ℕ → Type 0
IsLabNumber number = number ≤ 9_223_372_036_854_775_807

-- the number of a call of a device, and the other device of a `cross` line
pub record IsCrossing (device : List ℕ) (call : ℕ) (other : List ℕ) : Type 0 where
  pub call_fits : IsLabNumber call
  pub word : IsWord other
  pub another : other ≢ device

-- the numbers of a `replay` line: those of a call and of a request, and how many requests
pub record IsReplaying (call from count : ℕ) : Type 0 where
  pub call_fits : IsLabNumber call
  pub from_fits : IsLabNumber from
  pub count_fits : IsLabNumber count

-- the line has words and numbers as its form wants them
abbrev pub IsLabLine : LabLine → Type 0
IsLabLine (lines.Clock at) = IsWithin (pos 0) (pos 9_223_372_036_854_775_807) at
IsLabLine (lines.Device name) = is_device_name name ≡ true
IsLabLine (lines.Shift device by) =
    IsWord device × IsWithin (negsuc 9_223_372_036_854_775_807) (pos 9_223_372_036_854_775_807) by
IsLabLine (lines.Review device card ease count) = IsWord device × AreReviews card ease count
IsLabLine (lines.Do device line) = IsWord device
IsLabLine (lines.Sync device) = IsWord device
IsLabLine (lines.Disturb device call what) = IsWord device × IsLabNumber call
IsLabLine (lines.Cross device call other) = IsWord device × IsCrossing device call other
IsLabLine (lines.Replay device call from count) = IsWord device × IsReplaying call from count
IsLabLine (lines.Resend from count) = IsLabNumber from × IsLabNumber count
IsLabLine (lines.Break side) = IsSide side
IsLabLine (lines.Transfer direction device) = IsWord device
IsLabLine (lines.Show side what) = IsSide side × IsShown what
IsLabLine (lines.Count side) = IsSide side
IsLabLine (lines.Requests device) = IsWord device

-- ---- the text of a line
-- the word of a side
abbrev pub side_word : Side → List ℕ
side_word sides.Server = codes "server"
side_word (sides.Device name) = name

-- the word of a table; all graves have one
abbrev pub table_word : Table → List ℕ
table_word tables.Note = codes "notes"
table_word tables.Card = codes "cards"
table_word tables.Review = codes "reviews"
table_word tables.NoteType = codes "types"
table_word tables.Deck = codes "decks"
table_word tables.Options = codes "options"
table_word table = codes "graves"

-- the word of what is shown
abbrev pub shown_word : Shown → List ℕ
shown_word (shown.Rows table) = table_word table
shown_word shown.Graves = codes "graves"
shown_word shown.Head = codes "head"

-- a word, a space, and what follows it
abbrev pub spaced : List ℕ → List ℕ → List ℕ
spaced word rest = word ++ (codes " " ++ rest)

-- the card, the button and the number of reviews
abbrev pub reviews_text : ℤ → ℤ → ℕ → List ℕ
reviews_text card ease count = spaced (signed_decimal card) (spaced (signed_decimal ease) (decimal count))

-- what happens to the messages of a call of a device
abbrev pub disturbing_text : List ℕ → ℕ → What → List ℕ
disturbing_text device call whats.LoseRequest =
    spaced (codes "lose") (spaced device (spaced (decimal call) (codes "request")))
disturbing_text device call whats.LoseReply = spaced (codes "lose") (spaced device (spaced (decimal call) (codes "reply")))
disturbing_text device call whats.Repeat = spaced (codes "repeat") (spaced device (decimal call))

-- the numbers of a `replay` line
abbrev pub replaying_text : ℕ → ℕ → ℕ → List ℕ
replaying_text call from count = spaced (decimal call) (spaced (decimal from) (decimal count))

-- the text of a line
abbrev pub line_text : LabLine → List ℕ
line_text (lines.Clock at) = spaced (codes "clock") (signed_decimal at)
line_text (lines.Device name) = spaced (codes "device") name
line_text (lines.Shift device by) = spaced (codes "shift") (spaced device (signed_decimal by))
line_text (lines.Review device card ease count) =
    spaced (codes "review") (spaced device (reviews_text card ease count))
line_text (lines.Do device line) = spaced (codes "do") (spaced device line)
line_text (lines.Sync device) = spaced (codes "sync") device
line_text (lines.Disturb device call what) = disturbing_text device call what
line_text (lines.Cross device call other) = spaced (codes "cross") (spaced device (spaced (decimal call) other))
line_text (lines.Replay device call from count) =
    spaced (codes "replay") (spaced device (replaying_text call from count))
line_text (lines.Resend from count) = spaced (codes "resend") (spaced (decimal from) (decimal count))
line_text (lines.Break side) = spaced (codes "break") (side_word side)
line_text (lines.Transfer direction device) = spaced (direction_word direction) device
line_text (lines.Show side what) = spaced (codes "show") (spaced (side_word side) (shown_word what))
line_text (lines.Count side) = spaced (codes "count") (side_word side)
line_text (lines.Requests device) = spaced (codes "requests") device

-- a shift by 0 may be written `-0`
abbrev pub IsMinusZero : List ℕ → LabLine → Type 0
IsMinusZero text (lines.Shift device by) =
    (by ≡ pos 0) × (text ≡ spaced (codes "shift") (spaced device (codes "-0")))
IsMinusZero text line = ⊥

-- the text says the line: it is written so, and its parts are in their ranges
abbrev pub SaysLine : List ℕ → LabLine → Type 0
SaysLine text line = IsLabLine line × ((text ≡ line_text line) ⊎ IsMinusZero text line)

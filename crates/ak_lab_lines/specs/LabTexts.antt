-- What the lab prints of syncs, uploads, downloads, wire calls, counts and replies, and of names and numbers of nothing.
use Rattle.std.specs.Prelude.{ℕ, List, ◌++◌, codes, decimal}
use Rattle.ak_lab_lines.specs.declared.lab_lines.Direction.{Direction}
use Rattle.ak_lab_lines.specs.declared.lab_lines.Direction.TheVariants as directions
use Rattle.ak_messages.specs.declared.replies.Reply.{Reply}
use Rattle.ak_messages.specs.declared.requests.SanityCounts.{SanityCounts}
use Rattle.ak_wire.specs.Words.{word_text}

-- `<word> <device>: <outcome>`
abbrev pub ending_text : List ℕ → List ℕ → List ℕ → List ℕ
ending_text word device outcome = word ++ codes " " ++ device ++ codes ": " ++ outcome

-- `sync <device>: <outcome>`
abbrev pub sync_text : List ℕ → List ℕ → List ℕ
sync_text = ending_text (codes "sync")

-- the first word of an upload's line or of a download's
abbrev pub direction_word : Direction → List ℕ
direction_word directions.Upload = codes "upload"
direction_word directions.Download = codes "download"

-- `requests <device>: <n>`
abbrev pub requests_text : List ℕ → ℕ → List ℕ
requests_text device calls = codes "requests " ++ device ++ codes ": " ++ decimal calls

-- how many notes, cards and reviews
abbrev pub rows_text : ℕ → ℕ → ℕ → List ℕ
rows_text notes cards reviews =
    codes "notes " ++ decimal notes ++ codes " cards " ++ decimal cards ++ codes " reviews " ++ decimal reviews

-- how many graves, note types, decks and option groups
abbrev pub others_text : SanityCounts → List ℕ
others_text counts =
    codes " graves " ++ decimal counts.graves ++ codes " types " ++ decimal counts.models
    ++ codes " decks " ++ decimal counts.decks ++ codes " options " ++ decimal counts.options

-- how many rows a side has, by kind
abbrev pub counts_text : SanityCounts → List ℕ
counts_text counts = rows_text counts.notes counts.cards counts.reviews ++ others_text counts

-- `no device <name>`
abbrev pub no_device_text : List ℕ → List ℕ
no_device_text name = codes "no device " ++ name

-- `no request <n>`
abbrev pub no_request_text : ℕ → List ℕ
no_request_text number = codes "no request " ++ decimal number

-- `<status> <word>`
abbrev pub reply_text : Reply → List ℕ
reply_text reply = decimal reply.status ++ codes " " ++ word_text reply.word

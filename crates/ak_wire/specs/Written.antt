-- What is written for a message.
use Rattle.std.specs.Prelude.{ℕ, ◌==◌, ℤ, pos, codes, List, [], ◌∷◌, ◌++◌, map, filter, Bool, true, false, if◌then◌else◌, Option, Some, None}
use Rattle.serde_json.specs.Data.{Data, null, boolean, number, unsigned, string, array, object, Members, no_members, put}
use Rattle.serde_json.specs.View.{items_of}
use Rattle.ak_base.specs.declared.heads.Tag.{Tag}
use Rattle.ak_base.specs.declared.rows.Row.{Row}
use Rattle.ak_base.specs.declared.rows.Row.TheVariants as rows
use Rattle.ak_json.specs.Confs.{conf_json}
use Rattle.ak_json.specs.Rows.{row_json}
use Rattle.ak_json.specs.Written.{integer}
use Rattle.ak_merge.specs.declared.checks.CheckFault.{CheckFault}
use Rattle.ak_merge.specs.declared.checks.CheckFault.TheVariants as checks
use Rattle.ak_messages.specs.declared.replies.Give.{Give}
use Rattle.ak_messages.specs.declared.replies.Give.TheVariants as gives
use Rattle.ak_messages.specs.declared.replies.MetaReply.{MetaReply}
use Rattle.ak_messages.specs.declared.replies.Reply.{Reply}
use Rattle.ak_messages.specs.declared.replies.SanityReply.{SanityReply}
use Rattle.ak_messages.specs.declared.requests.Ask.{Ask}
use Rattle.ak_messages.specs.declared.requests.Ask.TheVariants as asks
use Rattle.ak_messages.specs.declared.requests.Changes.{Changes}
use Rattle.ak_messages.specs.declared.requests.Chunk.{Chunk}
use Rattle.ak_messages.specs.declared.requests.GraveIds.{GraveIds}
use Rattle.ak_messages.specs.declared.requests.Newer.{Newer}
use Rattle.ak_messages.specs.declared.requests.SanityCounts.{SanityCounts}
use Rattle.ak_messages.specs.declared.requests.Whole.{Whole}
use Rattle.ak_wire.specs.Words.{word_text}
use Rattle.ak_wire.specs.declared.keys.Key.{Key}
use Rattle.ak_wire.specs.declared.keys.Key.TheVariants as keys

-- these members with others, each in its place by the bytes of its key
abbrev pub with_members : List (List ℕ × Data) → Members → Members
with_members [] ms = ms
with_members (pair ∷ pairs) ms = with_members pairs (put pair.0 pair.1 ms)

-- the object of these members
abbrev pub object_of : List (List ℕ × Data) → Data
object_of pairs = object (with_members pairs no_members)

-- the array of these values
abbrev pub array_of : List Data → Data
array_of ds = array (items_of ds)

-- the array of these ids
abbrev pub ids_json : List ℤ → Data
ids_json ids = array_of (map integer ids)

-- ids of graves
abbrev pub graves_json : GraveIds → Data
graves_json g = object_of ((codes "cards", ids_json g.cards) ∷ (codes "decks", ids_json g.decks) ∷ (codes "notes", ids_json g.notes) ∷ [])

-- a chunk
abbrev pub chunk_json : Chunk → Data
chunk_json c =
    object_of ((codes "cards", array_of (map (λ card. row_json (rows.Card card)) c.cards)) ∷ (codes "done", boolean c.done)
    ∷ (codes "notes", array_of (map (λ note. row_json (rows.Note note)) c.notes))
    ∷ (codes "revlog", array_of (map (λ review. row_json (rows.Review review)) c.reviews)) ∷ [])

-- the settings of the newer side
abbrev pub newer_pairs : Option Newer → List (List ℕ × Data)
newer_pairs None = []
newer_pairs (Some newer) = (codes "conf", conf_json newer.conf) ∷ (codes "crt", integer newer.crt) ∷ []

-- the decks of changes, and the option groups, in a list of both
abbrev pub decks_json : Changes → Data
decks_json c =
    array_of (array_of (map (λ deck. row_json (rows.Deck deck)) c.decks) ∷ array_of (map (λ options. row_json (rows.Options options)) c.options) ∷ [])

-- changes
abbrev pub changes_json : Changes → Data
changes_json c =
    object_of (newer_pairs c.newer ++ (codes "decks", decks_json c)
    ∷ (codes "models", array_of (map (λ note_type. row_json (rows.NoteType note_type)) c.models)) ∷ (codes "tags", array_of (map string c.tags)) ∷ [])

-- a count
abbrev pub count_json : ℕ → Data
count_json n = number (unsigned n)

-- the counts of a side, after what is due, of which nothing is counted
abbrev pub counts_json : SanityCounts → Data
counts_json c =
    array_of (array_of (count_json 0 ∷ count_json 0 ∷ count_json 0 ∷ []) ∷ count_json c.cards ∷ count_json c.notes ∷ count_json c.reviews
    ∷ count_json c.graves ∷ count_json c.models ∷ count_json c.decks ∷ count_json c.options ∷ [])

-- the rows that stand under a key
abbrev pub is_under : Key → Row → Bool
is_under keys.Notes (rows.Note n) = true
is_under keys.Cards (rows.Card c) = true
is_under keys.Revlog (rows.Review r) = true
is_under keys.Models (rows.NoteType t) = true
is_under keys.Decks (rows.Deck d) = true
is_under keys.Options (rows.Options o) = true
is_under keys.Graves (rows.Grave g) = true
is_under key row = false

-- the array of the rows that stand under a key, in their order
abbrev pub rows_under : Key → List Row → Data
rows_under key rs = array_of (map row_json (filter (is_under key) rs))

-- the name of each tag with its usn
abbrev pub tag_pairs : List Tag → List (List ℕ × Data)
tag_pairs [] = []
tag_pairs (tag ∷ tags) = (tag.name, integer tag.usn) ∷ tag_pairs tags

-- the object of tags, each with its usn
abbrev pub tags_json : List Tag → Data
tags_json tags = object_of (tag_pairs tags)

-- what both forms of a whole collection have
abbrev pub whole_pairs : Whole → List (List ℕ × Data)
whole_pairs w =
    (codes "cards", rows_under keys.Cards w.rows) ∷ (codes "conf", conf_json w.conf) ∷ (codes "crt", integer w.crt) ∷ (codes "decks", rows_under keys.Decks w.rows)
    ∷ (codes "mod", integer w.moment) ∷ (codes "models", rows_under keys.Models w.rows) ∷ (codes "notes", rows_under keys.Notes w.rows)
    ∷ (codes "options", rows_under keys.Options w.rows) ∷ (codes "revlog", rows_under keys.Revlog w.rows) ∷ (codes "scm", integer w.schema)
    ∷ (codes "tags", tags_json w.tags) ∷ []

-- a whole collection that a client brings
abbrev pub upload_json : Whole → Data
upload_json w = object_of (whole_pairs w)

-- a whole collection that a server gives, with its graves and its usn
abbrev pub download_json : Whole → Data
download_json w = object_of (whole_pairs w ++ (codes "graves", rows_under keys.Graves w.rows) ∷ (codes "usn", integer w.usn) ∷ [])

-- the one value that is written for what a request asks
abbrev pub ask_json : Ask → Data
ask_json asks.Meta = object_of []
ask_json (asks.Start min_usn lmod) = object_of ((codes "lmod", integer lmod) ∷ (codes "minUsn", integer min_usn) ∷ [])
ask_json (asks.ApplyGraves ids) = object_of ((codes "chunk", graves_json ids) ∷ [])
ask_json (asks.ApplyChanges changes) = object_of ((codes "changes", changes_json changes) ∷ [])
ask_json asks.Chunk = object_of []
ask_json (asks.ApplyChunk chunk) = object_of ((codes "chunk", chunk_json chunk) ∷ [])
ask_json (asks.SanityCheck2 counts) = object_of ((codes "client", counts_json counts) ∷ [])
ask_json asks.Finish = object_of []
ask_json (asks.Upload whole) = upload_json whole
ask_json asks.Download = object_of []

-- where the server stands
abbrev pub meta_json : MetaReply → Data
meta_json m =
    object_of ((codes "cont", boolean m.cont) ∷ (codes "mod", integer m.moment) ∷ (codes "msg", string m.msg) ∷ (codes "musn", integer m.musn)
    ∷ (codes "scm", integer m.scm) ∷ (codes "ts", integer m.ts) ∷ (codes "usn", integer m.usn) ∷ [])

-- the number of a fault of a collection, and the id of its row
abbrev pub check_json : Option CheckFault → Data
check_json None = null
check_json (Some (checks.CardNoNote id)) = array_of (integer (pos 1) ∷ integer id ∷ [])
check_json (Some (checks.NoteNoCard id)) = array_of (integer (pos 2) ∷ integer id ∷ [])
check_json (Some (checks.NoteNoType id)) = array_of (integer (pos 3) ∷ integer id ∷ [])
check_json (Some (checks.CardNoTemplate id)) = array_of (integer (pos 4) ∷ integer id ∷ [])

-- a good check, or what tells of a bad one
abbrev pub sanity_json : SanityReply → Data
sanity_json s =
    if s.good then object_of ((codes "status", string (codes "ok")) ∷ [])
    else object_of ((codes "c", counts_json s.client) ∷ (codes "row", check_json s.fault) ∷ (codes "s", counts_json s.server)
    ∷ (codes "status", string (codes "bad")) ∷ [])

-- the one value that is written for what a reply gives
abbrev pub give_json : Give → Data
give_json gives.Nothing = object_of []
give_json (gives.Meta m) = meta_json m
give_json (gives.Graves ids) = graves_json ids
give_json (gives.Changes changes) = changes_json changes
give_json (gives.Chunk chunk) = chunk_json chunk
give_json (gives.Sanity sanity) = sanity_json sanity
give_json (gives.Moment moment) = object_of ((codes "mod", integer moment) ∷ [])
give_json (gives.Uploaded moment schema) = object_of ((codes "mod", integer moment) ∷ (codes "scm", integer schema) ∷ [])
give_json (gives.Whole whole) = download_json whole

-- the one value that is written for a reply
abbrev pub reply_json : Reply → Data
reply_json r =
    if r.status == 200 then give_json r.give else object_of ((codes "seen", integer r.seen) ∷ (codes "word", string (word_text r.word)) ∷ [])

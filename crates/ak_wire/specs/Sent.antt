-- What a message must be, for its body to be read again as the message.
use Rattle.std.specs.Prelude.{◌≡◌, ◌≤◌, ◌==◌, ℕ, ℤ, pos, negsuc, length, filter, List, [], ◌∷◌, ◌++◌, Bool, true, false, Option, Some, None}
use Rattle.std.specs.Cmp.Lexicographic.{slice_cmp}
use Rattle.std.specs.Ordering.{nat_cmp}
use Rattle.std.specs.declared.cmp.Ordering.TheVariants.{Less}
use Rattle.ak_base.specs.Heads.{IsWithin, IsTagInRange, AreConfNumbersInRange, IsMoment}
use Rattle.ak_base.specs.Names.{table_place}
use Rattle.ak_base.specs.Rows.{IsChecked, name_of}
use Rattle.ak_base.specs.declared.heads.Tag.{Tag}
use Rattle.ak_base.specs.declared.names.Table.{Table}
use Rattle.ak_base.specs.declared.rows.Row.{Row}
use Rattle.ak_base.specs.declared.rows.Row.TheVariants as rows
use Rattle.ak_keep.specs.Collections.{IsId}
use Rattle.ak_merge.specs.declared.checks.CheckFault.{CheckFault}
use Rattle.ak_merge.specs.declared.checks.CheckFault.TheVariants as checks
use Rattle.ak_messages.specs.MessageForms.{chunk_entries, grave_entries}
use Rattle.ak_messages.specs.declared.methods.Method.{Method}
use Rattle.ak_messages.specs.declared.methods.Method.TheVariants as methods
use Rattle.ak_messages.specs.declared.replies.Give.{Give}
use Rattle.ak_messages.specs.declared.replies.Give.TheVariants as gives
use Rattle.ak_messages.specs.declared.replies.MetaReply.{MetaReply}
use Rattle.ak_messages.specs.declared.replies.Reply.{Reply}
use Rattle.ak_messages.specs.declared.replies.SanityReply.{SanityReply}
use Rattle.ak_messages.specs.declared.replies.Word.TheVariants as words
use Rattle.ak_messages.specs.declared.requests.Ask.{Ask}
use Rattle.ak_messages.specs.declared.requests.Ask.TheVariants as asks
use Rattle.ak_messages.specs.declared.requests.Changes.{Changes}
use Rattle.ak_messages.specs.declared.requests.Chunk.{Chunk}
use Rattle.ak_messages.specs.declared.requests.GraveIds.{GraveIds}
use Rattle.ak_messages.specs.declared.requests.Newer.{Newer}
use Rattle.ak_messages.specs.declared.requests.SanityCounts.{SanityCounts}
use Rattle.ak_messages.specs.declared.requests.Whole.{Whole}
use Rattle.ak_wire.specs.Kinds.{is_after}
use Rattle.ak_wire.specs.Replies.{good_check}
use Rattle.ak_wire.specs.Wholes.{upload_tables, download_tables, rows_after}
use Rattle.ak_wire.specs.declared.keys.Key.{Key}

-- a number fits 64 bits with its sign
abbrev pub FitsWord : ℤ → Type 0
FitsWord z = IsWithin (negsuc 9_223_372_036_854_775_807) (pos 9_223_372_036_854_775_807) z

-- ids ascend, none twice, the first over the one before it
abbrev pub AscendAfter : Option ℤ → List ℤ → Type 0
AscendAfter before [] = Unit {0}
AscendAfter before (id ∷ ids) = FitsWord id × (is_after before id ≡ true) × AscendAfter (Some id) ids

-- the ids of each list ascend
pub record GravesAscend (g : GraveIds) : Type 0 where
  pub cards : AscendAfter None g.cards
  pub notes : AscendAfter None g.notes
  pub decks : AscendAfter None g.decks

-- a request brings at most 250 ids
pub record AreGravesSent (g : GraveIds) : Type 0 where
  pub ascend : GravesAscend g
  pub entries : grave_entries g ≤ 250

-- each row passes its check
abbrev pub AreChecked : {A : Type 0} → (A → Row) → List A → Type 0
AreChecked row_of [] = Unit {0}
AreChecked row_of (part ∷ parts) = IsChecked (row_of part) × AreChecked row_of parts

-- a chunk has at most 250 rows, each in its ranges
pub record IsChunkSent (c : Chunk) : Type 0 where
  pub entries : chunk_entries c ≤ 250
  pub cards : AreChecked rows.Card c.cards
  pub notes : AreChecked rows.Note c.notes
  pub reviews : AreChecked rows.Review c.reviews

-- the settings are in their ranges, and so is the moment of creation, in seconds
abbrev pub IsNewerSent : Option Newer → Type 0
IsNewerSent None = Unit {0}
IsNewerSent (Some newer) = AreConfNumbersInRange newer.conf × IsWithin (pos 0) (pos 4_294_967_295) newer.crt

-- each text is the name of a tag, of 1 to 512 bytes
abbrev pub AreNames : List (List ℕ) → Type 0
AreNames [] = Unit {0}
AreNames (name ∷ names) = (1 ≤ length name) × (length name ≤ 512) × AreNames names

-- changes have rows, settings and tags in their ranges; tags in any order
pub record AreChangesSent (c : Changes) : Type 0 where
  pub newer : IsNewerSent c.newer
  pub decks : AreChecked rows.Deck c.decks
  pub options : AreChecked rows.Options c.options
  pub models : AreChecked rows.NoteType c.models
  pub tags : AreNames c.tags

-- a count fits 64 bits with a sign
abbrev pub IsCount : ℕ → Type 0
IsCount n = n ≤ 9_223_372_036_854_775_807

-- each count does
pub record AreCountsSent (c : SanityCounts) : Type 0 where
  pub cards : IsCount c.cards
  pub notes : IsCount c.notes
  pub reviews : IsCount c.reviews
  pub graves : IsCount c.graves
  pub models : IsCount c.models
  pub decks : IsCount c.decks
  pub options : IsCount c.options

-- the row stands in the table
abbrev pub is_of : Table → Row → Bool
is_of table row = table_place (name_of row).table == table_place table

-- the rows of a table
abbrev pub rows_of : Table → List Row → List Row
rows_of table all = filter (is_of table) all

-- the rows of these tables, one table after the other
abbrev pub joined : List (Table × Key) → List Row → List Row
joined [] all = []
joined (column ∷ columns) all = rows_of column.0 all ++ joined columns all

-- in each of these tables the ids ascend
abbrev pub EachAscends : List (Table × Key) → List Row → Type 0
EachAscends [] all = Unit {0}
EachAscends (column ∷ columns) all = (rows_after None (rows_of column.0 all) ≡ true) × EachAscends columns all

-- the tag comes before those that follow, by the bytes of their names
abbrev pub ComesBefore : Tag → List Tag → Type 0
ComesBefore tag [] = Unit {0}
ComesBefore tag (next ∷ tags) = slice_cmp nat_cmp tag.name next.name ≡ Less

-- tags ascend by the bytes of their names, each in its ranges
abbrev pub TagsAscend : List Tag → Type 0
TagsAscend [] = Unit {0}
TagsAscend (tag ∷ tags) = IsTagInRange tag × ComesBefore tag tags × TagsAscend tags

-- a collection has the rows of these tables alone, table by table and then by id, and all in its ranges
pub record IsWholeSent (columns : List (Table × Key)) (w : Whole) : Type 0 where
  pub checked : AreChecked (λ row. row) w.rows
  pub by_table : w.rows ≡ joined columns w.rows
  pub by_id : EachAscends columns w.rows
  pub conf : AreConfNumbersInRange w.conf
  pub crt : IsWithin (pos 0) (pos 4_294_967_295) w.crt
  pub moment : IsMoment w.moment
  pub schema : IsMoment w.schema
  pub tags : TagsAscend w.tags

-- a collection that a client brings has no graves and the usn 0
pub record IsUploadSent (w : Whole) : Type 0 where
  pub whole : IsWholeSent upload_tables w
  pub usn : w.usn ≡ pos 0

-- a collection that a server gives has its graves and its usn
pub record IsDownloadSent (w : Whole) : Type 0 where
  pub whole : IsWholeSent download_tables w
  pub usn : IsWithin (pos 0) (pos 2_147_483_646) w.usn

-- a request of the method asks this, all in its ranges
abbrev pub IsSent : Method → Ask → Type 0
IsSent methods.Meta asks.Meta = Unit {0}
IsSent methods.Start (asks.Start min_usn lmod) = FitsWord min_usn × FitsWord lmod
IsSent methods.ApplyGraves (asks.ApplyGraves ids) = AreGravesSent ids
IsSent methods.ApplyChanges (asks.ApplyChanges changes) = AreChangesSent changes
IsSent methods.Chunk asks.Chunk = Unit {0}
IsSent methods.ApplyChunk (asks.ApplyChunk chunk) = IsChunkSent chunk
IsSent methods.SanityCheck2 (asks.SanityCheck2 counts) = AreCountsSent counts
IsSent methods.Finish asks.Finish = Unit {0}
IsSent methods.Upload (asks.Upload whole) = IsUploadSent whole
IsSent methods.Download asks.Download = Unit {0}
IsSent method ask = ⊥

-- where the server stands, in the ranges of a head
pub record IsMetaSent (m : MetaReply) : Type 0 where
  pub scm : IsMoment m.scm
  pub ts : FitsWord m.ts
  pub moment : IsMoment m.moment
  pub usn : IsWithin (pos 0) (pos 2_147_483_646) m.usn
  pub musn : FitsWord m.musn

-- the fault of a collection names a row
abbrev pub IsFaultSent : Option CheckFault → Type 0
IsFaultSent None = Unit {0}
IsFaultSent (Some (checks.CardNoNote id)) = IsId id
IsFaultSent (Some (checks.NoteNoCard id)) = IsId id
IsFaultSent (Some (checks.NoteNoType id)) = IsId id
IsFaultSent (Some (checks.CardNoTemplate id)) = IsId id

-- a good check has no fault and no counts; a bad one has those of both sides
abbrev pub IsCheckSent : Bool → SanityReply → Type 0
IsCheckSent true s = s ≡ good_check
IsCheckSent false s = IsFaultSent s.fault × AreCountsSent s.client × AreCountsSent s.server

-- a reply to the method gives this, all in its ranges
abbrev pub IsGiven : Method → Give → Type 0
IsGiven methods.Meta (gives.Meta m) = IsMetaSent m
IsGiven methods.Start (gives.Graves ids) = GravesAscend ids
IsGiven methods.ApplyGraves gives.Nothing = Unit {0}
IsGiven methods.ApplyChanges (gives.Changes changes) = AreChangesSent changes
IsGiven methods.Chunk (gives.Chunk chunk) = IsChunkSent chunk
IsGiven methods.ApplyChunk gives.Nothing = Unit {0}
IsGiven methods.SanityCheck2 (gives.Sanity s) = IsCheckSent s.good s
IsGiven methods.Finish (gives.Moment moment) = IsMoment moment
IsGiven methods.Upload (gives.Uploaded moment schema) = IsMoment moment × IsMoment schema
IsGiven methods.Download (gives.Whole whole) = IsDownloadSent whole
IsGiven method give = ⊥

-- a reply with status 200 has the word `Ok`, has seen nothing, and gives what its method does
pub record IsGrantSent (method : Method) (r : Reply) : Type 0 where
  pub word : r.word ≡ words.Ok
  pub seen : r.seen ≡ pos 0
  pub give : IsGiven method r.give

-- a reply with another status gives nothing
pub record IsRefusalSent (r : Reply) : Type 0 where
  pub seen : FitsWord r.seen
  pub give : r.give ≡ gives.Nothing

-- a reply that grants what was asked, or one that refuses it
abbrev pub IsEitherSent : Bool → Method → Reply → Type 0
IsEitherSent true method r = IsGrantSent method r
IsEitherSent false method r = IsRefusalSent r

-- a reply to the method, by its status
abbrev pub IsReplySent : Method → Reply → Type 0
IsReplySent method r = IsEitherSent (r.status == 200) method r

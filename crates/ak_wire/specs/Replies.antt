-- The bodies of replies.
use Rattle.std.specs.Prelude.{◌≡◌, ◌==◌, ℕ, ℤ, pos, List, [], codes, Bool, true, false, if◌then◌else◌, Option, Some, None, unwrap_or}
use Rattle.std.specs.Option.{option_or, is_some}
use Rattle.std.specs.Cmp.Lexicographic.{pointwise}
use Rattle.std.specs.Ordering.{int_eq}
use Rattle.ak_messages.specs.MessageForms.{no_counts}
use Rattle.serde_json.specs.Data.{Data, null}
use Rattle.serde_json.specs.Find.{as_array}
use Rattle.ak_merge.specs.declared.checks.CheckFault.{CheckFault}
use Rattle.ak_merge.specs.declared.checks.CheckFault.TheVariants as checks
use Rattle.ak_messages.specs.declared.methods.Method.{Method}
use Rattle.ak_messages.specs.declared.methods.Method.TheVariants as methods
use Rattle.ak_messages.specs.declared.replies.Give.{Give}
use Rattle.ak_messages.specs.declared.replies.Give.TheVariants as gives
use Rattle.ak_messages.specs.declared.replies.MetaReply.{MetaReply}
use Rattle.ak_messages.specs.declared.replies.Reply.{Reply}
use Rattle.ak_messages.specs.declared.replies.SanityReply.{SanityReply}
use Rattle.ak_messages.specs.declared.replies.Word.{Word}
use Rattle.ak_messages.specs.declared.replies.Word.TheVariants as words
use Rattle.ak_messages.specs.declared.requests.SanityCounts.{SanityCounts}
use Rattle.ak_wire.specs.Bodies.{graves_fault, ReadsGraves, ReadsChunk, ChunkFault, ReadsChanges, ChangesFault}
use Rattle.ak_wire.specs.Faults.{Is}
use Rattle.ak_wire.specs.Kinds.{number_at}
use Rattle.ak_wire.specs.Forms.{meta_form, status_form, bad_form, moment_form, uploaded_form, refused_form, download_form}
use Rattle.ak_wire.specs.Requests.{IsJsonOf, RefusesBody}
use Rattle.ak_wire.specs.Found.{HasInteger, HasBool, HasText, HasWord, Under, ReadsCounts}
use Rattle.ak_wire.specs.Values.{object_fault, integer_under, bool_under, text_under, value_under, counts_under}
use Rattle.ak_wire.specs.Wholes.{download_tables, ReadsDownload, WholeFault}
use Rattle.ak_wire.specs.Words.{word_of}
use Rattle.ak_wire.specs.declared.wire_faults.WireFault.{WireFault}

-- where the server stands is what an object of its form tells
pub record ReadsMeta (d : Data) (m : MetaReply) : Type 0 where
  pub form : object_fault meta_form d ≡ None
  pub scm : HasInteger (codes "scm") d m.scm
  pub ts : HasInteger (codes "ts") d m.ts
  pub moment : HasInteger (codes "mod") d m.moment
  pub usn : HasInteger (codes "usn") d m.usn
  pub musn : HasInteger (codes "musn") d m.musn
  pub msg : HasText (codes "msg") d m.msg
  pub cont : HasBool (codes "cont") d m.cont

-- the counts agree
abbrev pub is_good : Data → Bool
is_good d = pointwise ◌==◌ (text_under (codes "status") d) (codes "ok")

-- the first fault of a reply to a check of counts: of its status, then of what tells of a bad one
abbrev pub sanity_fault : Data → Option WireFault
sanity_fault d = option_or (object_fault status_form d) (if is_good d then None else object_fault bad_form d)

-- the fault of a collection of this number and this row
abbrev pub check_of : ℤ → ℤ → CheckFault
check_of code id =
    if int_eq code (pos 1) then checks.CardNoNote id
    else if int_eq code (pos 2) then checks.NoteNoCard id
    else if int_eq code (pos 3) then checks.NoteNoType id
    else checks.CardNoTemplate id

-- the fault that a list of its number and an id stands for; any other value stands for none
abbrev pub check_in : Data → Option CheckFault
check_in d =
    if is_some (as_array d) then Some (check_of (unwrap_or (number_at 0 d) (pos 0)) (unwrap_or (number_at 1 d) (pos 0))) else None

-- a list begins with these two whole numbers
abbrev pub BeginsWith : ℤ → ℤ → Data → Type 0
BeginsWith code id d = (number_at 0 d ≡ Some code) × (number_at 1 d ≡ Some id)

-- a fault of a collection is its number and the id of its row; none is null
abbrev pub ReadsFault : Data → Option CheckFault → Type 0
ReadsFault d None = d ≡ null
ReadsFault d (Some (checks.CardNoNote id)) = BeginsWith (pos 1) id d
ReadsFault d (Some (checks.NoteNoCard id)) = BeginsWith (pos 2) id d
ReadsFault d (Some (checks.NoteNoType id)) = BeginsWith (pos 3) id d
ReadsFault d (Some (checks.CardNoTemplate id)) = BeginsWith (pos 4) id d

-- a good check tells nothing else
abbrev pub good_check : SanityReply
good_check = record { good = true; fault = None; client = no_counts; server = no_counts }

-- what an object tells of a bad check
abbrev pub bad_check : Data → SanityReply
bad_check d = record {
  good = false;
  fault = check_in (value_under (codes "row") d);
  client = counts_under (codes "c") d;
  server = counts_under (codes "s") d;
}

-- what an object tells of a bad check: the fault and the counts of both sides
pub record ReadsBad (d : Data) (s : SanityReply) : Type 0 where
  pub status : HasText (codes "status") d (codes "bad")
  pub fault : Under (codes "row") ReadsFault d s.fault
  pub client : Under (codes "c") ReadsCounts d s.client
  pub server : Under (codes "s") ReadsCounts d s.server

-- what an object tells of a check that is good, or of one that is bad
abbrev pub ReadsCheck : Bool → Data → SanityReply → Type 0
ReadsCheck true d s = HasText (codes "status") d (codes "ok") × (s ≡ good_check)
ReadsCheck false d s = ReadsBad d s

-- whether both sides hold what they should is what an object tells
abbrev pub ReadsSanity : Data → SanityReply → Type 0
ReadsSanity d s = (sanity_fault d ≡ None) × ReadsCheck s.good d s

-- a reply to a method gives this, by its body
abbrev pub ReadsGive : Method → Data → Give → Type 0
ReadsGive methods.Meta d (gives.Meta m) = ReadsMeta d m
ReadsGive methods.Start d (gives.Graves ids) = ReadsGraves d ids
ReadsGive methods.ApplyGraves d give = (object_fault [] d ≡ None) × (give ≡ gives.Nothing)
ReadsGive methods.ApplyChanges d (gives.Changes changes) = ReadsChanges d changes
ReadsGive methods.Chunk d (gives.Chunk chunk) = ReadsChunk d chunk
ReadsGive methods.ApplyChunk d give = (object_fault [] d ≡ None) × (give ≡ gives.Nothing)
ReadsGive methods.SanityCheck2 d (gives.Sanity s) = ReadsSanity d s
ReadsGive methods.Finish d (gives.Moment moment) = (object_fault moment_form d ≡ None) × HasInteger (codes "mod") d moment
ReadsGive methods.Upload d (gives.Uploaded moment schema) =
    (object_fault uploaded_form d ≡ None) × HasInteger (codes "mod") d moment × HasInteger (codes "scm") d schema
ReadsGive methods.Download d (gives.Whole whole) = ReadsDownload d whole
ReadsGive method d give = ⊥

-- the first fault of the body of a reply to a method
abbrev pub GiveFault : Method → Data → WireFault → Type 0
GiveFault methods.Meta d = Is (object_fault meta_form d)
GiveFault methods.Start d = Is (graves_fault d)
GiveFault methods.ApplyGraves d = Is (object_fault [] d)
GiveFault methods.ApplyChanges d = ChangesFault d
GiveFault methods.Chunk d = ChunkFault d
GiveFault methods.ApplyChunk d = Is (object_fault [] d)
GiveFault methods.SanityCheck2 d = Is (sanity_fault d)
GiveFault methods.Finish d = Is (object_fault moment_form d)
GiveFault methods.Upload d = Is (object_fault uploaded_form d)
GiveFault methods.Download d = WholeFault download_form download_tables d

-- a reply with status 200 gives what its method does
pub record ReadsGranted (method : Method) (d : Data) (r : Reply) : Type 0 where
  pub word : r.word ≡ words.Ok
  pub seen : r.seen ≡ pos 0
  pub give : ReadsGive method d r.give

-- a reply with another status tells why the request was refused
pub record ReadsRefused (d : Data) (r : Reply) : Type 0 where
  pub form : object_fault refused_form d ≡ None
  pub word : HasWord (codes "word") d r.word
  pub seen : HasInteger (codes "seen") d r.seen
  pub give : r.give ≡ gives.Nothing

-- a reply that grants what was asked, or one that refuses it
abbrev pub ReadsEither : Bool → Method → Data → Reply → Type 0
ReadsEither true method d r = ReadsGranted method d r
ReadsEither false method d r = ReadsRefused d r

-- a reply of a status, by its body
abbrev pub ReadsReplyIn : ℕ → Method → Data → Reply → Type 0
ReadsReplyIn status method d r = ReadsEither (status == 200) method d r

-- the reply is that of a status and a body
pub record ReadsReply (method : Method) (code : ℕ) (body : List ℕ) (r : Reply) : Type 0 where
  pub value : Data
  pub text : IsJsonOf body value
  pub status : r.status ≡ code
  pub is : ReadsReplyIn code method value r

-- the first fault of the body of a reply that grants what was asked, or of one that refuses it
abbrev pub EitherFault : Bool → Method → Data → WireFault → Type 0
EitherFault true method d = GiveFault method d
EitherFault false method d = Is (object_fault refused_form d)

-- the first fault of the body of a reply
abbrev pub ReplyFault : ℕ → Method → Data → WireFault → Type 0
ReplyFault status method d = EitherFault (status == 200) method d

-- the body has no JSON, or its value has this fault first, or memory was out
abbrev pub RefusesReply : Method → ℕ → List ℕ → WireFault → Type 0
RefusesReply method status body = RefusesBody (ReplyFault status method) body

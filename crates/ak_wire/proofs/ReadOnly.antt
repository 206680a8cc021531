-- A body that is read is refused only if memory runs out.
use Rattle.std.proofs.Common.{◌≡◌, ◌⊎◌, inl, inr, ℕ, List, [], ◌∷◌, Bool, true, false, ◌==◌, Option, Some, None, refl, sym, ap, ◌∙◌, subst, codes}
use Rattle.serde_json.specs.Data.{Data, array, Items}
use Rattle.serde_json.specs.Find.{get, at}
use Rattle.ak_base.specs.declared.heads.Conf.{Conf}
use Rattle.ak_base.specs.declared.names.Table.{Table}
use Rattle.ak_base.specs.declared.names.Table.TheVariants as tables
use Rattle.ak_base.specs.declared.rows.Row.{Row}
use Rattle.ak_json.specs.Confs.{ReadsConf, conf_fault}
use Rattle.ak_json.specs.Faults.{Tells}
use Rattle.ak_json.specs.declared.faults.JsonFault.TheVariants as faults
use Rattle.ak_messages.specs.declared.methods.Method.{Method}
use Rattle.ak_messages.specs.declared.methods.Method.TheVariants as methods
use Rattle.ak_messages.specs.declared.replies.Give.{Give}
use Rattle.ak_messages.specs.declared.replies.Give.TheVariants as gives
use Rattle.ak_messages.specs.declared.replies.Reply.{Reply}
use Rattle.ak_messages.specs.declared.requests.Ask.{Ask}
use Rattle.ak_messages.specs.declared.requests.Ask.TheVariants as asks
use Rattle.ak_messages.specs.declared.requests.Changes.{Changes}
use Rattle.ak_messages.specs.declared.requests.Chunk.{Chunk}
use Rattle.ak_messages.specs.declared.requests.Envelope.{Envelope}
use Rattle.ak_messages.specs.declared.requests.Newer.{Newer}
use Rattle.ak_messages.specs.declared.requests.Request.{Request}
use Rattle.ak_messages.specs.declared.requests.Whole.{Whole}
use Rattle.ak_wire.specs.Bodies.{ReadsChunk, chunk_fault, ChunkRowFault, ChunkFault, ReadsNewer, NewerFault, is_newer, deck_items, options_items, ReadsChanges, changes_fault, ChangesRowFault, ChangesFault, TakesNewer}
use Rattle.ak_wire.specs.Faults.{Is, First, Then, ReadsEach, RefusesEach, OnlyMemory}
use Rattle.ak_wire.specs.Forms.{Form, upload_form, download_form}
use Rattle.ak_wire.specs.Found.{Under, AtPlace, ReadsList}
use Rattle.ak_wire.specs.Keys.{key_text}
use Rattle.ak_wire.specs.Parts.{OfJson, RefusesRowOf, ThenAfter, ReadsNote, ReadsCard, ReadsReview, ReadsNoteType, ReadsDeck, ReadsOptions}
use Rattle.ak_wire.specs.Replies.{ReadsGive, GiveFault, ReadsEither, EitherFault, ReadsReplyIn, ReplyFault, ReadsReply, RefusesReply}
use Rattle.ak_wire.specs.Requests.{ReadsAsk, AskFault, IsJsonOf, RefusesBody, ReadsRequest, RefusesRequest}
use Rattle.ak_wire.specs.Values.{items_of, items_under, value_under, object_fault}
use Rattle.ak_wire.specs.Wholes.{items_for, ReadsTable, ReadsRowsOf, ReadsTables, TablesFault, table_items, ReadsParts, PartsFault, WholeFault, upload_tables, download_tables, TableFault}
use Rattle.ak_wire.specs.declared.keys.Key.{Key}
use Rattle.ak_wire.specs.declared.wire_faults.WireFault.{WireFault}
use Rattle.ak_wire.specs.declared.wire_faults.WireFault.TheVariants as wires
use Rattle.ak_wire.proofs.Exact.{one_value}
use Rattle.ak_wire.proofs.Founds.{value_is}
use Rattle.ak_wire.proofs.OneFault.{Excludes, then_only, each_only, note_ex, card_ex, review_ex, note_type_ex, deck_ex, options_ex, conf_only, table_only, json_or_not, or_memory, Refused}

is_only : (o : Option WireFault) → o ≡ None → OnlyMemory (Is o)
is_only o none fault h = absurd (subst (λ (x : Option WireFault). Is x fault) none h)

first_only : (o : Option WireFault) (others : WireFault → Type 0) → o ≡ None → OnlyMemory others → OnlyMemory (First o others)
first_only o others none only fault h = only fault (subst (λ (x : Option WireFault). First x others fault) none h)

-- the list under a key
under_each : {A : Type 0} (key : List ℕ) (reads : Data → A → Type 0) (d : Data) (parts : List A) → Under key (ReadsList reads) d parts → ReadsEach reads (items_under key d) parts
under_each key reads d parts h =
    let is : items_under key d ≡ h.2.0 = ap items_of (h.1 ∙ ap Some h.2.1) in
    subst (λ (ds : Items). ReadsEach reads ds parts) (sym is) h.2.2

place_each : {A : Type 0} (place : ℕ) (reads : Data → A → Type 0) (d : Data) (parts : List A) → Under (codes "decks") (AtPlace place (ReadsList reads)) d parts
    → ReadsEach reads (items_of (at place (value_under (codes "decks") d))) parts
place_each place reads d parts h =
    let is : items_of (at place (value_under (codes "decks") d)) ≡ h.2.2.0 =
    ap (λ (x : Data). items_of (at place x)) (value_is (codes "decks") d h.0 h.1) ∙ ap items_of (h.2.1 ∙ ap Some h.2.2.1) in
    subst (λ (ds : Items). ReadsEach reads ds parts) (sym is) h.2.2.2

after_only : {A : Type 0} (reads : Data → A → Type 0) (table : Table) (ds : Items) (others : WireFault → Type 0) → Excludes reads (RefusesRowOf table) → (parts : List A) → ReadsEach reads ds parts
    → OnlyMemory others → OnlyMemory (ThenAfter reads table ds others)
after_only {A = A} reads table ds others ex parts h only =
    then_only {A = List A} (RefusesEach reads (RefusesRowOf table) ds) (ReadsEach reads ds) others (each_only reads (RefusesRowOf table) ex ds parts h) only

chunk_only : (d : Data) (c : Chunk) → ReadsChunk d c → OnlyMemory (ChunkFault d)
chunk_only d c h =
    first_only (chunk_fault d) (ChunkRowFault d) h.form
    (after_only ReadsCard tables.Card (items_under (codes "cards") d) _ card_ex c.cards (under_each (codes "cards") ReadsCard d c.cards h.cards)
    (after_only ReadsNote tables.Note (items_under (codes "notes") d) _ note_ex c.notes (under_each (codes "notes") ReadsNote d c.notes h.notes)
    (each_only ReadsReview (RefusesRowOf tables.Review) review_ex (items_under (codes "revlog") d) c.reviews (under_each (codes "revlog") ReadsReview d c.reviews h.reviews))))

settings_only : (d : Data) (conf : Conf) → Under (codes "conf") ReadsConf d conf → OnlyMemory (OfJson (Tells (conf_fault (value_under (codes "conf") d))))
settings_only d conf h = conf_only (value_under (codes "conf") d) conf (subst (λ (x : Data). ReadsConf x conf) (sym (value_is (codes "conf") d h.0 h.1)) h.2)

newer_read_only : (d : Data) (newer : Option Newer) → ReadsNewer d newer → OnlyMemory (NewerFault d)
newer_read_only d None read fault h = let given : is_newer d ≡ true = h.0 in let not_given : is_newer d ≡ false = read in absurd cc
newer_read_only d (Some newer) read fault h = settings_only d newer.conf read.0 fault h.1

changes_only : (d : Data) (c : Changes) → ReadsChanges d c → OnlyMemory (ChangesFault d)
changes_only d c h =
    first_only (changes_fault d) (ChangesRowFault d) h.form
    (then_only {A = Option Newer} (NewerFault d) (TakesNewer d) _ (newer_read_only d c.newer h.newer)
    (after_only ReadsDeck tables.Deck (deck_items d) _ deck_ex c.decks (place_each 0 ReadsDeck d c.decks h.decks)
    (after_only ReadsOptions tables.Options (options_items d) _ options_ex c.options (place_each 1 ReadsOptions d c.options h.options)
    (each_only ReadsNoteType (RefusesRowOf tables.NoteType) note_type_ex (items_under (codes "models") d) c.models (under_each (codes "models") ReadsNoteType d c.models h.models)))))

table_taken : (table : Table) (key : List ℕ) (d : Data) (made : List Row) → Under key (ReadsRowsOf table) d made → ReadsTable table (items_for table (items_under key d)) made
table_taken table key d made h =
    let is : items_under key d ≡ h.2.0 = ap items_of (h.1 ∙ ap Some h.2.1) in
    subst (λ (ds : Items). ReadsTable table (items_for table ds) made) (sym is) h.2.2

tables_only : (columns : List (Table × Key)) (d : Data) (made : List Row) → ReadsTables columns d made → OnlyMemory (TablesFault columns d)
tables_only [] d made h = λ fault k. absurd k
tables_only (column ∷ columns) d made h =
    then_only {A = List Row} (TableFault column.0 (table_items column d)) (ReadsTable column.0 (table_items column d)) (TablesFault columns d)
    (table_only column.0 (table_items column d) h.0 (table_taken column.0 (key_text column.1) d h.0 h.2)) (tables_only columns d h.1 h.3)

whole_only : (form : Form) (columns : List (Table × Key)) (d : Data) (w : Whole) → object_fault form d ≡ None → ReadsParts columns d w → OnlyMemory (WholeFault form columns d)
whole_only form columns d w none h =
    first_only (object_fault form d) (PartsFault columns d) none
    (then_only {A = Conf} (OfJson (Tells (conf_fault (value_under (codes "conf") d)))) (ReadsConf (value_under (codes "conf") d)) (TablesFault columns d)
    (settings_only d w.conf h.conf) (tables_only columns d w.rows h.rows))

-- what stands inside a body
inside_only : {A : Type 0} (key : List ℕ) (reads : Data → A → Type 0) (refuses : Data → WireFault → Type 0) (d : Data) (made : A) → Excludes reads refuses → Under key reads d made
    → OnlyMemory (refuses (value_under key d))
inside_only key reads refuses d made ex h = subst (λ (x : Data). OnlyMemory (refuses x)) (sym (value_is key d h.0 h.1)) (ex h.0 made h.2)

pub ask_only : (method : Method) (d : Data) (ask : Ask) → ReadsAsk method d ask → OnlyMemory (AskFault method d)
ask_only methods.Meta d ask h = is_only _ h.0
ask_only methods.Start d (asks.Start min_usn lmod) h = is_only _ h.0
ask_only methods.ApplyGraves d (asks.ApplyGraves ids) h = is_only _ h.0
ask_only methods.ApplyChanges d (asks.ApplyChanges changes) h = first_only _ _ h.0 (inside_only (codes "changes") ReadsChanges ChangesFault d changes changes_only h.1)
ask_only methods.Chunk d ask h = is_only _ h.0
ask_only methods.ApplyChunk d (asks.ApplyChunk chunk) h = first_only _ _ h.0 (inside_only (codes "chunk") ReadsChunk ChunkFault d chunk chunk_only h.1)
ask_only methods.SanityCheck2 d (asks.SanityCheck2 counts) h = is_only _ h.0
ask_only methods.Finish d ask h = is_only _ h.0
ask_only methods.Upload d (asks.Upload whole) h = whole_only upload_form upload_tables d whole h.form h.parts
ask_only methods.Download d ask h = is_only _ h.0
ask_only method d ask h = absurd h

give_only : (method : Method) (d : Data) (give : Give) → ReadsGive method d give → OnlyMemory (GiveFault method d)
give_only methods.Meta d (gives.Meta m) h = is_only _ h.form
give_only methods.Start d (gives.Graves ids) h = is_only _ h.form
give_only methods.ApplyGraves d give h = is_only _ h.0
give_only methods.ApplyChanges d (gives.Changes changes) h = changes_only d changes h
give_only methods.Chunk d (gives.Chunk chunk) h = chunk_only d chunk h
give_only methods.ApplyChunk d give h = is_only _ h.0
give_only methods.SanityCheck2 d (gives.Sanity s) h = is_only _ h.0
give_only methods.Finish d (gives.Moment moment) h = is_only _ h.0
give_only methods.Upload d (gives.Uploaded moment schema) h = is_only _ h.0
give_only methods.Download d (gives.Whole whole) h = whole_only download_form download_tables d whole h.form h.parts
give_only method d give h = absurd h

either_only : (granted : Bool) (method : Method) (d : Data) (r : Reply) → ReadsEither granted method d r → OnlyMemory (EitherFault granted method d)
either_only true method d r h = give_only method d r.give h.give
either_only false method d r h = is_only _ h.form

-- a body whose value has no fault
refused_only : (faults_of : Data → WireFault → Type 0) (body : List ℕ) (d : Data) → IsJsonOf body d → OnlyMemory (faults_of d) → (fault : WireFault) → Refused faults_of body fault ⊎ (fault ≡ wires.Memory)
    → fault ≡ wires.Memory
refused_only faults_of body d is only fault (inr memory) = memory
refused_only faults_of body d is only fault (inl (inl none)) = absurd (json_or_not body d is none.0)
refused_only faults_of body d is only fault (inl (inr some)) =
    only fault (subst (λ (x : Data). faults_of x fault) (one_value body some.0 d some.1 is) some.2)

pub request_only : (e : Envelope) (method : Method) (body : List ℕ) (r : Request) → ReadsRequest e method body r → OnlyMemory (RefusesRequest method body)
request_only e method body r h fault k =
    refused_only (AskFault method) body h.value h.text (ask_only method h.value r.ask h.ask) fault (or_memory (Refused (AskFault method) body) fault k)

pub reply_only : (method : Method) (code : ℕ) (body : List ℕ) (r : Reply) → ReadsReply method code body r → OnlyMemory (RefusesReply method code body)
reply_only method code body r h fault k =
    refused_only (ReplyFault code method) body h.value h.text (either_only (code == 200) method h.value r h.is) fault (or_memory (Refused (ReplyFault code method) body) fault k)

-- Each body is read as a message, or refused by a fault other than out of memory.
use Rattle.std.proofs.Common.{◌≡◌, ◌⊎◌, inl, inr, ℕ, zero, suc, ℤ, pos, List, [], ◌∷◌, ◌++◌, Bool, true, false, ◌==◌, if◌then◌else◌, Option, Some, None, IfSome, refl, subst, codes}
use Rattle.std.specs.Prelude.{unwrap_or, nat_le}
use Rattle.std.specs.Option.{option_map, option_or}
use Rattle.std.specs.Str.{is_utf8}
use Rattle.std.proofs.lemmas.Str.{IsUtf8-from_is_utf8, is_utf8-from_IsUtf8}
use Rattle.serde_json.specs.Data.{Data, null, boolean, number, string, array, object, Items, no_items, item}
use Rattle.serde_json.specs.Find.{get, get_item, at}
use Rattle.serde_json.specs.Read.{read}
use Rattle.ak_base.specs.declared.cards.Card.{Card}
use Rattle.ak_base.specs.declared.decks.Deck.{Deck}
use Rattle.ak_base.specs.declared.heads.Conf.{Conf}
use Rattle.ak_base.specs.declared.names.Table.{Table}
use Rattle.ak_base.specs.declared.names.Table.TheVariants as tables
use Rattle.ak_base.specs.declared.note_types.NoteType.{NoteType}
use Rattle.ak_base.specs.declared.notes.Note.{Note}
use Rattle.ak_base.specs.declared.option_groups.Options.{Options}
use Rattle.ak_base.specs.declared.reviews.Review.{Review}
use Rattle.ak_base.specs.declared.rows.Row.{Row}
use Rattle.ak_base.specs.declared.rows.Row.TheVariants as rows
use Rattle.ak_json.proofs.EachValue.{each_value, each_conf, get_orderly, found_or, list_orderly}
use Rattle.ak_json.proofs.Orderly.{IsOrderly, AreOrderly, read_orderly}
use Rattle.ak_json.specs.Confs.{ReadsConf, conf_fault}
use Rattle.ak_json.specs.Faults.{Tells, SomeFault}
use Rattle.ak_json.specs.Rows.{ReadsRow, RefusesRow}
use Rattle.ak_json.specs.declared.faults.JsonFault.{JsonFault}
use Rattle.ak_json.specs.declared.faults.JsonFault.TheVariants as faults
use Rattle.ak_messages.specs.declared.methods.Method.{Method}
use Rattle.ak_messages.specs.declared.methods.Method.TheVariants as methods
use Rattle.ak_messages.specs.declared.replies.Give.{Give}
use Rattle.ak_messages.specs.declared.replies.Give.TheVariants as gives
use Rattle.ak_messages.specs.declared.replies.Reply.{Reply}
use Rattle.ak_messages.specs.declared.replies.Word.TheVariants as words
use Rattle.ak_messages.specs.declared.requests.Ask.TheVariants as asks
use Rattle.ak_messages.specs.declared.requests.Changes.{Changes}
use Rattle.ak_messages.specs.declared.requests.Chunk.{Chunk}
use Rattle.ak_messages.specs.declared.requests.Envelope.{Envelope}
use Rattle.ak_messages.specs.declared.requests.Newer.{Newer}
use Rattle.ak_messages.specs.declared.requests.Request.{Request}
use Rattle.ak_messages.specs.declared.requests.Whole.{Whole}
use Rattle.ak_wire.specs.Bodies.{too_many, graves_fault, graves_of, grave_values, chunk_values, chunk_fault, ReadsChunk, ChunkRowFault, ChunkFault, is_newer, newer_fault, TakesNewer, NewerFault, deck_items, options_items, changes_fault, ReadsChanges, ChangesRowFault, ChangesFault}
use Rattle.ak_wire.specs.Faults.{of_json, OrMemory, Is, First, Then, ReadsEach, RefusesEach, IsReadOrRefused}
use Rattle.ak_wire.specs.Forms.{Form, start_form, holds_chunk_form, holds_changes_form, holds_counts_form, graves_form, chunk_form, changes_form, newer_form, meta_form, status_form, bad_form, moment_form, uploaded_form, refused_form, upload_form, download_form}
use Rattle.ak_wire.specs.Keys.{key_text}
use Rattle.ak_wire.specs.Parts.{OfJson, RefusesRowOf, ThenAfter, ReadsNote, ReadsCard, ReadsReview, ReadsNoteType, ReadsDeck, ReadsOptions}
use Rattle.ak_wire.specs.Replies.{is_good, sanity_fault, good_check, bad_check, ReadsGive, GiveFault, ReadsEither, EitherFault, ReplyFault, ReadsReply, RefusesReply}
use Rattle.ak_wire.specs.Requests.{chunk_in, apply_graves_fault, ReadsAsk, AskFault, IsJsonOf, IsNoJson, RefusesBody, ReadsRequest, RefusesRequest}
use Rattle.ak_wire.specs.Values.{told, first_key_fault, first_fault, object_key_fault, object_fault, integer_under, bool_under, text_under, value_under, counts_under, items_of, items_under, texts, tags_under}
use Rattle.ak_wire.specs.Wholes.{upload_tables, download_tables, goes_with, items_for, rows_after, ReadsTable, TableFault, table_items, TakesTables, TablesFault, PartsFault, WholeFault, ReadsUpload, ReadsDownload}
use Rattle.ak_wire.specs.Words.{word_of}
use Rattle.ak_wire.specs.declared.keys.Key.{Key}
use Rattle.ak_wire.specs.declared.objects.KeyFault.{KeyFault}
use Rattle.ak_wire.specs.declared.objects.KeyFault.TheVariants as key_faults
use Rattle.ak_wire.specs.declared.wire_faults.WireFault.{WireFault}
use Rattle.ak_wire.specs.declared.wire_faults.WireFault.TheVariants as wires
use Rattle.ak_wire.proofs.Founds.{first_none, later_none}
use Rattle.ak_wire.proofs.ReadForms.{start_read, graves_are, apply_graves_read, apply_changes_read, apply_chunk_read, sanity_asked, chunk_read, changes_read, upload_read, download_read, meta_read, good_read, bad_read, moment_read, uploaded_read, refused_read}

-- ---- read or refused, in turn

-- what is read is read as another thing
made_of : {A B : Type 0} (reads : A → Type 0) (others : B → Type 0) (refuses : WireFault → Type 0) → ((made : A) → reads made → (other : B) × others other) → IsReadOrRefused reads refuses → IsReadOrRefused others refuses
made_of reads others refuses makes (inl read) = inl (makes read.0 read.1)
made_of reads others refuses makes (inr refused) = inr refused

-- the fault is not that memory is out
abbrev IsNoMemory : WireFault → Type 0
IsNoMemory fault = fault ≡ wires.Memory → ⊥

-- a fault of a form refuses, and a value of the form is read
by_form : {A : Type 0} (reads : A → Type 0) (o : Option WireFault) → IfSome o IsNoMemory → (o ≡ None → (made : A) × reads made) → IsReadOrRefused reads (Is o)
by_form reads None other makes = inl (makes refl)
by_form reads (Some fault) other makes = inr (fault, refl, other)

-- the same where what stands inside may be refused
first_or : {A : Type 0} (reads : A → Type 0) (o : Option WireFault) (others : WireFault → Type 0) → IfSome o IsNoMemory → (o ≡ None → IsReadOrRefused reads others) → IsReadOrRefused reads (First o others)
first_or reads None others other later = later refl
first_or reads (Some fault) others other later = inr (fault, refl, other)

then_or : {A B : Type 0} (these : WireFault → Type 0) (reads : A → Type 0) (others : WireFault → Type 0) (makes : B → Type 0) → IsReadOrRefused reads these
    → ((first : A) → reads first → IsReadOrRefused makes others) → IsReadOrRefused makes (Then these reads others)
then_or these reads others makes (inr refused) later = inr (refused.0, inl refused.1, refused.2)
then_or {A = A} {B = B} these reads others makes (inl read) later = one (later read.0 read.1)
  where
    one : IsReadOrRefused makes others → IsReadOrRefused makes (Then these reads others)
    one (inl made) = inl made
    one (inr refused) = inr (refused.0, inr (read, refused.1), refused.2)

-- each orderly value is read or refused
abbrev ReadsOrRefuses : {A : Type 0} → (Data → A → Type 0) → (Data → WireFault → Type 0) → Type 0
ReadsOrRefuses reads refuses = (d : Data) → IsOrderly d → IsReadOrRefused (reads d) (refuses d)

each_or : {A : Type 0} (reads : Data → A → Type 0) (refuses : Data → WireFault → Type 0) → ReadsOrRefuses reads refuses → (ds : Items) → AreOrderly ds → IsReadOrRefused (ReadsEach reads ds) (RefusesEach reads refuses ds)
each_or reads refuses decides no_items h = inl ([], tt)
each_or {A = A} reads refuses decides (item d ds) h =
    then_or {B = List A} (refuses d) (reads d) (RefusesEach reads refuses ds) (ReadsEach reads (item d ds)) (decides d h.0)
    (λ part is. made_of (ReadsEach reads ds) (ReadsEach reads (item d ds)) (RefusesEach reads refuses ds) (λ parts are. (part ∷ parts, (is, are))) (each_or reads refuses decides ds h.1))

-- ---- what stands in an orderly value

value_orderly : (key : List ℕ) (d : Data) → IsOrderly d → IsOrderly (value_under key d)
value_orderly key d h = found_or (get key d) d (get_orderly key d h) h

items_orderly : (key : List ℕ) (d : Data) → IsOrderly d → AreOrderly (items_under key d)
items_orderly key d h = list_orderly (get key d) (get_orderly key d h)

item_orderly : (place : ℕ) (ds : Items) → AreOrderly ds → IfSome (get_item place ds) IsOrderly
item_orderly place no_items h = tt
item_orderly zero (item d ds) h = h.0
item_orderly (suc place) (item d ds) h = item_orderly place ds h.1

at_orderly : (place : ℕ) (d : Data) → IsOrderly d → IfSome (at place d) IsOrderly
at_orderly place null h = tt
at_orderly place (boolean b) h = tt
at_orderly place (number n) h = tt
at_orderly place (string s) h = tt
at_orderly place (array ds) h = item_orderly place ds h
at_orderly place (object ms) h = tt

part_orderly : (place : ℕ) (d : Data) → IsOrderly d → AreOrderly (items_of (at place d))
part_orderly place d h = list_orderly (at place d) (at_orderly place d h)

for_orderly : (table : Table) (ds : Items) → AreOrderly ds → AreOrderly (items_for table ds)
for_orderly table no_items h = tt
for_orderly table (item d ds) h = one (goes_with table d) (for_orderly table ds h.1)
  where
    one : (goes : Bool) → AreOrderly (items_for table ds) → AreOrderly (if goes then item d (items_for table ds) else items_for table ds)
    one true later = (h.0, later)
    one false later = later

-- ---- a fault of a form is not that memory is out

no_memory : (o : Option KeyFault) → IfSome (option_map told o) IsNoMemory
no_memory None = tt
no_memory (Some key_faults.NoObject) = λ e. cc
no_memory (Some (key_faults.Missing key)) = λ e. cc
no_memory (Some (key_faults.WrongKind key)) = λ e. cc

form_told : (form : Form) (d : Data) → IfSome (object_fault form d) IsNoMemory
form_told form d = no_memory (object_key_fault form d)

too_many_told : (entries : ℕ) → IfSome (too_many entries) IsNoMemory
too_many_told entries = one (nat_le entries 250)
  where
    one : (few : Bool) → IfSome (if few then None else Some (wires.TooManyRows entries)) IsNoMemory
    one true = tt
    one false = λ e. cc

either_told : (o others : Option WireFault) → IfSome o IsNoMemory → IfSome others IsNoMemory → IfSome (option_or o others) IsNoMemory
either_told None others h k = k
either_told (Some fault) others h k = h

newer_told : (d : Data) → IfSome (newer_fault d) IsNoMemory
newer_told d = one (is_newer d)
  where
    one : (given : Bool) → IfSome (if given then first_fault newer_form d else None) IsNoMemory
    one true = no_memory (first_key_fault newer_form d)
    one false = tt

-- ---- rows and settings

of_json_memory : (json : JsonFault) → of_json json ≡ wires.Memory → json ≡ faults.Memory
of_json_memory faults.NotJson e = cc
of_json_memory (faults.Missing text) e = cc
of_json_memory (faults.WrongKind text) e = cc
of_json_memory (faults.Row fault) e = cc
of_json_memory faults.Memory e = refl

-- a fault of JSON is one of a message
json_or : {A : Type 0} (reads : A → Type 0) (these : JsonFault → Type 0) → ((made : A) × reads made) ⊎ SomeFault these → IsReadOrRefused reads (OfJson these)
json_or reads these (inl read) = inl read
json_or reads these (inr refused) = inr (of_json refused.0, (refused.0, refused.1, refl), λ e. refused.2 (of_json_memory refused.0 e))

row_or : (table : Table) → ReadsOrRefuses (ReadsRow table) (RefusesRowOf table)
row_or table d h = json_or (ReadsRow table d) (RefusesRow table d) (each_value table d h)

conf_or : (d : Data) → IsOrderly d → IsReadOrRefused (ReadsConf d) (OfJson (Tells (conf_fault d)))
conf_or d h = json_or (ReadsConf d) (Tells (conf_fault d)) (each_conf d h)

note_made : (d : Data) (row : Row) → ReadsRow tables.Note d row → (note : Note) × ReadsNote d note
note_made d (rows.Note note) h = (note, h)
note_made d row h = absurd h.stands

note_or : ReadsOrRefuses ReadsNote (RefusesRowOf tables.Note)
note_or d h = made_of (ReadsRow tables.Note d) (ReadsNote d) (RefusesRowOf tables.Note d) (note_made d) (row_or tables.Note d h)

card_made : (d : Data) (row : Row) → ReadsRow tables.Card d row → (card : Card) × ReadsCard d card
card_made d (rows.Card card) h = (card, h)
card_made d row h = absurd h.stands

card_or : ReadsOrRefuses ReadsCard (RefusesRowOf tables.Card)
card_or d h = made_of (ReadsRow tables.Card d) (ReadsCard d) (RefusesRowOf tables.Card d) (card_made d) (row_or tables.Card d h)

review_made : (d : Data) (row : Row) → ReadsRow tables.Review d row → (review : Review) × ReadsReview d review
review_made d (rows.Review review) h = (review, h)
review_made d row h = absurd h.stands

review_or : ReadsOrRefuses ReadsReview (RefusesRowOf tables.Review)
review_or d h = made_of (ReadsRow tables.Review d) (ReadsReview d) (RefusesRowOf tables.Review d) (review_made d) (row_or tables.Review d h)

note_type_made : (d : Data) (row : Row) → ReadsRow tables.NoteType d row → (note_type : NoteType) × ReadsNoteType d note_type
note_type_made d (rows.NoteType note_type) h = (note_type, h)
note_type_made d row h = absurd h.stands

note_type_or : ReadsOrRefuses ReadsNoteType (RefusesRowOf tables.NoteType)
note_type_or d h = made_of (ReadsRow tables.NoteType d) (ReadsNoteType d) (RefusesRowOf tables.NoteType d) (note_type_made d) (row_or tables.NoteType d h)

deck_made : (d : Data) (row : Row) → ReadsRow tables.Deck d row → (deck : Deck) × ReadsDeck d deck
deck_made d (rows.Deck deck) h = (deck, h)
deck_made d row h = absurd h.stands

deck_or : ReadsOrRefuses ReadsDeck (RefusesRowOf tables.Deck)
deck_or d h = made_of (ReadsRow tables.Deck d) (ReadsDeck d) (RefusesRowOf tables.Deck d) (deck_made d) (row_or tables.Deck d h)

options_made : (d : Data) (row : Row) → ReadsRow tables.Options d row → (options : Options) × ReadsOptions d options
options_made d (rows.Options options) h = (options, h)
options_made d row h = absurd h.stands

options_or : ReadsOrRefuses ReadsOptions (RefusesRowOf tables.Options)
options_or d h = made_of (ReadsRow tables.Options d) (ReadsOptions d) (RefusesRowOf tables.Options d) (options_made d) (row_or tables.Options d h)

-- a list of rows, then others
after_or : {A B : Type 0} (reads : Data → A → Type 0) (table : Table) (ds : Items) (others : WireFault → Type 0) (makes : B → Type 0) → ReadsOrRefuses reads (RefusesRowOf table) → AreOrderly ds
    → ((parts : List A) → ReadsEach reads ds parts → IsReadOrRefused makes others) → IsReadOrRefused makes (ThenAfter reads table ds others)
after_or {A = A} reads table ds others makes decides h later =
    then_or {A = List A} (RefusesEach reads (RefusesRowOf table) ds) (ReadsEach reads ds) others makes (each_or reads (RefusesRowOf table) decides ds h) later

-- ---- chunks and changes

chunk_or : ReadsOrRefuses ReadsChunk ChunkFault
chunk_or d h =
    first_or (ReadsChunk d) (chunk_fault d) (ChunkRowFault d) (either_told (object_fault chunk_form d) (too_many (chunk_values d)) (form_told chunk_form d) (too_many_told (chunk_values d)))
    (λ form. after_or ReadsCard tables.Card (items_under (codes "cards") d) _ (ReadsChunk d) card_or (items_orderly (codes "cards") d h)
    (λ cards are_cards. after_or ReadsNote tables.Note (items_under (codes "notes") d) _ (ReadsChunk d) note_or (items_orderly (codes "notes") d h)
    (λ notes are_notes. made_of (ReadsEach ReadsReview (items_under (codes "revlog") d)) (ReadsChunk d) (RefusesEach ReadsReview (RefusesRowOf tables.Review) (items_under (codes "revlog") d))
    (λ reviews are_reviews.
    let made : Chunk = record { done = bool_under (codes "done") d; reviews = reviews; cards = cards; notes = notes } in
    (made, chunk_read d made form refl are_cards are_notes are_reviews))
    (each_or ReadsReview (RefusesRowOf tables.Review) review_or (items_under (codes "revlog") d) (items_orderly (codes "revlog") d h)))))

newer_or : (d : Data) → IsOrderly d → IsReadOrRefused (TakesNewer d) (NewerFault d)
newer_or d h = one (is_newer d) refl
  where
    given : is_newer d ≡ true → IsReadOrRefused (ReadsConf (value_under (codes "conf") d)) (OfJson (Tells (conf_fault (value_under (codes "conf") d)))) → IsReadOrRefused (TakesNewer d) (NewerFault d)
    given e (inl read) = let made : Newer = record { conf = read.0; crt = integer_under (codes "crt") d } in inl (Some made, (e, read.1, refl))
    given e (inr refused) = inr (refused.0, (e, refused.1), refused.2)

    one : (b : Bool) → is_newer d ≡ b → IsReadOrRefused (TakesNewer d) (NewerFault d)
    one true e = given e (conf_or (value_under (codes "conf") d) (value_orderly (codes "conf") d h))
    one false e = inl (None, e)

changes_or : ReadsOrRefuses ReadsChanges ChangesFault
changes_or d h =
    first_or (ReadsChanges d) (changes_fault d) (ChangesRowFault d) (either_told (newer_fault d) (object_fault changes_form d) (newer_told d) (form_told changes_form d))
    (λ form. then_or {A = Option Newer} (NewerFault d) (TakesNewer d) _ (ReadsChanges d) (newer_or d h)
    (λ newer is_taken. after_or ReadsDeck tables.Deck (deck_items d) _ (ReadsChanges d) deck_or (part_orderly 0 (value_under (codes "decks") d) (value_orderly (codes "decks") d h))
    (λ decks are_decks. after_or ReadsOptions tables.Options (options_items d) _ (ReadsChanges d) options_or (part_orderly 1 (value_under (codes "decks") d) (value_orderly (codes "decks") d h))
    (λ options are_options. made_of (ReadsEach ReadsNoteType (items_under (codes "models") d)) (ReadsChanges d) (RefusesEach ReadsNoteType (RefusesRowOf tables.NoteType) (items_under (codes "models") d))
    (λ models are_models.
    let made : Changes = record { models = models; decks = decks; options = options; tags = texts (items_under (codes "tags") d); newer = newer } in
    (made, changes_read d made form is_taken are_decks are_options are_models refl))
    (each_or ReadsNoteType (RefusesRowOf tables.NoteType) note_type_or (items_under (codes "models") d) (items_orderly (codes "models") d h))))))

-- ---- whole collections

table_or : (table : Table) (ds : Items) → AreOrderly ds → IsReadOrRefused (ReadsTable table ds) (TableFault table ds)
table_or table ds h = ordered (each_or (ReadsRow table) (RefusesRowOf table) (row_or table) ds h)
  where
    one : (made : List Row) → ReadsEach (ReadsRow table) ds made → (b : Bool) → rows_after None made ≡ b → IsReadOrRefused (ReadsTable table ds) (TableFault table ds)
    one made each true e = inl (made, record { each = each; ascending = e })
    one made each false e = inr (wires.RowOrder table, inr ((made, record { each = each; unordered = e }), refl), λ m. cc)

    ordered : IsReadOrRefused (ReadsEach (ReadsRow table) ds) (RefusesEach (ReadsRow table) (RefusesRowOf table) ds) → IsReadOrRefused (ReadsTable table ds) (TableFault table ds)
    ordered (inl read) = one read.0 read.1 (rows_after None read.0) refl
    ordered (inr refused) = inr (refused.0, inl refused.1, refused.2)

tables_or : (columns : List (Table × Key)) (d : Data) → IsOrderly d → IsReadOrRefused (TakesTables columns d) (TablesFault columns d)
tables_or [] d h = inl ([], refl)
tables_or (column ∷ columns) d h =
    then_or {A = List Row} (TableFault column.0 (table_items column d)) (ReadsTable column.0 (table_items column d)) (TablesFault columns d) (TakesTables (column ∷ columns) d)
    (table_or column.0 (table_items column d) (for_orderly column.0 (items_under (key_text column.1) d) (items_orderly (key_text column.1) d h)))
    (λ first is_first. made_of (TakesTables columns d) (TakesTables (column ∷ columns) d) (TablesFault columns d)
    (λ others are_others. (first ++ others, (first, others, is_first, are_others, refl))) (tables_or columns d h))

-- the settings and the rows
abbrev TakesBoth : List (Table × Key) → Data → Conf × List Row → Type 0
TakesBoth columns d both = ReadsConf (value_under (codes "conf") d) both.0 × TakesTables columns d both.1

whole_or : {A : Type 0} (form : Form) (columns : List (Table × Key)) (d : Data) (makes : A → Type 0) → IsOrderly d
    → (object_fault form d ≡ None → (conf : Conf) → ReadsConf (value_under (codes "conf") d) conf → (all : List Row) → TakesTables columns d all → (made : A) × makes made)
    → IsReadOrRefused makes (WholeFault form columns d)
whole_or form columns d makes h goes =
    first_or makes (object_fault form d) (PartsFault columns d) (form_told form d)
    (λ none. then_or {A = Conf} (OfJson (Tells (conf_fault (value_under (codes "conf") d)))) (ReadsConf (value_under (codes "conf") d)) (TablesFault columns d) makes
    (conf_or (value_under (codes "conf") d) (value_orderly (codes "conf") d h))
    (λ conf is_conf. made_of (TakesTables columns d) makes (TablesFault columns d) (λ all are_taken. goes none conf is_conf all are_taken) (tables_or columns d h)))

-- the collection of an object, but for its number
abbrev whole_of : Data → Conf → List Row → ℤ → Whole
whole_of d conf all usn = record {
  rows = all;
  crt = integer_under (codes "crt") d;
  moment = integer_under (codes "mod") d;
  schema = integer_under (codes "scm") d;
  usn = usn;
  conf = conf;
  tags = tags_under (codes "tags") d;
}

upload_or : ReadsOrRefuses ReadsUpload (WholeFault upload_form upload_tables)
upload_or d h =
    whole_or upload_form upload_tables d (ReadsUpload d) h
    (λ none conf is_conf all are_taken. (
      whole_of d conf all (pos 0),
      upload_read d (whole_of d conf all (pos 0)) none (record { conf = is_conf; rows = are_taken; crt = refl; moment = refl; schema = refl; tags = refl }) refl,
    ))

download_or : ReadsOrRefuses ReadsDownload (WholeFault download_form download_tables)
download_or d h =
    whole_or download_form download_tables d (ReadsDownload d) h
    (λ none conf is_conf all are_taken. (
      whole_of d conf all (integer_under (codes "usn") d),
      download_read d (whole_of d conf all (integer_under (codes "usn") d)) none
          (record { conf = is_conf; rows = are_taken; crt = refl; moment = refl; schema = refl; tags = refl }) refl,
    ))

-- ---- requests

ask_or : (method : Method) → ReadsOrRefuses (ReadsAsk method) (AskFault method)
ask_or methods.Meta d h = by_form (ReadsAsk methods.Meta d) (object_fault [] d) (form_told [] d) (λ none. (asks.Meta, (none, refl)))
ask_or methods.Start d h =
    by_form (ReadsAsk methods.Start d) _ (form_told start_form d)
    (λ none. (asks.Start (integer_under (codes "minUsn") d) (integer_under (codes "lmod") d), start_read d _ _ none refl refl))
ask_or methods.ApplyGraves d h =
    let few = either_told (graves_fault (chunk_in d)) (too_many (grave_values (chunk_in d))) (form_told graves_form (chunk_in d)) (too_many_told (grave_values (chunk_in d))) in
    by_form (ReadsAsk methods.ApplyGraves d) (apply_graves_fault d) (either_told (object_fault holds_chunk_form d) _ (form_told holds_chunk_form d) few)
    (λ none. (asks.ApplyGraves (graves_of (chunk_in d)), apply_graves_read d (chunk_in d) (graves_of (chunk_in d)) none refl refl))
ask_or methods.ApplyChanges d h =
    let inside : Data = value_under (codes "changes") d in
    first_or (ReadsAsk methods.ApplyChanges d) (object_fault holds_changes_form d) (ChangesFault inside) (form_told holds_changes_form d)
    (λ none. made_of (ReadsChanges inside) (ReadsAsk methods.ApplyChanges d) (ChangesFault inside)
    (λ changes read. (asks.ApplyChanges changes, apply_changes_read d inside changes none refl read)) (changes_or inside (value_orderly (codes "changes") d h)))
ask_or methods.Chunk d h = by_form (ReadsAsk methods.Chunk d) (object_fault [] d) (form_told [] d) (λ none. (asks.Chunk, (none, refl)))
ask_or methods.ApplyChunk d h =
    first_or (ReadsAsk methods.ApplyChunk d) (object_fault holds_chunk_form d) (ChunkFault (chunk_in d)) (form_told holds_chunk_form d)
    (λ none. made_of (ReadsChunk (chunk_in d)) (ReadsAsk methods.ApplyChunk d) (ChunkFault (chunk_in d))
    (λ chunk read. (asks.ApplyChunk chunk, apply_chunk_read d (chunk_in d) chunk none refl read)) (chunk_or (chunk_in d) (value_orderly (codes "chunk") d h)))
ask_or methods.SanityCheck2 d h =
    by_form (ReadsAsk methods.SanityCheck2 d) _ (form_told holds_counts_form d)
    (λ none. (asks.SanityCheck2 (counts_under (codes "client") d), sanity_asked d (counts_under (codes "client") d) none refl))
ask_or methods.Finish d h = by_form (ReadsAsk methods.Finish d) (object_fault [] d) (form_told [] d) (λ none. (asks.Finish, (none, refl)))
ask_or methods.Upload d h =
    made_of (ReadsUpload d) (ReadsAsk methods.Upload d) (WholeFault upload_form upload_tables d) (λ whole read. (asks.Upload whole, read)) (upload_or d h)
ask_or methods.Download d h = by_form (ReadsAsk methods.Download d) (object_fault [] d) (form_told [] d) (λ none. (asks.Download, (none, refl)))

-- ---- replies

sanity_told : (d : Data) → IfSome (sanity_fault d) IsNoMemory
sanity_told d = either_told (object_fault status_form d) _ (form_told status_form d) (one (is_good d))
  where
    one : (good : Bool) → IfSome (if good then None else object_fault bad_form d) IsNoMemory
    one true = tt
    one false = form_told bad_form d

sanity_made : (d : Data) → sanity_fault d ≡ None → (give : Give) × ReadsGive methods.SanityCheck2 d give
sanity_made d none = one (is_good d) refl
  where
    form : object_fault status_form d ≡ None
    form = first_none (object_fault status_form d) _ none

    one : (good : Bool) → is_good d ≡ good → (give : Give) × ReadsGive methods.SanityCheck2 d give
    one true e = (gives.Sanity good_check, good_read d good_check form e refl)
    one false e =
        let bad : object_fault bad_form d ≡ None = subst (λ (b : Bool). (if b then None else object_fault bad_form d) ≡ None) e (later_none (object_fault status_form d) _ none) in
        (gives.Sanity (bad_check d), bad_read d (bad_check d) form e bad refl)

give_or : (method : Method) → ReadsOrRefuses (ReadsGive method) (GiveFault method)
give_or methods.Meta d h =
    by_form (ReadsGive methods.Meta d) _ (form_told meta_form d)
    (λ none. (
      gives.Meta _,
      meta_read d (record {
        scm = integer_under (codes "scm") d;
        ts = integer_under (codes "ts") d;
        moment = integer_under (codes "mod") d;
        usn = integer_under (codes "usn") d;
        musn = integer_under (codes "musn") d;
        msg = text_under (codes "msg") d;
        cont = bool_under (codes "cont") d;
      }) none refl refl refl refl refl refl refl,
    ))
give_or methods.Start d h = by_form (ReadsGive methods.Start d) (graves_fault d) (form_told graves_form d) (λ none. (gives.Graves (graves_of d), graves_are d (graves_of d) none refl))
give_or methods.ApplyGraves d h = by_form (ReadsGive methods.ApplyGraves d) (object_fault [] d) (form_told [] d) (λ none. (gives.Nothing, (none, refl)))
give_or methods.ApplyChanges d h =
    made_of (ReadsChanges d) (ReadsGive methods.ApplyChanges d) (ChangesFault d) (λ changes read. (gives.Changes changes, read)) (changes_or d h)
give_or methods.Chunk d h = made_of (ReadsChunk d) (ReadsGive methods.Chunk d) (ChunkFault d) (λ chunk read. (gives.Chunk chunk, read)) (chunk_or d h)
give_or methods.ApplyChunk d h = by_form (ReadsGive methods.ApplyChunk d) (object_fault [] d) (form_told [] d) (λ none. (gives.Nothing, (none, refl)))
give_or methods.SanityCheck2 d h = by_form (ReadsGive methods.SanityCheck2 d) (sanity_fault d) (sanity_told d) (sanity_made d)
give_or methods.Finish d h =
    by_form (ReadsGive methods.Finish d) _ (form_told moment_form d) (λ none. (gives.Moment (integer_under (codes "mod") d), moment_read d (integer_under (codes "mod") d) none refl))
give_or methods.Upload d h =
    by_form (ReadsGive methods.Upload d) _ (form_told uploaded_form d)
    (λ none. (gives.Uploaded (integer_under (codes "mod") d) (integer_under (codes "scm") d), uploaded_read d (integer_under (codes "mod") d) (integer_under (codes "scm") d) none refl refl))
give_or methods.Download d h =
    made_of (ReadsDownload d) (ReadsGive methods.Download d) (WholeFault download_form download_tables d) (λ whole read. (gives.Whole whole, read)) (download_or d h)

-- a reply of a status
abbrev ReadsOf : Method → ℕ → Bool → Data → Reply → Type 0
ReadsOf method code granted d r = (r.status ≡ code) × ReadsEither granted method d r

either_or : (granted : Bool) (method : Method) (code : ℕ) → ReadsOrRefuses (ReadsOf method code granted) (EitherFault granted method)
either_or true method code d h =
    made_of (ReadsGive method d) (ReadsOf method code true d) (GiveFault method d)
    (λ give read.
    let made : Reply = record { status = code; word = words.Ok; seen = pos 0; give = give } in
    (made, (refl, record { word = refl; seen = refl; give = read })))
    (give_or method d h)
either_or false method code d h =
    by_form (ReadsOf method code false d) _ (form_told refused_form d)
    (λ none.
    let made : Reply = record {
      status = code;
      word = unwrap_or (word_of (text_under (codes "word") d)) words.Ok;
      seen = integer_under (codes "seen") d;
      give = gives.Nothing;
    } in
    (made, (refl, refused_read d made none refl refl refl)))

-- ---- bodies

-- a fault is one of these or out of memory
one_of : (these : WireFault → Type 0) (fault : WireFault) → these fault → OrMemory these fault
one_of these (wires.Json json) h = h
one_of these (wires.TooManyRows entries) h = h
one_of these (wires.RowOrder table) h = h
one_of these wires.Memory h = tt

-- the bytes are no JSON
not_json : {A : Type 0} (makes : A → Type 0) (faults_of : Data → WireFault → Type 0) (body : List ℕ) → IsNoJson body → IsReadOrRefused makes (RefusesBody faults_of body)
not_json makes faults_of body none = inr (wires.Json faults.NotJson, inl (none, refl), λ m. cc)

body_or : {A B : Type 0} (reads : Data → A → Type 0) (faults_of : Data → WireFault → Type 0) (makes : B → Type 0) (body : List ℕ) → ReadsOrRefuses reads faults_of
    → ((d : Data) → IsJsonOf body d → (made : A) → reads d made → (other : B) × makes other) → IsReadOrRefused makes (RefusesBody faults_of body)
body_or {A = A} {B = B} reads faults_of makes body decides goes = text (is_utf8 body) refl
  where
    valued : (d : Data) → IsJsonOf body d → IsReadOrRefused (reads d) (faults_of d) → IsReadOrRefused makes (RefusesBody faults_of body)
    valued d is (inl read) = inl (goes d is read.0 read.1)
    valued d is (inr refused) =
        inr (refused.0, one_of (λ fault. (IsNoJson body × (fault ≡ wires.Json faults.NotJson)) ⊎ ((d : Data) × IsJsonOf body d × faults_of d fault)) refused.0 (inr (d, is, refused.1)), refused.2)

    value : is_utf8 body ≡ true → (o : Option Data) → read body ≡ o → IsReadOrRefused makes (RefusesBody faults_of body)
    value u None e = not_json makes faults_of body (λ _. e)
    value u (Some d) e = valued d (record { utf8 = IsUtf8-from_is_utf8 body u; reads = e }) (decides d (read_orderly body d e))

    text : (b : Bool) → is_utf8 body ≡ b → IsReadOrRefused makes (RefusesBody faults_of body)
    text true e = value e (read body) refl
    text false e = not_json makes faults_of body (λ u. let yes : is_utf8 body ≡ true = is_utf8-from_IsUtf8 body u in absurd cc)

-- each body of a request is read or refused
pub request_or : (e : Envelope) (method : Method) (body : List ℕ) → IsReadOrRefused (ReadsRequest e method body) (RefusesRequest method body)
request_or e method body =
    body_or (ReadsAsk method) (AskFault method) (ReadsRequest e method body) body (ask_or method)
    (λ d is ask read.
    let made : Request = record { host = e.host; session = e.session; step = e.step; base = e.base; ask = ask } in
    (made, record { value = d; text = is; ask = read; host = refl; session = refl; step = refl; base = refl }))

-- each body of a reply is read or refused
pub reply_or : (method : Method) (code : ℕ) (body : List ℕ) → IsReadOrRefused (ReadsReply method code body) (RefusesReply method code body)
reply_or method code body =
    body_or (ReadsOf method code (code == 200)) (ReplyFault code method) (ReadsReply method code body) body (either_or (code == 200) method code)
    (λ d is r read. (r, record { value = d; text = is; status = read.0; is = read.1 }))

-- A body is read as one message at most.
use Rattle.std.proofs.Common.{◌≡◌, ℕ, ℤ, pos, List, [], ◌∷◌, ◌++◌, Bool, true, false, ◌||◌, if◌then◌else◌, ◌==◌, Option, Some, None, refl, sym, ap, ◌∙◌, subst, codes}
use Rattle.std.specs.Prelude.{unwrap_or}
use Rattle.std.specs.Cmp.Lexicographic.{pointwise}
use Rattle.std.specs.Option.{is_some}
use Rattle.serde_json.specs.Data.{Data, null, string, array, object, Items, no_items, item, Members, no_members, member}
use Rattle.serde_json.specs.Find.{get, at, as_str}
use Rattle.serde_json.specs.Read.{read}
use Rattle.ak_base.specs.declared.cards.Card.{Card}
use Rattle.ak_base.specs.declared.decks.Deck.{Deck}
use Rattle.ak_base.specs.declared.heads.Tag.{Tag}
use Rattle.ak_base.specs.declared.names.Table.{Table}
use Rattle.ak_base.specs.declared.names.Table.TheVariants as tables
use Rattle.ak_base.specs.declared.note_types.NoteType.{NoteType}
use Rattle.ak_base.specs.declared.notes.Note.{Note}
use Rattle.ak_base.specs.declared.option_groups.Options.{Options}
use Rattle.ak_base.specs.declared.reviews.Review.{Review}
use Rattle.ak_base.specs.declared.rows.Row.{Row}
use Rattle.ak_base.specs.declared.rows.Row.TheVariants as rows
use Rattle.ak_json.proofs.OneRow.{one_row_read, one_conf}
use Rattle.ak_json.specs.Confs.{ReadsConf}
use Rattle.ak_json.specs.Rows.{ReadsRow}
use Rattle.ak_merge.specs.declared.checks.CheckFault.{CheckFault}
use Rattle.ak_merge.specs.declared.checks.CheckFault.TheVariants as checks
use Rattle.ak_messages.specs.declared.methods.Method.{Method}
use Rattle.ak_messages.specs.declared.methods.Method.TheVariants as methods
use Rattle.ak_messages.specs.declared.replies.Give.{Give}
use Rattle.ak_messages.specs.declared.replies.Give.TheVariants as gives
use Rattle.ak_messages.specs.declared.replies.Reply.{Reply}
use Rattle.ak_messages.specs.declared.replies.SanityReply.{SanityReply}
use Rattle.ak_messages.specs.declared.requests.Ask.{Ask}
use Rattle.ak_messages.specs.declared.requests.Ask.TheVariants as asks
use Rattle.ak_messages.specs.declared.requests.Changes.{Changes}
use Rattle.ak_messages.specs.declared.requests.Chunk.{Chunk}
use Rattle.ak_messages.specs.declared.requests.Envelope.{Envelope}
use Rattle.ak_messages.specs.declared.requests.GraveIds.{GraveIds}
use Rattle.ak_messages.specs.declared.requests.Newer.{Newer}
use Rattle.ak_messages.specs.declared.requests.Request.{Request}
use Rattle.ak_messages.specs.declared.requests.SanityCounts.{SanityCounts}
use Rattle.ak_messages.specs.declared.requests.Whole.{Whole}
use Rattle.ak_wire.specs.Bodies.{ReadsGraves, ReadsChunk, ReadsNewer, is_newer, ReadsChanges}
use Rattle.ak_wire.specs.Faults.{ReadsEach}
use Rattle.ak_wire.specs.Found.{Under, AtPlace, ReadsList, IsInteger, IsText, ReadsCounts, ReadsMembers, ReadsTags}
use Rattle.ak_wire.specs.Keys.{key_text}
use Rattle.ak_wire.specs.Kinds.{number_at}
use Rattle.ak_wire.specs.Parts.{ReadsNote, ReadsCard, ReadsReview, ReadsNoteType, ReadsDeck, ReadsOptions}
use Rattle.ak_wire.specs.Replies.{ReadsMeta, check_of, BeginsWith, ReadsFault, ReadsBad, ReadsCheck, ReadsSanity, ReadsGive, ReadsEither, ReadsReplyIn, ReadsReply}
use Rattle.ak_wire.specs.Requests.{IsJsonOf, ReadsAsk, ReadsRequest}
use Rattle.ak_wire.specs.Wholes.{items_for, ReadsTable, ReadsRowsOf, ReadsTables, ReadsParts, upload_tables, download_tables, ReadsUpload, ReadsDownload}
use Rattle.ak_wire.specs.declared.keys.Key.{Key}

-- ---- what is read is one

same_found : {A : Type 0} (o : Option A) (a b : A) → o ≡ Some a → o ≡ Some b → a ≡ b
same_found o a b x y = cc

-- a value is read as one thing at most
abbrev pub ReadsOne : {A : Type 0} → (Data → A → Type 0) → Type 0
ReadsOne {A = A} reads = (d : Data) (a b : A) → reads d a → reads d b → a ≡ b

one_under : {A : Type 0} (key : List ℕ) (reads : Data → A → Type 0) → ReadsOne reads → ReadsOne (λ d made. Under key reads d made)
one_under key reads one d a b x y =
    let same : x.0 ≡ y.0 = same_found (get key d) x.0 y.0 x.1 y.1 in
    one y.0 a b (subst (λ (v : Data). reads v a) same x.2) y.2

one_place : {A : Type 0} (place : ℕ) (reads : Data → A → Type 0) → ReadsOne reads → ReadsOne (λ d made. AtPlace place reads d made)
one_place place reads one d a b x y =
    let same : x.0 ≡ y.0 = same_found (at place d) x.0 y.0 x.1 y.1 in
    one y.0 a b (subst (λ (v : Data). reads v a) same x.2) y.2

pub one_each : {A : Type 0} (reads : Data → A → Type 0) → ReadsOne reads → (ds : Items) (xs ys : List A) → ReadsEach reads ds xs → ReadsEach reads ds ys → xs ≡ ys
one_each reads one no_items [] [] h k = refl
one_each reads one no_items [] (y ∷ ys) h k = absurd k
one_each reads one no_items (x ∷ xs) ys h k = absurd h
one_each reads one (item d ds) [] ys h k = absurd h
one_each reads one (item d ds) (x ∷ xs) [] h k = absurd k
one_each reads one (item d ds) (x ∷ xs) (y ∷ ys) h k =
    let first : x ≡ y = one d x y h.0 k.0 in
    let rest : xs ≡ ys = one_each reads one ds xs ys h.1 k.1 in
    cc

same_items : (d : Data) (ds es : Items) → d ≡ array ds → d ≡ array es → ds ≡ es
same_items d ds es x y = cc

same_members : (d : Data) (ms ns : Members) → d ≡ object ms → d ≡ object ns → ms ≡ ns
same_members d ms ns x y = cc

one_list : {A : Type 0} (reads : Data → A → Type 0) → ReadsOne reads → ReadsOne (λ d parts. ReadsList reads d parts)
one_list {A = A} reads one d a b x y =
    let same : x.0 ≡ y.0 = same_items d x.0 y.0 x.1 y.1 in
    one_each reads one y.0 a b (subst (λ (ds : Items). ReadsEach reads ds a) same x.2) y.2

one_integer : ReadsOne IsInteger
one_integer d a b x y = cc

one_text : ReadsOne IsText
one_text d a b x y = cc

one_note : ReadsOne ReadsNote
one_note d a b x y = let same : rows.Note a ≡ rows.Note b = one_row_read tables.Note d (rows.Note a) (rows.Note b) x y in cc

one_card : ReadsOne ReadsCard
one_card d a b x y = let same : rows.Card a ≡ rows.Card b = one_row_read tables.Card d (rows.Card a) (rows.Card b) x y in cc

one_review : ReadsOne ReadsReview
one_review d a b x y = let same : rows.Review a ≡ rows.Review b = one_row_read tables.Review d (rows.Review a) (rows.Review b) x y in cc

one_note_type : ReadsOne ReadsNoteType
one_note_type d a b x y = let same : rows.NoteType a ≡ rows.NoteType b = one_row_read tables.NoteType d (rows.NoteType a) (rows.NoteType b) x y in cc

one_deck : ReadsOne ReadsDeck
one_deck d a b x y = let same : rows.Deck a ≡ rows.Deck b = one_row_read tables.Deck d (rows.Deck a) (rows.Deck b) x y in cc

one_options : ReadsOne ReadsOptions
one_options d a b x y = let same : rows.Options a ≡ rows.Options b = one_row_read tables.Options d (rows.Options a) (rows.Options b) x y in cc

-- ---- parts of messages

graves_one : ReadsOne ReadsGraves
graves_one d a b x y =
    let ids : (key : List ℕ) (s t : List ℤ) → Under key (ReadsList IsInteger) d s → Under key (ReadsList IsInteger) d t → s ≡ t =
    λ key s t. one_under key (ReadsList IsInteger) (one_list IsInteger one_integer) d s t in
    let cards : a.cards ≡ b.cards = ids (codes "cards") a.cards b.cards x.cards y.cards in
    let notes : a.notes ≡ b.notes = ids (codes "notes") a.notes b.notes x.notes y.notes in
    let decks : a.decks ≡ b.decks = ids (codes "decks") a.decks b.decks x.decks y.decks in
    λ i. record { cards = cards i; notes = notes i; decks = decks i }

chunk_one : ReadsOne ReadsChunk
chunk_one d a b x y =
    let done : a.done ≡ b.done = cc (x.done, y.done) in
    let cards : a.cards ≡ b.cards = one_under (codes "cards") (ReadsList ReadsCard) (one_list ReadsCard one_card) d a.cards b.cards x.cards y.cards in
    let notes : a.notes ≡ b.notes = one_under (codes "notes") (ReadsList ReadsNote) (one_list ReadsNote one_note) d a.notes b.notes x.notes y.notes in
    let reviews : a.reviews ≡ b.reviews = one_under (codes "revlog") (ReadsList ReadsReview) (one_list ReadsReview one_review) d a.reviews b.reviews x.reviews y.reviews in
    λ i. record { done = done i; reviews = reviews i; cards = cards i; notes = notes i }

settings_one : (d : Data) (a b : Newer) → ReadsNewer d (Some a) → ReadsNewer d (Some b) → a ≡ b
settings_one d a b x y =
    let conf : a.conf ≡ b.conf = one_under (codes "conf") ReadsConf one_conf d a.conf b.conf x.0 y.0 in
    let crt : a.crt ≡ b.crt = same_found _ a.crt b.crt x.1 y.1 in
    λ i. record { conf = conf i; crt = crt i }

counts_one : ReadsOne ReadsCounts
counts_one d a b x y =
    let cards : a.cards ≡ b.cards = same_found _ a.cards b.cards x.cards y.cards in
    let notes : a.notes ≡ b.notes = same_found _ a.notes b.notes x.notes y.notes in
    let reviews : a.reviews ≡ b.reviews = same_found _ a.reviews b.reviews x.reviews y.reviews in
    let graves : a.graves ≡ b.graves = same_found _ a.graves b.graves x.graves y.graves in
    let models : a.models ≡ b.models = same_found _ a.models b.models x.models y.models in
    let decks : a.decks ≡ b.decks = same_found _ a.decks b.decks x.decks y.decks in
    let options : a.options ≡ b.options = same_found _ a.options b.options x.options y.options in
    λ i. record { cards = cards i; notes = notes i; reviews = reviews i; graves = graves i; models = models i; decks = decks i; options = options i }

given_or_not : (d : Data) (newer : Newer) → is_newer d ≡ false → Under (codes "conf") ReadsConf d newer.conf → ⊥
given_or_not d newer none given =
    let some : is_newer d ≡ true = ap (λ (o : Option Data). is_some o || is_some (get (codes "crt") d)) given.1 in
    absurd cc

newer_one : (d : Data) (a b : Option Newer) → ReadsNewer d a → ReadsNewer d b → a ≡ b
newer_one d None None x y = refl
newer_one d None (Some b) x y = absurd (given_or_not d b x y.0)
newer_one d (Some a) None x y = absurd (given_or_not d a y x.0)
newer_one d (Some a) (Some b) x y = ap Some (settings_one d a b x y)

changes_one : ReadsOne ReadsChanges
changes_one d a b x y =
    let newer : a.newer ≡ b.newer = newer_one d a.newer b.newer x.newer y.newer in
    let decks : a.decks ≡ b.decks =
    one_under (codes "decks") (AtPlace 0 (ReadsList ReadsDeck)) (one_place 0 (ReadsList ReadsDeck) (one_list ReadsDeck one_deck)) d a.decks b.decks x.decks y.decks in
    let options : a.options ≡ b.options =
    one_under (codes "decks") (AtPlace 1 (ReadsList ReadsOptions)) (one_place 1 (ReadsList ReadsOptions) (one_list ReadsOptions one_options)) d a.options b.options x.options y.options in
    let models : a.models ≡ b.models = one_under (codes "models") (ReadsList ReadsNoteType) (one_list ReadsNoteType one_note_type) d a.models b.models x.models y.models in
    let tags : a.tags ≡ b.tags = one_under (codes "tags") (ReadsList IsText) (one_list IsText one_text) d a.tags b.tags x.tags y.tags in
    λ i. record { models = models i; decks = decks i; options = options i; tags = tags i; newer = newer i }

-- ---- whole collections

tag_one : (k : List ℕ) (d : Data) (a b : Tag) → a.name ≡ k → IsInteger d a.usn → b.name ≡ k → IsInteger d b.usn → a ≡ b
tag_one k d a b p q r s =
    let name : a.name ≡ b.name = p ∙ sym r in
    let usn : a.usn ≡ b.usn = same_found _ a.usn b.usn q s in
    λ i. record { name = name i; usn = usn i }

members_one : (ms : Members) (xs ys : List Tag) → ReadsMembers ms xs → ReadsMembers ms ys → xs ≡ ys
members_one no_members [] [] h k = refl
members_one no_members [] (y ∷ ys) h k = absurd k
members_one no_members (x ∷ xs) ys h k = absurd h
members_one (member l d ms) [] ys h k = absurd h
members_one (member l d ms) (x ∷ xs) [] h k = absurd k
members_one (member l d ms) (x ∷ xs) (y ∷ ys) h k =
    let first : x ≡ y = tag_one l d x y h.0 h.1 k.0 k.1 in
    let rest : xs ≡ ys = members_one ms xs ys h.2 k.2 in
    cc

tags_one : ReadsOne ReadsTags
tags_one d a b x y =
    let same : x.0 ≡ y.0 = same_members d x.0 y.0 x.1 y.1 in
    members_one y.0 a b (subst (λ (ms : Members). ReadsMembers ms a) same x.2) y.2

table_one : (table : Table) → ReadsOne (ReadsRowsOf table)
table_one table d a b x y =
    let same : x.0 ≡ y.0 = same_items d x.0 y.0 x.1 y.1 in
    let first : ReadsTable table (items_for table y.0) a = subst (λ (ds : Items). ReadsTable table (items_for table ds) a) same x.2 in
    one_each (ReadsRow table) (λ v r s. one_row_read table v r s) (items_for table y.0) a b first.each y.2.each

tables_one : (columns : List (Table × Key)) (d : Data) (a b : List Row) → ReadsTables columns d a → ReadsTables columns d b → a ≡ b
tables_one [] d a b x y = x ∙ sym y
tables_one (column ∷ columns) d a b x y =
    let first : x.0 ≡ y.0 = one_under (key_text column.1) (ReadsRowsOf column.0) (table_one column.0) d x.0 y.0 x.2 y.2 in
    let others : x.1 ≡ y.1 = tables_one columns d x.1 y.1 x.3 y.3 in
    x.4 ∙ ap (λ (rs : List Row). rs ++ x.1) first ∙ ap (λ (rs : List Row). y.0 ++ rs) others ∙ sym y.4

whole_one : (columns : List (Table × Key)) (d : Data) (a b : Whole) → ReadsParts columns d a → ReadsParts columns d b → a.usn ≡ b.usn → a ≡ b
whole_one columns d a b x y usn =
    let conf : a.conf ≡ b.conf = one_under (codes "conf") ReadsConf one_conf d a.conf b.conf x.conf y.conf in
    let parts : a.rows ≡ b.rows = tables_one columns d a.rows b.rows x.rows y.rows in
    let crt : a.crt ≡ b.crt = same_found _ a.crt b.crt x.crt y.crt in
    let moment : a.moment ≡ b.moment = same_found _ a.moment b.moment x.moment y.moment in
    let schema : a.schema ≡ b.schema = same_found _ a.schema b.schema x.schema y.schema in
    let tags : a.tags ≡ b.tags = one_under (codes "tags") ReadsTags tags_one d a.tags b.tags x.tags y.tags in
    λ i. record { rows = parts i; crt = crt i; moment = moment i; schema = schema i; usn = usn i; conf = conf i; tags = tags i }

upload_one : ReadsOne ReadsUpload
upload_one d a b x y = whole_one upload_tables d a b x.parts y.parts (x.usn ∙ sym y.usn)

download_one : ReadsOne ReadsDownload
download_one d a b x y = whole_one download_tables d a b x.parts y.parts (same_found _ a.usn b.usn x.usn y.usn)

-- ---- requests

start_one : (d : Data) (a b : Ask) → ReadsAsk methods.Start d a → ReadsAsk methods.Start d b → a ≡ b
start_one d (asks.Start m l) (asks.Start n k) x y =
    let usn : m ≡ n = same_found _ m n x.1 y.1 in
    let moment : l ≡ k = same_found _ l k x.2 y.2 in
    cc
start_one d (asks.Start m l) b x y = absurd y
start_one d a b x y = absurd x

apply_graves_one : (d : Data) (a b : Ask) → ReadsAsk methods.ApplyGraves d a → ReadsAsk methods.ApplyGraves d b → a ≡ b
apply_graves_one d (asks.ApplyGraves g) (asks.ApplyGraves h) x y = ap asks.ApplyGraves (one_under (codes "chunk") ReadsGraves graves_one d g h x.1 y.1)
apply_graves_one d (asks.ApplyGraves g) b x y = absurd y
apply_graves_one d a b x y = absurd x

apply_changes_one : (d : Data) (a b : Ask) → ReadsAsk methods.ApplyChanges d a → ReadsAsk methods.ApplyChanges d b → a ≡ b
apply_changes_one d (asks.ApplyChanges c) (asks.ApplyChanges e) x y = ap asks.ApplyChanges (one_under (codes "changes") ReadsChanges changes_one d c e x.1 y.1)
apply_changes_one d (asks.ApplyChanges c) b x y = absurd y
apply_changes_one d a b x y = absurd x

apply_chunk_one : (d : Data) (a b : Ask) → ReadsAsk methods.ApplyChunk d a → ReadsAsk methods.ApplyChunk d b → a ≡ b
apply_chunk_one d (asks.ApplyChunk c) (asks.ApplyChunk e) x y = ap asks.ApplyChunk (one_under (codes "chunk") ReadsChunk chunk_one d c e x.1 y.1)
apply_chunk_one d (asks.ApplyChunk c) b x y = absurd y
apply_chunk_one d a b x y = absurd x

sanity_check_one : (d : Data) (a b : Ask) → ReadsAsk methods.SanityCheck2 d a → ReadsAsk methods.SanityCheck2 d b → a ≡ b
sanity_check_one d (asks.SanityCheck2 c) (asks.SanityCheck2 e) x y = ap asks.SanityCheck2 (one_under (codes "client") ReadsCounts counts_one d c e x.1 y.1)
sanity_check_one d (asks.SanityCheck2 c) b x y = absurd y
sanity_check_one d a b x y = absurd x

uploads_one : (d : Data) (a b : Ask) → ReadsAsk methods.Upload d a → ReadsAsk methods.Upload d b → a ≡ b
uploads_one d (asks.Upload w) (asks.Upload v) x y = ap asks.Upload (upload_one d w v x y)
uploads_one d (asks.Upload w) b x y = absurd y
uploads_one d a b x y = absurd x

pub ask_one : (method : Method) (d : Data) (a b : Ask) → ReadsAsk method d a → ReadsAsk method d b → a ≡ b
ask_one methods.Meta d a b x y = x.1 ∙ sym y.1
ask_one methods.Start d a b x y = start_one d a b x y
ask_one methods.ApplyGraves d a b x y = apply_graves_one d a b x y
ask_one methods.ApplyChanges d a b x y = apply_changes_one d a b x y
ask_one methods.Chunk d a b x y = x.1 ∙ sym y.1
ask_one methods.ApplyChunk d a b x y = apply_chunk_one d a b x y
ask_one methods.SanityCheck2 d a b x y = sanity_check_one d a b x y
ask_one methods.Finish d a b x y = x.1 ∙ sym y.1
ask_one methods.Upload d a b x y = uploads_one d a b x y
ask_one methods.Download d a b x y = x.1 ∙ sym y.1

-- a body is the JSON of one value
pub one_value : (body : List ℕ) (d e : Data) → IsJsonOf body d → IsJsonOf body e → d ≡ e
one_value body d e x y = same_found (read body) d e x.reads y.reads

pub request_one : (e : Envelope) (method : Method) (body : List ℕ) (r s : Request) → ReadsRequest e method body r → ReadsRequest e method body s → r ≡ s
request_one e method body r s x y =
    let value : x.value ≡ y.value = one_value body x.value y.value x.text y.text in
    let ask : r.ask ≡ s.ask = ask_one method y.value r.ask s.ask (subst (λ (d : Data). ReadsAsk method d r.ask) value x.ask) y.ask in
    let host : r.host ≡ s.host = x.host ∙ sym y.host in
    let session : r.session ≡ s.session = x.session ∙ sym y.session in
    let step : r.step ≡ s.step = x.step ∙ sym y.step in
    let base : r.base ≡ s.base = x.base ∙ sym y.base in
    λ i. record { host = host i; session = session i; step = step i; base = base i; ask = ask i }

-- ---- replies

meta_one : ReadsOne ReadsMeta
meta_one d a b x y =
    let scm : a.scm ≡ b.scm = same_found _ a.scm b.scm x.scm y.scm in
    let ts : a.ts ≡ b.ts = same_found _ a.ts b.ts x.ts y.ts in
    let moment : a.moment ≡ b.moment = same_found _ a.moment b.moment x.moment y.moment in
    let usn : a.usn ≡ b.usn = same_found _ a.usn b.usn x.usn y.usn in
    let musn : a.musn ≡ b.musn = same_found _ a.musn b.musn x.musn y.musn in
    let msg : a.msg ≡ b.msg = cc (x.msg, y.msg) in
    let cont : a.cont ≡ b.cont = cc (x.cont, y.cont) in
    λ i. record { scm = scm i; ts = ts i; moment = moment i; usn = usn i; musn = musn i; msg = msg i; cont = cont i }

null_or_list : (d : Data) (code : ℤ) → d ≡ null → number_at 0 d ≡ Some code → ⊥
null_or_list d code none some = let e : number_at 0 d ≡ None = ap (number_at 0) none in absurd cc

-- the number of a fault tells which it is
abbrev fault_code : CheckFault → ℤ
fault_code (checks.CardNoNote id) = pos 1
fault_code (checks.NoteNoCard id) = pos 2
fault_code (checks.NoteNoType id) = pos 3
fault_code (checks.CardNoTemplate id) = pos 4

abbrev fault_id : CheckFault → ℤ
fault_id (checks.CardNoNote id) = id
fault_id (checks.NoteNoCard id) = id
fault_id (checks.NoteNoType id) = id
fault_id (checks.CardNoTemplate id) = id

begins : (d : Data) (f : CheckFault) → ReadsFault d (Some f) → BeginsWith (fault_code f) (fault_id f) d
begins d (checks.CardNoNote id) h = h
begins d (checks.NoteNoCard id) h = h
begins d (checks.NoteNoType id) h = h
begins d (checks.CardNoTemplate id) h = h

fault_back : (f : CheckFault) → check_of (fault_code f) (fault_id f) ≡ f
fault_back (checks.CardNoNote id) = refl
fault_back (checks.NoteNoCard id) = refl
fault_back (checks.NoteNoType id) = refl
fault_back (checks.CardNoTemplate id) = refl

same_fault : (d : Data) (a b : CheckFault) → BeginsWith (fault_code a) (fault_id a) d → BeginsWith (fault_code b) (fault_id b) d → a ≡ b
same_fault d a b x y =
    let code : fault_code a ≡ fault_code b = same_found _ (fault_code a) (fault_code b) x.0 y.0 in
    let id : fault_id a ≡ fault_id b = same_found _ (fault_id a) (fault_id b) x.1 y.1 in
    sym (fault_back a) ∙ ap (λ (z : ℤ). check_of z (fault_id a)) code ∙ ap (λ (z : ℤ). check_of (fault_code b) z) id ∙ fault_back b

fault_one : ReadsOne ReadsFault
fault_one d None None x y = refl
fault_one d None (Some b) x y = absurd (null_or_list d (fault_code b) x (begins d b y).0)
fault_one d (Some a) None x y = absurd (null_or_list d (fault_code a) y (begins d a x).0)
fault_one d (Some a) (Some b) x y = ap Some (same_fault d a b (begins d a x) (begins d b y))

ok_or_bad : (o : Option Data) → o ≡ Some (string (codes "ok")) → o ≡ Some (string (codes "bad")) → ⊥
ok_or_bad o x y =
    let same : string (codes "ok") ≡ string (codes "bad") = same_found o (string (codes "ok")) (string (codes "bad")) x y in
    let apart : true ≡ false = ap (λ (d : Data). pointwise ◌==◌ (unwrap_or (as_str d) []) (codes "ok")) same in
    absurd cc

bad_one : (d : Data) (a b : SanityReply) → a.good ≡ b.good → ReadsBad d a → ReadsBad d b → a ≡ b
bad_one d a b good x y =
    let fault : a.fault ≡ b.fault = one_under (codes "row") ReadsFault fault_one d a.fault b.fault x.fault y.fault in
    let client : a.client ≡ b.client = one_under (codes "c") ReadsCounts counts_one d a.client b.client x.client y.client in
    let server : a.server ≡ b.server = one_under (codes "s") ReadsCounts counts_one d a.server b.server x.server y.server in
    λ i. record { good = good i; fault = fault i; client = client i; server = server i }

check_one : (d : Data) (a b : SanityReply) (p q : Bool) → a.good ≡ p → b.good ≡ q → ReadsCheck p d a → ReadsCheck q d b → a ≡ b
check_one d a b true true g h x y = x.1 ∙ sym y.1
check_one d a b true false g h x y = absurd (ok_or_bad _ x.0 y.status)
check_one d a b false true g h x y = absurd (ok_or_bad _ y.0 x.status)
check_one d a b false false g h x y = bad_one d a b (g ∙ sym h) x y

sanity_one : ReadsOne ReadsSanity
sanity_one d a b x y = check_one d a b a.good b.good refl refl x.1 y.1

metas_one : (d : Data) (a b : Give) → ReadsGive methods.Meta d a → ReadsGive methods.Meta d b → a ≡ b
metas_one d (gives.Meta m) (gives.Meta n) x y = ap gives.Meta (meta_one d m n x y)
metas_one d (gives.Meta m) b x y = absurd y
metas_one d a b x y = absurd x

starts_one : (d : Data) (a b : Give) → ReadsGive methods.Start d a → ReadsGive methods.Start d b → a ≡ b
starts_one d (gives.Graves g) (gives.Graves h) x y = ap gives.Graves (graves_one d g h x y)
starts_one d (gives.Graves g) b x y = absurd y
starts_one d a b x y = absurd x

gives_changes_one : (d : Data) (a b : Give) → ReadsGive methods.ApplyChanges d a → ReadsGive methods.ApplyChanges d b → a ≡ b
gives_changes_one d (gives.Changes c) (gives.Changes e) x y = ap gives.Changes (changes_one d c e x y)
gives_changes_one d (gives.Changes c) b x y = absurd y
gives_changes_one d a b x y = absurd x

gives_chunk_one : (d : Data) (a b : Give) → ReadsGive methods.Chunk d a → ReadsGive methods.Chunk d b → a ≡ b
gives_chunk_one d (gives.Chunk c) (gives.Chunk e) x y = ap gives.Chunk (chunk_one d c e x y)
gives_chunk_one d (gives.Chunk c) b x y = absurd y
gives_chunk_one d a b x y = absurd x

gives_sanity_one : (d : Data) (a b : Give) → ReadsGive methods.SanityCheck2 d a → ReadsGive methods.SanityCheck2 d b → a ≡ b
gives_sanity_one d (gives.Sanity s) (gives.Sanity t) x y = ap gives.Sanity (sanity_one d s t x y)
gives_sanity_one d (gives.Sanity s) b x y = absurd y
gives_sanity_one d a b x y = absurd x

gives_moment_one : (d : Data) (a b : Give) → ReadsGive methods.Finish d a → ReadsGive methods.Finish d b → a ≡ b
gives_moment_one d (gives.Moment m) (gives.Moment n) x y = ap gives.Moment (same_found _ m n x.1 y.1)
gives_moment_one d (gives.Moment m) b x y = absurd y
gives_moment_one d a b x y = absurd x

gives_uploaded_one : (d : Data) (a b : Give) → ReadsGive methods.Upload d a → ReadsGive methods.Upload d b → a ≡ b
gives_uploaded_one d (gives.Uploaded m s) (gives.Uploaded n t) x y =
    let moment : m ≡ n = same_found _ m n x.1 y.1 in
    let schema : s ≡ t = same_found _ s t x.2 y.2 in
    cc
gives_uploaded_one d (gives.Uploaded m s) b x y = absurd y
gives_uploaded_one d a b x y = absurd x

gives_whole_one : (d : Data) (a b : Give) → ReadsGive methods.Download d a → ReadsGive methods.Download d b → a ≡ b
gives_whole_one d (gives.Whole w) (gives.Whole v) x y = ap gives.Whole (download_one d w v x y)
gives_whole_one d (gives.Whole w) b x y = absurd y
gives_whole_one d a b x y = absurd x

pub give_one : (method : Method) (d : Data) (a b : Give) → ReadsGive method d a → ReadsGive method d b → a ≡ b
give_one methods.Meta d a b x y = metas_one d a b x y
give_one methods.Start d a b x y = starts_one d a b x y
give_one methods.ApplyGraves d a b x y = x.1 ∙ sym y.1
give_one methods.ApplyChanges d a b x y = gives_changes_one d a b x y
give_one methods.Chunk d a b x y = gives_chunk_one d a b x y
give_one methods.ApplyChunk d a b x y = x.1 ∙ sym y.1
give_one methods.SanityCheck2 d a b x y = gives_sanity_one d a b x y
give_one methods.Finish d a b x y = gives_moment_one d a b x y
give_one methods.Upload d a b x y = gives_uploaded_one d a b x y
give_one methods.Download d a b x y = gives_whole_one d a b x y

same_reply : (r s : Reply) → r.status ≡ s.status → r.word ≡ s.word → r.seen ≡ s.seen → r.give ≡ s.give → r ≡ s
same_reply r s status word seen give = λ i. record { status = status i; word = word i; seen = seen i; give = give i }

either_one : (granted : Bool) (method : Method) (d : Data) (r s : Reply) → r.status ≡ s.status → ReadsEither granted method d r → ReadsEither granted method d s → r ≡ s
either_one true method d r s status x y =
    same_reply r s status (x.word ∙ sym y.word) (x.seen ∙ sym y.seen) (give_one method d r.give s.give x.give y.give)
either_one false method d r s status x y =
    same_reply r s status (same_found _ r.word s.word x.word y.word) (same_found _ r.seen s.seen x.seen y.seen) (x.give ∙ sym y.give)

pub reply_one : (method : Method) (code : ℕ) (body : List ℕ) (r s : Reply) → ReadsReply method code body r → ReadsReply method code body s → r ≡ s
reply_one method code body r s x y =
    let value : x.value ≡ y.value = one_value body x.value y.value x.text y.text in
    either_one (code == 200) method y.value r s (x.status ∙ sym y.status) (subst (λ (d : Data). ReadsReplyIn code method d r) value x.is) y.is

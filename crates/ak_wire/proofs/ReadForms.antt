-- A message is read of an object of its form.
use Rattle.std.proofs.Common.{◌≡◌, ℕ, ℤ, pos, List, [], ◌∷◌, Bool, true, false, if◌then◌else◌, ◌&&◌, ◌||◌, Option, Some, None, Result, Ok, Err, IfOk, refl, sym, ap, ◌∙◌, subst, codes}
use Rattle.std.specs.Prelude.{option_and_then, unwrap_or, ◌==◌}
use Rattle.std.specs.Cmp.{first_so, second_so}
use Rattle.std.specs.Cmp.Lexicographic.{pointwise, bytes_decides}
use Rattle.std.specs.Option.{is_some, option_or}
use Rattle.serde_json.specs.Data.{Data, Items}
use Rattle.serde_json.specs.Find.{get, at, as_str}
use Rattle.ak_base.specs.declared.names.Table.{Table}
use Rattle.ak_base.specs.declared.names.Table.TheVariants as tables
use Rattle.ak_base.specs.declared.rows.Row.{Row}
use Rattle.ak_json.specs.Confs.{ReadsConf}
use Rattle.ak_messages.specs.declared.methods.Method.TheVariants as methods
use Rattle.ak_messages.specs.declared.replies.Give.{Give}
use Rattle.ak_messages.specs.declared.replies.Give.TheVariants as gives
use Rattle.ak_messages.specs.declared.replies.MetaReply.{MetaReply}
use Rattle.ak_messages.specs.declared.replies.Reply.{Reply}
use Rattle.ak_messages.specs.declared.replies.SanityReply.{SanityReply}
use Rattle.ak_messages.specs.declared.replies.Word.TheVariants as words
use Rattle.ak_messages.specs.declared.requests.Ask.TheVariants as asks
use Rattle.ak_messages.specs.declared.requests.Changes.{Changes}
use Rattle.ak_messages.specs.declared.requests.Chunk.{Chunk}
use Rattle.ak_messages.specs.declared.requests.GraveIds.{GraveIds}
use Rattle.ak_messages.specs.declared.requests.Newer.{Newer}
use Rattle.ak_messages.specs.declared.requests.SanityCounts.{SanityCounts}
use Rattle.ak_messages.specs.declared.requests.Whole.{Whole}
use Rattle.ak_wire.specs.Bodies.{too_many, graves_fault, graves_of, grave_values, ReadsGraves, chunk_values, chunk_fault, ReadsChunk, is_newer, newer_fault, ReadsNewer, TakesNewer, deck_items, options_items, changes_fault, ReadsChanges}
use Rattle.ak_wire.specs.Faults.{ReadsEach}
use Rattle.ak_wire.specs.Forms.{start_form, holds_chunk_form, holds_changes_form, holds_counts_form, graves_form, chunk_form, changes_form, newer_form, meta_form, status_form, bad_form, moment_form, uploaded_form, refused_form, upload_form, download_form}
use Rattle.ak_wire.specs.Found.{HasInteger, HasBool, HasText, HasWord, Under, AtPlace, ReadsList, IsText, ReadsTags, ReadsCounts}
use Rattle.ak_wire.specs.Keys.{key_text}
use Rattle.ak_wire.specs.Kinds.{is_list, are_two_lists, is_status}
use Rattle.ak_wire.specs.Parts.{ReadsNote, ReadsCard, ReadsReview, ReadsNoteType, ReadsDeck, ReadsOptions}
use Rattle.ak_wire.specs.Replies.{ReadsMeta, is_good, sanity_fault, good_check, bad_check, ReadsBad, ReadsSanity, ReadsGive, ReadsRefused}
use Rattle.ak_wire.specs.Requests.{ReadsAsk, apply_graves_fault}
use Rattle.ak_wire.specs.Values.{first_fault, object_fault, integer_under, bool_under, text_under, value_under, counts_under, items_of, items_under, ids_under, texts, tags_under}
use Rattle.ak_wire.specs.Wholes.{upload_tables, download_tables, items_for, ReadsTable, ReadsTables, TakesTables, ReadsRowsOf, ReadsParts, TakesParts, ReadsUpload, ReadsDownload}
use Rattle.ak_wire.specs.Words.{word_of}
use Rattle.ak_wire.specs.declared.keys.Key.{Key}
use Rattle.ak_wire.specs.declared.keys.Key.TheVariants as keys
use Rattle.ak_wire.specs.declared.kinds.Kind.TheVariants as kinds
use Rattle.ak_wire.proofs.FoundMessages.{counts_held, fault_held}
use Rattle.ak_wire.proofs.Founds.{first_none, later_none, AreHeld, form_held, first_held, IsHeldAs, integer_held, within_held, bool_held, text_held, status_held, status_text, value_is, under_held, items_is, list_held, ids_held, texts_held, tags_held, place_held, word_held}

-- ---- requests

pub start_read : (d : Data) (min_usn lmod : ℤ) → object_fault start_form d ≡ None → min_usn ≡ integer_under (codes "minUsn") d → lmod ≡ integer_under (codes "lmod") d
    → ReadsAsk methods.Start d (asks.Start min_usn lmod)
start_read d min_usn lmod form usn moment =
    let held = form_held start_form d form in
    (form, integer_held (codes "minUsn") d held.1.0 ∙ ap Some (sym usn), integer_held (codes "lmod") d held.0 ∙ ap Some (sym moment))

pub graves_are : (d : Data) (ids : GraveIds) → graves_fault d ≡ None → ids ≡ graves_of d → ReadsGraves d ids
graves_are d ids form is =
    let held = form_held graves_form d form in
    subst (λ (x : GraveIds). ReadsGraves d x) (sym is)
    (record {
      form = form;
      cards = ids_held (codes "cards") d held.0;
      notes = ids_held (codes "notes") d held.1.1.0;
      decks = ids_held (codes "decks") d held.1.0;
    })

pub apply_graves_read : (d v : Data) (ids : GraveIds) → apply_graves_fault d ≡ None → v ≡ value_under (codes "chunk") d → ids ≡ graves_of v → ReadsAsk methods.ApplyGraves d (asks.ApplyGraves ids)
apply_graves_read d v ids form under is =
    let held = form_held holds_chunk_form d (first_none (object_fault holds_chunk_form d) _ form) in
    let inner : graves_fault (value_under (codes "chunk") d) ≡ None =
    first_none (graves_fault (value_under (codes "chunk") d)) (too_many (grave_values (value_under (codes "chunk") d))) (later_none (object_fault holds_chunk_form d) _ form) in
    (form, under_held (codes "chunk") d ReadsGraves ids kinds.Members held.0 (graves_are (value_under (codes "chunk") d) ids inner (is ∙ ap graves_of under)))

pub apply_changes_read : (d v : Data) (changes : Changes) → object_fault holds_changes_form d ≡ None → v ≡ value_under (codes "changes") d → ReadsChanges v changes
    → ReadsAsk methods.ApplyChanges d (asks.ApplyChanges changes)
apply_changes_read d v changes form under read =
    let held = form_held holds_changes_form d form in
    (form, under_held (codes "changes") d ReadsChanges changes kinds.Members held.0 (subst (λ (x : Data). ReadsChanges x changes) under read))

pub apply_chunk_read : (d v : Data) (chunk : Chunk) → object_fault holds_chunk_form d ≡ None → v ≡ value_under (codes "chunk") d → ReadsChunk v chunk
    → ReadsAsk methods.ApplyChunk d (asks.ApplyChunk chunk)
apply_chunk_read d v chunk form under read =
    let held = form_held holds_chunk_form d form in
    (form, under_held (codes "chunk") d ReadsChunk chunk kinds.Members held.0 (subst (λ (x : Data). ReadsChunk x chunk) under read))

pub sanity_asked : (d : Data) (counts : SanityCounts) → object_fault holds_counts_form d ≡ None → counts ≡ counts_under (codes "client") d
    → ReadsAsk methods.SanityCheck2 d (asks.SanityCheck2 counts)
sanity_asked d counts form is =
    let held = form_held holds_counts_form d form in
    (form, subst (λ (x : SanityCounts). Under (codes "client") ReadsCounts d x) (sym is) (counts_held (codes "client") d held.0))

-- ---- chunks and changes

pub chunk_read : (d : Data) (c : Chunk) → chunk_fault d ≡ None → c.done ≡ bool_under (codes "done") d → ReadsEach ReadsCard (items_under (codes "cards") d) c.cards
    → ReadsEach ReadsNote (items_under (codes "notes") d) c.notes → ReadsEach ReadsReview (items_under (codes "revlog") d) c.reviews → ReadsChunk d c
chunk_read d c form done cards notes reviews =
    let held = form_held chunk_form d (first_none (object_fault chunk_form d) (too_many (chunk_values d)) form) in
    record {
      form = form;
      done = subst (λ (b : Bool). HasBool (codes "done") d b) (sym done) (bool_held (codes "done") d held.1.0);
      cards = list_held (codes "cards") d ReadsCard c.cards held.0 cards;
      notes = list_held (codes "notes") d ReadsNote c.notes held.1.1.0 notes;
      reviews = list_held (codes "revlog") d ReadsReview c.reviews held.1.1.1.0 reviews;
    }

-- the same of the lists as they were found
pub chunk_made : (d : Data) (c : Chunk) (cards notes reviews : Items) → chunk_fault d ≡ None → c.done ≡ bool_under (codes "done") d → cards ≡ items_under (codes "cards") d
    → ReadsEach ReadsCard cards c.cards → notes ≡ items_under (codes "notes") d → ReadsEach ReadsNote notes c.notes → reviews ≡ items_under (codes "revlog") d
    → ReadsEach ReadsReview reviews c.reviews → ReadsChunk d c
chunk_made d c cards notes reviews form done p x q y r z =
    chunk_read d c form done (subst (λ (ds : Items). ReadsEach ReadsCard ds c.cards) p x) (subst (λ (ds : Items). ReadsEach ReadsNote ds c.notes) q y)
    (subst (λ (ds : Items). ReadsEach ReadsReview ds c.reviews) r z)

newer_read : (d : Data) (newer : Option Newer) → newer_fault d ≡ None → TakesNewer d newer → ReadsNewer d newer
newer_read d None form taken = taken
newer_read d (Some newer) form taken =
    let first : first_fault newer_form d ≡ None = subst (λ (b : Bool). (if b then first_fault newer_form d else None) ≡ None) taken.0 form in
    let held = first_held newer_form d first in
    (under_held (codes "conf") d ReadsConf newer.conf kinds.Members held.0 taken.1, within_held (codes "crt") d (pos 0) (pos 4_294_967_295) held.1.0 ∙ ap Some (sym taken.2))

two_held : {A : Type 0} (place : ℕ) (reads : Data → A → Type 0) (d v : Data) (parts : List A) → get (codes "decks") d ≡ Some v → is_list place v ≡ true
    → ReadsEach reads (items_of (at place (value_under (codes "decks") d))) parts → Under (codes "decks") (AtPlace place (ReadsList reads)) d parts
two_held place reads d v parts is list each =
    (v, is, place_held place reads v parts list (subst (λ (x : Data). ReadsEach reads (items_of (at place x)) parts) (value_is (codes "decks") d v is) each))

pub changes_read : (d : Data) (c : Changes) → changes_fault d ≡ None → TakesNewer d c.newer → ReadsEach ReadsDeck (deck_items d) c.decks → ReadsEach ReadsOptions (options_items d) c.options
    → ReadsEach ReadsNoteType (items_under (codes "models") d) c.models → c.tags ≡ texts (items_under (codes "tags") d) → ReadsChanges d c
changes_read d c form newer decks options models tags =
    let held = form_held changes_form d (later_none (newer_fault d) (object_fault changes_form d) form) in
    let lists : are_two_lists held.0.0 ≡ true = held.0.2 in
    let second = first_so (is_list 1 held.0.0) _ (second_so (is_list 0 held.0.0) _ lists) in
    record {
      form = form;
      newer = newer_read d c.newer (first_none (newer_fault d) (object_fault changes_form d) form) newer;
      decks = two_held 0 ReadsDeck d held.0.0 c.decks held.0.1 (first_so (is_list 0 held.0.0) _ lists) decks;
      options = two_held 1 ReadsOptions d held.0.0 c.options held.0.1 second options;
      models = list_held (codes "models") d ReadsNoteType c.models held.1.0 models;
      tags = subst (λ (x : List (List ℕ)). Under (codes "tags") (ReadsList IsText) d x) (sym tags) (texts_held (codes "tags") d held.1.1.0);
    }

-- the same of the lists as they were found
pub changes_made : (d lists : Data) (c : Changes) (decks options models tags : Items) → changes_fault d ≡ None → TakesNewer d c.newer → lists ≡ value_under (codes "decks") d
    → decks ≡ items_of (at 0 lists) → ReadsEach ReadsDeck decks c.decks → options ≡ items_of (at 1 lists) → ReadsEach ReadsOptions options c.options → models ≡ items_under (codes "models") d
    → ReadsEach ReadsNoteType models c.models → tags ≡ items_under (codes "tags") d → c.tags ≡ texts tags → ReadsChanges d c
changes_made d lists c decks options models tags form newer under p x q y r z s t =
    changes_read d c form newer (subst (λ (ds : Items). ReadsEach ReadsDeck ds c.decks) (p ∙ ap (λ (v : Data). items_of (at 0 v)) under) x)
    (subst (λ (ds : Items). ReadsEach ReadsOptions ds c.options) (q ∙ ap (λ (v : Data). items_of (at 1 v)) under) y)
    (subst (λ (ds : Items). ReadsEach ReadsNoteType ds c.models) r z) (t ∙ ap texts s)

-- ---- whole collections

-- what holds of a result in two ways
pub if_both : {T E : Type 0} {P Q R : T → Type 0} (r : Result T E) → IfOk r P → IfOk r Q → ((x : T) → P x → Q x → R x) → IfOk r R
if_both (Ok x) h k goes = goes x h k
if_both (Err e) h k goes = h

-- a list is held under the key of each table
abbrev AreListed : List (Table × Key) → Data → Type 0
AreListed [] d = Unit {0}
AreListed (column ∷ columns) d = IsHeldAs (key_text column.1) d kinds.Values × AreListed columns d

tables_read : (columns : List (Table × Key)) (d : Data) (rows : List Row) → AreListed columns d → TakesTables columns d rows → ReadsTables columns d rows
tables_read [] d rows listed taken = taken
tables_read (column ∷ columns) d rows listed taken =
    let key : List ℕ = key_text column.1 in
    let list : ReadsRowsOf column.0 listed.0.0 taken.0 = (items_under key d, items_is key d listed.0.0 listed.0.1 listed.0.2, taken.2) in
    (taken.0, taken.1, (listed.0.0, listed.0.1, list), tables_read columns d taken.1 listed.1 taken.3, taken.4)

parts_read : (columns : List (Table × Key)) (d : Data) (w : Whole) → AreListed columns d → IsHeldAs (codes "conf") d kinds.Members → IsHeldAs (codes "crt") d (kinds.Within (pos 0) (pos 4_294_967_295))
    → IsHeldAs (codes "mod") d (kinds.Within (pos 0) (pos 4_294_967_295_999)) → IsHeldAs (codes "scm") d (kinds.Within (pos 0) (pos 4_294_967_295_999)) → IsHeldAs (codes "tags") d kinds.Tags
    → TakesParts columns d w → ReadsParts columns d w
parts_read columns d w listed conf crt moment schema tags taken =
    record {
      conf = under_held (codes "conf") d ReadsConf w.conf kinds.Members conf taken.conf;
      rows = tables_read columns d w.rows listed taken.rows;
      crt = within_held (codes "crt") d (pos 0) (pos 4_294_967_295) crt ∙ ap Some (sym taken.crt);
      moment = within_held (codes "mod") d (pos 0) (pos 4_294_967_295_999) moment ∙ ap Some (sym taken.moment);
      schema = within_held (codes "scm") d (pos 0) (pos 4_294_967_295_999) schema ∙ ap Some (sym taken.schema);
      tags = subst (λ x. Under (codes "tags") ReadsTags d x) (sym taken.tags) (tags_held (codes "tags") d tags);
    }

pub upload_read : (d : Data) (w : Whole) → object_fault upload_form d ≡ None → TakesParts upload_tables d w → w.usn ≡ pos 0 → ReadsUpload d w
upload_read d w form taken usn =
    let cards = form_held upload_form d form in
    let conf = cards.1 in
    let crt = conf.1 in
    let decks = crt.1 in
    let moment = decks.1 in
    let models = moment.1 in
    let notes = models.1 in
    let options = notes.1 in
    let revlog = options.1 in
    let schema = revlog.1 in
    let listed : AreListed upload_tables d = (notes.0, (cards.0, (revlog.0, (models.0, (decks.0, (options.0, tt)))))) in
    record { form = form; parts = parts_read upload_tables d w listed conf.0 crt.0 moment.0 schema.0 schema.1.0 taken; usn = usn }

pub download_read : (d : Data) (w : Whole) → object_fault download_form d ≡ None → TakesParts download_tables d w → w.usn ≡ integer_under (codes "usn") d → ReadsDownload d w
download_read d w form taken usn =
    let cards = form_held download_form d form in
    let conf = cards.1 in
    let crt = conf.1 in
    let decks = crt.1 in
    let graves = decks.1 in
    let moment = graves.1 in
    let models = moment.1 in
    let notes = models.1 in
    let options = notes.1 in
    let revlog = options.1 in
    let schema = revlog.1 in
    let number = schema.1.1 in
    let buried : AreListed ((tables.NoteGrave, keys.Graves) ∷ (tables.CardGrave, keys.Graves) ∷ (tables.DeckGrave, keys.Graves) ∷ []) d = (graves.0, (graves.0, (graves.0, tt))) in
    let listed : AreListed download_tables d = (notes.0, (cards.0, (revlog.0, (models.0, (decks.0, (options.0, buried)))))) in
    record {
      form = form;
      parts = parts_read download_tables d w listed conf.0 crt.0 moment.0 schema.0 schema.1.0 taken;
      usn = within_held (codes "usn") d (pos 0) (pos 2_147_483_646) number.0 ∙ ap Some (sym usn);
    }

-- ---- replies

pub meta_read : (d : Data) (m : MetaReply) → object_fault meta_form d ≡ None → m.scm ≡ integer_under (codes "scm") d → m.ts ≡ integer_under (codes "ts") d → m.moment ≡ integer_under (codes "mod") d
    → m.usn ≡ integer_under (codes "usn") d → m.musn ≡ integer_under (codes "musn") d → m.msg ≡ text_under (codes "msg") d → m.cont ≡ bool_under (codes "cont") d → ReadsMeta d m
meta_read d m form scm ts moment usn musn msg cont =
    let on_cont = form_held meta_form d form in
    let on_moment = on_cont.1 in
    let on_msg = on_moment.1 in
    let on_musn = on_msg.1 in
    let on_scm = on_musn.1 in
    let on_ts = on_scm.1 in
    record {
      form = form;
      scm = within_held (codes "scm") d (pos 0) (pos 4_294_967_295_999) on_scm.0 ∙ ap Some (sym scm);
      ts = integer_held (codes "ts") d on_ts.0 ∙ ap Some (sym ts);
      moment = within_held (codes "mod") d (pos 0) (pos 4_294_967_295_999) on_moment.0 ∙ ap Some (sym moment);
      usn = within_held (codes "usn") d (pos 0) (pos 2_147_483_646) on_ts.1.0 ∙ ap Some (sym usn);
      musn = integer_held (codes "musn") d on_musn.0 ∙ ap Some (sym musn);
      msg = subst (λ (x : List ℕ). HasText (codes "msg") d x) (sym msg) (text_held (codes "msg") d on_msg.0);
      cont = subst (λ (b : Bool). HasBool (codes "cont") d b) (sym cont) (bool_held (codes "cont") d on_cont.0);
    }

-- a text that is one is that one
same_text : (a b : List ℕ) → pointwise ◌==◌ a b ≡ true → a ≡ b
same_text a b h = (bytes_decides a b).0 h

status_in : (text : List ℕ) → is_status text ≡ true → pointwise ◌==◌ text (codes "ok") ≡ false → text ≡ codes "bad"
status_in text status good = same_text text (codes "bad") (subst (λ (b : Bool). (b || pointwise ◌==◌ text (codes "bad")) ≡ true) good status)

pub good_read : (d : Data) (s : SanityReply) → object_fault status_form d ≡ None → is_good d ≡ true → s ≡ good_check → ReadsGive methods.SanityCheck2 d (gives.Sanity s)
good_read d s form good is =
    let held = form_held status_form d form in
    let none : sanity_fault d ≡ None = rw (form, good) refl in
    let text : HasText (codes "status") d (codes "ok") =
    subst (λ (x : List ℕ). HasText (codes "status") d x) (same_text (text_under (codes "status") d) (codes "ok") good) (status_held (codes "status") d held.0) in
    subst (λ (x : SanityReply). ReadsSanity d x) (sym is) (none, (text, refl))

pub bad_read : (d : Data) (s : SanityReply) → object_fault status_form d ≡ None → is_good d ≡ false → object_fault bad_form d ≡ None → s ≡ bad_check d
    → ReadsGive methods.SanityCheck2 d (gives.Sanity s)
bad_read d s form good bad is =
    let held = form_held status_form d form in
    let told = form_held bad_form d bad in
    let none : sanity_fault d ≡ None = rw (form, good, bad) refl in
    let has : HasText (codes "status") d (text_under (codes "status") d) = status_held (codes "status") d held.0 in
    let text : HasText (codes "status") d (codes "bad") =
    subst (λ (x : List ℕ). HasText (codes "status") d x) (status_in (text_under (codes "status") d) (status_text (codes "status") d held.0) good) has in
    let bad : ReadsBad d (bad_check d) =
    record {
      status = text;
      fault = fault_held (codes "row") d told.1.0;
      client = counts_held (codes "c") d told.0;
      server = counts_held (codes "s") d told.1.1.0;
    } in
    subst (λ (x : SanityReply). ReadsSanity d x) (sym is) (none, bad)

pub moment_read : (d : Data) (moment : ℤ) → object_fault moment_form d ≡ None → moment ≡ integer_under (codes "mod") d → ReadsGive methods.Finish d (gives.Moment moment)
moment_read d moment form is =
    let held = form_held moment_form d form in
    (form, within_held (codes "mod") d (pos 0) (pos 4_294_967_295_999) held.0 ∙ ap Some (sym is))

pub uploaded_read : (d : Data) (moment schema : ℤ) → object_fault uploaded_form d ≡ None → moment ≡ integer_under (codes "mod") d → schema ≡ integer_under (codes "scm") d
    → ReadsGive methods.Upload d (gives.Uploaded moment schema)
uploaded_read d moment schema form first second =
    let held = form_held uploaded_form d form in
    (form, within_held (codes "mod") d (pos 0) (pos 4_294_967_295_999) held.0 ∙ ap Some (sym first), within_held (codes "scm") d (pos 0) (pos 4_294_967_295_999) held.1.0 ∙ ap Some (sym second))

pub refused_read : (d : Data) (r : Reply) → object_fault refused_form d ≡ None → r.word ≡ unwrap_or (word_of (text_under (codes "word") d)) words.Ok → r.seen ≡ integer_under (codes "seen") d
    → r.give ≡ gives.Nothing → ReadsRefused d r
refused_read d r form word seen give =
    let held = form_held refused_form d form in
    record {
      form = form;
      word = word_held (codes "word") d held.1.0 ∙ ap Some (sym word);
      seen = integer_held (codes "seen") d held.0 ∙ ap Some (sym seen);
      give = give;
    }

-- What is written of a message is read again as it.
use Rattle.std.proofs.Common.{◌≡◌, ◌≤◌, ◌<◌, ◌^◌, ◌+◌, ℕ, suc, ℤ, pos, negsuc, length, map, List, [], ◌∷◌, ◌++◌, Bool, true, false, if◌then◌else◌, ◌&&◌, ◌||◌, ◌==◌, Option, Some, None, refl, sym, ap, ◌∙◌, subst, codes, arith}
use Rattle.std.specs.Prelude.{option_and_then, unwrap_or, nat_le, int_le, not, option_map, ◌≤ℤ◌}
use Rattle.std.specs.Option.{is_some, option_map_or, option_or}
use Rattle.std.proofs.lemmas.Bool.{and_from}
use Rattle.std.proofs.lemmas.Bool.Decides.{nat_tests}
use Rattle.std.proofs.lemmas.Int.{ints}
use Rattle.serde_json.specs.Data.{Data, boolean, number, unsigned, string, array, object, Items, no_items, item, Members, no_members}
use Rattle.serde_json.specs.Events.{items_len}
use Rattle.serde_json.specs.Find.{get, at, as_i64, as_array, as_object, as_str, of_integer}
use Rattle.serde_json.specs.View.{items_of}
use Rattle.ak_base.specs.Heads.{IsWithin, is_tag_name, IsMoment}
use Rattle.ak_base.specs.Rows.{IsChecked, name_of}
use Rattle.ak_base.specs.declared.names.Table.{Table}
use Rattle.ak_base.specs.declared.names.Table.TheVariants as tables
use Rattle.ak_base.specs.declared.rows.Row.{Row}
use Rattle.ak_base.specs.declared.rows.Row.TheVariants as rows
use Rattle.ak_json.proofs.Again.{IsReadAgain, small_again}
use Rattle.ak_json.proofs.ConfsAgain.{conf_again}
use Rattle.ak_json.proofs.ObjectForms.{nat_most}
use Rattle.ak_json.proofs.RowsAgain.{own_again}
use Rattle.ak_json.specs.Confs.{conf_json, ReadsConf}
use Rattle.ak_json.specs.Kinds.{integer_of, is_number_within}
use Rattle.ak_json.specs.Rows.{row_json, ReadsRow}
use Rattle.ak_json.specs.Written.{integer}
use Rattle.ak_merge.specs.declared.checks.CheckFault.{CheckFault}
use Rattle.ak_merge.specs.declared.checks.CheckFault.TheVariants as checks
use Rattle.ak_messages.specs.MessageForms.{chunk_entries, grave_entries}
use Rattle.ak_messages.specs.declared.methods.Method.{Method}
use Rattle.ak_messages.specs.declared.methods.Method.TheVariants as methods
use Rattle.ak_messages.specs.declared.replies.Give.{Give}
use Rattle.ak_messages.specs.declared.replies.Give.TheVariants as gives
use Rattle.ak_messages.specs.declared.replies.MetaReply.{MetaReply}
use Rattle.ak_messages.specs.declared.replies.Reply.{Reply}
use Rattle.ak_messages.specs.declared.replies.SanityReply.{SanityReply}
use Rattle.ak_messages.specs.declared.replies.Word.{Word}
use Rattle.ak_messages.specs.declared.replies.Word.TheVariants as words
use Rattle.ak_messages.specs.declared.requests.Ask.{Ask}
use Rattle.ak_messages.specs.declared.requests.Ask.TheVariants as asks
use Rattle.ak_messages.specs.declared.requests.Changes.{Changes}
use Rattle.ak_messages.specs.declared.requests.Chunk.{Chunk}
use Rattle.ak_messages.specs.declared.requests.GraveIds.{GraveIds}
use Rattle.ak_messages.specs.declared.requests.Newer.{Newer}
use Rattle.ak_messages.specs.declared.requests.SanityCounts.{SanityCounts}
use Rattle.ak_wire.specs.Bodies.{too_many, graves_fault, grave_values, ReadsGraves, chunk_values, chunk_fault, ReadsChunk, newer_fault, ReadsNewer, changes_fault, ReadsChanges}
use Rattle.ak_wire.specs.Faults.{ReadsEach}
use Rattle.ak_wire.specs.Forms.{Form, start_form, holds_chunk_form, holds_changes_form, holds_counts_form, graves_form, chunk_form, changes_form, newer_form, meta_form, status_form, bad_form, moment_form, uploaded_form, refused_form}
use Rattle.ak_wire.specs.Found.{Under, AtPlace, ReadsList, IsInteger, IsText, ReadsCounts}
use Rattle.ak_wire.specs.Keys.{key_text}
use Rattle.ak_wire.specs.Kinds.{holds, number_at, is_after, ids_after, are_tag_names, are_counts, are_seven_counts, is_count, is_fault}
use Rattle.ak_wire.specs.Parts.{ReadsNote, ReadsCard, ReadsReview, ReadsNoteType, ReadsDeck, ReadsOptions}
use Rattle.ak_wire.specs.Replies.{ReadsMeta, is_good, sanity_fault, good_check, ReadsFault, ReadsBad, ReadsSanity, ReadsCheck, ReadsGive, ReadsGranted, ReadsRefused, ReadsEither, ReadsReplyIn}
use Rattle.ak_wire.specs.Requests.{ReadsAsk, apply_graves_fault}
use Rattle.ak_wire.specs.Sent.{FitsWord, AscendAfter, GravesAscend, AreGravesSent, AreChecked, IsChunkSent, IsNewerSent, AreNames, AreChangesSent, IsCount, AreCountsSent, IsSent, IsMetaSent, IsFaultSent, IsCheckSent, IsGiven, IsGrantSent, IsRefusalSent, IsEitherSent, IsReplySent}
use Rattle.ak_keep.specs.Collections.{IsId}
use Rattle.ak_wire.specs.Values.{found_fault, key_fault, first_key_fault, told, first_fault, object_fault}
use Rattle.ak_wire.specs.Words.{word_text, word_of}
use Rattle.ak_wire.specs.Written.{object_of, array_of, ids_json, graves_json, chunk_json, newer_pairs, decks_json, changes_json, count_json, counts_json, ask_json, meta_json, check_json, sanity_json, give_json, reply_json}
use Rattle.ak_wire.specs.declared.keys.Key.{Key}
use Rattle.ak_wire.specs.declared.keys.Key.TheVariants as keys
use Rattle.ak_wire.specs.declared.kinds.Kind.{Kind}
use Rattle.ak_wire.specs.declared.kinds.Kind.TheVariants as kinds
use Rattle.ak_wire.specs.declared.objects.KeyFault.{KeyFault}
use Rattle.ak_wire.specs.declared.objects.KeyFault.TheVariants as key_faults
use Rattle.ak_wire.specs.declared.wire_faults.WireFault.{WireFault}
use Rattle.ak_wire.proofs.Founds.{IsHeld, AreHeld}

-- ---- an object that holds what its form says has no fault

no_fault : (column : Key × Kind) (d : Data) → IsHeld column d → key_fault column d ≡ None
no_fault column d h = ap (found_fault column) h.1 ∙ ap (λ (b : Bool). if b then None else Some (key_faults.WrongKind column.0)) h.2

no_faults : (form : Form) (d : Data) → AreHeld form d → first_key_fault form d ≡ None
no_faults [] d h = refl
no_faults (column ∷ columns) d h = ap (λ (o : Option KeyFault). option_or o (first_key_fault columns d)) (no_fault column d h.0) ∙ no_faults columns d h.1

pub none_first : (form : Form) (d : Data) → AreHeld form d → first_fault form d ≡ None
none_first form d h = ap (option_map told) (no_faults form d h)

pub none_in : (form : Form) (d : Data) → is_some (as_object d) ≡ true → AreHeld form d → object_fault form d ≡ None
none_in form d is h = ap (option_map told) (ap (λ (b : Bool). if b then first_key_fault form d else Some key_faults.NoObject) is ∙ no_faults form d h)

pub neither : {A : Type 0} (o others : Option A) → o ≡ None → others ≡ None → option_or o others ≡ None
neither None others h k = k
neither (Some x) others h k = cc

-- ---- numbers

least_test : (a b : ℤ) → a ≤ℤ b → int_le a b ≡ true
least_test a b h = grind (arith, ints)

within_test : (least most z : ℤ) → IsWithin least most z → is_number_within least most (Some z) ≡ true
within_test least most z h = and_from _ _ (least_test least z h.low) (least_test z most h.high)

pub word_again : (z : ℤ) → FitsWord z → IsReadAgain z
word_again (pos n) h = let k : n ≤ 9_223_372_036_854_775_807 = nat_most n 9_223_372_036_854_775_807 (least_test (pos n) (pos 9_223_372_036_854_775_807) h.high) in small_again n (omega arith)
word_again (negsuc n) h = refl

pub low_again : (most : ℕ) (least z : ℤ) → most < 2 ^ 63 → IsWithin least (pos most) z → IsReadAgain z
low_again most least (pos n) room h = let k : n ≤ most = nat_most n most (least_test (pos n) (pos most) h.high) in small_again n (omega arith)
low_again most least (negsuc n) room h = refl

pub within_again : (most : ℕ) (least z : ℤ) → most < 2 ^ 63 → IsWithin least (pos most) z → holds (kinds.Within least (pos most)) (integer z) ≡ true
within_again most least z room h = ap (is_number_within least (pos most)) (low_again most least z room h) ∙ within_test least (pos most) z h

integer_holds : (z : ℤ) → IsReadAgain z → holds kinds.Integer (integer z) ≡ true
integer_holds z h = ap (λ (o : Option ℤ). is_some o) h

-- ---- lists

ids_hold : (before : Option ℤ) (ids : List ℤ) → AscendAfter before ids → ids_after before (items_of (map integer ids)) ≡ true
ids_hold before [] h = refl
ids_hold before (id ∷ ids) h =
    ap (λ (o : Option ℤ). option_map_or (λ x. is_after before x && ids_after (Some x) (items_of (map integer ids))) o false) (word_again id h.0)
    ∙ and_from _ _ h.1 (ids_hold (Some id) ids h.2)

ids_each : (before : Option ℤ) (ids : List ℤ) → AscendAfter before ids → ReadsEach IsInteger (items_of (map integer ids)) ids
ids_each before [] h = tt
ids_each before (id ∷ ids) h = (word_again id h.0, ids_each (Some id) ids h.2)

ids_read : (ids : List ℤ) → AscendAfter None ids → ReadsList IsInteger (ids_json ids) ids
ids_read ids h = (items_of (map integer ids), refl, ids_each None ids h)

names_hold : (names : List (List ℕ)) → AreNames names → are_tag_names (items_of (map string names)) ≡ true
names_hold [] h = refl
names_hold (name ∷ names) h = and_from _ _ (and_from _ _ (fits_test 1 (length name) h.0) (fits_test (length name) 512 h.1)) (names_hold names h.2)
  where
    fits_test : (a b : ℕ) → a ≤ b → nat_le a b ≡ true
    fits_test a b k = grind (arith, nat_tests)

names_each : (names : List (List ℕ)) → ReadsEach IsText (items_of (map string names)) names
names_each [] = tt
names_each (name ∷ names) = (refl, names_each names)

-- rows of a kind
module _ {A : Type 0} (row_of : A → Row) (reads : Data → A → Type 0) (again : (part : A) → IsChecked (row_of part) → reads (row_json (row_of part)) part) where
  each_read : (parts : List A) → AreChecked row_of parts → ReadsEach reads (items_of (map (λ part. row_json (row_of part)) parts)) parts
  each_read [] h = tt
  each_read (part ∷ parts) h = (again part h.0, each_read parts h.1)

  pub list_read : (parts : List A) → AreChecked row_of parts → ReadsList reads (array_of (map (λ part. row_json (row_of part)) parts)) parts
  list_read parts h = (items_of (map (λ part. row_json (row_of part)) parts), refl, each_read parts h)

-- ---- ids of graves and chunks

graves_held : (g : GraveIds) → GravesAscend g → AreHeld graves_form (graves_json g)
graves_held g h =
    ((ids_json g.cards, refl, ids_hold None g.cards h.cards), ((ids_json g.decks, refl, ids_hold None g.decks h.decks), ((ids_json g.notes, refl, ids_hold None g.notes h.notes), tt)))

pub graves_again : (g : GraveIds) → GravesAscend g → ReadsGraves (graves_json g) g
graves_again g h =
    record {
      form = none_in graves_form (graves_json g) refl (graves_held g h);
      cards = (ids_json g.cards, refl, ids_read g.cards h.cards);
      notes = (ids_json g.notes, refl, ids_read g.notes h.notes);
      decks = (ids_json g.decks, refl, ids_read g.decks h.decks);
    }

listed_len : {A : Type 0} (f : A → Data) (xs : List A) → items_len (items_of (map f xs)) ≡ length xs
listed_len f [] = refl
listed_len f (x ∷ xs) = ap suc (listed_len f xs)

few : (entries : ℕ) → entries ≤ 250 → too_many entries ≡ None
few entries h = let e : nat_le entries 250 ≡ true = grind (arith, nat_tests) in rw e refl

few_sum : (a b c x y z : ℕ) → a ≡ x → b ≡ y → c ≡ z → x + y + z ≤ 250 → too_many (a + b + c) ≡ None
few_sum a b c x y z p q r h = few (a + b + c) (omega (arith, p, q, r, h))

graves_few : (g : GraveIds) → grave_entries g ≤ 250 → too_many (grave_values (graves_json g)) ≡ None
graves_few g h =
    few_sum (items_len (items_of (map integer g.cards))) (items_len (items_of (map integer g.decks))) (items_len (items_of (map integer g.notes))) (length g.cards) (length g.decks) (length g.notes)
    (listed_len integer g.cards) (listed_len integer g.decks) (listed_len integer g.notes) (omega (arith, h))

chunk_held : (c : Chunk) → AreHeld chunk_form (chunk_json c)
chunk_held c = ((_, refl, refl), ((_, refl, refl), ((_, refl, refl), ((_, refl, refl), tt))))

chunk_few : (c : Chunk) → chunk_entries c ≤ 250 → too_many (chunk_values (chunk_json c)) ≡ None
chunk_few c h =
    few_sum _ _ _ (length c.cards) (length c.notes) (length c.reviews) (listed_len (λ card. row_json (rows.Card card)) c.cards) (listed_len (λ note. row_json (rows.Note note)) c.notes)
    (listed_len (λ review. row_json (rows.Review review)) c.reviews) (omega (arith, h))

pub chunk_again : (c : Chunk) → IsChunkSent c → ReadsChunk (chunk_json c) c
chunk_again c h =
    record {
      form = neither (object_fault chunk_form (chunk_json c)) (too_many (chunk_values (chunk_json c))) (none_in chunk_form (chunk_json c) refl (chunk_held c)) (chunk_few c h.entries);
      done = refl;
      cards = (_, refl, list_read (λ x. rows.Card x) ReadsCard (λ x k. own_again (rows.Card x) k) c.cards h.cards);
      notes = (_, refl, list_read (λ x. rows.Note x) ReadsNote (λ x k. own_again (rows.Note x) k) c.notes h.notes);
      reviews = (_, refl, list_read (λ x. rows.Review x) ReadsReview (λ x k. own_again (rows.Review x) k) c.reviews h.reviews);
    }

-- ---- changes

crt_room : 4_294_967_295 < 2 ^ 63
crt_room = omega arith

moment_room : 4_294_967_295_999 < 2 ^ 63
moment_room = omega arith

changes_held : (c : Changes) → AreNames c.tags → AreHeld changes_form (changes_json c)
changes_held c h = held c.newer
  where
    held : (newer : Option Newer) → AreHeld changes_form (changes_json (record c { newer = newer }))
    held None = ((_, refl, refl), ((_, refl, refl), ((_, refl, names_hold c.tags h), tt)))
    held (Some newer) = ((_, refl, refl), ((_, refl, refl), ((_, refl, names_hold c.tags h), tt)))

newer_held : (c : Changes) (newer : Newer) → IsNewerSent (Some newer) → AreHeld newer_form (changes_json (record c { newer = Some newer }))
newer_held c newer h = ((conf_json newer.conf, refl, refl), ((integer newer.crt, refl, within_again 4_294_967_295 (pos 0) newer.crt crt_room h.1), tt))

newer_none : (c : Changes) (newer : Option Newer) → IsNewerSent newer → newer_fault (changes_json (record c { newer = newer })) ≡ None
newer_none c None h = refl
newer_none c (Some newer) h = none_first newer_form (changes_json (record c { newer = Some newer })) (newer_held c newer h)

newer_again : (c : Changes) (newer : Option Newer) → IsNewerSent newer → ReadsNewer (changes_json (record c { newer = newer })) newer
newer_again c None h = refl
newer_again c (Some newer) h = ((conf_json newer.conf, refl, conf_again newer.conf h.0), low_again 4_294_967_295 (pos 0) newer.crt crt_room h.1)

-- the rest of changes is read whether settings stand before it or not
pub record ReadsRest (d : Data) (c : Changes) : Type 0 where
  pub decks : Under (codes "decks") (AtPlace 0 (ReadsList ReadsDeck)) d c.decks
  pub options : Under (codes "decks") (AtPlace 1 (ReadsList ReadsOptions)) d c.options
  pub models : Under (codes "models") (ReadsList ReadsNoteType) d c.models
  pub tags : Under (codes "tags") (ReadsList IsText) d c.tags

rest_again : (c : Changes) (newer : Option Newer) → AreChangesSent c → ReadsRest (changes_json (record c { newer = newer })) c
rest_again c None h =
    record {
      decks = (decks_json c, refl, (_, refl, list_read (λ x. rows.Deck x) ReadsDeck (λ x k. own_again (rows.Deck x) k) c.decks h.decks));
      options = (decks_json c, refl, (_, refl, list_read (λ x. rows.Options x) ReadsOptions (λ x k. own_again (rows.Options x) k) c.options h.options));
      models = (_, refl, list_read (λ x. rows.NoteType x) ReadsNoteType (λ x k. own_again (rows.NoteType x) k) c.models h.models);
      tags = (array_of (map string c.tags), refl, (items_of (map string c.tags), refl, names_each c.tags));
    }
rest_again c (Some newer) h =
    record {
      decks = (decks_json c, refl, (_, refl, list_read (λ x. rows.Deck x) ReadsDeck (λ x k. own_again (rows.Deck x) k) c.decks h.decks));
      options = (decks_json c, refl, (_, refl, list_read (λ x. rows.Options x) ReadsOptions (λ x k. own_again (rows.Options x) k) c.options h.options));
      models = (_, refl, list_read (λ x. rows.NoteType x) ReadsNoteType (λ x k. own_again (rows.NoteType x) k) c.models h.models);
      tags = (array_of (map string c.tags), refl, (items_of (map string c.tags), refl, names_each c.tags));
    }

pub changes_again : (c : Changes) → AreChangesSent c → ReadsChanges (changes_json c) c
changes_again c h =
    let rest : ReadsRest (changes_json c) c = rest_again c c.newer h in
    record {
      form = neither (newer_fault (changes_json c)) (object_fault changes_form (changes_json c)) (newer_none c c.newer h.newer) (none_in changes_form (changes_json c) refl (changes_held c h.tags));
      newer = newer_again c c.newer h.newer;
      decks = rest.decks;
      options = rest.options;
      models = rest.models;
      tags = rest.tags;
    }

-- ---- counts and checks

count_test : (n : ℕ) → IsCount n → nat_le n 9_223_372_036_854_775_807 ≡ true
count_test n h = grind (arith, nat_tests)

pub counts_hold : (c : SanityCounts) → AreCountsSent c → are_counts (counts_json c) ≡ true
counts_hold c h =
    let seven : are_seven_counts (counts_json c) ≡ true =
    and_from _ _ (count_test c.cards h.cards) (and_from _ _ (count_test c.notes h.notes) (and_from _ _ (count_test c.reviews h.reviews) (and_from _ _ (count_test c.graves h.graves)
    (and_from _ _ (count_test c.models h.models) (and_from _ _ (count_test c.decks h.decks) (count_test c.options h.options)))))) in
    and_from (are_seven_counts (counts_json c)) true seven refl

pub counts_read : (c : SanityCounts) → ReadsCounts (counts_json c) c
counts_read c = record { cards = refl; notes = refl; reviews = refl; graves = refl; models = refl; decks = refl; options = refl }

id_room : 9_007_199_254_740_991 < 2 ^ 63
id_room = omega arith

fault_holds : (fault : Option CheckFault) → IsFaultSent fault → is_fault (check_json fault) ≡ true
fault_holds None h = refl
fault_holds (Some (checks.CardNoNote id)) h = and_from _ true (within_again 9_007_199_254_740_991 (pos 1) id id_room h) refl
fault_holds (Some (checks.NoteNoCard id)) h = and_from _ true (within_again 9_007_199_254_740_991 (pos 1) id id_room h) refl
fault_holds (Some (checks.NoteNoType id)) h = and_from _ true (within_again 9_007_199_254_740_991 (pos 1) id id_room h) refl
fault_holds (Some (checks.CardNoTemplate id)) h = and_from _ true (within_again 9_007_199_254_740_991 (pos 1) id id_room h) refl

fault_read : (fault : Option CheckFault) → IsFaultSent fault → ReadsFault (check_json fault) fault
fault_read None h = refl
fault_read (Some (checks.CardNoNote id)) h = (refl, low_again 9_007_199_254_740_991 (pos 1) id id_room h)
fault_read (Some (checks.NoteNoCard id)) h = (refl, low_again 9_007_199_254_740_991 (pos 1) id id_room h)
fault_read (Some (checks.NoteNoType id)) h = (refl, low_again 9_007_199_254_740_991 (pos 1) id id_room h)
fault_read (Some (checks.CardNoTemplate id)) h = (refl, low_again 9_007_199_254_740_991 (pos 1) id id_room h)

abbrev good_json : Data
good_json = object_of ((codes "status", string (codes "ok")) ∷ [])

good_again : ReadsSanity good_json good_check
good_again = (refl, (refl, refl))

abbrev bad_json : SanityReply → Data
bad_json s = object_of ((codes "c", counts_json s.client) ∷ (codes "row", check_json s.fault) ∷ (codes "s", counts_json s.server) ∷ (codes "status", string (codes "bad")) ∷ [])

bad_held : (s : SanityReply) → IsCheckSent false s → AreHeld bad_form (bad_json s)
bad_held s h = ((_, refl, counts_hold s.client h.1), ((_, refl, fault_holds s.fault h.0), ((_, refl, counts_hold s.server h.2), tt)))

bad_again : (s : SanityReply) → IsCheckSent false s → ReadsBad (bad_json s) s
bad_again s h =
    record {
      status = refl;
      fault = (check_json s.fault, refl, fault_read s.fault h.0);
      client = (counts_json s.client, refl, counts_read s.client);
      server = (counts_json s.server, refl, counts_read s.server);
    }

bad_none : (s : SanityReply) → IsCheckSent false s → sanity_fault (bad_json s) ≡ None
bad_none s h = none_in bad_form (bad_json s) refl (bad_held s h)

sanity_by : (good : Bool) (s : SanityReply) → IsCheckSent good s → (sanity_fault (if good then good_json else bad_json s) ≡ None) × ReadsCheck good (if good then good_json else bad_json s) s
sanity_by true s h = (refl, (refl, h))
sanity_by false s h = (bad_none s h, bad_again s h)

pub sanity_again : (s : SanityReply) → IsCheckSent s.good s → ReadsSanity (sanity_json s) s
sanity_again s h = sanity_by s.good s h

-- ---- requests

pub start_again : (min_usn lmod : ℤ) → FitsWord min_usn × FitsWord lmod → ReadsAsk methods.Start (ask_json (asks.Start min_usn lmod)) (asks.Start min_usn lmod)
start_again min_usn lmod h =
    let usn : IsReadAgain min_usn = word_again min_usn h.0 in
    let moment : IsReadAgain lmod = word_again lmod h.1 in
    (none_in start_form (ask_json (asks.Start min_usn lmod)) refl ((integer lmod, refl, integer_holds lmod moment), ((integer min_usn, refl, integer_holds min_usn usn), tt)), usn, moment)

pub graves_asked : (g : GraveIds) → AreGravesSent g → ReadsAsk methods.ApplyGraves (ask_json (asks.ApplyGraves g)) (asks.ApplyGraves g)
graves_asked g h =
    let d : Data = ask_json (asks.ApplyGraves g) in
    let read : ReadsGraves (graves_json g) g = graves_again g h.ascend in (
      neither (object_fault holds_chunk_form d) _ (none_in holds_chunk_form d refl ((graves_json g, refl, refl), tt))
          (neither (graves_fault (graves_json g)) (too_many (grave_values (graves_json g))) read.form (graves_few g h.entries)),
      (graves_json g, refl, read),
    )

-- ---- replies

usn_room : 2_147_483_646 < 2 ^ 63
usn_room = omega arith

meta_held : (m : MetaReply) → IsMetaSent m → AreHeld meta_form (meta_json m)
meta_held m h = (
  (boolean m.cont, refl, refl),
  (
    (integer m.moment, refl, within_again 4_294_967_295_999 (pos 0) m.moment moment_room h.moment),
    (
      (string m.msg, refl, refl),
      (
        (integer m.musn, refl, integer_holds m.musn (word_again m.musn h.musn)),
        (
          (integer m.scm, refl, within_again 4_294_967_295_999 (pos 0) m.scm moment_room h.scm),
          ((integer m.ts, refl, integer_holds m.ts (word_again m.ts h.ts)), ((integer m.usn, refl, within_again 2_147_483_646 (pos 0) m.usn usn_room h.usn), tt)),
        ),
      ),
    ),
  ),
)

pub meta_again : (m : MetaReply) → IsMetaSent m → ReadsMeta (meta_json m) m
meta_again m h =
    record {
      form = none_in meta_form (meta_json m) refl (meta_held m h);
      scm = low_again 4_294_967_295_999 (pos 0) m.scm moment_room h.scm;
      ts = word_again m.ts h.ts;
      moment = low_again 4_294_967_295_999 (pos 0) m.moment moment_room h.moment;
      usn = low_again 2_147_483_646 (pos 0) m.usn usn_room h.usn;
      musn = word_again m.musn h.musn;
      msg = refl;
      cont = refl;
    }

pub moment_again : (moment : ℤ) → IsMoment moment → ReadsGive methods.Finish (give_json (gives.Moment moment)) (gives.Moment moment)
moment_again moment h =
    (none_in moment_form (give_json (gives.Moment moment)) refl ((integer moment, refl, within_again 4_294_967_295_999 (pos 0) moment moment_room h), tt), low_again 4_294_967_295_999 (pos 0) moment moment_room h)

pub uploaded_again : (moment schema : ℤ) → IsMoment moment × IsMoment schema → ReadsGive methods.Upload (give_json (gives.Uploaded moment schema)) (gives.Uploaded moment schema)
uploaded_again moment schema h = (
  none_in uploaded_form (give_json (gives.Uploaded moment schema)) refl (
    (integer moment, refl, within_again 4_294_967_295_999 (pos 0) moment moment_room h.0),
    ((integer schema, refl, within_again 4_294_967_295_999 (pos 0) schema moment_room h.1), tt),
  ),
  low_again 4_294_967_295_999 (pos 0) moment moment_room h.0,
  low_again 4_294_967_295_999 (pos 0) schema moment_room h.1,
)

-- a word is read as it is written
word_back : (word : Word) → word_of (word_text word) ≡ Some word
word_back words.Ok = refl
word_back words.Key = refl
word_back words.Base = refl
word_back words.NoSession = refl
word_back words.Step = refl
word_back words.Usn = refl
word_back words.Sequence = refl
word_back words.Rows = refl
word_back words.Row = refl
word_back words.Newer = refl
word_back words.Keeper = refl
word_back words.Memory = refl
word_back words.Head = refl
word_back words.Route = refl
word_back words.Method = refl
word_back words.Length = refl
word_back words.Large = refl
word_back words.Compressed = refl
word_back words.Headers = refl
word_back words.Cut = refl
word_back words.Body = refl

abbrev pub refusal_json : Reply → Data
refusal_json r = object_of ((codes "seen", integer r.seen) ∷ (codes "word", string (word_text r.word)) ∷ [])

pub refused_again : (r : Reply) → IsRefusalSent r → ReadsRefused (refusal_json r) r
refused_again r h =
    let seen : IsReadAgain r.seen = word_again r.seen h.seen in
    record {
      form = none_in refused_form (refusal_json r) refl ((integer r.seen, refl, integer_holds r.seen seen), ((string (word_text r.word), refl, ap (λ (o : Option Word). is_some o) (word_back r.word)), tt));
      word = word_back r.word;
      seen = seen;
      give = h.give;
    }

-- Worked examples of sessions over a few rows: what is given, what is taken, and when a check is bad.
use Rattle.std.specs.Prelude.{⊤, ◌≡◌, ◌≢◌, ◌+◌, ◌==◌, ℕ, ℤ, pos, negsuc, Bool, true, false, not, is_some, List, [], ◌∷◌, ◌++◌, map, filter, length, codes, Option, Some, None, IfSome}
use Rattle.std.specs.FinMap.{get, entries, entries-from_sorted, get-entries}
use Rattle.std.specs.List.{AllByRecursion, list_any, range_with_len}
use Rattle.std.proofs.Common.{refl, sym, ap, subst, ◌∙◌, inl, arith}
use Rattle.std.proofs.lemmas.Int.{ints}
use Rattle.ak_base.proofs.InRange.{empty_in_range}
use Rattle.ak_base.proofs.Resting.{empty_is_rest}
use Rattle.ak_base.specs.Cards.{place_faults, schedule_faults, mark_faults}
use Rattle.ak_base.specs.Columns.{id_fault, id_or_zero_fault, stamp_fault, code_fault, long_fault}
use Rattle.ak_base.specs.Heads.{IsHeadInRange}
use Rattle.ak_base.specs.Names.{name_cmp, table_place}
use Rattle.ak_base.specs.Notes.{identity_faults, content_faults}
use Rattle.ak_base.specs.Rests.{lacks, conf_keys}
use Rattle.ak_base.specs.Rows.{IsChecked, name_of, usn_of}
use Rattle.ak_base.specs.declared.cards.Card.{Card}
use Rattle.ak_base.specs.declared.heads.Head.{Head}
use Rattle.ak_base.specs.declared.heads.Tag.{Tag}
use Rattle.ak_base.specs.declared.keys.HostKey.{HostKey}
use Rattle.ak_base.specs.declared.keys.SessionKey.{SessionKey}
use Rattle.ak_base.specs.declared.names.Name.{Name}
use Rattle.ak_base.specs.declared.names.Table.{Table}
use Rattle.ak_base.specs.declared.names.Table.TheVariants as tables
use Rattle.ak_base.specs.declared.reviews.Review.{Review}
use Rattle.ak_base.specs.declared.rows.Row.{Row}
use Rattle.ak_base.specs.declared.rows.Row.TheVariants as rows
use Rattle.ak_keep.proofs.RowsByName.{all_gets}
use Rattle.ak_keep.specs.Collections.{Rows, Collection, is_past, is_wanted}
use Rattle.ak_keep.specs.declared.keepers.Wanted.{Wanted}
use Rattle.ak_keep.specs.declared.keepers.Wanted.TheVariants.{From}
use Rattle.ak_merge.proofs.CommitLaws.{when_some}
use Rattle.ak_merge.proofs.Examples.{note_with, card_of_it}
use Rattle.ak_merge.specs.Commits.{IsCommitted}
use Rattle.ak_keep.specs.Graves.{is_dead}
use Rattle.ak_merge.specs.Holdings.{name_in, row_under, AreNamed, AreChecked, tag_usn}
use Rattle.ak_merge.specs.Links.{IsGiven, AreLinked}
use Rattle.ak_messages.specs.declared.methods.Method.TheVariants as methods
use Rattle.ak_messages.specs.declared.replies.Give.TheVariants as gives
use Rattle.ak_messages.specs.declared.requests.Ask.{Ask}
use Rattle.ak_messages.specs.declared.requests.Ask.TheVariants as asks
use Rattle.ak_messages.specs.declared.requests.Chunk.{Chunk}
use Rattle.ak_messages.specs.declared.requests.Request.{Request}
use Rattle.ak_messages.specs.declared.requests.SanityCounts.{SanityCounts}
use Rattle.ak_messages.specs.declared.requests.Whole.{Whole}
use Rattle.ak_session.specs.Answers.{is_good, counts_of}
use Rattle.ak_session.specs.Asks.{asks_of}
use Rattle.ak_session.specs.Closings.{of_upload}
use Rattle.ak_session.specs.Contents.{folded, refusal, answer, ends}
use Rattle.ak_session.specs.Messages.{chunk_of}
use Rattle.ak_session.specs.NextMethods.{methods_after}
use Rattle.ak_session.specs.Objections.{Objection, MayNotCome}
use Rattle.ak_session.specs.Refusals.{test, first_objection, chunk_tests}
use Rattle.ak_session.specs.Requests.{same_method}
use Rattle.ak_session.specs.Slices.{slice, slices_until_short, filled_slices}
use Rattle.ak_session.specs.Sessions.{IsAllowed, AreAllowed}
use Rattle.ak_session.proofs.CheckLaws.{check_decides}
use Rattle.ak_session.proofs.ExampleRows.{Entries, under, map_of, fold_entries, fold_at}
use Rattle.ak_session.proofs.Ranges.{not_both, past_first}

-- the wanted rows among entries
abbrev listed : Table → Wanted → Entries → List Row
listed table want es = filter (is_wanted want) (map (λ (entry : Name × Row). entry.1) (filter (λ (entry : Name × Row). is_past table (pos 0) entry.0) es))

-- reviews, then cards, then notes
abbrev in_chunks : Wanted → Entries → List Row
in_chunks want es = listed tables.Review want es ++ (listed tables.Card want es ++ listed tables.Note want es)

entry : Row → Name × Row
entry row = (name_of row, row)

-- ---- a check that is bad
-- a card whose note is gone draws a bad reply, whatever counts are sent
a_card_without_its_note_is_bad : (held : Rows) (counts : SanityCounts) (card : Card) → AreNamed (get held) → AreChecked (get held) → get held (name_in tables.Card card.id) ≡ Some (rows.Card card)
    → get held (name_in tables.Note card.nid) ≡ None → is_good held counts ≡ false
a_card_without_its_note_is_bad held counts card named checked stands gone = by (is_good held counts) refl
  where
    by : (b : Bool) → is_good held counts ≡ b → is_good held counts ≡ false
    by true good = absurd (not_both (((check_decides held counts named checked).0 (ap not good)).0.card_note card stands) (ap (λ (o : Option Row). is_some o) gone))
    by false bad = bad

-- ---- requests one by one
-- what holds of each request of a list and of those before it
abbrev Each : (List Request → Request → Type 0) → List Request → Type 0
Each P [] = ⊤
Each P (request ∷ more) = P [] request × Each (λ before. P (request ∷ before)) more

abbrev first_of : Request → List Request → Request
first_of other [] = other
first_of other (request ∷ more) = request

abbrev rest_of : List Request → List Request
rest_of [] = []
rest_of (request ∷ more) = more

some_there : (before : List Request) (request : Request) (after : List Request) → before ++ request ∷ after ≡ [] → ⊥
some_there [] request after is = cc
some_there (first ∷ before) request after is = cc

each : (P : List Request → Request → Type 0) (accepted : List Request) → Each P accepted
    → (before : List Request) (request : Request) (after : List Request) → before ++ request ∷ after ≡ accepted → P before request
each P [] all before request after is = absurd (some_there before request after is)
each P (x ∷ more) all [] request after is = subst (P []) (sym (ap (first_of x) is)) all.0
each P (x ∷ more) all (y ∷ before) request after is =
    subst (λ (z : Request). P (z ∷ before) request) (sym (ap (first_of x) is)) (each (λ (before : List Request). P (x ∷ before)) more all.1 before request after (ap rest_of is))

module _ (host : HostKey) (session : SessionKey) (any : Head) where
  abbrev asked : Ask → Request
  asked ask = record { host = host; session = session; step = 0; base = pos 0; ask = ask }

  -- the device has the number 2, and was changed last at the moment 3
  abbrev start : Request
  start = asked (asks.Start (pos 2) (pos 3))

  abbrev no_changes : Request
  no_changes = asked (asks.ApplyChanges (record { models = []; decks = []; options = []; tags = []; newer = None }))

  abbrev graves : List ℤ → List ℤ → Request
  graves notes cards = asked (asks.ApplyGraves (record { cards = cards; notes = notes; decks = [] }))

  -- a committed collection of these entries, with the number 5 and the moment 9
  abbrev committed : Entries → Collection
  committed es = record { rows = map_of es; head = record any { usn = pos 5; moment = pos 9 } }

  -- note 7, its cards 8 and 11, and a note 9
  abbrev note : ℤ → ℤ → ℤ → Row
  note id usn stamp = rows.Note (record (note_with usn stamp (codes "house")) { id = id })

  abbrev card : ℤ → ℤ → Row
  card id usn = rows.Card (record (card_of_it id (pos 10) (pos 0)) { usn = usn })

  abbrev few : Entries
  few = (name_in tables.Note (pos 7), note (pos 7) (pos 3) (pos 10)) ∷ (name_in tables.Card (pos 8), card (pos 8) (pos 3)) ∷ (name_in tables.Card (pos 11), card (pos 11) (pos 3)) ∷ []

  few_are : entries (map_of few) ≡ few
  few_are = entries-from_sorted name_cmp few tt

  -- ---- a deleted card
  -- the device deleted card 8, which it had: what the chunk gives is card 11 and note 7 alone
  a_deleted_card_is_not_given : answer (committed few) (start ∷ graves [] (pos 8 ∷ []) ∷ no_changes ∷ []) (asked asks.Chunk) ≡ gives.Chunk (chunk_of (card (pos 11) (pos 3) ∷ note (pos 7) (pos 3) (pos 10) ∷ []))
  unfolding answer
  a_deleted_card_is_not_given =
      ap (λ (es : Entries). gives.Chunk (chunk_of (slice 0 (in_chunks (From (pos 2)) es)))) (fold_entries (committed few) (asks_of (start ∷ graves [] (pos 8 ∷ []) ∷ no_changes ∷ [])) few few_are)

  -- ---- a forged chunk
  -- a note that comes with the number 99 is held with the server's number 5
  a_forged_number_is_not_held : row_under (folded (committed few) (start ∷ no_changes ∷ asked asks.Chunk ∷ asked (asks.ApplyChunk (record { done = true; reviews = []; cards = []; notes = record (note_with (pos 99) (pos 15) (codes "new")) { id = pos 9 } ∷ [] })) ∷ [])) (name_in tables.Note (pos 9))
      ≡ Some (rows.Note (record (note_with (pos 5) (pos 15) (codes "new")) { id = pos 9 }))
  unfolding folded
  a_forged_number_is_not_held =
      fold_at (committed few) (asks_of (start ∷ no_changes ∷ asked asks.Chunk ∷ asked (asks.ApplyChunk (record { done = true; reviews = []; cards = []; notes = record (note_with (pos 99) (pos 15) (codes "new")) { id = pos 9 } ∷ [] })) ∷ [])) few (name_in tables.Note (pos 9)) few_are

  -- an older edit of note 7 is not held
  an_older_edit_is_not_held : row_under (folded (committed few) (start ∷ no_changes ∷ asked asks.Chunk ∷ asked (asks.ApplyChunk (record { done = true; reviews = []; cards = []; notes = note_with (negsuc 0) (pos 9) (codes "home") ∷ [] })) ∷ [])) (name_in tables.Note (pos 7))
      ≡ Some (note (pos 7) (pos 3) (pos 10))
  unfolding folded
  an_older_edit_is_not_held =
      fold_at (committed few) (asks_of (start ∷ no_changes ∷ asked asks.Chunk ∷ asked (asks.ApplyChunk (record { done = true; reviews = []; cards = []; notes = note_with (negsuc 0) (pos 9) (codes "home") ∷ [] })) ∷ [])) few (name_in tables.Note (pos 7)) few_are

  -- ---- a note deleted on one side and edited on the other
  -- the device deleted note 7, which was edited on the server: it is gone, and its grave stands with the server's number
  a_deleted_note_is_gone : row_under (folded (committed few) (start ∷ graves (pos 7 ∷ []) [] ∷ [])) (name_in tables.Note (pos 7)) ≡ None
  unfolding folded
  a_deleted_note_is_gone = fold_at (committed few) (asks_of (start ∷ graves (pos 7 ∷ []) [] ∷ [])) few (name_in tables.Note (pos 7)) few_are

  its_grave_stands : row_under (folded (committed few) (start ∷ graves (pos 7 ∷ []) [] ∷ [])) (name_in tables.NoteGrave (pos 7)) ≡ Some (rows.Grave (record { usn = pos 5; oid = pos 7; kind = pos 1 }))
  unfolding folded
  its_grave_stands = fold_at (committed few) (asks_of (start ∷ graves (pos 7 ∷ []) [] ∷ [])) few (name_in tables.NoteGrave (pos 7)) few_are

  -- card 8 is then without its note: the sanity check of such a session is bad, whatever counts are sent
  abbrev deleting : List Request
  deleting = start ∷ graves (pos 7 ∷ []) [] ∷ no_changes ∷ asked asks.Chunk ∷ asked (asks.ApplyChunk (record { done = true; reviews = []; cards = []; notes = [] })) ∷ []

  its_card_stands : row_under (folded (committed few) deleting) (name_in tables.Card (pos 8)) ≡ Some (card (pos 8) (pos 3))
  unfolding folded
  its_card_stands = fold_at (committed few) (asks_of deleting) few (name_in tables.Card (pos 8)) few_are

  its_note_is_gone : row_under (folded (committed few) deleting) (name_in tables.Note (pos 7)) ≡ None
  unfolding folded
  its_note_is_gone = fold_at (committed few) (asks_of deleting) few (name_in tables.Note (pos 7)) few_are

  -- what is held then: the two cards and the grave
  abbrev joined : Entries
  joined = entry (card (pos 8) (pos 3)) ∷ entry (card (pos 11) (pos 3)) ∷ entry (rows.Grave (record { usn = pos 5; oid = pos 7; kind = pos 1 })) ∷ []

  joined_are : entries (folded (committed few) deleting).rows ≡ joined
  unfolding folded entry
  joined_are = fold_entries (committed few) (asks_of deleting) few few_are

  each_is_named : AreNamed (row_under (folded (committed few) deleting))
  unfolding entry
  each_is_named name row = all_gets (λ e. name_of e.1 ≡ e.0) (folded (committed few) deleting).rows name row (subst (AllByRecursion (λ e. name_of e.1 ≡ e.0)) (sym joined_are) (refl, (refl, (refl, tt))))

  each_is_checked : AreChecked (row_under (folded (committed few) deleting))
  unfolding entry place_faults schedule_faults mark_faults id_fault id_or_zero_fault stamp_fault code_fault long_fault
  each_is_checked name row = all_gets (λ e. IsChecked e.1) (folded (committed few) deleting).rows name row (subst (AllByRecursion (λ e. IsChecked e.1)) (sym joined_are) (refl, (refl, (refl, tt))))

  an_unsound_join_draws_bad : (counts : SanityCounts) → ends (committed few) deleting (asked (asks.SanityCheck2 counts)) ≡ true
  unfolding ends folded
  an_unsound_join_draws_bad counts =
      ap not (a_card_without_its_note_is_bad (folded (committed few) deleting).rows counts (record (card_of_it (pos 8) (pos 10) (pos 0)) { usn = pos 3 }) each_is_named each_is_checked its_card_stands its_note_is_gone)

  -- what a chunk that comes after the server's first chunk meets, by the rows that the server has then
  chunk_met : Chunk → Entries → Option Objection
  chunk_met chunk es =
      first_objection (test (not (list_any (same_method methods.ApplyChunk) (methods_after methods.Chunk (chunk_of (slice 0 (in_chunks (From (pos 2)) es))).done))) MayNotCome ∷ chunk_tests chunk)

  its_chunk_is_accepted : refusal (committed few) (start ∷ graves (pos 7 ∷ []) [] ∷ no_changes ∷ asked asks.Chunk ∷ []) (asked (asks.ApplyChunk (record { done = true; reviews = []; cards = []; notes = [] }))) ≡ None
  unfolding refusal chunk_met
  its_chunk_is_accepted =
      ap (chunk_met (record { done = true; reviews = []; cards = []; notes = [] })) (fold_entries (committed few) (asks_of (start ∷ graves (pos 7 ∷ []) [] ∷ no_changes ∷ asked asks.Chunk ∷ [])) few few_are)

  -- the session may come so far: each of its requests is accepted after those before it
  deleting_is_accepted : AreAllowed (committed few) deleting
  unfolding refusal ends
  deleting_is_accepted =
      each (IsAllowed (committed few)) deleting (
        record { allowed = refl; stays = refl; goes_on = refl },
        (
          record { allowed = refl; stays = refl; goes_on = refl },
          (
            record { allowed = refl; stays = refl; goes_on = refl },
            (
              record { allowed = refl; stays = refl; goes_on = refl },
              (record { allowed = its_chunk_is_accepted; stays = refl; goes_on = refl }, tt),
            ),
          ),
        ),
      )

  -- none of the few rows is a grave
  no_grave_of : (table : Table) (id : ℤ) → is_dead (row_under (committed few)) (name_in table id) ≡ false
  no_grave_of tables.Note id = ap (λ (o : Option Row). is_some o) (get-entries (map_of few) (name_in tables.NoteGrave id) ∙ ap (λ (es : Entries). under es (name_in tables.NoteGrave id)) few_are)
  no_grave_of tables.Card id = ap (λ (o : Option Row). is_some o) (get-entries (map_of few) (name_in tables.CardGrave id) ∙ ap (λ (es : Entries). under es (name_in tables.CardGrave id)) few_are)
  no_grave_of tables.Deck id = ap (λ (o : Option Row). is_some o) (get-entries (map_of few) (name_in tables.DeckGrave id) ∙ ap (λ (es : Entries). under es (name_in tables.DeckGrave id)) few_are)
  no_grave_of tables.Review id = refl
  no_grave_of tables.NoteType id = refl
  no_grave_of tables.Options id = refl
  no_grave_of tables.NoteGrave id = refl
  no_grave_of tables.CardGrave id = refl
  no_grave_of tables.DeckGrave id = refl

  -- their number is below the head's
  three : IsGiven (pos 5) (pos 3)
  three = record { low = omega (arith, ints); high = omega (arith, ints) }

  -- and the collection may be a committed one, if its head is in its ranges and has no tags
  few_fit : IsHeadInRange any → any.tags ≡ [] → IsCommitted (committed few)
  unfolding place_faults schedule_faults mark_faults identity_faults content_faults id_fault id_or_zero_fault stamp_fault code_fault long_fault
  few_fit fits no_tags = record {
    named = λ name row. all_gets (λ e. name_of e.1 ≡ e.0) (map_of few) name row (subst (AllByRecursion (λ e. name_of e.1 ≡ e.0)) (sym few_are) (refl, (refl, (refl, tt))));
    checked = λ name row. all_gets (λ e. IsChecked e.1) (map_of few) name row (subst (AllByRecursion (λ e. IsChecked e.1)) (sym few_are) (refl, (refl, (refl, tt))));
    single = λ name dead. absurd (not_both dead (no_grave_of name.table name.id));
    given = record {
      rows = λ name. when_some (λ row. IsGiven (pos 5) (usn_of row)) (row_under (committed few) name) (λ row. all_gets (λ e. IsGiven (pos 5) (usn_of e.1)) (map_of few) name row (subst (AllByRecursion (λ e. IsGiven (pos 5) (usn_of e.1))) (sym few_are) (three, (three, (three, tt)))));
      tags = λ name. subst (λ (tags : List Tag). IfSome (tag_usn tags name) (IsGiven (pos 5))) (sym no_tags) tt;
    };
    head = record {
      crt = fits.crt;
      moment = record { low = omega (arith, ints); high = omega (arith, ints) };
      schema = fits.schema;
      usn = record { low = omega (arith, ints); high = omega (arith, ints) };
      last_sync = fits.last_sync;
      conf = fits.conf;
      tags = fits.tags;
      ascending = fits.ascending;
    };
  }

  -- note 7 was deleted on the server, and edited by the device: it stays gone
  abbrev buried : Entries
  buried = (name_in tables.NoteGrave (pos 7), rows.Grave (record { usn = pos 4; oid = pos 7; kind = pos 1 })) ∷ []

  an_edit_of_a_deleted_note_is_not_held : row_under (folded (committed buried) (start ∷ no_changes ∷ asked asks.Chunk ∷ asked (asks.ApplyChunk (record { done = true; reviews = []; cards = []; notes = note_with (negsuc 0) (pos 99) (codes "home") ∷ [] })) ∷ [])) (name_in tables.Note (pos 7)) ≡ None
  unfolding folded
  an_edit_of_a_deleted_note_is_not_held =
      fold_at (committed buried) (asks_of (start ∷ no_changes ∷ asked asks.Chunk ∷ asked (asks.ApplyChunk (record { done = true; reviews = []; cards = []; notes = note_with (negsuc 0) (pos 99) (codes "home") ∷ [] })) ∷ [])) buried (name_in tables.Note (pos 7))
      (entries-from_sorted name_cmp buried tt)

  -- ---- two chunks a side
  abbrev review : ℕ → Review
  review id = record { id = pos id; cid = pos 8; usn = pos 3; ease = pos 3; ivl = pos 1; last_ivl = pos 1; factor = pos 2500; time = pos 1; kind = pos 0 }

  -- 251 reviews
  abbrev reviews : List Review
  reviews = map review (range_with_len 1 251)

  abbrev many : Entries
  many = map (λ (r : Review). (name_in tables.Review r.id, rows.Review r)) reviews

  many_are : entries (map_of many) ≡ many
  many_are = entries-from_sorted name_cmp many tt

  abbrev first_chunk : List Request
  first_chunk = start ∷ no_changes ∷ []

  abbrev second_chunk : List Request
  second_chunk = start ∷ no_changes ∷ asked asks.Chunk ∷ []

  -- the first chunk has 250 of them and is not done, the second has the last and is
  the_first_has_250 : answer (committed many) first_chunk (asked asks.Chunk) ≡ gives.Chunk (record { done = false; reviews = map review (range_with_len 1 250); cards = []; notes = [] })
  unfolding answer
  the_first_has_250 = ap (λ (es : Entries). gives.Chunk (chunk_of (slice 0 (in_chunks (From (pos 2)) es)))) (fold_entries (committed many) (asks_of first_chunk) many many_are)

  the_second_has_the_last : answer (committed many) second_chunk (asked asks.Chunk) ≡ gives.Chunk (record { done = true; reviews = review 251 ∷ []; cards = []; notes = [] })
  unfolding answer
  the_second_has_the_last = ap (λ (es : Entries). gives.Chunk (chunk_of (slice 1 (in_chunks (From (pos 2)) es)))) (fold_entries (committed many) (asks_of second_chunk) many many_are)

  -- the device's 251 rows go in two chunks too, and 250 rows in a full one and an empty one
  two_chunks_are_sent : map (λ (part : List Row). length part) (slices_until_short (map rows.Review reviews)) ≡ 250 ∷ 1 ∷ []
  two_chunks_are_sent = refl

  an_empty_chunk_ends : map (λ (part : List Row). length part) (slices_until_short (map rows.Review (map review (range_with_len 1 250)))) ≡ 250 ∷ 0 ∷ []
  an_empty_chunk_ends = refl

  -- the server gave its chunk, which was done. Of the device's 251 rows 250 come first, and no check may come before the last one did
  abbrev first_push : Request
  first_push = asked (asks.ApplyChunk (record { done = false; reviews = map review (range_with_len 1 250); cards = []; notes = [] }))

  abbrev last_push : Request
  last_push = asked (asks.ApplyChunk (record { done = true; reviews = review 251 ∷ []; cards = []; notes = [] }))

  -- they are the chunks of the device's rows
  two_pushes_are_sent : map (λ (part : List Row). asked (asks.ApplyChunk (chunk_of part))) (slices_until_short (map rows.Review reviews)) ≡ first_push ∷ last_push ∷ []
  two_pushes_are_sent = refl

  abbrev given : List Request
  given = start ∷ no_changes ∷ asked asks.Chunk ∷ []

  the_first_push_is_accepted : refusal (committed few) given first_push ≡ None
  unfolding refusal chunk_met id_fault code_fault
  the_first_push_is_accepted = ap (chunk_met (record { done = false; reviews = map review (range_with_len 1 250); cards = []; notes = [] })) (fold_entries (committed few) (asks_of given) few few_are)

  no_check_before_the_last_push : (counts : SanityCounts) → refusal (committed few) (given ++ first_push ∷ []) (asked (asks.SanityCheck2 counts)) ≡ Some MayNotCome
  unfolding refusal
  no_check_before_the_last_push counts = refl

  the_last_push_is_accepted : refusal (committed few) (given ++ first_push ∷ []) last_push ≡ None
  unfolding refusal id_fault code_fault
  the_last_push_is_accepted = refl

  a_check_after_the_last_push : (counts : SanityCounts) → refusal (committed few) (given ++ first_push ∷ last_push ∷ []) (asked (asks.SanityCheck2 counts)) ≡ None
  unfolding refusal
  a_check_after_the_last_push counts = refl

  -- of graves none is empty
  no_empty_graves : map (λ (part : List Row). length part) (filled_slices (map rows.Review (map review (range_with_len 1 250)))) ≡ 250 ∷ []
  no_empty_graves = refl

-- ---- a committed collection
-- a head with settings whose rest has no keys, and without tags
abbrev plain : Head
plain = record {
  crt = pos 0;
  moment = pos 9;
  schema = pos 1;
  usn = pos 5;
  last_sync = pos 0;
  conf = record { new_spread = pos 0; collapse = pos 1_200; day_learn_first = false; next_pos = pos 1; last_unburied = pos 0; rest = record { text = codes "{}"; owner = record {}; unknown = empty_is_rest (lacks conf_keys) refl } };
  tags = [];
}

plain_fits : IsHeadInRange plain
plain_fits = record {
  crt = record { low = omega (arith, ints); high = omega (arith, ints) };
  moment = record { low = omega (arith, ints); high = omega (arith, ints) };
  schema = record { low = omega (arith, ints); high = omega (arith, ints) };
  usn = record { low = omega (arith, ints); high = omega (arith, ints) };
  last_sync = record { low = omega (arith, ints); high = omega (arith, ints) };
  conf = record {
    numbers = record {
      new_spread = record { low = omega (arith, ints); high = omega (arith, ints) };
      collapse = record { low = omega (arith, ints); high = omega (arith, ints) };
      next_pos = record { low = omega (arith, ints); high = omega (arith, ints) };
      last_unburied = record { low = omega (arith, ints); high = omega (arith, ints) };
    };
    rest = omega (arith);
  };
  tags = (empty_in_range [] refl).each;
  ascending = (empty_in_range [] refl).ascending;
}

-- under such a head the few rows are what a server may have committed
few_may_be_committed : (host : HostKey) (session : SessionKey) → IsCommitted (committed host session plain (few host session plain))
few_may_be_committed host session = few_fit host session plain plain_fits refl

-- ---- counts
-- how many entries a table has
abbrev count_in : Table → Entries → ℕ
count_in table es = length (filter (λ name. table_place name.table == table_place table) (map (λ (entry : Name × Row). entry.0) es))

-- 1 note, 2 cards, 3 reviews, 4 note types, 5 decks, 6 options, and 1, 2 and 4 graves of notes, cards and decks
abbrev so_many : Table → ℕ → Entries
so_many table count = map (λ (k : ℕ). (name_in table (pos k), rows.Note (note_with (pos 0) (pos 0) []))) (range_with_len 1 count)

abbrev some_of_each : Entries
some_of_each =
    so_many tables.Note 1 ++ (so_many tables.Card 2 ++ (so_many tables.Review 3 ++ (so_many tables.NoteType 4 ++ (so_many tables.Deck 5 ++ (so_many tables.Options 6
    ++ (so_many tables.NoteGrave 1 ++ (so_many tables.CardGrave 2 ++ so_many tables.DeckGrave 4)))))))

each_table_is_counted : counts_of (map_of some_of_each) ≡ record { cards = 2; notes = 1; reviews = 3; graves = 7; models = 4; decks = 5; options = 6 }
each_table_is_counted =
    ap (λ (es : Entries). record {
      cards = count_in tables.Card es;
      notes = count_in tables.Note es;
      reviews = count_in tables.Review es;
      graves = count_in tables.NoteGrave es + count_in tables.CardGrave es + count_in tables.DeckGrave es;
      models = count_in tables.NoteType es;
      decks = count_in tables.Deck es;
      options = count_in tables.Options es;
    }) (entries-from_sorted name_cmp some_of_each tt)

-- counts of which one differs by one are bad
one_count_differs : (held : Rows) (counts : SanityCounts) → AreNamed (get held) → AreChecked (get held) → counts ≢ counts_of held → is_good held counts ≡ false
one_count_differs held counts named checked differ = by (is_good held counts) refl
  where
    by : (b : Bool) → is_good held counts ≡ b → is_good held counts ≡ false
    by true good = absurd (differ ((check_decides held counts named checked).0 (ap not good)).1)
    by false bad = bad

-- ---- an upload between two syncs
-- a device that had the server's schema moment has another one than what an upload left, so that it is asked for a whole collection. The two
-- count as linked until then
an_upload_parts_schemas : (c s : Collection) (whole : Whole) (now : ℤ) → c.head.schema ≡ s.head.schema → c.head.schema ≢ (of_upload s whole now).head.schema
an_upload_parts_schemas c s whole now same other = let past = past_first now s.head.schema whole.schema in omega (arith, ints, same, other, past)

an_upload_keeps_links : (c s : Collection) (whole : Whole) (now : ℤ) → c.head.schema ≡ s.head.schema → AreLinked c (of_upload s whole now)
an_upload_keeps_links c s whole now same = inl (an_upload_parts_schemas c s whole now same)

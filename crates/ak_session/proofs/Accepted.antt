-- A session accepts each request of a sync.
use Rattle.std.specs.Prelude.{◌≡◌, ℕ, zero, suc, ◌+◌, ◌-◌, ◌*◌, ◌/◌, ◌%◌, ◌<◌, ◌≤◌, pos, Bool, true, false, not, is_some, nat_lt, int_lt, if◌then◌else◌, find, ◌||◌, List, [], ◌∷◌, ◌++◌, map, length, Some, None}
use Rattle.std.specs.Int.{div_ceil}
use Rattle.std.specs.List.{AllByRecursion, list_any, list_all, range_with_len}
use Rattle.std.specs.Option.{option_map, option_map_or}
use Rattle.std.specs.Ordering.{int_eq}
use Rattle.std.proofs.Common.{refl, sym, ap, subst, ◌∙◌, append_assoc, arith}
use Rattle.std.proofs.lemmas.List.{append-nil}
use Rattle.std.proofs.lemmas.List.Elements.{recursion_from_All}
use Rattle.std.proofs.lemmas.Nat.{div-add-mod', mod_below}
use Rattle.ak_base.specs.Limits.{last_head_usn}
use Rattle.ak_base.specs.Rows.{IsChecked}
use Rattle.ak_base.specs.declared.names.Table.TheVariants as tables
use Rattle.ak_base.specs.declared.rows.Row.{Row}
use Rattle.ak_base.specs.declared.rows.Row.TheVariants as rows
use Rattle.ak_keep.specs.Collections.{Collection}
use Rattle.ak_keep.specs.declared.keepers.Wanted.TheVariants.{Unsent}
use Rattle.ak_merge.proofs.TagLists.{wanted_in_range}
use Rattle.ak_merge.specs.Commits.{Settings, settings_of}
use Rattle.ak_merge.specs.Exchanges.{settings_sent}
use Rattle.ak_merge.specs.Holdings.{row_under}
use Rattle.ak_merge.specs.Joins.{joined_under}
use Rattle.ak_merge.specs.Soundness.{IsSound}
use Rattle.ak_merge.specs.Tags.{IsTagName}
use Rattle.ak_messages.specs.MessageForms.{chunk_entries, grave_entries}
use Rattle.ak_messages.specs.declared.requests.Ask.{Ask}
use Rattle.ak_messages.specs.declared.requests.Ask.TheVariants as asks
use Rattle.ak_messages.specs.declared.requests.Changes.{Changes}
use Rattle.ak_messages.specs.declared.requests.Chunk.{Chunk}
use Rattle.ak_messages.specs.declared.requests.GraveIds.{GraveIds}
use Rattle.ak_messages.specs.declared.requests.Request.{Request}
use Rattle.ak_session.specs.Answers.{server_rows, chunk_count, counts_of, is_bad_check}
use Rattle.ak_session.specs.Asks.{asks_of}
use Rattle.ak_session.specs.Contents.{refusal, ends}
use Rattle.ak_session.specs.Messages.{grave_ids, graves_from, chunk_of, chunk_rows, changes_of, change_rows, newer_of}
use Rattle.ak_session.specs.NextMethods.{methods_after, last_asked, was_done, may_come}
use Rattle.ak_session.specs.Objections.{MayNotCome, WrongUsn, NoNumber, TooManyRows, WrongRow, WrongNewer}
use Rattle.ak_session.specs.Plans.{device_rows, device_changes, graves_to_send, chunks_to_ask, rows_to_send, planned_start, planned_graves, planned_changes, planned_chunks, planned_pushes, planned_check, planned, Asker, plan}
use Rattle.ak_session.specs.Refusals.{Test, test, first_objection, is_id, is_checked, is_newer_in_range, has_no_next, are_changes_in_range, wrong_newer, grave_tests, chunk_tests, tests_of, objection_to}
use Rattle.ak_base.specs.Heads.{is_tag_name, is_within}
use Rattle.ak_session.specs.Requests.{asked_method, same_method}
use Rattle.ak_session.specs.Sessions.{MaySync, HaveRoom}
use Rattle.ak_session.specs.Slices.{wanted_graves, wanted_in_chunks, slice, filled_slices, slices_until_short}
use Rattle.ak_session.proofs.Accepting.{both_pass, checked_row, all_true, named_tag, sent_settings_fit, ids_fit, slice_short, graves_few, rows_few, start_passes}
use Rattle.ak_session.proofs.CheckLaws.{check_finds}
use Rattle.ak_session.proofs.InOrder.{all_take, all_drop, Made, chunk_keeps, changes_keep}
use Rattle.ak_session.proofs.PlanLaws.{asked_place}
use Rattle.ak_session.proofs.Slices.{short_slices}
use Rattle.ak_session.proofs.Starts.{MeetNoObjection}
use Rattle.ak_session.proofs.Steps.{last_is, chunks_are_counted}
use Rattle.ak_session.proofs.Sums.{device_named, device_checked, checked_start, checked_graves, checked_chunks, wanted_checked, list_kept, none_yet, device_graves, device_types, device_list, device_tags, chunk_rows_of, change_rows_of, slice_of_three, all_slices, unsent_graves_of, unsent_graves_keep, IsUnsentIn}

-- ---- lists that meet no objection
meet_append : (s : Collection) (before xs ys : List Ask) → MeetNoObjection s before xs → MeetNoObjection s (before ++ xs) ys → MeetNoObjection s before (xs ++ ys)
meet_append s before [] ys one other = subst (λ (l : List Ask). MeetNoObjection s l ys) (append-nil before) other
meet_append s before (x ∷ xs) ys one other =
    (one.0, meet_append s (before ++ x ∷ []) xs ys one.1 (subst (λ (l : List Ask). MeetNoObjection s l ys) (sym (append_assoc before (x ∷ []) xs)) other))

no_objection : (s : Collection) (before : List Ask) (ask : Ask) → may_come s before ask ≡ true → first_objection (tests_of s before ask) ≡ None → objection_to s before ask ≡ None
no_objection s before ask may none =
    ap (λ (b : Bool). option_map (λ (t : Test). t.why) (if not b then Some (test (not b) MayNotCome) else find (λ (t : Test). t.finds) (tests_of s before ask))) may ∙ none

may_after : (s : Collection) (before : List Ask) (ask last : Ask) → last_asked before ≡ last → list_any (same_method (asked_method ask)) (methods_after (asked_method last) (was_done s before last)) ≡ true → may_come s before ask ≡ true
may_after s before ask last is may = ap (λ (a : Ask). list_any (same_method (asked_method ask)) (methods_after (asked_method a) (was_done s before a))) is ∙ may

-- ---- graves
graves_meet : (s : Collection) (before : List Ask) (parts : List (List Row)) → ((ids : GraveIds) → may_come s before (asks.ApplyGraves ids) ≡ true)
    → AllByRecursion (λ (part : List Row). first_objection (grave_tests (grave_ids part)) ≡ None) parts → MeetNoObjection s before (map (λ (part : List Row). asks.ApplyGraves (grave_ids part)) parts)
graves_meet s before [] may all = tt
graves_meet s before (part ∷ more) may all = (
  no_objection s before (asks.ApplyGraves (grave_ids part)) (may (grave_ids part)) all.0,
  graves_meet s (before ++ asks.ApplyGraves (grave_ids part) ∷ []) more
      (λ ids. may_after s (before ++ asks.ApplyGraves (grave_ids part) ∷ []) (asks.ApplyGraves ids) (asks.ApplyGraves (grave_ids part)) (last_is before (asks.ApplyGraves (grave_ids part))) refl) all.1,
)

changes_may : (s : Collection) (before : List Ask) (parts : List (List Row)) (changes : Changes) → may_come s before (asks.ApplyChanges changes) ≡ true
    → may_come s (before ++ map (λ (part : List Row). asks.ApplyGraves (grave_ids part)) parts) (asks.ApplyChanges changes) ≡ true
changes_may s before [] changes may = ap (λ (l : List Ask). may_come s l (asks.ApplyChanges changes)) (append-nil before) ∙ may
changes_may s before (part ∷ more) changes may =
    ap (λ (l : List Ask). may_come s l (asks.ApplyChanges changes)) (sym (append_assoc before (asks.ApplyGraves (grave_ids part) ∷ []) (map (λ (part : List Row). asks.ApplyGraves (grave_ids part)) more)))
    ∙ changes_may s (before ++ asks.ApplyGraves (grave_ids part) ∷ []) more changes
    (may_after s (before ++ asks.ApplyGraves (grave_ids part) ∷ []) (asks.ApplyChanges changes) (asks.ApplyGraves (grave_ids part)) (last_is before (asks.ApplyGraves (grave_ids part))) refl)

-- ---- chunks
full : (a : ℕ) (list : List Row) → 250 * (a + 1) ≤ length list → nat_lt (length (slice a list)) 250 ≡ false
full a list enough = by (nat_lt (length (slice a list)) 250) refl
  where
    by : (b : Bool) → nat_lt (length (slice a list)) 250 ≡ b → nat_lt (length (slice a list)) 250 ≡ false
    by true is =
        let short : length (slice a list) < 250 = grind (arith, is) in
        let few = (short_slices a list).0 short in
        absurd (omega (arith, few, enough))
    by false is = is

short : (a : ℕ) (list : List Row) → length list < 250 * (a + 1) → nat_lt (length (slice a list)) 250 ≡ true
short a list few = let less = (short_slices a list).1 few in grind (arith, less)

given_done : (s : Collection) (before : List Ask) (list : List Row) (a : ℕ) → server_rows s before ≡ list → chunk_count before ≡ a → was_done s (before ++ asks.Chunk ∷ []) asks.Chunk ≡ nat_lt (length (slice a list)) 250
given_done s before list a is count =
    ap (λ (k : ℕ). nat_lt (length (slice (k - 1) (server_rows s (before ++ asks.Chunk ∷ [])))) 250) (chunks_are_counted before asks.Chunk ∙ ap (λ (k : ℕ). k + 1) count)
    ∙ ap (λ (k : ℕ). nat_lt (length (slice k (server_rows s (before ++ asks.Chunk ∷ [])))) 250) (let back : a + 1 - 1 ≡ a = omega arith in back)
    ∙ ap (λ (l : List Row). nat_lt (length (slice a l)) 250) (list_kept s before ∙ is)

chunks_meet : (s : Collection) (before : List Ask) (list : List Row) (a n : ℕ) → server_rows s before ≡ list → chunk_count before ≡ a → (0 < n → may_come s before asks.Chunk ≡ true) → 250 * (a + n) ≤ length list + 250
    → MeetNoObjection s before (map (λ (part : List Row). asks.Chunk) (map (λ (k : ℕ). slice k list) (range_with_len a n)))
chunks_meet s before list a zero is count may bound = tt
chunks_meet s before list a (suc n) is count may bound = (
  no_objection s before asks.Chunk (may (omega arith)) refl,
  chunks_meet s (before ++ asks.Chunk ∷ []) list (a + 1) n (list_kept s before ∙ is) (chunks_are_counted before asks.Chunk ∙ ap (λ (k : ℕ). k + 1) count)
      (λ more. may_after s (before ++ asks.Chunk ∷ []) asks.Chunk asks.Chunk (last_is before asks.Chunk)
      (ap (λ (b : Bool). list_any (same_method (asked_method asks.Chunk)) (methods_after (asked_method asks.Chunk) b)) (given_done s before list a is count ∙ full a list (omega (arith, bound, more)))))
      (omega (arith, bound)),
)

chunks_end : (s : Collection) (before : List Ask) (list : List Row) (a n : ℕ) → server_rows s before ≡ list → chunk_count before ≡ a → length list < 250 * (a + (n + 1))
    → (chunk : Chunk) → may_come s (before ++ map (λ (part : List Row). asks.Chunk) (map (λ (k : ℕ). slice k list) (range_with_len a (suc n)))) (asks.ApplyChunk chunk) ≡ true
chunks_end s before list a zero is count few chunk =
    may_after s (before ++ asks.Chunk ∷ []) (asks.ApplyChunk chunk) asks.Chunk (last_is before asks.Chunk)
    (ap (λ (b : Bool). list_any (same_method (asked_method (asks.ApplyChunk chunk))) (methods_after (asked_method asks.Chunk) b)) (given_done s before list a is count ∙ short a list (omega (arith, few))))
chunks_end s before list a (suc n) is count few chunk =
    ap (λ (l : List Ask). may_come s l (asks.ApplyChunk chunk)) (sym (append_assoc before (asks.Chunk ∷ []) (map (λ (part : List Row). asks.Chunk) (map (λ (k : ℕ). slice k list) (range_with_len (a + 1) (suc n))))))
    ∙ chunks_end s (before ++ asks.Chunk ∷ []) list (a + 1) n (list_kept s before ∙ is) (chunks_are_counted before asks.Chunk ∙ ap (λ (k : ℕ). k + 1) count) (omega (arith, few)) chunk

-- ---- pushes
pushes_meet : (s : Collection) (before : List Ask) (list : List Row) (a n : ℕ) → (0 < n → (chunk : Chunk) → may_come s before (asks.ApplyChunk chunk) ≡ true) → 250 * (a + n) ≤ length list + 250
    → AllByRecursion (λ (part : List Row). first_objection (chunk_tests (chunk_of part)) ≡ None) (map (λ (k : ℕ). slice k list) (range_with_len a n))
    → MeetNoObjection s before (map (λ (part : List Row). asks.ApplyChunk (chunk_of part)) (map (λ (k : ℕ). slice k list) (range_with_len a n)))
pushes_meet s before list a zero may bound all = tt
pushes_meet s before list a (suc n) may bound all = (
  no_objection s before (asks.ApplyChunk (chunk_of (slice a list))) (may (omega arith) (chunk_of (slice a list))) all.0,
  pushes_meet s (before ++ asks.ApplyChunk (chunk_of (slice a list)) ∷ []) list (a + 1) n
      (λ more chunk. may_after s (before ++ asks.ApplyChunk (chunk_of (slice a list)) ∷ []) (asks.ApplyChunk chunk) (asks.ApplyChunk (chunk_of (slice a list))) (last_is before (asks.ApplyChunk (chunk_of (slice a list))))
      (ap (λ (b : Bool). list_any (same_method (asked_method (asks.ApplyChunk chunk))) (methods_after (asked_method (asks.ApplyChunk chunk)) b)) (full a list (omega (arith, bound, more)))))
      (omega (arith, bound)) all.1,
)

pushes_end : (s : Collection) (before : List Ask) (list : List Row) (a n : ℕ) (ask : Ask) → list_any (same_method (asked_method ask)) (methods_after (asked_method (asks.ApplyChunk (chunk_of []))) true) ≡ true → length list < 250 * (a + (n + 1))
    → may_come s (before ++ map (λ (part : List Row). asks.ApplyChunk (chunk_of part)) (map (λ (k : ℕ). slice k list) (range_with_len a (suc n)))) ask ≡ true
pushes_end s before list a zero ask may few =
    may_after s (before ++ asks.ApplyChunk (chunk_of (slice a list)) ∷ []) ask (asks.ApplyChunk (chunk_of (slice a list))) (last_is before (asks.ApplyChunk (chunk_of (slice a list))))
    (ap (λ (b : Bool). list_any (same_method (asked_method ask)) (methods_after (asked_method (asks.ApplyChunk (chunk_of []))) b)) (short a list (omega (arith, few))) ∙ may)
pushes_end s before list a (suc n) ask may few =
    ap (λ (l : List Ask). may_come s l ask) (sym (append_assoc before (asks.ApplyChunk (chunk_of (slice a list)) ∷ []) (map (λ (part : List Row). asks.ApplyChunk (chunk_of part)) (map (λ (k : ℕ). slice k list) (range_with_len (a + 1) (suc n))))))
    ∙ pushes_end s (before ++ asks.ApplyChunk (chunk_of (slice a list)) ∷ []) list (a + 1) n ask may (omega (arith, few))

-- ---- the parts of a plan
part_checked : (list : List Row) (k : ℕ) → AllByRecursion IsChecked list → AllByRecursion IsChecked (slice k list)
part_checked list k all = all_take IsChecked 250 _ (all_drop IsChecked (250 * k) list all)

newer_right : (b : Bool) (own : Settings) → (if b then not (is_some (option_map newer_of (if b then Some own else None))) else is_some (option_map newer_of (if b then Some own else None))) ≡ false
newer_right true own = refl
newer_right false own = refl

module _ (c s : Collection) (may : MaySync c s) (room : HaveRoom c s) where
  start_meets : MeetNoObjection s [] (planned_start c)
  start_meets =
      let passes = start_passes s.head.usn c.head.usn s.head.moment c.head.moment may.head.usn.low may.linked.usn room.usn room.their_moment room.moment in (
        no_objection s [] (asks.Start c.head.usn c.head.moment) refl
            (both_pass (not (is_within (pos 0) s.head.usn c.head.usn)) WrongUsn (int_eq s.head.usn last_head_usn || has_no_next s.head.moment || has_no_next c.head.moment) NoNumber passes.0 passes.1),
        tt,
      )

  graves_checked : AllByRecursion IsChecked (device_graves c s may)
  graves_checked = wanted_checked c s may tables.NoteGrave tables.CardGrave tables.DeckGrave Unsent (device_rows c s (planned_start c)) (device_named c s may (planned_start c)) (device_checked c s may (planned_start c) (checked_start c s may))

  grave_part_passes : (k : ℕ) → first_objection (grave_tests (grave_ids (slice k (device_graves c s may)))) ≡ None
  grave_part_passes k =
      let part : List Row = slice k (device_graves c s may) in
      let keeps : graves_from (grave_ids part) ≡ part =
      unsent_graves_keep part (slice_of_three (IsUnsentIn tables.NoteGrave) (IsUnsentIn tables.CardGrave) (IsUnsentIn tables.DeckGrave) (device_graves c s may)
      (unsent_graves_of (device_rows c s (planned_start c)) (device_named c s may (planned_start c)) (device_checked c s may (planned_start c) (checked_start c s may))) k) in
      both_pass (nat_lt 250 (grave_entries (grave_ids part))) TooManyRows (not (list_all is_id ((grave_ids part).cards ++ ((grave_ids part).notes ++ (grave_ids part).decks)))) WrongRow
      (graves_few part keeps (slice_short k (device_graves c s may)))
      (ap not (ids_fit (grave_ids part) (subst (AllByRecursion IsChecked) (sym keeps) (part_checked (device_graves c s may) k graves_checked))))

  graves_are_met : MeetNoObjection s [] (planned_graves c s)
  graves_are_met =
      meet_append s [] (planned_start c) (graves_to_send (device_graves c s may)) start_meets
      (graves_meet s (planned_start c) (filled_slices (device_graves c s may)) (λ ids. refl)
      (all_slices (λ (part : List Row). first_objection (grave_tests (grave_ids part)) ≡ None) (device_graves c s may) grave_part_passes 0 (div_ceil (length (device_graves c s may)) 250)))

  changes_pass : first_objection (tests_of s (planned_graves c s) (asks.ApplyChanges (changes_of (device_changes c s)))) ≡ None
  changes_pass =
      let keeps : change_rows (changes_of (device_changes c s)) ≡ device_types c s may =
      changes_keep (device_changes c s) (change_rows_of Unsent (device_rows c s (planned_graves c s)) (device_named c s may (planned_graves c s)) (device_checked c s may (planned_graves c s) (checked_graves c s may))) in
      let types : AllByRecursion IsChecked (device_types c s may) =
      wanted_checked c s may tables.NoteType tables.Deck tables.Options Unsent (device_rows c s (planned_graves c s)) (device_named c s may (planned_graves c s)) (device_checked c s may (planned_graves c s) (checked_graves c s may)) in
      let rows_fit : list_all is_checked (change_rows (changes_of (device_changes c s))) ≡ true = ap (list_all is_checked) keeps ∙ all_true IsChecked is_checked checked_row (device_types c s may) types in
      let tags_fit : list_all is_tag_name (device_tags c s may) ≡ true = all_true IsTagName is_tag_name named_tag (device_tags c s may) (recursion_from_All IsTagName (device_tags c s may) (wanted_in_range Unsent c.head.tags may.head.tags)) in
      let newer_fits : option_map_or is_newer_in_range (option_map newer_of (settings_sent c.head s.head)) true ≡ true = sent_settings_fit c.head s.head may.head in
      both_pass (not (are_changes_in_range (changes_of (device_changes c s)))) WrongRow (wrong_newer (int_lt s.head.moment c.head.moment) (changes_of (device_changes c s))) WrongNewer
      (rw (rows_fit, tags_fit, newer_fits) refl) (newer_right (int_lt s.head.moment c.head.moment) (settings_of c.head))

  changes_are_met : MeetNoObjection s [] (planned_changes c s)
  changes_are_met =
      meet_append s [] (planned_graves c s) (asks.ApplyChanges (changes_of (device_changes c s)) ∷ []) graves_are_met (
        no_objection s (planned_graves c s) (asks.ApplyChanges (changes_of (device_changes c s)))
            (changes_may s (planned_start c) (filled_slices (device_graves c s may)) (changes_of (device_changes c s)) refl) changes_pass,
        tt,
      )

  abbrev list : List Row
  list = server_rows s (planned_changes c s)

  list_parts : 250 * (0 + (length list / 250 + 1)) ≤ length list + 250
  list_parts = let whole = div-add-mod' (length list) 250 in omega (arith, whole)

  list_whole : length list < 250 * (0 + (length list / 250 + 1))
  list_whole = let whole = div-add-mod' (length list) 250 in let below : length list % 250 < 250 = mod_below (length list) 250 (omega arith) in omega (arith, whole, below)

  chunks_are_met : MeetNoObjection s [] (planned_chunks c s)
  chunks_are_met =
      meet_append s [] (planned_changes c s) (chunks_to_ask list) changes_are_met
      (chunks_meet s (planned_changes c s) list 0 (length list / 250 + 1) refl (none_yet c s may)
      (λ _. may_after s (planned_changes c s) asks.Chunk (asks.ApplyChanges (changes_of (device_changes c s))) (last_is (planned_graves c s) (asks.ApplyChanges (changes_of (device_changes c s)))) refl) list_parts)

  pushes_may : (chunk : Chunk) → may_come s (planned_chunks c s) (asks.ApplyChunk chunk) ≡ true
  pushes_may chunk =
      subst (λ (n : ℕ). may_come s (planned_changes c s ++ map (λ (part : List Row). asks.Chunk) (map (λ (k : ℕ). slice k list) (range_with_len 0 n))) (asks.ApplyChunk chunk) ≡ true) (let one : suc (length list / 250) ≡ length list / 250 + 1 = omega arith in one)
      (chunks_end s (planned_changes c s) list 0 (length list / 250) refl (none_yet c s may) list_whole chunk)

  abbrev pushed : List Row
  pushed = device_list c s may

  pushed_parts : 250 * (0 + (length pushed / 250 + 1)) ≤ length pushed + 250
  pushed_parts = let whole = div-add-mod' (length pushed) 250 in omega (arith, whole)

  pushed_whole : length pushed < 250 * (0 + (length pushed / 250 + 1))
  pushed_whole = let whole = div-add-mod' (length pushed) 250 in let below : length pushed % 250 < 250 = mod_below (length pushed) 250 (omega arith) in omega (arith, whole, below)

  push_passes : (k : ℕ) → first_objection (chunk_tests (chunk_of (slice k pushed))) ≡ None
  push_passes k =
      let part : List Row = slice k pushed in
      let keeps : chunk_rows (chunk_of part) ≡ part =
      chunk_keeps part (slice_of_three (Made rows.Review) (Made rows.Card) (Made rows.Note) pushed (chunk_rows_of Unsent (device_rows c s (planned_chunks c s)) (device_named c s may (planned_chunks c s)) (device_checked c s may (planned_chunks c s) (checked_chunks c s may))) k) in
      let own : AllByRecursion IsChecked pushed = wanted_checked c s may tables.Review tables.Card tables.Note Unsent (device_rows c s (planned_chunks c s)) (device_named c s may (planned_chunks c s)) (device_checked c s may (planned_chunks c s) (checked_chunks c s may)) in
      both_pass (nat_lt 250 (chunk_entries (chunk_of part))) TooManyRows (not (list_all is_checked (chunk_rows (chunk_of part)))) WrongRow (rows_few part keeps (slice_short k pushed))
      (ap not (ap (list_all is_checked) keeps ∙ all_true IsChecked is_checked checked_row part (part_checked pushed k own)))

  pushes_are_met : MeetNoObjection s [] (planned_pushes c s)
  pushes_are_met =
      meet_append s [] (planned_chunks c s) (rows_to_send pushed) chunks_are_met
      (pushes_meet s (planned_chunks c s) pushed 0 (length pushed / 250 + 1) (λ _. pushes_may) pushed_parts
      (all_slices (λ (part : List Row). first_objection (chunk_tests (chunk_of part)) ≡ None) pushed push_passes 0 (length pushed / 250 + 1)))

  abbrev check : Ask
  check = asks.SanityCheck2 (counts_of (device_rows c s (planned_pushes c s)))

  check_may : may_come s (planned_pushes c s) check ≡ true
  check_may =
      subst (λ (n : ℕ). may_come s (planned_chunks c s ++ map (λ (part : List Row). asks.ApplyChunk (chunk_of part)) (map (λ (k : ℕ). slice k pushed) (range_with_len 0 n))) check ≡ true) (let one : suc (length pushed / 250) ≡ length pushed / 250 + 1 = omega arith in one)
      (pushes_end s (planned_chunks c s) pushed 0 (length pushed / 250) check refl pushed_whole)

  pub all_met : MeetNoObjection s [] (planned c s)
  all_met =
      meet_append s [] (planned_check c s) (asks.Finish ∷ [])
      (meet_append s [] (planned_pushes c s) (check ∷ []) pushes_are_met (no_objection s (planned_pushes c s) check check_may refl, tt))
      (no_objection s (planned_check c s) asks.Finish (may_after s (planned_check c s) asks.Finish check (last_is (planned_pushes c s) check) refl) refl, tt)

-- what holds of each place holds of one
met_at : (s : Collection) (before xs : List Ask) (ask : Ask) (ys list : List Ask) → MeetNoObjection s before (xs ++ ask ∷ ys) → objection_to s (before ++ xs) ask ≡ None
met_at s before [] ask ys list all = ap (λ (l : List Ask). objection_to s l ask) (append-nil before) ∙ all.0
met_at s before (x ∷ xs) ask ys list all = ap (λ (l : List Ask). objection_to s l ask) (sym (append_assoc before (x ∷ []) xs)) ∙ met_at s (before ++ x ∷ []) xs ask ys list all.1

pub plans_allowed : (who : Asker) (c s : Collection) (before : List Request) (request : Request) (after : List Request) → MaySync c s → HaveRoom c s → before ++ request ∷ after ≡ plan who c s → refusal s before request ≡ None
unfolding refusal
plans_allowed who c s before request after may room is =
    met_at s [] (asks_of before) request.ask (asks_of after) [] (subst (MeetNoObjection s []) (sym (asked_place who c s before request after is)) (all_met c s may room))

-- ---- no request of a sync ends its session
abbrev GoOn : Collection → List Ask → List Ask → Type 0
GoOn s before [] = Unit {0}
GoOn s before (ask ∷ more) = (is_bad_check s before ask ≡ false) × GoOn s (before ++ ask ∷ []) more

go_append : (s : Collection) (before xs ys : List Ask) → GoOn s before xs → GoOn s (before ++ xs) ys → GoOn s before (xs ++ ys)
go_append s before [] ys one other = subst (λ (l : List Ask). GoOn s l ys) (append-nil before) other
go_append s before (x ∷ xs) ys one other =
    (one.0, go_append s (before ++ x ∷ []) xs ys one.1 (subst (λ (l : List Ask). GoOn s l ys) (sym (append_assoc before (x ∷ []) xs)) other))

each_goes : (s : Collection) (f : List Row → Ask) → ((before : List Ask) (part : List Row) → is_bad_check s before (f part) ≡ false) → (before : List Ask) (parts : List (List Row)) → GoOn s before (map f parts)
each_goes s f goes before [] = tt
each_goes s f goes before (part ∷ more) = (goes before part, each_goes s f goes (before ++ f part ∷ []) more)

all_go : (c s : Collection) → MaySync c s → IsSound (joined_under (row_under c) (row_under s)) → GoOn s [] (planned c s)
all_go c s may sound =
    go_append s [] (planned_check c s) (asks.Finish ∷ [])
    (go_append s [] (planned_pushes c s) (asks.SanityCheck2 (counts_of (device_rows c s (planned_pushes c s))) ∷ [])
    (go_append s [] (planned_chunks c s) (rows_to_send (wanted_in_chunks Unsent (device_rows c s (planned_chunks c s))))
    (go_append s [] (planned_changes c s) (chunks_to_ask (server_rows s (planned_changes c s)))
    (go_append s [] (planned_graves c s) (asks.ApplyChanges (changes_of (device_changes c s)) ∷ [])
    (go_append s [] (planned_start c) (graves_to_send (wanted_graves Unsent (device_rows c s (planned_start c)))) (refl, tt)
    (each_goes s (λ (part : List Row). asks.ApplyGraves (grave_ids part)) (λ before part. refl) (planned_start c) (filled_slices (wanted_graves Unsent (device_rows c s (planned_start c))))))
    (refl, tt))
    (each_goes s (λ (part : List Row). asks.Chunk) (λ before part. refl) (planned_changes c s) (slices_until_short (server_rows s (planned_changes c s)))))
    (each_goes s (λ (part : List Row). asks.ApplyChunk (chunk_of part)) (λ before part. refl) (planned_chunks c s) (slices_until_short (wanted_in_chunks Unsent (device_rows c s (planned_chunks c s))))))
    ((check_finds c s may).1 sound, tt))
    (refl, tt)

goes_at : (s : Collection) (before xs : List Ask) (ask : Ask) (ys : List Ask) → GoOn s before (xs ++ ask ∷ ys) → is_bad_check s (before ++ xs) ask ≡ false
goes_at s before [] ask ys all = ap (λ (l : List Ask). is_bad_check s l ask) (append-nil before) ∙ all.0
goes_at s before (x ∷ xs) ask ys all = ap (λ (l : List Ask). is_bad_check s l ask) (sym (append_assoc before (x ∷ []) xs)) ∙ goes_at s (before ++ x ∷ []) xs ask ys all.1

pub plans_go_on : (who : Asker) (c s : Collection) (before : List Request) (request : Request) (after : List Request) → MaySync c s → IsSound (joined_under (row_under c) (row_under s)) → before ++ request ∷ after ≡ plan who c s
    → ends s before request ≡ false
unfolding ends
plans_go_on who c s before request after may sound is =
    goes_at s [] (asks_of before) request.ask (asks_of after) (subst (GoOn s []) (sym (asked_place who c s before request after is)) (all_go c s may sound))

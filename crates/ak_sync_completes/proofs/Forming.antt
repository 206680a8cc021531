-- What a server gives in a sync has the form of what was asked.
use Rattle.std.specs.FinMap.{get}
use Rattle.std.specs.List.{AllByRecursion, list_all}
use Rattle.std.specs.Option.{option_map, option_map_or}
use Rattle.std.specs.Prelude.{◌≡◌, ◌==◌, ◌&&◌, ◌||◌, ◌≤◌, ◌*◌, ℕ, ℤ, pos, not, nat_le, nat_lt, int_lt, is_some, if◌then◌else◌, Bool, true, false, List, [], ◌∷◌, ◌++◌, map, filter, length, drop, Option, Some, None}
use Rattle.std.proofs.Common.{refl, sym, ap, subst, ◌∙◌, arith, append_assoc}
use Rattle.std.proofs.lemmas.List.{length-append, length-map}
use Rattle.std.proofs.lemmas.List.Elements.{recursion_from_All}
use Rattle.std.proofs.lemmas.List.Folds.{list_all-append}
use Rattle.ak_base.specs.Limits.{last_head_usn, last_moment, last_stamp}
use Rattle.ak_base.specs.Heads.{IsHeadInRange, is_tag_name}
use Rattle.ak_base.specs.Names.{table_place}
use Rattle.ak_base.specs.Rows.{IsChecked, name_of}
use Rattle.ak_base.specs.declared.heads.Head.{Head}
use Rattle.ak_base.specs.declared.names.Name.{Name}
use Rattle.ak_base.specs.declared.names.Table.{Table}
use Rattle.ak_base.specs.declared.names.Table.TheVariants as tables
use Rattle.ak_base.specs.declared.rows.Row.{Row}
use Rattle.ak_base.specs.declared.rows.Row.TheVariants as rows
use Rattle.ak_exchange.specs.Grants.{is_in_form}
use Rattle.ak_keep.specs.Collections.{Collection, Rows}
use Rattle.ak_keep.specs.declared.keepers.Wanted.TheVariants.{From, Unsent}
use Rattle.ak_merge.proofs.FaultLaws.{first_fault_is_least}
use Rattle.ak_merge.proofs.TagLists.{wanted_in_range}
use Rattle.ak_merge.specs.Commits.{Received}
use Rattle.ak_merge.specs.Exchanges.{settings_given, wanted_tags}
use Rattle.ak_merge.specs.Holdings.{AreChecked, AreNamed, name_in}
use Rattle.ak_merge.specs.Soundness.{IsFault, fault_id, first_fault}
use Rattle.ak_merge.specs.Tags.{IsTagName}
use Rattle.ak_merge.specs.declared.checks.CheckFault.{CheckFault}
use Rattle.ak_merge.specs.declared.checks.CheckFault.TheVariants as faults
use Rattle.ak_messages.specs.MessageForms.{chunk_entries, no_counts}
use Rattle.ak_messages.specs.declared.replies.Give.TheVariants as gives
use Rattle.ak_messages.specs.declared.requests.Ask.{Ask}
use Rattle.ak_messages.specs.declared.requests.Ask.TheVariants as asks
use Rattle.ak_messages.specs.declared.requests.Changes.{Changes}
use Rattle.ak_messages.specs.declared.requests.Chunk.{Chunk}
use Rattle.ak_messages.specs.declared.requests.GraveIds.{GraveIds}
use Rattle.ak_messages.specs.declared.requests.SanityCounts.{SanityCounts}
use Rattle.ak_protocol.specs.Replies.{meta_reply}
use Rattle.ak_sync_completes.proofs.Graves.{checked_id}
use Rattle.ak_session.proofs.Accepting.{all_true, between, checked_row, conf_fits, named_tag, rows_few, slice_short}
use Rattle.ak_session.proofs.InOrder.{Made, all_drop, all_take, changes_keep, chunk_keeps}
use Rattle.ak_session.proofs.MessageLaws.{front_checked}
use Rattle.ak_session.proofs.Ranges.{all_append, not_both}
use Rattle.ak_session.proofs.Sums.{change_rows_of, changes_given, chunk_rows_of, fold_checked, fold_named, graves_checked, slice_of_three, wanted_checked}
use Rattle.ak_session.specs.Answers.{answer_to, chunk_count, counts_of, is_good, same_counts, sanity_reply, server_changes, server_rows}
use Rattle.ak_session.specs.Asks.{fold_of, least_usn}
use Rattle.ak_session.specs.Messages.{change_rows, changes_of, chunk_of, chunk_rows, grave_ids, ids_in, newer_of}
use Rattle.ak_session.specs.Plans.{chunks_to_ask, device_changes, device_rows, graves_to_send, planned, planned_changes, planned_chunks, planned_graves, planned_pushes, planned_start, rows_to_send}
use Rattle.ak_session.specs.Refusals.{are_changes_in_range, is_checked, is_id, is_newer_in_range}
use Rattle.ak_session.specs.Requests.{asks_commit, is_download, is_meta}
use Rattle.ak_session.specs.Sessions.{MaySync}
use Rattle.ak_session.specs.Slices.{slice, filled_slices, slices_until_short, wanted_changes, wanted_graves, wanted_in_chunks}
use Rattle.ak_client_wire.specs.Forms.{is_chunk_in_form, is_meta_in_range, verdict_in}

-- what passes its test is in its form
pub formed : {X : Type 0} (b : Bool) (x : X) → b ≡ true → is_some (if b then Some x else None) ≡ true
formed true x is = refl
formed false x is = is

-- ---- graves
ids_fit : (table : Table) (list : List Row) → AllByRecursion IsChecked list → list_all is_id (ids_in table list) ≡ true
ids_fit table [] all = refl
ids_fit table (row ∷ more) all =
    elim (table_place (name_of row).table == table_place table) as (λ b. list_all is_id (map (λ (r : Row). (name_of r).id)
    (if b then row ∷ filter (λ (r : Row). table_place (name_of r).table == table_place table) more else filter (λ (r : Row). table_place (name_of r).table == table_place table) more)) ≡ true) [
      | true ↦ rw (checked_id row all.0) (ids_fit table more all.1)
      | false ↦ ids_fit table more all.1
    ]

start_fits : (usn moment : ℤ) (list : List Row) → AllByRecursion IsChecked list → is_in_form (asks.Start usn moment) (gives.Graves (grave_ids list)) ≡ true
start_fits usn moment list all =
    formed (list_all is_id ((grave_ids list).cards ++ ((grave_ids list).notes ++ (grave_ids list).decks))) (grave_ids list)
    (list_all-append is_id (ids_in tables.CardGrave list) (ids_in tables.NoteGrave list ++ ids_in tables.DeckGrave list)
    ∙ ap (λ (b : Bool). list_all is_id (ids_in tables.CardGrave list) && b) (list_all-append is_id (ids_in tables.NoteGrave list) (ids_in tables.DeckGrave list))
    ∙ rw (ids_fit tables.CardGrave list all, ids_fit tables.NoteGrave list all, ids_fit tables.DeckGrave list all) refl)

-- ---- chunks
part_checked : (k : ℕ) (list : List Row) → AllByRecursion IsChecked list → AllByRecursion IsChecked (slice k list)
part_checked k list all = all_take IsChecked 250 (drop (250 * k) list) (all_drop IsChecked (250 * k) list all)

not_over : (n : ℕ) → nat_lt 250 n ≡ false → nat_le n 250 ≡ true
not_over n is = grind (arith, is)

-- a chunk has as many entries as the rows that it is of
entries_are : (list : List Row) → chunk_rows (chunk_of list) ≡ list → chunk_entries (chunk_of list) ≡ length list
entries_are list keeps =
    let one = length-append (map rows.Review (chunk_of list).reviews) (map rows.Card (chunk_of list).cards ++ map rows.Note (chunk_of list).notes) in
    let two = length-append (map rows.Card (chunk_of list).cards) (map rows.Note (chunk_of list).notes) in
    let a = length-map (chunk_of list).reviews rows.Review in
    let b = length-map (chunk_of list).cards rows.Card in
    let d = length-map (chunk_of list).notes rows.Note in
    let same : length (chunk_rows (chunk_of list)) ≡ length list = ap length keeps in
    omega (arith, one, two, a, b, d, same)

chunk_fits : (list : List Row) → chunk_rows (chunk_of list) ≡ list → length list ≤ 250 → AllByRecursion IsChecked list → is_in_form asks.Chunk (gives.Chunk (chunk_of list)) ≡ true
chunk_fits list keeps short all =
    let few : nat_le (chunk_entries (chunk_of list)) 250 ≡ true = not_over (chunk_entries (chunk_of list)) (rows_few list keeps short) in
    let rows_fit : list_all is_checked (chunk_rows (chunk_of list)) ≡ true = ap (list_all is_checked) keeps ∙ all_true IsChecked is_checked checked_row list all in
    formed (is_chunk_in_form (chunk_of list)) (chunk_of list) (rw (few, rows_fit) (some_or_done (nat_lt (length list) 250) refl))
  where
    some_or_done : (b : Bool) → nat_lt (length list) 250 ≡ b → (b || nat_lt 0 (chunk_entries (chunk_of list))) ≡ true
    some_or_done true is = refl
    some_or_done false is = let whole = entries_are list keeps in grind (arith, is, whole)

-- ---- a sanity check
stood : (held : Rows) → AreNamed (get held) → AreChecked (get held) → (table : Table) (id : ℤ) (row : Row) → get held (name_in table id) ≡ Some row → is_id id ≡ true
stood held named checked table id row at =
    ap (λ (name : Name). is_id name.id) (sym (named (name_in table id) row at)) ∙ checked_id row (checked (name_in table id) row at)

fault_fits : (held : Rows) → AreNamed (get held) → AreChecked (get held) → (fault : CheckFault) → IsFault (get held) fault → is_id (fault_id fault) ≡ true
fault_fits held named checked (faults.CardNoNote id) (card, stands, none) = stood held named checked tables.Card id (rows.Card card) stands
fault_fits held named checked (faults.NoteNoCard id) (note, stands, none) = stood held named checked tables.Note id (rows.Note note) stands
fault_fits held named checked (faults.NoteNoType id) (note, stands, none) = stood held named checked tables.Note id (rows.Note note) stands
fault_fits held named checked (faults.CardNoTemplate id) found = stood held named checked tables.Card id (rows.Card found.0) found.3

check_fits : (held : Rows) (counts : SanityCounts) → AreNamed (get held) → AreChecked (get held) → is_in_form (asks.SanityCheck2 counts) (gives.Sanity (sanity_reply held counts)) ≡ true
check_fits held counts named checked = by (is_good held counts) refl
  where
    found : (o : Option CheckFault) → first_fault held ≡ o → option_map_or (λ (fault : CheckFault). is_id (fault_id fault)) o true ≡ true
    found None is = refl
    found (Some fault) is = fault_fits held named checked fault (first_fault_is_least held fault named checked is).holds

    cause : (some same : Bool) → (not some && same) ≡ false → (some || not same) ≡ true
    cause true same is = refl
    cause false false is = refl
    cause false true is = grind (arith, is)

    by : (b : Bool) → is_good held counts ≡ b
        → is_some (verdict_in (gives.Sanity (if b then record { good = true; fault = None; client = no_counts; server = no_counts }
        else record { good = false; fault = first_fault held; client = counts; server = counts_of held }))) ≡ true
    by true is = refl
    by false is =
        let id_fits : option_map_or (λ (fault : CheckFault). is_id (fault_id fault)) (first_fault held) true ≡ true = found (first_fault held) refl in
        let shown : (is_some (first_fault held) || not (same_counts counts (counts_of held))) ≡ true = cause (is_some (first_fault held)) (same_counts counts (counts_of held)) is in
        rw (id_fits, shown) refl

-- ---- changes
given_settings_fit : (device server : Head) → IsHeadInRange server → option_map_or is_newer_in_range (option_map newer_of (settings_given device server)) true ≡ true
given_settings_fit device server own =
    elim (int_lt server.moment device.moment) as (λ b. option_map_or is_newer_in_range (option_map newer_of (if b then None else Some (record { conf = server.conf; crt = server.crt }))) true ≡ true) [
      | true ↦ refl
      | false ↦ rw (conf_fits server.conf own.conf, between (pos 0) last_stamp server.crt own.crt) refl
    ]

changes_fit : (c s : Collection) (changes : Changes) → MaySync c s → is_in_form (asks.ApplyChanges changes) (gives.Changes (changes_of (server_changes s (planned_graves c s)))) ≡ true
changes_fit c s changes may =
    let held : Rows = (fold_of s (planned_graves c s)).rows in
    let named = fold_named c s may (planned_graves c s) in
    let checked = fold_checked c s may (planned_graves c s) (graves_checked c s may) in
    let came : Received = record { rows = wanted_changes (From c.head.usn) held; tags = wanted_tags (From c.head.usn) s.head.tags; settings = settings_given c.head s.head } in
    let rows_fit : list_all is_checked (change_rows (changes_of came)) ≡ true =
    ap (list_all is_checked) (changes_keep came (change_rows_of (From c.head.usn) held named checked))
    ∙ all_true IsChecked is_checked checked_row (wanted_changes (From c.head.usn) held) (wanted_checked c s may tables.NoteType tables.Deck tables.Options (From c.head.usn) held named checked) in
    let tags_fit : list_all is_tag_name (wanted_tags (From c.head.usn) s.head.tags) ≡ true =
    all_true IsTagName is_tag_name named_tag (wanted_tags (From c.head.usn) s.head.tags)
    (recursion_from_All IsTagName (wanted_tags (From c.head.usn) s.head.tags) (wanted_in_range (From c.head.usn) s.head.tags may.committed.head.tags)) in
    let newer_fits = given_settings_fit c.head s.head may.committed.head in
    ap (λ (r : Received). is_in_form (asks.ApplyChanges changes) (gives.Changes (changes_of r))) (changes_given c s may)
    ∙ formed (are_changes_in_range (changes_of came)) (changes_of came) (rw (rows_fit, tags_fit, newer_fits) refl)

-- ---- where the changes and the check stand
abbrev is_changes : Ask → Bool
is_changes (asks.ApplyChanges changes) = true
is_changes ask = false

abbrev pub is_check : Ask → Bool
is_check (asks.SanityCheck2 counts) = true
is_check ask = false

abbrev AreOthers : (Ask → Bool) → List Ask → Type 0
AreOthers test list = AllByRecursion (λ (ask : Ask). test ask ≡ false) list

all_at : (test : Ask → Bool) (xs : List Ask) (ask : Ask) (ys : List Ask) → AreOthers test (xs ++ ask ∷ ys) → test ask ≡ false
all_at test [] ask ys all = all.0
all_at test (x ∷ xs) ask ys all = all_at test xs ask ys all.1

-- the parts of two lists that are one
parts_of : (a : Ask) (xs : List Ask) (b : Ask) (ys : List Ask) → a ∷ xs ≡ b ∷ ys → (a ≡ b) × (xs ≡ ys)
parts_of a xs b ys is = (grind (arith, is), grind (arith, is))

-- what passes a test that the others do not pass stands at the one place
only_place : (test : Ask → Bool) (xs ys : List Ask) (x : Ask) (before rest : List Ask) (ask : Ask) → AreOthers test xs → AreOthers test ys → test ask ≡ true
    → before ++ ask ∷ rest ≡ xs ++ x ∷ ys → (before ≡ xs) × (ask ≡ x)
only_place test [] ys x [] rest ask one two is same = (refl, (parts_of ask rest x ys same).0)
only_place test [] ys x (b ∷ before) rest ask one two is same =
    absurd (not_both is (all_at test before ask rest (subst (AreOthers test) (sym (parts_of b (before ++ ask ∷ rest) x ys same).1) two)))
only_place test (x' ∷ xs) ys x [] rest ask one two is same =
    absurd (not_both (sym (ap test (parts_of ask rest x' (xs ++ x ∷ ys) same).0) ∙ is) one.0)
only_place test (x' ∷ xs) ys x (b ∷ before) rest ask one two is same =
    let both = parts_of b (before ++ ask ∷ rest) x' (xs ++ x ∷ ys) same in
    let later = only_place test xs ys x before rest ask one.1 two is both.1 in
    (ap (λ (l : List Ask). b ∷ l) later.0 ∙ ap (λ (a : Ask). a ∷ xs) both.0, later.1)

others_each : (test : Ask → Bool) (f : List Row → Ask) → ((part : List Row) → test (f part) ≡ false) → (parts : List (List Row)) → AreOthers test (map f parts)
others_each test f other [] = tt
others_each test f other (part ∷ parts) = (other part, others_each test f other parts)

module _ (c s : Collection) where
  abbrev graves : List Row
  graves = wanted_graves Unsent (device_rows c s (planned_start c))

  abbrev changes : Ask
  changes = asks.ApplyChanges (changes_of (device_changes c s))

  abbrev chunks : List Ask
  chunks = chunks_to_ask (server_rows s (planned_changes c s))

  abbrev pushes : List Ask
  pushes = rows_to_send (wanted_in_chunks Unsent (device_rows c s (planned_chunks c s)))

  abbrev check : Ask
  check = asks.SanityCheck2 (counts_of (device_rows c s (planned_pushes c s)))

  abbrev last : List Ask
  last = check ∷ asks.Finish ∷ []

  -- the parts of a plan before its changes, and after them, up to the check
  others_before : (test : Ask → Bool) → ((usn moment : ℤ) → test (asks.Start usn moment) ≡ false) → ((ids : GraveIds) → test (asks.ApplyGraves ids) ≡ false)
      → AreOthers test (planned_graves c s)
  others_before test start each =
      all_append (λ (ask : Ask). test ask ≡ false) (planned_start c) (graves_to_send graves) (start c.head.usn c.head.moment, tt)
      (others_each test (λ (part : List Row). asks.ApplyGraves (grave_ids part)) (λ part. each (grave_ids part)) (filled_slices graves))

  others_chunked : (test : Ask → Bool) → test asks.Chunk ≡ false → ((chunk : Chunk) → test (asks.ApplyChunk chunk) ≡ false) → AreOthers test (chunks ++ pushes)
  others_chunked test asked sent =
      all_append (λ (ask : Ask). test ask ≡ false) chunks pushes
      (others_each test (λ (part : List Row). asks.Chunk) (λ part. asked) (slices_until_short (server_rows s (planned_changes c s))))
      (others_each test (λ (part : List Row). asks.ApplyChunk (chunk_of part)) (λ part. sent (chunk_of part))
      (slices_until_short (wanted_in_chunks Unsent (device_rows c s (planned_chunks c s)))))

  -- the changes of a plan come after its graves
  changes_place : (before rest : List Ask) (ask : Ask) → is_changes ask ≡ true → before ++ ask ∷ rest ≡ planned c s → before ≡ planned_graves c s
  changes_place before rest ask is place =
      (only_place is_changes (planned_graves c s) ((chunks ++ pushes) ++ last) changes before rest ask
      (others_before is_changes (λ usn moment. refl) (λ ids. refl))
      (all_append (λ (other : Ask). is_changes other ≡ false) (chunks ++ pushes) last (others_chunked is_changes refl (λ chunk. refl)) (refl, (refl, tt)))
      is
      (place
      ∙ append_assoc (planned_pushes c s) (check ∷ []) (asks.Finish ∷ [])
      ∙ append_assoc (planned_chunks c s) pushes last
      ∙ append_assoc (planned_changes c s) chunks (pushes ++ last)
      ∙ ap (λ (l : List Ask). planned_changes c s ++ l) (sym (append_assoc chunks pushes last))
      ∙ append_assoc (planned_graves c s) (changes ∷ []) ((chunks ++ pushes) ++ last))).0

  -- its check comes after all that the device sends, with the device's counts
  pub check_place : (before rest : List Ask) (ask : Ask) → is_check ask ≡ true → before ++ ask ∷ rest ≡ planned c s → (before ≡ planned_pushes c s) × (ask ≡ check)
  check_place before rest ask is place =
      only_place is_check (planned_pushes c s) (asks.Finish ∷ []) check before rest ask
      (subst (AreOthers is_check)
      (sym (append_assoc (planned_changes c s) chunks pushes ∙ append_assoc (planned_graves c s) (changes ∷ []) (chunks ++ pushes)))
      (all_append (λ (other : Ask). is_check other ≡ false) (planned_graves c s) (changes ∷ (chunks ++ pushes))
      (others_before is_check (λ usn moment. refl) (λ ids. refl)) (refl, others_chunked is_check refl (λ chunk. refl))))
      (refl, tt) is (place ∙ append_assoc (planned_pushes c s) (check ∷ []) (asks.Finish ∷ []))

-- ---- an answer
-- what a server gives for what a sync asks has the form of that
pub answers_fit : (c s : Collection) (before rest : List Ask) (ask : Ask) → MaySync c s → before ++ ask ∷ rest ≡ planned c s
    → is_meta ask ≡ false → is_download ask ≡ false → asks_commit ask ≡ false → is_in_form ask (answer_to s before ask) ≡ true
answers_fit c s before rest ask may place later reads plain = by ask place later reads plain
  where
    by : (a : Ask) → before ++ a ∷ rest ≡ planned c s → is_meta a ≡ false → is_download a ≡ false → asks_commit a ≡ false → is_in_form a (answer_to s before a) ≡ true
    by asks.Meta at meta down commit = absurd (not_both refl meta)
    by (asks.Start usn moment) at meta down commit =
        start_fits usn moment (wanted_graves (From usn) (fold_of s before).rows)
        (wanted_checked c s may tables.NoteGrave tables.CardGrave tables.DeckGrave (From usn) (fold_of s before).rows (fold_named c s may before)
        (fold_checked c s may before (front_checked c s may before (asks.Start usn moment ∷ rest) at)))
    by (asks.ApplyGraves ids) at meta down commit = refl
    by (asks.ApplyChanges changes) at meta down commit =
        ap (λ (l : List Ask). is_in_form (asks.ApplyChanges changes) (answer_to s l (asks.ApplyChanges changes))) (changes_place c s before rest (asks.ApplyChanges changes) refl at)
        ∙ changes_fit c s changes may
    by asks.Chunk at meta down commit =
        let list : List Row = server_rows s before in
        let checked = fold_checked c s may before (front_checked c s may before (asks.Chunk ∷ rest) at) in
        let own : AllByRecursion IsChecked list =
        wanted_checked c s may tables.Review tables.Card tables.Note (From (least_usn before)) (fold_of s before).rows (fold_named c s may before) checked in
        chunk_fits (slice (chunk_count before) list)
        (chunk_keeps (slice (chunk_count before) list) (slice_of_three (Made rows.Review) (Made rows.Card) (Made rows.Note) list
        (chunk_rows_of (From (least_usn before)) (fold_of s before).rows (fold_named c s may before) checked) (chunk_count before)))
        (slice_short (chunk_count before) list) (part_checked (chunk_count before) list own)
    by (asks.ApplyChunk chunk) at meta down commit = refl
    by (asks.SanityCheck2 counts) at meta down commit =
        check_fits (fold_of s before).rows counts (fold_named c s may before)
        (fold_checked c s may before (front_checked c s may before (asks.SanityCheck2 counts ∷ rest) at))
    by asks.Finish at meta down commit = absurd (not_both refl commit)
    by (asks.Upload whole) at meta down commit = absurd (not_both refl commit)
    by asks.Download at meta down commit = absurd (not_both refl down)

-- ---- the meta
-- a meta over a committed collection is in its ranges
pub metas_fit : (head : Head) (now : ℤ) → IsHeadInRange head → is_meta_in_range (meta_reply head now) ≡ true
metas_fit head now own =
    rw (between (pos 0) last_moment head.schema own.schema, between (pos 0) last_moment head.moment own.moment, between (pos 0) last_head_usn head.usn own.usn) refl

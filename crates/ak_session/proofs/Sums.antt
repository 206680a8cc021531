-- What the requests of a plan bring, and what they are given, part by part.
use Rattle.std.specs.Prelude.{◌≡◌, ℕ, zero, suc, ◌+◌, ◌/◌, ℤ, pos, negsuc, ◌≤ℤ◌, int_lt, if◌then◌else◌, IsTrue, List, [], ◌∷◌, ◌++◌, ◌*◌, map, length, drop, Option, Some, None}
use Rattle.std.specs.Cmp.{signed_Decides}
use Rattle.std.specs.FinMap.{get}
use Rattle.std.specs.Int.{div_ceil}
use Rattle.std.specs.List.{AllByRecursion, range_with_len}
use Rattle.std.specs.Option.{option_map}
use Rattle.std.proofs.Common.{refl, sym, ap, subst, ◌∙◌, append_assoc, arith}
use Rattle.std.proofs.lemmas.Int.{ints}
use Rattle.std.proofs.lemmas.List.{append-nil}
use Rattle.std.proofs.lemmas.List.Elements.{All-from_recursion}
use Rattle.ak_base.specs.Heads.{IsWithin}
use Rattle.ak_base.specs.Limits.{last_usn}
use Rattle.ak_base.specs.Rows.{IsChecked, usn_of, with_usn}
use Rattle.ak_base.specs.declared.names.Table.{Table}
use Rattle.ak_base.specs.declared.names.Table.TheVariants as tables
use Rattle.ak_base.specs.declared.rows.Row.{Row}
use Rattle.ak_base.specs.declared.rows.Row.TheVariants as rows
use Rattle.ak_keep.specs.Collections.{Rows, Collection, is_pending}
use Rattle.ak_keep.specs.declared.keepers.Wanted.{Wanted}
use Rattle.ak_keep.specs.declared.keepers.Wanted.TheVariants.{Unsent, From}
use Rattle.ak_merge.proofs.Settling.{taken_named, taken_checked}
use Rattle.ak_merge.specs.Commits.{Settings, Received, settings_of, with_received}
use Rattle.ak_merge.specs.Exchanges.{wanted_tags, settings_sent, settings_given}
use Rattle.ak_merge.specs.Holdings.{AreNamed, AreChecked}
use Rattle.ak_merge.specs.Takings.{all_taken}
use Rattle.ak_messages.specs.declared.requests.Ask.{Ask}
use Rattle.ak_messages.specs.declared.requests.Ask.TheVariants as asks
use Rattle.ak_session.specs.Answers.{server_changes, server_rows, chunk_count, given_after, all_given, counts_of}
use Rattle.ak_session.specs.Asks.{least_usn, nothing, brought, and_then, all_brought, fold_of}
use Rattle.ak_session.specs.Messages.{grave_ids, graves_from, chunk_of, chunk_rows, changes_of, settings_in, newer_of}
use Rattle.ak_session.specs.Plans.{device_rows, device_changes, graves_to_send, chunks_to_ask, rows_to_send, planned_start, planned_graves, planned_changes, planned_chunks, planned_pushes, given_by_sync, sent_by_sync}
use Rattle.ak_session.specs.Sessions.{MaySync}
use Rattle.ak_session.specs.Slices.{wanted_of, wanted_graves, wanted_changes, wanted_in_chunks, slice, joined_parts, filled_slices, slices_until_short}
use Rattle.ak_session.proofs.Folds.{fold_takes_all, fold_append}
use Rattle.ak_session.proofs.InOrder.{unsent, InThree, three_taken, three_dropped, Made, IsGraveIn, chunk_keeps, changes_keep, is_review, is_card, is_note, is_type, is_deck, are_options, graves_keep}
use Rattle.ak_session.proofs.Ranges.{all_append}
use Rattle.ak_session.proofs.Slices.{filled_slices_are_all, slices_until_short_are_all}
use Rattle.ak_session.proofs.Steps.{or_none, nothing_first, nothing_last, brought_append, given_append, given_more, count_append, chunks_are_counted, number_stays}
use Rattle.ak_session.proofs.Wanted.{Stands, three_stand, three_weaker, all_of_three}
use Rattle.ak_merge.specs.declared.sides.Side.TheVariants.{Device, Server}

-- ---- parts of one kind
abbrev pub came_of : List Row → List (List ℕ) → Option Settings → Received
came_of rows tags settings = record { rows = rows; tags = tags; settings = settings }

abbrev pub rows_only : List Row → Received
rows_only list = came_of list [] None

-- the slices of a list that each have a property
pub all_slices : (P : List Row → Type 0) (list : List Row) → ((k : ℕ) → P (slice k list)) → (a n : ℕ) → AllByRecursion P (map (λ (k : ℕ). slice k list) (range_with_len a n))
all_slices P list each a zero = tt
all_slices P list each a (suc n) = (each a, all_slices P list each (a + 1) n)

graves_brought : (parts : List (List Row)) → AllByRecursion (λ (part : List Row). graves_from (grave_ids part) ≡ part) parts
    → all_brought (map (λ (part : List Row). asks.ApplyGraves (grave_ids part)) parts) ≡ rows_only (joined_parts parts)
graves_brought [] all = refl
graves_brought (part ∷ more) all =
    ap (λ (l : List Row). and_then (rows_only l) (all_brought (map (λ (part : List Row). asks.ApplyGraves (grave_ids part)) more))) all.0
    ∙ ap (and_then (rows_only part)) (graves_brought more all.1)

rows_brought : (parts : List (List Row)) → AllByRecursion (λ (part : List Row). chunk_rows (chunk_of part) ≡ part) parts
    → all_brought (map (λ (part : List Row). asks.ApplyChunk (chunk_of part)) parts) ≡ rows_only (joined_parts parts)
rows_brought [] all = refl
rows_brought (part ∷ more) all =
    ap (λ (l : List Row). and_then (rows_only l) (all_brought (map (λ (part : List Row). asks.ApplyChunk (chunk_of part)) more))) all.0
    ∙ ap (and_then (rows_only part)) (rows_brought more all.1)

chunks_bring_nothing : (parts : List (List Row)) → all_brought (map (λ (part : List Row). asks.Chunk) parts) ≡ nothing
chunks_bring_nothing [] = refl
chunks_bring_nothing (part ∷ more) = nothing_first (all_brought (map (λ (part : List Row). asks.Chunk) more)) ∙ chunks_bring_nothing more

graves_give_nothing : (s : Collection) (before : List Ask) (parts : List (List Row)) → given_after s before (map (λ (part : List Row). asks.ApplyGraves (grave_ids part)) parts) ≡ nothing
graves_give_nothing s before [] = refl
graves_give_nothing s before (part ∷ more) =
    nothing_first (given_after s (before ++ asks.ApplyGraves (grave_ids part) ∷ []) (map (λ (part : List Row). asks.ApplyGraves (grave_ids part)) more))
    ∙ graves_give_nothing s (before ++ asks.ApplyGraves (grave_ids part) ∷ []) more

rows_give_nothing : (s : Collection) (before : List Ask) (parts : List (List Row)) → given_after s before (map (λ (part : List Row). asks.ApplyChunk (chunk_of part)) parts) ≡ nothing
rows_give_nothing s before [] = refl
rows_give_nothing s before (part ∷ more) =
    nothing_first (given_after s (before ++ asks.ApplyChunk (chunk_of part) ∷ []) (map (λ (part : List Row). asks.ApplyChunk (chunk_of part)) more))
    ∙ rows_give_nothing s (before ++ asks.ApplyChunk (chunk_of part) ∷ []) more

pub no_chunks : (parts : List (List Row)) → chunk_count (map (λ (part : List Row). asks.ApplyGraves (grave_ids part)) parts) ≡ 0
no_chunks [] = refl
no_chunks (part ∷ more) = no_chunks more

-- one chunk more leaves the number that the start tells, and the server's list
number_kept : (before : List Ask) → least_usn (before ++ asks.Chunk ∷ []) ≡ least_usn before
number_kept [] = refl
number_kept (first ∷ more) = number_stays first more asks.Chunk

pub list_kept : (s : Collection) (before : List Ask) → server_rows s (before ++ asks.Chunk ∷ []) ≡ server_rows s before
list_kept s before =
    ap (λ (n : ℤ). wanted_in_chunks (From n) (fold_of s (before ++ asks.Chunk ∷ [])).rows) (number_kept before)
    ∙ ap (λ (held : Collection). wanted_in_chunks (From (least_usn before)) held.rows) (fold_append s before (asks.Chunk ∷ []))

chunks_given : (s : Collection) (before : List Ask) (list : List Row) (a n : ℕ) → server_rows s before ≡ list → chunk_count before ≡ a
    → given_after s before (map (λ (part : List Row). asks.Chunk) (map (λ (k : ℕ). slice k list) (range_with_len a n))) ≡ rows_only (joined_parts (map (λ (k : ℕ). slice k list) (range_with_len a n)))
chunks_given s before list a zero is count = refl
chunks_given s before list a (suc n) is count =
    let more : List Ask = map (λ (part : List Row). asks.Chunk) (map (λ (k : ℕ). slice k list) (range_with_len (a + 1) n)) in
    ap (λ (k : ℕ). and_then (rows_only (slice k (server_rows s before))) (given_after s (before ++ asks.Chunk ∷ []) more)) count
    ∙ ap (λ (l : List Row). and_then (rows_only (slice a l)) (given_after s (before ++ asks.Chunk ∷ []) more)) is
    ∙ ap (and_then (rows_only (slice a list))) (chunks_given s (before ++ asks.Chunk ∷ []) list (a + 1) n (list_kept s before ∙ is) (chunks_are_counted before asks.Chunk ∙ ap (λ (k : ℕ). k + 1) count))

pub settings_back : (o : Option Settings) → option_map settings_in (option_map newer_of o) ≡ o
settings_back None = refl
settings_back (Some s) = refl

-- ---- rows that travel
own_usn : (row : Row) → with_usn row (usn_of row) ≡ row
own_usn (rows.Note n) = refl
own_usn (rows.Card c) = refl
own_usn (rows.Review r) = refl
own_usn (rows.NoteType t) = refl
own_usn (rows.Deck d) = refl
own_usn (rows.Options o) = refl
own_usn (rows.Grave g) = refl

-- a row that was not sent yet is as it was before it was sent
unsent_same : (row : Row) → IsTrue (is_pending row) → unsent row ≡ row
unsent_same row pending = let one : usn_of row ≡ negsuc 0 = (signed_Decides (usn_of row) (negsuc 0)).0 pending in ap (with_usn row) (sym one) ∙ own_usn row

map_same : (list : List Row) → AllByRecursion (λ (row : Row). unsent row ≡ row) list → map unsent list ≡ list
map_same [] all = refl
map_same (row ∷ more) all = ap (λ (r : Row). r ∷ map unsent more) all.0 ∙ ap (λ (l : List Row). row ∷ l) (map_same more all.1)

-- a grave of this table that was not sent yet
abbrev pub IsUnsentIn : Table → Row → Type 0
IsUnsentIn graves row = IsGraveIn graves row × (unsent row ≡ row)

abbrev pub AreUnsentGraves : List Row → Type 0
AreUnsentGraves = InThree (IsUnsentIn tables.NoteGrave) (IsUnsentIn tables.CardGrave) (IsUnsentIn tables.DeckGrave)

abbrev pub AreGraves : List Row → Type 0
AreGraves = InThree (IsGraveIn tables.NoteGrave) (IsGraveIn tables.CardGrave) (IsGraveIn tables.DeckGrave)

abbrev pub AreChunkRows : List Row → Type 0
AreChunkRows = InThree (Made rows.Review) (Made rows.Card) (Made rows.Note)

abbrev pub AreChangeRows : List Row → Type 0
AreChangeRows = InThree (Made rows.NoteType) (Made rows.Deck) (Made rows.Options)

pub unsent_graves_keep : (list : List Row) → AreUnsentGraves list → graves_from (grave_ids list) ≡ list
unsent_graves_keep list three =
    graves_keep list (three_weaker (IsUnsentIn tables.NoteGrave) (IsUnsentIn tables.CardGrave) (IsUnsentIn tables.DeckGrave) (IsGraveIn tables.NoteGrave) (IsGraveIn tables.CardGrave) (IsGraveIn tables.DeckGrave)
    (λ row own. own.0) (λ row own. own.0) (λ row own. own.0) list three)
    ∙ map_same list (all_of_three (λ (row : Row). unsent row ≡ row) list
    (three_weaker (IsUnsentIn tables.NoteGrave) (IsUnsentIn tables.CardGrave) (IsUnsentIn tables.DeckGrave) (λ (row : Row). unsent row ≡ row) (λ (row : Row). unsent row ≡ row) (λ (row : Row). unsent row ≡ row)
    (λ row own. own.1) (λ row own. own.1) (λ row own. own.1) list three))

-- what holds of rows of three kinds holds of their slices
pub slice_of_three : (P Q R : Row → Type 0) (list : List Row) → InThree P Q R list → (k : ℕ) → InThree P Q R (slice k list)
slice_of_three P Q R list three k = three_taken P Q R 250 (drop (250 * k) list) (three_dropped P Q R (250 * k) list three)

pub graves_of : (want : Wanted) (held : Rows) → AreNamed (get held) → AreChecked (get held) → AreGraves (wanted_graves want held)
graves_of want held named checked =
    three_weaker (Stands tables.NoteGrave want held) (Stands tables.CardGrave want held) (Stands tables.DeckGrave want held) (IsGraveIn tables.NoteGrave) (IsGraveIn tables.CardGrave) (IsGraveIn tables.DeckGrave)
    (λ row own. record { of_table = own.of_table; checked = own.checked }) (λ row own. record { of_table = own.of_table; checked = own.checked }) (λ row own. record { of_table = own.of_table; checked = own.checked })
    (wanted_graves want held) (three_stand tables.NoteGrave tables.CardGrave tables.DeckGrave want held named checked)

pub unsent_graves_of : (held : Rows) → AreNamed (get held) → AreChecked (get held) → AreUnsentGraves (wanted_graves Unsent held)
unsent_graves_of held named checked =
    three_weaker (Stands tables.NoteGrave Unsent held) (Stands tables.CardGrave Unsent held) (Stands tables.DeckGrave Unsent held) (IsUnsentIn tables.NoteGrave) (IsUnsentIn tables.CardGrave) (IsUnsentIn tables.DeckGrave)
    (λ row own. (record { of_table = own.of_table; checked = own.checked }, unsent_same row own.wanted))
    (λ row own. (record { of_table = own.of_table; checked = own.checked }, unsent_same row own.wanted))
    (λ row own. (record { of_table = own.of_table; checked = own.checked }, unsent_same row own.wanted))
    (wanted_graves Unsent held) (three_stand tables.NoteGrave tables.CardGrave tables.DeckGrave Unsent held named checked)

pub chunk_rows_of : (want : Wanted) (held : Rows) → AreNamed (get held) → AreChecked (get held) → AreChunkRows (wanted_in_chunks want held)
chunk_rows_of want held named checked =
    three_weaker (Stands tables.Review want held) (Stands tables.Card want held) (Stands tables.Note want held) (Made rows.Review) (Made rows.Card) (Made rows.Note)
    (λ row own. is_review row own.of_table) (λ row own. is_card row own.of_table) (λ row own. is_note row own.of_table)
    (wanted_in_chunks want held) (three_stand tables.Review tables.Card tables.Note want held named checked)

pub change_rows_of : (want : Wanted) (held : Rows) → AreNamed (get held) → AreChecked (get held) → AreChangeRows (wanted_changes want held)
change_rows_of want held named checked =
    three_weaker (Stands tables.NoteType want held) (Stands tables.Deck want held) (Stands tables.Options want held) (Made rows.NoteType) (Made rows.Deck) (Made rows.Options)
    (λ row own. is_type row own.of_table) (λ row own. is_deck row own.of_table) (λ row own. are_options row own.of_table)
    (wanted_changes want held) (three_stand tables.NoteType tables.Deck tables.Options want held named checked)

pub graves_are_brought : (list : List Row) → AreUnsentGraves list → all_brought (graves_to_send list) ≡ rows_only list
graves_are_brought list three =
    graves_brought (filled_slices list) (all_slices (λ (part : List Row). graves_from (grave_ids part) ≡ part) list
    (λ k. unsent_graves_keep (slice k list) (slice_of_three (IsUnsentIn tables.NoteGrave) (IsUnsentIn tables.CardGrave) (IsUnsentIn tables.DeckGrave) list three k)) 0 (div_ceil (length list) 250))
    ∙ ap rows_only (filled_slices_are_all list)

pub rows_are_brought : (list : List Row) → AreChunkRows list → all_brought (rows_to_send list) ≡ rows_only list
rows_are_brought list three =
    rows_brought (slices_until_short list) (all_slices (λ (part : List Row). chunk_rows (chunk_of part) ≡ part) list
    (λ k. chunk_keeps (slice k list) (slice_of_three (Made rows.Review) (Made rows.Card) (Made rows.Note) list three k)) 0 (length list / 250 + 1))
    ∙ ap rows_only (slices_until_short_are_all list)

pub changes_are_brought : (changed : Received) → AreChangeRows changed.rows → brought (asks.ApplyChanges (changes_of changed)) ≡ changed
changes_are_brought changed three =
    ap (λ (l : List Row). came_of l changed.tags (option_map settings_in (option_map newer_of changed.settings))) (changes_keep changed three)
    ∙ ap (came_of changed.rows changed.tags) (settings_back changed.settings)

-- ---- a plan
module _ (c s : Collection) (may : MaySync c s) where
  abbrev pub number : ℤ
  number = s.head.usn

  pub low : pos 0 ≤ℤ s.head.usn
  low = may.committed.head.usn.low

  pub number_fits : IsWithin (pos 0) last_usn s.head.usn
  number_fits = let high = may.committed.head.usn.high in record { low = may.committed.head.usn.low; high = omega (arith, ints, high) }

  -- ---- rows in between
  pub device_named : (asked : List Ask) → AreNamed (get (device_rows c s asked))
  device_named asked = taken_named Device s.head.usn (all_given s asked).rows c.rows may.named

  pub device_checked : (asked : List Ask) → AllByRecursion IsChecked (all_given s asked).rows → AreChecked (get (device_rows c s asked))
  device_checked asked all = taken_checked Device s.head.usn (all_given s asked).rows c.rows (All-from_recursion IsChecked (all_given s asked).rows all) number_fits may.checked

  pub fold_rows : (asked : List Ask) → (fold_of s asked).rows ≡ all_taken Server s.head.usn (all_brought asked).rows s.rows
  fold_rows asked = ap (λ (held : Collection). held.rows) (fold_takes_all s asked)

  pub fold_named : (asked : List Ask) → AreNamed (get (fold_of s asked).rows)
  fold_named asked = subst (λ (held : Rows). AreNamed (get held)) (sym (fold_rows asked)) (taken_named Server s.head.usn (all_brought asked).rows s.rows may.committed.named)

  pub fold_checked : (asked : List Ask) → AllByRecursion IsChecked (all_brought asked).rows → AreChecked (get (fold_of s asked).rows)
  fold_checked asked all =
      subst (λ (held : Rows). AreChecked (get held)) (sym (fold_rows asked))
      (taken_checked Server s.head.usn (all_brought asked).rows s.rows (All-from_recursion IsChecked (all_brought asked).rows all) number_fits may.committed.checked)

  pub wanted_checked : (one two three : Table) (want : Wanted) (held : Rows) → AreNamed (get held) → AreChecked (get held) → AllByRecursion IsChecked (wanted_of one two three want held)
  wanted_checked one two three want held named checked =
      all_of_three IsChecked (wanted_of one two three want held)
      (three_weaker (Stands one want held) (Stands two want held) (Stands three want held) IsChecked IsChecked IsChecked (λ row own. own.checked) (λ row own. own.checked) (λ row own. own.checked)
      (wanted_of one two three want held) (three_stand one two three want held named checked))

  -- ---- the start
  abbrev pub server_graves : List Row
  server_graves = wanted_graves (From c.head.usn) s.rows

  pub given_start : all_given s (planned_start c) ≡ rows_only server_graves
  given_start = nothing_last (rows_only server_graves)

  pub checked_start : AllByRecursion IsChecked (all_given s (planned_start c)).rows
  checked_start =
      subst (λ (r : Received). AllByRecursion IsChecked r.rows) (sym given_start)
      (wanted_checked tables.NoteGrave tables.CardGrave tables.DeckGrave (From c.head.usn) s.rows may.committed.named may.committed.checked)

  -- ---- the graves
  abbrev pub device_graves : List Row
  device_graves = wanted_graves Unsent (device_rows c s (planned_start c))

  pub brought_graves : all_brought (planned_graves c s) ≡ rows_only device_graves
  brought_graves =
      nothing_first (all_brought (graves_to_send device_graves))
      ∙ graves_are_brought device_graves (unsent_graves_of (device_rows c s (planned_start c)) (device_named (planned_start c)) (device_checked (planned_start c) checked_start))

  pub given_graves : all_given s (planned_graves c s) ≡ rows_only server_graves
  given_graves =
      given_append s [] (planned_start c) (graves_to_send device_graves)
      ∙ ap (and_then (all_given s (planned_start c))) (graves_give_nothing s (planned_start c) (filled_slices device_graves))
      ∙ nothing_last (all_given s (planned_start c))
      ∙ given_start

  pub checked_graves : AllByRecursion IsChecked (all_given s (planned_graves c s)).rows
  checked_graves = subst (λ (r : Received). AllByRecursion IsChecked r.rows) (given_start ∙ sym given_graves) checked_start

  pub graves_checked : AllByRecursion IsChecked (all_brought (planned_graves c s)).rows
  graves_checked =
      subst (λ (r : Received). AllByRecursion IsChecked r.rows) (sym brought_graves)
      (wanted_checked tables.NoteGrave tables.CardGrave tables.DeckGrave Unsent (device_rows c s (planned_start c)) (device_named (planned_start c)) (device_checked (planned_start c) checked_start))

  -- ---- the changes
  abbrev pub server_types : List Row
  server_types = wanted_changes (From c.head.usn) (fold_of s (planned_graves c s)).rows

  abbrev pub device_types : List Row
  device_types = wanted_changes Unsent (device_rows c s (planned_graves c s))

  abbrev pub server_tags : List (List ℕ)
  server_tags = wanted_tags (From c.head.usn) s.head.tags

  abbrev pub device_tags : List (List ℕ)
  device_tags = wanted_tags Unsent c.head.tags

  pub changes_given : server_changes s (planned_graves c s) ≡ came_of server_types server_tags (settings_given c.head s.head)
  changes_given =
      ap (λ (held : Collection). came_of server_types (wanted_tags (From c.head.usn) held.head.tags) (if int_lt s.head.moment c.head.moment then None else Some (settings_of held.head)))
      (fold_takes_all s (planned_graves c s) ∙ ap (λ (r : Received). with_received r s) brought_graves)

  pub given_changes : all_given s (planned_changes c s) ≡ came_of (server_graves ++ server_types) server_tags (settings_given c.head s.head)
  given_changes =
      given_more s (planned_graves c s) (asks.ApplyChanges (changes_of (device_changes c s)))
      ∙ ap (λ (r : Received). and_then r (server_changes s (planned_graves c s))) given_graves
      ∙ ap (and_then (rows_only server_graves)) changes_given
      ∙ ap (came_of (server_graves ++ server_types) server_tags) (or_none (settings_given c.head s.head))

  pub types_are_brought : brought (asks.ApplyChanges (changes_of (device_changes c s))) ≡ device_changes c s
  types_are_brought =
      changes_are_brought (device_changes c s) (change_rows_of Unsent (device_rows c s (planned_graves c s)) (device_named (planned_graves c s)) (device_checked (planned_graves c s) checked_graves))

  pub brought_changes : all_brought (planned_changes c s) ≡ came_of (device_graves ++ device_types) device_tags (settings_sent c.head s.head)
  brought_changes =
      brought_append (planned_graves c s) (asks.ApplyChanges (changes_of (device_changes c s)) ∷ [])
      ∙ ap (λ (r : Received). and_then r (and_then (brought (asks.ApplyChanges (changes_of (device_changes c s)))) nothing)) brought_graves
      ∙ ap (and_then (rows_only device_graves)) (nothing_last (brought (asks.ApplyChanges (changes_of (device_changes c s)))) ∙ types_are_brought)
      ∙ ap (came_of (device_graves ++ device_types) device_tags) (or_none (settings_sent c.head s.head))

  pub changes_checked : AllByRecursion IsChecked (all_brought (planned_changes c s)).rows
  changes_checked =
      subst (λ (r : Received). AllByRecursion IsChecked r.rows) (sym brought_changes)
      (all_append IsChecked device_graves device_types (subst (λ (r : Received). AllByRecursion IsChecked r.rows) brought_graves graves_checked)
      (wanted_checked tables.NoteType tables.Deck tables.Options Unsent (device_rows c s (planned_graves c s)) (device_named (planned_graves c s)) (device_checked (planned_graves c s) checked_graves)))

  types_checked : AllByRecursion IsChecked server_types
  types_checked =
      wanted_checked tables.NoteType tables.Deck tables.Options (From c.head.usn) (fold_of s (planned_graves c s)).rows (fold_named (planned_graves c s)) (fold_checked (planned_graves c s) graves_checked)

  -- ---- the chunks
  abbrev pub server_list : List Row
  server_list = wanted_in_chunks (From c.head.usn) (fold_of s (planned_changes c s)).rows

  pub none_yet : chunk_count (planned_changes c s) ≡ 0
  none_yet =
      count_append (planned_graves c s) (asks.ApplyChanges (changes_of (device_changes c s)) ∷ [])
      ∙ ap (λ (n : ℕ). n + 0) (no_chunks (filled_slices device_graves))

  pub given_chunks : all_given s (planned_chunks c s) ≡ came_of (server_graves ++ (server_types ++ server_list)) server_tags (settings_given c.head s.head)
  given_chunks =
      given_append s [] (planned_changes c s) (chunks_to_ask server_list)
      ∙ ap (and_then (all_given s (planned_changes c s))) (chunks_given s (planned_changes c s) server_list 0 (length server_list / 250 + 1) refl none_yet ∙ ap rows_only (slices_until_short_are_all server_list))
      ∙ ap (λ (r : Received). and_then r (rows_only server_list)) given_changes
      ∙ ap (λ (l : List Row). came_of l (server_tags ++ []) (settings_given c.head s.head)) (append_assoc server_graves server_types server_list)
      ∙ ap (λ (tags : List (List ℕ)). came_of (server_graves ++ (server_types ++ server_list)) tags (settings_given c.head s.head)) (append-nil server_tags)

  pub brought_chunks : all_brought (planned_chunks c s) ≡ all_brought (planned_changes c s)
  brought_chunks =
      brought_append (planned_changes c s) (chunks_to_ask server_list)
      ∙ ap (and_then (all_brought (planned_changes c s))) (chunks_bring_nothing (slices_until_short server_list))
      ∙ nothing_last (all_brought (planned_changes c s))

  pub checked_chunks : AllByRecursion IsChecked (all_given s (planned_chunks c s)).rows
  checked_chunks =
      subst (λ (r : Received). AllByRecursion IsChecked r.rows) (sym given_chunks)
      (all_append IsChecked server_graves (server_types ++ server_list) (subst (λ (r : Received). AllByRecursion IsChecked r.rows) given_start checked_start)
      (all_append IsChecked server_types server_list types_checked
      (wanted_checked tables.Review tables.Card tables.Note (From c.head.usn) (fold_of s (planned_changes c s)).rows (fold_named (planned_changes c s)) (fold_checked (planned_changes c s) changes_checked))))

  -- ---- the pushes
  abbrev pub device_list : List Row
  device_list = wanted_in_chunks Unsent (device_rows c s (planned_chunks c s))

  pub brought_pushes : all_brought (planned_pushes c s) ≡ came_of (device_graves ++ (device_types ++ device_list)) device_tags (settings_sent c.head s.head)
  brought_pushes =
      brought_append (planned_chunks c s) (rows_to_send device_list)
      ∙ ap (and_then (all_brought (planned_chunks c s))) (rows_are_brought device_list (chunk_rows_of Unsent (device_rows c s (planned_chunks c s)) (device_named (planned_chunks c s)) (device_checked (planned_chunks c s) checked_chunks)))
      ∙ ap (λ (r : Received). and_then r (rows_only device_list)) (brought_chunks ∙ brought_changes)
      ∙ ap (λ (l : List Row). came_of l (device_tags ++ []) (settings_sent c.head s.head)) (append_assoc device_graves device_types device_list)
      ∙ ap (λ (tags : List (List ℕ)). came_of (device_graves ++ (device_types ++ device_list)) tags (settings_sent c.head s.head)) (append-nil device_tags)

  pub pushes_checked : AllByRecursion IsChecked (all_brought (planned_pushes c s)).rows
  pushes_checked =
      subst (λ (r : Received). AllByRecursion IsChecked r.rows) (sym brought_pushes)
      (all_append IsChecked device_graves (device_types ++ device_list) (subst (λ (r : Received). AllByRecursion IsChecked r.rows) brought_graves graves_checked)
      (all_append IsChecked device_types device_list
      (wanted_checked tables.NoteType tables.Deck tables.Options Unsent (device_rows c s (planned_graves c s)) (device_named (planned_graves c s)) (device_checked (planned_graves c s) checked_graves))
      (wanted_checked tables.Review tables.Card tables.Note Unsent (device_rows c s (planned_chunks c s)) (device_named (planned_chunks c s)) (device_checked (planned_chunks c s) checked_chunks))))

  pub given_pushes : all_given s (planned_pushes c s) ≡ all_given s (planned_chunks c s)
  given_pushes =
      given_append s [] (planned_chunks c s) (rows_to_send device_list)
      ∙ ap (and_then (all_given s (planned_chunks c s))) (rows_give_nothing s (planned_chunks c s) (slices_until_short device_list))
      ∙ nothing_last (all_given s (planned_chunks c s))

  -- ---- the check
  pub brought_check : sent_by_sync c s ≡ all_brought (planned_pushes c s)
  brought_check =
      brought_append (planned_pushes c s) (asks.SanityCheck2 (counts_of (device_rows c s (planned_pushes c s))) ∷ [])
      ∙ nothing_last (all_brought (planned_pushes c s))

  pub given_check : given_by_sync c s ≡ all_given s (planned_pushes c s)
  given_check = given_more s (planned_pushes c s) (asks.SanityCheck2 (counts_of (device_rows c s (planned_pushes c s)))) ∙ nothing_last (all_given s (planned_pushes c s))

  -- ---- the sums
  pub given_in_parts : given_by_sync c s ≡ came_of (server_graves ++ (server_types ++ server_list)) server_tags (settings_given c.head s.head)
  given_in_parts = given_check ∙ given_pushes ∙ given_chunks

  pub sent_in_parts : sent_by_sync c s ≡ came_of (device_graves ++ (device_types ++ device_list)) device_tags (settings_sent c.head s.head)
  sent_in_parts = brought_check ∙ brought_pushes

-- What the requests of a sync add up to: the two halves of an exchange.
use Rattle.std.specs.Prelude.{◌≡◌, ◌≢◌, ◌≤ℤ◌, ℕ, ℤ, pos, negsuc, IsTrue, List, [], ◌++◌, Some}
use Rattle.std.specs.FinMap.{get}
use Rattle.std.specs.List.{AllByRecursion}
use Rattle.std.proofs.Common.{refl, sym, ap, subst, ◌∙◌, append_assoc, arith}
use Rattle.std.proofs.lemmas.Int.{ints}
use Rattle.std.specs.Cmp.{signed_Decides}
use Rattle.std.proofs.lemmas.List.{append-nil}
use Rattle.ak_base.specs.Rows.{name_of, usn_of}
use Rattle.ak_base.specs.declared.names.Name.{Name}
use Rattle.ak_base.specs.declared.names.Table.{Table}
use Rattle.ak_base.specs.declared.names.Table.TheVariants as tables
use Rattle.ak_base.specs.declared.rows.Row.{Row}
use Rattle.ak_keep.specs.Collections.{Rows, Collection, is_wanted}
use Rattle.ak_keep.specs.declared.keepers.Wanted.{Wanted}
use Rattle.ak_keep.specs.declared.keepers.Wanted.TheVariants.{Unsent, From}
use Rattle.ak_merge.proofs.TagLists.{unsent_listed, from_listed}
use Rattle.ak_merge.proofs.CommitLaws.{of_some}
use Rattle.ak_merge.specs.Commits.{Received}
use Rattle.ak_merge.specs.Exchanges.{wanted_under, tags_from, unsent_tags, IsSent, MayExchange, IsServerHalf}
use Rattle.ak_merge.specs.Holdings.{row_under, AreNamed, AreChecked}
use Rattle.ak_merge.specs.Links.{IsGiven}
use Rattle.ak_merge.specs.Tags.{has_name}
use Rattle.ak_merge.specs.Takings.{all_taken}
use Rattle.ak_messages.specs.declared.requests.Ask.{Ask}
use Rattle.ak_messages.specs.declared.requests.Ask.TheVariants as asks
use Rattle.ak_messages.specs.declared.requests.Request.{Request}
use Rattle.ak_session.specs.Asks.{asks_of, fold_of}
use Rattle.ak_session.specs.Closings.{of_finish, closed_by}
use Rattle.ak_session.specs.Contents.{closed}
use Rattle.ak_session.specs.Plans.{device_rows, planned_start, planned_graves, planned_changes, planned_chunks, planned_check, given_by_sync, sent_by_sync}
use Rattle.ak_session.specs.Sessions.{MaySync}
use Rattle.ak_session.specs.Slices.{wanted_of, wanted_graves, wanted_changes, wanted_in_chunks}
use Rattle.ak_session.proofs.CommitLaws.{finish_commits}
use Rattle.ak_session.proofs.InOrder.{not_table}
use Rattle.ak_session.proofs.Ranges.{all_append, past_second}
use Rattle.ak_session.proofs.Sums.{low, device_named, device_checked, fold_rows, fold_named, fold_checked, given_start, checked_start, given_graves, checked_graves, given_chunks, checked_chunks, brought_graves, graves_checked, brought_changes, changes_checked, given_in_parts, sent_in_parts, server_graves, server_types, server_list, device_graves, device_types, device_list}
use Rattle.ak_session.proofs.Wanted.{Stands, three_stand, three_weaker, all_of_three, IsFront, all_wanted, gives_all, unsent_stood, others_stood}
use Rattle.ak_merge.specs.declared.sides.Side.TheVariants.{Device, Server}

-- what stood before and is wanted
abbrev Stood : Wanted → Rows → Row → Type 0
Stood want held row = (get held (name_of row) ≡ Some row) × IsTrue (is_wanted want row)

-- the rows of three tables, if those of each stood before
three_stood : (one two three : Table) (want : Wanted) (before held : Rows) → AreNamed (get held) → AreChecked (get held)
    → ((row : Row) → Stands one want held row → Stood want before row) → ((row : Row) → Stands two want held row → Stood want before row) → ((row : Row) → Stands three want held row → Stood want before row)
    → AllByRecursion (Stood want before) (wanted_of one two three want held)
three_stood one two three want before held named checked first second third =
    all_of_three (Stood want before) (wanted_of one two three want held)
    (three_weaker (Stands one want held) (Stands two want held) (Stands three want held) (Stood want before) (Stood want before) (Stood want before) first second third
    (wanted_of one two three want held) (three_stand one two three want held named checked))

-- rows of three tables are of no other
three_of_others : (one two three other : Table) (want : Wanted) (held : Rows) → AreNamed (get held) → AreChecked (get held) → (one ≡ other → ⊥) → (two ≡ other → ⊥) → (three ≡ other → ⊥)
    → AllByRecursion (λ (row : Row). (name_of row).table ≢ other) (wanted_of one two three want held)
three_of_others one two three other want held named checked first second third =
    all_of_three (λ (row : Row). (name_of row).table ≢ other) (wanted_of one two three want held)
    (three_weaker (Stands one want held) (Stands two want held) (Stands three want held) (λ (row : Row). (name_of row).table ≢ other) (λ (row : Row). (name_of row).table ≢ other) (λ (row : Row). (name_of row).table ≢ other)
    (λ row own same. first (sym own.of_table ∙ same)) (λ row own same. second (sym own.of_table ∙ same)) (λ row own same. third (sym own.of_table ∙ same))
    (wanted_of one two three want held) (three_stand one two three want held named checked))

-- a device that may sync may exchange
pub may_exchange : (c s : Collection) → MaySync c s → MayExchange c s
may_exchange c s may = record { linked = may.linked; named = may.named; their_named = may.committed.named; checked = may.checked; their_checked = may.committed.checked }

module _ (c s : Collection) (may : MaySync c s) where
  -- ---- what the device sends
  abbrev all_given_rows : List Row
  all_given_rows = server_graves c s may ++ (server_types c s may ++ server_list c s may)

  abbrev all_sent_rows : List Row
  all_sent_rows = device_graves c s may ++ (device_types c s may ++ device_list c s may)

  abbrev taken_by_device : List Row → Rows
  taken_by_device front = all_taken Device s.head.usn front c.rows

  -- the device's rows in between, by what it had taken
  rows_at_start : device_rows c s (planned_start c) ≡ taken_by_device (server_graves c s may)
  rows_at_start = ap (λ (r : Received). all_taken Device s.head.usn r.rows c.rows) (given_start c s may)

  rows_at_graves : device_rows c s (planned_graves c s) ≡ taken_by_device (server_graves c s may)
  rows_at_graves = ap (λ (r : Received). all_taken Device s.head.usn r.rows c.rows) (given_graves c s may)

  rows_at_chunks : device_rows c s (planned_chunks c s) ≡ taken_by_device all_given_rows
  rows_at_chunks = ap (λ (r : Received). all_taken Device s.head.usn r.rows c.rows) (given_chunks c s may)

  graves_front : IsFront Device s.head.usn c.rows all_given_rows (server_graves c s may)
  graves_front = record {
    rest = server_types c s may ++ server_list c s may;
    is = refl;
    named = subst (λ (held : Rows). AreNamed (get held)) rows_at_start (device_named c s may (planned_start c));
    checked = subst (λ (held : Rows). AreChecked (get held)) rows_at_start (device_checked c s may (planned_start c) (checked_start c s may));
  }

  whole_front : IsFront Device s.head.usn c.rows all_given_rows all_given_rows
  whole_front = record {
    rest = [];
    is = append-nil all_given_rows;
    named = subst (λ (held : Rows). AreNamed (get held)) rows_at_chunks (device_named c s may (planned_chunks c s));
    checked = subst (λ (held : Rows). AreChecked (get held)) rows_at_chunks (device_checked c s may (planned_chunks c s) (checked_chunks c s may));
  }

  unsent_three : (one two three : Table) (front : List Row) → IsFront Device s.head.usn c.rows all_given_rows front → AllByRecursion (Stood Unsent c.rows) (wanted_of one two three Unsent (taken_by_device front))
  unsent_three one two three front own =
      three_stood one two three Unsent c.rows (taken_by_device front) own.named own.checked
      (unsent_stood Device s.head.usn c.rows front one (low c s may)) (unsent_stood Device s.head.usn c.rows front two (low c s may)) (unsent_stood Device s.head.usn c.rows front three (low c s may))

  -- what was not sent yet does not have the server's number
  unsent_differs : (name : Name) (row : Row) → get c.rows name ≡ Some row → IsTrue (is_wanted Unsent row) → usn_of row ≢ s.head.usn
  unsent_differs name row is wanted same =
      let unsent : usn_of row ≡ negsuc 0 = (signed_Decides (usn_of row) (negsuc 0)).0 wanted in
      let from : pos 0 ≤ℤ s.head.usn = low c s may in
      omega (arith, ints, unsent, same, from)

  sent_wanted : IsSent (all_wanted Unsent (taken_by_device (server_graves c s may)) (taken_by_device (server_graves c s may)) (taken_by_device all_given_rows)) (wanted_under Unsent (row_under c)) (get (taken_by_device all_given_rows))
  sent_wanted =
      gives_all Device s.head.usn Unsent c.rows all_given_rows (server_graves c s may) (server_graves c s may) all_given_rows may.named unsent_differs graves_front graves_front whole_front
      (all_append (Stood Unsent c.rows) (wanted_graves Unsent (taken_by_device (server_graves c s may))) (wanted_changes Unsent (taken_by_device (server_graves c s may)) ++ wanted_in_chunks Unsent (taken_by_device all_given_rows))
      (unsent_three tables.NoteGrave tables.CardGrave tables.DeckGrave (server_graves c s may) graves_front)
      (all_append (Stood Unsent c.rows) (wanted_changes Unsent (taken_by_device (server_graves c s may))) (wanted_in_chunks Unsent (taken_by_device all_given_rows))
      (unsent_three tables.NoteType tables.Deck tables.Options (server_graves c s may) graves_front)
      (unsent_three tables.Review tables.Card tables.Note all_given_rows whole_front)))

  sent_rows : (sent_by_sync c s).rows ≡ all_wanted Unsent (taken_by_device (server_graves c s may)) (taken_by_device (server_graves c s may)) (taken_by_device all_given_rows)
  sent_rows =
      ap (λ (r : Received). r.rows) (sent_in_parts c s may)
      ∙ ap (λ (held : Rows). wanted_graves Unsent held ++ (device_types c s may ++ device_list c s may)) rows_at_start
      ∙ ap (λ (held : Rows). wanted_graves Unsent (taken_by_device (server_graves c s may)) ++ (wanted_changes Unsent held ++ device_list c s may)) rows_at_graves
      ∙ ap (λ (held : Rows). wanted_graves Unsent (taken_by_device (server_graves c s may)) ++ (wanted_changes Unsent (taken_by_device (server_graves c s may)) ++ wanted_in_chunks Unsent held)) rows_at_chunks

  given_rows : (given_by_sync c s).rows ≡ all_given_rows
  given_rows = ap (λ (r : Received). r.rows) (given_in_parts c s may)

  pub device_sends : IsSent (sent_by_sync c s).rows (wanted_under Unsent (row_under c)) (get (all_taken Device s.head.usn (given_by_sync c s).rows c.rows))
  device_sends =
      subst (λ (list : List Row). IsSent list (wanted_under Unsent (row_under c)) (get (all_taken Device s.head.usn (given_by_sync c s).rows c.rows))) (sym sent_rows)
      (subst (λ (list : List Row). IsSent (all_wanted Unsent (taken_by_device (server_graves c s may)) (taken_by_device (server_graves c s may)) (taken_by_device all_given_rows)) (wanted_under Unsent (row_under c)) (get (all_taken Device s.head.usn list c.rows))) (sym given_rows) sent_wanted)

  -- ---- what the server gives
  abbrev taken_by_server : List Row → Rows
  taken_by_server front = all_taken Server s.head.usn front s.rows

  abbrev two_parts : List Row
  two_parts = device_graves c s may ++ device_types c s may

  fold_at_graves : (fold_of s (planned_graves c s)).rows ≡ taken_by_server (device_graves c s may)
  fold_at_graves = fold_rows c s may (planned_graves c s) ∙ ap (λ (r : Received). all_taken Server s.head.usn r.rows s.rows) (brought_graves c s may)

  fold_at_changes : (fold_of s (planned_changes c s)).rows ≡ taken_by_server two_parts
  fold_at_changes = fold_rows c s may (planned_changes c s) ∙ ap (λ (r : Received). all_taken Server s.head.usn r.rows s.rows) (brought_changes c s may)

  nothing_front : IsFront Server s.head.usn s.rows all_sent_rows []
  nothing_front = record { rest = all_sent_rows; is = refl; named = may.committed.named; checked = may.committed.checked }

  sent_graves_front : IsFront Server s.head.usn s.rows all_sent_rows (device_graves c s may)
  sent_graves_front = record {
    rest = device_types c s may ++ device_list c s may;
    is = refl;
    named = subst (λ (held : Rows). AreNamed (get held)) fold_at_graves (fold_named c s may (planned_graves c s));
    checked = subst (λ (held : Rows). AreChecked (get held)) fold_at_graves (fold_checked c s may (planned_graves c s) (graves_checked c s may));
  }

  two_parts_front : IsFront Server s.head.usn s.rows all_sent_rows two_parts
  two_parts_front = record {
    rest = device_list c s may;
    is = append_assoc (device_graves c s may) (device_types c s may) (device_list c s may);
    named = subst (λ (held : Rows). AreNamed (get held)) fold_at_changes (fold_named c s may (planned_changes c s));
    checked = subst (λ (held : Rows). AreChecked (get held)) fold_at_changes (fold_checked c s may (planned_changes c s) (changes_checked c s may));
  }

  -- graves alone came before the changes
  graves_of_others : (other : Table) → (tables.NoteGrave ≡ other → ⊥) → (tables.CardGrave ≡ other → ⊥) → (tables.DeckGrave ≡ other → ⊥) → AllByRecursion (λ (row : Row). (name_of row).table ≢ other) (device_graves c s may)
  graves_of_others other first second third =
      three_of_others tables.NoteGrave tables.CardGrave tables.DeckGrave other Unsent (device_rows c s (planned_start c)) (device_named c s may (planned_start c)) (device_checked c s may (planned_start c) (checked_start c s may)) first second third

  types_of_others : (other : Table) → (tables.NoteType ≡ other → ⊥) → (tables.Deck ≡ other → ⊥) → (tables.Options ≡ other → ⊥) → AllByRecursion (λ (row : Row). (name_of row).table ≢ other) (device_types c s may)
  types_of_others other first second third =
      three_of_others tables.NoteType tables.Deck tables.Options other Unsent (device_rows c s (planned_graves c s)) (device_named c s may (planned_graves c s)) (device_checked c s may (planned_graves c s) (checked_graves c s may)) first second third

  at_types : (table : Table) → (tables.NoteGrave ≡ table → ⊥) → (tables.CardGrave ≡ table → ⊥) → (tables.DeckGrave ≡ table → ⊥) → (row : Row) → Stands table (From c.head.usn) (taken_by_server (device_graves c s may)) row → Stood (From c.head.usn) s.rows row
  at_types table first second third row own =
      others_stood Server s.head.usn (From c.head.usn) s.rows (device_graves c s may) table (graves_of_others table first second third) row own

  at_chunks : (table : Table) → (tables.NoteGrave ≡ table → ⊥) → (tables.CardGrave ≡ table → ⊥) → (tables.DeckGrave ≡ table → ⊥) → (tables.NoteType ≡ table → ⊥) → (tables.Deck ≡ table → ⊥) → (tables.Options ≡ table → ⊥)
      → (row : Row) → Stands table (From c.head.usn) (taken_by_server two_parts) row → Stood (From c.head.usn) s.rows row
  at_chunks table a b d e f g row own =
      others_stood Server s.head.usn (From c.head.usn) s.rows two_parts table
      (all_append (λ (other : Row). (name_of other).table ≢ table) (device_graves c s may) (device_types c s may) (graves_of_others table a b d) (types_of_others table e f g)) row own

  -- the server's rows have numbers below its own
  given_differs : (name : Name) (row : Row) → get s.rows name ≡ Some row → IsTrue (is_wanted (From c.head.usn) row) → usn_of row ≢ s.head.usn
  given_differs name row is _ same =
      let given : IsGiven s.head.usn (usn_of row) = of_some (λ (r : Row). IsGiven s.head.usn (usn_of r)) (get s.rows name) row (may.committed.given.rows name) is in
      omega (arith, ints, given.high, same)

  given_wanted : IsSent (all_wanted (From c.head.usn) s.rows (taken_by_server (device_graves c s may)) (taken_by_server two_parts)) (wanted_under (From c.head.usn) (row_under s)) (get (taken_by_server all_sent_rows))
  given_wanted =
      gives_all Server s.head.usn (From c.head.usn) s.rows all_sent_rows [] (device_graves c s may) two_parts may.committed.named given_differs nothing_front sent_graves_front two_parts_front
      (all_append (Stood (From c.head.usn) s.rows) (wanted_graves (From c.head.usn) s.rows) (wanted_changes (From c.head.usn) (taken_by_server (device_graves c s may)) ++ wanted_in_chunks (From c.head.usn) (taken_by_server two_parts))
      (three_stood tables.NoteGrave tables.CardGrave tables.DeckGrave (From c.head.usn) s.rows s.rows may.committed.named may.committed.checked (λ row own. (own.stands, own.wanted)) (λ row own. (own.stands, own.wanted)) (λ row own. (own.stands, own.wanted)))
      (all_append (Stood (From c.head.usn) s.rows) (wanted_changes (From c.head.usn) (taken_by_server (device_graves c s may))) (wanted_in_chunks (From c.head.usn) (taken_by_server two_parts))
      (three_stood tables.NoteType tables.Deck tables.Options (From c.head.usn) s.rows (taken_by_server (device_graves c s may)) sent_graves_front.named sent_graves_front.checked
      (at_types tables.NoteType (not_table tables.NoteGrave tables.NoteType refl) (not_table tables.CardGrave tables.NoteType refl) (not_table tables.DeckGrave tables.NoteType refl))
      (at_types tables.Deck (not_table tables.NoteGrave tables.Deck refl) (not_table tables.CardGrave tables.Deck refl) (not_table tables.DeckGrave tables.Deck refl))
      (at_types tables.Options (not_table tables.NoteGrave tables.Options refl) (not_table tables.CardGrave tables.Options refl) (not_table tables.DeckGrave tables.Options refl)))
      (three_stood tables.Review tables.Card tables.Note (From c.head.usn) s.rows (taken_by_server two_parts) two_parts_front.named two_parts_front.checked
      (at_chunks tables.Review (not_table tables.NoteGrave tables.Review refl) (not_table tables.CardGrave tables.Review refl) (not_table tables.DeckGrave tables.Review refl) (not_table tables.NoteType tables.Review refl) (not_table tables.Deck tables.Review refl) (not_table tables.Options tables.Review refl))
      (at_chunks tables.Card (not_table tables.NoteGrave tables.Card refl) (not_table tables.CardGrave tables.Card refl) (not_table tables.DeckGrave tables.Card refl) (not_table tables.NoteType tables.Card refl) (not_table tables.Deck tables.Card refl) (not_table tables.Options tables.Card refl))
      (at_chunks tables.Note (not_table tables.NoteGrave tables.Note refl) (not_table tables.CardGrave tables.Note refl) (not_table tables.DeckGrave tables.Note refl) (not_table tables.NoteType tables.Note refl) (not_table tables.Deck tables.Note refl) (not_table tables.Options tables.Note refl)))))

  given_as_wanted : (given_by_sync c s).rows ≡ all_wanted (From c.head.usn) s.rows (taken_by_server (device_graves c s may)) (taken_by_server two_parts)
  given_as_wanted =
      given_rows
      ∙ ap (λ (held : Rows). wanted_graves (From c.head.usn) s.rows ++ (wanted_changes (From c.head.usn) held ++ server_list c s may)) fold_at_graves
      ∙ ap (λ (held : Rows). wanted_graves (From c.head.usn) s.rows ++ (wanted_changes (From c.head.usn) (taken_by_server (device_graves c s may)) ++ wanted_in_chunks (From c.head.usn) held)) fold_at_changes

  sent_as_parts : (sent_by_sync c s).rows ≡ all_sent_rows
  sent_as_parts = ap (λ (r : Received). r.rows) (sent_in_parts c s may)

  pub server_gives : IsSent (given_by_sync c s).rows (wanted_under (From c.head.usn) (row_under s)) (get (all_taken Server s.head.usn (sent_by_sync c s).rows s.rows))
  server_gives =
      subst (λ (list : List Row). IsSent list (wanted_under (From c.head.usn) (row_under s)) (get (all_taken Server s.head.usn (sent_by_sync c s).rows s.rows))) (sym given_as_wanted)
      (subst (λ (list : List Row). IsSent (all_wanted (From c.head.usn) s.rows (taken_by_server (device_graves c s may)) (taken_by_server two_parts)) (wanted_under (From c.head.usn) (row_under s)) (get (all_taken Server s.head.usn list s.rows))) (sym sent_as_parts) given_wanted)

  -- ---- tags and settings
  pub tags_sent : (name : List ℕ) → has_name (sent_by_sync c s).tags name ≡ unsent_tags c.head.tags name
  tags_sent name = ap (λ (r : Received). has_name r.tags name) (sent_in_parts c s may) ∙ unsent_listed c.head.tags name may.head.ascending

  pub tags_given : (name : List ℕ) → has_name (given_by_sync c s).tags name ≡ tags_from c.head.usn s.head.tags name
  tags_given name = ap (λ (r : Received). has_name r.tags name) (given_in_parts c s may) ∙ from_listed c.head.usn s.head.tags name may.committed.head.ascending

  -- ---- the server's half
  pub server_half : (now : ℤ) → IsServerHalf (given_by_sync c s) (sent_by_sync c s) c s (of_finish s (planned_check c s) now)
  server_half now = record {
    gives = server_gives.each;
    sends = device_sends;
    tags = tags_sent;
    settings = ap (λ (r : Received). r.settings) (sent_in_parts c s may);
    commits = finish_commits s (planned_check c s) now;
    moment = past_second now s.head.moment c.head.moment;
  }

pub syncs_exchange : (c s : Collection) (accepted : List Request) (finish : Request) (now : ℤ) → MaySync c s → asks_of accepted ≡ planned_check c s → finish.ask ≡ asks.Finish
    → IsServerHalf (given_by_sync c s) (sent_by_sync c s) c s (closed s accepted finish now)
unfolding closed
syncs_exchange c s accepted finish now may asked ends =
    subst (λ (list : List Ask). IsServerHalf (given_by_sync c s) (sent_by_sync c s) c s (closed_by s list finish.ask now)) (sym asked)
    (subst (λ (ask : Ask). IsServerHalf (given_by_sync c s) (sent_by_sync c s) c s (closed_by s (planned_check c s) ask now)) (sym ends) (server_half c s may now))

-- What a device still has to send once it settled what it sent: the rest of its lists, each list as the plan has it.
use Rattle.std.specs.FinMap.{get}
use Rattle.std.specs.List.{AllByRecursion, Contains, list_any}
use Rattle.std.specs.Option.{option_map}
use Rattle.std.specs.Prelude.{◌≡◌, ◌≢◌, ℕ, zero, suc, ℤ, pos, ◌+◌, ◌*◌, ◌||◌, Bool, true, false, if◌then◌else◌, List, [], ◌∷◌, ◌++◌, map, filter, drop, Option, Some, None}
use Rattle.std.proofs.Common.{refl, sym, ap, subst, ◌∙◌, arith}
use Rattle.std.proofs.lemmas.List.{map-append}
use Rattle.std.proofs.lemmas.Option.{none-some, same_Some}
use Rattle.std.specs.Cmp.{eq_by_cmp_equiv}
use Rattle.ak_base.proofs.RowFacts.{name_of-with_usn}
use Rattle.ak_base.specs.Names.{names_total}
use Rattle.ak_base.specs.Rows.{name_of, with_usn}
use Rattle.ak_base.specs.declared.names.Name.{Name}
use Rattle.ak_base.specs.declared.names.Table.{Table}
use Rattle.ak_base.specs.declared.names.Table.TheVariants as tables
use Rattle.ak_base.specs.declared.rows.Row.{Row}
use Rattle.ak_base.specs.declared.rows.Row.TheVariants as rows
use Rattle.ak_device.proofs.SettledRows.{AreApart, ahead_left, all_cells, apart_append, ascending_apart, counts_settled, is_among, is_left, others_stay, rest_stays, settled_append, settled_if, tables_apart, three_left}
use Rattle.ak_device.proofs.TakingAndSettling.{head_after, rows_after, tags_if}
use Rattle.ak_device.specs.Devices.{IsSettledTo, received}
use Rattle.ak_device.specs.Settlings.{is_changes, names_of, settled_under, taken_and_settled}
use Rattle.ak_exchange.specs.Loops.{rows_once_sent, rows_to_push}
use Rattle.ak_exchange.specs.Phases.{held_by}
use Rattle.ak_keep.specs.Collections.{Collection, Holding, Rows, is_pending, row_count, wanted_past}
use Rattle.ak_keep.specs.declared.keepers.Wanted.{Wanted}
use Rattle.ak_keep.specs.declared.keepers.Wanted.TheVariants.{Unsent}
use Rattle.ak_merge.proofs.ExchangeCells.{is_only, only_wanted}
use Rattle.ak_merge.proofs.PartLaws.{pending_was_held}
use Rattle.ak_merge.proofs.TakingLaws.{is_name}
use Rattle.ak_merge.specs.Commits.{Received}
use Rattle.ak_merge.specs.Exchanges.{settled, wanted_under}
use Rattle.ak_merge.specs.Holdings.{AreChecked, AreNamed, row_under}
use Rattle.ak_merge.specs.Takings.{all_taken}
use Rattle.ak_messages.specs.declared.requests.Ask.{Ask}
use Rattle.ak_messages.specs.declared.requests.Ask.TheVariants as asks
use Rattle.ak_sync_rows.specs.Chunks.{ahead_of}
use Rattle.ak_session.proofs.InOrder.{Made, chunk_keeps}
use Rattle.ak_session.proofs.MessageLaws.{same_rows}
use Rattle.ak_session.proofs.Ranges.{all_append, not_both}
use Rattle.ak_session.proofs.Steps.{brought_more}
use Rattle.ak_session.proofs.Sums.{brought_changes, brought_chunks, brought_graves, checked_chunks, checked_graves, checked_start, chunk_rows_of, device_checked, device_graves, device_named, device_types, slice_of_three}
use Rattle.ak_session.proofs.SyncLaws.{device_sends}
use Rattle.ak_session.proofs.Wanted.{Stands, all_of_three, all_stand, parts_ascend, three_stand, three_weaker, weaker}
use Rattle.ak_session.specs.Answers.{counts_of}
use Rattle.ak_session.specs.Asks.{all_brought, brought}
use Rattle.ak_session.specs.Messages.{chunk_of, chunk_rows, grave_ids}
use Rattle.ak_session.specs.Plans.{device_rows, given_by_sync, planned_changes, planned_check, planned_chunks, planned_graves, planned_pushes, planned_start, sent_by_sync}
use Rattle.ak_session.specs.Replies.{all_replied}
use Rattle.ak_session.specs.Sessions.{MaySync}
use Rattle.ak_session.specs.Slices.{filled_slices, slice, wanted_changes, wanted_graves, wanted_in_chunks, wanted_of}
use Rattle.ak_merge.specs.declared.sides.Side.TheVariants.{Device}
use Rattle.ak_messages.specs.declared.requests.SanityCounts.{SanityCounts}

-- ---- rows that stay under their names
name_stays : (usn : ℤ) (row : Row) → name_of (settled usn row) ≡ name_of row
name_stays usn row = elim (is_pending row) as (λ b. name_of (if b then with_usn row usn else row) ≡ name_of row) [ true ↦ name_of-with_usn row usn | false ↦ refl ]

pub settled_named : (usn : ℤ) (names : List Name) (held : Rows) → AreNamed (get held) → AreNamed (get (settled_under usn names held))
settled_named usn names held named name row is = by (is_among names name) (get held name) refl (sym (all_cells usn names held name) ∙ is)
  where
    by : (b : Bool) (o : Option Row) → get held name ≡ o → settled_if usn b o ≡ Some row → name_of row ≡ name
    by true None at so = absurd (none-some row so)
    by true (Some own) at so = ap name_of (sym (same_Some (settled usn own) row so)) ∙ name_stays usn own ∙ named name own at
    by false o at so = named name row (at ∙ so)

-- ---- rows of other tables
-- what is true of three tables is true of the table of each of their rows
module _ (P : Table → Bool) (v : Bool) where
  of_table : (table : Table) (want : Wanted) (held : Rows) → P table ≡ v → (row : Row) → Stands table want held row → P (name_of row).table ≡ v
  of_table table want held is row own = ap P own.of_table ∙ is

  of_tables : (one two three : Table) (want : Wanted) (held : Rows) → AreNamed (get held) → AreChecked (get held) → P one ≡ v → P two ≡ v → P three ≡ v
      → AllByRecursion (λ (row : Row). P (name_of row).table ≡ v) (wanted_of one two three want held)
  of_tables one two three want held named checked first second third =
      all_of_three (λ (row : Row). P (name_of row).table ≡ v) (wanted_of one two three want held)
      (three_weaker (Stands one want held) (Stands two want held) (Stands three want held)
      (λ (row : Row). P (name_of row).table ≡ v) (λ (row : Row). P (name_of row).table ≡ v) (λ (row : Row). P (name_of row).table ≡ v)
      (of_table one want held first) (of_table two want held second) (of_table three want held third)
      (wanted_of one two three want held) (three_stand one two three want held named checked))

-- rows of which this is true have other names than rows of which it is not
apart_by : (P : Table → Bool) (sent rest : List Row) → AllByRecursion (λ (row : Row). P (name_of row).table ≡ true) sent
    → AllByRecursion (λ (row : Row). P (name_of row).table ≡ false) rest → AllByRecursion (λ (row : Row). is_among (names_of sent) (name_of row) ≡ false) rest
apart_by P sent rest own other =
    weaker (λ (row : Row). P (name_of row).table ≡ false) (λ (row : Row). is_among (names_of sent) (name_of row) ≡ false)
    (λ row is. tables_apart (name_of row) sent
    (weaker (λ (one : Row). P (name_of one).table ≡ true) (λ (one : Row). (name_of one).table ≢ (name_of row).table)
    (λ one so same. not_both so (ap P same ∙ is)) sent own))
    rest other

-- ---- the graves are settled when the changes are read
abbrev is_grave_table : Table → Bool
is_grave_table tables.NoteGrave = true
is_grave_table tables.CardGrave = true
is_grave_table tables.DeckGrave = true
is_grave_table table = false

abbrev is_sent_first : Table → Bool
is_sent_first tables.Review = false
is_sent_first tables.Card = false
is_sent_first tables.Note = false
is_sent_first table = true

abbrev is_after_reviews : Table → Bool
is_after_reviews tables.Review = false
is_after_reviews table = true

abbrev is_after_cards : Table → Bool
is_after_cards tables.Card = false
is_after_cards table = true

drop_apart : (n : ℕ) (list : List Row) → AreApart list → AreApart (drop n list)
drop_apart zero list apart = apart
drop_apart (suc n) [] apart = tt
drop_apart (suc n) (row ∷ more) apart = drop_apart n more apart.1

module _ (c s : Collection) (may : MaySync c s) where
  abbrev names_at : List Ask → List Name
  names_at asked = names_of (all_brought asked).rows

  graves_named : names_at (planned_graves c s) ≡ names_of (device_graves c s may)
  graves_named = ap (λ (r : Received). names_of r.rows) (brought_graves c s may)

  pub changes_left : wanted_changes Unsent (settled_under s.head.usn (names_at (planned_graves c s)) (device_rows c s (planned_graves c s)))
      ≡ wanted_changes Unsent (device_rows c s (planned_graves c s))
  changes_left =
      let held : Rows = device_rows c s (planned_graves c s) in
      let named : AreNamed (get held) = device_named c s may (planned_graves c s) in
      let checked : AreChecked (get held) = device_checked c s may (planned_graves c s) (checked_graves c s may) in
      let first : Rows = device_rows c s (planned_start c) in
      ap (λ (names : List Name). wanted_changes Unsent (settled_under s.head.usn names held)) graves_named
      ∙ three_left s.head.usn (names_of (device_graves c s may)) tables.NoteType tables.Deck tables.Options held may.committed.head.usn.low named
      ∙ others_stay (names_of (device_graves c s may)) (wanted_changes Unsent held)
      (apart_by is_grave_table (device_graves c s may) (wanted_changes Unsent held)
      (of_tables is_grave_table true tables.NoteGrave tables.CardGrave tables.DeckGrave Unsent first (device_named c s may (planned_start c))
      (device_checked c s may (planned_start c) (checked_start c s may)) refl refl refl)
      (of_tables is_grave_table false tables.NoteType tables.Deck tables.Options Unsent held named checked refl refl refl))

  -- ---- the graves and the changes are settled when the chunks are read
  chunks_named : names_at (planned_chunks c s) ≡ names_of (device_graves c s may ++ device_types c s may)
  chunks_named = ap (λ (r : Received). names_of r.rows) (brought_chunks c s may ∙ brought_changes c s may)

  abbrev held_then : Rows
  held_then = device_rows c s (planned_chunks c s)

  named_then : AreNamed (get held_then)
  named_then = device_named c s may (planned_chunks c s)

  checked_then : AreChecked (get held_then)
  checked_then = device_checked c s may (planned_chunks c s) (checked_chunks c s may)

  first_rows : AllByRecursion (λ (row : Row). is_sent_first (name_of row).table ≡ true) (device_graves c s may ++ device_types c s may)
  first_rows =
      all_append (λ (row : Row). is_sent_first (name_of row).table ≡ true) (device_graves c s may) (device_types c s may)
      (of_tables is_sent_first true tables.NoteGrave tables.CardGrave tables.DeckGrave Unsent (device_rows c s (planned_start c)) (device_named c s may (planned_start c))
      (device_checked c s may (planned_start c) (checked_start c s may)) refl refl refl)
      (of_tables is_sent_first true tables.NoteType tables.Deck tables.Options Unsent (device_rows c s (planned_graves c s)) (device_named c s may (planned_graves c s))
      (device_checked c s may (planned_graves c s) (checked_graves c s may)) refl refl refl)

  pub pushes_left : wanted_in_chunks Unsent (rows_once_sent c s (planned_chunks c s)) ≡ rows_to_push c s
  pushes_left =
      ap (λ (names : List Name). wanted_in_chunks Unsent (settled_under s.head.usn names held_then)) chunks_named
      ∙ three_left s.head.usn (names_of (device_graves c s may ++ device_types c s may)) tables.Review tables.Card tables.Note held_then may.committed.head.usn.low named_then
      ∙ others_stay (names_of (device_graves c s may ++ device_types c s may)) (rows_to_push c s)
      (apart_by is_sent_first (device_graves c s may ++ device_types c s may) (rows_to_push c s) first_rows
      (of_tables is_sent_first false tables.Review tables.Card tables.Note Unsent held_then named_then checked_then refl refl refl))

  -- ---- one chunk more is settled
  one_apart : (table : Table) → AreApart (wanted_past table Unsent (pos 0) held_then)
  one_apart table = ascending_apart table (pos 0) (wanted_past table Unsent (pos 0) held_then) (parts_ascend table Unsent held_then named_then)

  rows_of_table : (P : Table → Bool) (v : Bool) (table : Table) → P table ≡ v → AllByRecursion (λ (row : Row). P (name_of row).table ≡ v) (wanted_past table Unsent (pos 0) held_then)
  rows_of_table P v table is =
      weaker (Stands table Unsent held_then) (λ (row : Row). P (name_of row).table ≡ v) (of_table P v table Unsent held_then is)
      (wanted_past table Unsent (pos 0) held_then) (all_stand table Unsent held_then named_then checked_then)

  list_apart : AreApart (rows_to_push c s)
  list_apart =
      let reviews : List Row = wanted_past tables.Review Unsent (pos 0) held_then in
      let cards : List Row = wanted_past tables.Card Unsent (pos 0) held_then in
      let notes : List Row = wanted_past tables.Note Unsent (pos 0) held_then in
      apart_append reviews (cards ++ notes) (one_apart tables.Review)
      (apart_append cards notes (one_apart tables.Card) (one_apart tables.Note)
      (apart_by is_after_cards notes cards (rows_of_table is_after_cards true tables.Note refl) (rows_of_table is_after_cards false tables.Card refl)))
      (apart_by is_after_reviews (cards ++ notes) reviews
      (all_append (λ (row : Row). is_after_reviews (name_of row).table ≡ true) cards notes (rows_of_table is_after_reviews true tables.Card refl)
      (rows_of_table is_after_reviews true tables.Note refl))
      (rows_of_table is_after_reviews false tables.Review refl))

  slice_keeps : (k : ℕ) → chunk_rows (chunk_of (slice k (rows_to_push c s))) ≡ slice k (rows_to_push c s)
  slice_keeps k =
      chunk_keeps (slice k (rows_to_push c s))
      (slice_of_three (Made rows.Review) (Made rows.Card) (Made rows.Note) (rows_to_push c s) (chunk_rows_of Unsent held_then named_then checked_then) k)

  -- what is left once one chunk more was settled
  pub left_after : (asked : List Ask) (k : ℕ) (part : List Row) → part ≡ slice k (rows_to_push c s)
      → rows_once_sent c s (asked ++ asks.ApplyChunk (chunk_of part) ∷ []) ≡ settled_under s.head.usn (names_of part) (rows_once_sent c s asked)
  left_after asked k part is =
      let ask : Ask = asks.ApplyChunk (chunk_of part) in
      let keeps : chunk_rows (chunk_of part) ≡ part = subst (λ (l : List Row). chunk_rows (chunk_of l) ≡ l) (sym is) (slice_keeps k) in
      ap (λ (r : Received). settled_under s.head.usn (names_of r.rows) held_then) (brought_more asked ask)
      ∙ ap (λ (names : List Name). settled_under s.head.usn names held_then) (map-append (λ (row : Row). name_of row) (all_brought asked).rows (brought ask).rows)
      ∙ settled_append s.head.usn (names_at asked) (names_of (chunk_rows (chunk_of part))) held_then
      ∙ ap (λ (l : List Row). settled_under s.head.usn (names_of l) (rows_once_sent c s asked)) keeps

  -- what lies ahead of the next place stays as it was
  pub ahead_stays : (asked : List Ask) (k : ℕ) (next : Name) (part rest : List Row) → part ≡ slice k (rows_to_push c s)
      → part ++ rest ≡ drop (250 * k) (rows_to_push c s) → ahead_of Unsent next (rows_once_sent c s asked) ≡ rest
      → ahead_of Unsent next (rows_once_sent c s (asked ++ asks.ApplyChunk (chunk_of part) ∷ [])) ≡ rest
  ahead_stays asked k next part rest is whole ahead =
      ap (ahead_of Unsent next) (left_after asked k part is)
      ∙ ahead_left s.head.usn (names_of part) next (rows_once_sent c s asked) may.committed.head.usn.low (settled_named s.head.usn (names_at asked) held_then named_then)
      ∙ ap (filter (is_left (names_of part))) ahead
      ∙ rest_stays part rest (subst AreApart (sym whole) (drop_apart (250 * k) (rows_to_push c s) list_apart))

-- ---- how many rows there are
abbrev counted : ℕ → ℕ → ℕ → ℕ → ℕ → ℕ → ℕ → SanityCounts
counted cards notes reviews graves models decks options = record {
  cards = cards;
  notes = notes;
  reviews = reviews;
  graves = graves;
  models = models;
  decks = decks;
  options = options;
}

pub counts_same : (usn : ℤ) (names : List Name) (held : Rows) → counts_of (settled_under usn names held) ≡ counts_of held
counts_same usn names held =
    ap (λ (n : ℕ). counted n (old tables.Note) (old tables.Review) (old tables.NoteGrave + old tables.CardGrave + old tables.DeckGrave) (old tables.NoteType) (old tables.Deck) (old tables.Options)) (same tables.Card)
    ∙ ap (λ (n : ℕ). counted (row_count tables.Card held) n (old tables.Review) (old tables.NoteGrave + old tables.CardGrave + old tables.DeckGrave) (old tables.NoteType) (old tables.Deck) (old tables.Options)) (same tables.Note)
    ∙ ap (λ (n : ℕ). counted (row_count tables.Card held) (row_count tables.Note held) n (old tables.NoteGrave + old tables.CardGrave + old tables.DeckGrave) (old tables.NoteType) (old tables.Deck) (old tables.Options)) (same tables.Review)
    ∙ ap (λ (n : ℕ). counted (row_count tables.Card held) (row_count tables.Note held) (row_count tables.Review held) n (old tables.NoteType) (old tables.Deck) (old tables.Options)) graves
    ∙ ap (λ (n : ℕ). counted (row_count tables.Card held) (row_count tables.Note held) (row_count tables.Review held) (all_graves held) n (old tables.Deck) (old tables.Options)) (same tables.NoteType)
    ∙ ap (λ (n : ℕ). counted (row_count tables.Card held) (row_count tables.Note held) (row_count tables.Review held) (all_graves held) (row_count tables.NoteType held) n (old tables.Options)) (same tables.Deck)
    ∙ ap (counted (row_count tables.Card held) (row_count tables.Note held) (row_count tables.Review held) (all_graves held) (row_count tables.NoteType held) (row_count tables.Deck held)) (same tables.Options)
  where
    old : Table → ℕ
    old table = row_count table (settled_under usn names held)

    same : (table : Table) → row_count table (settled_under usn names held) ≡ row_count table held
    same table = counts_settled usn names held table

    all_graves : Rows → ℕ
    all_graves rows = row_count tables.NoteGrave rows + row_count tables.CardGrave rows + row_count tables.DeckGrave rows

    graves : all_graves (settled_under usn names held) ≡ all_graves held
    graves =
        let a = same tables.NoteGrave in
        let b = same tables.CardGrave in
        let d = same tables.DeckGrave in
        omega (arith, a, b, d)

-- ---- all of it is settled
-- whether changes were sent
none_in_graves : (parts : List (List Row)) → list_any is_changes (map (λ (part : List Row). asks.ApplyGraves (grave_ids part)) parts) ≡ false
none_in_graves [] = refl
none_in_graves (part ∷ more) = none_in_graves more

pub no_changes_yet : (c s : Collection) → list_any is_changes (planned_graves c s) ≡ false
no_changes_yet c s = none_in_graves (filled_slices (wanted_graves Unsent (device_rows c s (planned_start c))))

any_first : (xs ys : List Ask) → list_any is_changes xs ≡ true → list_any is_changes (xs ++ ys) ≡ true
any_first [] ys is = absurd (not_both is refl)
any_first (x ∷ xs) ys is = by (is_changes x) (any_first xs ys) is
  where
    by : (b : Bool) → (list_any is_changes xs ≡ true → list_any is_changes (xs ++ ys) ≡ true) → (b || list_any is_changes xs) ≡ true → (b || list_any is_changes (xs ++ ys)) ≡ true
    by true so one = refl
    by false so one = so one

any_last : (xs : List Ask) (ask : Ask) → is_changes ask ≡ true → list_any is_changes (xs ++ ask ∷ []) ≡ true
any_last [] ask is = ap (λ (b : Bool). b || false) is
any_last (x ∷ xs) ask is = ap (λ (b : Bool). is_changes x || b) (any_last xs ask is) ∙ or_true (is_changes x)
  where
    or_true : (b : Bool) → (b || true) ≡ true
    or_true true = refl
    or_true false = refl

pub changes_sent : (c s : Collection) → list_any is_changes (planned_check c s) ≡ true
changes_sent c s =
    any_first (planned_pushes c s) _ (any_first (planned_chunks c s) _ (any_first (planned_changes c s) _ (any_last (planned_graves c s) _ refl)))

-- a row that was sent has one of the names
among_sent : (list : List Row) (row : Row) → Contains list row → is_among (names_of list) (name_of row) ≡ true
among_sent [] row (k, within, is) = absurd (omega (arith, within))
among_sent (first ∷ more) row (zero, within, is) =
    ap (λ (b : Bool). b || is_among (names_of more) (name_of row)) (ap (λ (r : Row). is_name (name_of row) (name_of r)) is ∙ (eq_by_cmp_equiv names_total).refl (name_of row))
among_sent (first ∷ more) row (suc k, within, is) =
    ap (λ (b : Bool). is_name (name_of row) (name_of first) || b) (among_sent more row (k, omega (arith, within), is)) ∙ or_true (is_name (name_of row) (name_of first))
  where
    or_true : (b : Bool) → (b || true) ≡ true
    or_true true = refl
    or_true false = refl

module _ (c s : Collection) (may : MaySync c s) where
  abbrev usn : ℤ
  usn = s.head.usn

  abbrev at_end : Rows
  at_end = all_taken Device usn (all_replied s (planned_check c s)).rows c.rows

  abbrev given_end : Rows
  given_end = all_taken Device usn (given_by_sync c s).rows c.rows

  end_is : at_end ≡ given_end
  end_is = same_rows c s (planned_check c s) (asks.Finish ∷ []) usn c.rows may refl

  -- what was not sent yet at the end was sent
  was_sent : (name : Name) (row : Row) → get given_end name ≡ Some row → is_pending row ≡ true → is_among (names_of (sent_by_sync c s).rows) name ≡ true
  was_sent name row is pending =
      let before : get c.rows name ≡ Some row = pending_was_held Device usn (given_by_sync c s).rows c.rows name row may.committed.head.usn.low is pending in
      let wanted : wanted_under Unsent (row_under c) name ≡ Some row = ap (only_wanted Unsent) before ∙ is_only Unsent row pending in
      ap (is_among (names_of (sent_by_sync c s).rows)) (sym (may.named name row before))
      ∙ among_sent (sent_by_sync c s).rows row ((device_sends c s may).whole name row wanted is)

  cell_settled : (name : Name) → get (settled_under usn (names_of (sent_by_sync c s).rows) given_end) name ≡ option_map (settled usn) (get given_end name)
  cell_settled name =
      all_cells usn (names_of (sent_by_sync c s).rows) given_end name ∙ by (is_among (names_of (sent_by_sync c s).rows) name) refl (get given_end name) refl
    where
      alone : (row : Row) (b : Bool) → is_pending row ≡ b → (is_pending row ≡ true → ⊥) → row ≡ settled usn row
      alone row true is never = absurd (never is)
      alone row false is never = sym (ap (λ (b : Bool). if b then with_usn row usn else row) is)

      by : (b : Bool) → is_among (names_of (sent_by_sync c s).rows) name ≡ b → (o : Option Row) → get given_end name ≡ o → settled_if usn b o ≡ option_map (settled usn) o
      by true among o is = refl
      by false among None is = refl
      by false among (Some row) is =
          ap (λ (r : Row). Some r) (alone row (is_pending row) refl (λ pending. not_both (was_sent name row is pending) among))

  pub held_settled : IsSettledTo usn (received usn (all_replied s (planned_check c s)) (held_by c))
      (taken_and_settled usn (all_replied s (planned_check c s)) (planned_check c s) (held_by c))
  held_settled =
      let before : Holding = received usn (all_replied s (planned_check c s)) (held_by c) in
      record {
        rows = λ name.
            ap (λ (rows : Rows). get rows name) (rows_after usn (planned_check c s) before)
            ∙ ap (λ (rows : Rows). get (settled_under usn (names_of (sent_by_sync c s).rows) rows) name) end_is
            ∙ cell_settled name
            ∙ ap (λ (rows : Rows). option_map (settled usn) (get rows name)) (sym end_is);
        head = head_after usn (planned_check c s) before ∙ ap (λ (b : Bool). tags_if usn b before.head) (changes_sent c s);
      }

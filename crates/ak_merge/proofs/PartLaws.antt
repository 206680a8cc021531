-- Rows that are taken part by part, and what a list of wanted rows has.
use Rattle.std.specs.Prelude.{◌≡◌, ◌≢◌, ◌↔◌, ℕ, zero, suc, ℤ, pos, negsuc, ◌≤ℤ◌, true, false, not, ◌&&◌, ◌==◌, if◌then◌else◌, int_lt, IsTrue, List, [], ◌∷◌, ◌++◌, map, filter, Option, Some, None, is_some}
use Rattle.std.proofs.Common.{refl, sym, ap, subst, ◌∙◌, arith}
use Rattle.std.proofs.lemmas.Int.{ints}
use Rattle.std.proofs.lemmas.List.Elements.{All-contains, All-from_recursion}
use Rattle.std.proofs.lemmas.Option.{none-some, same_Some}
use Rattle.std.specs.Cmp.{first_so, signed_Decides, unsigned_Decides}
use Rattle.std.specs.FinMap.{get, insert, remove, entries}
use Rattle.std.specs.List.{AllByRecursion, Contains}
use Rattle.std.specs.Option.{option_map, option_map_or}
use Rattle.ak_base.proofs.RowFacts.{name_of-with_usn, stamp_of-with_usn, usn_of-with_usn}
use Rattle.ak_base.specs.Names.{table_place}
use Rattle.ak_base.specs.Rows.{buried_of, name_of, stamp_of, usn_of, with_usn, IsChecked}
use Rattle.ak_base.specs.declared.names.Name.{Name}
use Rattle.ak_base.specs.declared.names.Table.{Table}
use Rattle.ak_base.specs.declared.names.Table.TheVariants as tables
use Rattle.ak_base.specs.declared.rows.Row.{Row}
use Rattle.ak_base.specs.declared.rows.Row.TheVariants as rows
use Rattle.ak_keep.specs.Collections.{Rows, is_past, is_pending, is_wanted, wanted_past}
use Rattle.ak_keep.specs.declared.keepers.Wanted.{Wanted}
use Rattle.ak_keep.proofs.RowsByName.{all_gets, entries_found}
use Rattle.ak_merge.proofs.CommitLaws.{each_by, of_some, when_some, all_some}
use Rattle.ak_merge.proofs.Finding.{id_over_zero}
use Rattle.ak_merge.proofs.TagLaws.{weaker_all}
use Rattle.ak_merge.proofs.TakingLaws.{received_under, newest_in, all_taken_at}
use Rattle.ak_keep.specs.Graves.{RowsByName, grave_under, is_dead}
use Rattle.ak_merge.specs.Holdings.{AreNamed, AreChecked}
use Rattle.ak_base.specs.Tables.{graves_of}
use Rattle.ak_merge.specs.Exchanges.{StandsWanted}
use Rattle.ak_merge.specs.Takings.{beats_held, takes, buried, taken, all_taken}
use Rattle.ak_merge.specs.declared.sides.Side.{Side}
use Rattle.ak_merge.specs.declared.sides.Side.TheVariants.{Device, Server}

-- ---- numbers
buried_of-with_usn : (row : Row) (other : ℤ) → buried_of (with_usn row other) ≡ buried_of row
buried_of-with_usn (rows.Note n) other = refl
buried_of-with_usn (rows.Card c) other = refl
buried_of-with_usn (rows.Review r) other = refl
buried_of-with_usn (rows.NoteType t) other = refl
buried_of-with_usn (rows.Deck d) other = refl
buried_of-with_usn (rows.Options o) other = refl
buried_of-with_usn (rows.Grave g) other = refl

newer_numberless : (side : Side) (held : Option ℤ) (row : Row) (other : ℤ) → beats_held side held (with_usn row other) ≡ beats_held side held row
newer_numberless side None row other = refl
newer_numberless Server (Some stamp) row other = ap (int_lt stamp) (stamp_of-with_usn row other)
newer_numberless Device (Some stamp) row other =
    ap (λ (n : Option Name). not (is_some n) && not (int_lt (stamp_of (with_usn row other)) stamp)) (buried_of-with_usn row other)
    ∙ ap (λ s. not (is_some (buried_of row)) && not (int_lt s stamp)) (stamp_of-with_usn row other)

takes_numberless : (side : Side) (at : RowsByName) (row : Row) (other : ℤ) → takes side at (with_usn row other) ≡ takes side at row
takes_numberless side at row other =
    ap (λ (n : Name). not (is_dead at n) && beats_held side (option_map stamp_of (at n)) (with_usn row other)) (name_of-with_usn row other)
    ∙ ap (λ b. not (is_dead at (name_of row)) && b) (newer_numberless side (option_map stamp_of (at (name_of row))) row other)

buried_numberless : (row : Row) (other : ℤ) (held : Rows) → buried (with_usn row other) held ≡ buried row held
buried_numberless row other held = ap (λ (n : Option Name). option_map_or (λ (name : Name). remove held name) n held) (buried_of-with_usn row other)

pub numbered_again : (row : Row) (other usn : ℤ) → with_usn (with_usn row other) usn ≡ with_usn row usn
numbered_again (rows.Note n) other usn = refl
numbered_again (rows.Card c) other usn = refl
numbered_again (rows.Review r) other usn = refl
numbered_again (rows.NoteType t) other usn = refl
numbered_again (rows.Deck d) other usn = refl
numbered_again (rows.Options o) other usn = refl
numbered_again (rows.Grave g) other usn = refl

one_numberless : (side : Side) (usn other : ℤ) (row : Row) (held : Rows) → taken side usn (with_usn row other) held ≡ taken side usn row held
one_numberless side usn other row held =
    ap (λ b. if b then insert (buried (with_usn row other) held) (name_of (with_usn row other)) (with_usn (with_usn row other) usn) else buried (with_usn row other) held) (takes_numberless side (get held) row other)
    ∙ ap (λ (r : Rows). if takes side (get held) row then insert r (name_of (with_usn row other)) (with_usn (with_usn row other) usn) else r) (buried_numberless row other held)
    ∙ ap (λ (n : Name). if takes side (get held) row then insert (buried row held) n (with_usn (with_usn row other) usn) else buried row held) (name_of-with_usn row other)
    ∙ ap (λ (r : Row). if takes side (get held) row then insert (buried row held) (name_of row) r else buried row held) (numbered_again row other usn)

-- the number of a row that comes makes no difference
pub numbers_make_no_difference : (side : Side) (usn : ℤ) (number : Row → ℤ) (came : List Row) (held : Rows) → all_taken side usn (map (λ row. with_usn row (number row)) came) held ≡ all_taken side usn came held
numbers_make_no_difference side usn number [] held = refl
numbers_make_no_difference side usn number (row ∷ more) held =
    ap (all_taken side usn (map (λ row. with_usn row (number row)) more)) (one_numberless side usn (number row) row held)
    ∙ numbers_make_no_difference side usn number more (taken side usn row held)

-- nor do the numbers of two lists that are the same but for these
pub same_but_numbers : (side : Side) (usn : ℤ) (one other : List Row) (held : Rows) → map (λ row. with_usn row (pos 0)) one ≡ map (λ row. with_usn row (pos 0)) other
    → all_taken side usn one held ≡ all_taken side usn other held
same_but_numbers side usn one other held same =
    sym (numbers_make_no_difference side usn (λ row. pos 0) one held) ∙ ap (λ (came : List Row). all_taken side usn came held) same ∙ numbers_make_no_difference side usn (λ row. pos 0) other held

-- ---- parts
-- to take all is to take the rest after the front
pub parts_add_up : (side : Side) (usn : ℤ) (front rest : List Row) (held : Rows) → all_taken side usn (front ++ rest) held ≡ all_taken side usn rest (all_taken side usn front held)
parts_add_up side usn [] rest held = refl
parts_add_up side usn (row ∷ more) rest held = parts_add_up side usn more rest (taken side usn row held)

-- a row that comes never stands with another number than the one that is taken with
stood_before : (side : Side) (usn : ℤ) (came : List Row) (held : Rows) (name : Name) (row : Row) → usn_of row ≢ usn → get (all_taken side usn came held) name ≡ Some row → get held name ≡ Some row
stood_before side usn came held name row differ is =
    let P : Row → Type 0 = λ x. usn_of x ≢ usn → get held name ≡ Some x in
    of_some P (received_under side usn (get held) (newest_in side came) name) row
    (each_by P side usn (get held name) (grave_under (get held) name) (newest_in side came name) (grave_under (newest_in side came) name)
    (when_some P (get held name) (λ x there _. there))
    (all_some (λ x. P (with_usn x usn)) (λ x other. absurd (other (usn_of-with_usn x usn))) (newest_in side came name)))
    (sym (all_taken_at side usn came held name) ∙ is) differ

-- so such a row that stands in the end stood after the front
pub rows_stand_between : (side : Side) (usn : ℤ) (front rest : List Row) (held : Rows) (name : Name) (row : Row) → usn_of row ≢ usn → get (all_taken side usn (front ++ rest) held) name ≡ Some row
    → get (all_taken side usn front held) name ≡ Some row
rows_stand_between side usn front rest held name row differ after =
    stood_before side usn rest (all_taken side usn front held) name row differ (ap (λ (rows : Rows). get rows name) (sym (parts_add_up side usn front rest held)) ∙ after)

-- what is pending after rows came was pending before
pub pending_was_held : (side : Side) (usn : ℤ) (came : List Row) (held : Rows) (name : Name) (row : Row) → pos 0 ≤ℤ usn → get (all_taken side usn came held) name ≡ Some row → IsTrue (is_pending row)
    → get held name ≡ Some row
pending_was_held side usn came held name row low is pending =
    let unsent : usn_of row ≡ negsuc 0 = (signed_Decides (usn_of row) (negsuc 0)).0 pending in
    stood_before side usn came held name row (λ same. omega (arith, ints, unsent, same, low)) is

-- ---- the wanted rows of a table
here : (x : Row) (xs : List Row) → Contains (x ∷ xs) x
here x xs = (zero, omega arith, refl)

there : (y x : Row) (xs : List Row) → Contains xs x → Contains (y ∷ xs) x
there y x xs (k, within, is) = (suc k, omega (arith, within), is)

-- the rows of entries that are of a table past an id and are wanted
abbrev listed : Table → Wanted → List (Name × Row) → List Row
listed table want es = filter (is_wanted want) (map (λ (entry : Name × Row). entry.1) (filter (λ (entry : Name × Row). is_past table (pos 0) entry.0) es))

-- an entry that is wanted is listed
abbrev IsListed : Table → Wanted → List (Name × Row) → Name × Row → Type 0
IsListed table want es entry = is_past table (pos 0) entry.0 ≡ true → IsTrue (is_wanted want entry.1) → Contains (listed table want es) entry.1

listed_more : (table : Table) (want : Wanted) (e : Name × Row) (es : List (Name × Row)) (x : Row) → Contains (listed table want es) x → Contains (listed table want (e ∷ es)) x
listed_more table want e es x has =
    let more = filter (λ (entry : Name × Row). is_past table (pos 0) entry.0) es in
    elim (is_past table (pos 0) e.0) as (λ b. Contains (filter (is_wanted want) (map (λ (entry : Name × Row). entry.1) (if b then e ∷ more else more))) x) [
      | true ↦ elim (is_wanted want e.1) as (λ b. Contains (if b then e.1 ∷ listed table want es else listed table want es) x) [ true ↦ there e.1 x (listed table want es) has | false ↦ has ]
      | false ↦ has
    ]

first_listed : (table : Table) (want : Wanted) (e : Name × Row) (es : List (Name × Row)) → IsListed table want (e ∷ es) e
first_listed table want e es past wanted = rw (past, wanted) (here e.1 (listed table want es))

each_listed : (table : Table) (want : Wanted) (es : List (Name × Row)) → AllByRecursion (IsListed table want es) es
each_listed table want [] = tt
each_listed table want (e ∷ es) = (
  first_listed table want e es,
  weaker_all (IsListed table want es) (IsListed table want (e ∷ es)) (λ entry listed past wanted. listed_more table want e es entry.1 (listed past wanted)) es (each_listed table want es),
)

-- what is listed is wanted, and is an entry of the table
each_wanted : (P : Name × Row → Type 0) (Q : Row → Type 0) (table : Table) (want : Wanted) → ((entry : Name × Row) → P entry → is_past table (pos 0) entry.0 ≡ true → IsTrue (is_wanted want entry.1) → Q entry.1)
    → (es : List (Name × Row)) → AllByRecursion P es → AllByRecursion Q (listed table want es)
each_wanted P Q table want so [] all = tt
each_wanted P Q table want so (e ∷ es) all =
    let more = filter (λ (entry : Name × Row). is_past table (pos 0) entry.0) es in
    elim (is_past table (pos 0) e.0) as (λ b. is_past table (pos 0) e.0 ≡ b → AllByRecursion Q (filter (is_wanted want) (map (λ (entry : Name × Row). entry.1) (if b then e ∷ more else more)))) [
      | true ↦ λ past. elim (is_wanted want e.1) as (λ b. is_wanted want e.1 ≡ b → AllByRecursion Q (if b then e.1 ∷ listed table want es else listed table want es)) [
        | true ↦ λ wanted. (so e all.0 past wanted, each_wanted P Q table want so es all.1)
        | false ↦ λ _. each_wanted P Q table want so es all.1
      ] refl
      | false ↦ λ _. each_wanted P Q table want so es all.1
    ] refl

pub same_place : (one other : Table) → (table_place one == table_place other) ≡ true → one ≡ other
same_place one other is = place_back one ∙ ap table_at (nat_same (table_place one) (table_place other) is) ∙ sym (place_back other)
  where
    table_at : ℕ → Table
    table_at zero = tables.Note
    table_at (suc zero) = tables.Card
    table_at (suc (suc zero)) = tables.Review
    table_at (suc (suc (suc zero))) = tables.NoteType
    table_at (suc (suc (suc (suc zero)))) = tables.Deck
    table_at (suc (suc (suc (suc (suc zero))))) = tables.Options
    table_at (suc (suc (suc (suc (suc (suc zero)))))) = tables.NoteGrave
    table_at (suc (suc (suc (suc (suc (suc (suc zero))))))) = tables.CardGrave
    table_at (suc (suc (suc (suc (suc (suc (suc (suc n)))))))) = tables.DeckGrave

    place_back : (table : Table) → table ≡ table_at (table_place table)
    place_back tables.Note = refl
    place_back tables.Card = refl
    place_back tables.Review = refl
    place_back tables.NoteType = refl
    place_back tables.Deck = refl
    place_back tables.Options = refl
    place_back tables.NoteGrave = refl
    place_back tables.CardGrave = refl
    place_back tables.DeckGrave = refl

    nat_same : (m n : ℕ) → (m == n) ≡ true → m ≡ n
    nat_same m n is = (unsigned_Decides m n).0 is

pub past_zero : (table : Table) (row : Row) → (name_of row).table ≡ table → IsChecked row → is_past table (pos 0) (name_of row) ≡ true
past_zero table row is checked =
    ap (λ (own : Table). (table_place own == table_place table) && int_lt (pos 0) (name_of row).id) is
    ∙ ap (λ b. b && int_lt (pos 0) (name_of row).id) (itself (table_place table)) ∙ id_over_zero row checked
  where
    itself : (n : ℕ) → (n == n) ≡ true
    itself n = (unsigned_Decides n n).1 refl

-- the wanted rows of a table from its start are exactly those that stand and are wanted
pub wanted_rows_are_listed : (table : Table) (want : Wanted) (held : Rows) (row : Row) → AreNamed (get held) → AreChecked (get held)
    → Contains (wanted_past table want (pos 0) held) row ↔ StandsWanted table want held row
wanted_rows_are_listed table want held row are_named checked = (
  (λ has. All-contains (StandsWanted table want held) (wanted_past table want (pos 0) held) row
      (All-from_recursion (StandsWanted table want held) (wanted_past table want (pos 0) held)
      (each_wanted (λ entry. get held entry.0 ≡ Some entry.1) (StandsWanted table want held) table want (λ entry is past wanted.
      let bears : name_of entry.1 ≡ entry.0 = are_named entry.0 entry.1 is in
      record {
        of_table = ap (λ (n : Name). n.table) bears ∙ same_place entry.0.table table (first_so _ (int_lt (pos 0) entry.0.id) past);
        wanted = wanted;
        stands = ap (get held) bears ∙ is;
      }) (entries held) (entries_found held))) has),
  (λ stands. all_gets (IsListed table want (entries held)) held (name_of row) row (each_listed table want (entries held)) stands.stands
      (past_zero table row stands.of_table (checked (name_of row) row stands.stands)) stands.wanted),
)

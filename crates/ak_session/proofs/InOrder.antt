-- Rows of three kinds, one kind after the other, and the messages that bring them.
use Rattle.std.specs.Prelude.{◌≡◌, ℕ, zero, suc, ℤ, pos, negsuc, Bool, true, false, ◌==◌, if◌then◌else◌, List, [], ◌∷◌, ◌++◌, map, filter, take, drop, Option, Some, None}
use Rattle.std.specs.Cmp.{unsigned_Decides}
use Rattle.std.specs.List.{AllByRecursion, filter_map, cons_option}
use Rattle.std.proofs.Common.{refl, sym, ap, ◌∙◌}
use Rattle.std.proofs.lemmas.List.{append-nil, map-append}
use Rattle.std.proofs.lemmas.List.Elements.{filter-append, filter_map-append}
use Rattle.ak_base.proofs.Burials.{grave_table_by}
use Rattle.ak_base.specs.Graves.{grave_table}
use Rattle.ak_base.specs.Names.{table_place}
use Rattle.ak_base.specs.Rows.{IsChecked, name_of, with_usn}
use Rattle.ak_base.specs.Tables.{graves_of, grave_code}
use Rattle.ak_base.specs.declared.names.Table.{Table}
use Rattle.ak_base.specs.declared.names.Table.TheVariants as tables
use Rattle.ak_base.specs.declared.rows.Row.{Row}
use Rattle.ak_base.specs.declared.rows.Row.TheVariants as rows
use Rattle.ak_merge.proofs.GraveLaws.{graves_are_made_anew}
use Rattle.ak_merge.specs.Commits.{Received}
use Rattle.ak_keep.specs.Lookups.{as_note, as_card, as_note_type, as_deck, as_options}
use Rattle.ak_session.specs.Messages.{ids_in, grave_ids, grave_with, graves_from, as_review, chunk_of, chunk_rows, changes_of, change_rows}
use Rattle.ak_session.proofs.Ranges.{not_both, all_append}

-- ---- one kind after the other
-- a list of rows of one kind, then of another, then of a third
pub record InThree (P Q R : Row → Type 0) (list : List Row) : Type 0 where
  pub first : List Row
  pub second : List Row
  pub third : List Row
  pub is : list ≡ first ++ (second ++ third)
  pub ones : AllByRecursion P first
  pub twos : AllByRecursion Q second
  pub threes : AllByRecursion R third

take_split : (n : ℕ) (xs ys : List Row) → (m : ℕ) × (take n (xs ++ ys) ≡ take n xs ++ take m ys)
take_split zero xs ys = (zero, refl)
take_split (suc n) [] ys = (suc n, refl)
take_split (suc n) (x ∷ xs) ys = let rest = take_split n xs ys in (rest.0, ap (λ (l : List Row). x ∷ l) rest.1)

drop_split : (n : ℕ) (xs ys : List Row) → (m : ℕ) × (drop n (xs ++ ys) ≡ drop n xs ++ drop m ys)
drop_split zero xs ys = (zero, refl)
drop_split (suc n) [] ys = (suc n, refl)
drop_split (suc n) (x ∷ xs) ys = let rest = drop_split n xs ys in (rest.0, rest.1)

pub all_take : {X : Type 0} (P : X → Type 0) (n : ℕ) (xs : List X) → AllByRecursion P xs → AllByRecursion P (take n xs)
all_take P zero xs all = tt
all_take P (suc n) [] all = tt
all_take P (suc n) (x ∷ xs) all = (all.0, all_take P n xs all.1)

pub all_drop : {X : Type 0} (P : X → Type 0) (n : ℕ) (xs : List X) → AllByRecursion P xs → AllByRecursion P (drop n xs)
all_drop P zero xs all = all
all_drop P (suc n) [] all = tt
all_drop P (suc n) (x ∷ xs) all = all_drop P n xs all.1

module _ (P Q R : Row → Type 0) where
  pub three_taken : (n : ℕ) (list : List Row) → InThree P Q R list → InThree P Q R (take n list)
  three_taken n list three =
      let one = take_split n three.first (three.second ++ three.third) in
      let other = take_split one.0 three.second three.third in
      record {
        first = take n three.first;
        second = take one.0 three.second;
        third = take other.0 three.third;
        is = ap (take n) three.is ∙ one.1 ∙ ap (λ (l : List Row). take n three.first ++ l) other.1;
        ones = all_take P n three.first three.ones;
        twos = all_take Q one.0 three.second three.twos;
        threes = all_take R other.0 three.third three.threes;
      }

  pub three_dropped : (n : ℕ) (list : List Row) → InThree P Q R list → InThree P Q R (drop n list)
  three_dropped n list three =
      let one = drop_split n three.first (three.second ++ three.third) in
      let other = drop_split one.0 three.second three.third in
      record {
        first = drop n three.first;
        second = drop one.0 three.second;
        third = drop other.0 three.third;
        is = ap (drop n) three.is ∙ one.1 ∙ ap (λ (l : List Row). drop n three.first ++ l) other.1;
        ones = all_drop P n three.first three.ones;
        twos = all_drop Q one.0 three.second three.twos;
        threes = all_drop R other.0 three.third three.threes;
      }

-- ---- what a message keeps of a kind
kept : {X : Type 0} (read : Row → Option X) (made : X → Row) → ((x : X) → read (made x) ≡ Some x) → (list : List Row) → AllByRecursion (λ (row : Row). (x : X) × (row ≡ made x)) list
    → map made (filter_map read list) ≡ list
kept read made back [] all = refl
kept {X = X} read made back (row ∷ more) all =
    let is : read row ≡ Some all.0.0 = ap read all.0.1 ∙ back all.0.0 in
    ap (λ (o : Option X). map made (cons_option o (filter_map read more))) is
    ∙ ap (λ (r : Row). r ∷ map made (filter_map read more)) (sym all.0.1)
    ∙ ap (λ (l : List Row). row ∷ l) (kept read made back more all.1)

left_out : {X : Type 0} (read : Row → Option X) (list : List Row) → AllByRecursion (λ (row : Row). read row ≡ None) list → filter_map read list ≡ []
left_out read [] all = refl
left_out read (row ∷ more) all = rw all.0 (left_out read more all.1)

-- a row that is made of a value of this kind
abbrev pub Made : {X : Type 0} → (X → Row) → Row → Type 0
Made {X} made row = (x : X) × (row ≡ made x)

none_read : {X Y : Type 0} (read : Row → Option X) (made : Y → Row) → ((y : Y) → read (made y) ≡ None) → (list : List Row) → AllByRecursion (Made made) list → AllByRecursion (λ (row : Row). read row ≡ None) list
none_read read made apart [] all = tt
none_read read made apart (row ∷ more) all = (ap read all.0.1 ∙ apart all.0.0, none_read read made apart more all.1)

-- what a kind that comes first, second or third leaves
first_read : {X : Type 0} (read : Row → Option X) (A B C : List Row) → AllByRecursion (λ (row : Row). read row ≡ None) B → AllByRecursion (λ (row : Row). read row ≡ None) C
    → filter_map read (A ++ (B ++ C)) ≡ filter_map read A
first_read read A B C b c =
    filter_map-append read A (B ++ C)
    ∙ ap (λ l. filter_map read A ++ l) (left_out read (B ++ C) (all_append (λ (row : Row). read row ≡ None) B C b c))
    ∙ append-nil (filter_map read A)

second_read : {X : Type 0} (read : Row → Option X) (A B C : List Row) → AllByRecursion (λ (row : Row). read row ≡ None) A → AllByRecursion (λ (row : Row). read row ≡ None) C
    → filter_map read (A ++ (B ++ C)) ≡ filter_map read B
second_read read A B C a c =
    filter_map-append read A (B ++ C)
    ∙ ap (λ l. l ++ filter_map read (B ++ C)) (left_out read A a)
    ∙ filter_map-append read B C
    ∙ ap (λ l. filter_map read B ++ l) (left_out read C c)
    ∙ append-nil (filter_map read B)

third_read : {X : Type 0} (read : Row → Option X) (A B C : List Row) → AllByRecursion (λ (row : Row). read row ≡ None) A → AllByRecursion (λ (row : Row). read row ≡ None) B
    → filter_map read (A ++ (B ++ C)) ≡ filter_map read C
third_read read A B C a b =
    filter_map-append read A (B ++ C)
    ∙ ap (λ l. l ++ filter_map read (B ++ C)) (left_out read A a)
    ∙ filter_map-append read B C
    ∙ ap (λ l. l ++ filter_map read C) (left_out read B b)

-- the three kinds of a message give the whole list
joined_three : (a b c A B C list : List Row) → list ≡ A ++ (B ++ C) → a ≡ A → b ≡ B → c ≡ C → a ++ (b ++ c) ≡ list
joined_three a b c A B C list is one two three =
    ap (λ (l : List Row). l ++ (b ++ c)) one ∙ ap (λ (l : List Row). A ++ (l ++ c)) two ∙ ap (λ (l : List Row). A ++ (B ++ l)) three ∙ sym is

-- a chunk of rows that are reviews, then cards, then notes has these rows
pub chunk_keeps : (list : List Row) → InThree (Made rows.Review) (Made rows.Card) (Made rows.Note) list → chunk_rows (chunk_of list) ≡ list
chunk_keeps list three =
    let A : List Row = three.first in
    let B : List Row = three.second in
    let C : List Row = three.third in
    joined_three (map rows.Review (filter_map as_review list)) (map rows.Card (filter_map as_card list)) (map rows.Note (filter_map as_note list)) A B C list three.is
    (ap (map rows.Review) (ap (filter_map as_review) three.is ∙ first_read as_review A B C (none_read as_review rows.Card (λ _. refl) B three.twos) (none_read as_review rows.Note (λ _. refl) C three.threes))
    ∙ kept as_review rows.Review (λ _. refl) A three.ones)
    (ap (map rows.Card) (ap (filter_map as_card) three.is ∙ second_read as_card A B C (none_read as_card rows.Review (λ _. refl) A three.ones) (none_read as_card rows.Note (λ _. refl) C three.threes))
    ∙ kept as_card rows.Card (λ _. refl) B three.twos)
    (ap (map rows.Note) (ap (filter_map as_note) three.is ∙ third_read as_note A B C (none_read as_note rows.Review (λ _. refl) A three.ones) (none_read as_note rows.Card (λ _. refl) B three.twos))
    ∙ kept as_note rows.Note (λ _. refl) C three.threes)

-- changes of rows that are note types, then decks, then options have these rows
pub changes_keep : (changed : Received) → InThree (Made rows.NoteType) (Made rows.Deck) (Made rows.Options) changed.rows → change_rows (changes_of changed) ≡ changed.rows
changes_keep changed three =
    let list : List Row = changed.rows in
    let A : List Row = three.first in
    let B : List Row = three.second in
    let C : List Row = three.third in
    joined_three (map rows.NoteType (filter_map as_note_type list)) (map rows.Deck (filter_map as_deck list)) (map rows.Options (filter_map as_options list)) A B C list three.is
    (ap (map rows.NoteType) (ap (filter_map as_note_type) three.is ∙ first_read as_note_type A B C (none_read as_note_type rows.Deck (λ _. refl) B three.twos) (none_read as_note_type rows.Options (λ _. refl) C three.threes))
    ∙ kept as_note_type rows.NoteType (λ _. refl) A three.ones)
    (ap (map rows.Deck) (ap (filter_map as_deck) three.is ∙ second_read as_deck A B C (none_read as_deck rows.NoteType (λ _. refl) A three.ones) (none_read as_deck rows.Options (λ _. refl) C three.threes))
    ∙ kept as_deck rows.Deck (λ _. refl) B three.twos)
    (ap (map rows.Options) (ap (filter_map as_options) three.is ∙ third_read as_options A B C (none_read as_options rows.NoteType (λ _. refl) A three.ones) (none_read as_options rows.Deck (λ _. refl) B three.twos))
    ∙ kept as_options rows.Options (λ _. refl) C three.threes)

-- ---- the kind of a row by its table
pub not_table : (one other : Table) → (table_place one == table_place other) ≡ false → one ≡ other → ⊥
not_table one other differ is =
    let same : (table_place other == table_place other) ≡ true = (unsigned_Decides (table_place other) (table_place other)).1 refl in
    not_both (ap (λ (t : Table). table_place t == table_place other) is ∙ same) differ

not_grave : (kind : ℤ) (other : Table) → (table_place tables.CardGrave == table_place other) ≡ false → (table_place tables.NoteGrave == table_place other) ≡ false
    → (table_place tables.DeckGrave == table_place other) ≡ false → grave_table kind ≡ other → ⊥
not_grave kind other card note deck =
    grave_table_by (λ (t : Table). t ≡ other → ⊥) (not_table tables.CardGrave other card) (not_table tables.NoteGrave other note) (not_table tables.DeckGrave other deck) kind

pub is_review : (row : Row) → (name_of row).table ≡ tables.Review → Made rows.Review row
is_review (rows.Review r) is = (r, refl)
is_review (rows.Grave g) is = absurd (not_grave g.kind tables.Review refl refl refl is)
is_review (rows.Note n) is = absurd (not_table tables.Note tables.Review refl is)
is_review (rows.Card c) is = absurd (not_table tables.Card tables.Review refl is)
is_review (rows.NoteType t) is = absurd (not_table tables.NoteType tables.Review refl is)
is_review (rows.Deck d) is = absurd (not_table tables.Deck tables.Review refl is)
is_review (rows.Options o) is = absurd (not_table tables.Options tables.Review refl is)

pub is_card : (row : Row) → (name_of row).table ≡ tables.Card → Made rows.Card row
is_card (rows.Card c) is = (c, refl)
is_card (rows.Grave g) is = absurd (not_grave g.kind tables.Card refl refl refl is)
is_card (rows.Note n) is = absurd (not_table tables.Note tables.Card refl is)
is_card (rows.Review r) is = absurd (not_table tables.Review tables.Card refl is)
is_card (rows.NoteType t) is = absurd (not_table tables.NoteType tables.Card refl is)
is_card (rows.Deck d) is = absurd (not_table tables.Deck tables.Card refl is)
is_card (rows.Options o) is = absurd (not_table tables.Options tables.Card refl is)

pub is_note : (row : Row) → (name_of row).table ≡ tables.Note → Made rows.Note row
is_note (rows.Note n) is = (n, refl)
is_note (rows.Grave g) is = absurd (not_grave g.kind tables.Note refl refl refl is)
is_note (rows.Card c) is = absurd (not_table tables.Card tables.Note refl is)
is_note (rows.Review r) is = absurd (not_table tables.Review tables.Note refl is)
is_note (rows.NoteType t) is = absurd (not_table tables.NoteType tables.Note refl is)
is_note (rows.Deck d) is = absurd (not_table tables.Deck tables.Note refl is)
is_note (rows.Options o) is = absurd (not_table tables.Options tables.Note refl is)

pub is_type : (row : Row) → (name_of row).table ≡ tables.NoteType → Made rows.NoteType row
is_type (rows.NoteType t) is = (t, refl)
is_type (rows.Grave g) is = absurd (not_grave g.kind tables.NoteType refl refl refl is)
is_type (rows.Note n) is = absurd (not_table tables.Note tables.NoteType refl is)
is_type (rows.Card c) is = absurd (not_table tables.Card tables.NoteType refl is)
is_type (rows.Review r) is = absurd (not_table tables.Review tables.NoteType refl is)
is_type (rows.Deck d) is = absurd (not_table tables.Deck tables.NoteType refl is)
is_type (rows.Options o) is = absurd (not_table tables.Options tables.NoteType refl is)

pub is_deck : (row : Row) → (name_of row).table ≡ tables.Deck → Made rows.Deck row
is_deck (rows.Deck d) is = (d, refl)
is_deck (rows.Grave g) is = absurd (not_grave g.kind tables.Deck refl refl refl is)
is_deck (rows.Note n) is = absurd (not_table tables.Note tables.Deck refl is)
is_deck (rows.Card c) is = absurd (not_table tables.Card tables.Deck refl is)
is_deck (rows.Review r) is = absurd (not_table tables.Review tables.Deck refl is)
is_deck (rows.NoteType t) is = absurd (not_table tables.NoteType tables.Deck refl is)
is_deck (rows.Options o) is = absurd (not_table tables.Options tables.Deck refl is)

pub are_options : (row : Row) → (name_of row).table ≡ tables.Options → Made rows.Options row
are_options (rows.Options o) is = (o, refl)
are_options (rows.Grave g) is = absurd (not_grave g.kind tables.Options refl refl refl is)
are_options (rows.Note n) is = absurd (not_table tables.Note tables.Options refl is)
are_options (rows.Card c) is = absurd (not_table tables.Card tables.Options refl is)
are_options (rows.Review r) is = absurd (not_table tables.Review tables.Options refl is)
are_options (rows.NoteType t) is = absurd (not_table tables.NoteType tables.Options refl is)
are_options (rows.Deck d) is = absurd (not_table tables.Deck tables.Options refl is)

-- ---- graves by their ids
-- a row of this table that passes its check
pub record IsGraveIn (graves : Table) (row : Row) : Type 0 where
  pub of_table : (name_of row).table ≡ graves
  pub checked : IsChecked row

-- a row as it stands before it was sent
abbrev pub unsent : Row → Row
unsent row = with_usn row (negsuc 0)

own_ids : (table graves : Table) (kind : ℤ) → graves_of table ≡ Some graves → grave_code table ≡ Some kind → (list : List Row) → AllByRecursion (IsGraveIn graves) list
    → map (grave_with kind) (ids_in graves list) ≡ map unsent list
own_ids table graves kind leaves code [] all = refl
own_ids table graves kind leaves code (row ∷ more) all =
    let is : (table_place (name_of row).table == table_place graves) ≡ true = (unsigned_Decides _ _).1 (ap table_place all.0.of_table) in
    let anew : unsent row ≡ grave_with kind (name_of row).id =
    graves_are_made_anew row (negsuc 0) kind table all.0.checked (leaves ∙ ap (λ (t : Table). Some t) (sym all.0.of_table)) code in
    ap (λ (b : Bool). map (grave_with kind) (map (λ (r : Row). (name_of r).id) (if b then row ∷ filter (λ (r : Row). table_place (name_of r).table == table_place graves) more else filter (λ (r : Row). table_place (name_of r).table == table_place graves) more))) is
    ∙ ap (λ (r : Row). r ∷ map (grave_with kind) (ids_in graves more)) (sym anew)
    ∙ ap (λ (l : List Row). unsent row ∷ l) (own_ids table graves kind leaves code more all.1)

no_ids : (table graves : Table) → (table_place table == table_place graves) ≡ false → (list : List Row) → AllByRecursion (IsGraveIn table) list → filter (λ (r : Row). table_place (name_of r).table == table_place graves) list ≡ []
no_ids table graves differ [] all = refl
no_ids table graves differ (row ∷ more) all =
    let is : (table_place (name_of row).table == table_place graves) ≡ false = ap (λ (t : Table). table_place t == table_place graves) all.0.of_table ∙ differ in
    ap (λ (b : Bool). if b then row ∷ filter (λ (r : Row). table_place (name_of r).table == table_place graves) more else filter (λ (r : Row). table_place (name_of r).table == table_place graves) more) is
    ∙ no_ids table graves differ more all.1

abbrev of_table : Table → Row → Bool
of_table graves row = table_place (name_of row).table == table_place graves

first_ids : (graves : Table) (A B C : List Row) → filter (of_table graves) B ≡ [] → filter (of_table graves) C ≡ [] → filter (of_table graves) (A ++ (B ++ C)) ≡ filter (of_table graves) A
first_ids graves A B C b c =
    filter-append (of_table graves) A (B ++ C)
    ∙ ap (λ (l : List Row). filter (of_table graves) A ++ l) (filter-append (of_table graves) B C ∙ ap (λ (l : List Row). l ++ filter (of_table graves) C) b ∙ c)
    ∙ append-nil (filter (of_table graves) A)

second_ids : (graves : Table) (A B C : List Row) → filter (of_table graves) A ≡ [] → filter (of_table graves) C ≡ [] → filter (of_table graves) (A ++ (B ++ C)) ≡ filter (of_table graves) B
second_ids graves A B C a c =
    filter-append (of_table graves) A (B ++ C)
    ∙ ap (λ (l : List Row). l ++ filter (of_table graves) (B ++ C)) a
    ∙ filter-append (of_table graves) B C
    ∙ ap (λ (l : List Row). filter (of_table graves) B ++ l) c
    ∙ append-nil (filter (of_table graves) B)

third_ids : (graves : Table) (A B C : List Row) → filter (of_table graves) A ≡ [] → filter (of_table graves) B ≡ [] → filter (of_table graves) (A ++ (B ++ C)) ≡ filter (of_table graves) C
third_ids graves A B C a b =
    filter-append (of_table graves) A (B ++ C)
    ∙ ap (λ (l : List Row). l ++ filter (of_table graves) (B ++ C)) a
    ∙ filter-append (of_table graves) B C
    ∙ ap (λ (l : List Row). l ++ filter (of_table graves) C) b

-- graves as their ids are made anew, each as it stood before it was sent
pub graves_keep : (list : List Row) → InThree (IsGraveIn tables.NoteGrave) (IsGraveIn tables.CardGrave) (IsGraveIn tables.DeckGrave) list → graves_from (grave_ids list) ≡ map unsent list
graves_keep list three =
    let A : List Row = three.first in
    let B : List Row = three.second in
    let C : List Row = three.third in
    ap (λ (l : List Row). graves_from (grave_ids l)) three.is
    ∙ ap (λ (l : List ℤ). map (grave_with (pos 1)) l ++ (map (grave_with (pos 0)) (ids_in tables.CardGrave (A ++ (B ++ C))) ++ map (grave_with (pos 2)) (ids_in tables.DeckGrave (A ++ (B ++ C)))))
    (ap (map (λ (row : Row). (name_of row).id)) (first_ids tables.NoteGrave A B C (no_ids tables.CardGrave tables.NoteGrave refl B three.twos) (no_ids tables.DeckGrave tables.NoteGrave refl C three.threes)))
    ∙ ap (λ (l : List Row). l ++ (map (grave_with (pos 0)) (ids_in tables.CardGrave (A ++ (B ++ C))) ++ map (grave_with (pos 2)) (ids_in tables.DeckGrave (A ++ (B ++ C)))))
    (own_ids tables.Note tables.NoteGrave (pos 1) refl refl A three.ones)
    ∙ ap (λ (l : List ℤ). map unsent A ++ (map (grave_with (pos 0)) l ++ map (grave_with (pos 2)) (ids_in tables.DeckGrave (A ++ (B ++ C)))))
    (ap (map (λ (row : Row). (name_of row).id)) (second_ids tables.CardGrave A B C (no_ids tables.NoteGrave tables.CardGrave refl A three.ones) (no_ids tables.DeckGrave tables.CardGrave refl C three.threes)))
    ∙ ap (λ (l : List Row). map unsent A ++ (l ++ map (grave_with (pos 2)) (ids_in tables.DeckGrave (A ++ (B ++ C)))))
    (own_ids tables.Card tables.CardGrave (pos 0) refl refl B three.twos)
    ∙ ap (λ (l : List ℤ). map unsent A ++ (map unsent B ++ map (grave_with (pos 2)) l))
    (ap (map (λ (row : Row). (name_of row).id)) (third_ids tables.DeckGrave A B C (no_ids tables.NoteGrave tables.DeckGrave refl A three.ones) (no_ids tables.CardGrave tables.DeckGrave refl B three.twos)))
    ∙ ap (λ (l : List Row). map unsent A ++ (map unsent B ++ l)) (own_ids tables.Deck tables.DeckGrave (pos 2) refl refl C three.threes)
    ∙ sym (ap (map unsent) three.is ∙ map-append unsent A (B ++ C) ∙ ap (λ (l : List Row). map unsent A ++ l) (map-append unsent B C))

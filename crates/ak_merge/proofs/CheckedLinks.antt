-- The links of the check: what is read, what is seen of it, and what is found among it.
use Rattle.std.specs.Prelude.{◌≡◌, ◌==◌, ℕ, ℤ, pos, suc, ◌+◌, ◌<◌, ◌<ℤ◌, int_lt, Bool, true, false, not, ◌&&◌, cond, is_some, List, [], ◌∷◌, map, filter, find, drop, get_or, length, Option, Some, None}
use Rattle.std.proofs.Common.{refl, sym, ap, subst, ◌∙◌, arith, add-one, drop-cons}
use Rattle.std.proofs.lemmas.Int.{ints}
use Rattle.std.proofs.lemmas.List.{map-set, set-get_or}
use Rattle.std.proofs.lemmas.List.Elements.{All-nil, All-cons, All-head, All-set, All-get_or, All-from_recursion}
use Rattle.std.proofs.lemmas.Option.{none-some, same_Some}
use Rattle.std.proofs.Math.ListN.{set}
use Rattle.std.specs.Cmp.{first_so}
use Rattle.std.specs.FinMap.{get, entries}
use Rattle.std.specs.List.{All, AllByRecursion, cons_option, filter_map}
use Rattle.std.specs.Option.{option_map, option_and_then}
use Rattle.ak_base.specs.Names.{table_place}
use Rattle.ak_base.specs.Rows.{name_of}
use Rattle.ak_base.specs.declared.names.Name.{Name}
use Rattle.ak_base.specs.declared.names.Table.{Table}
use Rattle.ak_base.specs.declared.names.Table.TheVariants as tables
use Rattle.ak_base.specs.declared.note_types.NoteType.{NoteType}
use Rattle.ak_base.specs.declared.rows.Row.{Row}
use Rattle.ak_base.specs.declared.rows.Row.TheVariants as rows
use Rattle.ak_keep.proofs.RowsByName.{entries_found}
use Rattle.ak_keep.specs.Collections.{Rows, StandsUnderNames, cards_of, is_past, rows_past}
use Rattle.ak_merge.proofs.Finding.{not_both}
use Rattle.ak_merge.proofs.SoundLaws.{has_some}
use Rattle.ak_merge.specs.CheckLinks.{AreKnown, AreLinksIn, IsCardOf, IsGoodIn, IsNoteOf, IsTypeOf, bad_link, forgotten, link_of, places_of}
use Rattle.ak_merge.specs.Holdings.{name_in}
use Rattle.ak_merge.specs.Soundness.{first_bad, is_bad, is_empty, lacks_template, table_of, type_name, type_under}
use Rattle.ak_merge.specs.declared.check_links.Link.{Link}
use Rattle.ak_merge.specs.declared.checks.Part.{Part}
use Rattle.ak_merge.specs.declared.checks.Part.TheVariants as parts

-- ---- the rows of a table
-- the row is held under its own name, which is of the table
abbrev StandsIn : Table → Rows → Row → Type 0
StandsIn table held row = (get held (name_of row) ≡ Some row) × ((table_place (name_of row).table == table_place table) ≡ true)

stand_among : (table : Table) (past : ℤ) (held : Rows) (es : List (Name × Row)) → AllByRecursion (λ entry. get held entry.0 ≡ Some entry.1) es → AllByRecursion (λ entry. name_of entry.1 ≡ entry.0) es
    → AllByRecursion (StandsIn table held) (map (λ (entry : Name × Row). entry.1) (filter (λ (entry : Name × Row). is_past table past entry.0) es))
stand_among table past held [] found named = tt
stand_among table past held (e ∷ es) found named =
    let more = filter (λ (entry : Name × Row). is_past table past entry.0) es in
    let rest = stand_among table past held es found.1 named.1 in
    elim (is_past table past e.0) as (λ b. is_past table past e.0 ≡ b → AllByRecursion (StandsIn table held) (map (λ (entry : Name × Row). entry.1) (cond b (e ∷ more) more))) [
      | true ↦ λ inside.
          let own = ap (λ (n : Name). table_place n.table == table_place table) named.0 ∙ first_so (table_place e.0.table == table_place table) (int_lt past e.0.id) inside in
          ((ap (get held) named.0 ∙ found.0, own), rest)
      | false ↦ λ _. rest
    ] refl

rows_stand : (table : Table) (held : Rows) → StandsUnderNames held → AllByRecursion (StandsIn table held) (rows_past table (pos 0) held)
rows_stand table held named = stand_among table (pos 0) held (entries held) (entries_found held) named

-- ---- the links of rows
all_links : (P : Link → Type 0) (S : Row → Type 0) → ((row : Row) (link : Link) → S row → link_of row ≡ Some link → P link) → (rs : List Row) → AllByRecursion S rs → AllByRecursion P (filter_map link_of rs)
all_links P S so [] all = tt
all_links P S so (r ∷ rs) all =
    elim (link_of r) as (λ (o : Option Link). link_of r ≡ o → AllByRecursion P (cons_option o (filter_map link_of rs))) [
      | None ↦ λ _. all_links P S so rs all.1
      | Some link ↦ λ is. (so r link all.0 is, all_links P S so rs all.1)
    ] refl

type_place : (type : NoteType) (ord : ℤ) → ord <ℤ places_of type → (not type.cloze && not (int_lt ord (pos (length type.templates)))) ≡ false
type_place type ord =
    elim (type.cloze) as (λ b. ord <ℤ cond b (pos 9_223_372_036_854_775_807) (pos (length type.templates)) → (not b && not (int_lt ord (pos (length type.templates)))) ≡ false) [
      | true ↦ λ _. refl
      | false ↦ λ low.
          let less : int_lt ord (pos (length type.templates)) ≡ true = grind (arith, ints, low) in
          ap not less
    ]

type_linked : (held : Rows) (row : Row) (link : Link) → StandsIn tables.NoteType held row → link_of row ≡ Some link → IsTypeOf held link
type_linked held (rows.Note n) link stands is = absurd (not_both stands.1 refl)
type_linked held (rows.Card c) link stands is = absurd (not_both stands.1 refl)
type_linked held (rows.NoteType t) link stands is = subst (IsTypeOf held) (same_Some _ link is) (rows.NoteType t, stands.0, type_place t)
type_linked held (rows.Review r) link stands is = absurd (none-some link is)
type_linked held (rows.Deck d) link stands is = absurd (none-some link is)
type_linked held (rows.Options o) link stands is = absurd (none-some link is)
type_linked held (rows.Grave g) link stands is = absurd (none-some link is)

note_linked : (held : Rows) (row : Row) (link : Link) → StandsIn tables.Note held row → link_of row ≡ Some link → IsNoteOf held link
note_linked held (rows.Note n) link stands is = subst (IsNoteOf held) (same_Some _ link is) (n, stands.0, refl)
note_linked held (rows.Card c) link stands is = absurd (not_both stands.1 refl)
note_linked held (rows.NoteType t) link stands is = absurd (not_both stands.1 refl)
note_linked held (rows.Review r) link stands is = absurd (none-some link is)
note_linked held (rows.Deck d) link stands is = absurd (none-some link is)
note_linked held (rows.Options o) link stands is = absurd (none-some link is)
note_linked held (rows.Grave g) link stands is = absurd (none-some link is)

card_linked : (held : Rows) (row : Row) (link : Link) → StandsIn tables.Card held row → link_of row ≡ Some link → IsCardOf held link
card_linked held (rows.Note n) link stands is = absurd (not_both stands.1 refl)
card_linked held (rows.Card c) link stands is = subst (IsCardOf held) (same_Some _ link is) (c, stands.0, refl)
card_linked held (rows.NoteType t) link stands is = absurd (not_both stands.1 refl)
card_linked held (rows.Review r) link stands is = absurd (none-some link is)
card_linked held (rows.Deck d) link stands is = absurd (none-some link is)
card_linked held (rows.Options o) link stands is = absurd (none-some link is)
card_linked held (rows.Grave g) link stands is = absurd (none-some link is)

-- of a new link nothing is known
new_link : (row : Row) (link : Link) → link_of row ≡ Some link → link.good ≡ false
new_link (rows.Note n) link is = ap (λ (l : Link). l.good) (sym (same_Some _ link is))
new_link (rows.Card c) link is = ap (λ (l : Link). l.good) (sym (same_Some _ link is))
new_link (rows.NoteType t) link is = ap (λ (l : Link). l.good) (sym (same_Some _ link is))
new_link (rows.Review r) link is = absurd (none-some link is)
new_link (rows.Deck d) link is = absurd (none-some link is)
new_link (rows.Options o) link is = absurd (none-some link is)
new_link (rows.Grave g) link is = absurd (none-some link is)

new_good : (table : Table) (held : Rows) (row : Row) (link : Link) → link_of row ≡ Some link → IsGoodIn table held link
new_good table held row link is = λ part _ good. absurd (not_both good (new_link row link is))

new_forgotten : (rs : List Row) → map forgotten (filter_map link_of rs) ≡ filter_map link_of rs
new_forgotten [] = refl
new_forgotten (r ∷ rs) =
    elim (link_of r) as (λ (o : Option Link). link_of r ≡ o → map forgotten (cons_option o (filter_map link_of rs)) ≡ cons_option o (filter_map link_of rs)) [
      | None ↦ λ _. new_forgotten rs
      | Some link ↦ λ is. ap (λ (b : Bool). record link { good = b } ∷ map forgotten (filter_map link_of rs)) (sym (new_link r link is)) ∙ ap (λ ls. link ∷ ls) (new_forgotten rs)
    ] refl

-- what is read of a table
abbrev pub links_of : Table → Rows → List Link
links_of table held = filter_map link_of (rows_past table (pos 0) held)

table_links : (P : Link → Type 0) (table : Table) (held : Rows) → StandsUnderNames held → ((row : Row) (link : Link) → StandsIn table held row → link_of row ≡ Some link → P link) → All P (links_of table held)
table_links P table held named so = All-from_recursion P (links_of table held) (all_links P (StandsIn table held) so (rows_past table (pos 0) held) (rows_stand table held named))

-- what is known of links that were just read
pub known_at_first : (held : Rows) (types notes cards : List Link) → StandsUnderNames held → types ≡ links_of tables.NoteType held → notes ≡ links_of tables.Note held → cards ≡ links_of tables.Card held
    → AreKnown held types notes cards
known_at_first held types notes cards named are_types are_notes are_cards = record {
  types = subst (All (IsTypeOf held)) (sym are_types) (table_links (IsTypeOf held) tables.NoteType held named (type_linked held));
  notes = subst (All (IsNoteOf held)) (sym are_notes) (table_links (IsNoteOf held) tables.Note held named (note_linked held));
  cards = subst (All (IsCardOf held)) (sym are_cards) (table_links (IsCardOf held) tables.Card held named (card_linked held));
  good_notes = subst (All (IsGoodIn tables.Note held)) (sym are_notes) (table_links (IsGoodIn tables.Note held) tables.Note held named (λ row link _ is. new_good tables.Note held row link is));
  good_cards = subst (All (IsGoodIn tables.Card held)) (sym are_cards) (table_links (IsGoodIn tables.Card held) tables.Card held named (λ row link _ is. new_good tables.Card held row link is));
}

pub links_as_read : (table : Table) (held : Rows) (read links : List Link) → read ≡ links_of table held → map forgotten links ≡ map forgotten read → All (IsGoodIn table held) links → AreLinksIn table held links
links_as_read table held read links is kept good = record {
  rows = kept ∙ ap (map forgotten) is ∙ new_forgotten (rows_past table (pos 0) held);
  good = good;
}

-- ---- what is seen of a card
-- of one among the cards
pub known_one : (held : Rows) (types notes cards : List Link) (i : ℕ) (d : Link) → i < length cards → AreKnown held types notes cards → AreKnown held types notes (get_or cards i d ∷ [])
known_one held types notes cards i d inside known = record {
  types = known.types;
  notes = known.notes;
  cards = All-cons (IsCardOf held) (get_or cards i d) [] (All-get_or (IsCardOf held) cards i d inside known.cards) (All-nil (IsCardOf held));
  good_notes = known.good_notes;
  good_cards = All-cons (IsGoodIn tables.Card held) (get_or cards i d) [] (All-get_or (IsGoodIn tables.Card held) cards i d inside known.good_cards) (All-nil (IsGoodIn tables.Card held));
}

-- of all, once more is known of one of them
pub known_more : (held : Rows) (types notes more cards : List Link) (i : ℕ) (card : Link) → AreKnown held types notes cards → AreKnown held types more (card ∷ []) → AreKnown held types more (set cards i card)
known_more held types notes more cards i card known one = record {
  types = one.types;
  notes = one.notes;
  cards = All-set (IsCardOf held) cards i card (All-head (IsCardOf held) card [] one.cards) known.cards;
  good_notes = one.good_notes;
  good_cards = All-set (IsGoodIn tables.Card held) cards i card (All-head (IsGoodIn tables.Card held) card [] one.good_cards) known.good_cards;
}

-- a link that stands in a list, in place of itself
pub kept_by_set : (links : List Link) (i : ℕ) (d link : Link) → forgotten link ≡ forgotten (get_or links i d) → map forgotten (set links i link) ≡ map forgotten links
kept_by_set links i d link same =
    map-set forgotten links i link ∙ ap (λ l. set (map forgotten links) i l) same ∙ sym (map-set forgotten links i (get_or links i d)) ∙ ap (map forgotten) (set-get_or links i d)

-- the note of a card, whose type is held
note_seen : (held : Rows) (card note type : Link) → IsCardOf held card → IsTypeOf held type → note.id ≡ card.to → type.id ≡ note.to → (b : Bool) → IsGoodIn tables.Note held (record note { good = b })
note_seen held card note type (c, is_card, nid) (row, is_type, low) of_note of_type b parts.CardNote other good = cc
note_seen held card note type (c, is_card, nid) (row, is_type, low) of_note of_type b parts.NoteCard own good = has_some held note.id (name_in tables.Card card.id) c is_card (nid ∙ sym of_note)
note_seen held card note type (c, is_card, nid) (row, is_type, low) of_note of_type b parts.NoteType own good =
    ap (λ (o : Option Row). not (is_some o)) (ap (λ id. get held (name_in tables.NoteType id)) (sym of_type) ∙ is_type)
note_seen held card note type (c, is_card, nid) (row, is_type, low) of_note of_type b parts.CardTemplate other good = cc

-- a card whose note and type are held, and whose place is below those that the type has
card_seen : (held : Rows) (card note type : Link) → IsNoteOf held note → IsTypeOf held type → note.id ≡ card.to → type.id ≡ note.to → IsGoodIn tables.Card held (record card { good = int_lt card.ord type.ord })
card_seen held card note type (n, is_note, mid) (row, is_type, low) of_note of_type parts.CardNote own good =
    ap (λ (o : Option Row). not (is_some o)) (ap (λ id. get held (name_in tables.Note id)) (sym of_note) ∙ is_note)
card_seen held card note type (n, is_note, mid) (row, is_type, low) of_note of_type parts.NoteCard other good = cc
card_seen held card note type (n, is_note, mid) (row, is_type, low) of_note of_type parts.NoteType other good = cc
card_seen held card note type (n, is_note, mid) (row, is_type, low) of_note of_type parts.CardTemplate own good =
    let at_note : get held (name_in tables.Note card.to) ≡ Some (rows.Note n) = ap (λ id. get held (name_in tables.Note id)) (sym of_note) ∙ is_note in
    let at_type : get held (name_in tables.NoteType n.mid) ≡ Some row = ap (λ id. get held (name_in tables.NoteType id)) (mid ∙ sym of_type) ∙ is_type in
    let there : type_under (get held) (name_in tables.Note card.to) ≡ Some row = ap (λ (o : Option Row). option_and_then (get held) (type_name o)) at_note ∙ at_type in
    let below : card.ord <ℤ type.ord = grind (arith, ints, good) in
    ap (lacks_template card.ord) there ∙ low card.ord below

pub seen_known : (held : Rows) (types notes : List Link) (card note type : Link) (p q : ℕ) (d e : Link) → p < length notes → q < length types → note ≡ get_or notes p d → type ≡ get_or types q e
    → note.id ≡ card.to → type.id ≡ note.to → AreKnown held types notes (card ∷ []) → AreKnown held types (set notes p (record note { good = true })) (record card { good = int_lt card.ord type.ord } ∷ [])
seen_known held types notes card note type p q d e in_notes in_types is_note is_type of_note of_type known =
    let a_card : IsCardOf held card = All-head (IsCardOf held) card [] known.cards in
    let a_note : IsNoteOf held note = subst (IsNoteOf held) (sym is_note) (All-get_or (IsNoteOf held) notes p d in_notes known.notes) in
    let a_type : IsTypeOf held type = subst (IsTypeOf held) (sym is_type) (All-get_or (IsTypeOf held) types q e in_types known.types) in
    let seen : Link = record card { good = int_lt card.ord type.ord } in
    let marked : Link = record note { good = true } in
    record {
      types = known.types;
      notes = All-set (IsNoteOf held) notes p marked a_note known.notes;
      cards = All-cons (IsCardOf held) seen [] a_card (All-nil (IsCardOf held));
      good_notes = All-set (IsGoodIn tables.Note held) notes p marked (note_seen held card note type a_card a_type of_note of_type true) known.good_notes;
      good_cards = All-cons (IsGoodIn tables.Card held) seen [] (card_seen held card note type a_note a_type of_note of_type) (All-nil (IsGoodIn tables.Card held));
    }

-- ---- what is found among links
-- one that fails is passed
pub find_next : (p : Link → Bool) (links : List Link) (i : ℕ) (d : Link) → i < length links → p (get_or links i d) ≡ false → find p (drop (i + 1) links) ≡ find p (drop i links)
find_next p links i d inside fails =
    ap (λ n. find p (drop n links)) (add-one i) ∙ sym (ap (λ b. cond b (Some (get_or links i d)) (find p (drop (suc i) links))) fails) ∙ ap (find p) (sym (drop-cons links i d inside))

-- one that passes is found
pub find_here : (p : Link → Bool) (links : List Link) (i : ℕ) (d : Link) → i < length links → p (get_or links i d) ≡ true → find p (drop i links) ≡ Some (get_or links i d)
find_here p links i d inside passes = ap (find p) (drop-cons links i d inside) ∙ ap (λ b. cond b (Some (get_or links i d)) (find p (drop (suc i) links))) passes

abbrev pub id_of : Link → ℤ
id_of link = link.id

abbrev pub name_id : Name → ℤ
name_id name = name.id

same_bad : (part : Part) (held : Rows) (link : Link) → bad_link part held (forgotten link) ≡ bad_link part held link
same_bad parts.CardNote held link = refl
same_bad parts.NoteCard held link = refl
same_bad parts.NoteType held link = refl
same_bad parts.CardTemplate held link = refl

find_forgotten : (p : Link → Bool) → ((link : Link) → p (forgotten link) ≡ p link) → (links : List Link) → option_map id_of (find p links) ≡ option_map id_of (find p (map forgotten links))
find_forgotten p same [] = refl
find_forgotten p same (l ∷ ls) =
    elim (p l) as (λ b. option_map id_of (cond b (Some l) (find p ls)) ≡ option_map id_of (cond b (Some (forgotten l)) (find p (map forgotten ls)))) [ true ↦ refl | false ↦ find_forgotten p same ls ]
    ∙ ap (λ b. option_map id_of (cond b (Some (forgotten l)) (find p (map forgotten ls)))) (sym (same l))

-- what a part says of a row by its link
abbrev link_bad : Part → Rows → Option Link → Bool
link_bad part held None = false
link_bad part held (Some link) = bad_link part held link

-- each row of the table that a part asks about is bad by its link exactly where it is
agrees : (part : Part) (held : Rows) (row : Row) → StandsIn (table_of part) held row → is_bad part held row ≡ link_bad part held (link_of row)
agrees parts.CardNote held (rows.Card c) stands = refl
agrees parts.NoteCard held (rows.Card c) stands = absurd (not_both stands.1 refl)
agrees parts.NoteType held (rows.Card c) stands = absurd (not_both stands.1 refl)
agrees parts.CardTemplate held (rows.Card c) stands = refl
agrees parts.CardNote held (rows.Note n) stands = absurd (not_both stands.1 refl)
agrees parts.NoteCard held (rows.Note n) stands = refl
agrees parts.NoteType held (rows.Note n) stands = refl
agrees parts.CardTemplate held (rows.Note n) stands = absurd (not_both stands.1 refl)
agrees parts.CardNote held (rows.NoteType t) stands = absurd (not_both stands.1 refl)
agrees parts.NoteCard held (rows.NoteType t) stands = absurd (not_both stands.1 refl)
agrees parts.NoteType held (rows.NoteType t) stands = absurd (not_both stands.1 refl)
agrees parts.CardTemplate held (rows.NoteType t) stands = absurd (not_both stands.1 refl)
agrees part held (rows.Review r) stands = refl
agrees part held (rows.Deck d) stands = refl
agrees part held (rows.Options o) stands = refl
agrees part held (rows.Grave g) stands = refl

link_name : (row : Row) (link : Link) → link_of row ≡ Some link → link.id ≡ (name_of row).id
link_name (rows.Note n) link is = ap id_of (sym (same_Some _ link is))
link_name (rows.Card c) link is = ap id_of (sym (same_Some _ link is))
link_name (rows.NoteType t) link is = ap id_of (sym (same_Some _ link is))
link_name (rows.Review r) link is = absurd (none-some link is)
link_name (rows.Deck d) link is = absurd (none-some link is)
link_name (rows.Options o) link is = absurd (none-some link is)
link_name (rows.Grave g) link is = absurd (none-some link is)

find_links : (part : Part) (held : Rows) (rs : List Row) → AllByRecursion (StandsIn (table_of part) held) rs
    → option_map id_of (find (bad_link part held) (filter_map link_of rs)) ≡ option_map name_id (option_map name_of (find (is_bad part held) rs))
find_links part held [] all = refl
find_links part held (r ∷ rs) all =
    elim (link_of r) as (λ (o : Option Link). link_of r ≡ o
    → option_map id_of (find (bad_link part held) (cons_option o (filter_map link_of rs))) ≡ option_map name_id (option_map name_of (cond (is_bad part held r) (Some r) (find (is_bad part held) rs)))) [
      | None ↦ λ is.
          find_links part held rs all.1
          ∙ ap (λ b. option_map name_id (option_map name_of (cond b (Some r) (find (is_bad part held) rs)))) (sym (agrees part held r all.0 ∙ ap (link_bad part held) is))
      | Some link ↦ λ is.
          elim (bad_link part held link) as (λ b. option_map id_of (cond b (Some link) (find (bad_link part held) (filter_map link_of rs))) ≡ option_map name_id (option_map name_of (cond b (Some r) (find (is_bad part held) rs)))) [
            | true ↦ ap Some (link_name r link is)
            | false ↦ find_links part held rs all.1
          ]
          ∙ ap (λ b. option_map name_id (option_map name_of (cond b (Some r) (find (is_bad part held) rs)))) (sym (agrees part held r all.0 ∙ ap (link_bad part held) is))
    ] refl

-- the first bad row is that of the first bad link
pub first_by_links : (part : Part) (held : Rows) (links : List Link) → StandsUnderNames held → AreLinksIn (table_of part) held links → option_map id_of (find (bad_link part held) links) ≡ option_map name_id (first_bad part held)
first_by_links part held links named read =
    find_forgotten (bad_link part held) (same_bad part held) links ∙ ap (λ ls. option_map id_of (find (bad_link part held) ls)) read.rows
    ∙ find_links part held (rows_past (table_of part) (pos 0) held) (rows_stand (table_of part) held named)

-- What is written of a whole collection is read again as it.
use Rattle.std.proofs.Common.{◌≡◌, ◌≤◌, ◌<◌, ◌^◌, ℕ, zero, suc, ℤ, pos, negsuc, length, map, filter, cond, List, [], ◌∷◌, ◌++◌, Bool, true, false, if◌then◌else◌, ◌&&◌, ◌==◌, Option, Some, None, Ok, Ordering, Less, Equal, Greater, refl, sym, ap, ◌∙◌, subst, codes, arith}
use Rattle.std.specs.Prelude.{nat_le, nat_lt}
use Rattle.std.specs.Option.{option_map_or}
use Rattle.std.specs.Cmp.Lexicographic.{slice_cmp}
use Rattle.std.specs.Ordering.{nat_cmp, int_eq, match_ordering, ordering_reverse}
use Rattle.std.proofs.lemmas.Bool.{and_from}
use Rattle.std.proofs.lemmas.Bool.Decides.{nat_tests}
use Rattle.std.proofs.lemmas.Cmp.{nat_list_cmp_total}
use Rattle.serde_json.specs.Data.{Data, array, object, Items, no_items, item, Members, no_members, member, put}
use Rattle.serde_json.specs.Find.{get, as_i64, of_integer}
use Rattle.serde_json.specs.View.{items_of}
use Rattle.ak_base.specs.Columns.{code_fault}
use Rattle.ak_base.specs.Graves.{grave_faults, grave_table}
use Rattle.ak_base.specs.Heads.{IsTagInRange, is_tag_name}
use Rattle.ak_base.specs.Names.{table_place}
use Rattle.ak_base.specs.Rows.{IsChecked, name_of}
use Rattle.ak_base.specs.declared.graves.Grave.{Grave}
use Rattle.ak_base.specs.declared.heads.Tag.{Tag}
use Rattle.ak_base.specs.declared.names.Table.{Table}
use Rattle.ak_base.specs.declared.names.Table.TheVariants as tables
use Rattle.ak_base.specs.declared.rows.Row.{Row}
use Rattle.ak_base.specs.declared.rows.Row.TheVariants as rows
use Rattle.ak_json.proofs.Again.{AllNone, all_none, below, at_most}
use Rattle.ak_json.proofs.ConfsAgain.{conf_again}
use Rattle.ak_json.proofs.RowsAgain.{own_again}
use Rattle.ak_json.specs.Confs.{conf_json}
use Rattle.ak_json.specs.Rows.{row_json, ReadsRow}
use Rattle.ak_json.specs.Written.{integer, grave_cells}
use Rattle.ak_messages.specs.declared.requests.Whole.{Whole}
use Rattle.ak_wire.specs.Faults.{ReadsEach}
use Rattle.ak_wire.specs.Forms.{upload_form, download_form}
use Rattle.ak_wire.specs.Found.{Under, IsInteger, ReadsMembers, ReadsTags}
use Rattle.ak_wire.specs.Keys.{key_text}
use Rattle.ak_wire.specs.Kinds.{are_tags}
use Rattle.ak_wire.specs.Sent.{AreChecked, is_of, rows_of, joined, EachAscends, ComesBefore, TagsAscend, IsWholeSent, IsUploadSent, IsDownloadSent}
use Rattle.ak_wire.specs.Wholes.{upload_tables, download_tables, listed_code, goes_with, items_for, rows_after, ReadsTable, ReadsRowsOf, ReadsTables, ReadsParts, ReadsUpload, ReadsDownload}
use Rattle.ak_wire.specs.Written.{with_members, object_of, is_under, rows_under, tag_pairs, tags_json, upload_json, download_json}
use Rattle.ak_wire.specs.declared.keys.Key.{Key}
use Rattle.ak_wire.specs.declared.keys.Key.TheVariants as keys
use Rattle.ak_wire.specs.declared.kinds.Kind.TheVariants as kinds
use Rattle.ak_wire.proofs.Founds.{AreHeld}
use Rattle.ak_wire.proofs.ReadAgain.{none_in, low_again, within_again}

-- ---- the values that go with a table are those of its rows

-- a grave in its ranges is of one of three kinds
by_kind : (P : ℤ → Type 0) → P (pos 0) → P (pos 1) → P (pos 2) → (kind : ℤ) → code_fault 2 kind (pos 0) (pos 2) ≡ None → P kind
unfolding code_fault
by_kind P p q r (pos zero) e = p
by_kind P p q r (pos (suc zero)) e = q
by_kind P p q r (pos (suc (suc zero))) e = r
by_kind P p q r (pos (suc (suc (suc n)))) e = let few : suc (suc (suc n)) ≤ 2 = at_most 2 (suc (suc (suc n))) (below _ _ _ e) in absurd (omega (arith, few))
by_kind P p q r (negsuc n) e = cc

kind_good : (g : Grave) → IsChecked (rows.Grave g) → code_fault 2 g.kind (pos 0) (pos 2) ≡ None
kind_good g h = let all : AllNone (grave_faults g) = all_none (grave_faults g) tt h in all.1.1.0

-- the row is written under the key, and its value goes with the table
abbrev pub is_listed : Table → Key → Row → Bool
is_listed table key row = is_under key row && goes_with table (row_json row)

-- so it is exactly if it stands in the table
abbrev pub Lists : Table × Key → Type 0
Lists column = (row : Row) → IsChecked row → is_listed column.0 column.1 row ≡ is_of column.0 row

no_grave : (place : ℕ) → (g : Grave) → IsChecked (rows.Grave g) → (false ≡ (table_place (grave_table (pos 0)) == place)) → (false ≡ (table_place (grave_table (pos 1)) == place))
    → (false ≡ (table_place (grave_table (pos 2)) == place)) → false ≡ (table_place (grave_table g.kind) == place)
no_grave place g h p q r = by_kind (λ kind. false ≡ (table_place (grave_table kind) == place)) p q r g.kind (kind_good g h)

notes_listed : Lists (tables.Note, keys.Notes)
notes_listed (rows.Note n) h = refl
notes_listed (rows.Card c) h = refl
notes_listed (rows.Review r) h = refl
notes_listed (rows.NoteType t) h = refl
notes_listed (rows.Deck d) h = refl
notes_listed (rows.Options o) h = refl
notes_listed (rows.Grave g) h = no_grave 0 g h refl refl refl

cards_listed : Lists (tables.Card, keys.Cards)
cards_listed (rows.Note n) h = refl
cards_listed (rows.Card c) h = refl
cards_listed (rows.Review r) h = refl
cards_listed (rows.NoteType t) h = refl
cards_listed (rows.Deck d) h = refl
cards_listed (rows.Options o) h = refl
cards_listed (rows.Grave g) h = no_grave 1 g h refl refl refl

reviews_listed : Lists (tables.Review, keys.Revlog)
reviews_listed (rows.Note n) h = refl
reviews_listed (rows.Card c) h = refl
reviews_listed (rows.Review r) h = refl
reviews_listed (rows.NoteType t) h = refl
reviews_listed (rows.Deck d) h = refl
reviews_listed (rows.Options o) h = refl
reviews_listed (rows.Grave g) h = no_grave 2 g h refl refl refl

note_types_listed : Lists (tables.NoteType, keys.Models)
note_types_listed (rows.Note n) h = refl
note_types_listed (rows.Card c) h = refl
note_types_listed (rows.Review r) h = refl
note_types_listed (rows.NoteType t) h = refl
note_types_listed (rows.Deck d) h = refl
note_types_listed (rows.Options o) h = refl
note_types_listed (rows.Grave g) h = no_grave 3 g h refl refl refl

decks_listed : Lists (tables.Deck, keys.Decks)
decks_listed (rows.Note n) h = refl
decks_listed (rows.Card c) h = refl
decks_listed (rows.Review r) h = refl
decks_listed (rows.NoteType t) h = refl
decks_listed (rows.Deck d) h = refl
decks_listed (rows.Options o) h = refl
decks_listed (rows.Grave g) h = no_grave 4 g h refl refl refl

options_listed : Lists (tables.Options, keys.Options)
options_listed (rows.Note n) h = refl
options_listed (rows.Card c) h = refl
options_listed (rows.Review r) h = refl
options_listed (rows.NoteType t) h = refl
options_listed (rows.Deck d) h = refl
options_listed (rows.Options o) h = refl
options_listed (rows.Grave g) h = no_grave 5 g h refl refl refl

-- a grave goes with the table of its code
abbrev pub GoesBy : ℤ → ℕ → ℤ → Type 0
GoesBy code place kind = int_eq (listed_code (as_i64 (of_integer kind))) code ≡ (table_place (grave_table kind) == place)

note_graves_listed : Lists (tables.NoteGrave, keys.Graves)
unfolding grave_cells
note_graves_listed (rows.Note n) h = refl
note_graves_listed (rows.Card c) h = refl
note_graves_listed (rows.Review r) h = refl
note_graves_listed (rows.NoteType t) h = refl
note_graves_listed (rows.Deck d) h = refl
note_graves_listed (rows.Options o) h = refl
note_graves_listed (rows.Grave g) h = by_kind (GoesBy (pos 1) 6) refl refl refl g.kind (kind_good g h)

card_graves_listed : Lists (tables.CardGrave, keys.Graves)
unfolding grave_cells
card_graves_listed (rows.Note n) h = refl
card_graves_listed (rows.Card c) h = refl
card_graves_listed (rows.Review r) h = refl
card_graves_listed (rows.NoteType t) h = refl
card_graves_listed (rows.Deck d) h = refl
card_graves_listed (rows.Options o) h = refl
card_graves_listed (rows.Grave g) h = by_kind (GoesBy (pos 0) 7) refl refl refl g.kind (kind_good g h)

deck_graves_listed : Lists (tables.DeckGrave, keys.Graves)
unfolding grave_cells
deck_graves_listed (rows.Note n) h = refl
deck_graves_listed (rows.Card c) h = refl
deck_graves_listed (rows.Review r) h = refl
deck_graves_listed (rows.NoteType t) h = refl
deck_graves_listed (rows.Deck d) h = refl
deck_graves_listed (rows.Options o) h = refl
deck_graves_listed (rows.Grave g) h = by_kind (GoesBy (pos 2) 8) refl refl refl g.kind (kind_good g h)

module _ (table : Table) (key : Key) where
  abbrev pub written : List Row → Items
  written all = items_of (map row_json (filter (is_under key) all))

  goes_on : (row : Row) (before after : List Row) (under goes of : Bool) → goes_with table (row_json row) ≡ goes → (under && goes) ≡ of
      → items_for table (items_of (map row_json before)) ≡ items_of (map row_json after)
      → items_for table (items_of (map row_json (cond under (row ∷ before) before))) ≡ items_of (map row_json (cond of (row ∷ after) after))
  goes_on row before after true true true e f same =
      ap (λ (b : Bool). if b then item (row_json row) (items_for table (items_of (map row_json before))) else items_for table (items_of (map row_json before))) e ∙ ap (item (row_json row)) same
  goes_on row before after true true false e f same = cc
  goes_on row before after true false true e f same = cc
  goes_on row before after true false false e f same =
      ap (λ (b : Bool). if b then item (row_json row) (items_for table (items_of (map row_json before))) else items_for table (items_of (map row_json before))) e ∙ same
  goes_on row before after false goes true e f same = cc
  goes_on row before after false goes false e f same = same

  listed_is : (all : List Row) → AreChecked (λ row. row) all → Lists (table, key) → items_for table (written all) ≡ items_of (map row_json (rows_of table all))
  listed_is [] h lists = refl
  listed_is (row ∷ all) h lists =
      goes_on row (filter (is_under key) all) (rows_of table all) (is_under key row) (goes_with table (row_json row)) (is_of table row) refl (lists row h.0) (listed_is all h.1 lists)

-- ---- the rows of a table are read

same_place : (a b : ℕ) → (a == b) ≡ true → a ≡ b
same_place a b h = grind (arith, nat_tests)

abbrev table_at : ℕ → Table
table_at place =
    if place == 0 then tables.Note else if place == 1 then tables.Card else if place == 2 then tables.Review else if place == 3 then tables.NoteType else if place == 4 then tables.Deck
    else if place == 5 then tables.Options else if place == 6 then tables.NoteGrave else if place == 7 then tables.CardGrave else tables.DeckGrave

table_back : (table : Table) → table_at (table_place table) ≡ table
table_back tables.Note = refl
table_back tables.Card = refl
table_back tables.Review = refl
table_back tables.NoteType = refl
table_back tables.Deck = refl
table_back tables.Options = refl
table_back tables.NoteGrave = refl
table_back tables.CardGrave = refl
table_back tables.DeckGrave = refl

own_table : (table : Table) (row : Row) → is_of table row ≡ true → (name_of row).table ≡ table
own_table table row h =
    let place : table_place (name_of row).table ≡ table_place table = same_place (table_place (name_of row).table) (table_place table) h in
    sym (table_back (name_of row).table) ∙ ap table_at place ∙ table_back table

row_read : (table : Table) (row : Row) → IsChecked row → is_of table row ≡ true → ReadsRow table (row_json row) row
row_read table row h is = subst (λ (t : Table). ReadsRow t (row_json row) row) (own_table table row is) (own_again row h)

rows_read : (table : Table) (all : List Row) → AreChecked (λ row. row) all → ReadsEach (ReadsRow table) (items_of (map row_json (rows_of table all))) (rows_of table all)
rows_read table [] h = tt
rows_read table (row ∷ all) h = one (is_of table row) refl (rows_read table all h.1)
  where
    one : (of : Bool) → is_of table row ≡ of → ReadsEach (ReadsRow table) (items_of (map row_json (rows_of table all))) (rows_of table all)
        → ReadsEach (ReadsRow table) (items_of (map row_json (cond of (row ∷ rows_of table all) (rows_of table all)))) (cond of (row ∷ rows_of table all) (rows_of table all))
    one true is rest = (row_read table row h.0 is, rest)
    one false is rest = rest

under_read : (table : Table) (key : Key) (d : Data) (all : List Row) → Lists (table, key) → AreChecked (λ row. row) all → rows_after None (rows_of table all) ≡ true
    → get (key_text key) d ≡ Some (rows_under key all) → Under (key_text key) (ReadsRowsOf table) d (rows_of table all)
under_read table key d all lists checked ascends is =
    let same : items_for table (written table key all) ≡ items_of (map row_json (rows_of table all)) = listed_is table key all checked lists in
    let each : ReadsEach (ReadsRow table) (items_for table (written table key all)) (rows_of table all) =
    subst (λ (ds : Items). ReadsEach (ReadsRow table) ds (rows_of table all)) (sym same) (rows_read table all checked) in
    (rows_under key all, is, (written table key all, refl, record { each = each; ascending = ascends }))

-- ---- tags

-- every key comes before this one
abbrev AllBefore : Members → List ℕ → Type 0
AllBefore no_members k = Unit {0}
AllBefore (member l d ms) k = (slice_cmp nat_cmp l k ≡ Less) × AllBefore ms k

-- tags as members in their order
abbrev tail_of : List Tag → Members
tail_of [] = no_members
tail_of (tag ∷ tags) = member tag.name (integer tag.usn) (tail_of tags)

-- the tags behind members
abbrev behind : Members → List Tag → Members
behind no_members tags = tail_of tags
behind (member l d ms) tags = member l d (behind ms tags)

turned : (k l : List ℕ) → slice_cmp nat_cmp l k ≡ Less → slice_cmp nat_cmp k l ≡ Greater
turned k l h = nat_list_cmp_total.antisymm k l ∙ ap ordering_reverse h

put_last : (tag : Tag) (tags : List Tag) (ms : Members) → AllBefore ms tag.name → behind (put tag.name (integer tag.usn) ms) tags ≡ behind ms (tag ∷ tags)
put_last tag tags no_members h = refl
put_last tag tags (member l d ms) h =
    ap (λ (o : Ordering). behind (match_ordering o (member tag.name (integer tag.usn) (member l d ms)) (member l (integer tag.usn) ms) (member l d (put tag.name (integer tag.usn) ms))) tags) (turned tag.name l h.0)
    ∙ ap (λ (rest : Members). member l d rest) (put_last tag tags ms h.1)

all_before : (k next : List ℕ) (d : Data) (ms : Members) → AllBefore ms k → slice_cmp nat_cmp k next ≡ Less → AllBefore (put k d ms) next
all_before k next d no_members h less = (less, tt)
all_before k next d (member l e ms) h less =
    subst (λ (o : Ordering). AllBefore (match_ordering o (member k d (member l e ms)) (member l d ms) (member l e (put k d ms))) next) (sym (turned k l h.0))
    (nat_list_cmp_total.trans l k next h.0 less, all_before k next d ms h.1 less)

-- those that follow a tag come after it
abbrev Starts : Members → List Tag → Type 0
Starts ms [] = Unit {0}
Starts ms (tag ∷ tags) = AllBefore ms tag.name

starts_on : (tag : Tag) (tags : List Tag) (ms : Members) → AllBefore ms tag.name → ComesBefore tag tags → Starts (put tag.name (integer tag.usn) ms) tags
starts_on tag [] ms h less = tt
starts_on tag (next ∷ tags) ms h less = all_before tag.name next.name (integer tag.usn) ms h less

behind_none : (ms : Members) → behind ms [] ≡ ms
behind_none no_members = refl
behind_none (member l d ms) = ap (λ (rest : Members). member l d rest) (behind_none ms)

in_order : (tags : List Tag) (ms : Members) → Starts ms tags → TagsAscend tags → with_members (tag_pairs tags) ms ≡ behind ms tags
in_order [] ms s h = sym (behind_none ms)
in_order (tag ∷ tags) ms s h = in_order tags (put tag.name (integer tag.usn) ms) (starts_on tag tags ms s h.1) h.2 ∙ put_last tag tags ms s

starts_none : (tags : List Tag) → Starts no_members tags
starts_none [] = tt
starts_none (tag ∷ tags) = tt

fits_test : (a b : ℕ) → a ≤ b → nat_le a b ≡ true
fits_test a b k = grind (arith, nat_tests)

usn_room : 2_147_483_647 < 2 ^ 63
usn_room = omega arith

tags_hold : (tags : List Tag) → TagsAscend tags → are_tags (behind no_members tags) ≡ true
tags_hold [] h = refl
tags_hold (tag ∷ tags) h =
    and_from _ _ (and_from _ _ (fits_test 1 (length tag.name) h.0.some) (fits_test (length tag.name) 512 h.0.short))
    (and_from _ _ (within_again 2_147_483_647 (negsuc 0) tag.usn usn_room h.0.usn) (tags_hold tags h.2))

tags_each : (tags : List Tag) → TagsAscend tags → ReadsMembers (behind no_members tags) tags
tags_each [] h = tt
tags_each (tag ∷ tags) h = (refl, low_again 2_147_483_647 (negsuc 0) tag.usn usn_room h.0.usn, tags_each tags h.2)

tags_are : (tags : List Tag) → TagsAscend tags → tags_json tags ≡ object (behind no_members tags)
tags_are tags h = ap object (in_order tags no_members (starts_none tags) h)

tags_held : (tags : List Tag) → TagsAscend tags → are_tags (with_members (tag_pairs tags) no_members) ≡ true
tags_held tags h = ap are_tags (in_order tags no_members (starts_none tags) h) ∙ tags_hold tags h

-- ---- collections

crt_room : 4_294_967_295 < 2 ^ 63
crt_room = omega arith

moment_room : 4_294_967_295_999 < 2 ^ 63
moment_room = omega arith

number_room : 2_147_483_646 < 2 ^ 63
number_room = omega arith

upload_held : (w : Whole) → IsWholeSent upload_tables w → AreHeld upload_form (upload_json w)
upload_held w h = (
  (_, refl, refl),
  (
    (conf_json w.conf, refl, refl),
    (
      (integer w.crt, refl, within_again 4_294_967_295 (pos 0) w.crt crt_room h.crt),
      (
        (_, refl, refl),
        (
          (integer w.moment, refl, within_again 4_294_967_295_999 (pos 0) w.moment moment_room h.moment),
          (
            (_, refl, refl),
            (
              (_, refl, refl),
              (
                (_, refl, refl),
                (
                  (_, refl, refl),
                  ((integer w.schema, refl, within_again 4_294_967_295_999 (pos 0) w.schema moment_room h.schema), ((tags_json w.tags, refl, tags_held w.tags h.tags), tt)),
                ),
              ),
            ),
          ),
        ),
      ),
    ),
  ),
)

pub upload_again : (w : Whole) → IsUploadSent w → ReadsUpload (upload_json w) w
upload_again w sent =
    let h : IsWholeSent upload_tables w = sent.whole in
    let d : Data = upload_json w in
    let all : List Row = w.rows in
    let a1 = h.by_id.1 in
    let a2 = a1.1 in
    let a3 = a2.1 in
    let a4 = a3.1 in
    let a5 = a4.1 in
    let notes = under_read tables.Note keys.Notes d all notes_listed h.checked h.by_id.0 refl in
    let cards = under_read tables.Card keys.Cards d all cards_listed h.checked a1.0 refl in
    let reviews = under_read tables.Review keys.Revlog d all reviews_listed h.checked a2.0 refl in
    let note_types = under_read tables.NoteType keys.Models d all note_types_listed h.checked a3.0 refl in
    let decks = under_read tables.Deck keys.Decks d all decks_listed h.checked a4.0 refl in
    let options = under_read tables.Options keys.Options d all options_listed h.checked a5.0 refl in
    let made : ReadsTables upload_tables d (joined upload_tables all) = (
      rows_of tables.Note all,
      _,
      notes,
      (
        rows_of tables.Card all,
        _,
        cards,
        (
          rows_of tables.Review all,
          _,
          reviews,
          (
            rows_of tables.NoteType all,
            _,
            note_types,
            (rows_of tables.Deck all, _, decks, (rows_of tables.Options all, [], options, refl, refl), refl),
            refl,
          ),
          refl,
        ),
        refl,
      ),
      refl,
    ) in
    record {
      form = none_in upload_form (upload_json w) refl (upload_held w h);
      parts = record {
        conf = (conf_json w.conf, refl, conf_again w.conf h.conf);
        rows = subst (λ (rs : List Row). ReadsTables upload_tables d rs) (sym h.by_table) made;
        crt = low_again 4_294_967_295 (pos 0) w.crt crt_room h.crt;
        moment = low_again 4_294_967_295_999 (pos 0) w.moment moment_room h.moment;
        schema = low_again 4_294_967_295_999 (pos 0) w.schema moment_room h.schema;
        tags = (tags_json w.tags, refl, (behind no_members w.tags, tags_are w.tags h.tags, tags_each w.tags h.tags));
      };
      usn = sent.usn;
    }

download_held : (w : Whole) → IsDownloadSent w → AreHeld download_form (download_json w)
download_held w sent =
    let h : IsWholeSent download_tables w = sent.whole in (
      (_, refl, refl),
      (
        (conf_json w.conf, refl, refl),
        (
          (integer w.crt, refl, within_again 4_294_967_295 (pos 0) w.crt crt_room h.crt),
          (
            (_, refl, refl),
            (
              (_, refl, refl),
              (
                (integer w.moment, refl, within_again 4_294_967_295_999 (pos 0) w.moment moment_room h.moment),
                (
                  (_, refl, refl),
                  (
                    (_, refl, refl),
                    (
                      (_, refl, refl),
                      (
                        (_, refl, refl),
                        (
                          (integer w.schema, refl, within_again 4_294_967_295_999 (pos 0) w.schema moment_room h.schema),
                          (
                            (tags_json w.tags, refl, tags_held w.tags h.tags),
                            ((integer w.usn, refl, within_again 2_147_483_646 (pos 0) w.usn number_room sent.usn), tt),
                          ),
                        ),
                      ),
                    ),
                  ),
                ),
              ),
            ),
          ),
        ),
      ),
    )

pub download_again : (w : Whole) → IsDownloadSent w → ReadsDownload (download_json w) w
download_again w sent =
    let h : IsWholeSent download_tables w = sent.whole in
    let d : Data = download_json w in
    let all : List Row = w.rows in
    let a1 = h.by_id.1 in
    let a2 = a1.1 in
    let a3 = a2.1 in
    let a4 = a3.1 in
    let a5 = a4.1 in
    let a6 = a5.1 in
    let a7 = a6.1 in
    let a8 = a7.1 in
    let notes = under_read tables.Note keys.Notes d all notes_listed h.checked h.by_id.0 refl in
    let cards = under_read tables.Card keys.Cards d all cards_listed h.checked a1.0 refl in
    let reviews = under_read tables.Review keys.Revlog d all reviews_listed h.checked a2.0 refl in
    let note_types = under_read tables.NoteType keys.Models d all note_types_listed h.checked a3.0 refl in
    let decks = under_read tables.Deck keys.Decks d all decks_listed h.checked a4.0 refl in
    let options = under_read tables.Options keys.Options d all options_listed h.checked a5.0 refl in
    let note_graves = under_read tables.NoteGrave keys.Graves d all note_graves_listed h.checked a6.0 refl in
    let card_graves = under_read tables.CardGrave keys.Graves d all card_graves_listed h.checked a7.0 refl in
    let deck_graves = under_read tables.DeckGrave keys.Graves d all deck_graves_listed h.checked a8.0 refl in
    let made : ReadsTables download_tables d (joined download_tables all) = (
      rows_of tables.Note all,
      _,
      notes,
      (
        rows_of tables.Card all,
        _,
        cards,
        (
          rows_of tables.Review all,
          _,
          reviews,
          (
            rows_of tables.NoteType all,
            _,
            note_types,
            (
              rows_of tables.Deck all,
              _,
              decks,
              (
                rows_of tables.Options all,
                _,
                options,
                (
                  rows_of tables.NoteGrave all,
                  _,
                  note_graves,
                  (
                    rows_of tables.CardGrave all,
                    _,
                    card_graves,
                    (rows_of tables.DeckGrave all, [], deck_graves, refl, refl),
                    refl,
                  ),
                  refl,
                ),
                refl,
              ),
              refl,
            ),
            refl,
          ),
          refl,
        ),
        refl,
      ),
      refl,
    ) in
    record {
      form = none_in download_form (download_json w) refl (download_held w sent);
      parts = record {
        conf = (conf_json w.conf, refl, conf_again w.conf h.conf);
        rows = subst (λ (rs : List Row). ReadsTables download_tables d rs) (sym h.by_table) made;
        crt = low_again 4_294_967_295 (pos 0) w.crt crt_room h.crt;
        moment = low_again 4_294_967_295_999 (pos 0) w.moment moment_room h.moment;
        schema = low_again 4_294_967_295_999 (pos 0) w.schema moment_room h.schema;
        tags = (tags_json w.tags, refl, (behind no_members w.tags, tags_are w.tags h.tags, tags_each w.tags h.tags));
      };
      usn = low_again 2_147_483_646 (pos 0) w.usn number_room sent.usn;
    }

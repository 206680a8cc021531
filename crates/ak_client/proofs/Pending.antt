-- What is still to be sent: it is found one table after the other.
use Rattle.std.specs.Cmp.{signed_Decides, unsigned_Decides}
use Rattle.std.specs.Cmp.Lexicographic.{pointwise}
use Rattle.std.specs.List.{Contains, list_any}
use Rattle.std.specs.Option.{option_map}
use Rattle.std.specs.Ordering.{int_eq}
use Rattle.std.specs.Prelude.{◌≡◌, ◌≢◌, ◌==◌, ◌||◌, ℕ, suc, ℤ, pos, negsuc, Bool, true, false, not, if◌then◌else◌, List, [], ◌∷◌, length, drop, find, Option, Some, None, IfSome}
use Rattle.std.proofs.Common.{refl, ap, ◌∙◌, arith}
use Rattle.ak_base.specs.Rows.{name_of, usn_of}
use Rattle.ak_base.specs.Tables.{all_tables}
use Rattle.ak_base.specs.declared.heads.Tag.{Tag}
use Rattle.ak_base.specs.declared.names.Name.{Name}
use Rattle.ak_base.specs.declared.names.Table.{Table}
use Rattle.ak_base.specs.declared.names.Table.TheVariants as tables
use Rattle.ak_base.specs.declared.rows.Row.{Row}
use Rattle.ak_client.specs.Unsent.{has_unsent, has_unsent_in, has_unsent_row, has_unsent_tag}
use Rattle.ak_keep.specs.Collections.{Collection, is_pending, wanted_past}
use Rattle.ak_keep.specs.declared.keepers.Wanted.TheVariants.{Unsent}
use Rattle.ak_merge.proofs.CommitLaws.{when_some}
use Rattle.ak_merge.proofs.PartLaws.{wanted_rows_are_listed}
use Rattle.ak_merge.specs.Holdings.{row_under, tag_usn, AreNamed, AreChecked}
use Rattle.ak_merge.specs.Links.{IsAllSent}
use Rattle.ak_protocol.proofs.Commits.{not_both}

not_empty : (n : ℕ) → (suc n == 0) ≡ false
not_empty n = elim (suc n == 0) as (λ b. (suc n == 0) ≡ b → b ≡ false) [ true ↦ λ is. absurd (omega (arith, (unsigned_Decides (suc n) 0).0 is)) | false ↦ λ _. refl ] refl

-- ---- where nothing is found all was sent
or_left : (a b : Bool) → (a || b) ≡ false → a ≡ false
or_left false b none = refl
or_left true b none = none

or_right : (a b : Bool) → (a || b) ≡ false → b ≡ false
or_right false b none = none
or_right true b none = absurd (not_both refl none)

none_of_table : (f : Table → Bool) → list_any f all_tables ≡ false → (table : Table) → f table ≡ false
none_of_table f none table = by table
  where
    past_note : list_any f (drop 1 all_tables) ≡ false
    past_note = or_right (f tables.Note) (list_any f (drop 1 all_tables)) none

    past_card : list_any f (drop 2 all_tables) ≡ false
    past_card = or_right (f tables.Card) (list_any f (drop 2 all_tables)) past_note

    past_review : list_any f (drop 3 all_tables) ≡ false
    past_review = or_right (f tables.Review) (list_any f (drop 3 all_tables)) past_card

    past_type : list_any f (drop 4 all_tables) ≡ false
    past_type = or_right (f tables.NoteType) (list_any f (drop 4 all_tables)) past_review

    past_deck : list_any f (drop 5 all_tables) ≡ false
    past_deck = or_right (f tables.Deck) (list_any f (drop 5 all_tables)) past_type

    past_options : list_any f (drop 6 all_tables) ≡ false
    past_options = or_right (f tables.Options) (list_any f (drop 6 all_tables)) past_deck

    past_notes : list_any f (drop 7 all_tables) ≡ false
    past_notes = or_right (f tables.NoteGrave) (list_any f (drop 7 all_tables)) past_options

    past_cards : list_any f (drop 8 all_tables) ≡ false
    past_cards = or_right (f tables.CardGrave) (list_any f (drop 8 all_tables)) past_notes

    by : (table : Table) → f table ≡ false
    by tables.Note = or_left (f tables.Note) (list_any f (drop 1 all_tables)) none
    by tables.Card = or_left (f tables.Card) (list_any f (drop 2 all_tables)) past_note
    by tables.Review = or_left (f tables.Review) (list_any f (drop 3 all_tables)) past_card
    by tables.NoteType = or_left (f tables.NoteType) (list_any f (drop 4 all_tables)) past_review
    by tables.Deck = or_left (f tables.Deck) (list_any f (drop 5 all_tables)) past_type
    by tables.Options = or_left (f tables.Options) (list_any f (drop 6 all_tables)) past_deck
    by tables.NoteGrave = or_left (f tables.NoteGrave) (list_any f (drop 7 all_tables)) past_options
    by tables.CardGrave = or_left (f tables.CardGrave) (list_any f (drop 8 all_tables)) past_notes
    by tables.DeckGrave = or_left (f tables.DeckGrave) false past_cards

has_some : (xs : List Row) (row : Row) → Contains xs row → not (length xs == 0) ≡ true
has_some [] row (k, within, is) = absurd (omega (arith, within))
has_some (x ∷ xs) row has = ap not (not_empty (length xs))

-- a row that was not sent yet is found
row_sent : (c : Collection) → AreNamed (row_under c) → AreChecked (row_under c) → has_unsent_row c.rows ≡ false → (name : Name) (row : Row) → row_under c name ≡ Some row → usn_of row ≢ negsuc 0
row_sent c named checked none name row is unsent =
    let own : name_of row ≡ name = named name row is in
    let pending : is_pending row ≡ true = (signed_Decides (usn_of row) (negsuc 0)).1 unsent in
    let listed : Contains (wanted_past (name_of row).table Unsent (pos 0) c.rows) row = (wanted_rows_are_listed (name_of row).table Unsent c.rows row named checked).1 (record {
      of_table = refl;
      wanted = pending;
      stands = ap (row_under c) own ∙ is;
    }) in
    not_both (has_some (wanted_past (name_of row).table Unsent (pos 0) c.rows) row listed) (none_of_table (has_unsent_in c.rows) none (name_of row).table)

-- and so is a tag
tag_sent : (tags : List Tag) (name : List ℕ) → has_unsent_tag tags ≡ false → IfSome (tag_usn tags name) (λ number. number ≢ negsuc 0)
tag_sent [] name none = tt
tag_sent (tag ∷ more) name none =
    elim (pointwise ◌==◌ tag.name name) as (λ b. IfSome (option_map (λ (t : Tag). t.usn) (if b then Some tag else find (λ (t : Tag). pointwise ◌==◌ t.name name) more)) (λ number. number ≢ negsuc 0)) [
      | true ↦ λ unsent. not_both ((signed_Decides tag.usn (negsuc 0)).1 unsent) (or_left (int_eq tag.usn (negsuc 0)) (has_unsent_tag more) none)
      | false ↦ tag_sent more name (or_right (int_eq tag.usn (negsuc 0)) (has_unsent_tag more) none)
    ]

-- a device of which nothing is found has nothing to send
pub all_is_sent : (c : Collection) → AreNamed (row_under c) → AreChecked (row_under c) → has_unsent c.rows c.head.tags ≡ false → IsAllSent c
all_is_sent c named checked none = record {
  rows = λ name. when_some (λ row. usn_of row ≢ negsuc 0) (row_under c name)
      (row_sent c named checked (or_right (has_unsent_tag c.head.tags) (has_unsent_row c.rows) none) name);
  tags = λ name. tag_sent c.head.tags name (or_left (has_unsent_tag c.head.tags) (has_unsent_row c.rows) none);
}

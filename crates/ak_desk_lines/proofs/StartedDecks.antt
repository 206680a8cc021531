-- The start of a day leaves the decks as they are.
use Rattle.std.specs.Prelude.{◌≡◌, ℤ, Bool, true, false, if◌then◌else◌, List, Option, Some, None, option_and_then}
use Rattle.std.specs.Option.{option_map}
use Rattle.std.proofs.Common.{refl, ap, ◌∙◌}
use Rattle.ak_base.specs.Contents.{same_but_stamp_and_usn}
use Rattle.ak_base.specs.Rows.{stamp_of}
use Rattle.ak_base.specs.declared.days.Day.{Day}
use Rattle.ak_base.specs.declared.names.Table.TheVariants as tables
use Rattle.ak_base.specs.declared.rows.Row.{Row}
use Rattle.ak_base.specs.declared.rows.Row.TheVariants as rows
use Rattle.ak_keep.specs.Collections.{Collection}
use Rattle.ak_keep.specs.Keepers.{Keeping}
use Rattle.ak_keep.specs.Lookups.{as_deck, deck_at}
use Rattle.ak_merge.proofs.EditFacts.{own_fields}
use Rattle.ak_merge.specs.EditBuilding.{unedited, with_conf, with_rows_mapped}
use Rattle.ak_merge.specs.Edits.{Edit, advanced, edited, edited_row, second_of}
use Rattle.ak_merge.specs.Holdings.{name_in, row_under}
use Rattle.ak_study.specs.CardPlaces.{unburied}
use Rattle.ak_study.specs.DayStarts.{HasStarted, begun_on, is_new_day, unburied_row}
use Rattle.ak_undo.specs.declared.steps.Step.{Step}

-- a row that is put as it is stays
kept_row : (second : ℤ) (row : Row) → edited_row second (Some row) (Some row) ≡ Some row
kept_row second row = ap (λ (b : Bool). if b then Some row else Some (edited (advanced second (stamp_of row)) row)) (own_fields row)

-- a card is no deck, whatever it is put as
no_deck : (b : Bool) (second : ℤ) (before made : Row) → as_deck before ≡ None → as_deck (edited second made) ≡ None
    → option_and_then as_deck (if b then Some before else Some (edited second made)) ≡ None
no_deck true second before made was now = was
no_deck false second before made was now = now

-- what the start of a day makes of a row is the same deck
kept_deck : (second : ℤ) (row : Option Row) → option_and_then as_deck (edited_row second row (option_map unburied_row row)) ≡ option_and_then as_deck row
kept_deck second None = refl
kept_deck second (Some (rows.Card card)) =
    no_deck (same_but_stamp_and_usn (rows.Card (unburied card)) (rows.Card card)) (advanced second (stamp_of (rows.Card card))) (rows.Card card) (rows.Card (unburied card)) refl refl
kept_deck second (Some (rows.Note note)) = ap (option_and_then as_deck) (kept_row second (rows.Note note))
kept_deck second (Some (rows.Review review)) = ap (option_and_then as_deck) (kept_row second (rows.Review review))
kept_deck second (Some (rows.NoteType note_type)) = ap (option_and_then as_deck) (kept_row second (rows.NoteType note_type))
kept_deck second (Some (rows.Deck deck)) = ap (option_and_then as_deck) (kept_row second (rows.Deck deck))
kept_deck second (Some (rows.Options options)) = ap (option_and_then as_deck) (kept_row second (rows.Options options))
kept_deck second (Some (rows.Grave grave)) = ap (option_and_then as_deck) (kept_row second (rows.Grave grave))

-- the same of a row that is not changed
unchanged_deck : (second : ℤ) (row : Option Row) → option_and_then as_deck (edited_row second row row) ≡ option_and_then as_deck row
unchanged_deck second None = refl
unchanged_deck second (Some row) = ap (option_and_then as_deck) (kept_row second row)

-- the edit that starts a day, if it starts
abbrev start_if : Day → Collection → Bool → Edit
start_if day c b = if b then with_conf (begun_on day c.head.conf) (with_rows_mapped unburied_row (unedited c)) else unedited c

started_under : (b : Bool) (second : ℤ) (day : Day) (c : Collection) (deck : ℤ)
    → option_and_then as_deck (edited_row second (row_under c (name_in tables.Deck deck)) ((start_if day c b).rows (name_in tables.Deck deck))) ≡ deck_at c.rows deck
started_under true second day c deck = kept_deck second (row_under c (name_in tables.Deck deck))
started_under false second day c deck = unchanged_deck second (row_under c (name_in tables.Deck deck))

-- a deck is held after the start of a day as it was before
pub started_deck : (at deck : ℤ) (c : Collection) (before now : Keeping) (steps left : List Step) (started : HasStarted at c before now steps left)
    → deck_at started.finished.after.rows deck ≡ deck_at c.rows deck
started_deck at deck c before now steps left started =
    ap (option_and_then as_deck) (started.finished.edited.rows (name_in tables.Deck deck))
    ∙ started_under (is_new_day started.day c.head.conf) (second_of at) started.day c deck

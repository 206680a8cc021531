-- The changes that empty a filtered deck and move cards in.
use Rattle.std.specs.Prelude.{◌≡◌, ℤ, pos, ◌||◌, if◌then◌else◌, is_some, List, Option, Some, None}
use Rattle.std.specs.BTreeMap as map
use Rattle.std.specs.Option.{option_or}
use Rattle.std.specs.Ordering.{int_cmp, int_eq}
use Rattle.ak_base.specs.declared.names.Table.TheVariants as tables
use Rattle.ak_base.specs.declared.rows.Row.{Row}
use Rattle.ak_base.specs.declared.rows.Row.TheVariants as rows
use Rattle.ak_edit.specs.Overlays.{Overlay}
use Rattle.ak_filtered.specs.Builds.{refilled}
use Rattle.ak_filtered.specs.Emptyings.{is_away_in}
use Rattle.ak_filtered.specs.HomeDecks.{DeckFlags}
use Rattle.ak_filtered.specs.declared.refills.Dues.{Dues}
use Rattle.ak_keep.specs.Collections.{Rows, rows_past}
use Rattle.ak_study.specs.RowChanges.{put_rows_changed}

-- the dues that were noted
abbrev pub dues_of : Dues → ℤ → Option ℤ
dues_of dues id = map.get int_cmp dues.by_card id

-- no card moves in
abbrev pub no_dues : ℤ → Option ℤ
no_dues id = None

-- a due was noted, if none of the card was
abbrev pub NotesDue : ℤ → ℤ → Dues → Dues → Type 0
NotesDue id due old new =
    (other : ℤ) → dues_of new other ≡ option_or (dues_of old other) (if int_eq id other then Some due else None)

-- the row after the refill, if it is a card that goes home or moves in
abbrev pub refilled_row : ℤ → DeckFlags → (ℤ → Option ℤ) → Row → Option Row
refilled_row deck flags dues (rows.Card card) =
    if is_away_in deck card || is_some (dues card.id) then Some (rows.Card (refilled deck flags dues card)) else None
refilled_row deck flags dues (rows.Note note) = None
refilled_row deck flags dues (rows.Review review) = None
refilled_row deck flags dues (rows.NoteType note_type) = None
refilled_row deck flags dues (rows.Deck other) = None
refilled_row deck flags dues (rows.Options options) = None
refilled_row deck flags dues (rows.Grave grave) = None

-- all such rows were put
abbrev pub refill : ℤ → DeckFlags → (ℤ → Option ℤ) → Rows → Overlay → Overlay
refill deck flags dues held = put_rows_changed (refilled_row deck flags dues) (rows_past tables.Card (pos 0) held)

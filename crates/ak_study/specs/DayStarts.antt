-- The start of a day: cards that were buried come back, once a day.
use Rattle.std.specs.Prelude.{◌≡◌, ℤ, pos, Bool, if◌then◌else◌, int_lt, List, Option, Some, None}
use Rattle.ak_base.specs.Days.{IsDayOf}
use Rattle.ak_base.specs.Heads.{IsWithin}
use Rattle.ak_base.specs.declared.cards.Card.{Card}
use Rattle.ak_base.specs.declared.days.Day.{Day}
use Rattle.ak_base.specs.declared.heads.Conf.{Conf}
use Rattle.ak_base.specs.declared.heads.Head.{Head}
use Rattle.ak_base.specs.declared.names.Table.TheVariants as tables
use Rattle.ak_base.specs.declared.rows.Row.{Row}
use Rattle.ak_base.specs.declared.rows.Row.TheVariants as rows
use Rattle.ak_edit.specs.Ends.{IsFinished, RefusesStamp}
use Rattle.ak_edit.specs.Overlays.{Overlay, conf_over}
use Rattle.ak_edit.specs.Refusals.{Refusal}
use Rattle.ak_base.specs.RowsOfOneKind.{on_card}
use Rattle.ak_keep.specs.Collections.{Collection, Holding, Rows, rows_past}
use Rattle.ak_keep.specs.Keepers.{Keeping, WhereHeld}
use Rattle.ak_merge.specs.EditBuilding.{unedited, with_conf, with_rows_mapped}
use Rattle.ak_merge.specs.Edits.{Edit}
use Rattle.ak_study.specs.CardPlaces.{lies_buried, restored, unburied}
use Rattle.ak_study.specs.RowChanges.{put_rows_changed}
use Rattle.ak_study.specs.declared.day_starts.Begun.{Begun}
use Rattle.ak_undo.specs.declared.steps.Step.{Step}

-- a moment in milliseconds that lies in a day: from 1970 on, and its second fits a stamp
abbrev pub IsInDay : ℤ → Type 0
IsInDay at = IsWithin (pos 0) (pos 4_294_967_294_999) at

-- ---- the rule
-- a row that is buried no more, if it is a card
abbrev pub unburied_row : Row → Row
unburied_row = on_card unburied

-- the settings of a collection whose buried cards came back on this day
abbrev pub begun_on : Day → Conf → Conf
begun_on day conf = record conf { last_unburied = day.number }

-- whether buried cards last came back before this day
abbrev pub is_new_day : Day → Conf → Bool
is_new_day day conf = int_lt conf.last_unburied day.number

-- the edit that starts the day: all buried cards come back, unless they did today
abbrev pub day_start : Day → Collection → Edit
day_start day c =
    if is_new_day day c.head.conf then with_conf (begun_on day c.head.conf) (with_rows_mapped unburied_row (unedited c))
    else unedited c

-- on the day of this moment, the day's start was done to the collection that was held
pub record HasStarted (at : ℤ) (c : Collection) (before now : Keeping) (steps left : List Step) : Type 0 where
  pub day : Day
  pub is_day : IsDayOf c.head.crt at day
  pub finished : IsFinished at c (day_start day c) before now steps left

-- the same, where a collection is told
abbrev pub StartsDay : ℤ → Keeping → Keeping → List Step → List Step → Type 0
StartsDay at before now steps left = WhereHeld before (λ c. HasStarted at c before now steps left)

-- a test that holds on the day of this moment
abbrev pub OnDay : ℤ → Collection → (Day → Refusal) → Refusal
OnDay at c tests fault = (day : Day) × IsDayOf c.head.crt at day × tests day fault

-- the test of that edit: a stamp or the moment ends
abbrev pub RefusesStart : ℤ → Collection → Refusal
RefusesStart at c = OnDay at c (λ day. RefusesStamp at c (day_start day c))

-- ---- the changes that are made for it
-- the row that comes back, if it is a buried card
abbrev pub back_again : Row → Option Row
back_again (rows.Card card) = if lies_buried card then Some (rows.Card (restored card)) else None
back_again (rows.Note note) = None
back_again (rows.Review review) = None
back_again (rows.NoteType note_type) = None
back_again (rows.Deck deck) = None
back_again (rows.Options options) = None
back_again (rows.Grave grave) = None

-- all buried cards came back
abbrev pub all_back : Rows → Overlay → Overlay
all_back held = put_rows_changed back_again (rows_past tables.Card (pos 0) held)

-- the day has begun, over these settings
abbrev pub begun_over : Begun → Rows → Conf → Overlay → Overlay
begun_over begun held conf o = if begun.starts then conf_over (begun_on begun.day conf) (all_back held o) else o

-- a card as it is once the day has begun
abbrev pub card_begun : Begun → Card → Card
card_begun begun card = if begun.starts then unburied card else card

-- the day of this moment has begun in an edit
pub record HasBegun (at : ℤ) (h : Holding) (begun : Begun) (old new : Overlay) : Type 0 where
  pub head : Head
  pub is_head : h.head ≡ Some head
  pub day : IsDayOf head.crt at begun.day
  pub starts : begun.starts ≡ is_new_day begun.day head.conf
  pub changes : new ≡ begun_over begun h.rows head.conf old

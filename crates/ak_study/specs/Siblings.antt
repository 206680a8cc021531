-- The other cards of a note that are buried when one of them was answered.
use Rattle.std.specs.Prelude.{ℤ, negsuc, Bool, ◌&&◌, if◌then◌else◌, List, [], ◌∷◌, Option, Some, None, option_and_then}
use Rattle.std.specs.Ordering.{int_eq}
use Rattle.ak_base.specs.declared.cards.Card.{Card}
use Rattle.ak_base.specs.declared.days.Day.{Day}
use Rattle.ak_base.specs.declared.names.Name.{Name}
use Rattle.ak_base.specs.declared.names.Table.TheVariants as tables
use Rattle.ak_base.specs.declared.option_groups.Options.{Options}
use Rattle.ak_base.specs.declared.rows.Row.{Row}
use Rattle.ak_base.specs.declared.rows.Row.TheVariants as rows
use Rattle.ak_edit.specs.Overlays.{Overlay, row_over}
use Rattle.ak_keep.specs.Graves.{RowsByName}
use Rattle.ak_merge.specs.Holdings.{name_in}
use Rattle.ak_queue.specs.Burials.{burial_of, is_other_buried}
use Rattle.ak_study.specs.CardPlaces.{queued}
use Rattle.ak_study.specs.RowChanges.{put_some}

-- whether a card is buried since this other one of its note was answered, by the options of that, on this day
abbrev pub is_buried_by : Card → Options → Day → Card → Bool
is_buried_by was options day card = int_eq card.nid was.nid && is_other_buried (burial_of was options day) card.id (Some card)

-- a card after another one was answered: buried as its sibling in queue -2, or as it was
abbrev pub sibling_after : Card → Options → Day → Card → Card
sibling_after was options day card = if is_buried_by was options day card then queued (negsuc 1) card else card

-- ---- the changes that are made for it
-- the row in queue -2, if it is a card
abbrev pub as_sibling : Row → Option Row
as_sibling (rows.Card card) = Some (rows.Card (queued (negsuc 1) card))
as_sibling (rows.Note note) = None
as_sibling (rows.Review review) = None
as_sibling (rows.NoteType note_type) = None
as_sibling (rows.Deck deck) = None
as_sibling (rows.Options options) = None
as_sibling (rows.Grave grave) = None

-- the row of a name was put in queue -2 as the changes so far have it, if it is a card
abbrev pub put_aside : RowsByName → Name → Overlay → Overlay
put_aside at name o = put_some (option_and_then as_sibling (row_over o at name)) o

-- the same of the card of an id
abbrev pub put_sibling : RowsByName → ℤ → Overlay → Overlay
put_sibling at id = put_aside at (name_in tables.Card id)

-- the same of each of these ids
abbrev pub put_siblings : RowsByName → List ℤ → Overlay → Overlay
put_siblings at [] o = o
put_siblings at (id ∷ ids) o = put_siblings at ids (put_sibling at id o)

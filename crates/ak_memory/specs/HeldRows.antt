-- The rows in boxes.
use Rattle.std.specs.Prelude.{Option}
use Rattle.std.specs.Global.{Box}
use Rattle.std.specs.Option.{option_map}
use Rattle.ak_base.specs.declared.rows.Row.{Row}
use Rattle.ak_base.specs.declared.rows.Row.TheVariants as rows
use Rattle.ak_memory.specs.declared.held_rows.HeldRow.{HeldRow}
use Rattle.ak_memory.specs.declared.held_rows.HeldRow.TheVariants as boxed
use Rattle.ak_memory.specs.declared.held_rows.Replacement.{Replacement}

-- the row that is held
abbrev pub held_row : HeldRow → Row
held_row (boxed.Note note) = rows.Note note.value
held_row (boxed.Card card) = rows.Card card.value
held_row (boxed.Review review) = rows.Review review.value
held_row (boxed.NoteType note_type) = rows.NoteType note_type.value
held_row (boxed.Deck deck) = rows.Deck deck.value
held_row (boxed.Options options) = rows.Options options.value
held_row (boxed.Grave grave) = rows.Grave grave.value

-- the row that is held, if there is one
abbrev pub held_in : Option HeldRow → Option Row
held_in held = option_map held_row held

-- the row that is to be held, if there is one
abbrev pub row_in : Option (Box Replacement) → Option Row
row_in boxed = option_map (λ b. held_row b.value.row) boxed

-- What is made of one record is tested before the next record is looked at: its rows, and then their stamps and the moment.
use Rattle.std.specs.Prelude.{ℤ, pos, Bool, true, false, not, ◌&&◌, ◌||◌, int_lt, if◌then◌else◌, List, [], ◌∷◌, map, Option, Some, None, Result, Ok, Err}
use Rattle.std.specs.Option.{option_map, option_or}
use Rattle.ak_base.specs.Limits.{last_moment, last_stamp}
use Rattle.ak_base.specs.Rows.{check_of}
use Rattle.ak_base.specs.declared.cards.Card.{Card}
use Rattle.ak_base.specs.declared.errors.RowFault.{RowFault}
use Rattle.ak_base.specs.declared.rows.Row.{Row}
use Rattle.ak_base.specs.declared.rows.Row.TheVariants as rows
use Rattle.ak_edit.specs.declared.desk_faults.DeskFault.{DeskFault}
use Rattle.ak_edit.specs.declared.desk_faults.DeskFault.TheVariants as faults
use Rattle.ak_imports.specs.declared.own_tests.Trial.{Trial}
use Rattle.ak_merge.specs.Edits.{advanced, second_of}
use Rattle.ak_notes.specs.declared.made_notes.MadeNote.{MadeNote}

-- ---- rows
-- the rows that are made: the note, and then its new cards
abbrev pub rows_made : MadeNote → List Row
rows_made made = rows.Note made.note ∷ map (λ (card : Card). rows.Card card) made.cards

-- the fault of a check
abbrev pub fault_in : Result (Unit {0}) RowFault → Option RowFault
fault_in (Ok passed) = None
fault_in (Err fault) = Some fault

-- the fault of the first of the rows that does not pass its check
abbrev pub first_row_fault : List Row → Option RowFault
first_row_fault [] = None
first_row_fault (row ∷ others) = option_or (fault_in (check_of row)) (first_row_fault others)

-- ---- stamps
-- whether a number is from 0 to the last one
abbrev pub is_up_to : ℤ → ℤ → Bool
is_up_to last number = not (int_lt number (pos 0)) && not (int_lt last number)

-- whether there are no cards
abbrev pub is_without : List Card → Bool
is_without [] = true
is_without (card ∷ cards) = false

-- the stamp that the note gets: that of now if it is new, else the greater of now and its old one plus 1
abbrev pub note_stamp : Trial → ℤ → ℤ
note_stamp trial old = if trial.is_new then second_of trial.at else advanced (second_of trial.at) old

-- whether the note's stamp, those of its new cards, which are that of now, and the collection's moment can rise
abbrev pub can_rise : Trial → MadeNote → Bool
can_rise trial made =
    is_up_to last_stamp (note_stamp trial made.note.stamp)
    && ((is_without made.cards || is_up_to last_stamp (second_of trial.at))
    && is_up_to last_moment (advanced trial.at trial.moment))

-- ---- both
-- a stamp or the moment has no value left to rise to
abbrev pub end_fault : Trial → MadeNote → Option DeskFault
end_fault trial made = if can_rise trial made then None else Some faults.StampEnd

-- why what is made of a record is refused: for its first row that does not pass its check, and then for the end of a stamp or
-- of the moment
abbrev pub own_fault : Trial → MadeNote → Option DeskFault
own_fault trial made = option_or (option_map (λ fault. faults.Row fault) (first_row_fault (rows_made made))) (end_fault trial made)

-- What the desk prints for a line that it obeyed.
use Rattle.std.specs.Prelude.{ℕ, ℤ, List, [], ◌∷◌, ◌++◌, length, Option, Some, None, codes, decimal}
use Rattle.std.specs.Fmt.{signed_decimal}
use Rattle.ak_desk_texts.specs.declared.answers.DeskAnswer.{DeskAnswer}
use Rattle.ak_desk_texts.specs.declared.answers.DeskAnswer.TheVariants as answers
use Rattle.ak_merge.specs.declared.checks.CheckFault.{CheckFault}
use Rattle.ak_merge.specs.declared.checks.CheckFault.TheVariants as checks

-- each id with a space before it
abbrev pub ids_text : List ℤ → List ℕ
ids_text [] = []
ids_text (id ∷ ids) = codes " " ++ signed_decimal id ++ ids_text ids

-- the first fault of a collection
abbrev pub check_fault_text : CheckFault → List ℕ
check_fault_text (checks.CardNoNote card) = codes "card " ++ signed_decimal card ++ codes " without note"
check_fault_text (checks.NoteNoCard note) = codes "note " ++ signed_decimal note ++ codes " without card"
check_fault_text (checks.NoteNoType note) = codes "note " ++ signed_decimal note ++ codes " without type"
check_fault_text (checks.CardNoTemplate card) = codes "card " ++ signed_decimal card ++ codes " without template"

-- a note and its cards
abbrev pub note_text : ℤ → List ℤ → List ℕ
note_text note cards = codes "note " ++ signed_decimal note ++ codes " cards" ++ ids_text cards

-- where a card is after its answer
abbrev pub answered_text : ℤ → ℤ → ℤ → List ℕ
answered_text queue due interval =
    codes "answered queue " ++ signed_decimal queue ++ codes " due " ++ signed_decimal due
    ++ codes " ivl " ++ signed_decimal interval

-- how many cards are left
abbrev pub counts_text : ℕ → ℕ → ℕ → List ℕ
counts_text new_cards learning reviews =
    codes "new " ++ decimal new_cards ++ codes " learning " ++ decimal learning ++ codes " review " ++ decimal reviews

-- what is printed, without its line feed
abbrev pub answer_text : DeskAnswer → List ℕ
answer_text answers.Done = codes "ok"
answer_text (answers.AddedNote note cards) = note_text note cards
answer_text (answers.AddedDeck deck) = codes "deck " ++ signed_decimal deck
answer_text (answers.PutOptions options) = codes "options " ++ signed_decimal options
answer_text (answers.AddedType note_type) = codes "type " ++ signed_decimal note_type
answer_text (answers.Answered queue due interval) = answered_text queue due interval
answer_text (answers.Next None) = codes "none"
answer_text (answers.Next (Some card)) = codes "card " ++ signed_decimal card
answer_text (answers.Counts new_cards learning reviews) = counts_text new_cards learning reviews
answer_text (answers.Found cards) = codes "found " ++ decimal (length cards) ++ ids_text cards
answer_text (answers.Page text) = text
answer_text (answers.Checked None) = codes "sound"
answer_text (answers.Checked (Some fault)) = check_fault_text fault
answer_text (answers.Built count) = codes "built " ++ decimal count
answer_text (answers.Emptied count) = codes "emptied " ++ decimal count

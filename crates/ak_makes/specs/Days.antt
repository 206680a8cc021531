-- The day of work on a device that has the collection of a seed: cards are answered, and then notes are added.
use Rattle.std.specs.Prelude.{◌≡◌, ℕ, ℤ, pos, ◌+◌, ◌*◌, ◌%◌, min, List, [], ◌∷◌, ◌++◌, None, codes, decimal}
use Rattle.std.specs.List.{range_with_len}
use Rattle.ak_base.specs.declared.cards.Card.{Card}
use Rattle.ak_keep.specs.Keepers.{Keeping}
use Rattle.ak_made_collections.specs.RowIds.{made_id}
use Rattle.ak_made_collections.specs.RowNumbers.{cards_before, words_before_note}
use Rattle.ak_made_collections.specs.SeedWords.{nth_word}
use Rattle.ak_notes.specs.Additions.{DoesAdd}
use Rattle.ak_notes.specs.declared.additions.Added.{Added}
use Rattle.ak_notes.specs.declared.additions.NewNote.{NewNote}
use Rattle.ak_study.specs.Answers.{Answers}
use Rattle.ak_study.specs.declared.answers.CardAnswer.{CardAnswer}
use Rattle.ak_undo.specs.declared.steps.Step.{Step}

-- ---- edits by their numbers
-- what the edit of a number makes of what a keeper keeps and of an undo list. It is said where the keeper tells a collection
abbrev pub NumberedEdit : Type 1
NumberedEdit = (number : ℕ) (was now : Keeping) (steps left : List Step) → Type 0

-- the edits of these numbers were made, one after the other
abbrev pub EditsInTurn : NumberedEdit → List ℕ → Keeping → Keeping → List Step → List Step → Type 0
EditsInTurn edits [] was now steps left = (now ≡ was) × (left ≡ steps)
EditsInTurn edits (number ∷ numbers) was now steps left =
    (mid : Keeping) × (between : List Step) × edits number was mid steps between × EditsInTurn edits numbers mid now between left

-- ---- answers
-- how many cards are answered: all, but at most 180
abbrev pub answer_count : ℕ → ℕ
answer_count size = min (cards_before size) 180

-- when the card of this number, from 0, is answered, in milliseconds: one each second, from one second after the server was opened on
abbrev pub answer_moment : ℕ → ℤ
answer_moment number = pos (1_700_000_001_000 + 1_000 * number)

-- how many words come before those of the answer of this number: the collection's, and two for each answer before it
abbrev pub words_before_answer : ℕ → ℕ → ℕ
words_before_answer size number = words_before_note size + 2 * number

-- how it is answered, in five seconds: by two words, of which one is its button, and the other its word of chance
abbrev pub given_answer : ℕ → ℕ → ℕ → CardAnswer
given_answer seed size number = record {
  card = made_id number;
  button = 1 + nth_word seed (words_before_answer size number) % 4;
  taken = 5_000;
  word = nth_word seed (words_before_answer size number + 1);
}

-- the card of a number was answered
abbrev pub AnswersCard : ℕ → ℕ → NumberedEdit
AnswersCard seed size number was now steps left =
    (card : Card) × Answers (answer_moment number) (given_answer seed size number) was now steps left card

-- ---- new notes
-- when each of them is added, in milliseconds
abbrev pub addition_moment : ℤ
addition_moment = pos 1_700_000_200_000

-- how many words come before that of the new note of this number: those of all answers too, and one for each new note before it
abbrev pub words_before_new_note : ℕ → ℕ → ℕ
words_before_new_note size number = words_before_answer size (answer_count size) + number

-- the new note of this number, from 0: its word is the one of chance that its name is made of
abbrev pub new_note : ℕ → ℕ → ℕ → NewNote
new_note seed size number = record {
  note_type = pos 1;
  deck = pos 1;
  guid = None;
  fields = (codes "new " ++ decimal (number + 1)) ∷ codes "x" ∷ [];
  tags = [];
  chance = nth_word seed (words_before_new_note size number);
}

-- the new note of a number was added
abbrev pub AddsNote : ℕ → ℕ → NumberedEdit
AddsNote seed size number was now steps left =
    (added : Added) × DoesAdd addition_moment (new_note seed size number) was now steps left added

-- ---- the day
-- the first cards by id were answered, and then 12 notes were added
pub record DoesDay (seed size : ℕ) (was now : Keeping) (steps left : List Step) : Type 0 where
  pub mid : Keeping
  pub between : List Step
  pub answered : EditsInTurn (AnswersCard seed size) (range_with_len 0 (answer_count size)) was mid steps between
  pub added : EditsInTurn (AddsNote seed size) (range_with_len 0 12) mid now between left

use Rattle.std.proofs.Common.{◌≡◌, ◌||◌, ℤ, length}
use Rattle.ak_search.specs.CardFacts.{is_answer_in}
use Rattle.ak_search.specs.Passes.{is_shown}
use Rattle.ak_search.proofs.answers.Answers.add_rows.Given as goal

-- what is shown, with the rows that are left, is what the rows showed
abbrev pub invariant-loop-row : goal.invariant-loop-row
invariant-loop-row l =
    (card ease least : ℤ) → (is_shown l.self card ease least || is_answer_in card ease least l.rest) ≡ (is_shown l.fn.self card ease least || is_answer_in card ease least l.rows)

abbrev pub decreases-loop-row : goal.decreases-loop-row
decreases-loop-row l = length l.rest

use Rattle.std.proofs.Common.{◌≡◌, ◌∷◌, rules}
use Rattle.ak_search.specs.CardFacts.{is_answer, is_answer_in}
use Rattle.ak_search.proofs.Answering.{row_added}
use Rattle.ak_search.proofs.answers.Answers.add_rows.Goals as goal

pub loop-row-preserved : goal.loop-row-preserved
loop-row-preserved c = λ card ease least.
    let rest : c.loop-row.rest.now ≡ c.in-Some.row.now ∷ c.in-Some.others.now = search rules in
    row_added _ _ (is_answer card ease least c.in-Some.row.now) (is_answer_in card ease least c.in-Some.others.now) _ (c.in_ok-add_row.ensures card ease least) (rw rest at (c.loop-row.invariant card ease least))

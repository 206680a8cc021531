use Rattle.std.proofs.Common.{◌∙◌}
use Rattle.ak_faults.proofs.Healths.{goes_further}
use Rattle.ak_makes.proofs.DayEdits.{one_more}
use Rattle.ak_makes.proofs.days.answer_cards.Goals as goal
use Rattle.ak_makes.specs.Days.{AnswersCard}

pub loop-number-preserved : goal.loop-number-preserved
loop-number-preserved g c =
    let K = g.K.Lookup in
    record {
      made = one_more (AnswersCard c.args.plan.seed c.args.plan.size.notes) c.loop-number.number (K.keeping c.args.keeper.now) (K.keeping c.loop-number.keeper) (K.keeping c.answer_one.new.keeper)
          c.args.undo.now c.loop-number.undo c.answer_one.new.undo c.loop-number.invariant.made c.in_ok-answer_one.ensures.ok;
      stays = c.answer_one.ensures.stays ∙ c.loop-number.invariant.stays;
      goes = goes_further c.loop-number.invariant.goes c.answer_one.ensures.cause.goes;
    }

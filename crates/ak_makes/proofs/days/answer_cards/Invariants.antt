use Rattle.std.proofs.Common.{◌≡◌}
use Rattle.std.specs.List.{range_with_len}
use Rattle.ak_faults.specs.Causes.{GoesOn}
use Rattle.ak_makes.specs.Days.{AnswersCard, EditsInTurn}
use Rattle.ak_makes.proofs.days.answer_cards.Given as goal

-- those so far were made, and the keeper goes on
abbrev pub invariant-loop-number : goal.invariant-loop-number
invariant-loop-number g l = record {
  made : EditsInTurn (AnswersCard l.plan.seed l.plan.size.notes) (range_with_len 0 l.number)
      (g.K.Lookup.keeping l.fn.keeper) (g.K.Lookup.keeping l.keeper) l.fn.undo l.undo;
  stays : (g.K.Lookup.keeping l.keeper).headed ≡ (g.K.Lookup.keeping l.fn.keeper).headed;
  goes : GoesOn (g.K.Lookup.health l.fn.keeper) (g.K.Lookup.health l.keeper);
}

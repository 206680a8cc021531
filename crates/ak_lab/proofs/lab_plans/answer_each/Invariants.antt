use Rattle.std.proofs.Common.{drop}
use Rattle.ak_lab.proofs.Planned.{AnswersSoFar}
use Rattle.ak_lab.proofs.lab_plans.answer_each.Given as goal

-- those so far are answered, and the others are left
abbrev pub invariant-loop-request : goal.invariant-loop-request
invariant-loop-request l = AnswersSoFar l.requests (drop l.request-index l.requests) l.fn.at l.fn.server l.server l.printed

use Rattle.ak_filters.proofs.Stripping.{unmarked_stays, mark_between}
use Rattle.ak_filters.proofs.strips.around_space.Goals as goal

pub returns-in-Some-clause-steps : goal.returns-in-Some-clause-steps
returns-in-Some-clause-steps c = mark_between c.args.text.now c.in-Some.kept.now c.in-Some.others.now c.in-Some.ensures.front c.in-Some.ensures.has c.in-Some.ensures.behind

pub returns-in-None-clause-none : goal.returns-in-None-clause-none
returns-in-None-clause-none c = unmarked_stays c.args.text.now c.in-None.ensures.none

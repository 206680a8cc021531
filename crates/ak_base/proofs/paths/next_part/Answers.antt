use Rattle.ak_base.proofs.Pathways.{first_part, one_part}
use Rattle.ak_base.proofs.paths.next_part.Goals as goal

pub returns-in-Some-clause-first : goal.returns-in-Some-clause-first
returns-in-Some-clause-first c = rw (c.in-Some.ensures.front, c.in-Some.ensures.behind) (first_part c.args.path.now c.in-Some.ensures.has)

pub returns-in-None-clause-one : goal.returns-in-None-clause-one
returns-in-None-clause-one c = one_part c.args.path.now c.in-None.ensures.none

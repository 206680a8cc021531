use Rattle.std.proofs.Common.{sym, ◌∙◌}
use Rattle.ak_filters.proofs.Reading.{no_mark_left, no_mark_at_all}
use Rattle.ak_filters.proofs.readings.split_base.Goals as goal

pub returns-then-has_space-clause-no_mark : goal.returns-then-has_space-clause-no_mark
returns-then-has_space-clause-no_mark c = no_mark_left c.args.text.now c.in-Some.kept.now c.in-Some.base.now c.split_at_space.result.0.now c.split_at_space.result.1.now c.split_at_space.result.2.now c.in-Some.ensures.whole c.in-Some.ensures.last (sym c.has_space.ensures ∙ c.if-has_space.true) c.split_at_space.ensures

pub returns-in-None-clause-no_mark : goal.returns-in-None-clause-no_mark
returns-in-None-clause-no_mark c = no_mark_at_all c.args.text.now c.split_at_space-in-None.result.0.now c.split_at_space-in-None.result.1.now c.split_at_space-in-None.result.2.now c.in-None.ensures.none c.split_at_space-in-None.ensures

use Rattle.std.proofs.Common.{rules}
use Rattle.ak_sched.proofs.answers.state_of.Goals as goal

pub returns-clause-value : goal.returns-clause-value
returns-clause-value c = record {
  kind = search rules;
  new = search rules;
  begun = search rules;
  ivl = search rules;
  factor = search rules;
  lapses = search rules;
  late = search rules;
}

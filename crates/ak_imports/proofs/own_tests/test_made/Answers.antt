use Rattle.std.proofs.Common.{sym, ◌∙◌}
use Rattle.ak_imports.proofs.OwnTesting.{all_checked}
use Rattle.ak_imports.proofs.own_tests.test_made.Goals as goal

pub returns-then-can_rise-clause-checked : goal.returns-then-can_rise-clause-checked
returns-then-can_rise-clause-checked c = all_checked c.args.rows.now (sym c.first_row_fault.ensures ∙ c.in_default.is)

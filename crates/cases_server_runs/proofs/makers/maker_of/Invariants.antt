use Rattle.std.specs.List.{All}
use Rattle.ak_account_keepers.specs.Makers.{IsNew}
use Rattle.cases_server_runs.proofs.makers.maker_of.Given as goal

abbrev pub invariant-loop-keeper : goal.invariant-loop-keeper
invariant-loop-keeper l = All IsNew l.checked

use Rattle.std.proofs.Common.{refl, sym}
use Rattle.ak_cli.proofs.program_runs.run_words.Goals as goal

pub returns-in-Some-clause-ends : goal.returns-in-Some-clause-ends
returns-in-Some-clause-ends g c = rw (sym c.command_of.ensures) (rw c.in-Some.is c.run_command.ensures.ends)

pub returns-in-None-clause-ends : goal.returns-in-None-clause-ends
returns-in-None-clause-ends g c = rw (sym c.command_of.ensures) (rw c.in-None.is c.print_usage.ensures.either)

pub returns-in-Some-clause-leaves : goal.returns-in-Some-clause-leaves
returns-in-Some-clause-leaves g c = rw (sym c.command_of.ensures) (rw c.in-Some.is c.run_command.ensures.leaves)

pub returns-in-None-clause-leaves : goal.returns-in-None-clause-leaves
returns-in-None-clause-leaves g c = rw (sym c.command_of.ensures) (rw c.in-None.is refl)

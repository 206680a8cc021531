use Rattle.std.proofs.Common.{arith}
use Rattle.ak_client.proofs.Keeping.{keeper_cause}
use Rattle.ak_exchange.proofs.Faults.{cause_ok, cause_unlike}
use Rattle.ak_client.proofs.greetings.test_rows.Goals as goal

pub returns-in_err-fault-clause-keeper : goal.returns-in_err-fault-clause-keeper
returns-in_err-fault-clause-keeper g c = keeper_cause _ _ c.in_err-fault.ensures.reads.cause c.from_residual.ensures.1

pub returns-in-Some-clause-keeper : goal.returns-in-Some-clause-keeper
returns-in-Some-clause-keeper g c = cause_unlike _ c.in_ok-fault.ensures.reads.cause.goes (λ is. grind (arith, is))

pub returns-in-None-clause-keeper : goal.returns-in-None-clause-keeper
returns-in-None-clause-keeper g c = cause_ok _ c.in_ok-fault.ensures.reads.cause.goes

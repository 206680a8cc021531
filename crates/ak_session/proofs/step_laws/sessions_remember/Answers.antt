use Rattle.ak_session.proofs.Steps.{last_is, chunks_are_counted, number_stays, moment_stays}
use Rattle.ak_session.proofs.step_laws.sessions_remember.Goals as goal

pub returns : goal.returns
returns c = record { last = last_is; chunks = chunks_are_counted; number = number_stays; moment = moment_stays }

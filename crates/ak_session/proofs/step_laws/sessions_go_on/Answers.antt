use Rattle.ak_session.proofs.Steps.{session_goes_on, device_goes_on, given_more, brought_more}
use Rattle.ak_session.proofs.step_laws.sessions_go_on.Goals as goal

pub returns : goal.returns
returns c = record { session = session_goes_on; device = device_goes_on; given = given_more; brought = brought_more }

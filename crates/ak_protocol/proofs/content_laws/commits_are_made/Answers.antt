use Rattle.ak_protocol.proofs.ContentLaws.{what_came, commits_are_made}
use Rattle.ak_protocol.proofs.content_laws.commits_are_made.Goals as goal

pub returns : goal.returns
returns c = record { served = λ s request now setback timely lawful. what_came s request now timely lawful setback; logs = commits_are_made }

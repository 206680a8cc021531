-- What the laws on summaries say.
use Rattle.std.specs.Prelude.{[], ◌∷◌, ◌++◌}
use Rattle.ak_messages.specs.declared.requests.Request.{Request}
use Rattle.ak_protocol.specs.Accounts.{SessionState}
use Rattle.ak_protocol.specs.Serving.{Served}
use Rattle.ak_server_rules.specs.Serving.{Did}
use Rattle.ak_server_rules.specs.Summaries.{account_summary}

-- a session that accepted one request more
abbrev pub session_with : SessionState → Request → SessionState
session_with session request = record session { accepted = session.accepted ++ request ∷ [] }

-- a serving, by what is remembered of the account after it
abbrev pub summed : Served → Did
summed it = record { reply = it.reply; next = account_summary it.next; is_commit = it.is_commit }

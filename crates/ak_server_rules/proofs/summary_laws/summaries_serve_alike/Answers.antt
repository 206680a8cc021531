use Rattle.ak_server_rules.proofs.Summing.{summary_goes_on, same_served}
use Rattle.ak_server_rules.proofs.summary_laws.summaries_serve_alike.Goals as goal

pub returns : goal.returns
returns c = record { goes_on = summary_goes_on; alike = same_served }

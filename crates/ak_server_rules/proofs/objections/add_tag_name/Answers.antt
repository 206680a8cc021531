use Rattle.std.proofs.Common.{Bor}
use Rattle.ak_server_rules.proofs.objections.add_tag_name.Goals as goal

pub returns-clause-added : goal.returns-clause-added
returns-clause-added c = λ other. c.in_ok-insert.ensures.updates.0 (record { ref_ptr = c.args.name.ref_ptr; now = other })

use Rattle.std.proofs.Common.{rules, refl}
use Rattle.serde_json.specs.View.{view}
use Rattle.ak_wire.proofs.ReadForms.{refused_read}
use Rattle.ak_wire.proofs.replies.read_refused.Goals as goal

pub returns-clause-ok : goal.returns-clause-ok
returns-clause-ok c = refused_read (view c.args.value.now) _ c.in_ok-check_object.ensures.ok (search rules) (search rules) refl

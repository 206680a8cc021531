use Rattle.std.proofs.Common.{rules}
use Rattle.serde_json.specs.View.{view}
use Rattle.ak_wire.proofs.ReadForms.{meta_read}
use Rattle.ak_wire.proofs.replies.read_meta.Goals as goal

pub returns-clause-ok : goal.returns-clause-ok
returns-clause-ok c =
    meta_read (view c.args.value.now) _ c.in_ok-check_object.ensures.ok (search rules) (search rules) (search rules) (search rules) (search rules) (search rules) (search rules)

use Rattle.std.proofs.Common.{◌≡◌, None, sym}
use Rattle.serde_json.specs.View.{members_view}
use Rattle.serde_json.proofs.Views.{view-Object}
use Rattle.ak_json.specs.Members.{deep_member}
use Rattle.ak_json.proofs.Kept.{plain_kept}
use Rattle.ak_json.proofs.rests.as_rest.Goals as goal

pub of-requires-in-None : goal.of-requires-in-None
of-requires-in-None g c =
    let shallow : deep_member (members_view c.args.members.entries) ≡ None = sym c.in-None.ensures in
    rw (view-Object c.args.members) (plain_kept g.O.Owner.ignores _ shallow c.requires)

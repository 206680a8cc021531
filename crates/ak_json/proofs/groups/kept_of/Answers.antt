use Rattle.serde_json.specs.View.{view, members_view}
use Rattle.ak_json.proofs.OptionRests.{put_together}
use Rattle.ak_json.proofs.groups.kept_of.Goals as goal

pub returns : goal.returns
returns c =
    put_together
    c.args.version
    c.new_form.result.now
    c.rev_form.result.now
    c.lapse_form.result.now
    (view c.args.value.now)
    (view c.inner_at.result.now)
    (view c.inner_at-2.result.now)
    (view c.inner_at-3.result.now)
    (members_view c.in_ok-members.members.entries)
    (members_view c.put_group.new.members.entries)
    (members_view c.put_group-2.new.members.entries)
    (members_view c.put_group-3.new.members.entries)
    (members_view c.in_ok-new.new.entries)
    (members_view c.in_ok-rev.rev.entries)
    (members_view c.in_ok-lapse.lapse.entries)
    c.new_form.ensures
    c.rev_form.ensures
    c.lapse_form.ensures
    c.in_ok-members.ensures
    c.inner_at.ensures
    c.in_ok-new.ensures
    c.in_ok-put_group.ensures
    c.inner_at-2.ensures
    c.in_ok-rev.ensures
    c.in_ok-put_group-2.ensures
    c.inner_at-3.ensures
    c.in_ok-lapse.ensures
    c.in_ok-put_group-3.ensures

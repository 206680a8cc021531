use Rattle.std.proofs.Common.{ap, ◌∙◌}
use Rattle.ak_sync_in_memory.proofs.Failing.{logged_failing, state_failing}
use Rattle.ak_sync_in_memory.proofs.Served.{is_held}
use Rattle.ak_sync_in_memory.specs.Entries.{LoggedState}
use Rattle.ak_sync_in_memory.proofs.logged_servers.LoggedServer.fail_at.Goals as goal

pub invariant_of-self : goal.invariant_of-self
invariant_of-self c =
    logged_failing c.self.inside.server c.fail_at-is_found.new.self c.self.inside.host.digits c.args.calls c.fail_at-is_found.ensures.set
    c.self.inside.opening c.self.inside.line c.self.inside.entries.items c.fail_at-is_found.ensures.others c.self.invariant

pub returns : goal.returns
returns c =
    state_failing c.self.inside.server c.fail_at-is_found.new.self c.self.inside.host.digits c.args.calls c.fail_at-is_found.ensures.set
    c.self.inside.opening c.self.inside.line c.self.inside.entries.items
    (is_held c.self.inside.server c.fail_at-is_found.new.self c.self.inside.host.digits c.self.inside.opening c.self.inside.line
    c.self.inside.entries.items c.self.inside.entries.items c.self.invariant)
    ∙ ap (λ (s : LoggedState). record s { fails = c.args.calls }) c.self.view_is

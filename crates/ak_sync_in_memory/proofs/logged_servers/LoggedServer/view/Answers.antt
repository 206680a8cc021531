use Rattle.std.specs.Prelude.{List, [], ◌∷◌, ◌++◌, Err}
use Rattle.std.proofs.Common.{ap, subst, ◌∙◌}
use Rattle.ak_keep.specs.Keepers.{KeepCause}
use Rattle.ak_sync_in_memory.proofs.Served.{cause_viewed, logged_viewed, none_held}
use Rattle.ak_sync_in_memory.specs.Entries.{LoggedState, health_in}
use Rattle.ak_sync_in_memory.specs.LoggedServers.{state_of}
use Rattle.ak_sync_in_memory.specs.declared.logs.Entry.{Entry}
use Rattle.ak_server.proofs.Faulting.{err_cause}
use Rattle.ak_sync_in_memory.proofs.logged_servers.LoggedServer.view.Goals as goal

pub invariant_of-self-in_err-page : goal.invariant_of-self-in_err-page
invariant_of-self-in_err-page c =
    let written = c.push_reserved.ensures.items
    ∙ ap (λ (l : List Entry). l ++ c.viewed.result ∷ []) c.make_room.ensures.items
    ∙ ap (λ (e : Entry). c.self.inside.entries.items ++ e ∷ []) c.viewed.ensures in
    logged_viewed c.self.inside.server c.view-found.new.self c.self.inside.host.digits c.self.inside.opening c.self.inside.line c.self.inside.entries.items
    c.push_reserved.new.self.items written c.self.invariant c.view-found.ensures.ends

pub returns-in_err-page-clause-cause : goal.returns-in_err-page-clause-cause
returns-in_err-page-clause-cause c =
    subst (λ (s : LoggedState). KeepCause (health_in s) (health_in (state_of c.view-found.new.self c.self.inside.host.digits c.self.inside.opening c.self.inside.line
    c.push_reserved.new.self.items)) c.from_residual-in_err-page.result) c.self.view_is
    (err_cause c.from_residual-in_err-page.result c.in_err-page.field-0.0 c.from_residual-in_err-page.ensures.1
    (cause_viewed c.self.inside.server c.view-found.new.self c.self.inside.host.digits c.self.inside.opening c.self.inside.line c.self.inside.entries.items
    c.push_reserved.new.self.items (Err c.in_err-page.field-0.0) c.self.invariant c.in_err-page.ensures.cause))

pub unreachable-requires : goal.unreachable-requires
unreachable-requires c =
    none_held c.self.inside.server c.view-found.new.self c.self.inside.host.digits c.self.inside.opening c.self.inside.line c.self.inside.entries.items
    c.push_reserved.new.self.items c.in_ok-page.field-0 c.in-None.is c.in_ok-page.ensures.none c.self.invariant

pub invariant_of-self-2 : goal.invariant_of-self-2
invariant_of-self-2 c =
    let written = c.push_reserved.ensures.items
    ∙ ap (λ (l : List Entry). l ++ c.viewed.result ∷ []) c.make_room.ensures.items
    ∙ ap (λ (e : Entry). c.self.inside.entries.items ++ e ∷ []) c.viewed.ensures in
    logged_viewed c.self.inside.server c.view-found.new.self c.self.inside.host.digits c.self.inside.opening c.self.inside.line c.self.inside.entries.items
    c.push_reserved.new.self.items written c.self.invariant c.view-found.ensures.ends

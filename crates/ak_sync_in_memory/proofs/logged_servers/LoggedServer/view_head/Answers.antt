use Rattle.std.specs.Prelude.{◌≡◌, List, [], ◌∷◌, ◌++◌, Ok, Option, Some}
use Rattle.std.specs.Option.{option_map}
use Rattle.std.proofs.Common.{ap, subst, ◌∙◌}
use Rattle.ak_base.specs.declared.heads.Head.{Head}
use Rattle.ak_keep.proofs.Causing.{cause-ok}
use Rattle.ak_keep.specs.Keepers.{KeepCause}
use Rattle.ak_sync_in_memory.proofs.Logging.{keeping}
use Rattle.ak_sync_in_memory.proofs.Served.{cause_viewed, head_viewed, logged_viewed, none_held}
use Rattle.ak_sync_in_memory.specs.Entries.{LoggedState, health_in, server_in}
use Rattle.ak_sync_in_memory.specs.LoggedServers.{state_of}
use Rattle.ak_sync_in_memory.specs.declared.logs.Entry.{Entry}
use Rattle.ak_protocol.specs.Accounts.{AccountState}
use Rattle.ak_server.specs.Servers.{GivesHead}
use Rattle.ak_sync_in_memory.proofs.logged_servers.LoggedServer.view_head.Goals as goal

pub invariant_of-self-in_err-head : goal.invariant_of-self-in_err-head
invariant_of-self-in_err-head c =
    let written = c.push_reserved.ensures.items
    ∙ ap (λ (l : List Entry). l ++ c.viewed.result ∷ []) c.make_room.ensures.items
    ∙ ap (λ (e : Entry). c.self.inside.entries.items ++ e ∷ []) c.viewed.ensures in
    logged_viewed c.self.inside.server c.view_head-found.new.self c.self.inside.host.digits c.self.inside.opening c.self.inside.line c.self.inside.entries.items
    c.push_reserved.new.self.items written c.self.invariant c.view_head-found.ensures.ends

pub unreachable-requires : goal.unreachable-requires
unreachable-requires c =
    none_held c.self.inside.server c.view_head-found.new.self c.self.inside.host.digits c.self.inside.opening c.self.inside.line c.self.inside.entries.items
    c.push_reserved.new.self.items c.in_ok-head.field-0 c.in-None.is c.in_ok-head.ensures.none c.self.invariant

pub invariant_of-self-2 : goal.invariant_of-self-2
invariant_of-self-2 c =
    let written = c.push_reserved.ensures.items
    ∙ ap (λ (l : List Entry). l ++ c.viewed.result ∷ []) c.make_room.ensures.items
    ∙ ap (λ (e : Entry). c.self.inside.entries.items ++ e ∷ []) c.viewed.ensures in
    logged_viewed c.self.inside.server c.view_head-found.new.self c.self.inside.host.digits c.self.inside.opening c.self.inside.line c.self.inside.entries.items
    c.push_reserved.new.self.items written c.self.invariant c.view_head-found.ensures.ends

pub returns-clause-head : goal.returns-clause-head
returns-clause-head c =
    subst (λ (s : LoggedState). Some c.in-Some.head ≡ option_map (λ (a : AccountState). a.committed.head) (server_in s s.host)) c.self.view_is
    (head_viewed c.self.inside.server c.view_head-found.new.self c.self.inside.host.digits c.self.inside.opening c.self.inside.line c.self.inside.entries.items
    c.push_reserved.new.self.items c.in-Some.head c.self.invariant
    (subst (λ (o : Option Head). GivesHead keeping c.self.inside.server c.self.inside.host.digits o) c.in-Some.is c.in_ok-head.ensures.head))

pub returns-clause-cause : goal.returns-clause-cause
returns-clause-cause c =
    subst (λ (s : LoggedState). KeepCause (health_in s) (health_in (state_of c.view_head-found.new.self c.self.inside.host.digits c.self.inside.opening c.self.inside.line
    c.push_reserved.new.self.items)) (Ok c.in-Some.head)) c.self.view_is
    (cause-ok c.in-Some.head (cause_viewed c.self.inside.server c.view_head-found.new.self c.self.inside.host.digits c.self.inside.opening c.self.inside.line
    c.self.inside.entries.items c.push_reserved.new.self.items (Ok c.in_ok-head.field-0) c.self.invariant c.in_ok-head.ensures.cause).goes)

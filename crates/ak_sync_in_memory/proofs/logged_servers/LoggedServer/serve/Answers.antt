use Rattle.std.specs.Prelude.{List, [], ◌∷◌, ◌++◌}
use Rattle.std.proofs.Common.{refl, ap, subst, ◌∙◌, w64, SFits}
use Rattle.std.proofs.lemmas.Int.{to_z-of_z}
use Rattle.ak_sync_in_memory.proofs.Served.{is_served, logged_served}
use Rattle.ak_sync_in_memory.specs.Entries.{LoggedState, entry_of}
use Rattle.ak_sync_in_memory.specs.LoggedServers.{IsServed, state_of}
use Rattle.ak_sync_in_memory.specs.declared.logs.Entry.{Entry}
use Rattle.ak_sync_in_memory.specs.declared.logs.Logged.TheVariants as logged
use Rattle.ak_sync_in_memory.specs.declared.logs.Trouble.{Trouble}
use Rattle.ak_messages.specs.declared.requests.Request.{Request}
use Rattle.ak_sync_in_memory.proofs.logged_servers.LoggedServer.serve.Goals as goal

pub invariant_of-self-2 : goal.invariant_of-self-2
invariant_of-self-2 c =
    let fits : SFits w64 c.args.now = c.ranges.now in
    let line = c.self.inside.line in
    let written = rw (to_z-of_z w64 c.args.now fits) at c.push_reserved.ensures.items
    ∙ ap (λ (l : List Entry). l ++ entry_of line (logged.Served c.in_ok-asked.asked c.args.now c.trouble_of.result) ∷ []) c.make_room.ensures.items
    ∙ ap (λ (r : Request). c.self.inside.entries.items ++ entry_of line (logged.Served r c.args.now c.trouble_of.result) ∷ []) c.in_ok-asked.ensures
    ∙ ap (λ (t : Trouble). c.self.inside.entries.items ++ entry_of line (logged.Served c.args.request.now c.args.now t) ∷ []) c.trouble_of.ensures in
    logged_served c.self.inside.server c.serve-reply.new.self c.self.inside.host.digits c.self.inside.opening line c.self.inside.entries.items
    c.push_reserved.new.self.items c.args.request.now c.args.now c.serve-reply.result written c.requires.clock c.self.invariant
    (rw (to_z-of_z w64 c.args.now fits) at c.serve-reply.ensures.serves)

pub returns-clause-ok : goal.returns-clause-ok
returns-clause-ok c =
    let fits : SFits w64 c.args.now = c.ranges.now in
    let line = c.self.inside.line in
    let written = rw (to_z-of_z w64 c.args.now fits) at c.push_reserved.ensures.items
    ∙ ap (λ (l : List Entry). l ++ entry_of line (logged.Served c.in_ok-asked.asked c.args.now c.trouble_of.result) ∷ []) c.make_room.ensures.items
    ∙ ap (λ (r : Request). c.self.inside.entries.items ++ entry_of line (logged.Served r c.args.now c.trouble_of.result) ∷ []) c.in_ok-asked.ensures
    ∙ ap (λ (t : Trouble). c.self.inside.entries.items ++ entry_of line (logged.Served c.args.request.now c.args.now t) ∷ []) c.trouble_of.ensures in
    subst (λ (s : LoggedState). IsServed s (state_of c.serve-reply.new.self c.self.inside.host.digits c.self.inside.opening line c.push_reserved.new.self.items)
    c.args.request.now c.args.now c.serve-reply.result) c.self.view_is
    (is_served c.self.inside.server c.serve-reply.new.self c.self.inside.host.digits c.self.inside.opening line c.self.inside.entries.items
    c.push_reserved.new.self.items c.args.request.now c.args.now c.serve-reply.result written c.requires.clock c.self.invariant
    (rw (to_z-of_z w64 c.args.now fits) at c.serve-reply.ensures.serves) c.serve-reply.ensures.unknown c.serve-reply.ensures.cause (c.serve-reply.ensures.spares refl))

-- What the meta of a sync told that others cross: the server's schema moment, as long as nothing but finishes is committed meanwhile.
use Rattle.std.specs.Prelude.{◌≡◌, ◌==◌, List, ◌∷◌, ◌++◌, Option, Some, Result, Ok, Err}
use Rattle.std.proofs.Common.{refl, sym, ap, subst, ◌∙◌, append_assoc}
use Rattle.std.proofs.lemmas.Option.{none-some, same_Some}
use Rattle.ak_client.proofs.Growing.{HasGrown, tried_grows}
use Rattle.ak_client.specs.Greetings.{meta_of}
use Rattle.ak_client.specs.Syncs.{told_by}
use Rattle.ak_client_wire.specs.Forms.{meta_in}
use Rattle.ak_client_wire.specs.Tries.{Tried}
use Rattle.ak_client_wire.specs.Wires.{WireKind, Carries, WireState}
use Rattle.ak_client_wire.specs.declared.wires.MetaSaid.{MetaSaid}
use Rattle.ak_client_wire.specs.declared.wires.WireEnd.{WireEnd}
use Rattle.ak_exchange.specs.Asked.{AreTried}
use Rattle.ak_exchange.specs.declared.envelopes.Ids.{Ids}
use Rattle.ak_faults.specs.Causes.{Health}
use Rattle.ak_keep.specs.Collections.{Collection}
use Rattle.ak_lab_joins.proofs.Level.{newer_first, schema_led}
use Rattle.ak_lab_joins.proofs.Metas.{granted_so, is_200, schema_said}
use Rattle.ak_lab_joins.proofs.Worlds.{world_grown}
use Rattle.ak_lab_joins.specs.LabJoins.{IsFinish}
use Rattle.ak_messages.specs.declared.replies.Reply.{Reply}
use Rattle.ak_messages.specs.declared.requests.Request.{Request}
use Rattle.ak_protocol.proofs.Calls.{metas_are_read}
use Rattle.ak_protocol.proofs.Commits.{commits_lead_on}
use Rattle.ak_protocol.proofs.Syncs.{own_append, world_append}
use Rattle.ak_protocol.specs.Accounts.{AccountState}
use Rattle.ak_protocol.specs.Commits.{CommitsGrow, EachNewer}
use Rattle.ak_protocol.specs.Logs.{Asked, Event, Grows, Log, World, events_of, with_growth, world_after}
use Rattle.ak_protocol.specs.Syncs.{IsUnused, world_of}

module _ (ids : Ids) (account : AccountState) (old now : Log) (unused : IsUnused ids.host.digits ids.session.0 account old)
    (finishes : EachNewer IsFinish (world_of ids.host.digits account old) (world_of ids.host.digits account now)) (said : MetaSaid) where
  abbrev was : World
  was = world_of ids.host.digits account old

  -- at a place of what came the schema moment is as it was
  place_schema : (before after : List Event) → now ≡ with_growth old (before ++ after)
      → (world_of ids.host.digits account (with_growth old before)).state.committed.head.schema ≡ was.state.committed.head.schema
  place_schema before after grown =
      let here : World = world_after was (events_of ids.host.digits before) in
      let whole : world_of ids.host.digits account now ≡ world_after here (events_of ids.host.digits after) =
      ap (world_of ids.host.digits account) grown ∙ world_grown ids.host.digits account old (before ++ after)
      ∙ ap (world_after was) (own_append ids.host.digits before after) ∙ world_append was (events_of ids.host.digits before) (events_of ids.host.digits after) in
      let leads : CommitsGrow was here = commits_lead_on was (events_of ids.host.digits before) in
      let front : EachNewer IsFinish was here =
      newer_first IsFinish was here (world_after here (events_of ids.host.digits after)) leads (commits_lead_on here (events_of ids.host.digits after))
      (subst (λ (w : World). EachNewer IsFinish was w) whole finishes) in
      ap (λ (w : World). w.state.committed.head.schema) (world_grown ids.host.digits account old before)
      ∙ schema_led was.state.committed here.state.committed leads.newer leads.lead (front leads.newer leads.grown)

  in_reply : (new : Log) (reply : Reply) → Grows {E = WireEnd} old new (meta_of ids) (Ok reply) → (more : List Event) → now ≡ with_growth new more
      → reply.status ≡ 200 → meta_in reply.give ≡ Some said → said.scm ≡ was.state.committed.head.schema
  in_reply new reply grows more later ok is =
      let read = metas_are_read (meta_of ids) account old grows.growth grows.may reply grows.reply unused.opening unused refl ok in
      let event : Event = Asked (meta_of ids) grows.reply.now grows.reply.setback in
      let before : List Event = grows.reply.before in
      let rest : List Event = (event ∷ grows.reply.after) ++ more in
      let parts : old.events ++ (before ++ rest) ≡ (old.events ++ grows.growth) ++ more =
      ap (λ (l : List Event). old.events ++ l) (sym (append_assoc before (event ∷ grows.reply.after) more) ∙ ap (λ (l : List Event). l ++ more) grows.reply.place)
      ∙ sym (append_assoc old.events grows.growth more) in
      let whole : now ≡ with_growth old (before ++ rest) =
      later ∙ ap (λ (log : Log). with_growth log more) grows.grown ∙ ap (λ (events : List Event). record old { events = events }) (sym parts) in
      schema_said read.0.base.head read.0.now said (ap (λ (r : Reply). meta_in r.give) (sym read.0.told) ∙ is)
      ∙ ap (λ (c : Collection). c.head.schema) read.1
      ∙ place_schema before rest whole

  -- so the schema moment that a meta told is the server's
  pub schema_told : {kind : WireKind} (list : List Request) (answers : List (Result Reply WireEnd)) (h0 h1 h2 : Health) (w0 w1 w2 : WireState kind) (answer : Result Reply WireEnd)
      → Tried h0 h1 w0 w1 (meta_of ids) answer → AreTried list answers h1 h2 w1 w2 → w0.log ≡ Some old → w2.log ≡ Some now → told_by answer ≡ Some said
      → said.scm ≡ was.state.committed.head.schema
  schema_told list answers h0 h1 h2 w0 w1 w2 (Err why) tried others is end told = absurd (none-some said told)
  schema_told list answers h0 h1 h2 w0 w1 w2 (Ok reply) tried others is end told =
      let carried : (new : Log) × (w1.log ≡ Some new) × Grows old new (meta_of ids) (Ok reply) =
      subst (λ (o : Option Log). Carries o w1.log (meta_of ids) (Ok reply)) is tried.carries in
      let rest : HasGrown carried.0 w2.log = tried_grows list answers h1 h2 w1 w2 carried.0 others carried.1 in
      let later : now ≡ with_growth carried.0 rest.growth = sym (same_Some rest.now now (sym rest.is ∙ end)) ∙ rest.grown in
      let parts = granted_so (reply.status == 200) (meta_in reply.give) said told in
      in_reply carried.0 reply carried.2 rest.growth later (is_200 reply.status parts.0) parts.1

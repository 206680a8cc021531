-- What is known of the two sides once a meta was answered and the sync may go on.
use Rattle.std.specs.List.{AllByRecursion}
use Rattle.std.specs.Prelude.{◌≡◌, List, ◌++◌}
use Rattle.std.proofs.Common.{sym, ap, subst, ◌∙◌, inl, inr, append_assoc}
use Rattle.std.proofs.lemmas.Option.{same_Some}
use Rattle.ak_base.specs.Rows.{IsChecked}
use Rattle.ak_base.specs.declared.heads.Head.{Head}
use Rattle.ak_base.specs.declared.names.Name.{Name}
use Rattle.ak_base.specs.declared.rows.Row.{Row}
use Rattle.ak_client.proofs.Growing.{lawful_grown, linked_grown, world_grown}
use Rattle.ak_client.proofs.Leading.{newer_of_front}
use Rattle.ak_client.specs.Greetings.{IsMetBy, IsMetOver, IsReady}
use Rattle.ak_client.specs.Syncs.{MayBegin, world_at}
use Rattle.ak_exchange.specs.Phases.{IsMet, held_by, holding}
use Rattle.ak_exchange.specs.declared.envelopes.Met.{Met}
use Rattle.ak_keep.proofs.RowsByName.{all_gets, named-get}
use Rattle.ak_keep.specs.Collections.{Collection, IsWellFormed}
use Rattle.ak_keep.specs.Keepers.{IsRightlyKnown, Keeping}
use Rattle.ak_merge.specs.Commits.{IsCommitted}
use Rattle.ak_merge.specs.Links.{AreLinked, AreLinkedParts}
use Rattle.ak_protocol.proofs.Syncs.{all_front, own_append, world_append}
use Rattle.ak_protocol.specs.Accounts.{AccountState}
use Rattle.ak_protocol.specs.Commits.{EachNewer, HasFreshSchema}
use Rattle.ak_protocol.specs.Logs.{Event, Log, IsTimely, events_of, with_growth, world_after}
use Rattle.ak_session.specs.Plans.{Asker}
use Rattle.ak_session.specs.Sessions.{MaySync}

-- the head that the device holds and what the meta told are those of the two collections
pub is_met : (c s : Collection) (met : Met) → IsReady (held_by c) met → IsMetBy met.meta s → IsMet c s met
is_met c s met ready by_meta = record {
  moment = by_meta.moment;
  usn = by_meta.usn;
  head = sym (same_Some c.head met.head ready.head);
}

pub linked_parts : (c s : Collection) → c.head.schema ≡ s.head.schema → AreLinked c s → AreLinkedParts c s
linked_parts c s same (inl other) = absurd (other same)
linked_parts c s same (inr parts) = parts

module _ (who : Asker) (c s : Collection) (account : AccountState) (old mid : Log) (later : List Event) (met : Met)
    (may : MayBegin who c account old) (over : IsMetOver who account old mid s)
    (fresh : EachNewer (HasFreshSchema c) (world_at who account old) (world_at who account (with_growth mid later))) where
  -- the log is that of the meta's place, grown
  grown_from_place : world_at who account (with_growth mid later)
      ≡ world_after (world_after (world_at who account old) (events_of who.host.digits over.front)) (events_of who.host.digits (over.rest ++ later))
  grown_from_place =
      ap (λ (log : Log). world_at who account (with_growth log later)) over.grown
      ∙ ap (λ (events : List Event). world_at who account (record old { events = events }))
      (append_assoc old.events (over.front ++ over.rest) later ∙ ap (λ (l : List Event). old.events ++ l) (append_assoc over.front over.rest later))
      ∙ world_grown who account old (over.front ++ (over.rest ++ later))
      ∙ ap (world_after (world_at who account old)) (own_append who.host.digits over.front (over.rest ++ later))
      ∙ world_append (world_at who account old) (events_of who.host.digits over.front) (events_of who.host.digits (over.rest ++ later))

  timely_front : AllByRecursion IsTimely over.front
  timely_front = all_front IsTimely over.front over.rest over.timely

  fresh_front : EachNewer (HasFreshSchema c) (world_at who account old) (world_at who account (with_growth old over.front))
  fresh_front =
      subst (EachNewer (HasFreshSchema c) (world_at who account old)) (sym (world_grown who account old over.front))
      (newer_of_front (HasFreshSchema c) (world_at who account old) (events_of who.host.digits over.front) (events_of who.host.digits (over.rest ++ later))
      (subst (EachNewer (HasFreshSchema c) (world_at who account old)) grown_from_place fresh))

  pub committed_at_meta : IsCommitted s
  committed_at_meta =
      subst IsCommitted over.place (lawful_grown who account old over.front timely_front may.lawful).committed

  pub linked_at_meta : AreLinked c s
  linked_at_meta =
      subst (AreLinked c) over.place (linked_grown who account old over.front timely_front may.lawful c fresh_front may.linked)

  -- a device whose keeper tells it may sync with what was committed at its meta
  pub may_sync : IsWellFormed (held_by c) → IsReady (held_by c) met → IsMetBy met.meta s → MaySync c s
  may_sync formed ready by_meta = record {
    linked = linked_parts c s (ap (λ (h : Head). h.schema) (same_Some c.head met.head ready.head) ∙ ready.schema ∙ by_meta.schema) linked_at_meta;
    named = λ name row at. named-get c.rows name row formed.named at;
    checked = λ name row at. all_gets (λ (entry : Name × Row). IsChecked entry.1) c.rows name row formed.checked at;
    head = formed.head;
    committed = committed_at_meta;
  }

-- what a keeper that tells a collection is known to hold is well formed
pub formed_by : (c : Collection) (keeping : Keeping) → keeping ≡ holding c → IsRightlyKnown keeping → IsWellFormed (held_by c)
formed_by c keeping is known =
    let known_so : IsRightlyKnown (holding c) = subst IsRightlyKnown is known in known_so.current

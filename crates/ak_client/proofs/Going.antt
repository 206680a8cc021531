-- What the next sync may begin with.
use Rattle.std.specs.List.{AllByRecursion}
use Rattle.std.specs.Prelude.{◌≡◌, ◌≢◌, ℤ, ◌<ℤ◌, List}
use Rattle.std.proofs.Common.{sym, subst, inl, arith}
use Rattle.std.proofs.lemmas.Int.{ints}
use Rattle.ak_base.specs.Limits.{last_moment}
use Rattle.ak_base.specs.declared.heads.Head.{Head}
use Rattle.ak_base.specs.declared.keys.HostKey.{HostKey}
use Rattle.ak_client.proofs.Growing.{lawful_grown, linked_grown}
use Rattle.ak_client.specs.Syncs.{IsSyncFinished, MayBegin, world_at}
use Rattle.ak_device.specs.Devices.{advanced_moment}
use Rattle.ak_keep.specs.Collections.{Collection}
use Rattle.ak_keep.specs.Keepers.{Keeping}
use Rattle.ak_merge.specs.Links.{AreLinked}
use Rattle.ak_protocol.specs.Accounts.{AccountState}
use Rattle.ak_protocol.specs.Commits.{EachNewer, HasFreshSchema}
use Rattle.ak_protocol.specs.LawfulServers.{IsLawfulAccount}
use Rattle.ak_protocol.specs.Logs.{Event, Log, IsTimely, with_growth}
use Rattle.ak_protocol.specs.Syncs.{IsUnused, world_of}
use Rattle.ak_session.specs.Plans.{Asker}

module _ (who next : Asker) (account : AccountState) (old : Log) (growth : List Event) (timely : AllByRecursion IsTimely growth)
    (same : next.host ≡ who.host) (unused : IsUnused next.host.digits next.session.0 account (with_growth old growth)) where
  abbrev now : Log
  now = with_growth old growth

  -- a device that is linked with what is committed now, over a lawful account
  begins : (c d : Collection) → MayBegin who c account old → AreLinked d (world_at who account now).state.committed → MayBegin next d account now
  begins c d may linked = record {
    unused = unused;
    lawful = subst (λ (host : HostKey). IsLawfulAccount (world_of host.digits account now).state) (sym same)
        (lawful_grown who account old growth timely may.lawful);
    linked = subst (λ (host : HostKey). AreLinked d (world_of host.digits account now).state.committed) (sym same) linked;
  }

  pub begins_unfinished : (c : Collection) → MayBegin who c account old
      → EachNewer (HasFreshSchema c) (world_at who account old) (world_at who account now) → MayBegin next c account now
  begins_unfinished c may fresh = begins c c may (linked_grown who account old growth timely may.lawful c fresh may.linked)

  pub begins_finished : (c base : Collection) (left : Keeping) → MayBegin who c account old → (it : IsSyncFinished who c base account now left)
      → MayBegin next it.device account now
  begins_finished c base left may it = begins c it.device may it.linked

  pub begins_parted : (c : Collection) (head : Head) → MayBegin who c account old
      → head.schema ≢ (world_at who account now).state.committed.head.schema → MayBegin next (record c { head = head }) account now
  begins_parted c head may parted = begins c (record c { head = head }) may (inl parted)

-- a schema moment that rises is another one, unless it is the last
pub raised_rises : (at schema : ℤ) → schema <ℤ last_moment → advanced_moment at schema ≢ schema
raised_rises at schema low is = grind (arith, ints, low, is)

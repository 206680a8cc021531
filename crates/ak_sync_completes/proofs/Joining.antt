-- What a sync alone with its server leaves.
use Rattle.std.specs.Prelude.{◌≡◌, true}
use Rattle.std.proofs.Common.{sym, subst, ◌∙◌}
use Rattle.std.proofs.lemmas.Option.{same_Some}
use Rattle.ak_client.specs.Syncs.{CommitsAlone, IsSync, IsSyncFinished, Synced, Syncs, ends_before_finish, world_at}
use Rattle.ak_client.specs.declared.outcomes.Outcome.{Outcome}
use Rattle.ak_client.specs.declared.outcomes.Outcome.TheVariants as outcomes
use Rattle.ak_client_wire.specs.Wires.{WireKind, WireState}
use Rattle.ak_exchange.specs.Asked.{asker, asks_in}
use Rattle.ak_exchange.specs.declared.envelopes.Ids.{Ids}
use Rattle.ak_faults.specs.Causes.{Health}
use Rattle.ak_keep.specs.Collections.{Collection}
use Rattle.ak_keep.specs.Keepers.{Keeping}
use Rattle.ak_merge.specs.Exchanges.{AreExchanged}
use Rattle.ak_protocol.specs.Accounts.{AccountState}
use Rattle.ak_protocol.specs.Logs.{Log}
use Rattle.ak_sync_completes.specs.Alone.{BeginsAlone, LeavesTheJoin}

module _ {kind : WireKind} (ids : Ids) (c : Collection) (account : AccountState) (old now : Log) (before left : Keeping) (h0 h1 : Health) (w0 w1 : WireState kind) (outcome : Outcome)
    (begins : BeginsAlone ids c account old now before w0 w1) (sync : IsSync ids before left h0 h1 w0 w1 outcome) where
  synced : Synced (asker ids) sync.asked.moment (asks_in sync.asked.tries) c account old now left outcome
  synced =
      let told = sync.told old begins.told in
      let syncs : Syncs ids sync.asked.moment (asks_in sync.asked.tries) before left old now outcome =
      subst (λ (log : Log). Syncs ids sync.asked.moment (asks_in sync.asked.tries) before left old log outcome)
      (same_Some told.0 now (sym told.1 ∙ begins.told_now)) told.2 in
      syncs c account begins.holds begins.may begins.fresh

  alone : CommitsAlone (asker ids) account old now
  alone = sync.wire.commits begins.alone old now account begins.told begins.told_now begins.may.unused

  pub early : ends_before_finish outcome ≡ true
      → (world_at (asker ids) account now).state.committed ≡ (world_at (asker ids) account old).state.committed
  early is = alone.stays (synced.early is)

  pub finished : outcome ≡ outcomes.Finished → LeavesTheJoin c (world_at (asker ids) account old) (world_at (asker ids) account now) left
  finished is =
      let it : IsSyncFinished (asker ids) c synced.base account now left = synced.finished is in
      let one = alone.one (record { key = ids.session.0; before = synced.base; after = it.after }) it.only in
      let there : AreExchanged c synced.base it.device it.after = it.exchanged in (
        it.device,
        it.holds,
        subst (λ (s : Collection). AreExchanged c s it.device (world_at (asker ids) account now).state.committed) one.0
            (subst (λ (t : Collection). AreExchanged c synced.base it.device t) one.1 there),
      )

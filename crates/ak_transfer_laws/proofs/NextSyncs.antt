-- What the sync after an upload or a download says, on the device that did it and elsewhere.
use Rattle.std.specs.Prelude.{◌≡◌, ◌≢◌, ◌⊎◌, ℤ, ◌≤ℤ◌, ◌<ℤ◌, true, List}
use Rattle.std.proofs.Common.{refl, sym, subst, arith}
use Rattle.std.proofs.lemmas.Int.{ints}
use Rattle.ak_client.specs.declared.outcomes.Outcome.{Outcome}
use Rattle.ak_client.specs.declared.outcomes.Outcome.TheVariants as outcomes
use Rattle.ak_client_wire.specs.Wires.{WireKind}
use Rattle.ak_exchange.specs.declared.envelopes.Ids.{Ids}
use Rattle.ak_keep.specs.Collections.{Collection}
use Rattle.ak_keep.specs.Keepers.{Keeping}
use Rattle.ak_merge.specs.Commits.{IsCopyOf}
use Rattle.ak_messages.specs.declared.requests.Ask.{Ask}
use Rattle.ak_protocol.specs.Accounts.{AccountState}
use Rattle.ak_protocol.specs.Logs.{Log}
use Rattle.ak_session.specs.Plans.{Asker}
use Rattle.ak_sync_completes.specs.Completing.{IsSyncOver, SyncEnds, have_nothing_to_sync}
use Rattle.ak_transfer_laws.proofs.Meeting.{lawful}
use Rattle.ak_transfer_laws.proofs.Reasons.{copies_stop, equal_sides_stop, schemas_stop}
use Rattle.ak_transfer_laws.proofs.Syncing.{syncs_end}
use Rattle.ak_transfer_laws.specs.Completing.{EndsWith, IsLeftAlone, committed_before}
use Rattle.ak_transfers.specs.Transfers.{Downloaded, HoldsUpload, Uploaded}

-- a device that holds a copy of what is committed, or has nothing to sync for another reason, or has another schema moment
module _ {kind : WireKind} (ids : Ids) (d : Collection) (account : AccountState) (before after : SyncEnds kind) (outcome : Outcome) (it : IsLeftAlone ids d account before after)
    (over : IsSyncOver ids before after outcome) where
  pub copies_end : IsCopyOf (committed_before ids account it.old) d → EndsWith outcomes.NoChanges it.growth outcome ⊎ (outcome ≡ outcomes.Lost)
  copies_end copy =
      syncs_end ids d account before after outcome it over outcomes.NoChanges
      (λ said says. copies_stop (committed_before ids account it.old) d it.at said (lawful ids d account before after it) copy says)

  pub equals_end : have_nothing_to_sync d (committed_before ids account it.old) ≡ true → EndsWith outcomes.NoChanges it.growth outcome ⊎ (outcome ≡ outcomes.Lost)
  equals_end nothing =
      syncs_end ids d account before after outcome it over outcomes.NoChanges
      (λ said says. equal_sides_stop (committed_before ids account it.old) d it.at said nothing says)

  pub schemas_end : d.head.schema ≢ (committed_before ids account it.old).head.schema
      → EndsWith (outcomes.FullSchema d.head.schema (committed_before ids account it.old).head.schema) it.growth outcome ⊎ (outcome ≡ outcomes.Lost)
  schemas_end differ =
      syncs_end ids d account before after outcome it over (outcomes.FullSchema d.head.schema (committed_before ids account it.old).head.schema)
      (λ said says. schemas_stop (committed_before ids account it.old) d it.at said differ says)

pub after_upload : {kind : WireKind} (who : Asker) (asked : List Ask) (sent : Collection) (account : AccountState) (was now : Log) (left : Keeping)
    → (up : Uploaded who asked sent account was now left outcomes.Finished) → (ids : Ids) (before after : SyncEnds kind) (outcome : Outcome)
    → (it : IsLeftAlone ids (up.finished refl).device account before after) → committed_before ids account it.old ≡ (up.finished refl).committed.after
    → IsSyncOver ids before after outcome → EndsWith outcomes.NoChanges it.growth outcome ⊎ (outcome ≡ outcomes.Lost)
after_upload who asked sent account was now left up ids before after outcome it same over =
    let done = up.finished refl in
    copies_end ids done.device account before after outcome it over (subst (λ (s : Collection). IsCopyOf s done.device) (sym same) done.copy)

pub after_download : {kind : WireKind} (who : Asker) (asked : List Ask) (account : AccountState) (was now : Log) (left : Keeping)
    → (down : Downloaded who asked account was now left outcomes.Finished) → (ids : Ids) (before after : SyncEnds kind) (outcome : Outcome)
    → (it : IsLeftAlone ids (down.finished refl).device account before after) → committed_before ids account it.old ≡ (down.finished refl).base
    → IsSyncOver ids before after outcome → EndsWith outcomes.NoChanges it.growth outcome ⊎ (outcome ≡ outcomes.Lost)
after_download who asked account was now left down ids before after outcome it same over =
    let done = down.finished refl in
    copies_end ids done.device account before after outcome it over (subst (λ (s : Collection). IsCopyOf s done.device) (sym same) done.copy)

-- the schema moment of an upload is past the one that was committed before
pub elsewhere : {kind : WireKind} (ids : Ids) (c sent base : Collection) (account : AccountState) (before after : SyncEnds kind) (outcome : Outcome)
    → (it : IsLeftAlone ids c account before after) → HoldsUpload sent base (committed_before ids account it.old) → c.head.schema ≤ℤ base.head.schema
    → IsSyncOver ids before after outcome
    → EndsWith (outcomes.FullSchema c.head.schema (committed_before ids account it.old).head.schema) it.growth outcome ⊎ (outcome ≡ outcomes.Lost)
elsewhere ids c sent base account before after outcome it upload low over =
    schemas_end ids c account before after outcome it over
    (past c.head.schema base.head.schema (committed_before ids account it.old).head.schema low upload.replaces.schema)
  where
    past : (a b s : ℤ) → a ≤ℤ b → b <ℤ s → a ≢ s
    past a b s low up is = omega (arith, ints, low, up, is)

-- How the command `sync` ends, if nothing stops its sync.
use Rattle.std.specs.Prelude.{◌≡◌, ◌⊎◌, ℕ, List, [], ◌∷◌, ◌++◌, Option, Some, codes}
use Rattle.std.specs.Io.KnownBytes.{Appends}
use Rattle.ak_base.specs.declared.keys.HostKey.{HostKey}
use Rattle.ak_client_wire.specs.Wires.{WireKind}
use Rattle.ak_faults.specs.Causes.{Health, Rose}
use Rattle.ak_keep.specs.Collections.{Collection}
use Rattle.ak_protocol.specs.Accounts.{AccountState}
use Rattle.ak_protocol.specs.Logs.{Event}
use Rattle.ak_sync_completes.specs.Completing.{IsUnhindered, RanOutOfMemory, SyncEnds}
use Rattle.ak_sync_runs.specs.SyncRuns.{HasStatusCause, SyncOutside, ids_of}

-- what is known of the ends of a run's sync, with how many calls of its keeper failed
abbrev pub ends_of : {kind : WireKind} → Health → SyncOutside kind → SyncEnds kind
ends_of keeper it = record { keeping = it.keeping; keeper = keeper; health = it.health; wire = it.wire; moments = it.moments }

-- a run of the command `sync`, which ended with this status, did a sync that nothing stops. Chance told its key, the output did not fail, and a failed output
-- or keeper is the cause of the status for it
pub record RunsUnhindered {kind : WireKind} (host : HostKey) (c : Collection) (account : AccountState) (status : ℕ) (before after : SyncOutside kind) : Type 0 where
  -- how many calls of the keeper and of the output failed before it and after it
  pub keeper_before : Health
  pub keeper_now : Health
  pub out_before : Health
  pub out_now : Health
  pub keeper : HasStatusCause 6 keeper_before keeper_now status
  pub out : HasStatusCause 5 out_before out_now status
  pub word : ℕ
  pub words : List ℕ
  pub chance : before.words ≡ Some (word ∷ words)
  pub sync : IsUnhindered (ids_of host word) c account (ends_of keeper_before before) (ends_of keeper_now after)
  pub written : Rose out_before out_now → ⊥

-- `finished` is printed, and the status is 0; or memory ran out: it is 8, or 13 if that was at the server, to which these came
abbrev pub RunEndsWell : List Event → ℕ → Option (List ℕ) → Option (List ℕ) → Type 0
RunEndsWell growth status old new =
    ((status ≡ 0) × Appends old new (codes "finished" ++ 10 ∷ []))
    ⊎ ((status ≡ 8) ⊎ ((status ≡ 13) × RanOutOfMemory growth))

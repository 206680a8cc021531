-- How a run of a lab ends, by the entries of its log.
use Rattle.std.proofs.Common.{◌≡◌, ◌≢◌, ◌⊎◌, ℕ, List, Option, inl, inr, ap, arith, refl}
use Rattle.std.specs.Io.KnownBytes.{Keeps}
use Rattle.ak_cli.specs.Programs.{command_status}
use Rattle.ak_io.specs.declared.lines.Line.{Line}
use Rattle.ak_lab.specs.LabRuns.{RunsLab}
use Rattle.ak_line_runs.specs.declared.command_ends.CommandEnd.{CommandEnd}
use Rattle.ak_line_runs.specs.declared.command_ends.CommandEnd.TheVariants as ends
use Rattle.ak_sync_in_memory.specs.declared.logs.Log.{Log}

-- a log that is as it was has the entries that it had
pub lab_ended : (end : CommandEnd) (all : Option (List Line)) (before after : Log) (old new : Option (List ℕ))
    → RunsLab end all after.entries old new ⊎ (end ≡ ends.Memory) × Keeps old new × (after ≡ before)
    → RunsLab end all after.entries old new ⊎ (end ≡ ends.Memory) × Keeps old new × (after.entries ≡ before.entries)
lab_ended end all before after old new (inl runs) = inl runs
lab_ended end all before after old new (inr (memory, keeps, same)) = inr (memory, keeps, ap (λ (log : Log). log.entries) same)

-- the status 6 is that of a failed keeper alone
pub keeper_status : (end : CommandEnd) → command_status end ≡ 6 → end ≡ ends.KeeperFailed
keeper_status ends.Done is = absurd (omega (arith, is))
keeper_status ends.Refused is = absurd (omega (arith, is))
keeper_status ends.ReadFailed is = absurd (omega (arith, is))
keeper_status ends.WriteFailed is = absurd (omega (arith, is))
keeper_status ends.KeeperFailed is = refl
keeper_status ends.Memory is = absurd (omega (arith, is))

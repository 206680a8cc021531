use Rattle.std.proofs.Common.{◌≡◌, ◌≤ℤ◌, ◌-ℤ◌, pos}
use Rattle.std.specs.Int.RustNames.{unsigned_abs}
use Rattle.ak_memory.specs.TakenRuns.{IsRun, is_used_under}
use Rattle.ak_memory.proofs.taken_runs.TakenRun.extended.Given as goal

-- the ids that were passed are taken
abbrev pub invariant-loop-name : goal.invariant-loop-name
invariant-loop-name l = record {
  taken : IsRun (is_used_under l.places.entries) l.fn.table (record { from = l.fn.self.from; end = l.name.id });
  table : l.name.table ≡ l.fn.table;
  ahead : l.fn.self.end ≤ℤ l.name.id;
}

abbrev pub decreases-loop-name : goal.decreases-loop-name
decreases-loop-name l = unsigned_abs (pos 9_007_199_254_740_992 -ℤ l.name.id)

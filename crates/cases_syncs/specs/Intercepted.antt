-- What is known of a wire on which somebody acts.
use Rattle.std.specs.Prelude.{false, None}
use Rattle.ak_client_wire.specs.Wires.{WireState, plain_kind}
use Rattle.ak_faults.specs.Causes.{Health}
use Rattle.cases_syncs.specs.declared.intercepted_counts.InterceptedCounts.{InterceptedCounts}

-- how many of its calls failed. Some may fail
abbrev pub health_over : InterceptedCounts → Health
health_over c = record { faults = c.faults; calm = false }

-- what it tells: no log, and its counts
abbrev pub state_over : InterceptedCounts → WireState plain_kind
state_over c = record {
  log = None;
  reading = record { faults = c.unread; calm = false };
  silence = c.silent;
  said = c.said;
  calls = c.calls;
  alone = false;
  inside = tt;
}

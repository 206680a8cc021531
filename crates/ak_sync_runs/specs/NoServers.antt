-- A wire that leads to no server.
use Rattle.std.specs.Prelude.{ℕ, false, true, None}
use Rattle.ak_client_wire.specs.Wires.{WireState, plain_kind}
use Rattle.ak_faults.specs.Causes.{Health}

-- each of its calls failed
abbrev pub all_failed : ℕ → Health
all_failed calls = record { faults = calls; calm = false }

-- no server's log is told, no answer came that could not be read, and all calls failed, in a row. Nobody else uses it
abbrev pub all_silent : ℕ → WireState plain_kind
all_silent calls = record {
  log = None;
  reading = record { faults = 0; calm = true };
  silence = calls;
  said = None;
  calls = calls;
  alone = true;
  inside = tt;
}

-- What an end in memory holds, and what each of its calls answers and leaves; and what is known of one over the system.
use Rattle.std.specs.Prelude.{ℕ, ◌-◌, min, Bool, false, ◌==◌, nat_lt, ◌&&◌, ◌||◌, if◌then◌else◌, List, ◌++◌, length, take, drop, Option, Some, None}
use Rattle.ak_faults.specs.Calls.{is_named, listed_health}
use Rattle.ak_faults.specs.Causes.{Health, one_more}

-- the health of an end that may fail at any call
abbrev pub uncertain : ℕ → Health
uncertain faults = record { faults = faults; calm = false }

-- of what an end over the system holds or gives nothing is told, whatever its count of faults is
abbrev pub untold : ℕ → Option (List ℕ)
untold faults = None

-- the bytes that are left, how many reads came, which reads fail, and how many failed
pub record SourceState : Type 0 where
  pub left : List ℕ
  pub calls : ℕ
  pub fails : List ℕ
  pub fault_count : ℕ

-- it is calm exactly where no read is to fail
abbrev pub source_health : SourceState → Health
source_health source = listed_health source.fault_count source.fails

-- how many bytes a read into this room gives, where it does not fail
abbrev pub gives : SourceState → ℕ → Option ℕ
gives source room = if is_named source.calls source.fails then None else Some (min (length source.left) room)

-- the source after a read into this room
abbrev pub after_read : SourceState → ℕ → SourceState
after_read source room =
    if is_named source.calls source.fails then record source { calls = one_more source.calls; fault_count = one_more source.fault_count }
    else record source { calls = one_more source.calls; left = drop (min (length source.left) room) source.left }

-- the bytes that were written, how many more fit, how many writes came, which writes fail, and how many failed
pub record SinkState : Type 0 where
  pub written : List ℕ
  pub room : ℕ
  pub calls : ℕ
  pub fails : List ℕ
  pub fault_count : ℕ

-- it is never calm, since its room may end
abbrev pub sink_health : SinkState → Health
sink_health sink = uncertain sink.fault_count

-- whether a write of a piece of this length fails: the list names it, or there is no room for a piece that is not empty
abbrev pub refuses : SinkState → ℕ → Bool
refuses sink size = is_named sink.calls sink.fails || (nat_lt 0 size && sink.room == 0)

-- how many bytes a write of a piece of this length takes, where it does not fail
abbrev pub takes : SinkState → ℕ → Option ℕ
takes sink size = if refuses sink size then None else Some (min sink.room size)

-- the sink after a write of a piece
abbrev pub after_write : SinkState → List ℕ → SinkState
after_write sink piece =
    if refuses sink (length piece) then record sink { calls = one_more sink.calls; fault_count = one_more sink.fault_count }
    else record sink {
      calls = one_more sink.calls;
      written = sink.written ++ take (min sink.room (length piece)) piece;
      room = sink.room - min sink.room (length piece);
    }

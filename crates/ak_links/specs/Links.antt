-- What a link in memory holds, what each of its calls answers and leaves, and which link comes next.
use Rattle.std.specs.Prelude.{ℕ, List, [], ◌∷◌, Option, Some, None}
use Rattle.ak_faults.specs.Causes.{Health}
use Rattle.ak_io.specs.Ends.{SourceState, after_read, SinkState, after_write, uncertain}

-- the bytes that are still to be read, those that were written, how many more fit, how many reads and writes came,
-- which of them fail, and how many failed
pub record LinkState : Type 0 where
  pub left : List ℕ
  pub written : List ℕ
  pub room : ℕ
  pub calls : ℕ
  pub fails : List ℕ
  pub fault_count : ℕ

-- a link as it is made: nothing is written, and no call has come
abbrev pub new_link : List ℕ → ℕ → List ℕ → LinkState
new_link bytes room fails =
    record { left = bytes; written = []; room = room; calls = 0; fails = fails; fault_count = 0 }

-- it is never calm, since its room may end
abbrev pub link_health : LinkState → Health
link_health link = uncertain link.fault_count

-- the link as a read sees it
abbrev pub reading_side : LinkState → SourceState
reading_side link =
    record { left = link.left; calls = link.calls; fails = link.fails; fault_count = link.fault_count }

-- the link as a write sees it
abbrev pub writing_side : LinkState → SinkState
writing_side link =
    record {
      written = link.written;
      room = link.room;
      calls = link.calls;
      fails = link.fails;
      fault_count = link.fault_count;
    }

-- the link after a read into this room: what was written stays
abbrev pub link_after_read : LinkState → ℕ → LinkState
link_after_read link room =
    let side = after_read (reading_side link) room in
    record link { left = side.left; calls = side.calls; fault_count = side.fault_count }

-- the link after a write of a piece: what is to be read stays
abbrev pub link_after_write : LinkState → List ℕ → LinkState
link_after_write link piece =
    let side = after_write (writing_side link) piece in
    record link { written = side.written; room = side.room; calls = side.calls; fault_count = side.fault_count }

-- ---- what gives links in memory

-- the first of the links to come
abbrev pub next_link : List LinkState → Option LinkState
next_link [] = None
next_link (link ∷ rest) = Some link

-- Bytes as they are held in memory.
use Rattle.std.specs.Prelude.{ℕ, List, map, Vec}
use Rattle.std.specs.declared.alloc.Global.{Global}

-- the bytes of each
abbrev pub bytes_of_each : List (Vec ℕ Global) → List (List ℕ)
bytes_of_each lists = map (λ (bytes : Vec ℕ Global). bytes.items) lists

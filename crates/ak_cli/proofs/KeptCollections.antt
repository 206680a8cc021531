-- What a command leaves that keeps the collection.
use Rattle.std.specs.Prelude.{◌≡◌, ℕ, ℤ, List, Option}
use Rattle.std.proofs.Common.{ap}
use Rattle.ak_cli.specs.ProgramEnds.{ProgramOutside, program_outside}
use Rattle.ak_client_wire.specs.Wires.{WireKind, WireState}
use Rattle.ak_faults.specs.Causes.{Health}
use Rattle.ak_filters.specs.Meanings.{Meaning}
use Rattle.ak_keep.specs.Keepers.{Keeping}
use Rattle.ak_sync_in_memory.specs.declared.logs.Entry.{Entry}

-- if the keeper is as it was, nothing else of it differs
pub same_keeping : {kind : WireKind} (left written : Option (List ℕ)) (now before : Keeping) (health : Health) (wire : WireState kind) (moments : Option (List ℤ)) (words : Option (List ℕ))
    (log : List Entry) (filters : List Meaning) → now ≡ before
    → program_outside left written now health wire moments words log filters ≡ program_outside left written before health wire moments words log filters
same_keeping left written now before health wire moments words log filters same =
    ap (λ (k : Keeping). program_outside left written k health wire moments words log filters) same

-- Writes whose rows before were read, one after the other.
use Rattle.std.proofs.Common.{List, [], ◌∷◌, ◌++◌}
use Rattle.std.proofs.lemmas.List.Elements.{All-append, All-nil, All-cons}
use Rattle.std.specs.List.{All}
use Rattle.ak_edit.specs.Plans.{IsReadWrite}
use Rattle.ak_edit.specs.declared.plans.Write.{Write}

-- and one more
pub all_and_one : (writes : List Write) (write : Write) → All IsReadWrite writes → IsReadWrite write → All IsReadWrite (writes ++ write ∷ [])
all_and_one writes write all one = All-append IsReadWrite writes (write ∷ []) all (All-cons IsReadWrite write [] one (All-nil IsReadWrite))

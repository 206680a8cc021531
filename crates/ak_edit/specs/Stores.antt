-- What a keeper holds after the writes of an edit.
use Rattle.std.specs.Prelude.{pos, List, [], ◌∷◌, IfSome}
use Rattle.std.specs.List.{AllByRecursion}
use Rattle.std.specs.Option.{option_map_or}
use Rattle.ak_base.specs.Heads.{IsWithin}
use Rattle.ak_base.specs.Limits.{last_stamp}
use Rattle.ak_base.specs.Rows.{IsChecked, with_stamp}
use Rattle.ak_base.specs.declared.heads.Head.{Head}
use Rattle.ak_base.specs.declared.rows.Row.{Row}
use Rattle.ak_keep.specs.Keepers.{Keeping, committed, head_set, marked_here, put, removed}
use Rattle.ak_undo.specs.declared.steps.Before.{Before}
use Rattle.ak_edit.specs.declared.plans.Write.{Write}

-- after one write: the row with its stamp was put, or what has the name was removed
abbrev pub written : Write → Keeping → Keeping
written write k = option_map_or (λ (row : Row). put (with_stamp row write.stamp) k) write.row (removed write.name k)

-- after all of them, one after the other
abbrev pub all_written : List Write → Keeping → Keeping
all_written [] k = k
all_written (write ∷ writes) k = all_written writes (written write k)

-- what is committed once the writes are done and the head is set upon what is held
abbrev pub carried : List Write → Head → Keeping → Keeping
carried writes head k = committed (head_set head (all_written writes (marked_here k)))

-- a row that is made passes its check, and its stamp is in range
abbrev pub IsMadeWrite : Write → Type 0
IsMadeWrite write = IfSome write.row (λ row. IsChecked row × IsWithin (pos 0) last_stamp write.stamp)

-- the same of all of them
abbrev pub AreMadeWrites : List Write → Type 0
AreMadeWrites = AllByRecursion IsMadeWrite

-- what stood under the names of the writes before
abbrev pub befores_of : List Write → List Before
befores_of [] = []
befores_of (write ∷ writes) = record { name = write.name; row = write.before } ∷ befores_of writes

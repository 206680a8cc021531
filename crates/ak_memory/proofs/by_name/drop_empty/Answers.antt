use Rattle.std.proofs.Common.{List, ◌≤◌, sym, subst}
use Rattle.ak_memory.specs.Places.{unchanged_count}
use Rattle.ak_memory.specs.declared.places.Place.{Place}
use Rattle.ak_base.specs.declared.names.Name.{Name}
use Rattle.ak_memory.proofs.Counting.{unchanged-remove}
use Rattle.ak_memory.proofs.RowsUnder.{full_without}
use Rattle.ak_memory.proofs.by_name.drop_empty.Goals as goal

pub returns-then-is_empty_under-clause-count : goal.returns-then-is_empty_under-clause-count
returns-then-is_empty_under-clause-count c =
    subst (λ (fs : List (Name × Place)). unchanged_count fs ≤ unchanged_count c.args.places.now.entries) (sym c.remove.ensures.entries) (unchanged-remove _ c.args.places.now.entries)

pub returns-then-is_empty_under-clause-full : goal.returns-then-is_empty_under-clause-full
returns-then-is_empty_under-clause-full c = full_without c.args.name c.args.places.now.entries _ c.remove.ensures.updates.0

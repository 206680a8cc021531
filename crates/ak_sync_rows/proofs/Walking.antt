-- Walks over wanted rows.
use Rattle.std.specs.Prelude.{◌≡◌, pos, ◌<◌, ◌<ℤ◌, ◌^◌, false, List, length}
use Rattle.std.proofs.Common.{sym, subst}
use Rattle.ak_base.specs.declared.rows.Row.{Row}
use Rattle.ak_keep.specs.Collections.{AscendsPast, last_id}
use Rattle.ak_keep.proofs.Walking.{fewer_pages}
use Rattle.ak_sync_rows.specs.Walks.{most_pages}
use Rattle.ak_sync_rows.specs.declared.walks.WantedWalk.{WantedWalk}

-- after a page with rows there are fewer pages
pub shorter : (old new : WantedWalk) (page : List Row) → old.done ≡ false
    → new ≡ record old { past = record { table = old.past.table; id = last_id old.past.id page } }
    → AscendsPast old.past.table old.past.id page → 0 < length page → new.past.id <ℤ pos (2 ^ 63)
    → most_pages new < most_pages old
shorter old new page going is ascends some high =
    subst (λ (w : WantedWalk). most_pages w < most_pages old) (sym is)
    (rw going (fewer_pages old.past.table old.past.id page ascends some (subst (λ (w : WantedWalk). w.past.id <ℤ pos (2 ^ 63)) is high)))

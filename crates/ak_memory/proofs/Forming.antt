-- What keeps a collection with a mark well formed.
use Rattle.std.specs.Prelude.{◌≡◌, Bool, true, false, T, if◌then◌else◌, Option, Some, None, is_some, IfSome, Result, Ok, Err, IfOk, OnErr}
use Rattle.std.proofs.Common.{refl, sym, subst}
use Rattle.std.specs.Bool.{OnFalse, OnTrue}
use Rattle.std.specs.FinMap.{insert}
use Rattle.ak_base.specs.Heads.{AreMomentsInRange, IsHeadInRange}
use Rattle.ak_base.specs.Rows.{IsChecked, name_of}
use Rattle.ak_base.specs.declared.errors.Memory.{Memory}
use Rattle.ak_base.specs.declared.heads.Head.{Head}
use Rattle.ak_base.specs.declared.rows.Row.{Row}
use Rattle.ak_keep.proofs.Forming.{formed-with_row}
use Rattle.ak_keep.specs.Collections.{Holding, IsWellFormed, Rows}
use Rattle.ak_memory.specs.Collections.{IsFormed, held_before, with_mark}
use Rattle.ak_memory.specs.Heads.{with_moments}
use Rattle.ak_memory.specs.Versions.{Versions}
use Rattle.ak_memory.specs.declared.heads.Moments.{Moments}

-- a head with moments in their ranges is in its ranges
pub moments-in_range : (m : Moments) (o : Option Head) → AreMomentsInRange m.moment m.schema m.usn m.last_sync → IfSome o IsHeadInRange → IfSome (with_moments m o) IsHeadInRange
moments-in_range m None fine h = tt
moments-in_range m (Some head) fine h = record { crt = h.crt; moment = fine.moment; schema = fine.schema; usn = fine.usn; last_sync = fine.last_sync; conf = h.conf; tags = h.tags; ascending = h.ascending }

-- ---- a row is loaded where there is no mark
pub unmarked : (marked : Bool) (held : Holding) → is_some (if marked then Some held else None) ≡ false → marked ≡ false
unmarked true held is = absurd (subst T is tt)
unmarked false held is = refl

formed-without_mark : (rows : Versions Rows) (head : Versions (Option Head)) (aside : Option (Versions Rows)) (marked : Bool) → marked ≡ false → IsWellFormed (record { rows = rows.current; head = head.current })
    → IsFormed (with_mark rows head aside marked)
formed-without_mark rows head aside marked none current = record {
  current = current;
  mark = subst (λ b. IfSome (if b then Some (held_before rows head aside) else None) IsWellFormed) (sym none) tt;
}

formed-with : (rows : Versions Rows) (head : Option Head) (made : Rows) → rows.current ≡ made → IsWellFormed (record { rows = made; head = head }) → IsWellFormed (record { rows = rows.current; head = head })
formed-with rows head made is formed = subst (λ (r : Rows). IsWellFormed (record { rows = r; head = head })) (sym is) formed

pub formed-loaded : (row : Row) (was now : Versions Rows) (head : Versions (Option Head)) (aside : Option (Versions Rows)) (marked : Bool) (result : Result Bool Memory) → marked ≡ false → IsChecked row
    → IsWellFormed (record { rows = was.current; head = head.current }) → IfOk result (λ loaded. OnTrue loaded (now.current ≡ insert was.current (name_of row) row))
    → IfOk result (λ loaded. OnFalse loaded (now.current ≡ was.current)) → OnErr result (now.current ≡ was.current) → IsFormed (with_mark now head aside marked)
formed-loaded row was now head aside marked (Ok true) none checked formed put same err =
    formed-without_mark now head aside marked none (formed-with now head.current _ put (formed-with_row row (record { rows = was.current; head = head.current }) checked formed))
formed-loaded row was now head aside marked (Ok false) none checked formed put same err = formed-without_mark now head aside marked none (formed-with now head.current _ same formed)
formed-loaded row was now head aside marked (Err fault) none checked formed put same err = formed-without_mark now head aside marked none (formed-with now head.current _ err formed)

-- What each call at a desk needs of its keeper, and what it leaves there.
use Rattle.std.specs.Prelude.{◌≡◌, ℤ, true, false, Result}
use Rattle.ak_desk.specs.declared.desks.Desk.{Desk}
use Rattle.ak_edit.specs.Refusals.{Refusal}
use Rattle.ak_edit.specs.declared.desk_faults.DeskFault.{DeskFault}
use Rattle.ak_edit_calls.specs.Calls.{EditsBy}
use Rattle.ak_keep.specs.Collections.{Collection}
use Rattle.ak_keep.specs.Keepers.{Keeping, is_marked}
use Rattle.ak_keep.specs.declared.readables.Lookup.{Ghosts}
use Rattle.ak_merge.specs.Edits.{Edit}

-- the keeper is not marked, and it holds a head
pub record IsIdle (k : Keeping) : Type 0 where
  pub unmarked : is_marked k ≡ false
  pub held : k.headed.current ≡ true

-- how a call ended, by the desk before and after it, that does this edit at this moment if none of its tests refuses it
abbrev pub EditsAt : {K T : Type 0} → Ghosts K → Desk K → Desk K → Result T DeskFault → ℤ → (Collection → Edit)
    → (Collection → Refusal) → Type 0
EditsAt K was now result at rule tests =
    EditsBy K was.keeper.now now.keeper.now was.undo.now now.undo.now result at rule tests

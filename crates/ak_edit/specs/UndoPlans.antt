-- The plan of an undo: what it writes.
use Rattle.std.specs.Prelude.{◌≡◌, ℤ, pos, List, [], ◌∷◌, Option, Some, None}
use Rattle.std.specs.FinMap.{get}
use Rattle.std.specs.Option.{option_map}
use Rattle.ak_base.specs.declared.heads.Head.{Head}
use Rattle.ak_base.specs.declared.rows.Row.{Row}
use Rattle.ak_keep.specs.Collections.{Holding}
use Rattle.ak_merge.specs.Edits.{advanced, edited}
use Rattle.ak_keep.specs.Graves.{RowsByName}
use Rattle.ak_merge.specs.Undoing.{undone_stamp}
use Rattle.ak_undo.specs.declared.steps.Before.{Before}
use Rattle.ak_undo.specs.declared.steps.Step.{Step}
use Rattle.ak_edit.specs.declared.ends.Plan.{Plan}
use Rattle.ak_edit.specs.declared.plans.Moment.{Moment}
use Rattle.ak_edit.specs.declared.plans.Write.{Write}

-- the stamp of a row that is put back, of what stands there at present; a row that goes has none
abbrev pub undo_stamp : ℤ → Option Row → Option Row → ℤ
undo_stamp second None present = pos 0
undo_stamp second (Some before) present = undone_stamp second before present

-- the write of a row that is put back, or that goes
abbrev pub undo_write : ℤ → RowsByName → Before → Write
undo_write second at before =
    record {
      name = before.name;
      before = at before.name;
      row = option_map (edited (pos 0)) before.row;
      stamp = undo_stamp second before.row (at before.name);
    }

-- the writes of all of these
abbrev pub undo_writes : ℤ → RowsByName → List Before → List Write
undo_writes second at [] = []
undo_writes second at (before ∷ befores) = undo_write second at before ∷ undo_writes second at befores

-- the head after an undo
abbrev pub undo_head : ℤ → Step → Head → Head
undo_head at step head = record head { moment = advanced at head.moment; conf = step.head; tags = step.tags }

-- what an undo of the step does at this moment to what is held
pub record IsUndoPlan (now : Moment) (step : Step) (h : Holding) (plan : Plan) : Type 0 where
  pub head : h.head ≡ Some plan.before
  pub writes : plan.writes.items ≡ undo_writes now.second (get h.rows) step.rows

-- The plan of an edit's end: what it is of what is held, and what carrying it out makes of the undo list.
use Rattle.std.specs.Prelude.{◌≡◌, ◌⊎◌, false, true, length, map, take, if◌then◌else◌, Bool, List, [], ◌∷◌, Some, Ok, Err}
use Rattle.std.specs.FinMap.{entries, get}
use Rattle.std.specs.List.{All, IsDistinct}
use Rattle.std.specs.Ordering.{eq_by_cmp}
use Rattle.ak_base.specs.Heads.{IsHeadInRange, IsMoment}
use Rattle.ak_base.specs.Names.{name_cmp}
use Rattle.ak_base.specs.declared.errors.RowFault.{RowFault}
use Rattle.ak_base.specs.declared.heads.Head.{Head}
use Rattle.ak_keep.specs.Collections.{Holding}
use Rattle.ak_undo.specs.declared.steps.Step.{Step}
use Rattle.ak_edit.specs.Ends.{head_after}
use Rattle.ak_edit.specs.MadeRows.{check_of_rows, have_stamps_left}
use Rattle.ak_edit.specs.Overlays.{Overlay}
use Rattle.ak_edit.specs.Plans.{IsReadWrite, writes_of}
use Rattle.ak_edit.specs.Refusals.{Refusal}
use Rattle.ak_edit.specs.Stores.{befores_of}
use Rattle.ak_edit.specs.declared.desk_faults.DeskFault.TheVariants as faults
use Rattle.ak_edit.specs.declared.ends.Plan.{Plan}
use Rattle.ak_edit.specs.declared.plans.Moment.{Moment}
use Rattle.ak_edit.specs.declared.plans.Write.{Write}

-- what the changes do at this moment to what is held
pub record IsPlanned (now : Moment) (o : Overlay) (h : Holding) (plan : Plan) : Type 0 where
  pub head : h.head ≡ Some plan.before
  pub after : plan.after ≡ head_after now.at o plan.before
  pub writes : plan.writes.items ≡ writes_of now.second (get h.rows) (entries o.rows)

-- told or not: the rows before bear their names and pass their checks, no name comes twice, and the heads are in range
-- if the moments are
pub record IsPlanInRange (plan : Plan) : Type 0 where
  pub read : All IsReadWrite plan.writes.items
  pub distinct : IsDistinct (eq_by_cmp name_cmp) (map (λ (write : Write). write.name) plan.writes.items)
  pub before : IsHeadInRange plan.before
  pub after : IsMoment plan.after.moment → IsMoment plan.after.schema → IsHeadInRange plan.after

-- it writes nothing, and the head stays but for the moment: tags only come, so as many are the same
pub record ChangesNothing (plan : Plan) : Type 0 where
  pub writes : plan.writes.items ≡ []
  pub conf : plan.before.conf ≡ plan.after.conf
  pub tags : length plan.before.tags ≡ length plan.after.tags
  pub schema : plan.before.schema ≡ plan.after.schema

-- a stamp of a row that is made, the moment or the schema's moment is out of its range
abbrev pub HasEnded : List Write → Head → Type 0
HasEnded writes head = (have_stamps_left writes ≡ false) ⊎ (IsMoment head.moment → ⊥) ⊎ (IsMoment head.schema → ⊥)

-- no row fails, and no stamp and no moment is out of its range
abbrev pub ArePassed : List Write → Head → Type 0
ArePassed writes head =
    (check_of_rows writes ≡ Ok tt) × (have_stamps_left writes ≡ true) × IsMoment head.moment × IsMoment head.schema

-- a refusal of what is made: the first fault of a row, and if there is none, the end of a stamp or a moment
abbrev pub MadeRefusal : List Write → Head → Refusal
MadeRefusal writes head fault =
    ((row : RowFault) × (fault ≡ faults.Row row) × (check_of_rows writes ≡ Err row))
    ⊎ ((fault ≡ faults.StampEnd) × (check_of_rows writes ≡ Ok tt) × HasEnded writes head)

-- the step of a plan
abbrev pub step_in : Plan → Step
step_in plan = record { rows = befores_of plan.writes.items; head = plan.before.conf; tags = plan.before.tags }

-- the undo list after a step, which a change of the schema empties
abbrev pub steps_left : Bool → Step → List Step → List Step
steps_left schema step steps = if schema then [] else take 30 (step ∷ steps)

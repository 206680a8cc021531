-- What any line comes to: edits that clear the undo list, and then at most one step.
use Rattle.std.specs.Prelude.{◌≡◌, ℤ, false, List, [], ◌∷◌}
use Rattle.ak_desk_lines.specs.DeskStates.{DeskState}
use Rattle.ak_desk_lines.specs.LineSteps.{IsOneStep}
use Rattle.ak_filtered.specs.ClearedEdits.{IsCleared}
use Rattle.ak_keep.specs.Collections.{Collection}
use Rattle.ak_merge.specs.Edits.{Admits, Edit}

-- one edit of c was done that c admits and that leaves the schema, and nothing can be undone
pub record Clears (at : ℤ) (c : Collection) (before after : DeskState) : Type 0 where
  pub edit : Edit
  pub admits : Admits c edit
  pub schema : edit.schema ≡ false
  pub cleared : IsCleared at c edit before.keeping after.keeping after.steps

-- such edits came one after another, each through the next of these states, from c to d
abbrev pub ClearsThrough : ℤ → List DeskState → Collection → DeskState → Collection → DeskState → Type 0
ClearsThrough at [] c before d after = (d ≡ c) × (after ≡ before)
ClearsThrough at (mid ∷ mids) c before d after =
    (first : Clears at c before mid) × ClearsThrough at mids first.cleared.after mid d after

-- such edits came first, if any, and then at most one step as a line that is one call does
pub record IsInSteps (at : ℤ) (c : Collection) (before after : DeskState) : Type 0 where
  pub through : List DeskState
  pub between : Collection
  pub last : DeskState
  pub clears : ClearsThrough at through c before between last
  pub step : IsOneStep at between last after

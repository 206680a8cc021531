-- A run of desk lines between two of them.
use Rattle.std.specs.Prelude.{ℕ, ℤ, List, [], Option}
use Rattle.ak_desk_lines.specs.DeskStates.{DeskState}
use Rattle.ak_desk_runs.specs.declared.progress.Progress.{Progress}
use Rattle.ak_filters.specs.Meanings.{Meaning}
use Rattle.ak_keep.specs.Keepers.{Keeping}
use Rattle.ak_undo.specs.declared.steps.Step.{Step}

-- what is known of what a run is given: its keeper, the filters of pages, and the moments and words of chance to come
pub record Outside : Type 0 where
  pub keeping : Keeping
  pub filters : List Meaning
  pub moments : Option (List ℤ)
  pub words : Option (List ℕ)

-- what lines work on: the keeper, the filters of pages, the steps that can be undone, and how many answers were accepted
pub record LineState : Type 0 where
  pub keeping : Keeping
  pub filters : List Meaning
  pub steps : List Step
  pub done : ℕ

-- a run between two lines: what the lines work on, and the moments and words of chance to come
pub record RunState : Type 0 where
  pub work : LineState
  pub moments : Option (List ℤ)
  pub words : Option (List ℕ)

-- a run begins with no step to undo, and no answer accepted
abbrev pub begun : Outside → RunState
begun o = record {
  work = record { keeping = o.keeping; filters = o.filters; steps = []; done = 0 };
  moments = o.moments;
  words = o.words;
}

-- what a run was given, as it is by now
abbrev pub outside_in : RunState → Outside
outside_in s =
    record { keeping = s.work.keeping; filters = s.work.filters; moments = s.moments; words = s.words }

-- the state of the desk
abbrev pub state_in : LineState → DeskState
state_in b = record { keeping = b.keeping; steps = b.steps }

-- what a run is given, by its parts
abbrev pub outside_of : Keeping → List Meaning → Option (List ℤ) → Option (List ℕ) → Outside
outside_of keeping filters moments words =
    record { keeping = keeping; filters = filters; moments = moments; words = words }

-- what lines work on, with what a run keeps itself
abbrev pub line_state_of : Keeping → List Meaning → Progress → LineState
line_state_of keeping filters progress = record { keeping = keeping; filters = filters; steps = progress.undo; done = progress.done }

-- a run, with what it keeps itself
abbrev pub state_with : Outside → Progress → RunState
state_with o progress = record { work = line_state_of o.keeping o.filters progress; moments = o.moments; words = o.words }

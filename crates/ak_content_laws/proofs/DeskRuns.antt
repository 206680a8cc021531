-- A run of lines at the desk leaves a sound collection.
use Rattle.std.specs.Prelude.{◌≡◌, ℕ, ◌+◌, Bool, true, false, List, [], ◌∷◌, Option, Result, Ok, Err}
use Rattle.std.proofs.Common.{inl, inr, sym, ap, subst}
use Rattle.ak_desk_lines.specs.declared.turns.Turn.{Turn}
use Rattle.ak_desk_runs.specs.DeskRuns.{EndsDesk, EndsDeskOn, IsDeskRun}
use Rattle.ak_desk_runs.specs.LineOutcomes.{AtDesk, ComesTo, DeskEnds, EndsAs}
use Rattle.ak_desk_runs.specs.RunStates.{LineState, Outside, RunState, begun, state_in}
use Rattle.ak_io.specs.declared.lines.Line.{Line}
use Rattle.ak_keep.specs.Keepers.{Keeping}
use Rattle.ak_line_runs.specs.LineRuns.{Accepted, AllGo, Failed, NextEnds, OutOfMemory, Outcome, Refused, Stops}
use Rattle.ak_line_runs.specs.declared.command_ends.CommandEnd.{CommandEnd}
use Rattle.ak_line_runs.specs.declared.command_ends.CommandEnd.TheVariants as ends
use Rattle.ak_desk_texts.specs.declared.answers.DeskAnswer.{DeskAnswer}
use Rattle.ak_desk_texts.specs.declared.line_refusals.LineRefusal.{LineRefusal}
use Rattle.ak_undo.specs.declared.steps.Step.{Step}
use Rattle.ak_content_laws.proofs.Keepings.{sound_held}
use Rattle.ak_content_laws.proofs.LineEnds.{IsSoundDesk, any_line_ended}
use Rattle.ak_content_laws.specs.SoundCalls.{HoldsSound}

-- what lines work on is sound
abbrev IsSoundWork : LineState → Type 0
IsSoundWork s = IsSoundDesk (state_in s)

same_work : (s t : LineState) → t ≡ s → IsSoundWork s → IsSoundWork t
same_work s t same held = subst IsSoundWork (sym same) held

at_desk : (line : Line) (turn : Turn) (s t : LineState) (result : Result DeskAnswer LineRefusal) → AtDesk line turn s t result → IsSoundWork s → IsSoundWork t
at_desk line turn s t result (text, said, is_text, says, end) held = any_line_ended said turn (state_in s) (state_in t) result end.ends held

came_to : (line : Line) (turn : Turn) (s t : LineState) (outcome : Outcome) → ComesTo line turn s t outcome → IsSoundWork s → IsSoundWork t
came_to line turn s t (Accepted printed) (answer, desk, is) held = at_desk line turn s t (Ok answer) desk held
came_to line turn s t (Refused why) (inl (same, says)) held = same_work s t same held
came_to line turn s t (Refused why) (inr (refusal, desk, is)) held = at_desk line turn s t (Err refusal) desk held
came_to line turn s t Failed desk held = at_desk line turn s t _ desk held
came_to line turn s t OutOfMemory (inl same) held = same_work s t same held
came_to line turn s t OutOfMemory (inr (refusal, other, desk)) held = at_desk line turn s t (Err refusal) desk held

line_ends : (line : Line) (s t : RunState) (outcome : Outcome) → EndsAs line s t outcome → IsSoundWork s.work → IsSoundWork t.work
line_ends line s t outcome (inl (skipped, same, none)) held = same_work s.work t.work (ap (λ (r : RunState). r.work) same) held
line_ends line s t outcome (inr (not, turn, takes, comes)) held = came_to line turn s.work t.work outcome comes held

all_go : (number : ℕ) (lines : List Line) (s t : RunState) (printed : List (List ℕ)) → AllGo DeskEnds number lines s t printed → IsSoundWork s.work → IsSoundWork t.work
all_go number [] s t printed goes held = same_work s.work t.work (ap (λ (r : RunState). r.work) goes.0) held
all_go number (line ∷ lines) s t printed (mid, first, others, one, rest, is) held =
    all_go (number + 1) lines mid t others rest (line_ends line s mid (Accepted first) one held)

next_ends : (left : Option (List Line)) (number : ℕ) (s t : RunState) (outcome : Outcome) → NextEnds DeskEnds left number s t outcome → IsSoundWork s.work → IsSoundWork t.work
next_ends left number s t outcome (line, is, ended) held = line_ends line s t outcome ended held

same_run : (s t : RunState) → t ≡ s → IsSoundWork s.work → IsSoundWork t.work
same_run s t same held = same_work s.work t.work (ap (λ (r : RunState). r.work) same) held

stopped : (end : CommandEnd) (left : Option (List Line)) (number : ℕ) (s t : RunState) (more : List ℕ) → Stops DeskEnds end left number s t more → IsSoundWork s.work → IsSoundWork t.work
stopped ends.Done left number s t more stops held = same_run s t stops.1 held
stopped ends.Refused left number s t more (why, next, is) held = next_ends left number s t (Refused why) next held
stopped ends.ReadFailed left number s t more stops held = same_run s t stops.0 held
stopped ends.WriteFailed left number s t more (inl (printed, next, is)) held = next_ends left number s t (Accepted printed) next held
stopped ends.WriteFailed left number s t more (inr (why, next, is)) held = next_ends left number s t (Refused why) next held
stopped ends.KeeperFailed left number s t more (next, is) held = next_ends left number s t Failed next held
stopped ends.Memory left number s t more (is, inl same) held = same_run s t same held
stopped ends.Memory left number s t more (is, inr (inl next)) held = next_ends left number s t OutOfMemory next held
stopped ends.Memory left number s t more (is, inr (inr (why, next))) held = next_ends left number s t (Refused why) next held

-- without its steps
forgotten : (k : Keeping) (steps : List Step) → HoldsSound k steps → HoldsSound k []
forgotten k steps held = record { c = held.c; told = held.told; sound = sound_held k steps held }

run_ended : (end : CommandEnd) (all : Option (List Line)) (before after : Outside) (old new : Option (List ℕ)) → IsDeskRun end all before after old new → HoldsSound before.keeping [] → HoldsSound after.keeping []
run_ended end all before after old new desk held =
    let run = desk.run in
    let sound = all_go 1 run.gone (begun before) run.reached run.printed run.goes held in
    subst (λ (o : Outside). HoldsSound o.keeping []) (sym desk.outside)
    (forgotten desk.last.work.keeping desk.last.work.steps (stopped end run.left _ run.reached desk.last run.more run.stops sound))

pub desk_ended : (end : CommandEnd) (all : Option (List Line)) (before after : Outside) (old new : Option (List ℕ)) → EndsDesk end all before after old new → HoldsSound before.keeping [] → HoldsSound after.keeping []
desk_ended end all before after old new run held = by before.keeping.headed.current run
  where
    by : (b : Bool) → EndsDeskOn b end all before after old new → HoldsSound after.keeping []
    by true run = run_ended end all before after old new run held
    by false run = subst (λ (o : Outside). HoldsSound o.keeping []) (sym run.0) held

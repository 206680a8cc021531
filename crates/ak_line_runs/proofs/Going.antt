-- Lines that went, and one more, however lines end.
use Rattle.std.proofs.Common.{◌≡◌, ◌<◌, ◌≤◌, ℕ, ◌+◌, Bool, true, Result, Ok, List, [], ◌∷◌, ◌++◌, length, Option, Some, None, refl, sym, ap, ◌∙◌, subst, append_assoc, append-nil, arith, inl}
use Rattle.std.proofs.KnownBytes.{Appends-nil, Appends-trans}
use Rattle.std.specs.Io.KnownBytes.{Appends}
use Rattle.ak_io.proofs.Scripts.{written_lines_append}
use Rattle.ak_io.specs.Lines.{Counts, Reading, Takes, lines_left}
use Rattle.ak_io.specs.Scripts.{written_lines}
use Rattle.ak_io.specs.declared.lines.Line.{Line}
use Rattle.ak_io.specs.declared.lines.Line.TheVariants.{Whole, TooLong, PastInput}
use Rattle.ak_line_runs.proofs.Stopping.{printed_is_accepted}
use Rattle.ak_line_runs.specs.LineRuns.{Accepted, AllGo, AreLines, IsLineRun, RunKind, Stops, came_to, input_lines}
use Rattle.ak_line_runs.specs.RunSteps.{IsCamePrinted, IsSoFar, StopsThere, TakesAndGoes}
use Rattle.ak_line_runs.specs.declared.command_ends.CommandEnd.{CommandEnd}
use Rattle.ak_line_runs.specs.declared.command_ends.CommandEnd.TheVariants as ends
use Rattle.ak_line_runs.specs.declared.line_stops.LineStop.{LineStop}

-- the line past the input's limit doesn't go
abbrev pub PastStops : {S : Type 0} → RunKind S → Type 0
PastStops {S} Ends = (number : ℕ) (s t : S) (printed : List (List ℕ)) → Ends number PastInput s t (Accepted printed) → ⊥

-- a reader counts a line, and has less room
abbrev pub IsTaken : Reading → Reading → Type 0
IsTaken old new = (new.number ≡ old.number + 1) × (new.number ≤ 1_073_741_824) × (new.room < old.room)

length_more : (lines : List Line) (line : Line) → length (lines ++ line ∷ []) ≡ length lines + 1
length_more [] line = refl
length_more (first ∷ lines) line = let e = length_more lines line in omega (arith, e)

none_gone : (all : Option (List Line)) → AreLines all [] all
none_gone None = tt
none_gone (Some all) = refl

module _ {S : Type 0} (Ends : RunKind S) where
  -- a line more went
  all_go-more : (number : ℕ) (lines : List Line) (line : Line) (s m t : S) (a b : List (List ℕ)) → AllGo Ends number lines s m a
      → Ends (number + length lines) line m t (Accepted b) → AllGo Ends number (lines ++ line ∷ []) s t (a ++ b)
  all_go-more number [] line s m t a b (same, none) goes =
      let here : number + 0 ≡ number = omega arith in (
        t,
        b,
        [],
        subst (λ (n : ℕ). Ends n line s t (Accepted b)) here (subst (λ (x : S). Ends (number + 0) line x t (Accepted b)) same goes),
        (refl, refl),
        ap (λ l. l ++ b) none ∙ sym (append-nil b),
      )
  all_go-more number (first ∷ lines) line s m t a b (mid, printed, others, one, rest, is) goes =
      let there : number + length (first ∷ lines) ≡ number + 1 + length lines = omega arith in (
        mid,
        printed,
        others ++ b,
        one,
        all_go-more (number + 1) lines line mid m t others b rest (subst (λ (n : ℕ). Ends n line m t (Accepted b)) there goes),
        ap (λ l. l ++ b) is ∙ append_assoc printed others b,
      )

  -- a step of a run that is its last
  pub ends_run : (end : CommandEnd) (all left : Option (List Line)) (taken : ℕ) (before s last : S) (w0 w1 w2 : Option (List ℕ))
      → IsSoFar Ends all left taken before s w0 w1 → StopsThere Ends end left (taken + 1) s last w1 w2 → IsLineRun Ends end all before last w0 w2
  ends_run end all left taken before s last w0 w1 w2 so_far (more, stops, written) = record {
    gone = so_far.gone;
    left = left;
    reached = s;
    printed = so_far.printed;
    more = more;
    lines = so_far.lines;
    goes = so_far.goes;
    stops = subst (λ n. Stops Ends end left (n + 1) s last more) (sym so_far.number) stops;
    written = Appends-trans w0 w1 w2 (written_lines so_far.printed) more so_far.written written;
  }

  -- at the start all lines are left
  pub begins_run : (all : Option (List Line)) (number : ℕ) (before s : S) (w : Option (List ℕ)) → number ≡ 0 → s ≡ before
      → IsSoFar Ends all all number before s w w
  begins_run all number before s w starts same = record {
    gone = [];
    printed = [];
    number = sym starts;
    lines = none_gone all;
    goes = (same, refl);
    written = Appends-nil w;
  }

  -- they are those of the input, if the reader is new
  pub begins_reading : (input : Option (List ℕ)) (reading : Reading) (before s : S) (w : Option (List ℕ))
      → reading ≡ record { ahead = []; room = 1_073_741_824; number = 0 } → s ≡ before
      → IsSoFar Ends (input_lines input) (lines_left reading input) reading.number before s w w
  begins_reading input reading before s w starts same = rw starts (begins_run (input_lines input) 0 before s w refl same)

  -- memory was out before the first line
  pub ends_at_once : (all : Option (List Line)) (before : S) (w : Option (List ℕ)) → IsLineRun Ends ends.Memory all before before w w
  ends_at_once all before w = record {
    gone = [];
    left = all;
    reached = before;
    printed = [];
    more = [];
    lines = none_gone all;
    goes = (refl, refl);
    stops = (refl, inl refl);
    written = Appends-nil w;
  }

  module _ (past : PastStops Ends) where
    -- one of the lines that were left went
    lines_more : (all left left' : Option (List Line)) (gone : List Line) (line : Line) (number : ℕ) (s t : S) (printed : List (List ℕ))
        → AreLines all gone left → Takes left left' (Some line) → Ends number line s t (Accepted printed) → AreLines all (gone ++ line ∷ []) left'
    lines_more None left left' gone line number s t printed are takes goes = tt
    lines_more (Some all) None left' gone line number s t printed are takes goes = absurd are
    lines_more (Some all) (Some left) left' gone (Whole bytes) number s t printed are (rest, is, first) goes =
        subst (λ x. AreLines (Some all) (gone ++ Whole bytes ∷ []) x) (sym is) (are ∙ ap (λ l. gone ++ l) first ∙ sym (append_assoc gone (Whole bytes ∷ []) rest))
    lines_more (Some all) (Some left) left' gone TooLong number s t printed are (rest, is, first) goes =
        subst (λ x. AreLines (Some all) (gone ++ TooLong ∷ []) x) (sym is) (are ∙ ap (λ l. gone ++ l) first ∙ sym (append_assoc gone (TooLong ∷ []) rest))
    lines_more (Some all) (Some left) left' gone PastInput number s t printed are takes goes = absurd (past number s t printed goes)

    -- a step of a run that goes on
    pub goes_on : (all left left' : Option (List Line)) (taken taken' : ℕ) (before s t : S) (w0 w1 w2 : Option (List ℕ))
        → IsSoFar Ends all left taken before s w0 w1 → taken' ≡ taken + 1 → TakesAndGoes Ends left left' (taken + 1) s t w1 w2
        → IsSoFar Ends all left' taken' before t w0 w2
    goes_on all left left' taken taken' before s t w0 w1 w2 so_far next (line, printed, takes, goes, written) =
        let place : taken + 1 ≡ 1 + length so_far.gone = let e = so_far.number in omega (arith, e) in
        record {
          gone = so_far.gone ++ line ∷ [];
          printed = so_far.printed ++ printed;
          number = length_more so_far.gone line ∙ ap (λ n. n + 1) so_far.number ∙ sym next;
          lines = lines_more all left left' so_far.gone line (taken + 1) s t printed so_far.lines takes goes;
          goes = all_go-more 1 so_far.gone line before s t so_far.printed printed so_far.goes (subst (λ (n : ℕ). Ends n line s t (Accepted printed)) place goes);
          written = subst (Appends w0 w2) (sym (written_lines_append so_far.printed printed))
              (Appends-trans w0 w1 w2 (written_lines so_far.printed) (written_lines printed) so_far.written written);
        }

    -- ---- what a line that went took of the input
    goes_counted : (old new : Reading) (line : Line) (number : ℕ) (s t : S) (printed : List (List ℕ)) → Counts old new (Some line)
        → Ends number line s t (Accepted printed) → IsTaken old new
    goes_counted old new (Whole bytes) number s t printed counts goes = counts
    goes_counted old new TooLong number s t printed counts goes = counts
    goes_counted old new PastInput number s t printed counts goes = absurd (past number s t printed goes)

    -- a line went if what it came to was printed, and the run goes on
    pub went_counted : (old new : Reading) (line : Line) (number : ℕ) (s t : S) (came : Result (List (List ℕ)) LineStop) (went : Result Bool CommandEnd)
        (w w' : Option (List ℕ)) → Counts old new (Some line) → Ends number line s t (came_to came) → IsCamePrinted number came went w w' → went ≡ Ok true
        → IsTaken old new
    went_counted old new line number s t came went w w' counts ended shown is =
        let accepted = printed_is_accepted number came went w w' shown is in
        goes_counted old new line number s t accepted.0 counts (subst (λ (r : Result (List (List ℕ)) LineStop). Ends number line s t (came_to r)) accepted.1 ended)

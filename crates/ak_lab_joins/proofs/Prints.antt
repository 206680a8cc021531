-- What the printed line of a sync tells of its outcome.
use Rattle.std.specs.Prelude.{◌≡◌, ◌+◌, ℕ, true, false, List, [], ◌∷◌, ◌++◌, length, Option, Some, None, codes}
use Rattle.std.proofs.Common.{refl, sym, ap, subst, ◌∙◌, inl, inr, arith}
use Rattle.std.proofs.lemmas.List.{append_cancel_left}
use Rattle.std.proofs.lemmas.Option.{none-some}
use Rattle.ak_client.specs.declared.outcomes.Outcome.{Outcome}
use Rattle.ak_client.specs.declared.outcomes.Outcome.TheVariants as outcomes
use Rattle.ak_io.specs.declared.lines.Line.{Line}
use Rattle.ak_lab_joins.proofs.Ends.{run_finishes}
use Rattle.ak_lab_joins.proofs.Lines.{LinesStep, says_one, skips_nothing}
use Rattle.ak_lab_joins.specs.LabJoins.{Finishes, GoFresh, HasSession, PlansNothing}
use Rattle.ak_lab.specs.LabRuns.{IsLabOpening}
use Rattle.ak_lab.specs.LabStates.{LabState, at_line}
use Rattle.ak_lab.specs.LabSteps.{Accepts}
use Rattle.ak_lab.specs.LabSyncs.{EndsSync}
use Rattle.ak_lab_joins.proofs.Alone.{sync_uncrossed}
use Rattle.ak_lab.specs.LineOutcomes.{EndsAs, Says}
use Rattle.ak_lab_lines.specs.LabTexts.{ending_text, sync_text}
use Rattle.ak_lab_lines.specs.declared.lab_lines.LabLine.{LabLine}
use Rattle.ak_lab_lines.specs.declared.lab_lines.LabLine.TheVariants as lines
use Rattle.ak_line_runs.specs.LineRuns.{Accepted}
use Rattle.ak_sync_in_memory.specs.Entries.{account_opened}
use Rattle.ak_openings.specs.declared.whole_collections.Opening.{Opening}
use Rattle.ak_outcomes.specs.OutcomeTexts.{outcome_text}

-- ---- the text of an outcome
-- the second character of a text, and 0 if there is none
abbrev second : Option (List ℕ) → ℕ
second None = 0
second (Some []) = 0
second (Some (one ∷ [])) = 0
second (Some (one ∷ other ∷ more)) = other

-- only a finished sync is told as finished
pub finished_told : (outcome : Outcome) → outcome_text outcome ≡ Some (codes "finished") → outcome ≡ outcomes.Finished
finished_told outcomes.Finished is = refl
finished_told outcomes.NoChanges is = let wrong : 111 ≡ 105 = ap second is in absurd (omega (arith, wrong))
finished_told (outcomes.FullSchema device server) is = let wrong : 117 ≡ 105 = ap second is in absurd (omega (arith, wrong))
finished_told (outcomes.FullSequence usn) is = let wrong : 117 ≡ 105 = ap second is in absurd (omega (arith, wrong))
finished_told (outcomes.BadRow fault) is = let wrong : 97 ≡ 105 = ap second is in absurd (omega (arith, wrong))
finished_told (outcomes.BadCounts client server) is = let wrong : 97 ≡ 105 = ap second is in absurd (omega (arith, wrong))
finished_told (outcomes.ClockOff device server) is = let wrong : 108 ≡ 105 = ap second is in absurd (omega (arith, wrong))
finished_told (outcomes.OwnCheck fault) is = let wrong : 119 ≡ 105 = ap second is in absurd (omega (arith, wrong))
finished_told outcomes.Stopped is = let wrong : 116 ≡ 105 = ap second is in absurd (omega (arith, wrong))
finished_told (outcomes.Refused status word seen) is = let wrong : 101 ≡ 105 = ap second is in absurd (omega (arith, wrong))
finished_told outcomes.Lost is = let wrong : 111 ≡ 105 = ap second is in absurd (omega (arith, wrong))
finished_told outcomes.BadReply is = let wrong : 97 ≡ 105 = ap second is in absurd (omega (arith, wrong))
finished_told outcomes.TooManyChunks is = let wrong : 111 ≡ 105 = ap second is in absurd (omega (arith, wrong))
finished_told outcomes.Keep is = let wrong : 101 ≡ 105 = ap second is in absurd (omega (arith, wrong))
finished_told outcomes.Memory is = absurd (none-some (codes "finished") is)

-- ---- the line
first_of : List (List ℕ) → List ℕ
first_of [] = []
first_of (text ∷ texts) = text

pub text_told : (word name text other : List ℕ) → ending_text word name text ∷ [] ≡ ending_text word name other ∷ [] → text ≡ other
unfolding first_of
text_told word name text other is =
    append_cancel_left (word ++ codes " " ++ name ++ codes ": ") text other (ap first_of is)

-- a sync whose outcome has this text, and what others that crossed it printed
abbrev pub EndedAs : List ℕ → List ℕ → LabState → LabState → Type 0
EndedAs name text s t = (outcome : Outcome) × (crossed : List (List ℕ)) × EndsSync name s t crossed outcome × (outcome_text outcome ≡ Some text)

sync_told : (name text : List ℕ) (s t : LabState) → PlansNothing name s → Accepts (lines.Sync name) s t (sync_text name text ∷ []) → EndedAs name text s t
sync_told name text s t plans (outcome, other, crossed, ends, told, is) =
    let alone : sync_text name text ∷ [] ≡ sync_text name other ∷ [] =
    is ∙ ap (λ (l : List (List ℕ)). l ++ sync_text name other ∷ []) (sync_uncrossed name s t crossed outcome ends plans) in
    (outcome, crossed, ends, told ∙ ap Some (sym (text_told (codes "sync") name text other alone)))

pub line_told : (number : ℕ) (line : Line) (name text : List ℕ) (s t : LabState) → PlansNothing name s → Says line (lines.Sync name)
    → EndsAs number line s t (Accepted (sync_text name text ∷ [])) → EndedAs name text (at_line number s) t
line_told number line name text s t plans says (inl nothing) = absurd (skips_nothing line (lines.Sync name) says nothing.1.0)
line_told number line name text s t plans says (inr (said, others, accepts)) =
    sync_told name text (at_line number s) t plans
    (subst (λ (it : LabLine). Accepts it (at_line number s) t (sync_text name text ∷ [])) (says_one line said (lines.Sync name) others says) accepts)

-- ---- in a script
pub printed_joins : LinesStep → (opening : Opening) (all : List Line) (earlier : List (List ℕ)) (line : Line) (name : List ℕ) (s t : LabState) → IsLabOpening opening
    → HasSession s → GoFresh opening all s earlier → PlansNothing name s → Says line (lines.Sync name)
    → EndsAs (length all + 1) line s t (Accepted (sync_text name (codes "finished") ∷ [])) → Finishes (account_opened opening) name s t
printed_joins steps opening all earlier line name s t opens room goes plans says ends =
    let told = line_told (length all + 1) line name (codes "finished") s t plans says ends in
    run_finishes steps opening all name s t outcomes.Finished
    (record {
      opens = opens;
      printed = earlier;
      goes = (goes, inr (λ bad. absurd (not_checked bad)));
      room = room;
      plans = plans;
      crossed = told.1;
      comes = subst (λ (o : Outcome). EndsSync name (at_line (length all + 1) s) t told.1 o) (finished_told told.0 told.3) told.2;
    }) refl
  where
    -- a sync that finished took no schema moment
    not_checked : false ≡ true → ⊥
    not_checked bad = grind (arith, bad)

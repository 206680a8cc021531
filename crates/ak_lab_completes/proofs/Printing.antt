-- What the line of a sync prints between whose calls nothing is planned.
use Rattle.std.specs.Prelude.{◌≡◌, ◌≢◌, ℕ, List, [], ◌∷◌, ◌++◌}
use Rattle.std.proofs.Common.{sym, ap, ◌∙◌}
use Rattle.std.proofs.lemmas.Option.{none-some}
use Rattle.ak_client.specs.declared.outcomes.Outcome.{Outcome}
use Rattle.ak_lab.specs.LabStates.{LabState, at_line}
use Rattle.ak_lab.specs.LabSteps.{Accepts}
use Rattle.ak_lab.specs.LabSyncs.{EndsSync, server_met, with_fails}
use Rattle.ak_lab_completes.proofs.Beginning.{accepts_said}
use Rattle.ak_lab_completes.specs.LabCompleting.{AcceptsSync, LabEndsWith, PrintsEnd}
use Rattle.ak_lab_joins.specs.LabJoins.{PlansNothing}
use Rattle.ak_lab_lines.specs.LabTexts.{sync_text}
use Rattle.ak_lab_lines.specs.declared.lab_lines.LabLine.TheVariants as lines
use Rattle.ak_lab_wires.proofs.Alone.{StaysAlone, lab_stays}
use Rattle.ak_lab_wires.specs.CrossedSyncs.{CrossState}
use Rattle.ak_lab_wires.specs.declared.lab_sessions.SessionKind.TheVariants as kinds
use Rattle.ak_outcomes.specs.OutcomeTexts.{outcome_text}

-- no other sync printed anything
uncrossed : (name : List ℕ) (s t : LabState) (crossed : List (List ℕ)) (outcome : Outcome) → EndsSync name s t crossed outcome → PlansNothing name s → crossed ≡ []
uncrossed name s t crossed outcome ended plans =
    let stays : StaysAlone ended.runs.was ended.runs.became (server_met kinds.Sync s) (with_fails ended.runs.fails_left t.server) =
    lab_stays kinds.Sync _ _ _ _ _ ended.runs.made ended.runs.was ended.runs.became _ _ outcome ended.runs.session in
    let none : ended.runs.was.acts ≡ [] = ended.runs.begins.acts ∙ plans ended.runs.d (ended.is.held ended.runs.d ended.runs.at) in
    ended.runs.told ∙ ap (λ (x : CrossState). x.printed) ((stays none).1 ∙ ended.runs.begins.lab)

accepted_prints : (wanted : Outcome) (name : List ℕ) (s t : LabState) (printed : List (List ℕ)) → PlansNothing name s
    → ((crossed : List (List ℕ)) (outcome : Outcome) → EndsSync name s t crossed outcome → LabEndsWith wanted s t outcome) → Accepts (lines.Sync name) s t printed
    → PrintsEnd wanted name s t printed
accepted_prints wanted name s t printed plans comes (outcome, text, crossed, ended, told, is) = record {
  outcome = outcome;
  prints = (
    text,
    told,
    is ∙ ap (λ (l : List (List ℕ)). l ++ sync_text name text ∷ []) (uncrossed name s t crossed outcome ended plans),
  );
  ends = comes crossed outcome ended;
  enough = λ out. none-some text (sym (ap outcome_text out) ∙ told);
}

-- ---- the line
pub line_prints : (wanted : Outcome) (name : List ℕ) (number : ℕ) (s t : LabState) (printed : List (List ℕ)) → PlansNothing name s
    → ((crossed : List (List ℕ)) (outcome : Outcome) → EndsSync name (at_line number s) t crossed outcome → LabEndsWith wanted (at_line number s) t outcome)
    → AcceptsSync number name s t printed → PrintsEnd wanted name (at_line number s) t printed
line_prints wanted name number s t printed plans comes (line, says, ends) =
    accepted_prints wanted name (at_line number s) t printed plans comes (accepts_said number line (lines.Sync name) s t printed says ends)

-- What a line keeps of links with servers.
use Rattle.std.specs.List.{All}
use Rattle.std.specs.Prelude.{◌≡◌, ◌<ℤ◌, ℤ, Bool, if◌then◌else◌, List, ◌∷◌, Some, Result}
use Rattle.std.proofs.Common.{inl, inr, refl, sym, ap, subst, ◌∙◌, arith}
use Rattle.std.proofs.lemmas.Int.{ints}
use Rattle.std.proofs.lemmas.List.Elements.{All-cons, All-head, All-tail, All-take, All-weaker}
use Rattle.ak_base.specs.declared.heads.Head.{Head}
use Rattle.ak_desk_language.specs.declared.desk_lines.DeskLine.{DeskLine}
use Rattle.ak_desk_lines.proofs.EndedLines.{held_at}
use Rattle.ak_desk_lines.proofs.LineStepping.{held_here, holds_now}
use Rattle.ak_desk_lines.specs.DeskStates.{DeskState}
use Rattle.ak_desk_lines.specs.LineEnds.{EndsLine}
use Rattle.ak_desk_lines.specs.LineSteps.{IsOneStep, KeepsLinks, LinksWith}
use Rattle.ak_desk_lines.specs.declared.turns.Turn.{Turn}
use Rattle.ak_desk_texts.specs.declared.answers.DeskAnswer.{DeskAnswer}
use Rattle.ak_edit.proofs.Finishing.{where_held}
use Rattle.ak_edit.proofs.UndoneLists.{undo_keeps_all}
use Rattle.ak_edit.specs.Steps.{reversal_in, reversals_in}
use Rattle.ak_edit.specs.Undos.{SuitsNow, UndoKeepsAll}
use Rattle.ak_edit.specs.declared.desk_faults.DeskFault.{DeskFault}
use Rattle.ak_keep.specs.Collections.{Collection, Holding}
use Rattle.ak_keep.specs.Keepers.{WhereHeld}
use Rattle.ak_keep.specs.Marks.{WithMark}
use Rattle.ak_merge.proofs.EditBuildingLaws.{edits_keep_all}
use Rattle.ak_merge.proofs.EditFacts.{advanced_past, same_least}
use Rattle.ak_merge.specs.Edits.{Edit, Reversal, advanced, reversal_of}
use Rattle.ak_merge.specs.Holdings.{AreNamed, row_under}
use Rattle.ak_merge.specs.Links.{AreLinked}
use Rattle.ak_merge.specs.Undoing.{IsEdit, IsListAfter, StepFits}
use Rattle.ak_undo.specs.declared.steps.Step.{Step}

-- a moment that rises is another
no_rise : (at old : ℤ) → old ≡ advanced at old → ⊥
no_rise at old is = let up : old <ℤ advanced at old = advanced_past old at old (same_least refl) in omega (arith, ints, up, is)

-- ---- an edit
edited_links : (at : ℤ) (c after s : Collection) (edit : Edit) (steps left : List Step) → IsEdit at c edit after → AreNamed (row_under c)
    → IsListAfter c edit after (reversals_in steps) (reversals_in left) → LinksWith c steps s → after.head.schema ≡ c.head.schema → LinksWith after left s
edited_links at c after s edit steps left is named (inl kept) links same = record {
  linked = subst (λ (d : Collection). AreLinked d s) (sym kept.unchanged) links.linked;
  fit =
      subst (λ (d : Collection). All (λ step. StepFits d step s) (reversals_in left)) (sym kept.unchanged)
      (subst (λ (list : List Reversal). All (λ step. StepFits c step s) list) (sym kept.list) links.fit);
}
edited_links at c after s edit steps left is named (inr (inl emptied)) links same =
    absurd (no_rise at c.head.schema
    (sym same ∙ is.leaves.schema ∙ ap (λ (b : Bool). if b then advanced at c.head.schema else c.head.schema) emptied.schema))
edited_links at c after s edit steps left is named (inr (inr pushed)) links same =
    let keeps = edits_keep_all at c after edit is named in
    record {
      linked = keeps.linked s pushed.schema links.linked;
      fit =
          subst (λ (list : List Reversal). All (λ step. StepFits after step s) list) (sym pushed.list)
          (All-take (λ step. StepFits after step s) 30 (reversal_of c edit ∷ reversals_in steps)
          (All-cons (λ step. StepFits after step s) (reversal_of c edit) (reversals_in steps) (keeps.fits s pushed.schema links.linked)
          (All-weaker (λ step. StepFits c step s) (λ step. StepFits after step s) (λ step. keeps.older s step pushed.schema) (reversals_in steps) links.fit)));
    }

-- ---- an undo
undone_links : (c after s : Collection) (step : Step) (steps left : List Step) → steps ≡ step ∷ left → UndoKeepsAll c step left after
    → LinksWith c steps s → LinksWith after left s
undone_links c after s step steps left list keeps links =
    let fit : All (λ step. StepFits c step s) (reversal_in step ∷ reversals_in left) =
    subst (λ (all : List Step). All (λ step. StepFits c step s) (reversals_in all)) list links.fit in
    record {
      linked = keeps.linked s (All-head (λ step. StepFits c step s) (reversal_in step) (reversals_in left) fit) links.linked;
      fit =
          All-weaker (λ step. StepFits c step s) (λ step. StepFits after step s) (λ other. keeps.older s other) (reversals_in left)
          (All-tail (λ step. StepFits c step s) (reversal_in step) (reversals_in left) fit);
    }

-- ---- one step
pub step_keeps : (at : ℤ) (was now : DeskState) (w : WithMark Holding) (head : Head) → was.keeping.told ≡ Some w → w.current.head ≡ Some head
    → IsOneStep at (record { rows = w.current.rows; head = head }) was now → SuitsNow was.steps (record { rows = w.current.rows; head = head })
    → KeepsLinks (record { rows = w.current.rows; head = head }) was now
step_keeps at was now w head told is_head (inl same) suits s links =
    subst (λ (n : DeskState). WhereHeld n.keeping (λ d. d.head.schema ≡ head.schema → LinksWith d n.steps s)) (sym same)
    (held_here was.keeping (λ d. d.head.schema ≡ head.schema → LinksWith d was.steps s) w head told is_head (λ _. links))
step_keeps at was now w head told is_head (inr (inl edited)) suits s links =
    holds_now edited.2.after was.keeping now.keeping (λ d. d.head.schema ≡ head.schema → LinksWith d now.steps s) edited.2.held
    (edited_links at (record { rows = w.current.rows; head = head }) edited.2.after s edited.0 was.steps now.steps
    (record { admits = edited.1; leaves = edited.2.edited }) edited.2.named edited.2.list links)
step_keeps at was now w head told is_head (inr (inr undone)) suits s links =
    let all = undo_keeps_all at (record { rows = w.current.rows; head = head }) was.keeping now.keeping was.steps now.steps undone suits in
    holds_now undone.after was.keeping now.keeping (λ d. d.head.schema ≡ head.schema → LinksWith d now.steps s) undone.held
    (λ _. undone_links (record { rows = w.current.rows; head = head }) undone.after s undone.step was.steps now.steps undone.list all links)

-- every line
pub lines_keep : ((line : DeskLine) (t : Turn) (was now : DeskState) (result : Result DeskAnswer DeskFault) → EndsLine line t was now result → WhereHeld was.keeping (λ c. IsOneStep t.at c was now))
    → (line : DeskLine) (t : Turn) (was now : DeskState) (result : Result DeskAnswer DeskFault) → EndsLine line t was now result
    → WhereHeld was.keeping (λ c. SuitsNow was.steps c → KeepsLinks c was now)
lines_keep steps line t was now result ends =
    where_held was.keeping (λ c. SuitsNow was.steps c → KeepsLinks c was now)
    (λ w head told is_head suits. step_keeps t.at was now w head told is_head
    (held_at was.keeping (λ c. IsOneStep t.at c was now) w head told is_head (steps line t was now result ends)) suits)

-- Settings with another spread of new cards: what the change asks for, and when its edit is refused.
use Rattle.std.specs.Prelude.{◌≡◌, ℤ, List, Option, Some, None, IfSome, Result, OnErr, OnOk}
use Rattle.std.proofs.Common.{ap, subst, ◌∙◌}
use Rattle.ak_base.specs.declared.heads.Conf.{Conf}
use Rattle.ak_base.specs.declared.heads.Head.{Head}
use Rattle.ak_edit.proofs.Building.{nothing_asked}
use Rattle.ak_edit.specs.Ends.{AnswersEnd, FinishedBy, IsFinished, IsHeldRightly, RefusesEnd, RefusesRow, RefusesStamp}
use Rattle.ak_edit.specs.Overlays.{IsConfOver, Overlay, conf_over, edit_of, unchanged}
use Rattle.ak_edit.specs.Refusals.{AnswersBy}
use Rattle.ak_edit.specs.declared.desk_faults.DeskFault.{DeskFault}
use Rattle.ak_edit_calls.proofs.Answering.{never_first, on_ok-map}
use Rattle.ak_edit_calls.proofs.CheckedEdits.{checked_edits_pass}
use Rattle.ak_edit_calls.proofs.Telling.{where_held-both}
use Rattle.ak_edit_calls.specs.Calls.{DoesEdit, EndsEdit}
use Rattle.ak_keep.proofs.Told.{where_told-map}
use Rattle.ak_keep.specs.Collections.{Collection, Holding, collection_of}
use Rattle.ak_keep.specs.Keepers.{Keeping, WhereHeld, WhereTold}
use Rattle.ak_merge.specs.EditBuilding.{unedited, with_conf}
use Rattle.ak_merge.specs.Edits.{Edit}
use Rattle.ak_options.specs.Spreads.{RefusesSpread, spreading, with_spread}
use Rattle.ak_undo.specs.declared.steps.Step.{Step}

conf_in : (conf : Conf) (h : Holding) → IsConfOver unchanged h conf → IfSome (collection_of h) (λ c. conf ≡ c.head.conf)
conf_in conf h is =
    elim h.head as (λ (o : Option Head). IfSome o (λ head. conf ≡ head.conf) → IfSome (collection_of (record { rows = h.rows; head = o })) (λ c. conf ≡ c.head.conf)) [
      | None ↦ λ _. tt
      | Some head ↦ λ is. is
    ] is

conf_held : (k : Keeping) (conf : Conf) → WhereTold k (λ h. IsConfOver unchanged h conf) → WhereHeld k (λ c. conf ≡ c.head.conf)
conf_held k conf = where_told-map k (λ h. IsConfOver unchanged h conf) (λ h. IfSome (collection_of h) (λ c. conf ≡ c.head.conf)) (λ h is. conf_in conf h is)

spread_of : (value : ℤ) (conf : Conf) (c : Collection) (o : Overlay) → o ≡ conf_over (with_spread value conf) unchanged → conf ≡ c.head.conf → edit_of o c ≡ spreading value c
spread_of value conf c o is held =
    ap (λ (p : Overlay). edit_of p c) is
    ∙ ap (with_conf (with_spread value conf)) (nothing_asked c)
    ∙ ap (λ (x : Conf). with_conf (with_spread value x) (unedited c)) held

spread_done : (k now : Keeping) (at value : ℤ) (conf : Conf) (o : Overlay) (steps left : List Step) → WhereTold k (λ h. IsConfOver unchanged h conf) → o ≡ conf_over (with_spread value conf) unchanged
    → FinishedBy at o k now steps left → DoesEdit at (spreading value) k now steps left
spread_done k now at value conf o steps left told is =
    where_held-both k (λ c. conf ≡ c.head.conf) (λ c. IsFinished at c (edit_of o c) k now steps left) (λ c. IsFinished at c (spreading value c) k now steps left)
    (λ c held finished. subst (λ (e : Edit). IsFinished at c e k now steps left) (spread_of value conf c o is held) finished)
    (conf_held k conf told)

-- its end never refuses a row, since all rows stay
spread_rows : (value : ℤ) (c : Collection) (fault : DeskFault) → IsHeldRightly c → RefusesRow c (spreading value c) fault → ⊥
spread_rows value c fault rightly = checked_edits_pass c (spreading value c) fault rightly.checked

spread_answered : (k : Keeping) (at value : ℤ) (conf : Conf) (o : Overlay) (result : Result (Unit {0}) DeskFault) → WhereTold k (λ h. IsConfOver unchanged h conf)
    → o ≡ conf_over (with_spread value conf) unchanged → WhereHeld k IsHeldRightly → AnswersEnd at o k result → WhereHeld k (λ c. AnswersBy (RefusesSpread at value c) result)
spread_answered k at value conf o result told is rightly =
    where_held-both k (λ c. (conf ≡ c.head.conf) × IsHeldRightly c) (λ c. AnswersBy (RefusesEnd at c (edit_of o c)) result) (λ c. AnswersBy (RefusesSpread at value c) result)
    (λ c known answers. never_first (RefusesRow c (spreading value c)) (RefusesStamp at c (spreading value c)) result (λ fault. spread_rows value c fault known.1)
    (subst (λ (e : Edit). AnswersBy (RefusesEnd at c e) result) (spread_of value conf c o is known.0) answers))
    (where_held-both k (λ c. conf ≡ c.head.conf) IsHeldRightly (λ c. (conf ≡ c.head.conf) × IsHeldRightly c) (λ c one other. (one, other)) (conf_held k conf told) rightly)

-- the end of the call, by that of the change
pub spread_ended : (k now : Keeping) (at value : ℤ) (conf : Conf) (o : Overlay) (steps left : List Step) (result : Result (Unit {0}) DeskFault) → WhereTold k (λ h. IsConfOver unchanged h conf)
    → o ≡ conf_over (with_spread value conf) unchanged → WhereHeld k IsHeldRightly → OnOk result (FinishedBy at o k now steps left) → OnErr result (now ≡ k) → OnErr result (left ≡ steps) → now.headed ≡ k.headed
    → AnswersEnd at o k result → EndsEdit at (spreading value) (RefusesSpread at value) k now steps left result
spread_ended k now at value conf o steps left result told is rightly done same kept stays answers = record {
  done = on_ok-map result (FinishedBy at o k now steps left) (DoesEdit at (spreading value) k now steps left) (spread_done k now at value conf o steps left told is) done;
  same = same;
  kept = kept;
  stays = stays;
  answers = spread_answered k at value conf o result told is rightly answers;
}

-- A deck that is emptied: what it leaves, and why it is refused.
use Rattle.std.specs.Prelude.{◌≡◌, ℕ, ℤ, List, length, Result, Ok, Err}
use Rattle.std.proofs.Common.{ap, subst, ◌∙◌}
use Rattle.std.proofs.lemmas.Option.{none-some}
use Rattle.ak_base.specs.declared.decks.Deck.{Deck}
use Rattle.ak_edit.specs.Ends.{AnswersEnd, IsHeldRightly, RefusesEnd, RefusesRow, RefusesStamp}
use Rattle.ak_edit.specs.Overlays.{Overlay, edit_of, unchanged}
use Rattle.ak_edit.specs.Refusals.{AnswersBy}
use Rattle.ak_edit.specs.declared.desk_faults.DeskFault.{DeskFault}
use Rattle.ak_edit_calls.proofs.Answering.{never_first}
use Rattle.ak_edit_calls.proofs.Telling.{where_held-both, where_held-map, where_rows_held}
use Rattle.ak_filtered.proofs.FilteredTells.{desk_passed, desk_told, stamp_word, told_first, told_others}
use Rattle.ak_filtered.proofs.RefilledRows.{refill_edit, refilled_rows_pass}
use Rattle.ak_filtered.proofs.Told.{held_pair}
use Rattle.ak_filtered.specs.ClearedEdits.{ClearedBy, IsCleared}
use Rattle.ak_filtered.specs.Emptyings.{IsEmptied, RefusesDeck, RefusesEmptying, RefusesToEmpty, away_ids, emptying}
use Rattle.ak_filtered.specs.FilteredFaults.{ByDesk, TellsBy, of_desk_fault}
use Rattle.ak_filtered.specs.HomeDecks.{filtered_at}
use Rattle.ak_filtered.specs.Refills.{no_dues, refill}
use Rattle.ak_filtered.specs.declared.faults.FilteredFault.{FilteredFault}
use Rattle.ak_keep.specs.Collections.{Collection}
use Rattle.ak_keep.specs.Keepers.{Keeping, WhereHeld, WhereTold}
use Rattle.ak_merge.specs.Edits.{Edit}
use Rattle.ak_undo.specs.declared.steps.Step.{Step}

-- ---- the edit
-- what is known before its end
record IsReady (deck : ℤ) (o : Overlay) (c : Collection) : Type 0 where
  rightly : IsHeldRightly c
  change : o ≡ refill deck (filtered_at c.rows) no_dues c.rows unchanged

ready : (k : Keeping) (deck : ℤ) (o : Overlay) → WhereHeld k IsHeldRightly → WhereTold k (λ h. o ≡ refill deck (filtered_at h.rows) no_dues h.rows unchanged) → WhereHeld k (IsReady deck o)
ready k deck o rightly change =
    where_held-both k IsHeldRightly (λ c. o ≡ refill deck (filtered_at c.rows) no_dues c.rows unchanged) (IsReady deck o) (λ c one other. record { rightly = one; change = other }) rightly
    (where_rows_held k (λ rows. o ≡ refill deck (filtered_at rows) no_dues rows unchanged) change)

edit_is : (deck : ℤ) (o : Overlay) (c : Collection) → IsReady deck o c → edit_of o c ≡ emptying deck c
edit_is deck o c is = ap (λ (p : Overlay). edit_of p c) is.change ∙ refill_edit deck (filtered_at c.rows) no_dues c is.rightly.named is.rightly.checked

-- the answer at its end is one of stamps alone
stamps_answer : (at deck : ℤ) (o : Overlay) (c : Collection) (result : Result (Unit {0}) DeskFault) → IsReady deck o c → AnswersBy (RefusesEnd at c (edit_of o c)) result → AnswersBy (RefusesEmptying at deck c) result
stamps_answer at deck o c result is answers =
    never_first (RefusesRow c (emptying deck c)) (RefusesStamp at c (emptying deck c)) result
    (refilled_rows_pass deck (filtered_at c.rows) no_dues c is.rightly (λ id due none. absurd (none-some due none)))
    (subst (λ (e : Edit). AnswersBy (RefusesEnd at c e) result) (edit_is deck o c is) answers)

pub emptied_done : (k now : Keeping) (at deck : ℤ) (o : Overlay) (left : List Step) → WhereHeld k IsHeldRightly → WhereTold k (λ h. o ≡ refill deck (filtered_at h.rows) no_dues h.rows unchanged)
    → ClearedBy at o k now left → WhereHeld k (λ c. IsCleared at c (emptying deck c) k now left)
emptied_done k now at deck o left rightly change =
    where_held-both k (IsReady deck o) (λ c. IsCleared at c (edit_of o c) k now left) (λ c. IsCleared at c (emptying deck c) k now left)
    (λ c is cleared. subst (λ (e : Edit). IsCleared at c e k now left) (edit_is deck o c is) cleared) (ready k deck o rightly change)

pub emptied_accepts : {U : Type 0} (k : Keeping) (at deck : ℤ) (o : Overlay) (value : Unit {0}) (other : U) → WhereHeld k IsHeldRightly → WhereTold k (λ h. o ≡ refill deck (filtered_at h.rows) no_dues h.rows unchanged)
    → AnswersEnd at o k (Ok value) → WhereHeld k (λ c. AnswersBy (RefusesEmptying at deck c) (Ok other))
emptied_accepts k at deck o value other rightly change =
    where_held-both k (IsReady deck o) (λ c. AnswersBy {T = Unit {0}} (RefusesEnd at c (edit_of o c)) (Ok value)) (λ c. AnswersBy (RefusesEmptying at deck c) (Ok other))
    (λ c is answers. record { accepted = (stamps_answer at deck o c (Ok value) is answers).accepted; refused = tt }) (ready k deck o rightly change)

pub emptied_refuses : (U : Type 0) (k : Keeping) (at deck : ℤ) (o : Overlay) (fault : DeskFault) → WhereHeld k IsHeldRightly → WhereTold k (λ h. o ≡ refill deck (filtered_at h.rows) no_dues h.rows unchanged)
    → AnswersEnd {T = Unit {0}} at o k (Err fault) → WhereHeld k (λ c. AnswersBy {T = U} (RefusesEmptying at deck c) (Err fault))
emptied_refuses U k at deck o fault rightly change =
    where_held-both k (IsReady deck o) (λ c. AnswersBy {T = Unit {0}} (RefusesEnd at c (edit_of o c)) (Err fault)) (λ c. AnswersBy {T = U} (RefusesEmptying at deck c) (Err fault))
    (λ c is answers. record { accepted = tt; refused = (stamps_answer at deck o c (Err fault) is answers).refused }) (ready k deck o rightly change)

-- ---- the call
pub empty_done : (k now : Keeping) (at deck : ℤ) (left : List Step) (count : ℕ) → WhereTold k (λ h. count ≡ length (away_ids deck h.rows))
    → WhereHeld k (λ c. IsCleared at c (emptying deck c) k now left) → WhereHeld k (λ c. IsEmptied at deck c k now left count)
empty_done k now at deck left count counts =
    where_held-both k (λ c. count ≡ length (away_ids deck c.rows)) (λ c. IsCleared at c (emptying deck c) k now left) (λ c. IsEmptied at deck c k now left count)
    (λ c is cleared. record { count_is = is; cleared = cleared }) (where_rows_held k (λ rows. count ≡ length (away_ids deck rows)) counts)

pub empty_accepts : (k : Keeping) (at id : ℤ) (deck : Deck) (count : ℕ) → WhereHeld k (λ c. TellsBy {T = Deck} (RefusesDeck id c) (Ok deck)) → WhereHeld k (λ c. AnswersBy {T = ℕ} (RefusesEmptying at id c) (Ok count))
    → WhereHeld k (λ c. TellsBy {T = ℕ} (RefusesToEmpty at id c) (Ok count))
empty_accepts k at id deck count =
    where_held-both k (λ c. TellsBy {T = Deck} (RefusesDeck id c) (Ok deck)) (λ c. AnswersBy {T = ℕ} (RefusesEmptying at id c) (Ok count)) (λ c. TellsBy {T = ℕ} (RefusesToEmpty at id c) (Ok count))
    (λ c passes answers. told_others (RefusesDeck id c) (ByDesk (RefusesEmptying at id c)) deck (Ok count) passes (desk_passed (RefusesEmptying at id c) count count answers))

pub empty_refuses : (k : Keeping) (at id : ℤ) (deck : Deck) (own : DeskFault) → WhereHeld k (λ c. TellsBy {T = Deck} (RefusesDeck id c) (Ok deck)) → WhereHeld k (λ c. AnswersBy {T = ℕ} (RefusesEmptying at id c) (Err own))
    → WhereHeld k (λ c. TellsBy {T = ℕ} (RefusesToEmpty at id c) (Err (of_desk_fault own)))
empty_refuses k at id deck own =
    where_held-both k (λ c. TellsBy {T = Deck} (RefusesDeck id c) (Ok deck)) (λ c. AnswersBy {T = ℕ} (RefusesEmptying at id c) (Err own)) (λ c. TellsBy {T = ℕ} (RefusesToEmpty at id c) (Err (of_desk_fault own)))
    (λ c passes answers. told_others (RefusesDeck id c) (ByDesk (RefusesEmptying at id c)) deck (Err (of_desk_fault own)) passes
    (desk_told (RefusesEmptying at id c) own (stamp_word at c (emptying id c)) answers))

-- the deck does not pass its tests
pub empty_first : (k : Keeping) (at id : ℤ) (fault : FilteredFault) → WhereHeld k (λ c. TellsBy {T = Deck} (RefusesDeck id c) (Err fault)) → WhereHeld k (λ c. TellsBy {T = ℕ} (RefusesToEmpty at id c) (Err fault))
empty_first k at id fault =
    where_held-map k (λ c. TellsBy {T = Deck} (RefusesDeck id c) (Err fault)) (λ c. TellsBy {T = ℕ} (RefusesToEmpty at id c) (Err fault))
    (λ c tells. told_first {U = ℕ} (RefusesDeck id c) (ByDesk (RefusesEmptying at id c)) fault tells)

-- Cards that are sent home: how the call ends.
use Rattle.std.specs.Prelude.{◌≡◌, ◌⊎◌, ℤ, Bool, true, false, List, [], Result, Ok, Err}
use Rattle.std.proofs.Common.{refl, sym, ap, subst, ◌∙◌, inl, inr}
use Rattle.std.specs.FinMap.{get}
use Rattle.ak_edit.specs.Ends.{AnswersEnd, IsHeldRightly, RefusesEnd, RefusesRow, RefusesStamp}
use Rattle.ak_edit.specs.Overlays.{Overlay, edit_of, unchanged}
use Rattle.ak_edit.specs.Refusals.{AnswersBy, IsFromOutside}
use Rattle.ak_edit.specs.declared.desk_faults.DeskFault.{DeskFault}
use Rattle.ak_edit_calls.proofs.Answering.{never_first}
use Rattle.ak_edit_calls.proofs.CardRules.{card_edit_of, card_edit_rows}
use Rattle.ak_edit_calls.proofs.Telling.{where_held-both, where_held-map, where_rows_held}
use Rattle.ak_edit_calls.specs.CardEdits.{put_each}
use Rattle.ak_filtered.proofs.GoneHome.{home_keeps}
use Rattle.ak_filtered.proofs.Told.{held_always, held_pair}
use Rattle.ak_filtered.specs.ClearedEdits.{ClearedBy, IsCleared}
use Rattle.ak_filtered.specs.HomeDecks.{filtered_at, gone_home, sending_home}
use Rattle.ak_filtered.specs.HomeGoings.{EndsSending, IsSent}
use Rattle.ak_filtered.specs.declared.home_decks.Sending.{Sending}
use Rattle.ak_keep.specs.Collections.{Collection}
use Rattle.ak_keep.specs.Keepers.{Keeping, WhereHeld, WhereTold}
use Rattle.ak_merge.specs.Edits.{Edit}
use Rattle.ak_merge.specs.Holdings.{AreNamed, row_under}
use Rattle.ak_undo.specs.declared.steps.Step.{Step}

sent_edit : (c : Collection) (cards : List ℤ) (s : Sending) → AreNamed (row_under c) → IsSent cards c.rows s → edit_of s.change c ≡ sending_home cards c
sent_edit c cards s named sent = card_edit_of (gone_home (filtered_at c.rows)) c cards s.change named (home_keeps (filtered_at c.rows)) sent.change

-- the answer at the end is one of stamps alone
stamps_answer : (at : ℤ) (cards : List ℤ) (c : Collection) (s : Sending) (result : Result (Unit {0}) DeskFault) → IsHeldRightly c → IsSent cards c.rows s
    → AnswersBy (RefusesEnd at c (edit_of s.change c)) result → AnswersBy (RefusesStamp at c (sending_home cards c)) result
stamps_answer at cards c s result rightly sent answers =
    never_first (RefusesRow c (sending_home cards c)) (RefusesStamp at c (sending_home cards c)) result
    (λ fault. card_edit_rows (gone_home (filtered_at c.rows)) c cards fault rightly (home_keeps (filtered_at c.rows)))
    (subst (λ (e : Edit). AnswersBy (RefusesEnd at c e) result) (sent_edit c cards s rightly.named sent) answers)

-- none was away
pub none_sent : (k : Keeping) (at : ℤ) (cards : List ℤ) (s : Sending) (steps : List Step) → s.went ≡ false → WhereTold k (λ h. IsSent cards h.rows s)
    → WhereHeld k (λ c. EndsSending at cards c k k steps steps (Ok false))
none_sent k at cards s steps none told =
    where_held-map k (λ c. IsSent cards c.rows s) (λ c. EndsSending at cards c k k steps steps (Ok false))
    (λ c sent. inl (record { told = refl; none = sym sent.went ∙ none; same = refl; kept = refl }))
    (where_rows_held k (λ rows. IsSent cards rows s) told)

-- some were, and the edit was done
pub some_sent : (k now : Keeping) (at : ℤ) (cards : List ℤ) (s : Sending) (steps left : List Step) (value : Unit {0}) → s.went ≡ true → WhereTold k (λ h. IsSent cards h.rows s)
    → ClearedBy at s.change k now left → AnswersEnd at s.change k (Ok value) → WhereHeld k (λ c. EndsSending at cards c k now steps left (Ok true))
some_sent k now at cards s steps left value some told cleared answers =
    where_held-both k (λ c. IsSent cards c.rows s)
    (λ c. IsCleared at c (edit_of s.change c) k now left × AnswersBy {T = Unit {0}} (RefusesEnd at c (edit_of s.change c)) (Ok value))
    (λ c. EndsSending at cards c k now steps left (Ok true))
    (λ c sent both.
    let is : edit_of s.change c ≡ sending_home cards c = sent_edit c cards s both.0.rightly.named sent in
    let answer : AnswersBy {T = Unit {0}} (RefusesStamp at c (sending_home cards c)) (Ok value) = stamps_answer at cards c s (Ok value) both.0.rightly sent both.1 in
    inr (inl (record {
      told = refl;
      some = sym sent.went ∙ some;
      passes = answer.accepted;
      cleared = subst (λ (e : Edit). IsCleared at c e k now left) is both.0;
    })))
    (where_rows_held k (λ rows. IsSent cards rows s) told)
    (held_pair k (λ c. IsCleared at c (edit_of s.change c) k now left) (λ c. AnswersBy {T = Unit {0}} (RefusesEnd at c (edit_of s.change c)) (Ok value)) cleared answers)

-- some were, and the edit was refused
pub refused_sent : (k : Keeping) (at : ℤ) (cards : List ℤ) (s : Sending) (steps : List Step) (fault : DeskFault) → s.went ≡ true → WhereTold k (λ h. IsSent cards h.rows s)
    → WhereHeld k IsHeldRightly → AnswersEnd {T = Unit {0}} at s.change k (Err fault) → WhereHeld k (λ c. EndsSending at cards c k k steps steps (Err fault))
refused_sent k at cards s steps fault some told rightly answers =
    where_held-both k (λ c. IsSent cards c.rows s × IsHeldRightly c) (λ c. AnswersBy {T = Unit {0}} (RefusesEnd at c (edit_of s.change c)) (Err fault))
    (λ c. EndsSending at cards c k k steps steps (Err fault))
    (λ c both answer.
    let stamps : AnswersBy {T = Unit {0}} (RefusesStamp at c (sending_home cards c)) (Err fault) = stamps_answer at cards c s (Err fault) both.1 both.0 answer in
    inr (inr (record {
      fault = fault;
      refused = refl;
      tested = elim stamps.refused [
        | inl outside ↦ inl outside
        | inr refuses ↦ inr (sym both.0.went ∙ some, refuses)
      ];
      same = refl;
      kept = refl;
    })))
    (held_pair k (λ c. IsSent cards c.rows s) IsHeldRightly (where_rows_held k (λ rows. IsSent cards rows s) told) rightly) answers

-- the keeper failed or memory was out before anything was done
pub outside_sent : (k : Keeping) (at : ℤ) (cards : List ℤ) (steps : List Step) (fault : DeskFault) → IsFromOutside fault → WhereHeld k (λ c. EndsSending at cards c k k steps steps (Err fault))
outside_sent k at cards steps fault outside =
    held_always k (λ c. EndsSending at cards c k k steps steps (Err fault)) (λ c. inr (inr (record { fault = fault; refused = refl; tested = inl outside; same = refl; kept = refl })))

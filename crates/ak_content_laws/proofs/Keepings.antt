-- How a call keeps that a keeper holds a sound collection, by the edit that it does.
use Rattle.std.specs.Prelude.{◌≡◌, ℤ, List, Option, Some, None, Result, Ok, Err, IfSome, option_and_then}
use Rattle.std.specs.Option.{option_map}
use Rattle.std.proofs.Common.{refl, sym, subst}
use Rattle.std.proofs.lemmas.Option.{same_Some}
use Rattle.ak_edit_calls.specs.Calls.{EndsEdit}
use Rattle.ak_edit.specs.Ends.{IsFinished, holding_now}
use Rattle.ak_edit.specs.Refusals.{AnswersBy, Refusal}
use Rattle.ak_edit.specs.Steps.{reversal_in, reversals_in}
use Rattle.ak_edit.specs.Undos.{IsLatestUndone}
use Rattle.ak_edit.specs.declared.desk_faults.DeskFault.{DeskFault}
use Rattle.ak_filtered.specs.ClearedEdits.{IsCleared}
use Rattle.ak_keep.specs.Collections.{Collection, Holding, collection_of}
use Rattle.ak_keep.specs.Keepers.{Keeping, WhereHeld}
use Rattle.ak_keep.specs.Marks as marks
use Rattle.ak_keep.specs.Marks.{WithMark}
use Rattle.ak_merge.proofs.EditFacts.{none_held}
use Rattle.ak_merge.specs.Edits.{Edit}
use Rattle.ak_merge.specs.Holdings.{AreNamed, row_under}
use Rattle.ak_undo.specs.declared.steps.Step.{Step}
use Rattle.ak_content_laws.proofs.SoundEdits.{edit_keeps_sound, edit_leaves_whole, sound_now, undo_keeps_sound}
use Rattle.ak_content_laws.specs.SoundCalls.{AreSoundBack, EndsOrStays, HoldsSound, IsSoundInRange, collection_told}

-- ---- what is told
is_of : (o : Option Collection) (c : Collection) (P : Collection → Type 0) → o ≡ Some c → IfSome o P → P c
is_of None c P is held = none_held is
is_of (Some d) c P is held = subst P (same_Some d c is) held

told_of : (told : Option (WithMark Holding)) (c : Collection) (P : Collection → Type 0) → option_and_then (λ (w : WithMark Holding). collection_of w.current) told ≡ Some c
    → IfSome told (λ w. IfSome (collection_of w.current) P) → P c
told_of None c P is held = none_held is
told_of (Some w) c P is held = is_of (collection_of w.current) c P is held

-- what is true of the collection that is told
pub where_told : (k : Keeping) (c : Collection) (P : Collection → Type 0) → collection_told k ≡ Some c → WhereHeld k P → P c
where_told k c P is held = told_of k.told c P is held

told_after : (told : Option (WithMark Holding)) (c after : Collection) → option_and_then (λ (w : WithMark Holding). collection_of w.current) told ≡ Some c
    → option_and_then (λ (w : WithMark Holding). collection_of w.current) (option_map (marks.changed (λ (_ : Holding). record { rows = after.rows; head = Some after.head })) told) ≡ Some after
told_after None c after is = none_held is
told_after (Some w) c after is = refl

pub told_now : (before now : Keeping) (c after : Collection) → collection_told before ≡ Some c → now ≡ holding_now after before → collection_told now ≡ Some after
told_now before now c after is becomes = subst (λ (k : Keeping). collection_told k ≡ Some after) (sym becomes) (told_after before.told c after is)

-- ---- calls
-- an edit that was ended
pub finished_keeps : (at : ℤ) (edit : Edit) (before now : Keeping) (steps left : List Step) (held : HoldsSound before steps) → IsFinished at held.c edit before now steps left → IsSoundInRange edit.rows
    → HoldsSound now left
finished_keeps at edit before now steps left held done asked = record {
  c = done.after;
  told = told_now before now held.c done.after held.told done.held;
  sound = edit_keeps_sound at held.c done.after edit (reversals_in steps) (reversals_in left) done.edited done.list asked held.sound;
}

-- one that clears the undo list
abbrev pub cleared_keeps : (at : ℤ) (edit : Edit) (before now : Keeping) (steps left : List Step) (held : HoldsSound before steps) → IsCleared at held.c edit before now left → IsSoundInRange edit.rows → HoldsSound now left
cleared_keeps at edit before now steps left held done asked = record {
  c = done.after;
  told = told_now before now held.c done.after held.told done.held;
  sound = subst (λ (l : List Step). AreSoundBack (reversals_in l) (row_under done.after)) (sym done.list) (edit_leaves_whole at held.c done.after edit done.edited asked);
}

-- an undo
pub undone_keeps : (at : ℤ) (before now : Keeping) (steps left : List Step) (held : HoldsSound before steps) → IsLatestUndone at held.c before now steps left → HoldsSound now left
undone_keeps at before now steps left held done = record {
  c = done.after;
  told = told_now before now held.c done.after held.told done.held;
  sound =
      undo_keeps_sound at held.c done.after (reversal_in done.step) (reversals_in left) done.undone
      (subst (λ (l : List Step). AreSoundBack (reversals_in l) (row_under held.c)) done.list held.sound);
}

pub sound_held : (k : Keeping) (steps : List Step) (held : HoldsSound k steps) → IsSoundInRange (row_under held.c)
sound_held k steps held = sound_now (reversals_in steps) (row_under held.c) held.sound

-- what is held and the list are the same
pub same_keeps : (before now : Keeping) (steps left : List Step) → now ≡ before → left ≡ steps → HoldsSound before steps → HoldsSound now left
same_keeps before now steps left same kept held =
    subst (λ (l : List Step). HoldsSound now l) (sym kept) (subst (λ (k : Keeping). HoldsSound k steps) (sym same) held)

-- ---- calls that were accepted or refused
-- whatever the call does
pub ends_keeps : {T E : Type 0} (Done : T → Type 0) (before now : Keeping) (steps left : List Step) (result : Result T E) → EndsOrStays Done before now steps left result
    → ((x : T) → result ≡ Ok x → Done x → HoldsSound before steps → HoldsSound now left) → HoldsSound before steps → HoldsSound now left
ends_keeps Done before now steps left (Ok x) ends keeps held = keeps x refl ends.done held
ends_keeps Done before now steps left (Err fault) ends keeps held = same_keeps before now steps left ends.same ends.kept held

-- the edit of a rule asks for sound rows, of a sound collection in which none of the tests holds
abbrev pub AsksSound : (Collection → Edit) → (Collection → Refusal) → Type 0
AsksSound rule tests = (c : Collection) → AreNamed (row_under c) → ((fault : DeskFault) → tests c fault → ⊥) → IsSoundInRange (row_under c) → IsSoundInRange (rule c).rows

-- a call that does the edit of a rule
pub rule_keeps : {T : Type 0} (at : ℤ) (rule : Collection → Edit) (tests : Collection → Refusal) (before now : Keeping) (steps left : List Step) (result : Result T DeskFault) → AsksSound rule tests
    → EndsEdit at rule tests before now steps left result → HoldsSound before steps → HoldsSound now left
rule_keeps {T} at rule tests before now steps left (Ok x) asks ends held =
    let done : IsFinished at held.c (rule held.c) before now steps left = where_told before held.c (λ c. IsFinished at c (rule c) before now steps left) held.told ends.done in
    let answers : AnswersBy {T = T} (tests held.c) (Ok x) = where_told before held.c (λ c. AnswersBy {T = T} (tests c) (Ok x)) held.told ends.answers in
    finished_keeps at (rule held.c) before now steps left held done (asks held.c done.named answers.accepted (sound_held before steps held))
rule_keeps at rule tests before now steps left (Err fault) asks ends held = same_keeps before now steps left ends.same ends.kept held

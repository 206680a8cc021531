-- A deck that is added: what it leaves, and when it is refused.
use Rattle.std.specs.Prelude.{◌≡◌, ◌≤◌, ℕ, ℤ, pos, List, length, Result, Ok, Err}
use Rattle.std.proofs.Common.{ap, subst, inl, inr, ◌∙◌}
use Rattle.ak_base.specs.declared.decks.Deck.{Deck}
use Rattle.ak_edit_calls.proofs.Answering.{never_first, passed_first, refused_first}
use Rattle.ak_edit_calls.proofs.Telling.{where_held-both, where_rows_held, where_told-both}
use Rattle.ak_edit.specs.Ends.{AnswersEnd, FinishedBy, IsFinished, IsHeldRightly, RefusesEnd, RefusesRow, RefusesStamp}
use Rattle.ak_edit.specs.Overlays.{Overlay, edit_of, unchanged}
use Rattle.ak_edit.specs.Refusals.{AnswersBy, OrElse, Refusal}
use Rattle.ak_edit.specs.declared.desk_faults.DeskFault.{DeskFault}
use Rattle.ak_keep.proofs.Told.{where_told-map}
use Rattle.ak_keep.specs.Collections.{Collection, Holding, Rows}
use Rattle.ak_keep.specs.Keepers.{Keeping, WhereHeld, WhereTold}
use Rattle.ak_merge.specs.Edits.{Edit}
use Rattle.ak_deck_paths.proofs.CheckedDecks.{decks_pass}
use Rattle.ak_deck_paths.proofs.Ending.{other_answer, other_refusal}
use Rattle.ak_deck_paths.proofs.MakingDecks.{decks_once}
use Rattle.ak_deck_paths.proofs.PuttingDecks.{addition_asked, addition_rows}
use Rattle.ak_deck_paths.proofs.ShortPaths.{added_short, given_path, short_path}
use Rattle.ak_deck_paths.specs.Additions.{AreAdded, AreAddedIn, DoesAdd, IsAdded, RefusesAddedStamp, RefusesAddition, RefusesToAdd, RefusesToMake, added_paths, addition, id_of_last}
use Rattle.ak_deck_paths.specs.ChangedDecks.{decks_over}
use Rattle.ak_keep.specs.Lookups.{decks_in}
use Rattle.ak_deck_paths.specs.GivenPaths.{RefusesPath}
use Rattle.ak_undo.specs.declared.steps.Step.{Step}

-- ---- before the end
-- the path that was given passes, and the other tests answer
pub given_passes : {T U : Type 0} (k : Keeping) (path : List ℕ) (others : Holding → Refusal) (value : T) (result : Result U DeskFault) → AnswersBy (RefusesPath path) (Ok value)
    → WhereTold k (λ h. AnswersBy (others h) result) → WhereTold k (λ h. AnswersBy (OrElse (RefusesPath path) (others h)) result)
given_passes k path others value result passes =
    where_told-map k (λ h. AnswersBy (others h) result) (λ h. AnswersBy (OrElse (RefusesPath path) (others h)) result)
    (λ h answers. passed_first (RefusesPath path) (others h) value result passes answers)

-- a test of the decks that are held refuses
pub decks_refuse : {T : Type 0} (U : Type 0) (k : Keeping) (decks : List Deck) (tests : List Deck → Refusal) (others : List Deck → Rows → Refusal) (fault : DeskFault)
    → WhereTold k (λ h. decks ≡ decks_in h.rows) → AnswersBy {T = T} (tests decks) (Err fault) → WhereTold k (λ h. AnswersBy {T = U} (OrElse (tests (decks_in h.rows)) (others (decks_in h.rows) h.rows)) (Err fault))
decks_refuse {T} U k decks tests others fault held answers =
    where_told-map k (λ h. decks ≡ decks_in h.rows) (λ h. AnswersBy {T = U} (OrElse (tests (decks_in h.rows)) (others (decks_in h.rows) h.rows)) (Err fault))
    (λ h is. refused_first (tests (decks_in h.rows)) (others (decks_in h.rows) h.rows) fault (subst (λ (ds : List Deck). AnswersBy {T = T} (tests ds) (Err fault)) is answers)) held

-- it passes, and the other tests answer
pub decks_pass_tests : {T U : Type 0} (k : Keeping) (decks : List Deck) (tests : List Deck → Refusal) (others : List Deck → Rows → Refusal) (value : T) (result : Result U DeskFault)
    → WhereTold k (λ h. decks ≡ decks_in h.rows) → AnswersBy (tests decks) (Ok value) → WhereTold k (λ h. AnswersBy (others decks h.rows) result)
    → WhereTold k (λ h. AnswersBy (OrElse (tests (decks_in h.rows)) (others (decks_in h.rows) h.rows)) result)
decks_pass_tests k decks tests others value result held passes =
    where_told-both k (λ h. decks ≡ decks_in h.rows) (λ h. AnswersBy (others decks h.rows) result) (λ h. AnswersBy (OrElse (tests (decks_in h.rows)) (others (decks_in h.rows) h.rows)) result)
    (λ h is answers. subst (λ (ds : List Deck). AnswersBy (OrElse (tests ds) (others ds h.rows)) result) is (passed_first (tests decks) (others decks h.rows) value result passes answers)) held

-- ---- what it leaves
pub add_done : (k now : Keeping) (at : ℤ) (path : List ℕ) (made : List Deck) (id : ℤ) (o : Overlay) (steps left : List Step) → WhereTold k (AreAddedIn at path made)
    → o ≡ decks_over made unchanged → id ≡ id_of_last (pos 0) made → FinishedBy at o k now steps left → DoesAdd at path k now steps left id
add_done k now at path made id o steps left are over last =
    where_held-both k (λ c. AreAdded at path c.rows made) (λ c. IsFinished at c (edit_of o c) k now steps left) (λ c. IsAdded at path c k now steps left id)
    (λ c added finished. record {
      made = made;
      are = added;
      id = last;
      done = subst (λ (e : Edit). IsFinished at c e k now steps left) (ap (λ (p : Overlay). edit_of p c) over ∙ addition_asked made c) finished;
    }) (where_rows_held k (λ rows. AreAdded at path rows made) are)

-- ---- what it answers
-- what is known before the end
record IsReady (at : ℤ) (path : List ℕ) (made : List Deck) (c : Collection) : Type 0 where
  are : AreAdded at path c.rows made
  tests : AnswersBy {T = List Deck} (RefusesToAdd at path c.rows) (Ok made)
  rightly : IsHeldRightly c

ready : (k : Keeping) (at : ℤ) (path : List ℕ) (made : List Deck) → WhereTold k (AreAddedIn at path made) → WhereTold k (λ h. AnswersBy {T = List Deck} (RefusesToAdd at path h.rows) (Ok made))
    → WhereHeld k IsHeldRightly → WhereHeld k (IsReady at path made)
ready k at path made are tests rightly =
    where_held-both k (λ c. AreAdded at path c.rows made × AnswersBy {T = List Deck} (RefusesToAdd at path c.rows) (Ok made)) IsHeldRightly (IsReady at path made)
    (λ c both one. record { are = both.0; tests = both.1; rightly = one })
    (where_rows_held k (λ rows. AreAdded at path rows made × AnswersBy {T = List Deck} (RefusesToAdd at path rows) (Ok made))
    (where_told-both k (AreAddedIn at path made) (λ h. AnswersBy {T = List Deck} (RefusesToAdd at path h.rows) (Ok made))
    (λ h. AreAdded at path h.rows made × AnswersBy {T = List Deck} (RefusesToAdd at path h.rows) (Ok made)) (λ h one other. (one, other)) are tests)) rightly

-- the test of the stamps is that of the decks that are made
stamp_answer : {T : Type 0} (at : ℤ) (path : List ℕ) (made : List Deck) (result : Result T DeskFault) (c : Collection) → AreAdded at path c.rows made
    → AnswersBy (RefusesStamp at c (addition made c)) result → AnswersBy (RefusesAddedStamp at path c) result
stamp_answer at path made (Ok value) c are answers = record {
  accepted = λ fault refuses. answers.accepted fault
      (subst (λ (ds : List Deck). RefusesStamp at c (addition ds c) fault) (decks_once at (added_paths (decks_in c.rows) path) c.rows refuses.0 made refuses.1 are) refuses.2);
  refused = tt;
}
stamp_answer at path made (Err fault) c are answers = record {
  accepted = tt;
  refused = elim answers.refused [ inl outside ↦ inl outside | inr refuses ↦ inr (made, are, refuses) ];
}

end_answer : {T : Type 0} (at : ℤ) (path : List ℕ) (made : List Deck) (o : Overlay) (result : Result T DeskFault) (c : Collection) → o ≡ decks_over made unchanged → IsReady at path made c
    → AnswersBy (RefusesEnd at c (edit_of o c)) result → AnswersBy (RefusesAddition at path c) result
end_answer at path made o result c over is answers =
    let short : length path ≤ 512 = short_path path (given_path path (RefusesToMake at path c.rows) made is.tests) in
    let all = decks_pass at (added_paths (decks_in c.rows) path) c.rows made (added_short 512 (decks_in c.rows) path short) is.are in
    passed_first (RefusesToAdd at path c.rows) (RefusesAddedStamp at path c) made result is.tests
    (stamp_answer at path made result c is.are
    (never_first (RefusesRow c (addition made c)) (RefusesStamp at c (addition made c)) result (λ fault. addition_rows c made fault is.rightly.checked all)
    (subst (λ (e : Edit). AnswersBy (RefusesEnd at c e) result) (ap (λ (p : Overlay). edit_of p c) over ∙ addition_asked made c) answers)))

-- the end of the edit refuses
pub add_refused : (k : Keeping) (at : ℤ) (path : List ℕ) (made : List Deck) (o : Overlay) (fault : DeskFault) → o ≡ decks_over made unchanged → WhereTold k (AreAddedIn at path made)
    → WhereTold k (λ h. AnswersBy {T = List Deck} (RefusesToAdd at path h.rows) (Ok made)) → WhereHeld k IsHeldRightly → AnswersEnd {T = Unit {0}} at o k (Err fault)
    → WhereHeld k (λ c. AnswersBy {T = ℤ} (RefusesAddition at path c) (Err fault))
add_refused k at path made o fault over are tests rightly =
    where_held-both k (IsReady at path made) (λ c. AnswersBy {T = Unit {0}} (RefusesEnd at c (edit_of o c)) (Err fault)) (λ c. AnswersBy {T = ℤ} (RefusesAddition at path c) (Err fault))
    (λ c is answers. end_answer {T = ℤ} at path made o (Err fault) c over is (other_refusal (RefusesEnd at c (edit_of o c)) fault answers))
    (ready k at path made are tests rightly)

-- nothing refuses
pub add_accepted : (k : Keeping) (at : ℤ) (path : List ℕ) (made : List Deck) (id : ℤ) (o : Overlay) (value : Unit {0}) → o ≡ decks_over made unchanged → WhereTold k (AreAddedIn at path made)
    → WhereTold k (λ h. AnswersBy {T = List Deck} (RefusesToAdd at path h.rows) (Ok made)) → WhereHeld k IsHeldRightly → AnswersEnd {T = Unit {0}} at o k (Ok value)
    → WhereHeld k (λ c. AnswersBy {T = ℤ} (RefusesAddition at path c) (Ok id))
add_accepted k at path made id o value over are tests rightly =
    where_held-both k (IsReady at path made) (λ c. AnswersBy {T = Unit {0}} (RefusesEnd at c (edit_of o c)) (Ok value)) (λ c. AnswersBy {T = ℤ} (RefusesAddition at path c) (Ok id))
    (λ c is answers. end_answer {T = ℤ} at path made o (Ok id) c over is (other_answer (RefusesEnd at c (edit_of o c)) value id answers))
    (ready k at path made are tests rightly)

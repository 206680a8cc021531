-- A deck that is renamed: what it leaves, and when it is refused.
use Rattle.std.specs.Prelude.{◌≡◌, ℕ, ℤ, List, [], Option, Some, Result, Ok, Err}
use Rattle.std.proofs.Common.{sym, ap, subst, inl, inr, ◌∙◌}
use Rattle.std.specs.FinMap.{get}
use Rattle.std.specs.Option.{option_map_or}
use Rattle.ak_base.specs.declared.decks.Deck.{Deck}
use Rattle.ak_base.specs.declared.names.Table.TheVariants as tables
use Rattle.ak_base.specs.declared.rows.Row.{Row}
use Rattle.ak_edit_calls.proofs.Answering.{passed_first}
use Rattle.ak_edit_calls.proofs.Telling.{where_held-both, where_rows_held, where_told-both}
use Rattle.ak_edit_calls.specs.Calls.{RefusesAbsent}
use Rattle.ak_edit.specs.Ends.{AnswersEnd, FinishedBy, IsFinished, IsHeldRightly, RefusesEnd}
use Rattle.ak_edit.specs.Overlays.{Overlay, edit_of, unchanged}
use Rattle.ak_edit.specs.Refusals.{AnswersBy}
use Rattle.ak_edit.specs.declared.desk_faults.DeskFault.{DeskFault}
use Rattle.ak_keep.proofs.Told.{where_told-map}
use Rattle.ak_keep.specs.Collections.{Collection, Rows}
use Rattle.ak_keep.specs.Keepers.{Keeping, WhereHeld, WhereTold}
use Rattle.ak_merge.specs.Edits.{Edit}
use Rattle.ak_merge.specs.Holdings.{name_in, row_under}
use Rattle.ak_deck_paths.proofs.AddedDecks.{decks_pass_tests, decks_refuse}
use Rattle.ak_deck_paths.proofs.Ending.{other_answer, other_refusal}
use Rattle.ak_deck_paths.proofs.MakingDecks.{decks_once}
use Rattle.ak_deck_paths.proofs.MovedDecks.{renaming_asked}
use Rattle.ak_deck_paths.specs.ChangedDecks.{changed_over, decks_over}
use Rattle.ak_keep.specs.Lookups.{decks_in}
use Rattle.ak_deck_paths.specs.DeckPaths.{missing_above}
use Rattle.ak_edit_calls.specs.DeckPaths.{path_at, path_of}
use Rattle.ak_deck_paths.specs.NewDecks.{RefusesIds}
use Rattle.ak_deck_paths.specs.Renames.{AreMadeAbove, DoesMove, IsChanged, IsChangedIn, IsMoved, RefusesChanged, RefusesOld, RefusesPaths, RefusesRename, RefusesToChange, RefusesToMove, renaming}
use Rattle.ak_deck_paths.specs.declared.changed_decks.ChangedDecks.{ChangedDecks}
use Rattle.ak_undo.specs.declared.steps.Step.{Step}

-- ---- what is read
-- the tests of paths pass, and what is answered for ids is answered
pub move_passes : (k : Keeping) (at id : ℤ) (old new : List ℕ) (decks made : List Deck) (changed : ChangedDecks) (value : Unit {0}) → WhereTold k (λ h. decks ≡ decks_in h.rows)
    → AnswersBy (RefusesPaths id old new decks) (Ok value) → WhereTold k (λ h. AnswersBy {T = List Deck} (RefusesIds at (missing_above decks new) h.rows) (Ok made))
    → WhereTold k (λ h. AnswersBy {T = ChangedDecks} (RefusesToMove at id old new h.rows) (Ok changed))
move_passes k at id old new decks made changed value held passes ids =
    decks_pass_tests {U = ChangedDecks} k decks (RefusesPaths id old new) (λ ds rows. RefusesIds at (missing_above ds new) rows) value (Ok changed) held passes
    (where_told-map k (λ h. AnswersBy {T = List Deck} (RefusesIds at (missing_above decks new) h.rows) (Ok made)) (λ h. AnswersBy {T = ChangedDecks} (RefusesIds at (missing_above decks new) h.rows) (Ok changed))
    (λ h is. other_answer (RefusesIds at (missing_above decks new) h.rows) made changed is) ids)

pub move_lacks : (k : Keeping) (at id : ℤ) (old new : List ℕ) (decks : List Deck) (value : Unit {0}) (fault : DeskFault) → WhereTold k (λ h. decks ≡ decks_in h.rows)
    → AnswersBy (RefusesPaths id old new decks) (Ok value) → WhereTold k (λ h. AnswersBy {T = List Deck} (RefusesIds at (missing_above decks new) h.rows) (Err fault))
    → WhereTold k (λ h. AnswersBy {T = ChangedDecks} (RefusesToMove at id old new h.rows) (Err fault))
move_lacks k at id old new decks value fault held passes ids =
    decks_pass_tests {U = ChangedDecks} k decks (RefusesPaths id old new) (λ ds rows. RefusesIds at (missing_above ds new) rows) value (Err fault) held passes
    (where_told-map k (λ h. AnswersBy {T = List Deck} (RefusesIds at (missing_above decks new) h.rows) (Err fault)) (λ h. AnswersBy {T = ChangedDecks} (RefusesIds at (missing_above decks new) h.rows) (Err fault))
    (λ h is. other_refusal (RefusesIds at (missing_above decks new) h.rows) fault is) ids)

-- a test of paths refuses
pub move_in_use : (k : Keeping) (at id : ℤ) (old new : List ℕ) (decks : List Deck) (fault : DeskFault) → WhereTold k (λ h. decks ≡ decks_in h.rows)
    → AnswersBy {T = Unit {0}} (RefusesPaths id old new decks) (Err fault) → WhereTold k (λ h. AnswersBy {T = ChangedDecks} (RefusesToMove at id old new h.rows) (Err fault))
move_in_use k at id old new decks fault held answers =
    decks_refuse ChangedDecks k decks (RefusesPaths id old new) (λ ds rows. RefusesIds at (missing_above ds new) rows) fault held answers

-- ---- what it leaves
-- what is known before the end
pub record IsReady (at id : ℤ) (old new : List ℕ) (decks : ChangedDecks) (c : Collection) : Type 0 where
  pub are : IsChanged at old new c.rows decks
  pub tests : AnswersBy {T = ChangedDecks} (RefusesToChange at id old new c.rows) (Ok decks)
  pub rightly : IsHeldRightly c

pub ready : (k : Keeping) (at id : ℤ) (old new : List ℕ) (decks : ChangedDecks) → WhereTold k (IsChangedIn at old new decks)
    → WhereTold k (λ h. AnswersBy {T = ChangedDecks} (RefusesToChange at id old new h.rows) (Ok decks)) → WhereHeld k IsHeldRightly → WhereHeld k (IsReady at id old new decks)
ready k at id old new decks are tests rightly =
    where_held-both k (λ c. IsChanged at old new c.rows decks × AnswersBy {T = ChangedDecks} (RefusesToChange at id old new c.rows) (Ok decks)) IsHeldRightly (IsReady at id old new decks)
    (λ c both one. record { are = both.0; tests = both.1; rightly = one })
    (where_rows_held k (λ rows. IsChanged at old new rows decks × AnswersBy {T = ChangedDecks} (RefusesToChange at id old new rows) (Ok decks))
    (where_told-both k (IsChangedIn at old new decks) (λ h. AnswersBy {T = ChangedDecks} (RefusesToChange at id old new h.rows) (Ok decks))
    (λ h. IsChanged at old new h.rows decks × AnswersBy {T = ChangedDecks} (RefusesToChange at id old new h.rows) (Ok decks)) (λ h one other. (one, other)) are tests)) rightly

-- what the changes ask for is the rule's edit
asked : (at id : ℤ) (old new : List ℕ) (decks : ChangedDecks) (o : Overlay) (c : Collection) → o ≡ changed_over decks unchanged → IsReady at id old new decks c → edit_of o c ≡ renaming old new decks.made c
asked at id old new decks o c over is =
    ap (λ (p : Overlay). edit_of p c) (over ∙ ap (λ (ds : List Deck). decks_over decks.made (decks_over ds unchanged)) is.are.moved)
    ∙ renaming_asked old new decks.made c is.rightly.named is.rightly.checked

pub move_done : (k now : Keeping) (at id : ℤ) (old new : List ℕ) (decks : ChangedDecks) (o : Overlay) (steps left : List Step) → WhereHeld k (IsReady at id old new decks) → o ≡ changed_over decks unchanged
    → FinishedBy at o k now steps left → DoesMove at old new k now steps left
move_done k now at id old new decks o steps left is over =
    where_held-both k (IsReady at id old new decks) (λ c. IsFinished at c (edit_of o c) k now steps left) (λ c. IsMoved at old new c k now steps left)
    (λ c ready finished. record {
      made = decks.made;
      are = ready.are.made;
      done = subst (λ (e : Edit). IsFinished at c e k now steps left) (asked at id old new decks o c over ready) finished;
    }) is

-- ---- what it answers
-- the tests of what is made are those of the decks that are made
changed_answer : {T : Type 0} (at : ℤ) (old new : List ℕ) (made : List Deck) (result : Result T DeskFault) (c : Collection) → AreMadeAbove at new c.rows made
    → AnswersBy (RefusesEnd at c (renaming old new made c)) result → AnswersBy (RefusesChanged at old new c) result
changed_answer at old new made (Ok value) c are answers = record {
  accepted = λ fault refuses. answers.accepted fault
      (subst (λ (ds : List Deck). RefusesEnd at c (renaming old new ds c) fault) (decks_once at (missing_above (decks_in c.rows) new) c.rows refuses.0 made refuses.1 are) refuses.2);
  refused = tt;
}
changed_answer at old new made (Err fault) c are answers = record {
  accepted = tt;
  refused = elim answers.refused [ inl outside ↦ inl outside | inr refuses ↦ inr (made, are, refuses) ];
}

end_answer : {T : Type 0} (at id : ℤ) (old new : List ℕ) (decks : ChangedDecks) (o : Overlay) (result : Result T DeskFault) (c : Collection) → o ≡ changed_over decks unchanged → IsReady at id old new decks c
    → AnswersBy (RefusesEnd at c (edit_of o c)) result → AnswersBy (RefusesOld at id old new c) result
end_answer at id old new decks o result c over is answers =
    passed_first (RefusesToChange at id old new c.rows) (RefusesChanged at old new c) decks result is.tests
    (changed_answer at old new decks.made result c is.are.made
    (subst (λ (e : Edit). AnswersBy (RefusesEnd at c e) result) (asked at id old new decks o c over is) answers))

-- the end of the edit answers
pub move_answered : {T : Type 0} (k : Keeping) (at id : ℤ) (old new : List ℕ) (decks : ChangedDecks) (o : Overlay) (result : Result T DeskFault) → o ≡ changed_over decks unchanged
    → WhereHeld k (IsReady at id old new decks) → AnswersEnd at o k result → WhereHeld k (λ c. AnswersBy (RefusesOld at id old new c) result)
move_answered k at id old new decks o result over =
    where_held-both k (IsReady at id old new decks) (λ c. AnswersBy (RefusesEnd at c (edit_of o c)) result) (λ c. AnswersBy (RefusesOld at id old new c) result)
    (λ c is answers. end_answer at id old new decks o result c over is answers)

-- ---- of the deck's own path
path_is : (held : Rows) (id : ℤ) (row : Row) → get held (name_in tables.Deck id) ≡ Some row → path_of row ≡ path_at held id
path_is held id row is = sym (ap (λ (x : Option Row). option_map_or path_of x []) is)

root_told : (k : Keeping) (id : ℤ) (row : Row) → WhereTold k (λ h. get h.rows (name_in tables.Deck id) ≡ Some row) → WhereHeld k (λ c. path_of row ≡ path_at c.rows id)
root_told k id row held =
    where_rows_held k (λ rows. path_of row ≡ path_at rows id)
    (where_told-map k (λ h. get h.rows (name_in tables.Deck id) ≡ Some row) (λ h. path_of row ≡ path_at h.rows id) (λ h is. path_is h.rows id row is) held)

pub rename_answered : (k : Keeping) (at id : ℤ) (new : List ℕ) (row : Row) (result : Result (Unit {0}) DeskFault) → WhereTold k (λ h. get h.rows (name_in tables.Deck id) ≡ Some row)
    → WhereTold k (λ h. AnswersBy {T = Row} (RefusesAbsent (get h.rows) (name_in tables.Deck id)) (Ok row)) → WhereHeld k (λ c. AnswersBy (RefusesOld at id (path_of row) new c) result)
    → WhereHeld k (λ c. AnswersBy (RefusesRename at id new c) result)
rename_answered k at id new row result held passes =
    where_held-both k (λ c. (path_of row ≡ path_at c.rows id) × AnswersBy {T = Row} (RefusesAbsent (row_under c) (name_in tables.Deck id)) (Ok row))
    (λ c. AnswersBy (RefusesOld at id (path_of row) new c) result) (λ c. AnswersBy (RefusesRename at id new c) result)
    (λ c both answers. passed_first (RefusesAbsent (row_under c) (name_in tables.Deck id)) (RefusesOld at id (path_at c.rows id) new c) row result both.1
    (subst (λ (path : List ℕ). AnswersBy (RefusesOld at id path new c) result) both.0 answers))
    (where_held-both k (λ c. path_of row ≡ path_at c.rows id) (λ c. AnswersBy {T = Row} (RefusesAbsent (row_under c) (name_in tables.Deck id)) (Ok row))
    (λ c. (path_of row ≡ path_at c.rows id) × AnswersBy {T = Row} (RefusesAbsent (row_under c) (name_in tables.Deck id)) (Ok row)) (λ c one other. (one, other)) (root_told k id row held)
    (where_rows_held k (λ rows. AnswersBy {T = Row} (RefusesAbsent (get rows) (name_in tables.Deck id)) (Ok row)) passes))

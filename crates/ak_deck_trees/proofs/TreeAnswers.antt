-- What the call answers and leaves, of its parts.
use Rattle.std.specs.Prelude.{◌≡◌, ◌⊎◌, ℕ, ℤ, pos, ◌+◌, ◌<◌, true, false, List, [], ◌∷◌, ◌++◌, length, get_or, drop, if◌then◌else◌, Option, Some, Result, Ok, Err, OnOk, IfErr}
use Rattle.std.proofs.Common.{refl, sym, ap, subst, ◌∙◌, inl, inr}
use Rattle.std.proofs.lemmas.List.{at_drop_more}
use Rattle.std.specs.FinMap.{get}
use Rattle.std.specs.Option.{option_map_or}
use Rattle.ak_base.specs.declared.names.Table.{Table}
use Rattle.ak_base.specs.declared.names.Table.TheVariants as tables
use Rattle.ak_base.specs.declared.rows.Row.{Row}
use Rattle.ak_edit_calls.proofs.Answering.{never_first, on_ok-map, passed_first}
use Rattle.ak_edit_calls.proofs.Telling.{where_held-both, where_rows_held, where_told-both}
use Rattle.ak_edit_calls.specs.Calls.{DoesEdit, EndsEdit, IsMissingFault, RefusesAbsent}
use Rattle.ak_deck_trees.proofs.SweptRows.{swept-append}
use Rattle.ak_deck_trees.proofs.TreeRules.{tree_deletion_of, tree_deletion_rows}
use Rattle.ak_deck_trees.specs.DeckDeletions.{IsDeckDeletionFault, IsTreeDeletionFault, RefusesDeckDeletion, RefusesDefault, RefusesTreeDeletion, deck_deletion, swept, swept_one, tree_deletion, without_rows_of, without_tree}
use Rattle.ak_deck_trees.specs.Trees.{goes_with}
use Rattle.ak_edit_calls.specs.DeckPaths.{path_at, path_of}
use Rattle.ak_edit.specs.Ends.{AnswersEnd, FinishedBy, IsFinished, IsHeldRightly, RefusesEnd, RefusesRow, RefusesStamp}
use Rattle.ak_edit.specs.Overlays.{Overlay, edit_of, unchanged}
use Rattle.ak_edit.specs.Refusals.{AnswersBy, IsEndFault}
use Rattle.ak_edit.specs.declared.desk_faults.DeskFault.{DeskFault}
use Rattle.ak_keep.proofs.Told.{where_told-map}
use Rattle.ak_keep.specs.Collections.{Collection, Rows, rows_past}
use Rattle.ak_keep.specs.Keepers.{Keeping, WhereHeld, WhereTold}
use Rattle.ak_keep.specs.Walks.{ahead}
use Rattle.ak_keep.specs.declared.walks.Walk.{Walk}
use Rattle.ak_merge.specs.Edits.{Edit}
use Rattle.ak_merge.specs.Holdings.{name_in, row_under}
use Rattle.ak_undo.specs.declared.steps.Step.{Step}

-- ---- the loop over the rows of a page
pub swept_more : (k : Keeping) (root : List ℕ) (among : List Row) (i : ℕ) (row : Row) (first so_far now : Overlay) → i < length among
    → WhereTold k (λ h. swept (goes_with root h.rows) (drop i among) so_far ≡ swept (goes_with root h.rows) among first)
    → WhereTold k (λ h. now ≡ swept_one (goes_with root h.rows) (get_or among i row) so_far)
    → WhereTold k (λ h. swept (goes_with root h.rows) (drop (i + 1) among) now ≡ swept (goes_with root h.rows) among first)
swept_more k root among i row first so_far now within =
    where_told-both k (λ h. swept (goes_with root h.rows) (drop i among) so_far ≡ swept (goes_with root h.rows) among first)
    (λ h. now ≡ swept_one (goes_with root h.rows) (get_or among i row) so_far)
    (λ h. swept (goes_with root h.rows) (drop (i + 1) among) now ≡ swept (goes_with root h.rows) among first)
    (λ h leads is. ap (swept (goes_with root h.rows) (drop (i + 1) among)) is
    ∙ sym (at_drop_more (λ (rows : List Row). swept (goes_with root h.rows) rows so_far) among i row within) ∙ leads)

-- ---- the loop over the pages
-- what the rows ahead make of the changes so far is what all rows of the table make of those at first
abbrev pub LeadsOn : List ℕ → Table → Walk → Overlay → Overlay → Rows → Type 0
LeadsOn root table walk so_far first held = swept (goes_with root held) (ahead walk held) so_far ≡ without_rows_of root table held first

pub page_swept : (k : Keeping) (root : List ℕ) (table : Table) (walk next : Walk) (page : List Row) (first so_far now : Overlay)
    → WhereTold k (λ h. LeadsOn root table walk so_far first h.rows) → WhereTold k (λ h. ahead walk h.rows ≡ page ++ ahead next h.rows)
    → WhereTold k (λ h. now ≡ swept (goes_with root h.rows) page so_far) → WhereTold k (λ h. LeadsOn root table next now first h.rows)
page_swept k root table walk next page first so_far now leads turns is =
    where_told-both k (λ h. LeadsOn root table walk so_far first h.rows × (ahead walk h.rows ≡ page ++ ahead next h.rows)) (λ h. now ≡ swept (goes_with root h.rows) page so_far)
    (λ h. LeadsOn root table next now first h.rows)
    (λ h both this. ap (swept (goes_with root h.rows) (ahead next h.rows)) this ∙ sym (swept-append (goes_with root h.rows) page (ahead next h.rows) so_far)
    ∙ ap (λ (rows : List Row). swept (goes_with root h.rows) rows so_far) (sym both.1) ∙ both.0)
    (where_told-both k (λ h. LeadsOn root table walk so_far first h.rows) (λ h. ahead walk h.rows ≡ page ++ ahead next h.rows)
    (λ h. LeadsOn root table walk so_far first h.rows × (ahead walk h.rows ≡ page ++ ahead next h.rows)) (λ h one other. (one, other)) leads turns) is

-- no rows are ahead at the end
walk_ended : (root : List ℕ) (table : Table) (walk : Walk) (first now : Overlay) (held : Rows) → walk.done ≡ true → LeadsOn root table walk now first held
    → now ≡ without_rows_of root table held first
walk_ended root table walk first now held done leads =
    sym (ap (λ b. swept (goes_with root held) (if b then [] else rows_past walk.past.table walk.past.id held) now) done) ∙ leads

pub pages_swept : (k : Keeping) (root : List ℕ) (table : Table) (walk : Walk) (first now : Overlay) → walk.done ≡ true
    → WhereTold k (λ h. LeadsOn root table walk now first h.rows) → WhereTold k (λ h. now ≡ without_rows_of root table h.rows first)
pages_swept k root table walk first now done =
    where_told-map k (λ h. LeadsOn root table walk now first h.rows) (λ h. now ≡ without_rows_of root table h.rows first) (λ h leads. walk_ended root table walk first now h.rows done leads)

-- ---- three tables one after the other
pub tree_swept : (k : Keeping) (root : List ℕ) (first decks cards notes : Overlay)
    → WhereTold k (λ h. decks ≡ without_rows_of root tables.Deck h.rows first) → WhereTold k (λ h. cards ≡ without_rows_of root tables.Card h.rows decks)
    → WhereTold k (λ h. notes ≡ without_rows_of root tables.Note h.rows cards) → WhereTold k (λ h. notes ≡ without_tree root h.rows first)
tree_swept k root first decks cards notes one two three =
    where_told-both k (λ h. cards ≡ without_rows_of root tables.Card h.rows (without_rows_of root tables.Deck h.rows first)) (λ h. notes ≡ without_rows_of root tables.Note h.rows cards)
    (λ h. notes ≡ without_tree root h.rows first)
    (λ h so_far is. is ∙ ap (without_rows_of root tables.Note h.rows) so_far)
    (where_told-both k (λ h. decks ≡ without_rows_of root tables.Deck h.rows first) (λ h. cards ≡ without_rows_of root tables.Card h.rows decks)
    (λ h. cards ≡ without_rows_of root tables.Card h.rows (without_rows_of root tables.Deck h.rows first))
    (λ h so_far is. is ∙ ap (without_rows_of root tables.Card h.rows) so_far) one two) three

-- ---- the end of the edit of a path
tree_done : (k now : Keeping) (at : ℤ) (root : List ℕ) (o : Overlay) (steps left : List Step) → WhereHeld k IsHeldRightly
    → WhereTold k (λ h. o ≡ without_tree root h.rows unchanged) → FinishedBy at o k now steps left → DoesEdit at (tree_deletion root) k now steps left
tree_done k now at root o steps left rightly removed =
    where_held-both k (λ c. IsHeldRightly c × (o ≡ without_tree root c.rows unchanged)) (λ c. IsFinished at c (edit_of o c) k now steps left)
    (λ c. IsFinished at c (tree_deletion root c) k now steps left)
    (λ c both finished. subst (λ (e : Edit). IsFinished at c e k now steps left) (tree_deletion_of c root o both.0.named both.0.checked both.1) finished)
    (where_held-both k IsHeldRightly (λ c. o ≡ without_tree root c.rows unchanged) (λ c. IsHeldRightly c × (o ≡ without_tree root c.rows unchanged)) (λ c one other. (one, other)) rightly
    (where_rows_held k (λ held. o ≡ without_tree root held unchanged) removed))

-- what was found before the end
record IsReady (root : List ℕ) (o : Overlay) (value : Unit {0}) (c : Collection) : Type 0 where
  rightly : IsHeldRightly c
  removed : o ≡ without_tree root c.rows unchanged
  passes : AnswersBy {T = Unit {0}} (RefusesDefault root c.rows) (Ok value)

tree_answers : (at : ℤ) (root : List ℕ) (o : Overlay) (value : Unit {0}) (result : Result (Unit {0}) DeskFault) (c : Collection) → IsReady root o value c
    → AnswersBy (RefusesEnd at c (edit_of o c)) result → AnswersBy (RefusesTreeDeletion at root c) result
tree_answers at root o value result c ready answers =
    let edit : Edit = tree_deletion root c in
    passed_first (RefusesDefault root c.rows) (RefusesStamp at c edit) value result ready.passes
    (never_first (RefusesRow c edit) (RefusesStamp at c edit) result (λ fault. tree_deletion_rows c root fault ready.rightly.checked)
    (subst (λ (e : Edit). AnswersBy (RefusesEnd at c e) result) (tree_deletion_of c root o ready.rightly.named ready.rightly.checked ready.removed) answers))

tree_answered : (k : Keeping) (at : ℤ) (root : List ℕ) (o : Overlay) (value : Unit {0}) (result : Result (Unit {0}) DeskFault) → WhereHeld k IsHeldRightly
    → WhereTold k (λ h. o ≡ without_tree root h.rows unchanged) → WhereTold k (λ h. AnswersBy {T = Unit {0}} (RefusesDefault root h.rows) (Ok value))
    → AnswersEnd at o k result → WhereHeld k (λ c. AnswersBy (RefusesTreeDeletion at root c) result)
tree_answered k at root o value result rightly removed passes =
    where_held-both k (IsReady root o value) (λ c. AnswersBy (RefusesEnd at c (edit_of o c)) result) (λ c. AnswersBy (RefusesTreeDeletion at root c) result)
    (λ c ready answers. tree_answers at root o value result c ready answers)
    (where_held-both k IsHeldRightly (λ c. (o ≡ without_tree root c.rows unchanged) × AnswersBy {T = Unit {0}} (RefusesDefault root c.rows) (Ok value)) (IsReady root o value)
    (λ c one both. record { rightly = one; removed = both.0; passes = both.1 }) rightly
    (where_rows_held k (λ held. (o ≡ without_tree root held unchanged) × AnswersBy {T = Unit {0}} (RefusesDefault root held) (Ok value))
    (where_told-both k (λ h. o ≡ without_tree root h.rows unchanged) (λ h. AnswersBy {T = Unit {0}} (RefusesDefault root h.rows) (Ok value))
    (λ h. (o ≡ without_tree root h.rows unchanged) × AnswersBy {T = Unit {0}} (RefusesDefault root h.rows) (Ok value)) (λ h one other. (one, other)) removed passes)))

pub tree_ended : (k now : Keeping) (at : ℤ) (root : List ℕ) (o : Overlay) (steps left : List Step) (value : Unit {0}) (result : Result (Unit {0}) DeskFault) → WhereHeld k IsHeldRightly
    → WhereTold k (λ h. o ≡ without_tree root h.rows unchanged) → WhereTold k (λ h. AnswersBy {T = Unit {0}} (RefusesDefault root h.rows) (Ok value))
    → OnOk result (FinishedBy at o k now steps left) → AnswersEnd at o k result
    → OnOk result (DoesEdit at (tree_deletion root) k now steps left) × WhereHeld k (λ c. AnswersBy (RefusesTreeDeletion at root c) result)
tree_ended k now at root o steps left value result rightly removed passes finished answers = (
  on_ok-map result (FinishedBy at o k now steps left) (DoesEdit at (tree_deletion root) k now steps left) (tree_done k now at root o steps left rightly removed) finished,
  tree_answered k at root o value result rightly removed passes answers,
)

-- ---- the end of the call, by that of the edit of the deck's path
path_is : (held : Rows) (deck : ℤ) (row : Row) → get held (name_in tables.Deck deck) ≡ Some row → path_of row ≡ path_at held deck
path_is held deck row is = sym (ap (λ (x : Option Row). option_map_or path_of x []) is)

pub deck_ended : (k now : Keeping) (at deck : ℤ) (row : Row) (steps left : List Step) (result : Result (Unit {0}) DeskFault)
    → WhereTold k (λ h. get h.rows (name_in tables.Deck deck) ≡ Some row)
    → WhereTold k (λ h. AnswersBy {T = Row} (RefusesAbsent (get h.rows) (name_in tables.Deck deck)) (Ok row))
    → EndsEdit at (tree_deletion (path_of row)) (RefusesTreeDeletion at (path_of row)) k now steps left result
    → EndsEdit at (deck_deletion deck) (RefusesDeckDeletion at deck) k now steps left result
deck_ended k now at deck row steps left result held passes ends =
    let root_told : WhereHeld k (λ c. path_of row ≡ path_at c.rows deck) =
    where_rows_held k (λ rows. path_of row ≡ path_at rows deck)
    (where_told-map k (λ h. get h.rows (name_in tables.Deck deck) ≡ Some row) (λ h. path_of row ≡ path_at h.rows deck) (λ h is. path_is h.rows deck row is) held) in
    record {
      done = on_ok-map result (DoesEdit at (tree_deletion (path_of row)) k now steps left) (DoesEdit at (deck_deletion deck) k now steps left)
          (where_held-both k (λ c. path_of row ≡ path_at c.rows deck) (λ c. IsFinished at c (tree_deletion (path_of row) c) k now steps left) (λ c. IsFinished at c (deck_deletion deck c) k now steps left)
          (λ c is finished. subst (λ (path : List ℕ). IsFinished at c (tree_deletion path c) k now steps left) is finished) root_told) ends.done;
      same = ends.same;
      kept = ends.kept;
      stays = ends.stays;
      answers = where_held-both k (λ c. (path_of row ≡ path_at c.rows deck) × AnswersBy {T = Row} (RefusesAbsent (row_under c) (name_in tables.Deck deck)) (Ok row))
          (λ c. AnswersBy (RefusesTreeDeletion at (path_of row) c) result) (λ c. AnswersBy (RefusesDeckDeletion at deck c) result)
          (λ c both answers. passed_first (RefusesAbsent (row_under c) (name_in tables.Deck deck)) (RefusesTreeDeletion at (path_at c.rows deck) c) row result both.1
          (subst (λ (path : List ℕ). AnswersBy (RefusesTreeDeletion at path c) result) both.0 answers))
          (where_held-both k (λ c. path_of row ≡ path_at c.rows deck) (λ c. AnswersBy {T = Row} (RefusesAbsent (row_under c) (name_in tables.Deck deck)) (Ok row))
          (λ c. (path_of row ≡ path_at c.rows deck) × AnswersBy {T = Row} (RefusesAbsent (row_under c) (name_in tables.Deck deck)) (Ok row)) (λ c one other. (one, other)) root_told
          (where_rows_held k (λ rows. AnswersBy {T = Row} (RefusesAbsent (get rows) (name_in tables.Deck deck)) (Ok row)) passes))
          ends.answers;
    }

-- ---- what it may answer
pub tree_listed : (result : Result (Unit {0}) DeskFault) → IfErr result IsEndFault → IfErr result IsTreeDeletionFault
tree_listed (Ok value) listed = tt
tree_listed (Err fault) listed = inr listed

pub deck_listed : (result : Result (Unit {0}) DeskFault) → IfErr result IsTreeDeletionFault → IfErr result IsDeckDeletionFault
deck_listed (Ok value) listed = tt
deck_listed (Err fault) listed = inr listed

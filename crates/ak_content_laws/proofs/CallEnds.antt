-- Each call on notes, types, cards, decks, options and filtered decks keeps that a keeper holds a sound collection.
use Rattle.std.specs.Prelude.{◌≡◌, ◌⊎◌, ℕ, ℤ, pos, Bool, true, false, List, [], ◌∷◌, Result, Ok, Err}
use Rattle.std.proofs.Common.{inl, inr, refl}
use Rattle.ak_away_answers.specs.AwayAnswers.{EndsAnswer, EndsAnyAnswer, EndsAway, EndsEarly, EndsFromHome, IsRefusedAsWas}
use Rattle.ak_away_answers.specs.EarlyAnswers.{early_edit}
use Rattle.ak_base.specs.declared.cards.Card.{Card}
use Rattle.ak_base.specs.declared.days.Day.{Day}
use Rattle.ak_base.specs.declared.decks.Deck.{Deck}
use Rattle.ak_base.specs.declared.names.Table.TheVariants as tables
use Rattle.ak_base.specs.declared.note_types.NoteType.{NoteType}
use Rattle.ak_base.specs.declared.option_groups.Options.{Options}
use Rattle.ak_edit_calls.specs.Additions.{EndsAddition, IsNewRow}
use Rattle.ak_edit_calls.specs.Calls.{RefusesAbsent, RefusesSchema}
use Rattle.ak_deck_paths.specs.Additions.{IsAdded as IsAddedDeck, addition}
use Rattle.ak_deck_paths.specs.Renames.{IsMoved, renaming}
use Rattle.ak_deck_trees.specs.DeckDeletions.{deck_deletion}
use Rattle.ak_edit_calls.specs.DeckPaths.{path_at}
use Rattle.ak_edit.specs.Ends.{IsFinished}
use Rattle.ak_edit.specs.Refusals.{AnswersBy, IsFromOutside, Refusal}
use Rattle.ak_edit.specs.Undos.{IsLatestUndone, UndoneBy}
use Rattle.ak_edit.specs.declared.desk_faults.DeskFault.{DeskFault}
use Rattle.ak_edit.specs.declared.desk_faults.DeskFault.TheVariants as faults
use Rattle.ak_filtered.specs.Builds.{IsBuilt, building}
use Rattle.ak_filtered.specs.ClearedEdits.{IsCleared}
use Rattle.ak_filtered.specs.Emptyings.{AreEmptied, EndsEmptied, IsCutOff, IsEmptied, IsStopped, RefusesEmptying, emptying}
use Rattle.ak_filtered.specs.HomeDecks.{sending_home}
use Rattle.ak_filtered.specs.HomeGoings.{EndsSending}
use Rattle.ak_filtered.specs.MadeDecks.{IsMade}
use Rattle.ak_filtered.specs.declared.deck_makings.NewFiltered.{NewFiltered}
use Rattle.ak_keep.specs.Collections.{Collection}
use Rattle.ak_keep.specs.Keepers.{Keeping, WhereHeld}
use Rattle.ak_merge.specs.Edits.{Edit}
use Rattle.ak_merge.specs.EditBuilding.{unedited}
use Rattle.ak_merge.specs.Holdings.{AreNamed, name_in, row_under}
use Rattle.ak_notes.specs.Additions.{IsAdded}
use Rattle.ak_notes.specs.Deletions.{deletion}
use Rattle.ak_notes.specs.MadeNotes.{made_edit}
use Rattle.ak_notes.specs.NoteEdits.{IsNoteEdited}
use Rattle.ak_notes.specs.declared.additions.Added.{Added}
use Rattle.ak_notes.specs.declared.additions.NewNote.{NewNote}
use Rattle.ak_notes.specs.declared.note_edits.NoteEdit.{NoteEdit}
use Rattle.ak_options.specs.OptionGroups.{given_group, options_addition}
use Rattle.ak_study.specs.Answers.{IsAnswered, answer_edit}
use Rattle.ak_study.specs.DayStarts.{HasStarted, day_start}
use Rattle.ak_study.specs.declared.answers.CardAnswer.{CardAnswer}
use Rattle.ak_types.specs.GivenTypes.{RefusesGiven, RefusesUsed, as_given, has_notes, with_id}
use Rattle.ak_types.specs.TypeAdditions.{RefusesNewType, RefusesTypeAddition, given_addition, given_type}
use Rattle.ak_types.specs.TypeDeletions.{RefusesDeletion, RefusesKept, type_deletion}
use Rattle.ak_types.specs.TypeEdits.{DoesEditType, IsTypeEdited, RefusesTypeEdit, retyping}
use Rattle.ak_types.specs.declared.type_edits.TypeEdit.{TypeEdit}
use Rattle.ak_undo.specs.declared.steps.Step.{Step}
use Rattle.ak_content_laws.proofs.CardCalls.{addition_alike, answer_alike, building_alike, day_alike, early_alike, emptying_alike, group_alike, home_alike, renaming_alike}
use Rattle.ak_content_laws.proofs.Keepings.{AsksSound, cleared_keeps, ends_keeps, finished_keeps, same_keeps, sound_held, undone_keeps, where_told}
use Rattle.ak_content_laws.proofs.NewCards.{free_none}
use Rattle.ak_content_laws.proofs.NoteCalls.{addition_sound, deletion_sound, note_edit_sound}
use Rattle.ak_content_laws.proofs.Shapes.{AreAlike, whole_alike}
use Rattle.ak_content_laws.proofs.TreeCalls.{tree_deletion_sound}
use Rattle.ak_content_laws.proofs.Passing.{first_passes, others_pass}
use Rattle.ak_content_laws.proofs.TypeEdits.{retyping_sound}
use Rattle.ak_content_laws.proofs.TypeRows.{given_templates, gone_type_sound, new_type_sound}
use Rattle.ak_content_laws.specs.SoundCalls.{EndsOrStays, HoldsSound}

-- ---- edits that leave notes, cards and types alike
pub alike_keeps : (at : ℤ) (edit : Edit) (before now : Keeping) (steps left : List Step) (held : HoldsSound before steps) → AreAlike (row_under held.c) edit.rows → IsFinished at held.c edit before now steps left
    → HoldsSound now left
alike_keeps at edit before now steps left held like done =
    finished_keeps at edit before now steps left held done (whole_alike (row_under held.c) edit.rows like (sound_held before steps held))

abbrev alike_clears : (at : ℤ) (edit : Edit) (before now : Keeping) (steps left : List Step) (held : HoldsSound before steps) → AreAlike (row_under held.c) edit.rows → IsCleared at held.c edit before now left
    → HoldsSound now left
alike_clears at edit before now steps left held like done =
    cleared_keeps at edit before now steps left held done (whole_alike (row_under held.c) edit.rows like (sound_held before steps held))

-- a rule that leaves them alike, whatever its tests are
pub asks_alike : (rule : Collection → Edit) (tests : Collection → Refusal) → ((c : Collection) → AreNamed (row_under c) → AreAlike (row_under c) (rule c).rows) → AsksSound rule tests
asks_alike rule tests like c named passes whole = whole_alike (row_under c) (rule c).rows (like c named) whole

-- ---- notes
pub note_added : (at : ℤ) (new : NewNote) (before now : Keeping) (steps left : List Step) (added : Added) (held : HoldsSound before steps) → IsAdded at new held.c before now steps left added → HoldsSound now left
note_added at new before now steps left added held done =
    finished_keeps at (made_edit new.tags done.made held.c) before now steps left held done.done (addition_sound at new held.c done.made done.is (sound_held before steps held))

pub note_edited : (at : ℤ) (given : NoteEdit) (before now : Keeping) (steps left : List Step) (held : HoldsSound before steps) → IsNoteEdited at given held.c before now steps left → HoldsSound now left
note_edited at given before now steps left held done =
    finished_keeps at (made_edit given.tags done.made held.c) before now steps left held done.done (note_edit_sound at given held.c done.made done.done.named done.is (sound_held before steps held))

pub asks_deletion : (notes : List ℤ) (tests : Collection → Refusal) → AsksSound (deletion notes) tests
asks_deletion notes tests c named passes whole = deletion_sound notes c named whole

-- ---- the day, and answers
pub day_started : (at : ℤ) (before now : Keeping) (steps left : List Step) (held : HoldsSound before steps) → HasStarted at held.c before now steps left → HoldsSound now left
day_started at before now steps left held done = alike_keeps at (day_start done.day held.c) before now steps left held (day_alike done.day held.c) done.finished

pub card_answered : (at : ℤ) (given : CardAnswer) (before now : Keeping) (steps left : List Step) (made : Card) (held : HoldsSound before steps) → IsAnswered at given held.c before now steps left made → HoldsSound now left
card_answered at given before now steps left made held done =
    alike_keeps at (answer_edit done.day done.answering held.c) before now steps left held (answer_alike at given held.c before now steps left made done) done.finished

answer_ended : (at : ℤ) (given : CardAnswer) (before now : Keeping) (steps left : List Step) (result : Result Card DeskFault) (held : HoldsSound before steps) → EndsAnswer at given held.c before now steps left result
    → HoldsSound now left
answer_ended at given before now steps left (Ok made) held ends = card_answered at given before now steps left made held ends.done
answer_ended at given before now steps left (Err fault) held ends = same_keeps before now steps left ends.same ends.kept held

early_ended : (at : ℤ) (given : CardAnswer) (day : Day) (before now : Keeping) (steps left : List Step) (result : Result Card DeskFault) (held : HoldsSound before steps) → EndsEarly at given day held.c before now steps left result
    → HoldsSound now left
early_ended at given day before now steps left (Ok made) held ends =
    alike_clears at (early_edit made ends.done.review held.c) before now steps left held (early_alike at given day held.c made ends.done.review ends.done.cleared.rightly.named ends.done.is_early) ends.done.cleared
early_ended at given day before now steps left (Err fault) held ends = same_keeps before now steps left ends.same ends.kept held

refused_as_was : (before now : Keeping) (steps left : List Step) (result : Result Card DeskFault) (tests : Refusal) → HoldsSound before steps → IsRefusedAsWas before now steps left result tests → HoldsSound now left
refused_as_was before now steps left result tests held refused = same_keeps before now steps left refused.same refused.kept held

-- cards that went home
abbrev pub sent_home : (at : ℤ) (cards : List ℤ) (before now : Keeping) (steps left : List Step) (held : HoldsSound before steps) → IsCleared at held.c (sending_home cards held.c) before now left → HoldsSound now left
sent_home at cards before now steps left held done = alike_clears at (sending_home cards held.c) before now steps left held (home_alike cards held.c) done

home_ended : (at : ℤ) (given : CardAnswer) (before now : Keeping) (steps left : List Step) (result : Result Card DeskFault) (held : HoldsSound before steps) → EndsFromHome at given held.c before now left result
    → HoldsSound now left
home_ended at given before now steps left result held ends =
    answer_ended at given ends.between now [] left result (sent_home at (given.card ∷ []) before ends.between steps [] held ends.home) ends.ends

away_ended : (at : ℤ) (given : CardAnswer) (day : Day) (card : Card) (before now : Keeping) (steps left : List Step) (result : Result Card DeskFault) (held : HoldsSound before steps)
    → EndsAway at given day card held.c before now steps left result → HoldsSound now left
away_ended at given day card before now steps left result held (inl early) = early_ended at given day before now steps left result held early.1
away_ended at given day card before now steps left result held (inr (_, inl refused)) = refused_as_was before now steps left result _ held refused
away_ended at given day card before now steps left result held (inr (_, inr home)) = home_ended at given before now steps left result held home

-- the answer of any card
pub any_answered : (at : ℤ) (given : CardAnswer) (before now : Keeping) (steps left : List Step) (result : Result Card DeskFault) (held : HoldsSound before steps) → EndsAnyAnswer at given held.c before now steps left result
    → HoldsSound now left
any_answered at given before now steps left result held (inl outside) = refused_as_was before now steps left result _ held outside
any_answered at given before now steps left result held (inr (inl refused)) = refused_as_was before now steps left result _ held refused.3
any_answered at given before now steps left result held (inr (inr (inl away))) = away_ended at given away.2 away.0 before now steps left result held away.4
any_answered at given before now steps left result held (inr (inr (inr home))) = answer_ended at given before now steps left result held home.1

-- ---- decks
pub deck_added : (at : ℤ) (path : List ℕ) (before now : Keeping) (steps left : List Step) (id : ℤ) (held : HoldsSound before steps) → IsAddedDeck at path held.c before now steps left id → HoldsSound now left
deck_added at path before now steps left id held done = alike_keeps at (addition done.made held.c) before now steps left held (addition_alike done.made held.c) done.done

pub deck_moved : (at : ℤ) (old new : List ℕ) (before now : Keeping) (steps left : List Step) (held : HoldsSound before steps) → IsMoved at old new held.c before now steps left → HoldsSound now left
deck_moved at old new before now steps left held done = alike_keeps at (renaming old new done.made held.c) before now steps left held (renaming_alike old new done.made held.c) done.done

pub asks_deck_deletion : (deck : ℤ) (tests : Collection → Refusal) → AsksSound (deck_deletion deck) tests
asks_deck_deletion deck tests c named passes whole = tree_deletion_sound (path_at c.rows deck) c named whole

-- ---- filtered decks
pub filtered_made : (at : ℤ) (given : NewFiltered) (before now : Keeping) (steps left : List Step) (id : ℤ) (held : HoldsSound before steps) → IsMade at given held.c before now left id → HoldsSound now left
filtered_made at given before now steps left id held done = alike_clears at (addition done.decks held.c) before now steps left held (addition_alike done.decks held.c) done.cleared

pub filtered_built : (at deck : ℤ) (before now : Keeping) (steps left : List Step) (count : ℕ) (held : HoldsSound before steps) → IsBuilt at deck held.c before now left count → HoldsSound now left
filtered_built at deck before now steps left count held done =
    alike_clears at (building deck done.chosen held.c) before now steps left held (building_alike deck done.chosen held.c) done.cleared

deck_emptied : (at deck : ℤ) (before now : Keeping) (steps left : List Step) (held : HoldsSound before steps) → IsCleared at held.c (emptying deck held.c) before now left → HoldsSound now left
deck_emptied at deck before now steps left held done = alike_clears at (emptying deck held.c) before now steps left held (emptying_alike deck held.c) done

pub filtered_emptied : (at deck : ℤ) (before now : Keeping) (steps left : List Step) (count : ℕ) (held : HoldsSound before steps) → IsEmptied at deck held.c before now left count → HoldsSound now left
filtered_emptied at deck before now steps left count held done = deck_emptied at deck before now steps left held done.cleared

-- several of them, one after the other
all_emptied : (at : ℤ) (decks : List Deck) (before now : Keeping) (steps left : List Step) → HoldsSound before steps → AreEmptied at decks before now steps left → HoldsSound now left
all_emptied at [] before now steps left held done = same_keeps before now steps left done.0 done.1 held
all_emptied at (deck ∷ decks) before now steps left held done =
    let one = where_told before held.c (λ c. IsCleared at c (emptying deck.id c) before done.0 [] × ((fault : DeskFault) → RefusesEmptying at deck.id c fault → ⊥)) held.told done.1 in
    all_emptied at decks done.0 now [] left (deck_emptied at deck.id before done.0 steps [] held one.0) done.2

pub subtree_emptied : {T : Type 0} (at : ℤ) (decks : List Deck) (before now : Keeping) (steps left : List Step) (result : Result T DeskFault) → HoldsSound before steps → EndsEmptied at decks before now steps left result → HoldsSound now left
subtree_emptied at decks before now steps left (Ok value) held ends = all_emptied at decks before now steps left held ends.done
subtree_emptied at decks before now steps left (Err fault) held ends = by ends.refused
  where
    by : ((IsFromOutside fault × IsCutOff at decks before now steps left) ⊎ IsStopped at decks before now steps left fault) → HoldsSound now left
    by (inl cut) = all_emptied at cut.1.first before now steps left held cut.1.emptied
    by (inr stopped) = all_emptied at stopped.first before now steps left held stopped.emptied

pub sending_ended : (at : ℤ) (cards : List ℤ) (before now : Keeping) (steps left : List Step) (result : Result Bool DeskFault) (held : HoldsSound before steps) → EndsSending at cards held.c before now steps left result
    → HoldsSound now left
sending_ended at cards before now steps left result held (inl none) = same_keeps before now steps left none.same none.kept held
sending_ended at cards before now steps left result held (inr (inl some)) = sent_home at cards before now steps left held some.cleared
sending_ended at cards before now steps left result held (inr (inr refused)) = same_keeps before now steps left refused.same refused.kept held

-- ---- types
pub type_added : (at : ℤ) (note_type : NoteType) (id : ℤ) (before now : Keeping) (steps left : List Step) (held : HoldsSound before steps) → ((fault : DeskFault) → RefusesTypeAddition at note_type held.c fault → ⊥)
    → IsNewRow at tables.NoteType id held.c → IsFinished at held.c (given_addition note_type id held.c) before now steps left → HoldsSound now left
type_added at note_type id before now steps left held passes new done =
    finished_keeps at (given_addition note_type id held.c) before now steps left held done
    (new_type_sound (with_id id (as_given note_type)) (unedited held.c) done.named
    (free_none (row_under held.c) (name_in tables.NoteType id) tables.NoteType refl new.free)
    (given_templates (with_id (pos 1) (as_given note_type)) (first_passes (RefusesGiven (with_id (pos 1) (as_given note_type))) (RefusesNewType at (as_given note_type) held.c) passes))
    (sound_held before steps held))

pub asks_type_deletion : (at note_type : ℤ) (allow : Bool) → AsksSound (type_deletion note_type) (RefusesDeletion at note_type allow)
asks_type_deletion at note_type allow c named passes whole =
    gone_type_sound note_type c
    (not_so (has_notes note_type c.rows) (λ used. first_passes (RefusesUsed note_type c.rows) (RefusesSchema allow)
    (first_passes (RefusesKept note_type allow c.rows) _ (others_pass (RefusesAbsent (row_under c) (name_in tables.NoteType note_type)) _ passes))
    (faults.InUse (name_in tables.NoteType note_type)) (used, refl))) whole
  where
    not_so : (b : Bool) → (b ≡ true → ⊥) → b ≡ false
    not_so true unless = absurd (unless refl)
    not_so false unless = refl

pub type_edited : (at : ℤ) (given : TypeEdit) (before now : Keeping) (steps left : List Step) (held : HoldsSound before steps) → ((fault : DeskFault) → RefusesTypeEdit at given held.c fault → ⊥)
    → IsTypeEdited at given held.c before now steps left → HoldsSound now left
type_edited at given before now steps left held passes done =
    finished_keeps at (retyping given done.old done.cards done.conf held.c) before now steps left held done.done
    (retyping_sound at given held.c done.old done.cards done.conf done.done.named done.is passes (sound_held before steps held))

-- ---- calls that were accepted or refused
pub undo_ended : (at : ℤ) (before now : Keeping) (steps left : List Step) (result : Result (Unit {0}) DeskFault) → EndsOrStays (λ _. UndoneBy at before now steps left) before now steps left result → HoldsSound before steps
    → HoldsSound now left
undo_ended at before now steps left result ends held =
    ends_keeps (λ _. UndoneBy at before now steps left) before now steps left result ends
    (λ _ _ done held. undone_keeps at before now steps left held (where_told before held.c (λ c. IsLatestUndone at c before now steps left) held.told done)) held

pub options_added : (at : ℤ) (options : Options) (before now : Keeping) (steps left : List Step) (result : Result ℤ DeskFault)
    → EndsAddition (given_group at options) before now steps left result → HoldsSound before steps → HoldsSound now left
options_added at options before now steps left (Ok id) ends held =
    alike_keeps at (options_addition options id held.c) before now steps left held (group_alike _ held.c)
    (where_told before held.c (λ c. IsFinished at c (options_addition options id c) before now steps left) held.told ends.done)
options_added at options before now steps left (Err fault) ends held = same_keeps before now steps left ends.same ends.kept held

pub types_added : (at : ℤ) (note_type : NoteType) (before now : Keeping) (steps left : List Step) (result : Result ℤ DeskFault)
    → EndsAddition (given_type at note_type) before now steps left result → HoldsSound before steps → HoldsSound now left
types_added at note_type before now steps left (Ok id) ends held =
    let answers : AnswersBy {T = ℤ} (RefusesTypeAddition at note_type held.c) (Ok id) = where_told before held.c (λ c. AnswersBy {T = ℤ} (RefusesTypeAddition at note_type c) (Ok id)) held.told ends.answers in
    type_added at note_type id before now steps left held answers.accepted (where_told before held.c (IsNewRow at tables.NoteType id) held.told ends.id)
    (where_told before held.c (λ c. IsFinished at c (given_addition note_type id c) before now steps left) held.told ends.done)
types_added at note_type before now steps left (Err fault) ends held = same_keeps before now steps left ends.same ends.kept held

pub types_edited : (at : ℤ) (given : TypeEdit) (before now : Keeping) (steps left : List Step) (result : Result (Unit {0}) DeskFault) → EndsOrStays (λ _. DoesEditType at given before now steps left) before now steps left result
    → WhereHeld before (λ c. AnswersBy (RefusesTypeEdit at given c) result) → HoldsSound before steps → HoldsSound now left
types_edited at given before now steps left (Ok value) ends answers held =
    let told : AnswersBy {T = Unit {0}} (RefusesTypeEdit at given held.c) (Ok value) = where_told before held.c (λ c. AnswersBy {T = Unit {0}} (RefusesTypeEdit at given c) (Ok value)) held.told answers in
    type_edited at given before now steps left held told.accepted (where_told before held.c (λ c. IsTypeEdited at given c before now steps left) held.told ends.done)
types_edited at given before now steps left (Err fault) ends answers held = same_keeps before now steps left ends.same ends.kept held

-- Each line is one step: nothing, one admitted edit, or one undo.
use Rattle.std.specs.Prelude.{◌≡◌, ◌⊎◌, ℕ, ℤ, List, [], Option, Some, None, IfSome, Result, Ok, Err}
use Rattle.std.specs.Option.{option_map}
use Rattle.std.proofs.Common.{inl, inr, sym, subst}
use Rattle.ak_base.specs.declared.decks.Deck.{Deck}
use Rattle.ak_base.specs.declared.heads.Head.{Head}
use Rattle.ak_edit_calls.specs.CardEdits.{card_edit}
use Rattle.ak_deck_paths.specs.Additions.{AreAdded, addition}
use Rattle.ak_edit_calls.specs.DeckPaths.{path_at}
use Rattle.ak_deck_paths.specs.Renames.{AreMadeAbove, renaming}
use Rattle.ak_deck_trees.proofs.AdmittedTrees.{deck_deletions_are_admitted}
use Rattle.ak_deck_trees.specs.DeckDeletions.{deck_deletion}
use Rattle.ak_decks.proofs.AdmittedCalls.{flag_edits_are_admitted, moves_are_admitted, option_uses_are_admitted}
use Rattle.ak_decks.specs.DeckOptions.{options_use}
use Rattle.ak_decks.specs.Flags.{flagging}
use Rattle.ak_decks.specs.Moves.{moving}
use Rattle.ak_desk_lines.proofs.EndedLines.{held_at}
use Rattle.ak_desk_lines.specs.Accepted.{Does, Starts, given_answer, new_note, other_fields, other_tags, type_edit}
use Rattle.ak_desk_lines.specs.DeskStates.{DeskState}
use Rattle.ak_desk_lines.specs.LineEnds.{AnswersLine, EndsLine, IsLeft, IsLeftAsking, KeepsIfReading}
use Rattle.ak_desk_lines.specs.LineSteps.{IsOneStep}
use Rattle.ak_desk_lines.specs.Refused.{RefusesAsking}
use Rattle.ak_desk_lines.specs.declared.turns.Turn.{Turn}
use Rattle.ak_edit.proofs.Finishing.{where_held}
use Rattle.ak_edit.proofs.UndoneLists.{undo_keeps_all}
use Rattle.ak_edit.specs.Ends.{IsFinished, holding_now}
use Rattle.ak_edit.specs.Refusals.{IsFromOutside}
use Rattle.ak_edit.specs.Steps.{reversals_in}
use Rattle.ak_edit.specs.Undos.{SuitsNow}
use Rattle.ak_edit.specs.declared.desk_faults.DeskFault.{DeskFault}
use Rattle.ak_keep.specs.Collections.{Collection, Holding, collection_of}
use Rattle.ak_keep.specs.Keepers.{Keeping, WhereHeld}
use Rattle.ak_keep.specs.Marks as marks
use Rattle.ak_keep.specs.Marks.{WithMark}
use Rattle.ak_desk_language.specs.declared.desk_lines.DeskLine.{DeskLine}
use Rattle.ak_desk_language.specs.declared.desk_lines.DeskLine.TheVariants as lines
use Rattle.ak_merge.proofs.Sweeps.{lists_after_suit}
use Rattle.ak_merge.specs.Edits.{Admits, Edit}
use Rattle.ak_merge.specs.Holdings.{AreNamed, row_under}
use Rattle.ak_notes.proofs.AdmittedDeletions.{deletions_are_admitted as note_deletions}
use Rattle.ak_notes.proofs.AdmittedNotes.{additions_are_admitted as note_additions, note_edits_are_admitted}
use Rattle.ak_notes.specs.Deletions.{deletion}
use Rattle.ak_notes.specs.MadeNotes.{made_edit}
use Rattle.ak_options.proofs.AdmittedEdits.{additions_are_admitted as options_additions, changes_are_admitted as options_changes, deletions_are_admitted as options_deletions, spreads_are_admitted}
use Rattle.ak_options.specs.OptionDeletions.{options_deletion}
use Rattle.ak_options.specs.OptionGroups.{options_addition, options_change}
use Rattle.ak_options.specs.Spreads.{spreading}
use Rattle.ak_study.proofs.AdmittedAnswers.{answers_are_admitted}
use Rattle.ak_study.proofs.AdmittedEdits.{burials_are_admitted, day_starts_are_admitted, suspensions_are_admitted, unsuspensions_are_admitted}
use Rattle.ak_study.specs.Answers.{answer_edit}
use Rattle.ak_study.specs.CardPlaces.{buried_by_hand, suspended, unsuspended}
use Rattle.ak_study.specs.DayStarts.{HasStarted, day_start}
use Rattle.ak_desk_texts.specs.declared.answers.DeskAnswer.{DeskAnswer}
use Rattle.ak_types.proofs.AdmittedEdits.{additions_are_admitted as type_additions, deletions_are_admitted as type_deletions, edits_are_admitted as type_edits}
use Rattle.ak_types.specs.TypeAdditions.{given_addition}
use Rattle.ak_types.specs.TypeDeletions.{type_deletion}
use Rattle.ak_types.specs.TypeEdits.{retyping}

-- the laws on the paths of decks
abbrev AddsAreAdmitted : Type 0
AddsAreAdmitted = (at : ℤ) (path : List ℕ) (made : List Deck) (c : Collection) → AreNamed (row_under c) → AreAdded at path c.rows made → Admits c (addition made c)

abbrev RenamesAreAdmitted : Type 0
RenamesAreAdmitted = (at : ℤ) (old new : List ℕ) (made : List Deck) (c : Collection) → AreNamed (row_under c) → AreMadeAbove at new c.rows made → Admits c (renaming old new made c)

-- an edit that was done is a step, if it is admitted
edit_step : (at : ℤ) (c : Collection) (was now : DeskState) (edit : Edit) → (AreNamed (row_under c) → Admits c edit)
    → IsFinished at c edit was.keeping now.keeping was.steps now.steps → IsOneStep at c was now
edit_step at c was now edit admits done = inr (inl (edit, admits done.named, done))

-- the start of a day is a step
started_step : (at : ℤ) (c : Collection) (was now : DeskState) → HasStarted at c was.keeping now.keeping was.steps now.steps → IsOneStep at c was now
started_step at c was now started =
    edit_step at c was now (day_start started.day c) (λ named. day_starts_are_admitted started.day c named) started.finished

-- ---- accepted lines
did : AddsAreAdmitted → RenamesAreAdmitted → (line : DeskLine) (t : Turn) (c : Collection) (was now : DeskState) (answer : DeskAnswer)
    → Does line t c was now answer → KeepsIfReading line was now → IsOneStep t.at c was now
did adds renames (lines.AddNote note_type deck fields) t c was now answer does reads =
    edit_step t.at c was now (made_edit [] does.1.made c) (λ named. note_additions t.at (new_note t note_type deck fields) c does.1.made named does.1.is) does.1.done
did adds renames (lines.SetFields note fields) t c was now answer does reads =
    edit_step t.at c was now (made_edit (other_fields does.0.0 fields).tags does.0.2.made c) (λ named. note_edits_are_admitted t.at (other_fields does.0.0 fields) c does.0.2.made named does.0.2.is) does.0.2.done
did adds renames (lines.SetTags note tags) t c was now answer does reads =
    edit_step t.at c was now (made_edit (other_tags does.0.0 tags).tags does.0.2.made c) (λ named. note_edits_are_admitted t.at (other_tags does.0.0 tags) c does.0.2.made named does.0.2.is) does.0.2.done
did adds renames (lines.DeleteNotes notes) t c was now answer does reads =
    edit_step t.at c was now (deletion notes c) (λ named. note_deletions notes c named) does.0
did adds renames (lines.DeleteDeck deck) t c was now answer does reads =
    edit_step t.at c was now (deck_deletion deck c) (λ named. deck_deletions_are_admitted deck c named) does.0
did adds renames (lines.RenameDeck deck name) t c was now answer does reads =
    edit_step t.at c was now (renaming (path_at c.rows deck) name does.0.made c) (λ named. renames t.at (path_at c.rows deck) name does.0.made c named does.0.are) does.0.done
did adds renames (lines.MoveCards deck cards) t c was now answer does reads =
    edit_step t.at c was now (moving deck cards c) (λ named. moves_are_admitted deck cards c named) does.0
did adds renames (lines.UseOptions deck options) t c was now answer does reads =
    edit_step t.at c was now (options_use options deck c) (λ named. option_uses_are_admitted options deck c named) does.0
did adds renames (lines.SetSpread spread) t c was now answer does reads =
    edit_step t.at c was now (spreading spread c) (λ named. spreads_are_admitted spread c named) does.0
did adds renames (lines.AddDeck name) t c was now answer does reads =
    edit_step t.at c was now (addition does.1.made c) (λ named. adds t.at name does.1.made c named does.1.are) does.1.done
did adds renames (lines.AddOptions options) t c was now answer does reads =
    edit_step t.at c was now (options_addition options does.0 c) (λ named. options_additions options does.0 c named) does.2
did adds renames (lines.SetOptions options) t c was now answer does reads =
    edit_step t.at c was now (options_change options c) (λ named. options_changes options c named) does.0
did adds renames (lines.AddType note_type) t c was now answer does reads =
    edit_step t.at c was now (given_addition note_type does.0 c) (λ named. type_additions note_type does.0 c named) does.2
did adds renames (lines.EditType allow note_type fields templates) t c was now answer does reads =
    edit_step t.at c was now (retyping (type_edit allow note_type fields templates) does.0.old does.0.cards does.0.conf c)
    (λ named. type_edits t.at (type_edit allow note_type fields templates) c does.0.old does.0.cards does.0.conf named does.0.is) does.0.done
did adds renames (lines.DeleteType allow note_type) t c was now answer does reads =
    edit_step t.at c was now (type_deletion note_type c) (λ named. type_deletions note_type c named) does.0
did adds renames (lines.DeleteOptions allow options) t c was now answer does reads =
    edit_step t.at c was now (options_deletion options c) (λ named. options_deletions options c named) does.0
did adds renames (lines.Answer card button taken) t c was now answer does reads =
    edit_step t.at c was now (answer_edit does.1.day does.1.answering c)
    (λ named. answers_are_admitted t.at (given_answer t card button taken) does.1.day does.1.answering c named does.1.is_answering) does.1.finished
did adds renames (lines.Next deck) t c was now answer does reads =
    started_step t.at c was now does.0
did adds renames (lines.Counts deck) t c was now answer does reads =
    started_step t.at c was now does.0
did adds renames (lines.Find search) t c was now answer does reads =
    inl reads
did adds renames (lines.Page card back) t c was now answer does reads =
    inl reads
did adds renames (lines.Mute filter) t c was now answer does reads =
    inl reads
did adds renames (lines.Suspend cards) t c was now answer does reads =
    edit_step t.at c was now (card_edit suspended cards c) (λ named. suspensions_are_admitted cards c named) does.0
did adds renames (lines.Unsuspend cards) t c was now answer does reads =
    edit_step t.at c was now (card_edit unsuspended cards c) (λ named. unsuspensions_are_admitted cards c named) does.0
did adds renames (lines.Bury cards) t c was now answer does reads =
    edit_step t.at c was now (card_edit buried_by_hand cards c) (λ named. burials_are_admitted cards c named) does.0
did adds renames (lines.Flag value cards) t c was now answer does reads =
    edit_step t.at c was now (flagging value cards c) (λ named. flag_edits_are_admitted value cards c named) does.0
did adds renames lines.Undo t c was now answer does reads =
    inr (inr does.0)
did adds renames lines.Check t c was now answer does reads =
    inl reads

-- ---- refused lines
asked_step : (t : Turn) (deck : ℤ) (c : Collection) (was now : DeskState) (fault : DeskFault)
    → IsFromOutside fault ⊎ RefusesAsking t.at deck c fault → IsLeftAsking t deck fault was now
    → (WhereHeld was.keeping (λ c. Starts t.at c was now) → Starts t.at c was now) → IsOneStep t.at c was now
asked_step t deck c was now fault (inl outside) left starts =
    elim (left.either outside) [ inl same ↦ inl same | inr started ↦ started_step t.at c was now (starts started) ]
asked_step t deck c was now fault (inr (inl (day, is_day, stamp))) left starts = inl (left.unstarted stamp.0)
asked_step t deck c was now fault (inr (inr (passes, missing))) left starts = started_step t.at c was now (starts (left.started missing.1))

refused_step : (line : DeskLine) (t : Turn) (c : Collection) (was now : DeskState) (fault : DeskFault)
    → AnswersLine line t c was.steps (Err fault) → IsLeft line t fault was now
    → (WhereHeld was.keeping (λ c. Starts t.at c was now) → Starts t.at c was now) → IsOneStep t.at c was now
refused_step (lines.AddNote note_type deck fields) t c was now fault answers left starts = inl left
refused_step (lines.SetFields note fields) t c was now fault answers left starts = inl left
refused_step (lines.SetTags note tags) t c was now fault answers left starts = inl left
refused_step (lines.DeleteNotes notes) t c was now fault answers left starts = inl left
refused_step (lines.DeleteDeck deck) t c was now fault answers left starts = inl left
refused_step (lines.RenameDeck deck name) t c was now fault answers left starts = inl left
refused_step (lines.MoveCards deck cards) t c was now fault answers left starts = inl left
refused_step (lines.UseOptions deck options) t c was now fault answers left starts = inl left
refused_step (lines.SetSpread spread) t c was now fault answers left starts = inl left
refused_step (lines.AddDeck name) t c was now fault answers left starts = inl left
refused_step (lines.AddOptions options) t c was now fault answers left starts = inl left
refused_step (lines.SetOptions options) t c was now fault answers left starts = inl left
refused_step (lines.AddType note_type) t c was now fault answers left starts = inl left
refused_step (lines.EditType allow note_type fields templates) t c was now fault answers left starts = inl left
refused_step (lines.DeleteType allow note_type) t c was now fault answers left starts = inl left
refused_step (lines.DeleteOptions allow options) t c was now fault answers left starts = inl left
refused_step (lines.Answer card button taken) t c was now fault answers left starts = inl left
refused_step (lines.Find search) t c was now fault answers left starts = inl left
refused_step (lines.Page card back) t c was now fault answers left starts = inl left
refused_step (lines.Mute filter) t c was now fault answers left starts = inl left
refused_step (lines.Suspend cards) t c was now fault answers left starts = inl left
refused_step (lines.Unsuspend cards) t c was now fault answers left starts = inl left
refused_step (lines.Bury cards) t c was now fault answers left starts = inl left
refused_step (lines.Flag value cards) t c was now fault answers left starts = inl left
refused_step lines.Undo t c was now fault answers left starts = inl left
refused_step lines.Check t c was now fault answers left starts = inl left
refused_step (lines.Next deck) t c was now fault answers left starts = asked_step t deck c was now fault answers.refused left starts
refused_step (lines.Counts deck) t c was now fault answers left starts = asked_step t deck c was now fault answers.refused left starts

-- ---- all lines
pub one_step : AddsAreAdmitted → RenamesAreAdmitted → (line : DeskLine) (t : Turn) (was now : DeskState) (result : Result DeskAnswer DeskFault)
    → EndsLine line t was now result → WhereHeld was.keeping (λ c. IsOneStep t.at c was now)
one_step adds renames line t was now (Ok answer) ends =
    where_held was.keeping (λ c. IsOneStep t.at c was now)
    (λ w head told is_head. did adds renames line t (record { rows = w.current.rows; head = head }) was now answer
    (held_at was.keeping (λ c. Does line t c was now answer) w head told is_head ends.does) ends.reads)
one_step adds renames line t was now (Err fault) ends =
    where_held was.keeping (λ c. IsOneStep t.at c was now)
    (λ w head told is_head. refused_step line t (record { rows = w.current.rows; head = head }) was now fault
    (held_at was.keeping (λ c. AnswersLine line t c was.steps (Err fault)) w head told is_head ends.answers) ends.left
    (held_at was.keeping (λ c. Starts t.at c was now) w head told is_head))

-- ---- the undo list
-- what is true of a collection is true where it is held
told_now : (told : Option (WithMark Holding)) (d : Collection) (P : Collection → Type 0) → P d
    → IfSome (option_map (marks.changed (λ _. record { rows = d.rows; head = Some d.head })) told) (λ w. IfSome (collection_of w.current) P)
told_now None d P is = tt
told_now (Some w) d P is = is

pub holds_now : (d : Collection) (before now : Keeping) (P : Collection → Type 0) → now ≡ holding_now d before → P d → WhereHeld now P
holds_now d before now P held is = subst (λ (k : Keeping). WhereHeld k P) (sym held) (told_now before.told d P is)

pub held_here : (k : Keeping) (P : Collection → Type 0) (w : WithMark Holding) (head : Head) → k.told ≡ Some w → w.current.head ≡ Some head
    → P (record { rows = w.current.rows; head = head }) → WhereHeld k P
held_here k P w head told is_head is =
    subst (λ (o : Option (WithMark Holding)). IfSome o (λ w. IfSome (collection_of w.current) P)) (sym told)
    (subst (λ (o : Option Head). IfSome (option_map (λ (head : Head). record { rows = w.current.rows; head = head }) o) P) (sym is_head) is)

-- the list suits after one step
pub suits_after : (at : ℤ) (was now : DeskState) (w : WithMark Holding) (head : Head) → was.keeping.told ≡ Some w → w.current.head ≡ Some head
    → IsOneStep at (record { rows = w.current.rows; head = head }) was now → SuitsNow was.steps (record { rows = w.current.rows; head = head })
    → WhereHeld now.keeping (SuitsNow now.steps)
suits_after at was now w head told is_head (inl same) suits =
    subst (λ (s : DeskState). WhereHeld s.keeping (SuitsNow s.steps)) (sym same) (held_here was.keeping (SuitsNow was.steps) w head told is_head suits)
suits_after at was now w head told is_head (inr (inl edited)) suits =
    holds_now edited.2.after was.keeping now.keeping (SuitsNow now.steps) edited.2.held
    (lists_after_suit at (record { rows = w.current.rows; head = head }) edited.2.after edited.0 (reversals_in was.steps) (reversals_in now.steps)
    (record { admits = edited.1; leaves = edited.2.edited }) edited.2.named edited.2.list suits)
suits_after at was now w head told is_head (inr (inr undone)) suits =
    let all = undo_keeps_all at (record { rows = w.current.rows; head = head }) was.keeping now.keeping was.steps now.steps undone suits in
    holds_now undone.after was.keeping now.keeping (SuitsNow now.steps) undone.held all.suits

-- the same of every line
pub lists_suit : ((line : DeskLine) (t : Turn) (was now : DeskState) (result : Result DeskAnswer DeskFault) → EndsLine line t was now result → WhereHeld was.keeping (λ c. IsOneStep t.at c was now))
    → (line : DeskLine) (t : Turn) (was now : DeskState) (result : Result DeskAnswer DeskFault) → EndsLine line t was now result
    → WhereHeld was.keeping (λ c. SuitsNow was.steps c → WhereHeld now.keeping (SuitsNow now.steps))
lists_suit steps line t was now result ends =
    where_held was.keeping (λ c. SuitsNow was.steps c → WhereHeld now.keeping (SuitsNow now.steps))
    (λ w head told is_head suits. suits_after t.at was now w head told is_head
    (held_at was.keeping (λ c. IsOneStep t.at c was now) w head told is_head (steps line t was now result ends)) suits)

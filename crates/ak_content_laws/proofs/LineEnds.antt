-- Each line of the desk keeps that a keeper holds a sound collection, and so does a run of them.
use Rattle.std.specs.Option.{MatchOption}
use Rattle.std.specs.Prelude.{◌≡◌, ◌⊎◌, ℤ, List, Some, None, Result, Ok, Err}
use Rattle.std.proofs.Common.{inl, inr, refl, sym, subst}
use Rattle.ak_any_lines.specs.AnyEnds.{AnswersGiven, EndsAfterFirst, EndsAnyLine, EndsSingle, ThenEnds, given_in}
use Rattle.ak_any_lines.specs.FilteredCalls.{EndsCall}
use Rattle.ak_any_lines.specs.FirstThings.{GoesFirst}
use Rattle.ak_away_answers.specs.AwayAnswers.{EndsAnyAnswer}
use Rattle.ak_base.specs.declared.cards.Card.{Card}
use Rattle.ak_edit_calls.specs.CardEdits.{card_edit}
use Rattle.ak_edit_calls.specs.DeckPaths.{path_at}
use Rattle.ak_deck_trees.specs.DeckDeletions.{RefusesDeckDeletion, deck_deletion}
use Rattle.ak_decks.specs.DeckOptions.{options_use}
use Rattle.ak_decks.specs.Flags.{flagged}
use Rattle.ak_decks.specs.Moves.{moved}
use Rattle.ak_desk_lines.specs.Accepted.{Does, Starts, given_answer, new_note, other_fields, other_tags, type_edit}
use Rattle.ak_desk_lines.specs.DeskStates.{DeskState}
use Rattle.ak_desk_lines.specs.LineEnds.{AnswersLine, EndsLine, IsLeft, IsLeftAsking, KeepsIfReading}
use Rattle.ak_desk_lines.specs.Refused.{RefusesAsking}
use Rattle.ak_desk_lines.specs.declared.turns.Turn.{Turn}
use Rattle.ak_edit.specs.Ends.{IsFinished}
use Rattle.ak_edit.specs.Refusals.{AnswersBy, IsFromOutside, Refusal}
use Rattle.ak_edit.specs.declared.desk_faults.DeskFault.{DeskFault}
use Rattle.ak_filtered.specs.Emptyings.{EndsEmptied, filtered_below}
use Rattle.ak_filtered.specs.HomeGoings.{EndsSending}
use Rattle.ak_filtered.specs.declared.faults.FilteredFault.{FilteredFault}
use Rattle.ak_keep.specs.Collections.{Collection}
use Rattle.ak_keep.specs.Keepers.{WhereHeld}
use Rattle.ak_desk_language.specs.declared.any_lines.AnyLine.{AnyLine}
use Rattle.ak_desk_language.specs.declared.any_lines.AnyLine.TheVariants as anys
use Rattle.ak_desk_language.specs.declared.desk_lines.DeskLine.{DeskLine}
use Rattle.ak_desk_language.specs.declared.desk_lines.DeskLine.TheVariants as lines
use Rattle.ak_merge.specs.Edits.{Edit}
use Rattle.ak_merge.specs.Holdings.{row_under}
use Rattle.ak_notes.specs.Deletions.{RefusesDeletion as RefusesNoteDeletion, deletion}
use Rattle.ak_options.specs.OptionDeletions.{options_deletion}
use Rattle.ak_options.specs.OptionGroups.{as_given, options_addition, options_change, with_id}
use Rattle.ak_options.specs.Spreads.{spreading}
use Rattle.ak_study.specs.CardPlaces.{buried_by_hand, suspended, unsuspended}
use Rattle.ak_desk_texts.specs.declared.answers.DeskAnswer.{DeskAnswer}
use Rattle.ak_desk_texts.specs.declared.line_refusals.LineRefusal.{LineRefusal}
use Rattle.ak_types.specs.TypeDeletions.{RefusesDeletion as RefusesTypeDeletion, type_deletion}
use Rattle.ak_content_laws.proofs.AlikeEdits.{KeepsPlace}
use Rattle.ak_content_laws.proofs.CallEnds.{alike_keeps, any_answered, asks_deck_deletion, asks_deletion, asks_type_deletion, card_answered, day_started, deck_added, deck_moved, filtered_built, filtered_emptied, filtered_made, note_added, note_edited, sending_ended, subtree_emptied, type_added, type_edited}
use Rattle.ak_content_laws.proofs.CardCalls.{alike_itself, buried_place, card_edit_alike, group_alike, options_deletion_alike, options_use_alike, unsuspended_place}
use Rattle.ak_content_laws.proofs.Keepings.{AsksSound, finished_keeps, sound_held, undone_keeps, where_told}
use Rattle.ak_content_laws.specs.SoundCalls.{HoldsSound}

-- a desk between two lines holds a sound collection
abbrev pub IsSoundDesk : DeskState → Type 0
IsSoundDesk s = HoldsSound s.keeping s.steps

same_desk : (was now : DeskState) → now ≡ was → IsSoundDesk was → IsSoundDesk now
same_desk was now same held = subst IsSoundDesk (sym same) held

-- an edit by a rule of which none of the tests holds
ruled : (at : ℤ) (rule : Collection → Edit) (tests : Collection → Refusal) (was now : DeskState) (answer : DeskAnswer) (held : IsSoundDesk was) → AsksSound rule tests
    → IsFinished at held.c (rule held.c) was.keeping now.keeping was.steps now.steps → AnswersBy {T = DeskAnswer} (tests held.c) (Ok answer) → IsSoundDesk now
ruled at rule tests was now answer held asks done answers =
    finished_keeps at (rule held.c) was.keeping now.keeping was.steps now.steps held done (asks held.c done.named answers.accepted (sound_held was.keeping was.steps held))

-- an edit of cards one by one
placed : (at : ℤ) (change : Card → Card) (cards : List ℤ) (was now : DeskState) (held : IsSoundDesk was) → KeepsPlace change → IsFinished at held.c (card_edit change cards held.c) was.keeping now.keeping was.steps now.steps → IsSoundDesk now
placed at change cards was now held keeps done = alike_keeps at (card_edit change cards held.c) was.keeping now.keeping was.steps now.steps held (card_edit_alike change cards held.c keeps) done

-- ---- accepted lines
line_done : (line : DeskLine) (t : Turn) (was now : DeskState) (answer : DeskAnswer) (held : IsSoundDesk was) → Does line t held.c was now answer → AnswersLine line t held.c was.steps (Ok answer) → KeepsIfReading line was now
    → IsSoundDesk now
line_done (lines.AddNote note_type deck fields) t was now answer held does answers reads =
    note_added t.at (new_note t note_type deck fields) was.keeping now.keeping was.steps now.steps does.0 held does.1
line_done (lines.SetFields note fields) t was now answer held does answers reads =
    note_edited t.at (other_fields does.0.0 fields) was.keeping now.keeping was.steps now.steps held does.0.2
line_done (lines.SetTags note tags) t was now answer held does answers reads =
    note_edited t.at (other_tags does.0.0 tags) was.keeping now.keeping was.steps now.steps held does.0.2
line_done (lines.DeleteNotes notes) t was now answer held does answers reads =
    ruled t.at (deletion notes) (RefusesNoteDeletion t.at notes) was now answer held (asks_deletion notes (RefusesNoteDeletion t.at notes)) does.0 answers
line_done (lines.DeleteDeck deck) t was now answer held does answers reads =
    ruled t.at (deck_deletion deck) (RefusesDeckDeletion t.at deck) was now answer held (asks_deck_deletion deck (RefusesDeckDeletion t.at deck)) does.0 answers
line_done (lines.RenameDeck deck name) t was now answer held does answers reads =
    deck_moved t.at (path_at held.c.rows deck) name was.keeping now.keeping was.steps now.steps held does.0
line_done (lines.MoveCards deck cards) t was now answer held does answers reads = placed t.at (moved deck) cards was now held (λ _. refl) does.0
line_done (lines.UseOptions deck options) t was now answer held does answers reads =
    alike_keeps t.at (options_use options deck held.c) was.keeping now.keeping was.steps now.steps held (options_use_alike options deck held.c does.0.named) does.0
line_done (lines.SetSpread spread) t was now answer held does answers reads =
    alike_keeps t.at (spreading spread held.c) was.keeping now.keeping was.steps now.steps held (alike_itself (row_under held.c)) does.0
line_done (lines.AddDeck name) t was now answer held does answers reads = deck_added t.at name was.keeping now.keeping was.steps now.steps does.0 held does.1
line_done (lines.AddOptions options) t was now answer held does answers reads =
    alike_keeps t.at (options_addition options does.0 held.c) was.keeping now.keeping was.steps now.steps held (group_alike (with_id does.0 (as_given options)) held.c) does.2
line_done (lines.SetOptions options) t was now answer held does answers reads =
    alike_keeps t.at (options_change options held.c) was.keeping now.keeping was.steps now.steps held (group_alike (as_given options) held.c) does.0
line_done (lines.AddType note_type) t was now answer held does answers reads =
    type_added t.at note_type does.0 was.keeping now.keeping was.steps now.steps held answers.accepted does.1 does.2
line_done (lines.EditType allow note_type fields templates) t was now answer held does answers reads =
    type_edited t.at (type_edit allow note_type fields templates) was.keeping now.keeping was.steps now.steps held answers.accepted does.0
line_done (lines.DeleteType allow note_type) t was now answer held does answers reads =
    ruled t.at (type_deletion note_type) (RefusesTypeDeletion t.at note_type allow) was now answer held (asks_type_deletion t.at note_type allow) does.0 answers
line_done (lines.DeleteOptions allow options) t was now answer held does answers reads =
    alike_keeps t.at (options_deletion options held.c) was.keeping now.keeping was.steps now.steps held (options_deletion_alike options held.c) does.0
line_done (lines.Answer card button taken) t was now answer held does answers reads =
    card_answered t.at (given_answer t card button taken) was.keeping now.keeping was.steps now.steps does.0 held does.1
line_done (lines.Next deck) t was now answer held does answers reads = day_started t.at was.keeping now.keeping was.steps now.steps held does.0
line_done (lines.Counts deck) t was now answer held does answers reads = day_started t.at was.keeping now.keeping was.steps now.steps held does.0
line_done (lines.Find search) t was now answer held does answers reads = same_desk was now reads held
line_done (lines.Page card back) t was now answer held does answers reads = same_desk was now reads held
line_done (lines.Mute filter) t was now answer held does answers reads = same_desk was now reads held
line_done (lines.Suspend cards) t was now answer held does answers reads = placed t.at suspended cards was now held (λ _. refl) does.0
line_done (lines.Unsuspend cards) t was now answer held does answers reads = placed t.at unsuspended cards was now held unsuspended_place does.0
line_done (lines.Bury cards) t was now answer held does answers reads = placed t.at buried_by_hand cards was now held buried_place does.0
line_done (lines.Flag value cards) t was now answer held does answers reads = placed t.at (flagged value) cards was now held (λ _. refl) does.0
line_done lines.Undo t was now answer held does answers reads = undone_keeps t.at was.keeping now.keeping was.steps now.steps held does.0
line_done lines.Check t was now answer held does answers reads = same_desk was now reads held

-- ---- refused lines
-- the day started, where it did
started : (t : Turn) (was now : DeskState) (held : IsSoundDesk was) → WhereHeld was.keeping (λ c. Starts t.at c was now) → IsSoundDesk now
started t was now held starts = day_started t.at was.keeping now.keeping was.steps now.steps held (where_told was.keeping held.c (λ c. Starts t.at c was now) held.told starts)

asking_left : (t : Turn) (deck : ℤ) (was now : DeskState) (fault : DeskFault) (held : IsSoundDesk was) → IsFromOutside fault ⊎ RefusesAsking t.at deck held.c fault → IsLeftAsking t deck fault was now → IsSoundDesk now
asking_left t deck was now fault held (inl outside) left =
    elim (left.either outside) as (λ _. IsSoundDesk now) [ inl same ↦ same_desk was now same held | inr starts ↦ started t was now held starts ]
asking_left t deck was now fault held (inr (inl (day, is_day, stamp))) left = same_desk was now (left.unstarted stamp.0) held
asking_left t deck was now fault held (inr (inr (passes, missing))) left = started t was now held (left.started missing.1)

line_left : (line : DeskLine) (t : Turn) (was now : DeskState) (fault : DeskFault) (held : IsSoundDesk was) → AnswersLine line t held.c was.steps (Err fault) → IsLeft line t fault was now → IsSoundDesk now
line_left (lines.AddNote note_type deck fields) t was now fault held answers left = same_desk was now left held
line_left (lines.SetFields note fields) t was now fault held answers left = same_desk was now left held
line_left (lines.SetTags note tags) t was now fault held answers left = same_desk was now left held
line_left (lines.DeleteNotes notes) t was now fault held answers left = same_desk was now left held
line_left (lines.DeleteDeck deck) t was now fault held answers left = same_desk was now left held
line_left (lines.RenameDeck deck name) t was now fault held answers left = same_desk was now left held
line_left (lines.MoveCards deck cards) t was now fault held answers left = same_desk was now left held
line_left (lines.UseOptions deck options) t was now fault held answers left = same_desk was now left held
line_left (lines.SetSpread spread) t was now fault held answers left = same_desk was now left held
line_left (lines.AddDeck name) t was now fault held answers left = same_desk was now left held
line_left (lines.AddOptions options) t was now fault held answers left = same_desk was now left held
line_left (lines.SetOptions options) t was now fault held answers left = same_desk was now left held
line_left (lines.AddType note_type) t was now fault held answers left = same_desk was now left held
line_left (lines.EditType allow note_type fields templates) t was now fault held answers left = same_desk was now left held
line_left (lines.DeleteType allow note_type) t was now fault held answers left = same_desk was now left held
line_left (lines.DeleteOptions allow options) t was now fault held answers left = same_desk was now left held
line_left (lines.Answer card button taken) t was now fault held answers left = same_desk was now left held
line_left (lines.Next deck) t was now fault held answers left = asking_left t deck was now fault held answers.refused left
line_left (lines.Counts deck) t was now fault held answers left = asking_left t deck was now fault held answers.refused left
line_left (lines.Find search) t was now fault held answers left = same_desk was now left held
line_left (lines.Page card back) t was now fault held answers left = same_desk was now left held
line_left (lines.Mute filter) t was now fault held answers left = same_desk was now left held
line_left (lines.Suspend cards) t was now fault held answers left = same_desk was now left held
line_left (lines.Unsuspend cards) t was now fault held answers left = same_desk was now left held
line_left (lines.Bury cards) t was now fault held answers left = same_desk was now left held
line_left (lines.Flag value cards) t was now fault held answers left = same_desk was now left held
line_left lines.Undo t was now fault held answers left = same_desk was now left held
line_left lines.Check t was now fault held answers left = same_desk was now left held

-- ---- lines that are one call
pub line_ended : (line : DeskLine) (t : Turn) (was now : DeskState) (result : Result DeskAnswer DeskFault) → EndsLine line t was now result → IsSoundDesk was → IsSoundDesk now
line_ended line t was now (Ok answer) ends held =
    line_done line t was now answer held (where_told was.keeping held.c (λ c. Does line t c was now answer) held.told ends.does)
    (where_told was.keeping held.c (λ c. AnswersLine line t c was.steps (Ok answer)) held.told ends.answers) ends.reads
line_ended line t was now (Err fault) ends held =
    line_left line t was now fault held (where_told was.keeping held.c (λ c. AnswersLine line t c was.steps (Err fault)) held.told ends.answers) ends.left

-- ---- what goes first
first_came : (line : DeskLine) (at : ℤ) (was mid : DeskState) (first : Result (Unit {0}) DeskFault) → GoesFirst line at was mid first → IsSoundDesk was → IsSoundDesk mid
first_came (lines.DeleteDeck deck) at was mid first goes held =
    subtree_emptied at (filtered_below deck held.c.rows) was.keeping mid.keeping was.steps mid.steps first held
    (where_told was.keeping held.c (λ c. EndsEmptied at (filtered_below deck c.rows) was.keeping mid.keeping was.steps mid.steps first) held.told goes.ends)
first_came (lines.MoveCards deck cards) at was mid first goes held =
    sending_ended at cards was.keeping mid.keeping was.steps mid.steps goes.sent held
    (where_told was.keeping held.c (λ c. EndsSending at cards c was.keeping mid.keeping was.steps mid.steps goes.sent) held.told goes.ends)
first_came (lines.AddNote note_type deck fields) at was mid first goes held = same_desk was mid goes.0 held
first_came (lines.SetFields note fields) at was mid first goes held = same_desk was mid goes.0 held
first_came (lines.SetTags note tags) at was mid first goes held = same_desk was mid goes.0 held
first_came (lines.DeleteNotes notes) at was mid first goes held = same_desk was mid goes.0 held
first_came (lines.RenameDeck deck name) at was mid first goes held = same_desk was mid goes.0 held
first_came (lines.UseOptions deck options) at was mid first goes held = same_desk was mid goes.0 held
first_came (lines.SetSpread spread) at was mid first goes held = same_desk was mid goes.0 held
first_came (lines.AddDeck name) at was mid first goes held = same_desk was mid goes.0 held
first_came (lines.AddOptions options) at was mid first goes held = same_desk was mid goes.0 held
first_came (lines.SetOptions options) at was mid first goes held = same_desk was mid goes.0 held
first_came (lines.AddType note_type) at was mid first goes held = same_desk was mid goes.0 held
first_came (lines.EditType allow note_type fields templates) at was mid first goes held = same_desk was mid goes.0 held
first_came (lines.DeleteType allow note_type) at was mid first goes held = same_desk was mid goes.0 held
first_came (lines.DeleteOptions allow options) at was mid first goes held = same_desk was mid goes.0 held
first_came (lines.Answer card button taken) at was mid first goes held = same_desk was mid goes.0 held
first_came (lines.Next deck) at was mid first goes held = same_desk was mid goes.0 held
first_came (lines.Counts deck) at was mid first goes held = same_desk was mid goes.0 held
first_came (lines.Find search) at was mid first goes held = same_desk was mid goes.0 held
first_came (lines.Page card back) at was mid first goes held = same_desk was mid goes.0 held
first_came (lines.Mute filter) at was mid first goes held = same_desk was mid goes.0 held
first_came (lines.Suspend cards) at was mid first goes held = same_desk was mid goes.0 held
first_came (lines.Unsuspend cards) at was mid first goes held = same_desk was mid goes.0 held
first_came (lines.Bury cards) at was mid first goes held = same_desk was mid goes.0 held
first_came (lines.Flag value cards) at was mid first goes held = same_desk was mid goes.0 held
first_came lines.Undo at was mid first goes held = same_desk was mid goes.0 held
first_came lines.Check at was mid first goes held = same_desk was mid goes.0 held

then_ended : (line : DeskLine) (t : Turn) (mid now : DeskState) (first : Result (Unit {0}) DeskFault) (own : Result DeskAnswer DeskFault) → ThenEnds first line t mid now own → IsSoundDesk mid → IsSoundDesk now
then_ended line t mid now (Ok done) own ends held = line_ended line t mid now own ends held
then_ended line t mid now (Err fault) own ends held = same_desk mid now ends.0 held

single_ended : (line : DeskLine) (t : Turn) (was now : DeskState) (own : Result DeskAnswer DeskFault) → EndsSingle line t was now own → IsSoundDesk was → IsSoundDesk now
single_ended line t was now own ends held =
    elim (given_in line t) as (λ o. MatchOption o (EndsAfterFirst line t was now own) (λ given. AnswersGiven t.at given was now own) → IsSoundDesk now) [
      | None ↦ λ ends. then_ended line t ends.0 now ends.1 own ends.3 (first_came line t.at was ends.0 ends.1 ends.2 held)
      | Some given ↦ λ ends. any_answered t.at given was.keeping now.keeping was.steps now.steps ends.0 held
          (where_told was.keeping held.c (λ c. EndsAnyAnswer t.at given c was.keeping now.keeping was.steps now.steps ends.0) held.told ends.1.ends)
    ] ends

-- ---- lines about filtered decks
call_ended : {T : Type 0} (was now : DeskState) (IsDone : Collection → T → Type 0) (Tells : Collection → Result T FilteredFault → Type 0) (May : FilteredFault → Type 0) (made : Result T FilteredFault) (held : IsSoundDesk was)
    → ((value : T) → IsDone held.c value → IsSoundDesk now) → EndsCall IsDone Tells May was now made → IsSoundDesk now
call_ended was now IsDone Tells May (Ok value) held keeps ends = keeps value (where_told was.keeping held.c (λ c. IsDone c value) held.told ends.done)
call_ended was now IsDone Tells May (Err fault) held keeps ends = same_desk was now ends.left held

-- ---- all lines
pub any_line_ended : (line : AnyLine) (t : Turn) (was now : DeskState) (result : Result DeskAnswer LineRefusal) → EndsAnyLine line t was now result → IsSoundDesk was → IsSoundDesk now
any_line_ended (anys.Single line) t was now result (own, ends, is) held = single_ended line t was now own ends held
any_line_ended (anys.Filter name search limit order) t was now result (given, made, is_given, ends, is) held =
    call_ended was now _ _ _ made held (λ id done. filtered_made t.at given was.keeping now.keeping was.steps now.steps id held done) ends
any_line_ended (anys.Build deck) t was now result (made, ends, is) held =
    call_ended was now _ _ _ made held (λ count done. filtered_built t.at deck was.keeping now.keeping was.steps now.steps count held done) ends
any_line_ended (anys.Empty deck) t was now result (made, ends, is) held =
    call_ended was now _ _ _ made held (λ count done. filtered_emptied t.at deck was.keeping now.keeping was.steps now.steps count held done) ends

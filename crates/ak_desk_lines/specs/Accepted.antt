-- What an accepted line does to the collection that was held, and what it is answered.
use Rattle.std.specs.Prelude.{◌≡◌, ⊤, ℕ, ℤ, Bool, List, [], Option, Some, None, IfSome, Result, Ok, Err}
use Rattle.ak_base.specs.Days.{IsDayOf}
use Rattle.ak_base.specs.NoteTexts.{fields_in, tags_in}
use Rattle.ak_base.specs.declared.cards.Card.{Card}
use Rattle.ak_base.specs.declared.days.Day.{Day}
use Rattle.ak_base.specs.declared.heads.Head.{Head}
use Rattle.ak_base.specs.declared.names.Table.TheVariants as tables
use Rattle.ak_base.specs.declared.note_types.NoteType.{NoteType}
use Rattle.ak_base.specs.declared.notes.Note.{Note}
use Rattle.ak_base.specs.declared.option_groups.Options.{Options}
use Rattle.ak_edit_calls.specs.Additions.{IsNewRow}
use Rattle.ak_edit_calls.specs.CardEdits.{card_edit}
use Rattle.ak_deck_paths.specs.Additions.{IsAdded as IsAddedDeck}
use Rattle.ak_edit_calls.specs.DeckPaths.{path_at}
use Rattle.ak_deck_paths.specs.Renames.{IsMoved}
use Rattle.ak_deck_trees.specs.DeckDeletions.{deck_deletion}
use Rattle.ak_decks.specs.DeckOptions.{options_use}
use Rattle.ak_decks.specs.Flags.{flagging}
use Rattle.ak_decks.specs.Moves.{moving}
use Rattle.ak_desk_lines.specs.DeskStates.{Edits, DeskState}
use Rattle.ak_desk_lines.specs.declared.turns.Turn.{Turn}
use Rattle.ak_edit.specs.Undos.{IsLatestUndone}
use Rattle.ak_edit.specs.declared.desk_faults.DeskFault.{DeskFault}
use Rattle.ak_edit.specs.declared.desk_faults.DeskFault.TheVariants as faults
use Rattle.ak_keep.specs.Collections.{Collection, Holding, Rows}
use Rattle.ak_keep.specs.Keepers.{Keeping, WhereTold}
use Rattle.ak_keep.specs.Lookups.{note_at}
use Rattle.ak_desk_language.specs.declared.desk_lines.DeskLine.{DeskLine}
use Rattle.ak_desk_language.specs.declared.desk_lines.DeskLine.TheVariants as lines
use Rattle.ak_merge.specs.Edits.{Edit}
use Rattle.ak_merge.specs.Holdings.{name_in}
use Rattle.ak_merge.specs.Soundness.{first_fault}
use Rattle.ak_notes.specs.Additions.{IsAdded as IsAddedNote}
use Rattle.ak_notes.specs.Deletions.{deletion}
use Rattle.ak_notes.specs.NoteEdits.{IsNoteEdited}
use Rattle.ak_notes.specs.declared.additions.Added.{Added}
use Rattle.ak_notes.specs.declared.additions.NewNote.{NewNote}
use Rattle.ak_notes.specs.declared.note_edits.NoteEdit.{NoteEdit}
use Rattle.ak_options.specs.OptionDeletions.{options_deletion}
use Rattle.ak_options.specs.OptionGroups.{options_addition, options_change}
use Rattle.ak_options.specs.Spreads.{spreading}
use Rattle.ak_queue.specs.Nexts.{next_in}
use Rattle.ak_queue.specs.Queues.{counts_in}
use Rattle.ak_queue.specs.declared.day_queues.Counts.{Counts}
use Rattle.ak_queue.specs.declared.faults.QueueFault.{QueueFault}
use Rattle.ak_queue.specs.declared.faults.QueueFault.TheVariants as queues
use Rattle.ak_search.specs.Grammar.{pieces_in}
use Rattle.ak_search.specs.Holds.{hits}
use Rattle.ak_search.specs.Trees.{Tree, pieces_of}
use Rattle.ak_search.specs.declared.parses.Expr.{Expr}
use Rattle.ak_study.specs.Answers.{IsAnswered}
use Rattle.ak_study.specs.CardPlaces.{buried_by_hand, suspended, unsuspended}
use Rattle.ak_study.specs.DayStarts.{HasStarted}
use Rattle.ak_study.specs.declared.answers.CardAnswer.{CardAnswer}
use Rattle.ak_desk_texts.specs.declared.answers.DeskAnswer.{DeskAnswer}
use Rattle.ak_desk_texts.specs.declared.answers.DeskAnswer.TheVariants as answers
use Rattle.ak_types.specs.TypeAdditions.{given_addition}
use Rattle.ak_types.specs.TypeDeletions.{type_deletion}
use Rattle.ak_types.specs.TypeEdits.{IsTypeEdited}
use Rattle.ak_types.specs.declared.type_edits.TypeEdit.{TypeEdit}

-- ---- what the calls of a line are given
-- a new note of these fields, without tags, which is called by its id and the turn's word of chance
abbrev pub new_note : Turn → ℤ → ℤ → List (List ℕ) → NewNote
new_note turn note_type deck fields =
    record { note_type = note_type; deck = deck; guid = None; fields = fields; tags = []; chance = turn.chance }

-- other fields for a note, which is given its own tags again: they are tested as given ones, and stored anew, each once and in
-- order
abbrev pub other_fields : Note → List (List ℕ) → NoteEdit
other_fields note fields = record { note = note.id; fields = fields; tags = tags_in note.tags }

-- other tags for a note, which keeps its fields
abbrev pub other_tags : Note → List (List ℕ) → NoteEdit
other_tags note tags = record { note = note.id; fields = fields_in note.flds; tags = tags }

-- an answer with the turn's word of chance
abbrev pub given_answer : Turn → ℤ → ℕ → ℕ → CardAnswer
given_answer turn card button taken = record { card = card; button = button; taken = taken; word = turn.chance }

-- a note type in place of the one of its id, with the places of the old fields and templates that its own are
abbrev pub type_edit : Bool → NoteType → List (Option ℕ) → List (Option ℕ) → TypeEdit
type_edit allow note_type fields templates =
    record { note_type = note_type; from_fields = fields; from_templates = templates; allow = allow }

-- where it is told what is held, the note of this id is, and this is the change of it
abbrev pub IsChangeOf : Keeping → ℤ → (Note → NoteEdit) → NoteEdit → Type 0
IsChangeOf k note change given =
    WhereTold k (λ h. (held : Note) × (note_at h.rows note ≡ Some held) × (given ≡ change held))

-- ---- how a call is answered
-- the answer of a call with this one for what it gives; its refusal is that of the line
abbrev pub answer_with : {T : Type 0} → (T → DeskAnswer) → Result T DeskFault → Result DeskAnswer DeskFault
answer_with answer (Ok value) = Ok (answer value)
answer_with answer (Err fault) = Err fault

-- an edit that tells no more
abbrev pub done_answer : Unit {0} → DeskAnswer
done_answer made = answers.Done

-- the ids of a note that was added and of its cards
abbrev pub note_answer : Added → DeskAnswer
note_answer added = answers.AddedNote added.note added.cards

-- where a card is after its answer
abbrev pub card_answer : Card → DeskAnswer
card_answer card = answers.Answered card.queue card.due card.ivl

-- how many cards a deck asks for
abbrev pub counts_answer : Counts → DeskAnswer
counts_answer counts = answers.Counts counts.new_cards counts.learning counts.reviews

-- a fault of a queue as one of the desk: the deck is not held
abbrev pub of_queue_fault : QueueFault → DeskFault
of_queue_fault (queues.NoDeck id) = faults.NoSuch (name_in tables.Deck id)
of_queue_fault queues.Failed = faults.Failed
of_queue_fault queues.Memory = faults.Memory

-- the answer of a queue with its fault as one of the desk
abbrev pub of_queue : {T : Type 0} → Result T QueueFault → Result T DeskFault
of_queue (Ok value) = Ok value
of_queue (Err fault) = Err (of_queue_fault fault)

-- ---- edits
-- the note of this id was edited in this way
abbrev pub ChangesNote : ℤ → ℤ → (Note → NoteEdit) → Collection → DeskState → DeskState → Type 0
ChangesNote at note change c before after =
    (held : Note) × (note_at c.rows note ≡ Some held)
    × IsNoteEdited at (change held) c before.keeping after.keeping before.steps after.steps

-- a note was added, and its ids are answered
abbrev pub AddsNote : ℤ → NewNote → Collection → DeskState → DeskState → DeskAnswer → Type 0
AddsNote at new c before after answer =
    (added : Added) × IsAddedNote at new c before.keeping after.keeping before.steps after.steps added
    × (answer ≡ note_answer added)

-- a deck of this path was added, and its id is answered
abbrev pub AddsDeck : ℤ → List ℕ → Collection → DeskState → DeskState → DeskAnswer → Type 0
AddsDeck at path c before after answer =
    (id : ℤ) × IsAddedDeck at path c before.keeping after.keeping before.steps after.steps id
    × (answer ≡ answers.AddedDeck id)

-- the deck of this id got this path, and its subtree with it
abbrev pub RenamesDeck : ℤ → ℤ → List ℕ → Collection → DeskState → DeskState → Type 0
RenamesDeck at deck path c before after =
    IsMoved at (path_at c.rows deck) path c before.keeping after.keeping before.steps after.steps

-- a group of options was added, and its id is answered
abbrev pub AddsOptions : ℤ → Options → Collection → DeskState → DeskState → DeskAnswer → Type 0
AddsOptions at options c before after answer =
    (id : ℤ) × IsNewRow at tables.Options id c × Edits at (options_addition options id) c before after
    × (answer ≡ answers.PutOptions id)

-- a note type was added, and its id is answered
abbrev pub AddsType : ℤ → NoteType → Collection → DeskState → DeskState → DeskAnswer → Type 0
AddsType at note_type c before after answer =
    (id : ℤ) × IsNewRow at tables.NoteType id c × Edits at (given_addition note_type id) c before after
    × (answer ≡ answers.AddedType id)

-- the note type of its id became this one
abbrev pub EditsType : ℤ → TypeEdit → Collection → DeskState → DeskState → Type 0
EditsType at given c before after = IsTypeEdited at given c before.keeping after.keeping before.steps after.steps

-- a card was answered, and where it is now is answered
abbrev pub AnswersCard : ℤ → CardAnswer → Collection → DeskState → DeskState → DeskAnswer → Type 0
AnswersCard at given c before after answer =
    (made : Card) × IsAnswered at given c before.keeping after.keeping before.steps after.steps made
    × (answer ≡ card_answer made)

-- the day of the moment has started
abbrev pub Starts : ℤ → Collection → DeskState → DeskState → Type 0
Starts at c before after = HasStarted at c before.keeping after.keeping before.steps after.steps

-- this edit was done, and `ok` is answered
abbrev pub FinishesEdit : ℤ → (Collection → Edit) → Collection → DeskState → DeskState → DeskAnswer → Type 0
FinishesEdit at rule c before after answer = Edits at rule c before after × (answer ≡ answers.Done)

-- ---- reads
-- where it is told what is held, this is the day of the moment there
abbrev pub IsOnDay : ℤ → Keeping → Day → Type 0
IsOnDay at k day = WhereTold k (λ h. IfSome h.head (λ head. IsDayOf head.crt at day))

-- the day of the moment started, and this is true of what is held then on that day, and of the answer
abbrev pub AsksOnDay : ℤ → Collection → DeskState → DeskState → DeskAnswer
    → (Holding → Day → DeskAnswer → Type 0) → Type 0
AsksOnDay at c before after answer Tells =
    Starts at c before after
    × WhereTold after.keeping (λ h. (day : Day) × IsDayOf c.head.crt at day × Tells h day answer)

-- the next card of a deck, after that many answers
abbrev pub TellsNext : ℤ → ℕ → Holding → Day → DeskAnswer → Type 0
TellsNext deck done h day answer =
    (card : Option ℤ) × (next_in h (record { day = day; done = done }) deck ≡ Some card) × (answer ≡ answers.Next card)

-- how many cards a deck asks for
abbrev pub TellsCounts : ℤ → Holding → Day → DeskAnswer → Type 0
TellsCounts deck h day answer =
    (counts : Counts) × (counts_in h day deck ≡ Some counts)
    × (answer ≡ counts_answer counts)

-- these are the cards that meet a search on the day of the moment: those of its tree. A search that was read has one
abbrev pub AreFound : ℤ → Expr → Rows → Head → List ℤ → Type 0
AreFound at search held head ids =
    (day : Day) × IsDayOf head.crt at day
    × ((tree : Tree) → pieces_in search.tokens.items ≡ pieces_of tree → ids ≡ hits held day tree)

-- the same of an answer
abbrev pub TellsFound : ℤ → Expr → Collection → DeskAnswer → Type 0
TellsFound at search c answer = (ids : List ℤ) × AreFound at search c.rows c.head ids × (answer ≡ answers.Found ids)

-- ---- all lines
-- what a line does, and what it is answered. That a line which only reads changes nothing, and what a page shows, is said
-- apart
abbrev pub Does : DeskLine → Turn → Collection → DeskState → DeskState → DeskAnswer → Type 0
Does (lines.AddNote note_type deck fields) t c before after answer =
    AddsNote t.at (new_note t note_type deck fields) c before after answer
Does (lines.SetFields note fields) t c before after answer =
    ChangesNote t.at note (λ held. other_fields held fields) c before after × (answer ≡ answers.Done)
Does (lines.SetTags note tags) t c before after answer =
    ChangesNote t.at note (λ held. other_tags held tags) c before after × (answer ≡ answers.Done)
Does (lines.DeleteNotes notes) t c before after answer = FinishesEdit t.at (deletion notes) c before after answer
Does (lines.DeleteDeck deck) t c before after answer = FinishesEdit t.at (deck_deletion deck) c before after answer
Does (lines.RenameDeck deck name) t c before after answer =
    RenamesDeck t.at deck name c before after × (answer ≡ answers.Done)
Does (lines.MoveCards deck cards) t c before after answer = FinishesEdit t.at (moving deck cards) c before after answer
Does (lines.UseOptions deck options) t c before after answer =
    FinishesEdit t.at (options_use options deck) c before after answer
Does (lines.SetSpread spread) t c before after answer = FinishesEdit t.at (spreading spread) c before after answer
Does (lines.AddDeck name) t c before after answer = AddsDeck t.at name c before after answer
Does (lines.AddOptions options) t c before after answer = AddsOptions t.at options c before after answer
Does (lines.SetOptions options) t c before after answer =
    Edits t.at (options_change options) c before after × (answer ≡ answers.PutOptions options.id)
Does (lines.AddType note_type) t c before after answer = AddsType t.at note_type c before after answer
Does (lines.EditType allow note_type fields templates) t c before after answer =
    EditsType t.at (type_edit allow note_type fields templates) c before after × (answer ≡ answers.Done)
Does (lines.DeleteType allow note_type) t c before after answer =
    FinishesEdit t.at (type_deletion note_type) c before after answer
Does (lines.DeleteOptions allow options) t c before after answer =
    FinishesEdit t.at (options_deletion options) c before after answer
Does (lines.Answer card button taken) t c before after answer =
    AnswersCard t.at (given_answer t card button taken) c before after answer
Does (lines.Next deck) t c before after answer = AsksOnDay t.at c before after answer (TellsNext deck t.done)
Does (lines.Counts deck) t c before after answer = AsksOnDay t.at c before after answer (TellsCounts deck)
Does (lines.Find search) t c before after answer = TellsFound t.at search c answer
Does (lines.Page card back) t c before after answer = ⊤
Does (lines.Mute filter) t c before after answer = ⊤
Does (lines.Suspend cards) t c before after answer = FinishesEdit t.at (card_edit suspended cards) c before after answer
Does (lines.Unsuspend cards) t c before after answer =
    FinishesEdit t.at (card_edit unsuspended cards) c before after answer
Does (lines.Bury cards) t c before after answer =
    FinishesEdit t.at (card_edit buried_by_hand cards) c before after answer
Does (lines.Flag value cards) t c before after answer = FinishesEdit t.at (flagging value cards) c before after answer
Does lines.Undo t c before after answer =
    IsLatestUndone t.at c before.keeping after.keeping before.steps after.steps × (answer ≡ answers.Done)
Does lines.Check t c before after answer = answer ≡ answers.Checked (first_fault c.rows)

-- Why a line is refused.
use Rattle.std.specs.Prelude.{◌≡◌, ◌⊎◌, ℕ, ℤ, List, None}
use Rattle.ak_base.specs.declared.names.Table.TheVariants as tables
use Rattle.ak_base.specs.declared.notes.Note.{Note}
use Rattle.ak_deck_paths.specs.Additions.{RefusesAddition as RefusesNewDeck}
use Rattle.ak_deck_paths.specs.ChangedDecks.{IsPathFault}
use Rattle.ak_deck_paths.specs.Renames.{IsRenameFault, RefusesRename}
use Rattle.ak_deck_trees.specs.DeckDeletions.{IsDeckDeletionFault, RefusesDeckDeletion}
use Rattle.ak_decks.specs.DeckOptions.{IsUseFault, RefusesUse}
use Rattle.ak_decks.specs.Flags.{RefusesFlag}
use Rattle.ak_decks.specs.Moves.{IsMoveFault, RefusesMove}
use Rattle.ak_desk_language.specs.declared.desk_lines.DeskLine.{DeskLine}
use Rattle.ak_desk_language.specs.declared.desk_lines.DeskLine.TheVariants as lines
use Rattle.ak_desk_lines.specs.Accepted.{given_answer, new_note, other_fields, other_tags, type_edit}
use Rattle.ak_desk_lines.specs.declared.turns.Turn.{Turn}
use Rattle.ak_edit.specs.Refusals.{IsEndFault, IsFromOutside, IsUndoFault, OrElse, Refusal}
use Rattle.ak_edit.specs.Undos.{RefusesUndo}
use Rattle.ak_edit.specs.declared.desk_faults.DeskFault.{DeskFault}
use Rattle.ak_edit.specs.declared.desk_faults.DeskFault.TheVariants as faults
use Rattle.ak_edit_calls.specs.Calls.{IsMissingFault, IsMissingOrEnd}
use Rattle.ak_edit_calls.specs.CardEdits.{RefusesCardEdit}
use Rattle.ak_keep.specs.Collections.{Collection}
use Rattle.ak_keep.specs.Lookups.{deck_at, note_at}
use Rattle.ak_merge.specs.Holdings.{name_in}
use Rattle.ak_notes.specs.Additions.{IsAddFault, RefusesAddition as RefusesNewNote}
use Rattle.ak_notes.specs.Deletions.{RefusesDeletion as RefusesNoteDeletion}
use Rattle.ak_notes.specs.MadeNotes.{IsMakingFault, NeedsHeld}
use Rattle.ak_notes.specs.NoteEdits.{RefusesNoteEdit}
use Rattle.ak_notes.specs.declared.note_edits.NoteEdit.{NoteEdit}
use Rattle.ak_options.specs.OptionDeletions.{IsDeletionFault as IsOptionsDeletionFault, RefusesDeletion as RefusesOptionsDeletion}
use Rattle.ak_options.specs.OptionGroups.{IsAdditionFault as IsNewOptionsFault, IsChangeFault, RefusesAddition as RefusesNewOptions, RefusesChange}
use Rattle.ak_options.specs.Spreads.{RefusesSpread}
use Rattle.ak_pages.specs.CardPages.{IsPageRefusal}
use Rattle.ak_study.specs.Answers.{IsAnswerFault, RefusesAnswer}
use Rattle.ak_study.specs.CardPlaces.{buried_by_hand, suspended, unsuspended}
use Rattle.ak_study.specs.DayStarts.{RefusesStart}
use Rattle.ak_template.specs.declared.faces.PageFault.TheVariants as pages
use Rattle.ak_types.specs.TypeAdditions.{IsAdditionFault as IsNewTypeFault, RefusesTypeAddition}
use Rattle.ak_types.specs.TypeDeletions.{IsDeletionFault as IsTypeDeletionFault, RefusesDeletion as RefusesTypeDeletion}
use Rattle.ak_types.specs.TypeEdits.{IsTypeEditFault, RefusesTypeEdit}
use Rattle.ak_undo.specs.declared.steps.Step.{Step}

-- ---- the tests
-- no test: only what comes from outside refuses
abbrev pub RefusesNever : Refusal
RefusesNever fault = ⊥

-- the tests of an edit of the note of this id: it is held, and then those of the edit
abbrev pub RefusesChangedNote : ℤ → ℤ → (Note → NoteEdit) → Collection → Refusal
RefusesChangedNote at note change c =
    NeedsHeld (note_at c.rows note) (name_in tables.Note note) (λ held. RefusesNoteEdit at (change held) c)

-- the deck is not held. The start of a day neither takes decks nor gives any
abbrev pub RefusesNoDeck : ℤ → Collection → Refusal
RefusesNoDeck deck c fault = (deck_at c.rows deck ≡ None) × (fault ≡ faults.NoSuch (name_in tables.Deck deck))

-- the tests of a line that asks for the queue of a deck: that of the day's start comes first
abbrev pub RefusesAsking : ℤ → ℤ → Collection → Refusal
RefusesAsking at deck c = OrElse (RefusesStart at c) (RefusesNoDeck deck c)

-- the tests of a line, by the collection that was held and the undo list. A page is not among these: RefusesPage says its
-- tests, with the filters; nor is a line that drops a filter, of which EndsMute speaks. What stands here for them is never asked
abbrev pub Refuses : DeskLine → Turn → Collection → List Step → Refusal
Refuses (lines.AddNote note_type deck fields) t c steps = RefusesNewNote t.at (new_note t note_type deck fields) c
Refuses (lines.SetFields note fields) t c steps = RefusesChangedNote t.at note (λ held. other_fields held fields) c
Refuses (lines.SetTags note tags) t c steps = RefusesChangedNote t.at note (λ held. other_tags held tags) c
Refuses (lines.DeleteNotes notes) t c steps = RefusesNoteDeletion t.at notes c
Refuses (lines.DeleteDeck deck) t c steps = RefusesDeckDeletion t.at deck c
Refuses (lines.RenameDeck deck name) t c steps = RefusesRename t.at deck name c
Refuses (lines.MoveCards deck cards) t c steps = RefusesMove t.at deck cards c
Refuses (lines.UseOptions deck options) t c steps = RefusesUse t.at options deck c
Refuses (lines.SetSpread spread) t c steps = RefusesSpread t.at spread c
Refuses (lines.AddDeck name) t c steps = RefusesNewDeck t.at name c
Refuses (lines.AddOptions options) t c steps = RefusesNewOptions t.at options c
Refuses (lines.SetOptions options) t c steps = RefusesChange t.at options c
Refuses (lines.AddType note_type) t c steps = RefusesTypeAddition t.at note_type c
Refuses (lines.EditType allow note_type fields templates) t c steps =
    RefusesTypeEdit t.at (type_edit allow note_type fields templates) c
Refuses (lines.DeleteType allow note_type) t c steps = RefusesTypeDeletion t.at note_type allow c
Refuses (lines.DeleteOptions allow options) t c steps = RefusesOptionsDeletion t.at options allow c
Refuses (lines.Answer card button taken) t c steps = RefusesAnswer t.at (given_answer t card button taken) c
Refuses (lines.Next deck) t c steps = RefusesAsking t.at deck c
Refuses (lines.Counts deck) t c steps = RefusesAsking t.at deck c
Refuses (lines.Find search) t c steps = RefusesNever
Refuses (lines.Page card back) t c steps = RefusesNever
Refuses (lines.Mute filter) t c steps = RefusesNever
Refuses (lines.Suspend cards) t c steps = RefusesCardEdit t.at suspended cards c
Refuses (lines.Unsuspend cards) t c steps = RefusesCardEdit t.at unsuspended cards c
Refuses (lines.Bury cards) t c steps = RefusesCardEdit t.at buried_by_hand cards c
Refuses (lines.Flag value cards) t c steps = RefusesFlag t.at value cards c
Refuses lines.Undo t c steps = RefusesUndo t.at c steps
Refuses lines.Check t c steps = RefusesNever

-- ---- what a line may be refused by
-- the note of this id is not held, a note type is not, or a fault of the note that is made
abbrev pub IsChangeFaultOf : ℤ → DeskFault → Type 0
IsChangeFaultOf note fault =
    (fault ≡ faults.NoSuch (name_in tables.Note note)) ⊎ IsMissingFault tables.NoteType fault ⊎ IsMakingFault fault

-- the deck of this id is not held, or a fault of the end of an edit
abbrev pub IsAskingFault : ℤ → DeskFault → Type 0
IsAskingFault deck fault = (fault ≡ faults.NoSuch (name_in tables.Deck deck)) ⊎ IsEndFault fault

-- there is no filter of this name
abbrev pub IsNoFilter : List ℕ → DeskFault → Type 0
IsNoFilter filter fault = fault ≡ faults.Page (pages.NoFilter filter)

-- what a line may be refused by, also where it is not told what is held
abbrev pub MayRefuse : DeskLine → Turn → DeskFault → Type 0
MayRefuse (lines.AddNote note_type deck fields) t = IsAddFault (new_note t note_type deck fields)
MayRefuse (lines.SetFields note fields) t = IsChangeFaultOf note
MayRefuse (lines.SetTags note tags) t = IsChangeFaultOf note
MayRefuse (lines.DeleteNotes notes) t = IsMissingOrEnd tables.Note
MayRefuse (lines.DeleteDeck deck) t = IsDeckDeletionFault
MayRefuse (lines.RenameDeck deck name) t = IsRenameFault deck
MayRefuse (lines.MoveCards deck cards) t = IsMoveFault
MayRefuse (lines.UseOptions deck options) t = IsUseFault
MayRefuse (lines.SetSpread spread) t = IsEndFault
MayRefuse (lines.AddDeck name) t = IsPathFault
MayRefuse (lines.AddOptions options) t = IsNewOptionsFault
MayRefuse (lines.SetOptions options) t = IsChangeFault options.id
MayRefuse (lines.AddType note_type) t = IsNewTypeFault
MayRefuse (lines.EditType allow note_type fields templates) t = IsTypeEditFault note_type.id
MayRefuse (lines.DeleteType allow note_type) t = IsTypeDeletionFault note_type
MayRefuse (lines.DeleteOptions allow options) t = IsOptionsDeletionFault options
MayRefuse (lines.Answer card button taken) t = IsAnswerFault card
MayRefuse (lines.Next deck) t = IsAskingFault deck
MayRefuse (lines.Counts deck) t = IsAskingFault deck
MayRefuse (lines.Find search) t = IsFromOutside
MayRefuse (lines.Page card back) t = IsPageRefusal
MayRefuse (lines.Mute filter) t = IsNoFilter filter
MayRefuse (lines.Suspend cards) t = IsMissingOrEnd tables.Card
MayRefuse (lines.Unsuspend cards) t = IsMissingOrEnd tables.Card
MayRefuse (lines.Bury cards) t = IsMissingOrEnd tables.Card
MayRefuse (lines.Flag value cards) t = IsMissingOrEnd tables.Card
MayRefuse lines.Undo t = IsUndoFault
MayRefuse lines.Check t = IsFromOutside

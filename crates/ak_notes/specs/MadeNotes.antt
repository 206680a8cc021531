-- What a call makes of a note, and the edit that asks for it.
use Rattle.std.specs.Prelude.{◌≡◌, ◌⊎◌, ⊤, ℕ, ℤ, List, [], ◌∷◌, Option, Some, None, IfErr, IfOk, Result}
use Rattle.ak_base.specs.declared.cards.Card.{Card}
use Rattle.ak_base.specs.declared.names.Name.{Name}
use Rattle.ak_base.specs.declared.rows.Row.TheVariants as rows
use Rattle.ak_edit.specs.Ends.{RefusesEnd}
use Rattle.ak_edit.specs.Overlays.{Overlay, conf_over, put_over, tag_over}
use Rattle.ak_edit.specs.Refusals.{AnswersBy, IsFromOutside, Refusal}
use Rattle.ak_edit.specs.declared.desk_faults.DeskFault.{DeskFault}
use Rattle.ak_edit.specs.declared.desk_faults.DeskFault.TheVariants as faults
use Rattle.ak_keep.specs.Collections.{Collection, Holding, Rows}
use Rattle.ak_keep.specs.Keepers.{Keeping, WhereTold}
use Rattle.ak_keep.specs.declared.readables.Lookup.{Ghosts}
use Rattle.ak_merge.specs.EditBuilding.{unedited, with_conf, with_row, with_tags}
use Rattle.ak_merge.specs.Edits.{Edit}
use Rattle.ak_notes.specs.declared.made_notes.MadeNote.{MadeNote}

-- ---- the rule
-- with each of these cards under its name
abbrev pub with_cards : List Card → Edit → Edit
with_cards [] edit = edit
with_cards (card ∷ cards) edit = with_cards cards (with_row (rows.Card card) edit)

-- the edit that puts the note and its new cards, sets the settings and has these tags held too
abbrev pub made_edit : List (List ℕ) → MadeNote → Collection → Edit
made_edit tags made c =
    with_tags tags (with_conf made.conf (with_cards made.cards (with_row (rows.Note made.note) (unedited c))))

-- ---- refusals
-- the tests with a row that a call needs: it is held, and then those that are made with it
abbrev pub NeedsHeld : {A : Type 0} → Option A → Name → (A → Refusal) → Refusal
NeedsHeld None name tests fault = fault ≡ faults.NoSuch name
NeedsHeld (Some row) name tests fault = tests row fault

-- where it is told what is held, this row of the name is not, or the fault comes from outside
abbrev pub IsMissingIn : {A : Type 0} → Keeping → (Rows → Option A) → Name → DeskFault → Type 0
IsMissingIn k row name fault =
    IsFromOutside fault ⊎ (WhereTold k (λ h. row h.rows ≡ None) × (fault ≡ faults.NoSuch name))

-- the same of a part of a call that looks for the row
abbrev pub MissesIn : {Self T A : Type 0} → Ghosts Self → Self → Result T DeskFault → (Rows → Option A) → Name → Type 0
MissesIn K was result row name = IfErr result (IsMissingIn (K.keeping was) row name)

-- the answer of a part of a call with these tests of the rows that are held, where they are told
abbrev pub AnswersIn : {Self T : Type 0} → Ghosts Self → Self → Result T DeskFault → (Rows → Refusal) → Type 0
AnswersIn K was result tests = WhereTold (K.keeping was) (λ h. AnswersBy (tests h.rows) result)

-- what a part of a call makes, of the rows that are held, where they are told
abbrev pub MakesIn : {Self T : Type 0} → Ghosts Self → Self → Result T DeskFault → (T → Holding → Type 0) → Type 0
MakesIn K was result IsMade = IfOk result (λ made. WhereTold (K.keeping was) (IsMade made))

-- a row that is made does not pass its check, or a stamp or the moment ends
abbrev pub RefusesMade : ℤ → List (List ℕ) → Collection → (MadeNote → Type 0) → Refusal
RefusesMade at tags c IsMade fault = (made : MadeNote) × IsMade made × RefusesEnd at c (made_edit tags made c) fault

-- what a call that makes a note may answer besides rows that are not held: faults of what is given, of ids, of fronts, of the
-- edit's end, and what comes from outside
abbrev pub IsMakingFault : DeskFault → Type 0
IsMakingFault (faults.NoSuch name) = ⊥
IsMakingFault (faults.FieldCount want got) = ⊤
IsMakingFault (faults.DefaultKept name) = ⊥
IsMakingFault faults.StampEnd = ⊤
IsMakingFault faults.IdEnd = ⊤
IsMakingFault (faults.Row fault) = ⊤
IsMakingFault (faults.Template fault) = ⊤
IsMakingFault (faults.NotAnswerable queue) = ⊥
IsMakingFault faults.NothingToUndo = ⊥
IsMakingFault faults.SchemaAsk = ⊥
IsMakingFault (faults.InUse name) = ⊥
IsMakingFault faults.Failed = ⊤
IsMakingFault (faults.BadMap place) = ⊥
IsMakingFault (faults.Page fault) = ⊥
IsMakingFault faults.Memory = ⊤

-- what a part that asks no keeper may answer: faults of what is given and of fronts, and that memory is out
abbrev pub IsGivenFault : DeskFault → Type 0
IsGivenFault (faults.NoSuch name) = ⊥
IsGivenFault (faults.FieldCount want got) = ⊤
IsGivenFault (faults.DefaultKept name) = ⊥
IsGivenFault faults.StampEnd = ⊥
IsGivenFault faults.IdEnd = ⊥
IsGivenFault (faults.Row fault) = ⊤
IsGivenFault (faults.Template fault) = ⊤
IsGivenFault (faults.NotAnswerable queue) = ⊥
IsGivenFault faults.NothingToUndo = ⊥
IsGivenFault faults.SchemaAsk = ⊥
IsGivenFault (faults.InUse name) = ⊥
IsGivenFault faults.Failed = ⊥
IsGivenFault (faults.BadMap place) = ⊥
IsGivenFault (faults.Page fault) = ⊥
IsGivenFault faults.Memory = ⊤

-- ---- the changes that are made for it
-- each of the cards was put
abbrev pub cards_over : List Card → Overlay → Overlay
cards_over [] o = o
cards_over (card ∷ cards) o = cards_over cards (put_over (rows.Card card) o)

-- each of the tags came
abbrev pub tags_over : List (List ℕ) → Overlay → Overlay
tags_over [] o = o
tags_over (tag ∷ tags) o = tags_over tags (tag_over tag o)

-- all that is made was put
abbrev pub made_over : List (List ℕ) → MadeNote → Overlay → Overlay
made_over tags made o = tags_over tags (conf_over made.conf (cards_over made.cards (put_over (rows.Note made.note) o)))

-- How calls are answered as lines.
use Rattle.std.specs.Prelude.{Result, Ok, Err}
use Rattle.ak_desk_texts.specs.declared.answers.DeskAnswer.{DeskAnswer}
use Rattle.ak_desk_texts.specs.declared.line_refusals.LineRefusal.{LineRefusal}
use Rattle.ak_desk_texts.specs.declared.line_refusals.LineRefusal.TheVariants as refusals
use Rattle.ak_edit.specs.declared.desk_faults.DeskFault.{DeskFault}
use Rattle.ak_edit.specs.declared.desk_faults.DeskFault.TheVariants as desk
use Rattle.ak_faults.specs.Causes.{Health, HasCauseOf}
use Rattle.ak_filtered.specs.declared.faults.FilteredFault.{FilteredFault}
use Rattle.ak_filtered.specs.declared.faults.FilteredFault.TheVariants as filtered

-- the answer of a line that is one call; its refusal is the desk's
abbrev pub by_desk : Result DeskAnswer DeskFault → Result DeskAnswer LineRefusal
by_desk (Ok answer) = Ok answer
by_desk (Err fault) = Err (refusals.Desk fault)

-- a fault of a call on filtered decks as a refusal: being out of memory is the desk's
abbrev pub line_refusal : FilteredFault → LineRefusal
line_refusal (filtered.Desk fault) = refusals.Desk fault
line_refusal (filtered.NotFiltered deck) = refusals.NotFiltered deck
line_refusal (filtered.Search fault) = refusals.Search fault
line_refusal (filtered.BadPlan deck) = refusals.BadPlan deck
line_refusal filtered.Memory = refusals.Desk desk.Memory

-- the answer of a call on filtered decks with this one for what it gives
abbrev pub by_call : {T : Type 0} → (T → DeskAnswer) → Result T FilteredFault → Result DeskAnswer LineRefusal
by_call answer (Ok value) = Ok (answer value)
by_call answer (Err fault) = Err (line_refusal fault)

-- a result without what it gives
abbrev pub without_value : {T : Type 0} → Result T DeskFault → Result (Unit {0}) DeskFault
without_value (Ok value) = Ok tt
without_value (Err fault) = Err fault

-- the count of faults never falls, and it rose if the keeper failed; a keeper that is known not to fail did not
abbrev pub RefusalCause : {T : Type 0} → Health → Health → Result T LineRefusal → Type 0
RefusalCause before now result = HasCauseOf (refusals.Desk desk.Failed) before now result

use Rattle.std.proofs.Common.{◌≡◌, drop}
use Rattle.ak_notes.specs.GivenTexts.{fields_fault}
use Rattle.ak_notes.proofs.given_texts.fields_fault.Given as goal

-- the fields so far have no fault
abbrev pub invariant-loop-field : goal.invariant-loop-field
invariant-loop-field l = fields_fault (drop l.field-index l.fields) ≡ fields_fault l.fields

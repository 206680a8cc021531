use Rattle.std.proofs.Common.{◌≡◌, drop}
use Rattle.ak_notes.specs.GivenTexts.{tags_fault}
use Rattle.ak_notes.proofs.given_texts.tags_fault.Given as goal

-- the tags so far have no fault
abbrev pub invariant-loop-tag : goal.invariant-loop-tag
invariant-loop-tag l = tags_fault (drop l.tag-index l.tags) ≡ tags_fault l.tags

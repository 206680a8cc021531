use Rattle.std.proofs.Common.{◌≡◌, drop}
use Rattle.ak_edit_calls.specs.Calls.{has_id}
use Rattle.ak_notes.proofs.lacking_notes.has_id.Given as goal

-- none of the numbers so far is it
abbrev pub invariant-loop-other : goal.invariant-loop-other
invariant-loop-other l = has_id (drop l.other-index l.ids) l.id ≡ has_id l.ids l.id

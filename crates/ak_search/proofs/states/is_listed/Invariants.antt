use Rattle.std.proofs.Common.{◌≡◌, drop}
use Rattle.ak_search.specs.Holds.{is_listed}
use Rattle.ak_search.proofs.states.is_listed.Given as goal

-- the ids that are left decide
abbrev pub invariant-loop-listed : goal.invariant-loop-listed
invariant-loop-listed l = is_listed l.id (drop l.listed-index l.ids) ≡ is_listed l.id l.ids

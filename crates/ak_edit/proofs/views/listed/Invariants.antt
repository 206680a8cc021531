use Rattle.std.proofs.Common.{◌≡◌, ◌++◌}
use Rattle.ak_edit.proofs.views.listed.Given as goal

-- the ids so far and those that are left are all
abbrev pub invariant-loop-id : goal.invariant-loop-id
invariant-loop-id l = l.made ++ l.id-iterator ≡ l.fn.list ++ l.ids.keys

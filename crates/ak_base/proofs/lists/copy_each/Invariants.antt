use Rattle.std.proofs.Common.{◌≡◌, take}
use Rattle.ak_base.proofs.lists.copy_each.Given as goal

-- those so far are copied
abbrev pub invariant-loop-item : goal.invariant-loop-item
invariant-loop-item g l = l.made ≡ take l.item-index l.fn.items

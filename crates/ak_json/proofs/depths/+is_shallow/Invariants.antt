use Rattle.std.proofs.Common.{◌≡◌, ◌-◌, drop}
use Rattle.serde_json.specs.View.{view, items_view, members_view}
use Rattle.ak_json.specs.Depths.{is_shallow, are_shallow, have_shallow}
use Rattle.ak_json.proofs.depths.+is_shallow.Given as goal

abbrev pub decreases-is_shallow : goal.decreases-is_shallow
decreases-is_shallow l = l.most

-- the values so far are shallow
abbrev pub invariant-loop-inner : goal.invariant-loop-inner
invariant-loop-inner l =
    are_shallow (l.most - 1) (items_view (drop l.inner-index l.inner-items)) ≡ is_shallow l.most (view l.value)

-- so are the members
abbrev pub invariant-loop-inner-2 : goal.invariant-loop-inner-2
invariant-loop-inner-2 l = have_shallow (l.most - 1) (members_view l.inner-iterator) ≡ is_shallow l.most (view l.value)

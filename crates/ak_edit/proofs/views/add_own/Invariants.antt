use Rattle.std.proofs.Common.{◌≡◌, ◌||◌, ℤ}
use Rattle.ak_edit.specs.Views.{has_id, has_own}
use Rattle.ak_edit.proofs.views.add_own.Given as goal

-- the ids so far and those of the entries that are left are all
abbrev pub invariant-loop-name : goal.invariant-loop-name
invariant-loop-name l = (id : ℤ) → (has_id l.ids.keys id || has_own l.note l.name-iterator id) ≡ (has_own l.note l.rows.entries id || has_id l.fn.ids.keys id)

use Rattle.std.proofs.Common.{◌≡◌, ◌||◌, ℤ, drop}
use Rattle.ak_edit.specs.Views.{has_id, has_unchanged}
use Rattle.ak_edit.proofs.views.add_unchanged.Given as goal

-- the ids so far and those of the held ones that are left are all
abbrev pub invariant-loop-id : goal.invariant-loop-id
invariant-loop-id l =
    (id : ℤ) → (has_id l.ids.keys id || has_unchanged l.rows.entries (drop l.id-index l.held) id) ≡ (has_unchanged l.rows.entries l.held id || has_id l.fn.ids.keys id)

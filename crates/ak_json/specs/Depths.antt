-- How deep a value nests, and whether its numbers are whole.
use Rattle.std.specs.Prelude.{ℕ, nat_lt, ◌-◌, Bool, true, not, ◌&&◌}
use Rattle.serde_json.specs.Data.{Data, null, boolean, number, string, array, object, Items, no_items, item, Members, no_members, member}
use Rattle.serde_json.specs.Find.{is_float}

-- the value nests at most so deep, and all its numbers are whole
abbrev mutual
  pub is_shallow : ℕ → Data → Bool
  is_shallow most null = true
  is_shallow most (boolean b) = true
  is_shallow most (number n) = not (is_float n)
  is_shallow most (string s) = true
  is_shallow most (array ds) = nat_lt 0 most && are_shallow (most - 1) ds
  is_shallow most (object ms) = nat_lt 0 most && have_shallow (most - 1) ms

  pub are_shallow : ℕ → Items → Bool
  are_shallow most no_items = true
  are_shallow most (item d ds) = is_shallow most d && are_shallow most ds

  pub have_shallow : ℕ → Members → Bool
  have_shallow most no_members = true
  have_shallow most (member k d ms) = is_shallow most d && have_shallow most ms

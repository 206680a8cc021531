-- The members of an object that a form knows, and those that it does not.
use Rattle.std.specs.Prelude.{ℕ, List, [], ◌∷◌, Bool, false, not, ◌&&◌, ◌||◌, ◌==◌, if◌then◌else◌, Option, Some, None}
use Rattle.std.specs.Cmp.Lexicographic.{pointwise}
use Rattle.serde_json.specs.Data.{Members, no_members, member}
use Rattle.ak_json.specs.Depths.{is_shallow}
use Rattle.ak_json.specs.Keys.{key_text}
use Rattle.ak_json.specs.declared.keys.Place.{Place}
use Rattle.ak_json.specs.declared.keys.Place.TheVariants as places
use Rattle.ak_json.specs.declared.kinds.Kind.{Kind}

-- the columns of a row, each with where it stands and what it holds
abbrev pub Form : Type 0
Form = List (Place × Kind)

-- the column is the member of that key
abbrev pub is_place : Place → List ℕ → Bool
is_place (places.Key own) key = pointwise ◌==◌ (key_text own) key
is_place (places.At place) key = false

-- some column is
abbrev pub knows : Form → List ℕ → Bool
knows [] key = false
knows (column ∷ columns) key = is_place column.0 key || knows columns key

-- the first key, in the order of bytes, whose value nests over 63 deep or holds a number that is not whole
abbrev pub deep_member : Members → Option (List ℕ)
deep_member no_members = None
deep_member (member k d ms) = if is_shallow 63 d then deep_member ms else Some k

-- the members of which no column is one
abbrev pub unknown : Form → Members → Members
unknown form no_members = no_members
unknown form (member k d ms) = if knows form k then unknown form ms else member k d (unknown form ms)

-- one of those nests over 63 deep or holds a number that is not whole
abbrev pub has_deep : Form → Members → Bool
has_deep form no_members = false
has_deep form (member k d ms) = (not (knows form k) && not (is_shallow 63 d)) || has_deep form ms

-- The cards of a note, read from their keys.
use Rattle.std.specs.Prelude.{ℤ, if◌then◌else◌, Option, Some, None, List, [], ◌∷◌, ◌++◌, filter}
use Rattle.std.specs.BTreeMap.Range.{range_contains}
use Rattle.std.specs.Ordering.{int_eq}
use Rattle.std.specs.declared.ops.Bound.TheVariants.{Excluded, Unbounded}
use Rattle.ak_base.specs.declared.names.Name.{Name}
use Rattle.ak_memory.specs.NoteKeys.{NoteKey, key_cmp}

-- the name of a key, if it has one
abbrev pub name_in : Option Name → List Name
name_in None = []
name_in (Some name) = name ∷ []

-- the names in the keys of a note, up to the first key of another
abbrev pub names_run : ℤ → List NoteKey → List Name
names_run note [] = []
names_run note (key ∷ keys) = if int_eq key.0 note then name_in key.1 ++ names_run note keys else []

-- the keys from the first of a note on
abbrev pub keys_from : ℤ → List NoteKey → List NoteKey
keys_from note keys = filter (range_contains key_cmp (Excluded (note, None)) Unbounded) keys

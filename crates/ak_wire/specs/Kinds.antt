-- What stands under the keys of messages.
use Rattle.std.specs.Prelude.{◌==◌, ℕ, ℤ, pos, negsuc, int_le, int_lt, nat_le, List, [], ◌∷◌, codes, Bool, true, false, ◌&&◌, ◌||◌, not, Option, Some, None, option_and_then}
use Rattle.std.specs.Option.{is_some, option_map_or}
use Rattle.std.specs.Cmp.Lexicographic.{pointwise}
use Rattle.ak_base.specs.Heads.{is_tag_name}
use Rattle.serde_json.specs.Data.{Data, Items, no_items, item, Members, no_members, member}
use Rattle.serde_json.specs.Find.{at, as_null, as_number, as_u64, as_str, as_bool, as_array, as_object}
use Rattle.ak_json.specs.Kinds.{integer_of, is_number_within}
use Rattle.ak_wire.specs.Words.{word_of}
use Rattle.ak_wire.specs.declared.kinds.Kind.{Kind}
use Rattle.ak_wire.specs.declared.kinds.Kind.TheVariants as kinds

-- a number is over the one before it, if there is one
abbrev pub is_after : Option ℤ → ℤ → Bool
is_after None id = true
is_after (Some before) id = int_lt before id

-- the values are whole numbers that ascend, the first over the one before them
abbrev pub ids_after : Option ℤ → Items → Bool
ids_after before no_items = true
ids_after before (item d ds) = option_map_or (λ id. is_after before id && ids_after (Some id) ds) (integer_of d) false

-- the values are whole numbers that ascend, none twice
abbrev pub are_ids : Items → Bool
are_ids ds = ids_after None ds

-- the whole number at a place of a list
abbrev pub number_at : ℕ → Data → Option ℤ
number_at place d = option_and_then integer_of (at place d)

-- the number without a sign at a place of a list
abbrev pub unsigned_at : ℕ → Data → Option ℕ
unsigned_at place d = option_and_then as_u64 (option_and_then as_number (at place d))

-- a count stands at a place: a whole number from 0 to the last that fits 64 bits with its sign
abbrev pub is_count : ℕ → Data → Bool
is_count place d = option_map_or (λ n. nat_le n 9_223_372_036_854_775_807) (unsigned_at place d) false

-- the number 0 stands at a place
abbrev pub is_zero : ℕ → Data → Bool
is_zero place d = is_number_within (pos 0) (pos 0) (number_at place d)

-- a list stands at a place
abbrev pub is_list : ℕ → Data → Bool
is_list place d = is_some (option_and_then as_array (at place d))

-- the array `[0,0,0]`: the cards that are due, which this project does not count
abbrev pub is_nothing_due : Data → Bool
is_nothing_due d = is_zero 0 d && (is_zero 1 d && (is_zero 2 d && not (is_some (at 3 d))))

-- the counts of seven kinds
abbrev pub are_seven_counts : Data → Bool
are_seven_counts d =
    is_count 1 d && (is_count 2 d && (is_count 3 d && (is_count 4 d && (is_count 5 d && (is_count 6 d && is_count 7 d)))))

-- the counts of a side: `[[0,0,0],cards,notes,revlog,graves,models,decks,options]`
abbrev pub are_counts : Data → Bool
are_counts d = option_map_or is_nothing_due (at 0 d) false && (are_seven_counts d && not (is_some (at 8 d)))

-- a list of the number of a fault of a collection, from 1 to 4, and the id of a row
abbrev pub is_fault_row : Data → Bool
is_fault_row d =
    is_number_within (pos 1) (pos 4) (number_at 0 d) && (is_number_within (pos 1) (pos 9_007_199_254_740_991) (number_at 1 d) && not (is_some (at 2 d)))

-- nothing, or the fault of a collection
abbrev pub is_fault : Data → Bool
is_fault d = is_some (as_null d) || is_fault_row d

-- a text of `ok` or `bad`
abbrev pub is_status : List ℕ → Bool
is_status text = pointwise ◌==◌ text (codes "ok") || pointwise ◌==◌ text (codes "bad")

-- the values are names of tags
abbrev pub are_tag_names : Items → Bool
are_tag_names no_items = true
are_tag_names (item d ds) = option_map_or is_tag_name (as_str d) false && are_tag_names ds

-- the values are two lists
abbrev pub are_two_lists : Data → Bool
are_two_lists d =
    is_list 0 d && (is_list 1 d && not (is_some (at 2 d)))

-- each key is the name of a tag, and its value a usn
abbrev pub are_tags : Members → Bool
are_tags no_members = true
are_tags (member k d ms) = is_tag_name k && (is_number_within (negsuc 0) (pos 2_147_483_647) (integer_of d) && are_tags ms)

-- the value is of the kind
abbrev pub holds : Kind → Data → Bool
holds kinds.Integer d = is_some (integer_of d)
holds (kinds.Within least most) d = is_number_within least most (integer_of d)
holds kinds.Text d = is_some (as_str d)
holds kinds.Bool d = is_some (as_bool d)
holds kinds.Values d = is_some (as_array d)
holds kinds.Members d = is_some (as_object d)
holds kinds.Ids d = option_map_or are_ids (as_array d) false
holds kinds.Counts d = are_counts d
holds kinds.Fault d = is_fault d
holds kinds.Status d = option_map_or is_status (as_str d) false
holds kinds.Word d = is_some (option_and_then word_of (as_str d))
holds kinds.TagNames d = option_map_or are_tag_names (as_array d) false
holds kinds.TwoLists d = are_two_lists d
holds kinds.Tags d = option_map_or are_tags (as_object d) false

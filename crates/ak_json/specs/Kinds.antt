-- What the columns of a row hold.
use Rattle.std.specs.Prelude.{◌≡◌, ℕ, ◌^◌, ◌-◌, ℤ, int_le, List, Bool, true, false, ◌&&◌, not, Option, Some, None, option_and_then}
use Rattle.std.specs.Option.{is_some, option_map_or, option_or}
use Rattle.serde_json.specs.Data.{Data, Items, no_items, item}
use Rattle.serde_json.specs.Read.{read}
use Rattle.serde_json.specs.Find.{at, as_i64, as_number, as_str, as_bool, as_array, as_object}
use Rattle.ak_json.specs.Decimals.{decimal_of}
use Rattle.ak_json.specs.Depths.{is_shallow}
use Rattle.ak_json.specs.declared.kinds.Kind.{Kind}
use Rattle.ak_json.specs.declared.kinds.Kind.TheVariants as kinds

-- the whole number that a value is, if it is one that fits 64 bits with its sign
abbrev pub integer_of : Data → Option ℤ
integer_of d = option_and_then as_i64 (as_number d)

-- the thousandths of a decimal text, if a value is one
abbrev pub decimal_in : Data → Option ℤ
decimal_in d = option_and_then decimal_of (as_str d)

-- the thousandths that a value is: a whole number of them, or a decimal text
abbrev pub permille_of : Data → Option ℤ
permille_of d = option_or (integer_of d) (decimal_in d)

-- there is a number from the least to the most
abbrev pub is_number_within : ℤ → ℤ → Option ℤ → Bool
is_number_within least most None = false
is_number_within least most (Some z) = int_le least z && int_le z most

-- all of a list are whole numbers
abbrev pub are_integers : Items → Bool
are_integers no_items = true
are_integers (item d ds) = is_some (integer_of d) && are_integers ds

-- the element at a place is a whole number
abbrev pub is_part : ℕ → Data → Bool
is_part place d = is_some (option_and_then integer_of (at place d))

-- the value is of the kind
abbrev pub holds : Kind → Data → Bool
holds kinds.Integer d = is_some (integer_of d)
holds (kinds.Within least most) d = is_number_within least most (integer_of d)
holds kinds.Text d = is_some (as_str d)
holds kinds.Bool d = is_some (as_bool d)
holds kinds.Decimal d = is_some (decimal_in d)
holds kinds.Steps d = option_map_or are_integers (as_array d) false
holds kinds.Pair d = is_part 0 d && (is_part 1 d && not (is_some (at 2 d)))
holds kinds.Fields d = is_some (as_array d)
holds kinds.Templates d = is_some (as_array d)
holds kinds.New d = is_some (as_object d)
holds kinds.Rev d = is_some (as_object d)
holds kinds.Lapse d = is_some (as_object d)
holds kinds.OldNew d = is_some (as_object d)
holds kinds.OldRev d = is_some (as_object d)
holds kinds.OldLapse d = is_some (as_object d)
holds kinds.Ignored d = is_shallow (2 ^ 64 - 1) d

-- a column of the kind may be missing
abbrev pub may_lack : Kind → Bool
may_lack kinds.Ignored = true
may_lack other = false

-- the value is that of some text
abbrev pub IsOfText : Data → Type 0
IsOfText d = (text : List ℕ) × (read text ≡ Some d)

-- The join of a device's collection and a server's, and when it makes no difference which of the two is which.
use Rattle.ak_keep.specs.Collections.{Collection}
use Rattle.std.specs.Prelude.{◌≡◌, ℕ, ◌||◌, IsTrue, if◌then◌else◌, int_lt, List, Option, Some, None}
use Rattle.ak_base.specs.Contents.{same_content}
use Rattle.ak_base.specs.Rows.{stamp_of}
use Rattle.ak_base.specs.declared.heads.Head.{Head}
use Rattle.ak_base.specs.declared.names.Name.{Name}
use Rattle.ak_base.specs.declared.rows.Row.{Row}
use Rattle.ak_keep.specs.Graves.{RowsByName, is_dead}
use Rattle.ak_merge.specs.Holdings.{row_under, has_tag, Content}

-- two rows of one name with equal stamps are equal, usns aside. Reviews and graves have one stamp
abbrev pub AreApart : RowsByName → RowsByName → Type 0
AreApart a b = (name : Name) (x y : Row) → a name ≡ Some x → b name ≡ Some y → stamp_of x ≡ stamp_of y → IsTrue (same_content x y)

-- of the first's row and the second's the first's if it is strictly newer, else the second's; or the only one
abbrev pub newest : Option Row → Option Row → Option Row
newest None y = y
newest (Some x) None = Some x
newest (Some x) (Some y) = if int_lt (stamp_of y) (stamp_of x) then Some x else Some y

-- a name stands in the join exactly if one side holds it and it is dead in neither, with the newest row. No review and no
-- grave is ever dead, and their stamps are equal: of them the join is the union, the second's where both hold one
abbrev pub joined_under : RowsByName → RowsByName → RowsByName
joined_under a b name = if is_dead a name || is_dead b name then None else newest (a name) (b name)

-- the head of the side that was changed last: the first one's exactly if it was changed after the second
abbrev pub newest_head : Head → Head → Head
newest_head a b = if int_lt b.moment a.moment then a else b

-- what stands under each name, the tags of both, and the settings and the moment of creation of the side that was changed last. The
-- second is the server's: its row stands if the two are as new, and its settings if both were changed at one moment
abbrev pub join : Collection → Collection → Content
join a b = record {
  rows = joined_under (row_under a) (row_under b);
  tags = λ (name : List ℕ). has_tag a.head.tags name || has_tag b.head.tags name;
  conf = (newest_head a.head b.head).conf;
  crt = (newest_head a.head b.head).crt;
}

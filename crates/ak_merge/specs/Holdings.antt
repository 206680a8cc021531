-- What a collection holds, and its content: what a sync brings together.
use Rattle.ak_keep.specs.Collections.{Collection}
use Rattle.ak_keep.specs.Graves.{RowsByName, is_dead}
use Rattle.ak_base.specs.Rows.{IsChecked, name_of}
use Rattle.std.specs.Prelude.{◌≡◌, ℕ, ℤ, Bool, true, false, ◌==◌, IsTrue, List, find, Option, Some, None, is_some}
use Rattle.std.specs.Cmp.Lexicographic.{pointwise}
use Rattle.std.specs.FinMap.{get}
use Rattle.std.specs.Option.{option_map}
use Rattle.ak_base.specs.Contents.{same_content}
use Rattle.ak_base.specs.declared.heads.Conf.{Conf}
use Rattle.ak_base.specs.declared.heads.Tag.{Tag}
use Rattle.ak_base.specs.declared.names.Name.{Name}
use Rattle.ak_base.specs.declared.names.Table.{Table}
use Rattle.ak_base.specs.declared.rows.Row.{Row}

-- what stands under each name of a collection
abbrev pub row_under : Collection → RowsByName
row_under c = get c.rows

-- each row stands under its own name
abbrev pub AreNamed : RowsByName → Type 0
AreNamed at = (name : Name) (row : Row) → at name ≡ Some row → name_of row ≡ name

-- each row's columns are in their ranges
abbrev pub AreChecked : RowsByName → Type 0
AreChecked at = (name : Name) (row : Row) → at name ≡ Some row → IsChecked row

-- the name of a row of this table
abbrev pub name_in : Table → ℤ → Name
name_in table id = record { table = table; id = id }

-- no row stands beside its own grave
abbrev pub IsSingle : RowsByName → Type 0
IsSingle at = (name : Name) → is_dead at name ≡ true → at name ≡ None

-- ---- tags
-- the usn of the tag of this name
abbrev pub tag_usn : List Tag → List ℕ → Option ℤ
tag_usn tags name = option_map (λ (tag : Tag). tag.usn) (find (λ (tag : Tag). pointwise ◌==◌ tag.name name) tags)

-- whether a tag of this name is held
abbrev pub has_tag : List Tag → List ℕ → Bool
has_tag tags name = is_some (tag_usn tags name)

-- ---- content
-- what stands under each name, the tags by name, the settings and the moment of creation. Two contents are compared
-- without regard to usns; moments are no part of them
pub record Content : Type 0 where
  pub rows : RowsByName
  pub tags : List ℕ → Bool
  pub conf : Conf
  pub crt : ℤ

-- the content of a collection
abbrev pub content_of : Collection → Content
content_of c = record { rows = row_under c; tags = has_tag c.head.tags; conf = c.head.conf; crt = c.head.crt }

-- nothing on either side, or rows that are equal but for the usn
abbrev pub same_held : Option Row → Option Row → Bool
same_held None None = true
same_held None (Some y) = false
same_held (Some x) None = false
same_held (Some x) (Some y) = same_content x y

-- equal contents, usns aside
pub record SameContent (one other : Content) : Type 0 where
  pub rows : (name : Name) → IsTrue (same_held (one.rows name) (other.rows name))
  pub tags : (name : List ℕ) → one.tags name ≡ other.tags name
  pub conf : one.conf ≡ other.conf
  pub crt : one.crt ≡ other.crt

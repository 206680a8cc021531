-- The ranges of a collection's head.
use Rattle.std.specs.Prelude.{◌≡◌, ℕ, ℤ, pos, negsuc, ◌≤ℤ◌, ◌≤◌, ◌&&◌, Bool, nat_le, int_le, List, [], ◌∷◌, map, length, ⊤}
use Rattle.std.specs.List.{All}
use Rattle.std.specs.List.Sorted.{IsStrictlySortedBy}
use Rattle.std.specs.Cmp.Lexicographic.{slice_cmp}
use Rattle.std.specs.Ordering.{nat_cmp}
use Rattle.std.specs.declared.cmp.Ordering.TheVariants.{Less}
use Rattle.ak_base.specs.Limits.{last_usn, last_head_usn, last_stamp, last_moment}
use Rattle.ak_base.specs.declared.heads.Conf.{Conf}
use Rattle.ak_base.specs.declared.heads.Tag.{Tag}
use Rattle.ak_base.specs.declared.heads.Head.{Head}

-- a whole number from the least to the most
pub record IsWithin (least : ℤ) (most : ℤ) (number : ℤ) : Type 0 where
  pub low : least ≤ℤ number
  pub high : number ≤ℤ most

-- whether a whole number is one from the least to the most
abbrev pub is_within : ℤ → ℤ → ℤ → Bool
is_within least most number = int_le least number && int_le number most

-- the numbers of the settings are in their ranges: this holds of settings as they are read
pub record AreConfNumbersInRange (c : Conf) : Type 0 where
  pub new_spread : IsWithin (pos 0) (pos 2) c.new_spread
  pub collapse : IsWithin (pos 0) (pos 86_400) c.collapse
  pub next_pos : IsWithin (pos 0) (pos 2_147_483_647) c.next_pos
  pub last_unburied : IsWithin (negsuc 9_999_999) (pos 100_000_000) c.last_unburied

-- the settings are in the range that a head has: their rest has at most 262,144 bytes too
pub record IsConfInRange (c : Conf) : Type 0 where
  pub numbers : AreConfNumbersInRange c
  pub rest : length c.rest.text ≤ 262_144

-- a tag's name has 1 to 512 bytes, and its usn is that of a row
pub record IsTagInRange (t : Tag) : Type 0 where
  pub some : 1 ≤ length t.name
  pub short : length t.name ≤ 512
  pub usn : IsWithin (negsuc 0) last_usn t.usn

-- whether this is the name of a tag: it has 1 to 512 bytes
abbrev pub is_tag_name : List ℕ → Bool
is_tag_name name = nat_le 1 (length name) && nat_le (length name) 512

-- the names of the tags
abbrev pub tag_names : List Tag → List (List ℕ)
tag_names tags = map (λ t. t.name) tags

-- a moment in milliseconds
abbrev pub IsMoment : ℤ → Type 0
IsMoment moment = IsWithin (pos 0) last_moment moment

-- the numbers of a head are in their ranges, and so are its settings and its tags; the tags' names are
-- distinct and ascend by bytes
pub record IsHeadInRange (h : Head) : Type 0 where
  pub crt : IsWithin (pos 0) last_stamp h.crt
  pub moment : IsMoment h.moment
  pub schema : IsMoment h.schema
  pub usn : IsWithin (pos 0) last_head_usn h.usn
  pub last_sync : IsMoment h.last_sync
  pub conf : IsConfInRange h.conf
  pub tags : All IsTagInRange h.tags
  pub ascending : IsStrictlySortedBy (slice_cmp nat_cmp) (tag_names h.tags)

-- the moments and the usn of a head are in their ranges
pub record AreMomentsInRange (m : ℤ) (s : ℤ) (u : ℤ) (l : ℤ) : Type 0 where
  pub moment : IsMoment m
  pub schema : IsMoment s
  pub usn : IsWithin (pos 0) last_head_usn u
  pub last_sync : IsMoment l

-- the second of a head's creation, its moments and its usn are in their ranges
pub record AreHeadNumbersInRange (h : Head) : Type 0 where
  pub crt : IsWithin (pos 0) last_stamp h.crt
  pub moments : AreMomentsInRange h.moment h.schema h.usn h.last_sync

-- every tag is in its range, and their names are distinct and ascend by bytes
pub record AreTagsInRange (ts : List Tag) : Type 0 where
  pub each : All IsTagInRange ts
  pub ascending : IsStrictlySortedBy (slice_cmp nat_cmp) (tag_names ts)

-- a tag's name is before that of the first of others, if there are any
abbrev pub IsBeforeFirst : Tag → List Tag → Type 0
IsBeforeFirst tag [] = ⊤
IsBeforeFirst tag (next ∷ others) = slice_cmp nat_cmp tag.name next.name ≡ Less

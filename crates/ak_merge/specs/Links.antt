-- When a device's collection and a server's committed one are linked: what a sync by usns rests on.
use Rattle.ak_base.specs.Tables.{has_stamps}
use Rattle.ak_keep.specs.Collections.{Collection, is_pending, is_settled}
use Rattle.std.specs.Prelude.{◌≡◌, ◌≢◌, ℕ, ℤ, pos, negsuc, ◌≤ℤ◌, ◌<ℤ◌, false, IsTrue, List, Option, Some, None, IfSome, is_some, ⊤, ◌⊎◌}
use Rattle.ak_base.specs.Contents.{same_content}
use Rattle.ak_base.specs.Rows.{stamp_of, usn_of}
use Rattle.ak_base.specs.declared.names.Name.{Name}
use Rattle.ak_base.specs.declared.rows.Row.{Row}
use Rattle.ak_keep.specs.Graves.{grave_under}
use Rattle.ak_merge.specs.Holdings.{row_under, IsSingle, tag_usn}

-- ---- the usns
-- from 0 to below a head's usn
pub record IsGiven (usn number : ℤ) : Type 0 where
  pub low : pos 0 ≤ℤ number
  pub high : number <ℤ usn

-- not sent yet, or from 0 to below the head's usn
abbrev pub IsOwn : ℤ → ℤ → Type 0
IsOwn usn number = (number ≡ negsuc 0) ⊎ IsGiven usn number

-- each row and each tag has a usn of this kind
pub record AreNumbered (Fits : ℤ → ℤ → Type 0) (c : Collection) : Type 0 where
  pub rows : (name : Name) → IfSome (row_under c name) (λ row. Fits c.head.usn (usn_of row))
  pub tags : (name : List ℕ) → IfSome (tag_usn c.head.tags name) (Fits c.head.usn)

-- no row and no tag is still to be sent
abbrev pub IsAllSent : Collection → Type 0
IsAllSent c = AreNumbered (λ usn number. number ≢ negsuc 0) c

-- ---- the cells: what stands under one name, and the grave of that name
-- an equal row is there, usns aside
abbrev pub IsHeldLike : Row → Option Row → Type 0
IsHeldLike x None = ⊥
IsHeldLike x (Some y) = IsTrue (same_content x y)

-- a row that was not sent yet and is newer is there
pub record IsNewerUnsent (y x : Row) : Type 0 where
  pub unsent : IsTrue (is_pending x)
  pub newer : stamp_of y <ℤ stamp_of x

-- a row is there that is newer and has at least this usn
pub record IsNewerFrom (usn : ℤ) (x y : Row) : Type 0 where
  pub newer : stamp_of x <ℤ stamp_of y
  pub from : usn ≤ℤ usn_of y

-- something is there of which this holds
abbrev pub IsThere : Option Row → (Row → Type 0) → Type 0
IsThere None P = ⊥
IsThere (Some x) P = P x

-- of the server's row y: if its usn is below the device's, the device's row x or grave g accounts for it
abbrev pub HasTaken : ℤ → Option Row → Option Row → Option Row → Type 0
HasTaken usn x g None = ⊤
HasTaken usn x g (Some y) = usn_of y <ℤ usn → IsHeldLike y x ⊎ IsThere x (IsNewerUnsent y) ⊎ IsThere g (λ grave. IsTrue (is_pending grave))

-- of the device's row x: if it is settled, the server's row y or grave h accounts for it
abbrev pub IsKnown : ℤ → Option Row → Option Row → Option Row → Type 0
IsKnown usn None y h = ⊤
IsKnown usn (Some x) y h = IsTrue (is_settled x) → IsHeldLike x y ⊎ IsThere y (IsNewerFrom usn x) ⊎ IsThere h (λ grave. usn ≤ℤ usn_of grave)

-- of a review or grave, or of a tag, which only come: if the device's is settled the server has it, and if the server's usn
-- is below the device's the device has it
pub record IsShared (usn : ℤ) (x y : Option Row) : Type 0 where
  pub sent : IfSome x (λ row. IsTrue (is_settled row) → IsHeldLike row y)
  pub came : IfSome y (λ row. usn_of row <ℤ usn → IsHeldLike row x)

-- the same of a tag, by its usns on the two sides
pub record IsTagShared (usn : ℤ) (x y : Option ℤ) : Type 0 where
  pub sent : IfSome x (λ number. number ≢ negsuc 0 → IsTrue (is_some y))
  pub came : IfSome y (λ number. number <ℤ usn → IsTrue (is_some x))

-- ---- linked
-- the six parts, for a device's collection c and a server's committed collection s of one schema moment
pub record AreLinkedParts (c s : Collection) : Type 0 where
  -- 1. The device's usn is at most the server's. Each usn in the server's is from 0 to below its own; each in the device's
  -- is -1, or from 0 to below its own.
  pub usn : c.head.usn ≤ℤ s.head.usn
  pub given : AreNumbered IsGiven s
  pub own : AreNumbered IsOwn c
  -- 2. For each note, card, note type, deck or options row of the server with a usn below the device's, the device holds an
  -- equal row, or a row of that name that was not sent yet and is newer, or a grave of it that was not sent yet.
  pub taken : (name : Name) → IsTrue (has_stamps name.table) → HasTaken c.head.usn (row_under c name) (grave_under (row_under c) name) (row_under s name)
  -- 3. For each settled row of these five tables in the device's, the server holds an equal row, or one that is newer with a usn
  -- of at least the device's, or its grave with such a usn.
  pub known : (name : Name) → IsTrue (has_stamps name.table) → IsKnown c.head.usn (row_under c name) (row_under s name) (grave_under (row_under s) name)
  -- 4. Each settled grave, review and tag of the device's is held by the server. Each of the server's with a usn below the
  -- device's is held by the device. Reviews are then equal.
  pub shared : (name : Name) → has_stamps name.table ≡ false → IsShared c.head.usn (row_under c name) (row_under s name)
  pub tags : (name : List ℕ) → IsTagShared c.head.usn (tag_usn c.head.tags name) (tag_usn s.head.tags name)
  -- 5. In neither does a row stand beside its own grave.
  pub own_single : IsSingle (row_under c)
  pub single : IsSingle (row_under s)
  -- 6. If the two usns are equal, the device was changed no earlier than the server. If the two were then changed at one moment,
  -- they have one conf and one crt.
  pub later : c.head.usn ≡ s.head.usn → s.head.moment ≤ℤ c.head.moment
  pub settings : c.head.usn ≡ s.head.usn → c.head.moment ≡ s.head.moment → (c.head.conf ≡ s.head.conf) × (c.head.crt ≡ s.head.crt)

-- the schema moments differ, or all six parts hold
abbrev pub AreLinked : Collection → Collection → Type 0
AreLinked c s = (c.head.schema ≢ s.head.schema) ⊎ AreLinkedParts c s

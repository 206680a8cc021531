-- What tables store, what a change of it touched, and what a keeper over tables keeps.
use Rattle.std.specs.Prelude.{◌≡◌, ◌⊎◌, ◌≤◌, refl, ℕ, Bool, true, false, if◌then◌else◌, List, [], ◌∷◌, Option, None, is_some, map, IfSome, ⊤}
use Rattle.std.specs.BTreeMap.{is_at}
use Rattle.std.specs.Coded.{Coded, code_by, coded×}
use Rattle.std.specs.FinMap.{get, insert, empty}
use Rattle.std.specs.List.{list_any}
use Rattle.std.specs.Option.{option_or, unwrap_or}
use Rattle.ak_base.specs.Names.{name_cmp}
use Rattle.ak_base.specs.declared.heads.Head.{Head}
use Rattle.ak_base.specs.declared.names.Name.{Name}
use Rattle.ak_base.specs.declared.rows.Row.{Row}
use Rattle.ak_base.specs.Heads.{IsHeadInRange}
use Rattle.ak_base.specs.Rows.{IsChecked, name_of}
use Rattle.ak_keep.specs.Collections.{Holding, Rows, rows_of}
use Rattle.ak_keep.specs.Entries.{row_at}
use Rattle.ak_keep.specs.Marks.{WithMark}
use Rattle.ak_keep.specs.MemoryKeepers.{MemoryState, kept_code}
use Rattle.ak_tables.specs.declared.tables.StoredCollection.{StoredCollection}
use Rattle.ak_tables.specs.declared.touched.Touched.{Touched}

-- ---- what is stored
-- rows and a head, as they are held
abbrev pub holding : Rows → Option Head → Holding
holding rows head = record { rows = rows; head = head }

-- what was read, as it is held
abbrev pub loaded : StoredCollection → Holding
loaded read = holding (rows_of read.rows) read.head

-- the first row of this name
abbrev pub row_named : List Row → Name → Option Row
row_named rows name = row_at (map (λ row. (name_of row, row)) rows) name

-- what was held, and under names that were not held these rows
abbrev pub ArePutInto : Rows → List Row → Rows → Type 0
ArePutInto was rows now = (name : Name) → get now name ≡ option_or (get was name) (row_named rows name)

-- put one after the other into what was held, each row is in its ranges and finds its name free
abbrev pub AreNew : Rows → List Row → Type 0
AreNew was [] = ⊤
AreNew was (row ∷ rows) = (get was (name_of row) ≡ None) × (IsChecked row × AreNew (insert was (name_of row) row) rows)

-- each row is in its ranges, no two rows have one name, and the head is in its ranges
pub record IsCollection (read : StoredCollection) : Type 0 where
  pub rows : AreNew empty read.rows
  pub head : IfSome read.head IsHeadInRange

-- ---- what was touched
-- whether the name is one of these
abbrev pub is_among : List Name → Name → Bool
is_among names name = list_any (λ (touched : Name). is_at (name_cmp name) touched) names

-- the rows that were stored, none of them if all were replaced
abbrev pub left_of : Touched → Holding → Rows
left_of touched was = if touched.whole then empty else was.rows

-- what is held differs from what was stored under the touched names alone, and in the head if that was touched. A head that was touched
-- is held, and where all rows were replaced the head was touched too
pub record Covers (touched : Touched) (was now : Holding) : Type 0 where
  pub rows : (name : Name) → is_among touched.names name ≡ false → get now.rows name ≡ get (left_of touched was) name
  pub head : touched.head ≡ false → now.head ≡ was.head
  pub set : touched.head ≡ true → is_some now.head ≡ true
  pub whole : touched.whole ≡ true → touched.head ≡ true

-- under the touched names it has these rows, and under the others those that were left
abbrev pub IsWrittenOver : Touched → Rows → Rows → Rows → Type 0
IsWrittenOver touched rows left made = (name : Name) → get made name ≡ (if is_among touched.names name then get rows name else get left name)

-- ---- what a crash leaves
-- a crash at any moment of these calls leaves an image that has P
pub record CrashLeaves {T : Type 0} (moment : T → ℕ) (may_have_left : T → ℕ → List ℕ → Type 0) (old new : T) (P : List ℕ → Type 0) : Type 0 where
  pub each : (image : List ℕ) → may_have_left new (moment old) image → P image
  -- for calls that began earlier
  pub later : moment old ≤ moment new
  pub others : (since : ℕ) (image : List ℕ) → since ≤ moment old → may_have_left new since image → may_have_left old since image ⊎ P image

-- a crash now leaves this collection
abbrev pub LeavesNow : {T : Type 0} → (T → ℕ) → (T → ℕ → List ℕ → Type 0) → (T → Holding → List ℕ → Type 0) → T → Holding → Type 0
LeavesNow moment may_have_left stands_for tables held = (image : List ℕ) → may_have_left tables (moment tables) image → stands_for tables held image

-- ---- the keeper
-- what it keeps, and its tables
pub record TableState (T : Type 0) : Type 0 where
  pub kept : WithMark Holding
  pub tables : T

-- it keeps what the step makes of what it kept
abbrev pub with_kept : {T : Type 0} → (WithMark Holding → WithMark Holding) → TableState T → TableState T
with_kept step s = record s { kept = step s.kept }

-- what was kept last: at the mark if there is one
abbrev pub last_kept : WithMark Holding → Holding
last_kept w = unwrap_or w.mark w.current

-- the keeper in memory is told no call to fail; the tables store what was kept last; while it is marked they are ready for a write, and a
-- crash leaves that; and what was changed since was touched
pub record IsConsistent (memory : MemoryState) (stores : Holding → Type 0) (is_ready : Bool) (leaves : Holding → Type 0) (touched : Touched) : Type 0 where
  pub obeys : memory.fails ≡ []
  pub same : stores (last_kept memory.kept)
  pub ready : is_some memory.kept.mark ≡ true → is_ready ≡ true
  pub lasts : is_some memory.kept.mark ≡ true → leaves (last_kept memory.kept)
  pub covers : IfSome memory.kept.mark (λ marked. Covers touched marked memory.kept.current)

-- how what is known of a keeper over tables is coded, by the codes of what is held and of its tables
abbrev pub state_code : {T : Type 0} → Coded Holding → Coded T → Coded (TableState T)
state_code {T = T} held tables = code_by (WithMark Holding × T) (coded× (kept_code held) tables) (λ s. (s.kept, s.tables)) (λ p. record { kept = p.0; tables = p.1 }) (λ _. refl)

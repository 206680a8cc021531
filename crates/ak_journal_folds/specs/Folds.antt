-- What payloads make of a collection, and where they are refused.
use Rattle.std.specs.Prelude.{◌≡◌, ℕ, true, List, [], ◌∷◌, ◌++◌, length, Option}
use Rattle.std.specs.FinMap.{empty}
use Rattle.std.specs.Option.{option_or}
use Rattle.ak_base.specs.Bytes.{bytes_of_each}
use Rattle.ak_base.specs.declared.heads.Head.{Head}
use Rattle.ak_base.specs.declared.names.Name.{Name}
use Rattle.ak_base.specs.declared.rows.Row.{Row}
use Rattle.ak_keep.specs.Collections.{Holding}
use Rattle.ak_keep.specs.Keepers.{all_known, is_marked}
use Rattle.ak_keep.specs.MemoryKeepers.{MemoryState}
use Rattle.ak_journal_rows.specs.Changes.{all_cut, all_put, nothing_held}
use Rattle.ak_journal_rows.specs.Texts.{IsPayloadOf, LeadTo}
use Rattle.ak_journal_rows.specs.declared.changes.Change.{Change}

-- the payload at this place is that of no change; those before it lead to a collection
pub record IsFirstOther (place : ℕ) (payloads : List (List ℕ)) : Type 0 where
  pub before : List (List ℕ)
  pub payload : List ℕ
  pub behind : List (List ℕ)
  pub at : length before ≡ place
  pub whole : payloads ≡ before ++ payload ∷ behind
  pub held : Holding
  pub led : LeadTo nothing_held before held
  pub other : (change : Change) → IsPayloadOf payload change → ⊥

-- ---- what the contracts of private functions cite
-- it is marked, and no call of it is to fail
pub record IsReady (keeper : MemoryState) : Type 0 where
  pub marked : is_marked (all_known keeper.kept) ≡ true
  pub obeys : keeper.fails ≡ []

-- without rows
abbrev pub without_rows : Holding → Holding
without_rows held = record held { rows = empty }

-- without the rows of these names
abbrev pub with_cut : List Name → Holding → Holding
with_cut names held = record held { rows = all_cut names held.rows }

-- with these rows
abbrev pub with_put : List Row → Holding → Holding
with_put rows held = record held { rows = all_put rows held.rows }

-- with this head, if it is one
abbrev pub with_head_set : Option Head → Holding → Holding
with_head_set head held = record held { head = option_or head held.head }

-- What a keeper in memory keeps, and what its calls make of it.
use Rattle.std.specs.Prelude.{◌≡◌, refl, ℕ, Bool, true, false, if◌then◌else◌, List, Option, Result, Ok, Err}
use Rattle.std.specs.Coded.{Coded, code_by, coded×, coded_option, coded_list, coded_ℕ}
use Rattle.ak_faults.specs.Calls.{is_named, listed_health}
use Rattle.ak_faults.specs.Causes.{Health, one_more}
use Rattle.ak_faults.specs.declared.counters.Calls.{Calls}
use Rattle.ak_base.specs.declared.heads.Head.{Head}
use Rattle.ak_keep.specs.Collections.{Holding, Rows}
use Rattle.ak_keep.specs.Marks.{WithMark}
use Rattle.ak_keep.specs.declared.keepers.KeepFault.{KeepFault}
use Rattle.ak_keep.specs.declared.keepers.KeepFault.TheVariants.{Failed, Memory}

-- ---- the calls that fail
-- what it keeps; how many of the calls that can fail came since the list was set, which of them are to fail, and how
-- many failed in all
pub record MemoryState : Type 0 where
  pub kept : WithMark Holding
  pub calls : ℕ
  pub fails : List ℕ
  pub faults : ℕ

-- how many calls failed, and whether none is to fail
abbrev pub health_of : MemoryState → Health
health_of s = listed_health s.faults s.fails

-- the same of the counts alone
abbrev pub calls_health : Calls → Health
calls_health c = listed_health c.faults c.fails.items

-- whether the next call is to fail
abbrev pub is_to_fail : MemoryState → Bool
is_to_fail s = is_named s.calls s.fails

-- a call came: it is counted, and if it is to fail, a fault too
abbrev pub called : MemoryState → MemoryState
called s = record s { calls = one_more s.calls; faults = if is_to_fail s then one_more s.faults else s.faults }

-- the same of the counts alone
abbrev pub calls_after : Calls → Calls
calls_after c = record c { count = one_more c.count; faults = if is_named c.count c.fails.items then one_more c.faults else c.faults }

-- a call came, and what is kept was changed so
abbrev pub called_with : (WithMark Holding → WithMark Holding) → MemoryState → MemoryState
called_with step s = record (called s) { kept = step s.kept }

-- what a call that takes no memory answers
abbrev pub answer_of : {T : Type 0} → Bool → T → Result T KeepFault
answer_of to_fail answer = if to_fail then Err Failed else Ok answer

-- a call fails if it is to, and else never; it may run out of memory
abbrev pub FailsWhere : {T : Type 0} → Bool → Result T KeepFault → Type 0
FailsWhere to_fail (Ok answer) = to_fail ≡ false
FailsWhere to_fail (Err Failed) = to_fail ≡ true
FailsWhere to_fail (Err Memory) = to_fail ≡ false

-- ---- the codes by which a model's values are told apart
-- of what is held, by its rows and its head
abbrev pub holding_code : Coded Rows → Coded Head → Coded Holding
holding_code rows head = code_by (Rows × Option Head) (coded× rows (coded_option head)) (λ h. (h.rows, h.head)) (λ p. record { rows = p.0; head = p.1 }) (λ _. refl)

-- of what is kept, now and at the mark
abbrev pub kept_code : Coded Holding → Coded (WithMark Holding)
kept_code holding = code_by (Holding × Option Holding) (coded× holding (coded_option holding)) (λ w. (w.current, w.mark)) (λ p. record { current = p.0; mark = p.1 }) (λ _. refl)

-- of a keeper in memory, with its counts
abbrev pub state_code : Coded (WithMark Holding) → Coded MemoryState
state_code kept =
    code_by (WithMark Holding × (ℕ × (List ℕ × ℕ))) (coded× kept (coded× coded_ℕ (coded× (coded_list coded_ℕ) coded_ℕ)))
    (λ s. (s.kept, (s.calls, (s.fails, s.faults)))) (λ p. record { kept = p.0; calls = p.1.0; fails = p.1.1.0; faults = p.1.1.1 }) (λ _. refl)

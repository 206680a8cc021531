-- How the run of a script ends, and what is written of a line that is refused.
use Rattle.std.specs.Prelude.{◌≢◌, ℕ, Bool, List, Option, Result, Err}
use Rattle.std.specs.Io.KnownBytes.{Appends, Keeps}
use Rattle.ak_faults.specs.Causes.{Health, HasCauseOf}
use Rattle.ak_io.specs.Scripts.{AppendsPart, refusal_bytes}
use Rattle.ak_io.specs.declared.endings.ScriptEnd.{ScriptEnd}
use Rattle.ak_io.specs.declared.endings.ScriptEnd.TheVariants as ends

-- the refusal of the line of this number is written, or a front of it is, or nothing
abbrev pub PrintsRefusal : ScriptEnd → ℕ → List ℕ → Option (List ℕ) → Option (List ℕ) → Type 0
PrintsRefusal ends.Refused number why old new = Appends old new (refusal_bytes number why)
PrintsRefusal ends.WriteFailed number why old new = AppendsPart old new (refusal_bytes number why)
PrintsRefusal ends.Memory number why old new = Keeps old new
PrintsRefusal ends.Done number why old new = ⊥
PrintsRefusal ends.ReadFailed number why old new = ⊥

-- the end that failed counted a fault, and a calm one did not fail
pub record EndCause (end : ScriptEnd) (reads reads' writes writes' : Health) : Type 0 where
  pub read : HasCauseOf {T = Unit {0}} ends.ReadFailed reads reads' (Err end)
  pub written : HasCauseOf {T = Unit {0}} ends.WriteFailed writes writes' (Err end)

-- the same of the output alone
abbrev pub IsEndCaused : Health → Health → ScriptEnd → Type 0
IsEndCaused writes writes' end = HasCauseOf {T = Unit {0}} ends.WriteFailed writes writes' (Err end)

-- the same of a line, which may have gone; the end of the input is no refusal
pub record LineEndCause (result : Result Bool ScriptEnd) (reads reads' writes writes' : Health) : Type 0 where
  pub not_done : result ≢ Err ends.Done
  pub read : HasCauseOf ends.ReadFailed reads reads' result
  pub written : HasCauseOf ends.WriteFailed writes writes' result

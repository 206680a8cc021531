-- How a command ends, why, and what it prints if it is refused before it begins.
use Rattle.std.specs.Prelude.{List, [], ◌∷◌, ◌++◌, ℕ, Option, Err}
use Rattle.std.specs.Io.KnownBytes.{Appends}
use Rattle.ak_line_runs.specs.declared.command_ends.CommandEnd.{CommandEnd}
use Rattle.ak_line_runs.specs.declared.command_ends.CommandEnd.TheVariants as ends
use Rattle.ak_faults.specs.Causes.{Health, HasCauseOf}
use Rattle.ak_io.specs.Scripts.{AppendsPart}

-- the command was refused by this text: it is written as a line, or a front of it is if the output failed
abbrev pub IsRefusedWith : List ℕ → CommandEnd → Option (List ℕ) → Option (List ℕ) → Type 0
IsRefusedWith text ends.Done old new = ⊥
IsRefusedWith text ends.Refused old new = Appends old new (text ++ 10 ∷ [])
IsRefusedWith text ends.ReadFailed old new = ⊥
IsRefusedWith text ends.WriteFailed old new = AppendsPart old new (text ++ 10 ∷ [])
IsRefusedWith text ends.KeeperFailed old new = ⊥
IsRefusedWith text ends.Memory old new = ⊥

-- a command ends with a failed output only if the output counted a fault, and never with a calm one
abbrev pub IsOutputCaused : Health → Health → CommandEnd → Type 0
IsOutputCaused before now end = HasCauseOf {T = Unit {0}} ends.WriteFailed before now (Err end)

-- the same of a keeper
abbrev pub IsKeeperCaused : Health → Health → CommandEnd → Type 0
IsKeeperCaused before now end = HasCauseOf {T = Unit {0}} ends.KeeperFailed before now (Err end)

-- the same of an input
abbrev pub IsInputCaused : Health → Health → CommandEnd → Type 0
IsInputCaused before now end = HasCauseOf {T = Unit {0}} ends.ReadFailed before now (Err end)

-- the same of the input and the output of a script
pub record IsScriptCaused (reads reads' writes writes' : Health) (end : CommandEnd) : Type 0 where
  pub read : IsInputCaused reads reads' end
  pub written : IsOutputCaused writes writes' end

-- What a value is read as. The contracts of private functions cite it, and that of the reader of payloads.
use Rattle.std.specs.Prelude.{◌≡◌, Result, Ok, Err}
use Rattle.ak_json.specs.declared.faults.JsonFault.{JsonFault}
use Rattle.ak_json.specs.declared.faults.JsonFault.TheVariants as jsons
use Rattle.ak_journal_rows.specs.declared.faults.ChangeFault.{ChangeFault}
use Rattle.ak_journal_rows.specs.declared.faults.ChangeFault.TheVariants as changes

-- what is read is this, unless memory ran out
abbrev pub IsReadAsOrMemory : {T : Type 0} → T → Result T ChangeFault → Type 0
IsReadAsOrMemory made (Ok read) = read ≡ made
IsReadAsOrMemory made (Err fault) = fault ≡ changes.Memory

-- a fault of JSON where a payload is read
abbrev pub of_json : JsonFault → ChangeFault
of_json jsons.NotJson = changes.NotOfForm
of_json (jsons.Missing text) = changes.NotOfForm
of_json (jsons.WrongKind text) = changes.NotOfForm
of_json (jsons.Row fault) = changes.NotOfForm
of_json jsons.Memory = changes.Memory

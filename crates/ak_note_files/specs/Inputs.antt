-- What is read of an input that is taken as a whole.
use Rattle.std.specs.declared.alloc.Global.{Global}
use Rattle.std.specs.Prelude.{◌≡◌, ◌<◌, ◌≤◌, ℕ, List, ◌++◌, length, Option, Some, None, Result, Ok, Err, Vec, ⊤}
use Rattle.std.specs.Io.KnownBytes.{Consumes, IsAtEnd}
use Rattle.ak_note_files.specs.declared.inputs.InputFault.{InputFault}
use Rattle.ak_note_files.specs.declared.inputs.InputFault.TheVariants.{TooLong}

-- these bytes, of which there are at most 1,073,741,824; or that there are more. Or the input failed, or memory is out
abbrev pub ReadsBytes : List ℕ → Result (Vec ℕ Global) InputFault → Type 0
ReadsBytes bytes (Ok read) = (read.items ≡ bytes) × (length bytes ≤ 1_073_741_824)
ReadsBytes bytes (Err TooLong) = 1_073_741_824 < length bytes
ReadsBytes bytes (Err fault) = ⊤

-- the same of an input that may have told its bytes
abbrev pub ReadsInput : Option (List ℕ) → Result (Vec ℕ Global) InputFault → Type 0
ReadsInput None result = ⊤
ReadsInput (Some bytes) result = ReadsBytes bytes result

-- this many more bytes were read; none is the end
abbrev pub ReadsPiece : Option (List ℕ) → Option (List ℕ) → List ℕ → List ℕ → Result ℕ InputFault → Type 0
ReadsPiece old new before after (Ok count) =
    (piece : List ℕ) × (after ≡ before ++ piece) × (length piece ≡ count) × Consumes old new piece × (count ≡ 0 → IsAtEnd new)
ReadsPiece old new before after (Err TooLong) = ⊥
ReadsPiece old new before after (Err fault) = ⊤

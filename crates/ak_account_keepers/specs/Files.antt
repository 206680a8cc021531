-- What is read of a file of accounts.
use Rattle.std.specs.Prelude.{◌≡◌, ◌<◌, ◌≤◌, ℕ, List, ◌++◌, length, Option, Some, None, Result, Ok, Err, ⊤}
use Rattle.std.specs.Io.KnownBytes.{Consumes, IsAtEnd}
use Rattle.ak_account_keepers.specs.declared.files.FileFault.{FileFault}
use Rattle.ak_account_keepers.specs.declared.files.FileFault.TheVariants.{TooLong}

-- the bytes of a file, if it has at most 1,048,576; else that it is too long. Or the file failed, or memory is out
abbrev pub ReadsBytes : List ℕ → Result (List ℕ) FileFault → Type 0
ReadsBytes bytes (Ok read) = (read ≡ bytes) × (length bytes ≤ 1_048_576)
ReadsBytes bytes (Err TooLong) = 1_048_576 < length bytes
ReadsBytes bytes (Err fault) = ⊤

-- the same of a file that may have told its bytes
abbrev pub ReadsFile : Option (List ℕ) → Result (List ℕ) FileFault → Type 0
ReadsFile None result = ⊤
ReadsFile (Some bytes) result = ReadsBytes bytes result

-- so many bytes more were read, none only at the end
abbrev pub ReadsPiece : Option (List ℕ) → Option (List ℕ) → List ℕ → List ℕ → Result ℕ FileFault → Type 0
ReadsPiece old new before after (Ok count) =
    (piece : List ℕ) × (after ≡ before ++ piece) × (length piece ≡ count) × Consumes old new piece × (count ≡ 0 → IsAtEnd new)
ReadsPiece old new before after (Err TooLong) = ⊥
ReadsPiece old new before after (Err fault) = ⊤

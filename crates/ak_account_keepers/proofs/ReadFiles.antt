-- What is known of a file that was read, from what its bytes lost.
use Rattle.std.proofs.Common.{◌≡◌, ℕ, ◌<◌, ◌≤◌, ◌+◌, List, ◌++◌, length, Option, Some, None, Ok, Err, ap, sym, ◌∙◌, subst, append-nil, length-append, arith}
use Rattle.std.specs.Io.KnownBytes.{Consumes, IsAtEnd}
use Rattle.ak_account_keepers.specs.Files.{ReadsFile}
use Rattle.ak_account_keepers.specs.declared.files.FileFault.TheVariants.{TooLong}

-- all was read, and it is no more than a file may have
pub whole_file : (old new : Option (List ℕ)) (bytes : List ℕ) → Consumes old new bytes → IsAtEnd new → length bytes ≤ 1_048_576
    → ReadsFile old (Ok bytes)
whole_file None new bytes took ended fits = tt
whole_file (Some all) None bytes took ended fits = absurd took
whole_file (Some all) (Some rest) bytes took ended fits =
    let is : all ≡ bytes = took ∙ ap (λ r. bytes ++ r) ended ∙ append-nil bytes in
    (sym is, subst (λ b. length b ≤ 1_048_576) (sym is) fits)

-- more was read than a file may have
pub long_file : (old new : Option (List ℕ)) (bytes : List ℕ) → Consumes old new bytes → 1_048_576 < length bytes → ReadsFile old (Err TooLong)
long_file None new bytes took long = tt
long_file (Some all) None bytes took long = absurd took
long_file (Some all) (Some rest) bytes took long =
    let size : length all ≡ length bytes + length rest = ap length took ∙ length-append bytes rest in omega (arith, size, long)

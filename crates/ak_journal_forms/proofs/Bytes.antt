-- A length as 8 bytes.
use Rattle.std.proofs.Common.{◌≡◌, ℕ, ◌^◌, ◌<◌, length, refl}
use Rattle.std.proofs.lemmas.Nat.{from_be_bytes-to_be_bytes_8}
use Rattle.ak_journal_forms.specs.Frames.{length_bytes, length_said}

pub length-length_bytes : (n : ℕ) → length (length_bytes n) ≡ 8
unfolding length_bytes
length-length_bytes n = refl

pub said-length_bytes : (n : ℕ) → n < 2 ^ 64 → length_said (length_bytes n) ≡ n
unfolding length_bytes length_said
said-length_bytes n small = from_be_bytes-to_be_bytes_8 n small

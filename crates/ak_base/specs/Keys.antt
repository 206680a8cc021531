-- The keys by which a device and a sync are known.
use Rattle.std.specs.Prelude.{ℕ, Bool, true, not, ◌&&◌, ◌==◌, if◌then◌else◌, List, [], ◌∷◌, length, Option, Some, None}
use Rattle.std.specs.Char.{is_ascii_hexdigit, is_ascii_uppercase}

-- 0 to 9, or a to f
abbrev pub is_lower_hex : ℕ → Bool
is_lower_hex digit = is_ascii_hexdigit digit && not (is_ascii_uppercase digit)

-- every byte is
abbrev pub are_lower_hex : List ℕ → Bool
are_lower_hex [] = true
are_lower_hex (digit ∷ digits) = is_lower_hex digit && are_lower_hex digits

-- 32 lower-case hexadecimal digits
abbrev pub is_host_key : List ℕ → Bool
is_host_key text = (length text == 32) && are_lower_hex text

-- the digits of the key that a text is, if it is one
abbrev pub host_digits : List ℕ → Option (List ℕ)
host_digits text = if is_host_key text then Some text else None

-- How much memory the tree of a JSON text may take.
use Rattle.std.specs.Prelude.{ℕ, ◌+◌, ◌==◌, ◌||◌, ◌≤◌, List, [], ◌∷◌, if◌then◌else◌}
use Rattle.ak_wire.specs.declared.budgets.Scan.{Scan}
use Rattle.ak_wire.specs.declared.budgets.Scan.TheVariants.{Outside, Inside, Escaped}

-- where the byte after this one stands: a quote begins and ends a string, and a backslash there keeps the next byte
abbrev pub next : Scan → ℕ → Scan
next Outside byte = if byte == 34 then Inside else Outside
next Inside byte = if byte == 34 then Outside else (if byte == 92 then Escaped else Inside)
next Escaped byte = Inside

-- what a byte is counted as, in bytes of the tree: outside strings 96 for a comma or a colon, 160 for `[` and 1,000 for `{`
abbrev pub cost : Scan → ℕ → ℕ
cost Outside byte =
    if byte == 44 || byte == 58 then 96
    else if byte == 91 then 160
    else if byte == 123 then 1_000
    else 0
cost Inside byte = 0
cost Escaped byte = 0

-- what the bytes are counted as together
abbrev pub cost_of : Scan → List ℕ → ℕ
cost_of scan [] = 0
cost_of scan (byte ∷ bytes) = cost scan byte + cost_of (next scan byte) bytes

-- the tree of a body may be made: it is counted as at most 4 GiB
abbrev pub IsWithinBudget : List ℕ → Type 0
IsWithinBudget body = cost_of Outside body ≤ 4_294_967_296

-- What a dial gives; what a dial in memory holds, and what its call answers and leaves.
use Rattle.std.specs.Prelude.{◌≡◌, ℕ, if◌then◌else◌, List, [], ◌∷◌, Option, Some, None}
use Rattle.ak_faults.specs.Calls.{is_named}
use Rattle.ak_faults.specs.Causes.{Health, one_more}
use Rattle.ak_io.specs.Ends.{uncertain}
use Rattle.ak_links.specs.Links.{LinkState, next_link}

-- if what is to come is told, the first of it was given and is gone
abbrev pub GivesFirst : {T : Type 0} → Option (List T) → Option (List T) → T → Type 0
GivesFirst None new given = new ≡ None
GivesFirst {T = T} (Some items) new given = (rest : List T) × (items ≡ given ∷ rest) × (new ≡ Some rest)

-- a dial in memory: the links to come, how many calls came, which of them fail, and how many failed
pub record DialState : Type 0 where
  pub to_come : List LinkState
  pub calls : ℕ
  pub fails : List ℕ
  pub fault_count : ℕ

-- a dial as it is made: no call has come
abbrev pub new_dial : List LinkState → List ℕ → DialState
new_dial links fails = record { to_come = links; calls = 0; fails = fails; fault_count = 0 }

-- it is never calm, since its links may end
abbrev pub dial_health : DialState → Health
dial_health dial = uncertain dial.fault_count

-- the dial after a call that failed
abbrev pub after_refusal : DialState → DialState
after_refusal dial = record dial { calls = one_more dial.calls; fault_count = one_more dial.fault_count }

-- what the next call gives: the first of the links to come, and nothing if the call is to fail or none is to come
abbrev pub dials : DialState → Option LinkState
dials dial = if is_named dial.calls dial.fails then None else next_link dial.to_come

-- the dial after a call that is not named, by the links that were to come
abbrev pub after_dial_of : DialState → List LinkState → DialState
after_dial_of dial [] = after_refusal dial
after_dial_of dial (link ∷ rest) = record dial { to_come = rest; calls = one_more dial.calls }

-- the dial after a call
abbrev pub after_dial : DialState → DialState
after_dial dial =
    if is_named dial.calls dial.fails then after_refusal dial else after_dial_of dial dial.to_come

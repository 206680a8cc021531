-- What `init` leaves and prints.
use Rattle.std.specs.Prelude.{◌≡◌, ℕ, ℤ, Bool, true, false, List, Option, None, codes}
use Rattle.std.specs.Io.KnownBytes.{Keeps}
use Rattle.std.specs.Option.{option_map}
use Rattle.ak_keep.specs.Collections.{made_of}
use Rattle.ak_keep.specs.Keepers.{Keeping}
use Rattle.ak_line_runs.specs.CommandEnds.{IsRefusedWith}
use Rattle.ak_line_runs.specs.declared.command_ends.CommandEnd.{CommandEnd}
use Rattle.ak_line_runs.specs.declared.command_ends.CommandEnd.TheVariants as ends
use Rattle.ak_openings.specs.Openings.{IsOpening}
use Rattle.ak_openings.specs.declared.whole_collections.Opening.{Opening}

-- what is known of a keeper that holds this collection and nothing else, and is not marked
abbrev pub holding_only : Opening → Keeping → Keeping
holding_only made k = record {
  headed = record { current = true; mark = None };
  told = option_map (λ _. record { current = made_of made.rows made.head; mark = None }) k.told;
}

-- the keeper holds the opening collection of the moment, with rows that are to be sent
abbrev pub IsOpened : ℤ → Keeping → Keeping → Type 0
IsOpened at before after = (made : Opening) × IsOpening at true made × (after ≡ holding_only made before)

-- how `init` ends where no collection is held: with that of the moment, or with all as it was
abbrev pub Opens : ℤ → CommandEnd → Keeping → Keeping → Type 0
Opens at ends.Done before after = IsOpened at before after
Opens at ends.Refused before after = ⊥
Opens at ends.ReadFailed before after = ⊥
Opens at ends.WriteFailed before after = ⊥
Opens at ends.KeeperFailed before after = after ≡ before
Opens at ends.Memory before after = after ≡ before

-- the same, and what is printed, by whether a collection is held
abbrev pub EndsInitOn : Bool → ℤ → CommandEnd → Keeping → Keeping → Option (List ℕ) → Option (List ℕ) → Type 0
EndsInitOn true at end before after old new = (after ≡ before) × IsRefusedWith (codes "collection held") end old new
EndsInitOn false at end before after old new = Opens at end before after × Keeps old new

-- how `init` ends at this moment
abbrev pub EndsInit : ℤ → CommandEnd → Keeping → Keeping → Option (List ℕ) → Option (List ℕ) → Type 0
EndsInit at end before after old new = EndsInitOn before.headed.current at end before after old new

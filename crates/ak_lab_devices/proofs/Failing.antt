-- A keeper in memory, whose calls that are to fail are set before a sync and after it.
use Rattle.std.proofs.Common.{◌≡◌, ◌≢◌, ℕ, true, false, List, [], refl, sym, ap, subst, ◌∙◌}
use Rattle.ak_client.specs.Outcomes.{HasOutcomeCause}
use Rattle.ak_client.specs.declared.outcomes.Outcome.{Outcome}
use Rattle.ak_client.specs.declared.outcomes.Outcome.TheVariants as outcomes
use Rattle.ak_faults.specs.Calls.{names_none}
use Rattle.ak_keep.specs.Collections.{Holding}
use Rattle.ak_keep.specs.Keepers.{all_known, is_marked}
use Rattle.ak_keep.specs.Marks.{WithMark}
use Rattle.ak_keep.specs.MemoryKeepers.{MemoryState, health_of}
use Rattle.ak_lab_devices.specs.RestingKeepers.{IsAtRest}

-- the same keeper, of which these calls are to fail
abbrev pub failing : List ℕ → MemoryState → MemoryState
failing calls k = record k { calls = 0; fails = calls }

-- what it keeps stays
pub kept_so : (k now : MemoryState) (calls : List ℕ) → now ≡ failing calls k → now.kept ≡ k.kept
kept_so k now calls set = ap (λ (x : MemoryState). x.kept) set

-- without any it is at rest, if it is not marked and holds a head
pub rests : (k now : MemoryState) (calls : List ℕ) → now ≡ failing calls k → calls ≡ [] → is_marked (all_known k.kept) ≡ false
    → (all_known k.kept).headed.current ≡ true → IsAtRest now
rests k now calls set none unmarked held =
    subst IsAtRest (sym (set ∙ ap (λ (l : List ℕ). failing l k) none))
    (record { idle = record { unmarked = unmarked; held = held }; calm = refl })

-- it did not fail, if none is to
pub unfailed_so : (k now after : MemoryState) (calls : List ℕ) (outcome : Outcome) → now ≡ failing calls k
    → HasOutcomeCause outcomes.Keep (health_of now) (health_of after) outcome → names_none calls ≡ true → outcome ≢ outcomes.Keep
unfailed_so k now after calls outcome set cause none = cause.unfailed (ap (λ (x : MemoryState). names_none x.fails) set ∙ none)

-- what is said of what is kept before and after it is said of the same that is kept
pub both_kept : (P : WithMark Holding → WithMark Holding → Type 0) (a b c d : WithMark Holding) → b ≡ a → d ≡ c → P b c → P a d
both_kept P a b c d before after it =
    subst (λ (k : WithMark Holding). P k d) before (subst (λ (k : WithMark Holding). P b k) (sym after) it)

-- A text is read in one way only.
use Rattle.std.proofs.Common.{◌≡◌, ℕ, List, [], ◌∷◌, Some, None, refl, sym, ap, ◌∙◌, subst}
use Rattle.csv.specs.Machine.{Read, next_record}
use Rattle.csv.specs.Reading.{Reached, default_config, strip_bom}
use Rattle.csv.specs.declared.parser.Config.{Config}
use Rattle.csv.specs.declared.parser.State.{State}
use Rattle.csv.specs.declared.parser.State.TheVariants as states
use Rattle.ak_csv.specs.NotesAgain.{HasOneReading}
use Rattle.ak_csv.specs.RecordRows.{Columns}

none_is_some : (p : Read) → None ≡ Some p → ⊥
none_is_some p e = cc e

ended_there : (cfg : Config) (s s1 : State) (xs y1 : List ℕ) (p : Read) → s ≡ s1 → xs ≡ y1 → next_record cfg s1 [] [] y1 ≡ None → next_record cfg s [] [] xs ≡ Some p → ⊥
ended_there cfg s s1 xs y1 p same left none some =
    let none_here : next_record cfg s [] [] xs ≡ None = rw (same, left) none in none_is_some p (sym none_here ∙ some)

one_read : (p q : Read) → Some p ≡ Some q → p ≡ q
one_read p q e = cc e

one_way : (cfg : Config) (s : State) (xs : List ℕ) (rows others : List Columns) (s1 s2 : State) (y1 y2 : List ℕ)
    → Reached cfg s xs rows s1 y1 → next_record cfg s1 [] [] y1 ≡ None
    → Reached cfg s xs others s2 y2 → next_record cfg s2 [] [] y2 ≡ None → rows ≡ others
unfolding Reached
one_way cfg s xs [] [] s1 s2 y1 y2 h end k stop = refl
one_way cfg s xs [] (other ∷ others) s1 s2 y1 y2 h end k stop = absurd (ended_there cfg s s1 xs y1 k.0 h.0 h.1 end k.1)
one_way cfg s xs (row ∷ rows) [] s1 s2 y1 y2 h end k stop = absurd (ended_there cfg s s2 xs y2 h.0 k.0 k.1 stop h.1)
one_way cfg s xs (row ∷ rows) (other ∷ others) s1 s2 y1 y2 h end k stop =
    let same : k.0 ≡ h.0 = one_read k.0 h.0 (sym k.1 ∙ h.1) in
    let rest = subst (λ (p : Read). Reached cfg p.1 p.2 others s2 y2) same k.3 in
    ap (λ (r : Columns). r ∷ rows) (h.2 ∙ ap (λ (p : Read). p.0) (sym same) ∙ sym k.2)
    ∙ ap (λ (rs : List Columns). other ∷ rs) (one_way cfg h.0.1 h.0.2 rows others s1 s2 y1 y2 h.3 end rest stop)

pub one_reading : HasOneReading
one_reading text rows others h k = one_way default_config states.StartRecord (strip_bom text) rows others h.0 k.0 h.1 k.1 h.2 h.3 k.2 k.3

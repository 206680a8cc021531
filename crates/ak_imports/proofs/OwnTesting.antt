-- What the tests of one record say, if they pass.
use Rattle.std.specs.Prelude.{◌≡◌, ℤ, pos, Bool, true, false, not, ◌&&◌, ◌||◌, if◌then◌else◌, int_lt, List, [], ◌∷◌, Option, Some, None, Result, Ok, Err}
use Rattle.std.proofs.Common.{refl, sym, ap, arith}
use Rattle.std.proofs.lemmas.Int.{ints}
use Rattle.std.proofs.lemmas.Option.{none-some}
use Rattle.std.specs.Cmp.{first_so, second_so}
use Rattle.std.specs.List.{AllByRecursion}
use Rattle.std.specs.Option.{option_map, option_or}
use Rattle.ak_base.specs.Heads.{IsMoment, IsWithin}
use Rattle.ak_base.specs.Limits.{last_moment, last_stamp}
use Rattle.ak_base.specs.Rows.{IsChecked, check_of}
use Rattle.ak_base.specs.declared.errors.RowFault.{RowFault}
use Rattle.ak_base.specs.declared.rows.Row.{Row}
use Rattle.ak_edit.specs.declared.desk_faults.DeskFault.{DeskFault}
use Rattle.ak_edit.specs.declared.desk_faults.DeskFault.TheVariants as faults
use Rattle.ak_imports.specs.OwnTests.{can_rise, end_fault, fault_in, first_row_fault, is_up_to, is_without, note_stamp, own_fault, rows_made}
use Rattle.ak_imports.specs.declared.own_tests.Trial.{Trial}
use Rattle.ak_merge.specs.Edits.{advanced, second_of}
use Rattle.ak_notes.specs.declared.made_notes.MadeNote.{MadeNote}

-- ---- rows
row_passes : (result : Result (Unit {0}) RowFault) (rest : Option RowFault) → option_or (fault_in result) rest ≡ None → (result ≡ Ok tt) × (rest ≡ None)
row_passes (Ok passed) rest is = (refl, is)
row_passes (Err fault) rest is = absurd (none-some fault (sym is))

-- if no row has a fault, each passes its check
pub all_checked : (found : List Row) → first_row_fault found ≡ None → AllByRecursion IsChecked found
all_checked [] none = tt
all_checked (row ∷ others) none =
    let both = row_passes (check_of row) (first_row_fault others) none in
    (both.0, all_checked others both.1)

-- ---- stamps
pub up_to_within : (last number : ℤ) → is_up_to last number ≡ true → IsWithin (pos 0) last number
up_to_within last number is =
    let low : not (int_lt number (pos 0)) ≡ true = first_so (not (int_lt number (pos 0))) (not (int_lt last number)) is in
    let high : not (int_lt last number) ≡ true = second_so (not (int_lt number (pos 0))) (not (int_lt last number)) is in
    record { low = grind (arith, ints, low); high = grind (arith, ints, high) }

end_passes : (b : Bool) → (if b then None else Some faults.StampEnd) ≡ None → b ≡ true
end_passes true is = refl
end_passes false is = absurd (none-some faults.StampEnd (sym is))

rises : (first : Option RowFault) (rest : Option DeskFault) → option_or (option_map (λ fault. faults.Row fault) first) rest ≡ None → rest ≡ None
rises None rest is = is
rises (Some fault) rest is = absurd (none-some (faults.Row fault) (sym is))

second_of_two : (a b : Bool) → a ≡ false → (a || b) ≡ true → b ≡ true
second_of_two true b none is = absurd (none-some {A = Unit {0}} tt (ap (λ (t : Bool). elim t as (λ _. Option (Unit {0})) [ true ↦ None | false ↦ Some tt ]) none))
second_of_two false b none is = is

-- what is in range if what was made passes
pub record AreTested (trial : Trial) (made : MadeNote) : Type 0 where
  pub note : IsWithin (pos 0) last_stamp (note_stamp trial made.note.stamp)
  pub cards : is_without made.cards ≡ false → IsWithin (pos 0) last_stamp (second_of trial.at)
  pub moment : IsMoment (advanced trial.at trial.moment)

pub tested : (trial : Trial) (made : MadeNote) → own_fault trial made ≡ None → AreTested trial made
tested trial made none =
    let note : Bool = is_up_to last_stamp (note_stamp trial made.note.stamp) in
    let cards : Bool = is_without made.cards || is_up_to last_stamp (second_of trial.at) in
    let moment : Bool = is_up_to last_moment (advanced trial.at trial.moment) in
    let all : (note && (cards && moment)) ≡ true = end_passes (can_rise trial made) (rises (first_row_fault (rows_made made)) (end_fault trial made) none) in
    let others : (cards && moment) ≡ true = second_so note (cards && moment) all in
    record {
      note = up_to_within last_stamp (note_stamp trial made.note.stamp) (first_so note (cards && moment) all);
      cards = λ some. up_to_within last_stamp (second_of trial.at) (second_of_two (is_without made.cards) (is_up_to last_stamp (second_of trial.at)) some (first_so cards moment others));
      moment = up_to_within last_moment (advanced trial.at trial.moment) (second_so cards moment others);
    }

-- What is read is in its ranges once its steps are seconds, so it is read again from what is written.
use Rattle.std.proofs.Common.{◌≡◌, ℕ, zero, suc, ◌≤◌, ℤ, pos, List, [], ◌∷◌, map, length, Option, None, Result, Ok, Err, refl, sym, ap, ◌∙◌, arith}
use Rattle.std.specs.Prelude.{◌*ℤ◌, ◌≤ℤ◌}
use Rattle.std.specs.Option.{option_or}
use Rattle.std.proofs.lemmas.Int.{ints}
use Rattle.std.proofs.lemmas.List.{length-map}
use Rattle.serde_json.specs.Data.{Data}
use Rattle.ak_base.specs.Columns.{code_fault, long_fault, first_fault}
use Rattle.ak_base.specs.Heads.{IsWithin}
use Rattle.ak_base.specs.OptionGroups.{bad_step, steps_fault, options_faults, options_faults_by, general_faults, new_faults, new_faults_by, rev_faults, lapse_faults, lapse_faults_by}
use Rattle.ak_base.specs.declared.errors.RowFault.{RowFault}
use Rattle.ak_base.specs.declared.names.Table.{Table}
use Rattle.ak_base.specs.declared.names.Table.TheVariants as tables
use Rattle.ak_base.specs.declared.option_groups.Options.{Options}
use Rattle.ak_base.specs.declared.rows.Row.{Row}
use Rattle.ak_base.specs.declared.rows.Row.TheVariants as rows
use Rattle.ak_base.proofs.OpeningOptions.{faults_in_seconds}
use Rattle.ak_base.proofs.Optional.{first_none, second_none}
use Rattle.ak_json.specs.Cells.{integer_at}
use Rattle.ak_json.specs.Forms.{options_form}
use Rattle.ak_json.specs.Ranges.{AreMinutes}
use Rattle.ak_json.specs.Rows.{IsRow, row_check, stored_check, checked_then, kept_row, row_json, ReadsRow}
use Rattle.ak_json.specs.Versions.{version_of, longest_step, seconds_of, in_seconds}
use Rattle.ak_json.specs.declared.versions.Version.{Version}
use Rattle.ak_json.specs.declared.versions.Version.TheVariants.{First, Second}
use Rattle.ak_json.proofs.Again.{AllNone, all_none}
use Rattle.ak_json.proofs.RowsAgain.{rows_again}

-- ---- a step in minutes and in seconds

was_within : (column : ℕ) (z least most : ℤ) → code_fault column z least most ≡ None → IsWithin least most z
unfolding code_fault
was_within column z least most h = record { low = grind (arith, ints, h); high = grind (arith, ints, h) }

is_faultless : (column : ℕ) (z least most : ℤ) → least ≤ℤ z → z ≤ℤ most → code_fault column z least most ≡ None
unfolding code_fault
is_faultless column z least most low high = grind (arith, ints, low, high)

longer : (z : ℤ) → pos 1 ≤ℤ z → pos 1 ≤ℤ (z *ℤ pos 60)
longer z low = omega (arith, ints, low)

not_too_long : (z : ℤ) → z ≤ℤ pos 1_000_000 → (z *ℤ pos 60) ≤ℤ pos 60_000_000
not_too_long z high = omega (arith, ints, high)

step_passes : (column : ℕ) (z : ℤ) → code_fault column z (pos 1) (pos 1_000_000) ≡ None → code_fault column (seconds_of z) (pos 1) (pos 60_000_000) ≡ None
step_passes column z h =
    let w : IsWithin (pos 1) (pos 1_000_000) z = was_within column z (pos 1) (pos 1_000_000) h in
    is_faultless column (z *ℤ pos 60) (pos 1) (pos 60_000_000) (longer z w.low) (not_too_long z w.high)

either_none : (a b : Option RowFault) → a ≡ None → b ≡ None → option_or a b ≡ None
either_none a b h k = ap (λ (o : Option RowFault). option_or o b) h ∙ k

each_passes : (column : ℕ) (zs : List ℤ) → bad_step (pos 1_000_000) column zs ≡ None → bad_step (pos 60_000_000) column (map seconds_of zs) ≡ None
each_passes column [] h = refl
each_passes column (z ∷ zs) h =
    either_none _ _
    (step_passes column z (first_none _ (bad_step (pos 1_000_000) column zs) h))
    (each_passes column zs (second_none (code_fault column z (pos 1) (pos 1_000_000)) _ h))

steps_pass : (column : ℕ) (zs : List ℤ) → steps_fault (pos 1_000_000) column zs ≡ None → steps_fault (pos 60_000_000) column (map seconds_of zs) ≡ None
steps_pass column zs h =
    either_none _ _
    (ap (λ (n : ℕ). long_fault column n 50) (length-map zs seconds_of) ∙ first_none _ (bad_step (pos 1_000_000) column zs) h)
    (each_passes column zs (second_none (long_fault column (length zs) 50) _ h))

each_in : (column : ℕ) (zs : List ℤ) → bad_step (pos 1_000_000) column zs ≡ None → AreMinutes zs
each_in column [] h i below = absurd (omega (arith, below))
each_in column (z ∷ zs) h zero below = was_within column z (pos 1) (pos 1_000_000) (first_none _ (bad_step (pos 1_000_000) column zs) h)
each_in column (z ∷ zs) h (suc i) below =
    each_in column zs (second_none (code_fault column z (pos 1) (pos 1_000_000)) _ h) i (omega (arith, below))

are_minutes : (column : ℕ) (zs : List ℤ) → steps_fault (pos 1_000_000) column zs ≡ None → AreMinutes zs
are_minutes column zs h = each_in column zs (second_none (long_fault column (length zs) 50) _ h)

-- the steps of an option group in minutes are in their range
pub new_minutes : (o : Options) → first_fault (options_faults_by (pos 1_000_000) o) ≡ Ok tt → AreMinutes o.new_steps
unfolding general_faults new_faults_by
new_minutes o h = let all = all_none (options_faults_by (pos 1_000_000) o) tt h in are_minutes 5 o.new_steps all.1.1.1.1.1.0

pub lapse_minutes : (o : Options) → first_fault (options_faults_by (pos 1_000_000) o) ≡ Ok tt → AreMinutes o.lapse_steps
unfolding general_faults new_faults_by rev_faults lapse_faults_by
lapse_minutes o h =
    let all = all_none (options_faults_by (pos 1_000_000) o) tt h in
    let new = all.1.1.1.1.1 in
    let lapse = new.1.1.1.1.1.1.1.1.1.1 in are_minutes 17 o.lapse_steps lapse.0

-- ---- an option group in its ranges has its steps in them once they are seconds

none_first : (faults : List (Option RowFault)) → AllNone faults → first_fault faults ≡ Ok tt
none_first [] all = refl
none_first (fault ∷ faults) all = ap (λ (o : Option RowFault). first_fault (o ∷ faults)) all.0 ∙ none_first faults all.1

minutes_pass : (o : Options) → first_fault (options_faults_by (pos 1_000_000) o) ≡ Ok tt → first_fault (options_faults (in_seconds First o)) ≡ Ok tt
unfolding general_faults new_faults new_faults_by rev_faults lapse_faults lapse_faults_by
minutes_pass o h =
    let all = all_none (options_faults_by (pos 1_000_000) o) tt h in
    let new = all.1.1.1.1.1 in
    let rev = new.1.1.1.1.1 in
    let lapse = rev.1.1.1.1.1 in
    none_first (options_faults (in_seconds First o)) (
      all.0,
      (
        all.1.0,
        (
          all.1.1.0,
          (
            all.1.1.1.0,
            (
              all.1.1.1.1.0,
              (
                steps_pass 5 o.new_steps new.0,
                (
                  new.1.0,
                  (
                    new.1.1.0,
                    (
                      new.1.1.1.0,
                      (
                        new.1.1.1.1.0,
                        (
                          rev.0,
                          (
                            rev.1.0,
                            (
                              rev.1.1.0,
                              (
                                rev.1.1.1.0,
                                (
                                  rev.1.1.1.1.0,
                                  (steps_pass 17 o.lapse_steps lapse.0, lapse.1),
                                ),
                              ),
                            ),
                          ),
                        ),
                      ),
                    ),
                  ),
                ),
              ),
            ),
          ),
        ),
      ),
    )

options_pass : (v : Version) (o : Options) → first_fault (options_faults_by (longest_step v) o) ≡ Ok tt → first_fault (options_faults (in_seconds v o)) ≡ Ok tt
options_pass First o h = minutes_pass o h
options_pass Second o h = sym (faults_in_seconds o) ∙ h

-- ---- a row that is read is in its ranges

pub first_checked : (first later : Result (Unit {0}) RowFault) → checked_then first later ≡ Ok tt → first ≡ Ok tt
first_checked (Ok good) later h = refl
first_checked (Err fault) later h = cc

kept_passes : (table : Table) (d : Data) (stored : Row) → stored_check table d stored ≡ Ok tt → row_check table (kept_row d stored) ≡ Ok tt
kept_passes table d (rows.Note n) h = h
kept_passes table d (rows.Card c) h = h
kept_passes table d (rows.Review r) h = h
kept_passes table d (rows.NoteType n) h = h
kept_passes table d (rows.Deck k) h = h
kept_passes table d (rows.Grave g) h = h
kept_passes table d (rows.Options o) h =
    ap (λ (check : Result (Unit {0}) RowFault). checked_then check (Ok tt))
    (options_pass (version_of d) o (first_checked (first_fault (options_faults_by (longest_step (version_of d)) o)) (Ok tt) h))

pub read_passes : (table : Table) (d : Data) (row : Row) → ReadsRow table d row → row_check table row ≡ Ok tt
read_passes table d row read = ap (row_check table) read.kept ∙ kept_passes table d read.stored read.good

-- ---- an option group that is read is read again

pub options_migrate : (d : Data) (o : Options) → ReadsRow tables.Options d (rows.Options o) → ReadsRow tables.Options (row_json (rows.Options o)) (rows.Options o)
options_migrate d o read = rows_again tables.Options (rows.Options o) tt (read_passes tables.Options d (rows.Options o) read)

-- a number of a row that is an option group
abbrev number_in : (Options → ℤ) → Row → ℤ
number_in f (rows.Options o) = f o
number_in f row = pos 0

same_stamp : (v : Version) (o : Options) → (in_seconds v o).stamp ≡ o.stamp
same_stamp First o = refl
same_stamp Second o = refl

same_usn : (v : Version) (o : Options) → (in_seconds v o).usn ≡ o.usn
same_usn First o = refl
same_usn Second o = refl

stamp_of_stored : (d : Data) (stored : Row) → IsRow tables.Options d stored → number_in (λ o. o.stamp) (kept_row d stored) ≡ integer_at options_form 1 d
stamp_of_stored d (rows.Options o) is = same_stamp (version_of d) o ∙ is.1.stamp
stamp_of_stored d row is = absurd is.0

usn_of_stored : (d : Data) (stored : Row) → IsRow tables.Options d stored → number_in (λ o. o.usn) (kept_row d stored) ≡ integer_at options_form 2 d
usn_of_stored d (rows.Options o) is = same_usn (version_of d) o ∙ is.1.usn
usn_of_stored d row is = absurd is.0

-- its stamp and its usn are those of the object
pub stamp_migrates : (d : Data) (o : Options) → ReadsRow tables.Options d (rows.Options o) → o.stamp ≡ integer_at options_form 1 d
stamp_migrates d o read = ap (number_in (λ o. o.stamp)) read.kept ∙ stamp_of_stored d read.stored read.is

pub usn_migrates : (d : Data) (o : Options) → ReadsRow tables.Options d (rows.Options o) → o.usn ≡ integer_at options_form 2 d
usn_migrates d o read = ap (number_in (λ o. o.usn)) read.kept ∙ usn_of_stored d read.stored read.is

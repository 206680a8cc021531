-- The check of an option group in seconds, which the options that a collection opens with pass.
use Rattle.std.proofs.Common.{◌≡◌, ℤ, pos, ◌≤ℤ◌, None, Ok, refl, ◌∙◌, arith}
use Rattle.std.proofs.lemmas.Int.{ints}
use Rattle.ak_base.specs.Columns.{id_fault, stamp_fault, code_fault, long_fault, first_fault}
use Rattle.ak_base.specs.Heads.{IsWithin}
use Rattle.ak_base.specs.Limits.{last_stamp}
use Rattle.ak_base.specs.OptionGroups.{AreOpeningOptions, IsCheckedOptions, general_faults, new_faults, rev_faults, lapse_faults, new_faults_by, lapse_faults_by, options_faults, options_faults_by}
use Rattle.ak_base.specs.declared.option_groups.Options.{Options}
use Rattle.ak_base.proofs.FirstFaults.{fault_behind}

-- an option group's columns are checked by the steps in seconds
pub faults_in_seconds : (o : Options) → first_fault (options_faults_by (pos 60_000_000) o) ≡ first_fault (options_faults o)
unfolding new_faults new_faults_by lapse_faults lapse_faults_by
faults_in_seconds o = refl

-- a second in the range
second_passes : (second : ℤ) → pos 0 ≤ℤ second → second ≤ℤ last_stamp → stamp_fault second ≡ None
unfolding stamp_fault
second_passes second low high = grind (arith, ints)

general_pass : (second : ℤ) (o : Options) → AreOpeningOptions second o → stamp_fault second ≡ None → first_fault (general_faults o) ≡ Ok tt
unfolding general_faults id_fault code_fault long_fault
general_pass second o is passes = rw (is.id, is.stamp, is.usn, is.name, is.max_taken, passes) refl

new_pass : (second : ℤ) (o : Options) → AreOpeningOptions second o → first_fault (new_faults o) ≡ Ok tt
unfolding new_faults code_fault long_fault
new_pass second o is = rw (is.new_steps, is.grad_ivl, is.easy_ivl, is.initial_factor, is.new_per_day) refl

rev_pass : (second : ℤ) (o : Options) → AreOpeningOptions second o → first_fault (rev_faults o) ≡ Ok tt
unfolding rev_faults code_fault
rev_pass second o is = rw (is.rev_per_day, is.ease4, is.ivl_fct, is.max_ivl, is.hard_factor) refl

lapse_pass : (second : ℤ) (o : Options) → AreOpeningOptions second o → first_fault (lapse_faults o) ≡ Ok tt
unfolding lapse_faults code_fault long_fault
lapse_pass second o is = rw (is.lapse_steps, is.mult, is.min_int, is.leech_fails, is.leech_action, is.rest) refl

-- they pass their check
pub opening_passes : (second : ℤ) (o : Options) → IsWithin (pos 0) last_stamp second → AreOpeningOptions second o → IsCheckedOptions o
opening_passes second o within is =
    fault_behind (general_faults o) _ tt (general_pass second o is (second_passes second within.low within.high))
    ∙ fault_behind (new_faults o) _ tt (new_pass second o is)
    ∙ fault_behind (rev_faults o) _ tt (rev_pass second o is)
    ∙ lapse_pass second o is

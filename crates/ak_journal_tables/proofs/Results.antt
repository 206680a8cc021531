-- What is known of a result, by what else is known of it.
use Rattle.std.specs.Prelude.{◌≡◌, Result, Ok, Err, IfErr, IfOk}
use Rattle.ak_journals.specs.declared.openings.JournalFault.{JournalFault}
use Rattle.ak_journals.specs.declared.openings.JournalFault.TheVariants.{Damaged, Failed}
use Rattle.std.specs.Prelude.{ℕ}

pub if_ok : {A E : Type 0} (P Q : A → Type 0) (r : Result A E) → ((x : A) → P x → Q x) → IfOk r P → IfOk r Q
if_ok P Q (Ok x) into has = into x has
if_ok P Q (Err e) into has = tt

pub if_ok_both : {A E : Type 0} (P Q R : A → Type 0) (r : Result A E) → ((x : A) → P x → Q x → R x) → IfOk r P → IfOk r Q → IfOk r R
if_ok_both P Q R (Ok x) into has too = into x has too
if_ok_both P Q R (Err e) into has too = tt

pub if_err : {A E : Type 0} (P Q : E → Type 0) (r : Result A E) → ((e : E) → P e → Q e) → IfErr r P → IfErr r Q
if_err P Q (Ok x) into has = tt
if_err P Q (Err e) into has = into e has

-- a disk that refused is not damage
pub not_damage : (fault : JournalFault) (place : ℕ) → fault ≡ Failed → fault ≡ Damaged place → ⊥
not_damage fault place failed damaged = cc

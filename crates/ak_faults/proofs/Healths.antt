-- One call after another.
use Rattle.std.proofs.Common.{◌≡◌, ◌∙◌, Result, refl, arith}
use Rattle.ak_faults.specs.Causes.{Health, GoesOn, HasCauseOf}

-- nothing happened
pub goes_nowhere : (a : Health) → GoesOn a a
goes_nowhere a = record { later = omega arith; calm = λ is. is; faultless = λ is. refl }

-- one stretch, and then another
pub goes_further : {a b c : Health} → GoesOn a b → GoesOn b c → GoesOn a c
goes_further first then = record {
  later = omega (arith, first.later, then.later);
  calm = λ is. then.calm (first.calm is);
  faultless = λ is. then.faultless (first.calm is) ∙ first.faultless is;
}

-- a cause holds from an earlier moment on
pub cause_after : {T E : Type 0} {error : E} {a b c : Health} {result : Result T E} → GoesOn a b → HasCauseOf error b c result → HasCauseOf error a c result
cause_after goes cause = record {
  goes = goes_further goes cause.goes;
  failed = λ is. let rose = cause.failed is in omega (arith, rose, goes.later);
  unfailed = λ calm is. cause.unfailed (goes.calm calm) is;
}

-- and up to a later one
pub cause_before : {T E : Type 0} {error : E} {a b c : Health} {result : Result T E} → HasCauseOf error a b result → GoesOn b c → HasCauseOf error a c result
cause_before cause goes = record {
  goes = goes_further cause.goes goes;
  failed = λ is. let rose = cause.failed is in omega (arith, rose, goes.later);
  unfailed = cause.unfailed;
}

-- Why a call of the outside was refused: its count of faults rose in that call.
use Rattle.std.specs.Prelude.{◌≡◌, ℕ, ◌+◌, ◌-◌, ◌^◌, ◌≤◌, min, Bool, true, Result, OnErr}
use Rattle.std.specs.Result.{IsErrOf}

-- one more, up to the last `u64`
abbrev pub one_more : ℕ → ℕ
one_more count = min (count + 1) (2 ^ 64 - 1)

-- how an end to the outside is: how many of its calls failed so far, and whether it is known that none will
pub record Health : Type 0 where
  pub faults : ℕ
  pub calm : Bool

-- a fault was counted, or the count is at the last `u64`, where it stays
abbrev pub Rose : Health → Health → Type 0
Rose before now = one_more before.faults ≤ now.faults

-- the count never falls, and what is calm stays calm, without a fault
pub record GoesOn (before now : Health) : Type 0 where
  pub later : before.faults ≤ now.faults
  pub calm : before.calm ≡ true → now.calm ≡ true
  pub faultless : before.calm ≡ true → now.faults ≡ before.faults

-- the call was refused only where its end counted a fault in it; what is calm does not refuse
pub record HasCause {T E : Type 0} (before now : Health) (result : Result T E) : Type 0 where
  pub goes : GoesOn before now
  pub failed : OnErr result (Rose before now)
  pub unfailed : before.calm ≡ true → OnErr result ⊥

-- the same of refusals by this error alone; the others have causes of their own
pub record HasCauseOf {T E : Type 0} (error : E) (before now : Health) (result : Result T E) : Type 0 where
  pub goes : GoesOn before now
  pub failed : IsErrOf result error → Rose before now
  pub unfailed : before.calm ≡ true → IsErrOf result error → ⊥

-- Where nothing is there.
use Rattle.std.proofs.Common.{◌≡◌, Option, Some, None, refl}
use Rattle.std.specs.Option.{option_or, option_map}

-- the first of two, where there is neither
pub first_none : {A : Type 0} (one other : Option A) → option_or one other ≡ None → one ≡ None
first_none None other h = refl
first_none (Some x) other h = cc

-- the second
pub second_none : {A : Type 0} (one other : Option A) → option_or one other ≡ None → other ≡ None
second_none None other h = h
second_none (Some x) other h = cc

pub both_none : {A : Type 0} (one other : Option A) → option_or one other ≡ None → (one ≡ None) × (other ≡ None)
both_none one other h = (first_none one other h, second_none one other h)

-- what nothing was made of
pub none_mapped : {A B : Type 0} (f : A → B) (o : Option A) → option_map f o ≡ None → o ≡ None
none_mapped f None h = refl
none_mapped f (Some x) h = cc

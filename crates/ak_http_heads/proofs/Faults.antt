-- A head with a fault fails a test that comes after the head was found.
use Rattle.std.proofs.Common.{◌≡◌, ℕ, List, Bool, true, false, cond, Option, Some, None}
use Rattle.ak_http_texts.specs.declared.refusals.Refusal.{Refusal}
use Rattle.ak_http_texts.specs.declared.refusals.Refusal.TheVariants as refusals
use Rattle.ak_http_heads.specs.Heads.{fault_of}

-- neither of two is the value
neither : (b : Bool) (value : Refusal) (x y : Option Refusal) → (x ≡ Some value → ⊥) → (y ≡ Some value → ⊥) → cond b x y ≡ Some value → ⊥
neither true value x y left right e = left e
neither false value x y left right e = right e

-- a fault is none of those that do not come of a head's fields
pub never_head : (method target : List ℕ) (fields : List (List ℕ × List ℕ)) → fault_of method target fields ≡ Some refusals.Head → ⊥
never_head method target fields =
    neither _ _ _ _ (λ (e : ◌≡◌ {A = Option Refusal} (Some refusals.Route) (Some refusals.Head)). cc)
    (neither _ _ _ _ (λ (e : ◌≡◌ {A = Option Refusal} (Some refusals.Method) (Some refusals.Head)). cc)
    (neither _ _ _ _ (λ (e : ◌≡◌ {A = Option Refusal} (Some refusals.Length) (Some refusals.Head)). cc)
    (neither _ _ _ _ (λ (e : ◌≡◌ {A = Option Refusal} (Some refusals.Large) (Some refusals.Head)). cc)
    (neither _ _ _ _ (λ (e : ◌≡◌ {A = Option Refusal} (Some refusals.Compressed) (Some refusals.Head)). cc)
    (neither _ _ _ _ (λ (e : ◌≡◌ {A = Option Refusal} (Some refusals.Headers) (Some refusals.Head)). cc)
    (λ (e : ◌≡◌ {A = Option Refusal} None (Some refusals.Head)). cc))))))

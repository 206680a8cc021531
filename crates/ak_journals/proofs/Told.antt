-- What is told of a content, before and after a call.
use Rattle.std.proofs.Common.{◌≡◌, inr, ℕ, ◌≤◌, List, length, take, refl, sym, ap, ◌∙◌, subst, Option, Some, None}
use Rattle.std.specs.Prelude.{IfSome, OnErr, Result, Ok, Err}
use Rattle.std.specs.Option.{option_map}
use Rattle.std.proofs.lemmas.Option.{none-some, same_Some}
use Rattle.ak_disks.specs.Disks.{Becomes, IsTorn, IsCutOrWhole, overwritten}
use Rattle.ak_disks.proofs.Torn.{torn_whole}

pub if_some : (o : Option (List ℕ)) (P : List ℕ → Type 0) → ((x : List ℕ) → o ≡ Some x → P x) → IfSome o P
if_some None P all = tt
if_some (Some x) P all = all x refl

pub for_some : (o : Option (List ℕ)) (P : List ℕ → Type 0) → IfSome o P → (x : List ℕ) → o ≡ Some x → P x
for_some None P has x is = absurd (none-some x is)
for_some (Some y) P has x is = subst P (same_Some y x is) has

-- a write that was done is one way to be torn
pub becomes_whole : (place : ℕ) (bytes : List ℕ) (old new : Option (List ℕ)) → IfSome old (λ file. place ≤ length file) → new ≡ option_map (overwritten place bytes) old → Becomes (IsTorn place (length bytes)) old new
becomes_whole place bytes None new within is = is
becomes_whole place bytes (Some file) new within is = (overwritten place bytes file, is, torn_whole place bytes file within)

pub becomes_cut : (size : ℕ) (old new : Option (List ℕ)) → new ≡ option_map (take size) old → Becomes (IsCutOrWhole size) old new
becomes_cut size None new is = is
becomes_cut size (Some file) new is = (take size file, is, inr refl)

-- what is told after a call was told before it
pub was_told : (step : List ℕ → List ℕ → Type 0) (old new : Option (List ℕ)) (file : List ℕ) → Becomes step old new → new ≡ Some file → (was : List ℕ) × (old ≡ Some was) × step was file
was_told step None new file becomes is = absurd (none-some file (sym becomes ∙ is))
was_told step (Some was) new file (other, named, so) is = (was, refl, subst (step was) (same_Some other file (sym named ∙ is)) so)

pub map_told : (f : List ℕ → List ℕ) (old new : Option (List ℕ)) (file : List ℕ) → new ≡ option_map f old → new ≡ Some file → (was : List ℕ) × (old ≡ Some was) × (file ≡ f was)
map_told f None new file mapped is = absurd (none-some file (sym mapped ∙ is))
map_told f (Some was) new file mapped is = (was, refl, same_Some file (f was) (sym is ∙ mapped))

-- one step after a call that was done
pub becomes_after : (step : List ℕ → List ℕ → Type 0) (f : List ℕ → List ℕ) (old mid new : Option (List ℕ)) → mid ≡ option_map f old → Becomes step mid new → Becomes (λ (was file : List ℕ). step (f was) file) old new
becomes_after step f None mid new is becomes = subst (λ (m : Option (List ℕ)). Becomes step m new) is becomes
becomes_after step f (Some was) mid new is becomes = subst (λ (m : Option (List ℕ)). Becomes step m new) is becomes

pub mapped_after : (f g : List ℕ → List ℕ) (old mid new : Option (List ℕ)) → mid ≡ option_map f old → new ≡ option_map g mid → new ≡ option_map (λ (was : List ℕ). g (f was)) old
mapped_after f g None mid new is then = then ∙ ap (λ (m : Option (List ℕ)). option_map g m) is
mapped_after f g (Some was) mid new is then = then ∙ ap (λ (m : Option (List ℕ)). option_map g m) is

-- what holds in any case holds at a refusal
pub on_err : {T E P : Type 0} (r : Result T E) → P → OnErr r P
on_err (Ok value) holds = tt
on_err (Err fault) holds = holds

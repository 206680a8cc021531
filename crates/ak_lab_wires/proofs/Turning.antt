-- What lines planned before a call, in turn.
use Rattle.std.proofs.Common.{◌≡◌, ◌<◌, ◌≤◌, ◌+◌, ◌==◌, ℕ, Bool, true, false, if◌then◌else◌, List, [], ◌∷◌, length, drop, get_or, Ok, Err, refl, sym, subst, inl, inr, arith}
use Rattle.ak_base.specs.declared.errors.Memory.{Memory}
use Rattle.ak_lab_devices.specs.declared.plans.Planned.{Planned}
use Rattle.ak_lab_wires.proofs.Named.{from_place, past_end}
use Rattle.ak_lab_wires.specs.Turns.{InTurn, TurnKind, due}
use Rattle.ak_sync_in_memory.specs.Betweens.{ActEnd}
use Rattle.ak_sync_in_memory.specs.Entries.{LoggedState}

module _ {X : Type 0} (act : TurnKind X) where
  -- ---- one line, due or not
  then_rest : (it : Planned) (more : List Planned) (was mid now : X) (old met new : LoggedState) (came : ActEnd) (b : Bool)
      → InTurn act (if b then it ∷ [] else []) was mid old met (Ok tt) → InTurn act more mid now met new came
      → InTurn act (if b then it ∷ more else more) was now old new came
  then_rest it more was mid now old met new came true (inl (at, reached, one, same)) rest =
      inl (
        at,
        reached,
        one,
        subst (λ (x : X). InTurn act more x now reached new came) same.0
            (subst (λ (s : LoggedState). InTurn act more mid now s new came) same.1 rest),
      )
  then_rest it more was mid now old met new came true (inr (end, one, is)) rest = absurd (grind (arith, is))
  then_rest it more was mid now old met new came false same rest =
      subst (λ (x : X). InTurn act more x now old new came) same.0
      (subst (λ (s : LoggedState). InTurn act more mid now s new came) same.1 rest)

  no_more : (it : Planned) (more : List Planned) (was now : X) (old new : LoggedState) (end : Memory) (b : Bool)
      → InTurn act (if b then it ∷ [] else []) was now old new (Err end) → InTurn act (if b then it ∷ more else more) was now old new (Err end)
  no_more it more was now old new end true (inl (at, reached, one, same)) = absurd (let is = same.2 in grind (arith, is))
  no_more it more was now old new end true (inr short) = inr short
  no_more it more was now old new end false same = absurd (let is = same.2 in grind (arith, is))

  -- ---- one line of several
  module _ (planned : List Planned) (place call : ℕ) (it : Planned) (within : place < length planned) (is : it ≡ get_or planned place it) where
    abbrev left : List Planned
    left = due call (drop (place + 1) planned)

    pub turn_more : (was mid now : X) (old met new : LoggedState) (came : ActEnd) → InTurn act (due call (it ∷ [])) was mid old met (Ok tt)
        → InTurn act left mid now met new came → InTurn act (due call (drop place planned)) was now old new came
    turn_more was mid now old met new came one rest =
        subst (λ (l : List Planned). InTurn act (due call l) was now old new came) (sym (from_place planned place it within is))
        (then_rest it left was mid now old met new came (it.call == call) one rest)

    pub turn_short : (was now : X) (old new : LoggedState) (end : Memory) → InTurn act (due call (it ∷ [])) was now old new (Err end)
        → InTurn act (due call (drop place planned)) was now old new (Err end)
    turn_short was now old new end one =
        subst (λ (l : List Planned). InTurn act (due call l) was now old new (Err end)) (sym (from_place planned place it within is))
        (no_more it left was now old new end (it.call == call) one)

  -- no line is left
  pub turns_ended : (planned : List Planned) (place call : ℕ) (s : X) (server : LoggedState) → length planned ≤ place
      → InTurn act (due call (drop place planned)) s s server server (Ok tt)
  turns_ended planned place call s server past =
      subst (λ (l : List Planned). InTurn act (due call l) s s server server (Ok tt)) (sym (past_end planned place past)) (refl, refl, refl)

  -- ---- one line alone
  pub is_due : (it : Planned) (call : ℕ) (was now : X) (old new : LoggedState) (came : ActEnd) → it.call == call ≡ true → act it was now old new came
      → InTurn act (due call (it ∷ [])) was now old new came
  is_due it call was now old new came is one =
      subst (λ (b : Bool). InTurn act (if b then it ∷ [] else []) was now old new came) (sym is) (by_end came one)
    where
      by_end : (came : ActEnd) → act it was now old new came → InTurn act (it ∷ []) was now old new came
      by_end (Ok done) one = inl (now, new, one, (refl, refl, refl))
      by_end (Err end) one = inr (end, one, refl)

  pub not_due : (it : Planned) (call : ℕ) (s : X) (server : LoggedState) → it.call == call ≡ false → InTurn act (due call (it ∷ [])) s s server server (Ok tt)
  not_due it call s server is =
      subst (λ (b : Bool). InTurn act (if b then it ∷ [] else []) s s server server (Ok tt)) (sym is) (refl, refl, refl)

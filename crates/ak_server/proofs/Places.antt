-- Where the account of a host key stands.
use Rattle.std.proofs.Common.{◌≡◌, ◌<◌, ◌+◌, ℕ, zero, suc, subst, Bool, true, false, List, [], ◌∷◌, length, drop, get_or, cond, not, Some, refl, sym, ap, ◌∙◌, drop-cons, slice_get}
use Rattle.std.proofs.lemmas.List.Folds.{find_at, find-set, find_past}
use Rattle.std.proofs.lemmas.Option.{get_or_from_slice_get}
use Rattle.std.proofs.lemmas.List.Elements.{All-get_or}
use Rattle.std.specs.List.{All, position_or_len}
use Rattle.ak_protocol.proofs.Isolation.{host_is, same_as_itself}
use Rattle.ak_protocol.specs.Servers.{same_host}
use Rattle.ak_base.specs.declared.keys.HostKey.{HostKey}
use Rattle.ak_server.specs.Accounts.{IsPlaceOf}
use Rattle.ak_server.specs.declared.accounts.Account.{Account}
use native.Mathlib.Omega.{arith}

-- whether an account has this host key
abbrev pub has_host : {K : Type 0} → List ℕ → Account K → Bool
has_host host a = same_host a.host.digits host

pub apart : (a b : List ℕ) → same_host b a ≡ false → same_host a b ≡ false
apart a b differs =
    elim (same_host a b) as (λ t. same_host a b ≡ t → t ≡ false) [
      | true ↦ λ e. sym (same_as_itself a) ∙ ap (λ x. same_host x a) (host_is a b e) ∙ differs
      | false ↦ λ e. refl
    ] refl

-- the first account of the host key was found
pub found : {K : Type 0} (host : List ℕ) (accounts : List (Account K)) (place : ℕ) (a : Account K) → place < length accounts
    → a ≡ get_or accounts place a → has_host host a ≡ true
    → place + position_or_len (has_host host) (drop place accounts) ≡ position_or_len (has_host host) accounts
    → IsPlaceOf host accounts place
found {K} host accounts place a within is named first = record {
  within = within;
  held = find_at (has_host host) accounts ∙ ap (slice_get accounts) (sym at);
  set = λ old new got same. find-set (has_host host) accounts place new at within (ap (λ (h : HostKey). same_host h.digits host) same ∙ its old got);
  others = λ other old new differs got same. find_past (has_host other) accounts place new old
      (ap (has_host other) (get_or_from_slice_get accounts place old old got) ∙ not_its other old differs got)
      (ap (λ (h : HostKey). same_host h.digits other) same ∙ not_its other old differs got);
}
  where
    here : drop place accounts ≡ a ∷ drop (suc place) accounts
    here = drop-cons accounts place a within ∙ ap (λ x. x ∷ drop (suc place) accounts) (sym is)

    none : position_or_len (has_host host) (drop place accounts) ≡ 0
    none = ap (position_or_len (has_host host)) here ∙ ap (λ b. cond (not b) (1 + position_or_len (has_host host) (drop (suc place) accounts)) 0) named

    at : place ≡ position_or_len (has_host host) accounts
    at = omega (arith, none, first)

    its : (old : Account K) → slice_get accounts place ≡ Some old → has_host host old ≡ true
    its old got = ap (has_host host) (sym (is ∙ get_or_from_slice_get accounts place old a got)) ∙ named

    not_its : (other : List ℕ) (old : Account K) → same_host other host ≡ false → slice_get accounts place ≡ Some old → has_host other old ≡ false
    not_its other old differs got = ap (λ h. same_host h other) (host_is old.host.digits host (its old got)) ∙ apart host other differs

-- what stands at a place of a list
pub got_at : {X : Type 0} (xs : List X) (i : ℕ) (x : X) → i < length xs → x ≡ get_or xs i x → slice_get xs i ≡ Some x
got_at [] i x within is = absurd (omega (arith, within))
got_at (y ∷ ys) zero x within is = ap Some (sym is)
got_at (y ∷ ys) (suc i) x within is = got_at ys i x (omega (arith, within)) is

pub place_in : {K : Type 0} (host : List ℕ) (xs ys : List (Account K)) (place : ℕ) → IsPlaceOf host ys place → ys ≡ xs → IsPlaceOf host xs place
place_in host xs ys place at is = subst (λ (l : List (Account _)). IsPlaceOf host l place) is at

-- what holds of each of a list holds of what stands at a place
pub each_at : {X : Type 0} (P : X → Type 0) (xs : List X) (i : ℕ) (x : X) → i < length xs → x ≡ get_or xs i x → All P xs → P x
each_at P xs i x within is all = subst P (sym is) (All-get_or P xs i x within all)

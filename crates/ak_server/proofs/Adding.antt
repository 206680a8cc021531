-- An account that was added.
use Rattle.std.specs.List.{All}
use Rattle.std.specs.Option.{option_map, option_or}
use Rattle.std.specs.Prelude.{◌≡◌, ℕ, Bool, true, false, cond, if◌then◌else◌, List, [], ◌∷◌, ◌++◌, Option, Some, None, is_some, MatchOption, OnErr, OnOk, Result, Ok, Err}
use Rattle.std.proofs.Common.{refl, sym, ap, subst, ◌∙◌, arith}
use Rattle.std.proofs.lemmas.List.Elements.{All-push}
use Rattle.std.proofs.lemmas.List.Folds.{find-append}
use Rattle.ak_base.specs.declared.keys.HostKey.{HostKey}
use Rattle.ak_keep.specs.Collections.{Collection}
use Rattle.ak_keep.specs.Keepers.{IsNamedRightly, Keeping, is_marked}
use Rattle.ak_protocol.proofs.Isolation.{host_is, same_as_itself}
use Rattle.ak_protocol.specs.Accounts.{AccountState}
use Rattle.ak_protocol.specs.Servers.{ServerState, same_host, with_account}
use Rattle.ak_server.proofs.Keepings.{unmarked_back, unmarked_tables}
use Rattle.ak_server.proofs.Places.{apart, has_host}
use Rattle.ak_server.proofs.Seeing.{seen_as}
use Rattle.ak_server.specs.Accounts.{IsRight, StandsFor, account_at, account_seen, committed_in}
use Rattle.ak_server.specs.Servers.{account_added}
use Rattle.ak_server.specs.declared.accounts.Account.{Account}
use Rattle.ak_server_rules.specs.Summaries.{account_summary}

-- what follows from what holds if a call was not refused
pub on_so : {T E : Type 0} (r : Result T E) (P Q : Type 0) → (P → Q) → OnOk r P → OnOk r Q
on_so (Ok x) P Q so is = so is
on_so (Err y) P Q so is = tt

-- nothing was found
pub none_placed : (o : Option ℕ) (P : Type 0) (Q : ℕ → Type 0) → is_some o ≡ false → MatchOption o P Q → P
none_placed None P Q none holds = holds
none_placed (Some n) P Q none holds = absurd (grind (arith, none))

or_none : {X : Type 0} (o : Option X) → option_or o None ≡ o
or_none None = refl
or_none (Some x) = refl

module _ {K : Type 0} (keeping : K → Keeping) (name : List ℕ) (host : HostKey) (keeper : K) (named : IsNamedRightly (keeping keeper)) (unmarked : is_marked (keeping keeper) ≡ false) where
  pub added_right : (keeping keeper).headed.current ≡ true → IsRight keeping (account_added name host keeper)
  added_right held = record {
    keeper = record {
      held = held;
      held_before = ap (λ (k : Keeping). k.headed.current) (unmarked_back (keeping keeper) named unmarked) ∙ held;
      marked = unmarked;
    };
    session = tt;
    told = λ c t over under. tt;
    granted = tt;
    unread = tt;
  }

  pub added_rights : (keeping keeper).headed.current ≡ true → (old new : List (Account K)) → new ≡ old ++ account_added name host keeper ∷ [] → All (IsRight keeping) old → All (IsRight keeping) new
  added_rights held old new is all =
      subst (All (IsRight keeping)) (sym is) (All-push (IsRight keeping) old (account_added name host keeper) all (added_right held))

  -- with a refusal or without one
  pub either_rights : {T E : Type 0} (r : Result T E) (old new : List (Account K)) → (keeping keeper).headed.current ≡ true → OnOk r (new ≡ old ++ account_added name host keeper ∷ [])
      → OnErr r (new ≡ old) → All (IsRight keeping) old → All (IsRight keeping) new
  either_rights (Ok x) old new held ok err all = added_rights held old new ok all
  either_rights (Err y) old new held ok err all = subst (All (IsRight keeping)) (sym err) all

  added_seen : (c : Collection) → committed_in (keeping keeper) ≡ Some c → account_seen keeping (account_added name host keeper) ≡ Some (record { committed = c; live = None; kept = None })
  added_seen c is = seen_as keeping (account_added name host keeper) c c None None is (unmarked_tables (keeping keeper) named unmarked ∙ is) refl refl

  abbrev added : List (Account K) → List (Account K)
  added old = old ++ account_added name host keeper ∷ []

  found_added : (old : List (Account K)) → account_at host.digits old ≡ None → account_at host.digits (added old) ≡ Some (account_added name host keeper)
  found_added old none =
      find-append (has_host host.digits) old (account_added name host keeper ∷ [])
      ∙ ap (λ (o : Option (Account K)). option_or o (account_at host.digits (account_added name host keeper ∷ []))) none
      ∙ ap (λ (b : Bool). cond b (Some (account_added name host keeper)) None) (same_as_itself host.digits)

  others_added : (old : List (Account K)) (other : List ℕ) → same_host other host.digits ≡ false → account_at other (added old) ≡ account_at other old
  others_added old other differs =
      find-append (has_host other) old (account_added name host keeper ∷ [])
      ∙ ap (λ (b : Bool). option_or (account_at other old) (cond b (Some (account_added name host keeper)) None)) (apart host.digits other differs)
      ∙ or_none (account_at other old)

  -- the accounts stand for the server with one account more
  pub added_stands : (old new : List (Account K)) → new ≡ added old → account_at host.digits old ≡ None → (server : ServerState) (c : Collection) → StandsFor keeping old server
      → committed_in (keeping keeper) ≡ Some c → StandsFor keeping new (with_account host.digits (record { committed = c; live = None; kept = None }) server)
  added_stands old new is none server c stands told = record {
    each = λ other.
        elim (same_host other host.digits) as (λ t. same_host other host.digits ≡ t → option_map (account_seen keeping) (account_at other new)
        ≡ option_map (λ (s : AccountState). Some (account_summary s)) (if t then Some (record { committed = c; live = None; kept = None }) else server other)) [
          | true ↦ λ e. ap (λ (h : List ℕ). option_map (account_seen keeping) (account_at h new)) (host_is other host.digits e)
              ∙ ap (λ (l : List (Account K)). option_map (account_seen keeping) (account_at host.digits l)) is
              ∙ ap (option_map (account_seen keeping)) (found_added old none) ∙ ap Some (added_seen c told)
          | false ↦ λ e. ap (λ (l : List (Account K)). option_map (account_seen keeping) (account_at other l)) is
              ∙ ap (option_map (account_seen keeping)) (others_added old other e) ∙ stands.each other
        ] refl;
  }

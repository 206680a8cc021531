-- Accounts that stand for a server, once one of them was changed.
use Rattle.std.specs.Option.{option_map}
use Rattle.std.specs.Prelude.{◌≡◌, ℕ, ℤ, true, false, if◌then◌else◌, List, Option, Some, None, IfSome, slice_get, slice_set}
use Rattle.std.proofs.Common.{refl, sym, ap, subst, ◌∙◌}
use Rattle.ak_keep.specs.Keepers.{Keeping}
use Rattle.ak_messages.specs.declared.replies.Reply.{Reply}
use Rattle.ak_messages.specs.declared.requests.Request.{Request}
use Rattle.ak_protocol.proofs.Cases.{not_none}
use Rattle.ak_protocol.proofs.Isolation.{host_is}
use Rattle.ak_protocol.specs.Accounts.{AccountState}
use Rattle.ak_protocol.specs.Replies.{unknown_key}
use Rattle.ak_protocol.specs.Servers.{ServerServed, ServerState, by_account, same_host, server_served, with_account}
use Rattle.ak_protocol.specs.Serving.{Setback, served}
use Rattle.ak_server.proofs.Seeing.{of_some, same_some}
use Rattle.ak_server.specs.Accounts.{IsPlaceOf, StandsFor, account_at, account_seen}
use Rattle.ak_server.specs.Servers.{DoesSo, OthersStay, Serves, ServesFor}
use Rattle.ak_server.specs.declared.accounts.Account.{Account}
use Rattle.ak_server_rules.proofs.Summing.{same_served}
use Rattle.ak_server_rules.specs.Serving.{Did, does}
use Rattle.ak_server_rules.specs.Summaries.{AccountSummary, account_summary}

of_state : (o : Option AccountState) (x : Option AccountSummary) → Some x ≡ option_map (λ (s : AccountState). Some (account_summary s)) o
    → (s : AccountState) × ((o ≡ Some s) × (x ≡ Some (account_summary s)))
of_state None x is = absurd (not_none is)
of_state (Some s) x is = (s, (refl, same_some x (Some (account_summary s)) is))

pub none_state : (o : Option AccountState) → None ≡ option_map (λ (s : AccountState). Some (account_summary s)) o → o ≡ None
none_state None is = refl
none_state (Some s) is = absurd (not_none (sym is))

-- what holds of the accounts that were found before and after
pub both_found : {X : Type 0} (P : Option X → Option X → Type 0) {before after : Option X} {a b : X} → before ≡ Some a → after ≡ Some b → P (Some a) (Some b) → P before after
both_found P {after = after} {a = a} {b = b} was now holds =
    subst (λ (o : Option _). P o after) (sym was) (subst (λ (o : Option _). P (Some a) o) (sym now) holds)

-- ---- one account in the place of another
module _ {K : Type 0} (keeping : K → Keeping) (old new : List (Account K)) (host : List ℕ) (place : ℕ) (a b : Account K) (at : IsPlaceOf host old place)
    (got : slice_get old place ≡ Some a) (made : new ≡ slice_set old place b) (named : b.host ≡ a.host) where
  pub found_old : account_at host old ≡ Some a
  found_old = at.held ∙ got

  pub found_new : account_at host new ≡ Some b
  found_new = ap (account_at host) made ∙ at.set a b got named

  pub others_stay : OthersStay host old new
  others_stay = λ other differs. ap (account_at other) made ∙ at.others other a b differs got named

  pub stands_next : (server : ServerState) (next : AccountState) → StandsFor keeping old server → account_seen keeping b ≡ Some (account_summary next)
      → StandsFor keeping new (with_account host next server)
  stands_next server next stands seen = record {
    each = λ other.
        elim (same_host other host) as (λ t. same_host other host ≡ t → option_map (account_seen keeping) (account_at other new)
        ≡ option_map (λ (s : AccountState). Some (account_summary s)) (if t then Some next else server other)) [
          | true ↦ λ e. ap (λ (h : List ℕ). option_map (account_seen keeping) (account_at h new)) (host_is other host e)
              ∙ ap (option_map (account_seen keeping)) found_new ∙ ap Some seen
          | false ↦ λ e. ap (option_map (account_seen keeping)) (others_stay other e) ∙ stands.each other
        ] refl;
  }

  pub state_of : (server : ServerState) → StandsFor keeping old server
      → (s : AccountState) × ((server host ≡ Some s) × (account_seen keeping a ≡ Some (account_summary s)))
  state_of server stands = of_state (server host) (account_seen keeping a) (sym (ap (option_map (account_seen keeping)) found_old) ∙ stands.each host)

-- ---- a request
module _ {K : Type 0} (keeping : K → Keeping) (b : Account K) (request : Request) (now : ℤ) (reply : Reply) where
  reply_served : (s : AccountState) (setback : Setback) → reply ≡ (does (account_summary s) request now setback).reply → reply ≡ (served s request now setback).reply
  reply_served s setback is = is ∙ ap (λ (d : Did). d.reply) (same_served s request now setback)

  seen_served : (s : AccountState) (setback : Setback) → account_seen keeping b ≡ Some (does (account_summary s) request now setback).next
      → account_seen keeping b ≡ Some (account_summary (served s request now setback).next)
  seen_served s setback is = is ∙ ap (λ (d : Did). Some d.next) (same_served s request now setback)

module _ {K : Type 0} (keeping : K → Keeping) (old new : List (Account K)) (request : Request) (now : ℤ) (reply : Reply) (place : ℕ) (a b : Account K)
    (at : IsPlaceOf request.host.digits old place) (got : slice_get old place ≡ Some a) (made : new ≡ slice_set old place b) (named : b.host ≡ a.host)
    (did : IfSome (account_seen keeping a) (λ s. DoesSo keeping s request now b reply)) where
  pub serves_known : Serves keeping old new request now reply
  serves_known server stands =
      let state = state_of keeping old new request.host.digits place a b at got made named server stands in
      let so : DoesSo keeping (account_summary state.0) request now b reply =
      of_some (account_seen keeping a) (λ (s : AccountSummary). DoesSo keeping s request now b reply) (account_summary state.0) did state.1.1 in
      let it : server_served server request now so.setback ≡ by_account (Some state.0) server request now so.setback =
      ap (λ (o : Option AccountState). by_account o server request now so.setback) state.1.0 in
      record {
        setback = so.setback;
        reply_is = reply_served keeping b request now reply state.0 so.setback so.reply_is ∙ sym (ap (λ (x : ServerServed). x.reply) it);
        stands = subst (StandsFor keeping new) (sym (ap (λ (x : ServerServed). x.next) it))
            (stands_next keeping old new request.host.digits place a b at got made named server (served state.0 request now so.setback).next stands
            (seen_served keeping b request now reply state.0 so.setback so.seen));
      }

  pub serves_account : ServesFor keeping (account_at request.host.digits old) (account_at request.host.digits new) request now reply
  serves_account s is =
      let own : account_seen keeping a ≡ Some (account_summary s) =
      same_some (account_seen keeping a) (Some (account_summary s))
      (sym (ap (option_map (account_seen keeping)) (found_old keeping old new request.host.digits place a b at got made named)) ∙ is) in
      let so : DoesSo keeping (account_summary s) request now b reply =
      of_some (account_seen keeping a) (λ (x : AccountSummary). DoesSo keeping x request now b reply) (account_summary s) did own in
      record {
        setback = so.setback;
        reply_is = reply_served keeping b request now reply s so.setback so.reply_is;
        seen = ap (option_map (account_seen keeping)) (found_new keeping old new request.host.digits place a b at got made named)
            ∙ ap Some (seen_served keeping b request now reply s so.setback so.seen);
      }

-- a host key that is no account's
module _ {K : Type 0} (keeping : K → Keeping) (accounts : List (Account K)) (request : Request) (now : ℤ) (reply : Reply)
    (none : account_at request.host.digits accounts ≡ None) (is : reply ≡ unknown_key) where
  pub serves_unknown : (setback : Setback) → Serves keeping accounts accounts request now reply
  serves_unknown setback server stands =
      let no : server request.host.digits ≡ None =
      none_state (server request.host.digits) (sym (ap (option_map (account_seen keeping)) none) ∙ stands.each request.host.digits) in
      let it : server_served server request now setback ≡ by_account None server request now setback =
      ap (λ (o : Option AccountState). by_account o server request now setback) no in
      record {
        setback = setback;
        reply_is = is ∙ sym (ap (λ (x : ServerServed). x.reply) it);
        stands = subst (StandsFor keeping accounts) (sym (ap (λ (x : ServerServed). x.next) it)) stands;
      }

  pub serves_none : ServesFor keeping (account_at request.host.digits accounts) (account_at request.host.digits accounts) request now reply
  serves_none s some = absurd (not_none (sym some ∙ ap (option_map (account_seen keeping)) none))

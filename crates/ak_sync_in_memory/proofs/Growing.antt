-- What may come between two calls adds up.
use Rattle.std.specs.List.{AllByRecursion}
use Rattle.std.specs.Prelude.{◌≡◌, ◌⊎◌, ℕ, ℤ, if◌then◌else◌, Bool, true, false, List, [], ◌∷◌, ◌++◌, Some, None}
use Rattle.std.proofs.Common.{refl, sym, ap, subst, ◌∙◌, inl, inr, append_assoc}
use Rattle.std.proofs.lemmas.List.{append-nil}
use Rattle.std.proofs.lemmas.Option.{same_Some}
use Rattle.ak_io.specs.Arrivals.{IsClockMoment}
use Rattle.ak_messages.specs.declared.replies.Reply.{Reply}
use Rattle.ak_messages.specs.declared.requests.Request.{Request}
use Rattle.ak_openings.specs.declared.whole_collections.Opening.{Opening}
use Rattle.ak_protocol.proofs.Cases.{not_none}
use Rattle.ak_protocol.proofs.Isolation.{host_is, same_as_itself}
use Rattle.ak_protocol.proofs.Syncs.{all_append}
use Rattle.ak_protocol.specs.Accounts.{AccountState}
use Rattle.ak_protocol.specs.Logs.{Asked, Event, HasAsked, Log, View, with_growth}
use Rattle.ak_protocol.specs.Servers.{ServerState, same_host}
use Rattle.ak_sync_in_memory.proofs.Logging.{events_append}
use Rattle.ak_sync_in_memory.specs.Betweens.{ComesBetween, MayComeBetween}
use Rattle.ak_sync_in_memory.specs.Entries.{LoggedState, account_opened, collection_in, entry_of, events_in, log_in, log_with, server_opened, setback_of}
use Rattle.ak_sync_in_memory.specs.LoggedServers.{Adds, IsServed}
use Rattle.ak_sync_in_memory.specs.declared.logs.Logged.TheVariants as logged

-- ---- one thing
pub comes_nothing : (session : ℕ) (s : LoggedState) → ComesBetween session s s
comes_nothing session s = record {
  growth = [];
  grown = ap (log_with s.host s.opening) (sym (append-nil (events_in s.host s.entries)));
  may = tt;
  line = refl;
}

pub comes_view : (session : ℕ) (old new : LoggedState) → Adds old new logged.Viewed → ComesBetween session old new
comes_view session old new adds = record {
  growth = View old.host ∷ [];
  grown = ap log_in adds ∙ ap (log_with old.host old.opening) (events_append old.host old.entries (entry_of old.line logged.Viewed ∷ []));
  may = (tt, tt);
  line = ap (λ (s : LoggedState). s.line) adds;
}

pub comes_request : (session : ℕ) (old new : LoggedState) (request : Request) (now : ℤ) (reply : Reply) → IsClockMoment now
    → (request.session.0 ≡ session → HasAsked (log_in old).events request) → IsServed old new request now reply → ComesBetween session old new
comes_request session old new request now reply clock past is = record {
  growth = Asked request now (setback_of is.trouble) ∷ [];
  grown = ap log_in is.adds
      ∙ ap (log_with old.host old.opening) (events_append old.host old.entries (entry_of old.line (logged.Served request now is.trouble) ∷ []));
  may = ((clock, past), tt);
  line = ap (λ (s : LoggedState). s.line) is.adds;
}

-- ---- one thing after the other
-- a request of the session that is asked again came before
asked_before : (past growth : List Event) (session : ℕ) (request : Request) → AllByRecursion (MayComeBetween past session) growth
    → request.session.0 ≡ session → HasAsked growth request → HasAsked past request
asked_before past [] session request may own asked = absurd asked
asked_before past (View host ∷ growth) session request may own asked = asked_before past growth session request may.1 own asked
asked_before past (Asked other now setback ∷ growth) session request may own (inl is) =
    subst (λ (q : Request). q.session.0 ≡ session → HasAsked past q) is may.0.1 own
asked_before past (Asked other now setback ∷ growth) session request may own (inr asked) = asked_before past growth session request may.1 own asked

in_either : (xs ys : List Event) (request : Request) → HasAsked (xs ++ ys) request → HasAsked xs request ⊎ HasAsked ys request
in_either [] ys request asked = inr asked
in_either (View host ∷ xs) ys request asked = in_either xs ys request asked
in_either (Asked other now setback ∷ xs) ys request (inl is) = inl (inl is)
in_either (Asked other now setback ∷ xs) ys request (inr asked) = or_later (in_either xs ys request asked)
  where
    or_later : HasAsked xs request ⊎ HasAsked ys request → ((other ≡ request) ⊎ HasAsked xs request) ⊎ HasAsked ys request
    or_later (inl one) = inl (inr one)
    or_later (inr two) = inr two

came_before : (past growth : List Event) (session : ℕ) → AllByRecursion (MayComeBetween past session) growth → (event : Event)
    → MayComeBetween (past ++ growth) session event → MayComeBetween past session event
came_before past growth session may (View host) one = tt
came_before past growth session may (Asked request now setback) one = (one.0, λ own. of_either own (in_either past growth request (one.1 own)))
  where
    of_either : request.session.0 ≡ session → HasAsked past request ⊎ HasAsked growth request → HasAsked past request
    of_either own (inl before) = before
    of_either own (inr here) = asked_before past growth session request may own here

all_before : (past growth : List Event) (session : ℕ) → AllByRecursion (MayComeBetween past session) growth → (more : List Event)
    → AllByRecursion (MayComeBetween (past ++ growth) session) more → AllByRecursion (MayComeBetween past session) more
all_before past growth session may [] all = tt
all_before past growth session may (event ∷ more) all =
    (came_before past growth session may event all.0, all_before past growth session may more all.1)

pub comes_further : (session : ℕ) (old met new : LoggedState) → ComesBetween session old met → ComesBetween session met new → ComesBetween session old new
comes_further session old met new one two = record {
  growth = one.growth ++ two.growth;
  grown = two.grown ∙ ap (λ (log : Log). with_growth log two.growth) one.grown
      ∙ ap (log_with old.host old.opening) (append_assoc (log_in old).events one.growth two.growth);
  may = all_append (MayComeBetween (log_in old).events session) one.growth two.growth one.may
      (all_before (log_in old).events one.growth session one.may two.growth
      (subst (λ (log : Log). AllByRecursion (MayComeBetween log.events session) two.growth) one.grown two.may));
  line = two.line ∙ one.line;
}

-- what came with another line that was set for it, once the line is set back
pub comes_lined : (session line : ℕ) (old met : LoggedState) → ComesBetween session (record old { line = line }) met
    → ComesBetween session old (record met { line = old.line })
comes_lined session line old met comes = record { growth = comes.growth; grown = comes.grown; may = comes.may; line = refl }

-- ---- openings
own_account : (host : List ℕ) (opening : Opening) → server_opened host opening host ≡ Some (account_opened opening)
own_account host opening = ap (λ (b : Bool). if b then Some (account_opened opening) else None) (same_as_itself host)

pub host_told : (a b : LoggedState) → (log_in a).opening ≡ (log_in b).opening → a.host ≡ b.host
host_told a b same =
    elim (same_host a.host b.host) as (λ t. same_host a.host b.host ≡ t → a.host ≡ b.host) [
      | true ↦ λ e. host_is a.host b.host e
      | false ↦ λ e. absurd (not_none (sym (own_account a.host a.opening) ∙ ap (λ (server : ServerState). server a.host) same
          ∙ ap (λ (t : Bool). if t then Some (account_opened b.opening) else None) e))
    ] refl

pub collection_told : (a b : LoggedState) → (log_in a).opening ≡ (log_in b).opening → collection_in a.opening ≡ collection_in b.opening
collection_told a b same =
    ap (λ (s : AccountState). s.committed) (same_Some (account_opened a.opening) (account_opened b.opening)
    (sym (own_account a.host a.opening) ∙ ap (λ (server : ServerState). server a.host) same
    ∙ ap (server_opened b.host b.opening) (host_told a b same) ∙ own_account b.host b.opening))

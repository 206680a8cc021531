-- What an account does with a request that is no meta and no repeat, by why it is refused.
use Rattle.std.specs.Option.{option_map}
use Rattle.std.specs.Ordering.{int_eq}
use Rattle.std.specs.Prelude.{◌≡◌, ℤ, ◌==◌, Bool, true, false, Option, Some, None}
use Rattle.std.proofs.Common.{refl, sym, ap, ◌∙◌}
use Rattle.ak_messages.specs.declared.requests.Request.{Request}
use Rattle.ak_protocol.specs.Accounts.{repeated}
use Rattle.ak_protocol.specs.Replies.{Refusal, NoSession, Objected, refused}
use Rattle.ak_protocol.specs.Serving.{Undisturbed}
use Rattle.ak_server_rules.specs.Decisions.{refusal_in, refusal_of}
use Rattle.ak_server_rules.specs.Serving.{Did, accepted, by_objection, by_repeat, by_session, does, has_next_step, objection_to, session_of, unchanged}
use Rattle.ak_server_rules.specs.Summaries.{AccountSummary, SessionSummary}
use Rattle.ak_session.specs.Objections.{Objection}
use Rattle.ak_session.specs.Requests.{is_meta}

-- what is done if it is not refused, or else the reply to the refusal
abbrev unless_refused : AccountSummary → Option Refusal → Did → Did
unless_refused s None done = done
unless_refused s (Some why) done = unchanged s (refused why)

module _ (s : AccountSummary) (live : SessionSummary) (request : Request) (now : ℤ) where
  by_why : (found : Option Objection) → by_objection found s live request now
      ≡ unless_refused s (option_map (λ (why : Objection). Objected why live.last s.committed.head.usn) found) (accepted s live request now)
  by_why None = refl
  by_why (Some why) = refl

  by_next : (b : Bool) → has_next_step live request ≡ b → by_session (Some live) s request now
      ≡ unless_refused s (refusal_in s.committed (Some live) request) (accepted s live request now)
  by_next true is = rw is (by_why (objection_to s.committed live request.ask))
  by_next false is = rw is refl

  by_key : (b : Bool) → (live.key == request.session.0) ≡ b → by_session (session_of (Some live) request) s request now
      ≡ unless_refused s (refusal_in s.committed (session_of (Some live) request) request) (accepted s live request now)
  by_key true is = rw is (by_next (has_next_step live request) refl)
  by_key false is = rw is refl

  by_base : (b : Bool) → int_eq request.base s.committed.head.moment ≡ b → s.live ≡ Some live → by_repeat None s request now
      ≡ unless_refused s (refusal_of s.committed s.live request) (accepted s live request now)
  by_base true is some =
      rw is (ap (λ (o : Option SessionSummary). by_session (session_of o request) s request now) some
      ∙ by_key (live.key == request.session.0) refl
      ∙ sym (ap (λ (o : Option SessionSummary). unless_refused s (refusal_in s.committed (session_of o request) request) (accepted s live request now)) some))
  by_base false is some = rw is refl

  -- with a live session
  done_with : is_meta request.ask ≡ false → repeated s.kept request ≡ None → s.live ≡ Some live
      → does s request now Undisturbed ≡ unless_refused s (refusal_of s.committed s.live request) (accepted s live request now)
  done_with later first some = rw (later, first) (by_base (int_eq request.base s.committed.head.moment) refl some)

module _ (s : AccountSummary) (request : Request) (now : ℤ) (later : is_meta request.ask ≡ false) (first : repeated s.kept request ≡ None) where
  without_base : (b : Bool) → int_eq request.base s.committed.head.moment ≡ b → s.live ≡ None → by_repeat None s request now
      ≡ unless_refused s (refusal_of s.committed s.live request) (unchanged s (refused NoSession))
  without_base true is none =
      rw is (ap (λ (o : Option SessionSummary). by_session (session_of o request) s request now) none
      ∙ sym (ap (λ (o : Option SessionSummary). unless_refused s (refusal_in s.committed (session_of o request) request) (unchanged s (refused NoSession))) none))
  without_base false is none = rw is refl

  -- without one
  done_without : s.live ≡ None → does s request now Undisturbed ≡ unless_refused s (refusal_of s.committed s.live request) (unchanged s (refused NoSession))
  done_without none = rw (later, first) (without_base (int_eq request.base s.committed.head.moment) refl none)

  -- a request that is refused changes nothing
  pub done_if_refused : (why : Refusal) → refusal_of s.committed s.live request ≡ Some why → does s request now Undisturbed ≡ unchanged s (refused why)
  done_if_refused why is =
      elim s.live as (λ (o : Option SessionSummary). s.live ≡ o → does s request now Undisturbed ≡ unchanged s (refused why)) [
        | None ↦ λ none. done_without none ∙ ap (λ (r : Option Refusal). unless_refused s r (unchanged s (refused NoSession))) is
        | Some live ↦ λ some. done_with s live request now later first some ∙ ap (λ (r : Option Refusal). unless_refused s r (accepted s live request now)) is
      ] refl

  -- and one that is not is done
  pub done_if_accepted : (live : SessionSummary) → s.live ≡ Some live → refusal_of s.committed s.live request ≡ None
      → does s request now Undisturbed ≡ accepted s live request now
  done_if_accepted live some is =
      done_with s live request now later first some ∙ ap (λ (r : Option Refusal). unless_refused s r (accepted s live request now)) is

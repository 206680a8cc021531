-- A request that is asked again is given the same reply, and changes nothing.
use Rattle.std.specs.Cmp.Derive.{both_true}
use Rattle.std.specs.Option.{unwrap_or}
use Rattle.std.specs.Ordering.{int_eq}
use Rattle.std.specs.Prelude.{◌≡◌, ℤ, if◌then◌else◌, Bool, true, false, Option, Some, None}
use Rattle.std.proofs.Common.{refl, sym, ap, subst, ◌∙◌}
use Rattle.std.proofs.lemmas.Bool.{eq-eqb}
use Rattle.ak_messages.specs.declared.replies.Reply.{Reply}
use Rattle.ak_messages.specs.declared.requests.Ask.{Ask}
use Rattle.ak_messages.specs.declared.requests.Ask.TheVariants as asks
use Rattle.ak_messages.specs.declared.requests.Request.{Request}
use Rattle.ak_protocol.specs.Accounts.{SessionState, KeptReply, AccountState, is_repeat, repeated, given_again, session_of}
use Rattle.ak_session.specs.Contents.{refusal, answer, ends}
use Rattle.ak_protocol.specs.Replies.{granted, download_reply}
use Rattle.ak_session.specs.Objections.{Objection}
use Rattle.ak_session.specs.Requests.{asked_method, method_place, is_meta, is_download, asks_commit}
use Rattle.ak_protocol.specs.Serving.{Undisturbed, Served, unchanged, begun, reply_to, kept_of, went_on, ended, finished, by_refusal, has_next_step, by_session, by_repeat, served}
use Rattle.ak_protocol.proofs.Commits.{not_both}

-- a request that is no meta goes by the kept reply
pub no_meta : (s : AccountState) (request : Request) (now : ℤ) → is_meta request.ask ≡ false
    → served s request now Undisturbed ≡ by_repeat (repeated s.kept request) s request now
no_meta s request now later = ap (λ (b : Bool). if b then begun s request now else by_repeat (repeated s.kept request) s request now) later

-- a request with the session key, the step and the method of the kept reply is given that reply, a download the committed collection
pub repeats_change_nothing : (s : AccountState) (request : Request) (now : ℤ) (kept : KeptReply) → s.kept ≡ Some kept
    → kept.key ≡ request.session.0 → kept.step ≡ request.step → kept.method ≡ asked_method request.ask → is_meta request.ask ≡ false
    → served s request now Undisturbed ≡ unchanged s (given_again s.committed kept)
repeats_change_nothing s request now kept is key step method later =
    let same : is_repeat kept request ≡ true =
    both_true (both_true (eq-eqb kept.key request.session.0 key) (eq-eqb kept.step request.step step))
    (eq-eqb (method_place kept.method) (method_place (asked_method request.ask)) (ap method_place method)) in
    no_meta s request now later
    ∙ ap (λ (o : Option KeptReply). by_repeat (repeated o request) s request now) is
    ∙ ap (λ (b : Bool). by_repeat (if b then Some kept else None) s request now) same

-- ---- asked twice
pub no_commit : (ask : Ask) → is_download ask ≡ true → asks_commit ask ≡ false
no_commit asks.Meta is = refl
no_commit (asks.Start min_usn lmod) is = refl
no_commit (asks.ApplyGraves ids) is = refl
no_commit (asks.ApplyChanges changes) is = refl
no_commit asks.Chunk is = refl
no_commit (asks.ApplyChunk chunk) is = refl
no_commit (asks.SanityCheck2 counts) is = refl
no_commit asks.Finish is = sym is
no_commit (asks.Upload whole) is = sym is
no_commit asks.Download is = refl

module _ (s : AccountState) (request : Request) (now again : ℤ) (later : is_meta request.ask ≡ false) where
  -- a serving after which the same request, at any moment, gives the same reply and changes nothing
  abbrev IsSame : Served → Type 0
  IsSame it = served it.next request again Undisturbed ≡ unchanged it.next it.reply

  given_back : (next : AccountState) (reply : Reply) → next.kept ≡ Some (kept_of request reply) → (is_download request.ask ≡ true → reply ≡ download_reply next.committed)
      → served next request again Undisturbed ≡ unchanged next reply
  given_back next reply is download =
      repeats_change_nothing next request again (kept_of request reply) is refl refl refl later
      ∙ ap (unchanged next) (elim (is_download request.ask) as (λ b. is_download request.ask ≡ b → unwrap_or (if b then None else Some reply) (download_reply next.committed) ≡ reply) [
        | true ↦ λ e. sym (download e)
        | false ↦ λ e. refl
      ] refl)

  download_is : (session : SessionState) → is_download request.ask ≡ true → reply_to s.committed session.accepted request ≡ download_reply s.committed
  download_is session is = ap (λ (b : Bool). if b then download_reply s.committed else granted (answer s.committed session.accepted request)) is

  by_test : (b : Bool) (x y x' y' : Served) → served s request again Undisturbed ≡ (if b then x' else y')
      → (b ≡ true → served s request again Undisturbed ≡ x' → IsSame x) → (b ≡ false → served s request again Undisturbed ≡ y' → IsSame y) → IsSame (if b then x else y)
  by_test true x y x' y' is so other = so refl is
  by_test false x y x' y' is so other = other refl is

  at_refusal : (why : Option Objection) (session : SessionState) → served s request again Undisturbed ≡ by_refusal why s session request again
      → IsSame (by_refusal why s session request now)
  at_refusal (Some why) session is = is
  at_refusal None session is =
      by_test (asks_commit request.ask) _ _ _ _ is
      (λ commits is. given_back (finished s session request now).next (finished s session request now).reply refl (λ d. absurd (not_both commits (no_commit request.ask d))))
      (λ plain is. by_test (ends s.committed session.accepted request) _ _ _ _ is
      (λ _ _. given_back (ended s session request).next (ended s session request).reply refl (download_is session))
      (λ _ _. given_back (went_on s session request).next (went_on s session request).reply refl (download_is session)))

  at_session : (live : Option SessionState) → served s request again Undisturbed ≡ by_session live s request again → IsSame (by_session live s request now)
  at_session None is = is
  at_session (Some session) is = by_test (has_next_step session request) _ _ _ _ is (λ _ is. at_refusal (refusal s.committed session.accepted request) session is) (λ _ is. is)

  at_repeat : (kept : Option KeptReply) → served s request again Undisturbed ≡ by_repeat kept s request again → IsSame (by_repeat kept s request now)
  at_repeat (Some kept) is = is
  at_repeat None is = by_test (int_eq request.base s.committed.head.moment) _ _ _ _ is (λ _ is. at_session (session_of s.live request.session.0) is) (λ _ is. is)

  -- whatever a request but a meta is given, asked again at once it is given the same, and nothing changes
  pub asked_again : IsSame (served s request now Undisturbed)
  asked_again = subst IsSame (sym (no_meta s request now later)) (at_repeat (repeated s.kept request) (no_meta s request again later))

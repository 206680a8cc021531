-- What becomes of the reply that an account keeps, and what a reply that grants comes from.
use Rattle.std.specs.Cmp.{signed_Decides, first_so, second_so}
use Rattle.std.specs.Cmp.Derive.{both_true}
use Rattle.std.specs.Prelude.{◌≡◌, ◌≢◌, ℕ, ℤ, ◌+◌, ◌==◌, ◌&&◌, if◌then◌else◌, Bool, true, false, List, [], ◌∷◌, length, Option, Some, None, IfSome, ◌⊎◌}
use Rattle.std.proofs.Common.{refl, sym, ap, subst, ◌∙◌, inl, inr, arith}
use Rattle.std.proofs.lemmas.Bool.{eqb-true, eq-eqb, le-leb}
use Rattle.ak_base.specs.declared.heads.Head.{Head}
use Rattle.ak_keep.specs.Collections.{Collection}
use Rattle.ak_messages.specs.MessageForms.{is_given_to}
use Rattle.ak_messages.specs.declared.methods.Method.TheVariants as methods
use Rattle.ak_messages.specs.declared.replies.Reply.{Reply}
use Rattle.ak_messages.specs.declared.requests.Ask.{Ask}
use Rattle.ak_messages.specs.declared.requests.Ask.TheVariants as asks
use Rattle.ak_messages.specs.declared.requests.Request.{Request}
use Rattle.ak_protocol.specs.Accounts.{SessionState, KeptReply, AccountState, last_step, is_repeat, repeated, given_again, session_of}
use Rattle.ak_session.specs.Contents.{refusal, answer, ends, closed}
use Rattle.ak_session.proofs.AnswerLaws.{form_fits}
use Rattle.ak_protocol.specs.Kept.{IsNewlyKept, KeepsReply, LeavesReply, IsIdle, AreIdle, IsGivenAgain, IsEarned, IsDone, EndsSession, IsLawfulReply, HasLawfulReply}
use Rattle.ak_protocol.specs.Lawful.{IsNext}
use Rattle.ak_protocol.specs.Logs.{Event, View, Asked, World, world_next, world_after}
use Rattle.ak_protocol.specs.Replies.{PastBase, WrongStep, download_reply, granted}
use Rattle.ak_session.specs.Objections.{Objection}
use Rattle.ak_session.specs.Requests.{asked_method, method_place, same_method, is_meta, is_download, asks_commit}
use Rattle.ak_protocol.specs.Serving.{Setback, Undisturbed, KeeperFault, OutOfMemory, Served, unchanged, begun, refuses, kept_of, reply_to, commit_reply, went_on, ended, finished, by_refusal, by_session, by_repeat, served}
use Rattle.ak_protocol.proofs.Cases.{not_none, by_quiet, by_cases}
use Rattle.ak_protocol.proofs.Commits.{not_both}
use Rattle.ak_protocol.proofs.Methods.{same_method_is}
use Rattle.ak_protocol.proofs.Repeats.{no_meta}
use Rattle.ak_protocol.proofs.Replies.{not_granted, reply_is_granted, commit_is_granted}

-- ---- what is next is done
-- a request that is next, and no repeat, goes to its session, which has no reason to refuse it
pub reaches : (s : AccountState) (session : SessionState) (request : Request) (now : ℤ) → IsNext s session request → repeated s.kept request ≡ None
    → served s request now Undisturbed ≡ by_refusal None s session request now
reaches s session request now next first =
    no_meta s request now next.later
    ∙ ap (λ (o : Option KeptReply). by_repeat o s request now) first
    ∙ ap (λ (b : Bool). if b then by_session (session_of s.live request.session.0) s request now else refuses s (PastBase s.committed.head.moment))
    ((signed_Decides request.base s.committed.head.moment).1 next.base)
    ∙ ap (λ (o : Option SessionState). by_session (session_of o request.session.0) s request now) next.live
    ∙ ap (λ (b : Bool). by_session (if b then Some session else None) s request now) (eq-eqb session.key request.session.0 next.key)
    ∙ ap (λ (b : Bool). if b then by_refusal (refusal s.committed session.accepted request) s session request now else refuses s (WrongStep (last_step session)))
    (both_true (eq-eqb request.step (length session.accepted + 1) next.step) (le-leb request.step 9_223_372_036_854_775_807 next.in_range))
    ∙ ap (λ (o : Option Objection). by_refusal o s session request now) next.allowed

module _ (s : AccountState) (session : SessionState) (request : Request) (now : ℤ) where
  abbrev Done : Served → Type 0
  Done it = IsDone s session request now it

  done : (commits stops : Bool) → asks_commit request.ask ≡ commits → ends s.committed session.accepted request ≡ stops
      → Done (if commits then finished s session request now else if stops then ended s session request else went_on s session request)
  done true stops is_commit is_stop = record {
    granted = commit_is_granted request.ask (closed s.committed session.accepted request now).head;
    kept = refl;
    commits = λ _. refl;
    committed = λ _. refl;
    answers = λ none. absurd (not_both is_commit none);
    stops = λ none. absurd (not_both is_commit none);
    goes_on = λ none. absurd (not_both is_commit none);
  }
  done false true is_commit is_stop = record {
    granted = reply_is_granted s.committed session.accepted request;
    kept = refl;
    commits = λ so. absurd (not_both so is_commit);
    committed = λ so. absurd (not_both so is_commit);
    answers = λ _. refl;
    stops = λ _ _. refl;
    goes_on = λ _ goes. absurd (not_both is_stop goes);
  }
  done false false is_commit is_stop = record {
    granted = reply_is_granted s.committed session.accepted request;
    kept = refl;
    commits = λ so. absurd (not_both so is_commit);
    committed = λ so. absurd (not_both so is_commit);
    answers = λ _. refl;
    stops = λ _ so. absurd (not_both so is_stop);
    goes_on = λ _ _. refl;
  }

  -- a request that is next of the live session, and no repeat, is done
  pub next_is_done : IsNext s session request → repeated s.kept request ≡ None → IsDone s session request now (served s request now Undisturbed)
  next_is_done next first =
      subst Done (sym (reaches s session request now next first))
      (done (asks_commit request.ask) (ends s.committed session.accepted request) refl refl)

-- ---- the kept reply, by event
kept_if : (s : AccountState) (request : Request) → (is_meta request.ask ≡ true → (if is_meta request.ask then None else s.kept) ≡ None)
    × (is_meta request.ask ≡ false → (if is_meta request.ask then None else s.kept) ≡ s.kept)
kept_if s request = (
  λ is. ap (λ (b : Bool). if b then None else s.kept) is,
  λ is. ap (λ (b : Bool). if b then None else s.kept) is,
)

struck_keeps : (s : AccountState) (request : Request) (now : ℤ) (setback : Setback) → setback ≢ Undisturbed → KeepsReply s request setback (served s request now setback)
struck_keeps s request now Undisturbed struck = absurd (struck refl)
struck_keeps s request now KeeperFault struck = record { forgets = (kept_if s request).0; stays = λ is. inl ((kept_if s request).1 is) }
struck_keeps s request now OutOfMemory struck = record { forgets = (kept_if s request).0; stays = λ is. inl ((kept_if s request).1 is) }

-- what a test of the kept reply tells, if it was none
repeat_or : (o : Option KeptReply) (request : Request) → (repeated o request ≡ None) ⊎ ((kept : KeptReply) × (repeated o request ≡ Some kept))
repeat_or o request =
    elim (repeated o request) as (λ r. (r ≡ None) ⊎ ((kept : KeptReply) × (r ≡ Some kept))) [
      | None ↦ inl refl
      | Some kept ↦ inr (kept, refl)
    ]

newly_kept : (s : AccountState) (request : Request) (now : ℤ) → repeated s.kept request ≡ None → is_meta request.ask ≡ false
    → let it = served s request now Undisturbed in (it.next.kept ≡ s.kept) ⊎ IsNewlyKept s request Undisturbed it
newly_kept s request now first later = by_quiet s request now (λ it. (it.next.kept ≡ s.kept) ⊎ IsNewlyKept s request Undisturbed it) (record {
  begins = λ meta. absurd (not_both meta later);
  repeats = λ kept is repeat _. inl refl;
  refuses_it = λ why. inl refl;
  goes_on = λ session next none goes. inr (record { quiet = refl; session = session; next = next; first = first; kept = refl });
  stops = λ session next none. inr (record { quiet = refl; session = session; next = next; first = first; kept = refl });
  finishes = λ session next commits. inr (record { quiet = refl; session = session; next = next; first = first; kept = refl });
})

by_event : (s : AccountState) (request : Request) (now : ℤ) (setback : Setback) → KeepsReply s request setback (served s request now setback)
by_event s request now KeeperFault = struck_keeps s request now KeeperFault (λ is. grind (arith, is))
by_event s request now OutOfMemory = struck_keeps s request now OutOfMemory (λ is. grind (arith, is))
by_event s request now Undisturbed = record {
  forgets = ap (λ (b : Bool). (if b then begun s request now else by_repeat (repeated s.kept request) s request now).next.kept);
  stays = λ later. by_kept later (repeat_or s.kept request);
}
  where
    by_kept : is_meta request.ask ≡ false → (repeated s.kept request ≡ None) ⊎ ((kept : KeptReply) × (repeated s.kept request ≡ Some kept))
        → (let it = served s request now Undisturbed in (it.next.kept ≡ s.kept) ⊎ IsNewlyKept s request Undisturbed it)
    by_kept later (inl first) = newly_kept s request now first later
    by_kept later (inr again) =
        inl (ap (λ (it : Served). it.next.kept) (no_meta s request now later)
        ∙ ap (λ (o : Option KeptReply). (by_repeat o s request now).next.kept) again.1)

-- the kept reply is forgotten at a meta, and is another after an accepted request, and stays at all else
pub replies_stay : (w : World) (event : Event) → LeavesReply w event
replies_stay w (View host) = refl
replies_stay w (Asked request now setback) = by_event w.state request now setback

idle_keeps : (w : World) (request : Request) (now : ℤ) (setback : Setback) → IsIdle w.state (Asked request now setback)
    → (world_next w (Asked request now setback)).state.kept ≡ w.state.kept
idle_keeps w request now setback idle = by_outcome ((by_event w.state request now setback).stays idle.0)
  where
    by_outcome : (let it = served w.state request now setback in (it.next.kept ≡ w.state.kept) ⊎ IsNewlyKept w.state request setback it)
        → (served w.state request now setback).next.kept ≡ w.state.kept
    by_outcome (inl same) = same
    by_outcome (inr new) = absurd (idle.1 new.quiet new.session new.next new.first)

-- so it stays over events at which nothing is accepted
pub idle_events_keep_replies : (w : World) (events : List Event) → AreIdle w events → (world_after w events).state.kept ≡ w.state.kept
idle_events_keep_replies w [] idle = refl
idle_events_keep_replies w (View host ∷ events) idle = idle_events_keep_replies (world_next w (View host)) events idle.1
idle_events_keep_replies w (Asked request now setback ∷ events) idle =
    idle_events_keep_replies (world_next w (Asked request now setback)) events idle.1 ∙ idle_keeps w request now setback idle.0

-- ---- where a grant comes from
given_again_by : (s : AccountState) (request : Request) (kept : KeptReply) → s.kept ≡ Some kept → is_repeat kept request ≡ true
    → IsGivenAgain s request (unchanged s (given_again s.committed kept))
given_again_by s request kept is repeat =
    let method = second_so ((kept.key == request.session.0) && (kept.step == request.step)) (same_method kept.method (asked_method request.ask)) repeat in
    let both = first_so ((kept.key == request.session.0) && (kept.step == request.step)) (same_method kept.method (asked_method request.ask)) repeat in
    record {
      kept = kept;
      is_kept = is;
      key = eqb-true kept.key request.session.0 (first_so (kept.key == request.session.0) (kept.step == request.step) both);
      step = eqb-true kept.step request.step (second_so (kept.key == request.session.0) (kept.step == request.step) both);
      method = same_method_is kept.method (asked_method request.ask) method;
      given = refl;
    }

-- a reply that grants is that of a meta, or the kept one, or that of the next request of the live session
pub grants_are_earned : (s : AccountState) (request : Request) (now : ℤ) (setback : Setback)
    → let it = served s request now setback in it.reply.status ≡ 200 → IsEarned s request it
grants_are_earned s request now = by_cases s request now (λ it. it.reply.status ≡ 200 → IsEarned s request it) (record {
  strikes = λ reply failed ok. absurd (failed ok);
  begins = λ meta _. inl meta;
  repeats = λ kept is repeat later _. inr (inl (given_again_by s request kept is repeat));
  refuses_it = λ why ok. absurd (not_granted why ok);
  goes_on = λ session next none goes _. inr (inr (session, next));
  stops = λ session next none _. inr (inr (session, next));
  finishes = λ session next commits _. inr (inr (session, next));
})

-- ---- what ends a session
pub views_end_sessions : (w : World) (host : List ℕ) → EndsSession w.state (world_next w (View host)).state
views_end_sessions w host = record { over = refl; same = refl }

pub setbacks_end_sessions : (s : AccountState) (request : Request) (now : ℤ) (setback : Setback) → setback ≢ Undisturbed
    → EndsSession s (served s request now setback).next
setbacks_end_sessions s request now Undisturbed struck = absurd (struck refl)
setbacks_end_sessions s request now KeeperFault struck = record { over = refl; same = refl }
setbacks_end_sessions s request now OutOfMemory struck = record { over = refl; same = refl }

-- ---- lawful replies
-- the reply to an accepted request that does not commit gives what its method is given
given_form : (committed : Collection) (accepted : List Request) (request : Request) → is_meta request.ask ≡ false → asks_commit request.ask ≡ false
    → is_download request.ask ≡ false → is_given_to (asked_method request.ask) (reply_to committed accepted request).give ≡ true
given_form committed accepted request later commit down =
    ap (λ (b : Bool). is_given_to (asked_method request.ask) (if b then download_reply committed else granted (answer committed accepted request)).give) down
    ∙ form_fits committed accepted request later down commit

-- and so does that to one that commits
commit_form : (ask : Ask) (head : Head) → asks_commit ask ≡ true → is_given_to (asked_method ask) (commit_reply ask head).give ≡ true
commit_form asks.Meta head is = absurd (not_both is refl)
commit_form (asks.Start min_usn lmod) head is = absurd (not_both is refl)
commit_form (asks.ApplyGraves ids) head is = absurd (not_both is refl)
commit_form (asks.ApplyChanges changes) head is = absurd (not_both is refl)
commit_form asks.Chunk head is = absurd (not_both is refl)
commit_form (asks.ApplyChunk chunk) head is = absurd (not_both is refl)
commit_form (asks.SanityCheck2 counts) head is = absurd (not_both is refl)
commit_form asks.Finish head is = refl
commit_form (asks.Upload whole) head is = refl
commit_form asks.Download head is = absurd (not_both is refl)

lawful_of : (request : Request) (reply : Reply) → reply.status ≡ 200
    → (is_download request.ask ≡ false → is_given_to (asked_method request.ask) reply.give ≡ true) → IsLawfulReply (kept_of request reply)
lawful_of request reply ok form = record {
  granted = elim (is_download request.ask) as (λ b. IfSome (if b then None else Some reply) (λ (r : Reply). r.status ≡ 200)) [
    | true ↦ tt
    | false ↦ ok
  ];
  form = elim (is_download request.ask) as (λ b. is_download request.ask ≡ b
      → IfSome (if b then None else Some reply) (λ (r : Reply). is_given_to (asked_method request.ask) r.give ≡ true)) [
        | true ↦ λ _. tt
        | false ↦ form
      ] refl;
  read = λ is. ap (λ (b : Bool). if b then None else Some reply) (eq-eqb (method_place (asked_method request.ask)) (method_place methods.Download) (ap method_place is));
  told = elim (is_download request.ask) as (λ b. is_download request.ask ≡ b → (if b then None else Some reply) ≡ None → asked_method request.ask ≡ methods.Download) [
    | true ↦ λ e _. same_method_is (asked_method request.ask) methods.Download e
    | false ↦ λ _ is. absurd (not_none is)
  ] refl;
}

pub lawful_next : (s : AccountState) (request : Request) (now : ℤ) → HasLawfulReply s → (setback : Setback) → HasLawfulReply (served s request now setback).next
lawful_next s request now lawful = by_cases s request now (λ it. HasLawfulReply it.next) (record {
  strikes = λ reply failed. elim (is_meta request.ask) as (λ b. IfSome (if b then None else s.kept) (λ kept. IsLawfulReply kept)) [
    | true ↦ tt
    | false ↦ lawful
  ];
  begins = λ _. tt;
  repeats = λ kept is repeat later. lawful;
  refuses_it = λ why. lawful;
  goes_on = λ session next none goes. lawful_of request (reply_to s.committed session.accepted request)
      (reply_is_granted s.committed session.accepted request) (given_form s.committed session.accepted request next.later none);
  stops = λ session next none. lawful_of request (reply_to s.committed session.accepted request)
      (reply_is_granted s.committed session.accepted request) (given_form s.committed session.accepted request next.later none);
  finishes = λ session next commits.
      let head = (closed s.committed session.accepted request now).head in
      lawful_of request (commit_reply request.ask head) (commit_is_granted request.ask head) (λ _. commit_form request.ask head commits);
})

-- whatever comes, the kept reply stays lawful
pub kept_replies_stay_lawful : (w : World) (events : List Event) → HasLawfulReply w.state → HasLawfulReply (world_after w events).state
kept_replies_stay_lawful w [] lawful = lawful
kept_replies_stay_lawful w (View host ∷ events) lawful = kept_replies_stay_lawful (world_next w (View host)) events lawful
kept_replies_stay_lawful w (Asked request now setback ∷ events) lawful =
    kept_replies_stay_lawful (world_next w (Asked request now setback)) events (lawful_next w.state request now lawful setback)

-- What a reply that grants a request tells its sync, at its first serving as well as when it is given again.
use Rattle.std.specs.Cmp.{first_so, second_so}
use Rattle.std.specs.Option.{unwrap_or}
use Rattle.std.specs.Prelude.{◌≡◌, ◌≢◌, ℕ, ℤ, ◌==◌, ◌&&◌, if◌then◌else◌, Bool, true, false, List, [], ◌∷◌, length, Some, None}
use Rattle.std.proofs.Common.{refl, sym, ap, subst, ◌∙◌, arith}
use Rattle.std.proofs.lemmas.Bool.{eqb-true}
use Rattle.ak_base.specs.declared.heads.Head.{Head}
use Rattle.ak_keep.specs.Collections.{Collection}
use Rattle.ak_messages.specs.declared.replies.Reply.{Reply}
use Rattle.ak_messages.specs.declared.requests.Ask.{Ask}
use Rattle.ak_messages.specs.declared.requests.Ask.TheVariants as asks
use Rattle.ak_messages.specs.declared.requests.Request.{Request}
use Rattle.ak_protocol.specs.Accounts.{SessionState, KeptReply, AccountState, is_repeat, given_again}
use Rattle.ak_session.specs.Contents.{refusal, answer, closed}
use Rattle.ak_protocol.specs.Lawful.{IsNext}
use Rattle.ak_protocol.specs.Logs.{Commit, with_commit}
use Rattle.ak_protocol.specs.Replies.{Refusal, PastBase, NoSession, WrongStep, Objected, objected, refused, granted, download_reply}
use Rattle.ak_session.specs.Objections.{Objection, MayNotCome, WrongUsn, NoNumber, TooManyRows, WrongRow, WrongNewer}
use Rattle.ak_session.specs.Requests.{asked_method, same_method, is_meta, is_download, asks_commit}
use Rattle.ak_protocol.specs.Serving.{Setback, Undisturbed, Served, served, unchanged, kept_of, reply_to, commit_reply, finished}
use Rattle.ak_protocol.specs.Sessions.{IsAsked, Tells}
use Rattle.ak_protocol.proofs.Cases.{by_cases, by_quiet}
use Rattle.ak_protocol.proofs.Commits.{not_both}
use Rattle.ak_protocol.proofs.Repeats.{no_commit}
use Rattle.ak_protocol.proofs.Sessions.{same_front, same_rest, IsPlaced, LiveIs, IsKeptReply, KeptIs, IsKept, made_by, none_before}

-- a refusal grants nothing
not_objected : (why : Objection) (last : ℕ) (usn : ℤ) → (objected why last usn).status ≢ 200
not_objected MayNotCome last usn = λ is. grind (arith, is)
not_objected WrongUsn last usn = λ is. grind (arith, is)
not_objected NoNumber last usn = λ is. grind (arith, is)
not_objected TooManyRows last usn = λ is. grind (arith, is)
not_objected WrongRow last usn = λ is. grind (arith, is)
not_objected WrongNewer last usn = λ is. grind (arith, is)

pub not_granted : (why : Refusal) → (refused why).status ≢ 200
not_granted (PastBase moment) = λ is. grind (arith, is)
not_granted NoSession = λ is. grind (arith, is)
not_granted (WrongStep last) = λ is. grind (arith, is)
not_granted (Objected why last usn) = not_objected why last usn

-- what is accepted is granted
pub reply_is_granted : (committed : Collection) (accepted : List Request) (request : Request) → (reply_to committed accepted request).status ≡ 200
reply_is_granted committed accepted request =
    elim (is_download request.ask) as (λ b. (if b then download_reply committed else granted (answer committed accepted request)).status ≡ 200) [
      | true ↦ refl
      | false ↦ refl
    ]

pub commit_is_granted : (ask : Ask) (head : Head) → (commit_reply ask head).status ≡ 200
commit_is_granted asks.Meta head = refl
commit_is_granted (asks.Start min_usn lmod) head = refl
commit_is_granted (asks.ApplyGraves ids) head = refl
commit_is_granted (asks.ApplyChanges changes) head = refl
commit_is_granted asks.Chunk head = refl
commit_is_granted (asks.ApplyChunk chunk) head = refl
commit_is_granted (asks.SanityCheck2 counts) head = refl
commit_is_granted asks.Finish head = refl
commit_is_granted (asks.Upload whole) head = refl
commit_is_granted asks.Download head = refl

-- what is not granted changes nothing
pub refusals_change_nothing : (s : AccountState) (request : Request) (now : ℤ)
    → let it = served s request now Undisturbed in it.reply.status ≢ 200 → it ≡ unchanged s it.reply
refusals_change_nothing s request now = by_quiet s request now (λ it. it.reply.status ≢ 200 → it ≡ unchanged s it.reply) (record {
  begins = λ _ failed. absurd (failed refl);
  repeats = λ kept is repeat later _. refl;
  refuses_it = λ why _. refl;
  goes_on = λ session next none goes failed. absurd (failed (reply_is_granted s.committed session.accepted request));
  stops = λ session next none failed. absurd (failed (reply_is_granted s.committed session.accepted request));
  finishes = λ session next commits failed. absurd (failed (commit_is_granted request.ask (closed s.committed session.accepted request now).head));
})

-- the first of a list, or else this one
abbrev pub first_of : Request → List Request → Request
first_of other [] = other
first_of other (request ∷ requests) = request

-- two requests of one list at one step are the same, and come after the same
pub record AreOne (before before' : List Request) (request request' : Request) : Type 0 where
  pub before_is : before' ≡ before
  pub request_is : request' ≡ request

same_step : (plan : List Request) (base : ℤ) (request request' : Request) (a : IsAsked plan base request) (b : IsAsked plan base request') → request'.step ≡ request.step
    → AreOne a.before b.before request request'
same_step plan base request request' a b step =
    let long : length b.before ≡ length a.before = omega (arith, a.step, b.step, step) in
    record {
      before_is = same_front b.before a.before (request' ∷ b.after) (request ∷ a.after) (b.place ∙ sym a.place) long;
      request_is = ap (first_of request) (same_rest b.before a.before (request' ∷ b.after) (request ∷ a.after) (b.place ∙ sym a.place) long);
    }

pub no_download : (request : Request) → asks_commit request.ask ≡ true → is_download request.ask ≡ false
no_download request commits =
    elim (is_download request.ask) as (λ b. is_download request.ask ≡ b → b ≡ false) [
      | true ↦ λ e. absurd (not_both commits (no_commit request.ask e))
      | false ↦ λ e. refl
    ] refl

-- what is given again of a reply as it was kept
again_given : (committed : Collection) (request : Request) (reply : Reply) → is_download request.ask ≡ false → given_again committed (kept_of request reply) ≡ reply
again_given committed request reply no_whole = ap (λ (b : Bool). unwrap_or (if b then None else Some reply) (download_reply committed)) no_whole

again_read : (committed : Collection) (request : Request) (reply : Reply) → is_download request.ask ≡ true → given_again committed (kept_of request reply) ≡ download_reply committed
again_read committed request reply whole = ap (λ (b : Bool). unwrap_or (if b then None else Some reply) (download_reply committed)) whole

answer_is : (committed : Collection) (accepted : List Request) (request : Request) → is_download request.ask ≡ false → reply_to committed accepted request ≡ granted (answer committed accepted request)
answer_is committed accepted request no_whole = ap (λ (b : Bool). if b then download_reply committed else granted (answer committed accepted request)) no_whole

whole_is : (committed : Collection) (accepted : List Request) (request : Request) → is_download request.ask ≡ true → reply_to committed accepted request ≡ download_reply committed
whole_is committed accepted request whole = ap (λ (b : Bool). if b then download_reply committed else granted (answer committed accepted request)) whole

-- the step of a kept reply is that of its request
kept_step : (key : ℕ) (plan : List Request) (base : Collection) (past : List Commit) (moment : ℤ) (kept : KeptReply) (k : IsKeptReply key plan base past moment kept) → kept.step ≡ k.request.step
kept_step key plan base past moment kept k =
    elim (asks_commit k.request.ask) as (λ b. asks_commit k.request.ask ≡ b → kept.step ≡ k.request.step) [
      | true ↦ λ e. ap (λ (r : KeptReply). r.step) (k.made e).1
      | false ↦ λ e. ap (λ (r : KeptReply). r.step) (k.plain e)
    ] refl

module _ (key : ℕ) (plan : List Request) (base : Collection) (s : AccountState) (past : List Commit) (request : Request) (now : ℤ)
    (k : IsKept key plan base s.committed s.live s.kept past) (asked : IsAsked plan base.head.moment request) (own : request.session.0 ≡ key) (later : is_meta request.ask ≡ false) where
  abbrev TellsIt : Served → Type 0
  TellsIt it = it.reply.status ≡ 200 → Tells key plan base request asked s.committed (with_commit request s it past) it.reply

  -- ---- given again
  plain_again : (kept : KeptReply) (r : IsKeptReply key plan base past s.committed.head.moment kept) → AreOne asked.before r.asked.before request r.request → asks_commit request.ask ≡ false
      → kept ≡ kept_of request (reply_to base asked.before request)
  plain_again kept r one none =
      r.plain (ap (λ (q : Request). asks_commit q.ask) one.request_is ∙ none)
      ∙ ap (λ (q : Request). kept_of q (reply_to base r.asked.before q)) one.request_is
      ∙ ap (λ (l : List Request). kept_of request (reply_to base l request)) one.before_is

  again : (kept : KeptReply) → IsKeptReply key plan base past s.committed.head.moment kept → kept.step ≡ request.step → TellsIt (unchanged s (given_again s.committed kept))
  again kept r step ok =
      let one = same_step plan base.head.moment request r.request asked r.asked (sym (kept_step key plan base past s.committed.head.moment kept r) ∙ step) in
      record {
        allowed = subst (λ (l : List Request). refusal base l request ≡ None) one.before_is (subst (λ (q : Request). refusal base r.asked.before q ≡ None) one.request_is r.allowed);
        reads = λ whole. ap (given_again s.committed) (plain_again kept r one (no_commit request.ask whole)) ∙ again_read s.committed request (reply_to base asked.before request) whole;
        answers = λ none no_whole. ap (given_again s.committed) (plain_again kept r one none) ∙ again_given s.committed request (reply_to base asked.before request) no_whole ∙ answer_is base asked.before request no_whole;
        commits = λ commits.
            let m = r.made (ap (λ (q : Request). asks_commit q.ask) one.request_is ∙ commits) in (
              m.0,
              ap (given_again s.committed) (m.1
                  ∙ ap (λ (q : Request). kept_of q (commit_reply q.ask (closed base r.asked.before q m.0).head)) one.request_is
                  ∙ ap (λ (l : List Request). kept_of request (commit_reply request.ask (closed base l request m.0).head)) one.before_is)
                  ∙ again_given s.committed request (commit_reply request.ask (closed base asked.before request m.0).head) (no_download request commits),
              m.2.only
                  ∙ ap (λ (q : Request). record { key = key; before = base; after = closed base r.asked.before q m.0 } ∷ []) one.request_is
                  ∙ ap (λ (l : List Request). record { key = key; before = base; after = closed base l request m.0 } ∷ []) one.before_is,
            );
      }

  -- ---- given first
  -- the place of a request that its session accepts, and the collection over which it does
  before_of : (session : SessionState) → IsNext s session request → asked.before ≡ session.accepted
  before_of session next =
      let front = subst (LiveIs key plan base.head.moment s.committed.head.moment) next.live k.live_is (next.key ∙ own) in
      same_front asked.before session.accepted (request ∷ asked.after) front.after (asked.place ∙ sym front.front) (omega (arith, asked.step, next.step))

  base_of : (session : SessionState) → IsNext s session request → s.committed ≡ base
  base_of session next = k.same (sym next.base ∙ asked.base_is)

  allowed_of : (session : SessionState) → IsNext s session request → refusal base asked.before request ≡ None
  allowed_of session next =
      subst (λ (l : List Request). refusal base l request ≡ None) (sym (before_of session next))
      (subst (λ (c : Collection). refusal c session.accepted request ≡ None) (base_of session next) next.allowed)

  first : (session : SessionState) → IsNext s session request → asks_commit request.ask ≡ false
      → Tells key plan base request asked s.committed past (reply_to s.committed session.accepted request)
  first session next none = record {
    allowed = allowed_of session next;
    reads = λ whole. whole_is s.committed session.accepted request whole;
    commits = λ commits. absurd (not_both commits none);
    answers = λ _ no_whole. answer_is s.committed session.accepted request no_whole
        ∙ ap (λ (c : Collection). granted (answer c session.accepted request)) (base_of session next)
        ∙ ap (λ (l : List Request). granted (answer base l request)) (sym (before_of session next));
  }

  commit : (session : SessionState) → IsNext s session request → asks_commit request.ask ≡ true → TellsIt (finished s session request now)
  commit session next commits ok =
      let p : IsPlaced plan base.head.moment s.committed.head.moment session.accepted request = record { asked = asked; before_is = before_of session next; moment_is = sym next.base ∙ asked.base_is } in
      record {
        allowed = allowed_of session next;
        reads = λ whole. absurd (not_both whole (no_download request commits));
        answers = λ none _. absurd (not_both commits none);
        commits = λ _. (
          now,
          ap (λ (c : Collection). commit_reply request.ask (closed c session.accepted request now).head) (base_of session next)
              ∙ ap (λ (l : List Request). commit_reply request.ask (closed base l request now).head) (sym (before_of session next)),
          (made_by key plan base past s session request now p (base_of session next) own (none_before key plan base past s.committed.head.moment p.moment_is k.once)).only,
        );
      }

  repeat_of : (kept : KeptReply) → s.kept ≡ Some kept → is_repeat kept request ≡ true → TellsIt (unchanged s (given_again s.committed kept))
  repeat_of kept is repeat =
      let both = first_so ((kept.key == request.session.0) && (kept.step == request.step)) (same_method kept.method (asked_method request.ask)) repeat in
      let same_key = eqb-true kept.key request.session.0 (first_so (kept.key == request.session.0) (kept.step == request.step) both) in
      let step = eqb-true kept.step request.step (second_so (kept.key == request.session.0) (kept.step == request.step) both) in
      again kept (subst (KeptIs key plan base past s.committed.head.moment) is k.kept_is (same_key ∙ own)) step

  -- whatever came, a reply that grants a request tells the same
  pub told : (setback : Setback) → TellsIt (served s request now setback)
  told = by_cases s request now TellsIt (record {
    strikes = λ reply failed ok. absurd (failed ok);
    begins = λ meta. absurd (not_both meta later);
    repeats = λ kept is repeat _. repeat_of kept is repeat;
    refuses_it = λ why ok. absurd (not_granted why ok);
    goes_on = λ session next none goes _. first session next none;
    stops = λ session next none _. first session next none;
    finishes = commit;
  })

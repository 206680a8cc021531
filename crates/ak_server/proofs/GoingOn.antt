-- An accepted request after which nothing is committed: the session goes on, or is over after a bad sanity check.
use Rattle.std.specs.List.{list_any}
use Rattle.std.specs.Option.{option_map}
use Rattle.std.specs.Prelude.{◌≡◌, ◌<◌, ◌≤ℤ◌, ℤ, Bool, true, false, if◌then◌else◌, Option, Some, None, IfSome}
use Rattle.std.proofs.Common.{refl, sym, ap, subst, ◌∙◌}
use Rattle.ak_base.specs.Limits.{last_head_usn}
use Rattle.ak_keep.proofs.HeadNumbers.{some_collection}
use Rattle.ak_keep.specs.Collections.{Collection}
use Rattle.ak_keep.specs.HeadNumbers.{numbered, numbers_of}
use Rattle.ak_keep.specs.Keepers.{Keeping, WhereHeld, back, is_marked}
use Rattle.ak_keep.specs.declared.head_numbers.Numbers.{Numbers}
use Rattle.ak_merge.specs.Commits.{with_received}
use Rattle.ak_messages.specs.declared.methods.Method.{Method}
use Rattle.ak_messages.specs.declared.methods.Method.TheVariants as methods
use Rattle.ak_messages.specs.declared.replies.Reply.{Reply}
use Rattle.ak_messages.specs.declared.requests.Ask.{Ask}
use Rattle.ak_messages.specs.declared.requests.Ask.TheVariants as asks
use Rattle.ak_messages.specs.declared.requests.Request.{Request}
use Rattle.ak_protocol.proofs.Cases.{not_none}
use Rattle.ak_protocol.proofs.Methods.{same_method_is}
use Rattle.ak_protocol.specs.Accounts.{KeptReply}
use Rattle.ak_protocol.specs.Replies.{granted}
use Rattle.ak_protocol.specs.Serving.{kept_of}
use Rattle.ak_server.proofs.Beginning.{over_back, over_right, under_back}
use Rattle.ak_server.proofs.Counting.{IsLater, counted_later, later_session, step_room}
use Rattle.ak_server.proofs.Followings.{Follows, expects_asked, expects_of, follows, held_answered, mark_answered}
use Rattle.ak_server.proofs.Keepings.{same_committed, tables_marked, tables_received}
use Rattle.ak_server.proofs.Passing.{AlikeNumbers, Passed, brought_taken, passed_all, refusal_alike}
use Rattle.ak_server.proofs.Replying.{IsRightAnswer, over_later, right_answer}
use Rattle.ak_server.proofs.Seeing.{for_some, numbered_same, numbers_alike, numbers_are, of_current, of_some, same_some, same_unmarked, see, seen_as}
use Rattle.ak_server.specs.Accounts.{AreGranted, IsOver, IsRight, account_seen, committed_in, gives_moment, is_started, tables_in}
use Rattle.ak_server.specs.Serving.{Accepts, IsAccepted, is_bad}
use Rattle.ak_server.specs.declared.accounts.Account.{Account}
use Rattle.ak_server_rules.specs.Decisions.{refusal_of}
use Rattle.ak_server_rules.specs.Serving.{Did, accepted, ended, finished, is_bad_check, reply_to, went_on}
use Rattle.ak_server_rules.specs.Sessions.{IsCounted, has_mark, kept_seen, session_seen}
use Rattle.ak_server_rules.specs.Summaries.{SessionSummary, with_request}
use Rattle.ak_server_rules.specs.declared.sessions.Kept.{Kept}
use Rattle.ak_server_rules.specs.declared.sessions.Session.{Session}
use Rattle.ak_server_steps.specs.Answers.{Answers, answered, expects_mark, is_chunk}
use Rattle.ak_server_steps.specs.declared.answers.Answered.{Answered}
use Rattle.ak_server_steps.specs.declared.answers.Basis.{Basis}
use Rattle.ak_session.proofs.Ranges.{not_both}
use Rattle.ak_session.specs.Asks.{brought, nothing}
use Rattle.ak_session.specs.NextMethods.{methods_after}
use Rattle.ak_session.specs.Requests.{asked_method, asks_commit, is_download, same_method}
use Rattle.ak_sync_rows.specs.Takes.{MayBeTaken}

-- ---- the current collection
nothing_received : (o : Option Collection) → o ≡ option_map (with_received nothing) o
nothing_received None = refl
nothing_received (Some c) = refl

pub tables_answered : (ask : Ask) (k : Keeping) → tables_in (answered ask k) ≡ option_map (with_received (brought ask)) (tables_in k)
tables_answered asks.Meta k = nothing_received (tables_in k)
tables_answered (asks.Start min_usn lmod) k = tables_marked k ∙ nothing_received (tables_in k)
tables_answered (asks.ApplyGraves ids) k = tables_received (brought (asks.ApplyGraves ids)) k
tables_answered (asks.ApplyChanges changes) k = tables_received (brought (asks.ApplyChanges changes)) k
tables_answered asks.Chunk k = nothing_received (tables_in k)
tables_answered (asks.ApplyChunk chunk) k = tables_received (brought (asks.ApplyChunk chunk)) k
tables_answered (asks.SanityCheck2 counts) k = nothing_received (tables_in k)
tables_answered asks.Finish k = nothing_received (tables_in k)
tables_answered (asks.Upload whole) k = nothing_received (tables_in k)
tables_answered asks.Download k = nothing_received (tables_in k)

of_map : {X Y : Type 0} (f : X → Y) (o : Option X) (y : Y) → option_map f o ≡ Some y → (x : X) × ((o ≡ Some x) × (f x ≡ y))
of_map f None y is = absurd (not_none (sym is))
of_map f (Some x) y is = (x, (refl, same_some (f x) y is))

-- ---- the kept reply
reply_by : (b : Bool) (reply : Reply) (kept : Option Reply) → kept ≡ (if b then None else Some reply) → reply.status ≡ 200 → IfSome kept (λ r. r.status ≡ 200)
reply_by true reply kept is granted = subst (λ (o : Option Reply). IfSome o (λ r. r.status ≡ 200)) (sym is) tt
reply_by false reply kept is granted = subst (λ (o : Option Reply). IfSome o (λ r. r.status ≡ 200)) (sym is) granted

pub kept_granted : (o : Option Kept) (request : Request) (reply : Reply) → option_map kept_seen o ≡ Some (kept_of request reply) → reply.status ≡ 200
    → (same_method (asked_method request.ask) methods.Finish ≡ true → gives_moment (kept_of request reply).reply ≡ true) → AreGranted o
kept_granted None request reply is granted moment = tt
kept_granted (Some kept) request reply is granted moment =
    let same : kept_seen kept ≡ kept_of request reply = same_some (kept_seen kept) (kept_of request reply) is in
    record {
      status = reply_by (is_download request.ask) reply kept.reply (ap (λ (k : KeptReply). k.reply) same) granted;
      moment = λ finish. ap (λ (k : KeptReply). gives_moment k.reply) same ∙ moment (sym (ap (λ (k : KeptReply). same_method k.method methods.Finish) same) ∙ finish);
    }

finish_commits : (ask : Ask) → same_method (asked_method ask) methods.Finish ≡ true → asks_commit ask ≡ true
finish_commits asks.Meta is = is
finish_commits (asks.Start min_usn lmod) is = is
finish_commits (asks.ApplyGraves ids) is = is
finish_commits (asks.ApplyChanges changes) is = is
finish_commits asks.Chunk is = is
finish_commits (asks.ApplyChunk chunk) is = is
finish_commits (asks.SanityCheck2 counts) is = is
finish_commits asks.Finish is = is
finish_commits (asks.Upload whole) is = refl
finish_commits asks.Download is = is

-- what does not commit is no finish
pub no_finish : {P : Type 0} (ask : Ask) → asks_commit ask ≡ false → same_method (asked_method ask) methods.Finish ≡ true → P
no_finish ask stays is = absurd (not_both (finish_commits ask is) stays)

none_by : (b : Bool) (reply : Reply) (kept : Option Reply) → kept ≡ (if b then None else Some reply) → kept ≡ None → b ≡ true
none_by true reply kept is none = refl
none_by false reply kept is none = absurd (not_none (sym is ∙ none))

-- ---- what was tested
module _ {K : Type 0} (keeping : K → Keeping) (old : Account K) (basis : Basis) (request : Request) (right : IsRight keeping old) (taken : IsAccepted keeping old basis request) where
  abbrev tested : Collection
  tested = numbered basis.numbers some_collection

  pub passed_over : (c : Collection) (tables : Collection) → Passed (numbered basis.numbers c) (session_seen tables basis.live) request
  passed_over c tables = passed_all (numbered basis.numbers c) (session_seen tables basis.live) request (taken.passed c tables)

  pub counted_basis : IsCounted basis.live
  counted_basis = of_some old.live IsCounted basis.live right.session taken.live

  follows_basis : Follows basis.live.method (asked_method request.ask)
  follows_basis = follows basis.live.method (asked_method request.ask) basis.live.done (passed_over some_collection tested).may

  pub started_basis : is_marked (keeping old.keeper) ≡ has_mark basis.live.method
  started_basis = right.keeper.marked ∙ ap is_started taken.live

  -- the keeper is marked as the request expects it
  pub marked_right : is_marked (keeping old.keeper) ≡ expects_mark request.ask
  marked_right = started_basis ∙ follows_basis.mark ∙ sym (expects_asked request.ask)

  pub brought_right : MayBeTaken (brought request.ask)
  brought_right = brought_taken tested (session_seen tested basis.live) request.ask (passed_over some_collection tested).tests

  pub step_right : basis.live.last < 9_223_372_036_854_775_807
  step_right = step_room (session_seen tested basis.live) request (passed_over some_collection tested).step

  pub later_right : same_method (asked_method request.ask) methods.Meta ≡ false
  later_right = follows_basis.later

  module _ (c t : Collection) (over : committed_in (keeping old.keeper) ≡ Some c) (under : tables_in (keeping old.keeper) ≡ Some t) where
    pub over_basis : IsOver basis.live c t
    over_basis = of_some old.live (λ (live : Session). IsOver live c t) basis.live (right.told c t over under) taken.live

    pub numbers_basis : numbers_of t.head ≡ basis.numbers
    numbers_basis = numbers_are (keeping old.keeper) basis.numbers t taken.held.told under

    pub alike_basis : AlikeNumbers t c
    alike_basis = numbers_alike (keeping old.keeper) old.live c t taken.named right.keeper (right.told c t over under) over under

    -- the tests over the committed collection
    pub passed_basis : Passed c (session_seen t basis.live) request
    passed_basis =
        passed_all c (session_seen t basis.live) request
        (sym (refusal_alike t c alike_basis (Some (session_seen t basis.live)) request)
        ∙ ap (λ (x : Collection). refusal_of x (Some (session_seen t basis.live)) request) (sym (numbered_same basis.numbers t numbers_basis))
        ∙ taken.passed t t)

    usn_basis : c.head.usn ≤ℤ last_head_usn
    usn_basis = subst (λ (usn : ℤ). usn ≤ℤ last_head_usn) (sym (ap (λ (n : Numbers). n.usn) numbers_basis) ∙ alike_basis.usn) taken.held.range.moments.usn.high

    -- a download comes before any mark
    whole_basis : is_download request.ask ≡ true → t ≡ c
    whole_basis is =
        same_unmarked (keeping old.keeper) c t taken.named
        (marked_right ∙ expects_asked request.ask ∙ ap expects_of (same_method_is (asked_method request.ask) methods.Download is)) over under

    pub answer_basis : (it : Answered) → WhereHeld (keeping old.keeper) (λ tables. Answers tables basis.live request.ask it)
        → Answers t basis.live request.ask it × IsRightAnswer c t basis.live request.ask it
    answer_basis it told =
        let is : Answers t basis.live request.ask it =
        of_current (keeping old.keeper) (λ (tables : Collection). Answers tables basis.live request.ask it) t told under in (
          is,
          right_answer c t basis.live request.ask it alike_basis whole_basis
              (λ chunk. over_basis.next (subst (λ (m : Method). list_any (same_method m) (methods_after basis.live.method basis.live.done) ≡ true)
              (same_method_is (asked_method request.ask) methods.Chunk chunk) passed_basis.may)) is,
        )

  -- ---- the session goes on
  module _ (new : Account K) (it : Answered) (next : Session) (reply : Reply) (stays : asks_commit request.ask ≡ false)
      (keeper_is : keeping new.keeper ≡ answered request.ask (keeping old.keeper)) (back_is : back (keeping new.keeper) ≡ back (keeping old.keeper))
      (told : WhereHeld (keeping old.keeper) (λ tables. Answers tables basis.live request.ask it))
      (reply_is : reply ≡ granted it.give) (kept_is : option_map kept_seen new.kept ≡ Some (kept_of request reply)) where
    reply_right : (c t : Collection) → committed_in (keeping old.keeper) ≡ Some c → tables_in (keeping old.keeper) ≡ Some t
        → reply ≡ reply_to c (session_seen t basis.live) request.ask
    reply_right c t over under = reply_is ∙ (answer_basis c t over under it told).1.give

    granted_right : reply.status ≡ 200
    granted_right = ap (λ (r : Reply). r.status) reply_is

    module _ (live_is : new.live ≡ Some next)
        (summary : (tables : Collection) → session_seen (with_received (brought request.ask) tables) next ≡ record (with_request (session_seen tables basis.live) request.ask) { done = it.done })
        (place : next.given ≡ it.given) (same_place : is_chunk request.ask ≡ false → it.given ≡ basis.live.given) where
      later_next : IsLater basis.live next request.ask it.done it.given
      later_next = later_session basis.live next request.ask it.done it.given tested (summary tested) place

      counted_next : IsCounted next
      counted_next = counted_later tested tested basis.live request counted_basis (passed_over some_collection tested) stays next it.done it.given later_next same_place

      over_next : (c t' : Collection) → committed_in (keeping new.keeper) ≡ Some c → tables_in (keeping new.keeper) ≡ Some t' → IsOver next c t'
      over_next c t' over under =
          let was : committed_in (keeping old.keeper) ≡ Some c = sym (same_committed (keeping old.keeper) (keeping new.keeper) back_is) ∙ over in
          let held = of_map (with_received (brought request.ask)) (tables_in (keeping old.keeper)) t'
          (sym (tables_answered request.ask (keeping old.keeper)) ∙ ap tables_in (sym keeper_is) ∙ under) in
          subst (IsOver next c) held.1.1
          (over_later c held.0 basis.live next request it counted_basis (passed_basis c held.0 was held.1.0) stays (over_basis c held.0 was held.1.0) later_next counted_next
          (usn_basis c held.0 was held.1.0) (answer_basis c held.0 was held.1.0 it told).0)

      unread_by : (kept : Kept) → new.kept ≡ Some kept → kept.reply ≡ None → is_started new.live ≡ false
      unread_by kept is none =
          let same : kept_seen kept ≡ kept_of request reply = same_some (kept_seen kept) (kept_of request reply) (sym (ap (option_map kept_seen) is) ∙ kept_is) in
          let whole : is_download request.ask ≡ true = none_by (is_download request.ask) reply kept.reply (ap (λ (k : KeptReply). k.reply) same) none in
          ap is_started live_is ∙ ap has_mark (later_next.method ∙ same_method_is (asked_method request.ask) methods.Download whole)

      pub going_right : IsRight keeping new
      going_right = record {
        keeper = record {
          held = ap (λ (k : Keeping). k.headed.current) keeper_is ∙ held_answered request.ask (keeping old.keeper) ∙ right.keeper.held;
          held_before = ap (λ (k : Keeping). k.headed.current) back_is ∙ right.keeper.held_before;
          marked = ap is_marked keeper_is ∙ mark_answered request.ask (keeping old.keeper) stays later_right marked_right
              ∙ sym (ap is_started live_is ∙ ap has_mark later_next.method);
        };
        session = subst (λ (o : Option Session). IfSome o IsCounted) (sym live_is) counted_next;
        told = λ c t over under. subst (λ (o : Option Session). IfSome o (λ live. IsOver live c t)) (sym live_is) (over_next c t over under);
        granted = kept_granted new.kept request reply kept_is granted_right (no_finish request.ask stays);
        unread = for_some new.kept (λ kept. kept.reply ≡ None → is_started new.live ≡ false) unread_by;
      }

      pub going_accepts : is_bad it.give ≡ false → (now : ℤ) → Accepts keeping old request now new reply
      going_accepts good now = for_some (account_seen keeping old) (λ s. IfSome s.live (λ live.
          (reply ≡ (accepted s live request now).reply) × (account_seen keeping new ≡ Some (accepted s live request now).next))) (λ s own.
          let seen = see keeping old s own in
          let answer = (answer_basis s.committed seen.held seen.committed seen.tables it told).1 in
          let l : SessionSummary = session_seen seen.held basis.live in
          let reply_so : reply ≡ reply_to s.committed l request.ask = reply_right s.committed seen.held seen.committed seen.tables in
          let did : accepted s l request now ≡ went_on s l request =
          ap (λ (b : Bool). if b then finished s l request now else if is_bad_check l request.ask then ended s l request else went_on s l request) stays
          ∙ ap (λ (b : Bool). if b then ended s l request else went_on s l request) (sym answer.bad ∙ good) in
          for_some s.live (λ live. (reply ≡ (accepted s live request now).reply) × (account_seen keeping new ≡ Some (accepted s live request now).next)) (λ live is.
          subst (λ (x : SessionSummary). (reply ≡ (accepted s x request now).reply) × (account_seen keeping new ≡ Some (accepted s x request now).next))
          (same_some l live (sym (seen.live ∙ ap (option_map (session_seen seen.held)) taken.live) ∙ is)) (
            reply_so ∙ sym (ap (λ (d : Did). d.reply) did),
            seen_as keeping new s.committed (with_received (brought request.ask) seen.held) (Some (with_request l request.ask)) (Some (kept_of request (reply_to s.committed l request.ask)))
                (same_committed (keeping old.keeper) (keeping new.keeper) back_is ∙ seen.committed)
                (ap tables_in keeper_is ∙ tables_answered request.ask (keeping old.keeper) ∙ ap (option_map (with_received (brought request.ask))) seen.tables)
                (ap (option_map (session_seen (with_received (brought request.ask) seen.held))) live_is ∙ ap Some (summary seen.held)
                ∙ ap (λ (b : Bool). Some (record (with_request l request.ask) { done = b })) answer.done)
                (kept_is ∙ ap (λ (r : Reply). Some (kept_of request r)) reply_so)
                ∙ sym (ap (λ (d : Did). Some d.next) did),
          )))

  -- ---- the session is over
  module _ (new : Account K) (it : Answered) (reply : Reply) (stays : asks_commit request.ask ≡ false)
      (back_is : keeping new.keeper ≡ back (keeping old.keeper))
      (told : WhereHeld (keeping old.keeper) (λ tables. Answers tables basis.live request.ask it))
      (reply_is : reply ≡ granted it.give) (kept_is : option_map kept_seen new.kept ≡ Some (kept_of request reply)) (over : new.live ≡ None) where
    pub ending_right : IsRight keeping new
    ending_right = over_right keeping old new right back_is over (kept_granted new.kept request reply kept_is (ap (λ (r : Reply). r.status) reply_is) (no_finish request.ask stays))

    pub ending_accepts : is_bad it.give ≡ true → (now : ℤ) → Accepts keeping old request now new reply
    ending_accepts bad now = for_some (account_seen keeping old) (λ s. IfSome s.live (λ live.
        (reply ≡ (accepted s live request now).reply) × (account_seen keeping new ≡ Some (accepted s live request now).next))) (λ s own.
        let seen = see keeping old s own in
        let answer = (answer_basis s.committed seen.held seen.committed seen.tables it told).1 in
        let l : SessionSummary = session_seen seen.held basis.live in
        let reply_so : reply ≡ reply_to s.committed l request.ask = reply_is ∙ answer.give in
        let did : accepted s l request now ≡ ended s l request =
        ap (λ (b : Bool). if b then finished s l request now else if is_bad_check l request.ask then ended s l request else went_on s l request) stays
        ∙ ap (λ (b : Bool). if b then ended s l request else went_on s l request) (sym answer.bad ∙ bad) in
        for_some s.live (λ live. (reply ≡ (accepted s live request now).reply) × (account_seen keeping new ≡ Some (accepted s live request now).next)) (λ live is.
        subst (λ (x : SessionSummary). (reply ≡ (accepted s x request now).reply) × (account_seen keeping new ≡ Some (accepted s x request now).next))
        (same_some l live (sym (seen.live ∙ ap (option_map (session_seen seen.held)) taken.live) ∙ is)) (
          reply_so ∙ sym (ap (λ (d : Did). d.reply) did),
          seen_as keeping new s.committed s.committed None (Some (kept_of request (reply_to s.committed l request.ask)))
              (over_back keeping old new right back_is s.committed seen.committed) (under_back keeping old new right back_is s.committed seen.committed)
              (ap (option_map (session_seen s.committed)) over)
              (kept_is ∙ ap (λ (r : Reply). Some (kept_of request r)) reply_so)
              ∙ sym (ap (λ (d : Did). Some d.next) did),
        )))

-- A finish and an upload: what they commit.
use Rattle.std.specs.Int.{int_min}
use Rattle.std.specs.Option.{option_map}
use Rattle.std.specs.Prelude.{◌≡◌, ◌||◌, ◌+ℤ◌, ◌≤ℤ◌, ◌<ℤ◌, ℤ, pos, Bool, true, false, not, if◌then◌else◌, [], ◌∷◌, Option, Some, None, IfSome}
use Rattle.std.proofs.Common.{sym, ap, subst, ◌∙◌, arith}
use Rattle.std.proofs.lemmas.Bool.{or_parts}
use Rattle.std.proofs.lemmas.Int.{int_min_is, ints}
use Rattle.ak_base.specs.Heads.{IsMoment}
use Rattle.ak_base.specs.Limits.{last_head_usn, last_moment}
use Rattle.ak_base.specs.declared.heads.Head.{Head}
use Rattle.ak_io.specs.Arrivals.{IsClockMoment}
use Rattle.ak_keep.specs.Collections.{Collection, rows_of}
use Rattle.ak_keep.specs.HeadNumbers.{numbered, numbers_of}
use Rattle.ak_keep.specs.Keepers.{Keeping, back, committed, is_marked, marked_here, moments_set, replaced}
use Rattle.ak_keep.specs.declared.head_numbers.Numbers.{Numbers}
use Rattle.ak_merge.specs.Commits.{uploaded_rows}
use Rattle.ak_messages.specs.declared.methods.Method.TheVariants as methods
use Rattle.ak_messages.specs.declared.replies.Give.TheVariants as gives
use Rattle.ak_messages.specs.declared.replies.Reply.{Reply}
use Rattle.ak_messages.specs.declared.requests.Ask.{Ask}
use Rattle.ak_messages.specs.declared.requests.Ask.TheVariants as asks
use Rattle.ak_messages.specs.declared.requests.Request.{Request}
use Rattle.ak_messages.specs.declared.requests.Whole.{Whole}
use Rattle.ak_protocol.specs.Replies.{granted}
use Rattle.ak_protocol.specs.Serving.{commit_reply, kept_of}
use Rattle.ak_server.proofs.GoingOn.{alike_basis, counted_basis, numbers_basis, kept_granted, marked_right, over_basis, passed_over, started_basis}
use Rattle.ak_server.proofs.Keepings.{committed_kept, tables_kept, tables_marked, tables_replaced, tables_set, with_numbers}
use Rattle.ak_server.proofs.Passing.{AlikeNumbers}
use Rattle.ak_server.proofs.Seeing.{for_some, same_some, see, seen_as}
use Rattle.ak_server.specs.Accounts.{IsOver, IsRight, account_seen, committed_in, gives_moment, is_started, tables_in}
use Rattle.ak_server.specs.Serving.{Accepts, IsAccepted}
use Rattle.ak_server.specs.declared.accounts.Account.{Account}
use Rattle.ak_server_rules.specs.Serving.{Did, accepted, closed_by, ended, finished, is_bad_check, tests_of, went_on}
use Rattle.ak_server_rules.specs.Sessions.{IsCounted, has_mark, kept_seen, session_seen}
use Rattle.ak_server_rules.specs.Summaries.{AccountSummary, SessionSummary}
use Rattle.ak_server_rules.specs.declared.sessions.Session.{Session}
use Rattle.ak_server_steps.specs.Answers.{expects_mark}
use Rattle.ak_server_steps.specs.Closings.{finished_moment, finished_usn, uploaded_head}
use Rattle.ak_server_steps.specs.declared.answers.Basis.{Basis}
use Rattle.ak_session.proofs.Ranges.{moment_fits, none_first, none_rest, untrue}
use Rattle.ak_session.specs.Closings.{moment_past}
use Rattle.ak_session.specs.Objections.{NoNumber, WrongRow}
use Rattle.ak_session.specs.Refusals.{first_objection, has_last_moment, has_no_next, has_twins, is_whole_in_range, same_names, same_tags, test, upload_tests}
use Rattle.ak_session.specs.Requests.{asked_method, asks_commit, is_download, same_method}

-- ---- what the tests of an upload tell
pub record UploadPasses (c : Collection) (whole : Whole) : Type 0 where
  pub next : has_last_moment c whole ≡ false
  pub range : is_whole_in_range whole ≡ true
  pub names : has_twins same_names whole.rows ≡ false

pub upload_passes : (c : Collection) (whole : Whole) → first_objection (upload_tests c whole) ≡ None → UploadPasses c whole
upload_passes c whole none =
    let last : Bool = has_last_moment c whole in
    let outside : Bool = not (is_whole_in_range whole) in
    let twins : Bool = has_twins same_names whole.rows || has_twins same_tags whole.tags in
    let more : first_objection (test outside WrongRow ∷ test twins WrongRow ∷ []) ≡ None = none_rest last NoNumber (test outside WrongRow ∷ test twins WrongRow ∷ []) none in
    record {
      next = none_first last NoNumber (test outside WrongRow ∷ test twins WrongRow ∷ []) none;
      range = untrue (none_first outside WrongRow (test twins WrongRow ∷ []) more);
      names = (or_parts (has_twins same_names whole.rows) (has_twins same_tags whole.tags)
          (none_first twins WrongRow [] (none_rest outside WrongRow (test twins WrongRow ∷ []) more))).0;
    }

-- ---- replies
-- the reply to a finish, as it is kept, gives a moment
pub finish_gives : (request : Request) (reply : Reply) (moment : ℤ) → request.ask ≡ asks.Finish → reply ≡ granted (gives.Moment moment)
    → same_method (asked_method request.ask) methods.Finish ≡ true → gives_moment (kept_of request reply).reply ≡ true
finish_gives request reply moment is so _ =
    ap (λ (ask : Ask). gives_moment (if is_download ask then None else Some reply)) is ∙ ap (λ (r : Reply). gives_moment (Some r)) so

-- ---- numbers
clock_moment : (now : ℤ) → IsClockMoment now → IsMoment now
clock_moment now clock = let low = clock.low in let high = clock.high in record { low = low; high = omega (arith, ints, high) }

least_is : (x most : ℤ) → x ≤ℤ most → int_min x most ≡ x
least_is x most le = let is = int_min_is x most in omega (arith, ints, is, le)

below_so : (usn : ℤ) → usn <ℤ last_head_usn → (usn +ℤ pos 1) ≤ℤ last_head_usn
below_so usn low = omega (arith, ints, low)

-- heads with these moments are uploaded over alike
uploaded_alike : (a b : Numbers) (whole : Whole) (now : ℤ) → a.moment ≡ b.moment → a.schema ≡ b.schema → a.last_sync ≡ b.last_sync
    → uploaded_head a whole now ≡ uploaded_head b whole now
uploaded_alike a b whole now moment schema sync =
    ap (λ (x : ℤ). uploaded_head (record a { moment = x }) whole now) moment
    ∙ ap (λ (x : ℤ). uploaded_head (record a { moment = b.moment; schema = x }) whole now) schema
    ∙ ap (λ (x : ℤ). uploaded_head (record a { moment = b.moment; schema = b.schema; last_sync = x }) whole now) sync

-- ---- what is committed
module _ {K : Type 0} (keeping : K → Keeping) (old : Account K) (basis : Basis) (request : Request) (right : IsRight keeping old) (taken : IsAccepted keeping old basis request) where
  -- a finish comes to a marked keeper, and an upload to one that is not
  pub marked_for : (ask : Ask) → request.ask ≡ ask → is_marked (keeping old.keeper) ≡ expects_mark ask
  marked_for ask is = marked_right keeping old basis request right taken ∙ ap expects_mark is

  pub room_for_finish : request.ask ≡ asks.Finish → has_no_next basis.live.moment ≡ false
  room_for_finish is =
      (counted_basis keeping old basis request right taken).room
      (sym (started_basis keeping old basis request right taken) ∙ marked_for asks.Finish is)

  pub upload_fits : (whole : Whole) → request.ask ≡ asks.Upload whole → (c : Collection) → UploadPasses (numbered basis.numbers c) whole
  upload_fits whole is c =
      let tested : Collection = numbered basis.numbers c in
      upload_passes tested whole
      (ap (λ (ask : Ask). first_objection (tests_of tested (session_seen tested basis.live) ask)) (sym is) ∙ (passed_over keeping old basis request right taken c tested).tests)

  module _ (s : AccountSummary) (own : account_seen keeping old ≡ Some s) (now : ℤ) (mid : Keeping) (reply : Reply) where
    abbrev held_of : Collection
    held_of = (see keeping old s own).held

    abbrev session_of : SessionSummary
    session_of = session_seen held_of basis.live

    alike : AlikeNumbers held_of s.committed
    alike = alike_basis keeping old basis request right taken s.committed held_of (see keeping old s own).committed (see keeping old s own).tables

    numbers_so : numbers_of held_of.head ≡ basis.numbers
    numbers_so = numbers_basis keeping old basis request right taken s.committed held_of (see keeping old s own).committed (see keeping old s own).tables

    over : IsOver basis.live s.committed held_of
    over = over_basis keeping old basis request right taken s.committed held_of (see keeping old s own).committed (see keeping old s own).tables

    same_moment : basis.numbers.moment ≡ s.committed.head.moment
    same_moment = sym (ap (λ (n : Numbers). n.moment) numbers_so) ∙ alike.moment

    -- an upload
    uploads : (whole : Whole) → uploaded_head basis.numbers whole now ≡ uploaded_head (numbers_of s.committed.head) whole now
    uploads whole =
        uploaded_alike basis.numbers (numbers_of s.committed.head) whole now same_moment
        (sym (ap (λ (n : Numbers). n.schema) numbers_so) ∙ alike.schema) (sym (ap (λ (n : Numbers). n.last_sync) numbers_so) ∙ alike.last_sync)

    pub upload_tables : (whole : Whole) → request.ask ≡ asks.Upload whole
        → mid ≡ replaced (uploaded_rows whole.rows) (uploaded_head basis.numbers whole now) (marked_here (keeping old.keeper))
        → tables_in mid ≡ Some (closed_by s.committed session_of request.ask now)
    upload_tables whole is made =
        ap tables_in made
        ∙ tables_replaced (uploaded_rows whole.rows) (uploaded_head basis.numbers whole now) (marked_here (keeping old.keeper)) held_of
        (tables_marked (keeping old.keeper) ∙ (see keeping old s own).tables)
        ∙ ap (λ (h : Head). Some (record { rows = rows_of (uploaded_rows whole.rows); head = h })) (uploads whole)
        ∙ ap (λ (ask : Ask). Some (closed_by s.committed session_of ask now)) (sym is)

    pub upload_reply : (whole : Whole) → request.ask ≡ asks.Upload whole
        → reply ≡ granted (gives.Uploaded (uploaded_head basis.numbers whole now).moment (uploaded_head basis.numbers whole now).schema)
        → reply ≡ commit_reply request.ask (closed_by s.committed session_of request.ask now).head
    upload_reply whole is given =
        given
        ∙ ap (λ (h : Head). granted (gives.Uploaded h.moment h.schema)) (uploads whole)
        ∙ ap (λ (ask : Ask). commit_reply ask (closed_by s.committed session_of ask now).head) (sym is)

    -- a finish
    marked_finish : request.ask ≡ asks.Finish → has_mark basis.live.method ≡ true
    marked_finish is = sym (started_basis keeping old basis request right taken) ∙ marked_for asks.Finish is

    moment_so : IsClockMoment now → request.ask ≡ asks.Finish → finished_moment basis now ≡ moment_past now s.committed.head.moment basis.live.moment
    moment_so clock is =
        ap (λ (x : ℤ). int_min (moment_past now x basis.live.moment) last_moment) same_moment
        ∙ least_is (moment_past now s.committed.head.moment basis.live.moment) last_moment
        (moment_fits now s.committed.head.moment basis.live.moment (clock_moment now clock) (over.room (marked_finish is)).1 (room_for_finish is)).high

    usn_so : request.ask ≡ asks.Finish → finished_usn basis ≡ s.committed.head.usn +ℤ pos 1
    usn_so is =
        ap (λ (x : ℤ). int_min (x +ℤ pos 1) last_head_usn) (sym (ap (λ (n : Numbers). n.usn) numbers_so) ∙ alike.usn)
        ∙ least_is (s.committed.head.usn +ℤ pos 1) last_head_usn (below_so s.committed.head.usn (over.room (marked_finish is)).0)

    abbrev held_with : ℤ → ℤ → ℤ → ℤ → Collection
    held_with m sc u l = with_numbers m sc u l held_of

    pub finish_tables : IsClockMoment now → request.ask ≡ asks.Finish
        → mid ≡ moments_set (finished_moment basis now) basis.numbers.schema (finished_usn basis) basis.numbers.last_sync (keeping old.keeper)
        → tables_in mid ≡ Some (closed_by s.committed session_of request.ask now)
    finish_tables clock is made =
        ap tables_in made
        ∙ tables_set (finished_moment basis now) basis.numbers.schema (finished_usn basis) basis.numbers.last_sync (keeping old.keeper)
        ∙ ap (option_map (with_numbers (finished_moment basis now) basis.numbers.schema (finished_usn basis) basis.numbers.last_sync)) (see keeping old s own).tables
        ∙ ap (λ (x : ℤ). Some (held_with x basis.numbers.schema (finished_usn basis) basis.numbers.last_sync)) (moment_so clock is)
        ∙ ap (λ (x : ℤ). Some (held_with (moment_past now s.committed.head.moment basis.live.moment) basis.numbers.schema x basis.numbers.last_sync)) (usn_so is)
        ∙ ap (λ (n : Numbers). Some (held_with (moment_past now s.committed.head.moment basis.live.moment) n.schema (s.committed.head.usn +ℤ pos 1) n.last_sync)) (sym numbers_so)
        ∙ ap (λ (ask : Ask). Some (closed_by s.committed session_of ask now)) (sym is)

    pub finish_reply : IsClockMoment now → request.ask ≡ asks.Finish → reply ≡ granted (gives.Moment (finished_moment basis now))
        → reply ≡ commit_reply request.ask (closed_by s.committed session_of request.ask now).head
    finish_reply clock is given =
        given
        ∙ ap (λ (x : ℤ). granted (gives.Moment x)) (moment_so clock is)
        ∙ ap (λ (ask : Ask). commit_reply ask (closed_by s.committed session_of ask now).head) (sym is)

  -- ---- once it is committed
  module _ (new : Account K) (now : ℤ) (mid : Keeping) (reply : Reply) (keeper_is : keeping new.keeper ≡ committed mid) (live_is : new.live ≡ None)
      (kept_is : option_map kept_seen new.kept ≡ Some (kept_of request reply)) where
    pub closed_right : mid.headed.current ≡ true → reply.status ≡ 200
        → (same_method (asked_method request.ask) methods.Finish ≡ true → gives_moment (kept_of request reply).reply ≡ true) → IsRight keeping new
    closed_right held given moment = record {
      keeper = record {
        held = ap (λ (k : Keeping). k.headed.current) keeper_is ∙ held;
        held_before = ap (λ (k : Keeping). (back k).headed.current) keeper_is ∙ held;
        marked = ap is_marked keeper_is ∙ sym (ap is_started live_is);
      };
      session = subst (λ (o : Option Session). IfSome o IsCounted) (sym live_is) tt;
      told = λ c t _ _. subst (λ (o : Option Session). IfSome o (λ live. IsOver live c t)) (sym live_is) tt;
      granted = kept_granted new.kept request reply kept_is given moment;
      unread = for_some new.kept (λ kept. kept.reply ≡ None → is_started new.live ≡ false) (λ kept _ _. ap is_started live_is);
    }

    pub closed_accepts : asks_commit request.ask ≡ true
        → ((s : AccountSummary) (own : account_seen keeping old ≡ Some s) → tables_in mid ≡ Some (closed_by s.committed (session_seen (see keeping old s own).held basis.live) request.ask now))
        → ((s : AccountSummary) (own : account_seen keeping old ≡ Some s) → reply ≡ commit_reply request.ask (closed_by s.committed (session_seen (see keeping old s own).held basis.live) request.ask now).head)
        → Accepts keeping old request now new reply
    closed_accepts commits tables replies = for_some (account_seen keeping old) (λ s. IfSome s.live (λ live.
        (reply ≡ (accepted s live request now).reply) × (account_seen keeping new ≡ Some (accepted s live request now).next))) (λ s own.
        let seen = see keeping old s own in
        let l : SessionSummary = session_seen seen.held basis.live in
        let after : Collection = closed_by s.committed l request.ask now in
        let did : accepted s l request now ≡ finished s l request now =
        ap (λ (b : Bool). if b then finished s l request now else if is_bad_check l request.ask then ended s l request else went_on s l request) commits in
        for_some s.live (λ live. (reply ≡ (accepted s live request now).reply) × (account_seen keeping new ≡ Some (accepted s live request now).next)) (λ live is.
        subst (λ (x : SessionSummary). (reply ≡ (accepted s x request now).reply) × (account_seen keeping new ≡ Some (accepted s x request now).next))
        (same_some l live (sym (seen.live ∙ ap (option_map (session_seen seen.held)) taken.live) ∙ is)) (
          replies s own ∙ sym (ap (λ (d : Did). d.reply) did),
          seen_as keeping new after after None (Some (kept_of request (commit_reply request.ask after.head)))
              (ap committed_in keeper_is ∙ committed_kept mid ∙ tables s own)
              (ap tables_in keeper_is ∙ tables_kept mid ∙ tables s own)
              (ap (option_map (session_seen after)) live_is)
              (kept_is ∙ ap (λ (r : Reply). Some (kept_of request r)) (replies s own))
              ∙ sym (ap (λ (d : Did). Some d.next) did),
        )))

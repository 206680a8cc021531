-- The numbers of a session once it accepted one request more.
use Rattle.std.specs.Cmp.{first_so, second_so}
use Rattle.std.specs.List.{list_any}
use Rattle.std.specs.Ordering.{int_eq}
use Rattle.std.specs.Prelude.{◌≡◌, ℕ, ◌+◌, ◌<◌, ◌≤◌, ◌==◌, nat_le, if◌then◌else◌, Bool, true, false, None, ◌⊎◌}
use Rattle.std.proofs.Common.{refl, sym, ap, subst, ◌∙◌, arith, inl, inr}
use Rattle.std.proofs.lemmas.Bool.{eqb-true}
use Rattle.ak_base.specs.Limits.{last_head_usn}
use Rattle.ak_base.specs.declared.names.Name.{Name}
use Rattle.ak_server_steps.specs.Answers.{is_chunk}
use Rattle.ak_keep.specs.Collections.{Collection}
use Rattle.ak_server_rules.specs.Serving.{has_next_step, tests_of}
use Rattle.ak_server_rules.specs.Sessions.{IsCounted, has_mark, is_before_chunks, session_seen}
use Rattle.ak_server_rules.specs.Summaries.{SessionSummary, told_moment, told_usn, with_request}
use Rattle.ak_server_rules.specs.declared.sessions.Session.{Session}
use Rattle.ak_merge.specs.Commits.{with_received}
use Rattle.ak_messages.specs.declared.methods.Method.{Method}
use Rattle.ak_messages.specs.declared.methods.Method.TheVariants as methods
use Rattle.ak_messages.specs.declared.requests.Ask.{Ask}
use Rattle.ak_messages.specs.declared.requests.Ask.TheVariants as asks
use Rattle.ak_messages.specs.declared.requests.Request.{Request}
use Rattle.ak_protocol.proofs.Methods.{same_method_is}
use Rattle.ak_session.proofs.CommitLaws.{start_numbers}
use Rattle.ak_session.proofs.Ranges.{not_both}
use Rattle.ak_session.specs.Asks.{brought}
use Rattle.ak_session.specs.NextMethods.{methods_after}
use Rattle.ak_session.specs.Refusals.{first_objection, has_no_next}
use Rattle.ak_session.specs.Requests.{asked_method, asks_commit, same_method}
use Rattle.ak_server.proofs.Followings.{Follows, follows}
use Rattle.ak_server.proofs.Passing.{Passed}

-- the numbers of a session that accepted one request more
pub record IsLater (live next : Session) (ask : Ask) (is_done : Bool) (place : Name) : Type 0 where
  pub key : next.key ≡ live.key
  pub last : next.last ≡ live.last + 1
  pub method : next.method ≡ asked_method ask
  pub done : next.done ≡ is_done
  pub chunks : next.chunks ≡ (if same_method (asked_method ask) methods.Chunk then live.chunks + 1 else live.chunks)
  pub least_usn : next.least_usn ≡ (if live.last == 0 then told_usn ask else live.least_usn)
  pub moment : next.moment ≡ (if live.last == 0 then told_moment ask else live.moment)
  pub given : next.given ≡ place

pub later_session : (live next : Session) (ask : Ask) (done : Bool) (given : Name) (tables : Collection)
    → session_seen (with_received (brought ask) tables) next ≡ record (with_request (session_seen tables live) ask) { done = done }
    → next.given ≡ given → IsLater live next ask done given
later_session live next ask done given tables is place = record {
  key = ap (λ (s : SessionSummary). s.key) is;
  last = ap (λ (s : SessionSummary). s.last) is;
  method = ap (λ (s : SessionSummary). s.method) is;
  done = ap (λ (s : SessionSummary). s.done) is;
  chunks = ap (λ (s : SessionSummary). s.chunks) is;
  least_usn = ap (λ (s : SessionSummary). s.least_usn) is;
  moment = ap (λ (s : SessionSummary). s.moment) is;
  given = place;
}

-- ---- the first request
pub is_meta_so : (m : Method) → m ≡ methods.Meta → same_method m methods.Meta ≡ true
is_meta_so m is = ap (λ (x : Method). same_method x methods.Meta) is

-- what comes first and marks the keeper is a start
pub record IsFirst (c : Collection) (ask : Ask) : Type 0 where
  pub moment : has_no_next (told_moment ask) ≡ false
  pub committed : has_no_next c.head.moment ≡ false
  pub usn : int_eq c.head.usn last_head_usn ≡ false

pub first_request : (c : Collection) (live : SessionSummary) (done : Bool) (ask : Ask)
    → list_any (same_method (asked_method ask)) (methods_after methods.Meta done) ≡ true → asks_commit ask ≡ false
    → has_mark (asked_method ask) ≡ true → first_objection (tests_of c live ask) ≡ None → IsFirst c ask
first_request c live done asks.Meta may stays marked none = absurd (not_both may refl)
first_request c live done (asks.Start min_usn lmod) may stays marked none =
    let numbers = start_numbers c min_usn lmod none in
    record { moment = numbers.2; committed = numbers.1; usn = numbers.0 }
first_request c live done (asks.ApplyGraves ids) may stays marked none = absurd (not_both may refl)
first_request c live done (asks.ApplyChanges changes) may stays marked none = absurd (not_both may refl)
first_request c live done asks.Chunk may stays marked none = absurd (not_both may refl)
first_request c live done (asks.ApplyChunk chunk) may stays marked none = absurd (not_both may refl)
first_request c live done (asks.SanityCheck2 counts) may stays marked none = absurd (not_both may refl)
first_request c live done asks.Finish may stays marked none = absurd (not_both may refl)
first_request c live done (asks.Upload whole) may stays marked none = absurd (not_both refl stays)
first_request c live done asks.Download may stays marked none = absurd (not_both marked refl)

-- ---- the next numbers
at_most : (n m : ℕ) → nat_le n m ≡ true → n ≤ m
at_most n m is = grind (arith, is)

not_zero : (n : ℕ) → (n == 0) ≡ false → n ≡ 0 → ⊥
not_zero n is zero = grind (arith, is, zero)

pub no_chunk_before : (m : Method) → is_before_chunks m ≡ true → same_method m methods.Chunk ≡ false
no_chunk_before methods.Meta is = refl
no_chunk_before methods.Start is = refl
no_chunk_before methods.ApplyGraves is = refl
no_chunk_before methods.ApplyChanges is = refl
no_chunk_before methods.Chunk is = absurd (not_both is refl)
no_chunk_before methods.ApplyChunk is = refl
no_chunk_before methods.SanityCheck2 is = refl
no_chunk_before methods.Finish is = refl
no_chunk_before methods.Upload is = refl
no_chunk_before methods.Download is = refl

more_chunks : (b : Bool) (chunks last : ℕ) → chunks ≤ last → (if b then chunks + 1 else chunks) ≤ last + 1
more_chunks true chunks last most = omega (arith, most)
more_chunks false chunks last most = omega (arith, most)

pub step_room : (live : SessionSummary) (request : Request) → has_next_step live request ≡ true → live.last < 9_223_372_036_854_775_807
step_room live request is =
    let one : request.step ≡ live.last + 1 = eqb-true request.step (live.last + 1) (first_so (request.step == live.last + 1) (nat_le request.step 9_223_372_036_854_775_807) is) in
    let most : request.step ≤ 9_223_372_036_854_775_807 = at_most request.step 9_223_372_036_854_775_807 (second_so (request.step == live.last + 1) (nat_le request.step 9_223_372_036_854_775_807) is) in
    omega (arith, one, most)

module _ (c t : Collection) (live : Session) (request : Request) (counted : IsCounted live) (passed : Passed c (session_seen t live) request)
    (stays : asks_commit request.ask ≡ false) where
  fits : Follows live.method (asked_method request.ask)
  fits = follows live.method (asked_method request.ask) live.done passed.may

  -- the first request that a session accepts comes after its meta
  first_method : (live.last == 0) ≡ true → live.method ≡ methods.Meta
  first_method none = counted.first.0 (eqb-true live.last 0 none)

  later_method : (live.last == 0) ≡ false → same_method live.method methods.Meta ≡ false
  later_method some =
      elim (same_method live.method methods.Meta) as (λ b. same_method live.method methods.Meta ≡ b → b ≡ false) [
        | true ↦ λ e. absurd (not_zero live.last some (counted.first.1 (same_method_is live.method methods.Meta e)))
        | false ↦ λ e. refl
      ] refl

  -- once it has started, it began with a start or it had started before
  pub first_or_later : has_mark (asked_method request.ask) ≡ true
      → ((live.last == 0) ≡ true × IsFirst c request.ask) ⊎ ((live.last == 0) ≡ false × (has_mark live.method ≡ true))
  first_or_later marked =
      elim (live.last == 0) as (λ b. (live.last == 0) ≡ b → ((live.last == 0) ≡ true × IsFirst c request.ask) ⊎ ((live.last == 0) ≡ false × (has_mark live.method ≡ true))) [
        | true ↦ λ e. inl (
          e,
          first_request c (session_seen t live) live.done request.ask
              (subst (λ (m : Method). list_any (same_method (asked_method request.ask)) (methods_after m live.done) ≡ true) (first_method e) passed.may) stays marked passed.tests,
        )
        | false ↦ λ e. inr (e, fits.begun marked (later_method e))
      ] refl

  pub counted_later : (next : Session) (done : Bool) (given : Name) → IsLater live next request.ask done given
      → (is_chunk request.ask ≡ false → given ≡ live.given) → IsCounted next
  counted_later next done given later place = record {
    first = (
      λ zero. absurd (none zero),
      λ meta. absurd (not_both (is_meta_so (asked_method request.ask) (sym later.method ∙ meta)) fits.later),
    );
    chunks = subst (λ (n : ℕ). next.chunks ≤ n) (sym later.last)
        (subst (λ (n : ℕ). n ≤ live.last + 1) (sym later.chunks) (more_chunks (same_method (asked_method request.ask) methods.Chunk) live.chunks live.last counted.chunks));
    last = (let room = step_room (session_seen t live) request passed.step in let is = later.last in omega (arith, room, is));
    none = λ before.
        let own : is_before_chunks (asked_method request.ask) ≡ true = ap is_before_chunks (sym later.method) ∙ before in
        let old = counted.none (fits.turn own) in
        let no : same_method (asked_method request.ask) methods.Chunk ≡ false = no_chunk_before (asked_method request.ask) own in (
          later.chunks ∙ ap (λ (b : Bool). if b then live.chunks + 1 else live.chunks) no ∙ old.0,
          later.given ∙ place no ∙ old.1,
        );
    room = λ marked. room_by (first_or_later (ap has_mark (sym later.method) ∙ marked));
  }
    where
      room_by : ((live.last == 0) ≡ true × IsFirst c request.ask) ⊎ ((live.last == 0) ≡ false × (has_mark live.method ≡ true)) → has_no_next next.moment ≡ false
      room_by (inl first) =
          ap has_no_next (later.moment ∙ ap (λ (b : Bool). if b then told_moment request.ask else live.moment) first.0) ∙ first.1.moment
      room_by (inr old) =
          ap has_no_next (later.moment ∙ ap (λ (b : Bool). if b then told_moment request.ask else live.moment) old.0) ∙ counted.room old.1

      none : next.last ≡ 0 → ⊥
      none zero = let is = later.last in grind (arith, is, zero)

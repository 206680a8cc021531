-- What an accepted request is given, over the committed and the current collection.
use Rattle.std.specs.List.{list_any}
use Rattle.std.specs.Prelude.{◌≡◌, ℕ, ℤ, ◌+◌, ◌*◌, ◌≤◌, ◌<ℤ◌, ◌≤ℤ◌, ◌∷◌, ◌==◌, Bool, true, false, not, int_lt, if◌then◌else◌, List, [], ◌++◌, take, drop, length, Some, None, ◌⊎◌}
use Rattle.std.proofs.Common.{refl, sym, ap, subst, ◌∙◌, arith, inl, inr}
use Rattle.std.proofs.lemmas.Bool.{eqb-true}
use Rattle.std.proofs.lemmas.Int.{ints}
use Rattle.std.proofs.lemmas.List.{append-nil, drop-append-le, drop-drop, drop_all, take-append-le, take_all}
use Rattle.std.specs.Ordering.{int_eq}
use Rattle.ak_server_steps.specs.Answers.{Answers, IsAnswer, IsNextChunk}
use Rattle.ak_server_steps.specs.declared.answers.Answered.{Answered}
use Rattle.ak_base.specs.Limits.{last_head_usn}
use Rattle.ak_base.specs.declared.names.Name.{Name}
use Rattle.ak_base.specs.declared.rows.Row.{Row}
use Rattle.ak_keep.specs.Collections.{Collection, Rows}
use Rattle.ak_keep.specs.declared.keepers.Wanted.TheVariants.{From}
use Rattle.ak_server_rules.specs.Serving.{is_bad_check, reply_to}
use Rattle.ak_server_rules.specs.Sessions.{IsCounted, first_place, has_mark, is_before_chunks, session_seen}
use Rattle.ak_server_rules.specs.Summaries.{SessionSummary, is_last_chunk, told_usn}
use Rattle.ak_server_rules.specs.declared.sessions.Session.{Session}
use Rattle.ak_merge.specs.Commits.{settings_of, with_received}
use Rattle.ak_merge.specs.Exchanges.{wanted_tags}
use Rattle.ak_merge.specs.Soundness.{first_fault}
use Rattle.ak_messages.specs.declared.methods.Method.{Method}
use Rattle.ak_messages.specs.declared.methods.Method.TheVariants as methods
use Rattle.ak_messages.specs.declared.replies.Give.{Give}
use Rattle.ak_messages.specs.declared.replies.Give.TheVariants as gives
use Rattle.ak_messages.specs.declared.replies.Reply.{Reply}
use Rattle.ak_messages.specs.declared.replies.SanityReply.{SanityReply}
use Rattle.ak_messages.specs.declared.requests.Ask.{Ask}
use Rattle.ak_messages.specs.declared.requests.Ask.TheVariants as asks
use Rattle.ak_messages.specs.declared.requests.Request.{Request}
use Rattle.ak_messages.specs.declared.requests.SanityCounts.{SanityCounts}
use Rattle.ak_sync_rows.specs.Chunks.{IsSlice, ahead_of}
use Rattle.ak_protocol.proofs.Methods.{same_method_is}
use Rattle.ak_protocol.specs.Replies.{download_reply, granted}
use Rattle.ak_server.proofs.Counting.{IsFirst, IsLater, first_or_later, is_meta_so}
use Rattle.ak_server.proofs.Passing.{AlikeNumbers, Passed}
use Rattle.ak_server.specs.Accounts.{IsOver}
use Rattle.ak_server.specs.Serving.{is_bad}
use Rattle.ak_session.proofs.Ranges.{not_both}
use Rattle.ak_session.specs.Answers.{counts_of, is_good, sanity_reply}
use Rattle.ak_messages.specs.MessageForms.{no_counts}
use Rattle.ak_session.specs.Asks.{brought}
use Rattle.ak_session.specs.Messages.{changes_of, chunk_of}
use Rattle.ak_session.specs.NextMethods.{methods_after}
use Rattle.ak_session.specs.Refusals.{has_no_next}
use Rattle.ak_session.specs.Requests.{asked_method, asks_commit, is_download, same_method}
use Rattle.ak_session.specs.Slices.{slice, wanted_changes, wanted_in_chunks}

-- ---- chunks
-- a part of a list and what is after it, by how many rows a chunk has
front_of : (part rest : List Row) → length part ≤ 250 → (length part ≡ 250) ⊎ (rest ≡ []) → take 250 (part ++ rest) ≡ part
front_of part rest short (inl full) = take-append-le 250 part rest (omega (arith, full)) ∙ take_all 250 part short
front_of part rest short (inr none) = ap (λ (xs : List Row). take 250 (part ++ xs)) none ∙ ap (take 250) (append-nil part) ∙ take_all 250 part short

rest_of : (part rest : List Row) → length part ≤ 250 → (length part ≡ 250) ⊎ (rest ≡ []) → drop 250 (part ++ rest) ≡ rest
rest_of part rest short (inl full) = drop-append-le 250 part rest (omega (arith, full)) ∙ ap (λ (xs : List Row). xs ++ rest) (drop_all 250 part short)
rest_of part rest short (inr none) = ap (λ (xs : List Row). drop 250 (part ++ xs)) none ∙ ap (drop 250) (append-nil part) ∙ drop_all 250 part short ∙ sym none

next_part : (all part rest : List Row) → IsSlice all part rest → part ≡ take 250 all
next_part all part rest is = sym (ap (take 250) is.whole ∙ front_of part rest is.short is.full)

next_rest : (all part rest : List Row) → IsSlice all part rest → rest ≡ drop 250 all
next_rest all part rest is = sym (ap (drop 250) is.whole ∙ rest_of part rest is.short is.full)

times_more : (n : ℕ) → 250 * n + 250 ≡ 250 * (n + 1)
times_more n = omega arith

-- ---- replies
-- over collections with the same numbers the reply is the same, if a download comes only where they are the same
reply_alike : (c t : Collection) (live : SessionSummary) (ask : Ask) → AlikeNumbers t c → (is_download ask ≡ true → t ≡ c) → reply_to t live ask ≡ reply_to c live ask
reply_alike c t live asks.Meta same whole = refl
reply_alike c t live (asks.Start min_usn lmod) same whole = refl
reply_alike c t live (asks.ApplyGraves ids) same whole = refl
reply_alike c t live (asks.ApplyChanges changes) same whole =
    ap (λ (moment : ℤ). granted (gives.Changes (changes_of (record {
      rows = wanted_changes (From live.least_usn) live.tables.rows;
      tags = wanted_tags (From live.least_usn) live.tables.head.tags;
      settings = if int_lt moment live.moment then None else Some (settings_of live.tables.head);
    })))) same.moment
reply_alike c t live asks.Chunk same whole = refl
reply_alike c t live (asks.ApplyChunk chunk) same whole = refl
reply_alike c t live (asks.SanityCheck2 counts) same whole = refl
reply_alike c t live asks.Finish same whole = refl
reply_alike c t live (asks.Upload whole) same is = refl
reply_alike c t live asks.Download same whole = ap download_reply (whole refl)

abbrev sanity_of : Bool → Rows → SanityCounts → SanityReply
sanity_of good held counts =
    if good then record { good = true; fault = None; client = no_counts; server = no_counts }
    else record { good = false; fault = first_fault held; client = counts; server = counts_of held }

good_by : (b : Bool) (held : Rows) (counts : SanityCounts) → (sanity_of b held counts).good ≡ b
good_by true held counts = refl
good_by false held counts = refl

sanity_good : (held : Rows) (counts : SanityCounts) → (sanity_reply held counts).good ≡ is_good held counts
sanity_good held counts = good_by (is_good held counts) held counts

-- what is answered is what the session gives
pub record IsRightAnswer (c t : Collection) (live : Session) (ask : Ask) (it : Answered) : Type 0 where
  pub give : granted it.give ≡ reply_to c (session_seen t live) ask
  pub done : it.done ≡ is_last_chunk (session_seen t live) ask
  pub bad : is_bad it.give ≡ is_bad_check (session_seen t live) ask

given_is : (one other : Give) → granted one ≡ granted other → one ≡ other
given_is one other is = ap (λ (r : Reply). r.give) is

as_given : (c t : Collection) (live : Session) (ask : Ask) (it : Answered) → AlikeNumbers t c → (is_download ask ≡ true → t ≡ c)
    → IsAnswer t live ask it → is_bad it.give ≡ is_bad_check (session_seen t live) ask → IsRightAnswer c t live ask it
as_given c t live ask it same whole is bad = record {
  give = is.give ∙ reply_alike c t (session_seen t live) ask same whole;
  done = is.done;
  bad = bad;
}

-- a chunk is the slice after those that were given
chunk_given : (c t : Collection) (live : Session) (it : Answered)
    → ahead_of (From live.least_usn) live.given t.rows ≡ drop (250 * live.chunks) (wanted_in_chunks (From live.least_usn) t.rows)
    → IsNextChunk t.rows live it → IsRightAnswer c t live asks.Chunk it
chunk_given c t live it place is =
    let part : is.part ≡ slice live.chunks (wanted_in_chunks (From live.least_usn) t.rows) =
    next_part (ahead_of (From live.least_usn) live.given t.rows) is.part (ahead_of (From live.least_usn) it.given t.rows) is.slice ∙ ap (take 250) place in
    record {
      give = ap granted (is.give ∙ ap (λ (rows : List Row). gives.Chunk (chunk_of rows)) part);
      done = is.done ∙ ap (λ (rows : List Row). (chunk_of rows).done) part;
      bad = ap is_bad is.give;
    }

pub right_answer : (c t : Collection) (live : Session) (ask : Ask) (it : Answered) → AlikeNumbers t c → (is_download ask ≡ true → t ≡ c)
    → (same_method (asked_method ask) methods.Chunk ≡ true
    → ahead_of (From live.least_usn) live.given t.rows ≡ drop (250 * live.chunks) (wanted_in_chunks (From live.least_usn) t.rows))
    → Answers t live ask it → IsRightAnswer c t live ask it
right_answer c t live asks.Meta it same whole place is = as_given c t live asks.Meta it same whole is (ap (λ (r : Reply). is_bad r.give) is.give)
right_answer c t live (asks.Start min_usn lmod) it same whole place is = as_given c t live (asks.Start min_usn lmod) it same whole is (ap (λ (r : Reply). is_bad r.give) is.give)
right_answer c t live (asks.ApplyGraves ids) it same whole place is = as_given c t live (asks.ApplyGraves ids) it same whole is (ap (λ (r : Reply). is_bad r.give) is.give)
right_answer c t live (asks.ApplyChanges changes) it same whole place is = as_given c t live (asks.ApplyChanges changes) it same whole is (ap (λ (r : Reply). is_bad r.give) is.give)
right_answer c t live asks.Chunk it same whole place is = chunk_given c t live it (place refl) is
right_answer c t live (asks.ApplyChunk chunk) it same whole place is = as_given c t live (asks.ApplyChunk chunk) it same whole is (ap (λ (r : Reply). is_bad r.give) is.give)
right_answer c t live (asks.SanityCheck2 counts) it same whole place is =
    as_given c t live (asks.SanityCheck2 counts) it same whole is (ap (λ (r : Reply). is_bad r.give) is.give ∙ ap not (sanity_good t.rows counts))
right_answer c t live asks.Finish it same whole place is = as_given c t live asks.Finish it same whole is (ap (λ (r : Reply). is_bad r.give) is.give)
right_answer c t live (asks.Upload sent) it same whole place is = as_given c t live (asks.Upload sent) it same whole is (ap (λ (r : Reply). is_bad r.give) is.give)
right_answer c t live asks.Download it same whole place is = as_given c t live asks.Download it same whole is (ap (λ (r : Reply). is_bad r.give) is.give)

-- ---- where the next chunk begins
below_last : (usn : ℤ) → usn ≤ℤ last_head_usn → int_eq usn last_head_usn ≡ false → usn <ℤ last_head_usn
below_last usn high differ = grind (arith, ints, high, differ)

-- a chunk comes only after one or after changes
abbrev place_of : Session → Collection → Type 0
place_of next t =
    ahead_of (From next.least_usn) next.given t.rows ≡ drop (250 * next.chunks) (wanted_in_chunks (From next.least_usn) t.rows)

no_chunk_after : (done : Bool) → list_any (same_method methods.Chunk) ((if done then methods.SanityCheck2 else methods.ApplyChunk) ∷ []) ≡ false
no_chunk_after true = refl
no_chunk_after false = refl

place_first : (next : Session) (t : Collection) → next.chunks ≡ 0 → next.given ≡ first_place → place_of next t
place_first next t none first =
    ap (λ (given : Name). ahead_of (From next.least_usn) given t.rows) first
    ∙ ap (λ (n : ℕ). drop (250 * n) (wanted_in_chunks (From next.least_usn) t.rows)) (sym none)

place_more : (live next : Session) (t : Collection) (it : Answered) → place_of live t → IsNextChunk t.rows live it
    → next.least_usn ≡ live.least_usn → next.chunks ≡ live.chunks + 1 → next.given ≡ it.given → place_of next t
place_more live next t it place is usn chunks given =
    ap (λ (x : Name). ahead_of (From next.least_usn) x t.rows) given
    ∙ ap (λ (u : ℤ). ahead_of (From u) it.given t.rows) usn
    ∙ next_rest (ahead_of (From live.least_usn) live.given t.rows) is.part (ahead_of (From live.least_usn) it.given t.rows) is.slice
    ∙ ap (drop 250) place
    ∙ drop-drop 250 (250 * live.chunks) (wanted_in_chunks (From live.least_usn) t.rows)
    ∙ ap (λ (n : ℕ). drop n (wanted_in_chunks (From live.least_usn) t.rows)) (times_more live.chunks ∙ ap (λ (n : ℕ). 250 * n) (sym chunks))
    ∙ ap (λ (u : ℤ). drop (250 * next.chunks) (wanted_in_chunks (From u) t.rows)) (sym usn)

place_by : (c t : Collection) (live next : Session) (ask : Ask) (it : Answered) → IsLater live next ask it.done it.given → IsCounted next
    → Answers t live ask it
    → (same_method (asked_method ask) methods.Chunk ≡ true → place_of live t × (next.least_usn ≡ live.least_usn))
    → list_any (same_method methods.Chunk) (methods_after (asked_method ask) next.done) ≡ true → place_of next (with_received (brought ask) t)
place_by c t live next asks.Meta it later counted is place may = absurd (not_both may refl)
place_by c t live next (asks.Start min_usn lmod) it later counted is place may = absurd (not_both may refl)
place_by c t live next (asks.ApplyGraves ids) it later counted is place may = absurd (not_both may refl)
place_by c t live next (asks.ApplyChanges changes) it later counted is place may =
    let none = counted.none (ap is_before_chunks later.method) in
    place_first next (with_received (brought (asks.ApplyChanges changes)) t) none.0 none.1
place_by c t live next asks.Chunk it later counted is place may =
    let old = place refl in
    place_more live next t it old.0 is old.1 later.chunks later.given
place_by c t live next (asks.ApplyChunk chunk) it later counted is place may = absurd (not_both may (no_chunk_after next.done))
place_by c t live next (asks.SanityCheck2 counts) it later counted is place may = absurd (not_both may refl)
place_by c t live next asks.Finish it later counted is place may = absurd (not_both may refl)
place_by c t live next (asks.Upload sent) it later counted is place may = absurd (not_both may refl)
place_by c t live next asks.Download it later counted is place may = absurd (not_both may refl)

-- ---- the session after it
chunk_later : (m : Method) (last : Method) (done : Bool) → same_method m methods.Chunk ≡ true → list_any (same_method m) (methods_after last done) ≡ true → same_method last methods.Meta ≡ false
chunk_later m methods.Meta done is may = absurd (not_both (subst (λ (x : Method). list_any (same_method x) (methods_after methods.Meta done) ≡ true) (same_method_is m methods.Chunk is) may) refl)
chunk_later m methods.Start done is may = refl
chunk_later m methods.ApplyGraves done is may = refl
chunk_later m methods.ApplyChanges done is may = refl
chunk_later m methods.Chunk done is may = refl
chunk_later m methods.ApplyChunk done is may = refl
chunk_later m methods.SanityCheck2 done is may = refl
chunk_later m methods.Finish done is may = refl
chunk_later m methods.Upload done is may = refl
chunk_later m methods.Download done is may = refl

module _ (c t : Collection) (live next : Session) (request : Request) (it : Answered)
    (counted : IsCounted live) (passed : Passed c (session_seen t live) request) (stays : asks_commit request.ask ≡ false)
    (over : IsOver live c t) (later : IsLater live next request.ask it.done it.given) (now : IsCounted next) where
  chunk_may : same_method (asked_method request.ask) methods.Chunk ≡ true → list_any (same_method methods.Chunk) (methods_after live.method live.done) ≡ true
  chunk_may is = subst (λ (m : Method). list_any (same_method m) (methods_after live.method live.done) ≡ true) (same_method_is (asked_method request.ask) methods.Chunk is) passed.may

  pub place_was : same_method (asked_method request.ask) methods.Chunk ≡ true → place_of live t
  place_was is = over.next (chunk_may is)

  usn_was : same_method (asked_method request.ask) methods.Chunk ≡ true → next.least_usn ≡ live.least_usn
  usn_was is =
      let some : same_method live.method methods.Meta ≡ false = chunk_later (asked_method request.ask) live.method live.done is passed.may in
      elim (live.last == 0) as (λ b. (live.last == 0) ≡ b → next.least_usn ≡ live.least_usn) [
        | true ↦ λ e. absurd (not_both (is_meta_so live.method (counted.first.0 (eqb-true live.last 0 e))) some)
        | false ↦ λ e. later.least_usn ∙ ap (λ (b : Bool). if b then told_usn request.ask else live.least_usn) e
      ] refl

  room_by : ((live.last == 0) ≡ true × IsFirst c request.ask) ⊎ ((live.last == 0) ≡ false × (has_mark live.method ≡ true)) → c.head.usn ≤ℤ last_head_usn
      → (c.head.usn <ℤ last_head_usn) × (has_no_next c.head.moment ≡ false)
  room_by (inl first) high = (below_last c.head.usn high first.1.usn, first.1.committed)
  room_by (inr old) high = over.room old.1

  -- it is over what its keeper tells
  pub over_later : c.head.usn ≤ℤ last_head_usn → Answers t live request.ask it → IsOver next c (with_received (brought request.ask) t)
  over_later high is = record {
    moment = over.moment;
    schema = over.schema;
    usn = over.usn;
    last_sync = over.last_sync;
    room = λ marked. room_by (first_or_later c t live request counted passed stays (ap has_mark (sym later.method) ∙ marked)) high;
    next = λ may. place_by c t live next request.ask it later now is (λ chunk. (place_was chunk, usn_was chunk))
        (subst (λ (m : Method). list_any (same_method methods.Chunk) (methods_after m next.done) ≡ true) later.method may);
  }

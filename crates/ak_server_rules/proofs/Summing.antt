-- What is remembered of an account serves requests as the account itself does.
use Rattle.std.specs.Option.{option_map}
use Rattle.std.specs.Ordering.{int_eq}
use Rattle.std.specs.Prelude.{◌≡◌, ℕ, ℤ, ◌+◌, ◌-◌, ◌==◌, if◌then◌else◌, Bool, true, false, List, [], ◌∷◌, ◌++◌, length, Option, Some, None}
use Rattle.std.proofs.Common.{refl, sym, ap, ◌∙◌, arith}
use Rattle.std.proofs.lemmas.List.{map-append, length-append}
use Rattle.ak_keep.specs.Collections.{Collection}
use Rattle.ak_keep.specs.declared.keepers.Wanted.TheVariants.{From}
use Rattle.ak_merge.specs.Commits.{with_received}
use Rattle.ak_messages.specs.declared.replies.Give.{Give}
use Rattle.ak_messages.specs.declared.requests.Ask.{Ask}
use Rattle.ak_messages.specs.declared.requests.Ask.TheVariants as asks
use Rattle.ak_messages.specs.declared.requests.Request.{Request}
use Rattle.ak_protocol.specs.Accounts as protocol
use Rattle.ak_protocol.specs.Accounts.{SessionState, KeptReply, AccountState}
use Rattle.ak_protocol.specs.Serving as protocol_serving
use Rattle.ak_protocol.specs.Serving.{Setback, Undisturbed, KeeperFault, OutOfMemory, Served, served, kept_of, commit_reply}
use Rattle.ak_protocol.specs.Replies.{granted, download_reply}
use Rattle.ak_server_rules.specs.Serving.{Did, does, went_on, ended, finished, accepted, by_objection, by_session, by_repeat, objection_to, answer_to, is_bad_check, closed_by, session_of}
use Rattle.ak_server_rules.specs.Summaries.{SessionSummary, session_summary, account_summary, told_usn, told_moment, is_last_chunk, with_request}
use Rattle.ak_server_rules.specs.Laws.{summed, session_with}
use Rattle.ak_session.specs.Answers as answers
use Rattle.ak_session.specs.Closings as closings
use Rattle.ak_session.specs.Asks.{asks_of, least_usn, device_moment, brought, fold_of}
use Rattle.ak_session.specs.Contents.{refusal, answer, ends, closed}
use Rattle.ak_session.specs.Messages.{chunk_of}
use Rattle.ak_session.specs.NextMethods.{last_asked, was_done}
use Rattle.ak_session.specs.Objections.{Objection}
use Rattle.ak_session.specs.Refusals as refusals
use Rattle.ak_session.specs.Requests.{asked_method, is_meta, is_download, asks_commit}
use Rattle.ak_session.specs.Slices.{wanted_in_chunks, slice}
use Rattle.ak_session.proofs.Folds.{fold_append}
use Rattle.ak_session.proofs.Steps.{last_is, chunks_are_counted, number_stays, moment_stays}

-- ---- the five functions on contents, by what is remembered
objection_by : (committed : Collection) (session : SessionState) (ask : Ask)
    → objection_to committed (session_summary committed session) ask ≡ refusals.objection_to committed (asks_of session.accepted) ask
objection_by committed session asks.Meta = refl
objection_by committed session (asks.Start min_usn lmod) = refl
objection_by committed session (asks.ApplyGraves ids) = refl
objection_by committed session (asks.ApplyChanges changes) = refl
objection_by committed session asks.Chunk = refl
objection_by committed session (asks.ApplyChunk chunk) = refl
objection_by committed session (asks.SanityCheck2 counts) = refl
objection_by committed session asks.Finish = refl
objection_by committed session (asks.Upload whole) = refl
objection_by committed session asks.Download = refl

same_objection : (committed : Collection) (session : SessionState) (request : Request)
    → objection_to committed (session_summary committed session) request.ask ≡ refusal committed session.accepted request
unfolding refusal
same_objection committed session request = objection_by committed session request.ask

answer_by : (committed : Collection) (session : SessionState) (ask : Ask)
    → answer_to committed (session_summary committed session) ask ≡ answers.answer_to committed (asks_of session.accepted) ask
answer_by committed session asks.Meta = refl
answer_by committed session (asks.Start min_usn lmod) = refl
answer_by committed session (asks.ApplyGraves ids) = refl
answer_by committed session (asks.ApplyChanges changes) = refl
answer_by committed session asks.Chunk = refl
answer_by committed session (asks.ApplyChunk chunk) = refl
answer_by committed session (asks.SanityCheck2 counts) = refl
answer_by committed session asks.Finish = refl
answer_by committed session (asks.Upload whole) = refl
answer_by committed session asks.Download = refl

same_answer : (committed : Collection) (session : SessionState) (request : Request)
    → answer_to committed (session_summary committed session) request.ask ≡ answer committed session.accepted request
unfolding answer
same_answer committed session request = answer_by committed session request.ask

bad_by : (committed : Collection) (session : SessionState) (ask : Ask)
    → is_bad_check (session_summary committed session) ask ≡ answers.is_bad_check committed (asks_of session.accepted) ask
bad_by committed session asks.Meta = refl
bad_by committed session (asks.Start min_usn lmod) = refl
bad_by committed session (asks.ApplyGraves ids) = refl
bad_by committed session (asks.ApplyChanges changes) = refl
bad_by committed session asks.Chunk = refl
bad_by committed session (asks.ApplyChunk chunk) = refl
bad_by committed session (asks.SanityCheck2 counts) = refl
bad_by committed session asks.Finish = refl
bad_by committed session (asks.Upload whole) = refl
bad_by committed session asks.Download = refl

same_end : (committed : Collection) (session : SessionState) (request : Request)
    → is_bad_check (session_summary committed session) request.ask ≡ ends committed session.accepted request
unfolding ends
same_end committed session request = bad_by committed session request.ask

closed_as : (committed : Collection) (session : SessionState) (ask : Ask) (now : ℤ)
    → closed_by committed (session_summary committed session) ask now ≡ closings.closed_by committed (asks_of session.accepted) ask now
closed_as committed session asks.Meta now = refl
closed_as committed session (asks.Start min_usn lmod) now = refl
closed_as committed session (asks.ApplyGraves ids) now = refl
closed_as committed session (asks.ApplyChanges changes) now = refl
closed_as committed session asks.Chunk now = refl
closed_as committed session (asks.ApplyChunk chunk) now = refl
closed_as committed session (asks.SanityCheck2 counts) now = refl
closed_as committed session asks.Finish now = refl
closed_as committed session (asks.Upload whole) now = refl
closed_as committed session asks.Download now = refl

same_closed : (committed : Collection) (session : SessionState) (request : Request) (now : ℤ)
    → closed_by committed (session_summary committed session) request.ask now ≡ closed committed session.accepted request now
unfolding closed
same_closed committed session request now = closed_as committed session request.ask now

-- ---- one request more
steps_more : (accepted : List Request) (request : Request) → length (accepted ++ request ∷ []) ≡ length accepted + 1
steps_more accepted request = length-append accepted (request ∷ [])

asks_more : (accepted : List Request) (request : Request) → asks_of (accepted ++ request ∷ []) ≡ asks_of accepted ++ request.ask ∷ []
asks_more accepted request = map-append (λ (r : Request). r.ask) accepted (request ∷ [])

first_usn : (ask : Ask) → least_usn (ask ∷ []) ≡ told_usn ask
first_usn asks.Meta = refl
first_usn (asks.Start min_usn lmod) = refl
first_usn (asks.ApplyGraves ids) = refl
first_usn (asks.ApplyChanges changes) = refl
first_usn asks.Chunk = refl
first_usn (asks.ApplyChunk chunk) = refl
first_usn (asks.SanityCheck2 counts) = refl
first_usn asks.Finish = refl
first_usn (asks.Upload whole) = refl
first_usn asks.Download = refl

first_moment : (ask : Ask) → device_moment (ask ∷ []) ≡ told_moment ask
first_moment asks.Meta = refl
first_moment (asks.Start min_usn lmod) = refl
first_moment (asks.ApplyGraves ids) = refl
first_moment (asks.ApplyChanges changes) = refl
first_moment asks.Chunk = refl
first_moment (asks.ApplyChunk chunk) = refl
first_moment (asks.SanityCheck2 counts) = refl
first_moment asks.Finish = refl
first_moment (asks.Upload whole) = refl
first_moment asks.Download = refl

past_zero : (first : Request) (more : List Request) → (length (first ∷ more) == 0) ≡ false
past_zero first more = grind arith

usn_more : (accepted : List Request) (ask : Ask) → least_usn (asks_of accepted ++ ask ∷ []) ≡ (if length accepted == 0 then told_usn ask else least_usn (asks_of accepted))
usn_more [] ask = first_usn ask
usn_more (first ∷ more) ask =
    number_stays first.ask (asks_of more) ask
    ∙ ap (λ (b : Bool). if b then told_usn ask else least_usn (asks_of (first ∷ more))) (sym (past_zero first more))

moment_more : (accepted : List Request) (ask : Ask)
    → device_moment (asks_of accepted ++ ask ∷ []) ≡ (if length accepted == 0 then told_moment ask else device_moment (asks_of accepted))
moment_more [] ask = first_moment ask
moment_more (first ∷ more) ask =
    moment_stays first.ask (asks_of more) ask
    ∙ ap (λ (b : Bool). if b then told_moment ask else device_moment (asks_of (first ∷ more))) (sym (past_zero first more))

-- a chunk tells no number
chunk_tells : (asked : List Ask) → least_usn (asked ++ asks.Chunk ∷ []) ≡ least_usn asked
chunk_tells [] = refl
chunk_tells (first ∷ more) = number_stays first more asks.Chunk

fold_more : (committed : Collection) (asked : List Ask) (ask : Ask) → fold_of committed (asked ++ ask ∷ []) ≡ with_received (brought ask) (fold_of committed asked)
fold_more committed asked ask = fold_append committed asked (ask ∷ [])

less_one : (n : ℕ) → n + 1 - 1 ≡ n
less_one n = omega arith

-- whether the last chunk that was given was done, by the list with it and by what was remembered before it
chunk_done : (committed : Collection) (asked : List Ask)
    → was_done committed (asked ++ asks.Chunk ∷ []) asks.Chunk ≡ (chunk_of (slice (answers.chunk_count asked) (wanted_in_chunks (From (least_usn asked)) (fold_of committed asked).rows))).done
chunk_done committed asked =
    ap (λ (n : ℕ). (chunk_of (slice (n - 1) (answers.server_rows committed (asked ++ asks.Chunk ∷ [])))).done) (chunks_are_counted asked asks.Chunk)
    ∙ ap (λ (n : ℕ). (chunk_of (slice n (answers.server_rows committed (asked ++ asks.Chunk ∷ [])))).done) (less_one (answers.chunk_count asked))
    ∙ ap (λ (usn : ℤ). (chunk_of (slice (answers.chunk_count asked) (wanted_in_chunks (From usn) (fold_of committed (asked ++ asks.Chunk ∷ [])).rows))).done) (chunk_tells asked)
    ∙ ap (λ (c : Collection). (chunk_of (slice (answers.chunk_count asked) (wanted_in_chunks (From (least_usn asked)) c.rows))).done) (fold_more committed asked asks.Chunk)

done_by : (committed : Collection) (session : SessionState) (ask : Ask)
    → was_done committed (asks_of session.accepted ++ ask ∷ []) ask ≡ is_last_chunk (session_summary committed session) ask
done_by committed session asks.Meta = refl
done_by committed session (asks.Start min_usn lmod) = refl
done_by committed session (asks.ApplyGraves ids) = refl
done_by committed session (asks.ApplyChanges changes) = refl
done_by committed session asks.Chunk = chunk_done committed (asks_of session.accepted)
done_by committed session (asks.ApplyChunk chunk) = refl
done_by committed session (asks.SanityCheck2 counts) = refl
done_by committed session asks.Finish = refl
done_by committed session (asks.Upload whole) = refl
done_by committed session asks.Download = refl

-- what is remembered of this many requests that ask these, the last of them this
abbrev summary_at : Collection → ℕ → ℕ → List Ask → Ask → SessionSummary
summary_at committed key last asked latest = record {
  key = key;
  last = last;
  method = asked_method latest;
  done = was_done committed asked latest;
  chunks = answers.chunk_count asked;
  least_usn = least_usn asked;
  moment = device_moment asked;
  tables = fold_of committed asked;
}

-- what is remembered, by its parts
abbrev summary_by : ℕ → ℕ → Ask → Bool → ℕ → ℤ → ℤ → Collection → SessionSummary
summary_by key last latest done chunks usn moment tables = record {
  key = key;
  last = last;
  method = asked_method latest;
  done = done;
  chunks = chunks;
  least_usn = usn;
  moment = moment;
  tables = tables;
}

pub summary_goes_on : (committed : Collection) (session : SessionState) (request : Request)
    → session_summary committed (session_with session request) ≡ with_request (session_summary committed session) request.ask
summary_goes_on committed session request =
    let accepted : List Request = session.accepted in
    let asked : List Ask = asks_of accepted in
    let ask : Ask = request.ask in
    let more : List Ask = asked ++ ask ∷ [] in
    let last : ℕ = length accepted + 1 in
    let live : SessionSummary = with_request (session_summary committed session) ask in
    ap (λ (n : ℕ). summary_at committed session.key n (asks_of (accepted ++ request ∷ [])) (last_asked (asks_of (accepted ++ request ∷ [])))) (steps_more accepted request)
    ∙ ap (λ (l : List Ask). summary_at committed session.key last l (last_asked l)) (asks_more accepted request)
    ∙ ap (summary_at committed session.key last more) (last_is asked ask)
    ∙ ap (λ (b : Bool). summary_by session.key last ask b (answers.chunk_count more) (least_usn more) (device_moment more) (fold_of committed more)) (done_by committed session ask)
    ∙ ap (λ (n : ℕ). summary_by session.key last ask live.done n (least_usn more) (device_moment more) (fold_of committed more)) (chunks_are_counted asked ask)
    ∙ ap (λ (z : ℤ). summary_by session.key last ask live.done live.chunks z (device_moment more) (fold_of committed more)) (usn_more accepted ask)
    ∙ ap (λ (z : ℤ). summary_by session.key last ask live.done live.chunks live.least_usn z (fold_of committed more)) (moment_more accepted ask)
    ∙ ap (summary_by session.key last ask live.done live.chunks live.least_usn live.moment) (fold_more committed asked ask)

-- ---- the cases
chosen : (b : Bool) (x y : Did) (u v : Served) → x ≡ summed u → y ≡ summed v → (if b then x else y) ≡ summed (if b then u else v)
chosen true x y u v one other = one
chosen false x y u v one other = other

-- an accepted request that is given this, after which this is remembered of its session
abbrev given_so : AccountState → Request → Give → Option SessionSummary → Did
given_so s request give live =
    let reply = if is_download request.ask then download_reply s.committed else granted give in
    record { reply = reply; next = record { committed = s.committed; live = live; kept = Some (kept_of request reply) }; is_commit = false }

same_went_on : (s : AccountState) (session : SessionState) (request : Request)
    → went_on (account_summary s) (session_summary s.committed session) request ≡ summed (protocol_serving.went_on s session request)
same_went_on s session request =
    ap (λ (g : Give). given_so s request g (Some (with_request (session_summary s.committed session) request.ask))) (same_answer s.committed session request)
    ∙ ap (λ (live : SessionSummary). given_so s request (answer s.committed session.accepted request) (Some live)) (sym (summary_goes_on s.committed session request))

same_ended : (s : AccountState) (session : SessionState) (request : Request)
    → ended (account_summary s) (session_summary s.committed session) request ≡ summed (protocol_serving.ended s session request)
same_ended s session request = ap (λ (g : Give). given_so s request g None) (same_answer s.committed session request)

-- a finish or an upload after which this is committed
abbrev closed_so : Request → Collection → Did
closed_so request after =
    let reply = commit_reply request.ask after.head in
    record { reply = reply; next = record { committed = after; live = None; kept = Some (kept_of request reply) }; is_commit = true }

same_finished : (s : AccountState) (session : SessionState) (request : Request) (now : ℤ)
    → finished (account_summary s) (session_summary s.committed session) request now ≡ summed (protocol_serving.finished s session request now)
same_finished s session request now = ap (closed_so request) (same_closed s.committed session request now)

same_accepted : (s : AccountState) (session : SessionState) (request : Request) (now : ℤ)
    → accepted (account_summary s) (session_summary s.committed session) request now ≡ summed (protocol_serving.by_refusal None s session request now)
same_accepted s session request now =
    let live : SessionSummary = session_summary s.committed session in
    chosen (asks_commit request.ask) _ _ _ _ (same_finished s session request now)
    (ap (λ (b : Bool). if b then ended (account_summary s) live request else went_on (account_summary s) live request) (same_end s.committed session request)
    ∙ chosen (ends s.committed session.accepted request) _ _ _ _ (same_ended s session request) (same_went_on s session request))

same_by_objection : (why : Option Objection) (s : AccountState) (session : SessionState) (request : Request) (now : ℤ)
    → by_objection why (account_summary s) (session_summary s.committed session) request now ≡ summed (protocol_serving.by_refusal why s session request now)
same_by_objection (Some why) s session request now = refl
same_by_objection None s session request now = same_accepted s session request now

same_by_session : (live : Option SessionState) (s : AccountState) (request : Request) (now : ℤ)
    → by_session (option_map (session_summary s.committed) live) (account_summary s) request now ≡ summed (protocol_serving.by_session live s request now)
same_by_session None s request now = refl
same_by_session (Some session) s request now =
    chosen (protocol_serving.has_next_step session request) _ _ _ _
    (ap (λ (why : Option Objection). by_objection why (account_summary s) (session_summary s.committed session) request now) (same_objection s.committed session request)
    ∙ same_by_objection (refusal s.committed session.accepted request) s session request now)
    refl

-- the live session of a request's key, by what is remembered of it
if_own : (b : Bool) (committed : Collection) (session : SessionState)
    → (if b then Some (session_summary committed session) else None) ≡ option_map (session_summary committed) (if b then Some session else None)
if_own true committed session = refl
if_own false committed session = refl

same_session : (committed : Collection) (live : Option SessionState) (request : Request)
    → session_of (option_map (session_summary committed) live) request ≡ option_map (session_summary committed) (protocol.session_of live request.session.0)
same_session committed None request = refl
same_session committed (Some session) request = if_own (session.key == request.session.0) committed session

same_by_repeat : (kept : Option KeptReply) (s : AccountState) (request : Request) (now : ℤ)
    → by_repeat kept (account_summary s) request now ≡ summed (protocol_serving.by_repeat kept s request now)
same_by_repeat (Some kept) s request now = refl
same_by_repeat None s request now =
    chosen (int_eq request.base s.committed.head.moment) _ _ _ _
    (ap (λ (live : Option SessionSummary). by_session live (account_summary s) request now) (same_session s.committed s.live request)
    ∙ same_by_session (protocol.session_of s.live request.session.0) s request now)
    refl

pub same_served : (s : AccountState) (request : Request) (now : ℤ) (setback : Setback)
    → does (account_summary s) request now setback ≡ summed (served s request now setback)
same_served s request now KeeperFault = refl
same_served s request now OutOfMemory = refl
same_served s request now Undisturbed =
    chosen (is_meta request.ask) _ _ _ _ refl (same_by_repeat (protocol.repeated s.kept request) s request now)

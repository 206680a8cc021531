-- What the answers to the requests of a session tell of what it committed, if nobody comes between its calls.
use Rattle.std.specs.List.{AllByRecursion}
use Rattle.std.specs.Prelude.{◌≡◌, ◌≢◌, ◌<◌, ◌⊎◌, ℕ, zero, suc, ◌+◌, ℤ, Bool, true, false, is_some, List, [], ◌∷◌, Some, Result, Ok, Err, ⊤}
use Rattle.std.proofs.Common.{refl, sym, ap, subst, ◌∙◌, inl, inr, arith}
use Rattle.ak_client.specs.Greetings.{meta_of}
use Rattle.ak_client_wire.specs.Forms.{moment_in}
use Rattle.ak_client_wire.specs.Tries.{AreCalls, Tried}
use Rattle.ak_client_wire.specs.Wires.{WireState}
use Rattle.ak_client_wire.specs.declared.wires.WireEnd.{WireEnd}
use Rattle.ak_client_wire.specs.declared.wires.WireEnd.TheVariants as ends
use Rattle.ak_exchange.specs.Asked.{AreTried, TriedAsk, answers_in, asker, asks_in}
use Rattle.ak_exchange.specs.declared.envelopes.Ids.{Ids}
use Rattle.ak_faults.specs.Causes.{Health}
use Rattle.ak_keep.specs.Collections.{Collection}
use Rattle.ak_lab_joins.proofs.ServingsTold.{QuietOrGranted, QuietOrKept, Stands, nothing_new, one_grants, quiet_then, row_calm, row_grants, row_stands, up_to_calm, up_to_stands}
use Rattle.ak_lab_joins.proofs.Worlds.{StaysQuiet}
use Rattle.ak_lab_joins.specs.LabJoins.{world_in}
use Rattle.ak_lab_wires.specs.LabSessions.{sent_by}
use Rattle.ak_messages.specs.declared.replies.Give.{Give}
use Rattle.ak_messages.specs.declared.replies.Reply.{Reply}
use Rattle.ak_messages.specs.declared.requests.Ask.{Ask}
use Rattle.ak_messages.specs.declared.requests.Ask.TheVariants as asks
use Rattle.ak_messages.specs.declared.requests.Request.{Request}
use Rattle.ak_protocol.proofs.Commits.{not_both}
use Rattle.ak_protocol.specs.Accounts.{AccountState}
use Rattle.ak_protocol.specs.Logs.{World}
use Rattle.ak_protocol.specs.Serving.{commit_reply}
use Rattle.ak_session.specs.Plans.{Asker, requests_from}
use Rattle.ak_session.specs.Requests.{asks_commit}
use Rattle.ak_sync_in_memory.specs.Betweens.{ActEnd, Acting}
use Rattle.ak_sync_in_memory.specs.Entries.{LoggedState, health_in, log_in}
use Rattle.ak_sync_in_memory.specs.LoopWires.{CallsLoop, FaresAfter, LoopInside, ServesInARow, ServesUpTo, loop_kind}
use Rattle.ak_sync_in_memory.specs.Mishaps.{is_lost, servings}
use Rattle.ak_sync_in_memory.specs.declared.mishaps.Mishap.{Mishap}
use Rattle.ak_transfers.specs.Forms.{uploaded_in}

-- ---- answers
-- whether what is given has the form of the reply to a commit: its moment, and of an upload its schema moment too
abbrev pub shows_commit : Ask → Give → Bool
shows_commit (asks.Upload whole) give = is_some (uploaded_in give)
shows_commit ask give = is_some (moment_in give)

-- a reply grants no commit: it has another status, or not that form
abbrev pub GrantsNone : Ask → Reply → Type 0
GrantsNone ask reply = (reply.status ≢ 200) ⊎ (shows_commit ask reply.give ≡ false)

-- an answer shows that its request committed nothing. If messages are lost or repeated, it is a reply to a finish, which is not refused for want of memory.
-- If none are, it may be that memory ran out in the call
abbrev pub ShowsNone : List Mishap → Ask → Result Reply WireEnd → Type 0
ShowsNone mishaps ask (Ok reply) = GrantsNone ask reply × ((mishaps ≡ []) ⊎ (ask ≡ asks.Finish))
ShowsNone mishaps ask (Err ends.Failed) = ⊥
ShowsNone mishaps ask (Err ends.BadReply) = ⊤
ShowsNone mishaps ask (Err ends.Memory) = mishaps ≡ []

-- what was asked is no commit, or its answer shows that it committed nothing
abbrev pub IsMild : List Mishap → TriedAsk → Type 0
IsMild mishaps it = (asks_commit it.ask ≡ false) ⊎ ShowsNone mishaps it.ask it.answer

-- what is committed is as it was; or a request was granted, by a reply that grants no commit
abbrev pub QuietOrBoth : World → World → Type 0
QuietOrBoth before after = StaysQuiet before after
    ⊎ ((ask : Ask) × (reply : Reply) × (asks_commit ask ≡ true) × GrantsNone ask reply × (reply ≡ commit_reply ask after.state.committed.head))

both_then : (u v w : World) → QuietOrBoth u v → QuietOrBoth v w → QuietOrBoth u w
both_then u v w one (inr both) = inr both
both_then u v w (inl quiet) (inl still) = inl (quiet_then u v w quiet still)
both_then u v w (inr (ask, reply, commits, none, is)) (inl still) =
    inr (ask, reply, commits, none, is ∙ ap (λ (c : Collection). commit_reply ask c.head) (sym still.committed))

failed_not_memory : ◌≡◌ {A = Result Reply WireEnd} (Err ends.Failed) (Err ends.Memory) → ⊥
failed_not_memory is = grind (arith, is)

unread_not_memory : ◌≡◌ {A = Result Reply WireEnd} (Err ends.BadReply) (Err ends.Memory) → ⊥
unread_not_memory is = grind (arith, is)

given_not_memory : (reply : Reply) → ◌≡◌ {A = Result Reply WireEnd} (Ok reply) (Err ends.Memory) → ⊥
given_not_memory reply is = grind (arith, is)

module _ {B : Type 0} (acts : Acting B) (idle : B → Bool) (account : AccountState) (who : Asker) (mishaps : List Mishap) where
  abbrev World_in : LoopInside B → World
  World_in i = world_in who.host.digits account i.server

  -- how a wire stands between two calls
  pub record StandsIdle (i : LoopInside B) : Type 0 where
    pub alone : idle i.between ≡ true
    pub opens : (log_in i.server).opening who.host.digits ≡ Some account
    pub same : i.mishaps ≡ mishaps
    pub clear : (mishaps ≡ []) ⊎ ((health_in i.server).calm ≡ true)

  -- ---- the calls of one request
  module _ (request : Request) (own : request.host.digits ≡ who.host.digits) (base : World) where
    abbrev StandsSo : LoggedState → Type 0
    StandsSo server = Stands who.host.digits account request base server

    -- what servings leave, however the call fared
    after_stands : (came : ActEnd) (number : ℕ) (at : ℤ) (a b : LoggedState) (answer : Result Reply WireEnd) → StandsSo a
        → FaresAfter came number mishaps a b request at answer → StandsSo b
    after_stands (Err end) number at a b answer stands fares = subst StandsSo (sym fares.1) stands
    after_stands (Ok done) number at a b (Ok reply) stands fares =
        row_stands who.host.digits account request own at base (servings number mishaps) a b reply stands fares.1
    after_stands (Ok done) number at a b (Err ends.Failed) stands fares =
        up_to_stands who.host.digits account request own at base (servings number mishaps) a b stands fares.1
    after_stands (Ok done) number at a b (Err ends.BadReply) stands fares = absurd fares
    after_stands (Ok done) number at a b (Err ends.Memory) stands fares =
        up_to_stands who.host.digits account request own at base fares.0 a b stands fares.2

    after_calm : (came : ActEnd) (number : ℕ) (at : ℤ) (a b : LoggedState) (answer : Result Reply WireEnd) → (health_in a).calm ≡ true
        → FaresAfter came number mishaps a b request at answer → (health_in b).calm ≡ true
    after_calm (Err end) number at a b answer calm fares = ap (λ (s : LoggedState). (health_in s).calm) fares.1 ∙ calm
    after_calm (Ok done) number at a b (Ok reply) calm fares =
        row_calm who.host.digits account request own at base (servings number mishaps) a b reply calm fares.1
    after_calm (Ok done) number at a b (Err ends.Failed) calm fares =
        up_to_calm who.host.digits account request own at base (servings number mishaps) a b calm fares.1
    after_calm (Ok done) number at a b (Err ends.BadReply) calm fares = absurd fares
    after_calm (Ok done) number at a b (Err ends.Memory) calm fares =
        up_to_calm who.host.digits account request own at base fares.0 a b calm fares.2

    -- a call without an answer was to be lost
    was_lost : (came : ActEnd) (number : ℕ) (at : ℤ) (a b : LoggedState) → FaresAfter came number mishaps a b request at (Err ends.Failed)
        → is_lost number mishaps ≡ true
    was_lost (Ok done) number at a b fares = fares.0
    was_lost (Err end) number at a b fares = absurd (failed_not_memory fares.0)

    -- less often than once is never
    not_served : (times : ℕ) (at : ℤ) (a b : LoggedState) → times < 1 → ServesUpTo times a b request at → b ≡ a
    not_served zero at a b less same = same
    not_served (suc n) at a b less row = absurd (omega (arith, less))

    unmoved : (a b : LoggedState) → b ≡ a → StaysQuiet base (world_in who.host.digits account a) → QuietOrBoth base (world_in who.host.digits account b)
    unmoved a b same quiet = inl (subst (λ (s : LoggedState). StaysQuiet base (world_in who.host.digits account s)) (sym same) quiet)

    -- the last call: if its answer shows that the request committed nothing, what is committed is as it was, or it was granted all the same
    after_both : (came : ActEnd) (number : ℕ) (at : ℤ) (a b : LoggedState) (answer : Result Reply WireEnd) → StandsSo a
        → (mishaps ≡ []) ⊎ ((health_in a).calm ≡ true) → (mishaps ≡ [] → StaysQuiet base (world_in who.host.digits account a)) → ShowsNone mishaps request.ask answer
        → FaresAfter came number mishaps a b request at answer → QuietOrBoth base (world_in who.host.digits account b)
    after_both (Err end) number at a b (Ok reply) stands clear first none fares = absurd (given_not_memory reply fares.0)
    after_both (Err end) number at a b (Err ends.Failed) stands clear first none fares = absurd none
    after_both (Err end) number at a b (Err ends.BadReply) stands clear first none fares = absurd (unread_not_memory fares.0)
    after_both (Err end) number at a b (Err ends.Memory) stands clear first none fares = unmoved a b fares.1 (first none)
    after_both (Ok done) number at a b (Err ends.Failed) stands clear first none fares = absurd none
    after_both (Ok done) number at a b (Err ends.BadReply) stands clear first none fares = absurd fares
    after_both (Ok done) number at a b (Err ends.Memory) stands clear first none fares =
        unmoved a b (not_served fares.0 at a b (subst (λ (l : List Mishap). fares.0 < servings number l) none fares.1) fares.2) (first none)
    after_both (Ok done) number at a b (Ok reply) stands clear first none fares = by clear none.1
      where
        told : QuietOrGranted request reply base (world_in who.host.digits account b) → QuietOrBoth base (world_in who.host.digits account b)
        told (inl quiet) = inl quiet
        told (inr granted) = inr (request.ask, reply, granted.0, none.0, granted.1)

        -- it was served once
        by_one : mishaps ≡ [] → QuietOrBoth base (world_in who.host.digits account b)
        by_one nothing =
            told (one_grants who.host.digits account request own at base a b reply stands (first nothing)
            (subst (λ (n : ℕ). ServesInARow n a b request at reply) (ap (servings number) nothing) fares.1))

        by : (mishaps ≡ []) ⊎ ((health_in a).calm ≡ true) → (mishaps ≡ []) ⊎ (request.ask ≡ asks.Finish) → QuietOrBoth base (world_in who.host.digits account b)
        by (inl nothing) finish = by_one nothing
        by (inr calm) (inl nothing) = by_one nothing
        by (inr calm) (inr finish) =
            told (row_grants who.host.digits account request own at base (servings number mishaps) a b reply stands calm finish fares.1)

    -- ---- one call
    -- how the request fared, as nobody came before it
    fares_so : (i j : LoopInside B) (answer : Result Reply WireEnd) → StandsIdle i → (call : CallsLoop acts idle i j request answer)
        → FaresAfter call.delivers.came i.counts.calls mishaps i.server j.server request i.moment answer
    fares_so i j answer stands call =
        subst (λ (s : LoggedState). FaresAfter call.delivers.came i.counts.calls mishaps s j.server request i.moment answer) (call.delivers.quiet.nothing stands.alone)
        (subst (λ (l : List Mishap). FaresAfter call.delivers.came i.counts.calls l call.delivers.met j.server request i.moment answer) stands.same call.delivers.fares)

    record After (j : LoopInside B) : Type 0 where
      pub ready : StandsIdle j
      pub stands : StandsSo j.server

    call_stands : (i j : LoopInside B) (answer : Result Reply WireEnd) → StandsIdle i → StandsSo i.server → CallsLoop acts idle i j request answer → After j
    call_stands i j answer ready_i stands call =
        let fares = fares_so i j answer ready_i call in
        let next : StandsSo j.server = after_stands call.delivers.came i.counts.calls i.moment i.server j.server answer stands fares in
        record {
          ready = record {
            alone = call.delivers.quiet.stays ∙ ready_i.alone;
            opens = next.opens;
            same = ap (λ (k : LoopInside B). k.mishaps) call.rest ∙ ready_i.same;
            clear = clear fares ready_i.clear;
          };
          stands = next;
        }
      where
        clear : FaresAfter call.delivers.came i.counts.calls mishaps i.server j.server request i.moment answer
            → (mishaps ≡ []) ⊎ ((health_in i.server).calm ≡ true) → (mishaps ≡ []) ⊎ ((health_in j.server).calm ≡ true)
        clear fares (inl nothing) = inl nothing
        clear fares (inr calm) = inr (after_calm call.delivers.came i.counts.calls i.moment i.server j.server answer calm fares)

    -- ---- all its tries
    pub record Goes (j : LoopInside B) : Type 0 where
      pub ready : StandsIdle j
      pub both : QuietOrBoth base (world_in who.host.digits account j.server)

    last_goes : (i j : LoopInside B) (answer : Result Reply WireEnd) → StandsIdle i → StandsSo i.server
        → (mishaps ≡ [] → StaysQuiet base (world_in who.host.digits account i.server)) → (asks_commit request.ask ≡ false) ⊎ ShowsNone mishaps request.ask answer
        → CallsLoop acts idle i j request answer → Goes j
    last_goes i j answer ready_i stands first mild call = record { ready = next.ready; both = by mild }
      where
        next : After j
        next = call_stands i j answer ready_i stands call

        plain_both : asks_commit request.ask ≡ false → QuietOrKept request base (world_in who.host.digits account j.server)
            → QuietOrBoth base (world_in who.host.digits account j.server)
        plain_both plain (inl quiet) = inl quiet
        plain_both plain (inr kept) = absurd (not_both kept.0 plain)

        by : (asks_commit request.ask ≡ false) ⊎ ShowsNone mishaps request.ask answer → QuietOrBoth base (world_in who.host.digits account j.server)
        by (inl plain) = plain_both plain next.stands.since
        by (inr none) =
            after_both call.delivers.came i.counts.calls i.moment i.server j.server answer stands ready_i.clear first none (fares_so i j answer ready_i call)

    calls_go : (n : ℕ) (h0 h1 : Health) (w0 w1 : WireState (loop_kind acts idle)) (answer : Result Reply WireEnd) → StandsIdle w0.inside → StandsSo w0.inside.server
        → (mishaps ≡ [] → StaysQuiet base (world_in who.host.digits account w0.inside.server))
        → (asks_commit request.ask ≡ false) ⊎ ShowsNone mishaps request.ask answer → AreCalls n h0 h1 w0 w1 request answer → Goes w1.inside
    calls_go zero h0 h1 w0 w1 answer ready_0 stands first mild are = absurd are
    calls_go (suc zero) h0 h1 w0 w1 answer ready_0 stands first mild are = last_goes w0.inside w1.inside answer ready_0 stands first mild are.does
    calls_go (suc (suc n)) h0 h1 w0 w1 answer ready_0 stands first mild are =
        calls_go (suc n) are.0 h1 are.1 w1 answer next.ready next.stands (λ nothing. absurd (not_both lost (ap (is_lost w0.inside.counts.calls) nothing))) mild are.3
      where
        next : After are.1.inside
        next = call_stands w0.inside are.1.inside (Err ends.Failed) ready_0 stands are.2.does

        lost : is_lost w0.inside.counts.calls mishaps ≡ true
        lost =
            was_lost are.2.does.delivers.came w0.inside.counts.calls w0.inside.moment w0.inside.server are.1.inside.server
            (fares_so w0.inside are.1.inside (Err ends.Failed) ready_0 are.2.does)

  try_goes : (h0 h1 : Health) (w0 w1 : WireState (loop_kind acts idle)) (request : Request) (answer : Result Reply WireEnd) (own : request.host.digits ≡ who.host.digits)
      → StandsIdle w0.inside → (asks_commit request.ask ≡ false) ⊎ ShowsNone mishaps request.ask answer → Tried h0 h1 w0 w1 request answer
      → Goes request own (World_in w0.inside) w1.inside
  try_goes h0 h1 w0 w1 request answer own ready_0 mild tried =
      let quiet : StaysQuiet (World_in w0.inside) (World_in w0.inside) = nothing_new (World_in w0.inside) in
      calls_go request own (World_in w0.inside) tried.tries h0 h1 w0 w1 answer ready_0 (record { opens = ready_0.opens; since = inl quiet }) (λ nothing. quiet) mild tried.each

  -- ---- the requests of a session
  tries_go : (moment : ℤ) (step : ℕ) (tries : List TriedAsk) (h0 h1 : Health) (w0 w1 : WireState (loop_kind acts idle)) → StandsIdle w0.inside
      → AllByRecursion (IsMild mishaps) tries → AreTried (requests_from who moment step (asks_in tries)) (answers_in tries) h0 h1 w0 w1
      → QuietOrBoth (World_in w0.inside) (World_in w1.inside)
  tries_go moment step [] h0 h1 w0 w1 ready_0 all tried =
      inl (subst (λ (w : WireState (loop_kind acts idle)). StaysQuiet (World_in w0.inside) (World_in w.inside)) (sym tried.1) (nothing_new (World_in w0.inside)))
  tries_go moment step (it ∷ tries) h0 h1 w0 w1 ready_0 all tried =
      let between : Health = tried.0 in
      let mid : WireState (loop_kind acts idle) = tried.1 in
      let request : Request = record { host = who.host; session = who.session; step = step; base = moment; ask = it.ask } in
      let first = try_goes h0 between w0 mid request it.answer refl ready_0 all.0 tried.2 in
      both_then (World_in w0.inside) (World_in mid.inside) (World_in w1.inside) first.both
      (tries_go moment (step + 1) tries between h1 mid w1 first.ready all.1 tried.3)

  pub session_goes : (ids : Ids) (moment : ℤ) (meta : Result Reply WireEnd) (tries : List TriedAsk) (h0 h1 : Health) (w0 w1 : WireState (loop_kind acts idle)) → asker ids ≡ who
      → StandsIdle w0.inside → AllByRecursion (IsMild mishaps) tries → AreTried (sent_by ids moment tries) (meta ∷ answers_in tries) h0 h1 w0 w1
      → QuietOrBoth (world_in who.host.digits account w0.inside.server) (world_in who.host.digits account w1.inside.server)
  session_goes ids moment meta tries h0 h1 w0 w1 same ready_0 all tried =
      let between : Health = tried.0 in
      let mid : WireState (loop_kind acts idle) = tried.1 in
      let first = try_goes h0 between w0 mid (meta_of ids) meta (ap (λ (a : Asker). a.host.digits) same) ready_0 (inl refl) tried.2 in
      both_then (World_in w0.inside) (World_in mid.inside) (World_in w1.inside) first.both
      (tries_go moment 1 tries between h1 mid w1 first.ready all
      (subst (λ (a : Asker). AreTried (requests_from a moment 1 (asks_in tries)) (answers_in tries) between h1 mid w1) same tried.3))

-- How far a sync came: what it asked, what the log of its wire shows of it, and what the device took.
use Rattle.std.specs.Int.{div_ceil}
use Rattle.std.specs.List.{AllByRecursion}
use Rattle.std.specs.Prelude.{◌≡◌, ℕ, ℤ, ◌+◌, ◌^◌, ◌≤◌, ◌&&◌, false, List, [], ◌∷◌, ◌++◌, length, Option, Some, None, Result, Ok, Err, OnOk, IfOk, IfErr, ◌⊎◌, ⊤}
use Rattle.ak_exchange.specs.Asked.{AreAsked, AreFew, Talk, TriedAsk, asker, asks_in, request_at}
use Rattle.ak_exchange.specs.Grants.{AreGranted, SendsRows, StopsFor, StopsUnanswered, are_granted, granted_of}
use Rattle.ak_exchange.specs.Stops.{comes_before_finish, is_keep_or_memory}
use Rattle.ak_exchange.specs.declared.envelopes.Met.{Met}
use Rattle.ak_exchange.specs.declared.stops.Stop.{Stop}
use Rattle.ak_exchange.specs.declared.stops.Stop.TheVariants as stops
use Rattle.ak_device.specs.Devices.{received}
use Rattle.ak_device.specs.Settlings.{taken_and_settled}
use Rattle.ak_keep.specs.Collections.{Collection, Holding}
use Rattle.ak_keep.specs.Keepers.{Keeping, WhereTold, all_known, changed}
use Rattle.ak_keep.specs.declared.keepers.Wanted.TheVariants.{From, Unsent}
use Rattle.ak_merge.specs.Commits.{Received}
use Rattle.ak_merge.specs.Holdings.{row_under}
use Rattle.ak_merge.specs.Joins.{joined_under}
use Rattle.ak_merge.specs.Soundness.{IsSound}
use Rattle.ak_messages.specs.declared.replies.Reply.{Reply}
use Rattle.ak_messages.specs.declared.requests.Ask.{Ask}
use Rattle.ak_messages.specs.declared.requests.Ask.TheVariants.{Finish}
use Rattle.ak_messages.specs.declared.requests.Request.{Request}
use Rattle.ak_protocol.specs.Accounts.{AccountState}
use Rattle.ak_protocol.specs.Logs.{Log, commits_of}
use Rattle.ak_protocol.specs.Syncs.{IsUnderWay, world_of}
use Rattle.ak_session.specs.Asks.{and_then, nothing}
use Rattle.ak_session.specs.Contents.{closed, refusal}
use Rattle.ak_session.specs.Plans.{Asker, planned, planned_check, requests_from}
use Rattle.ak_session.specs.Replies.{all_replied, replied}
use Rattle.ak_session.specs.Requests.{asks_commit}
use Rattle.ak_session.specs.Sessions.{MaySync}
use Rattle.ak_session.specs.Slices.{wanted_graves, wanted_in_chunks}
use Rattle.ak_client_wire.specs.declared.wires.WireEnd.{WireEnd}
use Rattle.ak_client_wire.specs.Wires.{WireKind}

-- ---- the device
-- what a keeper holds if it holds this collection
abbrev pub held_by : Collection → Holding
held_by c = record { rows = c.rows; head = Some c.head }

-- a keeper that tells that it holds this collection, and is not marked
abbrev pub holding : Collection → Keeping
holding c = all_known (record { current = held_by c; mark = None })

-- a keeper that tells that it holds this collection, and is marked at it
abbrev pub marked_at : Collection → Keeping
marked_at c = all_known (record { current = held_by c; mark = Some (held_by c) })

-- a keeper once something came to it, which was taken with the server's usn
abbrev pub HasReceived : ℤ → Keeping → Keeping → Type 0
HasReceived usn before now = (came : Received) × (now ≡ changed (received usn came) before)

-- what an answer brings to a device, if it is a reply
abbrev pub came_by : Result Reply WireEnd → Received
came_by (Ok reply) = replied reply.give
came_by (Err end) = nothing

-- what the answers to these brought, in order
abbrev pub all_came_by : List TriedAsk → Received
all_came_by [] = nothing
all_came_by (it ∷ more) = and_then (came_by it.answer) (all_came_by more)

-- of these, a keeper took what the answers brought to those that were granted, and settled what those sent, and nothing else. So nothing is
-- settled before its request was granted
abbrev pub HasExchanged : ℤ → List TriedAsk → Keeping → Keeping → Type 0
HasExchanged usn tries before now =
    let granted = granted_of tries in now ≡ changed (taken_and_settled usn (all_came_by granted) (asks_in granted)) before

-- something holds once a part went well, or stopped at what it asked last. If the keeper failed or memory ran out although all was granted that
-- it asked, the part may be half done
abbrev pub UnlessHalfDone : {T : Type 0} → List TriedAsk → Result T Stop → Type 0 → Type 0
UnlessHalfDone tries (Ok it) P = P
UnlessHalfDone tries (Err stop) P = (is_keep_or_memory stop && are_granted tries) ≡ false → P

-- ---- places of a plan
-- what is true of a sync of c with s, once these were asked, wherever the two may sync
abbrev pub Place : Type 1
Place = Collection → Collection → List Ask → Type 0

-- all that is planned up to the end of this part was asked
abbrev pub at_end_of : (Collection → Collection → List Ask) → Place
at_end_of part c s asked = asked ≡ part c s

-- nothing was asked after the meta
abbrev pub at_meta : Place
at_meta c s asked = asked ≡ []

-- all that is planned up to the sanity check was asked, and the join of the two is sound
pub record HasPassedCheck (c s : Collection) (asked : List Ask) : Type 0 where
  pub asked_is : asked ≡ planned_check c s
  pub sound : IsSound (joined_under (row_under c) (row_under s))

-- what was met is s, and the device's head that of c
pub record IsMet (c s : Collection) (met : Met) : Type 0 where
  pub moment : met.meta.moment ≡ s.head.moment
  pub usn : met.meta.usn ≡ s.head.usn
  pub head : met.head ≡ c.head

-- a wire tells a log in which the sync of this asker is under way, over this collection and with these requests
abbrev pub IsReached : Asker → AccountState → Collection → List Ask → Option Log → Type 0
IsReached who account s asked told = (log : Log) × (told ≡ Some log)
    × IsUnderWay who.host.digits who.session.0 (requests_from who s.head.moment 1 asked) s account log

-- a sync with what was committed as s asked these after its meta, step by step, and nothing else. If the two may sync, that led to a place
pub record HasAsked {kind : WireKind} (c s : Collection) (account : AccountState) (asked : List Ask) (place : Place)
    (talk : Talk kind) : Type 0 where
  pub base : talk.envelopes.base ≡ s.head.moment
  pub step : talk.envelopes.step ≡ length asked
  pub reached : IsReached (asker talk.envelopes.ids) account s asked talk.wire.log
  pub placed : MaySync c s → place c s asked

-- and the device, which is marked at c, took what the replies brought, and settled what these sent and nothing else
pub record IsAt {kind : WireKind} (c s : Collection) (account : AccountState) (asked : List Ask) (place : Place)
    (keeping : Keeping) (talk : Talk kind) : Type 0 where
  pub has : HasAsked c s account asked place talk
  pub device : keeping ≡ changed (taken_and_settled s.head.usn (all_replied s asked) asked) (marked_at c)

-- a sync was left once it had asked these, a front of its plan if the two may sync
pub record IsLeft {kind : WireKind} (c s : Collection) (account : AccountState) (who : Asker) (asked : List Ask) (talk : Talk kind) : Type 0 where
  pub reached : IsReached who account s asked talk.wire.log
  pub front : MaySync c s → (rest : List Ask) × (asked ++ rest ≡ planned c s)

-- ---- parts
-- one side has at least ten million reviews, cards and notes to send
abbrev pub HasTenMillionRows : Collection → Collection → Type 0
HasTenMillionRows c s = (10_000_000 ≤ length (wanted_in_chunks (From c.head.usn) s.rows))
    ⊎ (10_000_000 ≤ length (wanted_in_chunks Unsent c.rows))

-- if the two may sync, and the server meets the protocol, a sanity check is bad only if the join of the two is not sound, and two counts
-- never differ there. There are too many chunks only if one side has ten million rows to send
abbrev pub IsFairStop : Collection → Collection → Stop → Type 0
IsFairStop c s (stops.BadRow fault) = IsSound (joined_under (row_under c) (row_under s)) → ⊥
IsFairStop c s (stops.BadCounts client server) = ⊥
IsFairStop c s stops.TooManyChunks = HasTenMillionRows c s
IsFairStop c s stop = ⊤

-- a part of a sync: what it asked, and that nothing of it commits; what the device took and settled, also if it stopped, unless it is half
-- done; and where keeper and wire tell what they hold, that it leads from one place of the plan to another. If it is refused, the
-- sync is left where it is
pub record Advances {kind : WireKind} {T : Type 0} (pulled pushed others : ℕ) (from to : Place) (met : Met)
    (before after : Keeping) (was now : Talk kind) (result : Result T Stop) : Type 0 where
  pub tries : List TriedAsk
  pub asked : AreAsked tries was now
  pub few : AreFew pulled pushed others (asks_in tries)
  pub granted : AreGranted tries result
  pub rows : AllByRecursion SendsRows (asks_in tries)
  pub plain : AllByRecursion (λ (ask : Ask). asks_commit ask ≡ false) (asks_in tries)
  pub ends : IfErr result (StopsFor tries now.wire)
  pub device : UnlessHalfDone tries result (HasExchanged met.meta.usn tries before after)
  pub leads : (c s : Collection) (account : AccountState) (earlier : List Ask) → IsMet c s met
      → IsAt c s account earlier from before was
      → IsLeft c s account (asker was.envelopes.ids) (earlier ++ asks_in tries) now
      × OnOk result (IsAt c s account (earlier ++ asks_in tries) to after now)
      × IfErr result (λ stop. MaySync c s → IsFairStop c s stop)

-- a number that is at most the requests that the graves need which were not sent yet: 250 go in each
abbrev pub AreGraveRequests : Keeping → ℕ → Type 0
AreGraveRequests keeping graves = WhereTold keeping (λ h. graves ≤ div_ceil (length (wanted_graves Unsent h.rows)) 250)

-- ---- all but the finish
-- what a sync asks between its meta and its finish, and what the device took and settled; and where keeper and wire tell what they hold, that
-- it was left in its plan, or that all of the plan but the finish was asked
pub record Exchanges {kind : WireKind} (met : Met) (before after : Keeping) (was now : Talk kind) (result : Result (Unit {0}) Stop) : Type 0 where
  pub tries : List TriedAsk
  pub asked : AreAsked tries was now
  -- at most 40,000 chunks each way; the start, the changes, the last chunk that is sent and the sanity check are others
  pub graves : ℕ
  pub graves_most : AreGraveRequests before graves
  pub few : AreFew 40_000 39_999 (4 + graves) (asks_in tries)
  pub granted : AreGranted tries result
  pub rows : AllByRecursion SendsRows (asks_in tries)
  pub plain : AllByRecursion (λ (ask : Ask). asks_commit ask ≡ false) (asks_in tries)
  pub ends : IfErr result (StopsFor tries now.wire)
  pub device : UnlessHalfDone tries result (HasExchanged met.meta.usn tries before after)
  pub leads : (c s : Collection) (account : AccountState) → IsMet c s met → IsAt c s account [] at_meta before was
      → IsLeft c s account (asker was.envelopes.ids) (asks_in tries) now
      × OnOk result (IsAt c s account (asks_in tries) HasPassedCheck after now)
      × IfErr result (λ stop. MaySync c s → IsFairStop c s stop)

-- ---- the finish
-- the finish of a sync that asked these after its meta
abbrev pub finish_after : Asker → Collection → List Ask → Request
finish_after who s before = request_at who s.head.moment (length before + 1) Finish

-- the session committed once: at the finish, which came after these, what they made of s; and it had no reason to refuse it
pub record HasCommitted {kind : WireKind} (c s : Collection) (account : AccountState) (who : Asker) (before : List Ask)
    (moment : ℤ) (talk : Talk kind) : Type 0 where
  pub log : Log
  pub told : talk.wire.log ≡ Some log
  pub at : ℤ
  pub after : Collection
  pub after_is : after ≡ closed s (requests_from who s.head.moment 1 before) (finish_after who s before) at
  pub only : commits_of who.session.0 (world_of who.host.digits account log).commits
      ≡ record { key = who.session.0; before = s; after = after } ∷ []
  pub allowed : refusal s (requests_from who s.head.moment 1 before) (finish_after who s before) ≡ None
  pub moment_is : moment ≡ after.head.moment

-- memory is told to have run out since the last step has no successor in 64 bits, and nothing was asked
pub record IsOutOfSteps {kind : WireKind} (was : Talk kind) (tries : List TriedAsk) (stop : Stop) : Type 0 where
  pub unasked : tries ≡ []
  pub last : was.envelopes.step + 1 ≡ 2 ^ 64
  pub memory : stop ≡ stops.Memory

-- a finish: what it asked; and where the wire tells its log, that the sync was left, or that its session committed. It stops only because no
-- step was left, so that it was not asked, or because it was not granted
pub record Finishes {kind : WireKind} (was now : Talk kind) (result : Result ℤ Stop) : Type 0 where
  pub tries : List TriedAsk
  pub asked : AreAsked tries was now
  pub few : AreFew 0 0 1 (asks_in tries)
  pub granted : AreGranted tries result
  pub rows : AllByRecursion SendsRows (asks_in tries)
  pub ends : IfErr result (StopsFor tries now.wire)
  pub late : IfErr result (λ stop. comes_before_finish stop ≡ false)
  pub why : IfErr result (λ stop. IsOutOfSteps was tries stop ⊎ StopsUnanswered tries stop)
  pub leads : (c s : Collection) (account : AccountState) (earlier : List Ask)
      → HasAsked c s account earlier HasPassedCheck was
      → IsLeft c s account (asker was.envelopes.ids) (earlier ++ asks_in tries) now
      × IfOk result (λ moment. (asks_in tries ≡ Finish ∷ [])
      × HasCommitted c s account (asker was.envelopes.ids) earlier moment now)

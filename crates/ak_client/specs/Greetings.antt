-- How a sync begins: what it tests once its meta was answered, and what it knows then.
use Rattle.std.specs.List.{AllByRecursion}
use Rattle.std.specs.Option.{option_map, option_or}
use Rattle.std.specs.Ordering.{int_eq}
use Rattle.std.specs.Prelude.{◌≡◌, ℤ, pos, ◌+ℤ◌, ◌<ℤ◌, ◌||◌, ◌&&◌, Bool, not, int_lt, if◌then◌else◌, List, [], ◌++◌, Option, Some, None, option_and_then, Result, Ok, Err, IfOk, IfErr, ◌⊎◌}
use Rattle.ak_base.specs.Limits.{last_head_usn}
use Rattle.ak_base.specs.declared.heads.Head.{Head}
use Rattle.ak_client.specs.Outcomes.{outcome_at}
use Rattle.ak_client.specs.Unsent.{has_unsent}
use Rattle.ak_client.specs.declared.outcomes.Outcome.{Outcome}
use Rattle.ak_client.specs.declared.outcomes.Outcome.TheVariants as outcomes
use Rattle.ak_client_wire.specs.Forms.{meta_in}
use Rattle.ak_client_wire.specs.Tries.{Answered}
use Rattle.ak_client_wire.specs.Wires.{WireKind, WireState}
use Rattle.ak_client_wire.specs.declared.asks.Unanswered.{Unanswered}
use Rattle.ak_client_wire.specs.declared.wires.MetaSaid.{MetaSaid}
use Rattle.ak_exchange.specs.Asked.{asker}
use Rattle.ak_exchange.specs.Stops.{keep_stop, wire_stop}
use Rattle.ak_exchange.specs.declared.envelopes.Ids.{Ids}
use Rattle.ak_exchange.specs.declared.envelopes.Met.{Met}
use Rattle.ak_faults.specs.Causes.{Health}
use Rattle.ak_io.specs.Arrivals.{GivesNext}
use Rattle.ak_keep.specs.Collections.{Collection, Holding, Rows}
use Rattle.ak_keep.specs.Keepers.{IsRightlyKnown, Keeping, WhereTold}
use Rattle.ak_keep.specs.declared.keepers.KeepFault.{KeepFault}
use Rattle.ak_merge.specs.Edits.{second_of}
use Rattle.ak_merge.specs.Soundness.{first_fault}
use Rattle.ak_merge.specs.declared.checks.CheckFault.{CheckFault}
use Rattle.ak_messages.specs.declared.requests.Ask.TheVariants as asks
use Rattle.ak_messages.specs.declared.requests.Request.{Request}
use Rattle.ak_protocol.specs.Accounts.{AccountState}
use Rattle.ak_protocol.specs.Logs.{Event, Log, IsTimely, with_growth}
use Rattle.ak_protocol.specs.Syncs.{IsUnderWay, IsUnused, world_of}
use Rattle.ak_session.specs.Plans.{Asker}

-- ---- the meta, and the tests of what it says
-- the request that begins a sync
abbrev pub meta_of : Ids → Request
meta_of ids = record { host = ids.host; session = ids.session; step = 0; base = pos 0; ask = asks.Meta }

-- two clocks, in seconds, are over 300 seconds apart
abbrev pub are_far_apart : ℤ → ℤ → Bool
are_far_apart one other = int_lt (other +ℤ pos 300) one || int_lt (one +ℤ pos 300) other

-- why a sync ends at a meta, by the device's clock in seconds: the server does not let it go on, or the clocks are far apart
abbrev pub clock_stop : MetaSaid → ℤ → Option Outcome
clock_stop meta second =
    if not meta.cont then Some outcomes.Stopped
    else if are_far_apart second meta.ts then Some (outcomes.ClockOff second meta.ts)
    else None

-- whether the moments, the schema moments and the usns of device and server are equal
abbrev pub have_equal_heads : MetaSaid → Head → Bool
have_equal_heads meta head = int_eq head.moment meta.moment && int_eq head.schema meta.scm && int_eq head.usn meta.usn

-- whether there is nothing to sync: the heads are equal so, and the device, which holds these rows, has nothing to send
abbrev pub is_unchanged : MetaSaid → Head → Rows → Bool
is_unchanged meta head held = have_equal_heads meta head && not (has_unsent held head.tags)

-- why it ends by the two heads: there is nothing to sync, or the whole collection has to be sent
abbrev pub head_stop : MetaSaid → Head → Bool → Option Outcome
head_stop meta head unchanged =
    if unchanged then Some outcomes.NoChanges
    else if not (int_eq head.schema meta.scm) then Some (outcomes.FullSchema head.schema meta.scm)
    else if int_eq meta.usn last_head_usn then Some (outcomes.FullSequence meta.usn)
    else None

-- why it ends by the device, once the server and the clocks let it go on: by the two heads, or else by the first fault of its own rows
abbrev pub device_stop : MetaSaid → Holding → Option Outcome
device_stop meta h = option_and_then (λ (head : Head). option_or (head_stop meta head (is_unchanged meta head h.rows))
    (option_map (λ (fault : CheckFault). outcomes.OwnCheck fault) (first_fault h.rows))) h.head

-- ---- why a greeting ends
-- what a greeting finds on a device: this head, and whether there is nothing to sync
pub record Finds (meta : MetaSaid) (head : Head) (unchanged : Bool) (h : Holding) : Type 0 where
  pub holds : h.head ≡ Some head
  pub tells : unchanged ≡ is_unchanged meta head h.rows

-- the same of a keeper that tells what it holds, which is well formed
pub record FindsTold (meta : MetaSaid) (head : Head) (unchanged : Bool) (keeping : Keeping) : Type 0 where
  pub known : IsRightlyKnown keeping
  pub told : WhereTold keeping (Finds meta head unchanged)

-- once the clocks let it go on: the keeper refused; or what it finds does not let it; or else the device's rows are not sound
abbrev pub EndsAtDevice : MetaSaid → Keeping → Outcome → Type 0
EndsAtDevice meta keeping outcome =
    ((fault : KeepFault) × (outcome ≡ outcome_at (keep_stop fault)))
    ⊎ ((head : Head) × (unchanged : Bool) × FindsTold meta head unchanged keeping
    × ((head_stop meta head unchanged ≡ Some outcome)
    ⊎ ((head_stop meta head unchanged ≡ None) × ((fault : CheckFault) × (outcome ≡ outcomes.OwnCheck fault)
    × WhereTold keeping (λ h. first_fault h.rows ≡ Some fault)))))

-- the meta was not granted; or the server or the clocks, by the moment that the clock gave, do not let it go on; or else the device does not
abbrev pub EndsGreeting : Result MetaSaid Unanswered → Option (List ℤ) → Option (List ℤ) → Keeping → Outcome → Type 0
EndsGreeting (Err why) to_come_before to_come keeping outcome = outcome ≡ outcome_at (wire_stop why)
EndsGreeting (Ok meta) to_come_before to_come keeping outcome = (at : ℤ) × GivesNext to_come_before to_come at
    × ((clock_stop meta (second_of at) ≡ Some outcome)
    ⊎ ((clock_stop meta (second_of at) ≡ None) × EndsAtDevice meta keeping outcome))

-- what a greeting heard, over any keeper and wire, and why it ended
pub record IsGreeting {kind : WireKind} (ids : Ids) (health_before health_now : Health) (old now : WireState kind)
    (to_come_before to_come : Option (List ℤ)) (keeping : Keeping) (result : Result Met Outcome) : Type 0 where
  pub answer : Result MetaSaid Unanswered
  pub heard : Answered health_before health_now old now (meta_of ids) meta_in answer
  pub goes_on : IfOk result (λ met. answer ≡ Ok met.meta)
  pub ends : IfErr result (EndsGreeting answer to_come_before to_come keeping)

-- ---- what a greeting leaves
-- the meta of a sync was answered over s, which was committed at a place of what came to the account meanwhile; from there on the sync is
-- under way, and nothing was asked after the meta
pub record IsMetOver (who : Asker) (account : AccountState) (old now : Log) (s : Collection) : Type 0 where
  pub front : List Event
  pub rest : List Event
  pub grown : now ≡ with_growth old (front ++ rest)
  pub timely : AllByRecursion IsTimely (front ++ rest)
  pub place : (world_of who.host.digits account (with_growth old front)).state.committed ≡ s
  pub under_way : IsUnderWay who.host.digits who.session.0 [] s account now

-- what a meta said is what this collection's head tells
pub record IsMetBy (meta : MetaSaid) (s : Collection) : Type 0 where
  pub moment : meta.moment ≡ s.head.moment
  pub schema : meta.scm ≡ s.head.schema
  pub usn : meta.usn ≡ s.head.usn

-- what a greeting knows of the server: its key is unused still, but for metas; and if the sync may go on, over what its meta was answered
pub record Greets (ids : Ids) (account : AccountState) (old now : Log) (result : Result Met Outcome) : Type 0 where
  pub unused : IsUnused ids.host.digits ids.session.0 account now
  pub met : IfOk result (λ met. (s : Collection) × IsMetOver (asker ids) account old now s × IsMetBy met.meta s)

-- the same wherever the wire tells a log in which nothing but metas has the session key
abbrev pub GreetsTold : Ids → Option Log → Option Log → Result Met Outcome → Type 0
GreetsTold ids told_before told_now result = (account : AccountState) (old : Log) → told_before ≡ Some old
    → IsUnused ids.host.digits ids.session.0 account old
    → (now : Log) × (told_now ≡ Some now) × Greets ids account old now result

-- what a greeting knows of the device once the sync may go on: the head that it holds, and that it may sync by the meta
pub record IsReady (h : Holding) (met : Met) : Type 0 where
  pub head : h.head ≡ Some met.head
  pub pass : head_stop met.meta met.head (is_unchanged met.meta met.head h.rows) ≡ None
  pub schema : met.head.schema ≡ met.meta.scm
  pub number : met.meta.usn <ℤ last_head_usn
  pub sound : first_fault h.rows ≡ None

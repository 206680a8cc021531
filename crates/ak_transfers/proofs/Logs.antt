-- What the log of a wire shows of a transfer, whichever it is.
use Rattle.std.specs.List.{AllByRecursion}
use Rattle.std.specs.Prelude.{◌≡◌, ℕ, ℤ, true, List, [], ◌∷◌, ◌++◌, Option, Some, Result, Ok, IfOk}
use Rattle.std.proofs.Common.{sym, ap, subst, ◌∙◌, inl, inr, append_assoc, arith}
use Rattle.std.proofs.lemmas.Option.{same_Some}
use Rattle.ak_client.proofs.Clocks.{not_finished}
use Rattle.ak_client.proofs.Growing.{commits_grown, timely_growth}
use Rattle.ak_client.proofs.Greeting.{greeted}
use Rattle.ak_client.proofs.Testing.{clock_told}
use Rattle.ak_client.specs.Greetings.{IsMetBy, IsMetOver, clock_stop, meta_of}
use Rattle.ak_client.specs.Outcomes.{is_told_by_meta, outcome_at}
use Rattle.ak_client.specs.Syncs.{IsCommittedIn, world_at}
use Rattle.ak_client.specs.declared.outcomes.Outcome.{Outcome}
use Rattle.ak_client.specs.declared.outcomes.Outcome.TheVariants as outcomes
use Rattle.ak_exchange.specs.Asked.{asker}
use Rattle.ak_exchange.specs.declared.envelopes.Ids.{Ids}
use Rattle.ak_exchange.specs.declared.stops.Stop.{Stop}
use Rattle.ak_faults.specs.Causes.{Health}
use Rattle.ak_keep.specs.Collections.{Collection}
use Rattle.ak_messages.specs.declared.replies.Reply.{Reply}
use Rattle.ak_messages.specs.declared.requests.Request.{Request}
use Rattle.ak_protocol.proofs.Commits.{not_both}
use Rattle.ak_protocol.proofs.Syncs.{all_append, events_leave_unused, unused_keys_commit_nothing}
use Rattle.ak_protocol.specs.Accounts.{AccountState}
use Rattle.ak_protocol.specs.Commits.{CommitsGrow}
use Rattle.ak_protocol.specs.Logs.{Event, View, Asked, Log, Grows, IsTimely, commits_of, events_of, with_growth}
use Rattle.ak_protocol.specs.Sessions.{IsMetaOrOther, IsOfSync, IsOwnOrOther}
use Rattle.ak_protocol.specs.Syncs.{IsUnused}
use Rattle.ak_session.specs.Plans.{Asker}
use Rattle.ak_session.specs.Requests.{is_meta}
use Rattle.ak_transfers.specs.Transfers.{Grew}
use Rattle.ak_client_wire.specs.Forms.{meta_in}
use Rattle.ak_client_wire.specs.Tries.{Answered}
use Rattle.ak_client_wire.specs.Wires.{WireKind, Carries, WireState}
use Rattle.ak_client_wire.specs.declared.asks.Unanswered.{Unanswered}
use Rattle.ak_client_wire.specs.declared.wires.MetaSaid.{MetaSaid}
use Rattle.ak_client_wire.specs.declared.wires.WireEnd.{WireEnd}

-- ---- outcomes
pub unfinished : (outcome : Outcome) (stop : Stop) → outcome ≡ outcome_at stop → outcome ≡ outcomes.Finished → ⊥
unfinished outcome stop is finished = not_finished stop (sym is ∙ finished)

-- nor did one that the server or the clocks ended
pub clocks_unfinished : (outcome why : Outcome) (said : MetaSaid) (second : ℤ) → clock_stop said second ≡ Some why → outcome ≡ why → outcome ≡ outcomes.Finished → ⊥
clocks_unfinished outcome why said second so is finished = not_both (clock_told said second why so) (ap is_told_by_meta (sym is ∙ finished))

pub other_than_finished : (outcome other : Outcome) → (other ≡ outcomes.Finished → ⊥) → outcome ≡ other → outcome ≡ outcomes.Finished → ⊥
other_than_finished outcome other differ is finished = differ (sym is ∙ finished)

-- ---- the growth
-- the log of a wire that tells it grew in a call
pub carried : (told now : Option Log) (request : Request) (result : Result Reply WireEnd) (log : Log) → told ≡ Some log
    → Carries told now request result → (new : Log) × (now ≡ Some new) × Grows log new request result
carried told now request result log is carries = subst (λ (o : Option Log). Carries o now request result) is carries

-- what is told twice is one log
pub one_log : (told : Option Log) (one other : Log) → told ≡ Some one → told ≡ Some other → one ≡ other
one_log told one other is so = same_Some one other (sym is ∙ so)

pub grew_by : (who : Asker) (account : AccountState) (old now : Log) (growth : List Event) → now ≡ with_growth old growth
    → AllByRecursion IsTimely growth → Grew who account old now growth
grew_by who account old now growth is timely = record {
  grown = is;
  timely = timely;
  server = subst (λ (log : Log). CommitsGrow (world_at who account old) (world_at who account log)) (sym is) (commits_grown who account old growth);
}

pub grew_once : (who : Asker) (account : AccountState) (old now : Log) (request : Request) (result : Result Reply WireEnd)
    → (grows : Grows old now request result) → Grew who account old now grows.growth
grew_once who account old now request result grows =
    grew_by who account old now grows.growth grows.grown (timely_growth old.events request grows.growth grows.may)

-- it grew up to the meta, and then once more
pub grown_twice : (old mid now : Log) (one two : List Event) → mid ≡ with_growth old one → now ≡ with_growth mid two → now ≡ with_growth old (one ++ two)
grown_twice old mid now one two first second =
    second
    ∙ ap (λ (log : Log). with_growth log two) first
    ∙ ap (λ (events : List Event). record old { events = events }) (append_assoc old.events one two)

module _ (who : Asker) (account : AccountState) (old mid now : Log) (s : Collection) (over : IsMetOver who account old mid s)
    (request : Request) (result : Result Reply WireEnd) (grows : Grows mid now request result) where
  pub grew_on : Grew who account old now ((over.front ++ over.rest) ++ grows.growth)
  grew_on =
      grew_by who account old now ((over.front ++ over.rest) ++ grows.growth)
      (grown_twice old mid now (over.front ++ over.rest) grows.growth over.grown grows.grown)
      (all_append IsTimely (over.front ++ over.rest) grows.growth over.timely (timely_growth mid.events request grows.growth grows.may))

  pub met_in : IsCommittedIn who account old ((over.front ++ over.rest) ++ grows.growth) s
  met_in = record {
    front = over.front;
    rest = over.rest ++ grows.growth;
    parts = append_assoc over.front over.rest grows.growth;
    place = over.place;
  }

-- ---- a session key that nothing but metas has
no_place : (before : List Request) (request : Request) (after : List Request) → before ++ request ∷ after ≡ [] → ⊥
no_place [] request after is = grind (arith, is)
no_place (first ∷ more) request after is = grind (arith, is)

only_metas : (key : ℕ) (base : ℤ) (event : Event) → IsOwnOrOther key [] base event → IsMetaOrOther key event
only_metas key base (View host) may = tt
only_metas key base (Asked request now setback) may = λ own. by (may own)
  where
    by : IsOfSync [] base request → is_meta request.ask ≡ true
    by (inl meta) = meta
    by (inr at) = absurd (no_place at.before request at.after at.place)

each_only_metas : (key : ℕ) (base : ℤ) (events : List Event) → AllByRecursion (IsOwnOrOther key [] base) events → AllByRecursion (IsMetaOrOther key) events
each_only_metas key base [] all = tt
each_only_metas key base (event ∷ more) all = (only_metas key base event all.0, each_only_metas key base more all.1)

-- it commits nothing, whatever comes later but requests with it
pub unused_later : (who : Asker) (account : AccountState) (now : Log) → IsUnused who.host.digits who.session.0 account now → (base : ℤ)
    → (later : List Event) → AllByRecursion (IsOwnOrOther who.session.0 [] base) (events_of who.host.digits later)
    → commits_of who.session.0 (world_at who account (with_growth now later)).commits ≡ []
unused_later who account now unused base later own =
    unused_keys_commit_nothing who.host.digits who.session.0 account (with_growth now later)
    (events_leave_unused who.host.digits who.session.0 account now unused later
    (each_only_metas who.session.0 base (events_of who.host.digits later) own))

-- ---- the meta
-- what a meta leaves of the log: the session key is unused still, and if it was granted, over which collection it was answered
pub record Met (ids : Ids) (account : AccountState) (old mid : Log) (answer : Result MetaSaid Unanswered) : Type 0 where
  pub unused : IsUnused ids.host.digits ids.session.0 account mid
  pub over : IfOk answer (λ (said : MetaSaid). (s : Collection) × IsMetOver (asker ids) account old mid s × IsMetBy said s)

pub met_by : {kind : WireKind} (ids : Ids) (account : AccountState) (old mid : Log) (before after : Health) (was is : WireState kind) (answer : Result MetaSaid Unanswered)
    → IsUnused ids.host.digits ids.session.0 account old → was.log ≡ Some old → is.log ≡ Some mid
    → Answered before after was is (meta_of ids) meta_in answer → Met ids account old mid answer
met_by ids account old mid before after was is answer unused told tells call =
    let great = greeted ids account old unused before after was is answer told call in
    subst (λ (log : Log). Met ids account old log answer) (one_log is.log great.0 mid great.1 tells)
    (record { unused = great.2; over = great.3 })

-- a meta that said this
pub met_said : (ids : Ids) (account : AccountState) (old mid : Log) (answer : Result MetaSaid Unanswered) (said : MetaSaid) → answer ≡ Ok said
    → Met ids account old mid answer → (s : Collection) × IsMetOver (asker ids) account old mid s × IsMetBy said s
met_said ids account old mid answer said is met =
    subst (λ (r : Result MetaSaid Unanswered). IfOk r (λ (it : MetaSaid). (s : Collection) × IsMetOver (asker ids) account old mid s × IsMetBy it s)) is met.over

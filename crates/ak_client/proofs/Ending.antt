-- How a sync that went on after its meta ends.
use Rattle.std.specs.Option.{option_map}
use Rattle.std.specs.Prelude.{◌≡◌, ◌≢◌, ℕ, ℤ, pos, ◌+◌, ◌≤◌, ◌+ℤ◌, Bool, true, false, is_some, List, [], ◌∷◌, ◌++◌, length, Option, Some, None, IfSome, Result, Ok, Err, IfOk, IfErr, ◌⊎◌}
use Rattle.std.specs.Int.{div_ceil}
use Rattle.std.proofs.Common.{refl, sym, ap, subst, ◌∙◌, append-nil, inl, inr, arith}
use Rattle.std.proofs.lemmas.Result.{IfErr-weaker, IfOk-weaker}
use Rattle.ak_client.proofs.Clocks.{fault_ends, fault_fair, fault_not_early, finished_fair, late_fair, not_early, not_finished, stop_ends, stop_fair, stop_told, unanswered_good}
use Rattle.ak_client.proofs.Committing.{ended}
use Rattle.ak_client.specs.Endings.{Ended, Ends, Exchanged, ExchangesAll, IsGranted, StopsBeforeCommit}
use Rattle.ak_client.specs.Outcomes.{EndsFor, is_told_by_meta, outcome_at}
use Rattle.ak_client.specs.Syncs.{ArePlain, EndsAt, LacksMemoryEarly, ends_before_finish}
use Rattle.ak_client.specs.declared.outcomes.Outcome.{Outcome}
use Rattle.ak_client.specs.declared.outcomes.Outcome.TheVariants as outcomes
use Rattle.ak_client_wire.specs.Wires.{WireKind, WireState}
use Rattle.ak_client_wire.specs.declared.asks.Unanswered.{Unanswered}
use Rattle.ak_client_wire.specs.declared.asks.Unanswered.TheVariants as unanswered
use Rattle.ak_device.proofs.Receiving.{received_nothing}
use Rattle.ak_exchange.proofs.Stopping.{bad_check_granted, ends_then, granted_but_last, granted_then, part_stops, rows_then}
use Rattle.ak_exchange.proofs.Tried.{asked_then, asks_append, few_more, few_none, few_then}
use Rattle.ak_exchange.specs.Asked.{Talk, TriedAsk, asker, asks_in}
use Rattle.ak_exchange.specs.Grants.{AllGranted, EndsUnanswered, StopsUnanswered}
use Rattle.ak_exchange.specs.Phases.{AreGraveRequests, Exchanges, Finishes, HasCommitted, IsFairStop, IsAt, IsLeft, IsMet, IsOutOfSteps, IsReached, at_meta, holding, marked_at}
use Rattle.ak_exchange.specs.Stops.{comes_before_finish, keep_stop, shows_bad_check, wire_stop}
use Rattle.ak_exchange.specs.declared.envelopes.Envelopes.{Envelopes}
use Rattle.ak_exchange.specs.declared.envelopes.Ids.{Ids}
use Rattle.ak_exchange.specs.declared.envelopes.Met.{Met}
use Rattle.ak_exchange.specs.declared.stops.Stop.{Stop}
use Rattle.ak_faults.specs.Causes.{Health}
use Rattle.ak_keep.specs.Collections.{Collection, Holding}
use Rattle.ak_keep.specs.Keepers.{Keeping, committed, marked_here, moments_set}
use Rattle.ak_keep.specs.Marks as marks
use Rattle.ak_keep.specs.Marks.{WithMark}
use Rattle.ak_keep.specs.declared.keepers.KeepFault.{KeepFault}
use Rattle.ak_keep.specs.declared.keepers.KeepFault.TheVariants as faults
use Rattle.ak_keep.specs.declared.keepers.Wanted.TheVariants.{Unsent}
use Rattle.ak_messages.specs.declared.requests.Ask.{Ask}
use Rattle.ak_messages.specs.declared.requests.Ask.TheVariants.{Finish}
use Rattle.ak_protocol.proofs.Commits.{not_both}
use Rattle.ak_protocol.specs.Accounts.{AccountState}
use Rattle.ak_session.specs.Plans.{planned}
use Rattle.ak_session.specs.Sessions.{MaySync}
use Rattle.ak_session.specs.Slices.{wanted_graves}

-- ---- the requests for graves
if_any : {T : Type 0} (o : Option T) (P : T → Type 0) → ((x : T) → P x) → IfSome o P
if_any None P all = tt
if_any (Some x) P all = all x

pub no_graves : (keeping : Keeping) → AreGraveRequests keeping 0
no_graves keeping = if_any keeping.told (λ w. 0 ≤ div_ceil (length (wanted_graves Unsent w.current.rows)) 250) (λ w. omega arith)

-- a mark changes nothing that is held
pub graves_marked : (keeping : Keeping) (graves : ℕ) → AreGraveRequests (marked_here keeping) graves → AreGraveRequests keeping graves
graves_marked keeping graves = by keeping.told
  where
    by : (told : Option (WithMark Holding))
        → IfSome (option_map marks.marked_here told) (λ (w : WithMark Holding). graves ≤ div_ceil (length (wanted_graves Unsent w.current.rows)) 250)
        → IfSome told (λ (w : WithMark Holding). graves ≤ div_ceil (length (wanted_graves Unsent w.current.rows)) 250)
    by None most = tt
    by (Some w) most = most

-- ---- out of memory
abbrev is_memory : Outcome → Bool
is_memory outcomes.Memory = true
is_memory outcome = false

-- a finished sync did not run out of memory
finished_spares : outcomes.Finished ≡ outcomes.Memory → ⊥
finished_spares is = not_both (ap is_memory is) refl

-- a sync ran out of memory at a fault of the keeper only if that was the fault
memory_fault : (fault : KeepFault) → outcome_at (keep_stop fault) ≡ outcomes.Memory → fault ≡ faults.Memory
memory_fault faults.Failed is = absurd (not_both (ap is_memory is) refl)
memory_fault faults.Memory is = refl

-- and at a request that was not granted only if the wire answered so
memory_unanswered : (tries : List TriedAsk) (why : Unanswered) → outcome_at (wire_stop why) ≡ outcomes.Memory → EndsUnanswered tries why
    → EndsUnanswered tries unanswered.Memory
memory_unanswered tries unanswered.Lost is ends = absurd (not_both (ap is_memory is) refl)
memory_unanswered tries unanswered.BadReply is ends = absurd (not_both (ap is_memory is) refl)
memory_unanswered tries (unanswered.Refused status word seen) is ends = absurd (not_both (ap is_memory is) refl)
memory_unanswered tries unanswered.Memory is ends = ends

-- so it ran out of memory early, if it stopped before its commit
memory_early : (tries : List TriedAsk) (stop : Stop) → StopsBeforeCommit tries stop → outcome_at stop ≡ outcomes.Memory → LacksMemoryEarly tries
memory_early tries stop (inl plain) is = inl plain
memory_early tries stop (inr (why, same, ends)) is = inr (memory_unanswered tries why (sym (ap outcome_at same) ∙ is) ends)

-- a sync that stopped so at a bad sanity check had not asked its finish
bad_plain : (tries : List TriedAsk) (stop : Stop) → StopsBeforeCommit tries stop → shows_bad_check stop ≡ true → ArePlain (asks_in tries)
bad_plain tries stop (inl plain) bad = plain
bad_plain tries stop (inr (why, same, ends)) bad = absurd (not_both (sym (ap shows_bad_check same) ∙ bad) (unanswered_good why))

-- a finish after plain requests stops before the commit
before_commit : {kind : WireKind} {T : Type 0} (was : Talk kind) (before tries : List TriedAsk) (result : Result T Stop) → ArePlain (asks_in before)
    → IfErr result (λ (stop : Stop). IsOutOfSteps was tries stop ⊎ StopsUnanswered tries stop) → IfErr result (StopsBeforeCommit (before ++ tries))
before_commit was before tries (Ok x) plain why = tt
before_commit was before tries (Err stop) plain (inl out) =
    inl (subst (λ (l : List TriedAsk). ArePlain (asks_in l)) (sym (ap (λ (l : List TriedAsk). before ++ l) out.unasked ∙ append-nil before)) plain)
before_commit was before tries (Err stop) plain (inr (why, same, ends)) = inr (why, same, ends_then before tries why ends)

-- ---- up to the finish
module _ {kind : WireKind} (ids : Ids) (met : Met) (before mid : Keeping) (h0 h1 h2 : Health) (w0 w1 w2 : WireState kind) (envelopes last : Envelopes) where
  abbrev was : Talk kind
  was = record { health = h0; wire = w0; envelopes = record { ids = ids; base = met.meta.moment; step = 0 } }

  abbrev between : Talk kind
  between = record { health = h1; wire = w1; envelopes = envelopes }

  abbrev now : Talk kind
  now = record { health = h2; wire = w2; envelopes = last }

  -- at the meta
  at_start : (c s : Collection) (account : AccountState) → IsMet c s met → IsReached (asker ids) account s [] w0.log → before ≡ marked_at c
      → IsAt c s account [] at_meta before was
  at_start c s account is_met reached marked = record {
    has = record { base = is_met.moment; step = refl; reached = reached; placed = λ may. refl };
    device = marked ∙ received_nothing s.head.usn (marked_at c);
  }

  -- the exchange stopped
  pub stopped : (stop : Stop) → Exchanges met before mid was between (Err stop) → ExchangesAll ids met before mid h0 h1 w0 w1 (Err stop)
  stopped stop ex = record {
    tries = ex.tries;
    tried = ex.asked.tried;
    granted = ex.granted;
    graves = ex.graves;
    graves_most = ex.graves_most;
    few = few_more (asks_in ex.tries) 40_000 39_999 (4 + ex.graves) 40_000 39_999 (5 + ex.graves) (omega arith) (omega arith) (omega arith) ex.few;
    rows = ex.rows;
    ends = (ex.granted, ex.ends, inl ex.plain);
    told = λ c s account is_met reached marked.
        let led = ex.leads c s account is_met (at_start c s account is_met reached marked) in
        record {
          shown = record { reached = led.0.reached; front = led.0.front };
          early = λ early. ex.plain;
          granted = tt;
          fair = led.2;
        };
  }

  -- the finish was asked
  pub asked_all : (result : Result ℤ Stop) (done : Unit {0}) → Exchanges met before mid was between (Ok done) → Finishes between now result
      → ExchangesAll ids met before mid h0 h2 w0 w2 result
  asked_all result done ex fin = record {
    tries = ex.tries ++ fin.tries;
    tried = (asked_then ex.tries fin.tries was between now ex.asked fin.asked).tried;
    granted = granted_but_last (ex.tries ++ fin.tries) result (granted_then ex.tries fin.tries result ex.granted fin.granted);
    graves = ex.graves;
    graves_most = ex.graves_most;
    few = few_more (asks_in (ex.tries ++ fin.tries)) 40_000 39_999 (4 + ex.graves + 1) 40_000 39_999 (5 + ex.graves) (omega arith) (omega arith) (omega arith)
        (few_then ex.tries fin.tries 40_000 39_999 (4 + ex.graves) 0 0 1 ex.few fin.few);
    rows = rows_then ex.tries fin.tries ex.rows fin.rows;
    ends = (
      granted_then ex.tries fin.tries result ex.granted fin.granted,
      part_stops ex.tries fin.tries w2 result ex.granted fin.ends,
      before_commit between ex.tries fin.tries result ex.plain fin.why,
    );
    told = λ c s account is_met reached marked.
        let led = ex.leads c s account is_met (at_start c s account is_met reached marked) in
        let end : IsLeft c s account (asker ids) (asks_in ex.tries ++ asks_in fin.tries) now
        × IfOk result (λ (moment : ℤ). (asks_in fin.tries ≡ Finish ∷ []) × HasCommitted c s account (asker ids) (asks_in ex.tries) moment now) =
        subst (λ (e : Envelopes). IsLeft c s account (asker e.ids) (asks_in ex.tries ++ asks_in fin.tries) now
        × IfOk result (λ (moment : ℤ). (asks_in fin.tries ≡ Finish ∷ []) × HasCommitted c s account (asker e.ids) (asks_in ex.tries) moment now))
        ex.asked.envelopes (fin.leads c s account (asks_in ex.tries) led.1.has) in
        subst (λ (asks : List Ask). Exchanged c s account (asker ids) asks w2.log mid result) (sym (asks_append ex.tries fin.tries)) (record {
          shown = record { reached = end.0.reached; front = end.0.front };
          early = IfErr-weaker result (λ (stop : Stop). comes_before_finish stop ≡ false)
              (λ (stop : Stop). ends_before_finish (outcome_at stop) ≡ true → ArePlain (asks_in ex.tries ++ asks_in fin.tries))
              (λ stop late early. absurd (not_early stop late early)) fin.late;
          granted = IfOk-weaker result (λ (moment : ℤ). (asks_in fin.tries ≡ Finish ∷ []) × HasCommitted c s account (asker ids) (asks_in ex.tries) moment now)
              (λ (moment : ℤ). IsGranted c s account (asker ids) (asks_in ex.tries ++ asks_in fin.tries) w2.log mid moment)
              (λ moment one. record {
                after = one.1.after;
                committed = record { log = one.1.log; is = one.1.told; only = one.1.only };
                moment_is = one.1.moment_is;
                asked = asks_in ex.tries;
                asks_are = ap (λ (l : List Ask). asks_in ex.tries ++ l) one.0;
                passed = led.1.has.placed;
                device = led.1.device;
              }) end.1;
          fair = IfErr-weaker result (λ (stop : Stop). comes_before_finish stop ≡ false) (λ (stop : Stop). MaySync c s → IsFairStop c s stop)
              (λ stop late may. late_fair c s stop late) fin.late;
        });
  }

-- ---- up to the end
-- a device that could not be marked asked nothing
pub asked_nothing : {kind : WireKind} (spares : Bool) (ids : Ids) (met : Met) (before left : Keeping) (h : Health) (w : WireState kind) (fault : KeepFault)
    → Ends spares ids met before left h h w w (outcome_at (keep_stop fault))
asked_nothing spares ids met before left h w fault = record {
  tries = [];
  tried = (refl, refl);
  granted = tt;
  graves = 0;
  graves_most = no_graves before;
  few = few_none 40_000 39_999 (5 + 0);
  rows = tt;
  ends = (λ is. tt, fault_ends [] w fault tt, stop_told (keep_stop fault), λ spared is. inl tt);
  told = λ c s account is_met reached holds. record {
    shown = record { reached = reached; front = λ may. (planned c s, refl) };
    early = λ early. tt;
    finished = λ is. absurd (not_finished (keep_stop fault) is);
    fair = λ may. fault_fair c s fault;
  };
}

module _ {kind : WireKind} (spares : Bool) (ids : Ids) (met : Met) (before marked mid left : Keeping) (h0 h1 : Health) (w0 w1 : WireState kind) (marks_it : marked ≡ marked_here before) where
  marked_so : (c : Collection) → before ≡ holding c → marked ≡ marked_at c
  marked_so c is = marks_it ∙ ap marked_here is

  abbrev Leaves : Outcome → Collection → Collection → AccountState → List Ask → Type 0
  Leaves outcome c s account asks = before ≡ holding c → Ended c s account (asker ids) asks w1.log left outcome

  ends_with : (result : Result ℤ Stop) (outcome : Outcome) → (ex : ExchangesAll ids met marked mid h0 h1 w0 w1 result)
      → (outcome ≡ outcomes.Finished → AllGranted ex.tries) × EndsAt ex.tries w1 outcome × (is_told_by_meta outcome ≡ false)
      × (spares ≡ true → outcome ≡ outcomes.Memory → LacksMemoryEarly ex.tries)
      → ((c s : Collection) (account : AccountState) → IsMet c s met → Exchanged c s account (asker ids) (asks_in ex.tries) w1.log mid result
      → Ended c s account (asker ids) (asks_in ex.tries) w1.log left outcome)
      → Ends spares ids met before left h0 h1 w0 w1 outcome
  ends_with result outcome ex ends so = record {
    tries = ex.tries;
    tried = ex.tried;
    granted = ex.granted;
    graves = ex.graves;
    graves_most = graves_marked before ex.graves (subst (λ (k : Keeping). AreGraveRequests k ex.graves) marks_it ex.graves_most);
    few = ex.few;
    rows = ex.rows;
    ends = ends;
    told = λ c s account is_met reached holds. so c s account is_met (ex.told c s account is_met reached (marked_so c holds));
  }

  -- a sync that stopped ends for that reason, or because of a keeper's fault after it
  pub ends_stopped : (stop : Stop) (outcome : Outcome) → ExchangesAll ids met marked mid h0 h1 w0 w1 (Err stop) → EndsFor stop outcome
      → Ends spares ids met before left h0 h1 w0 w1 outcome
  ends_stopped stop outcome ex (inl same) =
      subst (λ (o : Outcome). Ends spares ids met before left h0 h1 w0 w1 o) (sym same)
      (ends_with (Err stop) (outcome_at stop) ex (
        λ is. absurd (not_finished stop is),
        stop_ends ex.tries w1 stop ex.ends.1,
        stop_told stop,
        λ spared out. memory_early ex.tries stop ex.ends.2 out,
      ) (λ c s account is_met it. record {
        shown = it.shown;
        early = it.early;
        finished = λ is. absurd (not_finished stop is);
        fair = λ may. stop_fair c s stop (it.fair may);
      }))
  ends_stopped stop outcome ex (inr (fault, bad, same)) =
      subst (λ (o : Outcome). Ends spares ids met before left h0 h1 w0 w1 o) (sym same)
      (ends_with (Err stop) (outcome_at (keep_stop fault)) ex (
        λ is. absurd (not_finished (keep_stop fault) is),
        fault_ends ex.tries w1 fault (bad_check_granted ex.tries w1 stop bad ex.granted ex.ends.1),
        stop_told (keep_stop fault),
        λ spared out. inl (bad_plain ex.tries stop ex.ends.2 bad),
      ) (λ c s account is_met it. record {
        shown = it.shown;
        early = λ early. absurd (fault_not_early fault early);
        finished = λ is. absurd (not_finished (keep_stop fault) is);
        fair = λ may. fault_fair c s fault;
      }))

  -- the device's commit was refused
  pub ends_refused : (moment : ℤ) (fault : KeepFault) → (spares ≡ true → fault ≢ faults.Memory) → ExchangesAll ids met marked mid h0 h1 w0 w1 (Ok moment)
      → Ends spares ids met before left h0 h1 w0 w1 (outcome_at (keep_stop fault))
  ends_refused moment fault never ex = ends_with (Ok moment) (outcome_at (keep_stop fault)) ex (
    λ is. absurd (not_finished (keep_stop fault) is),
    fault_ends ex.tries w1 fault ex.ends.0,
    stop_told (keep_stop fault),
    λ spared out. absurd (never spared (memory_fault fault out)),
  ) (λ c s account is_met it. record {
    shown = it.shown;
    early = λ early. absurd (fault_not_early fault early);
    finished = λ is. absurd (not_finished (keep_stop fault) is);
    fair = λ may. fault_fair c s fault;
  })

  -- it is finished
  pub ends_finished : (moment : ℤ) → ExchangesAll ids met marked mid h0 h1 w0 w1 (Ok moment)
      → left ≡ committed (moments_set moment met.head.schema (met.meta.usn +ℤ pos 1) moment mid)
      → Ends spares ids met before left h0 h1 w0 w1 outcomes.Finished
  ends_finished moment ex commits = ends_with (Ok moment) outcomes.Finished ex (λ is. ex.ends.0, tt, refl, λ spared out. absurd (finished_spares out)) (λ c s account is_met it. record {
    shown = it.shown;
    early = λ early. absurd (not_both early refl);
    finished = λ is. ended c s account (asker ids) (asks_in ex.tries) w1.log met moment mid left it.granted is_met commits;
    fair = λ may. finished_fair c s;
  })

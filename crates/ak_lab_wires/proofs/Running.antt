-- What a session over a wire in memory made of its server, call by call.
use Rattle.std.proofs.Common.{◌≡◌, ◌≤◌, ◌≢◌, ◌^◌, ◌-◌, ℕ, suc, ℤ, Bool, true, List, [], ◌∷◌, length, Option, Some, refl, sym, ap, subst, ◌∙◌, arith}
use Rattle.ak_call_counts.specs.CallCounts.{counts_after, no_calls}
use Rattle.ak_call_counts.specs.declared.call_counts.CallCounts.{CallCounts}
use Rattle.ak_client.specs.Outcomes.{HasOutcomeCause}
use Rattle.ak_client.specs.declared.outcomes.Outcome.{Outcome}
use Rattle.ak_client.specs.declared.outcomes.Outcome.TheVariants as outcomes
use Rattle.ak_client_wire.specs.Tries.{AreMade, MadeCall}
use Rattle.ak_client_wire.specs.Wires.{more}
use Rattle.ak_exchange.proofs.Calls.{calls_made}
use Rattle.ak_exchange.specs.Asked.{answers_in}
use Rattle.ak_exchange.specs.declared.envelopes.Ids.{Ids}
use Rattle.ak_faults.specs.Calls.{names_none}
use Rattle.ak_faults.specs.Causes.{Health, one_more}
use Rattle.ak_keep.specs.Keepers.{Keeping}
use Rattle.ak_lab_devices.specs.Devices.{given_outside, keeping_of}
use Rattle.ak_lab_devices.specs.declared.devices.Device.{Device}
use Rattle.ak_lab_lines.specs.declared.lab_lines.Direction.TheVariants as directions
use Rattle.ak_lab_wires.proofs.Transferring.{transfer_tried}
use Rattle.ak_lab_wires.specs.LabSessions.{CallsByKind, ComeInCalls, EndsByKind, IsLabIds, IsSessionOver, LeavesDevice, MayEnd, before_calls, calls_known_after, fails_after, fails_in, moment_told, sent_by}
use Rattle.ak_lab_wires.specs.declared.lab_sessions.SessionKind.{SessionKind}
use Rattle.ak_lab_wires.specs.declared.lab_sessions.SessionKind.TheVariants as kinds
use Rattle.ak_sync_in_memory.specs.Betweens.{Acting}
use Rattle.ak_sync_in_memory.specs.Entries.{LoggedState}
use Rattle.ak_sync_in_memory.specs.LoopWires.{CallsLoop, LoopInside, health_over, inside_with, loop_kind, state_of_loop}
use Rattle.ak_sync_in_memory.specs.declared.mishaps.Mishap.{Mishap}
use Rattle.ak_transfers.specs.Transfers.{download_errand, upload_errand}

-- ---- counts
abbrev last : ℕ
last = 2 ^ 64 - 1

one_more_call : (n before : ℕ) → more n (one_more before) ≡ more (suc n) before
one_more_call n before = grind arith

no_more_calls : (before : ℕ) → before ≤ last → before ≡ more 0 before
no_more_calls before small = grind (arith, small)

stays_small : (before : ℕ) → one_more before ≤ last
stays_small before = grind arith

-- ---- what calls make of the inside of a wire
module _ {X : Type 0} (acts : Acting X) (idle : X → Bool) where
  -- before each others acted, and then its request fared as the mishaps of its number say
  record CameInCalls (calls : List MadeCall) (was now : LoopInside X) : Type 0 where
    pub come : ComeInCalls acts idle was.mishaps was.moment was.counts.calls calls was.between now.between was.server now.server
    pub counted : was.counts.calls ≤ last → now.counts.calls ≡ more (length calls) was.counts.calls

  -- what comes after one call
  comes_after : (calls : List MadeCall) (was mid now : LoopInside X) (counts : CallCounts)
      → mid ≡ inside_with mid.server mid.between was.moment was.mishaps counts → counts.calls ≡ one_more was.counts.calls
      → ComeInCalls acts idle mid.mishaps mid.moment mid.counts.calls calls mid.between now.between mid.server now.server
      → ComeInCalls acts idle was.mishaps was.moment (one_more was.counts.calls) calls mid.between now.between mid.server now.server
  comes_after calls was mid now counts is next come =
      subst (λ (n : ℕ). ComeInCalls acts idle was.mishaps was.moment n calls mid.between now.between mid.server now.server)
      (ap (λ (i : LoopInside X). i.counts.calls) is ∙ next)
      (subst (λ (t : ℤ). ComeInCalls acts idle was.mishaps t mid.counts.calls calls mid.between now.between mid.server now.server)
      (ap (λ (i : LoopInside X). i.moment) is)
      (subst (λ (m : List Mishap). ComeInCalls acts idle m mid.moment mid.counts.calls calls mid.between now.between mid.server now.server)
      (ap (λ (i : LoopInside X). i.mishaps) is) come))

  in_calls : (calls : List MadeCall) (was now : LoopInside X) → AreMade (loop_kind acts idle) calls was now → CameInCalls calls was now
  in_calls [] was now made = record {
    come = (ap (λ (i : LoopInside X). i.between) made, ap (λ (i : LoopInside X). i.server) made);
    counted = λ small. ap (λ (i : LoopInside X). i.counts.calls) made ∙ no_more_calls was.counts.calls small;
  }
  in_calls (call ∷ calls) was now made =
      let mid : LoopInside X = made.0 in
      let one : CallsLoop acts idle was mid call.request call.answer = made.1 in
      let rest : CameInCalls calls mid now = in_calls calls mid now made.2 in
      let next : mid.counts.calls ≡ one_more was.counts.calls = ap (λ (i : LoopInside X). i.counts.calls) one.rest in
      record {
        come = (
          mid.between,
          mid.server,
          one.delivers,
          comes_after calls was mid now (counts_after was.counts call.request call.answer) one.rest refl rest.come,
        );
        counted = λ small. rest.counted (subst (λ (n : ℕ). n ≤ last) (sym next) (stays_small was.counts.calls))
            ∙ ap (more (length calls)) next ∙ one_more_call (length calls) was.counts.calls;
      }

  -- ---- the calls of a session
  module _ (ids : Ids) (k k' : Keeping) (h h' : Health) (was now : LoopInside X) (moments to_come : Option (List ℤ)) (outcome : Outcome) where
    -- these calls were made, and they are the tries of what was asked
    record AskedInCalls (kind : SessionKind)
        (ended : EndsByKind kind ids k k' (given_outside h (state_of_loop acts idle was) moments) (given_outside h' (state_of_loop acts idle now) to_come) outcome) : Type 0 where
      pub calls : List MadeCall
      pub asked : CallsByKind kind ids k k' (given_outside h (state_of_loop acts idle was) moments) (given_outside h' (state_of_loop acts idle now) to_come) outcome ended calls
      pub made : AreMade (loop_kind acts idle) calls was now

    asked_in_calls : (kind : SessionKind)
        → (ended : EndsByKind kind ids k k' (given_outside h (state_of_loop acts idle was) moments) (given_outside h' (state_of_loop acts idle now) to_come) outcome)
        → AskedInCalls kind ended
    asked_in_calls kinds.Sync ended =
        let sync = ended.ended.sync in
        let it = calls_made (sent_by ids sync.asked.moment sync.asked.tries) (sync.asked.meta ∷ answers_in sync.asked.tries) h h' (state_of_loop acts idle was) (state_of_loop acts idle now) sync.asked.tried in
        record { calls = it.calls; asked = it.tries; made = it.made }
    asked_in_calls (kinds.Transfer directions.Upload) ended =
        let t = transfer_tried (upload_errand true k k') ids ended.asked (given_outside h (state_of_loop acts idle was) moments) (given_outside h' (state_of_loop acts idle now) to_come) outcome ended.transfer in
        let it = calls_made (sent_by ids (moment_told ended.transfer.answer) t.tries) (ended.transfer.meta.answer ∷ answers_in t.tries) h h' (state_of_loop acts idle was) (state_of_loop acts idle now) t.tried in
        record { calls = it.calls; asked = (t.tries, t.same, it.tries); made = it.made }
    asked_in_calls (kinds.Transfer directions.Download) ended =
        let t = transfer_tried (download_errand k k') ids ended.asked (given_outside h (state_of_loop acts idle was) moments) (given_outside h' (state_of_loop acts idle now) to_come) outcome ended.transfer in
        let it = calls_made (sent_by ids (moment_told ended.transfer.answer) t.tries) (ended.transfer.meta.answer ∷ answers_in t.tries) h h' (state_of_loop acts idle was) (state_of_loop acts idle now) t.tried in
        record { calls = it.calls; asked = (t.tries, t.same, it.tries); made = it.made }

  -- ---- a session over a wire that was not used yet
  pub session_ran : (kind : SessionKind) (key : ℕ) (at : ℤ) (moments : List ℤ) (mishaps : List Mishap) (d made : Device) (was : X) (old : LoggedState) (counts : CallCounts)
      (now : LoopInside X) (ids : Ids) (to_come : Option (List ℤ)) (became : X) (new : LoggedState) (outcome : Outcome) → counts ≡ no_calls → IsLabIds key ids
      → EndsByKind kind ids (keeping_of d) (keeping_of made) (given_outside (health_over counts mishaps) (state_of_loop acts idle (inside_with old was at mishaps counts)) (Some moments))
      (given_outside (health_over now.counts now.mishaps) (state_of_loop acts idle now) to_come) outcome
      → MayEnd kind outcome → LeavesDevice kind (keeping_of d) (keeping_of made) (Some moments) to_come outcome
      → (names_none (fails_in kind d.fails) ≡ true → outcome ≢ outcomes.Keep)
      → HasOutcomeCause outcomes.Lost (health_over counts mishaps) (health_over now.counts now.mishaps) outcome
      → made ≡ record d { collection = made.collection; undo = []; calls = calls_known_after kind d.calls now.counts.calls; fails = fails_after kind d.fails }
      → new ≡ now.server → became ≡ now.between
      → IsSessionOver acts idle kind key at moments mishaps d made was became old new outcome
  session_ran kind key at moments mishaps d made was old counts now ids to_come became new outcome unused of ended may leaves unfailed lost rest server between =
      let begun : LoopInside X = inside_with old was at mishaps no_calls in
      let ended_so : EndsByKind kind ids (keeping_of d) (keeping_of made) (before_calls acts idle old was at mishaps moments)
      (given_outside (health_over now.counts now.mishaps) (state_of_loop acts idle now) to_come) outcome = rw unused at ended in
      let it = asked_in_calls ids (keeping_of d) (keeping_of made) (health_over no_calls mishaps) (health_over now.counts now.mishaps) begun now (Some moments) to_come outcome kind ended_so in
      let came = in_calls it.calls begun now it.made in
      record {
        ids = ids;
        of = of;
        health = health_over now.counts now.mishaps;
        end = now;
        to_come = to_come;
        ended = ended_so;
        between = sym between;
        server = sym server;
        may = may;
        unfailed = unfailed;
        unlost = λ nothing. lost.unfailed nothing;
        calls = it.calls;
        asked = it.asked;
        come = subst (λ (x : X). ComeInCalls acts idle mishaps at 0 it.calls was x old new) (sym between)
            (subst (λ (s : LoggedState). ComeInCalls acts idle mishaps at 0 it.calls was now.between old s) (sym server) came.come);
        counted = came.counted (omega arith);
        device = leaves;
        rest = rest;
      }

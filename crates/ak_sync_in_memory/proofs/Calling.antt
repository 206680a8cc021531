-- A call of the wire is one that a wire may make.
use Rattle.std.specs.Prelude.{◌≡◌, ◌≤◌, ℕ, ℤ, Bool, true, List, Result, Ok, Err}
use Rattle.std.specs.Result.{IsErrOf}
use Rattle.std.proofs.Common.{refl, sym, ap, subst, ◌∙◌, arith}
use Rattle.ak_faults.proofs.Healths.{goes_nowhere}
use Rattle.ak_io.specs.Arrivals.{IsClockMoment}
use Rattle.ak_sync_in_memory.proofs.Alone.{stays_alone}
use Rattle.ak_sync_in_memory.proofs.Carrying.{both_grow}
use Rattle.ak_sync_in_memory.proofs.Losing.{not_lost}
use Rattle.ak_sync_in_memory.specs.Betweens.{ActEnd, Acting}
use Rattle.ak_sync_in_memory.specs.Entries.{LoggedState, log_in}
use Rattle.ak_call_counts.specs.CallCounts.{counts_after, faults_after}
use Rattle.ak_sync_in_memory.specs.LoopWires.{Delivers, Fares, FaresAfter, LoopInside, health_over, inside_with, state_of_loop}
use Rattle.ak_sync_in_memory.specs.Mishaps.{is_lost, servings}
use Rattle.ak_call_counts.specs.declared.call_counts.CallCounts.{CallCounts}
use Rattle.ak_sync_in_memory.specs.declared.mishaps.Mishap.{Mishap}
use Rattle.ak_messages.specs.declared.replies.Reply.{Reply}
use Rattle.ak_messages.specs.declared.requests.Request.{Request}
use Rattle.ak_client_wire.specs.Wires.{Called}
use Rattle.ak_client_wire.specs.declared.wires.WireEnd.{WireEnd}
use Rattle.ak_client_wire.specs.declared.wires.WireEnd.TheVariants as ends

-- ---- causes
failed_lost : (lost : Bool) (times : ℕ) (old new : LoggedState) (request : Request) (now : ℤ) (result : Result Reply WireEnd)
    → Fares lost times old new request now result → IsErrOf result ends.Failed → lost ≡ true
failed_lost lost times old new request now (Ok reply) fares is = absurd (grind (arith, is))
failed_lost lost times old new request now (Err ends.Failed) fares is = fares.0
failed_lost lost times old new request now (Err ends.BadReply) fares is = absurd fares
failed_lost lost times old new request now (Err ends.Memory) fares is = absurd (grind (arith, is))

never_unread : (lost : Bool) (times : ℕ) (old new : LoggedState) (request : Request) (now : ℤ) (result : Result Reply WireEnd)
    → Fares lost times old new request now result → IsErrOf result ends.BadReply → ⊥
never_unread lost times old new request now (Ok reply) fares is = grind (arith, is)
never_unread lost times old new request now (Err ends.Failed) fares is = grind (arith, is)
never_unread lost times old new request now (Err ends.BadReply) fares is = fares
never_unread lost times old new request now (Err ends.Memory) fares is = grind (arith, is)

not_failed : (result : Result Reply WireEnd) → result ≡ Err ends.Memory → IsErrOf result ends.Failed → ⊥
not_failed result ended is = grind (arith, ended, is)

not_unread : (result : Result Reply WireEnd) → result ≡ Err ends.Memory → IsErrOf result ends.BadReply → ⊥
not_unread result ended is = grind (arith, ended, is)

module _ (call : ℕ) (mishaps : List Mishap) (old new : LoggedState) (request : Request) (now : ℤ) (result : Result Reply WireEnd) where
  lost_at : (came : ActEnd) → FaresAfter came call mishaps old new request now result → IsErrOf result ends.Failed → is_lost call mishaps ≡ true
  lost_at (Ok done) fares is = failed_lost (is_lost call mishaps) (servings call mishaps) old new request now result fares is
  lost_at (Err end) fares is = absurd (not_failed result fares.0 is)

  unread_at : (came : ActEnd) → FaresAfter came call mishaps old new request now result → IsErrOf result ends.BadReply → ⊥
  unread_at (Ok done) fares is = never_unread (is_lost call mishaps) (servings call mishaps) old new request now result fares is
  unread_at (Err end) fares is = not_unread result fares.0 is

same_faults : (before : ℕ) (result : Result Reply WireEnd) → (IsErrOf result ends.Failed → ⊥) → faults_after before result ≡ before
same_faults before (Ok reply) never = refl
same_faults before (Err ends.Failed) never = absurd (never refl)
same_faults before (Err ends.BadReply) never = refl
same_faults before (Err ends.Memory) never = refl

rose_if_failed : (c : CallCounts) (mishaps : List Mishap) (request : Request) (result : Result Reply WireEnd) → IsErrOf result ends.Failed
    → faults_after c.faults (Err ends.Failed) ≤ (counts_after c request result).faults
rose_if_failed c mishaps request result is =
    subst (λ (r : Result Reply WireEnd). faults_after c.faults (Err ends.Failed) ≤ faults_after c.faults r) (sym is) (omega arith)

-- a call that was delivered so is one of a wire once it is counted
module _ {B : Type 0} (acts : Acting B) (idle : B → Bool) (c : CallCounts) (mishaps : List Mishap) (was became : B) (old new : LoggedState) (request : Request)
    (now : ℤ) (result : Result Reply WireEnd) (clock : IsClockMoment now) (it : Delivers acts idle c.calls mishaps was became old new request now result) where
  abbrev before : LoopInside B
  before = inside_with old was now mishaps c

  abbrev after : CallCounts → List Mishap → ℤ → LoopInside B
  after counts kept moment = inside_with new became moment kept counts

  called_by : c.faults ≤ (counts_after c request result).faults
      → Called (health_over c mishaps) (health_over (counts_after c request result) mishaps) (state_of_loop acts idle before)
      (state_of_loop acts idle (after (counts_after c request result) mishaps now)) request result
  called_by later =
      let lost : IsErrOf result ends.Failed → is_lost c.calls mishaps ≡ true = lost_at c.calls mishaps it.met new request now result it.came it.fares in
      let unread : IsErrOf result ends.BadReply → ⊥ = unread_at c.calls mishaps it.met new request now result it.came it.fares in
      record {
        carries = (log_in new, refl, both_grow it.came c.calls mishaps old it.met new request now result clock it.before it.fares);
        lost = record {
          goes = record {
            later = later;
            calm = λ is. is;
            faultless = λ is. same_faults c.faults result (λ failed. not_lost c.calls mishaps is (lost failed));
          };
          failed = rose_if_failed c mishaps request result;
          unfailed = λ is failed. not_lost c.calls mishaps is (lost failed);
        };
        unread = record {
          goes = goes_nowhere (record { faults = 0; calm = true });
          failed = λ is. absurd (unread is);
          unfailed = λ _ is. unread is;
        };
        silence = refl;
        said = refl;
        calls = refl;
        alone = stays_alone request now clock acts idle before (after (counts_after c request result) mishaps now) it.met it.came c.calls mishaps result it.quiet it.fares;
        does = record { delivers = it; rest = refl };
      }

  -- the same, from what delivers it to what counts it
  pub called_from : (mid last : CallCounts) (kept : List Mishap) (moment : ℤ) → mid ≡ c → last ≡ counts_after mid request result → mid.faults ≤ last.faults
      → kept ≡ mishaps → moment ≡ now
      → Called (health_over c mishaps) (health_over last kept) (state_of_loop acts idle before) (state_of_loop acts idle (after last kept moment)) request result
  called_from mid last kept moment same is later stays at =
      let counts : last ≡ counts_after c request result = is ∙ ap (λ (x : CallCounts). counts_after x request result) same in
      let rises : c.faults ≤ (counts_after c request result).faults =
      subst (λ (x : CallCounts). x.faults ≤ (counts_after c request result).faults) same
      (subst (λ (x : CallCounts). mid.faults ≤ x.faults) counts later) in
      subst (λ (t : ℤ). Called (health_over c mishaps) (health_over last kept) (state_of_loop acts idle before) (state_of_loop acts idle (after last kept t)) request result) (sym at)
      (subst (λ (x : CallCounts). Called (health_over c mishaps) (health_over x kept) (state_of_loop acts idle before) (state_of_loop acts idle (after x kept now)) request result) (sym counts)
      (subst (λ (m : List Mishap). Called (health_over c mishaps) (health_over (counts_after c request result) m) (state_of_loop acts idle before)
      (state_of_loop acts idle (after (counts_after c request result) m now)) request result) (sym stays)
      (called_by rises)))

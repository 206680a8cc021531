-- A wire between whose calls nobody acts: the log of its server grows by servings of what it asks alone.
use Rattle.std.specs.Prelude.{ℕ, zero, suc, ℤ, Bool, List, [], Result, Ok, Err}
use Rattle.std.proofs.Common.{sym, ap, subst}
use Rattle.std.proofs.lemmas.List.{append-nil}
use Rattle.std.proofs.lemmas.Option.{same_Some}
use Rattle.ak_client_wire.specs.Wires.{GrowsByServings, StaysAlone}
use Rattle.ak_client_wire.specs.declared.wires.WireEnd.{WireEnd}
use Rattle.ak_client_wire.specs.declared.wires.WireEnd.TheVariants as ends
use Rattle.ak_io.specs.Arrivals.{IsClockMoment}
use Rattle.ak_messages.specs.declared.replies.Reply.{Reply}
use Rattle.ak_messages.specs.declared.requests.Request.{Request}
use Rattle.ak_protocol.specs.Logs.{Event, Log}
use Rattle.ak_sync_in_memory.proofs.Carrying.{row_brings}
use Rattle.ak_sync_in_memory.specs.Betweens.{ActEnd, Acting, StaysIdle}
use Rattle.ak_sync_in_memory.specs.Entries.{LoggedState, log_in}
use Rattle.ak_sync_in_memory.specs.LoopWires.{Fares, FaresAfter, LoopInside, ServesUpTo, state_of_loop}
use Rattle.ak_sync_in_memory.specs.Mishaps.{is_lost, servings}
use Rattle.ak_sync_in_memory.specs.declared.mishaps.Mishap.{Mishap}

module _ (request : Request) (now : ℤ) (clock : IsClockMoment now) where
  brings_nothing : (s : LoggedState) → GrowsByServings (log_in s) (log_in s) request
  brings_nothing s = record {
    growth = [];
    grown = ap (λ (events : List Event). record { opening = (log_in s).opening; events = events }) (sym (append-nil (log_in s).events));
    servings = tt;
  }

  up_to_brings : (n : ℕ) (old new : LoggedState) → ServesUpTo n old new request now → GrowsByServings (log_in old) (log_in new) request
  up_to_brings zero old new same =
      subst (λ (s : LoggedState). GrowsByServings (log_in old) (log_in s) request) (sym same) (brings_nothing old)
  up_to_brings (suc n) old new row = row_brings (suc n) old new request now row.0 clock row.1

  fares_brings : (lost : Bool) (times : ℕ) (old new : LoggedState) (result : Result Reply WireEnd) → Fares lost times old new request now result
      → GrowsByServings (log_in old) (log_in new) request
  fares_brings lost times old new (Ok reply) fares = row_brings times old new request now reply clock fares.1
  fares_brings lost times old new (Err ends.Failed) fares = up_to_brings times old new fares.1
  fares_brings lost times old new (Err ends.BadReply) fares = absurd fares
  fares_brings lost times old new (Err ends.Memory) fares = up_to_brings fares.0 old new fares.2

  fares_after_brings : (came : ActEnd) (call : ℕ) (mishaps : List Mishap) (old new : LoggedState) (result : Result Reply WireEnd)
      → FaresAfter came call mishaps old new request now result → GrowsByServings (log_in old) (log_in new) request
  fares_after_brings (Ok done) call mishaps old new result fares = fares_brings (is_lost call mishaps) (servings call mishaps) old new result fares
  fares_after_brings (Err end) call mishaps old new result fares = up_to_brings 0 old new fares.1

  -- a wire before whose call nobody acted, if they are known to be idle, and whose request fared so, stays as alone as it was
  pub stays_alone : {B : Type 0} (acts : Acting B) (idle : B → Bool) (was became : LoopInside B) (met : LoggedState) (came : ActEnd) (call : ℕ)
      (mishaps : List Mishap) (result : Result Reply WireEnd)
      → StaysIdle (idle was.between) (idle became.between) was.server met → FaresAfter came call mishaps met became.server request now result
      → StaysAlone (state_of_loop acts idle was) (state_of_loop acts idle became) request
  stays_alone acts idle was became met came call mishaps result quiet fares = record {
    stays = quiet.stays;
    brings = λ is before after told_before told_after.
        subst (λ (log : Log). GrowsByServings log after request) (same_Some (log_in was.server) before told_before)
        (subst (λ (log : Log). GrowsByServings (log_in was.server) log request) (same_Some (log_in became.server) after told_after)
        (subst (λ (s : LoggedState). GrowsByServings (log_in s) (log_in became.server) request) (quiet.nothing is)
        (fares_after_brings came call mishaps met became.server result fares)));
  }

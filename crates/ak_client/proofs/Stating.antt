-- What leads from one state of a sync to another.
use Rattle.std.specs.Prelude.{◌≡◌, ℕ, true, Result, Ok, Err, OnOk}
use Rattle.std.proofs.Common.{sym, subst}
use Rattle.ak_client.specs.States.{ExchangesChanges, IsInSync}
use Rattle.ak_client_wire.specs.Wires.{WireKind}
use Rattle.ak_exchange.specs.Asked.{Talk}
use Rattle.ak_exchange.specs.Phases.{Advances, AreGraveRequests, at_end_of}
use Rattle.ak_exchange.specs.declared.envelopes.Met.{Met}
use Rattle.ak_exchange.specs.declared.stops.Stop.{Stop}
use Rattle.ak_keep.specs.Keepers.{IsMarkedAt, Keeping, back}
use Rattle.ak_session.specs.Plans.{planned_changes, planned_graves, planned_start}

pub changes_exchanged : {kind : WireKind} (met : Met) (before settled after : Keeping) (was mid now : Talk kind) (result : Result (Unit {0}) Stop)
    → (graves : ℕ) × AreGraveRequests before graves
    × Advances {T = Unit {0}} 0 0 graves (at_end_of (λ c s. planned_start c)) (at_end_of planned_graves) met before settled was mid (Ok tt)
    → Advances {T = Unit {0}} 0 0 1 (at_end_of planned_graves) (at_end_of planned_changes) met settled after mid now result
    → OnOk result (ExchangesChanges met before after was now)
changes_exchanged met before settled after was mid now (Ok x) sent exchanged = record {
  settled = settled;
  mid = mid;
  graves = sent.0;
  graves_most = sent.1;
  sent = sent.2;
  exchanged = exchanged;
}
changes_exchanged met before settled after was mid now (Err stop) sent exchanged = tt

-- a device that still holds a head, marked at what it was, is still in the sync
pub still_in_sync : (was now : Keeping) (met : Met) → IsInSync was met → now.headed.current ≡ true → IsMarkedAt (back was) now → IsInSync now met
still_in_sync was now met in_sync held stays = record {
  marked = stays.marked;
  held = held;
  held_before = subst (λ (k : Keeping). k.headed.current ≡ true) (sym stays.back) in_sync.held_before;
  number = in_sync.number;
  below = in_sync.below;
  head = in_sync.head;
}

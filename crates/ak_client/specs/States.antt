-- What a sync knows, state by state.
use Rattle.std.specs.Prelude.{◌≡◌, ◌<ℤ◌, ℕ, pos, true, Ok}
use Rattle.ak_base.specs.Heads.{IsHeadInRange, IsWithin}
use Rattle.ak_base.specs.Limits.{last_head_usn}
use Rattle.ak_client_wire.specs.Wires.{WireKind}
use Rattle.ak_exchange.specs.Asked.{Talk}
use Rattle.ak_exchange.specs.Phases.{Advances, AreGraveRequests, Place, at_end_of}
use Rattle.ak_exchange.specs.declared.envelopes.Met.{Met}
use Rattle.ak_keep.specs.Keepers.{Keeping, back, is_marked}
use Rattle.ak_session.specs.Plans.{planned_changes, planned_graves, planned_start}

-- a device that is marked in a sync holds a head, at its mark too, and what its meta told is in the ranges of a head
pub record IsInSync (now : Keeping) (met : Met) : Type 0 where
  pub marked : is_marked now ≡ true
  pub held : now.headed.current ≡ true
  pub held_before : (back now).headed.current ≡ true
  pub number : IsWithin (pos 0) last_head_usn met.meta.usn
  pub below : met.meta.usn <ℤ last_head_usn
  pub head : IsHeadInRange met.head

-- a part of a sync led from one state to the next
abbrev pub LeadsTo : {kind : WireKind} → ℕ → ℕ → ℕ → Place → Place → Met → Keeping → Keeping → Talk kind → Talk kind → Type 0
LeadsTo pulled pushed others from to met before after was now =
    Advances {T = Unit {0}} pulled pushed others from to met before after was now (Ok tt)

-- the graves that were not sent yet and then the changes led from one state to the next
pub record ExchangesChanges {kind : WireKind} (met : Met) (before after : Keeping) (was now : Talk kind) : Type 0 where
  pub settled : Keeping
  pub mid : Talk kind
  pub graves : ℕ
  pub graves_most : AreGraveRequests before graves
  pub sent : LeadsTo 0 0 graves (at_end_of (λ c s. planned_start c)) (at_end_of planned_graves) met before settled was mid
  pub exchanged : LeadsTo 0 0 1 (at_end_of planned_graves) (at_end_of planned_changes) met settled after mid now

-- What a door is, what its calls answer and leave, and what a door in memory holds.
use Rattle.std.specs.Prelude.{◌≡◌, ℕ, ◌<◌, Bool, true, false, if◌then◌else◌, List, [], ◌∷◌, ◌++◌, length, Option, Some, None, IfSome}
use Rattle.std.specs.Option.{option_map}
use Rattle.ak_faults.specs.Calls.{is_named, listed_health}
use Rattle.ak_faults.specs.Causes.{Health, one_more}
use Rattle.ak_links.specs.Links.{LinkState, next_link}

-- the links of a door that tells them: those to come, and those that were given back, each in order
pub record DoorLinks (L : Type 0) : Type 0 where
  pub to_come : List L
  pub given_back : List L

-- a door: its links, if they are told; how many links it has given; and whether it has answered that none is to come
pub record DoorState (L : Type 0) : Type 0 where
  pub told : Option (DoorLinks L)
  pub accepted : ℕ
  pub ended : Bool

-- if the links are told: the one given was the first to come, or there was none to come; all others stay
abbrev pub GivesLink : {L : Type 0} → Option (DoorLinks L) → Option (DoorLinks L) → Option L → Type 0
GivesLink None new given = new ≡ None
GivesLink (Some links) new None = (links.to_come ≡ []) × (new ≡ Some links)
GivesLink {L = L} (Some links) new (Some link) =
    (rest : List L) × (links.to_come ≡ link ∷ rest) × (new ≡ Some (record links { to_come = rest }))

-- how many links were given after this one
abbrev pub accepted_after : {L : Type 0} → ℕ → Option L → ℕ
accepted_after accepted None = accepted
accepted_after accepted (Some link) = one_more accepted

-- whether the door has ended after this answer: an answer without a link ends it for good
abbrev pub ended_after : {L : Type 0} → Bool → Option L → Bool
ended_after ended None = true
ended_after ended (Some link) = ended

-- what an accept that was not refused answered and left
pub record Accepts {L : Type 0} (old new : DoorState L) (given : Option L) : Type 0 where
  pub told : GivesLink old.told new.told given
  pub accepted : new.accepted ≡ accepted_after old.accepted given
  pub ended : new.ended ≡ ended_after old.ended given

-- if the links are told: fewer were given back than the door has given
abbrev pub HasLent : {L : Type 0} → DoorState L → Type 0
HasLent door = IfSome door.told (λ links. length links.given_back < door.accepted)

-- the links after this one was given back: the last of those that were
abbrev pub with_given_back : {L : Type 0} → L → DoorLinks L → DoorLinks L
with_given_back link links = record links { given_back = links.given_back ++ link ∷ [] }

-- the door after this link was given back
abbrev pub after_give_back : {L : Type 0} → L → DoorState L → DoorState L
after_give_back link door = record door { told = option_map (with_given_back link) door.told }

-- ---- a door in memory

-- its links, how many it has given, whether it has ended, how many calls that may fail came, which of them fail, and
-- how many failed
pub record MemoryDoorState : Type 0 where
  pub links : DoorLinks LinkState
  pub accepted : ℕ
  pub ended : Bool
  pub calls : ℕ
  pub fails : List ℕ
  pub fault_count : ℕ

-- a door as it is made: no link was given, and no call has come
abbrev pub new_door : List LinkState → List ℕ → MemoryDoorState
new_door links fails =
    record {
      links = record { to_come = links; given_back = [] };
      accepted = 0;
      ended = false;
      calls = 0;
      fails = fails;
      fault_count = 0;
    }

-- it tells its links
abbrev pub door_state : MemoryDoorState → DoorState LinkState
door_state door = record { told = Some door.links; accepted = door.accepted; ended = door.ended }

-- it is calm exactly where no call is to fail
abbrev pub door_health : MemoryDoorState → Health
door_health door = listed_health door.fault_count door.fails

-- whether its next call fails
abbrev pub is_next_to_fail : MemoryDoorState → Bool
is_next_to_fail door = is_named door.calls door.fails

-- the door after a call that changes nothing else: it is counted, and so is the fault if it was to fail
abbrev pub after_call : MemoryDoorState → MemoryDoorState
after_call door =
    if is_next_to_fail door then record door { calls = one_more door.calls; fault_count = one_more door.fault_count }
    else record door { calls = one_more door.calls }

-- what an accept gives, if it does not fail
abbrev pub accepts : MemoryDoorState → Option (Option LinkState)
accepts door = if is_next_to_fail door then None else Some (next_link door.links.to_come)

-- the door after an accept that did not fail, by the links that were to come
abbrev pub after_giving : MemoryDoorState → List LinkState → MemoryDoorState
after_giving door [] = record door { ended = true }
after_giving door (link ∷ rest) =
    record door {
      links = record { to_come = rest; given_back = door.links.given_back };
      accepted = one_more door.accepted;
    }

-- the door after an accept
abbrev pub after_accept : MemoryDoorState → MemoryDoorState
after_accept door =
    if is_next_to_fail door then after_call door else after_giving (after_call door) door.links.to_come

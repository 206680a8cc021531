-- What an end over the system knows: how many of its calls were refused. Of what it holds it tells nothing.
use Rattle.std.specs.Prelude.{ℕ, false, Result, Ok, Err, None}
use Rattle.ak_faults.specs.Causes.{Health, one_more}
use Rattle.ak_io.specs.Ends.{uncertain}
use Rattle.ak_links.specs.Doors.{DoorState}

-- the count of faults after a call with this result: one more if it was refused
abbrev pub faults_after : {T E : Type 0} → ℕ → Result T E → ℕ
faults_after faults (Ok value) = faults
faults_after faults (Err error) = one_more faults

-- a door over TCP: how many links it has given, and how many calls were refused
pub record TcpDoorState : Type 0 where
  pub accepted : ℕ
  pub fault_count : ℕ

-- it tells no link, and never ends
abbrev pub tcp_door : {L : Type 0} → TcpDoorState → DoorState L
tcp_door door = record { told = None; accepted = door.accepted; ended = false }

-- it may fail at any call
abbrev pub tcp_door_health : TcpDoorState → Health
tcp_door_health door = uncertain door.fault_count

-- the door after an accept with this result: one link more, or one fault more
abbrev pub after_taking : {T E : Type 0} → TcpDoorState → Result T E → TcpDoorState
after_taking door (Ok link) = record door { accepted = one_more door.accepted }
after_taking door (Err error) = record door { fault_count = one_more door.fault_count }

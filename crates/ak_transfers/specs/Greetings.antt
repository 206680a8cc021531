-- How an upload and a download begin: with a meta, and the tests of what it says.
use Rattle.std.specs.Prelude.{◌≡◌, ℤ, List, Option, Some, None, Result, Ok, Err}
use Rattle.ak_client.specs.Greetings.{clock_stop, meta_of}
use Rattle.ak_client.specs.Outcomes.{outcome_at}
use Rattle.ak_client.specs.declared.outcomes.Outcome.{Outcome}
use Rattle.ak_client_wire.specs.Forms.{meta_in}
use Rattle.ak_client_wire.specs.Tries.{Answered}
use Rattle.ak_client_wire.specs.Wires.{WireKind, WireState}
use Rattle.ak_client_wire.specs.declared.asks.Unanswered.{Unanswered}
use Rattle.ak_client_wire.specs.declared.wires.MetaSaid.{MetaSaid}
use Rattle.ak_exchange.specs.Stops.{wire_stop}
use Rattle.ak_exchange.specs.declared.envelopes.Ids.{Ids}
use Rattle.ak_faults.specs.Causes.{Health}
use Rattle.ak_io.specs.Arrivals.{GivesNext}
use Rattle.ak_merge.specs.Edits.{second_of}

-- what is known of a wire: how many of its calls failed, and its state
pub record Line (kind : WireKind) : Type 0 where
  pub health : Health
  pub wire : WireState kind

-- what is known of the wire and of the clock of a transfer: the clock's are the moments that it has still to give
pub record TransferOutside (kind : WireKind) : Type 0 where
  pub line : Line kind
  pub moments : Option (List ℤ)

-- a meta lets a transfer go on, unless there is a reason to end it
abbrev pub met_or : MetaSaid → Option Outcome → Result MetaSaid Outcome
met_or said None = Ok said
met_or said (Some outcome) = Err outcome

-- what a greeting comes to by what its meta was answered. A meta that was not granted ends it, and takes no moment of the clock. One that was granted
-- ends it if the server does not let it go on or if the clocks are far apart, by the next moment of the clock
abbrev pub GreetsBy : Result MetaSaid Unanswered → Option (List ℤ) → Option (List ℤ) → Result MetaSaid Outcome → Type 0
GreetsBy (Err why) before now result = (now ≡ before) × (result ≡ Err (outcome_at (wire_stop why)))
GreetsBy (Ok said) before now result =
    (at : ℤ) × GivesNext before now at × (result ≡ met_or said (clock_stop said (second_of at)))

-- a greeting asked its meta, and came to this
pub record GreetsFirst {kind : WireKind} (ids : Ids) (was now : TransferOutside kind) (result : Result MetaSaid Outcome) : Type 0 where
  pub answer : Result MetaSaid Unanswered
  pub heard : Answered was.line.health now.line.health was.line.wire now.line.wire (meta_of ids) meta_in answer
  pub comes : GreetsBy answer was.moments now.moments result

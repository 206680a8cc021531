-- The lab that opens with the collection of its server.
use Rattle.std.proofs.Common.{◌≡◌, ℕ, pos, List, [], refl, ap, ◌∙◌}
use Rattle.ak_lab.specs.LabStates.{IsReady, LabState, opened_lab}
use Rattle.ak_lab_wires.specs.LabSessions.{lab_host}
use Rattle.ak_openings.specs.declared.whole_collections.Opening.{Opening}
use Rattle.ak_sync_in_memory.specs.Entries.{LoggedState, health_in}
use Rattle.ak_sync_in_memory.specs.LoggedServers.{begins_with}

abbrev opened_with : LoggedState → LabState
opened_with server = record { clock = pos 1_700_000_000_000; server = server; sessions = 0; fails = []; devices = [] }

pub lab_opened : (host : List ℕ) (made : Opening) (server : LoggedState) → server ≡ begins_with host made → host ≡ lab_host → opened_with server ≡ opened_lab made
lab_opened host made server begins same = ap opened_with begins ∙ ap (λ (host : List ℕ). opened_with (begins_with host made)) same

pub opened_ready : (host : List ℕ) (made : Opening) (server : LoggedState) → server ≡ begins_with host made → IsReady (opened_with server)
opened_ready host made server begins = record { clocks = refl; calm = ap (λ (s : LoggedState). (health_in s).calm) begins }

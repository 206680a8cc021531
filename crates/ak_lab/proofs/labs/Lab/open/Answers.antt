use Rattle.std.proofs.Common.{false, List, [], ℕ, pos, ap, arith, sym, subst, ◌∙◌}
use Rattle.ak_io.specs.Arrivals.{IsClockMoment}
use Rattle.ak_lab.proofs.Openings.{lab_opened, opened_ready}
use Rattle.ak_openings.proofs.OpeningLaws.{openings_are_checked, openings_are_distinct, openings_are_lawful}
use Rattle.ak_lab.specs.LabStates.{IsReady, LabState}
use Rattle.ak_lab_devices.specs.declared.devices.Device.{Device}
use Rattle.ak_lab.proofs.labs.Lab.open.Goals as goal

within : IsClockMoment (pos 1_700_000_000_000)
within = record { low = omega arith; high = omega arith }

pub new-requires-clause-checked : goal.new-requires-clause-checked
new-requires-clause-checked c = openings_are_checked (pos 1_700_000_000_000) false c.in_ok-made.made within c.in_ok-made.ensures.is

pub new-requires-clause-distinct : goal.new-requires-clause-distinct
new-requires-clause-distinct c = openings_are_distinct (pos 1_700_000_000_000) false c.in_ok-made.made c.in_ok-made.ensures.is

pub new-requires-clause-lawful : goal.new-requires-clause-lawful
new-requires-clause-lawful c = openings_are_lawful (pos 1_700_000_000_000) c.in_ok-made.made within c.in_ok-made.ensures.is

pub returns-clause-opened : goal.returns-clause-opened
returns-clause-opened c = (
  c.in_ok-made.made,
  c.in_ok-made.ensures.is,
  ap (λ (fails : List ℕ). let s : LabState = record { clock = pos 1_700_000_000_000; server = c.in_ok-server.server; sessions = 0; fails = fails; devices = c.new-3.result.items } in s) c.new-2.ensures
      ∙ ap (λ (devices : List Device). let s : LabState = record { clock = pos 1_700_000_000_000; server = c.in_ok-server.server; sessions = 0; fails = []; devices = devices } in s) c.new-3.ensures.items
      ∙ lab_opened c.lab_key.result.digits c.in_ok-made.made c.in_ok-server.server c.in_ok-server.ensures c.lab_key.ensures,
)

pub returns-clause-ready : goal.returns-clause-ready
returns-clause-ready c =
    subst (λ (fails : List ℕ). IsReady (record { clock = pos 1_700_000_000_000; server = c.in_ok-server.server; sessions = 0; fails = fails; devices = c.new-3.result.items })) (sym c.new-2.ensures)
    (subst (λ (devices : List Device). IsReady (record { clock = pos 1_700_000_000_000; server = c.in_ok-server.server; sessions = 0; fails = []; devices = devices })) (sym c.new-3.ensures.items)
    (opened_ready c.lab_key.result.digits c.in_ok-made.made c.in_ok-server.server c.in_ok-server.ensures))

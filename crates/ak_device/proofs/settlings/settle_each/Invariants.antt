use Rattle.std.proofs.Common.{◌≡◌, drop, map}
use Rattle.ak_device.proofs.Settling.{names_settled}
use Rattle.ak_device.specs.Settlings.{with_all_settled}
use Rattle.ak_faults.specs.Causes.{GoesOn}
use Rattle.ak_keep.specs.Keepers.{IsMarkedAt, back, changed}
use Rattle.ak_device.proofs.settlings.settle_each.Given as goal

-- those that are left lead to what all lead to
abbrev pub invariant-loop-one : goal.invariant-loop-one
invariant-loop-one g l = record {
  leads : names_settled l.usn (map (λ x. record { table = l.table; id = g.T.HasId.id_of x }) (drop l.one-index l.sent)) (g.K.Lookup.keeping l.keeper)
      ≡ changed (with_all_settled l.usn (map (λ x. record { table = l.table; id = g.T.HasId.id_of x }) l.sent)) (g.K.Lookup.keeping l.fn.keeper);
  stays : IsMarkedAt (back (g.K.Lookup.keeping l.fn.keeper)) (g.K.Lookup.keeping l.keeper);
  goes : GoesOn (g.K.Lookup.health l.fn.keeper) (g.K.Lookup.health l.keeper);
}

use Rattle.std.proofs.Common.{sym, subst, rules, w64, SFits, OnOk, ◌≡◌}
use Rattle.std.proofs.lemmas.Int.{to_z-of_z}
use Rattle.ak_device.specs.Settlings.{settled_by}
use Rattle.ak_keep.specs.Keepers.{changed}
use Rattle.ak_messages.specs.declared.requests.Ask.{Ask}
use Rattle.ak_device.proofs.settlings.settle_sent.Goals as goal

pub returns-in-ApplyGraves-clause-ok : goal.returns-in-ApplyGraves-clause-ok
returns-in-ApplyGraves-clause-ok g c =
    let usn : SFits w64 c.args.usn = search rules in
    subst (λ (ask : Ask). OnOk c.settle_graves.result (g.K.Lookup.keeping c.settle_graves.new.keeper ≡ changed (settled_by c.args.usn ask) (g.K.Lookup.keeping c.args.keeper.now)))
    (sym c.in-ApplyGraves.is) (rw (to_z-of_z w64 c.args.usn usn) at c.settle_graves.ensures.ok)

pub returns-in-ApplyChanges-clause-ok : goal.returns-in-ApplyChanges-clause-ok
returns-in-ApplyChanges-clause-ok g c =
    let usn : SFits w64 c.args.usn = search rules in
    subst (λ (ask : Ask). OnOk c.settle_changes.result (g.K.Lookup.keeping c.settle_changes.new.keeper ≡ changed (settled_by c.args.usn ask) (g.K.Lookup.keeping c.args.keeper.now)))
    (sym c.in-ApplyChanges.is) (rw (to_z-of_z w64 c.args.usn usn) at c.settle_changes.ensures.ok)

pub returns-in-ApplyChunk-clause-ok : goal.returns-in-ApplyChunk-clause-ok
returns-in-ApplyChunk-clause-ok g c =
    let usn : SFits w64 c.args.usn = search rules in
    subst (λ (ask : Ask). OnOk c.settle_chunk.result (g.K.Lookup.keeping c.settle_chunk.new.keeper ≡ changed (settled_by c.args.usn ask) (g.K.Lookup.keeping c.args.keeper.now)))
    (sym c.in-ApplyChunk.is) (rw (to_z-of_z w64 c.args.usn usn) at c.settle_chunk.ensures.ok)

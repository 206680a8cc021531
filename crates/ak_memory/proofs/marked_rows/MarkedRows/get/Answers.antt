use Rattle.std.proofs.Common.{◌≡◌, Some, sym, ap, ◌∙◌}
use Rattle.std.specs.FinMap as map
use Rattle.ak_keep.proofs.RowsByName.{named-get}
use Rattle.ak_memory.specs.Indexes.{rows_of}
use Rattle.ak_memory.specs.declared.versions.Version.TheVariants.{Now}
use Rattle.ak_memory.proofs.marked_rows.MarkedRows.get.Goals as goal

pub returns-in-Some-clause-named : goal.returns-in-Some-clause-named
returns-in-Some-clause-named c =
    let rows = rows_of Now c.self.inside.indexed in
    let found : Some c.in_ok-copy-in-Some.copy ≡ map.get rows c.args.name = ap Some c.in_ok-copy-in-Some.ensures ∙ c.in-Some.ensures in
    named-get rows c.args.name c.in_ok-copy-in-Some.copy c.self.invariant.current.named (sym found)

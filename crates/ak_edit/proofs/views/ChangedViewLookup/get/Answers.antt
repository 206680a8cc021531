use Rattle.std.proofs.Common.{ap, ◌∙◌}
use Rattle.ak_keep.specs.Keepers.{Keeping, changed}
use Rattle.ak_edit.proofs.Viewing.{row_read}
use Rattle.ak_edit.specs.Overlays.{Overlay}
use Rattle.ak_edit.specs.Views.{overlaid}
use Rattle.ak_edit.proofs.views.ChangedViewLookup.get.Goals as goal

pub returns-clause-reads : goal.returns-clause-reads
returns-clause-reads g c =
    let R = g.R.Lookup in
    let o : Overlay = c.args.self.now.change.now in
    record {
      kept =
          ap (λ (k : Keeping). (o, (c.args.self.now.from.ghost_name, (k, R.kept c.get.new.from)))) c.get.ensures.reads.same
          ∙ ap (λ (x : R.Kept). (o, (c.args.self.now.from.ghost_name, (R.keeping c.args.self.now.from.now, x)))) c.get.ensures.reads.kept;
      same = ap (changed (overlaid o)) c.get.ensures.reads.same;
      cause = c.get.ensures.reads.cause;
      told = row_read (R.keeping c.args.self.now.from.now) o c.args.name c.get.result c.get.ensures.reads.told;
    }

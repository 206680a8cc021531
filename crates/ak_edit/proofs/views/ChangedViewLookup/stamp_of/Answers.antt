use Rattle.std.proofs.Common.{ap, ◌∙◌}
use Rattle.ak_keep.specs.Keepers.{Keeping, changed}
use Rattle.ak_edit.proofs.Viewing.{stamp_read}
use Rattle.ak_edit.specs.Overlays.{Overlay}
use Rattle.ak_edit.specs.Views.{overlaid}
use Rattle.ak_edit.proofs.views.ChangedViewLookup.stamp_of.Goals as goal

pub returns-clause-reads : goal.returns-clause-reads
returns-clause-reads g c =
    let R = g.R.Lookup in
    let o : Overlay = c.args.self.now.change.now in
    record {
      kept =
          ap (λ (k : Keeping). (o, (c.args.self.now.from.ghost_name, (k, R.kept c.stamp_of.new.from)))) c.stamp_of.ensures.reads.same
          ∙ ap (λ (x : R.Kept). (o, (c.args.self.now.from.ghost_name, (R.keeping c.args.self.now.from.now, x)))) c.stamp_of.ensures.reads.kept;
      same = ap (changed (overlaid o)) c.stamp_of.ensures.reads.same;
      cause = c.stamp_of.ensures.reads.cause;
      told = stamp_read (R.keeping c.args.self.now.from.now) o c.args.name c.stamp_of.result c.stamp_of.ensures.reads.told;
    }

use Rattle.std.proofs.Common.{ap, ◌∙◌, w64, SFits}
use Rattle.std.proofs.lemmas.Int.{to_z-of_z}
use Rattle.ak_keep.specs.Keepers.{Keeping, changed}
use Rattle.ak_edit.proofs.Viewing.{cards_read}
use Rattle.ak_edit.specs.Overlays.{Overlay}
use Rattle.ak_edit.specs.Views.{overlaid}
use Rattle.ak_edit.proofs.views.ChangedViewLookup.cards_of.Goals as goal

pub returns-clause-reads : goal.returns-clause-reads
returns-clause-reads g c =
    let R = g.R.Lookup in
    let o : Overlay = c.args.self.now.change.now in
    let fits : SFits w64 c.args.note = c.ranges.note in
    record {
      kept =
          ap (λ (k : Keeping). (o, (c.args.self.now.from.ghost_name, (k, R.kept c.cards_over.new.from)))) c.cards_over.ensures.reads.same
          ∙ ap (λ (x : R.Kept). (o, (c.args.self.now.from.ghost_name, (R.keeping c.args.self.now.from.now, x)))) c.cards_over.ensures.reads.kept;
      same = ap (changed (overlaid o)) c.cards_over.ensures.reads.same;
      cause = c.cards_over.ensures.reads.cause;
      told = cards_read (R.keeping c.args.self.now.from.now) o c.args.note c.cards_over.result (rw (to_z-of_z w64 c.args.note fits) at c.cards_over.ensures.reads.told);
    }

use Rattle.std.proofs.Common.{◌≡◌, sym, ap, subst, ◌∙◌, w64, SFits}
use Rattle.std.proofs.lemmas.Int.{to_z-of_z}
use Rattle.std.specs.FinMap.{entries}
use Rattle.ak_keep.proofs.Causing.{cause-ok}
use Rattle.ak_edit.proofs.Entries.{entries-from_sorted}
use Rattle.ak_edit.proofs.Viewing.{cards_told}
use Rattle.ak_edit.specs.Overlays.{IsFitting, Overlay}
use Rattle.ak_edit.specs.Views.{AreCardsOver}
use Rattle.ak_edit.proofs.changes.Change.cards_over.Goals as goal

pub returns-clause-reads : goal.returns-clause-reads
returns-clause-reads g c =
    let same_entries : entries c.args.self.now.rows ≡ c.self.inside.rows.entries =
    ap (λ (o : Overlay). entries o.rows) (sym c.self.view_is) ∙ entries-from_sorted c.self.inside.rows.entries c.in_ok-ids.ensures.ordered in
    let fits : SFits w64 c.args.note = c.ranges.note in
    record {
      kept = c.in_ok-held.ensures.reads.kept;
      same = c.in_ok-held.ensures.reads.same;
      cause = cause-ok _ c.in_ok-held.ensures.reads.cause.goes;
      told = cards_told (g.R.Lookup.keeping c.args.from.now) c.args.note c.args.self.now c.in_ok-held.held c.in_ok-ids.ids (subst IsFitting c.self.view_is c.self.invariant).rows
          c.held-named.ensures.known (rw (to_z-of_z w64 c.args.note fits) at c.in_ok-held.ensures.reads.told)
          (rw (sym same_entries, to_z-of_z w64 c.args.note fits) at c.in_ok-ids.ensures.cards);
    }

use Rattle.std.proofs.Common.{pos, false, ◌∙◌, refl, sym, subst, w64, SFits, to_z, of_z}
use Rattle.std.proofs.lemmas.Int.{to_z-of_z}
use Rattle.ak_base.specs.declared.names.Table.TheVariants as tables
use Rattle.ak_faults.proofs.Healths.{goes_nowhere, goes_further}
use Rattle.ak_filtered.specs.Emptyings.{away_id}
use Rattle.ak_keep.proofs.Causing.{cause-ok}
use Rattle.ak_keep.proofs.Collecting.{Finds, first_page_told, page_told, pages_told}
use Rattle.ak_keep.specs.Keepers.{WhereTold}
use Rattle.ak_keep.specs.declared.walks.Walk.{Walk}
use Rattle.ak_filtered.proofs.emptyings.read_away.Goals as goal

start : Walk
start = record { past = record { table = tables.Card; id = pos 0 }; done = false }

pub returns : goal.returns
unfolding start
returns g c = let fits : SFits w64 c.args.deck = c.ranges.deck in record {
  reads = record {
    kept = c.pages.invariant.kept;
    same = c.pages.invariant.same;
    cause = cause-ok c.pages.ids c.pages.invariant.goes;
    told = pages_told (g.R.Lookup.keeping c.args.from.now).told (away_id c.args.deck) c.pages.ids start c.pages.walk (sym c.is_done.ensures ∙ c.pages-test.false) (rw (to_z-of_z w64 c.args.deck fits) at c.pages.invariant.found);
  };
}

pub pages-init : goal.pages-init
unfolding start
pages-init g c = record {
  kept = refl;
  same = refl;
  goes = goes_nowhere (g.R.Lookup.health c.args.from.now);
  found = subst (λ (w : Walk). WhereTold (g.R.Lookup.keeping c.args.from.now) (Finds (away_id (to_z w64 (of_z w64 c.args.deck))) c.new-ids.result start w)) (sym c.over-walk.ensures)
      (first_page_told (g.R.Lookup.keeping c.args.from.now).told (away_id (to_z w64 (of_z w64 c.args.deck))) c.new-ids.result start c.new-ids.ensures);
}

pub pages-preserved : goal.pages-preserved
unfolding start
pages-preserved g c =
    record {
      kept = c.next.ensures.reads.kept ∙ c.pages.invariant.kept;
      same = c.next.ensures.reads.same ∙ c.pages.invariant.same;
      goes = goes_further c.pages.invariant.goes c.next.ensures.reads.cause.goes;
      found = page_told (g.R.Lookup.keeping c.args.from.now).told (away_id (to_z w64 (of_z w64 c.args.deck))) c.pages.ids c.take_away.new.ids start c.pages.walk c.next.new.self c.in_ok-page.page
          c.pages.invariant.found (rw c.pages.invariant.same at c.in_ok-page.ensures.reads.told) (rw c.as_slice.ensures at c.in_ok-take_away.ensures);
    }

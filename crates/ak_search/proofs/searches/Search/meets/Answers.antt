use Rattle.std.proofs.Common.{refl, sym, ◌∙◌}
use Rattle.ak_faults.proofs.Healths.{goes_nowhere}
use Rattle.ak_keep.proofs.Causing.{cause-ok}
use Rattle.ak_search.proofs.Telling.{card_told, forgotten, known_told}
use Rattle.ak_search.proofs.searches.Search.meets.Goals as goal

pub returns-in-Some-clause-reads : goal.returns-in-Some-clause-reads
returns-in-Some-clause-reads g c = record {
  kept = refl;
  same = refl;
  cause = cause-ok c.in-Some.does (goes_nowhere (g.R.Lookup.health c.args.from.now));
  told = known_told (g.R.Lookup.keeping c.args.from.now).told c.args.self.now c.args.card.now c.in-Some.does (sym c.known.ensures ∙ c.in-Some.is);
}

pub returns-in-Ok-clause-reads : goal.returns-in-Ok-clause-reads
returns-in-Ok-clause-reads g c =
    let asked = c.in-Ok.ensures.reads in
    record {
      kept = asked.kept;
      same = asked.same;
      cause = asked.cause;
      told = card_told (g.R.Lookup.keeping c.args.from.now).told c.args.self.now c.keep_verdict.new.self c.args.card.now c.meets.new.latest c.in-Ok.does c.keep_verdict.ensures asked.told;
    }

pub returns-in-Err-clause-err : goal.returns-in-Err-clause-err
returns-in-Err-clause-err g c = forgotten (g.R.Lookup.keeping c.args.from.now).told c.args.self.now c.nothing.result c.nothing.ensures

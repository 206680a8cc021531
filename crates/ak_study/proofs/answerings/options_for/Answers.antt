use Rattle.ak_keep.proofs.Causing.{cause-ok}
use Rattle.ak_study.proofs.AskedKeepers.{options_told}
use Rattle.ak_study.proofs.answerings.options_for.Goals as goal

pub returns-clause-reads : goal.returns-clause-reads
returns-clause-reads g c = record {
  kept = c.in_ok-found.ensures.reads.kept;
  same = c.in_ok-found.ensures.reads.same;
  cause = cause-ok _ c.in_ok-found.ensures.reads.cause.goes;
  told = options_told (g.K.Lookup.keeping c.args.keeper.now) c.args.card.now c.in_ok-found.found c.in_ok-options.options c.in_ok-options.ensures.these c.in_ok-found.ensures.reads.told;
}

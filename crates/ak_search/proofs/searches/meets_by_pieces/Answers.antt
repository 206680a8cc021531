use Rattle.std.proofs.Common.{refl}
use Rattle.ak_faults.proofs.Healths.{goes_nowhere}
use Rattle.ak_search.specs.Grammar.{pieces_in}
use Rattle.ak_search.proofs.Telling.{no_piece_told}
use Rattle.ak_search.proofs.searches.meets_by_pieces.Goals as goal

pub loop-token-init : goal.loop-token-init
loop-token-init g c = record {
  kept = refl;
  same = refl;
  goes = goes_nowhere (g.R.Lookup.health c.args.from.now);
  told = no_piece_told (g.R.Lookup.keeping c.args.from.now).told c.args.context.now c.args.card.now c.args.latest.now c.new-evaluator.result (pieces_in c.args.tokens.now)
      c.new-evaluator.ensures.outer c.new-evaluator.ensures.either c.new-evaluator.ensures.all;
}

use Rattle.ak_keep.proofs.Causing.{cause-ok}
use Rattle.ak_search.proofs.Telling.{tests_told}
use Rattle.ak_search.proofs.searches.holds_of.Goals as goal

pub returns : goal.returns
returns g c =
    let turned = c.in_ok-turn_to.ensures.reads in
    record {
      reads = record {
        kept = turned.kept;
        same = turned.same;
        cause = cause-ok c.in_ok-does.does turned.cause.goes;
        told = tests_told (g.R.Lookup.keeping c.args.from.now).told c.args.context.now c.args.card.now c.args.latest.now c.turn_to.new.self c.args.term.now c.in_ok-does.does c.in_ok-does.ensures turned.told;
      };
    }

use Rattle.ak_search.proofs.Telling.{answers_serve}
use Rattle.ak_search.specs.Grammar.{pieces_in}
use Rattle.ak_search.proofs.searches.answers_for.Goals as goal

pub returns-then-earliest : goal.returns-then-earliest
returns-then-earliest g c =
    let read = c.read_answers.ensures.reads in
    record {
      reads = record {
        kept = read.kept;
        same = read.same;
        cause = read.cause;
        told = answers_serve (g.R.Lookup.keeping c.args.from.now).told c.args.day (pieces_in c.args.tokens.now) c.earliest_asked-earliest.result.least c.read_answers.result (c.earliest_asked-earliest.ensures.least c.if-earliest.true) read.told;
      };
    }

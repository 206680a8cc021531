use Rattle.std.proofs.lemmas.Result.{IfOk-weaker}
use Rattle.ak_search.proofs.Telling.{term_tells}
use Rattle.ak_search.proofs.searches.tells.Goals as goal

pub returns-in-Test : goal.returns-in-Test
returns-in-Test g c =
    let tested = c.holds_of.ensures.reads in
    record {
      reads = record {
        kept = tested.kept;
        same = tested.same;
        cause = tested.cause;
        told = IfOk-weaker c.holds_of.result _ _
            (λ does. term_tells (g.R.Lookup.keeping c.args.from.now).told c.args.context.now c.args.card.now c.args.latest.now c.holds_of.new.latest c.args.piece.now c.in-Test.field-0 c.in-Test.term does c.in-Test.is)
            tested.told;
      };
    }

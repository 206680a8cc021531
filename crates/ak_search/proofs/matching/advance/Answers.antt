use Rattle.std.proofs.Common.{rules, ◌∙◌, sym, arith}
use Rattle.ak_search.proofs.OnePass.{advance_end}
use Rattle.ak_search.proofs.matching.advance.Goals as goal

pub returns : goal.returns
returns c =
    record {
      row = sym (advance_end c.args.letter c.loop-place.place c.loop-place.taken c.loop-place.skipped c.loop-place.row c.args.pattern.now (omega (arith, c.loop-place.invariant.within, c.loop-place-test.false)) c.loop-place.invariant.size) ∙ c.loop-place.invariant.whole;
      size = search rules;
    }

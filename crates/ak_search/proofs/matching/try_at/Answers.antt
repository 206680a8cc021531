use Rattle.std.proofs.Common.{◌≡◌, ◌∙◌, length, sym, arith}
use Rattle.ak_search.proofs.Runs.{broken, none_left}
use Rattle.ak_search.proofs.matching.try_at.Goals as goal

pub returns-then-is_empty : goal.returns-then-is_empty
returns-then-is_empty c =
    let none : length c.args.items.now ≡ 0 = grind (arith, sym c.is_empty.ensures ∙ c.if-is_empty.true) in
    none_left c.args.items.now c.args.letters.now none

pub try_later-requires : goal.try_later-requires
try_later-requires c = broken c.args.items.now c.args.letters.now c.in-None.ensures.none

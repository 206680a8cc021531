use Rattle.std.proofs.Common.{◌≡◌, ◌∷◌, rules}
use Rattle.ak_search.proofs.Runs.{tried_last, tried_later}
use Rattle.ak_search.proofs.matching.try_later.Goals as goal

pub returns-in-Some : goal.returns-in-Some
returns-in-Some c =
    let letters : c.args.letters.now ≡ c.in-Some.field-0-0.now ∷ c.in-Some.later.now = search rules in
    tried_later c.args.items.now c.args.letters.now c.in-Some.field-0-0.now c.in-Some.later.now letters c.requires

pub returns-in-None : goal.returns-in-None
returns-in-None c = tried_last c.args.items.now c.args.letters.now c.in-None.ensures.cases c.requires

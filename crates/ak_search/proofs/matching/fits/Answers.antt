use Rattle.std.proofs.Common.{◌≡◌, ◌∷◌, ◌∙◌, sym, rules}
use Rattle.ak_search.proofs.Runs.{broken, whole_ended, whole_served}
use Rattle.ak_search.proofs.matching.fits.Goals as goal

pub returns-in_default : goal.returns-in_default
returns-in_default c = sym (broken c.args.pattern.now c.args.letters.now c.in_default.ensures.none)

pub returns-in-Some-split_first : goal.returns-in-Some-split_first
returns-in-Some-split_first c =
    let behind : c.in-Some.items.now ≡ c.in-Some-split_first.field-0-0.now ∷ c.in-Some-split_first.others.now = search rules in
    c.fits_somewhere.ensures
    ∙ whole_served c.args.pattern.now c.args.letters.now c.in-Some.items.now c.in-Some.rest.now c.in-Some-split_first.field-0-0.now c.in-Some-split_first.others.now behind c.in-Some.ensures.some

pub returns-in-None : goal.returns-in-None
returns-in-None c = c.is_empty.ensures ∙ sym (whole_ended c.args.pattern.now c.args.letters.now c.in-Some.items.now c.in-Some.rest.now c.in-None.ensures.cases c.in-Some.ensures.some)

use Rattle.std.proofs.Common.{◌≡◌, ◌∷◌, ◌∙◌, sym, rules}
use Rattle.ak_search.proofs.Runs.{fits_first, tried_served, whole_ended}
use Rattle.ak_search.proofs.matching.after_run.Goals as goal

pub returns-then-is_empty : goal.returns-then-is_empty
returns-then-is_empty c =
    let whole = whole_ended c.args.items.now c.args.letters.now c.args.behind.now c.args.left.now c.in-None.ensures.cases c.requires in
    sym (fits_first c.args.items.now c.args.letters.now (whole ∙ sym c.is_empty.ensures ∙ c.if-is_empty.true))

pub try_later-requires : goal.try_later-requires
try_later-requires c = whole_ended c.args.items.now c.args.letters.now c.args.behind.now c.args.left.now c.in-None.ensures.cases c.requires ∙ sym c.is_empty.ensures ∙ c.if-is_empty.false

pub returns-in-Some : goal.returns-in-Some
returns-in-Some c =
    let behind : c.args.behind.now ≡ c.in-Some.field-0-0.now ∷ c.in-Some.others.now = search rules in
    tried_served c.args.items.now c.args.letters.now c.args.behind.now c.args.left.now c.in-Some.field-0-0.now c.in-Some.others.now behind c.requires

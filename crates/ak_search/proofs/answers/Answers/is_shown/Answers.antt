use Rattle.std.proofs.Common.{◌∙◌, rules, w64}
use Rattle.std.proofs.lemmas.Int.{to_z-of_z}
use mir.Val.{SFits}
use Rattle.ak_search.proofs.Answering.{looked_up}
use Rattle.ak_search.proofs.answers.Answers.is_shown.Goals as goal

pub returns-in-Some : goal.returns-in-Some
returns-in-Some c =
    let card : SFits w64 c.args.card.now = search rules in
    let ease : SFits w64 c.args.ease.now = search rules in
    c.is_since.ensures ∙ looked_up c.args.self.now c.args.card.now c.args.ease.now c.args.least.now _ _ _ (to_z-of_z w64 c.args.card.now card) (to_z-of_z w64 c.args.ease.now ease) c.in-Some.ensures.value

pub returns-in-None : goal.returns-in-None
returns-in-None c =
    let card : SFits w64 c.args.card.now = search rules in
    let ease : SFits w64 c.args.ease.now = search rules in
    looked_up c.args.self.now c.args.card.now c.args.ease.now c.args.least.now _ _ _ (to_z-of_z w64 c.args.card.now card) (to_z-of_z w64 c.args.ease.now ease) c.in-None.ensures.value

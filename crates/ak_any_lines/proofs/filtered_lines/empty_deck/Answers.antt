use Rattle.std.proofs.Common.{refl, rules, w64, SFits}
use Rattle.std.proofs.lemmas.Int.{to_z-of_z}
use Rattle.ak_any_lines.proofs.CalledEnds.{call_cause}
use Rattle.ak_desk_texts.specs.declared.answers.DeskAnswer.TheVariants as answers
use Rattle.ak_any_lines.proofs.filtered_lines.empty_deck.Goals as goal

pub returns-clause-ends : goal.returns-clause-ends
returns-clause-ends g c =
    let at : SFits w64 c.args.turn.at = search rules in
    let deck : SFits w64 c.args.deck = c.ranges.deck in
    rw (c.emptied.ensures) (c.empty.result, rw (to_z-of_z w64 c.args.turn.at at, to_z-of_z w64 c.args.deck deck) at c.empty.ensures.ends, refl)

pub returns-clause-cause : goal.returns-clause-cause
returns-clause-cause g c = rw (c.emptied.ensures) (call_cause answers.Emptied c.empty.result _ _ c.empty.ensures.cause)

pub returns-clause-stays : goal.returns-clause-stays
returns-clause-stays g c = c.empty.ensures.ends.stays

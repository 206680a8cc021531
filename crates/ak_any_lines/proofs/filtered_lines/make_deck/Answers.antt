use Rattle.std.proofs.Common.{refl, rules, w64, SFits}
use Rattle.std.proofs.lemmas.Int.{to_z-of_z}
use Rattle.ak_any_lines.proofs.CalledEnds.{call_cause}
use Rattle.ak_desk_texts.specs.declared.answers.DeskAnswer.TheVariants as answers
use Rattle.ak_any_lines.proofs.filtered_lines.make_deck.Goals as goal

pub returns-clause-ends : goal.returns-clause-ends
returns-clause-ends g c =
    let at : SFits w64 c.args.turn.at = search rules in
    let limit : SFits w64 c.args.limit = c.ranges.limit in
    let order : SFits w64 c.args.order = c.ranges.order in
    rw (c.made.ensures) (
      _,
      c.make_filtered.result,
      record { path = c.as_str.ensures; search_is = c.as_str-2.ensures; limit_is = to_z-of_z w64 c.args.limit limit; order_is = to_z-of_z w64 c.args.order order },
      rw (to_z-of_z w64 c.args.turn.at at) at c.make_filtered.ensures.ends,
      refl,
    )

pub returns-clause-cause : goal.returns-clause-cause
returns-clause-cause g c = rw (c.made.ensures) (call_cause answers.AddedDeck c.make_filtered.result _ _ c.make_filtered.ensures.cause)

pub returns-clause-stays : goal.returns-clause-stays
returns-clause-stays g c = c.make_filtered.ensures.ends.stays

use Rattle.std.proofs.Common.{rules, w64, SFits}
use Rattle.std.proofs.lemmas.Int.{to_z-of_z}
use Rattle.ak_decks.proofs.FlaggedCards.{flag_keeps}
use Rattle.ak_decks.proofs.flags.flag.Goals as goal

pub edit_cards-requires-clause-keeps : goal.edit_cards-requires-clause-keeps
edit_cards-requires-clause-keeps g c =
    let fits : SFits w64 c.args.flag.now.value = search rules in
    rw (to_z-of_z w64 c.args.flag.now.value fits) (flag_keeps c.args.flag.now.value c.requires.value)

pub returns-clause-edits : goal.returns-clause-edits
returns-clause-edits g c =
    let fits : SFits w64 c.args.flag.now.value = search rules in
    let at : SFits w64 c.args.at = c.ranges.at in
    rw (to_z-of_z w64 c.args.flag.now.value fits, to_z-of_z w64 c.args.at at) at c.edit_cards.ensures.edits

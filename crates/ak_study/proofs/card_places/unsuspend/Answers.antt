use Rattle.std.proofs.Common.{w64, SFits}
use Rattle.std.proofs.lemmas.Int.{to_z-of_z}
use Rattle.ak_study.proofs.PlacedCards.{unsuspend_keeps}
use Rattle.ak_study.proofs.card_places.unsuspend.Goals as goal

pub edit_cards-requires-clause-keeps : goal.edit_cards-requires-clause-keeps
edit_cards-requires-clause-keeps g c = unsuspend_keeps

pub returns-clause-edits : goal.returns-clause-edits
returns-clause-edits g c =
    let at : SFits w64 c.args.at = c.ranges.at in
    rw (to_z-of_z w64 c.args.at at) at c.edit_cards.ensures.edits

use Rattle.std.proofs.Common.{◌≡◌, w64, SFits}
use Rattle.std.proofs.lemmas.Int.{to_z-of_z}
use Rattle.ak_filtered.proofs.held_decks.HeldDecks.has.Goals as goal

pub returns : goal.returns
returns c =
    let fits : SFits w64 c.args.id = c.ranges.id in
    rw (to_z-of_z w64 c.args.id fits) at c.contains_key.ensures

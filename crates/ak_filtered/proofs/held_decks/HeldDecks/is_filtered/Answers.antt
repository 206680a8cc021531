use Rattle.std.proofs.Common.{◌≡◌, ap, false, w64, SFits}
use Rattle.std.proofs.lemmas.Int.{to_z-of_z}
use Rattle.std.specs.Option.{unwrap_or}
use Rattle.ak_filtered.proofs.held_decks.HeldDecks.is_filtered.Goals as goal

pub returns-in-Some : goal.returns-in-Some
returns-in-Some c =
    let fits : SFits w64 c.args.id = c.ranges.id in
    ap (λ o. unwrap_or o false) (rw (to_z-of_z w64 c.args.id fits) at c.in-Some.ensures.value)

pub returns-in-None : goal.returns-in-None
returns-in-None c =
    let fits : SFits w64 c.args.id = c.ranges.id in
    ap (λ o. unwrap_or o false) (rw (to_z-of_z w64 c.args.id fits) at c.in-None.ensures.value)

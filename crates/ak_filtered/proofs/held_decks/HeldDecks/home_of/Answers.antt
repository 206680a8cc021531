use Rattle.std.proofs.Common.{◌≡◌, sym, ap, ◌∙◌, pos, if◌then◌else◌, w64, SFits}
use Rattle.std.proofs.lemmas.Int.{to_z-of_z}
use Rattle.ak_filtered.proofs.held_decks.HeldDecks.home_of.Goals as goal

pub returns : goal.returns
returns c =
    let fits : SFits w64 c.args.id = c.ranges.id in
    sym (ap (λ b. if b then c.args.id else pos 1) (sym (rw (to_z-of_z w64 c.args.id fits) at c.has.ensures) ∙ c.if-has.false))

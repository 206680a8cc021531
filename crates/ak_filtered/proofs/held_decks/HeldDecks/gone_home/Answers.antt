use Rattle.std.proofs.Common.{◌≡◌, ◌∙◌, true, rules, w64, SFits}
use Rattle.std.proofs.lemmas.Int.{to_z-of_z}
use Rattle.ak_filtered.proofs.DeckFlags.{home_is}
use Rattle.ak_filtered.specs.HomeDecks.{flags_of, is_away}
use Rattle.ak_filtered.proofs.held_decks.HeldDecks.gone_home.Goals as goal

pub returns : goal.returns
returns c =
    let fits : SFits w64 c.args.card.odue = search rules in
    let back : SFits w64 c.args.card.odid = search rules in
    let place : SFits w64 c.home_of.result = search rules in
    let away : is_away c.args.card ≡ true = search rules in
    home_is (flags_of c.args.self.now) c.args.card _ _ away (to_z-of_z w64 c.home_of.result place ∙ (rw (to_z-of_z w64 c.args.card.odid back) at c.home_of.ensures)) (to_z-of_z w64 c.args.card.odue fits)

use Rattle.std.proofs.Common.{◌≡◌, sym, ◌∙◌, true, false, w64, SFits}
use Rattle.std.proofs.lemmas.Int.{to_z-of_z}
use Rattle.ak_filtered.proofs.RefilledRows.{home_then, stays_then}
use Rattle.ak_filtered.specs.HomeDecks.{flags_of}
use Rattle.ak_filtered.proofs.refills.emptied.Goals as goal

pub returns-then-is_away_in : goal.returns-then-is_away_in
returns-then-is_away_in c =
    let fits : SFits w64 c.args.deck = c.ranges.deck in
    home_then c.args.deck (flags_of c.args.decks.now) c.args.card c.gone_home.result (sym (rw (to_z-of_z w64 c.args.deck fits) at c.is_away_in.ensures) ∙ c.if-is_away_in.true) c.gone_home.ensures

pub returns : goal.returns
returns c =
    let fits : SFits w64 c.args.deck = c.ranges.deck in
    stays_then c.args.deck (flags_of c.args.decks.now) c.args.card (sym (rw (to_z-of_z w64 c.args.deck fits) at c.is_away_in.ensures) ∙ c.if-is_away_in.false)

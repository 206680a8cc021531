use Rattle.std.proofs.Common.{◌≡◌, sym, ap, ◌∙◌, true, false, ◌||◌, is_some, rules, w64, SFits}
use Rattle.std.proofs.lemmas.Int.{to_z-of_z}
use Rattle.ak_base.specs.declared.cards.Card.{Card}
use Rattle.ak_filtered.proofs.RefilledRows.{no_row_made, row_made}
use Rattle.ak_filtered.specs.Emptyings.{is_away_in}
use Rattle.ak_filtered.specs.HomeDecks.{flags_of}
use Rattle.ak_filtered.specs.Refills.{dues_of}
use Rattle.ak_filtered.proofs.refills.Refill.refilled_row.Goals as goal

pub refilled-requires : goal.refilled-requires
refilled-requires c =
    let fits : SFits w64 c.args.card.now.id = search rules in
    (rw (to_z-of_z w64 c.args.card.now.id fits) at c.at-due.ensures) ∙ ap (λ (k : Card). dues_of c.args.self.now.dues.now k.id) (sym c.in_ok-copy.ensures)

pub returns : goal.returns
returns c =
    let fits : SFits w64 c.args.card.now.id = search rules in
    let due : c.at-due.result ≡ dues_of c.args.self.now.dues.now c.args.card.now.id = rw (to_z-of_z w64 c.args.card.now.id fits) at c.at-due.ensures in
    let moves : (is_away_in c.args.self.now.deck c.args.card.now || is_some c.at-due.result) ≡ true = search rules in
    row_made c.args.self.now.deck (flags_of c.args.self.now.decks.now) (dues_of c.args.self.now.dues.now) c.args.card.now c.in_ok-copy.copy c.refilled.result
    (rw due at moves) c.in_ok-copy.ensures c.refilled.ensures

pub returns-then-not-changes : goal.returns-then-not-changes
returns-then-not-changes c =
    let fits : SFits w64 c.args.card.now.id = search rules in
    let due : c.at-due.result ≡ dues_of c.args.self.now.dues.now c.args.card.now.id = rw (to_z-of_z w64 c.args.card.now.id fits) at c.at-due.ensures in
    let stays : (is_away_in c.args.self.now.deck c.args.card.now || is_some c.at-due.result) ≡ false = search rules in
    no_row_made c.args.self.now.deck (flags_of c.args.self.now.decks.now) (dues_of c.args.self.now.dues.now) c.args.card.now (rw due at stays)

use Rattle.std.proofs.Common.{rules}
use Rattle.ak_pages.proofs.ToldCards.{told_card}
use Rattle.ak_pages.proofs.shown_cards.shown_card.Goals as goal

pub returns-in-Some-clause-shown : goal.returns-in-Some-clause-shown
returns-in-Some-clause-shown c c' = search (rules, told_card)

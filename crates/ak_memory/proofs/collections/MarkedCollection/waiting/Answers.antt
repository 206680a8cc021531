use Rattle.std.proofs.Common.{subst}
use Rattle.ak_keep.proofs.CardsIn.{checked_cards, page_in}
use Rattle.ak_keep.proofs.WaitingCards.{each_asked}
use Rattle.ak_keep.specs.Collections.{Holding}
use Rattle.ak_keep.specs.Lookups.{cards_in}
use Rattle.ak_keep.specs.Marks.{WithMark}
use Rattle.ak_keep.specs.WaitingCards.{IsOneOf, IsWaitingPage}
use Rattle.ak_memory.proofs.collections.MarkedCollection.waiting.Goals as goal

pub returns-clause-page : goal.returns-clause-page
returns-clause-page c =
    subst (λ (w : WithMark Holding). IsWaitingPage (IsOneOf (cards_in w.current.rows)) c.args.waiting.now c.args.limit c.in_ok-page.page) c.self.view_is
    (page_in (record { rows = c.self.inside.rows.current; head = c.self.inside.head.current }) c.args.waiting.now c.args.limit c.in_ok-page.page c.self.invariant.current c.in_ok-page.ensures)

pub returns-clause-fits : goal.returns-clause-fits
returns-clause-fits c = c.in_ok-page.ensures.fits

pub returns-clause-asked : goal.returns-clause-asked
returns-clause-asked c = each_asked _ c.args.waiting.now c.args.limit c.in_ok-page.page c.in_ok-page.ensures

pub returns-clause-ascends : goal.returns-clause-ascends
returns-clause-ascends c = c.in_ok-page.ensures.ascends

pub returns-clause-checked : goal.returns-clause-checked
returns-clause-checked c =
    checked_cards (record { rows = c.self.inside.rows.current; head = c.self.inside.head.current }) c.args.waiting.now c.args.limit c.in_ok-page.page c.self.invariant.current c.in_ok-page.ensures

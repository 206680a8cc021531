use Rattle.std.proofs.Common.{rules}
use Rattle.ak_pages.proofs.ToldCards.{told_refused, told_shown}
use Rattle.ak_pages.proofs.card_pages.card_page.Goals as goal

pub returns-clause-ok : goal.returns-clause-ok
returns-clause-ok c c' =
    told_shown (c.K.Lookup.keeping c'.args.keeper.now) _ c'.args.card c'.args.back c'.in_ok-shown.shown _ _ c'.side_page.result c'.in_ok-shown.ensures.shown (search rules) c'.side_page.ensures.ok

pub returns-clause-refused : goal.returns-clause-refused
returns-clause-refused c c' =
    told_refused (c.K.Lookup.keeping c'.args.keeper.now) _ c'.args.card c'.args.back c'.in_ok-shown.shown _ _ c'.side_page.result c'.in_ok-shown.ensures.shown (search rules) c'.side_page.ensures.refused

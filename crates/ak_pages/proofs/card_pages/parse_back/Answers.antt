use Rattle.ak_pages.proofs.Sides.{back_unread}
use Rattle.ak_pages.proofs.card_pages.parse_back.Goals as goal

pub returns-clause-fault : goal.returns-clause-fault
returns-clause-fault c = back_unread c.args.shown.now c.args._front.now c.as_str.result.now c.parse.result c.requires c.as_str.ensures c.parse.ensures.fault

use Rattle.ak_sync_in_memory.proofs.Copying.{copied}
use Rattle.ak_sync_in_memory.proofs.Viewing.{viewed_further, viewed_once}
use Rattle.ak_sync_in_memory.proofs.copies.view_all.Goals as goal

pub returns-in_err-head-clause-views : goal.returns-in_err-head-clause-views
returns-in_err-head-clause-views c =
    viewed_further c.args.server.now c.view_rows.new.server c.view_head.new.self c.view_rows.ensures.views
    (viewed_once c.view_rows.new.server c.view_head.new.self c.view_head.result c.view_head.ensures.adds)

pub returns-clause-views : goal.returns-clause-views
returns-clause-views c =
    viewed_further c.args.server.now c.view_rows.new.server c.view_head.new.self c.view_rows.ensures.views
    (viewed_once c.view_rows.new.server c.view_head.new.self c.view_head.result c.view_head.ensures.adds)

pub returns-clause-copy : goal.returns-clause-copy
returns-clause-copy c =
    (copied c.args.server.now c.view_rows.new.server c.in_ok-rows.rows c.in_ok-head.head c.recall.ensures.lawful c.view_rows.ensures.views
    c.in_ok-rows.ensures.rows c.in_ok-head.ensures.head).0

pub returns-clause-distinct : goal.returns-clause-distinct
returns-clause-distinct c =
    (copied c.args.server.now c.view_rows.new.server c.in_ok-rows.rows c.in_ok-head.head c.recall.ensures.lawful c.view_rows.ensures.views
    c.in_ok-rows.ensures.rows c.in_ok-head.ensures.head).1

use Rattle.ak_lab_devices.proofs.Held.{shown}
use Rattle.ak_lab_devices.proofs.Holding.{shows_lines, shows_read}
use Rattle.ak_lab_devices.proofs.held_collections.HeldCollection.shown.Goals as goal

pub returns-in-Rows-clause-shown : goal.returns-in-Rows-clause-shown
returns-in-Rows-clause-shown c =
    shown _ _ _ _ c.self.view_is
    (shows_read c.self.inside.keeper.kept _ c.in_ok-head.head _ _ _ _ c.in_ok-head.ensures.head c.in_ok-head.ensures.same c.in-Rows.is
    c.row_texts.ensures.reads.told c.unfailed.ensures.ok)

pub returns-in-Graves-clause-shown : goal.returns-in-Graves-clause-shown
returns-in-Graves-clause-shown c =
    shown _ _ _ _ c.self.view_is
    (shows_read c.self.inside.keeper.kept _ c.in_ok-head.head _ _ _ _ c.in_ok-head.ensures.head c.in_ok-head.ensures.same c.in-Graves.is
    c.grave_texts.ensures.reads.told c.unfailed-in-Graves.ensures.ok)

pub returns-clause-shown : goal.returns-clause-shown
returns-clause-shown c =
    shown _ _ _ _ c.self.view_is
    (shows_lines c.self.inside.keeper.kept c.in_ok-head.head _ _ _ c.in_ok-head.ensures.head c.in-Head.is c.head_texts.ensures)

use Rattle.ak_memory.proofs.Filling.{filled-loaded}
use Rattle.ak_memory.proofs.marked_rows.MarkedRows.add.Goals as goal

pub returns : goal.returns
returns c =
    let loaded = c.in_ok-load.ensures in
    filled-loaded c.args.self.now.current c.load.new.self.current c.args.row c.in_ok-load.field-0 loaded.free loaded.put loaded.held loaded.same

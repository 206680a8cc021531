use Rattle.std.proofs.Common.{is_some, ap, ◌∙◌}
use Rattle.ak_keep.specs.Collections.{Holding}
use Rattle.ak_keep.specs.Marks.{WithMark}
use Rattle.ak_memory.proofs.Forming.{formed-loaded, unmarked}
use Rattle.ak_memory.proofs.collections.MarkedCollection.load.Goals as goal

pub invariant_of-self : goal.invariant_of-self
invariant_of-self c =
    let none = unmarked c.self.inside.marked _ (ap (λ (w : WithMark Holding). is_some w.mark) c.self.view_is ∙ c.requires.unmarked) in
    formed-loaded c.args.row c.self.inside.rows c.load.new.self c.self.inside.head c.self.inside.aside c.self.inside.marked c.load.result none c.requires.checked c.self.invariant.current
    c.load.ensures.put c.load.ensures.same c.load.ensures.err

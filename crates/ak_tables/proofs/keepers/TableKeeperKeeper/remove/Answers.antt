use Rattle.std.proofs.Common.{rules, ◌∷◌, [], ◌++◌, sym, subst}
use Rattle.ak_keep.specs.Collections.{without}
use Rattle.ak_tables.proofs.Consistency.{consistent-after}
use Rattle.ak_tables.proofs.Covering.{covers-more, covers-removed}
use Rattle.ak_tables.specs.Tables.{IsConsistent, LeavesNow}
use Rattle.ak_tables.specs.declared.touched.Touched.{Touched}
use Rattle.ak_tables.proofs.keepers.TableKeeperKeeper.remove.Goals as goal

pub invariant_of-self-2 : goal.invariant_of-self-2
invariant_of-self-2 g c =
    let memory = c.self.inside.memory in
    let touched = c.self.inside.touched in
    subst (λ (more : Touched). IsConsistent c.remove.new.self (g.T.Tables.stores c.self.inside.tables) (g.T.Tables.is_ready c.self.inside.tables) (LeavesNow g.T.Tables.moment g.T.Tables.may_have_left g.T.Tables.stands_for c.self.inside.tables) more)
    (sym c.in_ok-add.ensures.ok)
    (consistent-after (without c.args.name) memory c.remove.new.self (g.T.Tables.stores c.self.inside.tables) (g.T.Tables.is_ready c.self.inside.tables) (LeavesNow g.T.Tables.moment g.T.Tables.may_have_left g.T.Tables.stands_for c.self.inside.tables) touched (record touched { names = touched.names ++ c.args.name ∷ [] }) c.remove.result
    (search rules) c.self.invariant
    (λ was. covers-removed touched c.args.name was memory.kept.current)
    (λ was. covers-more touched c.args.name was memory.kept.current)
    c.remove.ensures.ok c.remove.ensures.err)

use Rattle.std.proofs.Common.{rules, ◌∷◌, [], ◌++◌, sym, ap, subst, ◌∙◌}
use Rattle.ak_keep.specs.Collections.{with_row}
use Rattle.ak_tables.proofs.Consistency.{consistent-after}
use Rattle.ak_tables.proofs.Covering.{covers-more, covers-put}
use Rattle.ak_tables.specs.Tables.{IsConsistent, LeavesNow}
use Rattle.ak_base.specs.Rows.{name_of}
use Rattle.ak_base.specs.declared.names.Name.{Name}
use Rattle.ak_tables.specs.declared.touched.Touched.{Touched}
use Rattle.ak_tables.proofs.keepers.TableKeeperKeeper.put.Goals as goal

pub invariant_of-self-2 : goal.invariant_of-self-2
invariant_of-self-2 g c =
    let memory = c.self.inside.memory in
    let touched = c.self.inside.touched in
    subst (λ (more : Touched). IsConsistent c.put.new.self (g.T.Tables.stores c.self.inside.tables) (g.T.Tables.is_ready c.self.inside.tables) (LeavesNow g.T.Tables.moment g.T.Tables.may_have_left g.T.Tables.stands_for c.self.inside.tables) more)
    (sym (c.in_ok-add.ensures.ok ∙ ap (λ (name : Name). record touched { names = touched.names ++ name ∷ [] }) c.name.ensures))
    (consistent-after (with_row c.args.row) memory c.put.new.self (g.T.Tables.stores c.self.inside.tables) (g.T.Tables.is_ready c.self.inside.tables) (LeavesNow g.T.Tables.moment g.T.Tables.may_have_left g.T.Tables.stands_for c.self.inside.tables) touched (record touched { names = touched.names ++ name_of c.args.row ∷ [] }) c.put.result
    (search rules) c.self.invariant
    (λ was. covers-put touched c.args.row was memory.kept.current)
    (λ was. covers-more touched (name_of c.args.row) was memory.kept.current)
    c.put.ensures.ok c.put.ensures.err)

use Rattle.std.proofs.Common.{rules, List, true, map, sym, ap, subst, ◌∙◌}
use Rattle.ak_base.specs.Rows.{name_of}
use Rattle.ak_base.specs.declared.names.Name.{Name}
use Rattle.ak_base.specs.declared.rows.Row.{Row}
use Rattle.ak_keep.specs.Collections.{made_of}
use Rattle.ak_keep.specs.MemoryKeepers.{MemoryState}
use Rattle.ak_tables.proofs.Consistency.{consistent-changed}
use Rattle.ak_tables.proofs.Covering.{covers-made}
use Rattle.ak_tables.specs.Tables.{IsConsistent, LeavesNow}
use Rattle.ak_tables.proofs.keepers.TableKeeperKeeper.replace_all.Goals as goal

pub invariant_of-self-2 : goal.invariant_of-self-2
invariant_of-self-2 g c =
    subst (λ (names : List Name). IsConsistent c.replace_all.new.self (g.T.Tables.stores c.self.inside.tables) (g.T.Tables.is_ready c.self.inside.tables) (LeavesNow g.T.Tables.moment g.T.Tables.may_have_left g.T.Tables.stands_for c.self.inside.tables) (record { names = names; head = true; whole = true }))
    (sym (c.in_ok-names.ensures ∙ ap (λ (rows : List Row). map name_of rows) c.as_slice.ensures))
    (subst (λ (s : MemoryState). IsConsistent s (g.T.Tables.stores c.self.inside.tables) (g.T.Tables.is_ready c.self.inside.tables) (LeavesNow g.T.Tables.moment g.T.Tables.may_have_left g.T.Tables.stands_for c.self.inside.tables) (record { names = map name_of c.args.rows; head = true; whole = true }))
    (sym c.in_ok-replace_all.ensures.ok)
    (consistent-changed (λ held. made_of c.args.rows c.args.head) c.self.inside.memory (g.T.Tables.stores c.self.inside.tables) (g.T.Tables.is_ready c.self.inside.tables) (LeavesNow g.T.Tables.moment g.T.Tables.may_have_left g.T.Tables.stands_for c.self.inside.tables) c.self.inside.touched (record { names = map name_of c.args.rows; head = true; whole = true })
    (search rules) c.self.invariant (λ was h. covers-made c.args.rows c.args.head was)))

use Rattle.std.proofs.Common.{Option, Some, sym, ap, subst, ◌∙◌}
use Rattle.std.proofs.lemmas.Option.{same_Some}
use Rattle.std.specs.FinMap.{FinMap}
use Rattle.ak_base.specs.Names.{name_cmp}
use Rattle.ak_base.specs.Rows.{name_of}
use Rattle.ak_base.specs.declared.names.Name.{Name}
use Rattle.ak_base.specs.declared.rows.Row.{Row}
use Rattle.ak_edit.proofs.Entries.{one_set}
use Rattle.ak_edit.proofs.Noting.{bears_set}
use Rattle.ak_edit.specs.Overlays.{IsSet, put_over}
use Rattle.ak_edit.proofs.changes.Change.put.Goals as goal

pub returns-clause-ok : goal.returns-clause-ok
returns-clause-ok c =
    ap (λ (rows : FinMap name_cmp (Option Row)). record { rows = rows; conf = c.self.inside.conf; tags = c.self.inside.tags.items; schema = c.self.inside.schema })
    (one_set c.self.inside.rows.entries c.set_in.new.rows.entries (name_of c.args.row) (Some c.args.row)
    (subst (λ (name : Name). IsSet c.self.inside.rows.entries name (Some c.args.row) c.set_in.new.rows.entries) c.name-name.ensures c.in_ok-set_in.ensures.ok))
    ∙ ap (put_over c.args.row) c.self.view_is

pub invariant_of-self-2 : goal.invariant_of-self-2
invariant_of-self-2 c = record {
  rows = bears_set c.self.inside.rows.entries c.set_in.new.rows.entries (name_of c.args.row) (Some c.args.row)
      (subst (λ (name : Name). IsSet c.self.inside.rows.entries name (Some c.args.row) c.set_in.new.rows.entries) c.name-name.ensures c.in_ok-set_in.ensures.ok)
      (λ row is. ap name_of (sym (same_Some c.args.row row is))) c.self.invariant.rows;
  conf = c.self.invariant.conf;
  tags = c.self.invariant.tags;
}

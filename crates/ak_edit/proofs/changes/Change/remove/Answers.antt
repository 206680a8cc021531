use Rattle.std.proofs.Common.{Option, None, ap, ◌∙◌}
use Rattle.std.specs.FinMap.{FinMap}
use Rattle.ak_base.specs.Names.{name_cmp}
use Rattle.ak_base.specs.declared.rows.Row.{Row}
use Rattle.std.proofs.lemmas.Option.{none-some}
use Rattle.ak_edit.proofs.Entries.{one_set}
use Rattle.ak_edit.proofs.Noting.{bears_set}
use Rattle.ak_edit.specs.Overlays.{removed_over}
use Rattle.ak_edit.proofs.changes.Change.remove.Goals as goal

pub returns-clause-ok : goal.returns-clause-ok
returns-clause-ok c =
    ap (λ (rows : FinMap name_cmp (Option Row)). record { rows = rows; conf = c.self.inside.conf; tags = c.self.inside.tags.items; schema = c.self.inside.schema })
    (one_set c.self.inside.rows.entries c.set_in.new.rows.entries c.args.name None c.in_ok-set_in.ensures.ok)
    ∙ ap (removed_over c.args.name) c.self.view_is

pub invariant_of-self-2 : goal.invariant_of-self-2
invariant_of-self-2 c = record {
  rows = bears_set c.self.inside.rows.entries c.set_in.new.rows.entries c.args.name None c.in_ok-set_in.ensures.ok (λ row is. absurd (none-some row is)) c.self.invariant.rows;
  conf = c.self.invariant.conf;
  tags = c.self.invariant.tags;
}

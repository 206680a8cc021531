use Rattle.std.proofs.Common.{List, ap, subst, sym, ◌∙◌}
use Rattle.std.specs.List.{All}
use Rattle.std.proofs.lemmas.List.Elements.{All-tail}
use Rattle.ak_base.specs.Rows.{IsChecked}
use Rattle.ak_base.specs.declared.rows.Row.{Row}
use Rattle.ak_keep.specs.MemoryKeepers.{MemoryState}
use Rattle.ak_journal_folds.specs.Folds.{IsReady, with_put}
use Rattle.ak_journal_folds.proofs.applied.put_each.Goals as goal

pub loop-row-preserved : goal.loop-row-preserved
loop-row-preserved c = record {
  ready = subst IsReady (sym c.in_ok-put.ensures.ok) (record { marked = c.loop-row.invariant.ready.marked; obeys = c.loop-row.invariant.ready.obeys });
  checked = All-tail IsChecked c.in-Some.row c.next.new.self.rest.items (subst (λ (items : List Row). All IsChecked items) c.in-Some.ensures.steps.0 c.loop-row.invariant.checked);
  made = ap (λ (state : MemoryState). with_put c.next.new.self.rest.items state.kept.current) c.in_ok-put.ensures.ok
      ∙ ap (λ (items : List Row). with_put items c.loop-row.keeper.kept.current) (sym c.in-Some.ensures.steps.0)
      ∙ c.loop-row.invariant.made;
}

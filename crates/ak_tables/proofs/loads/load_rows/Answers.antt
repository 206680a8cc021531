use Rattle.std.proofs.Common.{List, sym, ap, subst, ◌∙◌}
use Rattle.std.specs.FinMap.{get}
use Rattle.std.specs.Option.{option_or}
use Rattle.ak_base.specs.declared.rows.Row.{Row}
use Rattle.ak_keep.specs.Collections.{Holding}
use Rattle.ak_keep.specs.Marks.{WithMark}
use Rattle.ak_tables.proofs.Loading.{put_next}
use Rattle.ak_tables.specs.Tables.{AreNew, row_named}
use Rattle.ak_tables.proofs.loads.load_rows.Goals as goal

pub loop-row-preserved : goal.loop-row-preserved
loop-row-preserved c = record {
  rows = λ q. ap (λ (kept : WithMark Holding). option_or (get kept.current.rows q) (row_named c.next.new.self.rest.items q)) c.in_ok-load_row.ensures.ok
      ∙ put_next c.loop-row.keeper.kept.current.rows c.in-Some.row c.next.new.self.rest.items q c.in_ok-load_row.ensures.free
      ∙ ap (λ (items : List Row). option_or (get c.loop-row.keeper.kept.current.rows q) (row_named items q)) (sym c.in-Some.ensures.steps.0)
      ∙ c.loop-row.invariant.rows q;
  head = ap (λ (kept : WithMark Holding). kept.current.head) c.in_ok-load_row.ensures.ok ∙ c.loop-row.invariant.head;
  mark = ap (λ (kept : WithMark Holding). kept.mark) c.in_ok-load_row.ensures.ok ∙ c.loop-row.invariant.mark;
  fails = c.load_row.ensures.fails ∙ c.loop-row.invariant.fails;
  news = (
    λ h. c.loop-row.invariant.news.0 (subst (λ (items : List Row). AreNew c.loop-row.keeper.kept.current.rows items) (sym c.in-Some.ensures.steps.0)
        (c.in_ok-load_row.ensures.free, (c.in_ok-load_row.ensures.checked, subst (λ (kept : WithMark Holding). AreNew kept.current.rows c.next.new.self.rest.items) c.in_ok-load_row.ensures.ok h))),
    λ all. subst (λ (kept : WithMark Holding). AreNew kept.current.rows c.next.new.self.rest.items) (sym c.in_ok-load_row.ensures.ok)
        (subst (λ (items : List Row). AreNew c.loop-row.keeper.kept.current.rows items) c.in-Some.ensures.steps.0 (c.loop-row.invariant.news.1 all)).1.1,
  );
}

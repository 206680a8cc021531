use Rattle.std.proofs.Common.{None, Option, ap, subst, ◌∙◌}
use Rattle.ak_keep.specs.Collections.{Holding, Rows}
use Rattle.ak_keep.specs.MemoryKeepers.{MemoryState}
use Rattle.ak_tables.proofs.Loading.{put_into_none}
use Rattle.ak_tables.specs.Tables.{ArePutInto, holding}
use Rattle.ak_tables.proofs.loads.memory_of.Goals as goal

pub returns-clause-kept : goal.returns-clause-kept
returns-clause-kept c =
    let held = c.load_rows.new.keeper.kept.current.rows in
    c.in_ok-load_head.ensures.ok
    ∙ ap (λ (mark : Option Holding). record { current = holding held c.args.read.head; mark = mark }) (c.load_rows.ensures.mark ∙ ap (λ (s : MemoryState). s.kept.mark) c.new-keeper.ensures.made)
    ∙ ap (λ (rows : Rows). record { current = holding rows c.args.read.head; mark = None })
    (put_into_none c.args.read.rows held
    (subst (λ (was : Rows). ArePutInto was c.args.read.rows held) (ap (λ (s : MemoryState). s.kept.current.rows) c.new-keeper.ensures.made) c.in_ok-load_rows.ensures.rows))

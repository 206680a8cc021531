use Rattle.std.proofs.Common.{◌≡◌}
use Rattle.std.specs.FinMap.{get}
use Rattle.std.specs.Option.{option_or}
use Rattle.ak_base.specs.declared.names.Name.{Name}
use Rattle.ak_tables.specs.Tables.{AreNew, row_named}
use Rattle.ak_tables.proofs.loads.load_rows.Given as goal

-- what is there, and what is left put into it, is what there was with all rows put into it
abbrev pub invariant-loop-row : goal.invariant-loop-row
invariant-loop-row l =
    record {
      rows : (q : Name) → option_or (get l.keeper.kept.current.rows q) (row_named l.row-iterator.rest.items q) ≡ option_or (get l.initial.keeper.kept.current.rows q) (row_named l.fn.rows q);
      head : l.keeper.kept.current.head ≡ l.initial.keeper.kept.current.head;
      mark : l.keeper.kept.mark ≡ l.initial.keeper.kept.mark;
      fails : l.keeper.fails ≡ l.initial.keeper.fails;
      news : (AreNew l.keeper.kept.current.rows l.row-iterator.rest.items → AreNew l.initial.keeper.kept.current.rows l.fn.rows)
          × (AreNew l.initial.keeper.kept.current.rows l.fn.rows → AreNew l.keeper.kept.current.rows l.row-iterator.rest.items);
    }

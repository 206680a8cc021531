use Rattle.std.proofs.Common.{◌≡◌, ◌≤◌, ◌-◌, ◌++◌, length, filter, take}
use Rattle.std.specs.BTreeMap.Range.{entries_between}
use Rattle.std.specs.declared.ops.Bound.TheVariants.{Excluded, Unbounded}
use Rattle.ak_base.specs.Names.{name_cmp}
use Rattle.ak_keep.specs.Pages.{is_picked}
use Rattle.ak_memory.specs.Places.{held_run}
use Rattle.ak_memory.proofs.pages.page_of.Given as goal

-- the page so far, with what is left of the run as far as there is room, is the whole page
abbrev pub invariant-loop-name : goal.invariant-loop-name
invariant-loop-name l =
    record {
      whole : l.page ++ take (l.limit - length l.page) (filter (is_picked l.want) (held_run l.past.table l.name-iterator))
          ≡ take l.limit (filter (is_picked l.want) (held_run l.past.table (entries_between name_cmp (Excluded l.past) Unbounded l.places.entries)));
      fits : length l.page ≤ l.limit;
    }

use Rattle.std.proofs.Common.{◌≡◌, ◌++◌}
use Rattle.std.specs.List.{filter_map}
use Rattle.ak_keep.specs.Lookups.{as_note_type, as_deck, as_options}
use Rattle.ak_sync_rows.proofs.parts.changed_of.Given as goal

-- the rows of each kind so far and those that are left are all of the kind
abbrev pub invariant-loop-row : goal.invariant-loop-row
invariant-loop-row l = record {
  models : l.models ++ filter_map as_note_type l.row-iterator.rest.items ≡ filter_map as_note_type l.fn.rows.items;
  decks : l.decks ++ filter_map as_deck l.row-iterator.rest.items ≡ filter_map as_deck l.fn.rows.items;
  options : l.options ++ filter_map as_options l.row-iterator.rest.items ≡ filter_map as_options l.fn.rows.items;
}

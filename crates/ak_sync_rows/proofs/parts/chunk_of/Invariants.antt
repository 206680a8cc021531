use Rattle.std.proofs.Common.{◌≡◌, ◌++◌}
use Rattle.std.specs.List.{filter_map}
use Rattle.ak_keep.specs.Lookups.{as_card, as_note}
use Rattle.ak_session.specs.Messages.{as_review}
use Rattle.ak_sync_rows.proofs.parts.chunk_of.Given as goal

-- the rows of each kind so far and those that are left are all of the kind
abbrev pub invariant-loop-row : goal.invariant-loop-row
invariant-loop-row l = record {
  reviews : l.reviews ++ filter_map as_review l.row-iterator.rest.items ≡ filter_map as_review l.fn.rows.items;
  cards : l.cards ++ filter_map as_card l.row-iterator.rest.items ≡ filter_map as_card l.fn.rows.items;
  notes : l.notes ++ filter_map as_note l.row-iterator.rest.items ≡ filter_map as_note l.fn.rows.items;
}

use Rattle.std.proofs.Common.{◌≡◌, ◌++◌, filter}
use Rattle.ak_session.specs.Uploads.{is_plain}
use Rattle.ak_transfers.proofs.device_rows.without_graves.Given as goal

-- the rows so far and those that are left are those of all
abbrev pub invariant-loop-row : goal.invariant-loop-row
invariant-loop-row l = l.plain ++ filter is_plain l.row-iterator.rest.items ≡ filter is_plain l.fn.rows.items

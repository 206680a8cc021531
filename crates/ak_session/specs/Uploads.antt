-- What a device uploads.
use Rattle.std.specs.FinMap.{entries}
use Rattle.std.specs.Option.{option_and_then}
use Rattle.std.specs.Prelude.{pos, Bool, not, is_some, if◌then◌else◌, map, filter, Some, None}
use Rattle.ak_base.specs.Rows.{buried_of, with_usn}
use Rattle.ak_base.specs.declared.rows.Row.{Row}
use Rattle.ak_keep.specs.Collections.{Collection}
use Rattle.ak_keep.specs.Graves.{RowsByName}
use Rattle.ak_messages.specs.declared.requests.Whole.{Whole}

-- a row that is no grave
abbrev pub is_plain : Row → Bool
is_plain row = not (is_some (buried_of row))

-- a device's collection as it is uploaded: its rows but the graves, its tags, and its head but for the usn, which is 0, and the
-- moment of the last sync. The server gives each row and tag the usn 0
abbrev pub whole_to_send : Collection → Whole
whole_to_send c = record {
  rows = filter is_plain (map (λ entry. entry.1) (entries c.rows));
  crt = c.head.crt;
  moment = c.head.moment;
  schema = c.head.schema;
  usn = pos 0;
  conf = c.head.conf;
  tags = c.head.tags;
}

-- what stands under each name but the graves', with the usn 0
abbrev pub without_graves : RowsByName → RowsByName
without_graves at name =
    option_and_then (λ (row : Row). if is_some (buried_of row) then None else Some (with_usn row (pos 0))) (at name)

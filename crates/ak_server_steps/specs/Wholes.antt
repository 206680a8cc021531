-- All rows of a collection, table by table.
use Rattle.std.specs.Prelude.{pos, List}
use Rattle.ak_base.specs.declared.heads.Head.{Head}
use Rattle.ak_base.specs.declared.names.Table.{Table}
use Rattle.ak_base.specs.declared.rows.Row.{Row}
use Rattle.ak_keep.specs.Collections.{Rows, rows_past}
use Rattle.ak_messages.specs.declared.requests.Whole.{Whole}

-- the rows of a table, by id. Ids are over 0
abbrev pub rows_in : Table → Rows → List Row
rows_in table held = rows_past table (pos 0) held

-- the whole collection of these rows and this head
abbrev pub whole_given_with : List Row → Head → Whole
whole_given_with rows head = record {
  rows = rows;
  crt = head.crt;
  moment = head.moment;
  schema = head.schema;
  usn = head.usn;
  conf = head.conf;
  tags = head.tags;
}

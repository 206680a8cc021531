use Rattle.std.proofs.Common.{◌≡◌, map, drop}
use Rattle.httparse.specs.Borrowed.{header_parts}
use Rattle.ak_http_heads.specs.Fields.{values_of}
use Rattle.ak_http_heads.proofs.fields.first_value.Given as goal

-- no field so far has the name
abbrev pub invariant-loop-field : goal.invariant-loop-field
invariant-loop-field l =
    values_of l.name (map header_parts (drop l.field-index l.fields)) ≡ values_of l.name (map header_parts l.fields)

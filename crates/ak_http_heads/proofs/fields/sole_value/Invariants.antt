use Rattle.std.proofs.Common.{◌≡◌, map, drop, option_copied}
use Rattle.httparse.specs.Borrowed.{header_parts}
use Rattle.ak_http_heads.specs.Fields.{values_of}
use Rattle.ak_http_heads.proofs.Values.{listed}
use Rattle.ak_http_heads.proofs.fields.sole_value.Given as goal

-- of the fields so far, what was found is all that have the name
abbrev pub invariant-loop-field : goal.invariant-loop-field
invariant-loop-field l =
    values_of l.name (map header_parts l.fields)
    ≡ listed (option_copied l.found) (values_of l.name (map header_parts (drop l.field-index l.fields)))

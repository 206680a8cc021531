use Rattle.std.proofs.Common.{◌≡◌, map, drop}
use Rattle.httparse.specs.Borrowed.{header_parts}
use Rattle.ak_http_heads.specs.Heads.{is_compressed}
use Rattle.ak_http_heads.proofs.checks.is_compressed.Given as goal

-- no field so far tells another coding
abbrev pub invariant-loop-field : goal.invariant-loop-field
invariant-loop-field l = is_compressed (map header_parts (drop l.field-index l.fields)) ≡ is_compressed (map header_parts l.fields)

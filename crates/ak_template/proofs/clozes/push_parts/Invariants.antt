use Rattle.std.proofs.Common.{◌≡◌, ◌++◌, drop, string_bytes}
use Rattle.ak_template.specs.Clozes.{parts_text}
use Rattle.ak_template.proofs.clozes.push_parts.Given as goal

abbrev pub invariant-loop-part : goal.invariant-loop-part
invariant-loop-part l = string_bytes l.made ++ parts_text l.side.back l.side.card (drop l.part-index l.parts) ≡ parts_text l.side.back l.side.card l.parts

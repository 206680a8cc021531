use Rattle.std.proofs.Common.{◌≡◌, length}
use denote.Text.{Utf8}
use denote.Shadow.{shadow}
use Rattle.ak_template.specs.Pieces.{field_parts, field_tag}
use Rattle.ak_template.proofs.Colons.{colon_parts}
use Rattle.ak_template.proofs.tags.read_field.Given as goal

-- the filters that were read, with the parts that are left, are the tag of the inside
abbrev pub invariant-loop-filter : goal.invariant-loop-filter
invariant-loop-filter l = shadow (Utf8 l.rest) × (field_parts l.filters (colon_parts l.rest) ≡ field_tag l.inside)

abbrev pub decreases-loop-filter : goal.decreases-loop-filter
decreases-loop-filter l = length l.rest

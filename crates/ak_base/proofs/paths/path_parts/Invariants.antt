use Rattle.std.proofs.Common.{◌≡◌, ◌++◌, length, map}
use denote.Text.{Utf8}
use denote.Shadow.{shadow}
use Rattle.ak_base.specs.Paths.{parts_of}
use Rattle.ak_base.proofs.paths.path_parts.Given as goal

-- the parts so far, and those of what is left, are all
abbrev pub invariant-loop-part : goal.invariant-loop-part
invariant-loop-part l = shadow (Utf8 l.rest) × (map (λ part. part.now) l.parts.items ++ parts_of l.rest ≡ parts_of l.fn.path)

abbrev pub decreases-loop-part : goal.decreases-loop-part
decreases-loop-part l = length l.rest

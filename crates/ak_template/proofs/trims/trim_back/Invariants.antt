use Rattle.std.proofs.Common.{◌≡◌, length}
use denote.Text.{Utf8}
use denote.Shadow.{shadow}
use Rattle.ak_template.specs.Pieces.{without_back}
use Rattle.ak_template.proofs.trims.trim_back.Given as goal

abbrev pub invariant-loop-others : goal.invariant-loop-others
invariant-loop-others l = shadow (Utf8 l.rest) × (without_back l.rest ≡ without_back l.text)

abbrev pub decreases-loop-others : goal.decreases-loop-others
decreases-loop-others l = length l.rest

use Rattle.std.proofs.Common.{◌≡◌, ◌<◌, ◌≤◌, length}
use denote.Text.{Utf8}
use denote.Shadow.{shadow}
use Rattle.ak_template.specs.Clozes.{number_at}
use Rattle.ak_template.proofs.clozes.read_number.Given as goal

abbrev pub invariant-loop-behind : goal.invariant-loop-behind
invariant-loop-behind l = shadow (Utf8 l.rest) × record { small : l.number < 501; within : length l.rest ≤ length l.text; same : number_at l.number l.rest ≡ number_at 0 l.text }

abbrev pub decreases-loop-behind : goal.decreases-loop-behind
decreases-loop-behind l = length l.rest

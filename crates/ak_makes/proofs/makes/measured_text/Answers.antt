use Rattle.std.proofs.Common.{List, ℕ, ap, ◌∙◌}
use Rattle.ak_makes.proofs.makes.measured_text.Goals as goal
use Rattle.ak_makes.specs.MakeLines.{measured_text}

pub returns : goal.returns
returns c = (
  c.in_ok-outcome.outcome,
  c.in_ok-outcome.ensures,
  c.in_ok-text.ensures ∙ ap (λ (outcome : List ℕ). measured_text c.args.measured.now outcome) c.as_str.ensures,
)

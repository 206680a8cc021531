use Rattle.std.proofs.Common.{◌∷◌, ℕ, List, ◌∙◌, ap, arith}
use Rattle.std.specs.Int.{w64, from_be_bytes}
use Rattle.ak_journal_forms.specs.Frames.{length_said}
use Rattle.ak_journal_forms.proofs.gates.read_gate.Goals as goal

pub returns-then-gate-eq-OPEN : goal.returns-then-gate-eq-OPEN
unfolding length_said
returns-then-gate-eq-OPEN c =
    let chunk = c.in_ok-head.ensures.cases in
    let first = c.in_ok-gate.ensures.cases in (
      c.in_ok-gate.behind.now,
      first.0 ∙ ap (λ (gate : ℕ). gate ∷ c.in_ok-gate.behind.now) c.if-gate-eq-OPEN.true,
      omega (arith, chunk.2),
      c.from_be_bytes.ensures ∙ ap (λ (bytes : List ℕ). from_be_bytes w64 bytes) chunk.0,
    )

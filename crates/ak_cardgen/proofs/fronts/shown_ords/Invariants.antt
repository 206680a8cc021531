use Rattle.std.proofs.Common.{List}
use Rattle.ak_base.specs.declared.note_types.CardTemplate.{CardTemplate}
use Rattle.ak_cardgen.specs.Generation.{AreFronts}
use Rattle.ak_cardgen.proofs.Generating.{ShowsOn}
use Rattle.ak_cardgen.proofs.fronts.shown_ords.Given as goal

-- with the ords of the other templates, those so far are the ords
abbrev pub invariant-loop-place : goal.invariant-loop-place
invariant-loop-place l = (templates : List CardTemplate) → AreFronts templates l.fronts → ShowsOn l.face l.place templates l.ords

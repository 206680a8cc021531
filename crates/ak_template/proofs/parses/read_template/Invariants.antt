use Rattle.std.proofs.Common.{◌≡◌, ◌≤◌, ◌++◌, length}
use denote.Text.{Utf8}
use denote.Shadow.{shadow}
use Rattle.ak_template.specs.Pieces.{pieces, pieces_in, steps_in}
use Rattle.ak_template.specs.Grammar.{fault_in, first_fault}
use Rattle.ak_template.proofs.parses.read_template.Given as goal

-- what is left of the text, behind what was read, has the faults and the steps of the whole
abbrev pub invariant-loop-before : goal.invariant-loop-before
invariant-loop-before l =
    shadow (Utf8 l.rest) × record {
      within : length l.rest ≤ length l.text;
      faults : fault_in l.builder.sections.items (pieces_in (length l.rest) (length l.text) l.rest) ≡ first_fault l.text;
      steps : l.builder.steps.items ++ steps_in (pieces_in (length l.rest) (length l.text) l.rest) ≡ steps_in (pieces l.text);
    }

abbrev pub decreases-loop-before : goal.decreases-loop-before
decreases-loop-before l = length l.rest

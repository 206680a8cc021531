use Rattle.ak_any_lines.proofs.LineSeries.{line_steps}
use Rattle.ak_any_lines.proofs.series_laws.any_lines_are_steps.Goals as goal

pub returns : goal.returns
returns c =
    line_steps (record {
      home = c.filtered_edits_are_admitted.ensures.home;
      emptied = c.filtered_edits_are_admitted.ensures.emptied;
      built = c.filtered_edits_are_admitted.ensures.built;
      made = c.filtered_edits_are_admitted.ensures.made;
      early = c.early_answers_are_admitted.ensures;
      single = c.lines_are_single_steps.ensures;
    })

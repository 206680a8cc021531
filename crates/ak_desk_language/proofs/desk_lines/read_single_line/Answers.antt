use Rattle.ak_desk_language.proofs.Saying.{line_says, line_within, line_refused}
use Rattle.ak_desk_language.proofs.desk_lines.read_single_line.Goals as goal

pub returns-clause-ok : goal.returns-clause-ok
returns-clause-ok c = line_says c.args.line.now c.read_form.result c.read_form.ensures.ok

pub returns-clause-range : goal.returns-clause-range
returns-clause-range c = line_within c.args.line.now c.read_form.result c.read_form.ensures.ok

pub returns-clause-err : goal.returns-clause-err
returns-clause-err c = line_refused c.args.line.now c.read_form.result c.read_form.ensures.err

use Rattle.ak_desk_language.proofs.AnySaying.{any_refused, any_says}
use Rattle.ak_desk_language.proofs.any_lines.read_line.Goals as goal

pub returns-clause-ok : goal.returns-clause-ok
returns-clause-ok c = any_says c.args.line.now c.read_any.result c.read_any.ensures.ok

pub returns-clause-err : goal.returns-clause-err
returns-clause-err c = any_refused c.args.line.now c.read_any.result c.read_any.ensures.err

use Rattle.ak_search.proofs.Levels.{row_behind}
use Rattle.ak_search.proofs.matching.read_on.Goals as goal

pub returns-clause-row : goal.returns-clause-row
returns-clause-row c = λ text at.
    row_behind c.args.pattern.now c.args.row.now c.advance_by.new.row text c.args.part.now c.in_ok-letters.letters.items c.utf8.part c.in_ok-letters.ensures
    (rw c.deref.ensures.value at c.advance_by.ensures.row) at

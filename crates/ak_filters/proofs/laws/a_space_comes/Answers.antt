use Rattle.ak_filters.proofs.Stripping.{mark_replaced, unmarked_stays}
use Rattle.ak_filters.proofs.laws.a_space_comes.Goals as goal

pub returns-clause-space : goal.returns-clause-space
returns-clause-space c = mark_replaced

pub returns-clause-none : goal.returns-clause-none
returns-clause-none c = unmarked_stays

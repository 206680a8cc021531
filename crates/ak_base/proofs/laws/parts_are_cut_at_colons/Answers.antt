use Rattle.std.proofs.Common.{[]}
use Rattle.ak_base.proofs.Pathways.{parts_first, parts_last}
use Rattle.ak_base.proofs.laws.parts_are_cut_at_colons.Goals as goal

pub returns-clause-cut : goal.returns-clause-cut
returns-clause-cut c = λ path h. parts_first [] path h

pub returns-clause-whole : goal.returns-clause-whole
returns-clause-whole c = λ path h. parts_last [] path h

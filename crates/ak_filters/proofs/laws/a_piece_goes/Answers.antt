use Rattle.ak_filters.proofs.Stripping.{piece_removed, unclosed_stays}
use Rattle.ak_filters.proofs.laws.a_piece_goes.Goals as goal

pub returns-clause-piece : goal.returns-clause-piece
returns-clause-piece c = piece_removed

pub returns-clause-none : goal.returns-clause-none
returns-clause-none c = unclosed_stays

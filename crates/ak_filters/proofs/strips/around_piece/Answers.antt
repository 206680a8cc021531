use Rattle.ak_filters.proofs.Stripping.{plain_stays, unclosed_piece, piece_between}
use Rattle.ak_filters.proofs.strips.around_piece.Goals as goal

pub returns-in_err-kept-clause-none : goal.returns-in_err-kept-clause-none
returns-in_err-kept-clause-none c = rw c.from_residual.ensures (plain_stays c.args.text.now c.in_err-kept.ensures.none)

pub returns-in_err-others-clause-none : goal.returns-in_err-others-clause-none
returns-in_err-others-clause-none c = rw c.from_residual-in_err-others.ensures (unclosed_piece c.args.text.now c.in_ok-kept.piece.now c.in_ok-kept.ensures.behind c.in_err-others.ensures.none)

pub returns-clause-steps : goal.returns-clause-steps
returns-clause-steps c = piece_between c.args.text.now c.in_ok-kept.kept.now c.in_ok-kept.piece.now c.in_ok-others.others.now c.in_ok-kept.ensures.front c.in_ok-kept.ensures.behind c.in_ok-others.ensures.has c.in_ok-others.ensures.behind

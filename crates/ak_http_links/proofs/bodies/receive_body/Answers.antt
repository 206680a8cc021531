use Rattle.std.proofs.lemmas.Result.{err_from_is_err_and}
use Rattle.ak_http_links.proofs.BodyReads.{piece_fails}
use Rattle.ak_http_links.proofs.bodies.receive_body.Goals as goal

pub returns-in_err-receive_piece-clause-told : goal.returns-in_err-receive_piece-clause-told
returns-in_err-receive_piece-clause-told g c =
    let p = err_from_is_err_and c.from_residual-in_err-receive_piece.result c.from_residual-in_err-receive_piece.ensures.1 in
    rw (p.1, p.2) (piece_fails _ 0 _ _ _ _ _ _ c.loop-body.invariant.so_far c.in_err-receive_piece.ensures.told)

use Rattle.std.proofs.Common.{◌<◌, ◌++◌, arith, length, sym, ap, ◌∙◌, subst}
use Rattle.std.proofs.KnownBytes.{Consumes-kept}
use Rattle.ak_faults.proofs.Healths.{goes_further}
use Rattle.std.proofs.lemmas.List.{length-append}
use Rattle.ak_io.specs.Lines.{as_read}
use Rattle.ak_io.specs.Reads.{TakesPiece, IsTaken}
use Rattle.ak_io.specs.declared.readers.Piece.{Piece}
use Rattle.ak_io.proofs.FirstLines.{unended, joined_unended, size_of_ended}
use Rattle.ak_io.proofs.Readings.{spends_line, told_ended, told_last, told_past, consumes_more}
use Rattle.ak_io.proofs.readers.read_line.Goals as goal

pub returns-then-not-branch-clause-told : goal.returns-then-not-branch-clause-told
returns-then-not-branch-clause-told g c =
    let (done, open_line, kept, room, consumed) = c.loop-line.invariant.0 in
    let (none, end) = c.in_ok-fill.ensures.none c.if-not-branch.true in
    let above : 0 < length done = omega (arith, c.if-left-room.false) in
    told_last _ _ _ _ done _ _ _ open_line room (Consumes-kept _ _ _ done consumed c.in_ok-fill.ensures.kept) none end above
    (c.into_line.ensures ∙ kept)

pub returns-in-Ended-clause-told : goal.returns-in-Ended-clause-told
returns-in-Ended-clause-told g c =
    let (done, open_line, kept, room, consumed) = c.loop-line.invariant.0 in
    let step = subst (λ (p : Piece). TakesPiece c.fill.new.self c.take_piece.new.window c.loop-line.left p) c.in-Ended.is c.in_ok-rest.ensures.piece in
    let taken_now = subst (λ (p : Piece). IsTaken p) (sym c.in-Ended.is) tt in
    told_ended _ _ _ c.fill.new.self c.take_piece.new.window done _ _ _ _ open_line room (Consumes-kept _ _ _ done consumed c.in_ok-fill.ensures.kept) step.0 step.1 step.2
    (c.into_line-in-Ended.ensures ∙ c.in_ok-rest.ensures.line taken_now done kept)

pub returns-in-Ended-clause-room : goal.returns-in-Ended-clause-room
returns-in-Ended-clause-room g c =
    let (done, open_line, kept, room, consumed) = c.loop-line.invariant.0 in
    let step = subst (λ (p : Piece). TakesPiece c.fill.new.self c.take_piece.new.window c.loop-line.left p) c.in-Ended.is c.in_ok-rest.ensures.piece in
    let taken_now = subst (λ (p : Piece). IsTaken p) (sym c.in-Ended.is) tt in
    spends_line _ _ _ _ (c.into_line-in-Ended.ensures ∙ c.in_ok-rest.ensures.line taken_now done kept)
    (omega (arith, step.2, size_of_ended c.fill.new.self step.0))

pub loop-line-preserved : goal.loop-line-preserved
loop-line-preserved g c =
    let (done, open_line, kept, room, consumed) = c.loop-line.invariant.0 in
    let step = subst (λ (p : Piece). TakesPiece c.fill.new.self c.take_piece.new.window c.loop-line.left p) c.in-More.is c.in_ok-rest.ensures.piece in
    let taken_now = subst (λ (p : Piece). IsTaken p) (sym c.in-More.is) tt in
    let ahead = c.fill.new.self in
    let whole = unended ahead step.0 in (
      (
        done ++ ahead,
        (joined_unended done ahead open_line).feed ∙ step.0,
        c.in_ok-rest.ensures.line taken_now done kept ∙ ap (λ l. as_read (done ++ l)) whole.line,
        omega (arith, length-append done ahead, step.2),
        consumes_more _ _ ahead _ done (Consumes-kept _ _ _ done consumed c.in_ok-fill.ensures.kept) step.1,
      ),
      goes_further c.loop-line.invariant.1 c.in_ok-fill.ensures.cause.goes,
    )

pub returns-in-Past-clause-told : goal.returns-in-Past-clause-told
returns-in-Past-clause-told g c =
    let (done, open_line, kept, room, consumed) = c.loop-line.invariant.0 in
    let step = subst (λ (p : Piece). TakesPiece c.fill.new.self c.take_piece.new.window c.loop-line.left p) c.in-Past.is c.in_ok-rest.ensures.piece in
    told_past _ _ _ c.fill.new.self done _ _ _ open_line room (Consumes-kept _ _ _ done consumed c.in_ok-fill.ensures.kept) step

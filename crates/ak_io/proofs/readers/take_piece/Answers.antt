use Rattle.std.proofs.Common.{◌≡◌, ℕ, List, ◌++◌, arith, length, take, drop, ap, ◌∙◌}
use Rattle.std.proofs.lemmas.List.{length-take}
use Rattle.ak_io.specs.Lines.{first_line, first_size, as_read}
use Rattle.ak_io.proofs.FirstLines.{take_first, drop_first, size_le, line_le_size, unended, ended_by_size, unended_by_size}
use Rattle.ak_io.proofs.readers.take_piece.Goals as goal

-- the front that is appended is the first line
front : (ahead window : List ℕ) (n : ℕ) → ahead ≡ window → n ≡ length (first_line ahead) → take n ahead ≡ first_line window
front ahead window n same line = ap (λ k. take k ahead) line ∙ take_first ahead ∙ ap first_line same

pub slice_bounds-append-end : goal.slice_bounds-append-end
slice_bounds-append-end c =
    let ahead = c.bytes-ahead.result.now in
    let sizes = c.first_piece-length.ensures in
    omega (arith, length-take c.first_piece-length.result.0 ahead, size_le ahead, line_le_size ahead, sizes.line)

pub drop_front-requires : goal.drop_front-requires
drop_front-requires c =
    omega (arith, size_le c.bytes-ahead.result.now, c.first_piece-length.ensures.size, ap length c.bytes-ahead.ensures)

pub returns-then-length-size-clause-piece : goal.returns-then-length-size-clause-piece
returns-then-length-size-clause-piece c =
    let window = c.args.window.now in
    let line = c.first_piece-length.ensures.line ∙ ap (λ l. length (first_line l)) c.bytes-ahead.ensures in
    let size = c.first_piece-length.ensures.size ∙ ap first_size c.bytes-ahead.ensures in
    (ended_by_size window (omega arith), c.drop_front.ensures ∙ ap (λ k. drop k window) size ∙ drop_first window, omega arith)

pub returns-then-length-size-clause-line : goal.returns-then-length-size-clause-line
returns-then-length-size-clause-line c =
    λ _ done kept. c.in_ok-append.ensures done kept ∙ ap (λ l. as_read (done ++ l)) (front _ c.args.window.now _ c.bytes-ahead.ensures c.first_piece-length.ensures.line)

pub returns-clause-piece : goal.returns-clause-piece
returns-clause-piece c =
    let window = c.args.window.now in
    let line = c.first_piece-length.ensures.line ∙ ap (λ l. length (first_line l)) c.bytes-ahead.ensures in
    let size = c.first_piece-length.ensures.size ∙ ap first_size c.bytes-ahead.ensures in
    let open_line = unended_by_size window (omega arith) in
    let whole = unended window open_line in
    (open_line, c.drop_front.ensures ∙ ap (λ k. drop k window) size ∙ drop_first window ∙ whole.rest, omega (arith, whole.size))

pub returns-clause-line : goal.returns-clause-line
returns-clause-line c =
    λ _ done kept. c.in_ok-append.ensures done kept ∙ ap (λ l. as_read (done ++ l)) (front _ c.args.window.now _ c.bytes-ahead.ensures c.first_piece-length.ensures.line)

-- A buffer that begins later is the buffer without its front.
use Rattle.std.proofs.Common.{◌≡◌, ℕ, ◌+◌, ◌-◌, ◌≤◌, List, arith, take, drop, sym, ap, ◌∙◌}
use Rattle.std.proofs.lemmas.List.{drop-drop, drop-take, length-take}
use Rattle.ak_sockets.proofs.buffers.Buffer.take.Goals as goal

begins_later : (bytes : List ℕ) (start end count : ℕ) → count ≤ end - start
    → take (end - (start + count)) (drop (start + count) bytes) ≡ drop count (take (end - start) (drop start bytes))
begins_later bytes start end count fits =
    let size : count + (end - (start + count)) ≡ end - start = omega arith in
    ap (take (end - (start + count))) (sym (drop-drop count start bytes))
    ∙ sym (drop-take count (end - (start + count)) (drop start bytes))
    ∙ ap (λ n. drop count (take n (drop start bytes))) size

pub returns-clause-rest : goal.returns-clause-rest
returns-clause-rest c =
    let within = length-take (c.self.inside.end - c.self.inside.start) (drop c.self.inside.start c.self.inside.bytes) in
    let fits : c.copy_front-count.result ≤ c.self.inside.end - c.self.inside.start =
    omega (arith, within, c.copy_front-count.ensures.count) in
    begins_later c.self.inside.bytes c.self.inside.start c.self.inside.end c.copy_front-count.result fits
    ∙ ap (drop c.copy_front-count.result) c.self.view_is

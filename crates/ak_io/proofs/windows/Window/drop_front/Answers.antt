use Rattle.std.proofs.Common.{◌≡◌, ℕ, ◌+◌, ◌-◌, ◌≤◌, List, arith, length, take, drop, sym, ap, ◌∙◌}
use Rattle.std.proofs.lemmas.List.{drop-drop, drop-take, length-take}
use Rattle.ak_io.proofs.windows.Window.drop_front.Goals as goal

-- a window that begins later is the window without its front
begins_later : (buffer : List ℕ) (start end count : ℕ) → count ≤ end - start
    → take (end - (start + count)) (drop (start + count) buffer) ≡ drop count (take (end - start) (drop start buffer))
begins_later buffer start end count fits =
    let size : count + (end - (start + count)) ≡ end - start = omega arith in
    ap (take (end - (start + count))) (sym (drop-drop count start buffer)) ∙ sym (drop-take count (end - (start + count)) (drop start buffer))
    ∙ ap (λ n. drop count (take n (drop start buffer))) size

pub returns : goal.returns
returns c =
    let ahead = ap length c.self.view_is in
    let within = length-take (c.self.inside.end - c.self.inside.start) (drop c.self.inside.start c.self.inside.buffer.items) in
    begins_later c.self.inside.buffer.items c.self.inside.start c.self.inside.end c.args.count (omega arith) ∙ ap (drop c.args.count) c.self.view_is

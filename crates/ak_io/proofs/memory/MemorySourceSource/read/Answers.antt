use Rattle.std.proofs.Common.{◌≡◌, ℕ, ◌+◌, ◌-◌, List, [], ◌++◌, arith, length, take, drop, sym, ap, ◌∙◌, take-append-drop}
use Rattle.std.proofs.lemmas.List.{take_rest, drop-drop}
use Rattle.ak_io.proofs.memory.MemorySourceSource.read.Goals as goal

-- what is left is what was copied from its front, and the rest
given : (bytes slice left front : List ℕ) (taken n : ℕ) → slice ≡ bytes → drop taken bytes ≡ left
    → front ≡ take n (take (length slice - taken) (drop taken slice)) → left ≡ front ++ drop (taken + n) bytes
given bytes slice left front taken n same view copied =
    let whole = ap (λ (s : List ℕ). take (length s - taken) (drop taken s)) same ∙ take_rest bytes taken in
    sym view ∙ sym (take-append-drop n (drop taken bytes)) ∙ ap (λ l. l ++ drop n (drop taken bytes)) (sym (copied ∙ ap (take n) whole))
    ∙ ap (λ l. front ++ l) (drop-drop n taken bytes)

-- nothing was copied, since nothing is left
ended : (bytes slice : List ℕ) (taken n : ℕ) → slice ≡ bytes → n ≡ 0 → take (length slice - taken) (drop taken slice) ≡ [] → drop (taken + n) bytes ≡ []
ended bytes slice taken n same none empty =
    let stays : taken + n ≡ taken = omega arith in
    ap (λ k. drop k bytes) stays ∙ sym (ap (λ (s : List ℕ). take (length s - taken) (drop taken s)) same ∙ take_rest bytes taken) ∙ empty

pub returns-clause-bytes : goal.returns-clause-bytes
returns-clause-bytes c =
    let same = c.as_slice.ensures.value in
    let copied = c.copy_front-count.ensures in (
      given c.self.inside.bytes.items _ _ _ c.self.inside.taken _ same (ap (λ s. s.left) c.self.view_is) copied.front,
      λ none room. ended c.self.inside.bytes.items _ c.self.inside.taken _ same none (copied.ended none room),
    )

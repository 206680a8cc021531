-- Reading a file piece by piece.
use Rattle.std.proofs.Common.{◌≡◌, ℕ, ◌+◌, ◌-◌, ◌≤◌, List, ◌++◌, length, take, drop, refl, sym, ◌∙◌, ap, arith, length-append, length-drop}
use Rattle.std.proofs.lemmas.List.{take_all, take-append-le, length-take-le}
use Rattle.ak_journal_forms.proofs.Lists.{take_past, take_both}
use borrow.Rule.Slice.PartMut.{put_mid, post_of}

-- a piece that was read at its place goes one on
pub filled : (into part file : List ℕ) (done count : ℕ) → done ≤ length into → count ≤ length part → take done into ≡ take done file → take count part ≡ take count (drop done file)
    → take (done + count) (put_mid done (length into - done) into part) ≡ take (done + count) file
filled into part file done count within some before piece =
    take_past (take done into) (part ++ post_of done (length into - done) into) (done + count) count (omega (arith, length-take-le done into within))
    ∙ ap (λ (l : List ℕ). take done into ++ l) (take-append-le count part (post_of done (length into - done) into) some)
    ∙ ap (λ (l : List ℕ). l ++ take count part) before
    ∙ ap (λ (l : List ℕ). take done file ++ l) piece
    ∙ sym (take_both file (done + count) done count refl)

-- all of it was read
pub all_filled : (into file : List ℕ) (done : ℕ) → length into ≤ done → length file ≡ length into → take done into ≡ take done file → into ≡ file
all_filled into file done full same front = sym (take_all done into full) ∙ front ∙ take_all done file (omega (arith, same))

-- and keeps the length
pub length-put : (into part : List ℕ) (done : ℕ) → done ≤ length into → length part ≡ length into - done → length (put_mid done (length into - done) into part) ≡ length into
length-put into part done within same =
    omega (
      arith,
      same,
      length-append (take done into) (part ++ post_of done (length into - done) into),
      length-append part (post_of done (length into - done) into),
      length-take-le done into within,
      length-drop (length into - done) (drop done into),
      length-drop done into,
    )

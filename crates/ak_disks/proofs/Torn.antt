-- Files with other bytes in their middle.
use Rattle.std.proofs.Common.{◌≡◌, ℕ, ◌+◌, ◌-◌, ◌≤◌, List, ◌++◌, length, take, drop, refl, sym, ◌∙◌, ap, arith, append_assoc, length-append, length-drop}
use Rattle.std.proofs.lemmas.List.{take_at, drop_at, drop-drop, length-take-le}
use Rattle.ak_disks.specs.Disks.{IsTorn, overwritten}

module _ (place count n : ℕ) (mid old : List ℕ) (is : n ≡ place + length mid) (short : length mid ≤ count) (within : place ≤ length old) where
  front : List ℕ
  front = take place old ++ mid

  first : length (take place old) ≡ place
  first = length-take-le place old within

  size : length front ≡ n
  unfolding front
  size = omega (arith, length-append (take place old) mid, first)

  more : place + count ≡ n + (count - length mid)
  more = omega arith

  before : take place (front ++ drop n old) ≡ take place old
  unfolding front
  before = ap (λ (l : List ℕ). take place l) (append_assoc (take place old) mid (drop n old)) ∙ take_at (take place old) (mid ++ drop n old) place first

  behind : drop (place + count) (front ++ drop n old) ≡ drop (place + count) old
  behind =
      ap (λ (k : ℕ). drop k (front ++ drop n old)) more
      ∙ sym (drop-drop (count - length mid) n (front ++ drop n old))
      ∙ ap (λ (l : List ℕ). drop (count - length mid) l) (drop_at front (drop n old) n size)
      ∙ drop-drop (count - length mid) n old
      ∙ ap (λ (k : ℕ). drop k old) (sym more)

  total : length (front ++ drop n old) ≡ n + (length old - n)
  total = omega (arith, length-append front (drop n old), size, length-drop n old)

  -- bytes in the middle, no more than the range holds, leave it torn
  pub torn_middle : IsTorn place count old (take place old ++ mid ++ drop n old)
  unfolding front
  torn_middle = record { before = before; behind = behind; no_shorter = omega (arith, total); no_longer = omega (arith, total) }

-- so does the whole write
pub torn_whole : (place : ℕ) (bytes old : List ℕ) → place ≤ length old → IsTorn place (length bytes) old (overwritten place bytes old)
torn_whole place bytes old within = torn_middle place (length bytes) (place + length bytes) bytes old refl (omega arith) within

-- and nothing of it
pub torn_nothing : (place count : ℕ) (old : List ℕ) → IsTorn place count old old
torn_nothing place count old = record { before = refl; behind = refl; no_shorter = omega arith; no_longer = omega arith }

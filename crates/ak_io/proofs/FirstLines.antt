-- What joins a reader of lines, which goes from the front, with the lines of the whole text.
use Rattle.std.proofs.Common.{◌≡◌, ℕ, ◌+◌, ◌-◌, ◌<◌, ◌≤◌, zero, suc, Bool, true, false, cond, List, [], ◌∷◌, ◌++◌, arith, length, take, drop, refl, sym, ap, ◌∙◌, add-one}
use Rattle.std.specs.Prelude.{if◌then◌else◌, map, nat_lt, ◌||◌}
use Rattle.std.specs.List.{count_by}
use Rattle.std.proofs.lemmas.Bool.{eqb-true, lt-ltb, le-ltb}
use Rattle.std.proofs.lemmas.Bool.Decides.{nat_tests}
use Rattle.std.proofs.lemmas.List.{length-append}
use Rattle.std.proofs.lemmas.List.Sums.{sum_by-append, sum_by-cons}
use Rattle.std.proofs.Math.Seq.{take-append-add}
use Rattle.ak_io.specs.declared.lines.Line.TheVariants.{PastInput}
use Rattle.ak_io.specs.Lines.{is_line_feed, begun_with, lines_of, ended_lines, as_read, lines_within, has_feed, first_line, behind, first_size}

-- ---- the first line

pub take_first : (xs : List ℕ) → take (length (first_line xs)) xs ≡ first_line xs
take_first [] = refl
take_first (x ∷ xs) =
    elim (is_line_feed x) as (λ t. take (length (if t then [] else x ∷ first_line xs)) (x ∷ xs) ≡ (if t then [] else x ∷ first_line xs))
    [ true ↦ refl | false ↦ ap (λ l. x ∷ l) (take_first xs) ]

pub drop_first : (xs : List ℕ) → drop (first_size xs) xs ≡ behind xs
drop_first [] = refl
drop_first (x ∷ xs) =
    elim (is_line_feed x) as (λ t. drop (if t then 1 else first_size xs + 1) (x ∷ xs) ≡ (if t then xs else behind xs))
    [ true ↦ refl | false ↦ rw add-one (drop_first xs) ]

pub size_of_ended : (xs : List ℕ) → has_feed xs ≡ true → first_size xs ≡ length (first_line xs) + 1
size_of_ended [] h = cc
size_of_ended (x ∷ xs) h =
    elim (is_line_feed x) as (λ t. (t || has_feed xs) ≡ true → (if t then 1 else first_size xs + 1) ≡ length (if t then [] else x ∷ first_line xs) + 1)
    [ true ↦ λ e. refl | false ↦ λ e. let more = size_of_ended xs e in omega arith ] h

pub record Unended (xs : List ℕ) : Type 0 where
  pub line : first_line xs ≡ xs
  pub rest : behind xs ≡ []
  pub size : first_size xs ≡ length xs

pub unended : (xs : List ℕ) → has_feed xs ≡ false → Unended xs
unended [] h = record { line = refl; rest = refl; size = refl }
unended (x ∷ xs) h =
    let split : (t : Bool) → (t || has_feed xs) ≡ false
    → ((if t then [] else x ∷ first_line xs) ≡ x ∷ xs) × ((if t then xs else behind xs) ≡ []) × ((if t then 1 else first_size xs + 1) ≡ length (x ∷ xs)) =
    elim [
      | true ↦ λ e. cc
      | false ↦ λ e. let more = unended xs e in (ap (λ l. x ∷ l) more.line, more.rest, omega (arith, more.size))
    ] in
    let all = split (is_line_feed x) h in
    record { line = all.0; rest = all.1; size = all.2 }

-- ---- a part of the bytes, and what follows it

pub record JoinedEnded (xs ys : List ℕ) : Type 0 where
  pub line : first_line (xs ++ ys) ≡ first_line xs
  pub rest : behind (xs ++ ys) ≡ behind xs ++ ys
  pub size : first_size (xs ++ ys) ≡ first_size xs

-- a line feed in the part ends the first line there
pub joined_ended : (xs ys : List ℕ) → has_feed xs ≡ true → JoinedEnded xs ys
joined_ended [] ys h = cc
joined_ended (x ∷ xs) ys h =
    let split : (t : Bool) → (t || has_feed xs) ≡ true
    → ((if t then [] else x ∷ first_line (xs ++ ys)) ≡ (if t then [] else x ∷ first_line xs))
    × ((if t then xs ++ ys else behind (xs ++ ys)) ≡ (if t then xs else behind xs) ++ ys)
    × ((if t then 1 else first_size (xs ++ ys) + 1) ≡ (if t then 1 else first_size xs + 1)) =
    elim [
      | true ↦ λ e. (refl, refl, refl)
      | false ↦ λ e. let more = joined_ended xs ys e in (ap (λ l. x ∷ l) more.line, more.rest, ap (λ n. n + 1) more.size)
    ] in
    let all = split (is_line_feed x) h in
    record { line = all.0; rest = all.1; size = all.2 }

pub record JoinedUnended (xs ys : List ℕ) : Type 0 where
  pub line : first_line (xs ++ ys) ≡ xs ++ first_line ys
  pub rest : behind (xs ++ ys) ≡ behind ys
  pub size : first_size (xs ++ ys) ≡ length xs + first_size ys
  pub feed : has_feed (xs ++ ys) ≡ has_feed ys

-- a part with no line feed begins the first line
pub joined_unended : (xs ys : List ℕ) → has_feed xs ≡ false → JoinedUnended xs ys
joined_unended [] ys h = record { line = refl; rest = refl; size = omega arith; feed = refl }
joined_unended (x ∷ xs) ys h =
    let split : (t : Bool) → (t || has_feed xs) ≡ false
    → ((if t then [] else x ∷ first_line (xs ++ ys)) ≡ x ∷ (xs ++ first_line ys))
    × ((if t then xs ++ ys else behind (xs ++ ys)) ≡ behind ys)
    × ((if t then 1 else first_size (xs ++ ys) + 1) ≡ length (x ∷ xs) + first_size ys)
    × ((t || has_feed (xs ++ ys)) ≡ has_feed ys) =
    elim [
      | true ↦ λ e. cc
      | false ↦ λ e. let more = joined_unended xs ys e in (ap (λ l. x ∷ l) more.line, more.rest, omega (arith, more.size), more.feed)
    ] in
    let all = split (is_line_feed x) h in
    record { line = all.0; rest = all.1; size = all.2; feed = all.3 }

-- ---- the first line, its line feed and what is behind it

-- bytes with a line feed are the first line, its line feed and what is behind
pub split_ended : (xs : List ℕ) → has_feed xs ≡ true → xs ≡ first_line xs ++ 10 ∷ behind xs
split_ended [] h = cc
split_ended (x ∷ xs) h =
    elim (is_line_feed x) as (λ t. is_line_feed x ≡ t → (t || has_feed xs) ≡ true → x ∷ xs ≡ (if t then [] else x ∷ first_line xs) ++ 10 ∷ (if t then xs else behind xs))
    [ true ↦ λ feed e. ap (λ b. b ∷ xs) (eqb-true x 10 feed) | false ↦ λ feed e. ap (λ l. x ∷ l) (split_ended xs e) ] refl h

pub line_has_no_feed : (xs : List ℕ) → has_feed (first_line xs) ≡ false
line_has_no_feed [] = refl
line_has_no_feed (x ∷ xs) =
    elim (is_line_feed x) as (λ t. is_line_feed x ≡ t → has_feed (if t then [] else x ∷ first_line xs) ≡ false)
    [ true ↦ λ feed. refl | false ↦ λ feed. ap (λ t. t || has_feed (first_line xs)) feed ∙ line_has_no_feed xs ] refl

pub size_le : (xs : List ℕ) → first_size xs ≤ length xs
size_le [] = omega arith
size_le (x ∷ xs) =
    elim (is_line_feed x) as (λ t. (if t then 1 else first_size xs + 1) ≤ length (x ∷ xs))
    [ true ↦ omega arith | false ↦ omega (arith, size_le xs) ]

-- what the two sizes of the first line tell
pub ended_by_size : (xs : List ℕ) → length (first_line xs) < first_size xs → has_feed xs ≡ true
ended_by_size xs h =
    elim (has_feed xs) as (λ t. has_feed xs ≡ t → t ≡ true)
    [ true ↦ λ e. refl | false ↦ λ e. let whole = unended xs e in absurd (omega (arith, ap length whole.line, whole.size)) ] refl

pub unended_by_size : (xs : List ℕ) → first_size xs ≤ length (first_line xs) → has_feed xs ≡ false
unended_by_size xs h =
    elim (has_feed xs) as (λ t. has_feed xs ≡ t → t ≡ false)
    [ true ↦ λ e. absurd (omega (arith, size_of_ended xs e)) | false ↦ λ e. refl ] refl

pub line_le_size : (xs : List ℕ) → length (first_line xs) ≤ first_size xs
line_le_size [] = omega arith
line_le_size (x ∷ xs) =
    elim (is_line_feed x) as (λ t. length (if t then [] else x ∷ first_line xs) ≤ (if t then 1 else first_size xs + 1))
    [ true ↦ omega arith | false ↦ omega (arith, line_le_size xs) ]

-- ---- the lines of the whole text, and those that a line feed ends

lines_joined : (xs ys : List ℕ) → has_feed xs ≡ false → lines_of (xs ++ 10 ∷ ys) ≡ xs ∷ lines_of ys
lines_joined [] ys h = refl
lines_joined (x ∷ xs) ys h =
    elim (is_line_feed x) as (λ t. (t || has_feed xs) ≡ false
    → (if t then [] ∷ lines_of (xs ++ 10 ∷ ys) else begun_with x (lines_of (xs ++ 10 ∷ ys))) ≡ (x ∷ xs) ∷ lines_of ys)
    [ true ↦ λ e. cc | false ↦ λ e. ap (begun_with x) (lines_joined xs ys e) ] h

lines_single : (x : ℕ) (xs : List ℕ) → has_feed (x ∷ xs) ≡ false → lines_of (x ∷ xs) ≡ (x ∷ xs) ∷ []
lines_single x [] h =
    elim (is_line_feed x) as (λ t. (t || false) ≡ false → (if t then [] ∷ [] else (x ∷ []) ∷ []) ≡ (x ∷ []) ∷ [])
    [ true ↦ λ e. cc | false ↦ λ e. refl ] h
lines_single x (y ∷ ys) h =
    elim (is_line_feed x) as (λ t. (t || has_feed (y ∷ ys)) ≡ false
    → (if t then [] ∷ lines_of (y ∷ ys) else begun_with x (lines_of (y ∷ ys))) ≡ (x ∷ y ∷ ys) ∷ [])
    [ true ↦ λ e. cc | false ↦ λ e. ap (begun_with x) (lines_single y ys e) ] h

count_none : (xs : List ℕ) → has_feed xs ≡ false → count_by is_line_feed xs ≡ 0
count_none [] h = refl
count_none (x ∷ xs) h =
    sum_by-cons (λ y. cond (is_line_feed y) 1 0) x xs
    ∙ elim (is_line_feed x) as (λ t. (t || has_feed xs) ≡ false → cond t 1 0 + count_by is_line_feed xs ≡ 0)
    [ true ↦ λ e. cc | false ↦ λ e. let more = count_none xs e in omega arith ] h

count_joined : (xs ys : List ℕ) → has_feed xs ≡ false → count_by is_line_feed (xs ++ 10 ∷ ys) ≡ count_by is_line_feed ys + 1
count_joined xs ys h =
    let step : count_by is_line_feed (10 ∷ ys) ≡ 1 + count_by is_line_feed ys = sum_by-cons (λ y. cond (is_line_feed y) 1 0) 10 ys in
    sum_by-append (λ x. cond (is_line_feed x) 1 0) xs (10 ∷ ys) ∙ omega (arith, step, count_none xs h)

ended_none : (xs : List ℕ) → has_feed xs ≡ false → ended_lines xs ≡ []
ended_none xs h = ap (λ n. take n (lines_of xs)) (count_none xs h)

ended_joined : (xs ys : List ℕ) → has_feed xs ≡ false → ended_lines (xs ++ 10 ∷ ys) ≡ xs ∷ ended_lines ys
ended_joined xs ys h =
    ap (λ n. take n (lines_of (xs ++ 10 ∷ ys))) (count_joined xs ys h ∙ add-one _) ∙ ap (take (suc (count_by is_line_feed ys))) (lines_joined xs ys h)

-- ---- the lines of an input, from the front

no_feed_within : (room : ℕ) (xs : List ℕ) → room < first_size xs → has_feed (take room xs) ≡ false
no_feed_within zero xs h = refl
no_feed_within (suc room) [] h = absurd (omega arith)
no_feed_within (suc room) (x ∷ xs) h =
    elim (is_line_feed x) as (λ t. suc room < (if t then 1 else first_size xs + 1) → (t || has_feed (take room xs)) ≡ false)
    [ true ↦ λ e. absurd (omega arith) | false ↦ λ e. no_feed_within room xs (omega arith) ] h

pub none_within : (room : ℕ) → lines_within room [] ≡ []
none_within room = ap (λ t. if t then map as_read (ended_lines (take room [])) ++ PastInput ∷ [] else []) (le-ltb room 0 (omega arith))

-- the input ends within the first line
pub past_within : (room : ℕ) (xs : List ℕ) → room < first_size xs → lines_within room xs ≡ PastInput ∷ []
past_within room xs h =
    ap (λ t. if t then map as_read (ended_lines (take room xs)) ++ PastInput ∷ [] else map as_read (lines_of xs)) (lt-ltb room (length xs) (omega (arith, size_le xs)))
    ∙ ap (λ l. map as_read l ++ PastInput ∷ []) (ended_none (take room xs) (no_feed_within room xs h))

within_ended : (room : ℕ) (line rest : List ℕ) → has_feed line ≡ false → length line + 1 ≤ room
    → lines_within room (line ++ 10 ∷ rest) ≡ as_read line ∷ lines_within (room - (length line + 1)) rest
within_ended room line rest h fits =
    let left = room - (length line + 1) in
    let same : nat_lt room (length (line ++ 10 ∷ rest)) ≡ nat_lt left (length rest) = grind (arith, nat_tests, length-append line (10 ∷ rest)) in
    let whole : room ≡ length line + suc left = omega arith in
    let front : take room (line ++ 10 ∷ rest) ≡ line ++ 10 ∷ take left rest =
    ap (λ n. take n (line ++ 10 ∷ rest)) whole ∙ take-append-add line (10 ∷ rest) (suc left) in
    ap (λ t. if t then map as_read (ended_lines (take room (line ++ 10 ∷ rest))) ++ PastInput ∷ [] else map as_read (lines_of (line ++ 10 ∷ rest))) same
    ∙ elim (nat_lt left (length rest)) as (λ t. (if t then map as_read (ended_lines (take room (line ++ 10 ∷ rest))) ++ PastInput ∷ [] else map as_read (lines_of (line ++ 10 ∷ rest)))
    ≡ as_read line ∷ (if t then map as_read (ended_lines (take left rest)) ++ PastInput ∷ [] else map as_read (lines_of rest))) [
      | true ↦ ap (λ l. map as_read (ended_lines l) ++ PastInput ∷ []) front ∙ ap (λ l. map as_read l ++ PastInput ∷ []) (ended_joined line (take left rest) h)
      | false ↦ ap (map as_read) (lines_joined line rest h)
    ]

-- the first line is within the input
pub first_within : (room x : ℕ) (xs : List ℕ) → first_size (x ∷ xs) ≤ room
    → lines_within room (x ∷ xs) ≡ as_read (first_line (x ∷ xs)) ∷ lines_within (room - first_size (x ∷ xs)) (behind (x ∷ xs))
first_within room x xs fits =
    elim (has_feed (x ∷ xs)) as (λ t. has_feed (x ∷ xs) ≡ t
    → lines_within room (x ∷ xs) ≡ as_read (first_line (x ∷ xs)) ∷ lines_within (room - first_size (x ∷ xs)) (behind (x ∷ xs))) [
      | true ↦ λ e.
          let size = size_of_ended (x ∷ xs) e in
          ap (lines_within room) (split_ended (x ∷ xs) e)
          ∙ within_ended room (first_line (x ∷ xs)) (behind (x ∷ xs)) (line_has_no_feed (x ∷ xs)) (omega arith)
          ∙ ap (λ n. as_read (first_line (x ∷ xs)) ∷ lines_within (room - n) (behind (x ∷ xs))) (sym size)
      | false ↦ λ e.
          let whole = unended (x ∷ xs) e in
          ap (λ t. if t then map as_read (ended_lines (take room (x ∷ xs))) ++ PastInput ∷ [] else map as_read (lines_of (x ∷ xs))) (le-ltb room (length (x ∷ xs)) (omega (arith, whole.size)))
          ∙ ap (map as_read) (lines_single x xs e)
          ∙ ap (λ line. as_read line ∷ []) (sym whole.line)
          ∙ ap (λ lines. as_read (first_line (x ∷ xs)) ∷ lines) (sym (none_within (room - first_size (x ∷ xs))) ∙ ap (lines_within (room - first_size (x ∷ xs))) (sym whole.rest))
    ] refl

-- what follows makes the first line no shorter
pub size_joined_le : (xs ys : List ℕ) → first_size xs ≤ first_size (xs ++ ys)
size_joined_le [] ys = omega arith
size_joined_le (x ∷ xs) ys =
    elim (is_line_feed x) as (λ t. (if t then 1 else first_size xs + 1) ≤ (if t then 1 else first_size (xs ++ ys) + 1))
    [ true ↦ omega arith | false ↦ omega (arith, size_joined_le xs ys) ]

-- the first line of any bytes is within the input
pub within_first : (room : ℕ) (bytes : List ℕ) → 0 < first_size bytes → first_size bytes ≤ room
    → lines_within room bytes ≡ as_read (first_line bytes) ∷ lines_within (room - first_size bytes) (behind bytes)
within_first room [] above fits = absurd (omega arith)
within_first room (x ∷ xs) above fits = first_within room x xs fits

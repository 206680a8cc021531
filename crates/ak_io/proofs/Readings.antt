-- What a reader of lines did to the lines that are still to be taken, in each way that a line ends. Of the line `done` was
-- read before, and `ahead1` is what is ahead now.
use Rattle.std.proofs.Common.{◌≡◌, ℕ, ◌+◌, ◌-◌, ◌<◌, ◌≤◌, true, false, List, [], ◌∷◌, ◌++◌, Option, Some, None, arith, length, refl, sym, ap, ◌∙◌, subst, append_assoc, append-nil}
use Rattle.std.specs.Prelude.{if◌then◌else◌, nat_lt}
use Rattle.std.specs.Io.KnownBytes.{Consumes, IsAtEnd, prepend_known}
use Rattle.ak_io.specs.declared.lines.TheConstants.{INPUT_LIMIT, LINE_LIMIT}
use Rattle.ak_io.specs.declared.lines.Line.{Line}
use Rattle.ak_io.specs.declared.lines.Line.TheVariants.{Whole, TooLong, PastInput}
use Rattle.ak_io.specs.Lines.{as_read, lines_within, has_feed, first_line, behind, first_size, Takes, Reading, Counts}
use Rattle.ak_io.specs.Reads.{lines_ahead, Spends}
use Rattle.ak_io.proofs.FirstLines.{unended, joined_ended, joined_unended, size_of_ended, size_joined_le, past_within, within_first}

-- the line that is taken is the first that was still to be taken
takes_line : (line : List ℕ) (lines rest : List Line) (got : Line) → got ≡ as_read line → lines ≡ as_read line ∷ rest → Takes (Some lines) (Some rest) (Some got)
takes_line line lines rest got is first =
    subst (λ (g : Line). Takes (Some lines) (Some rest) (Some g)) (sym is)
    (elim (nat_lt LINE_LIMIT (length line)) as (λ t. lines ≡ (if t then TooLong else Whole line) ∷ rest → Takes (Some lines) (Some rest) (Some (if t then TooLong else Whole line)))
    [ true ↦ λ e. (rest, refl, e) | false ↦ λ e. (rest, refl, e) ] first)

-- what was taken is the first of what was still to be taken
pub takes_first : (lines : List Line) (new : Option (List Line)) (line : Line) → Takes (Some lines) new (Some line) → (rest : List Line) × (lines ≡ line ∷ rest)
takes_first lines new (Whole bytes) (rest, left, first) = (rest, first)
takes_first lines new TooLong (rest, left, first) = (rest, first)
takes_first lines new PastInput first = ([], first)

-- a line that is taken leaves less room
pub spends_line : (line : List ℕ) (room left : ℕ) (got : Line) → got ≡ as_read line → left < room → Spends room left (Some got)
spends_line line room left got is less =
    subst (λ (g : Line). Spends room left (Some g)) (sym is)
    (elim (nat_lt LINE_LIMIT (length line)) as (λ t. Spends room left (Some (if t then TooLong else Whole line))) [ true ↦ less | false ↦ less ])

-- a line feed is ahead
pub told_ended : (left0 left1 : Option (List ℕ)) (ahead0 ahead1 new done : List ℕ) (room0 room1 room2 : ℕ) (got : Line)
    → has_feed done ≡ false → length done + room1 ≡ room0 → Consumes (prepend_known ahead0 left0) (prepend_known ahead1 left1) done
    → has_feed ahead1 ≡ true → new ≡ behind ahead1 → first_size ahead1 + room2 ≡ room1 → got ≡ as_read (done ++ first_line ahead1)
    → Takes (lines_ahead room0 ahead0 left0) (lines_ahead room2 new left1) (Some got)
told_ended None left1 ahead0 ahead1 new done room0 room1 room2 got open_line room consumed feed rest spent is = tt
told_ended (Some x) None ahead0 ahead1 new done room0 room1 room2 got open_line room consumed feed rest spent is = absurd consumed
told_ended (Some x) (Some y) ahead0 ahead1 new done room0 room1 room2 got open_line room consumed feed rest spent is =
    let bytes = done ++ (ahead1 ++ y) in
    let line = done ++ first_line ahead1 in
    let joined = joined_ended ahead1 y feed in
    let whole = joined_unended done (ahead1 ++ y) open_line in
    let size : first_size bytes ≡ length done + first_size ahead1 = omega (arith, whole.size, joined.size) in
    let above : 0 < first_size bytes = omega (arith, size_of_ended ahead1 feed) in
    let fits : first_size bytes ≤ room0 = omega arith in
    let left : room0 - first_size bytes ≡ room2 = omega arith in
    takes_line line (lines_within room0 (ahead0 ++ x)) (lines_within room2 (new ++ y)) got is
    (ap (lines_within room0) consumed ∙ within_first room0 bytes above fits
    ∙ ap (λ l. as_read l ∷ lines_within (room0 - first_size bytes) (behind bytes)) (whole.line ∙ ap (λ l. done ++ l) joined.line)
    ∙ ap (λ l. as_read line ∷ lines_within (room0 - first_size bytes) l) (whole.rest ∙ joined.rest ∙ ap (λ l. l ++ y) (sym rest))
    ∙ ap (λ n. as_read line ∷ lines_within n (new ++ y)) left)

-- the input has ended behind some bytes of the line
pub told_last : (left0 left1 : Option (List ℕ)) (ahead0 ahead1 done : List ℕ) (room0 room1 : ℕ) (got : Line)
    → has_feed done ≡ false → length done + room1 ≡ room0 → Consumes (prepend_known ahead0 left0) (prepend_known ahead1 left1) done
    → ahead1 ≡ [] → IsAtEnd left1 → 0 < length done → got ≡ as_read done
    → Takes (lines_ahead room0 ahead0 left0) (lines_ahead room1 ahead1 left1) (Some got)
told_last None left1 ahead0 ahead1 done room0 room1 got open_line room consumed none end above is = tt
told_last (Some x) None ahead0 ahead1 done room0 room1 got open_line room consumed none end above is = absurd consumed
told_last (Some x) (Some y) ahead0 ahead1 done room0 room1 got open_line room consumed none end above is =
    let nothing : ahead1 ++ y ≡ [] = ap (λ l. l ++ y) none ∙ end in
    let whole = unended done open_line in
    let some : 0 < first_size done = omega (arith, whole.size) in
    let fits : first_size done ≤ room0 = omega (arith, whole.size) in
    let left : room0 - first_size done ≡ room1 = omega (arith, whole.size) in
    takes_line done (lines_within room0 (ahead0 ++ x)) (lines_within room1 (ahead1 ++ y)) got is
    (ap (lines_within room0) (consumed ∙ ap (λ l. done ++ l) nothing ∙ append-nil done) ∙ within_first room0 done some fits
    ∙ ap (λ l. as_read l ∷ lines_within (room0 - first_size done) (behind done)) whole.line
    ∙ ap (λ l. as_read done ∷ lines_within (room0 - first_size done) l) (whole.rest ∙ sym nothing)
    ∙ ap (λ n. as_read done ∷ lines_within n (ahead1 ++ y)) left)

-- more bytes of the line are ahead than there is room for
pub told_past : (left0 left1 : Option (List ℕ)) (ahead0 ahead1 done : List ℕ) (room0 room1 : ℕ) (new : Option (List Line))
    → has_feed done ≡ false → length done + room1 ≡ room0 → Consumes (prepend_known ahead0 left0) (prepend_known ahead1 left1) done
    → room1 < first_size ahead1
    → Takes (lines_ahead room0 ahead0 left0) new (Some PastInput)
told_past None left1 ahead0 ahead1 done room0 room1 new open_line room consumed past = tt
told_past (Some x) None ahead0 ahead1 done room0 room1 new open_line room consumed past = absurd consumed
told_past (Some x) (Some y) ahead0 ahead1 done room0 room1 new open_line room consumed past =
    let whole = joined_unended done (ahead1 ++ y) open_line in
    let beyond : room0 < first_size (done ++ (ahead1 ++ y)) = omega (arith, whole.size, size_joined_le ahead1 y) in
    ap (lines_within room0) consumed ∙ past_within room0 (done ++ (ahead1 ++ y)) beyond

-- all that was ahead is a part of the line
pub consumes_more : (all left1 : Option (List ℕ)) (ahead1 new done : List ℕ) → Consumes all (prepend_known ahead1 left1) done → new ≡ []
    → Consumes all (prepend_known new left1) (done ++ ahead1)
consumes_more None left1 ahead1 new done consumed none = tt
consumes_more (Some x) None ahead1 new done consumed none = absurd consumed
consumes_more (Some x) (Some y) ahead1 new done consumed none =
    consumed ∙ sym (append_assoc done ahead1 y) ∙ ap (λ l. (done ++ ahead1) ++ (l ++ y)) (sym none)

-- the line that is taken is the one after those that were counted
pub counted : (old new : Reading) (line : Line) → old.number ≤ INPUT_LIMIT → Counts old new (Some line) → new.number ≡ old.number + 1
counted old new (Whole bytes) within counts = counts.0
counted old new TooLong within counts = counts.0
counted old new PastInput within counts = omega (arith, counts.0)

-- What a keeper holds once it took what a request brought.
use Rattle.std.specs.Option.{option_map}
use Rattle.std.specs.Prelude.{◌≡◌, ℤ, pos, Bool, true, List, [], Option, Some, None, IfSome}
use Rattle.std.proofs.Common.{refl, sym, ap, ◌∙◌}
use Rattle.ak_base.specs.declared.heads.Head.{Head}
use Rattle.ak_base.specs.declared.rows.Row.{Row}
use Rattle.ak_keep.specs.Collections.{Holding, Rows, with_head}
use Rattle.ak_keep.specs.HeadNumbers.{numbers_of}
use Rattle.ak_keep.specs.Keepers.{Keeping, WhereTold, changed, head_set}
use Rattle.ak_keep.specs.Marks as marks
use Rattle.ak_keep.specs.Marks.{WithMark}
use Rattle.ak_keep.specs.declared.head_numbers.Numbers.{Numbers}
use Rattle.ak_merge.specs.Commits.{Received, with_received}
use Rattle.ak_sync_rows.specs.Takes.{with_all_taken}
use Rattle.ak_protocol.proofs.Cases.{not_none}
use Rattle.ak_server_steps.specs.Answers.{held_with}
use Rattle.ak_merge.specs.declared.sides.Side.TheVariants.{Server}

-- ---- rows
-- the usn of these numbers
abbrev usn_or : ℤ → Option Numbers → ℤ
usn_or usn None = usn
usn_or usn (Some numbers) = numbers.usn

-- only these rows
abbrev pub only_rows : List Row → Received
only_rows rows = record { rows = rows; tags = []; settings = None }

rows_held : (numbers : Numbers) (rows : List Row) (held : Rows) (head : Option Head) → option_map numbers_of head ≡ Some numbers
    → with_all_taken Server numbers.usn rows (record { rows = held; head = head }) ≡ held_with (only_rows rows) (record { rows = held; head = head })
rows_held numbers rows held None is = absurd (not_none (sym is))
rows_held numbers rows held (Some head) is =
    ap (λ (o : Option Numbers). with_all_taken Server (usn_or (pos 0) o) rows (record { rows = held; head = Some head })) (sym is)

rows_told : (numbers : Numbers) (rows : List Row) (t : Option (WithMark Holding)) → IfSome t (λ w. option_map numbers_of w.current.head ≡ Some numbers)
    → option_map (marks.changed (with_all_taken Server numbers.usn rows)) t ≡ option_map (marks.changed (held_with (only_rows rows))) t
rows_told numbers rows None is = refl
rows_told numbers rows (Some w) is = ap (λ (h : Holding). Some (record { current = h; mark = w.mark })) (rows_held numbers rows w.current.rows w.current.head is)

-- rows that were taken with the number of the head are what came
pub rows_received : (numbers : Numbers) (rows : List Row) (k new : Keeping) → WhereTold k (λ h. option_map numbers_of h.head ≡ Some numbers)
    → new ≡ changed (with_all_taken Server numbers.usn rows) k → new ≡ changed (held_with (only_rows rows)) k
rows_received numbers rows k new is taken =
    taken ∙ ap (λ (t : Option (WithMark Holding)). record { headed = k.headed; told = t }) (rows_told numbers rows k.told is)

-- ---- changes
head_held : (came : Received) (head made : Head) (h : Holding) → h.head ≡ Some head
    → made ≡ (with_received came (record { rows = h.rows; head = head })).head
    → with_head made (with_all_taken Server head.usn came.rows h) ≡ held_with came h
head_held came head made h is so =
    ap (λ (m : Head). with_head m (with_all_taken Server head.usn came.rows h)) so
    ∙ sym (ap (λ (o : Option Head). held_with came (record { rows = h.rows; head = o })) is)

head_told : (came : Received) (head made : Head) (t : Option (WithMark Holding)) → IfSome t (λ w. w.current.head ≡ Some head)
    → ((h : Holding) → made ≡ (with_received came (record { rows = h.rows; head = head })).head)
    → option_map (marks.changed (with_head made)) (option_map (marks.changed (with_all_taken Server head.usn came.rows)) t)
    ≡ option_map (marks.changed (held_with came)) t
head_told came head made None is so = refl
head_told came head made (Some w) is so =
    ap (λ (h : Holding). Some (record { current = h; mark = w.mark })) (head_held came head made w.current is (so w.current))

-- rows that were taken, and then a head that was set, are what came
pub changes_received : (came : Received) (head made : Head) (k k1 k2 : Keeping)
    → k.headed.current ≡ true → WhereTold k (λ h. h.head ≡ Some head)
    → ((h : Holding) → made ≡ (with_received came (record { rows = h.rows; head = head })).head)
    → k1 ≡ changed (with_all_taken Server head.usn came.rows) k → k2 ≡ head_set made k1
    → k2 ≡ changed (held_with came) k
changes_received came head made k k1 k2 held is so one two =
    two
    ∙ ap (head_set made) one
    ∙ ap (λ (b : Bool). record {
      headed = record { current = b; mark = k.headed.mark };
      told = option_map (marks.changed (with_head made)) (option_map (marks.changed (with_all_taken Server head.usn came.rows)) k.told);
    }) (sym held)
    ∙ ap (λ (t : Option (WithMark Holding)). record { headed = k.headed; told = t }) (head_told came head made k.told is so)

-- What carrying out the plan of an edit leaves is what the edit asks for, and its step is what an undo of it puts back.
use Rattle.std.proofs.Common.{◌≡◌, ◌⊎◌, inl, inr, ℕ, ℤ, negsuc, Bool, true, false, not, ◌||◌, ◌==◌, ◌+◌, ◌≤◌, length, take, Ok, List, [], ◌∷◌, IfSome, IsTrue, Option, Some, None, if◌then◌else◌, refl, sym, ap, subst, ◌∙◌, arith}
use Rattle.std.proofs.Math.Path.{fun_ext}
use Rattle.std.proofs.lemmas.List.{take-map}
use Rattle.std.proofs.lemmas.Option.{same_Some}
use Rattle.std.specs.Cmp.Lexicographic.{pointwise, bytes_decides, slice_cmp}
use Rattle.std.specs.Ordering.{is_lt, nat_cmp}
use Rattle.std.specs.FinMap.{FinMap, entries, get}
use Rattle.std.specs.List.{AllByRecursion}
use Rattle.std.specs.Option.{option_map, option_map_or}
use Rattle.ak_base.specs.Contents.{same_but_stamp_and_usn}
use Rattle.ak_base.specs.Names.{name_cmp}
use Rattle.ak_base.specs.Heads.{IsHeadInRange}
use Rattle.ak_base.specs.Rows.{check_of, stamp_of}
use Rattle.ak_base.specs.Tables.{buried_name}
use Rattle.ak_base.specs.declared.heads.Head.{Head}
use Rattle.ak_base.specs.declared.heads.Tag.{Tag}
use Rattle.ak_base.specs.declared.names.Name.{Name}
use Rattle.ak_base.specs.declared.rows.Row.{Row}
use Rattle.ak_keep.proofs.RowsByName.{all_gets, named-get}
use Rattle.ak_keep.specs.Collections.{Collection, Holding, IsWellFormed, collection_of, is_headed}
use Rattle.ak_keep.specs.Keepers.{IsRightlyKnown, Keeping, WhereHeld, WhereTold, committed, head_set, is_marked, marked_here}
use Rattle.ak_keep.specs.Marks as marks
use Rattle.ak_keep.specs.Marks.{WithMark}
use Rattle.ak_merge.proofs.EditFacts.{false_true}
use Rattle.ak_merge.specs.Edits.{DoesChange, Edit, IsEdited, Reversal, advanced, changes_row, changes_under, edited, edited_row, edited_under, goes, grave_left, reversal_of, second_of}
use Rattle.ak_keep.specs.Graves.{RowsByName}
use Rattle.ak_merge.specs.Holdings.{AreChecked, AreNamed, has_tag, row_under}
use Rattle.ak_merge.specs.Tags.{has_name, tag_taken, tags_taken, with_tag}
use Rattle.ak_merge.specs.Undoing.{IsListAfter}
use Rattle.ak_undo.specs.declared.steps.Step.{Step}
use Rattle.ak_edit.proofs.Writing.{IsWriteOf, changes_are_written, is_written, made_over, writes_are_good}
use Rattle.ak_edit.proofs.Written.{Leaves, all_before, all_leave, carried_out, collection_left, rows_written}
use Rattle.ak_edit.specs.Carrying.{ChangesNothing, IsPlanned, steps_left, step_in}
use Rattle.ak_edit.specs.Ends.{FinishedBy, IsFinished, IsHeldRightly, holding_now}
use Rattle.ak_edit.specs.Overlays.{BearNames, Overlay, edit_of}
use Rattle.ak_edit.specs.Plans.{writes_of}
use Rattle.ak_edit.specs.Steps.{before_at, reversal_in, reversals_in}
use Rattle.ak_edit.specs.Stores.{all_written, befores_of}
use Rattle.ak_edit.specs.declared.ends.Plan.{Plan}
use Rattle.ak_edit.specs.declared.plans.Moment.{Moment}
use Rattle.ak_edit.specs.declared.plans.Write.{Write}

-- ---- where a collection is told
told_of : (k : Keeping) (P : Collection → Type 0) (told : Option (WithMark Holding)) → k.told ≡ told → ((w : WithMark Holding) (head : Head) → k.told ≡ Some w → w.current.head ≡ Some head → P (record { rows = w.current.rows; head = head }))
    → IfSome told (λ w. IfSome (collection_of w.current) P)
told_of k P None is all = tt
told_of k P (Some w) is all =
    elim w.current.head as (λ o. w.current.head ≡ o → IfSome (option_map (λ (head : Head). record { rows = w.current.rows; head = head }) o) P) [
      | None ↦ λ _. tt
      | Some head ↦ λ held. all w head is held
    ] refl

-- what is true of all that may be told is true where a collection is told
pub where_held : (k : Keeping) (P : Collection → Type 0) → ((w : WithMark Holding) (head : Head) → k.told ≡ Some w → w.current.head ≡ Some head → P (record { rows = w.current.rows; head = head })) → WhereHeld k P
where_held k P all = told_of k P k.told refl all

-- what is true of what is told
pub told_at : (k : Keeping) (P : Holding → Type 0) (w : WithMark Holding) → k.told ≡ Some w → WhereTold k P → P w.current
told_at k P w told is = subst (λ (t : Option (WithMark Holding)). IfSome t (λ (w : WithMark Holding). P w.current)) told is

formed_at : (k : Keeping) (w : WithMark Holding) → k.told ≡ Some w → IsRightlyKnown k → IsWellFormed w.current
formed_at k w told known = subst (λ (t : Option (WithMark Holding)). IfSome t (λ (w : WithMark Holding). IsWellFormed w.current)) told known.current

pub held_named : (k : Keeping) (w : WithMark Holding) → k.told ≡ Some w → IsRightlyKnown k → AreNamed (get w.current.rows)
held_named k w told known name row is = named-get w.current.rows name row (formed_at k w told known).named is

pub held_checked : (k : Keeping) (w : WithMark Holding) → k.told ≡ Some w → IsRightlyKnown k → AreChecked (get w.current.rows)
held_checked k w told known name row is = all_gets (λ (entry : Name × Row). check_of entry.1 ≡ Ok tt) w.current.rows name row (formed_at k w told known).checked is

-- what a keeper tells is rightly held
pub held_rightly : (k : Keeping) → IsRightlyKnown k → WhereHeld k IsHeldRightly
held_rightly k known = where_held k IsHeldRightly (λ w head told held. record {
  named = held_named k w told known;
  checked = held_checked k w told known;
  head = subst (λ (o : Option Head). IfSome o IsHeadInRange) held (formed_at k w told known).head;
})

-- ---- names that are not written
pub unchanged_there : (second : ℤ) (at : RowsByName) (noted : FinMap name_cmp (Option Row)) (q : Name) → is_written q (writes_of second at (entries noted)) ≡ false → changes_under at (made_over at noted) q ≡ false
unchanged_there second at noted q away =
    elim (changes_under at (made_over at noted) q) as (λ b. changes_under at (made_over at noted) q ≡ b → b ≡ false) [
      | true ↦ λ is. sym (changes_are_written second at noted q is) ∙ away
      | false ↦ λ _. refl
    ] refl

kept_row : (second : ℤ) (before made : Option Row) → changes_row before made ≡ false → edited_row second before made ≡ before
kept_row second None None is = refl
kept_row second None (Some made) is = false_true (sym is)
kept_row second (Some before) None is = false_true (sym is)
kept_row second (Some before) (Some made) is =
    ap (λ (b : Bool). if b then Some before else Some (edited (advanced second (stamp_of before)) made)) (not_false (same_but_stamp_and_usn made before) is)
  where
    not_false : (b : Bool) → not b ≡ false → b ≡ true
    not_false true e = refl
    not_false false e = false_true (sym e)

kept_under : (second : ℤ) (at made : RowsByName) (q : Name) → changes_under at made q ≡ false → edited_under second at made q ≡ at q
kept_under second at made q is =
    elim (buried_name q) as (λ o. option_map_or (λ (row : Name). goes (at row) (made row)) o (changes_row (at q) (made q)) ≡ false
    → option_map_or (λ (row : Name). if goes (at row) (made row) then grave_left row else at q) o (edited_row second (at q) (made q)) ≡ at q) [
      | None ↦ λ unchanged. kept_row second (at q) (made q) unchanged
      | Some row ↦ λ stays. ap (λ (b : Bool). if b then grave_left row else at q) stays
    ] is

-- ---- the rows that are left
leave_all : (second : ℤ) (at made : RowsByName) (ws : List Write) → AllByRecursion (IsWriteOf second at made) ws → AllByRecursion (Leaves (edited_under second at made)) ws
leave_all second at made [] all = tt
leave_all second at made (w ∷ ws) all = (record { row = all.0.row; named = all.0.named }, leave_all second at made ws all.1)

edited_rows : (second : ℤ) (o : Overlay) (h : Holding) (q : Name) → AreNamed (get h.rows) → BearNames o.rows
    → get (rows_written (writes_of second (get h.rows) (entries o.rows)) h.rows) q ≡ edited_under second (get h.rows) (made_over (get h.rows) o.rows) q
edited_rows second o h q named bears =
    let ws = writes_of second (get h.rows) (entries o.rows) in
    let made : RowsByName = made_over (get h.rows) o.rows in
    all_leave (edited_under second (get h.rows) made) ws h.rows q (leave_all second (get h.rows) made ws (writes_are_good second (get h.rows) o.rows named bears))
    (λ away. sym (kept_under second (get h.rows) made q (unchanged_there second (get h.rows) o.rows q away)))

-- ---- the step
abbrev step_under : RowsByName → RowsByName → Name → Option (Option Row)
step_under at made q = if changes_under at made q then Some (at q) else None

stand_before : (second : ℤ) (at made : RowsByName) (ws : List Write) → AllByRecursion (IsWriteOf second at made) ws → AllByRecursion (λ (w : Write). step_under at made w.name ≡ Some w.before) ws
stand_before second at made [] all = tt
stand_before second at made (w ∷ ws) all =
    (ap (λ (b : Bool). if b then Some (at w.name) else None) all.0.changes ∙ ap (λ (x : Option Row). Some x) (sym all.0.before), stand_before second at made ws all.1)

step_rows : (second : ℤ) (o : Overlay) (h : Holding) (q : Name) → AreNamed (get h.rows) → BearNames o.rows
    → before_at (befores_of (writes_of second (get h.rows) (entries o.rows))) q ≡ step_under (get h.rows) (made_over (get h.rows) o.rows) q
step_rows second o h q named bears =
    let ws = writes_of second (get h.rows) (entries o.rows) in
    let made : RowsByName = made_over (get h.rows) o.rows in
    all_before (step_under (get h.rows) made) ws q (stand_before second (get h.rows) made ws (writes_are_good second (get h.rows) o.rows named bears))
    (λ away. ap (λ (b : Bool). if b then Some (get h.rows q) else None) (unchanged_there second (get h.rows) o.rows q away))

-- ---- tags
same_name : (name : List ℕ) → pointwise ◌==◌ name name ≡ true
same_name name = (bytes_decides name name).1 refl

-- either no tag is new, or one is
new_tag : (usn : ℤ) (names : List (List ℕ)) (tags : List Tag) → (tags_taken usn names tags ≡ tags) ⊎ ((tag : List ℕ) × IsTrue (has_name names tag) × (has_tag tags tag ≡ false))
new_tag usn [] tags = inl refl
new_tag usn (name ∷ more) tags =
    elim (has_tag tags name) as (λ b. has_tag tags name ≡ b → (tags_taken usn more (tag_taken usn name tags) ≡ tags) ⊎ ((tag : List ℕ) × IsTrue (has_name (name ∷ more) tag) × (has_tag tags tag ≡ false))) [
      | true ↦ λ held.
          let stays : tag_taken usn name tags ≡ tags = rw held refl in
          further stays (new_tag usn more tags)
      | false ↦ λ none. inr (name, ap (λ (b : Bool). b || has_name more name) (same_name name), none)
    ] refl
  where
    or_true : (a b : Bool) → IsTrue b → IsTrue (a || b)
    or_true true b is = refl
    or_true false b is = is

    further : tag_taken usn name tags ≡ tags → (tags_taken usn more tags ≡ tags) ⊎ ((tag : List ℕ) × IsTrue (has_name more tag) × (has_tag tags tag ≡ false))
        → (tags_taken usn more (tag_taken usn name tags) ≡ tags) ⊎ ((tag : List ℕ) × IsTrue (has_name (name ∷ more) tag) × (has_tag tags tag ≡ false))
    further stays (inl same) = inl (ap (tags_taken usn more) stays ∙ same)
    further stays (inr new) = inr (new.0, or_true (pointwise ◌==◌ name new.0) (has_name more new.0) new.1, new.2)

one_more : (tag : Tag) (tags : List Tag) → length (with_tag tag tags) ≡ length tags + 1
one_more tag [] = refl
one_more tag (other ∷ more) =
    elim (is_lt (slice_cmp nat_cmp tag.name other.name)) as (λ b. length (if b then tag ∷ other ∷ more else other ∷ with_tag tag more) ≡ length (other ∷ more) + 1) [
      | true ↦ grind arith
      | false ↦ grind (arith, one_more tag more)
    ]

no_fewer : (usn : ℤ) (names : List (List ℕ)) (tags : List Tag) → length tags ≤ length (tags_taken usn names tags)
no_fewer usn [] tags = omega arith
no_fewer usn (name ∷ more) tags =
    let rest : length (tag_taken usn name tags) ≤ length (tags_taken usn more (tag_taken usn name tags)) = no_fewer usn more (tag_taken usn name tags) in
    let one : length tags ≤ length (tag_taken usn name tags) =
    elim (has_tag tags name) as (λ b. length tags ≤ length (if b then tags else with_tag (record { name = name; usn = usn }) tags)) [
      | true ↦ omega arith
      | false ↦ let more_by_one = one_more (record { name = name; usn = usn }) tags in omega (arith, more_by_one)
    ] in
    omega (arith, one, rest)

-- as many tags are the same
pub same_many : (usn : ℤ) (names : List (List ℕ)) (tags : List Tag) → length (tags_taken usn names tags) ≡ length tags → tags_taken usn names tags ≡ tags
same_many usn [] tags is = refl
same_many usn (name ∷ more) tags is =
    elim (has_tag tags name) as (λ b. has_tag tags name ≡ b → tags_taken usn more (tag_taken usn name tags) ≡ tags) [
      | true ↦ λ held.
          let stays : tag_taken usn name tags ≡ tags = rw held refl in
          ap (tags_taken usn more) stays ∙ same_many usn more tags (ap (λ (ts : List Tag). length (tags_taken usn more ts)) (sym stays) ∙ is)
      | false ↦ λ none.
          let comes : tag_taken usn name tags ≡ with_tag (record { name = name; usn = usn }) tags = rw none refl in
          let by_one : length (tag_taken usn name tags) ≡ length tags + 1 = ap length comes ∙ one_more (record { name = name; usn = usn }) tags in
          let rest = no_fewer usn more (tag_taken usn name tags) in
          absurd (omega (arith, is, by_one, rest))
    ] refl

-- ---- whether anything changes
first_changes : (second : ℤ) (at made : RowsByName) (ws : List Write) → AllByRecursion (IsWriteOf second at made) ws → (ws ≡ []) ⊎ ((name : Name) × IsTrue (changes_under at made name))
first_changes second at made [] all = inl refl
first_changes second at made (w ∷ ws) all = inr (w.name, all.0.changes)

-- a plan that changes something is of an edit that does
module _ (at : ℤ) (now : Moment) (o : Overlay) (h : Holding) (plan : Plan) (named : AreNamed (get h.rows)) (bears : BearNames o.rows) (planned : IsPlanned now o h plan) (in_ms : now.at ≡ at)
    (in_seconds : now.second ≡ second_of at) where
  abbrev held : Collection
  held = record { rows = h.rows; head = plan.before }

  abbrev asked : Edit
  asked = edit_of o held

  schema_there : o.schema ≡ false → plan.before.schema ≡ plan.after.schema
  schema_there stays = sym (ap (λ (head : Head). head.schema) planned.after ∙ ap (λ (b : Bool). if b then advanced now.at plan.before.schema else plan.before.schema) stays)

  pub does_change : (ChangesNothing plan → ⊥) → DoesChange held asked
  does_change something = by_rows (first_changes now.second (get h.rows) (made_over (get h.rows) o.rows) (writes_of now.second (get h.rows) (entries o.rows)) (writes_are_good now.second (get h.rows) o.rows named bears))
    where
      by_tags : writes_of now.second (get h.rows) (entries o.rows) ≡ [] → o.schema ≡ false
          → (tags_taken (negsuc 0) o.tags plan.before.tags ≡ plan.before.tags) ⊎ ((tag : List ℕ) × IsTrue (has_name o.tags tag) × (has_tag plan.before.tags tag ≡ false)) → DoesChange held asked
      by_tags none stays (inr new) = inr (inl new)
      by_tags none stays (inl same) = inr (inr (inl (λ conf. something (record {
        writes = planned.writes ∙ none;
        conf = sym (ap (λ (head : Head). head.conf) planned.after ∙ conf);
        tags = ap length (sym (ap (λ (head : Head). head.tags) planned.after ∙ same));
        schema = schema_there stays;
      }))))

      by_schema : writes_of now.second (get h.rows) (entries o.rows) ≡ [] → (b : Bool) → o.schema ≡ b → DoesChange held asked
      by_schema none true changes = inr (inr (inr changes))
      by_schema none false stays = by_tags none stays (new_tag (negsuc 0) o.tags plan.before.tags)

      by_rows : (writes_of now.second (get h.rows) (entries o.rows) ≡ []) ⊎ ((name : Name) × IsTrue (changes_under (get h.rows) (made_over (get h.rows) o.rows) name)) → DoesChange held asked
      by_rows (inr row) = inl row
      by_rows (inl none) = by_schema none o.schema refl

  -- ---- what is left
  abbrev left : Collection
  left = collection_left plan.writes.items plan.after h.rows

  left_rows : (q : Name) → row_under left q ≡ edited_under (second_of at) (row_under held) asked.rows q
  left_rows q =
      ap (λ (ws : List Write). get (rows_written ws h.rows) q) planned.writes ∙ edited_rows now.second o h q named bears
      ∙ ap (λ (s : ℤ). edited_under s (get h.rows) (made_over (get h.rows) o.rows) q) in_seconds

  pub edited_so : (ChangesNothing plan → ⊥) → IsEdited at held asked left
  edited_so something = record {
    rows = left_rows;
    tags = ap (λ (head : Head). head.tags) planned.after;
    conf = ap (λ (head : Head). head.conf) planned.after;
    schema = ap (λ (head : Head). head.schema) planned.after ∙ ap (λ (m : ℤ). if o.schema then advanced m plan.before.schema else plan.before.schema) in_ms;
    moved = inr (does_change something, ap (λ (head : Head). head.moment) planned.after ∙ ap (λ (m : ℤ). advanced m plan.before.moment) in_ms);
    crt = ap (λ (head : Head). head.crt) planned.after;
    usn = ap (λ (head : Head). head.usn) planned.after;
    last_sync = ap (λ (head : Head). head.last_sync) planned.after;
  }

  -- ---- the step
  reversed : reversal_in (step_in plan) ≡ reversal_of held asked
  reversed =
      ap (λ (rows : Name → Option (Option Row)). record { rows = rows; conf = plan.before.conf; tags = plan.before.tags })
      (fun_ext (λ (q : Name). ap (λ (ws : List Write). before_at (befores_of ws) q) planned.writes ∙ step_rows now.second o h q named bears))

  pub list_so : (ChangesNothing plan → ⊥) → (steps left_steps : List Step) → left_steps ≡ steps_left o.schema (step_in plan) steps → IsListAfter held asked left (reversals_in steps) (reversals_in left_steps)
  list_so something steps left_steps is = by_schema o.schema refl
    where
      taken_map : (n : ℕ) (xs : List Step) → reversals_in (take n xs) ≡ take n (reversals_in xs)
      taken_map n xs = sym (take-map reversal_in n xs)

      by_schema : (b : Bool) → o.schema ≡ b → IsListAfter held asked left (reversals_in steps) (reversals_in left_steps)
      by_schema true changes = inr (inl (record {
        schema = changes;
        list = ap reversals_in (is ∙ ap (λ (b : Bool). if b then [] else take 30 (step_in plan ∷ steps)) changes);
      }))
      by_schema false stays = inr (inr (record {
        schema = stays;
        changes = does_change something;
        list =
            ap reversals_in (is ∙ ap (λ (b : Bool). if b then [] else take 30 (step_in plan ∷ steps)) stays) ∙ taken_map 30 (step_in plan ∷ steps)
            ∙ ap (λ (r : Reversal). take 30 (r ∷ reversals_in steps)) reversed;
      }))

  -- ---- nothing
  pub nothing_so : ChangesNothing plan → IsEdited at held asked held
  nothing_so nothing = record {
    rows = λ q. sym (kept_under (second_of at) (get h.rows) (made_over (get h.rows) o.rows) q (unchanged_there now.second (get h.rows) o.rows q (ap (is_written q) (sym planned.writes ∙ nothing.writes))));
    tags = sym (same_many (negsuc 0) o.tags plan.before.tags (sym (nothing.tags ∙ ap (λ (head : Head). length head.tags) planned.after)));
    conf = nothing.conf ∙ ap (λ (head : Head). head.conf) planned.after;
    schema = nothing.schema ∙ ap (λ (head : Head). head.schema) planned.after ∙ ap (λ (m : ℤ). if o.schema then advanced m plan.before.schema else plan.before.schema) in_ms;
    moved = inl refl;
    crt = refl;
    usn = refl;
    last_sync = refl;
  }

-- ---- upon a keeper
pub head_is : (h : Holding) (head before : Head) → h.head ≡ Some head → h.head ≡ Some before → before ≡ head
head_is h head before is was = same_Some before head (sym was ∙ is)

pub headed_at : (k : Keeping) (w : WithMark Holding) → k.told ≡ Some w → IsRightlyKnown k → k.headed ≡ marks.of_both is_headed w
headed_at k w told known = subst (λ (t : Option (WithMark Holding)). IfSome t (λ (v : WithMark Holding). k.headed ≡ marks.of_both is_headed v)) told known.headed

-- an edit that changes something was carried out
pub finished : (at : ℤ) (now : Moment) (o : Overlay) (k l : Keeping) (plan : Plan) (steps left_steps : List Step) → now.at ≡ at → now.second ≡ second_of at → is_marked k ≡ false → k.headed.current ≡ true
    → IsRightlyKnown k → BearNames o.rows → WhereTold k (λ h. IsPlanned now o h plan) → (ChangesNothing plan → ⊥)
    → l ≡ committed (head_set plan.after (all_written plan.writes.items (marked_here k))) → left_steps ≡ steps_left o.schema (step_in plan) steps → FinishedBy at o k l steps left_steps
finished at now o k l plan steps left_steps in_ms in_seconds unmarked is_held known bears planned something becomes list =
    where_held k (λ c. IsFinished at c (edit_of o c) k l steps left_steps) (λ w head told held_there.
    let named = held_named k w told known in
    let here = told_at k (λ h. IsPlanned now o h plan) w told planned in
    subst (λ (head : Head). IsFinished at (record { rows = w.current.rows; head = head }) (edit_of o (record { rows = w.current.rows; head = head })) k l steps left_steps)
    (head_is w.current head plan.before held_there here.head)
    (record {
      named = named;
      after = collection_left plan.writes.items plan.after w.current.rows;
      edited = edited_so at now o w.current plan named bears here in_ms in_seconds something;
      held = becomes ∙ carried_out plan.writes.items plan.after k w told unmarked is_held (headed_at k w told known);
      list = list_so at now o w.current plan named bears here in_ms in_seconds something steps left_steps list;
    }))

-- an edit that changes nothing was left
pub finished_nothing : (at : ℤ) (now : Moment) (o : Overlay) (k : Keeping) (plan : Plan) (steps : List Step) → now.at ≡ at → now.second ≡ second_of at → IsRightlyKnown k → BearNames o.rows
    → WhereTold k (λ h. IsPlanned now o h plan) → ChangesNothing plan → FinishedBy at o k k steps steps
finished_nothing at now o k plan steps in_ms in_seconds known bears planned nothing =
    where_held k (λ c. IsFinished at c (edit_of o c) k k steps steps) (λ w head told held_there.
    let named = held_named k w told known in
    let here = told_at k (λ h. IsPlanned now o h plan) w told planned in
    subst (λ (head : Head). IsFinished at (record { rows = w.current.rows; head = head }) (edit_of o (record { rows = w.current.rows; head = head })) k k steps steps)
    (head_is w.current head plan.before held_there here.head)
    (record {
      named = named;
      after = record { rows = w.current.rows; head = plan.before };
      edited = nothing_so at now o w.current plan named bears here in_ms in_seconds nothing;
      held = held_as_was k w plan.before told here.head;
      list = inl (record { unchanged = refl; list = refl });
    }))
  where
    held_as_was : (k : Keeping) (w : WithMark Holding) (head : Head) → k.told ≡ Some w → w.current.head ≡ Some head → k ≡ holding_now (record { rows = w.current.rows; head = head }) k
    held_as_was k w head told held_there =
        ap (λ (t : Option (WithMark Holding)). record { headed = k.headed; told = t })
        (told ∙ ap (λ (o : Option Head). Some (record { current = record { rows = w.current.rows; head = o }; mark = w.mark })) held_there
        ∙ ap (option_map (marks.changed (λ (_ : Holding). record { rows = w.current.rows; head = Some head }))) (sym told))

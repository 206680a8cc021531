-- What is committed and what is current of a keeper, from one call to the next.
use Rattle.std.specs.Option.{option_and_then, option_map, unwrap_or}
use Rattle.std.specs.Prelude.{◌≡◌, ℤ, Bool, true, false, is_some, List, Option, Some, None, IfSome}
use Rattle.std.proofs.Common.{refl, sym, ap, ◌∙◌, arith}
use Rattle.ak_base.specs.declared.heads.Head.{Head}
use Rattle.ak_base.specs.declared.rows.Row.{Row}
use Rattle.ak_keep.specs.Collections.{Collection, Holding, collection_of, is_headed, rows_of}
use Rattle.ak_keep.specs.Keepers.{IsNamedRightly, Keeping, back, changed, committed, is_marked, marked_here, moments_set, replaced}
use Rattle.ak_keep.specs.Marks as marks
use Rattle.ak_keep.specs.Marks.{WithMark}
use Rattle.ak_merge.specs.Commits.{Received, with_received}
use Rattle.ak_protocol.proofs.Cases.{not_none}
use Rattle.ak_server.specs.Accounts.{committed_in, tables_in}
use Rattle.ak_server_steps.specs.Answers.{held_with}

-- ---- back at the mark
back_told : (t : Option (WithMark Holding)) → option_map marks.back (option_map marks.back t) ≡ option_map marks.back t
back_told None = refl
back_told (Some w) = refl

pub back_twice : (k : Keeping) → back (back k) ≡ back k
back_twice k = ap (λ (t : Option (WithMark Holding)). record { headed = marks.back k.headed; told = t }) (back_told k.told)

current_back : (t : Option (WithMark Holding)) → option_and_then (λ (w : WithMark Holding). collection_of w.current) (option_map marks.back t)
    ≡ option_and_then (λ (w : WithMark Holding). collection_of (marks.back w).current) t
current_back None = refl
current_back (Some w) = refl

-- what is current then is what was committed
pub tables_back : (k : Keeping) → tables_in (back k) ≡ committed_in k
tables_back k = current_back k.told

pub committed_back : (k : Keeping) → committed_in (back k) ≡ committed_in k
committed_back k = sym (tables_back (back k)) ∙ ap tables_in (back_twice k) ∙ tables_back k

-- keepers that go back to the same have the same committed collection
pub same_committed : (old new : Keeping) → back new ≡ back old → committed_in new ≡ committed_in old
same_committed old new same = sym (tables_back new) ∙ ap tables_in same ∙ tables_back old

-- ---- without a mark
some_mapped : {X Y : Type 0} (f : X → Y) (o : Option X) → is_some (option_map f o) ≡ is_some o
some_mapped f None = refl
some_mapped f (Some x) = refl

none_of : {X : Type 0} (o : Option X) → is_some o ≡ false → o ≡ None
none_of None is = refl
none_of (Some x) is = absurd (grind (arith, is))

back_without : {T : Type 0} (w : WithMark T) → w.mark ≡ None → marks.back w ≡ w
back_without w none = ap (λ (m : Option _). record { current = unwrap_or m w.current; mark = None }) none ∙ ap (λ (m : Option _). record { current = w.current; mark = m }) (sym none)

told_without : (h : WithMark Bool) (t : Option (WithMark Holding)) → IfSome t (λ w. h ≡ marks.of_both is_headed w) → is_some h.mark ≡ false
    → option_map marks.back t ≡ t
told_without h None named un = refl
told_without h (Some w) named un =
    ap Some (back_without w (none_of w.mark (sym (some_mapped is_headed w.mark) ∙ sym (ap (λ (x : WithMark Bool). is_some x.mark) named) ∙ un)))

-- an unmarked keeper is back already
pub unmarked_back : (k : Keeping) → IsNamedRightly k → is_marked k ≡ false → back k ≡ k
unmarked_back k named un =
    ap (λ (h : WithMark Bool). record { headed = h; told = option_map marks.back k.told }) (back_without k.headed (none_of k.headed.mark un))
    ∙ ap (λ (t : Option (WithMark Holding)). record { headed = k.headed; told = t }) (told_without k.headed k.told named.headed un)

pub unmarked_tables : (k : Keeping) → IsNamedRightly k → is_marked k ≡ false → tables_in k ≡ committed_in k
unmarked_tables k named un = sym (ap tables_in (unmarked_back k named un)) ∙ tables_back k

-- ---- other calls
current_kept : (t : Option (WithMark Holding)) → option_and_then (λ (w : WithMark Holding). collection_of w.current) (option_map marks.committed t)
    ≡ option_and_then (λ (w : WithMark Holding). collection_of w.current) t
current_kept None = refl
current_kept (Some w) = refl

pub tables_kept : (k : Keeping) → tables_in (committed k) ≡ tables_in k
tables_kept k = current_kept k.told

back_kept : (t : Option (WithMark Holding)) → option_and_then (λ (w : WithMark Holding). collection_of (marks.back w).current) (option_map marks.committed t)
    ≡ option_and_then (λ (w : WithMark Holding). collection_of w.current) t
back_kept None = refl
back_kept (Some w) = refl

-- what was current is committed
pub committed_kept : (k : Keeping) → committed_in (committed k) ≡ tables_in k
committed_kept k = back_kept k.told

current_marked : (t : Option (WithMark Holding)) → option_and_then (λ (w : WithMark Holding). collection_of w.current) (option_map marks.marked_here t)
    ≡ option_and_then (λ (w : WithMark Holding). collection_of w.current) t
current_marked None = refl
current_marked (Some w) = refl

pub tables_marked : (k : Keeping) → tables_in (marked_here k) ≡ tables_in k
tables_marked k = current_marked k.told

held_received : (came : Received) (rows : _) (head : Option Head)
    → collection_of (held_with came (record { rows = rows; head = head })) ≡ option_map (with_received came) (collection_of (record { rows = rows; head = head }))
held_received came rows None = refl
held_received came rows (Some head) = refl

current_received : (came : Received) (t : Option (WithMark Holding))
    → option_and_then (λ (w : WithMark Holding). collection_of w.current) (option_map (marks.changed (held_with came)) t)
    ≡ option_map (with_received came) (option_and_then (λ (w : WithMark Holding). collection_of w.current) t)
current_received came None = refl
current_received came (Some w) = held_received came w.current.rows w.current.head

-- what came is taken into the current collection
pub tables_received : (came : Received) (k : Keeping) → tables_in (changed (held_with came) k) ≡ option_map (with_received came) (tables_in k)
tables_received came k = current_received came k.told

-- a collection with these numbers in its head
abbrev pub with_numbers : ℤ → ℤ → ℤ → ℤ → Collection → Collection
with_numbers moment schema usn last_sync c =
    record { rows = c.rows; head = record c.head { moment = moment; schema = schema; usn = usn; last_sync = last_sync } }

set_numbers : (m s u l : ℤ) (rows : _) (head : Option Head)
    → option_map (λ (head : Head). record { rows = rows; head = head }) (option_map (λ (head : Head). record head { moment = m; schema = s; usn = u; last_sync = l }) head)
    ≡ option_map (with_numbers m s u l) (option_map (λ (head : Head). record { rows = rows; head = head }) head)
set_numbers m s u l rows None = refl
set_numbers m s u l rows (Some head) = refl

current_set : (m s u l : ℤ) (t : Option (WithMark Holding))
    → option_and_then (λ (w : WithMark Holding). collection_of w.current) (moments_set m s u l (record { headed = record { current = true; mark = None }; told = t })).told
    ≡ option_map (with_numbers m s u l) (option_and_then (λ (w : WithMark Holding). collection_of w.current) t)
current_set m s u l None = refl
current_set m s u l (Some w) = set_numbers m s u l w.current.rows w.current.head

pub tables_set : (m s u l : ℤ) (k : Keeping) → tables_in (moments_set m s u l k) ≡ option_map (with_numbers m s u l) (tables_in k)
tables_set m s u l k = current_set m s u l k.told

current_replaced : (rows : List Row) (head : Head) (t : Option (WithMark Holding)) (c : Collection)
    → option_and_then (λ (w : WithMark Holding). collection_of w.current) t ≡ Some c
    → option_and_then (λ (w : WithMark Holding). collection_of w.current) (replaced rows head (record { headed = record { current = true; mark = None }; told = t })).told
    ≡ Some (record { rows = rows_of rows; head = head })
current_replaced rows head None c is = absurd (not_none (sym is))
current_replaced rows head (Some w) c is = refl

pub tables_replaced : (rows : List Row) (head : Head) (k : Keeping) (c : Collection) → tables_in k ≡ Some c
    → tables_in (replaced rows head k) ≡ Some (record { rows = rows_of rows; head = head })
tables_replaced rows head k c is = current_replaced rows head k.told c is

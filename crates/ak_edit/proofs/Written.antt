-- What writes make of rows and of a keeper, and what the step has under each name.
use Rattle.std.proofs.Common.{◌≡◌, Bool, true, false, ◌||◌, cond, List, [], ◌∷◌, IfSome, Option, Some, None, is_some, if◌then◌else◌, refl, sym, ap, ◌∙◌}
use Rattle.std.specs.FinMap.{get, get-insert, get-remove, insert, remove}
use Rattle.std.specs.List.{AllByRecursion}
use Rattle.std.specs.Option.{option_map, option_map_or}
use Rattle.std.specs.Ordering.{eq_by_cmp}
use Rattle.ak_base.proofs.RowFacts.{name_of-with_stamp}
use Rattle.ak_base.specs.Names.{name_cmp, names_total}
use Rattle.ak_base.specs.Rows.{name_of, with_stamp}
use Rattle.ak_base.specs.declared.heads.Head.{Head}
use Rattle.ak_base.specs.declared.names.Name.{Name}
use Rattle.ak_base.specs.declared.rows.Row.{Row}
use Rattle.ak_keep.proofs.RowsByName.{same_of_tied}
use Rattle.ak_keep.specs.Collections.{Collection, Holding, Rows, is_headed}
use Rattle.ak_keep.specs.Keepers.{Keeping, changed, committed, head_set, is_marked, marked_here, put, removed}
use Rattle.ak_keep.specs.Marks as marks
use Rattle.ak_keep.specs.Marks.{WithMark}
use Rattle.ak_merge.proofs.EditFacts.{false_true}
use Rattle.ak_keep.specs.Graves.{RowsByName}
use Rattle.ak_edit.proofs.Writing.{is_written}
use Rattle.ak_edit.specs.Ends.{holding_now}
use Rattle.ak_edit.specs.Steps.{before_at}
use Rattle.ak_edit.specs.Stores.{all_written, befores_of, written}
use Rattle.ak_edit.specs.declared.plans.Write.{Write}

-- what stands there after a write
abbrev pub left_by : Write → Option Row
left_by w = option_map (λ (row : Row). with_stamp row w.stamp) w.row

abbrev row_written : Write → Rows → Rows
row_written w rows = option_map_or (λ (row : Row). insert rows (name_of (with_stamp row w.stamp)) (with_stamp row w.stamp)) w.row (remove rows w.name)

-- the rows after the writes
abbrev pub rows_written : List Write → Rows → Rows
rows_written [] rows = rows
rows_written (w ∷ ws) rows = rows_written ws (row_written w rows)

-- ---- by names
get-row_written : (w : Write) (rows : Rows) (q : Name) → IfSome w.row (λ row. name_of row ≡ w.name) → get (row_written w rows) q ≡ cond (eq_by_cmp name_cmp q w.name) (left_by w) (get rows q)
get-row_written w rows q named =
    elim w.row as (λ o. IfSome o (λ row. name_of row ≡ w.name)
    → get (option_map_or (λ (row : Row). insert rows (name_of (with_stamp row w.stamp)) (with_stamp row w.stamp)) o (remove rows w.name)) q
    ≡ cond (eq_by_cmp name_cmp q w.name) (option_map (λ (row : Row). with_stamp row w.stamp) o) (get rows q)) [
      | None ↦ λ _. get-remove names_total rows w.name q
      | Some row ↦ λ bears.
          get-insert names_total rows (name_of (with_stamp row w.stamp)) (with_stamp row w.stamp) q
          ∙ ap (λ (n : Name). cond (eq_by_cmp name_cmp q n) (Some (with_stamp row w.stamp)) (get rows q)) (name_of-with_stamp row w.stamp ∙ bears)
    ] named

-- a write that leaves what f says under its name
pub record Leaves (f : RowsByName) (w : Write) : Type 0 where
  pub row : left_by w ≡ f w.name
  pub named : IfSome w.row (λ row. name_of row ≡ w.name)

-- if each write leaves what f says, and under a name that is not written stands what f says, then the writes leave what f says
pub all_leave : (f : RowsByName) (ws : List Write) (rows : Rows) (q : Name) → AllByRecursion (Leaves f) ws → (is_written q ws ≡ false → get rows q ≡ f q) → get (rows_written ws rows) q ≡ f q
all_leave f [] rows q all other = other refl
all_leave f (w ∷ ws) rows q all other =
    all_leave f ws (row_written w rows) q all.1 (λ away. get-row_written w rows q all.0.named
    ∙ elim (eq_by_cmp name_cmp q w.name) as (λ b. eq_by_cmp name_cmp q w.name ≡ b → (b || is_written q ws ≡ false → get rows q ≡ f q) → cond b (left_by w) (get rows q) ≡ f q) [
      | true ↦ λ same _. all.0.row ∙ ap f (sym (same_of_tied q w.name same))
      | false ↦ λ _ rest. rest away
    ] refl other)

-- the same of what stood there before
pub all_before : (f : Name → Option (Option Row)) (ws : List Write) (q : Name) → AllByRecursion (λ (w : Write). f w.name ≡ Some w.before) ws → (is_written q ws ≡ false → f q ≡ None)
    → before_at (befores_of ws) q ≡ f q
all_before f [] q all other = sym (other refl)
all_before f (w ∷ ws) q all other =
    elim (eq_by_cmp name_cmp q w.name) as (λ b. eq_by_cmp name_cmp q w.name ≡ b → (b || is_written q ws ≡ false → f q ≡ None) → (if b then Some w.before else before_at (befores_of ws) q) ≡ f q) [
      | true ↦ λ same _. sym (ap f (same_of_tied q w.name same) ∙ all.0)
      | false ↦ λ _ rest. all_before f ws q all.1 rest
    ] refl other

-- ---- upon a keeper
abbrev pub with_rows_written : List Write → Holding → Holding
with_rows_written ws h = record h { rows = rows_written ws h.rows }

changed_twice : (f g : Holding → Holding) (told : Option (WithMark Holding)) → option_map (marks.changed f) (option_map (marks.changed g) told) ≡ option_map (marks.changed (λ (h : Holding). f (g h))) told
changed_twice f g None = refl
changed_twice f g (Some w) = refl

changed_further : (f g : Holding → Holding) (k : Keeping) → changed f (changed g k) ≡ changed (λ (h : Holding). f (g h)) k
changed_further f g k = ap (λ (told : Option (WithMark Holding)). record { headed = k.headed; told = told }) (changed_twice f g k.told)

changed_not : (k : Keeping) → k ≡ changed (λ (h : Holding). h) k
changed_not k = elim k.told as (λ o. record { headed = k.headed; told = o } ≡ record { headed = k.headed; told = option_map (marks.changed (λ (h : Holding). h)) o }) [ None ↦ refl | Some w ↦ refl ]

one_written : (w : Write) (k : Keeping) → written w k ≡ changed (λ (h : Holding). record h { rows = row_written w h.rows }) k
one_written w k =
    elim w.row as (λ o. option_map_or (λ (row : Row). put (with_stamp row w.stamp) k) o (removed w.name k)
    ≡ changed (λ (h : Holding). record h { rows = option_map_or (λ (row : Row). insert h.rows (name_of (with_stamp row w.stamp)) (with_stamp row w.stamp)) o (remove h.rows w.name) }) k) [ None ↦ refl | Some row ↦ refl ]

-- all writes change the rows alone
pub all_change : (ws : List Write) (k : Keeping) → all_written ws k ≡ changed (with_rows_written ws) k
all_change [] k = changed_not k
all_change (w ∷ ws) k =
    all_change ws (written w k) ∙ ap (changed (with_rows_written ws)) (one_written w k) ∙ changed_further (with_rows_written ws) (λ (h : Holding). record h { rows = row_written w h.rows }) k

-- the collection that writes and a head leave
abbrev pub collection_left : List Write → Head → Rows → Collection
collection_left ws head rows = record { rows = rows_written ws rows; head = head }

none_of : {X : Type 0} (o : Option X) → is_some o ≡ false → o ≡ None
none_of None is = refl
none_of (Some x) is = false_true (sym is)

none_of_map : {X Y : Type 0} (f : X → Y) (o : Option X) → option_map f o ≡ None → o ≡ None
none_of_map f None is = refl
none_of_map f (Some x) is = false_true (sym (ap is_some is))

unmarked_head : (headed : WithMark Bool) → headed.current ≡ true → is_some headed.mark ≡ false → headed ≡ record { current = true; mark = None }
unmarked_head headed held unmarked = ap (λ (b : Bool). record { current = b; mark = headed.mark }) held ∙ ap (λ (m : Option Bool). record { current = true; mark = m }) (none_of headed.mark unmarked)

-- marked, written, given a head and committed: what was told is that collection now
pub carried_out : (ws : List Write) (head : Head) (k : Keeping) (w : WithMark Holding) → k.told ≡ Some w → is_marked k ≡ false → k.headed.current ≡ true → k.headed ≡ marks.of_both is_headed w
    → committed (head_set head (all_written ws (marked_here k))) ≡ holding_now (collection_left ws head w.current.rows) k
carried_out ws head k w told unmarked held headed =
    let no_mark : w.mark ≡ None = none_of_map is_headed w.mark (ap (λ (m : WithMark Bool). m.mark) (sym headed) ∙ none_of k.headed.mark unmarked) in
    ap (λ (j : Keeping). committed (head_set head j)) (all_change ws (marked_here k))
    ∙ ap (λ (t : Option (WithMark Holding)). committed (head_set head (changed (with_rows_written ws) (marked_here (record { headed = k.headed; told = t }))))) told
    ∙ sym (
    ap (λ (t : Option (WithMark Holding)). holding_now (collection_left ws head w.current.rows) (record { headed = k.headed; told = t })) told
    ∙ ap (λ (m : Option Holding). holding_now (collection_left ws head w.current.rows) (record { headed = k.headed; told = Some (record { current = w.current; mark = m }) })) no_mark
    ∙ ap (λ (m : WithMark Bool). holding_now (collection_left ws head w.current.rows) (record { headed = m; told = Some (record { current = w.current; mark = None }) })) (unmarked_head k.headed held unmarked)
    )

-- told or not, a head is held and there is no mark, as before
pub headed_stays : (ws : List Write) (head : Head) (k : Keeping) → is_marked k ≡ false → k.headed.current ≡ true → (committed (head_set head (all_written ws (marked_here k)))).headed ≡ k.headed
headed_stays ws head k unmarked held =
    ap (λ (j : Keeping). (committed (head_set head j)).headed) (all_change ws (marked_here k)) ∙ sym (unmarked_head k.headed held unmarked)

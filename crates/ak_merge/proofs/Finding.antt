-- What a search among the rows of a table finds, said of what stands under names.
use Rattle.ak_base.proofs.NameOrder.{names_exact}
use Rattle.ak_base.specs.Limits.{last_id}
use Rattle.ak_base.specs.Rows.{IsChecked, name_of}
use Rattle.ak_keep.proofs.RowsByName.{all_from_gets, all_gets, below_more, both_first, both_second, entries_found, named-get, none_below}
use Rattle.ak_keep.proofs.Paging.{picked}
use Rattle.std.specs.Prelude.{◌≡◌, ℤ, pos, Bool, true, false, T, cond, ◌&&◌, ◌||◌, int_lt, List, [], ◌∷◌, ◌++◌, map, filter, find, Option, Some, None, is_some}
use Rattle.std.specs.Cmp.{first_so, second_so}
use Rattle.std.proofs.Common.{refl, sym, ap, subst, ◌∙◌, arith}
use Rattle.std.proofs.lemmas.Int.{ints}
use Rattle.std.specs.FinMap as finite
use Rattle.std.specs.FinMap.{get, get-entries, entries, entries_sorted, is_sorted}
use Rattle.std.specs.FinMap.Entries.{below_all}
use Rattle.std.specs.List.{AllByRecursion}
use Rattle.std.specs.Option.{option_map, unwrap_or}
use Rattle.std.specs.Ordering.{is_eq, is_lt}
use Rattle.std.specs.declared.cmp.Ordering.TheVariants.{Less, Equal, Greater}
use Rattle.ak_base.specs.Cards.{place_faults, schedule_faults, mark_faults}
use Rattle.ak_base.specs.Columns.{id_fault}
use Rattle.ak_base.specs.Decks.{title_faults as deck_titles, taken_faults}
use Rattle.ak_base.specs.Graves.{grave_faults}
use Rattle.ak_base.specs.NoteTypes.{title_faults as type_titles, form_faults}
use Rattle.ak_base.specs.Names.{name_cmp}
use Rattle.ak_base.specs.Notes.{identity_faults, content_faults}
use Rattle.ak_base.specs.OptionGroups.{general_faults, new_faults, rev_faults, lapse_faults}
use Rattle.ak_base.specs.Reviews.{review_faults}
use Rattle.ak_base.specs.declared.errors.RowFault.TheVariants.{IdRange}
use Rattle.ak_base.specs.declared.names.Name.{Name}
use Rattle.ak_base.specs.declared.names.Table.{Table}
use Rattle.ak_base.specs.declared.rows.Row.{Row}
use Rattle.ak_base.specs.declared.rows.Row.TheVariants as rows
use Rattle.ak_keep.specs.Collections.{Holding, Rows, IsWellFormed, is_past, rows_past}
use Rattle.ak_merge.proofs.CheckedRows.{faultless_of}
use Rattle.ak_merge.specs.Holdings.{AreNamed, AreChecked}

-- ---- options
pub not_none : {A : Type 0} {x : A} → Some x ≡ None → ⊥
not_none is = subst (λ (o : Option _). T (is_some o)) is tt

pub not_both : {b : Bool} → b ≡ true → b ≡ false → ⊥
not_both so other = subst T (sym so ∙ other) tt

-- ---- a search over entries
-- an entry of the table with an id over `past` does not pass the test
abbrev pub Fails : (Row → Bool) → Table → ℤ → Name × Row → Type 0
Fails p table past entry = is_past table past entry.0 ≡ true → p entry.1 ≡ false

all_fail : (p : Row → Bool) (table : Table) (past : ℤ) (es : List (Name × Row)) → find p (picked table past es) ≡ None → AllByRecursion (Fails p table past) es
all_fail p table past [] none = tt
all_fail p table past (e ∷ es) none =
    let more = filter (λ (entry : Name × Row). is_past table past entry.0) es in
    elim (is_past table past e.0) as (λ b. is_past table past e.0 ≡ b → find p (map (λ (entry : Name × Row). entry.1) (cond b (e ∷ more) more)) ≡ None → Fails p table past e × AllByRecursion (Fails p table past) es) [
      | true ↦ λ _ none.
          elim (p e.1) as (λ t. p e.1 ≡ t → cond t (Some e.1) (find p (picked table past es)) ≡ None → Fails p table past e × AllByRecursion (Fails p table past) es) [
            | true ↦ λ _ none. absurd (not_none none)
            | false ↦ λ fails none. ((λ _. fails), all_fail p table past es none)
          ] refl none
      | false ↦ λ outside none. ((λ inside. absurd (not_both inside outside)), all_fail p table past es none)
    ] refl none

none_found : (p : Row → Bool) (table : Table) (past : ℤ) (es : List (Name × Row)) → AllByRecursion (Fails p table past) es → find p (picked table past es) ≡ None
none_found p table past [] all = refl
none_found p table past (e ∷ es) all =
    let more = filter (λ (entry : Name × Row). is_past table past entry.0) es in
    elim (is_past table past e.0) as (λ b. is_past table past e.0 ≡ b → find p (map (λ (entry : Name × Row). entry.1) (cond b (e ∷ more) more)) ≡ None) [
      | true ↦ λ inside. subst (λ (t : Bool). cond t (Some e.1) (find p (picked table past es)) ≡ None) (sym (all.0 inside)) (none_found p table past es all.1)
      | false ↦ λ _. none_found p table past es all.1
    ] refl

-- no row of a table is found exactly where each that stands there fails the test
pub none_in_table : (p : Row → Bool) (table : Table) (held : Rows) → find p (rows_past table (pos 0) held) ≡ None
    → (name : Name) (row : Row) → get held name ≡ Some row → is_past table (pos 0) name ≡ true → p row ≡ false
none_in_table p table held none name row is = all_gets (Fails p table (pos 0)) held name row (all_fail p table (pos 0) (entries held) none) is

pub table_has_none : (p : Row → Bool) (table : Table) (held : Rows) → ((name : Name) (row : Row) → get held name ≡ Some row → is_past table (pos 0) name ≡ true → p row ≡ false)
    → find p (rows_past table (pos 0) held) ≡ None
table_has_none p table held all = none_found p table (pos 0) (entries held) (all_from_gets (Fails p table (pos 0)) held all)

-- ---- ids
over_zero : (id : ℤ) → id_fault id ≡ None → int_lt (pos 0) id ≡ true
unfolding id_fault
over_zero id is =
    elim (int_lt id (pos 1)) as (λ b. int_lt id (pos 1) ≡ b → cond (b || int_lt last_id id) (Some IdRange) None ≡ None → int_lt (pos 0) id ≡ true) [
      | true ↦ λ _ is. absurd (not_none is)
      | false ↦ λ more _. grind (arith, ints, more)
    ] refl is

-- the id of a checked row is over 0
pub id_over_zero : (row : Row) → IsChecked row → int_lt (pos 0) (name_of row).id ≡ true
unfolding identity_faults content_faults place_faults schedule_faults mark_faults type_titles form_faults deck_titles taken_faults general_faults new_faults rev_faults lapse_faults
id_over_zero (rows.Note n) checked = over_zero n.id (faultless_of (identity_faults n ++ content_faults n) checked).0
id_over_zero (rows.Card c) checked = over_zero c.id (faultless_of (place_faults c ++ (schedule_faults c ++ mark_faults c)) checked).0
id_over_zero (rows.Review r) checked = over_zero r.id (faultless_of (review_faults r) checked).0
id_over_zero (rows.NoteType t) checked = over_zero t.id (faultless_of (type_titles t ++ form_faults t) checked).0
id_over_zero (rows.Deck d) checked = over_zero d.id (faultless_of (deck_titles d ++ taken_faults d) checked).0
id_over_zero (rows.Options o) checked = over_zero o.id (faultless_of (general_faults o ++ (new_faults o ++ (rev_faults o ++ lapse_faults o))) checked).0
id_over_zero (rows.Grave g) checked = over_zero g.oid (faultless_of (grave_faults g) checked).1.0

-- ---- what a keeper gives
pub named_of_formed : (c : Holding) → IsWellFormed c → AreNamed (get c.rows)
named_of_formed c formed name row is = named-get c.rows name row formed.named is

pub checked_of_formed : (c : Holding) → IsWellFormed c → AreChecked (get c.rows)
checked_of_formed c formed name row is = all_gets (λ entry. IsChecked entry.1) c.rows name row formed.checked is

-- ---- the first that is found
-- a search of a table's rows is one of the entries
find_picked : (p : Row → Bool) (table : Table) (past : ℤ) (es : List (Name × Row))
    → find p (picked table past es) ≡ option_map (λ (entry : Name × Row). entry.1) (find (λ (entry : Name × Row). is_past table past entry.0 && p entry.1) es)
find_picked p table past [] = refl
find_picked p table past (e ∷ es) =
    let more = filter (λ (entry : Name × Row). is_past table past entry.0) es in
    let rest = find (λ (entry : Name × Row). is_past table past entry.0 && p entry.1) es in
    elim (is_past table past e.0) as (λ b. find p (map (λ (entry : Name × Row). entry.1) (cond b (e ∷ more) more)) ≡ option_map (λ (entry : Name × Row). entry.1) (cond (b && p e.1) (Some e) rest)) [
      | true ↦ elim (p e.1) as (λ t. cond t (Some e.1) (find p (picked table past es)) ≡ option_map (λ (entry : Name × Row). entry.1) (cond t (Some e) rest)) [
        | true ↦ refl
        | false ↦ find_picked p table past es
      ]
      | false ↦ find_picked p table past es
    ]

-- it passes, and is one of the entries
found_passes : (P : Name × Row → Type 0) (t : Name × Row → Bool) (es : List (Name × Row)) (e : Name × Row) → AllByRecursion P es → find t es ≡ Some e → P e × (t e ≡ true)
found_passes P t [] e all is = absurd (not_none (sym is))
found_passes P t (f ∷ es) e all is =
    elim (t f) as (λ b. t f ≡ b → cond b (Some f) (find t es) ≡ Some e → P e × (t e ≡ true)) [
      | true ↦ λ passes is. subst (λ (x : Name × Row). P x × (t x ≡ true)) (ap (λ o. unwrap_or o f) is) (all.0, passes)
      | false ↦ λ _ is. found_passes P t es e all.1 is
    ] refl is

-- what stands under a lesser name fails
lesser_fails : (t : Name × Row → Bool) (es : List (Name × Row)) (e : Name × Row) (q : Name) (x : Row) → T (is_sorted name_cmp es) → find t es ≡ Some e
    → name_cmp q e.0 ≡ Less → finite.find name_cmp q es ≡ Some x → t (q, x) ≡ false
lesser_fails t [] e q x sorted is less has = absurd (not_none (sym is))
lesser_fails t (f ∷ es) e q x sorted is less has =
    elim (t f) as (λ b. t f ≡ b → cond b (Some f) (find t es) ≡ Some e → t (q, x) ≡ false) [
      | true ↦ λ _ is.
          let before : name_cmp q f.0 ≡ Less = ap (λ (o : Option (Name × Row)). name_cmp q (unwrap_or o f).0) is ∙ less in
          let below : T (below_all name_cmp q (f ∷ es)) = subst (λ r. T (is_lt r && below_all name_cmp q es)) (sym before) (below_more q f.0 es before (both_first _ _ sorted)) in
          absurd (not_none (sym has ∙ none_below q (f ∷ es) below))
      | false ↦ λ fails is.
          elim (name_cmp q f.0) as (λ r. name_cmp q f.0 ≡ r → cond (is_eq r) (Some f.1) (finite.find name_cmp q es) ≡ Some x → t (q, x) ≡ false) [
            | Less ↦ λ _ has. lesser_fails t es e q x (both_second _ _ sorted) is less has
            | Equal ↦ λ tied has. ap (λ (o : Option Row). t (q, unwrap_or o x)) (sym has) ∙ ap (λ (n : Name). t (n, f.1)) (names_exact q f.0 tied) ∙ fails
            | Greater ↦ λ _ has. lesser_fails t es e q x (both_second _ _ sorted) is less has
          ] refl has
    ] refl is

-- the first row of a table that passes a test: it stands under its name, and none of the table under a lesser name passes
pub record IsFirstIn (p : Row → Bool) (table : Table) (held : Rows) (name : Name) (row : Row) : Type 0 where
  pub stands : get held name ≡ Some row
  pub inside : is_past table (pos 0) name ≡ true
  pub passes : p row ≡ true
  pub below : (q : Name) (x : Row) → name_cmp q name ≡ Less → get held q ≡ Some x → is_past table (pos 0) q ≡ true → p x ≡ false

first_entry : (p : Row → Bool) (table : Table) (held : Rows) (e : Name × Row) → find (λ (entry : Name × Row). is_past table (pos 0) entry.0 && p entry.1) (entries held) ≡ Some e → IsFirstIn p table held e.0 e.1
first_entry p table held e is =
    let t : Name × Row → Bool = λ (entry : Name × Row). is_past table (pos 0) entry.0 && p entry.1 in
    let one = found_passes (λ (entry : Name × Row). get held entry.0 ≡ Some entry.1) t (entries held) e (entries_found held) is in
    record {
      stands = one.0;
      inside = first_so (is_past table (pos 0) e.0) (p e.1) one.1;
      passes = second_so (is_past table (pos 0) e.0) (p e.1) one.1;
      below = λ q x less has inside. ap (λ b. b && p x) (sym inside) ∙ lesser_fails t (entries held) e q x (entries_sorted held) is less (sym (get-entries held q) ∙ has);
    }

pub first_in_table : (p : Row → Bool) (table : Table) (held : Rows) (name : Name) → AreNamed (get held) → option_map name_of (find p (rows_past table (pos 0) held)) ≡ Some name
    → (row : Row) × IsFirstIn p table held name row
first_in_table p table held name are_named is =
    elim (find t (entries held)) as (λ o. find t (entries held) ≡ o → option_map name_of (option_map (λ (entry : Name × Row). entry.1) o) ≡ Some name → (row : Row) × IsFirstIn p table held name row) [
      | None ↦ λ _ is. absurd (not_none (sym is))
      | Some e ↦ λ found is.
          let first = first_entry p table held e found in
          let same : e.0 ≡ name = sym (are_named e.0 e.1 first.stands) ∙ ap (λ (o : Option Name). unwrap_or o name) is in
          (e.1, subst (λ (n : Name). IsFirstIn p table held n e.1) same first)
    ] refl (ap (option_map name_of) (sym (find_picked p table (pos 0) (entries held))) ∙ is)
  where
    t : Name × Row → Bool
    t entry = is_past table (pos 0) entry.0 && p entry.1

-- No name comes twice among the writes of an edit.
use Rattle.std.proofs.Common.{◌≡◌, ℤ, pos, T, Bool, true, false, List, [], ◌∷◌, ◌++◌, map, Option, Some, None, is_some, if◌then◌else◌, refl, sym, ap, subst, ◌∙◌}
use Rattle.std.proofs.lemmas.List.{append_assoc}
use Rattle.std.proofs.lemmas.Map.Keys.{IsDistinct-cons, IsDistinct-from_sorted, IsDistinct-head, IsDistinct-tail}
use Rattle.std.proofs.lemmas.Option.{none-some, same_Some}
use Rattle.std.specs.List.{AllByRecursion, IsDistinct}
use Rattle.std.specs.List.Sorted.{IsStrictlySortedBy}
use Rattle.std.specs.Map.{keys_of}
use Rattle.std.specs.Option.{option_map}
use Rattle.std.specs.Cmp.{eq_by_cmp_equiv}
use Rattle.std.specs.Ordering.{eq_by_cmp}
use Rattle.ak_base.proofs.Burials.{graves_exactly, names_exactly}
use Rattle.ak_base.specs.Names.{name_cmp, names_total}
use Rattle.ak_base.specs.Tables.{buried_in, buried_name, grave_name, graves_of}
use Rattle.ak_base.specs.declared.names.Name.{Name}
use Rattle.ak_base.specs.declared.names.Table.{Table}
use Rattle.ak_base.specs.declared.rows.Row.{Row}
use Rattle.ak_keep.proofs.RowsByName.{same_of_tied}
use Rattle.ak_merge.specs.Edits.{changes_row, goes, grave_left}
use Rattle.ak_keep.specs.Graves.{RowsByName}
use Rattle.ak_edit.proofs.Planning.{buried_on, kept_on}
use Rattle.ak_edit.specs.Plans.{IsPlanOf, grave_writes, row_writes, writes_under}
use Rattle.ak_edit.specs.declared.plans.Write.{Write}

-- ---- names
apart_names : (x y : Name) → (x ≡ y → ⊥) → eq_by_cmp name_cmp x y ≡ false
apart_names x y no_tie = elim (eq_by_cmp name_cmp x y) as (λ b. eq_by_cmp name_cmp x y ≡ b → b ≡ false) [ true ↦ λ is. absurd (no_tie (same_of_tied x y is)) | false ↦ λ _. refl ] refl

grave_of : (name grave : Name) → grave_name name ≡ Some grave → buried_in grave.table ≡ Some name.table
grave_of name grave is =
    elim (graves_of name.table) as (λ o. graves_of name.table ≡ o → option_map (λ (table : Table). record { table = table; id = name.id }) o ≡ Some grave → buried_in grave.table ≡ Some name.table) [
      | Some table ↦ λ e k. subst (λ (n : Name). buried_in n.table ≡ Some name.table) (same_Some (record { table = table; id = name.id }) grave k) ((graves_exactly name.table table).0 e)
      | None ↦ λ e k. absurd (none-some grave k)
    ] refl is

-- a row has not the name of a grave
row_and_grave : (name other grave : Name) → buried_in name.table ≡ None → grave_name other ≡ Some grave → name ≡ grave → ⊥
row_and_grave name other grave row is same = none-some other.table (sym row ∙ ap (λ (n : Name). buried_in n.table) same ∙ grave_of other grave is)

-- graves of one name are of one row
one_grave : (x y g h : Name) → grave_name x ≡ Some g → grave_name y ≡ Some h → g ≡ h → x ≡ y
one_grave x y g h of_x of_y same = same_Some x y (sym ((names_exactly x g).0 of_x) ∙ ap buried_name same ∙ (names_exactly y h).0 of_y)

-- ---- writes under other names
away_append : (name : Name) (ws vs : List Write) → AllByRecursion (λ write. eq_by_cmp name_cmp name write.name ≡ false) ws → AllByRecursion (λ write. eq_by_cmp name_cmp name write.name ≡ false) vs
    → AllByRecursion (λ write. eq_by_cmp name_cmp name write.name ≡ false) (ws ++ vs)
away_append name [] vs one other = other
away_append name (w ∷ ws) vs one other = (one.0, away_append name ws vs one.1 other)

away_if : (name : Name) (b : Bool) (w : Write) → eq_by_cmp name_cmp name w.name ≡ false → AllByRecursion (λ write. eq_by_cmp name_cmp name write.name ≡ false) (if b then w ∷ [] else [])
away_if name true w is = (is, tt)
away_if name false w is = tt

away_grave : (name : Name) (at : RowsByName) (key : Name) (o : Option Name) → ((grave : Name) → o ≡ Some grave → eq_by_cmp name_cmp name grave ≡ false)
    → AllByRecursion (λ write. eq_by_cmp name_cmp name write.name ≡ false) (grave_writes at key o)
away_grave name at key None is = tt
away_grave name at key (Some grave) is = (is grave refl, tt)

-- neither the row of the entry nor its grave has the name
record IsOther (name key : Name) : Type 0 where
  row : buried_in key.table ≡ None → eq_by_cmp name_cmp name key ≡ false
  grave : (grave : Name) → grave_name key ≡ Some grave → eq_by_cmp name_cmp name grave ≡ false

away_under : (name : Name) (second : ℤ) (at : RowsByName) (key : Name) (made : Option Row) → IsOther name key → AllByRecursion (λ write. eq_by_cmp name_cmp name write.name ≡ false) (writes_under second at key made)
away_under name second at key made other =
    elim (buried_in key.table) as (λ o. buried_in key.table ≡ o → AllByRecursion (λ write. eq_by_cmp name_cmp name write.name ≡ false) (if is_some o then []
    else if goes (at key) made then row_writes second key (at key) made ++ grave_writes at key (grave_name key) else row_writes second key (at key) made)) [
      | Some table ↦ λ _. tt
      | None ↦ λ e.
          let row : AllByRecursion (λ write. eq_by_cmp name_cmp name write.name ≡ false) (row_writes second key (at key) made) = away_if name (changes_row (at key) made) _ (other.row e) in
          elim (goes (at key) made) as (λ b. AllByRecursion (λ write. eq_by_cmp name_cmp name write.name ≡ false) (if b then row_writes second key (at key) made ++ grave_writes at key (grave_name key) else row_writes second key (at key) made)) [
            | true ↦ away_append name (row_writes second key (at key) made) (grave_writes at key (grave_name key)) row (away_grave name at key (grave_name key) other.grave)
            | false ↦ row
          ]
    ] refl

away_all : (name : Name) (second : ℤ) (es : List (Name × Option Row)) (ws : List Write) → AllByRecursion (λ (e : Name × Option Row). IsOther name e.0) es → IsPlanOf second es ws
    → AllByRecursion (λ write. eq_by_cmp name_cmp name write.name ≡ false) ws
away_all name second [] ws others plan = subst (AllByRecursion (λ write. eq_by_cmp name_cmp name write.name ≡ false)) (sym plan) tt
away_all name second (e ∷ es) ws others plan =
    subst (AllByRecursion (λ write. eq_by_cmp name_cmp name write.name ≡ false)) (sym plan.2)
    (away_append name (writes_under second plan.0 e.0 e.1) plan.1 (away_under name second plan.0 e.0 e.1 others.0) (away_all name second es plan.1 others.1 plan.3))

-- other entries than one of a row, and than its grave
others_of : (name : Name) → buried_in name.table ≡ None → (es : List (Name × Option Row)) → AllByRecursion (λ (y : Name). eq_by_cmp name_cmp name y ≡ false) (keys_of es)
    → AllByRecursion (λ (e : Name × Option Row). IsOther name e.0) es
others_of name row [] apart = tt
others_of name row (e ∷ es) apart =
    (record { row = λ _. apart.0; grave = λ grave is. apart_names name grave (row_and_grave name e.0 grave row is) }, others_of name row es apart.1)

untied : (x y : Name) → eq_by_cmp name_cmp x y ≡ false → x ≡ y → ⊥
untied x y no_tie same = true_not_false (sym (subst (λ (n : Name). eq_by_cmp name_cmp x n ≡ true) same (tied x)) ∙ no_tie)
  where
    tied : (x : Name) → eq_by_cmp name_cmp x x ≡ true
    tied x = (eq_by_cmp_equiv names_total).refl x

    true_not_false : true ≡ false → ⊥
    true_not_false e = subst T e tt

graves_others : (name grave : Name) → grave_name name ≡ Some grave → (es : List (Name × Option Row)) → AllByRecursion (λ (y : Name). eq_by_cmp name_cmp name y ≡ false) (keys_of es)
    → AllByRecursion (λ (e : Name × Option Row). IsOther grave e.0) es
graves_others name grave is [] apart = tt
graves_others name grave is (e ∷ es) apart = (
  record {
    row = λ row. apart_names grave e.0 (λ same. row_and_grave e.0 name grave row is (sym same));
    grave = λ other of_e. apart_names grave other (λ same. untied name e.0 apart.0 (one_grave name e.0 grave other is of_e same));
  },
  graves_others name grave is es apart.1,
)

-- ---- distinct
abbrev names_of : List Write → List Name
names_of = map (λ (write : Write). write.name)

away_names : (name : Name) (ws : List Write) → AllByRecursion (λ write. eq_by_cmp name_cmp name write.name ≡ false) ws → AllByRecursion (λ (y : Name). eq_by_cmp name_cmp name y ≡ false) (names_of ws)
away_names name [] away = tt
away_names name (w ∷ ws) away = (away.0, away_names name ws away.1)

distinct_if : (b : Bool) (w : Write) (ws : List Write) → AllByRecursion (λ write. eq_by_cmp name_cmp w.name write.name ≡ false) ws → IsDistinct (eq_by_cmp name_cmp) (names_of ws)
    → IsDistinct (eq_by_cmp name_cmp) (names_of ((if b then w ∷ [] else []) ++ ws))
distinct_if true w ws away distinct = IsDistinct-cons (eq_by_cmp name_cmp) w.name (names_of ws) (away_names w.name ws away) distinct
distinct_if false w ws away distinct = distinct

distinct_grave : (at : RowsByName) (key : Name) (o : Option Name) (ws : List Write) → ((grave : Name) → o ≡ Some grave → AllByRecursion (λ write. eq_by_cmp name_cmp grave write.name ≡ false) ws)
    → IsDistinct (eq_by_cmp name_cmp) (names_of ws) → IsDistinct (eq_by_cmp name_cmp) (names_of (grave_writes at key o ++ ws))
distinct_grave at key None ws away distinct = distinct
distinct_grave at key (Some grave) ws away distinct = IsDistinct-cons (eq_by_cmp name_cmp) grave (names_of ws) (away_names grave ws (away grave refl)) distinct

distinct_under : (second : ℤ) (at : RowsByName) (key : Name) (made : Option Row) (ws : List Write) → (buried_in key.table ≡ None → AllByRecursion (λ write. eq_by_cmp name_cmp key write.name ≡ false) ws)
    → ((grave : Name) → grave_name key ≡ Some grave → AllByRecursion (λ write. eq_by_cmp name_cmp grave write.name ≡ false) ws) → IsDistinct (eq_by_cmp name_cmp) (names_of ws)
    → IsDistinct (eq_by_cmp name_cmp) (names_of (writes_under second at key made ++ ws))
distinct_under second at key made ws row grave distinct =
    elim (buried_in key.table) as (λ o. buried_in key.table ≡ o → IsDistinct (eq_by_cmp name_cmp) (names_of ((if is_some o then []
    else if goes (at key) made then row_writes second key (at key) made ++ grave_writes at key (grave_name key) else row_writes second key (at key) made) ++ ws))) [
      | Some table ↦ λ _. distinct
      | None ↦ λ e.
          elim (goes (at key) made) as (λ b. IsDistinct (eq_by_cmp name_cmp) (names_of ((if b then row_writes second key (at key) made ++ grave_writes at key (grave_name key) else row_writes second key (at key) made) ++ ws))) [
            | true ↦
                subst (λ (us : List Write). IsDistinct (eq_by_cmp name_cmp) (names_of us)) (sym (append_assoc (row_writes second key (at key) made) (grave_writes at key (grave_name key)) ws))
                (distinct_if (changes_row (at key) made) _ (grave_writes at key (grave_name key) ++ ws)
                (away_append key (grave_writes at key (grave_name key)) ws (away_grave key at key (grave_name key) (λ grave is. apart_names key grave (row_and_grave key key grave e is))) (row e))
                (distinct_grave at key (grave_name key) ws grave distinct))
            | false ↦ distinct_if (changes_row (at key) made) _ ws (row e) distinct
          ]
    ] refl

distinct_all : (second : ℤ) (es : List (Name × Option Row)) (ws : List Write) → IsPlanOf second es ws → IsDistinct (eq_by_cmp name_cmp) (keys_of es) → IsDistinct (eq_by_cmp name_cmp) (names_of ws)
distinct_all second [] ws plan distinct = subst (λ (us : List Write). IsDistinct (eq_by_cmp name_cmp) (names_of us)) (sym plan) distinct
distinct_all second (e ∷ es) ws plan distinct =
    let apart = IsDistinct-head (eq_by_cmp name_cmp) e.0 (keys_of es) distinct in
    subst (λ (us : List Write). IsDistinct (eq_by_cmp name_cmp) (names_of us)) (sym plan.2)
    (distinct_under second plan.0 e.0 e.1 plan.1 (λ row. away_all e.0 second es plan.1 (others_of e.0 row es apart) plan.3)
    (λ grave is. away_all grave second es plan.1 (graves_others e.0 grave is es apart) plan.3) (distinct_all second es plan.1 plan.3 (IsDistinct-tail (eq_by_cmp name_cmp) e.0 (keys_of es) distinct)))

-- the names of the writes are distinct, since those of the entries ascend
pub distinct_writes : (second : ℤ) (es : List (Name × Option Row)) (ws : List Write) → IsPlanOf second es ws → IsStrictlySortedBy name_cmp (keys_of es) → IsDistinct (eq_by_cmp name_cmp) (map (λ (write : Write). write.name) ws)
distinct_writes second es ws plan ascend = distinct_all second es ws plan (IsDistinct-from_sorted name_cmp (keys_of es) ascend)

-- ---- the rows that were read for one entry
-- those of a row that goes, and of its grave
pub read_both : (second : ℤ) (at : RowsByName) (name : Name) (before made : Option Row) (ws vs us : List Write) → is_some (buried_in name.table) ≡ false → goes before made ≡ true
    → vs ≡ ws ++ row_writes second name before made → us ≡ vs ++ grave_writes at name (grave_name name) → (both : RowsByName) × (us ≡ ws ++ writes_under second both name made)
read_both second at name before made ws vs us none going row grave =
    let both : RowsByName = λ (n : Name). if eq_by_cmp name_cmp n name then before else at n in
    let here : before ≡ both name = rw (tied name) refl in (
      both,
      buried_on second both name before made ws vs us none here going row (grave ∙ ap (λ (xs : List Write). vs ++ xs) (graves_alike name (grave_name name) at both
          (λ g is. rw (apart_names g name (λ same. row_and_grave name name g (no_table none) is (sym same))) refl))),
    )
  where
    tied : (x : Name) → eq_by_cmp name_cmp x x ≡ true
    tied x = (eq_by_cmp_equiv names_total).refl x

    no_table : is_some (buried_in name.table) ≡ false → buried_in name.table ≡ None
    no_table e = elim (buried_in name.table) as (λ o. is_some o ≡ false → o ≡ None) [ Some t ↦ λ f. absurd (subst T f tt) | None ↦ λ _. refl ] e

    graves_alike : (key : Name) (o : Option Name) (one other : RowsByName) → ((g : Name) → o ≡ Some g → one g ≡ other g) → grave_writes one key o ≡ grave_writes other key o
    graves_alike key None one other same = refl
    graves_alike key (Some g) one other same = ap (λ (x : Option Row). record { name = g; before = x; row = grave_left key; stamp = pos 0 } ∷ []) (same g refl)

-- those of a row that stays
pub read_one : (second : ℤ) (name : Name) (before made : Option Row) (ws vs : List Write) → is_some (buried_in name.table) ≡ false → goes before made ≡ false → vs ≡ ws ++ row_writes second name before made
    → (at : RowsByName) × (vs ≡ ws ++ writes_under second at name made)
read_one second name before made ws vs none going row = ((λ (n : Name). before), kept_on second (λ (n : Name). before) name before made ws vs none refl going row)

-- and one entry more
pub plan_on : (second : ℤ) (all es : List (Name × Option Row)) (e : Name × Option Row) (ws us : List Write) → ((vs : List Write) → IsPlanOf second (e ∷ es) vs → IsPlanOf second all (ws ++ vs))
    → (at : RowsByName) × (us ≡ ws ++ writes_under second at e.0 e.1) → (vs : List Write) → IsPlanOf second es vs → IsPlanOf second all (us ++ vs)
plan_on second all es e ws us so_far here vs plan =
    subst (IsPlanOf second all) (sym (append_assoc ws (writes_under second here.0 e.0 e.1) vs) ∙ ap (λ (xs : List Write). xs ++ vs) (sym here.1))
    (so_far (writes_under second here.0 e.0 e.1 ++ vs) (here.0, vs, refl, plan))

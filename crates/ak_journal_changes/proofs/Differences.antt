-- The rows that are held under touched names, and the names under which none is, tell of what is held.
use Rattle.std.proofs.Common.{◌≡◌, Bool, true, false, ◌||◌, cond, if◌then◌else◌, List, [], ◌∷◌, map, filter, Option, Some, None, IfSome, refl, sym, ap, ◌∙◌, subst}
use Rattle.std.specs.Prelude.{◌&&◌, is_none, is_some}
use Rattle.std.specs.BTreeMap.{is_at}
use Rattle.std.specs.FinMap.{empty, get}
use Rattle.std.specs.List.{All, cons_option}
use Rattle.std.specs.List.Sorted.{IsStrictlySortedBy}
use Rattle.std.specs.Option.{option_or}
use Rattle.std.proofs.lemmas.List.Elements.{All-cons, All-filter, All-head, All-nil, All-tail}
use Rattle.std.proofs.lemmas.List.Kept.{IsStrictlySortedBy-filter}
use Rattle.std.specs.Ordering.{is_eq}
use Rattle.std.specs.declared.cmp.Ordering.{Ordering}
use Rattle.std.specs.declared.cmp.Ordering.TheVariants.{Less, Equal, Greater}
use Rattle.ak_base.specs.Heads.{IsHeadInRange}
use Rattle.ak_base.specs.Names.{name_cmp}
use Rattle.ak_base.specs.Rows.{IsChecked, name_of}
use Rattle.ak_base.specs.declared.heads.Head.{Head}
use Rattle.ak_base.specs.declared.names.Name.{Name}
use Rattle.ak_base.specs.declared.rows.Row.{Row}
use Rattle.ak_base.proofs.NameOrder.{names_exact}
use Rattle.ak_keep.proofs.Forming.{checked-get}
use Rattle.ak_keep.proofs.RowsByName.{IsNamed, all_gets}
use Rattle.ak_keep.specs.Collections.{Holding, IsWellFormed, Rows}
use Rattle.ak_tables.proofs.Covering.{or_left, or_right, touched_suffice}
use Rattle.ak_tables.specs.Tables.{Covers, IsWrittenOver, is_among, left_of}
use Rattle.ak_tables.specs.declared.touched.Touched.{Touched}
use Rattle.ak_journal_rows.proofs.Folds.{rows_after}
use Rattle.ak_journal_rows.specs.Changes.{AreApart, AreListed, HasWordId, IsOfForm, after_change, is_cut, left_by, own_name, row_put}
use Rattle.ak_journal_rows.specs.declared.changes.Change.{Change}
use Rattle.ak_journal_changes.specs.HeldNames.{IsChangeOf, names_free, rows_held}

-- names that the order ties are one
same_at : (name other : Name) → is_at (name_cmp name) other ≡ true → name ≡ other
same_at name other is = names_exact name other (tied (name_cmp name other) is)
  where
    tied : (o : Ordering) → is_eq o ≡ true → o ≡ Equal
    tied Less e = cc
    tied Equal e = refl
    tied Greater e = cc

none_some : (row : Row) → None ≡ Some row → ⊥
none_some row is = cc

false_true : false ≡ true → ⊥
false_true is = cc

none_there : (among : Bool) (o : Option Row) → o ≡ None → (if among then o else None) ≡ (if true then o else None)
none_there true o is = refl
none_there false o is = sym is

-- ---- the lists
-- each row that is held is held under its own name
named_at : (held : Holding) (name : Name) (row : Row) → IsWellFormed held → get held.rows name ≡ Some row → name_of row ≡ name
named_at held name row h is = all_gets IsNamed held.rows name row h.named is

-- the names of the rows that are held are those under which one is
held_names : (held : Holding) (names : List Name) → IsWellFormed held → map name_of (rows_held held.rows names) ≡ filter (λ name. is_some (get held.rows name)) names
held_names held [] h = refl
held_names held (name ∷ names) h = among (get held.rows name) refl (held_names held names h)
  where
    found_names : List Name
    found_names = filter (λ name. is_some (get held.rows name)) names

    among : (found : Option Row) → get held.rows name ≡ found → map name_of (rows_held held.rows names) ≡ found_names
        → map name_of (cons_option found (rows_held held.rows names)) ≡ (if is_some found then name ∷ found_names else found_names)
    among None is rest = rest
    among (Some row) is rest = let same : name_of row ≡ name = named_at held name row h is in λ i. same i ∷ rest i

rows_good : (held : Holding) (names : List Name) → IsWellFormed held → All IsChecked (rows_held held.rows names)
rows_good held [] h = All-nil IsChecked
rows_good held (name ∷ names) h = among (get held.rows name) (checked-get held name (get held.rows name) h refl) (rows_good held names h)
  where
    among : (found : Option Row) → IfSome found IsChecked → All IsChecked (rows_held held.rows names) → All IsChecked (cons_option found (rows_held held.rows names))
    among None good rest = rest
    among (Some row) good rest = All-cons IsChecked row (rows_held held.rows names) good rest

map_same : (names : List Name) → map own_name names ≡ names
map_same [] = refl
map_same (name ∷ names) = ap (λ rest. name ∷ rest) (map_same names)

cut_listed : (rows : Rows) (names : List Name) → IsStrictlySortedBy name_cmp names → All HasWordId names → AreListed HasWordId own_name (names_free rows names)
cut_listed rows names s ids = record {
  each = All-filter (λ name. is_none (get rows name)) HasWordId names ids;
  ascending = subst (IsStrictlySortedBy name_cmp) (sym (map_same (names_free rows names))) (IsStrictlySortedBy-filter name_cmp (λ name. is_none (get rows name)) names s);
}

put_listed : (held : Holding) (names : List Name) → IsWellFormed held → IsStrictlySortedBy name_cmp names → AreListed IsChecked name_of (rows_held held.rows names)
put_listed held names h s = record {
  each = rows_good held names h;
  ascending = subst (IsStrictlySortedBy name_cmp) (sym (held_names held names h)) (IsStrictlySortedBy-filter name_cmp (λ name. is_some (get held.rows name)) names s);
}

-- ---- each name
-- what is put under a name is what is held there, if it is one of these
put_at : (held : Holding) (names : List Name) (name : Name) → IsWellFormed held
    → row_put (rows_held held.rows names) name ≡ (if is_among names name then get held.rows name else None)
put_at held [] name h = refl
put_at held (first ∷ names) name h = among (get held.rows first) refl (put_at held names name h)
  where
    these : Option Row
    these = if is_among names name then get held.rows name else None

    tied : (here : Bool) → is_at (name_cmp name) first ≡ here → (found : Option Row) → get held.rows first ≡ found → row_put (rows_held held.rows names) name ≡ these
        → cond here found (row_put (rows_held held.rows names) name) ≡ (if here || is_among names name then get held.rows name else None)
    tied true is found got rest = sym got ∙ ap (get held.rows) (sym (same_at name first is))
    tied false is found got rest = rest

    missing : (here : Bool) → is_at (name_cmp name) first ≡ here → get held.rows first ≡ None → row_put (rows_held held.rows names) name ≡ these
        → row_put (rows_held held.rows names) name ≡ (if here || is_among names name then get held.rows name else None)
    missing true is got rest = rest ∙ none_there (is_among names name) (get held.rows name) (ap (get held.rows) (same_at name first is) ∙ got)
    missing false is got rest = rest

    among : (found : Option Row) → get held.rows first ≡ found → row_put (rows_held held.rows names) name ≡ these
        → row_put (cons_option found (rows_held held.rows names)) name ≡ (if is_at (name_cmp name) first || is_among names name then get held.rows name else None)
    among None got rest = missing (is_at (name_cmp name) first) refl got rest
    among (Some row) got rest =
        let same : name_of row ≡ first = named_at held first row h got in
        ap (λ (n : Name). cond (is_at (name_cmp name) n) (Some row) (row_put (rows_held held.rows names) name)) same
        ∙ tied (is_at (name_cmp name) first) refl (Some row) got rest

-- a name is cut if it is one of these and nothing is held there
cut_at : (rows : Rows) (names : List Name) (name : Name) → get rows name ≡ None → is_cut (names_free rows names) name ≡ is_among names name
cut_at rows [] name none = refl
cut_at rows (first ∷ names) name none = among (get rows first) (is_at (name_cmp name) first) refl refl (cut_at rows names name none)
  where
    among : (found : Option Row) (here : Bool) → get rows first ≡ found → is_at (name_cmp name) first ≡ here → is_cut (names_free rows names) name ≡ is_among names name
        → is_cut (if is_none found then first ∷ names_free rows names else names_free rows names) name ≡ (here || is_among names name)
    among None here got is rest = ap (λ (b : Bool). b || is_cut (names_free rows names) name) is ∙ ap (λ (b : Bool). here || b) rest
    among (Some row) true got is rest = absurd (none_some row (sym none ∙ (ap (get rows) (same_at name first is) ∙ got)))
    among (Some row) false got is rest = rest

-- a name under which a row is held is not cut
cut_held : (rows : Rows) (names : List Name) (name : Name) (held : Row) → get rows name ≡ Some held → is_cut (names_free rows names) name ≡ false
cut_held rows [] name held got = refl
cut_held rows (first ∷ names) name held got = among (get rows first) (is_at (name_cmp name) first) refl refl (cut_held rows names name held got)
  where
    among : (found : Option Row) (here : Bool) → get rows first ≡ found → is_at (name_cmp name) first ≡ here → is_cut (names_free rows names) name ≡ false
        → is_cut (if is_none found then first ∷ names_free rows names else names_free rows names) name ≡ false
    among None true found is rest = absurd (none_some held (sym found ∙ (ap (get rows) (sym (same_at name first is)) ∙ got)))
    among None false found is rest = ap (λ (b : Bool). b || is_cut (names_free rows names) name) is ∙ rest
    among (Some row) here found is rest = rest

-- what is cut is one of these
cut_among : (rows : Rows) (names : List Name) (name : Name) → is_among names name ≡ false → is_cut (names_free rows names) name ≡ false
cut_among rows [] name free = refl
cut_among rows (first ∷ names) name free =
    among (is_none (get rows first)) (cut_among rows names name (or_right (is_at (name_cmp name) first) (is_among names name) free))
  where
    among : (lacks : Bool) → is_cut (names_free rows names) name ≡ false → is_cut (if lacks then first ∷ names_free rows names else names_free rows names) name ≡ false
    among true rest = ap (λ (b : Bool). b || is_cut (names_free rows names) name) (or_left (is_at (name_cmp name) first) (is_among names name) free) ∙ rest
    among false rest = rest

-- ---- the change
-- under each name stands what is held, if it was touched, and else what was left
written_over : (touched : Touched) (was now : Holding) (change : Change) → IsOfForm change → IsChangeOf touched now change
    → IsWrittenOver touched now.rows (left_of touched was) (after_change change was).rows
written_over touched was now change formed is name =
    rows_after change was name formed
    ∙ ap (λ (o : Option Row). option_or o (if is_cut change.cut name then None else get (left_by change was) name)) (is.put name)
    ∙ ap (λ (gone : Bool). option_or (if is_among touched.names name then get now.rows name else None) (if gone then None else get (left_by change was) name)) (is.cut name)
    ∙ ap (λ (whole : Bool). option_or (if is_among touched.names name then get now.rows name else None)
    (if is_among touched.names name && is_none (get now.rows name) then None else get (if whole then empty else was.rows) name)) is.all
    ∙ either (is_among touched.names name) (get now.rows name)
  where
    either : (among : Bool) (found : Option Row)
        → option_or (if among then found else None) (if among && is_none found then None else get (left_of touched was) name) ≡ (if among then found else get (left_of touched was) name)
    either true (Some row) = refl
    either true None = refl
    either false found = refl

head_after : (set : Bool) (was now : Option Head) → (set ≡ true → is_some now ≡ true) → (set ≡ false → now ≡ was) → option_or (if set then now else None) was ≡ now
head_after true was None some same = absurd (false_true (some refl))
head_after true was (Some head) some same = refl
head_after false was now some same = sym (same refl)

pub makes : (touched : Touched) (was now : Holding) (change : Change) → IsOfForm change → IsChangeOf touched now change → Covers touched was now → after_change change was ≡ now
makes touched was now change formed is covers =
    let rows : (after_change change was).rows ≡ now.rows = touched_suffice touched was now (after_change change was).rows covers (written_over touched was now change formed is) in
    let head : option_or change.head was.head ≡ now.head =
    ap (λ (o : Option Head). option_or o was.head) is.head ∙ head_after touched.head was.head now.head covers.set covers.head in
    λ i. record { rows = rows i; head = head i }

if_head : (set : Bool) (head : Option Head) → IfSome head IsHeadInRange → IfSome (if set then head else None) IsHeadInRange
if_head true head h = h
if_head false head h = tt

-- no row is put under a name that is cut
apart : (held : Holding) (names gone : List Name) → IsWellFormed held → All (λ name. get held.rows name ≡ None) gone → AreApart (rows_held held.rows names) gone
apart held names [] h none = tt
apart held names (name ∷ gone) h none = (
  put_at held names name h ∙ either (is_among names name) (get held.rows name) (All-head (λ n. get held.rows n ≡ None) name gone none),
  apart held names gone h (All-tail (λ n. get held.rows n ≡ None) name gone none),
)
  where
    either : (among : Bool) (found : Option Row) → found ≡ None → (if among then found else None) ≡ None
    either true found is = is
    either false found is = refl

-- under the names that are free none is held
free : (rows : Rows) (names : List Name) → All (λ name. get rows name ≡ None) (names_free rows names)
free rows [] = All-nil (λ name. get rows name ≡ None)
free rows (name ∷ names) = among (get rows name) refl (free rows names)
  where
    among : (found : Option Row) → get rows name ≡ found → All (λ n. get rows n ≡ None) (names_free rows names)
        → All (λ n. get rows n ≡ None) (if is_none found then name ∷ names_free rows names else names_free rows names)
    among None is rest = All-cons (λ n. get rows n ≡ None) name (names_free rows names) is rest
    among (Some row) is rest = rest

headed_by : (all whole set : Bool) (now : Option Head) → all ≡ whole → (whole ≡ true → set ≡ true) → (set ≡ true → is_some now ≡ true) → all ≡ true → is_some (if set then now else None) ≡ true
headed_by all whole true now same with_head some is = some refl
headed_by all whole false now same with_head some is = absurd (false_true (with_head (sym same ∙ is)))

pub formed : (names : List Name) (held : Holding) (change : Change) (touched : Touched) → IsWellFormed held → IsStrictlySortedBy name_cmp names → All HasWordId names
    → (touched.head ≡ true → is_some held.head ≡ true) → (touched.whole ≡ true → touched.head ≡ true) → change.all ≡ touched.whole → change.cut ≡ names_free held.rows names
    → change.put ≡ rows_held held.rows names → change.head ≡ (if touched.head then held.head else None) → IsOfForm change
formed names held change touched h s ids some whole all cut put head = record {
  cut = subst (AreListed HasWordId own_name) (sym cut) (cut_listed held.rows names s ids);
  put = subst (AreListed IsChecked name_of) (sym put) (put_listed held names h s);
  apart = subst (λ (rows : List Row). AreApart rows change.cut) (sym put) (subst (AreApart (rows_held held.rows names)) (sym cut) (apart held names (names_free held.rows names) h (free held.rows names)));
  head = subst (λ (o : Option Head). IfSome o IsHeadInRange) (sym head) (if_head touched.head held.head h.head);
  headed = subst (λ (o : Option Head). change.all ≡ true → is_some o ≡ true) (sym head) (headed_by change.all touched.whole touched.head held.head all whole some);
}

-- what is cut, name by name
cut_each : (rows : Rows) (names : List Name) (name : Name) → is_cut (names_free rows names) name ≡ (is_among names name && is_none (get rows name))
cut_each rows names name = among (get rows name) (is_among names name) refl refl
  where
    among : (found : Option Row) (here : Bool) → get rows name ≡ found → is_among names name ≡ here → is_cut (names_free rows names) name ≡ (here && is_none found)
    among None true got is = cut_at rows names name got ∙ is
    among None false got is = cut_at rows names name got ∙ is
    among (Some row) true got is = cut_held rows names name row got
    among (Some row) false got is = cut_among rows names name is

pub is_change : (names : List Name) (held : Holding) (change : Change) (touched : Touched) → IsWellFormed held → change.all ≡ touched.whole → change.cut ≡ names_free held.rows names
    → change.put ≡ rows_held held.rows names → change.head ≡ (if touched.head then held.head else None) → ((name : Name) → is_among names name ≡ is_among touched.names name)
    → IsChangeOf touched held change
is_change names held change touched h all cut put head same = record {
  all = all;
  put = λ name. ap (λ (rows : List Row). row_put rows name) put ∙ put_at held names name h ∙ ap (λ (b : Bool). if b then get held.rows name else None) (same name);
  cut = λ name. ap (λ (gone : List Name). is_cut gone name) cut ∙ cut_each held.rows names name ∙ ap (λ (b : Bool). b && is_none (get held.rows name)) (same name);
  head = head;
}

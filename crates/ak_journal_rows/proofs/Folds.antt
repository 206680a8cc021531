-- What changes make of a collection.
use Rattle.std.proofs.Common.{◌≡◌, ℕ, Bool, true, false, ◌||◌, cond, if◌then◌else◌, List, [], ◌∷◌, ◌++◌, map, Option, Some, None, IfSome, refl, sym, ap, ◌∙◌, subst}
use Rattle.std.specs.BTreeMap.{is_at}
use Rattle.std.specs.FinMap.{empty, get, get-insert, get-remove, insert, remove}
use Rattle.std.specs.List.{All, AllByRecursion}
use Rattle.std.specs.List.Sorted.{IsStrictlySortedBy}
use Rattle.std.specs.Option.{option_or}
use Rattle.std.specs.declared.cmp.Ordering.{Ordering}
use Rattle.std.specs.declared.cmp.Ordering.TheVariants.{Less, Equal, Greater}
use Rattle.std.specs.Ordering.{is_eq}
use Rattle.std.proofs.lemmas.List.Elements.{All-head, All-tail}
use Rattle.ak_base.proofs.NameOrder.{names_exact}
use Rattle.ak_base.specs.Heads.{IsHeadInRange}
use Rattle.ak_base.specs.Names.{name_cmp, names_total}
use Rattle.ak_base.specs.Rows.{IsChecked, name_of}
use Rattle.ak_base.specs.declared.heads.Head.{Head}
use Rattle.ak_base.specs.declared.names.Name.{Name}
use Rattle.ak_base.specs.declared.rows.Row.{Row}
use Rattle.ak_keep.proofs.Forming.{formed-empty, formed-with_row, formed-without}
use Rattle.ak_keep.specs.Collections.{Holding, IsWellFormed, Rows}
use Rattle.ak_journal_rows.specs.Changes.{IsOfForm, after_change, all_cut, all_put, is_cut, left_by, nothing_held, row_put}
use Rattle.ak_journal_rows.specs.Texts.{IsPayloadOf, LeadTo, LeadsLast}
use Rattle.ak_journal_rows.specs.declared.changes.Change.{Change}

-- ---- each name
-- under a name that was cut there is none, and under others what was there
cut_gives : (names : List Name) (rows : Rows) (name : Name) → get (all_cut names rows) name ≡ (if is_cut names name then None else get rows name)
cut_gives [] rows name = refl
cut_gives (first ∷ names) rows name =
    cut_gives names (remove rows first) name ∙ ap (λ left. if is_cut names name then None else left) (get-remove names_total rows first name)
    ∙ either (is_at (name_cmp name) first) (is_cut names name)
  where
    either : (here later : Bool) → (if later then None else cond here None (get rows name)) ≡ (if here || later then None else get rows name)
    either true true = refl
    either true false = refl
    either false true = refl
    either false false = refl

not_at : (o : Ordering) → o ≡ Less → is_eq o ≡ false
not_at o is = ap is_eq is

-- none of those behind a name has it
pub none_behind : (name : Name) (put : List Row) → AllByRecursion (λ y. name_cmp name y ≡ Less) (map name_of put) → row_put put name ≡ None
none_behind name [] h = refl
none_behind name (row ∷ put) h =
    ap (λ (here : Bool). cond here (Some row) (row_put put name)) (not_at (name_cmp name (name_of row)) h.0) ∙ none_behind name put h.1

pub tied : (o : Ordering) → is_eq o ≡ true → o ≡ Equal
tied Less is = cc
tied Equal is = refl
tied Greater is = cc

-- under the name of a row that was put there is that row, and under others what was there
put_gives : (put : List Row) (rows : Rows) (name : Name) → IsStrictlySortedBy name_cmp (map name_of put)
    → get (all_put put rows) name ≡ option_or (row_put put name) (get rows name)
unfolding IsStrictlySortedBy
put_gives [] rows name s = refl
put_gives (row ∷ put) rows name s =
    put_gives put (insert rows (name_of row) row) name s.1 ∙ ap (option_or (row_put put name)) (get-insert names_total rows (name_of row) row name)
    ∙ either (is_at (name_cmp name) (name_of row)) refl
  where
    either : (here : Bool) → is_at (name_cmp name) (name_of row) ≡ here
        → option_or (row_put put name) (cond here (Some row) (get rows name)) ≡ option_or (cond here (Some row) (row_put put name)) (get rows name)
    either true is =
        let same : name_of row ≡ name = sym (names_exact name (name_of row) (tied (name_cmp name (name_of row)) is)) in
        let none : row_put put name ≡ None = subst (λ (n : Name). row_put put n ≡ None) same (none_behind (name_of row) put s.0) in
        ap (λ (o : Option Row). option_or o (Some row)) none
    either false is = refl

pub rows_after : (change : Change) (held : Holding) (name : Name) → IsOfForm change
    → get (after_change change held).rows name ≡ option_or (row_put change.put name) (if is_cut change.cut name then None else get (left_by change held) name)
rows_after change held name formed =
    put_gives change.put (all_cut change.cut (left_by change held)) name formed.put.ascending
    ∙ ap (option_or (row_put change.put name)) (cut_gives change.cut (left_by change held) name)

-- ---- ranges
formed_cut : (names : List Name) (rows : Rows) (head : Option Head) → IsWellFormed (record { rows = rows; head = head }) → IsWellFormed (record { rows = all_cut names rows; head = head })
formed_cut [] rows head h = h
formed_cut (name ∷ names) rows head h = formed_cut names (remove rows name) head (formed-without name (record { rows = rows; head = head }) h)

formed_put : (put : List Row) (rows : Rows) (head : Option Head) → All IsChecked put → IsWellFormed (record { rows = rows; head = head }) → IsWellFormed (record { rows = all_put put rows; head = head })
formed_put [] rows head good h = h
formed_put (row ∷ put) rows head good h =
    formed_put put (insert rows (name_of row) row) head (All-tail IsChecked row put good)
    (formed-with_row row (record { rows = rows; head = head }) (All-head IsChecked row put good) h)

left_formed : (all : Bool) (held : Holding) → IsWellFormed held → IsWellFormed (record { rows = if all then empty else held.rows; head = held.head })
left_formed true held h = record { named = formed-empty.named; checked = formed-empty.checked; head = h.head }
left_formed false held h = h

either_head : (set was : Option Head) → IfSome set IsHeadInRange → IfSome was IsHeadInRange → IfSome (option_or set was) IsHeadInRange
either_head None was h k = k
either_head (Some head) was h k = h

pub formed_after : (change : Change) (held : Holding) → IsOfForm change → IsWellFormed held → IsWellFormed (after_change change held)
formed_after change held formed h =
    let made : IsWellFormed (record { rows = all_put change.put (all_cut change.cut (left_by change held)); head = held.head }) =
    formed_put change.put _ held.head formed.put.each (formed_cut change.cut (left_by change held) held.head (left_formed change.all held h)) in
    record { named = made.named; checked = made.checked; head = either_head change.head held.head formed.head h.head }

pub formed_led : (payloads : List (List ℕ)) (was now : Holding) → IsWellFormed was → LeadTo was payloads now → IsWellFormed now
formed_led [] was now h led = subst IsWellFormed (sym led) h
formed_led (payload ∷ payloads) was now h (change, is, led) = formed_led payloads (after_change change was) now (formed_after change was is.formed h) led

pub formed_from_nothing : (payloads : List (List ℕ)) (held : Holding) → LeadTo nothing_held payloads held → IsWellFormed held
formed_from_nothing payloads held led = formed_led payloads nothing_held held formed-empty led

-- ---- one payload more
pub one_more : (payloads : List (List ℕ)) (payload : List ℕ) (change : Change) (was held : Holding) → LeadTo was payloads held → IsPayloadOf payload change
    → LeadTo was (payloads ++ payload ∷ []) (after_change change held)
one_more [] payload change was held led is = (change, is, ap (after_change change) led)
one_more (first ∷ payloads) payload change was held (before, of, led) is = (before, of, one_more payloads payload change (after_change before was) held led is)

pub last_of : (payloads : List (List ℕ)) (payload : List ℕ) (was held : Holding) → LeadTo was (payloads ++ payload ∷ []) held → LeadsLast was payloads payload held
last_of [] payload was held (change, is, led) = (was, change, refl, is, led)
last_of (first ∷ payloads) payload was held (change, of, led) = on (last_of payloads payload (after_change change was) held led)
  where
    on : LeadsLast (after_change change was) payloads payload held → LeadsLast was (first ∷ payloads) payload held
    on (before, last, to, is, made) = (before, last, (change, of, to), is, made)

pub each_is_read : (before behind : List (List ℕ)) (payload : List ℕ) (was held : Holding) → LeadTo was (before ++ payload ∷ behind) held → (change : Change) × IsPayloadOf payload change
each_is_read [] behind payload was held (change, is, led) = (change, is)
each_is_read (first ∷ before) behind payload was held (change, of, led) = each_is_read before behind payload (after_change change was) held led

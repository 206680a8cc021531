-- Rows put in where none is held.
use Rattle.std.specs.Prelude.{◌≡◌, Bool, true, false, cond, Option, Some, None, is_some, List, [], ◌∷◌, map}
use Rattle.std.proofs.Common.{refl, sym, ap, subst, ◌∙◌}
use Rattle.std.specs.BTreeMap.{is_at}
use Rattle.std.specs.Bool.{OnFalse, OnTrue}
use Rattle.std.specs.FinMap.{find, get, insert, empty, entries, get-empty, get-entries, same_map}
use Rattle.std.specs.Option.{option_or}
use Rattle.ak_base.proofs.NameOrder.{names_exact}
use Rattle.ak_base.specs.Names.{name_cmp, names_total}
use Rattle.ak_base.specs.Rows.{name_of}
use Rattle.ak_base.specs.declared.names.Name.{Name}
use Rattle.ak_base.specs.declared.rows.Row.{Row}
use Rattle.ak_keep.specs.Collections.{Rows, rows_of}
use Rattle.ak_keep.specs.Entries.{row_at}
use Rattle.ak_keep.proofs.RowsByName.{get-row_at, held_filled, put_filled}
use Rattle.ak_memory.proofs.RowsUnder.{get-with_under}

find-row_at : (es : List (Name × Row)) (q : Name) → find name_cmp q es ≡ row_at es q
find-row_at [] q = refl
find-row_at (e ∷ es) q = ap (cond (is_at (name_cmp q) e.0) (Some e.1)) (find-row_at es q)

-- the entries of a map have what the map has
pub entries-get : (rows : Rows) (q : Name) → row_at (entries rows) q ≡ get rows q
entries-get rows q = sym (find-row_at (entries rows) q) ∙ sym (get-entries rows q)

-- under a name that is held, nothing is filled in
pub filled-held : (rows : Rows) (name : Name) (row : Row) → is_some (get rows name) ≡ true → (q : Name) → get rows q ≡ option_or (get rows q) (row_at ((name, row) ∷ []) q)
filled-held rows name row held q =
    subst (λ o. o ≡ option_or o (row_at ((name, row) ∷ []) q)) (entries-get rows q) (held_filled (entries rows) name row (ap is_some (entries-get rows name) ∙ held) q)

-- a row put under a name that was not held fills it in
pub filled-put : (rows : Rows) (name : Name) (row : Row) → is_some (get rows name) ≡ false → (q : Name) → get (insert rows name row) q ≡ option_or (get rows q) (row_at ((name, row) ∷ []) q)
filled-put rows name row free q =
    let more = insert rows name row in
    sym (entries-get more q)
    ∙ put_filled (entries rows) (entries more) name row (ap is_some (entries-get rows name) ∙ free)
    (λ p. entries-get more p ∙ get-with_under name (Some row) rows p ∙ ap (cond (is_at (name_cmp name) p) (Some row)) (sym (entries-get rows p))) q
    ∙ ap (λ o. option_or o (row_at ((name, row) ∷ []) q)) (entries-get rows q)

-- a row was loaded, or was not since one is held under its name
pub filled-loaded : (was now : Rows) (row : Row) (loaded : Bool) → OnTrue loaded (get was (name_of row) ≡ None) → OnTrue loaded (now ≡ insert was (name_of row) row)
    → OnFalse loaded (is_some (get was (name_of row)) ≡ true) → OnFalse loaded (now ≡ was) → (q : Name) → get now q ≡ option_or (get was q) (row_at ((name_of row, row) ∷ []) q)
filled-loaded was now row true free put held same q = ap (λ (rows : Rows). get rows q) put ∙ filled-put was (name_of row) row (ap is_some free) q
filled-loaded was now row false free put held same q = ap (λ (rows : Rows). get rows q) same ∙ filled-held was (name_of row) row held q

or_first : (a : Option Row) (b : Bool) (row : Row) (rest : Option Row) → option_or (option_or a (cond b (Some row) None)) rest ≡ option_or a (cond b (Some row) rest)
or_first (Some x) b row rest = refl
or_first None true row rest = refl
or_first None false row rest = refl

-- these rows, each under its name
abbrev pub named_rows : List Row → List (Name × Row)
named_rows rows = map (λ row. (name_of row, row)) rows

-- at first nothing is there, and all is left
pub fills-first : (made : Rows) (left rows : List Row) → made ≡ empty → left ≡ rows → (q : Name) → option_or (get made q) (row_at (named_rows left) q) ≡ row_at (named_rows rows) q
fills-first made left rows none all q =
    ap (λ o. option_or o (row_at (named_rows left) q)) (ap (λ (m : Rows). get m q) none ∙ get-empty name_cmp q)
    ∙ ap (λ (rs : List Row). row_at (named_rows rs) q) all

-- one row more is filled in
pub fills-next : (was now : Rows) (row : Row) (left rest : List Row) → left ≡ row ∷ rest → (q : Name) → get now q ≡ option_or (get was q) (row_at ((name_of row, row) ∷ []) q)
    → option_or (get now q) (row_at (named_rows rest) q) ≡ option_or (get was q) (row_at (named_rows left) q)
fills-next was now row left rest parts q is =
    ap (λ o. option_or o (row_at (named_rows rest) q)) is
    ∙ or_first (get was q) (is_at (name_cmp q) (name_of row)) row (row_at (named_rows rest) q)
    ∙ ap (λ (rs : List Row). option_or (get was q) (row_at (named_rows rs) q)) (sym parts)

or_none : (o : Option Row) → o ≡ option_or o None
or_none None = refl
or_none (Some x) = refl

-- all are filled in
pub filled-all : (made : Rows) (left rows : List Row) → left ≡ [] → ((q : Name) → option_or (get made q) (row_at (named_rows left) q) ≡ row_at (named_rows rows) q) → made ≡ rows_of rows
filled-all made left rows none is = same_map names_total names_exact _ _ (λ q.
    or_none (get made q) ∙ ap (λ (rs : List Row). option_or (get made q) (row_at (named_rows rs) q)) (sym none) ∙ is q ∙ sym (get-row_at (named_rows rows) q))

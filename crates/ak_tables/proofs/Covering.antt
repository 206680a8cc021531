-- What was touched covers what was changed.
use Rattle.std.specs.Prelude.{◌≡◌, ℤ, Bool, true, false, T, ◌||◌, Option, Some, None, is_some, option_map, List, [], ◌∷◌, ◌++◌, map, cond}
use Rattle.std.proofs.Common.{refl, sym, ap, subst, ◌∙◌}
use Rattle.std.proofs.lemmas.List.Folds.{list_any-append}
use Rattle.std.specs.BTreeMap.{is_at}
use Rattle.std.specs.FinMap.{get, get-empty, get-insert, get-remove, same_map}
use Rattle.ak_base.proofs.NameOrder.{names_exact}
use Rattle.ak_base.specs.Names.{name_cmp, names_total}
use Rattle.ak_base.specs.Rows.{name_of}
use Rattle.ak_base.specs.declared.heads.Head.{Head}
use Rattle.ak_base.specs.declared.names.Name.{Name}
use Rattle.ak_base.specs.declared.rows.Row.{Row}
use Rattle.ak_keep.proofs.RowsByName.{get-row_at}
use Rattle.ak_keep.specs.Collections.{Holding, Rows, with_row, without, with_head, with_moments, made_of}
use Rattle.ak_keep.specs.Entries.{row_at}
use Rattle.ak_tables.specs.Tables.{Covers, IsWrittenOver, is_among, left_of}
use Rattle.ak_tables.specs.declared.touched.Touched.{Touched}

pub or_left : (a b : Bool) → (a || b) ≡ false → a ≡ false
or_left true b is = is
or_left false b is = refl

pub or_right : (a b : Bool) → (a || b) ≡ false → b ≡ false
or_right true b is = absurd (subst T is tt)
or_right false b is = is

-- a name that is not among more names is not among these, and is not the last
not-among : (names : List Name) (name q : Name) → is_among (names ++ name ∷ []) q ≡ false → is_among names q ≡ false
not-among names name q free =
    or_left (is_among names q) _ (sym (list_any-append (λ (touched : Name). is_at (name_cmp q) touched) names (name ∷ [])) ∙ free)

not-last : (names : List Name) (name q : Name) → is_among (names ++ name ∷ []) q ≡ false → is_at (name_cmp q) name ≡ false
not-last names name q free =
    or_left (is_at (name_cmp q) name) false (or_right (is_among names q) _ (sym (list_any-append (λ (touched : Name). is_at (name_cmp q) touched) names (name ∷ [])) ∙ free))

-- what was not touched was not
untouched : {P : Type 0} → false ≡ true → P
untouched is = absurd (subst T (sym is) tt)

-- nothing was touched, and nothing changed
pub covers-nothing : (was : Holding) → Covers (record { names = []; head = false; whole = false }) was was
covers-nothing was = record { rows = λ name free. refl; head = λ free. refl; set = λ is. untouched is; whole = λ is. untouched is }

-- one name more was touched
pub covers-more : (touched : Touched) (name : Name) (was now : Holding) → Covers touched was now → Covers (record touched { names = touched.names ++ name ∷ [] }) was now
covers-more touched name was now h = record { rows = λ q free. h.rows q (not-among touched.names name q free); head = h.head; set = h.set; whole = h.whole }

-- a row was put
pub covers-put : (touched : Touched) (row : Row) (was now : Holding) → Covers touched was now → Covers (record touched { names = touched.names ++ name_of row ∷ [] }) was (with_row row now)
covers-put touched row was now h = record {
  rows = λ q free. get-insert names_total now.rows (name_of row) row q
      ∙ ap (λ b. cond b (Some row) (get now.rows q)) (not-last touched.names (name_of row) q free)
      ∙ h.rows q (not-among touched.names (name_of row) q free);
  head = h.head;
  set = h.set;
  whole = h.whole;
}

-- a row was taken out
pub covers-removed : (touched : Touched) (name : Name) (was now : Holding) → Covers touched was now → Covers (record touched { names = touched.names ++ name ∷ [] }) was (without name now)
covers-removed touched name was now h = record {
  rows = λ q free. get-remove names_total now.rows name q
      ∙ ap (λ b. cond b None (get now.rows q)) (not-last touched.names name q free)
      ∙ h.rows q (not-among touched.names name q free);
  head = h.head;
  set = h.set;
  whole = h.whole;
}

-- the head was set
pub covers-head : (touched : Touched) (head : Head) (was now : Holding) → Covers touched was now → Covers (record touched { head = true }) was (with_head head now)
covers-head touched head was now h = record { rows = h.rows; head = λ free. absurd (subst T free tt); set = λ is. refl; whole = λ is. refl }

still_some : (o : Option Head) (step : Head → Head) → is_some o ≡ true → is_some (option_map step o) ≡ true
still_some None step is = is
still_some (Some head) step is = refl

-- the moments of the head were set
pub covers-moments : (moment schema usn last_sync : ℤ) (touched : Touched) (was now : Holding) → is_some now.head ≡ true → Covers touched was now
    → Covers (record touched { head = true }) was (with_moments moment schema usn last_sync now)
covers-moments moment schema usn last_sync touched was now held h = record {
  rows = h.rows;
  head = λ free. absurd (subst T free tt);
  set = λ is. still_some now.head (λ (head : Head). record head { moment = moment; schema = schema; usn = usn; last_sync = last_sync }) held;
  whole = λ is. refl;
}

none-among : (rows : List Row) (q : Name) → is_among (map name_of rows) q ≡ false → row_at (map (λ row. (name_of row, row)) rows) q ≡ None
none-among [] q free = refl
none-among (row ∷ rows) q free =
    ap (λ b. cond b (Some row) (row_at (map (λ row. (name_of row, row)) rows) q)) (or_left (is_at (name_cmp q) (name_of row)) _ free)
    ∙ none-among rows q (or_right (is_at (name_cmp q) (name_of row)) _ free)

-- all was replaced
pub covers-made : (rows : List Row) (head : Head) (was : Holding) → Covers (record { names = map name_of rows; head = true; whole = true }) was (made_of rows head)
covers-made rows head was = record {
  rows = λ q free. get-row_at (map (λ row. (name_of row, row)) rows) q ∙ none-among rows q free ∙ sym (get-empty name_cmp q);
  head = λ free. absurd (subst T free tt);
  set = λ is. refl;
  whole = λ is. refl;
}

-- what is written under the touched names alone
pub touched_suffice : (touched : Touched) (was now : Holding) (made : Rows) → Covers touched was now → IsWrittenOver touched now.rows (left_of touched was) made → made ≡ now.rows
touched_suffice touched was now made h written = same_map names_total names_exact _ _ (λ q.
    written q
    ∙ elim (is_among touched.names q) as (λ b. is_among touched.names q ≡ b → cond b (get now.rows q) (get (left_of touched was) q) ≡ get now.rows q) [
      | true ↦ λ is. refl
      | false ↦ λ is. sym (h.rows q is)
    ] refl)

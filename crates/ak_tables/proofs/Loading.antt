-- Rows put one after the other into rows that have none of their names.
use Rattle.std.specs.Prelude.{◌≡◌, true, false, Option, Some, None, List, ◌∷◌, map, cond}
use Rattle.std.proofs.Common.{refl, sym, ap, ◌∙◌}
use Rattle.std.specs.BTreeMap.{is_at}
use Rattle.std.specs.FinMap.{get, insert, empty, get-empty, get-insert, same_map}
use Rattle.std.specs.Option.{option_or}
use Rattle.ak_base.proofs.NameOrder.{names_exact}
use Rattle.ak_base.specs.Names.{name_cmp, names_total}
use Rattle.ak_base.specs.Rows.{name_of}
use Rattle.ak_base.specs.declared.names.Name.{Name}
use Rattle.ak_base.specs.declared.rows.Row.{Row}
use Rattle.ak_keep.proofs.RowsByName.{get-row_at, same_of_tied}
use Rattle.ak_keep.specs.Collections.{Rows, rows_of}
use Rattle.ak_tables.specs.Tables.{ArePutInto, row_named}

pub or_none : (o : Option Row) → option_or o None ≡ o
or_none None = refl
or_none (Some row) = refl

-- a row put under a name that was not held is the first of what was left
pub put_next : (was : Rows) (row : Row) (rest : List Row) (q : Name) → get was (name_of row) ≡ None
    → option_or (get (insert was (name_of row) row) q) (row_named rest q) ≡ option_or (get was q) (row_named (row ∷ rest) q)
put_next was row rest q free =
    ap (λ o. option_or o (row_named rest q)) (get-insert names_total was (name_of row) row q)
    ∙ elim (is_at (name_cmp q) (name_of row)) as (λ b. is_at (name_cmp q) (name_of row) ≡ b → option_or (cond b (Some row) (get was q)) (row_named rest q) ≡ option_or (get was q) (cond b (Some row) (row_named rest q))) [
      | true ↦ λ is. sym (ap (λ o. option_or o (Some row)) (ap (get was) (same_of_tied q (name_of row) is) ∙ free))
      | false ↦ λ is. refl
    ] refl

-- put into nothing, they are the map of the rows
pub put_into_none : (rows : List Row) (now : Rows) → ArePutInto empty rows now → now ≡ rows_of rows
put_into_none rows now h = same_map names_total names_exact _ _ (λ q.
    h q ∙ ap (λ o. option_or o (row_named rows q)) (get-empty name_cmp q) ∙ sym (get-row_at (map (λ row. (name_of row, row)) rows) q))

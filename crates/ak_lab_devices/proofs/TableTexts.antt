-- The lines of a table, page by page.
use Rattle.std.proofs.Common.{◌≡◌, ◌++◌, ◌∙◌, ℕ, List, map, refl, sym, subst, ap, append_assoc}
use Rattle.std.specs.Prelude.{pos, false}
use Rattle.std.proofs.lemmas.List.{map-append}
use Rattle.ak_base.specs.declared.names.Table.{Table}
use Rattle.ak_base.specs.declared.rows.Row.{Row}
use Rattle.ak_edit_calls.proofs.Telling.{where_always, where_told-both}
use Rattle.ak_keep.specs.Collections.{Holding}
use Rattle.ak_keep.specs.Keepers.{Keeping, WhereTold}
use Rattle.ak_keep.specs.Walks.{ahead}
use Rattle.ak_keep.specs.declared.walks.Walk.{Walk}
use Rattle.ak_lab_devices.specs.Shows.{row_text, table_lines}

-- at first all rows are ahead
pub all_ahead : (k : Keeping) (walk : Walk) (table : Table) (texts : List (List ℕ)) → walk ≡ record { past = record { table = table; id = pos 0 }; done = false }
    → WhereTold k (λ h. texts ++ map row_text (ahead walk h.rows) ≡ texts ++ table_lines table h.rows)
all_ahead k walk table texts is =
    where_always k (λ h. texts ++ map row_text (ahead walk h.rows) ≡ texts ++ table_lines table h.rows)
    (λ h. ap (λ (w : Walk). texts ++ map row_text (ahead w h.rows)) is)

-- a page more
pub next_texts : (k : Keeping) (texts : List (List ℕ)) (page : List Row) (before after : Holding → List Row) (all : Holding → List (List ℕ))
    → WhereTold k (λ h. texts ++ map row_text (before h) ≡ all h) → WhereTold k (λ h. before h ≡ page ++ after h)
    → WhereTold k (λ h. (texts ++ map row_text page) ++ map row_text (after h) ≡ all h)
next_texts k texts page before after all =
    where_told-both k (λ h. texts ++ map row_text (before h) ≡ all h) (λ h. before h ≡ page ++ after h) (λ h. (texts ++ map row_text page) ++ map row_text (after h) ≡ all h)
    (λ h so_far next.
    append_assoc texts (map row_text page) (map row_text (after h))
    ∙ ap (λ l. texts ++ l) (sym (ap (map row_text) next ∙ map-append row_text page (after h)))
    ∙ so_far)

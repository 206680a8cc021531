-- Whether a note of a type is held, read page by page.
use Rattle.std.specs.Prelude.{◌≡◌, ℤ, pos, Bool, true, false, ◌||◌, cond, List, [], ◌∷◌, ◌++◌, Option, Some, None, IfSome}
use Rattle.std.proofs.Common.{refl, sym, ap, ◌∙◌}
use Rattle.std.specs.List.{list_any}
use Rattle.ak_base.specs.declared.names.Table.TheVariants as tables
use Rattle.ak_base.specs.declared.rows.Row.{Row}
use Rattle.ak_edit_calls.proofs.Telling.{where_told-both}
use Rattle.ak_keep.proofs.Told.{where_told-map}
use Rattle.ak_keep.specs.Collections.{Holding, Rows, rows_past}
use Rattle.ak_keep.specs.Keepers.{Keeping, WhereTold}
use Rattle.ak_keep.specs.Marks.{WithMark}
use Rattle.ak_keep.specs.Walks.{ahead}
use Rattle.ak_keep.specs.declared.walks.Walk.{Walk}
use Rattle.ak_merge.specs.Holdings.{name_in}
use Rattle.ak_types.specs.GivenTypes.{has_notes, is_note_of}

-- a note of the type is held if one is ahead
abbrev pub IsAhead : ℤ → Walk → Rows → Type 0
IsAhead note_type walk held = has_notes note_type held ≡ list_any (is_note_of note_type) (ahead walk held)

start_told : (told : Option (WithMark Holding)) (note_type : ℤ) → IfSome told (λ w. IsAhead note_type (record { past = name_in tables.Note (pos 0); done = false }) w.current.rows)
start_told None note_type = tt
start_told (Some w) note_type = refl

-- before the first page all notes are ahead
pub start_ahead : (k : Keeping) (note_type : ℤ) → WhereTold k (λ h. IsAhead note_type (record { past = name_in tables.Note (pos 0); done = false }) h.rows)
start_ahead k note_type = start_told k.told note_type

any_append : (test : Row → Bool) (one other : List Row) → list_any test (one ++ other) ≡ (list_any test one || list_any test other)
any_append test [] other = refl
any_append test (row ∷ one) other = elim (test row) as (λ b. (b || list_any test (one ++ other)) ≡ ((b || list_any test one) || list_any test other)) [ true ↦ refl | false ↦ any_append test one other ]

-- a page without such a note
pub page_passed : (k : Keeping) (note_type : ℤ) (walk next : Walk) (page : List Row) → list_any (is_note_of note_type) page ≡ false → WhereTold k (λ h. IsAhead note_type walk h.rows)
    → WhereTold k (λ h. ahead walk h.rows ≡ page ++ ahead next h.rows) → WhereTold k (λ h. IsAhead note_type next h.rows)
page_passed k note_type walk next page none =
    where_told-both k (λ h. IsAhead note_type walk h.rows) (λ h. ahead walk h.rows ≡ page ++ ahead next h.rows) (λ h. IsAhead note_type next h.rows)
    (λ h so_far split. so_far ∙ ap (list_any (is_note_of note_type)) split ∙ any_append (is_note_of note_type) page (ahead next h.rows)
    ∙ ap (λ b. b || list_any (is_note_of note_type) (ahead next h.rows)) none)

-- a page with one
pub page_found : (k : Keeping) (note_type : ℤ) (walk next : Walk) (page : List Row) → list_any (is_note_of note_type) page ≡ true → WhereTold k (λ h. IsAhead note_type walk h.rows)
    → WhereTold k (λ h. ahead walk h.rows ≡ page ++ ahead next h.rows) → WhereTold k (λ h. true ≡ has_notes note_type h.rows)
page_found k note_type walk next page some =
    where_told-both k (λ h. IsAhead note_type walk h.rows) (λ h. ahead walk h.rows ≡ page ++ ahead next h.rows) (λ h. true ≡ has_notes note_type h.rows)
    (λ h so_far split. sym (so_far ∙ ap (list_any (is_note_of note_type)) split ∙ any_append (is_note_of note_type) page (ahead next h.rows)
    ∙ ap (λ b. b || list_any (is_note_of note_type) (ahead next h.rows)) some))

-- after the last page
pub all_passed : (k : Keeping) (note_type : ℤ) (walk : Walk) → walk.done ≡ true → WhereTold k (λ h. IsAhead note_type walk h.rows) → WhereTold k (λ h. false ≡ has_notes note_type h.rows)
all_passed k note_type walk done =
    where_told-map k (λ h. IsAhead note_type walk h.rows) (λ h. false ≡ has_notes note_type h.rows)
    (λ h so_far. sym (so_far ∙ ap (λ b. list_any (is_note_of note_type) (cond b [] (rows_past walk.past.table walk.past.id h.rows))) done))

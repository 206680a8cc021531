-- The plan of an edit, one entry after another.
use Rattle.std.proofs.Common.{◌≡◌, true, false, List, [], ◌∷◌, ◌++◌, IfSome, Option, Some, None, ℤ, pos, refl, ap, subst, ◌∙◌}
use Rattle.std.proofs.lemmas.List.{append_assoc}
use Rattle.std.specs.Option.{option_map}
use Rattle.std.specs.FinMap.{get}
use Rattle.std.specs.Prelude.{is_some}
use Rattle.ak_base.specs.Tables.{buried_in, grave_name}
use Rattle.ak_base.specs.declared.names.Name.{Name}
use Rattle.ak_base.specs.declared.rows.Row.{Row}
use Rattle.ak_keep.specs.Collections.{Holding}
use Rattle.ak_keep.specs.Keepers.{Keeping, WhereTold}
use Rattle.ak_keep.specs.Marks.{WithMark}
use Rattle.ak_merge.specs.Edits.{edited, changes_row, goes}
use Rattle.ak_keep.specs.Graves.{RowsByName}
use Rattle.ak_edit.specs.Plans.{grave_writes, row_writes, stamp_made, writes_of, writes_under}
use Rattle.ak_edit.specs.declared.plans.Write.{Write}

-- the write of a row that changes
pub row_written : (second : ℤ) (name : Name) (before made : Option Row) → changes_row before made ≡ true →
    record { name = name; before = before; row = option_map (edited (pos 0)) made; stamp = stamp_made second before made } ∷ [] ≡ row_writes second name before made
row_written second name before made changes = rw changes refl

told_both : (P Q R : Holding → Type 0) (told : Option (WithMark Holding)) → ((h : Holding) → P h → Q h → R h) → IfSome told (λ w. P w.current) → IfSome told (λ w. Q w.current) → IfSome told (λ w. R w.current)
told_both P Q R None step p q = tt
told_both P Q R (Some w) step p q = step w.current p q

-- what follows from two things that are true of all that is held
pub where_both : (k : Keeping) (P Q R : Holding → Type 0) → ((h : Holding) → P h → Q h → R h) → WhereTold k P → WhereTold k Q → WhereTold k R
where_both k P Q R step p q = told_both P Q R k.told step p q

one_on : (second : ℤ) (at : RowsByName) (all es : List (Name × Option Row)) (e : Name × Option Row) (ws vs : List Write) → ws ++ writes_of second at (e ∷ es) ≡ writes_of second at all
    → vs ≡ ws ++ writes_under second at e.0 e.1 → vs ++ writes_of second at es ≡ writes_of second at all
one_on second at all es e ws vs so is = ap (λ (us : List Write). us ++ writes_of second at es) is ∙ append_assoc ws (writes_under second at e.0 e.1) (writes_of second at es) ∙ so

-- one entry after those so far
pub planned_on : (k : Keeping) (second : ℤ) (all es : List (Name × Option Row)) (e : Name × Option Row) (ws vs : List Write) →
    WhereTold k (λ h. ws ++ writes_of second (get h.rows) (e ∷ es) ≡ writes_of second (get h.rows) all) →
    WhereTold k (λ h. vs ≡ ws ++ writes_under second (get h.rows) e.0 e.1) →
    WhereTold k (λ h. vs ++ writes_of second (get h.rows) es ≡ writes_of second (get h.rows) all)
planned_on k second all es e ws vs so_far made =
    where_both k (λ h. ws ++ writes_of second (get h.rows) (e ∷ es) ≡ writes_of second (get h.rows) all) (λ h. vs ≡ ws ++ writes_under second (get h.rows) e.0 e.1)
    (λ h. vs ++ writes_of second (get h.rows) es ≡ writes_of second (get h.rows) all) (λ h so is. one_on second (get h.rows) all es e ws vs so is) so_far made

-- the writes of a row that goes, with its grave
pub buried_on : (second : ℤ) (at : RowsByName) (name : Name) (before made : Option Row) (ws vs us : List Write) → is_some (buried_in name.table) ≡ false → before ≡ at name → goes before made ≡ true
    → vs ≡ ws ++ row_writes second name before made → us ≡ vs ++ grave_writes at name (grave_name name) → us ≡ ws ++ writes_under second at name made
buried_on second at name before made ws vs us none held going row grave =
    let goes_there : goes (at name) made ≡ true = subst (λ (b : Option Row). goes b made ≡ true) held going in
    let under : row_writes second name before made ++ grave_writes at name (grave_name name) ≡ writes_under second at name made =
    rw (none, goes_there) (ap (λ (b : Option Row). row_writes second name b made ++ grave_writes at name (grave_name name)) held) in
    grave ∙ ap (λ (xs : List Write). xs ++ grave_writes at name (grave_name name)) row ∙ append_assoc ws (row_writes second name before made) (grave_writes at name (grave_name name)) ∙ ap (λ (xs : List Write). ws ++ xs) under

-- the writes of a row that stays
pub kept_on : (second : ℤ) (at : RowsByName) (name : Name) (before made : Option Row) (ws vs : List Write) → is_some (buried_in name.table) ≡ false → before ≡ at name → goes before made ≡ false
    → vs ≡ ws ++ row_writes second name before made → vs ≡ ws ++ writes_under second at name made
kept_on second at name before made ws vs none held going row =
    let goes_there : goes (at name) made ≡ false = subst (λ (b : Option Row). goes b made ≡ false) held going in
    let under : row_writes second name before made ≡ writes_under second at name made = rw (none, goes_there) (ap (λ (b : Option Row). row_writes second name b made) held) in
    row ∙ ap (λ (xs : List Write). ws ++ xs) under

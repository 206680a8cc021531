-- The rows in places, as finite maps.
use Rattle.std.specs.Prelude.{◌≡◌, Bool, true, false, T, cond, not, ◌&&◌, Option, Some, None, is_some, IsSome, List, [], ◌∷◌}
use Rattle.std.proofs.Common.{refl, sym, ap, subst, ◌∙◌}
use Rattle.std.proofs.lemmas.Map.{lookup-set_value}
use Rattle.std.specs.BTreeMap.{is_at}
use Rattle.std.specs.Cmp.{eq_by_cmp_equiv}
use Rattle.std.specs.FinMap.{get, get-empty, get-insert, get-remove, same_map}
use Rattle.std.specs.Map.{set_value}
use Rattle.std.specs.Option.{option_and_then}
use Rattle.ak_base.proofs.NameOrder.{names_exact}
use Rattle.ak_base.specs.Names.{name_cmp, names_total}
use Rattle.ak_base.specs.declared.names.Name.{Name}
use Rattle.ak_base.specs.declared.rows.Row.{Row}
use Rattle.ak_keep.specs.Collections.{Rows}
use Rattle.ak_keep.proofs.RowsByName.{same_of_tied}
use Rattle.ak_memory.specs.Places.{row_at, row_under, rows_at, with_under, place_under, is_changed, is_changed_place, is_changed_under, is_empty_place, AreFull, AreFullBut}
use Rattle.ak_memory.specs.HeldRows.{held_row}
use Rattle.ak_memory.specs.declared.held_rows.HeldRow.{HeldRow}
use Rattle.ak_memory.specs.declared.places.Place.{Place}
use Rattle.ak_memory.specs.declared.places.Place.TheVariants.{Empty, Opened, Same, Added, Removed, Replaced}
use Rattle.ak_memory.specs.declared.versions.Version.{Version}
use Rattle.ak_memory.specs.declared.versions.Version.TheVariants.{Now, Mark}

turned : (x y : Name) → is_at (name_cmp x) y ≡ is_at (name_cmp y) x
turned x y = (eq_by_cmp_equiv names_total).symm x y

-- what is under a name, after a row was put there or taken out
pub get-with_under : (name : Name) (row : Option Row) (rows : Rows) (q : Name) → get (with_under name row rows) q ≡ cond (is_at (name_cmp name) q) row (get rows q)
get-with_under name None rows q = get-remove names_total rows name q ∙ ap (λ b. cond b None (get rows q)) (turned q name)
get-with_under name (Some row) rows q = get-insert names_total rows name row q ∙ ap (λ b. cond b (Some row) (get rows q)) (turned q name)

and_then-cond : (b : Bool) (version : Version) (place : Place) (found : Option Place)
    → cond b (row_at version place) (option_and_then (row_at version) found) ≡ option_and_then (row_at version) (cond b (Some place) found)
and_then-cond true version place found = refl
and_then-cond false version place found = refl

-- what the map of the rows has under a name
pub get-rows_at : (version : Version) (places : List (Name × Place)) (q : Name) → get (rows_at version places) q ≡ row_under version places q
get-rows_at version [] q = get-empty name_cmp q
get-rows_at version (e ∷ places) q =
    get-with_under e.0 (row_at version e.1) (rows_at version places) q
    ∙ ap (λ b. cond b (row_at version e.1) (get (rows_at version places) q)) (turned e.0 q)
    ∙ ap (λ o. cond (is_at (name_cmp q) e.0) (row_at version e.1) o) (get-rows_at version places q)
    ∙ and_then-cond (is_at (name_cmp q) e.0) version e.1 (place_under places q)

-- places with the same rows under each name
pub rows_at-same : (v w : Version) (es fs : List (Name × Place)) → ((q : Name) → row_under v fs q ≡ row_under w es q) → rows_at v fs ≡ rows_at w es
rows_at-same v w es fs h = same_map names_total names_exact _ _ (λ q. get-rows_at v fs q ∙ h q ∙ sym (get-rows_at w es q))

-- places that differ under one name
pub rows_at-with : (v : Version) (es fs : List (Name × Place)) (name : Name) (row : Option Row) → ((q : Name) → row_under v fs q ≡ cond (is_at (name_cmp name) q) row (row_under v es q))
    → rows_at v fs ≡ with_under name row (rows_at v es)
rows_at-with v es fs name row h = same_map names_total names_exact _ _ (λ q.
    get-rows_at v fs q ∙ h q ∙ ap (λ o. cond (is_at (name_cmp name) q) row o) (sym (get-rows_at v es q)) ∙ sym (get-with_under name row (rows_at v es) q))

-- to take out what is not there changes nothing
taken_none : (b : Bool) (o : Option Row) → (b ≡ true → o ≡ None) → cond b None o ≡ o
taken_none true o h = sym (h refl)
taken_none false o h = refl

pub with_none : (name : Name) (rows : Rows) → get rows name ≡ None → with_under name None rows ≡ rows
with_none name rows none = same_map names_total names_exact _ _ (λ q.
    get-with_under name None rows q ∙ taken_none (is_at (name_cmp name) q) (get rows q) (λ is. ap (get rows) (sym (same_of_tied name q is)) ∙ none))

-- no row is under a name that has no place
pub no_place : (version : Version) (es : List (Name × Place)) (name : Name) → place_under es name ≡ None → row_under version es name ≡ None
no_place version es name none = ap (option_and_then (row_at version)) none

pub none_found : (found : Option Place) → is_some found ≡ false → found ≡ None
none_found None is = refl
none_found (Some place) is = absurd (subst T is tt)

-- ---- places that were not changed

unchanged_row : (v : Version) (place : Place) → is_changed place ≡ false → row_at v place ≡ row_at Now place
unchanged_row Now place h = refl
unchanged_row Mark Empty h = refl
unchanged_row Mark Opened h = absurd (subst T h tt)
unchanged_row Mark (Same row) h = refl
unchanged_row Mark (Added row) h = absurd (subst T h tt)
unchanged_row Mark (Removed row) h = absurd (subst T h tt)
unchanged_row Mark (Replaced both) h = absurd (subst T h tt)

unchanged_found : (v : Version) (found : Option Place) → is_changed_place found ≡ false → option_and_then (row_at v) found ≡ option_and_then (row_at Now) found
unchanged_found v None h = refl
unchanged_found v (Some place) h = unchanged_row v place h

-- where nothing was changed, both versions have the same row
pub unchanged_under : (v w : Version) (es : List (Name × Place)) (q : Name) → is_changed_under es q ≡ false → row_under v es q ≡ row_under w es q
unchanged_under v w es q h = unchanged_found v (place_under es q) h ∙ sym (unchanged_found w (place_under es q) h)

-- ---- a place that is another now
some_found : (o : Option Place) (place : Place) → o ≡ Some place → IsSome o
some_found o place is = ap is_some is

pub place_under-set : (name : Name) (es : List (Name × Place)) (old new : Place) → place_under es name ≡ Some old
    → (q : Name) → place_under (set_value (is_at (name_cmp name)) es new) q ≡ cond (is_at (name_cmp name) q) (Some new) (place_under es q)
place_under-set name es old new found q =
    lookup-set_value (eq_by_cmp_equiv names_total) (is_at (name_cmp name)) (λ x y is. ap (λ (n : Name). is_at (name_cmp n) y) (same_of_tied name x is)) q new es (some_found _ old found)

-- it holds what the old one held, in this version or another
pub placed_under : (v w : Version) (name : Name) (es : List (Name × Place)) (old new : Place) → place_under es name ≡ Some old → row_at v new ≡ row_at w old
    → (q : Name) → row_under v (set_value (is_at (name_cmp name)) es new) q ≡ cond (is_at (name_cmp name) q) (row_under w es q) (row_under v es q)
placed_under v w name es old new found is q =
    ap (option_and_then (row_at v)) (place_under-set name es old new found q)
    ∙ elim (is_at (name_cmp name) q) as (λ b. is_at (name_cmp name) q ≡ b → option_and_then (row_at v) (cond b (Some new) (place_under es q)) ≡ cond b (row_under w es q) (row_under v es q)) [
      | true ↦ λ same. is ∙ ap (option_and_then (row_at w)) (sym found) ∙ ap (row_under w es) (same_of_tied name q same)
      | false ↦ λ _. refl
    ] refl

either : (b : Bool) (o : Option Row) → cond b o o ≡ o
either true o = refl
either false o = refl

pub kept_under : (v : Version) (name : Name) (es : List (Name × Place)) (old new : Place) → place_under es name ≡ Some old → row_at v new ≡ row_at v old
    → (q : Name) → row_under v (set_value (is_at (name_cmp name)) es new) q ≡ row_under v es q
kept_under v name es old new found is q = placed_under v v name es old new found is q ∙ either (is_at (name_cmp name) q) (row_under v es q)

-- ---- places that are not empty
pub full_with : (name : Name) (es fs : List (Name × Place)) (new : Place) → ((q : Name) → place_under fs q ≡ cond (is_at (name_cmp name) q) (Some new) (place_under es q)) → is_changed new ≡ true
    → AreFull es → AreFull fs
full_with name es fs new same changed full q =
    ap is_empty_place (same q)
    ∙ elim (is_at (name_cmp name) q) as (λ b. is_empty_place (cond b (Some new) (place_under es q)) ≡ false) [
      | true ↦ ap (λ b. not b && not (is_some (row_at Now new))) changed
      | false ↦ full q
    ]

pub full_but : (name : Name) (es fs : List (Name × Place)) (new : Place) → ((q : Name) → place_under fs q ≡ cond (is_at (name_cmp name) q) (Some new) (place_under es q)) → AreFull es → AreFullBut name fs
full_but name es fs new same full q other = ap is_empty_place (same q) ∙ ap (λ b. is_empty_place (cond b (Some new) (place_under es q))) other ∙ full q

pub full_without : (name : Name) (es fs : List (Name × Place)) → ((q : Name) → place_under fs q ≡ cond (is_at (name_cmp name) q) None (place_under es q)) → AreFullBut name es → AreFull fs
full_without name es fs same but q =
    ap is_empty_place (same q)
    ∙ elim (is_at (name_cmp name) q) as (λ b. is_at (name_cmp name) q ≡ b → is_empty_place (cond b None (place_under es q)) ≡ false) [
      | true ↦ λ _. refl
      | false ↦ λ other. but q other
    ] refl

-- ---- a place that was added with a row in both versions
-- the places have one more, under a name, with this row
abbrev pub IsAdded : Name → HeldRow → List (Name × Place) → List (Name × Place) → Type 0
IsAdded name row es fs = (q : Name) → place_under fs q ≡ cond (is_at (name_cmp name) q) (Some (Same row)) (place_under es q)

row_of_both : (v : Version) (row : HeldRow) → row_at v (Same row) ≡ Some (held_row row)
row_of_both Now row = refl
row_of_both Mark row = refl

row_or : (b : Bool) (v : Version) (row : HeldRow) (found : Option Place) → option_and_then (row_at v) (cond b (Some (Same row)) found) ≡ cond b (Some (held_row row)) (option_and_then (row_at v) found)
row_or true v row found = row_of_both v row
row_or false v row found = refl

pub rows_added : (name : Name) (row : HeldRow) (es fs : List (Name × Place)) → IsAdded name row es fs → (v : Version) (q : Name) → row_under v fs q ≡ cond (is_at (name_cmp name) q) (Some (held_row row)) (row_under v es q)
rows_added name row es fs added v q = ap (option_and_then (row_at v)) (added q) ∙ row_or (is_at (name_cmp name) q) v row (place_under es q)

changed_or : (b : Bool) (row : HeldRow) (found : Option Place) → is_changed_place (cond b (Some (Same row)) found) ≡ (not b && is_changed_place found)
changed_or true row found = refl
changed_or false row found = refl

pub changed_added : (name : Name) (row : HeldRow) (es fs : List (Name × Place)) → IsAdded name row es fs → (q : Name) → is_changed_under fs q ≡ (not (is_at (name_cmp name) q) && is_changed_under es q)
changed_added name row es fs added q = ap is_changed_place (added q) ∙ changed_or (is_at (name_cmp name) q) row (place_under es q)

pub full_added : (name : Name) (row : HeldRow) (es fs : List (Name × Place)) → IsAdded name row es fs → AreFull es → AreFull fs
full_added name row es fs added full q =
    ap is_empty_place (added q)
    ∙ elim (is_at (name_cmp name) q) as (λ b. is_empty_place (cond b (Some (Same row)) (place_under es q)) ≡ false) [ true ↦ refl | false ↦ full q ]

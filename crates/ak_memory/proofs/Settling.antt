-- Which places were changed, and what they hold once they are settled.
use Rattle.std.specs.Prelude.{◌≡◌, ℕ, suc, ◌+◌, ◌<◌, drop, get_or, length, Bool, true, false, T, cond, not, ◌&&◌, ◌||◌, if◌then◌else◌, Option, List, [], ◌∷◌, ◌++◌}
use Rattle.std.proofs.Common.{refl, sym, ap, subst, ◌∙◌, arith}
use Rattle.std.proofs.Math.Seq.{drop-cons}
use Rattle.std.specs.BTreeMap.{is_at}
use Rattle.ak_base.specs.Names.{name_cmp}
use Rattle.ak_base.specs.declared.names.Name.{Name}
use Rattle.ak_base.specs.declared.rows.Row.{Row}
use Rattle.ak_keep.proofs.RowsByName.{same_of_tied}
use Rattle.ak_memory.specs.Indexes.{AreNoted}
use Rattle.ak_memory.specs.Places.{is_among, is_changed_under, row_under, rows_at}
use Rattle.ak_memory.specs.declared.places.Place.{Place}
use Rattle.ak_memory.specs.declared.versions.Version.{Version}
use Rattle.ak_memory.specs.declared.versions.Version.TheVariants.{Now}
use Rattle.ak_memory.proofs.RowsUnder.{rows_at-same, unchanged_under}

true_false : true ≡ false → ⊥
true_false is = subst T is tt

or_assoc : (a b c : Bool) → (a || (b || c)) ≡ ((a || b) || c)
or_assoc true b c = refl
or_assoc false b c = refl

or_left : (a : Bool) → a ≡ true → (a || false) ≡ true
or_left true is = refl
or_left false is = is

not_not : (b : Bool) → not b ≡ false → b ≡ true
not_not true is = refl
not_not false is = absurd (true_false is)

second : (a b : Bool) → (a && b) ≡ true → b ≡ true
second true b is = is
second false b is = absurd (true_false (sym is))

-- ---- what is noted
among-append : (noted more : List Name) (q : Name) → is_among (noted ++ more) q ≡ (is_among noted q || is_among more q)
among-append [] more q = refl
among-append (name ∷ noted) more q = ap (λ b. is_at (name_cmp name) q || b) (among-append noted more q) ∙ or_assoc (is_at (name_cmp name) q) (is_among noted q) (is_among more q)

among_last : (a b c : Bool) → (b || c) ≡ true → (c ≡ true → a ≡ true) → (a || (b || false)) ≡ true
among_last true b c is h = refl
among_last false true c is h = refl
among_last false false c is h = h is

-- one name more was noted, that of a place that was changed
pub noted-more : (noted : List Name) (es fs : List (Name × Place)) (name : Name) → ((q : Name) → is_changed_under fs q ≡ (is_at (name_cmp name) q || is_changed_under es q)) → AreNoted noted es → AreNoted (noted ++ name ∷ []) fs
noted-more noted es fs name changed are q is =
    among-append noted (name ∷ []) q ∙ among_last (is_among noted q) (is_at (name_cmp name) q) (is_changed_under es q) (sym (changed q) ∙ is) (are q)

-- the place was noted before
noted-again : (noted : List Name) (es fs : List (Name × Place)) (name : Name) → ((q : Name) → is_changed_under fs q ≡ (is_at (name_cmp name) q || is_changed_under es q)) → AreNoted noted es → is_changed_under es name ≡ true
    → AreNoted (noted ++ []) fs
noted-again noted es fs name changed are was q is =
    among-append noted [] q
    ∙ elim (is_at (name_cmp name) q) as (λ b. is_at (name_cmp name) q ≡ b → (b || is_changed_under es q) ≡ true → (is_among noted q || false) ≡ true) [
      | true ↦ λ tied _. or_left _ (are q (ap (is_changed_under es) (sym (same_of_tied name q tied)) ∙ was))
      | false ↦ λ _ h. or_left _ (are q h)
    ] refl (sym (changed q) ∙ is)

-- the place was changed, and noted if it was not before
pub noted-change : (noted next : List Name) (es fs : List (Name × Place)) (name : Name) (first : Bool) → ((q : Name) → is_changed_under fs q ≡ (is_at (name_cmp name) q || is_changed_under es q)) → AreNoted noted es
    → first ≡ not (is_changed_under es name) → next ≡ noted ++ (if first then name ∷ [] else []) → AreNoted next fs
noted-change noted next es fs name true changed are is noted_so = subst (λ (ns : List Name). AreNoted ns fs) (sym noted_so) (noted-more noted es fs name changed are)
noted-change noted next es fs name false changed are is noted_so = subst (λ (ns : List Name). AreNoted ns fs) (sym noted_so) (noted-again noted es fs name changed are (not_not _ (sym is)))

-- a place was added that counts as not changed
pub noted-added : (noted : List Name) (es fs : List (Name × Place)) (name : Name) → ((q : Name) → is_changed_under fs q ≡ (not (is_at (name_cmp name) q) && is_changed_under es q)) → AreNoted noted es → AreNoted noted fs
noted-added noted es fs name changed are q is = are q (second _ _ (sym (changed q) ∙ is))

-- ---- one name after the other
pub one_settled : (b a : Bool) (x y : Option Row) → cond a (cond b x x) (cond b x y) ≡ cond (b || a) x y
one_settled true true x y = refl
one_settled true false x y = refl
one_settled false true x y = refl
one_settled false false x y = refl

pub one_unchanged : (b a c : Bool) → (not a && (not b && c)) ≡ (not (b || a) && c)
one_unchanged true true c = refl
one_unchanged true false c = refl
one_unchanged false true c = refl
one_unchanged false false c = refl

-- ---- all that was changed is settled
row_settled : (a : Bool) (x y : Option Row) → (a ≡ false → y ≡ x) → cond a x y ≡ x
row_settled true x y h = refl
row_settled false x y h = h refl

not_changed : (noted : List Name) (es : List (Name × Place)) (q : Name) → AreNoted noted es → is_among noted q ≡ false → is_changed_under es q ≡ false
not_changed noted es q are none =
    elim (is_changed_under es q) as (λ b. is_changed_under es q ≡ b → b ≡ false) [
      | true ↦ λ is. absurd (true_false (sym (are q is) ∙ none))
      | false ↦ λ _. refl
    ] refl

pub all-settled : (noted : List Name) (es fs : List (Name × Place)) (version : Version) → AreNoted noted es
    → ((each : Version) (q : Name) → row_under each fs q ≡ cond (is_among noted q) (row_under version es q) (row_under each es q)) → (each : Version) → rows_at each fs ≡ rows_at version es
all-settled noted es fs version are settled each = rows_at-same each version es fs (λ q.
    settled each q ∙ row_settled (is_among noted q) (row_under version es q) (row_under each es q) (λ none. unchanged_under each version es q (not_changed noted es q are none)))

both_same : (a : Bool) (x : Option Row) → cond a x x ≡ x
both_same true x = refl
both_same false x = refl

-- what is settled as it is now stays so
pub settled-now : (noted : List Name) (es fs : List (Name × Place)) (version : Version) → version ≡ Now
    → ((q : Name) → row_under Now fs q ≡ cond (is_among noted q) (row_under version es q) (row_under Now es q)) → (q : Name) → row_under Now fs q ≡ row_under Now es q
settled-now noted es fs version now settled q =
    settled q ∙ ap (λ v. cond (is_among noted q) (row_under v es q) (row_under Now es q)) now ∙ both_same (is_among noted q) (row_under Now es q)

neither : (a c : Bool) → (c ≡ true → a ≡ true) → (not a && c) ≡ true → ⊥
neither true c h is = true_false (sym is)
neither false true h is = true_false (sym (h refl))
neither false false h is = true_false (sym is)

pub none-changed : (noted : List Name) (es fs : List (Name × Place)) → AreNoted noted es → ((q : Name) → is_changed_under fs q ≡ (not (is_among noted q) && is_changed_under es q)) → AreNoted [] fs
none-changed noted es fs are changed q is = absurd (neither (is_among noted q) (is_changed_under es q) (are q) (sym (changed q) ∙ is))

-- ---- a step of settling
pub rows-step : (left rest : List Name) (x : Name) (version : Version) (es fs : List (Name × Place)) → left ≡ x ∷ rest
    → ((each : Version) (q : Name) → row_under each fs q ≡ cond (is_at (name_cmp x) q) (row_under version es q) (row_under each es q)) → (each : Version) (q : Name)
    → cond (is_among rest q) (row_under version fs q) (row_under each fs q) ≡ cond (is_among left q) (row_under version es q) (row_under each es q)
rows-step left rest x version es fs parts settled each q =
    ap (λ o. cond (is_among rest q) o (row_under each fs q)) (settled version q)
    ∙ ap (cond (is_among rest q) (cond (is_at (name_cmp x) q) (row_under version es q) (row_under version es q))) (settled each q)
    ∙ one_settled (is_at (name_cmp x) q) (is_among rest q) (row_under version es q) (row_under each es q)
    ∙ ap (λ ns. cond (is_among ns q) (row_under version es q) (row_under each es q)) (sym parts)

pub changed-step : (left rest : List Name) (x : Name) (es fs : List (Name × Place)) → left ≡ x ∷ rest
    → ((q : Name) → is_changed_under fs q ≡ (not (is_at (name_cmp x) q) && is_changed_under es q)) → (q : Name)
    → (not (is_among rest q) && is_changed_under fs q) ≡ (not (is_among left q) && is_changed_under es q)
changed-step left rest x es fs parts changed q =
    ap (λ b. not (is_among rest q) && b) (changed q)
    ∙ one_unchanged (is_at (name_cmp x) q) (is_among rest q) (is_changed_under es q)
    ∙ ap (λ ns. not (is_among ns q) && is_changed_under es q) (sym parts)

-- the names from a place on: the one at the place, and those behind it
pub names_from : (names : List Name) (i : ℕ) (other : Name) → i < length names → drop i names ≡ get_or names i other ∷ drop (i + 1) names
names_from names i other inside =
    let next : suc i ≡ i + 1 = omega arith in
    drop-cons names i other inside ∙ ap (λ n. get_or names i other ∷ drop n names) next

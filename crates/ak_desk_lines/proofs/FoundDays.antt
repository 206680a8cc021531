-- The day of a moment in what is held, and the cards that are found on it.
use Rattle.std.specs.Prelude.{◌≡◌, ℤ, List, Option, Some, None, IfSome}
use Rattle.std.proofs.Common.{sym, subst, ◌∙◌}
use Rattle.ak_base.specs.Days.{IsDayOf}
use Rattle.ak_base.specs.declared.days.Day.{Day}
use Rattle.ak_base.specs.declared.heads.Head.{Head}
use Rattle.ak_desk_lines.specs.Accepted.{AreFound, IsOnDay}
use Rattle.ak_edit_calls.proofs.Telling.{where_told-both}
use Rattle.ak_keep.proofs.Told.{where_told-map}
use Rattle.ak_keep.specs.Collections.{Holding, Rows}
use Rattle.ak_keep.specs.Keepers.{Keeping, WhereTold}
use Rattle.ak_search.specs.Grammar.{pieces_in}
use Rattle.ak_search.specs.Holds.{hits}
use Rattle.ak_search.specs.Trees.{Tree, pieces_of}
use Rattle.ak_search.specs.declared.parses.Expr.{Expr}

-- the day for the head that was read is that of what is held
pub day_told : (k : Keeping) (at : ℤ) (found : Option Head) (head : Head) (day : Day)
    → found ≡ Some head → WhereTold k (λ h. found ≡ h.head) → IsDayOf head.crt at day → IsOnDay at k day
day_told k at found head day some told is =
    where_told-map k (λ h. found ≡ h.head) (λ h. IfSome h.head (λ head. IsDayOf head.crt at day))
    (λ h there. subst (λ (o : Option Head). IfSome o (λ head. IsDayOf head.crt at day)) (sym some ∙ there) is) told

-- all hits of the trees that the search may be read as
abbrev AreHits : Expr → Day → List ℤ → Rows → Type 0
AreHits search day ids held = (tree : Tree) → pieces_in search.tokens.items ≡ pieces_of tree → ids ≡ hits held day tree

found_under : (o : Option Head) (at : ℤ) (search : Expr) (held : Rows) (day : Day) (ids : List ℤ)
    → IfSome o (λ head. IsDayOf head.crt at day) → AreHits search day ids held → IfSome o (λ head. AreFound at search held head ids)
found_under None at search held day ids on are = tt
found_under (Some head) at search held day ids on are = (day, on, are)

-- the hits on the day of the moment are found
pub found_on : (k : Keeping) (at : ℤ) (search : Expr) (day : Day) (ids : List ℤ)
    → IsOnDay at k day → WhereTold k (λ h. (tree : Tree) → pieces_in search.tokens.items ≡ pieces_of tree → ids ≡ hits h.rows day tree)
    → WhereTold k (λ h. IfSome h.head (λ head. AreFound at search h.rows head ids))
found_on k at search day ids on are =
    where_told-both k (λ h. IfSome h.head (λ head. IsDayOf head.crt at day)) (λ h. AreHits search day ids h.rows) (λ h. IfSome h.head (λ head. AreFound at search h.rows head ids))
    (λ h on are. found_under h.head at search h.rows day ids on are) on are

-- what is found in what is held is found in the collection
pub found_held : (at : ℤ) (search : Expr) (ids : List ℤ) (h : Holding) (head : Head)
    → h.head ≡ Some head → IfSome h.head (λ head. AreFound at search h.rows head ids) → AreFound at search h.rows head ids
found_held at search ids h head some is = subst (λ (o : Option Head). IfSome o (λ head. AreFound at search h.rows head ids)) some is

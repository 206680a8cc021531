-- Tests of the rows of several lists, and two tests of one thing.
use Rattle.std.specs.Prelude.{◌≡◌, ◌&&◌, Bool, true, false, List, ◌++◌, map}
use Rattle.std.specs.Bool.{Decides}
use Rattle.std.specs.List.{list_all}
use Rattle.std.proofs.Common.{refl, sym, ap, ◌∙◌}
use Rattle.std.proofs.lemmas.List.Folds.{list_all-append, list_all-map}
use Rattle.ak_base.specs.declared.rows.Row.{Row}
use Rattle.ak_session.specs.Refusals.{is_checked}

and_assoc : (a b c : Bool) → (a && (b && c)) ≡ ((a && b) && c)
and_assoc true b c = refl
and_assoc false b c = refl

-- rows of three kinds
pub checked_three : {X Y Z : Type 0} (one : X → Row) (two : Y → Row) (three : Z → Row) (xs : List X) (ys : List Y) (zs : List Z)
    → list_all is_checked (map one xs ++ (map two ys ++ map three zs))
    ≡ (list_all (λ x. is_checked (one x)) xs && list_all (λ y. is_checked (two y)) ys && list_all (λ z. is_checked (three z)) zs)
checked_three one two three xs ys zs =
    list_all-append is_checked (map one xs) (map two ys ++ map three zs)
    ∙ ap (λ b. list_all is_checked (map one xs) && b) (list_all-append is_checked (map two ys) (map three zs))
    ∙ and_assoc (list_all is_checked (map one xs)) (list_all is_checked (map two ys)) (list_all is_checked (map three zs))
    ∙ ap (λ b. b && list_all is_checked (map two ys) && list_all is_checked (map three zs)) (list_all-map is_checked one xs)
    ∙ ap (λ b. list_all (λ x. is_checked (one x)) xs && b && list_all is_checked (map three zs)) (list_all-map is_checked two ys)
    ∙ ap (λ b. list_all (λ x. is_checked (one x)) xs && list_all (λ y. is_checked (two y)) ys && b) (list_all-map is_checked three zs)

-- two tests that decide one thing answer alike
pub decided_alike : {P : Type 0} (a b : Bool) → Decides a P → Decides b P → a ≡ b
decided_alike true b one other = sym (other.1 (one.0 refl))
decided_alike false true one other = one.1 (other.0 refl)
decided_alike false false one other = refl

-- Rows taken into a keeper one after the other are taken in one.
use Rattle.std.specs.Option.{option_map}
use Rattle.std.specs.Prelude.{◌≡◌, ℤ, List, [], ◌∷◌, ◌++◌, Option, Some, None}
use Rattle.std.proofs.Common.{refl, sym, ap, ◌∙◌}
use Rattle.ak_base.specs.declared.rows.Row.{Row}
use Rattle.ak_keep.specs.Collections.{Holding}
use Rattle.ak_keep.specs.Keepers.{Keeping, changed}
use Rattle.ak_keep.specs.Marks as marks
use Rattle.ak_keep.specs.Marks.{WithMark}
use Rattle.ak_merge.specs.Takings.{with_taken}
use Rattle.ak_sync_rows.specs.Takes.{rows_taken, with_all_taken}
use Rattle.ak_merge.specs.declared.sides.Side.{Side}

none_taken : (side : Side) (usn : ℤ) (told : Option (WithMark Holding)) → told ≡ option_map (marks.changed (with_all_taken side usn [])) told
none_taken side usn None = refl
none_taken side usn (Some w) = refl

one_more_taken : (side : Side) (usn : ℤ) (row : Row) (more : List Row) (told : Option (WithMark Holding))
    → option_map (marks.changed (with_all_taken side usn more)) (option_map (marks.changed (with_taken side usn row)) told)
    ≡ option_map (marks.changed (with_all_taken side usn (row ∷ more))) told
one_more_taken side usn row more None = refl
one_more_taken side usn row more (Some w) = refl

pub taken_in_one : (side : Side) (usn : ℤ) (came : List Row) (k : Keeping) → rows_taken side usn came k ≡ changed (with_all_taken side usn came) k
taken_in_one side usn [] k = ap (λ told. record { headed = k.headed; told = told }) (none_taken side usn k.told)
taken_in_one side usn (row ∷ more) k =
    taken_in_one side usn more (changed (with_taken side usn row) k)
    ∙ ap (λ told. record { headed = k.headed; told = told }) (one_more_taken side usn row more k.told)

-- one list after another
pub taken_append : (side : Side) (usn : ℤ) (first more : List Row) (k : Keeping) → rows_taken side usn (first ++ more) k ≡ rows_taken side usn more (rows_taken side usn first k)
taken_append side usn [] more k = refl
taken_append side usn (row ∷ first) more k = taken_append side usn first more (changed (with_taken side usn row) k)

-- three lists, one after the other
pub taken_thrice : (side : Side) (usn : ℤ) (xs ys zs : List Row) (k k1 k2 k3 : Keeping)
    → k1 ≡ rows_taken side usn xs k → k2 ≡ rows_taken side usn ys k1 → k3 ≡ rows_taken side usn zs k2
    → k3 ≡ changed (with_all_taken side usn (xs ++ (ys ++ zs))) k
taken_thrice side usn xs ys zs k k1 k2 k3 one two three =
    three
    ∙ ap (rows_taken side usn zs) (two ∙ ap (rows_taken side usn ys) one)
    ∙ sym (taken_append side usn ys zs (rows_taken side usn xs k))
    ∙ sym (taken_append side usn xs (ys ++ zs) k)
    ∙ taken_in_one side usn (xs ++ (ys ++ zs)) k

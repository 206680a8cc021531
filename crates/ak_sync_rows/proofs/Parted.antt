-- Three lists of rows that come one after the other.
use Rattle.std.specs.List.{All, AllByRecursion}
use Rattle.std.specs.Prelude.{List, [], ◌∷◌, ◌++◌, map, Result, Ok, Err, OnOk}
use Rattle.std.proofs.lemmas.List.Elements.{All-from_recursion, recursion_from_All}
use Rattle.ak_session.proofs.Ranges.{all_front, all_rest}

-- ---- parts of what is in its ranges
all_under : {X Y : Type 0} (P : Y → Type 0) (f : X → Y) (xs : List X) → AllByRecursion P (map f xs) → AllByRecursion (λ x. P (f x)) xs
all_under P f [] all = tt
all_under P f (x ∷ xs) all = (all.0, all_under P f xs all.1)

pub of_first : {X Y : Type 0} (P : Y → Type 0) (f : X → Y) (xs : List X) (ys : List Y) → All P (map f xs ++ ys) → All (λ x. P (f x)) xs
of_first P f xs ys all = All-from_recursion (λ x. P (f x)) xs (all_under P f xs (all_front P (map f xs) ys (recursion_from_All P (map f xs ++ ys) all)))

pub of_more : {X Y : Type 0} (P : Y → Type 0) (f : X → Y) (xs : List X) (ys : List Y) → All P (map f xs ++ ys) → All P ys
of_more P f xs ys all = All-from_recursion P ys (all_rest P (map f xs) ys (recursion_from_All P (map f xs ++ ys) all))

pub of_last : {X Y : Type 0} (P : Y → Type 0) (f : X → Y) (xs : List X) → All P (map f xs) → All (λ x. P (f x)) xs
of_last P f xs all = All-from_recursion (λ x. P (f x)) xs (all_under P f xs (recursion_from_All P (map f xs) all))

-- ---- a last call
-- what follows from what holds if a call was not refused
pub if_ok : {T E : Type 0} (result : Result T E) (P Q : Type 0) → (P → Q) → OnOk result P → OnOk result Q
if_ok (Ok x) P Q so p = so p
if_ok (Err e) P Q so p = tt

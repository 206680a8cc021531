-- The columns of a row by their places.
use Rattle.std.proofs.Common.{◌≡◌, ℕ, zero, suc, List, [], ◌∷◌, Option, Some, None, refl, get_or}
use Rattle.csv.specs.Records.{field_at}
use Rattle.ak_csv.specs.RecordRows.{guid_of}

some_same : (x y : List ℕ) → Some x ≡ Some y → x ≡ y
some_same x y e = cc e

pub column_there : (row : List (List ℕ)) (place : ℕ) (column : List ℕ) → Some column ≡ field_at row place → column ≡ get_or row place []
unfolding field_at
column_there [] place column e = cc e
column_there (first ∷ row) zero column e = cc e
column_there (first ∷ row) (suc place) column e = column_there row place column e

pub column_missing : (row : List (List ℕ)) (place : ℕ) → ◌≡◌ {A = Option (List ℕ)} None (field_at row place) → get_or row place [] ≡ []
unfolding field_at
column_missing [] zero e = refl
column_missing [] (suc place) e = refl
column_missing (first ∷ row) zero e = cc e
column_missing (first ∷ row) (suc place) e = column_missing row place e

pub guid_there : (row : List (List ℕ)) (guid : List ℕ) → Some guid ≡ field_at row 0 → guid ≡ guid_of row
unfolding field_at
guid_there [] guid e = cc e
guid_there (first ∷ row) guid e = cc e

pub guid_missing : (row : List (List ℕ)) → ◌≡◌ {A = Option (List ℕ)} None (field_at row 0) → guid_of row ≡ []
unfolding field_at
guid_missing [] e = refl
guid_missing (first ∷ row) e = cc e

pub guid_first : (row : List (List ℕ)) → get_or row 0 [] ≡ guid_of row
guid_first [] = refl
guid_first (first ∷ row) = refl

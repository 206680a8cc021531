-- Where the columns of a form stand.
use Rattle.std.proofs.Common.{◌≡◌, ℕ, zero, suc, ◌<◌, ◌≤◌, [], ◌∷◌, length, slice_index_or, None, arith, ap, refl}
use Rattle.serde_json.specs.Data.{Data}
use Rattle.ak_json.specs.Cells.{cell_at}
use Rattle.ak_json.specs.Keys.{find}
use Rattle.ak_json.specs.Members.{Form}
use Rattle.ak_json.specs.declared.keys.Place.{Place}
use Rattle.ak_json.specs.declared.kinds.Kind.{Kind}

-- a column of the form stands where the form says
pub cell_within : (form : Form) (n : ℕ) (d : Data) (column : Place × Kind) → n < length form → slice_index_or form n column ≡ column → cell_at form n d ≡ find column.0 d
cell_within [] n d column h e = absurd (omega arith)
cell_within (first ∷ columns) zero d column h e = ap (λ (c : Place × Kind). find c.0 d) e
cell_within (first ∷ columns) (suc n) d column h e = cell_within columns n d column (omega arith) e

-- past the form's columns there is none
pub cell_past : (form : Form) (n : ℕ) (d : Data) → length form ≤ n → cell_at form n d ≡ None
cell_past [] n d h = refl
cell_past (first ∷ columns) zero d h = absurd (omega arith)
cell_past (first ∷ columns) (suc n) d h = cell_past columns n d (omega arith)

-- The cells of a row: what stands in each of its columns.
use Rattle.std.specs.Prelude.{ℕ, zero, suc, Bool, false, ℤ, pos, List, [], ◌∷◌, Option, None, option_and_then, unwrap_or}
use Rattle.serde_json.specs.Data.{Data, Items, no_items, item}
use Rattle.serde_json.specs.Find.{as_str, as_bool, as_array, at}
use Rattle.ak_base.specs.declared.decks.Count.{Count}
use Rattle.ak_json.specs.Keys.{find}
use Rattle.ak_json.specs.Kinds.{integer_of, permille_of}
use Rattle.ak_json.specs.Members.{Form}

-- what stands in a column, counted from 0
abbrev pub cell_at : Form → ℕ → Data → Option Data
cell_at [] n d = None
cell_at (column ∷ columns) zero d = find column.0 d
cell_at (column ∷ columns) (suc n) d = cell_at columns n d

-- the whole number there
abbrev pub integer_at : Form → ℕ → Data → ℤ
integer_at form n d = unwrap_or (option_and_then integer_of (cell_at form n d)) (pos 0)

-- the thousandths there
abbrev pub permille_at : Form → ℕ → Data → ℤ
permille_at form n d = unwrap_or (option_and_then permille_of (cell_at form n d)) (pos 0)

-- the text there
abbrev pub text_at : Form → ℕ → Data → List ℕ
text_at form n d = unwrap_or (option_and_then as_str (cell_at form n d)) []

-- the truth value there
abbrev pub bool_at : Form → ℕ → Data → Bool
bool_at form n d = unwrap_or (option_and_then as_bool (cell_at form n d)) false

-- the whole number at a place of the list there
abbrev pub part_at : Form → ℕ → ℕ → Data → ℤ
part_at form n place d = unwrap_or (option_and_then integer_of (option_and_then (at place) (cell_at form n d))) (pos 0)

-- the day and the number of the pair there
abbrev pub count_at : Form → ℕ → Data → Count
count_at form n d = record { day = part_at form n 0 d; count = part_at form n 1 d }

-- the numbers of a list of whole numbers
abbrev pub integers : Items → List ℤ
integers no_items = []
integers (item d ds) = unwrap_or (integer_of d) (pos 0) ∷ integers ds

-- the numbers of the list there
abbrev pub steps_at : Form → ℕ → Data → List ℤ
steps_at form n d = integers (unwrap_or (option_and_then as_array (cell_at form n d)) no_items)

-- the object there
abbrev pub inner_at : Form → ℕ → Data → Data
inner_at form n d = unwrap_or (cell_at form n d) d

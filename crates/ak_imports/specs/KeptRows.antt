-- What is put into a keeper that is marked.
use Rattle.std.specs.Prelude.{◌≡◌, List, [], ◌∷◌, Some}
use Rattle.std.specs.FinMap.{insert}
use Rattle.ak_base.specs.Rows.{name_of}
use Rattle.ak_base.specs.declared.heads.Conf.{Conf}
use Rattle.ak_base.specs.declared.rows.Row.{Row}
use Rattle.ak_keep.specs.Collections.{Collection, Holding, Rows}
use Rattle.ak_keep.specs.Keepers.{Keeping, put}
use Rattle.ak_keep.specs.Marks.{WithMark}

-- the rows with these under their names
abbrev pub rows_with : List Row → Rows → Rows
rows_with [] held = held
rows_with (row ∷ others) held = rows_with others (insert held (name_of row) row)

-- each of the rows was put under its name
abbrev pub all_put : List Row → Keeping → Keeping
all_put [] k = k
all_put (row ∷ others) k = all_put others (put row k)

-- a keeper tells that this collection is held
pub record HoldsCollection (k : Keeping) (c : Collection) : Type 0 where
  pub both : WithMark Holding
  pub told : k.told ≡ Some both
  pub current : both.current ≡ record { rows = c.rows; head = Some c.head }

-- the rows and the settings are held now, if it is told what is held
abbrev pub Keeps : List Row → Conf → Keeping → Keeping → Type 0
Keeps made conf k k_after =
    (c : Collection) → HoldsCollection k c → HoldsCollection k_after (record { rows = rows_with made c.rows; head = record c.head { conf = conf } })

-- the settings are
abbrev pub SetsConf : Conf → Keeping → Keeping → Type 0
SetsConf conf k k_after = (c : Collection) → HoldsCollection k c → HoldsCollection k_after (record c { head = record c.head { conf = conf } })

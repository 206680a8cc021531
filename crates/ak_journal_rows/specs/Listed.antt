-- How entries are compared with those behind them, and with a name. The contracts of private functions cite it.
use Rattle.std.specs.Prelude.{◌≡◌, ◌≢◌, List, [], ◌∷◌, ⊤}
use Rattle.std.specs.declared.cmp.Ordering.TheVariants.{Less}
use Rattle.ak_base.specs.Names.{name_cmp}
use Rattle.ak_base.specs.Rows.{name_of}
use Rattle.ak_base.specs.declared.names.Name.{Name}
use Rattle.ak_base.specs.declared.rows.Row.{Row}

-- its name is before that of the first of others, if there are any
abbrev pub IsBeforeFirst : {A : Type 0} → (A → Name) → A → List A → Type 0
IsBeforeFirst named entry [] = ⊤
IsBeforeFirst named entry (next ∷ others) = name_cmp (named entry) (named next) ≡ Less

-- no row is before this name
abbrev pub IsFrom : Name → List Row → Type 0
IsFrom name [] = ⊤
IsFrom name (row ∷ rows) = name_cmp (name_of row) name ≢ Less

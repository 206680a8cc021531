-- The order of a collection's names: by table, then by id.
use Rattle.std.specs.Prelude.{ℕ, pos, ◌+ℤ◌}
use Rattle.std.specs.Cmp.{IsTotalOrder, on_total, then_total, nat_cmp_total, int_cmp_total}
use Rattle.std.specs.Ordering.{nat_cmp, int_cmp, then_cmp, on}
use Rattle.std.specs.declared.cmp.Ordering.{Ordering}
use Rattle.ak_base.specs.declared.names.Table.{Table}
use Rattle.ak_base.specs.declared.names.Table.TheVariants as tables
use Rattle.ak_base.specs.declared.names.Name.{Name}

-- where a table stands in their order
abbrev pub table_place : Table → ℕ
table_place tables.Note = 0
table_place tables.Card = 1
table_place tables.Review = 2
table_place tables.NoteType = 3
table_place tables.Deck = 4
table_place tables.Options = 5
table_place tables.NoteGrave = 6
table_place tables.CardGrave = 7
table_place tables.DeckGrave = 8

-- the name of the next id in its table
abbrev pub next_name : Name → Name
next_name name = record { table = name.table; id = name.id +ℤ pos 1 }

-- by table, then by id
abbrev pub name_cmp : Name → Name → Ordering
name_cmp = then_cmp (on (λ n. table_place n.table) nat_cmp) (on (λ n. n.id) int_cmp)

-- it is a total order: the law that `Ord` takes
pub names_total : IsTotalOrder name_cmp
names_total = then_total (on_total (λ n. table_place n.table) nat_cmp_total) (on_total (λ n. n.id) int_cmp_total)

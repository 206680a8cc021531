-- Names that the order ties are one.
use Rattle.std.proofs.Common.{◌≡◌, ℕ, ℤ, ◌==◌, refl, sym, ap, ◌∙◌}
use Rattle.std.specs.Prelude.{if◌then◌else◌}
use Rattle.std.proofs.lemmas.Map.Lookups.{exact_pairs}
use Rattle.std.specs.FinMap.{IsAntisymmetric, nat_cmp-IsAntisymmetric, int_cmp-IsAntisymmetric}
use Rattle.std.specs.Ordering.{nat_cmp, int_cmp}
use Rattle.ak_base.specs.Names.{table_place, name_cmp}
use Rattle.ak_base.specs.declared.names.Table.{Table}
use Rattle.ak_base.specs.declared.names.Table.TheVariants as tables
use Rattle.ak_base.specs.declared.names.Name.{Name}

-- the table that stands at a place
table_at : ℕ → Table
table_at n =
    if n == 0 then tables.Note else if n == 1 then tables.Card else if n == 2 then tables.Review else if n == 3 then tables.NoteType
    else if n == 4 then tables.Deck else if n == 5 then tables.Options else if n == 6 then tables.NoteGrave else if n == 7 then tables.CardGrave
    else tables.DeckGrave

table_at-table_place : (t : Table) → table_at (table_place t) ≡ t
unfolding table_at
table_at-table_place tables.Note = refl
table_at-table_place tables.Card = refl
table_at-table_place tables.Review = refl
table_at-table_place tables.NoteType = refl
table_at-table_place tables.Deck = refl
table_at-table_place tables.Options = refl
table_at-table_place tables.NoteGrave = refl
table_at-table_place tables.CardGrave = refl
table_at-table_place tables.DeckGrave = refl

-- a name from its place in the order
name_at : ℕ × ℤ → Name
name_at place = record { table = table_at place.0; id = place.1 }

name_at-place : (n : Name) → name_at (table_place n.table, n.id) ≡ n
unfolding name_at
name_at-place n = ap (λ t. record { table = t; id = n.id }) (table_at-table_place n.table)

-- names that the order ties are one
pub names_exact : IsAntisymmetric name_cmp
names_exact a b tied =
    sym (name_at-place a)
    ∙ ap name_at (exact_pairs nat_cmp int_cmp nat_cmp-IsAntisymmetric int_cmp-IsAntisymmetric (table_place a.table, a.id) (table_place b.table, b.id) tied)
    ∙ name_at-place b

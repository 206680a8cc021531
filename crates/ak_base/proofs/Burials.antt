-- Graves and the rows that leave them.
use Rattle.std.proofs.Common.{◌≡◌, ◌↔◌, ℤ, pos, Bool, true, false, Option, Some, None, refl, sym, ap, subst}
use Rattle.std.proofs.lemmas.Bool.Decides.{Decides-int_eq}
use Rattle.std.specs.Ordering.{int_eq}
use Rattle.std.specs.Prelude.{option_and_then, unwrap_or, if◌then◌else◌}
use Rattle.std.specs.Option.{option_map}
use Rattle.ak_base.specs.Graves.{grave_table, buried_table}
use Rattle.ak_base.specs.Tables.{graves_of, buried_in, grave_code, of_grave_code, grave_name, buried_name}
use Rattle.ak_base.specs.declared.names.Name.{Name}
use Rattle.ak_base.specs.declared.names.Table.{Table}
use Rattle.ak_base.specs.declared.names.Table.TheVariants as tables

buried-graves : (table graves : Table) → graves_of table ≡ Some graves → buried_in graves ≡ Some table
buried-graves tables.Note graves is = sym (ap (λ o. option_and_then buried_in o) is)
buried-graves tables.Card graves is = sym (ap (λ o. option_and_then buried_in o) is)
buried-graves tables.Deck graves is = sym (ap (λ o. option_and_then buried_in o) is)
buried-graves tables.Review graves is = cc
buried-graves tables.NoteType graves is = cc
buried-graves tables.Options graves is = cc
buried-graves tables.NoteGrave graves is = cc
buried-graves tables.CardGrave graves is = cc
buried-graves tables.DeckGrave graves is = cc

graves-buried : (table graves : Table) → buried_in graves ≡ Some table → graves_of table ≡ Some graves
graves-buried table tables.NoteGrave is = sym (ap (λ o. option_and_then graves_of o) is)
graves-buried table tables.CardGrave is = sym (ap (λ o. option_and_then graves_of o) is)
graves-buried table tables.DeckGrave is = sym (ap (λ o. option_and_then graves_of o) is)
graves-buried table tables.Note is = cc
graves-buried table tables.Card is = cc
graves-buried table tables.Deck is = cc
graves-buried table tables.Review is = cc
graves-buried table tables.NoteType is = cc
graves-buried table tables.Options is = cc

-- a name of its parts
abbrev named : Table → ℤ → Name
named table id = record { table = table; id = id }

-- tables of graves and of rows are each other's inverse
pub graves_exactly : (table graves : Table) → (graves_of table ≡ Some graves) ↔ (buried_in graves ≡ Some table)
graves_exactly table graves = (buried-graves table graves, graves-buried table graves)

-- ---- codes
code-of : (table : Table) (code : ℤ) → grave_code table ≡ Some code → of_grave_code code ≡ Some table
code-of tables.Note code is = sym (ap (λ o. option_and_then of_grave_code o) is)
code-of tables.Card code is = sym (ap (λ o. option_and_then of_grave_code o) is)
code-of tables.Deck code is = sym (ap (λ o. option_and_then of_grave_code o) is)
code-of tables.Review code is = cc
code-of tables.NoteType code is = cc
code-of tables.Options code is = cc
code-of tables.NoteGrave code is = cc
code-of tables.CardGrave code is = cc
code-of tables.DeckGrave code is = cc

-- what holds of each of the three codes and its table
by_code : (P : ℤ → Table → Type 0) → P (pos 0) tables.Card → P (pos 1) tables.Note → P (pos 2) tables.Deck
    → (code : ℤ) (table : Table) → of_grave_code code ≡ Some table → P code table
by_code P card note deck code table =
    elim (int_eq code (pos 0)) as (λ b. int_eq code (pos 0) ≡ b
    → (if b then Some tables.Card else if int_eq code (pos 1) then Some tables.Note else if int_eq code (pos 2) then Some tables.Deck else None) ≡ Some table → P code table) [
      | true ↦ λ e is. at (pos 0) tables.Card ((Decides-int_eq code (pos 0)).0 e) is card
      | false ↦ λ _. elim (int_eq code (pos 1)) as (λ b. int_eq code (pos 1) ≡ b
          → (if b then Some tables.Note else if int_eq code (pos 2) then Some tables.Deck else None) ≡ Some table → P code table) [
            | true ↦ λ e is. at (pos 1) tables.Note ((Decides-int_eq code (pos 1)).0 e) is note
            | false ↦ λ _. elim (int_eq code (pos 2)) as (λ b. int_eq code (pos 2) ≡ b → (if b then Some tables.Deck else None) ≡ Some table → P code table) [
              | true ↦ λ e is. at (pos 2) tables.Deck ((Decides-int_eq code (pos 2)).0 e) is deck
              | false ↦ λ e is. cc
            ] refl
          ] refl
    ] refl
  where
    at : (own : ℤ) (its : Table) → code ≡ own → ◌≡◌ {A = Option Table} (Some its) (Some table) → P own its → P code table
    at own its same is holds = subst (λ c. P c table) (sym same) (subst (P own) (ap (λ o. unwrap_or o its) is) holds)

-- codes of graves and tables of rows are each other's inverse
pub codes_exactly : (table : Table) (code : ℤ) → (grave_code table ≡ Some code) ↔ (of_grave_code code ≡ Some table)
codes_exactly table code = (code-of table code, by_code (λ code table. grave_code table ≡ Some code) refl refl refl code table)

-- a grave with such a code stands in the table of the graves of these rows
pub coded_table : (table : Table) (code : ℤ) → of_grave_code code ≡ Some table → graves_of table ≡ Some (grave_table code)
coded_table table code = by_code (λ code table. graves_of table ≡ Some (grave_table code)) refl refl refl code table

-- and is of one of these rows
pub coded_buried : (table : Table) (code : ℤ) → of_grave_code code ≡ Some table → buried_table code ≡ table
coded_buried table code = by_code (λ code table. buried_table code ≡ table) refl refl refl code table

-- what holds of the three tables of graves holds of the table of a grave of any kind
pub grave_table_by : (P : Table → Type 0) → P tables.CardGrave → P tables.NoteGrave → P tables.DeckGrave → (kind : ℤ) → P (grave_table kind)
grave_table_by P card note deck kind = by_three (int_eq kind (pos 0)) (int_eq kind (pos 1)) (int_eq kind (pos 2))
  where
    by_three : (a b c : Bool) → P (unwrap_or (option_and_then graves_of (if a then Some tables.Card else if b then Some tables.Note else if c then Some tables.Deck else None)) tables.DeckGrave)
    by_three true b c = card
    by_three false true c = note
    by_three false false true = deck
    by_three false false false = deck

-- the table that a grave stands in is that of the graves of the rows that it is one of
pub graves_of-buried_table : (kind : ℤ) → graves_of (buried_table kind) ≡ Some (grave_table kind)
graves_of-buried_table kind = by_three (int_eq kind (pos 0)) (int_eq kind (pos 1)) (int_eq kind (pos 2))
  where
    by_three : (a b c : Bool) → graves_of (unwrap_or (if a then Some tables.Card else if b then Some tables.Note else if c then Some tables.Deck else None) tables.Deck)
        ≡ Some (unwrap_or (option_and_then graves_of (if a then Some tables.Card else if b then Some tables.Note else if c then Some tables.Deck else None)) tables.DeckGrave)
    by_three true b c = refl
    by_three false true c = refl
    by_three false false true = refl
    by_three false false false = refl

-- ---- names
-- names of graves and names of rows are each other's inverse
pub names_exactly : (name grave : Name) → (grave_name name ≡ Some grave) ↔ (buried_name grave ≡ Some name)
names_exactly name grave = (buried-grave name grave, grave-buried name grave)
  where
    buried-grave : (name grave : Name) → grave_name name ≡ Some grave → buried_name grave ≡ Some name
    buried-grave name grave is =
        elim (graves_of name.table) as (λ o. graves_of name.table ≡ o → option_map (λ (graves : Table). named graves name.id) o ≡ Some grave → buried_name grave ≡ Some name) [
          | None ↦ λ e is. cc
          | Some graves ↦ λ e is.
              subst (λ g. buried_name g ≡ Some name) (ap (λ o. unwrap_or o grave) is)
              (ap (option_map (λ (table : Table). named table name.id)) (buried-graves name.table graves e))
        ] refl is

    grave-buried : (name grave : Name) → buried_name grave ≡ Some name → grave_name name ≡ Some grave
    grave-buried name grave is =
        elim (buried_in grave.table) as (λ o. buried_in grave.table ≡ o → option_map (λ (table : Table). named table grave.id) o ≡ Some name → grave_name name ≡ Some grave) [
          | None ↦ λ e is. cc
          | Some table ↦ λ e is.
              subst (λ n. grave_name n ≡ Some grave) (ap (λ o. unwrap_or o name) is)
              (ap (option_map (λ (graves : Table). named graves grave.id)) (graves-buried table grave.table e))
        ] refl is

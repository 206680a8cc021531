-- What stands under a name once rows were taken, whatever their order; and that taking all that another side holds gives the join.
use Rattle.ak_base.proofs.Burials.{graves_exactly, graves_of-buried_table}
use Rattle.ak_base.specs.Tables.{graves_of, buried_in}
use Rattle.ak_keep.proofs.RowsByName.{same_of_tied}
use Rattle.ak_base.specs.Graves.{buried_table, grave_table}
use Rattle.ak_base.specs.Rows.{buried_of, name_of, stamp_of, with_usn}
use Rattle.std.specs.Prelude.{◌≡◌, ℕ, zero, suc, ◌<◌, ℤ, Bool, true, false, not, ◌||◌, ◌&&◌, if◌then◌else◌, int_lt, IsTrue, IfSome, length, List, [], ◌∷◌, Option, Some, None, is_some, ⊤}
use Rattle.std.proofs.Common.{refl, sym, ap, subst, ◌∙◌, arith}
use Rattle.std.proofs.Math.Path.{fun_ext}
use Rattle.std.proofs.lemmas.Int.{ints}
use Rattle.std.proofs.lemmas.List.Elements.{recursion_from_All}
use Rattle.std.specs.Cmp.{eq_by_cmp_equiv}
use Rattle.std.specs.FinMap.{get, insert, remove, get-insert, get-remove}
use Rattle.std.specs.List.{AllByRecursion, Contains, slice_index_or}
use Rattle.std.specs.Option.{option_and_then, option_map, option_map_or}
use Rattle.std.specs.Ordering.{eq_by_cmp}
use Rattle.ak_base.specs.Names.{name_cmp, names_total}
use Rattle.ak_base.specs.declared.graves.Grave.{Grave}
use Rattle.ak_base.specs.declared.names.Name.{Name}
use Rattle.ak_base.specs.declared.names.Table.{Table}
use Rattle.ak_base.specs.declared.names.Table.TheVariants as tables
use Rattle.ak_base.specs.declared.rows.Row.{Row}
use Rattle.ak_base.specs.declared.rows.Row.TheVariants as rows
use Rattle.ak_keep.specs.Collections.{Rows}
use Rattle.ak_keep.specs.Graves.{RowsByName, grave_under, is_dead}
use Rattle.ak_merge.specs.Holdings.{AreNamed, IsSingle, same_held}
use Rattle.ak_merge.proofs.JoinLaws.{no_graves}
use Rattle.ak_base.proofs.RowFacts.{stamp_of-with_usn, same-with_usn, same-itself}
use Rattle.ak_merge.specs.Takings.{IsListOf, beats, beats_held, takes, buried, taken, all_taken}
use Rattle.ak_merge.specs.declared.sides.Side.{Side}
use Rattle.ak_merge.specs.declared.sides.Side.TheVariants.{Device, Server}

-- ---- what stands under a name after taking
-- the row that came where it is newer or none was held, with this usn; else the one that is held
abbrev pub received : Side → ℤ → Option Row → Option Row → Option Row
received side usn None None = None
received side usn None (Some came) = Some (with_usn came usn)
received side usn (Some held) None = Some held
received side usn (Some held) (Some came) = if beats side (stamp_of held) came then Some (with_usn came usn) else Some held

-- the same under a name whose grave may be held or come: a grave that came leaves nothing, and one that is held lets nothing in
abbrev pub received_by : Side → ℤ → Option Row → Option Row → Option Row → Option Row → Option Row
received_by side usn held grave came (Some grave_came) = None
received_by side usn held (Some grave) came None = held
received_by side usn held None came None = received side usn held came

-- what stands under each name once this was taken
abbrev pub received_under : Side → ℤ → RowsByName → RowsByName → RowsByName
received_under side usn at from name = received_by side usn (at name) (grave_under at name) (from name) (grave_under from name)

-- whether two names are one
abbrev pub is_name : Name → Name → Bool
is_name = eq_by_cmp name_cmp

-- of two rows that come one after the other the one that a side ends with: the second if it takes the place of the first
abbrev pub stronger : Side → Option Row → Option Row → Option Row
stronger side None y = y
stronger side (Some x) None = Some x
stronger side (Some x) (Some y) = if beats side (stamp_of x) y then Some y else Some x

-- what stands under each name, behind this row
abbrev pub led_by : Side → Row → RowsByName → RowsByName
led_by side row from name = stronger side (if is_name name (name_of row) then Some row else None) (from name)

-- under each name the row of a list that a side ends with. It is the newest that the list has of the name: of those that are as new
-- the first for a server, and for a device the last
abbrev pub newest_in : Side → List Row → RowsByName
newest_in side [] name = None
newest_in side (row ∷ more) name = led_by side row (newest_in side more) name

-- ---- names and the graves of names
name-itself : (name : Name) → is_name name name ≡ true
name-itself = (eq_by_cmp_equiv names_total).refl

other_name : (name other : Name) → (name ≡ other → ⊥) → is_name name other ≡ false
other_name name other apart =
    elim (is_name name other) as (λ b. is_name name other ≡ b → b ≡ false) [
      | true ↦ λ is. absurd (apart (same_of_tied name other is))
      | false ↦ λ is. refl
    ] refl

buried_in-grave_table : (kind : ℤ) → buried_in (grave_table kind) ≡ Some (buried_table kind)
buried_in-grave_table kind = (graves_exactly (buried_table kind) (grave_table kind)).0 (graves_of-buried_table kind)

-- whether a row is the grave of this name
abbrev pub buries : Row → Name → Bool
buries row name = option_map_or (λ (other : Name). is_name name other) (buried_of row) false

-- the name of what a grave buries
abbrev of_grave : Grave → Name
of_grave g = record { table = buried_table g.kind; id = g.oid }

own_clear : (row : Row) → buries row (name_of row) ≡ false
own_clear (rows.Note n) = refl
own_clear (rows.Card c) = refl
own_clear (rows.Review r) = refl
own_clear (rows.NoteType t) = refl
own_clear (rows.Deck d) = refl
own_clear (rows.Options o) = refl
own_clear (rows.Grave g) = other_name (name_of (rows.Grave g)) (of_grave g) (λ same.
    let leaves = graves_of-buried_table g.kind in
    let none = no_graves (buried_table g.kind) (grave_table g.kind) leaves in
    let one : graves_of (grave_table g.kind) ≡ graves_of (buried_table g.kind) = ap (λ (n : Name). graves_of n.table) same in
    grind (arith, none, one, leaves))

-- no grave buries a grave
graves_clear : (row : Row) (name : Name) (graves : Table) → graves_of name.table ≡ Some graves → buries row (record { table = graves; id = name.id }) ≡ false
graves_clear (rows.Note n) name graves is = refl
graves_clear (rows.Card c) name graves is = refl
graves_clear (rows.Review r) name graves is = refl
graves_clear (rows.NoteType t) name graves is = refl
graves_clear (rows.Deck d) name graves is = refl
graves_clear (rows.Options o) name graves is = refl
graves_clear (rows.Grave g) name graves is = other_name (record { table = graves; id = name.id }) (of_grave g) (λ same.
    let leaves = graves_of-buried_table g.kind in
    let none = no_graves name.table graves is in
    let one : graves_of graves ≡ graves_of (buried_table g.kind) = ap (λ (n : Name). graves_of n.table) same in
    grind (arith, none, one, leaves))

-- a name of which no grave stands is buried by none
never_buried : (row : Row) (name : Name) → graves_of name.table ≡ None → buries row name ≡ false
never_buried (rows.Note n) name is = refl
never_buried (rows.Card c) name is = refl
never_buried (rows.Review r) name is = refl
never_buried (rows.NoteType t) name is = refl
never_buried (rows.Deck d) name is = refl
never_buried (rows.Options o) name is = refl
never_buried (rows.Grave g) name is = other_name name (of_grave g) (λ same.
    let leaves = graves_of-buried_table g.kind in
    let one : graves_of name.table ≡ graves_of (buried_table g.kind) = ap (λ (n : Name). graves_of n.table) same in
    grind (arith, is, one, leaves))

-- a row that does not stand under the grave's name buries nothing
not_its_grave : (row : Row) (name : Name) (graves : Table) → graves_of name.table ≡ Some graves
    → is_name (record { table = graves; id = name.id }) (name_of row) ≡ false → buries row name ≡ false
not_its_grave (rows.Note n) name graves is apart = refl
not_its_grave (rows.Card c) name graves is apart = refl
not_its_grave (rows.Review r) name graves is apart = refl
not_its_grave (rows.NoteType t) name graves is apart = refl
not_its_grave (rows.Deck d) name graves is apart = refl
not_its_grave (rows.Options o) name graves is apart = refl
not_its_grave (rows.Grave g) name graves is apart = other_name name (of_grave g) (λ same.
    let leaves = graves_of-buried_table g.kind in
    let one : graves_of name.table ≡ graves_of (buried_table g.kind) = ap (λ (n : Name). graves_of n.table) same in
    let table : graves ≡ grave_table g.kind = grind (arith, is, one, leaves) in
    let id : name.id ≡ g.oid = ap (λ (n : Name). n.id) same in
    let grave : Name = record { table = graves; id = name.id } in
    let both : grave ≡ name_of (rows.Grave g) = λ i. record { table = table i; id = id i } in
    let tied : is_name grave (name_of (rows.Grave g)) ≡ true = ap (is_name grave) (sym both) ∙ name-itself grave in
    grind (arith, tied, apart))

pub no_table : (table graves other : Table) → graves_of table ≡ Some graves → graves ≡ other → buried_in other ≡ None → ⊥
no_table table graves other is same none =
    let one = (graves_exactly table graves).0 is in
    let two : buried_in graves ≡ buried_in other = ap buried_in same in
    grind (arith, one, two, none)

-- what stands under the grave's name is a grave that buries it
pub its_grave : (row : Row) (name : Name) (graves : Table) → graves_of name.table ≡ Some graves → record { table = graves; id = name.id } ≡ name_of row
    → buries row name ≡ true
its_grave (rows.Note n) name graves is same = absurd (no_table name.table graves tables.Note is (ap (λ (n : Name). n.table) same) refl)
its_grave (rows.Card c) name graves is same = absurd (no_table name.table graves tables.Card is (ap (λ (n : Name). n.table) same) refl)
its_grave (rows.Review r) name graves is same = absurd (no_table name.table graves tables.Review is (ap (λ (n : Name). n.table) same) refl)
its_grave (rows.NoteType t) name graves is same = absurd (no_table name.table graves tables.NoteType is (ap (λ (n : Name). n.table) same) refl)
its_grave (rows.Deck d) name graves is same = absurd (no_table name.table graves tables.Deck is (ap (λ (n : Name). n.table) same) refl)
its_grave (rows.Options o) name graves is same = absurd (no_table name.table graves tables.Options is (ap (λ (n : Name). n.table) same) refl)
its_grave (rows.Grave g) name graves is same =
    let one = (graves_exactly name.table graves).0 is in
    let two : buried_in graves ≡ buried_in (grave_table g.kind) = ap (λ (n : Name). buried_in n.table) same in
    let three = buried_in-grave_table g.kind in
    let table : name.table ≡ buried_table g.kind = grind (arith, one, two, three) in
    let id : name.id ≡ g.oid = ap (λ (n : Name). n.id) same in
    let both : name ≡ of_grave g = λ i. record { table = table i; id = id i } in
    ap (is_name name) (sym both) ∙ name-itself name

-- ---- one row
-- what stands under each name once this row was taken
abbrev stepped : Side → ℤ → Row → RowsByName → RowsByName
stepped side usn row at name =
    if is_name name (name_of row) then (if takes side at row then Some (with_usn row usn) else if buries row name then None else at name)
    else if buries row name then None else at name

buried_at : (row : Row) (held : Rows) (name : Name) → get (buried row held) name ≡ (if buries row name then None else get held name)
buried_at row held name =
    elim (buried_of row) as (λ o. get (option_map_or (λ (other : Name). remove held other) o held) name ≡ (if option_map_or (λ (other : Name). is_name name other) o false then None else get held name)) [
      | None ↦ refl
      | Some other ↦ get-remove names_total held other name
    ]

either_same : (s : Bool) (x : Option Row) → x ≡ (if s then x else x)
either_same true x = refl
either_same false x = refl

taken_at : (side : Side) (usn : ℤ) (row : Row) (held : Rows) (name : Name) → get (taken side usn row held) name ≡ stepped side usn row (get held) name
taken_at side usn row held name =
    elim (takes side (get held) row) as (λ b. get (if b then insert (buried row held) (name_of row) (with_usn row usn) else buried row held) name
    ≡ (if is_name name (name_of row) then (if b then Some (with_usn row usn) else if buries row name then None else get held name) else if buries row name then None else get held name)) [
      | true ↦ get-insert names_total (buried row held) (name_of row) (with_usn row usn) name ∙ ap (λ o. if is_name name (name_of row) then Some (with_usn row usn) else o) (buried_at row held name)
      | false ↦ buried_at row held name ∙ either_same (is_name name (name_of row)) (if buries row name then None else get held name)
    ]

-- of the graves of a name that stand there
abbrev pub grave_in : RowsByName → Name → Option Table → Option Row
grave_in at name graves = option_and_then (λ (table : Table). at (record { table = table; id = name.id })) graves

stepped_own : (side : Side) (usn : ℤ) (row : Row) (at : RowsByName) → stepped side usn row at (name_of row) ≡ (if takes side at row then Some (with_usn row usn) else at (name_of row))
stepped_own side usn row at = rw (name-itself (name_of row), own_clear row) refl

stepped_other : (side : Side) (usn : ℤ) (row : Row) (at : RowsByName) (name : Name) → is_name name (name_of row) ≡ false → stepped side usn row at name ≡ (if buries row name then None else at name)
stepped_other side usn row at name apart = rw apart refl

led_own : (side : Side) (row : Row) (from : RowsByName) → led_by side row from (name_of row) ≡ stronger side (Some row) (from (name_of row))
led_own side row from = rw (name-itself (name_of row)) refl

stronger_none : (side : Side) (x : Option Row) → stronger side None x ≡ x
stronger_none side None = refl
stronger_none side (Some x) = refl

led_other : (side : Side) (row : Row) (from : RowsByName) (name : Name) → is_name name (name_of row) ≡ false → led_by side row from name ≡ from name
led_other side row from name apart = rw apart (stronger_none side (from name))

-- a row is no grave of its own name
own_grave : (row : Row) (graves : Table) → graves_of (name_of row).table ≡ Some graves → is_name (record { table = graves; id = (name_of row).id }) (name_of row) ≡ false
own_grave row graves is = other_name _ (name_of row) (λ same.
    let none = no_graves (name_of row).table graves is in
    let one : graves_of graves ≡ graves_of (name_of row).table = ap (λ (n : Name). graves_of n.table) same in
    grind (arith, none, one, is))

-- taking a row leaves the grave that does not stand under its name
grave_kept : (side : Side) (usn : ℤ) (row : Row) (at : RowsByName) (name : Name) (graves : Table) → graves_of name.table ≡ Some graves
    → is_name (record { table = graves; id = name.id }) (name_of row) ≡ false
    → stepped side usn row at (record { table = graves; id = name.id }) ≡ at (record { table = graves; id = name.id })
grave_kept side usn row at name graves is apart = stepped_other side usn row at _ apart ∙ ap (λ b. if b then None else at (record { table = graves; id = name.id })) (graves_clear row name graves is)

own_grave_kept : (side : Side) (usn : ℤ) (row : Row) (at : RowsByName) → grave_under (stepped side usn row at) (name_of row) ≡ grave_under at (name_of row)
own_grave_kept side usn row at =
    elim (graves_of (name_of row).table) as (λ o. graves_of (name_of row).table ≡ o → grave_in (stepped side usn row at) (name_of row) o ≡ grave_in at (name_of row) o) [
      | None ↦ λ is. refl
      | Some graves ↦ λ is. grave_kept side usn row at (name_of row) graves is (own_grave row graves is)
    ] refl

own_grave_led : (side : Side) (row : Row) (from : RowsByName) → grave_under (led_by side row from) (name_of row) ≡ grave_under from (name_of row)
own_grave_led side row from =
    elim (graves_of (name_of row).table) as (λ o. graves_of (name_of row).table ≡ o → grave_in (led_by side row from) (name_of row) o ≡ grave_in from (name_of row) o) [
      | None ↦ λ is. refl
      | Some graves ↦ λ is. led_other side row from _ (own_grave row graves is)
    ] refl

-- ---- what a list has of a name
either_stronger : (side : Side) (P : Row → Type 0) (x y : Option Row) → IfSome x P → IfSome y P → IfSome (stronger side x y) P
either_stronger side P None y one other = other
either_stronger side P (Some x) None one other = one
either_stronger side P (Some x) (Some y) one other = elim (beats side (stamp_of x) y) as (λ s. IfSome (if s then Some y else Some x) P) [ true ↦ other | false ↦ one ]

led_first : (P : Row → Type 0) (name : Name) (row : Row) → P row → IfSome (if is_name name (name_of row) then Some row else None) (λ (r : Row). P r × (name_of r ≡ name))
led_first P name row holds =
    elim (is_name name (name_of row)) as (λ b. is_name name (name_of row) ≡ b → IfSome (if b then Some row else None) (λ (r : Row). P r × (name_of r ≡ name))) [
      | true ↦ λ same. (holds, sym (same_of_tied name (name_of row) same))
      | false ↦ λ apart. tt
    ] refl

-- what a list has of a name bears it, and is one of its rows
pub each_newest : (side : Side) (P : Row → Type 0) (came : List Row) (name : Name) → AllByRecursion P came → IfSome (newest_in side came name) (λ (row : Row). P row × (name_of row ≡ name))
each_newest side P [] name each = tt
each_newest side P (row ∷ more) name each =
    either_stronger side (λ (r : Row). P r × (name_of r ≡ name)) (if is_name name (name_of row) then Some row else None) (newest_in side more name) (led_first P name row each.0) (each_newest side P more name each.1)

-- what holds of whatever is there
pub if_weaker : (P Q : Row → Type 0) → ((row : Row) → P row → Q row) → (o : Option Row) → IfSome o P → IfSome o Q
if_weaker P Q weaker None holds = tt
if_weaker P Q weaker (Some x) holds = weaker x holds

-- what a list has of a name bears it
pub newest_named : (side : Side) (came : List Row) (name : Name) → IfSome (newest_in side came name) (λ (row : Row). name_of row ≡ name)
newest_named side came name = if_weaker (λ row. ⊤ × (name_of row ≡ name)) (λ row. name_of row ≡ name) (λ row h. h.1) (newest_in side came name) (each_newest side (λ row. ⊤) came name (trivial came))
  where
    trivial : (came : List Row) → AllByRecursion (λ row. ⊤) came
    trivial came = recursion_from_All (λ row. ⊤) came (λ k d within. tt)

-- ---- which of two stands
-- a row is a grave exactly if it stands in a table of graves
pub grave_by_table : (row : Row) → is_some (buried_of row) ≡ is_some (buried_in (name_of row).table)
grave_by_table (rows.Note n) = refl
grave_by_table (rows.Card c) = refl
grave_by_table (rows.Review r) = refl
grave_by_table (rows.NoteType t) = refl
grave_by_table (rows.Deck d) = refl
grave_by_table (rows.Options o) = refl
grave_by_table (rows.Grave g) = sym (ap is_some (buried_in-grave_table g.kind))

pub graves_alike : (one other : Row) → name_of one ≡ name_of other → is_some (buried_of one) ≡ is_some (buried_of other)
graves_alike one other same = grave_by_table one ∙ ap (λ (n : Name). is_some (buried_in n.table)) same ∙ sym (grave_by_table other)

-- the number of a row makes no difference
pub beats_numberless : (side : Side) (x y : Row) (other : ℤ) → beats side (stamp_of (with_usn x other)) y ≡ beats side (stamp_of x) y
beats_numberless side x y other = ap (λ s. beats side s y) (stamp_of-with_usn x other)

-- what takes the place of a row that took another's takes that place too
beats_through : (side : Side) (x r y : Row) → beats side (stamp_of x) r ≡ true → beats side (stamp_of r) y ≡ true → beats side (stamp_of x) y ≡ true
beats_through Server x r y one two = grind (arith, ints, one, two)
beats_through Device x r y one two = through (is_some (buried_of r)) (is_some (buried_of y)) one two
  where
    through : (s t : Bool) → (not s && not (int_lt (stamp_of r) (stamp_of x))) ≡ true → (not t && not (int_lt (stamp_of y) (stamp_of r))) ≡ true → (not t && not (int_lt (stamp_of y) (stamp_of x))) ≡ true
    through true t one two = grind (arith, one)
    through false true one two = two
    through false false one two = grind (arith, ints, one, two)

-- and what does not, of two of one name, does not
unbeaten_through : (side : Side) (x r y : Row) → name_of r ≡ name_of y → beats side (stamp_of x) r ≡ false → beats side (stamp_of r) y ≡ false → beats side (stamp_of x) y ≡ false
unbeaten_through Server x r y same one two = grind (arith, ints, one, two)
unbeaten_through Device x r y same one two = through (is_some (buried_of r)) (is_some (buried_of y)) (graves_alike r y same) one two
  where
    through : (s t : Bool) → s ≡ t → (not s && not (int_lt (stamp_of r) (stamp_of x))) ≡ false → (not t && not (int_lt (stamp_of y) (stamp_of r))) ≡ false → (not t && not (int_lt (stamp_of y) (stamp_of x))) ≡ false
    through s true is one two = refl
    through true false is one two = grind (arith, is)
    through false false is one two = grind (arith, ints, one, two)

-- ---- one row, at a name and its grave
received_first : (side : Side) (usn : ℤ) (row : Row) (x y : Option Row) → IfSome y (λ other. name_of other ≡ name_of row)
    → received side usn (if beats_held side (option_map stamp_of x) row then Some (with_usn row usn) else x) y ≡ received side usn x (stronger side (Some row) y)
received_first side usn row None None named = refl
received_first side usn row None (Some y) named =
    ap (λ b. if b then Some (with_usn y usn) else Some (with_usn row usn)) (beats_numberless side row y usn)
    ∙ elim (beats side (stamp_of row) y) as (λ s. (if s then Some (with_usn y usn) else Some (with_usn row usn)) ≡ received side usn None (if s then Some y else Some row)) [ true ↦ refl | false ↦ refl ]
received_first side usn row (Some x) None named =
    elim (beats side (stamp_of x) row) as (λ s. received side usn (if s then Some (with_usn row usn) else Some x) None ≡ (if s then Some (with_usn row usn) else Some x)) [ true ↦ refl | false ↦ refl ]
received_first side usn row (Some x) (Some y) named =
    elim (beats side (stamp_of x) row) as (λ s. beats side (stamp_of x) row ≡ s
    → received side usn (if s then Some (with_usn row usn) else Some x) (Some y) ≡ received side usn (Some x) (stronger side (Some row) (Some y))) [
      | true ↦ λ is.
          ap (λ b. if b then Some (with_usn y usn) else Some (with_usn row usn)) (beats_numberless side row y usn)
          ∙ elim (beats side (stamp_of row) y) as (λ t. beats side (stamp_of row) y ≡ t
          → (if t then Some (with_usn y usn) else Some (with_usn row usn)) ≡ received side usn (Some x) (if t then Some y else Some row)) [
            | true ↦ λ more. let through : beats side (stamp_of x) y ≡ true = beats_through side x row y is more in rw through refl
            | false ↦ λ more. rw is refl
          ] refl
      | false ↦ λ is.
          elim (beats side (stamp_of row) y) as (λ t. beats side (stamp_of row) y ≡ t → received side usn (Some x) (Some y) ≡ received side usn (Some x) (if t then Some y else Some row)) [
            | true ↦ λ more. refl
            | false ↦ λ more. let through : beats side (stamp_of x) y ≡ false = unbeaten_through side x row y (sym named) is more in rw (through, is) refl
          ] refl
    ] refl

own_cell : (side : Side) (usn : ℤ) (row : Row) (x g y h : Option Row) → IfSome y (λ other. name_of other ≡ name_of row)
    → received_by side usn (if not (is_some g) && beats_held side (option_map stamp_of x) row then Some (with_usn row usn) else x) g y h ≡ received_by side usn x g (stronger side (Some row) y) h
own_cell side usn row x g y (Some h) named = refl
own_cell side usn row x (Some g) y None named = refl
own_cell side usn row x None y None named = received_first side usn row x y named

own_step : (side : Side) (usn : ℤ) (row : Row) (at from : RowsByName) → IfSome (from (name_of row)) (λ other. name_of other ≡ name_of row)
    → received_under side usn (stepped side usn row at) from (name_of row) ≡ received_under side usn at (led_by side row from) (name_of row)
own_step side usn row at from named =
    ap (λ x. received_by side usn x (grave_under (stepped side usn row at) (name_of row)) (from (name_of row)) (grave_under from (name_of row))) (stepped_own side usn row at)
    ∙ ap (λ g. received_by side usn (if takes side at row then Some (with_usn row usn) else at (name_of row)) g (from (name_of row)) (grave_under from (name_of row))) (own_grave_kept side usn row at)
    ∙ own_cell side usn row (at (name_of row)) (grave_under at (name_of row)) (from (name_of row)) (grave_under from (name_of row)) named
    ∙ sym (ap (λ y. received_by side usn (at (name_of row)) (grave_under at (name_of row)) y (grave_under (led_by side row from) (name_of row))) (led_own side row from)
    ∙ ap (λ h. received_by side usn (at (name_of row)) (grave_under at (name_of row)) (stronger side (Some row) (from (name_of row))) h) (own_grave_led side row from))

-- where the grave came, nothing stays
grave_cell : (side : Side) (usn : ℤ) (row : Row) (x g y h : Option Row)
    → received_by side usn None (if beats_held side (option_map stamp_of g) row then Some (with_usn row usn) else g) y h ≡ received_by side usn x g y (stronger side (Some row) h)
grave_cell side usn row x g y None = nothing g
  where
    nothing : (g : Option Row) → received_by side usn None (if beats_held side (option_map stamp_of g) row then Some (with_usn row usn) else g) y None ≡ None
    nothing None = refl
    nothing (Some g) = elim (beats side (stamp_of g) row) as (λ s. received_by side usn None (if s then Some (with_usn row usn) else Some g) y None ≡ None) [ true ↦ refl | false ↦ refl ]
grave_cell side usn row x g y (Some h) = elim (beats side (stamp_of row) h) as (λ s. None ≡ received_by side usn x g y (if s then Some h else Some row)) [ true ↦ refl | false ↦ refl ]

-- a grave is taken where none is held
takes_grave : (side : Side) (at : RowsByName) (row : Row) (name : Name) (graves : Table) → graves_of name.table ≡ Some graves → record { table = graves; id = name.id } ≡ name_of row
    → takes side at row ≡ beats_held side (option_map stamp_of (at (record { table = graves; id = name.id }))) row
takes_grave side at row name graves is same =
    let undead : is_dead at (record { table = graves; id = name.id }) ≡ false = ap (λ o. is_some (option_and_then (λ (table : Table). at (record { table = table; id = name.id })) o)) (no_graves name.table graves is) in
    ap (λ n. not (is_dead at n) && beats_held side (option_map stamp_of (at n)) row) (sym same) ∙ ap (λ b. not b && beats_held side (option_map stamp_of (at (record { table = graves; id = name.id }))) row) undead

grave_step : (side : Side) (usn : ℤ) (row : Row) (at from : RowsByName) (name : Name) (graves : Table) → is_name name (name_of row) ≡ false → graves_of name.table ≡ Some graves
    → record { table = graves; id = name.id } ≡ name_of row
    → received_by side usn (stepped side usn row at name) (grave_in (stepped side usn row at) name (Some graves)) (from name) (grave_in from name (Some graves))
    ≡ received_by side usn (at name) (grave_in at name (Some graves)) (led_by side row from name) (grave_in (led_by side row from) name (Some graves))
grave_step side usn row at from name graves apart is same =
    let grave : Name = record { table = graves; id = name.id } in
    let gone : stepped side usn row at name ≡ None = stepped_other side usn row at name apart ∙ ap (λ b. if b then None else at name) (its_grave row name graves is same) in
    let stands : stepped side usn row at grave ≡ (if beats_held side (option_map stamp_of (at grave)) row then Some (with_usn row usn) else at grave) =
    ap (stepped side usn row at) same ∙ stepped_own side usn row at ∙ ap (λ n. if takes side at row then Some (with_usn row usn) else at n) (sym same)
    ∙ ap (λ b. if b then Some (with_usn row usn) else at grave) (takes_grave side at row name graves is same) in
    let led : led_by side row from grave ≡ stronger side (Some row) (from grave) = ap (led_by side row from) same ∙ led_own side row from ∙ ap (λ n. stronger side (Some row) (from n)) (sym same) in
    ap (λ x. received_by side usn x (stepped side usn row at grave) (from name) (from grave)) gone
    ∙ ap (λ g. received_by side usn None g (from name) (from grave)) stands
    ∙ grave_cell side usn row (at name) (at grave) (from name) (from grave)
    ∙ sym (ap (λ y. received_by side usn (at name) (at grave) y (led_by side row from grave)) (led_other side row from name apart) ∙ ap (λ h. received_by side usn (at name) (at grave) (from name) h) led)

-- a row of another name, and no grave of this one
other_step : (side : Side) (usn : ℤ) (row : Row) (at from : RowsByName) (name : Name) (graves : Option Table) → is_name name (name_of row) ≡ false → graves_of name.table ≡ graves
    → received_by side usn (stepped side usn row at name) (grave_in (stepped side usn row at) name graves) (from name) (grave_in from name graves)
    ≡ received_by side usn (at name) (grave_in at name graves) (led_by side row from name) (grave_in (led_by side row from) name graves)
other_step side usn row at from name None apart is =
    ap (λ x. received_by side usn x None (from name) None) (stepped_other side usn row at name apart ∙ ap (λ b. if b then None else at name) (never_buried row name is))
    ∙ ap (λ y. received_by side usn (at name) None y None) (sym (led_other side row from name apart))
other_step side usn row at from name (Some graves) apart is =
    let grave : Name = record { table = graves; id = name.id } in
    elim (is_name grave (name_of row)) as (λ b. is_name grave (name_of row) ≡ b → received_by side usn (stepped side usn row at name) (stepped side usn row at grave) (from name) (from grave)
    ≡ received_by side usn (at name) (at grave) (led_by side row from name) (led_by side row from grave)) [
      | true ↦ λ same. grave_step side usn row at from name graves apart is (same_of_tied grave (name_of row) same)
      | false ↦ λ not_same.
          ap (λ x. received_by side usn x (stepped side usn row at grave) (from name) (from grave)) (stepped_other side usn row at name apart ∙ ap (λ b. if b then None else at name) (not_its_grave row name graves is not_same))
          ∙ ap (λ g. received_by side usn (at name) g (from name) (from grave)) (grave_kept side usn row at name graves is not_same)
          ∙ sym (ap (λ y. received_by side usn (at name) (at grave) y (led_by side row from grave)) (led_other side row from name apart) ∙ ap (λ h. received_by side usn (at name) (at grave) (from name) h) (led_other side row from grave not_same))
    ] refl

one_step : (side : Side) (usn : ℤ) (row : Row) (at from : RowsByName) (name : Name) → IfSome (from (name_of row)) (λ other. name_of other ≡ name_of row)
    → received_under side usn (stepped side usn row at) from name ≡ received_under side usn at (led_by side row from) name
one_step side usn row at from name named =
    elim (is_name name (name_of row)) as (λ b. is_name name (name_of row) ≡ b → received_under side usn (stepped side usn row at) from name ≡ received_under side usn at (led_by side row from) name) [
      | true ↦ λ same. subst (λ (n : Name). received_under side usn (stepped side usn row at) from n ≡ received_under side usn at (led_by side row from) n) (sym (same_of_tied name (name_of row) same)) (own_step side usn row at from named)
      | false ↦ λ apart. other_step side usn row at from name (graves_of name.table) apart refl
    ] refl

-- ---- a list of rows
nothing_came : (side : Side) (usn : ℤ) (x g : Option Row) → x ≡ received_by side usn x g None None
nothing_came side usn x (Some g) = refl
nothing_came side usn None None = refl
nothing_came side usn (Some x) None = refl

no_grave_came : (side : Side) (name : Name) (graves : Option Table) → None ≡ grave_in (newest_in side []) name graves
no_grave_came side name None = refl
no_grave_came side name (Some graves) = refl

-- what stands under a name once rows were taken, in whatever order they came
pub all_taken_at : (side : Side) (usn : ℤ) (came : List Row) (held : Rows) (name : Name) → get (all_taken side usn came held) name ≡ received_under side usn (get held) (newest_in side came) name
all_taken_at side usn [] held name = nothing_came side usn (get held name) (grave_under (get held) name) ∙ ap (received_by side usn (get held name) (grave_under (get held) name) None) (no_grave_came side name (graves_of name.table))
all_taken_at side usn (row ∷ more) held name =
    all_taken_at side usn more (taken side usn row held) name
    ∙ ap (λ (at : RowsByName). received_under side usn at (newest_in side more) name) (fun_ext (taken_at side usn row held))
    ∙ one_step side usn row (get held) (newest_in side more) name (newest_named side more (name_of row))

-- ---- what a list has of a name
some_stronger : (side : Side) (x y : Option Row) → is_some y ≡ true → is_some (stronger side x y) ≡ true
some_stronger side None y some = ap is_some (stronger_none side y) ∙ some
some_stronger side (Some x) None some = refl
some_stronger side (Some x) (Some y) some = elim (beats side (stamp_of x) y) as (λ s. is_some (if s then Some y else Some x) ≡ true) [ true ↦ refl | false ↦ refl ]

first_stronger : (side : Side) (row : Row) (y : Option Row) → is_some (stronger side (Some row) y) ≡ true
first_stronger side row None = refl
first_stronger side row (Some y) = some_stronger side (Some row) (Some y) refl

has_at : (side : Side) (came : List Row) (row : Row) (k : ℕ) → k < length came → slice_index_or came k row ≡ row → is_some (newest_in side came (name_of row)) ≡ true
has_at side [] row k within is = absurd (omega arith)
has_at side (first ∷ more) row zero within is = ap (λ (r : Row). is_some (newest_in side (first ∷ more) (name_of r))) (sym is) ∙ ap is_some (led_own side first (newest_in side more)) ∙ first_stronger side first (newest_in side more (name_of first))
has_at side (first ∷ more) row (suc k) within is = some_stronger side (if is_name (name_of row) (name_of first) then Some first else None) (newest_in side more (name_of row)) (has_at side more row k (omega arith) is)

-- a list has something of the name of each of its rows
pub has_newest : (side : Side) (came : List Row) (row : Row) → Contains came row → is_some (newest_in side came (name_of row)) ≡ true
has_newest side came row contains = has_at side came row contains.0 contains.1 contains.2

-- the rows that stand somewhere, listed, are what stands there
pub newest_listed : (side : Side) (came : List Row) (from : RowsByName) (name : Name) → IsListOf came from → AreNamed from → newest_in side came name ≡ from name
newest_listed side came from name listed named =
    elim (newest_in side came name) as (λ o. newest_in side came name ≡ o → o ≡ from name) [
      | None ↦ λ none. elim (from name) as (λ y. from name ≡ y → None ≡ y) [
        | None ↦ λ is. refl
        | Some y ↦ λ is.
            let some : is_some (newest_in side came (name_of y)) ≡ true = has_newest side came y (listed.whole name y is) in
            let bears : name_of y ≡ name = named name y is in
            let wrong : is_some (newest_in side came name) ≡ true = ap (λ (n : Name). is_some (newest_in side came n)) (sym bears) ∙ some in
            grind (arith, none, wrong)
      ] refl
      | Some y ↦ λ is.
          let stands = subst (λ (o : Option Row). IfSome o (λ (row : Row). (from (name_of row) ≡ Some row) × (name_of row ≡ name))) is
          (each_newest side (λ (row : Row). from (name_of row) ≡ Some row) came name (recursion_from_All (λ (row : Row). from (name_of row) ≡ Some row) came listed.each)) in
          sym (ap from (sym stands.1) ∙ stands.0)
    ] refl

pub listed_newest : (side : Side) (came : List Row) (from : RowsByName) → IsListOf came from → AreNamed from → newest_in side came ≡ from
listed_newest side came from listed named = fun_ext (λ name. newest_listed side came from name listed named)

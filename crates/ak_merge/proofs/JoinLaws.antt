-- The join's two laws: which side comes first makes no difference, and joining once is enough.
use Rattle.ak_keep.specs.Collections.{Collection}
use Rattle.ak_base.specs.Tables.{graves_of}
use Rattle.std.specs.Prelude.{◌≡◌, ◌≢◌, Bool, true, false, ◌||◌, ◌<ℤ◌, ◌≤ℤ◌, int_lt, if◌then◌else◌, IsTrue, Option, Some, None, is_some}
use Rattle.std.proofs.Common.{refl, sym, ap, ◌∙◌, arith}
use Rattle.std.proofs.lemmas.Int.{ints}
use Rattle.std.specs.Option.{option_and_then}
use Rattle.ak_base.specs.Contents.{same_content}
use Rattle.ak_base.specs.Rows.{stamp_of}
use Rattle.ak_base.specs.declared.heads.Head.{Head}
use Rattle.ak_base.specs.declared.names.Name.{Name}
use Rattle.ak_base.specs.declared.names.Table.{Table}
use Rattle.ak_base.specs.declared.names.Table.TheVariants as tables
use Rattle.ak_base.specs.declared.rows.Row.{Row}
use Rattle.ak_keep.specs.Graves.{RowsByName, is_dead}
use Rattle.ak_merge.specs.Holdings.{row_under, has_tag, content_of, same_held, SameContent}
use Rattle.ak_merge.specs.Joins.{AreApart, newest, joined_under, newest_head, join}
use Rattle.ak_base.proofs.RowFacts.{same-itself, same-turned}
use Rattle.ak_base.proofs.SameRows.{like_stamp}
use Rattle.ak_merge.proofs.HeldFacts.{held-alike, held-itself, held-turned}

or-turned : (s t : Bool) → (s || t) ≡ (t || s)
or-turned true true = refl
or-turned true false = refl
or-turned false true = refl
or-turned false false = refl

-- ---- the join commutes
-- of two rows each is the newest whichever comes first, but for equal stamps
newest_rows : (x y : Row) → (stamp_of x ≡ stamp_of y → IsTrue (same_content x y)) → IsTrue (same_held (newest (Some x) (Some y)) (newest (Some y) (Some x)))
newest_rows x y apart =
    elim (int_lt (stamp_of y) (stamp_of x)) as (λ s. int_lt (stamp_of y) (stamp_of x) ≡ s → IsTrue (same_held (if s then Some x else Some y) (newest (Some y) (Some x)))) [
      | true ↦ λ less.
          let not_more : int_lt (stamp_of x) (stamp_of y) ≡ false = grind (arith, ints, less) in
          rw not_more (same-itself x)
      | false ↦ λ less.
          elim (int_lt (stamp_of x) (stamp_of y)) as (λ t. int_lt (stamp_of x) (stamp_of y) ≡ t → IsTrue (same_held (Some y) (if t then Some y else Some x))) [
            | true ↦ λ more. same-itself y
            | false ↦ λ more. same-turned x y (apart (omega (arith, ints, less, more)))
          ] refl
    ] refl

newest_commutes : (x y : Option Row) → ((p q : Row) → x ≡ Some p → y ≡ Some q → stamp_of p ≡ stamp_of q → IsTrue (same_content p q))
    → IsTrue (same_held (newest x y) (newest y x))
newest_commutes None None apart = refl
newest_commutes None (Some y) apart = same-itself y
newest_commutes (Some x) None apart = same-itself x
newest_commutes (Some x) (Some y) apart = newest_rows x y (apart x y refl refl)

unless_dead : (s t : Bool) (x y : Option Row) → s ≡ t → IsTrue (same_held x y) → IsTrue (same_held (if s then None else x) (if t then None else y))
unless_dead true t x y is same = rw (← is) refl
unless_dead false t x y is same = rw (← is) same

pub rows_commute : (a b : RowsByName) (name : Name) → AreApart a b → IsTrue (same_held (joined_under a b name) (joined_under b a name))
rows_commute a b name apart =
    unless_dead (is_dead a name || is_dead b name) (is_dead b name || is_dead a name) _ _ (or-turned (is_dead a name) (is_dead b name)) (newest_commutes (a name) (b name) (apart name))

heads_commute : (a b : Head) → a.moment ≢ b.moment → newest_head a b ≡ newest_head b a
heads_commute a b differ =
    elim (int_lt b.moment a.moment) as (λ s. int_lt b.moment a.moment ≡ s → (if s then a else b) ≡ newest_head b a) [
      | true ↦ λ less. let not_more : int_lt a.moment b.moment ≡ false = grind (arith, ints, less) in rw not_more refl
      | false ↦ λ less.
          elim (int_lt a.moment b.moment) as (λ t. int_lt a.moment b.moment ≡ t → b ≡ (if t then b else a)) [
            | true ↦ λ more. refl
            | false ↦ λ more. absurd (differ (omega (arith, ints, less, more)))
          ] refl
    ] refl

pub join_commutes : (a b : Collection) → AreApart (row_under a) (row_under b) → a.head.moment ≢ b.head.moment → SameContent (join a b) (join b a)
join_commutes a b apart differ = record {
  rows = λ name. rows_commute (row_under a) (row_under b) name apart;
  tags = λ name. or-turned (has_tag a.head.tags name) (has_tag b.head.tags name);
  conf = ap (λ (head : Head). head.conf) (heads_commute a.head b.head differ);
  crt = ap (λ (head : Head). head.crt) (heads_commute a.head b.head differ);
}

-- ---- the join happens once
newest_held : (x y : Option Row) → is_some (newest x y) ≡ (is_some x || is_some y)
newest_held None None = refl
newest_held None (Some y) = refl
newest_held (Some x) None = refl
newest_held (Some x) (Some y) = elim (int_lt (stamp_of y) (stamp_of x)) as (λ s. is_some (if s then Some x else Some y) ≡ true) [ true ↦ refl | false ↦ refl ]

-- graves leave no graves
pub no_graves : (table graves : Table) → graves_of table ≡ Some graves → graves_of graves ≡ None
no_graves tables.Note graves is = sym (ap (λ o. option_and_then graves_of o) is)
no_graves tables.Card graves is = sym (ap (λ o. option_and_then graves_of o) is)
no_graves tables.Deck graves is = sym (ap (λ o. option_and_then graves_of o) is)
no_graves tables.Review graves is = grind (arith, is)
no_graves tables.NoteType graves is = grind (arith, is)
no_graves tables.Options graves is = grind (arith, is)
no_graves tables.NoteGrave graves is = grind (arith, is)
no_graves tables.CardGrave graves is = grind (arith, is)
no_graves tables.DeckGrave graves is = grind (arith, is)

-- a name of a grave is dead nowhere
pub undead : (at : RowsByName) (name : Name) (graves : Table) → graves_of name.table ≡ Some graves → is_dead at (record { table = graves; id = name.id }) ≡ false
undead at name graves is = ap (λ o. is_some (option_and_then (λ (table : Table). at (record { table = table; id = name.id })) o)) (no_graves name.table graves is)

-- the join's graves are those of both
dead_join : (a b j : RowsByName) (name : Name) → ((name : Name) → IsTrue (same_held (j name) (joined_under a b name))) → is_dead j name ≡ (is_dead a name || is_dead b name)
dead_join a b j name joins =
    elim (graves_of name.table) as (λ o. graves_of name.table ≡ o → is_some (option_and_then (λ (table : Table). j (record { table = table; id = name.id })) o)
    ≡ (is_some (option_and_then (λ (table : Table). a (record { table = table; id = name.id })) o) || is_some (option_and_then (λ (table : Table). b (record { table = table; id = name.id })) o))) [
      | None ↦ λ is. refl
      | Some graves ↦ λ is.
          let grave : Name = record { table = graves; id = name.id } in
          held-alike _ _ (joins grave) ∙ ap (λ s. is_some (if s || is_dead b grave then None else newest (a grave) (b grave))) (undead a name graves is)
          ∙ ap (λ s. is_some (if s then None else newest (a grave) (b grave))) (undead b name graves is) ∙ newest_held (a grave) (b grave)
    ] refl

-- the newest of a row and of the newest of it and another is as that
newest_once : (x y z : Option Row) → IsTrue (same_held z (newest x y)) → IsTrue (same_held (newest x z) z)
newest_once None y z same = held-itself z
newest_once (Some x) None None same = grind (arith, same)
newest_once (Some x) None (Some z) same =
    let one_stamp = like_stamp z x same in
    let not_more : int_lt (stamp_of z) (stamp_of x) ≡ false = grind (arith, ints, one_stamp) in
    rw not_more (same-itself z)
newest_once (Some x) (Some y) None same =
    elim (int_lt (stamp_of y) (stamp_of x)) as (λ s. IsTrue (same_held None (if s then Some x else Some y)) → IsTrue (same_held (Some x) None)) [ true ↦ λ h. h | false ↦ λ h. h ] same
newest_once (Some x) (Some y) (Some z) same =
    let one_stamp : int_lt (stamp_of z) (stamp_of x) ≡ false = of_newest same in
    rw one_stamp (same-itself z)
  where
    -- a row like the newest of x and y is not older than x
    of_newest : IsTrue (same_held (Some z) (newest (Some x) (Some y))) → int_lt (stamp_of z) (stamp_of x) ≡ false
    of_newest =
        elim (int_lt (stamp_of y) (stamp_of x)) as (λ s. int_lt (stamp_of y) (stamp_of x) ≡ s → IsTrue (same_held (Some z) (if s then Some x else Some y)) → int_lt (stamp_of z) (stamp_of x) ≡ false) [
          | true ↦ λ less same. let one_stamp = like_stamp z x same in grind (arith, ints, one_stamp)
          | false ↦ λ less same. let one_stamp = like_stamp z y same in grind (arith, ints, less, one_stamp)
        ] refl

once_at : (d e : Bool) (x y z : Option Row) → IsTrue (same_held z (if d || e then None else newest x y))
    → IsTrue (same_held (if d || (d || e) then None else newest x z) z)
once_at true e x y z same = held-turned z None same
once_at false true x y z same = held-turned z None same
once_at false false x y z same = newest_once x y z same

pub rows_once : (a b j : RowsByName) (name : Name) → ((name : Name) → IsTrue (same_held (j name) (joined_under a b name))) → IsTrue (same_held (joined_under a j name) (j name))
rows_once a b j name joins =
    rw (dead_join a b j name joins) (once_at (is_dead a name) (is_dead b name) (a name) (b name) (j name) (joins name))

or-once : (s t u : Bool) → u ≡ (s || t) → (s || u) ≡ u
or-once true t u is = sym is
or-once false t u is = refl

pub join_once : (a b j : Collection) → SameContent (content_of j) (join a b) → a.head.moment <ℤ j.head.moment → SameContent (join a j) (content_of j)
join_once a b j joins later =
    let is_later : int_lt j.head.moment a.head.moment ≡ false = grind (arith, ints, later) in
    let head : newest_head a.head j.head ≡ j.head = rw is_later refl in
    record {
      rows = λ name. rows_once (row_under a) (row_under b) (row_under j) name joins.rows;
      tags = λ name. or-once (has_tag a.head.tags name) (has_tag b.head.tags name) (has_tag j.head.tags name) (joins.tags name);
      conf = ap (λ (head : Head). head.conf) head;
      crt = ap (λ (head : Head). head.crt) head;
    }

-- ---- settings
first_head : (a b : Head) → b.moment <ℤ a.moment → newest_head a b ≡ a
first_head a b later = let is : int_lt b.moment a.moment ≡ true = grind (arith, ints, later) in rw is refl

second_head : (a b : Head) → a.moment ≤ℤ b.moment → newest_head a b ≡ b
second_head a b later = let is : int_lt b.moment a.moment ≡ false = grind (arith, ints, later) in rw is refl

pub first_settings_stand : (a b : Collection) → b.head.moment <ℤ a.head.moment → ((join a b).conf ≡ a.head.conf) × ((join a b).crt ≡ a.head.crt)
first_settings_stand a b later = (ap (λ (head : Head). head.conf) (first_head a.head b.head later), ap (λ (head : Head). head.crt) (first_head a.head b.head later))

pub second_settings_stand : (a b : Collection) → a.head.moment ≤ℤ b.head.moment → ((join a b).conf ≡ b.head.conf) × ((join a b).crt ≡ b.head.crt)
second_settings_stand a b later = (ap (λ (head : Head). head.conf) (second_head a.head b.head later), ap (λ (head : Head). head.crt) (second_head a.head b.head later))

-- The hits of searches that are made of others, as sets of ids.
use Rattle.std.proofs.Common.{◌≡◌, true, false, ◌&&◌, ◌||◌, cond, not, Bool, ℤ, pos, int_lt, List, [], ◌∷◌, map, filter, refl, ap, sym, ◌∙◌, arith, append-nil}
use Rattle.std.proofs.lemmas.Int.{ints}
use Rattle.std.specs.Ordering.{int_eq, is_eq}
use Rattle.std.specs.declared.cmp.Ordering.TheVariants.{Less, Equal, Greater}
use Rattle.std.specs.Cmp.{second_so}
use Rattle.ak_base.specs.Rows.{name_of}
use Rattle.ak_base.specs.declared.days.Day.{Day}
use Rattle.ak_base.specs.declared.names.Table.TheVariants as tables
use Rattle.ak_base.specs.declared.rows.Row.{Row}
use Rattle.ak_base.specs.declared.rows.Row.TheVariants as rows
use Rattle.ak_keep.specs.Collections.{Rows, StandsUnderNames, AscendsPast, rows_past}
use Rattle.ak_keep.proofs.Paging.{rows_past-ascend}
use Rattle.ak_search.specs.Holds.{is_listed, holds, is_hit, is_card, hits, cards, asked_by}
use Rattle.ak_search.specs.CardFacts.{seen}
use Rattle.ak_search.specs.Meanings.{followed, has_no_or}
use Rattle.ak_search.specs.declared.terms.Term.{Term}
use Rattle.ak_search.specs.Trees.{Tree, End, Asks, Group, Either}
use Rattle.ak_search.proofs.Walking.{either_meets, both_meet, none_meets}

-- whether the id is that of a row that passes
abbrev picks : (Row → Bool) → ℤ → List Row → Bool
picks p id rs = is_listed id (map (λ (row : Row). (name_of row).id) (filter p rs))

apart : (past id other : ℤ) → int_lt past id ≡ false → int_lt past other ≡ true → (int_eq other id ≡ false) × (int_lt other id ≡ false)
apart past id other h g =
    let not_below : int_lt other id ≡ false = grind (arith, ints) in
    let above : int_lt id other ≡ true = grind (arith, ints) in
    (ap (λ v. is_eq (cond v Less (cond (int_lt id other) Greater Equal))) not_below ∙ ap (λ v. is_eq (cond v Greater Equal)) above, not_below)

first_apart : (p : Row → Bool) (id : ℤ) (row : Row) (rest : List Row) → int_eq (name_of row).id id ≡ false → picks p id (row ∷ rest) ≡ picks p id rest
first_apart p id row rest h =
    elim (p row) as (λ b. is_listed id (map (λ (r : Row). (name_of r).id) (cond b (row ∷ filter p rest) (filter p rest))) ≡ picks p id rest) [
      | true ↦ ap (λ v. v || picks p id rest) h
      | false ↦ refl
    ]

first_picked : (p : Row → Bool) (id : ℤ) (row : Row) (rest : List Row) → int_eq (name_of row).id id ≡ true → picks p id rest ≡ false → picks p id (row ∷ rest) ≡ p row
first_picked p id row rest h none =
    elim (p row) as (λ b. is_listed id (map (λ (r : Row). (name_of r).id) (cond b (row ∷ filter p rest) (filter p rest))) ≡ b) [
      | true ↦ ap (λ v. v || picks p id rest) h
      | false ↦ none
    ]

-- rows that ascend from over the id do not have it
none_over : (p : Row → Bool) (past id : ℤ) (rs : List Row) → int_lt past id ≡ false → AscendsPast tables.Card past rs → picks p id rs ≡ false
none_over p past id [] h a = refl
none_over p past id (row ∷ rest) h a =
    let over : int_lt past (name_of row).id ≡ true = second_so _ _ a.0 in
    let both = apart past id (name_of row).id h over in
    first_apart p id row rest both.0 ∙ none_over p (name_of row).id id rest both.1 a.1

itself : (one other : ℤ) → int_eq one other ≡ true → int_lt one other ≡ false
itself one other h =
    elim (int_lt one other) as (λ v. is_eq (cond v Less (cond (int_lt other one) Greater Equal)) ≡ true → v ≡ false) [ true ↦ λ e. sym e | false ↦ λ e. refl ] h

-- of rows with ids of their own, what holds of each holds of its id
picks_as : (p q r : Row → Bool) (op : Bool → Bool → Bool) → op false false ≡ false → ((row : Row) → r row ≡ op (p row) (q row))
    → (past id : ℤ) (rs : List Row) → AscendsPast tables.Card past rs → picks r id rs ≡ op (picks p id rs) (picks q id rs)
picks_as p q r op none each past id [] a = sym none
picks_as p q r op none each past id (row ∷ rest) a =
    elim (int_eq (name_of row).id id) as (λ b. int_eq (name_of row).id id ≡ b → picks r id (row ∷ rest) ≡ op (picks p id (row ∷ rest)) (picks q id (row ∷ rest))) [
      | true ↦ λ e.
          let later : int_lt (name_of row).id id ≡ false = itself (name_of row).id id e in
          first_picked r id row rest e (none_over r (name_of row).id id rest later a.1)
          ∙ each row
          ∙ ap (λ v. op v (q row)) (sym (first_picked p id row rest e (none_over p (name_of row).id id rest later a.1)))
          ∙ ap (λ v. op (picks p id (row ∷ rest)) v) (sym (first_picked q id row rest e (none_over q (name_of row).id id rest later a.1)))
      | false ↦ λ e.
          first_apart r id row rest e
          ∙ picks_as p q r op none each (name_of row).id id rest a.1
          ∙ ap (λ v. op v (picks q id rest)) (sym (first_apart p id row rest e))
          ∙ ap (λ v. op (picks p id (row ∷ rest)) v) (sym (first_apart q id row rest e))
    ] refl

ascending : (held : Rows) → StandsUnderNames held → AscendsPast tables.Card (pos 0) (rows_past tables.Card (pos 0) held)
ascending held named = rows_past-ascend tables.Card (pos 0) held (rows_past tables.Card (pos 0) held) [] named (sym (append-nil (rows_past tables.Card (pos 0) held)))

each_either : (held : Rows) (day : Day) (one other : Tree) (row : Row) → is_hit (asked_by (followed one (Either other))) held day row ≡ (is_hit (asked_by one) held day row || is_hit (asked_by other) held day row)
each_either held day one other (rows.Note n) = refl
each_either held day one other (rows.Card c) = either_meets (holds day (seen held c)) one other
each_either held day one other (rows.Review r) = refl
each_either held day one other (rows.NoteType t) = refl
each_either held day one other (rows.Deck d) = refl
each_either held day one other (rows.Options o) = refl
each_either held day one other (rows.Grave g) = refl

each_both : (held : Rows) (day : Day) (one other : Tree) → has_no_or one ≡ true → has_no_or other ≡ true → (row : Row) → is_hit (asked_by (followed one other)) held day row ≡ (is_hit (asked_by one) held day row && is_hit (asked_by other) held day row)
each_both held day one other h g (rows.Note n) = refl
each_both held day one other h g (rows.Card c) = both_meet (holds day (seen held c)) one other h g
each_both held day one other h g (rows.Review r) = refl
each_both held day one other h g (rows.NoteType t) = refl
each_both held day one other h g (rows.Deck d) = refl
each_both held day one other h g (rows.Options o) = refl
each_both held day one other h g (rows.Grave g') = refl

each_other : (held : Rows) (day : Day) (tree : Tree) (row : Row) → is_hit (asked_by (Group true tree End)) held day row ≡ (is_card row && not (is_hit (asked_by tree) held day row))
each_other held day tree (rows.Note n) = refl
each_other held day tree (rows.Card c) = none_meets (holds day (seen held c)) tree
each_other held day tree (rows.Review r) = refl
each_other held day tree (rows.NoteType t) = refl
each_other held day tree (rows.Deck d) = refl
each_other held day tree (rows.Options o) = refl
each_other held day tree (rows.Grave g) = refl

each_card : (held : Rows) (day : Day) (row : Row) → is_hit (asked_by End) held day row ≡ is_card row
each_card held day (rows.Note n) = refl
each_card held day (rows.Card c) = refl
each_card held day (rows.Review r) = refl
each_card held day (rows.NoteType t) = refl
each_card held day (rows.Deck d) = refl
each_card held day (rows.Options o) = refl
each_card held day (rows.Grave g) = refl

pub all_hit : (held : Rows) (day : Day) → hits held day End ≡ cards held
all_hit held day = ap (λ (p : Row → Bool). map (λ (row : Row). (name_of row).id) (filter p (rows_past tables.Card (pos 0) held))) (λ i row. each_card held day row i)

-- `a or b`, `a b` and `-a`
pub either_hits : (held : Rows) (day : Day) (one other : Tree) (id : ℤ) → StandsUnderNames held → is_listed id (hits held day (followed one (Either other))) ≡ (is_listed id (hits held day one) || is_listed id (hits held day other))
either_hits held day one other id named =
    picks_as (is_hit (asked_by one) held day) (is_hit (asked_by other) held day) (is_hit (asked_by (followed one (Either other))) held day) (λ v w. v || w) refl (each_either held day one other) (pos 0) id (rows_past tables.Card (pos 0) held) (ascending held named)

pub both_hit : (held : Rows) (day : Day) (one other : Tree) (id : ℤ) → StandsUnderNames held → has_no_or one ≡ true → has_no_or other ≡ true → is_listed id (hits held day (followed one other)) ≡ (is_listed id (hits held day one) && is_listed id (hits held day other))
both_hit held day one other id named h g =
    picks_as (is_hit (asked_by one) held day) (is_hit (asked_by other) held day) (is_hit (asked_by (followed one other)) held day) (λ v w. v && w) refl (each_both held day one other h g) (pos 0) id (rows_past tables.Card (pos 0) held) (ascending held named)

pub other_hits : (held : Rows) (day : Day) (tree : Tree) (id : ℤ) → StandsUnderNames held → is_listed id (hits held day (Group true tree End)) ≡ (is_listed id (cards held) && not (is_listed id (hits held day tree)))
other_hits held day tree id named =
    picks_as is_card (is_hit (asked_by tree) held day) (is_hit (asked_by (Group true tree End)) held day) (λ v w. v && not w) refl (each_other held day tree) (pos 0) id (rows_past tables.Card (pos 0) held) (ascending held named)

-- a term without parentheses
not_alone : (h : Bool) → ((not h && true) || false) ≡ not ((h && true) || false)
not_alone true = refl
not_alone false = refl

each_without : (held : Rows) (day : Day) (term : Term) (row : Row) → is_hit (asked_by (Asks true term End)) held day row ≡ (is_card row && not (is_hit (asked_by (Asks false term End)) held day row))
each_without held day term (rows.Note n) = refl
each_without held day term (rows.Card c) = not_alone (holds day (seen held c) term)
each_without held day term (rows.Review r) = refl
each_without held day term (rows.NoteType t) = refl
each_without held day term (rows.Deck d) = refl
each_without held day term (rows.Options o) = refl
each_without held day term (rows.Grave g) = refl

pub other_term : (held : Rows) (day : Day) (term : Term) (id : ℤ) → StandsUnderNames held → is_listed id (hits held day (Asks true term End)) ≡ (is_listed id (cards held) && not (is_listed id (hits held day (Asks false term End))))
other_term held day term id named =
    picks_as is_card (is_hit (asked_by (Asks false term End)) held day) (is_hit (asked_by (Asks true term End)) held day) (λ v w. v && not w) refl (each_without held day term) (pos 0) id (rows_past tables.Card (pos 0) held) (ascending held named)

-- Reviews before an id make no answers from it on.
use Rattle.std.specs.Prelude.{◌≡◌, ◌==◌, ℤ, pos, ◌<ℤ◌, ◌≤ℤ◌, ◌⊎◌, int_lt, true, false, ◌&&◌, ◌||◌, cond, List, [], ◌∷◌, map, filter}
use Rattle.std.proofs.Common.{refl, sym, ap, ◌∙◌, arith, inl, inr}
use Rattle.std.proofs.lemmas.Int.{ints}
use Rattle.std.specs.Cmp.{first_so, second_so}
use Rattle.std.specs.FinMap.{entries}
use Rattle.std.specs.List.{AllByRecursion}
use Rattle.ak_base.specs.Names.{table_place}
use Rattle.ak_base.specs.Rows.{name_of}
use Rattle.ak_base.specs.declared.names.Name.{Name}
use Rattle.ak_base.specs.declared.names.Table.TheVariants as tables
use Rattle.ak_base.specs.declared.rows.Row.{Row}
use Rattle.ak_base.specs.declared.rows.Row.TheVariants as rows
use Rattle.ak_keep.specs.Collections.{Rows, StandsUnderNames, is_past, rows_past}
use Rattle.ak_search.specs.CardFacts.{is_answer, is_answer_in, is_answered}

-- the reviews past an id among entries
past_among : ℤ → List (Name × Row) → List Row
past_among past es = map (λ (entry : Name × Row). entry.1) (filter (λ (entry : Name × Row). is_past tables.Review past entry.0) es)

-- no review with an id that is not over `past`, which is before `least`, is an answer from `least` on
too_early : (past least card ease : ℤ) (row : Row) → past <ℤ least → int_lt past (name_of row).id ≡ false → is_answer card ease least row ≡ false
too_early past least card ease (rows.Note n) before early = refl
too_early past least card ease (rows.Card c) before early = refl
too_early past least card ease (rows.Review r) before early = grind (arith, ints, before, early)
too_early past least card ease (rows.NoteType t) before early = refl
too_early past least card ease (rows.Deck d) before early = refl
too_early past least card ease (rows.Options o) before early = refl
too_early past least card ease (rows.Grave g) before early = refl

over_too : (past id : ℤ) → pos 0 ≤ℤ past → int_lt past id ≡ true → int_lt (pos 0) id ≡ true
over_too past id low over = grind (arith, ints, low, over)

-- an entry of the table past 0
in_table : (past : ℤ) (name : Name) → is_past tables.Review (pos 0) name ≡ true → is_past tables.Review past name ≡ false → int_lt past name.id ≡ false
in_table past name inside outside = ap (λ b. b && int_lt past name.id) (sym (first_so (table_place name.table == table_place tables.Review) (int_lt (pos 0) name.id) inside)) ∙ outside

past_too : (past : ℤ) (name : Name) → pos 0 ≤ℤ past → is_past tables.Review past name ≡ true → is_past tables.Review (pos 0) name ≡ true
past_too past name low inside =
    let own = first_so (table_place name.table == table_place tables.Review) (int_lt past name.id) inside in
    let over = second_so (table_place name.table == table_place tables.Review) (int_lt past name.id) inside in
    ap (λ b. b && int_lt (pos 0) name.id) own ∙ over_too past name.id low over

skipped : (past least card ease : ℤ) (es : List (Name × Row)) → pos 0 ≤ℤ past → past <ℤ least → AllByRecursion (λ entry. name_of entry.1 ≡ entry.0) es
    → is_answer_in card ease least (past_among past es) ≡ is_answer_in card ease least (past_among (pos 0) es)
unfolding past_among
skipped past least card ease [] low before named = refl
skipped past least card ease (e ∷ es) low before named =
    let rest = skipped past least card ease es low before named.1 in
    let more = filter (λ (entry : Name × Row). is_past tables.Review past entry.0) es in
    let all = filter (λ (entry : Name × Row). is_past tables.Review (pos 0) entry.0) es in
    elim (is_past tables.Review past e.0) as (λ b. is_past tables.Review past e.0 ≡ b
    → is_answer_in card ease least (map (λ (entry : Name × Row). entry.1) (cond b (e ∷ more) more)) ≡ is_answer_in card ease least (past_among (pos 0) (e ∷ es))) [
      | true ↦ λ inside.
          ap (λ v. is_answer card ease least e.1 || v) rest
          ∙ sym (ap (λ b. is_answer_in card ease least (map (λ (entry : Name × Row). entry.1) (cond b (e ∷ all) all))) (past_too past e.0 low inside))
      | false ↦ λ outside.
          elim (is_past tables.Review (pos 0) e.0) as (λ b. is_past tables.Review (pos 0) e.0 ≡ b
          → is_answer_in card ease least (past_among past es) ≡ is_answer_in card ease least (map (λ (entry : Name × Row). entry.1) (cond b (e ∷ all) all))) [
            | true ↦ λ inside.
                let early : int_lt past (name_of e.1).id ≡ false = ap (λ (n : Name). int_lt past n.id) named.0 ∙ in_table past e.0 inside outside in
                rest ∙ sym (ap (λ v. v || is_answer_in card ease least (past_among (pos 0) es)) (too_early past least card ease e.1 before early))
            | false ↦ λ _. rest
          ] refl
    ] refl

-- all that may be an answer from an id on is past an id before it
pub later_answers : (id past card ease least : ℤ) (held : Rows) → pos 0 ≤ℤ past → (past ≡ pos 0) ⊎ (past <ℤ id) → int_lt least id ≡ false → StandsUnderNames held
    → is_answer_in card ease least (rows_past tables.Review past held) ≡ is_answered held card ease least
unfolding past_among
later_answers id past card ease least held low before later named =
    elim before [
      | inl first ↦ ap (λ p. is_answer_in card ease least (rows_past tables.Review p held)) first
      | inr below ↦ let less : past <ℤ least = grind (arith, ints, below, later) in skipped past least card ease (entries held) low less named
    ]

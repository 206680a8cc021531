-- Which names the cards of a note have.
use Rattle.std.specs.Prelude.{◌≡◌, ℤ, Bool, true, false, ◌||◌, cond, filter, map, List, [], ◌∷◌, Option, Some, None}
use Rattle.std.proofs.Common.{refl, sym, ap, ◌∙◌}
use Rattle.std.proofs.lemmas.Option.{none-some, same_Some}
use Rattle.std.specs.FinMap.{entries, find, get, get-entries}
use Rattle.std.specs.List.{AllByRecursion, list_any}
use Rattle.std.specs.Option.{option_map_or}
use Rattle.std.specs.Ordering.{eq_by_cmp}
use Rattle.ak_base.specs.Names.{name_cmp}
use Rattle.ak_base.specs.Rows.{name_of}
use Rattle.ak_base.specs.declared.names.Name.{Name}
use Rattle.ak_base.specs.declared.names.Table.TheVariants as tables
use Rattle.ak_base.specs.declared.rows.Row.{Row}
use Rattle.ak_base.specs.declared.rows.Row.TheVariants as rows
use Rattle.ak_keep.proofs.RowsByName.{all_from_gets, entries_found, same_of_tied}
use Rattle.ak_keep.specs.Collections.{Rows, cards_among, cards_of, is_card_of}
use Rattle.ak_merge.proofs.EditFacts.{false_true}
use Rattle.ak_merge.specs.Holdings.{AreNamed, name_in}

-- whether it is the name of one of these cards
abbrev pub names_card : List ℤ → Name → Bool
names_card cards name = list_any (λ (card : ℤ). eq_by_cmp name_cmp name (name_in tables.Card card)) cards

-- an entry under the name of its row
abbrev IsNamed : Name × Row → Type 0
IsNamed entry = name_of entry.1 ≡ entry.0

-- a card of a note stands under a card's name
card_name : (note : ℤ) (row : Row) (name : Name) → name_of row ≡ name → is_card_of note row ≡ true → name ≡ name_in tables.Card name.id
card_name note (rows.Card card) name named is = sym named ∙ ap (λ (n : Name). name_in tables.Card n.id) named
card_name note (rows.Note n) name named is = false_true is
card_name note (rows.Review r) name named is = false_true is
card_name note (rows.NoteType t) name named is = false_true is
card_name note (rows.Deck d) name named is = false_true is
card_name note (rows.Options o) name named is = false_true is
card_name note (rows.Grave g) name named is = false_true is

-- what has the name of one of a note's cards is a card of the note
among_found : (note : ℤ) (at : Name → Option Row) (q : Name) (es : List (Name × Row)) → AllByRecursion (λ e. at e.0 ≡ Some e.1) es → AllByRecursion IsNamed es
    → names_card (cards_among note es) q ≡ true → option_map_or (is_card_of note) (at q) false ≡ true
among_found note at q [] found named is = false_true is
among_found note at q (e ∷ es) found named is =
    elim (is_card_of note e.1) as (λ b. is_card_of note e.1 ≡ b → names_card (map (λ (x : Name × Row). x.0.id) (cond b (e ∷ filter (λ (x : Name × Row). is_card_of note x.1) es) (filter (λ (x : Name × Row). is_card_of note x.1) es))) q ≡ true
    → option_map_or (is_card_of note) (at q) false ≡ true) [
      | true ↦ λ card. elim (eq_by_cmp name_cmp q (name_in tables.Card e.0.id)) as (λ b. eq_by_cmp name_cmp q (name_in tables.Card e.0.id) ≡ b → (b || names_card (cards_among note es) q) ≡ true
          → option_map_or (is_card_of note) (at q) false ≡ true) [
            | true ↦ λ same _.
                let this : q ≡ e.0 = same_of_tied q (name_in tables.Card e.0.id) same ∙ sym (card_name note e.1 e.0 named.0 card) in
                ap (λ (x : Option Row). option_map_or (is_card_of note) x false) (ap at this ∙ found.0) ∙ card
            | false ↦ λ _ rest. among_found note at q es found.1 named.1 rest
          ] refl
      | false ↦ λ _ rest. among_found note at q es found.1 named.1 rest
    ] refl is

-- a card of the note that is found under a name has the name of one of the note's cards
among_there : (note : ℤ) (q : Name) (row : Row) (es : List (Name × Row)) → AllByRecursion IsNamed es → find name_cmp q es ≡ Some row → is_card_of note row ≡ true → names_card (cards_among note es) q ≡ true
among_there note q row [] named is card = absurd (none-some row is)
among_there note q row (e ∷ es) named is card =
    elim (eq_by_cmp name_cmp q e.0) as (λ b. eq_by_cmp name_cmp q e.0 ≡ b → cond b (Some e.1) (find name_cmp q es) ≡ Some row → names_card (cards_among note (e ∷ es)) q ≡ true) [
      | true ↦ λ same this.
          let here : is_card_of note e.1 ≡ true = ap (is_card_of note) (same_Some e.1 row this) ∙ card in
          let tied : eq_by_cmp name_cmp q (name_in tables.Card e.0.id) ≡ true = ap (eq_by_cmp name_cmp q) (sym (card_name note e.1 e.0 named.0 here)) ∙ same in
          ap (λ b. names_card (map (λ (x : Name × Row). x.0.id) (cond b (e ∷ filter (λ (x : Name × Row). is_card_of note x.1) es) (filter (λ (x : Name × Row). is_card_of note x.1) es))) q) here
          ∙ ap (λ b. b || names_card (cards_among note es) q) tied
      | false ↦ λ _ rest.
          let others : names_card (cards_among note es) q ≡ true = among_there note q row es named.1 rest card in
          elim (is_card_of note e.1) as (λ b. names_card (map (λ (x : Name × Row). x.0.id) (cond b (e ∷ filter (λ (x : Name × Row). is_card_of note x.1) es) (filter (λ (x : Name × Row). is_card_of note x.1) es))) q ≡ true) [
            | true ↦ ap (λ b. eq_by_cmp name_cmp q (name_in tables.Card e.0.id) || b) others ∙ elim (eq_by_cmp name_cmp q (name_in tables.Card e.0.id)) as (λ b. (b || true) ≡ true) [ true ↦ refl | false ↦ refl ]
            | false ↦ others
          ]
    ] refl is

same_bools : (a b : Bool) → (a ≡ true → b ≡ true) → (b ≡ true → a ≡ true) → a ≡ b
same_bools true b one other = sym (one refl)
same_bools false true one other = other refl
same_bools false false one other = refl

-- a name is that of one of a note's cards exactly if a card of the note is held there
pub names_card_is : (note : ℤ) (held : Rows) (q : Name) → AreNamed (get held) → names_card (cards_of note held) q ≡ option_map_or (is_card_of note) (get held q) false
names_card_is note held q named =
    let all : AllByRecursion IsNamed (entries held) = all_from_gets IsNamed held (λ name row is. named name row is) in
    same_bools (names_card (cards_of note held) q) (option_map_or (is_card_of note) (get held q) false)
    (among_found note (get held) q (entries held) (entries_found held) all)
    (elim (get held q) as (λ (x : Option Row). get held q ≡ x → option_map_or (is_card_of note) x false ≡ true → names_card (cards_of note held) q ≡ true) [
      | None ↦ λ _ is. false_true is
      | Some row ↦ λ there card. among_there note q row (entries held) all (sym (get-entries held q) ∙ there) card
    ] refl)

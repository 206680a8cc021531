-- What the answers show, review by review, and when they serve a search.
use Rattle.std.proofs.Common.{◌≡◌, true, false, ◌&&◌, ◌||◌, cond, Bool, ℤ, pos, int_lt, Option, Some, List, [], ◌∷◌, ◌++◌, refl, ap, sym, ◌∙◌, arith}
use Rattle.std.proofs.lemmas.Int.{ints}
use Rattle.std.specs.BTreeMap.{get}
use Rattle.std.specs.Cmp.{signed_Decides, tied_then}
use Rattle.std.specs.List.{list_any}
use Rattle.std.specs.Ordering.{int_cmp, int_eq, is_eq}
use Rattle.std.proofs.lemmas.Bool.{and_parts, or_parts}
use Rattle.std.proofs.Math.Bool.{or_assoc, or-false}
use Rattle.ak_base.specs.declared.cards.Card.{Card}
use Rattle.ak_base.specs.declared.days.Day.{Day}
use Rattle.ak_base.specs.declared.decks.Deck.{Deck}
use Rattle.ak_base.specs.declared.note_types.NoteType.{NoteType}
use Rattle.ak_base.specs.declared.notes.Note.{Note}
use Rattle.ak_base.specs.declared.rows.Row.{Row}
use Rattle.ak_keep.specs.Collections.{Rows}
use Rattle.ak_search.specs.CardFacts.{Seen, seen, is_since, is_answer, is_answered, is_answer_in}
use Rattle.ak_search.specs.Holds.{held_and, holds, id_back, path_matches}
use Rattle.ak_search.specs.Meanings.{walk, negated_by}
use Rattle.ak_search.specs.Passes.{AreAnswersFor, Serves, Suits, asks_before, holds_by, related_in, asked, needs_answers, is_shown, pair_cmp, seen_by, some_term, tested}
use Rattle.ak_search.specs.declared.answers.Answers.{Answers}
use Rattle.ak_search.specs.declared.evaluator.Group.{Group as Outer}
use Rattle.ak_search.specs.declared.holds.SearchContext.{SearchContext}
use Rattle.ak_search.specs.declared.related.Latest.{Latest}
use Rattle.ak_search.specs.declared.related.Related.{Related}
use Rattle.ak_search.specs.declared.terms.Term.TheVariants as terms
use Rattle.ak_search.specs.declared.terms.Term.{Term}
use Rattle.ak_search.specs.declared.tokens.Piece.TheVariants.{Test, BadValue, Open, Close, Or, And, OpenQuote}
use Rattle.ak_search.specs.declared.tokens.Piece.{Piece}
use Rattle.ak_search.proofs.Stripping.{by_texts}

-- ---- the later of two ids
pub later_since : (one other least : ℤ) → int_lt one other ≡ true → is_since other least ≡ (is_since one least || is_since other least)
later_since one other least h = grind (arith, ints)

pub earlier_since : (one other least : ℤ) → int_lt one other ≡ false → is_since one least ≡ (is_since one least || is_since other least)
earlier_since one other least h = grind (arith, ints)

-- ---- rows of reviews
pub in_append : (card ease least : ℤ) (front rest : List Row) → is_answer_in card ease least (front ++ rest) ≡ (is_answer_in card ease least front || is_answer_in card ease least rest)
in_append card ease least [] rest = refl
in_append card ease least (row ∷ front) rest =
    ap (λ v. is_answer card ease least row || v) (in_append card ease least front rest) ∙ sym (or_assoc (is_answer card ease least row) (is_answer_in card ease least front) (is_answer_in card ease least rest))

-- ---- a term that asks for no answers holds whatever they are
same_unless : (day : Day) (s : Seen) (f : ℤ → ℤ → Bool) (term : Term) → needs_answers term ≡ false → holds day s term ≡ holds day (record s { answered = f }) term
same_unless day s f (terms.Contains pattern) h = refl
same_unless day s f (terms.Word pattern) h = refl
same_unless day s f (terms.Field name pattern) h = refl
same_unless day s f (terms.Deck pattern) h = refl
same_unless day s f (terms.Tag pattern) h = refl
same_unless day s f terms.Untagged h = refl
same_unless day s f (terms.NoteType pattern) h = refl
same_unless day s f (terms.Template pattern) h = refl
same_unless day s f (terms.InState state) h = refl
same_unless day s f (terms.Prop what comparison bound) h = refl
same_unless day s f (terms.Flag number) h = refl
same_unless day s f (terms.Rated days) h = grind (arith, h)
same_unless day s f (terms.RatedWith days ease) h = grind (arith, h)
same_unless day s f (terms.Added days) h = refl
same_unless day s f (terms.Edited days) h = refl
same_unless day s f (terms.NoteIds ids) h = refl
same_unless day s f (terms.CardIds ids) h = refl

-- a term holds the same of a card with what it asks for
by_note : (day : Day) (answers : Answers) (c : Card) (one other : Related) (term : Term) → (one.note ≡ other.note) × (one.note_type ≡ other.note_type)
    → holds day (seen_by answers c one) term ≡ holds day (seen_by answers c (record { note = other.note; note_type = other.note_type; deck = one.deck })) term
by_note day answers c one other term h =
    ap (λ (n : Option Note). holds day (seen_by answers c (record { note = n; note_type = one.note_type; deck = one.deck })) term) h.0
    ∙ ap (λ (t : Option NoteType). holds day (seen_by answers c (record { note = other.note; note_type = t; deck = one.deck })) term) h.1

suited : (day : Day) (answers : Answers) (held : Rows) (c : Card) (one : Latest) (term : Term) → Suits one held c term → holds day (seen_by answers c one.related) term ≡ holds day (seen_by answers c (related_in held c)) term
suited day answers held c one (terms.Contains pattern) h = by_note day answers c one.related (related_in held c) (terms.Contains pattern) (h.note refl)
suited day answers held c one (terms.Word pattern) h = by_note day answers c one.related (related_in held c) (terms.Word pattern) (h.note refl)
suited day answers held c one (terms.Field name pattern) h = by_note day answers c one.related (related_in held c) (terms.Field name pattern) (h.note refl)
suited day answers held c one (terms.Deck pattern) h = ap (held_and (λ (d : Deck). path_matches pattern d.name)) (h.deck refl)
suited day answers held c one (terms.Tag pattern) h = by_note day answers c one.related (related_in held c) (terms.Tag pattern) (h.note refl)
suited day answers held c one terms.Untagged h = by_note day answers c one.related (related_in held c) terms.Untagged (h.note refl)
suited day answers held c one (terms.NoteType pattern) h = by_note day answers c one.related (related_in held c) (terms.NoteType pattern) (h.note refl)
suited day answers held c one (terms.Template pattern) h = by_note day answers c one.related (related_in held c) (terms.Template pattern) (h.note refl)
suited day answers held c one (terms.InState state) h = refl
suited day answers held c one (terms.Prop what comparison bound) h = refl
suited day answers held c one (terms.Flag number) h = refl
suited day answers held c one (terms.Rated days) h = refl
suited day answers held c one (terms.RatedWith days ease) h = refl
suited day answers held c one (terms.Added days) h = refl
suited day answers held c one (terms.Edited days) h = by_note day answers c one.related (related_in held c) (terms.Edited days) (h.note refl)
suited day answers held c one (terms.NoteIds ids) h = refl
suited day answers held c one (terms.CardIds ids) h = refl

-- what a term does of a card, by what was looked up for it
pub tests_as : (context : SearchContext) (held : Rows) (c : Card) (one : Latest) (term : Term) (does : Bool) → does ≡ holds_by context.day context.answers c one term → Suits one held c term
    → does ≡ tested context held c term
tests_as context held c one term does is suits = is ∙ by_texts context.day context.answers c one term suits.texts ∙ suited context.day context.answers held c one term suits

-- two tests that agree on all terms but some lead to the same where none of those is asked
pub same_walk : (apart f g : Term → Bool) → ((term : Term) → apart term ≡ false → f term ≡ g term) → (outer : List Outer) (either all : Bool) (ps : List Piece) → some_term apart ps ≡ false → walk f outer either all ps ≡ walk g outer either all ps
same_walk apart f g same outer either all [] h = refl
same_walk apart f g same outer either all (Test negated term ∷ ps) h =
    let both = or_parts (apart term) (some_term apart ps) h in
    ap (λ v. walk f outer either (all && negated_by negated v) ps) (same term both.0) ∙ same_walk apart f g same outer either (all && negated_by negated (g term)) ps both.1
same_walk apart f g same outer either all (BadValue ∷ ps) h = same_walk apart f g same outer either all ps h
same_walk apart f g same outer either all (Open negated ∷ ps) h = same_walk apart f g same (record { negated = negated; either = either; all = all } ∷ outer) false true ps h
same_walk apart f g same [] either all (Close ∷ ps) h = same_walk apart f g same [] either all ps h
same_walk apart f g same (group ∷ outer) either all (Close ∷ ps) h = same_walk apart f g same outer group.either (group.all && negated_by group.negated (either || all)) ps h
same_walk apart f g same outer either all (Or ∷ ps) h = same_walk apart f g same outer (either || all) true ps h
same_walk apart f g same outer either all (And ∷ ps) h = same_walk apart f g same outer either all ps h
same_walk apart f g same outer either all (OpenQuote ∷ ps) h = same_walk apart f g same outer either all ps h

-- a term that asks for no answers before an id holds the same by answers that are the same from it on
same_from : (day : Day) (id : ℤ) (s : Seen) (f : ℤ → ℤ → Bool) (term : Term) → asks_before day id term ≡ false → ((ease least : ℤ) → int_lt least id ≡ false → s.answered ease least ≡ f ease least)
    → holds day s term ≡ holds day (record s { answered = f }) term
same_from day id s f (terms.Contains pattern) h same = refl
same_from day id s f (terms.Word pattern) h same = refl
same_from day id s f (terms.Field name pattern) h same = refl
same_from day id s f (terms.Deck pattern) h same = refl
same_from day id s f (terms.Tag pattern) h same = refl
same_from day id s f terms.Untagged h same = refl
same_from day id s f (terms.NoteType pattern) h same = refl
same_from day id s f (terms.Template pattern) h same = refl
same_from day id s f (terms.InState state) h same = refl
same_from day id s f (terms.Prop what comparison bound) h same = refl
same_from day id s f (terms.Flag number) h same = refl
same_from day id s f (terms.Rated days) h same =
    let own : ℤ → Bool = λ ease. s.answered ease (id_back day days) in
    let other : ℤ → Bool = λ ease. f ease (id_back day days) in
    let each : own ≡ other = λ i ease. same ease (id_back day days) h i in
    ap (λ (test : ℤ → Bool). list_any test (pos 1 ∷ pos 2 ∷ pos 3 ∷ pos 4 ∷ [])) each
same_from day id s f (terms.RatedWith days ease) h same = same ease (id_back day days) h
same_from day id s f (terms.Added days) h same = refl
same_from day id s f (terms.Edited days) h same = refl
same_from day id s f (terms.NoteIds ids) h same = refl
same_from day id s f (terms.CardIds ids) h same = refl

-- what is seen of a card decides as what is held does
by_answers : (day : Day) (held : Rows) (answers : Answers) (c : Card) (ps : List Piece) → AreAnswersFor day ps answers held
    → asked ps (holds day (seen_by answers c (related_in held c))) ≡ asked ps (holds day (seen held c))
by_answers day held answers c ps serve =
    let by : Seen = seen_by answers c (related_in held c) in
    elim (some_term needs_answers ps) as (λ b. some_term needs_answers ps ≡ b → asked ps (holds day (seen_by answers c (related_in held c))) ≡ asked ps (holds day (seen held c))) [
      | true ↦ λ asks.
          let from = serve asks in
          same_walk (asks_before day from.0) (holds day by) (holds day (seen held c)) (λ term h. same_from day from.0 by (is_answered held c.id) term h (λ ease least later. from.2 c.id ease least later)) [] false true ps from.1
      | false ↦ λ asks. same_walk needs_answers (holds day by) (holds day (seen held c)) (λ term h. same_unless day by (is_answered held c.id) term h) [] false true ps asks
    ] refl

pub serves : (context : SearchContext) (held : Rows) (c : Card) (ps : List Piece) → Serves context ps held → asked ps (tested context held c) ≡ asked ps (holds context.day (seen held c))
serves context held c ps serve = by_answers context.day held context.answers c ps serve

-- ---- one more review
pub added : (old new : Answers) (cid own last id cid' own' last' : ℤ) → cid' ≡ cid → own' ≡ own → last' ≡ last
    → ((q : ℤ × ℤ) → get pair_cmp new.last q ≡ cond (is_eq (pair_cmp (cid', own') q)) (Some last') (get pair_cmp old.last q))
    → ((least : ℤ) → is_since last least ≡ (is_shown old cid own least || is_since id least))
    → (card ease least : ℤ) → is_shown new card ease least ≡ (is_shown old card ease least || ((int_eq cid card && int_eq own ease) && is_since id least))
added old new cid own last id cid' own' last' cid_is own_is last_is puts since card ease least =
    let test : ℤ → Bool = λ (x : ℤ). is_since x least in
    ap (held_and test) (puts (card, ease))
    ∙ ap (λ (x : ℤ). held_and test (cond (is_eq (pair_cmp (x, own') (card, ease))) (Some last') (get pair_cmp old.last (card, ease)))) cid_is
    ∙ ap (λ (x : ℤ). held_and test (cond (is_eq (pair_cmp (cid, x) (card, ease))) (Some last') (get pair_cmp old.last (card, ease)))) own_is
    ∙ ap (λ (x : ℤ). held_and test (cond (is_eq (pair_cmp (cid, own) (card, ease))) (Some x) (get pair_cmp old.last (card, ease)))) last_is
    ∙ ap (λ b. held_and test (cond b (Some last) (get pair_cmp old.last (card, ease)))) (sym (tied_then (int_cmp cid card) (int_cmp own ease)))
    ∙ elim (int_eq cid card && int_eq own ease) as (λ b. (int_eq cid card && int_eq own ease) ≡ b
    → held_and test (cond b (Some last) (get pair_cmp old.last (card, ease))) ≡ (is_shown old card ease least || (b && is_since id least))) [
      | true ↦ λ e.
          let same = and_parts (int_eq cid card) (int_eq own ease) e in
          let card_is : cid ≡ card = (signed_Decides cid card).0 same.0 in
          let ease_is : own ≡ ease = (signed_Decides own ease).0 same.1 in
          since least
          ∙ ap (λ (x : ℤ). is_shown old x own least || is_since id least) card_is
          ∙ ap (λ (x : ℤ). is_shown old card x least || is_since id least) ease_is
      | false ↦ λ e. sym (or-false (is_shown old card ease least))
    ] refl

-- what a look-up by such numbers found
pub looked_up : (answers : Answers) (card ease least card' ease' : ℤ) (found : Option ℤ) → card' ≡ card → ease' ≡ ease → found ≡ get pair_cmp answers.last (card', ease')
    → held_and (λ (last : ℤ). is_since last least) found ≡ is_shown answers card ease least
looked_up answers card ease least card' ease' found card_is ease_is is =
    let test : ℤ → Bool = λ (x : ℤ). is_since x least in
    ap (held_and test) is
    ∙ ap (λ (x : ℤ). held_and test (get pair_cmp answers.last (x, ease'))) card_is
    ∙ ap (λ (x : ℤ). held_and test (get pair_cmp answers.last (card, x))) ease_is

-- one more row, and one more page
pub row_added : (old new test rest total : Bool) → new ≡ (old || test) → (old || (test || rest)) ≡ total → (new || rest) ≡ total
row_added old new test rest total h g = ap (λ v. v || rest) h ∙ or_assoc old test rest ∙ g

pub page_added : (old new total : Bool) (card ease least : ℤ) (all page rest : List Row) → new ≡ (old || is_answer_in card ease least page) → all ≡ page ++ rest
    → (old || is_answer_in card ease least all) ≡ total → (new || is_answer_in card ease least rest) ≡ total
page_added old new total card ease least all page rest h split g =
    row_added old new (is_answer_in card ease least page) (is_answer_in card ease least rest) total h
    (ap (λ v. old || v) (sym (ap (is_answer_in card ease least) split ∙ in_append card ease least page rest)) ∙ g)

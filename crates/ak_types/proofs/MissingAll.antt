-- The cards that notes lack, made one note after the other: there is one way, and they are refused if ids lack.
use Rattle.std.specs.Prelude.{◌≡◌, ◌+◌, ◌<◌, ◌≤◌, ℕ, ℤ, pos, ◌+ℤ◌, zero, suc, Bool, List, [], ◌∷◌, ◌++◌, length, drop, get_or, Ok, Err}
use Rattle.std.proofs.Common.{refl, sym, ap, subst, inl, inr, ◌∙◌, append_assoc, append-nil, arith}
use Rattle.std.proofs.lemmas.List.{at_drop_all, at_drop_more}
use Rattle.std.specs.FinMap.{get}
use Rattle.ak_base.specs.declared.cards.Card.{Card}
use Rattle.ak_base.specs.declared.names.Name.{Name}
use Rattle.ak_base.specs.declared.names.Table.{Table}
use Rattle.ak_edit_calls.proofs.Telling.{where_always, where_told-both}
use Rattle.ak_keep.specs.FreeNames.{IsFree, is_used}
use Rattle.ak_edit.specs.Refusals.{AnswersBy}
use Rattle.ak_edit.specs.declared.desk_faults.DeskFault.{DeskFault}
use Rattle.ak_keep.proofs.Told.{where_told-map}
use Rattle.ak_keep.specs.Collections.{Rows}
use Rattle.ak_keep.specs.Keepers.{Keeping, WhereTold}
use Rattle.ak_merge.specs.Holdings.{name_in}
use Rattle.ak_edit_calls.proofs.FreeIds.{free_once, none_free}
use Rattle.ak_notes.proofs.NewCards.{cards_once}
use Rattle.ak_notes.specs.LackingNotes.{RefusesMissingIds, lacked_ords, missing_place, next_after}
use Rattle.ak_base.specs.Names.{next_name}
use Rattle.ak_edit_calls.specs.NewNames.{LacksIds}
use Rattle.ak_notes.specs.NewCards.{AreNewCards, first_after}
use Rattle.ak_notes.specs.declared.lacking_notes.LackingNote.{LackingNote}
use Rattle.ak_notes.specs.declared.lacking_notes.MissingCards.{MissingCards}
use Rattle.ak_notes.specs.declared.lacking_notes.NextCards.{NextCards}
use Rattle.ak_types.specs.RetypedCards.{AreAllMissing, IsNextMissing, RefusesAllIds, missing_count}

-- ---- ids that lack
none_and : (more : ℕ) → 0 + more ≡ more
none_and more = omega arith

one_and : (some more : ℕ) → suc some + more ≡ suc (some + more)
one_and some more = omega arith

-- the next name of a free one is that after its card
same_next : (used : Name → Bool) (first name : Name) (id : ℤ) → IsFree used first name → id ≡ name.id → next_name name ≡ name_in first.table (id +ℤ pos 1)
same_next used first name id free same =
    ap (λ (t : Table). name_in t (name.id +ℤ pos 1)) free.table ∙ ap (λ (i : ℤ). name_in first.table (i +ℤ pos 1)) (sym same)

-- if ids lack after these cards of a note, they lack for these cards and as many more
pub lacks_more : (used : Name → Bool) (note : LackingNote) (next : NextCards) (first : Name) (ords : List ℤ) (cards : List Card) (more : ℕ) → AreNewCards used (missing_place note next) first ords cards
    → LacksIds used (first_after cards first) more → LacksIds used first (length ords + more)
lacks_more used note next first [] cards more made lacks =
    subst (λ (n : ℕ). LacksIds used first n) (sym (none_and more)) (subst (λ (l : List Card). LacksIds used (first_after l first) more) made lacks)
lacks_more used note next first (ord ∷ ords) cards more made lacks =
    let name : Name = made.0 in
    let rest : List Card = made.4 in
    let id : made.2.id ≡ name.id = ap (λ (card : Card). card.id) made.3 in
    let after : first_after cards first ≡ first_after rest (next_name name) =
    ap (λ (l : List Card). first_after l first) made.5 ∙ ap (first_after rest) (sym (same_next used first name made.2.id made.1 id)) in
    subst (λ (n : ℕ). LacksIds used first n) (sym (one_and (length ords) more))
    (inr (name, made.1, lacks_more used note next (next_name name) ords rest more made.6 (subst (λ (n : Name). LacksIds used n more) after lacks)))

-- if they lack for these cards and more, they lack after these cards
pub lacks_after : (used : Name → Bool) (note : LackingNote) (next : NextCards) (first : Name) (ords : List ℤ) (cards : List Card) (more : ℕ) → AreNewCards used (missing_place note next) first ords cards
    → LacksIds used first (length ords + more) → LacksIds used (first_after cards first) more
lacks_after used note next first [] cards more made lacks =
    subst (λ (l : List Card). LacksIds used (first_after l first) more) (sym made) (subst (λ (n : ℕ). LacksIds used first n) (none_and more) lacks)
lacks_after used note next first (ord ∷ ords) cards more made lacks =
    let name : Name = made.0 in
    let rest : List Card = made.4 in
    let id : made.2.id ≡ name.id = ap (λ (card : Card). card.id) made.3 in
    let after : first_after cards first ≡ first_after rest (next_name name) =
    ap (λ (l : List Card). first_after l first) made.5 ∙ ap (first_after rest) (sym (same_next used first name made.2.id made.1 id)) in
    elim (subst (λ (n : ℕ). LacksIds used first n) (one_and (length ords) more) lacks) [
      | inl none ↦ absurd (none_free used first name made.1 none)
      | inr others ↦
          let same : others.0 ≡ name = free_once used first others.0 name others.1 made.1 in
          subst (λ (n : Name). LacksIds used n more) (sym after)
          (lacks_after used note next (next_name name) ords rest more made.6 (subst (λ (n : Name). LacksIds used (next_name n) (length ords + more)) same others.2))
    ]

-- if they lack for some, they lack for more
pub lacks_beyond : (used : Name → Bool) (first : Name) (some more : ℕ) → LacksIds used first some → LacksIds used first (some + more)
lacks_beyond used first zero more lacks = absurd lacks
lacks_beyond used first (suc some) more lacks =
    subst (λ (n : ℕ). LacksIds used first n) (sym (one_and some more)) (elim lacks [
      | inl none ↦ inl none
      | inr others ↦ inr (others.0, others.1, lacks_beyond used (next_name others.0) some more others.2)
    ])

-- ---- one way
pub all_once : (held : Rows) (lacking : List LackingNote) (next : NextCards) (x y : List Card) (p q : NextCards) → AreAllMissing held lacking next x p → AreAllMissing held lacking next y q
    → (x ≡ y) × (p ≡ q)
all_once held [] next x y p q one other = (one.0 ∙ sym other.0, one.1 ∙ sym other.1)
all_once held (note ∷ lacking) next x y p q one other =
    let own : one.0 ≡ other.0 = cards_once (is_used (get held)) (missing_place note next) next.first (lacked_ords note) one.0 other.0 one.3 other.3 in
    let there : AreAllMissing held lacking (next_after one.0 next) other.1 q = subst (λ (l : List Card). AreAllMissing held lacking (next_after l next) other.1 q) (sym own) other.4 in
    let rest = all_once held lacking (next_after one.0 next) one.1 other.1 p q one.4 there in
    (one.2 ∙ ap (λ (l : List Card). l ++ one.1) own ∙ ap (λ (l : List Card). other.0 ++ l) rest.0 ∙ sym other.2, rest.1)

-- if they are made, no ids lack
pub all_lack_none : (held : Rows) (lacking : List LackingNote) (next : NextCards) (cards : List Card) (end : NextCards) → AreAllMissing held lacking next cards end
    → LacksIds (is_used (get held)) next.first (missing_count lacking) → ⊥
all_lack_none held [] next cards end made lacks = lacks
all_lack_none held (note ∷ lacking) next cards end made lacks =
    all_lack_none held lacking (next_after made.0 next) made.1 end made.4
    (lacks_after (is_used (get held)) note next next.first (lacked_ords note) made.0 (missing_count lacking) made.3 lacks)

-- ---- the loop
-- what is made for the other notes after these cards goes on with them to what is made for all, and if ids lack for them, they lack for all
pub record GoesOnTo (held : Rows) (all : List LackingNote) (start : NextCards) (others : List LackingNote) (so_far : MissingCards) : Type 0 where
  pub made : (more : List Card) (end : NextCards) → AreAllMissing held others so_far.next more end → AreAllMissing held all start (so_far.cards ++ more) end
  pub lacks : LacksIds (is_used (get held)) so_far.next.first (missing_count others) → LacksIds (is_used (get held)) start.first (missing_count all)

-- at first
pub all_start : (k : Keeping) (all : List LackingNote) (so_far : MissingCards) → so_far.cards ≡ [] → WhereTold k (λ h. GoesOnTo h.rows all so_far.next all so_far)
all_start k all so_far none =
    where_always k (λ h. GoesOnTo h.rows all so_far.next all so_far)
    (λ h. record {
      made = λ more end are. subst (λ (l : List Card). AreAllMissing h.rows all so_far.next (l ++ more) end) (sym none) are;
      lacks = λ lacks. lacks;
    })

one_more : (held : Rows) (all : List LackingNote) (start : NextCards) (note : LackingNote) (others : List LackingNote) (so_far now : MissingCards) → GoesOnTo held all start (note ∷ others) so_far
    → IsNextMissing held note so_far now → GoesOnTo held all start others now
one_more held all start note others so_far now goes step = record {
  made = λ more end are.
      let there : AreAllMissing held others (next_after step.own so_far.next) more end = subst (λ (n : NextCards). AreAllMissing held others n more end) step.next are in
      subst (λ (l : List Card). AreAllMissing held all start l end) (sym (ap (λ (l : List Card). l ++ more) step.cards ∙ append_assoc so_far.cards step.own more))
      (goes.made (step.own ++ more) end (step.own, more, refl, step.made, there));
  lacks = λ lacks. goes.lacks
      (lacks_more (is_used (get held)) note so_far.next so_far.next.first (lacked_ords note) step.own (missing_count others) step.made
      (subst (λ (n : NextCards). LacksIds (is_used (get held)) n.first (missing_count others)) step.next lacks));
}

-- one note more
pub all_one : (k : Keeping) (all : List LackingNote) (start : NextCards) (note : LackingNote) (others : List LackingNote) (so_far now : MissingCards)
    → WhereTold k (λ h. GoesOnTo h.rows all start (note ∷ others) so_far) → WhereTold k (λ h. IsNextMissing h.rows note so_far now) → WhereTold k (λ h. GoesOnTo h.rows all start others now)
all_one k all start note others so_far now =
    where_told-both k (λ h. GoesOnTo h.rows all start (note ∷ others) so_far) (λ h. IsNextMissing h.rows note so_far now) (λ h. GoesOnTo h.rows all start others now)
    (λ h goes step. one_more h.rows all start note others so_far now goes step)

-- at the end
pub all_end : (k : Keeping) (all : List LackingNote) (start : NextCards) (so_far : MissingCards) → WhereTold k (λ h. GoesOnTo h.rows all start [] so_far)
    → WhereTold k (λ h. AreAllMissing h.rows all start so_far.cards so_far.next)
all_end k all start so_far =
    where_told-map k (λ h. GoesOnTo h.rows all start [] so_far) (λ h. AreAllMissing h.rows all start so_far.cards so_far.next)
    (λ h goes. subst (λ (l : List Card). AreAllMissing h.rows all start l so_far.next) (append-nil so_far.cards) (goes.made [] so_far.next (refl, refl)))

-- what was made is not refused
pub all_answers : (k : Keeping) (all : List LackingNote) (start : NextCards) (so_far : MissingCards) → WhereTold k (λ h. AreAllMissing h.rows all start so_far.cards so_far.next)
    → WhereTold k (λ h. AnswersBy {T = MissingCards} (RefusesAllIds all start h.rows) (Ok so_far))
all_answers k all start so_far =
    where_told-map k (λ h. AreAllMissing h.rows all start so_far.cards so_far.next) (λ h. AnswersBy {T = MissingCards} (RefusesAllIds all start h.rows) (Ok so_far))
    (λ h are. record { accepted = λ fault refuses. all_lack_none h.rows all start so_far.cards so_far.next are refuses.0; refused = tt })

-- an id lacks for a note
pub one_lacks : (k : Keeping) (all : List LackingNote) (start : NextCards) (note : LackingNote) (others : List LackingNote) (so_far : MissingCards) (fault : DeskFault)
    → WhereTold k (λ h. GoesOnTo h.rows all start (note ∷ others) so_far) → WhereTold k (λ h. AnswersBy {T = MissingCards} (RefusesMissingIds note so_far.next h.rows) (Err fault))
    → WhereTold k (λ h. AnswersBy {T = MissingCards} (RefusesAllIds all start h.rows) (Err fault))
one_lacks k all start note others so_far fault =
    where_told-both k (λ h. GoesOnTo h.rows all start (note ∷ others) so_far) (λ h. AnswersBy {T = MissingCards} (RefusesMissingIds note so_far.next h.rows) (Err fault))
    (λ h. AnswersBy {T = MissingCards} (RefusesAllIds all start h.rows) (Err fault))
    (λ h goes answers. record {
      accepted = tt;
      refused = elim answers.refused [
        | inl outside ↦ inl outside
        | inr lacks ↦ inr (goes.lacks (lacks_beyond (is_used (get h.rows)) so_far.next.first (length (lacked_ords note)) (missing_count others) lacks.0), lacks.1)
      ];
    })

-- ---- the same of a place in the list
split_at : (all : List LackingNote) (i : ℕ) (note : LackingNote) → i < length all → note ≡ get_or all i note → drop i all ≡ note ∷ drop (i + 1) all
split_at all i note within is =
    at_drop_more (λ (l : List LackingNote). l) all i note within ∙ ap (λ (n : LackingNote). n ∷ drop (i + 1) all) (sym is)

pub place_one : (k : Keeping) (all : List LackingNote) (start : NextCards) (note : LackingNote) (i : ℕ) (so_far now : MissingCards) → i < length all → note ≡ get_or all i note
    → WhereTold k (λ h. GoesOnTo h.rows all start (drop i all) so_far) → WhereTold k (λ h. IsNextMissing h.rows note so_far now) → WhereTold k (λ h. GoesOnTo h.rows all start (drop (i + 1) all) now)
place_one k all start note i so_far now within is goes step =
    all_one k all start note (drop (i + 1) all) so_far now
    (subst (λ (l : List LackingNote). WhereTold k (λ h. GoesOnTo h.rows all start l so_far)) (split_at all i note within is) goes) step

pub place_lacks : (k : Keeping) (all : List LackingNote) (start : NextCards) (note : LackingNote) (i : ℕ) (so_far : MissingCards) (fault : DeskFault) → i < length all → note ≡ get_or all i note
    → WhereTold k (λ h. GoesOnTo h.rows all start (drop i all) so_far) → WhereTold k (λ h. AnswersBy {T = MissingCards} (RefusesMissingIds note so_far.next h.rows) (Err fault))
    → WhereTold k (λ h. AnswersBy {T = MissingCards} (RefusesAllIds all start h.rows) (Err fault))
place_lacks k all start note i so_far fault within is goes refuses =
    one_lacks k all start note (drop (i + 1) all) so_far fault
    (subst (λ (l : List LackingNote). WhereTold k (λ h. GoesOnTo h.rows all start l so_far)) (split_at all i note within is) goes) refuses

pub place_end : (k : Keeping) (all : List LackingNote) (start : NextCards) (i : ℕ) (so_far : MissingCards) → length all ≤ i
    → WhereTold k (λ h. GoesOnTo h.rows all start (drop i all) so_far) → WhereTold k (λ h. AreAllMissing h.rows all start so_far.cards so_far.next)
place_end k all start i so_far past goes =
    all_end k all start so_far
    (subst (λ (l : List LackingNote). WhereTold k (λ h. GoesOnTo h.rows all start l so_far)) (at_drop_all (λ (l : List LackingNote). l) all i past) goes)

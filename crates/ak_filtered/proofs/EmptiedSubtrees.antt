-- Filtered decks that are emptied one after the other.
use Rattle.std.specs.Prelude.{◌≡◌, ◌⊎◌, ℤ, List, [], ◌∷◌, ◌++◌, Option, Some, Result, Ok, Err}
use Rattle.std.specs.Option.{option_map_or}
use Rattle.std.proofs.Common.{refl, sym, ap, subst, ◌∙◌, inl, inr, append_assoc, append-nil}
use Rattle.ak_base.specs.declared.decks.Deck.{Deck}
use Rattle.ak_edit_calls.proofs.Telling.{where_held-both, where_held-map, where_rows_held, where_told-both}
use Rattle.ak_base.specs.declared.errors.RowFault.{RowFault}
use Rattle.ak_edit.specs.Refusals.{AnswersBy, IsEndFault, IsFromOutside}
use Rattle.ak_edit.specs.declared.desk_faults.DeskFault.TheVariants as faults
use Rattle.ak_filtered.proofs.Told.{held_always}
use Rattle.ak_edit.specs.declared.desk_faults.DeskFault.{DeskFault}
use Rattle.ak_filtered.specs.ClearedEdits.{IsCleared}
use Rattle.ak_filtered.specs.Emptyings.{AreEmptied, EndsEmptied, IsCutOff, IsStopped, RefusesEmptying, emptying, filtered_below, filtered_under}
use Rattle.ak_keep.specs.Collections.{Collection}
use Rattle.ak_keep.specs.Keepers.{Keeping, WhereHeld, WhereTold}
use Rattle.ak_keep.specs.Lookups.{deck_at, decks_in}
use Rattle.ak_undo.specs.declared.steps.Step.{Step}

-- what is left by the emptying of one deck
abbrev pub IsEmptiedOnce : ℤ → ℤ → Keeping → Keeping → Type 0
IsEmptiedOnce at deck before now = WhereHeld before (λ c. IsCleared at c (emptying deck c) before now [] × ((fault : DeskFault) → RefusesEmptying at deck c fault → ⊥))

-- one deck more was emptied
pub emptied_more : (at : ℤ) (first : List Deck) (deck : Deck) (before mid now : Keeping) (steps left : List Step) → AreEmptied at first before mid steps left → IsEmptiedOnce at deck.id mid now
    → AreEmptied at (first ++ deck ∷ []) before now steps []
emptied_more at [] deck before mid now steps left so_far once = (now, subst (λ (k : Keeping). IsEmptiedOnce at deck.id k now) so_far.0 once, (refl, refl))
emptied_more at (one ∷ first) deck before mid now steps left so_far once = (so_far.0, so_far.1, emptied_more at first deck so_far.0 mid now [] left so_far.2 once)

pub emptied_once : {T : Type 0} (at deck : ℤ) (k now : Keeping) (left : List Step) (value : T) → left ≡ [] → WhereHeld k (λ c. IsCleared at c (emptying deck c) k now left)
    → WhereHeld k (λ c. AnswersBy (RefusesEmptying at deck c) (Ok value)) → IsEmptiedOnce at deck k now
emptied_once at deck k now left value none =
    where_held-both k (λ c. IsCleared at c (emptying deck c) k now left) (λ c. AnswersBy (RefusesEmptying at deck c) (Ok value))
    (λ c. IsCleared at c (emptying deck c) k now [] × ((fault : DeskFault) → RefusesEmptying at deck c fault → ⊥))
    (λ c cleared answers. (subst (λ (l : List Step). IsCleared at c (emptying deck c) k now l) none cleared, answers.accepted))

-- ---- which decks they are
pub below_told : (k : Keeping) (id : ℤ) (root : Deck) (found : Option Deck) (below : List Deck) → found ≡ Some root → WhereTold k (λ h. found ≡ deck_at h.rows id)
    → WhereTold k (λ h. below ≡ filtered_under root.name (decks_in h.rows)) → WhereTold k (λ h. below ≡ filtered_below id h.rows)
below_told k id root found below is =
    where_told-both k (λ h. found ≡ deck_at h.rows id) (λ h. below ≡ filtered_under root.name (decks_in h.rows)) (λ h. below ≡ filtered_below id h.rows)
    (λ h at under. under ∙ ap (λ (o : Option Deck). option_map_or (λ (r : Deck). filtered_under r.name (decks_in h.rows)) o []) (sym is ∙ at))

-- ---- the ends
-- what was done so far: these of the decks were emptied, and these are left
pub record HasEmptied (at : ℤ) (decks rest : List Deck) (before now : Keeping) (steps left : List Step) : Type 0 where
  pub first : List Deck
  pub all : decks ≡ first ++ rest
  pub emptied : AreEmptied at first before now steps left

pub none_emptied : (at : ℤ) (decks : List Deck) (k : Keeping) (steps : List Step) → HasEmptied at decks decks k k steps steps
none_emptied at decks k steps = record { first = []; all = refl; emptied = (refl, refl) }

pub one_emptied : (at : ℤ) (decks : List Deck) (deck : Deck) (rest : List Deck) (before mid now : Keeping) (steps left after : List Step) → after ≡ [] → HasEmptied at decks (deck ∷ rest) before mid steps left
    → IsEmptiedOnce at deck.id mid now → HasEmptied at decks rest before now steps after
one_emptied at decks deck rest before mid now steps left after none has once = record {
  first = has.first ++ deck ∷ [];
  all = has.all ∙ sym (append_assoc has.first (deck ∷ []) rest);
  emptied = subst (λ (l : List Step). AreEmptied at (has.first ++ deck ∷ []) before now steps l) (sym none) (emptied_more at has.first deck before mid now steps left has.emptied once);
}

pub all_done : {T : Type 0} (at : ℤ) (decks rest : List Deck) (before now : Keeping) (steps left : List Step) (value : T) → rest ≡ [] → HasEmptied at decks rest before now steps left
    → EndsEmptied at decks before now steps left (Ok value)
all_done at decks rest before now steps left value none has = record {
  done = subst (λ (ds : List Deck). AreEmptied at ds before now steps left) (sym (has.all ∙ ap (λ (ds : List Deck). has.first ++ ds) none ∙ append-nil has.first)) has.emptied;
  refused = tt;
}

-- of the decks that were read
pub subtree_ends : {T : Type 0} (k now : Keeping) (at deck : ℤ) (decks : List Deck) (steps left : List Step) (result : Result T DeskFault) → WhereTold k (λ h. decks ≡ filtered_below deck h.rows)
    → EndsEmptied at decks k now steps left result → WhereHeld k (λ c. EndsEmptied at (filtered_below deck c.rows) k now steps left result)
subtree_ends k now at deck decks steps left result told ends =
    where_held-map k (λ c. decks ≡ filtered_below deck c.rows) (λ c. EndsEmptied at (filtered_below deck c.rows) k now steps left result)
    (λ c is. subst (λ (ds : List Deck). EndsEmptied at ds k now steps left result) is ends)
    (where_rows_held k (λ rows. decks ≡ filtered_below deck rows) told)

stopped : (T : Type 0) (at : ℤ) (decks : List Deck) (next : Deck) (rest : List Deck) (before now : Keeping) (steps left : List Step) (fault : DeskFault) → HasEmptied at decks (next ∷ rest) before now steps left
    → IsFromOutside fault ⊎ WhereHeld now (λ c. RefusesEmptying at next.id c fault) → EndsEmptied {T = T} at decks before now steps left (Err fault)
stopped T at decks next rest before now steps left fault has (inl outside) = record { done = tt; refused = inl (outside, record { first = has.first; others = next ∷ rest; all = has.all; emptied = has.emptied }) }
stopped T at decks next rest before now steps left fault has (inr refuses) = record {
  done = tt;
  refused = inr (record { first = has.first; next = next; others = rest; all = has.all; emptied = has.emptied; refused = refuses });
}

-- ---- why one is refused
by_row : {X : Type 0} (fault : DeskFault) (row : RowFault) → fault ≡ faults.Row row → IsFromOutside fault → X
by_row fault row is (inl failed) = absurd (cc (is, failed))
by_row fault row is (inr memory) = absurd (cc (is, memory))

by_stamp : {X : Type 0} (fault : DeskFault) → fault ≡ faults.StampEnd → IsFromOutside fault → X
by_stamp fault is (inl failed) = absurd (cc (is, failed))
by_stamp fault is (inr memory) = absurd (cc (is, memory))

refuses_in : (T : Type 0) (k : Keeping) (at deck : ℤ) (fault : DeskFault) → (IsFromOutside fault → ⊥) → WhereHeld k (λ c. AnswersBy {T = T} (RefusesEmptying at deck c) (Err fault))
    → WhereHeld k (λ c. RefusesEmptying at deck c fault)
refuses_in T k at deck fault inside =
    where_held-map k (λ c. AnswersBy {T = T} (RefusesEmptying at deck c) (Err fault)) (λ c. RefusesEmptying at deck c fault)
    (λ c answers. elim answers.refused [ inl outside ↦ absurd (inside outside) | inr refuses ↦ refuses ])

refusal_of : (T : Type 0) (k : Keeping) (at deck : ℤ) (fault : DeskFault) → IsEndFault fault → WhereHeld k (λ c. AnswersBy {T = T} (RefusesEmptying at deck c) (Err fault))
    → IsFromOutside fault ⊎ WhereHeld k (λ c. RefusesEmptying at deck c fault)
refusal_of T k at deck fault (inl outside) answers = inl outside
refusal_of T k at deck fault (inr (inl row)) answers = inr (refuses_in T k at deck fault (by_row fault row.0 row.1) answers)
refusal_of T k at deck fault (inr (inr stamp)) answers = inr (refuses_in T k at deck fault (by_stamp fault stamp) answers)

pub each_stopped : (T U : Type 0) (k mid : Keeping) (at : ℤ) (decks : List Deck) (next : Deck) (rest : List Deck) (steps left : List Step) (fault : DeskFault) → IsEndFault fault
    → HasEmptied at decks (next ∷ rest) k mid steps left → WhereHeld mid (λ c. AnswersBy {T = T} (RefusesEmptying at next.id c) (Err fault)) → EndsEmptied {T = U} at decks k mid steps left (Err fault)
each_stopped T U k mid at decks next rest steps left fault listed has answers = stopped U at decks next rest k mid steps left fault has (refusal_of T mid at next.id fault listed answers)

-- the keeper failed or memory was out before the first
pub subtree_outside : (U : Type 0) (k : Keeping) (at deck : ℤ) (steps : List Step) (fault : DeskFault) → IsFromOutside fault → WhereHeld k (λ c. EndsEmptied {T = U} at (filtered_below deck c.rows) k k steps steps (Err fault))
subtree_outside U k at deck steps fault outside =
    held_always k (λ c. EndsEmptied {T = U} at (filtered_below deck c.rows) k k steps steps (Err fault))
    (λ c. record { done = tt; refused = inl (outside, record { first = []; others = filtered_below deck c.rows; all = refl; emptied = (refl, refl) }) })

-- Records that are taken one after another, and the end of the import.
use Rattle.std.specs.Prelude.{◌≡◌, ◌⊎◌, ◌+◌, ◌++◌, ℕ, ℤ, List, [], ◌∷◌, length, Option, Some, None, IfSome, Err}
use Rattle.std.proofs.Common.{refl, sym, ap, subst, inl, inr, ◌∙◌, append_assoc, append-nil, arith}
use Rattle.std.proofs.lemmas.List.{length_push}
use Rattle.std.specs.Option.{option_map}
use Rattle.ak_base.specs.declared.heads.Head.{Head}
use Rattle.ak_edit.proofs.Building.{nothing_asked}
use Rattle.ak_edit.specs.Ends.{AnswersEnd, FinishedBy, IsFinished, RefusesEnd}
use Rattle.ak_edit.specs.Overlays.{Overlay, edit_of, unchanged}
use Rattle.ak_edit.specs.Refusals.{AnswersBy, IsFromOutside}
use Rattle.ak_edit.specs.declared.desk_faults.DeskFault.{DeskFault}
use Rattle.ak_edit.specs.declared.desk_faults.DeskFault.TheVariants as faults
use Rattle.ak_imports.proofs.Passing.{end_passes, start_passes}
use Rattle.ak_imports.proofs.Taking.{is_outside}
use Rattle.ak_imports.proofs.Tellings.{told_at}
use Rattle.ak_imports.specs.Guids.{AreGuidsOf}
use Rattle.ak_imports.specs.Imports.{AreRecordsDone, DoesImport, IsImported, IsOutside, IsRecordDone, IsRefusedAt, Progress, RefusesImport, arrival_of, counted, edit_to, numbered, start_of}
use Rattle.ak_imports.specs.KeptRows.{HoldsCollection}
use Rattle.ak_imports.specs.UnderWay.{IsUnderWay, RefusesOne, RefusesUnderWay, TakesRecord, TakesAll}
use Rattle.ak_imports.specs.declared.imports.Arrival.{Arrival}
use Rattle.ak_imports.specs.declared.imports.Import.{Import}
use Rattle.ak_imports.specs.declared.imports.Imported.{Imported}
use Rattle.ak_imports.specs.declared.imports.NotesFault.{NotesFault}
use Rattle.ak_imports.specs.declared.imports.Outcome.{Outcome}
use Rattle.ak_imports.specs.declared.imports.Outcome.TheVariants as outcomes
use Rattle.ak_imports.specs.declared.records.Record.{Record}
use Rattle.ak_imports.specs.declared.works.Work.{Work}
use Rattle.ak_keep.specs.Collections.{Collection, Holding, IsWellFormed, collection_of}
use Rattle.ak_keep.specs.Keepers.{Keeping, WhereHeld, WhereTold, marked_here}
use Rattle.ak_keep.specs.Marks as marks
use Rattle.ak_keep.specs.Marks.{WithMark}
use Rattle.ak_merge.proofs.Finding.{checked_of_formed}
use Rattle.ak_undo.specs.declared.steps.Step.{Step}

-- ---- one after another
one_more : (arrival : Arrival) (front : List Record) (r : Record) (p q after : Progress) → AreRecordsDone arrival front p q → IsRecordDone arrival r q after → AreRecordsDone arrival (front ++ r ∷ []) p after
one_more arrival [] r p q after are is = (after, subst (λ (s : Progress). IsRecordDone arrival r s after) are is, refl)
one_more arrival (first ∷ front) r p q after are is = (are.0, are.1, one_more arrival front r are.0 q after are.2 is)

-- one outcome more is counted
pub one_counted : (how : Outcome) (n : Imported) → (counted how n).added + ((counted how n).updated + (counted how n).same) ≡ n.added + (n.updated + n.same) + 1
one_counted outcomes.Added n = omega arith
one_counted outcomes.Updated n = omega arith
one_counted outcomes.Same n = omega arith

-- the records of the front were done, and the others are left
pub record HasTaken (arrival : Arrival) (all rest : List Record) (so_far : ℕ) (c : Collection) (imported : Imported) (work : Work) (k : Keeping) : Type 0 where
  pub front : List Record
  pub split : all ≡ front ++ rest
  pub number : so_far ≡ length front
  pub after : Progress
  pub done : AreRecordsDone arrival front (start_of c) after
  pub counts : imported ≡ after.counts
  pub under_way : IsUnderWay arrival.at c after work k

-- the same, if it is told what is held
abbrev pub TakesFront : Arrival → List Record → List Record → ℕ → Imported → Work → Keeping → Work → Keeping → Type 0
TakesFront arrival all rest number counts work k work_after k_after =
    (c : Collection) → IsUnderWay arrival.at c (start_of c) work k → HasTaken arrival all rest number c counts work_after k_after

pub none_taken : (arrival : Arrival) (all : List Record) (work : Work) (k : Keeping) → TakesFront arrival all all 0 (record { added = 0; updated = 0; same = 0 }) work k work k
none_taken arrival all work k c under_way = record { front = []; split = refl; number = refl; after = start_of c; done = refl; counts = refl; under_way = under_way }

pub one_taken : (arrival : Arrival) (all rest : List Record) (r : Record) (number : ℕ) (counts : Imported) (how : Outcome) (work mid after : Work) (k k_mid k_after : Keeping)
    → TakesFront arrival all (r ∷ rest) number counts work k mid k_mid → TakesRecord arrival r how mid k_mid after k_after
    → TakesFront arrival all rest (number + 1) (counted how counts) work k after k_after
one_taken arrival all rest r number counts how work mid after k k_mid k_after so_far takes c under_way =
    let was = so_far c under_way in
    let one = takes c was.after was.under_way in
    record {
      front = was.front ++ r ∷ [];
      split = was.split ∙ sym (append_assoc was.front (r ∷ []) rest);
      number = ap (λ (n : ℕ). n + 1) was.number ∙ sym (length_push was.front r);
      after = one.after;
      done = one_more arrival was.front r (start_of c) was.after one.after was.done one.done;
      counts = ap (counted how) was.counts ∙ sym one.counts;
      under_way = one.under_way;
    }

pub all_taken : (arrival : Arrival) (all : List Record) (number : ℕ) (counts : Imported) (work after : Work) (k k_after : Keeping) → TakesFront arrival all [] number counts work k after k_after
    → TakesAll arrival all counts work k after k_after
all_taken arrival all number counts work after k k_after takes c under_way =
    let was = takes c under_way in
    record {
      after = was.after;
      done = subst (λ (l : List Record). AreRecordsDone arrival l (start_of c) was.after) (sym (was.split ∙ append-nil was.front)) was.done;
      counts = was.counts;
      under_way = was.under_way;
    }

-- ---- a record that is refused
numbered_is : (number : ℕ) (fault : DeskFault) → (IsFromOutside fault → ⊥) → numbered number fault ≡ record { at_record = number; fault = fault }
numbered_is number (faults.NoSuch name) inside = refl
numbered_is number (faults.FieldCount want got) inside = refl
numbered_is number (faults.DefaultKept name) inside = refl
numbered_is number faults.StampEnd inside = refl
numbered_is number faults.IdEnd inside = refl
numbered_is number (faults.Row fault) inside = refl
numbered_is number (faults.Template fault) inside = refl
numbered_is number (faults.NotAnswerable queue) inside = refl
numbered_is number faults.NothingToUndo inside = refl
numbered_is number faults.SchemaAsk inside = refl
numbered_is number (faults.InUse name) inside = refl
numbered_is number faults.Failed inside = absurd (inside (inl refl))
numbered_is number (faults.BadMap place) inside = refl
numbered_is number (faults.Page fault) inside = refl
numbered_is number faults.Memory inside = absurd (inside (inr refl))

outside_numbered : (number : ℕ) (fault : DeskFault) → IsFromOutside fault → IsOutside (numbered number fault)
outside_numbered number fault outside = elim outside [
  | inl is ↦ subst (λ (f : DeskFault). IsOutside (numbered number f)) (sym is) (record { number = refl; cause = inl refl })
  | inr is ↦ subst (λ (f : DeskFault). IsOutside (numbered number f)) (sym is) (record { number = refl; cause = inr refl })
]

pub one_refused : (arrival : Arrival) (all rest : List Record) (r : Record) (number : ℕ) (counts : Imported) (fault : DeskFault) (work mid : Work) (k k_mid : Keeping)
    → TakesFront arrival all (r ∷ rest) number counts work k mid k_mid → IsFromOutside fault ⊎ RefusesUnderWay arrival r mid k_mid fault
    → IsOutside (numbered (number + 1) fault) ⊎ RefusesOne arrival all work k (numbered (number + 1) fault)
one_refused arrival all rest r number counts fault work mid k k_mid so_far either = elim (is_outside fault) [
  | inl outside ↦ inl (outside_numbered (number + 1) fault outside)
  | inr inside ↦ inr (λ c under_way.
      let was = so_far c under_way in
      subst (IsRefusedAt arrival all c) (sym (numbered_is (number + 1) fault inside)) (record {
        before = was.front;
        refused = r;
        after = rest;
        split = was.split;
        number = ap (λ (n : ℕ). n + 1) was.number;
        mid = was.after;
        done = was.done;
        for_this = elim either [ inl outside ↦ absurd (inside outside) | inr refuses ↦ refuses c was.after was.under_way ];
      }))
]

-- ---- the whole call
-- where it is told what is held and this has a head, it tells that collection at its mark
told_here : (told : Option (WithMark Holding)) (P : Collection → Type 0) → ((w : WithMark Holding) (head : Head) → told ≡ Some w → w.current.head ≡ Some head → P (record { rows = w.current.rows; head = head }))
    → IfSome told (λ w. IfSome (collection_of w.current) P)
told_here None P all = tt
told_here (Some w) P all =
    elim w.current.head as (λ (o : Option Head). w.current.head ≡ o → IfSome (collection_of (record { rows = w.current.rows; head = o })) P) [
      | None ↦ λ _. tt
      | Some head ↦ λ is. all w head refl is
    ] refl

pub where_held : (k : Keeping) (P : Collection → Type 0) → ((c : Collection) → HoldsCollection k c → P c) → WhereHeld k P
where_held k P all = told_here k.told P (λ w head told is.
    let c : Collection = record { rows = w.current.rows; head = head } in
    all c (record { both = w; told = told; current = ap (λ (o : Option Head). let h : Holding = record { rows = w.current.rows; head = o } in h) is }))

pub held_at : (k : Keeping) (c : Collection) (P : Collection → Type 0) → HoldsCollection k c → WhereHeld k P → P c
held_at k c P tells is = told_at k c (λ h. IfSome (collection_of h) P) tells is

marked_tells : (k : Keeping) (c : Collection) → HoldsCollection k c → HoldsCollection (marked_here k) c
marked_tells k c tells = record {
  both = marks.marked_here tells.both;
  told = ap (option_map marks.marked_here) tells.told;
  current = tells.current;
}

begins : (k : Keeping) (at : ℤ) (c : Collection) (work : Work) → WhereTold k (λ h. AreGuidsOf work.guids h.rows) → work.change ≡ unchanged → HoldsCollection k c → IsUnderWay at c (start_of c) work (marked_here k)
begins k at c work guids change tells = record {
  tells = marked_tells k c tells;
  guids = told_at k c (λ h. AreGuidsOf work.guids h.rows) tells guids;
  edit = ap (λ (o : Overlay). edit_of o c) change ∙ nothing_asked c;
  passed = start_passes at c (start_of c) refl refl;
}

-- all records were done, and the edit was ended
pub imports : (k marked after_all now : Keeping) (at : ℤ) (given : Import) (counts : Imported) (work after : Work) (steps left : List Step) → WhereTold k (λ h. AreGuidsOf work.guids h.rows) → work.change ≡ unchanged
    → marked ≡ marked_here k → TakesAll (arrival_of given at) given.records counts work marked after after_all → FinishedBy at after.change k now steps left → DoesImport at given k now steps left counts
imports k marked after_all now at given counts work after steps left guids change is takes finished =
    where_held k (λ c. IsImported at given c k now steps left counts) (λ c tells.
    let all = takes c (subst (IsUnderWay at c (start_of c) work) (sym is) (begins k at c work guids change tells)) in
    record {
      end = all.after;
      each = all.done;
      done = subst (λ e. IsFinished at c e k now steps left) all.under_way.edit (held_at k c (λ c. IsFinished at c (edit_of after.change c) k now steps left) tells finished);
      counts = all.counts;
    })

-- a record is refused
pub import_refused : (k marked : Keeping) (at : ℤ) (given : Import) (work : Work) (fault : NotesFault) → WhereTold k (λ h. AreGuidsOf work.guids h.rows) → work.change ≡ unchanged → marked ≡ marked_here k
    → IsOutside fault ⊎ RefusesOne (arrival_of given at) given.records work marked fault → IsOutside fault ⊎ RefusesImport at given k fault
import_refused k marked at given work fault guids change is either = elim either [
  | inl outside ↦ inl outside
  | inr refuses ↦ inr (where_held k (λ c. IsRefusedAt (arrival_of given at) given.records c fault)
      (λ c tells. refuses c (subst (IsUnderWay at c (start_of c) work) (sym is) (begins k at c work guids change tells))))
]

-- the end of the edit is refused from outside only
pub end_outside : (k marked after_all : Keeping) (at : ℤ) (given : Import) (counts : Imported) (work after : Work) (fault : DeskFault) → WhereTold k (λ h. AreGuidsOf work.guids h.rows) → work.change ≡ unchanged
    → marked ≡ marked_here k → TakesAll (arrival_of given at) given.records counts work marked after after_all → WhereTold after_all IsWellFormed
    → AnswersEnd {T = Unit {0}} at after.change k (Err fault) → IsOutside (record { at_record = 0; fault = fault }) ⊎ RefusesImport at given k (record { at_record = 0; fault = fault })
end_outside k marked after_all at given counts work after fault guids change is takes formed answers = elim (is_outside fault) [
  | inl outside ↦ inl (record { number = refl; cause = outside })
  | inr inside ↦ inr (where_held k (λ c. IsRefusedAt (arrival_of given at) given.records c (record { at_record = 0; fault = fault })) (λ c tells.
      let all = takes c (subst (IsUnderWay at c (start_of c) work) (sym is) (begins k at c work guids change tells)) in
      let q : Collection = all.after.collection in
      let answer : AnswersBy {T = Unit {0}} (RefusesEnd at c (edit_of after.change c)) (Err fault) = held_at k c (λ c. AnswersBy {T = Unit {0}} (RefusesEnd at c (edit_of after.change c)) (Err fault)) tells answers in
      let refuses : RefusesEnd at c (edit_to q all.after.tags) fault =
      subst (λ e. RefusesEnd at c e fault) all.under_way.edit (elim answer.refused [ inl outside ↦ absurd (inside outside) | inr refuses ↦ refuses ]) in
      absurd (end_passes at c all.after fault (checked_of_formed (record { rows = q.rows; head = Some q.head }) (told_at after_all q IsWellFormed all.under_way.tells formed)) all.under_way.passed refuses)))
]

-- Pieces written one after another.
use Rattle.std.proofs.Common.{◌≡◌, ℕ, ℤ, pos, suc, ◌+◌, ◌<◌, List, ◌∷◌, ◌++◌, length, drop, get_or, Option, ap, ◌∙◌, subst, sym, append_assoc, drop-cons, add-one, refl, codes, Result, Ok, Err, OnOk, OnErr}
use Rattle.std.specs.Fmt.{signed_decimal}
use Rattle.std.specs.Io.KnownBytes.{Appends}
use Rattle.std.proofs.KnownBytes.{Appends-trans}
use Rattle.ak_desk_texts.specs.AnswerTexts.{check_fault_text, ids_text}
use Rattle.ak_io.proofs.Scripts.{goes_on, part_after, part_longer, stops}
use Rattle.ak_io.specs.Scripts.{AppendsPart, Reached}
use Rattle.ak_io.specs.declared.traits.Failed.{Failed}
use Rattle.ak_merge.specs.declared.checks.CheckFault.{CheckFault}

-- a part was written, told of a call that failed
pub told : (r : Result (Unit {0}) Failed) (w w' : Option (List ℕ)) (bytes : List ℕ) → AppendsPart w w' bytes → OnErr r (AppendsPart w w' bytes)
told (Ok made) w w' bytes part = tt
told (Err failed) w w' bytes part = part

-- ---- words and a number after what there is
-- a part is a part of what is longer by these
pub longer : (w w' : Option (List ℕ)) (a x y : List ℕ) → AppendsPart w w' a → AppendsPart w w' (a ++ x ++ y)
longer w w' a x y part = part_longer w w' (a ++ x) y (part_longer w w' a x part)

-- they were written next
pub next_written : (w0 w1 w2 : Option (List ℕ)) (a x y : List ℕ) → Appends w0 w1 a → Appends w1 w2 (x ++ y) → Appends w0 w2 (a ++ x ++ y)
next_written w0 w1 w2 a x y first next = subst (Appends w0 w2) (sym (append_assoc a x y)) (Appends-trans w0 w1 w2 a (x ++ y) first next)

-- a part of them was written next
pub next_part : (w0 w1 w2 : Option (List ℕ)) (a x y : List ℕ) → Appends w0 w1 a → AppendsPart w1 w2 (x ++ y) → AppendsPart w0 w2 (a ++ x ++ y)
next_part w0 w1 w2 a x y first part = subst (AppendsPart w0 w2) (sym (append_assoc a x y)) (part_after w0 w1 w2 a (x ++ y) first part)

-- ---- a fault
pub fault_written : (r : Result (Unit {0}) Failed) (w w' : Option (List ℕ)) (fault said : CheckFault) → fault ≡ said
    → OnOk r (Appends w w' (check_fault_text said)) → OnOk r (Appends w w' (check_fault_text fault))
fault_written r w w' fault said is written = subst (λ (f : CheckFault). OnOk r (Appends w w' (check_fault_text f))) (sym is) written

pub fault_part : (r : Result (Unit {0}) Failed) (w w' : Option (List ℕ)) (fault said : CheckFault) → fault ≡ said
    → OnErr r (AppendsPart w w' (check_fault_text said)) → OnErr r (AppendsPart w w' (check_fault_text fault))
fault_part r w w' fault said is part = subst (λ (f : CheckFault). OnErr r (AppendsPart w w' (check_fault_text f))) (sym is) part

-- ---- ids
-- an id with a space before it
abbrev id_text : ℤ → List ℕ
id_text id = codes " " ++ signed_decimal id

-- the ids from a place on
ids_left : (ids : List ℤ) (i : ℕ) → i < length ids → ids_text (drop i ids) ≡ id_text (get_or ids i (pos 0)) ++ ids_text (drop (i + 1) ids)
ids_left ids i within =
    let id : ℤ = get_or ids i (pos 0) in
    let next : ids_text (id ∷ drop (suc i) ids) ≡ id_text id ++ ids_text (drop (i + 1) ids) = rw add-one refl in
    ap ids_text (drop-cons ids i (pos 0) within) ∙ next

-- one more was written
pub id_written : (w0 w1 w2 : Option (List ℕ)) (whole : List ℕ) (ids : List ℤ) (i : ℕ) → i < length ids
    → Reached w0 w1 whole (ids_text (drop i ids)) → Appends w1 w2 (id_text (get_or ids i (pos 0))) → Reached w0 w2 whole (ids_text (drop (i + 1) ids))
id_written w0 w1 w2 whole ids i within reached written =
    goes_on w0 w1 w2 whole (id_text (get_or ids i (pos 0))) _ (subst (Reached w0 w1 whole) (ids_left ids i within) reached) written

-- a part of one more was written
pub id_stopped : (w0 w1 w2 : Option (List ℕ)) (whole : List ℕ) (ids : List ℤ) (i : ℕ) → i < length ids
    → Reached w0 w1 whole (ids_text (drop i ids)) → AppendsPart w1 w2 (id_text (get_or ids i (pos 0))) → AppendsPart w0 w2 whole
id_stopped w0 w1 w2 whole ids i within reached part =
    stops w0 w1 w2 whole (id_text (get_or ids i (pos 0))) _ (subst (Reached w0 w1 whole) (ids_left ids i within) reached) part

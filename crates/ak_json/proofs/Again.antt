-- What was written of a row in its ranges is read again.
use Rattle.std.proofs.Common.{◌≡◌, ℕ, ◌<◌, ◌≤◌, ◌^◌, ℤ, pos, negsuc, List, [], ◌∷◌, Option, Some, None, Ok, Bool, true, false, ◌||◌, refl, arith}
use Rattle.std.specs.Prelude.{if◌then◌else◌, nat_lt}
use Rattle.std.proofs.lemmas.Grind.{common_steps}
use Rattle.std.proofs.lemmas.Bool.Decides.{nat_tests}
use Rattle.serde_json.specs.Find.{as_i64, of_integer}
use Rattle.ak_base.specs.Columns.{id_fault, id_or_zero_fault, stamp_fault, code_fault, first_fault}
use Rattle.ak_base.specs.Reviews.{review_faults}
use Rattle.ak_base.specs.Graves.{grave_faults}
use Rattle.ak_base.specs.Notes.{note_faults, identity_faults, content_faults}
use Rattle.ak_base.specs.Cards.{card_faults, place_faults, schedule_faults, mark_faults}
use Rattle.ak_base.specs.declared.errors.RowFault.{RowFault}
use Rattle.ak_base.specs.declared.notes.Note.{Note}
use Rattle.ak_base.specs.declared.cards.Card.{Card}
use Rattle.ak_base.specs.declared.reviews.Review.{Review}
use Rattle.ak_base.specs.declared.graves.Grave.{Grave}
use Rattle.ak_json.specs.FormFaults.{array_form_fault}
use Rattle.ak_json.specs.Arrays.{note_at, card_at, review_at, grave_at}
use Rattle.ak_json.specs.Written.{note_cells, card_cells, review_cells, grave_cells, note_json, card_json, review_json, grave_json}
use Rattle.ak_json.specs.Forms.{note_form, card_form, review_form, grave_form}

-- a number that is read as it was written
abbrev pub IsReadAgain : ℤ → Type 0
IsReadAgain z = as_i64 (of_integer z) ≡ Some z

abbrev pub AllNone : List (Option RowFault) → Type 0
AllNone [] = Unit {0}
AllNone (fault ∷ faults) = (fault ≡ None) × AllNone faults

pub all_none : (faults : List (Option RowFault)) (good : Unit {0}) → first_fault faults ≡ Ok good → AllNone faults
all_none [] good e = tt
all_none (None ∷ faults) good e = (refl, all_none faults good e)
all_none (Some fault ∷ faults) good e = cc

pub small_again : (n : ℕ) → n < 2 ^ 63 → IsReadAgain (pos n)
small_again n h = grind (arith, nat_tests, common_steps)

-- a number in its range is not over it
pub below : (low high : Bool) (fault : RowFault) → (if low || high then Some fault else None) ≡ None → high ≡ false
below true high fault e = cc
below false true fault e = cc
below false false fault e = refl

pub at_most : (m n : ℕ) → nat_lt m n ≡ false → n ≤ m
at_most m n e = grind (arith, nat_tests)

not_over : (m n : ℕ) → m < 2 ^ 63 → nat_lt m n ≡ false → IsReadAgain (pos n)
not_over m n h e = let k : n ≤ m = at_most m n e in small_again n (omega arith)

pub code_again : (c m : ℕ) (z least : ℤ) → m < 2 ^ 63 → code_fault c z least (pos m) ≡ None → IsReadAgain z
unfolding code_fault
code_again c m (pos n) least h e = not_over m n h (below _ _ _ e)
code_again c m (negsuc n) least h e = refl

pub id_again : (z : ℤ) → id_fault z ≡ None → IsReadAgain z
unfolding id_fault
id_again (pos n) e = not_over 9_007_199_254_740_991 n (omega arith) (below _ _ _ e)
id_again (negsuc n) e = refl

id_or_zero_again : (z : ℤ) → id_or_zero_fault z ≡ None → IsReadAgain z
unfolding id_or_zero_fault
id_or_zero_again (pos n) e = not_over 9_007_199_254_740_991 n (omega arith) (below _ _ _ e)
id_or_zero_again (negsuc n) e = refl

pub stamp_again : (z : ℤ) → stamp_fault z ≡ None → IsReadAgain z
unfolding stamp_fault
stamp_again (pos n) e = not_over 4_294_967_295 n (omega arith) (below _ _ _ e)
stamp_again (negsuc n) e = refl

-- an array has the form, and its row is the one that was written
pub record IsGrave (g : Grave) : Type 0 where
  pub form : array_form_fault grave_form (grave_json g) ≡ None
  pub row : grave_at (grave_json g) ≡ g

pub grave_again : (g : Grave) (good : Unit {0}) → first_fault (grave_faults g) ≡ Ok good → IsGrave g
unfolding grave_cells grave_at
grave_again g good e =
    let all : AllNone (grave_faults g) = all_none (grave_faults g) good e in
    let usn : IsReadAgain g.usn = code_again 0 2_147_483_647 g.usn (negsuc 0) (omega arith) all.0 in
    let oid : IsReadAgain g.oid = id_again g.oid all.1.0 in
    let kind : IsReadAgain g.kind = code_again 2 2 g.kind (pos 0) (omega arith) all.1.1.0 in
    record { form = rw (usn, oid, kind) refl; row = rw (usn, oid, kind) refl }

pub record IsReview (r : Review) : Type 0 where
  pub form : array_form_fault review_form (review_json r) ≡ None
  pub row : review_at (review_json r) ≡ r

pub review_again : (r : Review) (good : Unit {0}) → first_fault (review_faults r) ≡ Ok good → IsReview r
unfolding review_cells review_at
review_again r good e =
    let all : AllNone (review_faults r) = all_none (review_faults r) good e in
    let id : IsReadAgain r.id = id_again r.id all.0 in
    let cid : IsReadAgain r.cid = id_again r.cid all.1.0 in
    let usn : IsReadAgain r.usn = code_again 2 2_147_483_647 r.usn (negsuc 0) (omega arith) all.1.1.0 in
    let ease : IsReadAgain r.ease = code_again 3 4 r.ease (pos 0) (omega arith) all.1.1.1.0 in
    let ivl : IsReadAgain r.ivl = code_again 4 1_000_000 r.ivl (negsuc 999_999_999) (omega arith) all.1.1.1.1.0 in
    let last_ivl : IsReadAgain r.last_ivl = code_again 5 1_000_000 r.last_ivl (negsuc 999_999_999) (omega arith) all.1.1.1.1.1.0 in
    let factor : IsReadAgain r.factor = code_again 6 100_000 r.factor (pos 0) (omega arith) all.1.1.1.1.1.1.0 in
    let time : IsReadAgain r.time = code_again 7 4_294_967_295 r.time (pos 0) (omega arith) all.1.1.1.1.1.1.1.0 in
    let kind : IsReadAgain r.kind = code_again 8 3 r.kind (pos 0) (omega arith) all.1.1.1.1.1.1.1.1.0 in
    record {
      form = rw (id, cid, usn, ease, ivl, last_ivl, factor, time, kind) refl;
      row = rw (id, cid, usn, ease, ivl, last_ivl, factor, time, kind) refl;
    }

pub record IsNote (n : Note) : Type 0 where
  pub form : array_form_fault note_form (note_json n) ≡ None
  pub row : note_at (note_json n) ≡ n

pub note_again : (n : Note) (good : Unit {0}) → first_fault (note_faults n) ≡ Ok good → IsNote n
unfolding note_cells note_at identity_faults content_faults
note_again n good e =
    let all : AllNone (note_faults n) = all_none (note_faults n) good e in
    let id : IsReadAgain n.id = id_again n.id all.0 in
    let mid : IsReadAgain n.mid = id_again n.mid all.1.1.0 in
    let stamp : IsReadAgain n.stamp = stamp_again n.stamp all.1.1.1.0 in
    let usn : IsReadAgain n.usn = code_again 4 2_147_483_647 n.usn (negsuc 0) (omega arith) all.1.1.1.1.0 in
    let csum : IsReadAgain n.csum = code_again 8 4_294_967_295 n.csum (pos 0) (omega arith) all.1.1.1.1.1.1.1.1.0 in
    let flags : IsReadAgain n.flags = code_again 9 2_147_483_647 n.flags (pos 0) (omega arith) all.1.1.1.1.1.1.1.1.1.0 in
    record {
      form = rw (id, mid, stamp, usn, csum, flags) refl;
      row = rw (id, mid, stamp, usn, csum, flags) refl;
    }

pub record IsCard (c : Card) : Type 0 where
  pub form : array_form_fault card_form (card_json c) ≡ None
  pub row : card_at (card_json c) ≡ c

pub card_again : (c : Card) (good : Unit {0}) → first_fault (card_faults c) ≡ Ok good → IsCard c
unfolding card_cells card_at place_faults schedule_faults mark_faults
card_again c good e =
    let all : AllNone (card_faults c) = all_none (card_faults c) good e in
    let from6 = all.1.1.1.1.1.1 in
    let from12 = from6.1.1.1.1.1.1 in
    let id : IsReadAgain c.id = id_again c.id all.0 in
    let nid : IsReadAgain c.nid = id_again c.nid all.1.0 in
    let did : IsReadAgain c.did = id_again c.did all.1.1.0 in
    let ord : IsReadAgain c.ord = code_again 3 499 c.ord (pos 0) (omega arith) all.1.1.1.0 in
    let stamp : IsReadAgain c.stamp = stamp_again c.stamp all.1.1.1.1.0 in
    let usn : IsReadAgain c.usn = code_again 5 2_147_483_647 c.usn (negsuc 0) (omega arith) all.1.1.1.1.1.0 in
    let kind : IsReadAgain c.kind = code_again 6 3 c.kind (pos 0) (omega arith) from6.0 in
    let queue : IsReadAgain c.queue = code_again 7 3 c.queue (negsuc 2) (omega arith) from6.1.0 in
    let due : IsReadAgain c.due = code_again 8 1_099_511_627_776 c.due (negsuc 2_147_483_647) (omega arith) from6.1.1.0 in
    let ivl : IsReadAgain c.ivl = code_again 9 1_000_000 c.ivl (pos 0) (omega arith) from6.1.1.1.0 in
    let factor : IsReadAgain c.factor = code_again 10 100_000 c.factor (pos 0) (omega arith) from6.1.1.1.1.0 in
    let reps : IsReadAgain c.reps = code_again 11 2_147_483_647 c.reps (pos 0) (omega arith) from6.1.1.1.1.1.0 in
    let lapses : IsReadAgain c.lapses = code_again 12 2_147_483_647 c.lapses (pos 0) (omega arith) from12.0 in
    let left : IsReadAgain c.left = code_again 13 999_999 c.left (pos 0) (omega arith) from12.1.0 in
    let odue : IsReadAgain c.odue = code_again 14 1_099_511_627_776 c.odue (negsuc 2_147_483_647) (omega arith) from12.1.1.0 in
    let odid : IsReadAgain c.odid = id_or_zero_again c.odid from12.1.1.1.0 in
    let flags : IsReadAgain c.flags = code_again 16 2_147_483_647 c.flags (pos 0) (omega arith) from12.1.1.1.1.0 in
    record {
      form = rw (id, nid, did, ord, stamp, usn, kind, queue, due, ivl, factor, reps, lapses, left, odue, odid, flags) refl;
      row = rw (id, nid, did, ord, stamp, usn, kind, queue, due, ivl, factor, reps, lapses, left, odue, odid, flags) refl;
    }

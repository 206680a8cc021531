-- The edit of a day's start, and when it is refused.
use Rattle.std.specs.Prelude.{◌≡◌, ℕ, ℤ, pos, ◌+ℤ◌, ◌*ℤ◌, ◌≤ℤ◌, ◌<ℤ◌, Bool, true, false, if◌then◌else◌, IfSome, List, [], Option, Some, None, Result, Ok, Err}
use Rattle.std.proofs.Common.{refl, sym, ap, subst, ◌∙◌, inl, inr, arith}
use Rattle.std.proofs.Math.Path.{fun_ext}
use Rattle.std.proofs.lemmas.Int.{ints}
use Rattle.std.proofs.lemmas.Option.{none-some, same_Some}
use Rattle.std.specs.Option.{option_map, unwrap_or}
use Rattle.ak_base.specs.Days.{IsDayOf}
use Rattle.ak_base.specs.Rows.{IsChecked}
use Rattle.ak_base.specs.declared.days.Day.{Day}
use Rattle.ak_base.specs.declared.heads.Conf.{Conf}
use Rattle.ak_base.specs.declared.heads.Head.{Head}
use Rattle.ak_base.specs.declared.names.Name.{Name}
use Rattle.ak_base.specs.declared.rows.Row.{Row}
use Rattle.ak_base.specs.declared.rows.Row.TheVariants as rows
use Rattle.ak_edit_calls.proofs.Answering.{never_first}
use Rattle.ak_edit_calls.proofs.CheckedEdits.{checked_edits_pass}
use Rattle.ak_edit_calls.proofs.Overlaying.{rest_of}
use Rattle.ak_edit_calls.proofs.Telling.{where_held-both}
use Rattle.ak_edit.specs.Ends.{AnswersEnd, FinishedBy, IsFinished, IsHeldRightly, RefusesEnd, RefusesRow, RefusesStamp}
use Rattle.ak_edit.specs.Overlays.{Overlay, edit_of, row_over, unchanged}
use Rattle.ak_edit.specs.Refusals.{AnswersBy, Refusal}
use Rattle.ak_edit.specs.declared.desk_faults.DeskFault.{DeskFault}
use Rattle.ak_keep.proofs.Told.{where_told-map}
use Rattle.ak_keep.specs.Collections.{Collection, Holding, collection_of}
use Rattle.ak_keep.specs.Keepers.{Keeping, WhereHeld, WhereTold}
use Rattle.ak_merge.specs.EditBuilding.{unedited, with_conf, with_rows_mapped}
use Rattle.ak_merge.specs.Edits.{Edit}
use Rattle.ak_keep.specs.Graves.{RowsByName}
use Rattle.ak_merge.specs.Holdings.{AreChecked, AreNamed, row_under}
use Rattle.ak_study.proofs.BegunDays.{begun_rest, begun_under}
use Rattle.ak_study.proofs.PlacedCards.{unbury_keeps}
use Rattle.ak_study.specs.DayStarts.{HasBegun, HasStarted, OnDay, RefusesStart, StartsDay, begun_on, begun_over, day_start, is_new_day, unburied_row}
use Rattle.ak_study.specs.declared.day_starts.Begun.{Begun}
use Rattle.ak_undo.specs.declared.steps.Step.{Step}

-- ---- the day of a moment
same_second : (at one other : ℤ) → (one *ℤ pos 1000) ≤ℤ at → at <ℤ ((one +ℤ pos 1) *ℤ pos 1000) → (other *ℤ pos 1000) ≤ℤ at → at <ℤ ((other +ℤ pos 1) *ℤ pos 1000) → one ≡ other
same_second at one other begun lasts also too = omega (arith, ints, begun, lasts, also, too)

same_number : (crt now one other : ℤ) → (crt +ℤ (one *ℤ pos 86_400)) ≤ℤ now → now <ℤ ((crt +ℤ (one *ℤ pos 86_400)) +ℤ pos 86_400)
    → (crt +ℤ (other *ℤ pos 86_400)) ≤ℤ now → now <ℤ ((crt +ℤ (other *ℤ pos 86_400)) +ℤ pos 86_400) → one ≡ other
same_number crt now one other begun lasts also too = omega (arith, ints, begun, lasts, also, too)

same_day : (crt : ℤ) (one other : Day) → one.now ≡ other.now → one.number ≡ other.number → one.cutoff ≡ (crt +ℤ (one.number *ℤ pos 86_400)) +ℤ pos 86_400
    → other.cutoff ≡ (crt +ℤ (other.number *ℤ pos 86_400)) +ℤ pos 86_400 → one ≡ other
same_day crt one other now number cutoff also =
    let ends : one.cutoff ≡ other.cutoff = cutoff ∙ ap (λ (n : ℤ). (crt +ℤ (n *ℤ pos 86_400)) +ℤ pos 86_400) number ∙ sym also in
    ap (λ (n : ℤ). let day : Day = record { now = n; number = one.number; cutoff = one.cutoff } in day) now
    ∙ ap (λ (n : ℤ). let day : Day = record { now = other.now; number = n; cutoff = one.cutoff } in day) number
    ∙ ap (λ (n : ℤ). let day : Day = record { now = other.now; number = other.number; cutoff = n } in day) ends

pub day_is_one : (crt at : ℤ) (one other : Day) → IsDayOf crt at one → IsDayOf crt at other → one ≡ other
day_is_one crt at one other is also =
    let now : one.now ≡ other.now = same_second at one.now other.now is.second_begun is.second_lasts also.second_begun also.second_lasts in
    let lasts : one.now <ℤ ((crt +ℤ (one.number *ℤ pos 86_400)) +ℤ pos 86_400) = subst (λ (n : ℤ). one.now <ℤ n) is.cutoff is.lasts in
    let begun : (crt +ℤ (other.number *ℤ pos 86_400)) ≤ℤ one.now = subst (λ (n : ℤ). (crt +ℤ (other.number *ℤ pos 86_400)) ≤ℤ n) (sym now) also.begun in
    let too : one.now <ℤ ((crt +ℤ (other.number *ℤ pos 86_400)) +ℤ pos 86_400) =
    subst (λ (n : ℤ). n <ℤ ((crt +ℤ (other.number *ℤ pos 86_400)) +ℤ pos 86_400)) (sym now) (subst (λ (n : ℤ). other.now <ℤ n) also.cutoff also.lasts) in
    same_day crt one other now (same_number crt one.now one.number other.number is.begun lasts begun too) is.cutoff also.cutoff

-- an answer by the tests of the day is one by those of the moment
pub answers_on_day : {T : Type 0} (at : ℤ) (c : Collection) (tests : Day → Refusal) (day : Day) (result : Result T DeskFault) → IsDayOf c.head.crt at day → AnswersBy (tests day) result → AnswersBy (OnDay at c tests) result
answers_on_day at c tests day (Ok value) is answers = record {
  accepted = λ fault refuses. answers.accepted fault (subst (λ (d : Day). tests d fault) (day_is_one c.head.crt at refuses.0 day refuses.1 is) refuses.2);
  refused = tt;
}
answers_on_day at c tests day (Err fault) is answers = record {
  accepted = tt;
  refused = elim answers.refused [ inl outside ↦ inl outside | inr refuses ↦ inr (day, is, refuses) ];
}

-- changes ask for the edit that has these rows by name, and the rest that they say
pub edit_with_rest : (o : Overlay) (c : Collection) (made : RowsByName) (rest : Option Conf × (List (List ℕ) × Bool)) → rest_of o ≡ rest → ((name : Name) → row_over o (row_under c) name ≡ made name)
    → edit_of o c ≡ record { rows = made; conf = unwrap_or rest.0 c.head.conf; tags = rest.1.0; schema = rest.1.1 }
edit_with_rest o c made rest is rows =
    ap (λ (r : Option Conf × (List (List ℕ) × Bool)). let e : Edit = record { rows = row_over o (row_under c); conf = unwrap_or r.0 c.head.conf; tags = r.1.0; schema = r.1.1 } in e) is
    ∙ ap (λ (at : RowsByName). let e : Edit = record { rows = at; conf = unwrap_or rest.0 c.head.conf; tags = rest.1.0; schema = rest.1.1 } in e) (fun_ext rows)

-- the edit of a day that starts
abbrev started : Day → Collection → Edit
started day c = with_conf (begun_on day c.head.conf) (with_rows_mapped unburied_row (unedited c))

abbrev begun_edit : Bool → Day → Collection → Edit
begun_edit starts day c = record {
  rows = λ name. if starts then option_map unburied_row (row_under c name) else row_under c name;
  conf = unwrap_or (if starts then Some (begun_on day c.head.conf) else None) c.head.conf;
  tags = [];
  schema = false;
}

either_edit : (starts : Bool) (day : Day) (c : Collection) → begun_edit starts day c ≡ (if starts then started day c else unedited c)
either_edit true day c = refl
either_edit false day c = refl

pub start_edit : (begun : Begun) (c : Collection) → AreNamed (row_under c) → AreChecked (row_under c) → begun.starts ≡ is_new_day begun.day c.head.conf
    → edit_of (begun_over begun c.rows c.head.conf unchanged) c ≡ day_start begun.day c
start_edit begun c named checked starts =
    edit_with_rest (begun_over begun c.rows c.head.conf unchanged) c (λ name. if begun.starts then option_map unburied_row (row_under c name) else row_under c name)
    ((if begun.starts then Some (begun_on begun.day c.head.conf) else None), ([], false))
    (begun_rest begun c.rows c.head.conf) (λ name. begun_under begun c.rows c.head.conf name named checked)
    ∙ either_edit begun.starts begun.day c
    ∙ ap (λ b. if b then started begun.day c else unedited c) starts

-- ---- no row that it makes breaks its check
unburied_checked : (row : Row) → IsChecked row → IsChecked (unburied_row row)
unburied_checked (rows.Card card) checked = unbury_keeps.checked card checked
unburied_checked (rows.Note note) checked = checked
unburied_checked (rows.Review review) checked = checked
unburied_checked (rows.NoteType note_type) checked = checked
unburied_checked (rows.Deck deck) checked = checked
unburied_checked (rows.Options options) checked = checked
unburied_checked (rows.Grave grave) checked = checked

mapped_checked : (x : Option Row) (row : Row) → ((r : Row) → x ≡ Some r → IsChecked r) → option_map unburied_row x ≡ Some row → IsChecked row
mapped_checked None row checked is = absurd (none-some row is)
mapped_checked (Some r) row checked is = subst IsChecked (same_Some (unburied_row r) row is) (unburied_checked r (checked r refl))

either_checked : (new : Bool) (day : Day) (c : Collection) → AreChecked (row_under c) → AreChecked (if new then started day c else unedited c).rows
either_checked true day c checked = λ name row is. mapped_checked (row_under c name) row (checked name) is
either_checked false day c checked = checked

start_rows : (day : Day) (c : Collection) (fault : DeskFault) → IsHeldRightly c → RefusesRow c (day_start day c) fault → ⊥
start_rows day c fault rightly = checked_edits_pass c (day_start day c) fault (either_checked (is_new_day day c.head.conf) day c rightly.checked)

-- ---- upon a keeper
-- the same of a collection
pub record BegunOn (at : ℤ) (begun : Begun) (old new : Overlay) (c : Collection) : Type 0 where
  pub day : IsDayOf c.head.crt at begun.day
  pub starts : begun.starts ≡ is_new_day begun.day c.head.conf
  pub changes : new ≡ begun_over begun c.rows c.head.conf old

begun_of : (at : ℤ) (begun : Begun) (old new : Overlay) (h : Holding) → HasBegun at h begun old new → IfSome (collection_of h) (BegunOn at begun old new)
begun_of at begun old new h has =
    elim h.head as (λ (x : Option Head). h.head ≡ x → IfSome (option_map (λ (head : Head). let c : Collection = record { rows = h.rows; head = head } in c) x) (BegunOn at begun old new)) [
      | None ↦ λ _. tt
      | Some head ↦ λ is.
          let same : has.head ≡ head = same_Some has.head head (sym has.is_head ∙ is) in
          record {
            day = subst (λ (x : Head). IsDayOf x.crt at begun.day) same has.day;
            starts = subst (λ (x : Head). begun.starts ≡ is_new_day begun.day x.conf) same has.starts;
            changes = subst (λ (x : Head). new ≡ begun_over begun h.rows x.conf old) same has.changes;
          }
    ] refl

pub begun_held : (k : Keeping) (at : ℤ) (begun : Begun) (old new : Overlay) → WhereTold k (λ h. HasBegun at h begun old new) → WhereHeld k (BegunOn at begun old new)
begun_held k at begun old new = where_told-map k (λ h. HasBegun at h begun old new) (λ h. IfSome (collection_of h) (BegunOn at begun old new)) (λ h. begun_of at begun old new h)

edit_begun : (at : ℤ) (begun : Begun) (o : Overlay) (c : Collection) → AreNamed (row_under c) → AreChecked (row_under c) → BegunOn at begun unchanged o c → edit_of o c ≡ day_start begun.day c
edit_begun at begun o c named checked has = ap (λ (p : Overlay). edit_of p c) has.changes ∙ start_edit begun c named checked has.starts

pub start_done : (k now : Keeping) (at : ℤ) (begun : Begun) (o : Overlay) (steps left : List Step) → WhereHeld k IsHeldRightly → WhereTold k (λ h. HasBegun at h begun unchanged o)
    → FinishedBy at o k now steps left → StartsDay at k now steps left
start_done k now at begun o steps left rightly has finished =
    where_held-both k (λ c. IsHeldRightly c × BegunOn at begun unchanged o c) (λ c. IsFinished at c (edit_of o c) k now steps left) (λ c. HasStarted at c k now steps left)
    (λ c both done. record {
      day = begun.day;
      is_day = both.1.day;
      finished = subst (λ (e : Edit). IsFinished at c e k now steps left) (edit_begun at begun o c both.0.named both.0.checked both.1) done;
    })
    (where_held-both k IsHeldRightly (BegunOn at begun unchanged o) (λ c. IsHeldRightly c × BegunOn at begun unchanged o c) (λ c x y. (x, y)) rightly (begun_held k at begun unchanged o has)) finished

start_answers : (at : ℤ) (begun : Begun) (o : Overlay) (result : Result (Unit {0}) DeskFault) (c : Collection) → IsHeldRightly c → BegunOn at begun unchanged o c → AnswersBy (RefusesEnd at c (edit_of o c)) result
    → AnswersBy (RefusesStart at c) result
start_answers at begun o result c rightly has answers =
    answers_on_day at c (λ day. RefusesStamp at c (day_start day c)) begun.day result has.day
    (never_first (RefusesRow c (day_start begun.day c)) (RefusesStamp at c (day_start begun.day c)) result (λ fault. start_rows begun.day c fault rightly)
    (subst (λ (e : Edit). AnswersBy (RefusesEnd at c e) result) (edit_begun at begun o c rightly.named rightly.checked has) answers))

pub start_answered : (k : Keeping) (at : ℤ) (begun : Begun) (o : Overlay) (result : Result (Unit {0}) DeskFault) → WhereHeld k IsHeldRightly → WhereTold k (λ h. HasBegun at h begun unchanged o)
    → AnswersEnd at o k result → WhereHeld k (λ c. AnswersBy (RefusesStart at c) result)
start_answered k at begun o result rightly has answers =
    where_held-both k (λ c. IsHeldRightly c × BegunOn at begun unchanged o c) (λ c. AnswersBy (RefusesEnd at c (edit_of o c)) result) (λ c. AnswersBy (RefusesStart at c) result)
    (λ c both end. start_answers at begun o result c both.0 both.1 end)
    (where_held-both k IsHeldRightly (BegunOn at begun unchanged o) (λ c. IsHeldRightly c × BegunOn at begun unchanged o c) (λ c x y. (x, y)) rightly (begun_held k at begun unchanged o has)) answers

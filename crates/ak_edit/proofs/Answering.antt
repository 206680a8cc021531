-- The answer at an edit's end is the first of its refusals whose test holds.
use Rattle.std.proofs.Common.{◌≡◌, inl, inr, ℕ, ℤ, pos, negsuc, ◌<ℤ◌, Bool, true, false, length, List, Ok, Err, IsTrue, Option, Some, None, is_some, if◌then◌else◌, refl, sym, ap, subst, ◌∙◌, arith}
use Rattle.std.proofs.lemmas.Int.{ints}
use Rattle.std.specs.FinMap.{get}
use Rattle.std.specs.Option.{option_or}
use Rattle.ak_base.specs.Heads.{IsMoment, IsWithin}
use Rattle.ak_base.specs.Limits.{last_stamp}
use Rattle.ak_base.specs.declared.heads.Head.{Head}
use Rattle.ak_base.specs.declared.heads.Tag.{Tag}
use Rattle.ak_base.specs.declared.names.Name.{Name}
use Rattle.ak_keep.specs.Collections.{Collection, Holding}
use Rattle.ak_keep.specs.Keepers.{IsRightlyKnown, Keeping, WhereHeld, WhereTold}
use Rattle.ak_merge.proofs.EditFacts.{advanced_past, same_least, true_false}
use Rattle.ak_merge.proofs.TagLaws.{tags_are_united}
use Rattle.ak_merge.specs.Edits.{DoesChange, Edit, advanced, second_of}
use Rattle.ak_merge.specs.Holdings.{AreChecked, AreNamed, has_tag, tag_usn}
use Rattle.ak_merge.specs.Tags.{has_name, tags_taken}
use Rattle.ak_edit.proofs.Finishing.{does_change, head_is, held_checked, held_named, same_many, told_at, unchanged_there, where_held}
use Rattle.ak_edit.proofs.RefusedEnds.{first_fault, no_fault, stamp_out, stamps_within}
use Rattle.ak_edit.proofs.Writing.{is_written}
use Rattle.ak_edit.specs.Carrying.{ChangesNothing, HasEnded, IsPlanned, MadeRefusal}
use Rattle.ak_edit.specs.Ends.{AnswersEnd, IsAtLastStamp, RefusesEnd, row_made, stamp_under}
use Rattle.ak_edit.specs.MadeRows.{check_of_rows, have_stamps_left}
use Rattle.ak_edit.specs.Overlays.{BearNames, Overlay, edit_of}
use Rattle.ak_edit.specs.Refusals.{AnswersBy}
use Rattle.ak_edit.specs.declared.desk_faults.DeskFault.{DeskFault}
use Rattle.ak_edit.specs.declared.ends.Plan.{Plan}
use Rattle.ak_edit.specs.declared.plans.Moment.{Moment}

tag_comes : (held : Option ℤ) (number : ℤ) → is_some (option_or held (Some number)) ≡ true
tag_comes None number = refl
tag_comes (Some usn) number = refl

-- ---- upon what is held
module _ (at : ℤ) (now : Moment) (o : Overlay) (h : Holding) (plan : Plan) (named : AreNamed (get h.rows)) (checked : AreChecked (get h.rows)) (planned : IsPlanned now o h plan)
    (in_ms : now.at ≡ at) (in_seconds : now.second ≡ second_of at) where
  abbrev held : Collection
  held = record { rows = h.rows; head = plan.before }

  abbrev asked : Edit
  asked = edit_of o held

  moment_after : plan.after.moment ≡ advanced at plan.before.moment
  moment_after = ap (λ (head : Head). head.moment) planned.after ∙ ap (λ (m : ℤ). advanced m plan.before.moment) in_ms

  schema_after : plan.after.schema ≡ (if o.schema then advanced at plan.before.schema else plan.before.schema)
  schema_after = ap (λ (head : Head). head.schema) planned.after ∙ ap (λ (m : ℤ). if o.schema then advanced m plan.before.schema else plan.before.schema) in_ms

  schema_rises : IsTrue o.schema → plan.after.schema ≡ advanced at plan.before.schema
  schema_rises changes = schema_after ∙ ap (λ (b : Bool). if b then advanced at plan.before.schema else plan.before.schema) changes

  -- no test holds: the rows pass, stamps are left, and the moments that rise are in range
  none_refuses : check_of_rows plan.writes.items ≡ Ok tt → have_stamps_left plan.writes.items ≡ true → (DoesChange held asked → IsMoment (advanced at plan.before.moment))
      → (IsTrue o.schema → IsMoment (advanced at plan.before.schema)) → (fault : DeskFault) → RefusesEnd at held asked fault → ⊥
  none_refuses passes left moment schema fault (inl row) = no_fault now.second o h plan.before row.0 named checked (ap check_of_rows (sym planned.writes) ∙ passes) row.2
  none_refuses passes left moment schema fault (inr rest) = by_end rest.1.1
    where
      by_end : IsAtLastStamp at held asked → ⊥
      by_end (inl row) =
          row.2 (subst (λ (s : ℤ). IsWithin (pos 0) last_stamp (stamp_under s held asked row.0)) in_seconds
          (stamps_within now.second (get h.rows) o.rows row.0 row.1 (ap have_stamps_left (sym planned.writes) ∙ left)))
      by_end (inr (inl rises)) = rises.1 (moment rises.0)
      by_end (inr (inr changes)) = changes.1 (schema changes.0)

  -- a plan that changes nothing is of an edit that changes nothing
  tags_stay : ChangesNothing plan → tags_taken (negsuc 0) o.tags plan.before.tags ≡ plan.before.tags
  tags_stay nothing = same_many (negsuc 0) o.tags plan.before.tags (sym (nothing.tags ∙ ap (λ (head : Head). length head.tags) planned.after))

  no_new_tag : ChangesNothing plan → (tag : List ℕ) → IsTrue (has_name o.tags tag) → has_tag plan.before.tags tag ≡ false → ⊥
  no_new_tag nothing tag comes absent =
      let is : has_tag plan.before.tags tag ≡ true =
      ap (λ (tags : List Tag). has_tag tags tag) (sym (tags_stay nothing)) ∙ ap is_some (tags_are_united (negsuc 0) o.tags plan.before.tags tag)
      ∙ ap (λ (b : Bool). is_some (option_or (tag_usn plan.before.tags tag) (if b then Some (negsuc 0) else None))) comes ∙ tag_comes (tag_usn plan.before.tags tag) (negsuc 0) in
      true_false (sym is ∙ absent)

  no_new_schema : ChangesNothing plan → IsTrue o.schema → ⊥
  no_new_schema nothing changes =
      let same : plan.before.schema ≡ advanced at plan.before.schema = nothing.schema ∙ schema_rises changes in
      let more : plan.before.schema <ℤ advanced at plan.before.schema = advanced_past plan.before.schema at plan.before.schema (same_least refl) in
      not_less plan.before.schema (subst (λ (m : ℤ). plan.before.schema <ℤ m) (sym same) more)
    where
      not_less : (m : ℤ) → m <ℤ m → ⊥
      not_less m less = absurd (omega (arith, ints, less))

  none_changes : ChangesNothing plan → DoesChange held asked → ⊥
  none_changes nothing (inl row) =
      true_false (sym row.1 ∙ unchanged_there now.second (get h.rows) o.rows row.0 (ap (is_written row.0) (sym planned.writes ∙ nothing.writes)))
  none_changes nothing (inr (inl tag)) = no_new_tag nothing tag.0 tag.1 tag.2
  none_changes nothing (inr (inr (inl conf))) = conf (sym (nothing.conf ∙ ap (λ (head : Head). head.conf) planned.after))
  none_changes nothing (inr (inr (inr schema))) = no_new_schema nothing schema

  nothing_refuses : ChangesNothing plan → (fault : DeskFault) → RefusesEnd at held asked fault → ⊥
  nothing_refuses nothing =
      none_refuses (ap check_of_rows nothing.writes) (ap have_stamps_left nothing.writes) (λ does. absurd (none_changes nothing does)) (λ schema. absurd (no_new_schema nothing schema))

  tested_refuses : check_of_rows plan.writes.items ≡ Ok tt → have_stamps_left plan.writes.items ≡ true → IsMoment plan.after.moment → IsMoment plan.after.schema
      → (fault : DeskFault) → RefusesEnd at held asked fault → ⊥
  tested_refuses passes left moment schema = none_refuses passes left (λ _. subst IsMoment moment_after moment) (λ changes. subst IsMoment (schema_rises changes) schema)

  -- what the tests refuse is refused
  last_stamp_is : BearNames o.rows → (ChangesNothing plan → ⊥) → IsMoment plan.before.schema → HasEnded plan.writes.items plan.after → IsAtLastStamp at held asked
  last_stamp_is bears something schema_before (inl ended) =
      inl (subst (λ (s : ℤ). (name : Name) × IsTrue (is_some (row_made held asked name)) × (IsWithin (pos 0) last_stamp (stamp_under s held asked name) → ⊥)) in_seconds
      (stamp_out now.second (get h.rows) o.rows (ap have_stamps_left (sym planned.writes) ∙ ended)))
  last_stamp_is bears something schema_before (inr (inl moment)) =
      inr (inl (does_change at now o h plan named bears planned in_ms in_seconds something, λ within. moment (subst IsMoment (sym moment_after) within)))
  last_stamp_is bears something schema_before (inr (inr schema)) = by_schema o.schema refl
    where
      by_schema : (b : Bool) → o.schema ≡ b → IsAtLastStamp at held asked
      by_schema true changes = inr (inr (changes, λ within. schema (subst IsMoment (sym (schema_rises changes)) within)))
      by_schema false stays =
          absurd (schema (subst IsMoment (sym (schema_after ∙ ap (λ (b : Bool). if b then advanced at plan.before.schema else plan.before.schema) stays)) schema_before))

  made_refuses : BearNames o.rows → (ChangesNothing plan → ⊥) → IsMoment plan.before.schema → (fault : DeskFault) → MadeRefusal plan.writes.items plan.after fault → RefusesEnd at held asked fault
  made_refuses bears something schema fault (inl row) =
      inl (row.0, row.1, first_fault now.second o h plan.before row.0 named checked (ap check_of_rows (sym planned.writes) ∙ row.2))
  made_refuses bears something schema fault (inr end) =
      inr (
        λ any refuses. no_fault now.second o h plan.before refuses.0 named checked (ap check_of_rows (sym planned.writes) ∙ end.1) refuses.2,
        (end.0, last_stamp_is bears something schema end.2),
      )

-- ---- upon a keeper
-- what is true of what was planned is true of what is told
upon : (k : Keeping) (now : Moment) (o : Overlay) (plan : Plan) (P : Collection → Type 0) → IsRightlyKnown k → WhereTold k (λ h. IsPlanned now o h plan)
    → ((h : Holding) → AreNamed (get h.rows) → AreChecked (get h.rows) → IsPlanned now o h plan → P (record { rows = h.rows; head = plan.before })) → WhereHeld k P
upon k now o plan P known planned so =
    where_held k P (λ w head told held_there.
    let here = told_at k (λ h. IsPlanned now o h plan) w told planned in
    subst (λ (head : Head). P (record { rows = w.current.rows; head = head })) (head_is w.current head plan.before held_there here.head)
    (so w.current (held_named k w told known) (held_checked k w told known) here))

-- an edit that changes nothing is not refused
pub answered_nothing : (at : ℤ) (now : Moment) (o : Overlay) (k : Keeping) (plan : Plan) → now.at ≡ at → now.second ≡ second_of at → IsRightlyKnown k
    → WhereTold k (λ h. IsPlanned now o h plan) → ChangesNothing plan → AnswersEnd {T = Unit {0}} at o k (Ok tt)
answered_nothing at now o k plan in_ms in_seconds known planned nothing =
    upon k now o plan (λ c. AnswersBy {T = Unit {0}} (RefusesEnd at c (edit_of o c)) (Ok tt)) known planned
    (λ h named checked here. record { accepted = nothing_refuses at now o h plan named checked here in_ms in_seconds nothing; refused = tt })

-- an edit that passes the tests is not refused
pub answered_ok : (at : ℤ) (now : Moment) (o : Overlay) (k : Keeping) (plan : Plan) → now.at ≡ at → now.second ≡ second_of at → IsRightlyKnown k
    → WhereTold k (λ h. IsPlanned now o h plan) → check_of_rows plan.writes.items ≡ Ok tt → have_stamps_left plan.writes.items ≡ true → IsMoment plan.after.moment
    → IsMoment plan.after.schema → AnswersEnd {T = Unit {0}} at o k (Ok tt)
answered_ok at now o k plan in_ms in_seconds known planned passes left moment schema =
    upon k now o plan (λ c. AnswersBy {T = Unit {0}} (RefusesEnd at c (edit_of o c)) (Ok tt)) known planned
    (λ h named checked here. record { accepted = tested_refuses at now o h plan named checked here in_ms in_seconds passes left moment schema; refused = tt })

-- what the tests refuse is the refusal of the edit's end
pub answered_by_test : (at : ℤ) (now : Moment) (o : Overlay) (k : Keeping) (plan : Plan) (fault : DeskFault) → now.at ≡ at → now.second ≡ second_of at → IsRightlyKnown k
    → BearNames o.rows → WhereTold k (λ h. IsPlanned now o h plan) → (ChangesNothing plan → ⊥) → IsMoment plan.before.schema
    → MadeRefusal plan.writes.items plan.after fault → AnswersEnd {T = Unit {0}} at o k (Err fault)
answered_by_test at now o k plan fault in_ms in_seconds known bears planned something schema refusal =
    upon k now o plan (λ c. AnswersBy {T = Unit {0}} (RefusesEnd at c (edit_of o c)) (Err fault)) known planned
    (λ h named checked here. record { accepted = tt; refused = inr (made_refuses at now o h plan named checked here in_ms in_seconds bears something schema fault refusal) })

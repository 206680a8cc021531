-- Options that are deleted: what the changes ask for, and what the call answers.
use Rattle.std.specs.Prelude.{◌≡◌, ℤ, pos, Bool, true, false, cond, if◌then◌else◌, List, [], ◌++◌, Option, Some, None, Result, Ok, Err, IfSome, OnErr, OnOk}
use Rattle.std.proofs.Common.{refl, sym, ap, subst, ◌∙◌, arith}
use Rattle.std.proofs.lemmas.Int.{ints}
use Rattle.std.proofs.lemmas.Option.{none-some, same_Some}
use Rattle.std.specs.FinMap.{get}
use Rattle.std.specs.Option.{option_map}
use Rattle.std.specs.Ordering.{eq_by_cmp}
use Rattle.ak_base.specs.Decks.{title_faults, taken_faults}
use Rattle.ak_base.specs.Names.{name_cmp}
use Rattle.ak_base.specs.Rows.{IsChecked}
use Rattle.ak_base.specs.declared.decks.Deck.{Deck}
use Rattle.ak_base.specs.declared.names.Name.{Name}
use Rattle.ak_base.specs.declared.names.Table.TheVariants as tables
use Rattle.ak_base.specs.declared.rows.Row.{Row}
use Rattle.ak_base.specs.declared.rows.Row.TheVariants as rows
use Rattle.ak_edit.proofs.Building.{removal_asked}
use Rattle.ak_edit.specs.Ends.{AnswersEnd, FinishedBy, IsFinished, IsHeldRightly, RefusesEnd, RefusesRow, RefusesStamp}
use Rattle.ak_edit.specs.Overlays.{Overlay, edit_of, removed_over, schema_over, unchanged}
use Rattle.ak_edit.specs.Refusals.{AnswersBy, OrElse, Refusal}
use Rattle.ak_edit.specs.declared.desk_faults.DeskFault.{DeskFault}
use Rattle.ak_edit_calls.proofs.Answering.{never_first, on_ok-map, passed_first, refused_first}
use Rattle.ak_edit_calls.proofs.CheckedEdits.{checked_edits_pass}
use Rattle.ak_edit_calls.proofs.CheckedRows.{of_faultless}
use Rattle.ak_edit_calls.proofs.Ids.{id_fits}
use Rattle.ak_edit_calls.proofs.Overlaying.{edit_by_names}
use Rattle.ak_edit_calls.proofs.Telling.{where_held-both, where_held-map, where_rows_held, where_told-both}
use Rattle.ak_edit_calls.specs.Calls.{DoesEdit, EndsEdit, RefusesAbsent}
use Rattle.ak_keep.proofs.Told.{where_told-map}
use Rattle.ak_keep.specs.Collections.{Collection, Holding, IsId, Rows, rows_past}
use Rattle.ak_keep.specs.Keepers.{Keeping, WhereHeld, WhereTold}
use Rattle.ak_keep.specs.Marks.{WithMark}
use Rattle.ak_keep.specs.Walks.{ahead}
use Rattle.ak_keep.specs.declared.walks.Walk.{Walk}
use Rattle.ak_merge.proofs.CheckedRows.{faultless_of}
use Rattle.ak_merge.specs.EditBuilding.{with_schema, without_row}
use Rattle.ak_merge.specs.Edits.{Edit}
use Rattle.ak_merge.specs.Holdings.{name_in, row_under}
use Rattle.ak_options.proofs.Defaults.{defaults_asked, defaults-append, rest_defaults}
use Rattle.ak_options.specs.OptionDeletions.{RefusesAsked, RefusesDeletion, has_options, held_defaults, options_deletion, put_defaults, with_default, without_options}
use Rattle.ak_options.specs.OptionGroups.{RefusesNoGroup}
use Rattle.ak_undo.specs.declared.steps.Step.{Step}

-- ---- the walk over the decks
-- what the decks ahead make of the changes so far is what all make of those at first
abbrev pub LeadsTo : ℤ → Walk → Overlay → Overlay → Rows → Type 0
LeadsTo options walk so_far first held = put_defaults options (ahead walk held) so_far ≡ held_defaults options held first

start_told : (told : Option (WithMark Holding)) (options : ℤ) (o : Overlay) → IfSome told (λ w. LeadsTo options (record { past = name_in tables.Deck (pos 0); done = false }) o o w.current.rows)
start_told None options o = tt
start_told (Some w) options o = refl

-- before the first page all decks are ahead
pub start_put : (k : Keeping) (options : ℤ) (o : Overlay) → WhereTold k (λ h. LeadsTo options (record { past = name_in tables.Deck (pos 0); done = false }) o o h.rows)
start_put k options o = start_told k.told options o

pub page_put : (k : Keeping) (options : ℤ) (walk next : Walk) (page : List Row) (first so_far now : Overlay) → WhereTold k (λ h. LeadsTo options walk so_far first h.rows)
    → WhereTold k (λ h. ahead walk h.rows ≡ page ++ ahead next h.rows) → now ≡ put_defaults options page so_far → WhereTold k (λ h. LeadsTo options next now first h.rows)
page_put k options walk next page first so_far now leads split step =
    where_told-both k (λ h. LeadsTo options walk so_far first h.rows) (λ h. ahead walk h.rows ≡ page ++ ahead next h.rows) (λ h. LeadsTo options next now first h.rows)
    (λ h leads split. ap (put_defaults options (ahead next h.rows)) step ∙ sym (defaults-append options page (ahead next h.rows) so_far)
    ∙ ap (λ (all : List Row). put_defaults options all so_far) (sym split) ∙ leads) leads split

pub all_put : (k : Keeping) (options : ℤ) (walk : Walk) (first so_far : Overlay) → walk.done ≡ true → WhereTold k (λ h. LeadsTo options walk so_far first h.rows)
    → WhereTold k (λ h. so_far ≡ held_defaults options h.rows first)
all_put k options walk first so_far done =
    where_told-map k (λ h. LeadsTo options walk so_far first h.rows) (λ h. so_far ≡ held_defaults options h.rows first)
    (λ h leads. sym (ap (λ b. put_defaults options (cond b [] (rows_past walk.past.table walk.past.id h.rows)) so_far) done) ∙ leads)

-- ---- what the changes ask for
-- the name of the options
abbrev named : ℤ → Name
named options = name_in tables.Options options

-- the decks were put, the schema changes, and the options were removed
abbrev pub IsAsked : ℤ → Overlay → Rows → Type 0
IsAsked options o held = o ≡ removed_over (named options) (schema_over (held_defaults options held unchanged))

pub asked_of : (k : Keeping) (options : ℤ) (put o : Overlay) → WhereTold k (λ h. put ≡ held_defaults options h.rows unchanged) → o ≡ removed_over (named options) (schema_over put)
    → WhereTold k (λ h. IsAsked options o h.rows)
asked_of k options put o told is =
    where_told-map k (λ h. put ≡ held_defaults options h.rows unchanged) (λ h. IsAsked options o h.rows)
    (λ h there. is ∙ ap (λ (p : Overlay). removed_over (named options) (schema_over p)) there) told

deletion_of : (options : ℤ) (c : Collection) (o : Overlay) → IsHeldRightly c → IsAsked options o c.rows → edit_of o c ≡ options_deletion options c
deletion_of options c o rightly is =
    let put : Overlay = held_defaults options c.rows unchanged in
    ap (λ (p : Overlay). edit_of p c) is
    ∙ removal_asked c (schema_over put) (named options)
    ∙ ap (λ (e : Edit). without_row (named options) (with_schema e))
    (edit_by_names put c (λ (name : Name). option_map (without_options options) (row_under c name)) (rest_defaults options (rows_past tables.Deck (pos 0) c.rows) unchanged)
    (λ (name : Name). defaults_asked options c.rows name rightly.named rightly.checked))

-- ---- no row that it makes breaks its check
first_id : IsId (pos 1)
first_id = record { low = grind (arith, ints); high = grind (arith, ints) }

checked_default : (row : Row) → IsChecked row → IsChecked (with_default row)
unfolding title_faults taken_faults
checked_default (rows.Deck d) checked =
    let all = faultless_of (title_faults d ++ taken_faults d) checked in
    let after : Deck = record d { options = pos 1 } in
    of_faultless (title_faults after ++ taken_faults after) (all.0, (all.1.0, (all.1.1.0, (all.1.1.1.0, (id_fits (pos 1) first_id, all.1.1.1.1.1)))))
checked_default (rows.Note n) checked = checked
checked_default (rows.Card c) checked = checked
checked_default (rows.Review r) checked = checked
checked_default (rows.NoteType t) checked = checked
checked_default (rows.Options o) checked = checked
checked_default (rows.Grave g) checked = checked

checked_without : (options : ℤ) (row : Row) → IsChecked row → IsChecked (without_options options row)
checked_without options row checked = elim (has_options options row) as (λ b. IsChecked (if b then with_default row else row)) [ true ↦ checked_default row checked | false ↦ checked ]

left_checked : (options : ℤ) (gone : Bool) (x : Option Row) (row : Row) → ((r : Row) → x ≡ Some r → IsChecked r) → (if gone then None else option_map (without_options options) x) ≡ Some row → IsChecked row
left_checked options true x row checked is = absurd (none-some row is)
left_checked options false None row checked is = absurd (none-some row is)
left_checked options false (Some r) row checked is = subst IsChecked (same_Some (without_options options r) row is) (checked_without options r (checked r refl))

-- its end never refuses a row
deletion_rows : (c : Collection) (options : ℤ) (fault : DeskFault) → IsHeldRightly c → RefusesRow c (options_deletion options c) fault → ⊥
deletion_rows c options fault rightly =
    checked_edits_pass c (options_deletion options c) fault
    (λ name row is. left_checked options (eq_by_cmp name_cmp name (named options)) (row_under c name) row (rightly.checked name) is)

-- ---- the end of the edit
deletion_done : (k now : Keeping) (at options : ℤ) (o : Overlay) (steps left : List Step) → WhereTold k (λ h. IsAsked options o h.rows) → WhereHeld k IsHeldRightly
    → FinishedBy at o k now steps left → DoesEdit at (options_deletion options) k now steps left
deletion_done k now at options o steps left asked rightly finished =
    where_held-both k (λ c. IsAsked options o c.rows × IsHeldRightly c) (λ c. IsFinished at c (edit_of o c) k now steps left) (λ c. IsFinished at c (options_deletion options c) k now steps left)
    (λ c is finished. subst (λ (e : Edit). IsFinished at c e k now steps left) (deletion_of options c o is.1 is.0) finished)
    (where_held-both k (λ c. IsAsked options o c.rows) IsHeldRightly (λ c. IsAsked options o c.rows × IsHeldRightly c) (λ c one other. (one, other))
    (where_rows_held k (IsAsked options o) asked) rightly) finished

-- ---- its answer
-- the tests after that of the group
abbrev RefusesLater : ℤ → ℤ → Bool → Collection → Refusal
RefusesLater at options allow c = OrElse (RefusesAsked options allow) (RefusesStamp at c (options_deletion options c))

pub deletion_asked : (k : Keeping) (at options : ℤ) (allow : Bool) (row : Row) (fault : DeskFault) → WhereTold k (λ h. AnswersBy {T = Row} (RefusesAbsent (get h.rows) (named options)) (Ok row))
    → AnswersBy {T = Unit {0}} (RefusesAsked options allow) (Err fault) → WhereHeld k (λ c. AnswersBy {T = Unit {0}} (RefusesDeletion at options allow c) (Err fault))
deletion_asked k at options allow row fault held refuses =
    where_held-map k (λ c. AnswersBy {T = Row} (RefusesNoGroup options c) (Ok row)) (λ c. AnswersBy {T = Unit {0}} (RefusesDeletion at options allow c) (Err fault))
    (λ c passes. passed_first (RefusesNoGroup options c) (RefusesLater at options allow c) row (let r : Result (Unit {0}) DeskFault = Err fault in r) passes
    (refused_first {T = Unit {0}} (RefusesAsked options allow) (RefusesStamp at c (options_deletion options c)) fault refuses))
    (where_rows_held k (λ held. AnswersBy {T = Row} (RefusesAbsent (get held) (named options)) (Ok row)) held)

-- what is known before the end
record IsReady (options : ℤ) (row : Row) (o : Overlay) (c : Collection) : Type 0 where
  passes : AnswersBy {T = Row} (RefusesNoGroup options c) (Ok row)
  asked : IsAsked options o c.rows
  rightly : IsHeldRightly c

ready : (k : Keeping) (options : ℤ) (row : Row) (o : Overlay) → WhereTold k (λ h. AnswersBy {T = Row} (RefusesAbsent (get h.rows) (named options)) (Ok row))
    → WhereTold k (λ h. IsAsked options o h.rows) → WhereHeld k IsHeldRightly → WhereHeld k (IsReady options row o)
ready k options row o held asked rightly =
    where_held-both k (λ c. AnswersBy {T = Row} (RefusesNoGroup options c) (Ok row)) (λ c. IsAsked options o c.rows × IsHeldRightly c) (IsReady options row o)
    (λ c one other. record { passes = one; asked = other.0; rightly = other.1 })
    (where_rows_held k (λ held. AnswersBy {T = Row} (RefusesAbsent (get held) (named options)) (Ok row)) held)
    (where_held-both k (λ c. IsAsked options o c.rows) IsHeldRightly (λ c. IsAsked options o c.rows × IsHeldRightly c) (λ c one other. (one, other))
    (where_rows_held k (IsAsked options o) asked) rightly)

end_answers : (at options : ℤ) (allow : Bool) (row : Row) (value : Unit {0}) (o : Overlay) (result : Result (Unit {0}) DeskFault) (c : Collection) → AnswersBy {T = Unit {0}} (RefusesAsked options allow) (Ok value)
    → IsReady options row o c → AnswersBy (RefusesEnd at c (edit_of o c)) result → AnswersBy (RefusesDeletion at options allow c) result
end_answers at options allow row value o result c allowed is answers =
    let edit : Edit = options_deletion options c in
    passed_first (RefusesNoGroup options c) (RefusesLater at options allow c) row result is.passes
    (passed_first (RefusesAsked options allow) (RefusesStamp at c edit) value result allowed
    (never_first (RefusesRow c edit) (RefusesStamp at c edit) result (λ fault. deletion_rows c options fault is.rightly)
    (subst (λ (e : Edit). AnswersBy (RefusesEnd at c e) result) (deletion_of options c o is.rightly is.asked) answers)))

deletion_answered : (k : Keeping) (at options : ℤ) (allow : Bool) (row : Row) (value : Unit {0}) (o : Overlay) (result : Result (Unit {0}) DeskFault)
    → WhereTold k (λ h. AnswersBy {T = Row} (RefusesAbsent (get h.rows) (named options)) (Ok row)) → AnswersBy {T = Unit {0}} (RefusesAsked options allow) (Ok value)
    → WhereTold k (λ h. IsAsked options o h.rows) → WhereHeld k IsHeldRightly → AnswersEnd at o k result → WhereHeld k (λ c. AnswersBy (RefusesDeletion at options allow c) result)
deletion_answered k at options allow row value o result held allowed asked rightly =
    where_held-both k (IsReady options row o) (λ c. AnswersBy (RefusesEnd at c (edit_of o c)) result) (λ c. AnswersBy (RefusesDeletion at options allow c) result)
    (λ c is answers. end_answers at options allow row value o result c allowed is answers)
    (ready k options row o held asked rightly)

-- a refusal before the end leaves all as it was
pub deletion_kept : (k now : Keeping) (at options : ℤ) (allow : Bool) (fault : DeskFault) (steps : List Step) → now ≡ k → WhereHeld k (λ c. AnswersBy {T = Unit {0}} (RefusesDeletion at options allow c) (Err fault))
    → EndsEdit {T = Unit {0}} at (options_deletion options) (RefusesDeletion at options allow) k now steps steps (Err fault)
deletion_kept k now at options allow fault steps same answers = record {
  done = tt;
  same = same;
  kept = refl;
  stays = ap (λ (k : Keeping). k.headed) same;
  answers = answers;
}

-- the end of the call, by that of the change
pub deletion_ended : (k now : Keeping) (at options : ℤ) (allow : Bool) (row : Row) (value : Unit {0}) (o : Overlay) (steps left : List Step) (result : Result (Unit {0}) DeskFault)
    → WhereTold k (λ h. AnswersBy {T = Row} (RefusesAbsent (get h.rows) (named options)) (Ok row)) → AnswersBy {T = Unit {0}} (RefusesAsked options allow) (Ok value)
    → WhereTold k (λ h. IsAsked options o h.rows) → WhereHeld k IsHeldRightly → OnOk result (FinishedBy at o k now steps left) → OnErr result (now ≡ k) → OnErr result (left ≡ steps) → now.headed ≡ k.headed
    → AnswersEnd at o k result → EndsEdit at (options_deletion options) (RefusesDeletion at options allow) k now steps left result
deletion_ended k now at options allow row value o steps left result held allowed asked rightly done same kept stays answers = record {
  done = on_ok-map result (FinishedBy at o k now steps left) (DoesEdit at (options_deletion options) k now steps left) (deletion_done k now at options o steps left asked rightly) done;
  same = same;
  kept = kept;
  stays = stays;
  answers = deletion_answered k at options allow row value o result held allowed asked rightly answers;
}

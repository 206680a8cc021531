-- One record of an import under way: what is done with it, and why it is refused.
use Rattle.std.specs.Prelude.{◌≡◌, ◌⊎◌, ◌++◌, ℕ, ℤ, Bool, true, false, if◌then◌else◌, List, Option, Some, None, IfErr, IfOk, IfSome, IsErrAnd, Result, Ok, Err, option_and_then}
use Rattle.std.proofs.Common.{refl, sym, ap, subst, inl, inr, ◌∙◌}
use Rattle.std.specs.BTreeMap.{get_by_text}
use Rattle.std.specs.FinMap.{get}
use Rattle.std.specs.Option.{option_map}
use Rattle.std.specs.Str.{bytes_eq}
use Rattle.ak_base.specs.declared.heads.Conf.{Conf}
use Rattle.ak_base.specs.declared.names.Name.{Name}
use Rattle.ak_base.specs.declared.names.Table.{Table}
use Rattle.ak_base.specs.declared.names.Table.TheVariants as tables
use Rattle.ak_base.specs.declared.notes.Note.{Note}
use Rattle.ak_base.specs.declared.rows.Row.{Row}
use Rattle.ak_base.specs.declared.rows.Row.TheVariants as row_variants
use Rattle.ak_edit.specs.Overlays.{Overlay, edit_of}
use Rattle.ak_edit.specs.Refusals.{AnswersBy, DeskCause, IsFromOutside}
use Rattle.ak_faults.specs.Causes.{GoesOn, Health}
use Rattle.ak_edit.specs.declared.desk_faults.DeskFault.{DeskFault}
use Rattle.ak_edit.specs.declared.desk_faults.DeskFault.TheVariants as faults
use Rattle.ak_imports.proofs.KeptGuids.{guid_comes, guids_stay}
use Rattle.ak_imports.proofs.LeastNotes.{note_with, row_of_note}
use Rattle.ak_imports.proofs.Making.{added_passes, made_asks, unused, updated_passes}
use Rattle.ak_imports.proofs.Tellings.{told_at}
use Rattle.ak_imports.specs.Guids.{IsLeast, IsLeastId, guid_at}
use Rattle.ak_imports.specs.Imports.{IsAddedOf, IsUpdatedOf, Progress, edit_of_record, edit_to, made_after, new_note, same_after, with_made}
use Rattle.ak_imports.specs.KeptRows.{Keeps, HoldsCollection}
use Rattle.ak_imports.specs.OwnTests.{own_fault, rows_made}
use Rattle.ak_imports.specs.SameNotes.{IsSame, IsSameFound}
use Rattle.ak_imports.specs.UnderWay.{AddsRecord, ChangesNote, IsMadePut, IsUnderWay, PutsMade, RefusesNew, RefusesToChange, RefusesToPut, RefusesToUpdate, RefusesUnderWay, TakesRecord, UpdatesNote}
use Rattle.ak_imports.specs.declared.imports.Arrival.{Arrival}
use Rattle.ak_imports.specs.declared.imports.Outcome.{Outcome}
use Rattle.ak_imports.specs.declared.imports.Outcome.TheVariants as outcomes
use Rattle.ak_imports.specs.declared.records.Record.{Record}
use Rattle.ak_imports.specs.declared.works.Work.{Work}
use Rattle.ak_keep.specs.Collections.{Collection, IsWellFormed}
use Rattle.ak_keep.specs.Keepers.{Keeping, WhereTold}
use Rattle.ak_keep.specs.Lookups.{as_note, note_at}
use Rattle.ak_merge.proofs.Finding.{named_of_formed}
use Rattle.ak_merge.specs.Holdings.{name_in}
use Rattle.ak_notes.specs.Additions.{IsAddition, IsMadeOf, RefusesToAdd}
use Rattle.ak_notes.specs.MadeNotes.{made_over}
use Rattle.ak_notes.specs.NoteEdits.{IsChangedOf, IsNoteEdit, RefusesToEdit}
use Rattle.ak_notes.specs.declared.made_notes.MadeNote.{MadeNote}
use Rattle.ak_notes.specs.declared.note_edits.NoteEdit.{NoteEdit}
use Rattle.ak_imports.specs.declared.own_tests.Trial.{Trial}

-- ---- what is put
-- a collection's moment is the one that was read
moment_at : (k : Keeping) (c : Collection) (moment : ℤ) → WhereTold k (λ h. IfSome h.head (λ head. moment ≡ head.moment)) → HoldsCollection k c → moment ≡ c.head.moment
moment_at k c moment told tells = told_at k c (λ h. IfSome h.head (λ head. moment ≡ head.moment)) tells told

abbrev trial_at : ℤ → Bool → ℤ → Trial
trial_at at is_new moment = record { at = at; is_new = is_new; moment = moment }

pub puts_made : (k k_after : Keeping) (at moment : ℤ) (is_new : Bool) (tags : List (List ℕ)) (made : MadeNote) (put : List Row) (conf : Conf) (change change_after : Overlay)
    → WhereTold k (λ h. IfSome h.head (λ head. moment ≡ head.moment)) → put ≡ rows_made made → conf ≡ made.conf → own_fault (trial_at at is_new moment) made ≡ None → Keeps put conf k k_after
    → change_after ≡ made_over tags made change → PutsMade at is_new tags made change k change_after k_after
puts_made k k_after at moment is_new tags made put conf change change_after told rows settings tested keeps changed c p tells edit = record {
  tested = subst (λ (m : ℤ). own_fault (trial_at at is_new m) made ≡ None) (moment_at k p.collection moment told tells) tested;
  tells = subst (λ (s : Conf). HoldsCollection k_after (record { rows = (with_made made p.collection).rows; head = record p.collection.head { conf = s } })) settings
      (subst (λ (l : List Row). Keeps l conf k k_after) rows keeps p.collection tells);
  edit = subst (λ (o : Overlay). edit_of o c ≡ edit_to (with_made made p.collection) (p.tags ++ tags)) (sym changed) (made_asks tags made change c p.collection p.tags edit);
}

pub refuses_to_put : (k : Keeping) (at moment : ℤ) (is_new : Bool) (made : MadeNote) (fault : DeskFault) → WhereTold k (λ h. IfSome h.head (λ head. moment ≡ head.moment))
    → own_fault (trial_at at is_new moment) made ≡ Some fault → RefusesToPut at is_new made k fault
refuses_to_put k at moment is_new made fault told fails c tells =
    subst (λ (m : ℤ). own_fault (trial_at at is_new m) made ≡ Some fault) (moment_at k c moment told tells) fails

-- ---- faults
-- a fault is from outside or not
pub is_outside : (fault : DeskFault) → IsFromOutside fault ⊎ (IsFromOutside fault → ⊥)
is_outside faults.Failed = inl (inl refl)
is_outside faults.Memory = inl (inr refl)
is_outside (faults.NoSuch name) = inr (λ is. elim is [ inl one ↦ cc | inr other ↦ cc ])
is_outside (faults.FieldCount want got) = inr (λ is. elim is [ inl one ↦ cc | inr other ↦ cc ])
is_outside (faults.DefaultKept name) = inr (λ is. elim is [ inl one ↦ cc | inr other ↦ cc ])
is_outside faults.StampEnd = inr (λ is. elim is [ inl one ↦ cc | inr other ↦ cc ])
is_outside faults.IdEnd = inr (λ is. elim is [ inl one ↦ cc | inr other ↦ cc ])
is_outside (faults.Row fault) = inr (λ is. elim is [ inl one ↦ cc | inr other ↦ cc ])
is_outside (faults.Template fault) = inr (λ is. elim is [ inl one ↦ cc | inr other ↦ cc ])
is_outside (faults.NotAnswerable queue) = inr (λ is. elim is [ inl one ↦ cc | inr other ↦ cc ])
is_outside faults.NothingToUndo = inr (λ is. elim is [ inl one ↦ cc | inr other ↦ cc ])
is_outside faults.SchemaAsk = inr (λ is. elim is [ inl one ↦ cc | inr other ↦ cc ])
is_outside (faults.InUse name) = inr (λ is. elim is [ inl one ↦ cc | inr other ↦ cc ])
is_outside (faults.BadMap place) = inr (λ is. elim is [ inl one ↦ cc | inr other ↦ cc ])
is_outside (faults.Page fault) = inr (λ is. elim is [ inl one ↦ cc | inr other ↦ cc ])

inside_only : {A : Type 0} (fault : DeskFault) → (IsFromOutside fault → ⊥) → IsFromOutside fault ⊎ A → A
inside_only fault inside either = elim either [ inl outside ↦ absurd (inside outside) | inr is ↦ is ]

-- ---- a note that is added
-- the call's own tests refuse
pub add_refused : (k : Keeping) (arrival : Arrival) (r : Record) (work : Work) (fault : DeskFault) → WhereTold k (λ h. AnswersBy {T = MadeNote} (RefusesToAdd arrival.at (new_note arrival r) h.rows) (Err fault))
    → IsFromOutside fault ⊎ RefusesNew arrival r work k fault
add_refused k arrival r work fault told = elim (is_outside fault) [
  | inl outside ↦ inl outside
  | inr inside ↦ inr (λ c p under_way. inl (inside_only fault inside
      (told_at k p.collection (λ h. AnswersBy {T = MadeNote} (RefusesToAdd arrival.at (new_note arrival r) h.rows) (Err fault)) under_way.tells told).refused))
]

abbrev AddsIn : Keeping → Arrival → Record → MadeNote → Type 0
AddsIn k arrival r made =
    WhereTold k (IsMadeOf arrival.at (new_note arrival r) made) × WhereTold k (λ h. AnswersBy {T = MadeNote} (RefusesToAdd arrival.at (new_note arrival r) h.rows) (Ok made))

-- those of what was made refuse
pub added_refused : (k : Keeping) (arrival : Arrival) (r : Record) (work : Work) (made : MadeNote) (fault : DeskFault) → AddsIn k arrival r made
    → IsFromOutside fault ⊎ RefusesToPut arrival.at true made k fault → IsFromOutside fault ⊎ RefusesNew arrival r work k fault
added_refused k arrival r work made fault from either = elim either [
  | inl outside ↦ inl outside
  | inr refuses ↦ inr (λ c p under_way. inr (
    (told_at k p.collection (λ h. AnswersBy {T = MadeNote} (RefusesToAdd arrival.at (new_note arrival r) h.rows) (Ok made)) under_way.tells from.1).accepted,
    (made, told_at k p.collection (IsMadeOf arrival.at (new_note arrival r) made) under_way.tells from.0, refuses p.collection under_way.tells),
  ))
]

-- it is added
pub adds : (k k_after : Keeping) (arrival : Arrival) (r : Record) (made : MadeNote) (work after : Work) → AddsIn k arrival r made → get_by_text work.guids r.guid ≡ None
    → PutsMade arrival.at true r.tags made work.change k after.change k_after
    → ((g : List ℕ) → get_by_text after.guids g ≡ (if bytes_eq g made.note.guid then Some made.note.id else get_by_text work.guids g)) → AddsRecord arrival r outcomes.Added work k after k_after
adds k k_after arrival r made work after from none puts noted c p under_way =
    let rows = p.collection.rows in
    let is : IsAddition arrival.at (new_note arrival r) rows p.collection.head made = told_at k p.collection (IsMadeOf arrival.at (new_note arrival r) made) under_way.tells from.0 in
    let put : IsMadePut arrival.at true r.tags made c p after.change k_after = puts c p under_way.tells under_way.edit in
    let added : IsAddedOf arrival r p.collection made = record {
      passes = (told_at k p.collection (λ h. AnswersBy {T = MadeNote} (RefusesToAdd arrival.at (new_note arrival r) h.rows) (Ok made)) under_way.tells from.1).accepted;
      is = is;
      tested = put.tested;
    } in
    let named = is.is in
    let guid : made.note.guid ≡ r.guid = ap (λ (n : Note). n.guid) named.under.note in
    let id : name_in tables.Note made.note.id ≡ named.name = ap (λ (i : ℤ). name_in tables.Note i) (ap (λ (n : Note). n.id) named.under.note) ∙ ap (λ (t : Table). name_in t named.name.id) (sym named.free.table) in
    let free : guid_at rows made.note.id ≡ None =
    ap (λ (o : Option Row). option_map (λ (n : Note). n.guid) (option_and_then as_note o)) (ap (get rows) id ∙ unused rows named.name named.free.free) in
    record {
      after = made_after outcomes.Added r.tags made p;
      done = record { made = made; is = added; after = refl };
      counts = refl;
      under_way = record {
        tells = put.tells;
        guids = guid_comes made rows made.note.guid (λ g. get_by_text work.guids g) (λ g. get_by_text after.guids g) refl free (ap (λ (g : List ℕ). get_by_text work.guids g) guid ∙ none) under_way.guids noted;
        edit = put.edit;
        passed = added_passes arrival r c p outcomes.Added made under_way.passed added;
      };
    }

-- ---- a note that is updated
pub edit_refused : (k : Keeping) (arrival : Arrival) (given : NoteEdit) (work : Work) (fault : DeskFault) → WhereTold k (λ h. AnswersBy {T = MadeNote} (RefusesToEdit arrival.at given h.rows) (Err fault))
    → IsFromOutside fault ⊎ RefusesToUpdate arrival given work k fault
edit_refused k arrival given work fault told = elim (is_outside fault) [
  | inl outside ↦ inl outside
  | inr inside ↦ inr (λ c p under_way. inl (inside_only fault inside
      (told_at k p.collection (λ h. AnswersBy {T = MadeNote} (RefusesToEdit arrival.at given h.rows) (Err fault)) under_way.tells told).refused))
]

abbrev EditsIn : Keeping → Arrival → NoteEdit → MadeNote → Type 0
EditsIn k arrival given made =
    WhereTold k (IsChangedOf arrival.at given made) × WhereTold k (λ h. AnswersBy {T = MadeNote} (RefusesToEdit arrival.at given h.rows) (Ok made))

pub updated_refused : (k : Keeping) (arrival : Arrival) (given : NoteEdit) (work : Work) (made : MadeNote) (fault : DeskFault) → EditsIn k arrival given made
    → IsFromOutside fault ⊎ RefusesToPut arrival.at false made k fault → IsFromOutside fault ⊎ RefusesToUpdate arrival given work k fault
updated_refused k arrival given work made fault edits either = elim either [
  | inl outside ↦ inl outside
  | inr refuses ↦ inr (λ c p under_way. inr (
    (told_at k p.collection (λ h. AnswersBy {T = MadeNote} (RefusesToEdit arrival.at given h.rows) (Ok made)) under_way.tells edits.1).accepted,
    (made, told_at k p.collection (IsChangedOf arrival.at given made) under_way.tells edits.0, refuses p.collection under_way.tells),
  ))
]

pub updates : (k k_after : Keeping) (arrival : Arrival) (given : NoteEdit) (made : MadeNote) (work after : Work) → WhereTold k IsWellFormed → EditsIn k arrival given made → ((g : List ℕ) → get_by_text after.guids g ≡ get_by_text work.guids g)
    → PutsMade arrival.at false given.tags made work.change k after.change k_after → UpdatesNote arrival given outcomes.Updated work k after k_after
updates k k_after arrival given made work after formed edits same puts c p under_way =
    let rows = p.collection.rows in
    let is : IsNoteEdit arrival.at given rows p.collection.head made = told_at k p.collection (IsChangedOf arrival.at given made) under_way.tells edits.0 in
    let put : IsMadePut arrival.at false given.tags made c p after.change k_after = puts c p under_way.tells under_way.edit in
    let well : IsWellFormed (record { rows = rows; head = Some p.collection.head }) = told_at k p.collection IsWellFormed under_way.tells formed in
    let updated : IsUpdatedOf arrival.at given p.collection made = record {
      passes = (told_at k p.collection (λ h. AnswersBy {T = MadeNote} (RefusesToEdit arrival.at given h.rows) (Ok made)) under_way.tells edits.1).accepted;
      is = is;
      tested = put.tested;
    } in
    let named = named_of_formed (record { rows = rows; head = Some p.collection.head }) well in
    let found : get rows (name_in tables.Note given.note) ≡ Some (row_variants.Note is.note) = row_of_note (get rows (name_in tables.Note given.note)) is.note is.there in
    let id : made.note.id ≡ given.note = ap (λ (n : Note). n.id) is.is.is.texts ∙ ap (λ (n : Name). n.id) (named (name_in tables.Note given.note) (row_variants.Note is.note) found) in
    let had : guid_at rows made.note.id ≡ Some made.note.guid =
    ap (guid_at rows) id ∙ ap (option_map (λ (n : Note). n.guid)) is.there ∙ ap (λ (g : List ℕ). Some g) (sym (ap (λ (n : Note). n.guid) is.is.is.texts)) in
    record {
      after = made_after outcomes.Updated given.tags made p;
      done = record { made = made; is = updated; after = refl };
      counts = refl;
      under_way = record {
        tells = put.tells;
        guids = λ g. subst (λ (f : ℤ → Option (List ℕ)). IsLeast f g (get_by_text after.guids g)) (sym (guids_stay made rows had)) (subst (λ (o : Option ℤ). IsLeast (guid_at rows) g o) (sym (same g)) (under_way.guids g));
        edit = put.edit;
        passed = updated_passes arrival.at given c p outcomes.Updated made named under_way.passed updated;
      };
    }

-- ---- a note that is found
-- it has the texts of the record
pub same_taken : (k k_after : Keeping) (arrival : Arrival) (given : NoteEdit) (work : Work) (found : Option Note) → k_after ≡ k → WhereTold k (λ h. found ≡ note_at h.rows given.note) → IsSameFound found given
    → ChangesNote arrival given outcomes.Same work k work k_after
same_taken k k_after arrival given work found stays told same c p note under_way there =
    let is : found ≡ Some note = told_at k p.collection (λ h. found ≡ note_at h.rows given.note) under_way.tells told ∙ there in
    record {
      after = same_after p;
      done = inl (subst (λ (o : Option Note). IsSameFound o given) is same, refl);
      counts = refl;
      under_way = record {
        tells = subst (λ (a : Keeping). HoldsCollection a p.collection) (sym stays) under_way.tells;
        guids = under_way.guids;
        edit = under_way.edit;
        passed = record { rows = under_way.passed.rows; moved = under_way.passed.moved; moment = under_way.passed.moment };
      };
    }

differs : (k : Keeping) (given : NoteEdit) (found : Option Note) (p : Progress) (note : Note) → WhereTold k (λ h. found ≡ note_at h.rows given.note) → (IsSameFound found given → ⊥) → HoldsCollection k p.collection
    → note_at p.collection.rows given.note ≡ Some note → IsSame note given → ⊥
differs k given found p note told apart tells there same =
    let is : found ≡ Some note = told_at k p.collection (λ h. found ≡ note_at h.rows given.note) tells told ∙ there in
    apart (subst (λ (o : Option Note). IsSameFound o given) (sym is) same)

-- it has others
pub change_taken : (k k_after : Keeping) (arrival : Arrival) (given : NoteEdit) (how : Outcome) (work after : Work) (found : Option Note) → WhereTold k (λ h. found ≡ note_at h.rows given.note)
    → (IsSameFound found given → ⊥) → UpdatesNote arrival given how work k after k_after → ChangesNote arrival given how work k after k_after
change_taken k k_after arrival given how work after found told apart from c p note under_way there =
    let taken = from c p under_way in
    record {
      after = taken.after;
      done = inr (differs k given found p note told apart under_way.tells there, taken.done);
      counts = taken.counts;
      under_way = taken.under_way;
    }

pub change_refused : (k : Keeping) (arrival : Arrival) (given : NoteEdit) (work : Work) (fault : DeskFault) (found : Option Note) → WhereTold k (λ h. found ≡ note_at h.rows given.note) → (IsSameFound found given → ⊥)
    → IsFromOutside fault ⊎ RefusesToUpdate arrival given work k fault → IsFromOutside fault ⊎ RefusesToChange arrival given work k fault
change_refused k arrival given work fault found told apart either = elim either [
  | inl outside ↦ inl outside
  | inr refuses ↦ inr (λ c p note under_way there. (differs k given found p note told apart under_way.tells there, refuses c p under_way))
]

-- ---- a record
least_at : (arrival : Arrival) (r : Record) (c : Collection) (p : Progress) (work : Work) (k : Keeping) (found : Option ℤ) → get_by_text work.guids r.guid ≡ found → IsUnderWay arrival.at c p work k
    → IsLeastId p.collection.rows r.guid found
least_at arrival r c p work k found is under_way = subst (IsLeastId p.collection.rows r.guid) is (under_way.guids r.guid)

pub record_added : (k k_after : Keeping) (arrival : Arrival) (r : Record) (how : Outcome) (work after : Work) → get_by_text work.guids r.guid ≡ None → AddsRecord arrival r how work k after k_after
    → TakesRecord arrival r how work k after k_after
record_added k k_after arrival r how work after is from c p under_way =
    let taken = from c p under_way in
    record {
      after = taken.after;
      done = (None, least_at arrival r c p work k None is under_way, taken.done);
      counts = taken.counts;
      under_way = taken.under_way;
    }

pub record_not_added : (k : Keeping) (arrival : Arrival) (r : Record) (work : Work) (fault : DeskFault) → get_by_text work.guids r.guid ≡ None → IsFromOutside fault ⊎ RefusesNew arrival r work k fault
    → IsFromOutside fault ⊎ RefusesUnderWay arrival r work k fault
record_not_added k arrival r work fault is either = elim either [
  | inl outside ↦ inl outside
  | inr refuses ↦ inr (λ c p under_way. (None, least_at arrival r c p work k None is under_way, refuses c p under_way))
]

pub record_changed : (k k_after : Keeping) (arrival : Arrival) (r : Record) (id : ℤ) (how : Outcome) (work after : Work) → get_by_text work.guids r.guid ≡ Some id
    → ChangesNote arrival (edit_of_record id r) how work k after k_after → TakesRecord arrival r how work k after k_after
record_changed k k_after arrival r id how work after is changes c p under_way =
    let least = least_at arrival r c p work k (Some id) is under_way in
    let note = note_with (note_at p.collection.rows id) r.guid least.has in
    let taken = changes c p note.0 under_way note.1 in
    record {
      after = taken.after;
      done = (Some id, least, (note.0, note.1, taken.done));
      counts = taken.counts;
      under_way = taken.under_way;
    }

pub record_not_changed : (k : Keeping) (arrival : Arrival) (r : Record) (id : ℤ) (work : Work) (fault : DeskFault) → get_by_text work.guids r.guid ≡ Some id
    → IsFromOutside fault ⊎ RefusesToChange arrival (edit_of_record id r) work k fault → IsFromOutside fault ⊎ RefusesUnderWay arrival r work k fault
record_not_changed k arrival r id work fault is either = elim either [
  | inl outside ↦ inl outside
  | inr refuses ↦ inr (λ c p under_way.
      let least = least_at arrival r c p work k (Some id) is under_way in
      let note = note_with (note_at p.collection.rows id) r.guid least.has in
      (Some id, least, (note.0, note.1, refuses c p note.0 under_way note.1)))
]

-- ---- results
-- what follows of an answer
pub ok_map : {T E : Type 0} (result : Result T E) (P Q : T → Type 0) → ((value : T) → P value → Q value) → IfOk result P → IfOk result Q
ok_map (Ok value) P Q step is = step value is
ok_map (Err fault) P Q step is = tt

-- what follows of a refusal
pub err_map : {T E : Type 0} (result : Result T E) (P Q : E → Type 0) → ((fault : E) → P fault → Q fault) → IfErr result P → IfErr result Q
err_map (Ok value) P Q step is = tt
err_map (Err fault) P Q step is = step fault is

-- what a `?` hands on
pub exits : {T : Type 0} (result : Result T DeskFault) (fault : DeskFault) (P : DeskFault → Type 0) → IsErrAnd result (λ (other : DeskFault). other ≡ fault) → P fault → IfErr result P
exits (Ok value) fault P is so = tt
exits (Err other) fault P is so = subst P (sym is) so

-- running out of memory is not a fault of the keeper
pub memory_cause : {T : Type 0} (a b : Health) (result : Result T DeskFault) → GoesOn a b → IsErrAnd result (λ (other : DeskFault). other ≡ faults.Memory) → DeskCause {T = T} a b result
memory_cause a b (Ok value) goes is = absurd is
memory_cause a b (Err fault) goes is = record { goes = goes; failed = λ failed. absurd (cc); unfailed = λ _ failed. absurd (cc) }

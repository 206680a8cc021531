-- A note type that is edited: what the changes ask for, and what the call answers.
use Rattle.std.specs.Prelude.{◌≡◌, ℕ, ℤ, Bool, true, false, not, if◌then◌else◌, List, [], ◌∷◌, Option, Some, None, IfSome, Result, Ok, Err}
use Rattle.std.proofs.Common.{refl, sym, ap, subst, inl, inr, ◌∙◌}
use Rattle.std.proofs.lemmas.Option.{same_Some}
use Rattle.std.specs.Option.{option_and_then, option_map}
use Rattle.ak_base.specs.declared.cards.Card.{Card}
use Rattle.ak_base.specs.declared.heads.Conf.{Conf}
use Rattle.ak_base.specs.declared.heads.Head.{Head}
use Rattle.ak_base.specs.declared.names.Name.{Name}
use Rattle.ak_base.specs.declared.names.Table.TheVariants as tables
use Rattle.ak_base.specs.declared.note_types.NoteType.{NoteType}
use Rattle.ak_base.specs.declared.notes.Note.{Note}
use Rattle.ak_base.specs.declared.rows.Row.{Row}
use Rattle.ak_base.specs.declared.rows.Row.TheVariants as rows
use Rattle.ak_edit_calls.proofs.Answering.{passed_first, refused_first}
use Rattle.ak_edit_calls.proofs.Overlaying.{edit_by_names}
use Rattle.ak_edit_calls.proofs.Telling.{where_held-both, where_held-map, where_rows_held, where_told-both}
use Rattle.ak_edit.proofs.Building.{put_asked}
use Rattle.ak_edit.specs.Ends.{AnswersEnd, FinishedBy, IsFinished, IsHeldRightly, RefusesEnd}
use Rattle.ak_edit.specs.Overlays.{Overlay, edit_of, put_over, unchanged}
use Rattle.ak_edit.specs.Refusals.{AnswersBy}
use Rattle.ak_edit.specs.declared.desk_faults.DeskFault.{DeskFault}
use Rattle.ak_keep.proofs.Told.{where_told-map}
use Rattle.ak_keep.specs.Collections.{Collection, Holding, Rows, collection_of}
use Rattle.ak_keep.specs.Keepers.{Keeping, WhereHeld, WhereTold}
use Rattle.ak_keep.specs.Lookups.{note_type_at}
use Rattle.ak_merge.specs.EditBuilding.{unedited, with_conf, with_row, with_rows_mapped, without_rows}
use Rattle.ak_merge.specs.Edits.{Edit}
use Rattle.ak_merge.specs.Holdings.{name_in, row_under}
use Rattle.ak_notes.proofs.ToldOrds.{ords_once}
use Rattle.ak_notes.specs.LackingNotes.{next_at}
use Rattle.ak_notes.specs.MadeNotes.{IsMissingIn, NeedsHeld, cards_over, with_cards}
use Rattle.ak_notes.specs.declared.lacking_notes.HeldCards.{HeldCards}
use Rattle.ak_notes.specs.declared.lacking_notes.LackingNote.{LackingNote}
use Rattle.ak_notes.specs.declared.lacking_notes.MissingCards.{MissingCards}
use Rattle.ak_notes.specs.declared.lacking_notes.NextCards.{NextCards}
use Rattle.ak_types.proofs.MissingAll.{all_once}
use Rattle.ak_types.proofs.RetypedNames.{retyped_asked, retyped_rest}
use Rattle.ak_edit_calls.proofs.Taking.{err_too, ok_too, outside_held}
use Rattle.ak_types.specs.GivenTypes.{as_given}
use Rattle.ak_types.specs.RetypedCards.{AreAllMissing, AreLacking, IsLackingWith, IsRetypedBy, RefusesAllIds, notes_of}
use Rattle.ak_types.specs.RetypedRows.{is_dropped, retyped}
use Rattle.ak_types.specs.TypeEdits.{DoesEditType, IsEditOver, IsMadeIn, IsRetyping, IsRetypingOf, IsTypeEdited, RefusesCards, RefusesForType, RefusesRetyped, RefusesToEdit, RefusesType, RefusesTypeEdit, all_retyped, keeps_schema, made_over, retyping, schema_if_over, with_schema_if}
use Rattle.ak_types.specs.declared.retyped_notes.Retyped.{Retyped}
use Rattle.ak_types.specs.declared.type_edits.TypeEdit.{TypeEdit}
use Rattle.ak_undo.specs.declared.steps.Step.{Step}

-- ---- what the changes ask for
cards_asked : (cards : List Card) (o : Overlay) (c : Collection) → edit_of (cards_over cards o) c ≡ with_cards cards (edit_of o c)
cards_asked [] o c = refl
cards_asked (card ∷ cards) o c = cards_asked cards (put_over (rows.Card card) o) c ∙ ap (with_cards cards) (put_asked c o (rows.Card card))

schema_asked : (changes : Bool) (o : Overlay) (c : Collection) → o.schema ≡ false → edit_of (schema_if_over changes o) c ≡ with_schema_if changes (edit_of o c)
schema_asked true o c is = refl
schema_asked false o c is = ap (λ (b : Bool). let e : Edit = record (edit_of o c) { schema = b } in e) is

and_then_map : (gone : Row → Bool) (change : Row → Row) (x : Option Row)
    → option_and_then (λ (row : Row). option_map change (if gone row then None else Some row)) x ≡ option_map change (option_and_then (λ (row : Row). if gone row then None else Some row) x)
and_then_map gone change None = refl
and_then_map gone change (Some row) = refl

-- those of the notes ask that each row is as it is after the edit
notes_asked : (given : TypeEdit) (old : NoteType) (c : Collection) → IsHeldRightly c
    → edit_of (all_retyped given old c.rows) c ≡ with_rows_mapped (retyped given old c.rows) (without_rows (is_dropped given old c.rows) (unedited c))
notes_asked given old c rightly =
    edit_by_names (all_retyped given old c.rows) c
    (λ (name : Name). option_map (retyped given old c.rows) (option_and_then (λ (row : Row). if is_dropped given old c.rows row then None else Some row) (row_under c name)))
    (retyped_rest given old c.rows (notes_of given.note_type.id c.rows) unchanged)
    (λ (name : Name). retyped_asked given old c.rows name rightly.named rightly.checked ∙ and_then_map (is_dropped given old c.rows) (retyped given old c.rows) (row_under c name))

-- all of them ask for the edit
pub made_asked : (given : TypeEdit) (old : NoteType) (cards : List Card) (conf : Conf) (c : Collection) → IsHeldRightly c
    → edit_of (made_over given old cards conf (all_retyped given old c.rows)) c ≡ retyping given old cards conf c
made_asked given old cards conf c rightly =
    let notes : Overlay = all_retyped given old c.rows in
    let put : Overlay = put_over (rows.NoteType (as_given given.note_type)) notes in
    let changes : Bool = not (keeps_schema given old) in
    let plain : put.schema ≡ false = ap (λ (r : Option Conf × (List (List ℕ) × Bool)). r.1.1) (retyped_rest given old c.rows (notes_of given.note_type.id c.rows) unchanged) in
    ap (with_conf conf) (cards_asked cards (schema_if_over changes put) c)
    ∙ ap (λ (e : Edit). with_conf conf (with_cards cards e))
    (schema_asked changes put c plain
    ∙ ap (with_schema_if changes) (put_asked c notes (rows.NoteType (as_given given.note_type)) ∙ ap (with_row (rows.NoteType (as_given given.note_type))) (notes_asked given old c rightly)))

-- ---- a type is edited in one way
same_lacking : (a b : LackingNote) → a.note ≡ b.note → a.held ≡ b.held → a.shown ≡ b.shown → a.needs_card ≡ b.needs_card → a ≡ b
same_lacking a b note held shown needs =
    ap (λ (n : ℤ). let l : LackingNote = record { note = n; held = a.held; shown = a.shown; needs_card = a.needs_card } in l) note
    ∙ ap (λ (h : HeldCards). let l : LackingNote = record { note = b.note; held = h; shown = a.shown; needs_card = a.needs_card } in l) held
    ∙ ap (λ (s : List ℤ). let l : LackingNote = record { note = b.note; held = b.held; shown = s; needs_card = a.needs_card } in l) shown
    ∙ ap (λ (n : Bool). let l : LackingNote = record { note = b.note; held = b.held; shown = b.shown; needs_card = n } in l) needs

one_lacking : (note_type : NoteType) (fields : List (List ℕ)) (id : ℤ) (cards : List Card) (a b : LackingNote) → IsLackingWith note_type fields id cards a → IsLackingWith note_type fields id cards b → a ≡ b
one_lacking note_type fields id cards a b one other =
    same_lacking a b (one.note ∙ sym other.note) (one.held ∙ sym other.held) (ords_once note_type fields a.shown b.shown one.shown other.shown) (one.needs ∙ sym other.needs)

lacking_once : (given : TypeEdit) (old : NoteType) (held : Rows) (notes : List Note) (x y : List LackingNote) → AreLacking given old held notes x → AreLacking given old held notes y → x ≡ y
lacking_once given old held [] x y one other = one ∙ sym other
lacking_once given old held (note ∷ notes) x y one other =
    let first : one.0 ≡ other.0 = one_lacking given.note_type _ note.id _ one.0 other.0 one.3 other.3 in
    let rest : one.1 ≡ other.1 = lacking_once given old held notes one.1 other.1 one.4 other.4 in
    one.2 ∙ ap (λ (l : LackingNote). l ∷ one.1) first ∙ ap (λ (l : List LackingNote). other.0 ∷ l) rest ∙ sym other.2

pub of_once : (at : ℤ) (given : TypeEdit) (old : NoteType) (held : Rows) (head : Head) (x y : List Card) (p q : Conf) → IsRetypingOf at given old held head x p → IsRetypingOf at given old held head y q
    → (x ≡ y) × (p ≡ q)
of_once at given old held head x y p q one other =
    let lacking : one.lacking ≡ other.lacking = lacking_once given old held (notes_of given.note_type.id held) one.lacking other.lacking one.lack other.lack in
    let made = all_once held other.lacking (next_at at head.conf) x y one.end other.end
    (subst (λ (l : List LackingNote). AreAllMissing held l (next_at at head.conf) x one.end) lacking one.missing) other.missing in
    (made.0, one.settings ∙ ap (λ (n : NextCards). n.conf) made.1 ∙ sym other.settings)

-- two retypings ask for one edit
retyping_once : (at : ℤ) (given : TypeEdit) (c : Collection) (old other : NoteType) (x y : List Card) (p q : Conf) → IsRetyping at given c old x p → IsRetyping at given c other y q
    → retyping given other y q c ≡ retyping given old x p c
retyping_once at given c old other x y p q one also =
    let same : other ≡ old = same_Some other old (sym also.there ∙ one.there) in
    let there : IsRetypingOf at given old c.rows c.head y q = subst (λ (t : NoteType). IsRetypingOf at given t c.rows c.head y q) same also.is in
    let made = of_once at given old c.rows c.head y x q p there one.is in
    ap (λ (t : NoteType). retyping given t y q c) same
    ∙ ap (λ (l : List Card). retyping given old l q c) made.0
    ∙ ap (λ (s : Conf). retyping given old x s c) made.1

-- ---- what it leaves
over_asked : (at : ℤ) (given : TypeEdit) (c : Collection) (o : Overlay) → IsHeldRightly c → (over : IsEditOver at given c o) → edit_of o c ≡ retyping given over.old over.is.cards over.is.conf c
over_asked at given c o rightly over =
    ap (λ (p : Overlay). edit_of p c) over.is.over ∙ made_asked given over.old over.is.cards over.is.conf c rightly

is_retyping : (at : ℤ) (given : TypeEdit) (c : Collection) (o : Overlay) → (over : IsEditOver at given c o) → IsRetyping at given c over.old over.is.cards over.is.conf
is_retyping at given c o over = record { there = over.there; is = over.is.is }

pub edit_done : (k now : Keeping) (at : ℤ) (given : TypeEdit) (o : Overlay) (steps left : List Step) → WhereHeld k (λ c. IsEditOver at given c o) → WhereHeld k IsHeldRightly
    → FinishedBy at o k now steps left → DoesEditType at given k now steps left
edit_done k now at given o steps left over rightly =
    where_held-both k (λ c. IsEditOver at given c o × IsHeldRightly c) (λ c. IsFinished at c (edit_of o c) k now steps left) (λ c. IsTypeEdited at given c k now steps left)
    (λ c both finished. record {
      old = both.0.old;
      cards = both.0.is.cards;
      conf = both.0.is.conf;
      is = is_retyping at given c o both.0;
      done = subst (λ (e : Edit). IsFinished at c e k now steps left) (over_asked at given c o both.1 both.0) finished;
    })
    (where_held-both k (λ c. IsEditOver at given c o) IsHeldRightly (λ c. IsEditOver at given c o × IsHeldRightly c) (λ c one other. (one, other)) over rightly)

-- ---- what it answers
end_answer : {T : Type 0} (at : ℤ) (given : TypeEdit) (c : Collection) (o : Overlay) (result : Result T DeskFault) → IsHeldRightly c → IsEditOver at given c o
    → AnswersBy (RefusesEnd at c (edit_of o c)) result → AnswersBy (RefusesRetyped at given c) result
end_answer at given c o (Ok value) rightly over answers = record {
  accepted = λ fault refuses. answers.accepted fault
      (subst (λ (e : Edit). RefusesEnd at c e fault)
      (retyping_once at given c over.old refuses.0 over.is.cards refuses.1 over.is.conf refuses.2 (is_retyping at given c o over) refuses.3 ∙ sym (over_asked at given c o rightly over)) refuses.4);
  refused = tt;
}
end_answer at given c o (Err fault) rightly over answers = record {
  accepted = tt;
  refused = elim answers.refused [
    | inl outside ↦ inl outside
    | inr refuses ↦ inr (over.old, over.is.cards, over.is.conf, is_retyping at given c o over, subst (λ (e : Edit). RefusesEnd at c e fault) (over_asked at given c o rightly over) refuses)
  ];
}

-- all that is known before the end
record IsReady (at : ℤ) (given : TypeEdit) (change : Overlay) (c : Collection) : Type 0 where
  over : IsEditOver at given c change
  tests : AnswersBy {T = Overlay} (RefusesToEdit at given c) (Ok change)
  rightly : IsHeldRightly c

ready : (k : Keeping) (at : ℤ) (given : TypeEdit) (change : Overlay) → WhereHeld k (λ c. IsEditOver at given c change) → WhereHeld k (λ c. AnswersBy {T = Overlay} (RefusesToEdit at given c) (Ok change))
    → WhereHeld k IsHeldRightly → WhereHeld k (IsReady at given change)
ready k at given change over tests rightly =
    where_held-both k (λ c. IsEditOver at given c change × AnswersBy {T = Overlay} (RefusesToEdit at given c) (Ok change)) IsHeldRightly (IsReady at given change)
    (λ c both is. record { over = both.0; tests = both.1; rightly = is })
    (where_held-both k (λ c. IsEditOver at given c change) (λ c. AnswersBy {T = Overlay} (RefusesToEdit at given c) (Ok change))
    (λ c. IsEditOver at given c change × AnswersBy {T = Overlay} (RefusesToEdit at given c) (Ok change)) (λ c one other. (one, other)) over tests) rightly

-- the answer of the end is that of the call
pub edit_answered : (k : Keeping) (at : ℤ) (given : TypeEdit) (change : Overlay) (result : Result (Unit {0}) DeskFault) → WhereHeld k (λ c. IsEditOver at given c change)
    → WhereHeld k (λ c. AnswersBy {T = Overlay} (RefusesToEdit at given c) (Ok change)) → WhereHeld k IsHeldRightly → AnswersEnd at change k result → WhereHeld k (λ c. AnswersBy (RefusesTypeEdit at given c) result)
edit_answered k at given change result over tests rightly =
    where_held-both k (IsReady at given change) (λ c. AnswersBy (RefusesEnd at c (edit_of change c)) result) (λ c. AnswersBy (RefusesTypeEdit at given c) result)
    (λ c is answers. passed_first (RefusesToEdit at given c) (RefusesRetyped at given c) change result is.tests (end_answer at given c change result is.rightly is.over answers))
    (ready k at given change over tests rightly)

-- a test before the end refuses
pub edit_tested : (T : Type 0) (k : Keeping) (at : ℤ) (given : TypeEdit) (fault : DeskFault) → WhereHeld k (λ c. AnswersBy {T = T} (RefusesToEdit at given c) (Err fault))
    → WhereHeld k (λ c. AnswersBy {T = Unit {0}} (RefusesTypeEdit at given c) (Err fault))
edit_tested T k at given fault =
    where_held-map k (λ c. AnswersBy {T = T} (RefusesToEdit at given c) (Err fault)) (λ c. AnswersBy {T = Unit {0}} (RefusesTypeEdit at given c) (Err fault))
    (λ c answers. refused_first (RefusesToEdit at given c) (RefusesRetyped at given c) fault answers)

-- ---- the type that is held
pub type_missing : (T : Type 0) (k : Keeping) (at : ℤ) (given : TypeEdit) (fault : DeskFault) → IsMissingIn k (λ held. note_type_at held given.note_type.id) (name_in tables.NoteType given.note_type.id) fault
    → WhereHeld k (λ c. AnswersBy {T = T} (RefusesToEdit at given c) (Err fault))
type_missing T k at given fault missing =
    elim missing [
      | inl outside ↦ outside_held T k (RefusesToEdit at given) fault outside
      | inr is ↦ where_held-map k (λ c. note_type_at c.rows given.note_type.id ≡ None) (λ c. AnswersBy {T = T} (RefusesToEdit at given c) (Err fault))
          (λ c none. record {
            accepted = tt;
            refused = inr (subst (λ (o : Option NoteType). NeedsHeld o (name_in tables.NoteType given.note_type.id) (RefusesForType at given c) fault) (sym none) is.1);
          }) (where_rows_held k (λ held. note_type_at held given.note_type.id ≡ None) is.0)
    ]

pub type_there : {T : Type 0} (k : Keeping) (at : ℤ) (given : TypeEdit) (old : NoteType) (result : Result T DeskFault) → WhereTold k (λ h. note_type_at h.rows given.note_type.id ≡ Some old)
    → WhereHeld k (λ c. AnswersBy (RefusesForType at given c old) result) → WhereHeld k (λ c. AnswersBy (RefusesToEdit at given c) result)
type_there k at given old result there =
    where_held-both k (λ c. note_type_at c.rows given.note_type.id ≡ Some old) (λ c. AnswersBy (RefusesForType at given c old) result) (λ c. AnswersBy (RefusesToEdit at given c) result)
    (λ c is answers. subst (λ (o : Option NoteType). AnswersBy (NeedsHeld o (name_in tables.NoteType given.note_type.id) (RefusesForType at given c)) result) (sym is) answers)
    (where_rows_held k (λ held. note_type_at held given.note_type.id ≡ Some old) there)

pub over_there : (k : Keeping) (at : ℤ) (given : TypeEdit) (old : NoteType) (o : Overlay) → WhereTold k (λ h. note_type_at h.rows given.note_type.id ≡ Some old) → WhereHeld k (IsMadeIn at given old o)
    → WhereHeld k (λ c. IsEditOver at given c o)
over_there k at given old o there =
    where_held-both k (λ c. note_type_at c.rows given.note_type.id ≡ Some old) (IsMadeIn at given old o) (λ c. IsEditOver at given c o)
    (λ c is made. record { old = old; there = is; is = made })
    (where_rows_held k (λ held. note_type_at held given.note_type.id ≡ Some old) there)

-- ---- the tests with it
pub form_refuses : (T U : Type 0) (k : Keeping) (at : ℤ) (given : TypeEdit) (old : NoteType) (fault : DeskFault) → WhereTold k (λ h. AnswersBy {T = T} (RefusesType given old h.rows) (Err fault))
    → WhereHeld k (λ c. AnswersBy {T = U} (RefusesForType at given c old) (Err fault))
form_refuses T U k at given old fault tests =
    where_held-map k (λ c. AnswersBy {T = T} (RefusesType given old c.rows) (Err fault)) (λ c. AnswersBy {T = U} (RefusesForType at given c old) (Err fault))
    (λ c answers. refused_first (RefusesType given old c.rows) (RefusesCards at given old c) fault answers)
    (where_rows_held k (λ held. AnswersBy {T = T} (RefusesType given old held) (Err fault)) tests)

pub form_passes : {T U : Type 0} (k : Keeping) (at : ℤ) (given : TypeEdit) (old : NoteType) (value : T) (result : Result U DeskFault) → WhereTold k (λ h. AnswersBy {T = T} (RefusesType given old h.rows) (Ok value))
    → WhereHeld k (λ c. AnswersBy (RefusesCards at given old c) result) → WhereHeld k (λ c. AnswersBy (RefusesForType at given c old) result)
form_passes {T} {U} k at given old value result tests =
    where_held-both k (λ c. AnswersBy {T = T} (RefusesType given old c.rows) (Ok value)) (λ c. AnswersBy (RefusesCards at given old c) result) (λ c. AnswersBy (RefusesForType at given c old) result)
    (λ c passes answers. passed_first (RefusesType given old c.rows) (RefusesCards at given old c) value result passes answers)
    (where_rows_held k (λ held. AnswersBy {T = T} (RefusesType given old held) (Ok value)) tests)

-- ---- the cards
-- what is told of the notes, of the first place and of the answer for their cards
record IsCounted {T : Type 0} (at : ℤ) (given : TypeEdit) (old : NoteType) (made : Retyped) (next : NextCards) (result : Result T DeskFault) (c : Collection) : Type 0 where
  notes : IsRetypedBy given old c.rows made
  first : next ≡ next_at at c.head.conf
  answers : AnswersBy (RefusesAllIds made.lacking next c.rows) result

with_head : {T : Type 0} (at : ℤ) (given : TypeEdit) (old : NoteType) (made : Retyped) (next : NextCards) (result : Result T DeskFault) (h : Holding) → IsRetypedBy given old h.rows made
    → AnswersBy (RefusesAllIds made.lacking next h.rows) result → IfSome h.head (λ head. next ≡ next_at at head.conf) → IfSome (collection_of h) (IsCounted at given old made next result)
with_head {T} at given old made next result h notes answers first =
    elim h.head as (λ (o : Option Head). IfSome o (λ head. next ≡ next_at at head.conf) → IfSome (collection_of (record { rows = h.rows; head = o })) (IsCounted at given old made next result)) [
      | None ↦ λ _. tt
      | Some head ↦ λ is. record { notes = notes; first = is; answers = answers }
    ] first

pub record IsSeen {T : Type 0} (at : ℤ) (given : TypeEdit) (old : NoteType) (made : Retyped) (next : NextCards) (result : Result T DeskFault) (h : Holding) : Type 0 where
  pub notes : IsRetypedBy given old h.rows made
  pub first : IfSome h.head (λ head. next ≡ next_at at head.conf)
  pub answers : AnswersBy (RefusesAllIds made.lacking next h.rows) result

counted : {T : Type 0} (k : Keeping) (at : ℤ) (given : TypeEdit) (old : NoteType) (made : Retyped) (next : NextCards) (result : Result T DeskFault) → WhereTold k (IsSeen at given old made next result)
    → WhereHeld k (IsCounted at given old made next result)
counted k at given old made next result =
    where_told-map k (IsSeen at given old made next result) (λ h. IfSome (collection_of h) (IsCounted at given old made next result))
    (λ h is. with_head at given old made next result h is.notes is.answers is.first)

cards_answer : {T : Type 0} (at : ℤ) (given : TypeEdit) (old : NoteType) (made : Retyped) (next : NextCards) (result : Result T DeskFault) (c : Collection) → IsCounted at given old made next result c
    → AnswersBy (RefusesCards at given old c) result
cards_answer at given old made next (Ok value) c is = record {
  accepted = λ fault refuses.
      let same : refuses.0 ≡ made.lacking = lacking_once given old c.rows (notes_of given.note_type.id c.rows) refuses.0 made.lacking refuses.1 is.notes.lack in
      is.answers.accepted fault
      (subst (λ (n : NextCards). RefusesAllIds made.lacking n c.rows fault) (sym is.first) (subst (λ (l : List LackingNote). RefusesAllIds l (next_at at c.head.conf) c.rows fault) same refuses.2));
  refused = tt;
}
cards_answer at given old made next (Err fault) c is = record {
  accepted = tt;
  refused = elim is.answers.refused [
    | inl outside ↦ inl outside
    | inr refuses ↦ inr (made.lacking, is.notes.lack, subst (λ (n : NextCards). RefusesAllIds made.lacking n c.rows fault) is.first refuses)
  ];
}

-- the answer for the cards of all notes is that of the part
pub cards_answered : {T : Type 0} (k : Keeping) (at : ℤ) (given : TypeEdit) (old : NoteType) (made : Retyped) (next : NextCards) (result : Result T DeskFault) → WhereTold k (IsSeen at given old made next result)
    → WhereHeld k (λ c. AnswersBy (RefusesCards at given old c) result)
cards_answered {T} k at given old made next result seen =
    where_held-map k (IsCounted at given old made next result) (λ c. AnswersBy (RefusesCards at given old c) result)
    (λ c is. cards_answer at given old made next result c is) (counted k at given old made next result seen)

-- what is made of all is the edit
pub all_made : {T : Type 0} (k : Keeping) (at : ℤ) (given : TypeEdit) (old : NoteType) (made : Retyped) (next : NextCards) (result : Result T DeskFault) (cards : MissingCards) (o : Overlay)
    → WhereTold k (IsSeen at given old made next result) → WhereTold k (λ h. AreAllMissing h.rows made.lacking next cards.cards cards.next) → o ≡ made_over given old cards.cards cards.next.conf made.change
    → WhereHeld k (IsMadeIn at given old o)
all_made {T} k at given old made next result cards o seen missing over =
    where_held-both k (IsCounted at given old made next result) (λ c. AreAllMissing c.rows made.lacking next cards.cards cards.next) (IsMadeIn at given old o)
    (λ c is are. record {
      cards = cards.cards;
      conf = cards.next.conf;
      is = record {
        lacking = made.lacking;
        lack = is.notes.lack;
        end = cards.next;
        missing = subst (λ (n : NextCards). AreAllMissing c.rows made.lacking n cards.cards cards.next) is.first are;
        settings = refl;
      };
      over = over ∙ ap (made_over given old cards.cards cards.next.conf) is.notes.over;
    }) (counted k at given old made next result seen)
    (where_rows_held k (λ held. AreAllMissing held made.lacking next cards.cards cards.next) missing)

-- ---- by their parts
pub seen_of : {T : Type 0} (k : Keeping) (at : ℤ) (given : TypeEdit) (old : NoteType) (made : Retyped) (next : NextCards) (result : Result T DeskFault) → WhereTold k (λ h. IsRetypedBy given old h.rows made)
    → WhereTold k (λ h. IfSome h.head (λ head. next ≡ next_at at head.conf)) → WhereTold k (λ h. AnswersBy (RefusesAllIds made.lacking next h.rows) result) → WhereTold k (IsSeen at given old made next result)
seen_of k at given old made next result notes first answers =
    where_told-both k (λ h. IsRetypedBy given old h.rows made × IfSome h.head (λ head. next ≡ next_at at head.conf)) (λ h. AnswersBy (RefusesAllIds made.lacking next h.rows) result) (IsSeen at given old made next result)
    (λ h both is. record { notes = both.0; first = both.1; answers = is })
    (where_told-both k (λ h. IsRetypedBy given old h.rows made) (λ h. IfSome h.head (λ head. next ≡ next_at at head.conf)) (λ h. IsRetypedBy given old h.rows made × IfSome h.head (λ head. next ≡ next_at at head.conf))
    (λ h one other. (one, other)) notes first) answers

-- the cards pass, whatever is then made
pub cards_pass : (k : Keeping) (at : ℤ) (given : TypeEdit) (old : NoteType) (made : Retyped) (next : NextCards) (cards : MissingCards) (change : Overlay)
    → WhereTold k (IsSeen {T = MissingCards} at given old made next (Ok cards)) → WhereHeld k (λ c. AnswersBy {T = Overlay} (RefusesCards at given old c) (Ok change))
cards_pass k at given old made next cards change seen =
    where_held-map k (λ c. AnswersBy {T = MissingCards} (RefusesCards at given old c) (Ok cards)) (λ c. AnswersBy {T = Overlay} (RefusesCards at given old c) (Ok change))
    (λ c is. ok_too (RefusesCards at given old c) cards change is) (cards_answered k at given old made next (let r : Result MissingCards DeskFault = Ok cards in r) seen)

pub cards_refuse : (k : Keeping) (at : ℤ) (given : TypeEdit) (old : NoteType) (made : Retyped) (next : NextCards) (fault : DeskFault)
    → WhereTold k (IsSeen {T = MissingCards} at given old made next (Err fault)) → WhereHeld k (λ c. AnswersBy {T = Overlay} (RefusesCards at given old c) (Err fault))
cards_refuse k at given old made next fault seen =
    where_held-map k (λ c. AnswersBy {T = MissingCards} (RefusesCards at given old c) (Err fault)) (λ c. AnswersBy {T = Overlay} (RefusesCards at given old c) (Err fault))
    (λ c is. err_too {T = MissingCards} {U = Overlay} (RefusesCards at given old c) fault is) (cards_answered k at given old made next (let r : Result MissingCards DeskFault = Err fault in r) seen)

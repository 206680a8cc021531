-- The changes of the notes of a type, made page by page and note by note.
use Rattle.std.specs.Prelude.{◌≡◌, ℤ, pos, true, false, cond, List, [], ◌∷◌, ◌++◌, Option, Some, None, IfSome}
use Rattle.std.proofs.Common.{refl, sym, ap, subst, ◌∙◌, append_assoc, append-nil}
use Rattle.std.specs.List.{flat_map}
use Rattle.ak_base.specs.declared.names.Table.TheVariants as tables
use Rattle.ak_base.specs.declared.note_types.NoteType.{NoteType}
use Rattle.ak_base.specs.declared.notes.Note.{Note}
use Rattle.ak_base.specs.declared.rows.Row.{Row}
use Rattle.ak_edit.specs.Overlays.{Overlay, unchanged}
use Rattle.ak_edit_calls.proofs.Telling.{where_told-both}
use Rattle.ak_keep.proofs.Told.{where_told-map}
use Rattle.ak_keep.specs.Collections.{Holding, Rows, rows_past}
use Rattle.ak_keep.specs.Keepers.{Keeping, WhereTold}
use Rattle.ak_keep.specs.Marks.{WithMark}
use Rattle.ak_keep.specs.Walks.{ahead}
use Rattle.ak_keep.specs.declared.walks.Walk.{Walk}
use Rattle.ak_merge.specs.Holdings.{name_in}
use Rattle.ak_notes.specs.declared.lacking_notes.LackingNote.{LackingNote}
use Rattle.ak_types.specs.RetypedCards.{AreLacking, IsRetypedBy, RetypesNotes, note_of, notes_of}
use Rattle.ak_types.specs.RetypedRows.{note_retyped, notes_retyped}
use Rattle.ak_types.specs.declared.retyped_notes.Retyped.{Retyped}
use Rattle.ak_types.specs.declared.type_edits.TypeEdit.{TypeEdit}

-- ---- some notes, and then others
retyped_both : (given : TypeEdit) (old : NoteType) (held : Rows) (one other : List Note) (o : Overlay)
    → notes_retyped given old held (one ++ other) o ≡ notes_retyped given old held other (notes_retyped given old held one o)
retyped_both given old held [] other o = refl
retyped_both given old held (note ∷ one) other o = retyped_both given old held one other (note_retyped given old held note o)

lacking_both : (given : TypeEdit) (old : NoteType) (held : Rows) (one other : List Note) (x y : List LackingNote) → AreLacking given old held one x → AreLacking given old held other y
    → AreLacking given old held (one ++ other) (x ++ y)
lacking_both given old held [] other x y are also = subst (λ (l : List LackingNote). AreLacking given old held other (l ++ y)) (sym are) also
lacking_both given old held (note ∷ one) other x y are also =
    (are.0, are.1 ++ y, ap (λ (l : List LackingNote). l ++ y) are.2, are.3, lacking_both given old held one other are.1 y are.4 also)

pub retypes_none : (given : TypeEdit) (old : NoteType) (held : Rows) (made : Retyped) → RetypesNotes given old held [] made made
retypes_none given old held made = record { over = refl; new = []; lacking = sym (append-nil made.lacking); lack = refl }

pub retypes_both : (given : TypeEdit) (old : NoteType) (held : Rows) (one other : List Note) (a b c : Retyped) → RetypesNotes given old held one a b → RetypesNotes given old held other b c
    → RetypesNotes given old held (one ++ other) a c
retypes_both given old held one other a b c first then_ = record {
  over = then_.over ∙ ap (notes_retyped given old held other) first.over ∙ sym (retyped_both given old held one other a.change);
  new = first.new ++ then_.new;
  lacking = then_.lacking ∙ ap (λ (l : List LackingNote). l ++ then_.new) first.lacking ∙ append_assoc a.lacking first.new then_.new;
  lack = lacking_both given old held one other first.new then_.new first.lack then_.lack;
}

-- ---- the rows of a page
-- what the notes of the other rows make of what was made so far is what those of all make of what there was at first
abbrev pub Leads : TypeEdit → NoteType → Rows → List Row → List Row → Retyped → Retyped → Type 0
Leads given old held rest all so_far first =
    (end : Retyped) → RetypesNotes given old held (flat_map (note_of given.note_type.id) rest) so_far end
    → RetypesNotes given old held (flat_map (note_of given.note_type.id) all) first end

pub leads_all : (given : TypeEdit) (old : NoteType) (held : Rows) (all : List Row) (made : Retyped) → Leads given old held all all made made
leads_all given old held all made = λ end is. is

-- one row more
pub leads_one : (given : TypeEdit) (old : NoteType) (held : Rows) (row : Row) (rest all : List Row) (so_far now first : Retyped) → Leads given old held (row ∷ rest) all so_far first
    → RetypesNotes given old held (note_of given.note_type.id row) so_far now → Leads given old held rest all now first
leads_one given old held row rest all so_far now first leads step =
    λ end is. leads end (retypes_both given old held (note_of given.note_type.id row) (flat_map (note_of given.note_type.id) rest) so_far now end step is)

pub leads_end : (given : TypeEdit) (old : NoteType) (held : Rows) (all : List Row) (so_far first : Retyped) → Leads given old held [] all so_far first
    → RetypesNotes given old held (flat_map (note_of given.note_type.id) all) first so_far
leads_end given old held all so_far first leads = leads so_far (retypes_none given old held so_far)

-- ---- where it is told
told_all : (told : Option (WithMark Holding)) (P : Holding → Type 0) → ((h : Holding) → P h) → IfSome told (λ w. P w.current)
told_all None P is = tt
told_all (Some w) P is = is w.current

pub rows_start : (k : Keeping) (given : TypeEdit) (old : NoteType) (all : List Row) (made : Retyped) → WhereTold k (λ h. Leads given old h.rows all all made made)
rows_start k given old all made = told_all k.told (λ h. Leads given old h.rows all all made made) (λ h. leads_all given old h.rows all made)

pub rows_one : (k : Keeping) (given : TypeEdit) (old : NoteType) (row : Row) (rest all : List Row) (so_far now first : Retyped) → WhereTold k (λ h. Leads given old h.rows (row ∷ rest) all so_far first)
    → WhereTold k (λ h. RetypesNotes given old h.rows (note_of given.note_type.id row) so_far now) → WhereTold k (λ h. Leads given old h.rows rest all now first)
rows_one k given old row rest all so_far now first =
    where_told-both k (λ h. Leads given old h.rows (row ∷ rest) all so_far first) (λ h. RetypesNotes given old h.rows (note_of given.note_type.id row) so_far now) (λ h. Leads given old h.rows rest all now first)
    (λ h leads step. leads_one given old h.rows row rest all so_far now first leads step)

pub rows_end : (k : Keeping) (given : TypeEdit) (old : NoteType) (all : List Row) (so_far first : Retyped) → WhereTold k (λ h. Leads given old h.rows [] all so_far first)
    → WhereTold k (λ h. RetypesNotes given old h.rows (flat_map (note_of given.note_type.id) all) first so_far)
rows_end k given old all so_far first =
    where_told-map k (λ h. Leads given old h.rows [] all so_far first) (λ h. RetypesNotes given old h.rows (flat_map (note_of given.note_type.id) all) first so_far)
    (λ h leads. leads_end given old h.rows all so_far first leads)

-- ---- the walk
-- the same of the rows that are ahead
abbrev pub LeadsAhead : TypeEdit → NoteType → Walk → Retyped → Retyped → Rows → Type 0
LeadsAhead given old walk so_far first held = Leads given old held (ahead walk held) (rows_past tables.Note (pos 0) held) so_far first

start_told : (told : Option (WithMark Holding)) (given : TypeEdit) (old : NoteType) (made : Retyped) → IfSome told (λ w. LeadsAhead given old (record { past = name_in tables.Note (pos 0); done = false }) made made w.current.rows)
start_told None given old made = tt
start_told (Some w) given old made = λ end is. is

-- before the first page all notes are ahead
pub walk_start : (k : Keeping) (given : TypeEdit) (old : NoteType) (made : Retyped) → WhereTold k (λ h. LeadsAhead given old (record { past = name_in tables.Note (pos 0); done = false }) made made h.rows)
walk_start k given old made = start_told k.told given old made

flat_both : (note_type : ℤ) (one other : List Row) → flat_map (note_of note_type) (one ++ other) ≡ flat_map (note_of note_type) one ++ flat_map (note_of note_type) other
flat_both note_type [] other = refl
flat_both note_type (row ∷ one) other =
    ap (λ (l : List Note). note_of note_type row ++ l) (flat_both note_type one other)
    ∙ sym (append_assoc (note_of note_type row) (flat_map (note_of note_type) one) (flat_map (note_of note_type) other))

-- after one page more
pub walk_page : (k : Keeping) (given : TypeEdit) (old : NoteType) (walk next : Walk) (page : List Row) (so_far now first : Retyped) → WhereTold k (λ h. LeadsAhead given old walk so_far first h.rows)
    → WhereTold k (λ h. ahead walk h.rows ≡ page ++ ahead next h.rows) → WhereTold k (λ h. RetypesNotes given old h.rows (flat_map (note_of given.note_type.id) page) so_far now)
    → WhereTold k (λ h. LeadsAhead given old next now first h.rows)
walk_page k given old walk next page so_far now first leads split step =
    where_told-both k (λ h. LeadsAhead given old walk so_far first h.rows)
    (λ h. (ahead walk h.rows ≡ page ++ ahead next h.rows) × RetypesNotes given old h.rows (flat_map (note_of given.note_type.id) page) so_far now) (λ h. LeadsAhead given old next now first h.rows)
    (λ h leads both. λ end is. leads end
    (subst (λ (l : List Row). RetypesNotes given old h.rows (flat_map (note_of given.note_type.id) l) so_far end) (sym both.0)
    (subst (λ (l : List Note). RetypesNotes given old h.rows l so_far end) (sym (flat_both given.note_type.id page (ahead next h.rows)))
    (retypes_both given old h.rows (flat_map (note_of given.note_type.id) page) (flat_map (note_of given.note_type.id) (ahead next h.rows)) so_far now end both.1 is)))) leads
    (where_told-both k (λ h. ahead walk h.rows ≡ page ++ ahead next h.rows) (λ h. RetypesNotes given old h.rows (flat_map (note_of given.note_type.id) page) so_far now)
    (λ h. (ahead walk h.rows ≡ page ++ ahead next h.rows) × RetypesNotes given old h.rows (flat_map (note_of given.note_type.id) page) so_far now) (λ h one other. (one, other)) split step)

-- after the last page
pub walk_end : (k : Keeping) (given : TypeEdit) (old : NoteType) (walk : Walk) (so_far first : Retyped) → walk.done ≡ true → WhereTold k (λ h. LeadsAhead given old walk so_far first h.rows)
    → WhereTold k (λ h. RetypesNotes given old h.rows (notes_of given.note_type.id h.rows) first so_far)
walk_end k given old walk so_far first done =
    where_told-map k (λ h. LeadsAhead given old walk so_far first h.rows) (λ h. RetypesNotes given old h.rows (notes_of given.note_type.id h.rows) first so_far)
    (λ h leads. leads so_far
    (subst (λ (l : List Row). RetypesNotes given old h.rows (flat_map (note_of given.note_type.id) l) so_far so_far)
    (sym (ap (λ b. cond b [] (rows_past walk.past.table walk.past.id h.rows)) done)) (retypes_none given old h.rows so_far)))

-- ---- from nothing
pub retyped_by : (k : Keeping) (given : TypeEdit) (old : NoteType) (first made : Retyped) → first.change ≡ unchanged → first.lacking ≡ []
    → WhereTold k (λ h. RetypesNotes given old h.rows (notes_of given.note_type.id h.rows) first made) → WhereTold k (λ h. IsRetypedBy given old h.rows made)
retyped_by k given old first made change lacking =
    where_told-map k (λ h. RetypesNotes given old h.rows (notes_of given.note_type.id h.rows) first made) (λ h. IsRetypedBy given old h.rows made)
    (λ h is. record {
      over = is.over ∙ ap (notes_retyped given old h.rows (notes_of given.note_type.id h.rows)) change;
      lack = subst (AreLacking given old h.rows (notes_of given.note_type.id h.rows)) (sym (is.lacking ∙ ap (λ (l : List LackingNote). l ++ is.new) lacking)) is.lack;
    })

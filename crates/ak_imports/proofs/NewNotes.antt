-- Records whose guids no note has each add a note, in their order.
use Rattle.std.specs.Prelude.{◌≡◌, ◌⊎◌, ◌+◌, ℕ, ℤ, pos, negsuc, ◌<ℤ◌, ◌≤ℤ◌, Bool, true, false, ◌||◌, cond, int_lt, is_some, List, [], ◌∷◌, length, map, Option, Some, None, option_and_then}
use Rattle.std.proofs.Common.{refl, sym, ap, subst, inl, inr, ◌∙◌, arith}
use Rattle.std.proofs.lemmas.Int.{ints}
use Rattle.std.proofs.lemmas.Option.{none-some, same_Some}
use Rattle.std.specs.FinMap.{get}
use Rattle.std.specs.List.{AllByRecursion}
use Rattle.ak_base.proofs.RowFacts.{same_fields-itself}
use Rattle.ak_base.specs.Contents.{same_but_stamp_and_usn}
use Rattle.ak_base.specs.Rows.{stamp_of}
use Rattle.ak_base.specs.declared.names.Name.{Name}
use Rattle.ak_base.specs.declared.names.Table.{Table}
use Rattle.ak_base.specs.declared.names.Table.TheVariants as tables
use Rattle.ak_base.specs.declared.notes.Note.{Note}
use Rattle.ak_base.specs.declared.rows.Row.{Row}
use Rattle.ak_base.specs.declared.rows.Row.TheVariants as rows
use Rattle.ak_edit_calls.specs.NewNames.{first_name}
use Rattle.ak_imports.proofs.Admitting.{KeepsNames, rows_keep}
use Rattle.ak_imports.proofs.KeptGuids.{guid_after, note_after, same_is, same_itself, same_note}
use Rattle.ak_imports.proofs.LeastNotes.{row_of_note}
use Rattle.ak_imports.proofs.Making.{unused}
use Rattle.ak_imports.specs.Guids.{IsLeastId, guid_at}
use Rattle.ak_imports.specs.Imports.{AreRecordsDone, IsAddedDone, IsFoundDone, IsImported, IsRecordDone, Progress, arrival_of, made_after, start_of}
use Rattle.ak_imports.specs.KeptRows.{rows_with}
use Rattle.ak_imports.specs.NewNotes.{AreAllAdded, AreNewGuids, AreTextsOf, HaveCome, StoredTexts, texts_of_note, texts_of_record}
use Rattle.ak_imports.specs.OwnTests.{rows_made}
use Rattle.ak_imports.specs.declared.imports.Arrival.{Arrival}
use Rattle.ak_imports.specs.declared.imports.Import.{Import}
use Rattle.ak_imports.specs.declared.imports.Imported.{Imported}
use Rattle.ak_imports.specs.declared.imports.Outcome.TheVariants as outcomes
use Rattle.ak_imports.specs.declared.records.Record.{Record}
use Rattle.ak_keep.specs.Collections.{Collection, Rows}
use Rattle.ak_keep.specs.FreeNames.{is_used}
use Rattle.ak_keep.specs.Graves.{is_dead}
use Rattle.ak_keep.specs.Keepers.{Keeping}
use Rattle.ak_keep.specs.Lookups.{as_note, note_at}
use Rattle.ak_merge.proofs.Finding.{not_both}
use Rattle.ak_merge.specs.Edits.{advanced, edited, edited_row, edited_under, second_of}
use Rattle.ak_merge.specs.Holdings.{name_in}
use Rattle.ak_notes.specs.declared.made_notes.MadeNote.{MadeNote}
use Rattle.ak_undo.specs.declared.steps.Step.{Step}

-- ---- one record
-- a record whose guid no note has is added
added_here : (arrival : Arrival) (r : Record) (p q : Progress) → IsRecordDone arrival r p q → ((id : ℤ) → guid_at p.collection.rows id ≡ Some r.guid → ⊥) → IsAddedDone arrival r p q
added_here arrival r p q done fresh = elim done.0 as (λ (o : Option ℤ). IsLeastId p.collection.rows r.guid o → IsFoundDone arrival r o p q → IsAddedDone arrival r p q) [
  | None ↦ λ least is. is
  | Some id ↦ λ least is. absurd (fresh id least.has)
] done.1 done.2

-- what is told of the note that was made
pub record IsMadeNew (arrival : Arrival) (r : Record) (held : Rows) (made : MadeNote) : Type 0 where
  pub free : is_used (get held) (name_in tables.Note made.note.id) ≡ false
  pub from : (first_name tables.Note arrival.at).id ≤ℤ made.note.id
  pub least : (id : ℤ) → (first_name tables.Note arrival.at).id ≤ℤ id → id <ℤ made.note.id → is_used (get held) (name_in tables.Note id) ≡ true
  pub typed : made.note.mid ≡ arrival.note_type
  pub guid : made.note.guid ≡ r.guid
  pub fields : made.note.flds ≡ (texts_of_record r).flds
  pub tags : made.note.tags ≡ (texts_of_record r).tags

made_new : (arrival : Arrival) (r : Record) (p q : Progress) (is : IsAddedDone arrival r p q) → IsMadeNew arrival r p.collection.rows is.made
made_new arrival r p q is =
    let named = is.is.is.is in
    let id : named.name.id ≡ is.made.note.id = sym (ap (λ (n : Note). n.id) named.under.note) in
    let name : named.name ≡ name_in tables.Note is.made.note.id = ap (λ (t : Table). name_in t named.name.id) named.free.table ∙ ap (name_in tables.Note) id in
    record {
      free = subst (λ (n : Name). is_used (get p.collection.rows) n ≡ false) name named.free.free;
      from = subst (λ (i : ℤ). (first_name tables.Note arrival.at).id ≤ℤ i) id named.free.from;
      least = λ other from before. named.free.least other from (subst (λ (i : ℤ). other <ℤ i) (sym id) before);
      typed = ap (λ (n : Note). n.mid) named.under.note;
      guid = ap (λ (n : Note). n.guid) named.under.note;
      fields = ap (λ (n : Note). n.flds) named.under.note;
      tags = ap (λ (n : Note). n.tags) named.under.note;
    }

pub same_texts : (one other : StoredTexts) → one.guid ≡ other.guid → one.flds ≡ other.flds → one.tags ≡ other.tags → one ≡ other
same_texts one other guid flds tags =
    ap (λ (g : List ℕ). let t : StoredTexts = record one { guid = g } in t) guid
    ∙ ap (λ (f : List ℕ). let t : StoredTexts = record { guid = other.guid; flds = f; tags = one.tags } in t) flds
    ∙ ap (λ (g : List ℕ). let t : StoredTexts = record other { tags = g } in t) tags

no_note : (held : Rows) (id : ℤ) → is_used (get held) (name_in tables.Note id) ≡ false → note_at held id ≡ None
no_note held id free = ap (option_and_then as_note) (unused held (name_in tables.Note id) free)

-- ---- what stays
-- the guids of the records that are left are as new as before
fresh_after : (made : MadeNote) (held : Rows) (records : List Record) (guid : List ℕ) → made.note.guid ≡ guid → AllByRecursion (λ (other : Record). other.guid ≡ guid → ⊥) records → AreNewGuids held records
    → AreNewGuids (rows_with (rows_made made) held) records
fresh_after made held [] guid is apart fresh = tt
fresh_after made held (r ∷ others) guid is apart fresh = (
  λ id found. fresh.0 id (elim (same_note made.note.id id) as (λ b. cond b (Some made.note.guid) (guid_at held id) ≡ Some r.guid → guid_at held id ≡ Some r.guid) [
    | true ↦ λ same. absurd (apart.0 (sym (same_Some made.note.guid r.guid same) ∙ is))
    | false ↦ λ was. was
  ] (sym (guid_after made held id) ∙ found)),
  fresh.1,
  fresh_after made held others guid is apart.1 fresh.2,
)

-- a note that stood stands
note_stays : (made : MadeNote) (held : Rows) (id : ℤ) (note : Note) → note_at held made.note.id ≡ None → note_at held id ≡ Some note → note_at (rows_with (rows_made made) held) id ≡ Some note
note_stays made held id note free is =
    note_after made held id
    ∙ elim (same_note made.note.id id) as (λ b. same_note made.note.id id ≡ b → cond b (Some made.note) (note_at held id) ≡ Some note) [
      | true ↦ λ tied. absurd (none-some note (sym free ∙ ap (note_at held) (sym (same_is made.note.id id tied)) ∙ is))
      | false ↦ λ _. is
    ] refl

notes_stay : (arrival : Arrival) (records : List Record) (p q : Progress) (id : ℤ) (note : Note) → AreNewGuids p.collection.rows records → AreRecordsDone arrival records p q → note_at p.collection.rows id ≡ Some note
    → note_at q.collection.rows id ≡ Some note
notes_stay arrival [] p q id note fresh are is = subst (λ (s : Progress). note_at s.collection.rows id ≡ Some note) (sym are) is
notes_stay arrival (r ∷ others) p q id note fresh are is =
    let one = added_here arrival r p are.0 are.1 fresh.0 in
    let new = made_new arrival r p are.0 one in
    let after = made_after outcomes.Added r.tags one.made p in
    notes_stay arrival others after q id note (fresh_after one.made p.collection.rows others r.guid new.guid fresh.1 fresh.2) (subst (λ (s : Progress). AreRecordsDone arrival others s q) one.after are.2)
    (note_stays one.made p.collection.rows id note (no_note p.collection.rows one.made.note.id new.free) is)

-- a note that is held was held, or it is the one that was made
note_came : (made : MadeNote) (held : Rows) (id : ℤ) (note : Note) → note_at (rows_with (rows_made made) held) id ≡ Some note → (note_at held id ≡ Some note) ⊎ (made.note ≡ note)
note_came made held id note is =
    elim (same_note made.note.id id) as (λ b. cond b (Some made.note) (note_at held id) ≡ Some note → (note_at held id ≡ Some note) ⊎ (made.note ≡ note)) [
      | true ↦ λ here. inr (same_Some made.note note here)
      | false ↦ λ was. inl was
    ] (sym (note_after made held id) ∙ is)

-- a name that was used is used
used_stays : (c : Collection) (made : MadeNote) (name : Name) → is_used (get c.rows) name ≡ true → is_used (get (rows_with (rows_made made) c.rows)) name ≡ true
used_stays c made name used =
    let now : Bool = is_used (get (rows_with (rows_made made) c.rows)) name in
    elim now as (λ b. now ≡ b → b ≡ true) [
      | true ↦ λ _. refl
      | false ↦ λ free. absurd (not_both used (rows_keep c (rows_made made) c.rows (λ _ is. is) name free))
    ] refl

note_uses : (held : Rows) (id : ℤ) (note : Note) → note_at held id ≡ Some note → is_used (get held) (name_in tables.Note id) ≡ true
note_uses held id note is =
    ap (λ (o : Option Row). is_some o || is_dead (get held) (name_in tables.Note id)) (row_of_note (get held (name_in tables.Note id)) note is)

-- the ids from the first one to this one are used
abbrev AreUsedTo : ℤ → ℤ → Rows → Type 0
AreUsedTo first last held = (id : ℤ) → first ≤ℤ id → id ≤ℤ last → is_used (get held) (name_in tables.Note id) ≡ true

used_after : (arrival : Arrival) (r : Record) (c : Collection) (made : MadeNote) → IsMadeNew arrival r c.rows made → note_at (rows_with (rows_made made) c.rows) made.note.id ≡ Some made.note
    → AreUsedTo (first_name tables.Note arrival.at).id made.note.id (rows_with (rows_made made) c.rows)
used_after arrival r c made new stands id from upto =
    elim (int_lt id made.note.id) as (λ b. int_lt id made.note.id ≡ b → is_used (get (rows_with (rows_made made) c.rows)) (name_in tables.Note id) ≡ true) [
      | true ↦ λ less. used_stays c made (name_in tables.Note id) (new.least id from (grind (arith, ints, less)))
      | false ↦ λ reaches.
          let same : made.note.id ≡ id = grind (arith, ints, reaches, upto) in
          subst (λ (i : ℤ). is_used (get (rows_with (rows_made made) c.rows)) (name_in tables.Note i) ≡ true) same
          (note_uses (rows_with (rows_made made) c.rows) made.note.id made.note stands)
    ] refl

past_used : (arrival : Arrival) (r : Record) (held : Rows) (made : MadeNote) (past : ℤ) → IsMadeNew arrival r held made → AreUsedTo (first_name tables.Note arrival.at).id past held → past <ℤ made.note.id
past_used arrival r held made past new used =
    elim (int_lt past made.note.id) as (λ b. int_lt past made.note.id ≡ b → past <ℤ made.note.id) [
      | true ↦ λ less. grind (arith, ints, less)
      | false ↦ λ reaches. absurd (not_both (used made.note.id new.from (grind (arith, ints, reaches))) new.free)
    ] refl

-- ---- all of them
-- each record of the rest adds a note over what is held so far
pub record AreAdded (note_type : ℤ) (before : Rows) (past : ℤ) (records : List Record) (p q : Progress) : Type 0 where
  pub come : HaveCome note_type before q.collection.rows past (map texts_of_record records)
  pub only : (id : ℤ) (note : Note) → note_at q.collection.rows id ≡ Some note → (note_at p.collection.rows id ≡ Some note) ⊎ AreTextsOf note (map texts_of_record records)
  pub added : q.counts.added ≡ p.counts.added + length records
  pub updated : q.counts.updated ≡ p.counts.updated
  pub same : q.counts.same ≡ p.counts.same

all_added : (arrival : Arrival) (c : Collection) (past : ℤ) (records : List Record) (p q : Progress) → KeepsNames c p.collection.rows → AreUsedTo (first_name tables.Note arrival.at).id past p.collection.rows
    → AreNewGuids p.collection.rows records → AreRecordsDone arrival records p q → AreAdded arrival.note_type c.rows past records p q
all_added arrival c past [] p q keeps used fresh are = record {
  come = tt;
  only = λ id note is. inl (subst (λ (s : Progress). note_at s.collection.rows id ≡ Some note) are is);
  added = ap (λ (s : Progress). s.counts.added) are ∙ grind (arith);
  updated = ap (λ (s : Progress). s.counts.updated) are;
  same = ap (λ (s : Progress). s.counts.same) are;
}
all_added arrival c past (r ∷ others) p q keeps used fresh are =
    let one = added_here arrival r p are.0 are.1 fresh.0 in
    let made : MadeNote = one.made in
    let new = made_new arrival r p are.0 one in
    let held : Rows = p.collection.rows in
    let after : Progress = made_after outcomes.Added r.tags made p in
    let left : AreRecordsDone arrival others after q = subst (λ (s : Progress). AreRecordsDone arrival others s q) one.after are.2 in
    let fresh_left : AreNewGuids (rows_with (rows_made made) held) others = fresh_after made held others r.guid new.guid fresh.1 fresh.2 in
    let stands : note_at (rows_with (rows_made made) held) made.note.id ≡ Some made.note =
    note_after made held made.note.id ∙ ap (λ b. cond b (Some made.note) (note_at held made.note.id)) (same_itself made.note.id) in
    let rest : AreAdded arrival.note_type c.rows made.note.id others after q =
    all_added arrival c made.note.id others after q (rows_keep c (rows_made made) held keeps) (used_after arrival r p.collection made new stands) fresh_left left in
    record {
      come = (
        made.note,
        past_used arrival r held made past new used,
        record {
          is_new = unused c.rows (name_in tables.Note made.note.id) (keeps (name_in tables.Note made.note.id) new.free);
          stands = notes_stay arrival others after q made.note.id made.note fresh_left left stands;
          typed = new.typed;
          texts = same_texts (texts_of_note made.note) (texts_of_record r) new.guid new.fields new.tags;
        },
        rest.come,
      );
      only = λ id note is. elim (rest.only id note is) [
        | inl there ↦ elim (note_came made held id note there) [
          | inl was ↦ inl was
          | inr here ↦ inr (inl (ap texts_of_note (sym here) ∙ same_texts (texts_of_note made.note) (texts_of_record r) new.guid new.fields new.tags))
        ]
        | inr later ↦ inr (inr later)
      ];
      added = rest.added ∙ grind (arith);
      updated = rest.updated;
      same = rest.same;
    }

-- ---- the end of the edit
-- a note that came has its stamp and its number now
came_edited : (second : ℤ) (note_type : ℤ) (before made after : Rows) (past : ℤ) (texts : List StoredTexts) → ((name : Name) → get after name ≡ edited_under second (get before) (get made) name) → HaveCome note_type before made past texts
    → HaveCome note_type before after past texts
came_edited second note_type before made after past [] is come = tt
came_edited second note_type before made after past (one ∷ others) is come =
    let was : Note = come.0 in
    let name : Name = name_in tables.Note was.id in
    let row : get made name ≡ Some (rows.Note was) = row_of_note (get made name) was come.2.stands in
    let now : Note = record was { stamp = second; usn = negsuc 0 } in (
      now,
      come.1,
      record {
        is_new = come.2.is_new;
        stands = ap (option_and_then as_note) (is name ∙ ap (λ (o : Option Row). edited_row second o (get made name)) come.2.is_new ∙ ap (edited_row second None) row);
        typed = come.2.typed;
        texts = come.2.texts;
      },
      came_edited second note_type before made after was.id others is come.3,
    )

-- a row that is not changed stays
row_stays : (second : ℤ) (row : Row) → edited_row second (Some row) (Some row) ≡ Some row
row_stays second row = ap (λ (b : Bool). cond b (Some row) (Some (edited (advanced second (stamp_of row)) row))) (same_fields-itself row)

-- a note that stood stands as it was
stood_edited : (second : ℤ) (before made after : Rows) (id : ℤ) (note : Note) → ((name : Name) → get after name ≡ edited_under second (get before) (get made) name)
    → note_at before id ≡ Some note → note_at made id ≡ Some note → note_at after id ≡ Some note
stood_edited second before made after id note is was now =
    let name : Name = name_in tables.Note id in
    ap (option_and_then as_note) (is name
    ∙ ap (λ (o : Option Row). edited_row second o (get made name)) (row_of_note (get before name) note was)
    ∙ ap (edited_row second (Some (rows.Note note))) (row_of_note (get made name) note now)
    ∙ row_stays second (rows.Note note))

-- a note with these texts is one of those that were made
pub record IsOneMade (made : Option Row) (note : Note) : Type 0 where
  pub was : Note
  pub stood : option_and_then as_note made ≡ Some was
  pub texts : texts_of_note was ≡ texts_of_note note

one_edited : (stamp : ℤ) (row : Row) (note : Note) → as_note (edited stamp row) ≡ Some note → IsOneMade (Some row) note
one_edited stamp (rows.Note n) note is = record { was = n; stood = refl; texts = ap texts_of_note (same_Some (record n { stamp = stamp; usn = negsuc 0 }) note is) }
one_edited stamp (rows.Card x) note is = absurd (none-some note is)
one_edited stamp (rows.Review x) note is = absurd (none-some note is)
one_edited stamp (rows.NoteType x) note is = absurd (none-some note is)
one_edited stamp (rows.Deck x) note is = absurd (none-some note is)
one_edited stamp (rows.Options x) note is = absurd (none-some note is)
one_edited stamp (rows.Grave x) note is = absurd (none-some note is)

-- a note that stands after an edit stood before it, or it has the texts of one that was made
note_edited : (second : ℤ) (before made : Option Row) (note : Note) → option_and_then as_note (edited_row second before made) ≡ Some note
    → (option_and_then as_note before ≡ Some note) ⊎ IsOneMade made note
note_edited second None None note is = absurd (none-some note is)
note_edited second None (Some row) note is = inr (one_edited second row note is)
note_edited second (Some old) None note is = absurd (none-some note is)
note_edited second (Some old) (Some row) note is =
    elim (same_but_stamp_and_usn row old) as (λ b. option_and_then as_note (cond b (Some old) (Some (edited (advanced second (stamp_of old)) row))) ≡ Some note → (as_note old ≡ Some note) ⊎ IsOneMade (Some row) note) [
      | true ↦ λ was. inl was
      | false ↦ λ new. inr (one_edited (advanced second (stamp_of old)) row note new)
    ] is

texts_among : (was note : Note) (all : List StoredTexts) → texts_of_note was ≡ texts_of_note note → AreTextsOf was all → AreTextsOf note all
texts_among was note [] same is = is
texts_among was note (texts ∷ others) same is = elim is [ inl here ↦ inl (sym same ∙ here) | inr later ↦ inr (texts_among was note others same later) ]

only_edited : (second : ℤ) (before made after : Rows) (all : List StoredTexts) → ((name : Name) → get after name ≡ edited_under second (get before) (get made) name)
    → ((id : ℤ) (note : Note) → note_at made id ≡ Some note → (note_at before id ≡ Some note) ⊎ AreTextsOf note all)
    → (id : ℤ) (note : Note) → note_at after id ≡ Some note → (note_at before id ≡ Some note) ⊎ AreTextsOf note all
only_edited second before made after all is only id note stands =
    let name : Name = name_in tables.Note id in
    elim (note_edited second (get before name) (get made name) note (sym (ap (option_and_then as_note) (is name)) ∙ stands)) [
      | inl was ↦ inl was
      | inr one ↦ elim (only id one.was one.stood) [
        | inl was ↦ inl (subst (λ (n : Note). note_at before id ≡ Some n) (same_Some one.was note (sym (stood_edited second before made after id one.was is was one.stood) ∙ stands)) was)
        | inr among ↦ inr (texts_among one.was note all one.texts among)
      ]
    ]

-- an import of records whose guids no note has adds a note of each
pub new_guids_are_added : (at : ℤ) (given : Import) (c : Collection) (before now : Keeping) (steps left : List Step) (counts : Imported) (is : IsImported at given c before now steps left counts)
    → AreNewGuids c.rows given.records → AreAllAdded given.note_type c.rows is.done.after.rows given.records counts
new_guids_are_added at given c before now steps left counts is fresh =
    let arrival : Arrival = arrival_of given at in
    let all : AreAdded given.note_type c.rows (pos 0) given.records (start_of c) is.end =
    all_added arrival c (pos 0) given.records (start_of c) is.end (λ _ free. free) (λ id from upto. absurd (grind (arith, ints, from, upto))) fresh is.each in
    record {
      come = came_edited (second_of at) given.note_type c.rows is.end.collection.rows is.done.after.rows (pos 0) (map texts_of_record given.records) is.done.edited.rows all.come;
      kept = λ id note was. stood_edited (second_of at) c.rows is.end.collection.rows is.done.after.rows id note is.done.edited.rows was (notes_stay arrival given.records (start_of c) is.end id note fresh is.each was);
      only = only_edited (second_of at) c.rows is.end.collection.rows is.done.after.rows (map texts_of_record given.records) is.done.edited.rows all.only;
      added = ap (λ (n : Imported). n.added) is.counts ∙ all.added ∙ grind (arith);
      updated = ap (λ (n : Imported). n.updated) is.counts ∙ all.updated;
      same = ap (λ (n : Imported). n.same) is.counts ∙ all.same;
    }

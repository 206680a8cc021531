-- What stands under each name after a card was answered, and what the changes ask for.
use Rattle.std.specs.Prelude.{◌≡◌, ◌⊎◌, ℕ, ℤ, pos, Bool, true, false, cond, not, ◌&&◌, if◌then◌else◌, List, [], ◌∷◌, ◌++◌, Option, Some, None, is_some}
use Rattle.std.proofs.Common.{inl, inr, refl, sym, ap, subst, ◌∙◌}
use Rattle.std.proofs.Math.Path.{fun_ext}
use Rattle.std.proofs.lemmas.Bool.Decides.{Decides-int_eq}
use Rattle.std.proofs.lemmas.List.{append-nil}
use Rattle.std.proofs.lemmas.Option.{none-some, same_Some}
use Rattle.std.specs.Cmp.{tied_itself}
use Rattle.std.specs.FinMap.{get}
use Rattle.std.specs.Option.{option_and_then, option_map, option_map_or, option_or, unwrap_or}
use Rattle.std.specs.Ordering.{eq_by_cmp, int_eq, is_eq}
use Rattle.ak_base.specs.Names.{name_cmp, names_total}
use Rattle.ak_base.specs.Rows.{name_of}
use Rattle.ak_base.specs.declared.cards.Card.{Card}
use Rattle.ak_base.specs.declared.days.Day.{Day}
use Rattle.ak_base.specs.declared.decks.Deck.{Deck}
use Rattle.ak_base.proofs.Burials.{grave_table_by}
use Rattle.ak_base.specs.declared.graves.Grave.{Grave}
use Rattle.ak_base.specs.declared.heads.Conf.{Conf}
use Rattle.ak_base.specs.declared.names.Name.{Name}
use Rattle.ak_base.specs.declared.names.Table.{Table}
use Rattle.ak_base.specs.declared.names.Table.TheVariants as tables
use Rattle.ak_base.specs.declared.notes.Note.{Note}
use Rattle.ak_base.specs.declared.rows.Row.{Row}
use Rattle.ak_base.specs.declared.rows.Row.TheVariants as rows
use Rattle.ak_edit_calls.proofs.Overlaying.{put_under, rest_of}
use Rattle.ak_base.specs.RowsOfOneKind.{on_card}
use Rattle.ak_edit.specs.Overlays.{Overlay, edit_of, put_over, row_over, tag_over, unchanged}
use Rattle.ak_keep.proofs.RowsByName.{same_of_tied}
use Rattle.ak_keep.specs.Collections.{Collection, Rows, rows_past}
use Rattle.ak_keep.specs.Lookups.{as_note, deck_of_card, note_at}
use Rattle.ak_merge.proofs.EditFacts.{true_false}
use Rattle.ak_merge.specs.EditBuilding.{with_row, with_rows_mapped, with_tags}
use Rattle.ak_merge.specs.Edits.{Edit}
use Rattle.ak_edit.specs.Views.{rows_over}
use Rattle.ak_queue.specs.Burials.{bury_list}
use Rattle.ak_keep.specs.Graves.{RowsByName}
use Rattle.ak_merge.specs.Holdings.{AreChecked, AreNamed, name_in, row_under}
use Rattle.ak_study.proofs.BegunDays.{begun_rest, begun_under}
use Rattle.ak_study.proofs.BuriedSiblings.{row_aside, siblings_rest, siblings_under}
use Rattle.ak_study.proofs.DayLaws.{start_if}
use Rattle.ak_study.proofs.ChangedRows.{ChangesTable, changed_rest, changed_under}
use Rattle.ak_study.specs.Answers.{answer_edit, answer_put, counts_put, leech_put, row_answered, tags_answered}
use Rattle.ak_study.specs.CardPlaces.{lies_buried, restored, unburied}
use Rattle.ak_study.specs.DayStarts.{begun_on, begun_over, is_new_day, unburied_row}
use Rattle.ak_study.specs.DeckCounts.{counted, counted_row, counts_for, deck_answered, one_more}
use Rattle.ak_study.specs.LeechTags.{leech_tag, leech_tagged}
use Rattle.ak_study.specs.RowChanges.{put_rows_changed}
use Rattle.ak_study.specs.Siblings.{put_siblings, sibling_after}
use Rattle.ak_study.specs.declared.answerings.Answering.{Answering}
use Rattle.ak_study.specs.declared.day_starts.Begun.{Begun}

-- ---- names
tied : (q : Name) → eq_by_cmp name_cmp q q ≡ true
tied q = ap is_eq (tied_itself names_total q)

tied_ids : (q : Name) (row : Row) (key : Name) (b : Bool) → eq_by_cmp name_cmp q key ≡ b → name_of row ≡ q → eq_by_cmp name_cmp (name_of row) key ≡ b
tied_ids q row key b is bears = ap (λ (n : Name). eq_by_cmp name_cmp n key) bears ∙ is

-- ---- the decks that count
pub counted_named : (day : Day) (queue : ℤ) (home d : Deck) → name_of (rows.Deck (counted day queue d)) ≡ name_of (rows.Deck d)
counted_named day queue home d =
    elim (int_eq queue (pos 0)) as (λ a. name_of (rows.Deck (if a then counted day (pos 0) d else if int_eq queue (pos 2) then counted day (pos 2) d else d)) ≡ name_of (rows.Deck d)) [
      | true ↦ refl
      | false ↦ elim (int_eq queue (pos 2)) as (λ b. name_of (rows.Deck (if b then counted day (pos 2) d else d)) ≡ name_of (rows.Deck d)) [ true ↦ refl | false ↦ refl ]
    ]

counts_decks : (day : Day) (queue : ℤ) (home : Deck) → ChangesTable tables.Deck (counted_row day queue home)
counts_decks day queue home = record { name = λ row made is. keeps row made is; table = λ row made is. is_deck row made is }
  where
    keeps : (row made : Row) → counted_row day queue home row ≡ Some made → name_of made ≡ name_of row
    keeps (rows.Deck d) made is =
        elim (counts_for home d) as (λ b. (if b then Some (rows.Deck (counted day queue d)) else None) ≡ Some made → name_of made ≡ name_of (rows.Deck d)) [
          | true ↦ λ is. ap name_of (sym (same_Some (rows.Deck (counted day queue d)) made is)) ∙ counted_named day queue home d
          | false ↦ λ is. absurd (none-some made is)
        ] is
    keeps (rows.Note note) made is = absurd (none-some made is)
    keeps (rows.Card card) made is = absurd (none-some made is)
    keeps (rows.Review review) made is = absurd (none-some made is)
    keeps (rows.NoteType note_type) made is = absurd (none-some made is)
    keeps (rows.Options options) made is = absurd (none-some made is)
    keeps (rows.Grave grave) made is = absurd (none-some made is)

    is_deck : (row made : Row) → counted_row day queue home row ≡ Some made → (name_of row).table ≡ tables.Deck
    is_deck (rows.Deck d) made is = refl
    is_deck (rows.Note note) made is = absurd (none-some made is)
    is_deck (rows.Card card) made is = absurd (none-some made is)
    is_deck (rows.Review review) made is = absurd (none-some made is)
    is_deck (rows.NoteType note_type) made is = absurd (none-some made is)
    is_deck (rows.Options options) made is = absurd (none-some made is)
    is_deck (rows.Grave grave) made is = absurd (none-some made is)

-- what the decks that count are, if any do
abbrev counted_of : Day → Rows → Card → Row → Option Row
counted_of day held was row =
    if not (int_eq was.queue (pos 0)) && not (int_eq was.queue (pos 2)) then None
    else option_map_or (λ (home : Deck). counted_row day was.queue home row) (deck_of_card held was) None

abbrev nothing_of : Row → Option Row
nothing_of row = None

none_then : (x : Option Row) → option_and_then nothing_of x ≡ None
none_then None = refl
none_then (Some row) = refl

counts_under : (day : Day) (held : Rows) (was : Card) (o : Overlay) (q : Name) → AreNamed (get held) → AreChecked (get held)
    → row_over (counts_put day held was o) (get held) q ≡ option_or (option_and_then (counted_of day held was) (get held q)) (row_over o (get held) q)
counts_under day held was o q named checked =
    let x : Option Row = row_over o (get held) q in
    elim (not (int_eq was.queue (pos 0)) && not (int_eq was.queue (pos 2))) as (λ b.
    row_over (if b then o else option_map_or (λ (home : Deck). put_rows_changed (counted_row day was.queue home) (rows_past tables.Deck (pos 0) held) o) (deck_of_card held was) o) (get held) q
    ≡ option_or (option_and_then (λ (row : Row). if b then None else option_map_or (λ (home : Deck). counted_row day was.queue home row) (deck_of_card held was) None) (get held q)) x) [
      | true ↦ sym (ap (λ (y : Option Row). option_or y x) (none_then (get held q)))
      | false ↦
          elim (deck_of_card held was) as (λ (d : Option Deck).
          row_over (option_map_or (λ (home : Deck). put_rows_changed (counted_row day was.queue home) (rows_past tables.Deck (pos 0) held) o) d o) (get held) q
          ≡ option_or (option_and_then (λ (row : Row). option_map_or (λ (home : Deck). counted_row day was.queue home row) d None) (get held q)) x) [
            | None ↦ sym (ap (λ (y : Option Row). option_or y x) (none_then (get held q)))
            | Some home ↦ changed_under tables.Deck (counted_row day was.queue home) held o q (counts_decks day was.queue home) named checked
          ]
    ]

counts_rest : (day : Day) (held : Rows) (was : Card) (o : Overlay) → rest_of (counts_put day held was o) ≡ rest_of o
counts_rest day held was o =
    elim (not (int_eq was.queue (pos 0)) && not (int_eq was.queue (pos 2))) as (λ b.
    rest_of (if b then o else option_map_or (λ (home : Deck). put_rows_changed (counted_row day was.queue home) (rows_past tables.Deck (pos 0) held) o) (deck_of_card held was) o) ≡ rest_of o) [
      | true ↦ refl
      | false ↦
          elim (deck_of_card held was) as (λ (d : Option Deck).
          rest_of (option_map_or (λ (home : Deck). put_rows_changed (counted_row day was.queue home) (rows_past tables.Deck (pos 0) held) o) d o) ≡ rest_of o) [
            | None ↦ refl
            | Some home ↦ changed_rest (counted_row day was.queue home) (rows_past tables.Deck (pos 0) held) o
          ]
    ]

-- ---- the note of a leech
leech_note : Rows → Answering → Option Note
leech_note held a = if a.answered.leech then note_at held a.was.nid else None

leech_under : (held : Rows) (a : Answering) (o : Overlay) (q : Name)
    → row_over (leech_put held a o) (get held) q
    ≡ option_map_or (λ (note : Note). cond (eq_by_cmp name_cmp q (name_in tables.Note note.id)) (Some (rows.Note (leech_tagged note))) (row_over o (get held) q)) (leech_note held a) (row_over o (get held) q)
unfolding leech_note
leech_under held a o q =
    let x : Option Row = row_over o (get held) q in
    elim a.answered.leech as (λ b.
    row_over (if b then option_map_or (λ (note : Note). tag_over leech_tag (put_over (rows.Note (leech_tagged note)) o)) (note_at held a.was.nid) o else o) (get held) q
    ≡ option_map_or (λ (note : Note). cond (eq_by_cmp name_cmp q (name_in tables.Note note.id)) (Some (rows.Note (leech_tagged note))) x) (if b then note_at held a.was.nid else None) x) [
      | true ↦
          elim (note_at held a.was.nid) as (λ (n : Option Note).
          row_over (option_map_or (λ (note : Note). tag_over leech_tag (put_over (rows.Note (leech_tagged note)) o)) n o) (get held) q
          ≡ option_map_or (λ (note : Note). cond (eq_by_cmp name_cmp q (name_in tables.Note note.id)) (Some (rows.Note (leech_tagged note))) x) n x) [
            | None ↦ refl
            | Some note ↦ put_under o (get held) (rows.Note (leech_tagged note)) q
          ]
      | false ↦ refl
    ]

-- what is put for the note of a leech leaves what has another name
leech_away : (held : Rows) (a : Answering) (q : Name) (x : Option Row) → ((note : Note) → leech_note held a ≡ Some note → eq_by_cmp name_cmp q (name_in tables.Note note.id) ≡ false)
    → option_map_or (λ (note : Note). cond (eq_by_cmp name_cmp q (name_in tables.Note note.id)) (Some (rows.Note (leech_tagged note))) x) (leech_note held a) x ≡ x
leech_away held a q x away =
    elim (leech_note held a) as (λ (n : Option Note). leech_note held a ≡ n
    → option_map_or (λ (note : Note). cond (eq_by_cmp name_cmp q (name_in tables.Note note.id)) (Some (rows.Note (leech_tagged note))) x) n x ≡ x) [
      | None ↦ λ _. refl
      | Some note ↦ λ is. ap (λ (b : Bool). cond b (Some (rows.Note (leech_tagged note))) x) (away note is)
    ] refl

as_note_is : (x : Option Row) (note : Note) → option_and_then as_note x ≡ Some note → x ≡ Some (rows.Note note)
as_note_is None note is = absurd (none-some note is)
as_note_is (Some (rows.Note n)) note is = ap (λ (m : Note). Some (rows.Note m)) (same_Some n note is)
as_note_is (Some (rows.Card card)) note is = absurd (none-some note is)
as_note_is (Some (rows.Review review)) note is = absurd (none-some note is)
as_note_is (Some (rows.NoteType note_type)) note is = absurd (none-some note is)
as_note_is (Some (rows.Deck deck)) note is = absurd (none-some note is)
as_note_is (Some (rows.Options options)) note is = absurd (none-some note is)
as_note_is (Some (rows.Grave grave)) note is = absurd (none-some note is)

-- the note of a leech stands under its name, which is the one that its card names
note_stands : (held : Rows) (a : Answering) (note : Note) → AreNamed (get held) → leech_note held a ≡ Some note
    → (get held (name_in tables.Note note.id) ≡ Some (rows.Note note)) × (note.id ≡ a.was.nid)
unfolding leech_note
note_stands held a note named is =
    let there : get held (name_in tables.Note a.was.nid) ≡ Some (rows.Note note) =
    as_note_is (get held (name_in tables.Note a.was.nid)) note
    (elim a.answered.leech as (λ b. (if b then note_at held a.was.nid else None) ≡ Some note → note_at held a.was.nid ≡ Some note) [ true ↦ λ is. is | false ↦ λ is. absurd (none-some note is) ] is) in
    let bears : name_in tables.Note note.id ≡ name_in tables.Note a.was.nid = named (name_in tables.Note a.was.nid) (rows.Note note) there in
    ((ap (get held) bears ∙ there), ap (λ (n : Name). n.id) bears)

-- ---- under each name
-- a name is not that of the row, if nothing stands under it
not_there : (held : Rows) (q key : Name) (row : Row) → get held q ≡ None → get held key ≡ Some row → eq_by_cmp name_cmp q key ≡ false
not_there held q key row none there =
    elim (eq_by_cmp name_cmp q key) as (λ b. eq_by_cmp name_cmp q key ≡ b → b ≡ false) [
      | true ↦ λ is. absurd (none-some row (sym none ∙ ap (get held) (same_of_tied q key is) ∙ there))
      | false ↦ λ _. refl
    ] refl

-- names that are not the same
apart_ids : (q key : Name) → (q ≡ key → ⊥) → eq_by_cmp name_cmp q key ≡ false
apart_ids q key apart =
    elim (eq_by_cmp name_cmp q key) as (λ b. eq_by_cmp name_cmp q key ≡ b → b ≡ false) [ true ↦ λ is. absurd (apart (same_of_tied q key is)) | false ↦ λ _. refl ] refl

none_counted : (day : Day) (held : Rows) (was : Card) (row : Row) → ((home : Deck) → counted_row day was.queue home row ≡ None) → counted_of day held was row ≡ None
none_counted day held was row none =
    elim (not (int_eq was.queue (pos 0)) && not (int_eq was.queue (pos 2))) as (λ b.
    (if b then None else option_map_or (λ (home : Deck). counted_row day was.queue home row) (deck_of_card held was) None) ≡ None) [
      | true ↦ refl
      | false ↦ elim (deck_of_card held was) as (λ (d : Option Deck). option_map_or (λ (home : Deck). counted_row day was.queue home row) d None ≡ None) [ None ↦ refl | Some home ↦ none home ]
    ]

-- a deck that counts an answer, by whether the card was new or a review
abbrev counts : Day → Deck → Bool → Bool → Deck
counts day d new review = if new then record d { new_today = one_more day d.new_today } else if review then record d { rev_today = one_more day d.rev_today } else d

-- what stands under the name of a deck once the answer was counted
deck_counted : (day : Day) (held : Rows) (was : Card) (d : Deck)
    → option_or (counted_of day held was (rows.Deck d)) (Some (rows.Deck d)) ≡ Some (rows.Deck (deck_answered day was.queue (deck_of_card held was) d))
deck_counted day held was d =
    elim (deck_of_card held was) as (λ (home : Option Deck).
    option_or (if not (int_eq was.queue (pos 0)) && not (int_eq was.queue (pos 2)) then None else option_map_or (λ (h : Deck). counted_row day was.queue h (rows.Deck d)) home None) (Some (rows.Deck d))
    ≡ Some (rows.Deck (deck_answered day was.queue home d))) [
      | None ↦ nothing (not (int_eq was.queue (pos 0)) && not (int_eq was.queue (pos 2)))
      | Some h ↦ by_queue h (int_eq was.queue (pos 0)) (int_eq was.queue (pos 2))
    ]
  where
    nothing : (b : Bool) → option_or (if b then None else None) (Some (rows.Deck d)) ≡ Some (rows.Deck d)
    nothing true = refl
    nothing false = refl

    by_test : (made : Deck) (b : Bool) → option_or (if b then Some (rows.Deck made) else None) (Some (rows.Deck d)) ≡ Some (rows.Deck (if b then made else d))
    by_test made true = refl
    by_test made false = refl

    same_deck : (b : Bool) → Some (rows.Deck d) ≡ Some (rows.Deck (if b then d else d))
    same_deck true = refl
    same_deck false = refl

    by_queue : (h : Deck) (new review : Bool)
        → option_or (if not new && not review then None else if counts_for h d then Some (rows.Deck (counts day d new review)) else None) (Some (rows.Deck d)) ≡ Some (rows.Deck (if counts_for h d then counts day d new review else d))
    by_queue h true review = by_test (counts day d true review) (counts_for h d)
    by_queue h false true = by_test (counts day d false true) (counts_for h d)
    by_queue h false false = same_deck (counts_for h d)

abbrev Apart : ℤ → ℤ → Table → Table → Type 0
Apart one other t u = is_eq (name_cmp (record { table = t; id = one }) (record { table = u; id = other })) ≡ false

-- a grave has no name of a card, a note or a review
grave_apart : (g : Grave) (key : Name) → (key.table ≡ tables.Card) ⊎ ((key.table ≡ tables.Note) ⊎ (key.table ≡ tables.Review)) → eq_by_cmp name_cmp (name_of (rows.Grave g)) key ≡ false
grave_apart g key is =
    grave_table_by (λ (t : Table). is_eq (name_cmp (record { table = t; id = g.oid }) key) ≡ false) (one tables.CardGrave (λ _. (refl, (refl, refl))) is) (one tables.NoteGrave (λ _. (refl, (refl, refl))) is) (one tables.DeckGrave (λ _. (refl, (refl, refl))) is) g.kind
  where
    one : (t : Table) → ((_ : Unit {0}) → Apart g.oid key.id t tables.Card × (Apart g.oid key.id t tables.Note × Apart g.oid key.id t tables.Review)) → (key.table ≡ tables.Card) ⊎ ((key.table ≡ tables.Note) ⊎ (key.table ≡ tables.Review))
        → is_eq (name_cmp (record { table = t; id = g.oid }) key) ≡ false
    one t all (inl is) = subst (λ (u : Table). Apart g.oid key.id t u) (sym is) (all tt).0
    one t all (inr (inl is)) = subst (λ (u : Table). Apart g.oid key.id t u) (sym is) (all tt).1.0
    one t all (inr (inr is)) = subst (λ (u : Table). Apart g.oid key.id t u) (sym is) (all tt).1.1

-- ---- all that is put
module _ (day : Day) (held : Rows) (a : Answering) (named : AreNamed (get held)) (checked : AreChecked (get held)) (made_id : a.made.id ≡ a.was.id) where
  abbrev Cards : Option Row → Name → Option Row
  Cards x q =
      cond (eq_by_cmp name_cmp q (name_in tables.Review a.answered.review.id)) (Some (rows.Review a.answered.review))
      (cond (eq_by_cmp name_cmp q (name_in tables.Card a.made.id)) (Some (rows.Card a.made)) (option_map (row_aside a.was a.options day) x))

  abbrev Leech : Option Row → Name → Option Row
  Leech x q = option_map_or (λ (note : Note). cond (eq_by_cmp name_cmp q (name_in tables.Note note.id)) (Some (rows.Note (leech_tagged note))) x) (leech_note held a) x

  -- what stands under a name whose row is y, and x once the day has begun
  abbrev Left : Option Row → Option Row → Name → Option Row
  Left y x q = Leech (option_or (option_and_then (counted_of day held a.was) y) (Cards x q)) q

  abbrev Wanted : Option Row → Name → Option Row
  Wanted x q = cond (eq_by_cmp name_cmp q (name_in tables.Review a.answered.review.id)) (Some (rows.Review a.answered.review)) (option_map (row_answered day a held) x)

  -- where neither the card nor the note stands
  other_row : (q : Name) (y x : Option Row) → option_and_then (counted_of day held a.was) y ≡ None → eq_by_cmp name_cmp q (name_in tables.Card a.made.id) ≡ false
      → ((note : Note) → leech_note held a ≡ Some note → eq_by_cmp name_cmp q (name_in tables.Note note.id) ≡ false)
      → option_map (row_aside a.was a.options day) x ≡ option_map (row_answered day a held) x → Left y x q ≡ Wanted x q
  other_row q y x none no_card no_note same =
      leech_away held a q (option_or (option_and_then (counted_of day held a.was) y) (Cards x q)) no_note
      ∙ ap (λ (f : Option Row). option_or f (Cards x q)) none
      ∙ ap (λ (z : Option Row). cond (eq_by_cmp name_cmp q (name_in tables.Review a.answered.review.id)) (Some (rows.Review a.answered.review)) z)
      (ap (λ (b : Bool). cond b (Some (rows.Card a.made)) (option_map (row_aside a.was a.options day) x)) no_card ∙ same)

  card_row : (f : Card → Card) (card : Card) → ((c : Card) → (f c).id ≡ c.id)
      → Left (Some (rows.Card card)) (Some (rows.Card (f card))) (name_in tables.Card card.id) ≡ Wanted (Some (rows.Card (f card))) (name_in tables.Card card.id)
  card_row f card ids =
      let q : Name = name_in tables.Card card.id in
      leech_away held a q (option_or (counted_of day held a.was (rows.Card card)) (Cards (Some (rows.Card (f card))) q)) (λ note is. refl)
      ∙ ap (λ (x : Option Row). option_or x (Cards (Some (rows.Card (f card))) q)) (none_counted day held a.was (rows.Card card) (λ home. refl))
      ∙ (elim (int_eq (f card).id a.was.id) as (λ b. int_eq (f card).id a.was.id ≡ b
      → cond (eq_by_cmp name_cmp q (name_in tables.Card a.made.id)) (Some (rows.Card a.made)) (Some (rows.Card (sibling_after a.was a.options day (f card))))
      ≡ Some (rows.Card (if b then a.made else sibling_after a.was a.options day (f card)))) [
        | true ↦ λ is.
            let same : card.id ≡ a.made.id = sym (ids card) ∙ (Decides-int_eq (f card).id a.was.id).0 is ∙ sym made_id in
            ap (λ (b : Bool). cond b (Some (rows.Card a.made)) (Some (rows.Card (sibling_after a.was a.options day (f card)))))
            (ap (λ (id : ℤ). eq_by_cmp name_cmp (name_in tables.Card id) (name_in tables.Card a.made.id)) same ∙ tied (name_in tables.Card a.made.id))
        | false ↦ λ is.
            ap (λ (b : Bool). cond b (Some (rows.Card a.made)) (Some (rows.Card (sibling_after a.was a.options day (f card)))))
            (apart_ids q (name_in tables.Card a.made.id) (λ same. true_false (sym ((Decides-int_eq (f card).id a.was.id).1 (ids card ∙ ap (λ (n : Name). n.id) same ∙ made_id)) ∙ is)))
      ] refl)

  abbrev With : Note → Bool → Option Row
  With note leech =
      option_map_or (λ (n : Note). cond (eq_by_cmp name_cmp (name_in tables.Note note.id) (name_in tables.Note n.id)) (Some (rows.Note (leech_tagged n))) (Some (rows.Note note)))
      (if leech then note_at held a.was.nid else None) (Some (rows.Note note))

  note_row : (note : Note) → get held (name_in tables.Note note.id) ≡ Some (rows.Note note)
      → Left (Some (rows.Note note)) (Some (rows.Note note)) (name_in tables.Note note.id) ≡ Wanted (Some (rows.Note note)) (name_in tables.Note note.id)
  unfolding leech_note
  note_row note there =
      let q : Name = name_in tables.Note note.id in
      ap (λ (x : Option Row). Leech (option_or x (Some (rows.Note note))) q) (none_counted day held a.was (rows.Note note) (λ home. refl))
      ∙ by_leech a.answered.leech
    where
      by_leech : (leech : Bool) → With note leech ≡ Some (rows.Note (if leech && int_eq note.id a.was.nid then leech_tagged note else note))
      by_leech false = refl
      by_leech true =
          elim (int_eq note.id a.was.nid) as (λ b. int_eq note.id a.was.nid ≡ b → With note true ≡ Some (rows.Note (if b then leech_tagged note else note))) [
            | true ↦ λ is.
                let same : note.id ≡ a.was.nid = (Decides-int_eq note.id a.was.nid).0 is in
                ap (λ (x : Option Note). option_map_or (λ (n : Note). cond (eq_by_cmp name_cmp (name_in tables.Note note.id) (name_in tables.Note n.id)) (Some (rows.Note (leech_tagged n))) (Some (rows.Note note))) x (Some (rows.Note note)))
                (ap (λ (id : ℤ). option_and_then as_note (get held (name_in tables.Note id))) (sym same) ∙ ap (option_and_then as_note) there)
                ∙ ap (λ (b : Bool). cond b (Some (rows.Note (leech_tagged note))) (Some (rows.Note note))) (tied (name_in tables.Note note.id))
            | false ↦ λ is.
                elim (note_at held a.was.nid) as (λ (x : Option Note). note_at held a.was.nid ≡ x
                → option_map_or (λ (n : Note). cond (eq_by_cmp name_cmp (name_in tables.Note note.id) (name_in tables.Note n.id)) (Some (rows.Note (leech_tagged n))) (Some (rows.Note note))) x (Some (rows.Note note)) ≡ Some (rows.Note note)) [
                  | None ↦ λ _. refl
                  | Some n ↦ λ found.
                      let bears : name_in tables.Note n.id ≡ name_in tables.Note a.was.nid = named (name_in tables.Note a.was.nid) (rows.Note n) (as_note_is (get held (name_in tables.Note a.was.nid)) n found) in
                      ap (λ (b : Bool). cond b (Some (rows.Note (leech_tagged n))) (Some (rows.Note note)))
                      (apart_ids (name_in tables.Note note.id) (name_in tables.Note n.id) (λ same. true_false (sym ((Decides-int_eq note.id a.was.nid).1 (ap (λ (m : Name). m.id) (same ∙ bears))) ∙ is)))
                ] refl
          ] refl

  -- all rows, by what stood there before the day's start
  by_row : (f : Card → Card) → ((card : Card) → (f card).id ≡ card.id) → (q : Name) (y : Option Row) → get held q ≡ y → (y ≡ None → eq_by_cmp name_cmp q (name_in tables.Card a.made.id) ≡ false)
      → Left y (option_map (on_card f) y) q ≡ Wanted (option_map (on_card f) y) q
  by_row f ids q None there away =
      other_row q None None refl (away refl) (λ note is. not_there held q (name_in tables.Note note.id) (rows.Note note) there (note_stands held a note named is).0) refl
  by_row f ids q (Some (rows.Card card)) there away =
      subst (λ (n : Name). Left (Some (rows.Card card)) (Some (rows.Card (f card))) n ≡ Wanted (Some (rows.Card (f card))) n) (named q (rows.Card card) there) (card_row f card ids)
  by_row f ids q (Some (rows.Note note)) there away =
      subst (λ (n : Name). Left (Some (rows.Note note)) (Some (rows.Note note)) n ≡ Wanted (Some (rows.Note note)) n) (named q (rows.Note note) there) (note_row note (ap (get held) (named q (rows.Note note) there) ∙ there))
  by_row f ids q (Some (rows.Deck deck)) there away =
      subst (λ (n : Name). Left (Some (rows.Deck deck)) (Some (rows.Deck deck)) n ≡ Wanted (Some (rows.Deck deck)) n) (named q (rows.Deck deck) there)
      (leech_away held a (name_of (rows.Deck deck)) (option_or (counted_of day held a.was (rows.Deck deck)) (Some (rows.Deck deck))) (λ note is. refl) ∙ deck_counted day held a.was deck)
  by_row f ids q (Some (rows.Review review)) there away =
      subst (λ (n : Name). Left (Some (rows.Review review)) (Some (rows.Review review)) n ≡ Wanted (Some (rows.Review review)) n) (named q (rows.Review review) there)
      (other_row (name_of (rows.Review review)) (Some (rows.Review review)) (Some (rows.Review review)) (none_counted day held a.was (rows.Review review) (λ home. refl)) refl (λ note is. refl) refl)
  by_row f ids q (Some (rows.NoteType note_type)) there away =
      subst (λ (n : Name). Left (Some (rows.NoteType note_type)) (Some (rows.NoteType note_type)) n ≡ Wanted (Some (rows.NoteType note_type)) n) (named q (rows.NoteType note_type) there)
      (other_row (name_of (rows.NoteType note_type)) (Some (rows.NoteType note_type)) (Some (rows.NoteType note_type)) (none_counted day held a.was (rows.NoteType note_type) (λ home. refl)) refl (λ note is. refl) refl)
  by_row f ids q (Some (rows.Options options)) there away =
      subst (λ (n : Name). Left (Some (rows.Options options)) (Some (rows.Options options)) n ≡ Wanted (Some (rows.Options options)) n) (named q (rows.Options options) there)
      (other_row (name_of (rows.Options options)) (Some (rows.Options options)) (Some (rows.Options options)) (none_counted day held a.was (rows.Options options) (λ home. refl)) refl (λ note is. refl) refl)
  by_row f ids q (Some (rows.Grave grave)) there away =
      subst (λ (n : Name). Left (Some (rows.Grave grave)) (Some (rows.Grave grave)) n ≡ Wanted (Some (rows.Grave grave)) n) (named q (rows.Grave grave) there)
      (other_row (name_of (rows.Grave grave)) (Some (rows.Grave grave)) (Some (rows.Grave grave)) (none_counted day held a.was (rows.Grave grave) (λ home. refl)) (grave_apart grave (name_in tables.Card a.made.id) (inl refl))
      (λ note is. grave_apart grave (name_in tables.Note note.id) (inr (inl refl))) refl)

-- ---- after the day's start
-- a card as it is once the day has begun, or not
abbrev back : Bool → Card → Card
back starts card = if starts then unburied card else card

back_id : (starts : Bool) (card : Card) → (back starts card).id ≡ card.id
back_id false card = refl
back_id true card = elim (lies_buried card) as (λ b. (if b then restored card else card).id ≡ card.id) [ true ↦ refl | false ↦ refl ]

back_row : (starts : Bool) (y : Option Row) → (if starts then option_map unburied_row y else y) ≡ option_map (on_card (back starts)) y
back_row true None = refl
back_row true (Some (rows.Card card)) = refl
back_row true (Some (rows.Note note)) = refl
back_row true (Some (rows.Review review)) = refl
back_row true (Some (rows.NoteType note_type)) = refl
back_row true (Some (rows.Deck deck)) = refl
back_row true (Some (rows.Options options)) = refl
back_row true (Some (rows.Grave grave)) = refl
back_row false None = refl
back_row false (Some (rows.Card card)) = refl
back_row false (Some (rows.Note note)) = refl
back_row false (Some (rows.Review review)) = refl
back_row false (Some (rows.NoteType note_type)) = refl
back_row false (Some (rows.Deck deck)) = refl
back_row false (Some (rows.Options options)) = refl
back_row false (Some (rows.Grave grave)) = refl

on_card_name : (f : Card → Card) (row : Row) → ((card : Card) → (f card).id ≡ card.id) → name_of (on_card f row) ≡ name_of row
on_card_name f (rows.Card card) ids = ap (name_in tables.Card) (ids card)
on_card_name f (rows.Note note) ids = refl
on_card_name f (rows.Review review) ids = refl
on_card_name f (rows.NoteType note_type) ids = refl
on_card_name f (rows.Deck deck) ids = refl
on_card_name f (rows.Options options) ids = refl
on_card_name f (rows.Grave grave) ids = refl

map_named : (f : Card → Card) (y : Option Row) (q : Name) (row : Row) → ((card : Card) → (f card).id ≡ card.id) → ((r : Row) → y ≡ Some r → name_of r ≡ q) → option_map (on_card f) y ≡ Some row → name_of row ≡ q
map_named f None q row ids named is = absurd (none-some row is)
map_named f (Some r) q row ids named is = ap name_of (sym (same_Some (on_card f r) row is)) ∙ on_card_name f r ids ∙ named r refl

mapped_some : (f : Card → Card) (y : Option Row) (z : Row) → option_map (on_card f) y ≡ Some z → y ≡ None → ⊥
mapped_some f y z is none = none-some z (sym (ap (option_map (on_card f)) none) ∙ is)

module _ (begun : Begun) (held : Rows) (conf : Conf) (a : Answering) (named : AreNamed (get held)) (checked : AreChecked (get held)) (made_id : a.made.id ≡ a.was.id) where
  abbrev Begins : Overlay
  Begins = begun_over begun held conf unchanged

  begun_at : (q : Name) → row_over Begins (get held) q ≡ option_map (on_card (back begun.starts)) (get held q)
  begun_at q = begun_under begun held conf q named checked ∙ back_row begun.starts (get held q)

  begun_named : AreNamed (row_over Begins (get held))
  begun_named = λ q row is. map_named (back begun.starts) (get held q) q row (back_id begun.starts) (λ r there. named q r there) (sym (begun_at q) ∙ is)

  -- what stands under a name once the card was answered, which stood there when the day had begun
  pub answered_under : row_over Begins (get held) (name_in tables.Card a.was.id) ≡ Some (rows.Card a.was) → (q : Name)
      → row_over (answer_put begun.day held a Begins) (get held) q
      ≡ cond (eq_by_cmp name_cmp q (name_in tables.Review a.answered.review.id)) (Some (rows.Review a.answered.review))
      (option_map (row_answered begun.day a held) (if begun.starts then option_map unburied_row (get held q) else get held q))
  answered_under there q =
      let f : Card → Card = back begun.starts in
      let y : Option Row = get held q in
      let aside : Overlay = put_siblings (get held) (bury_list (rows_over Begins held) a.was a.options begun.day) Begins in
      let carded : Overlay = put_over (rows.Card a.made) aside in
      let logged : Overlay = put_over (rows.Review a.answered.review) carded in
      let is_aside : row_over aside (get held) q ≡ option_map (row_aside a.was a.options begun.day) (option_map (on_card f) y) =
      siblings_under held Begins a.was a.options begun.day q begun_named ∙ ap (option_map (row_aside a.was a.options begun.day)) (begun_at q) in
      let is_logged : row_over logged (get held) q
      ≡ cond (eq_by_cmp name_cmp q (name_in tables.Review a.answered.review.id)) (Some (rows.Review a.answered.review))
      (cond (eq_by_cmp name_cmp q (name_in tables.Card a.made.id)) (Some (rows.Card a.made)) (option_map (row_aside a.was a.options begun.day) (option_map (on_card f) y))) =
      put_under carded (get held) (rows.Review a.answered.review) q
      ∙ ap (cond (eq_by_cmp name_cmp q (name_in tables.Review a.answered.review.id)) (Some (rows.Review a.answered.review)))
      (put_under aside (get held) (rows.Card a.made) q ∙ ap (cond (eq_by_cmp name_cmp q (name_in tables.Card a.made.id)) (Some (rows.Card a.made))) is_aside) in
      leech_under held a (counts_put begun.day held a.was logged) q
      ∙ ap (λ (x : Option Row). option_map_or (λ (note : Note). cond (eq_by_cmp name_cmp q (name_in tables.Note note.id)) (Some (rows.Note (leech_tagged note))) x) (leech_note held a) x)
      (counts_under begun.day held a.was logged q named checked ∙ ap (option_or (option_and_then (counted_of begun.day held a.was) y)) is_logged)
      ∙ by_row begun.day held a named checked made_id f (back_id begun.starts) q y refl (λ none. not_card q none)
      ∙ ap (λ (x : Option Row). cond (eq_by_cmp name_cmp q (name_in tables.Review a.answered.review.id)) (Some (rows.Review a.answered.review)) (option_map (row_answered begun.day a held) x)) (sym (back_row begun.starts y))
    where
      not_card : (n : Name) → get held n ≡ None → eq_by_cmp name_cmp n (name_in tables.Card a.made.id) ≡ false
      not_card n none =
          apart_ids n (name_in tables.Card a.made.id) (λ same.
          mapped_some (back begun.starts) (get held (name_in tables.Card a.was.id)) (rows.Card a.was) (sym (begun_at (name_in tables.Card a.was.id)) ∙ there)
          (ap (λ (id : ℤ). get held (name_in tables.Card id)) (sym made_id) ∙ ap (get held) (sym same) ∙ none))

-- ---- settings and tags
leech_rest : (held : Rows) (a : Answering) (o : Overlay) → rest_of (leech_put held a o) ≡ (o.conf, ((o.tags ++ tags_answered a held), o.schema))
leech_rest held a o =
    elim a.answered.leech as (λ b.
    rest_of (if b then option_map_or (λ (note : Note). tag_over leech_tag (put_over (rows.Note (leech_tagged note)) o)) (note_at held a.was.nid) o else o)
    ≡ (o.conf, ((o.tags ++ (if b && is_some (note_at held a.was.nid) then leech_tag ∷ [] else [])), o.schema))) [
      | true ↦
          elim (note_at held a.was.nid) as (λ (n : Option Note).
          rest_of (option_map_or (λ (note : Note). tag_over leech_tag (put_over (rows.Note (leech_tagged note)) o)) n o) ≡ (o.conf, ((o.tags ++ (if is_some n then leech_tag ∷ [] else [])), o.schema))) [
            | None ↦ ap (λ (tags : List (List ℕ)). (o.conf, (tags, o.schema))) (sym (append-nil o.tags))
            | Some note ↦ refl
          ]
      | false ↦ ap (λ (tags : List (List ℕ)). (o.conf, (tags, o.schema))) (sym (append-nil o.tags))
    ]

pub answered_rest : (begun : Begun) (held : Rows) (conf : Conf) (a : Answering)
    → rest_of (answer_put begun.day held a (begun_over begun held conf unchanged)) ≡ ((if begun.starts then Some (begun_on begun.day conf) else None), (tags_answered a held, false))
answered_rest begun held conf a =
    let begins : Overlay = begun_over begun held conf unchanged in
    let aside : Overlay = put_siblings (get held) (bury_list (rows_over begins held) a.was a.options begun.day) begins in
    let logged : Overlay = put_over (rows.Review a.answered.review) (put_over (rows.Card a.made) aside) in
    let counted_in : Overlay = counts_put begun.day held a.was logged in
    let same : rest_of counted_in ≡ ((if begun.starts then Some (begun_on begun.day conf) else None), ([], false)) =
    counts_rest begun.day held a.was logged ∙ siblings_rest (get held) (bury_list (rows_over begins held) a.was a.options begun.day) begins ∙ begun_rest begun held conf in
    leech_rest held a counted_in
    ∙ ap (λ (r : Option Conf × (List (List ℕ) × Bool)). (r.0, ((r.1.0 ++ tags_answered a held), r.1.1))) same

abbrev edit_with : Conf → RowsByName → Option Conf × (List (List ℕ) × Bool) → Edit
edit_with conf at r = record { rows = at; conf = unwrap_or r.0 conf; tags = r.1.0; schema = r.1.1 }

-- what the changes ask for is the answer's edit
pub answer_asked : (begun : Begun) (c : Collection) (a : Answering) → AreNamed (row_under c) → AreChecked (row_under c) → a.made.id ≡ a.was.id → begun.starts ≡ is_new_day begun.day c.head.conf
    → row_over (begun_over begun c.rows c.head.conf unchanged) (row_under c) (name_in tables.Card a.was.id) ≡ Some (rows.Card a.was)
    → edit_of (answer_put begun.day c.rows a (begun_over begun c.rows c.head.conf unchanged)) c ≡ answer_edit begun.day a c
answer_asked begun c a named checked made_id starts there =
    let o : Overlay = answer_put begun.day c.rows a (begun_over begun c.rows c.head.conf unchanged) in
    ap (λ (r : Option Conf × (List (List ℕ) × Bool)). edit_with c.head.conf (row_over o (row_under c)) r) (answered_rest begun c.rows c.head.conf a)
    ∙ ap (λ (at : RowsByName). edit_with c.head.conf at ((if begun.starts then Some (begun_on begun.day c.head.conf) else None), (tags_answered a c.rows, false)))
    (fun_ext (answered_under begun c.rows c.head.conf a named checked made_id there))
    ∙ by_start begun.starts
    ∙ ap (λ (b : Bool). with_tags (tags_answered a c.rows) (with_row (rows.Review a.answered.review) (with_rows_mapped (row_answered begun.day a c.rows) (start_if begun.day c b)))) starts
  where
    by_start : (b : Bool)
        → edit_with c.head.conf (λ (q : Name). cond (eq_by_cmp name_cmp q (name_in tables.Review a.answered.review.id)) (Some (rows.Review a.answered.review))
        (option_map (row_answered begun.day a c.rows) (if b then option_map unburied_row (row_under c q) else row_under c q)))
        ((if b then Some (begun_on begun.day c.head.conf) else None), (tags_answered a c.rows, false))
        ≡ with_tags (tags_answered a c.rows) (with_row (rows.Review a.answered.review) (with_rows_mapped (row_answered begun.day a c.rows) (start_if begun.day c b)))
    by_start true = refl
    by_start false = refl

-- Worked examples: what the definitions say of small collections.
use Rattle.ak_keep.specs.Graves.{RowsByName, grave_under}
use Rattle.ak_merge.specs.Holdings.{name_in, row_under, AreNamed, AreChecked, IsSingle, same_held}
use Rattle.std.proofs.lemmas.List.Elements.{All-from_recursion}
use Rattle.ak_merge.specs.Commits.{Received}
use Rattle.ak_merge.specs.Exchanges.{wanted_under, IsSent, IsServerHalf, HoldsJoin}
use Rattle.ak_merge.specs.Takings.{all_taken}
use Rattle.ak_merge.specs.declared.sides.Side.TheVariants.{Device, Server}
use Rattle.ak_merge.proofs.CommitLaws.{commits_keep_links}
use Rattle.ak_merge.proofs.ExchangeLaws.{server_half_joins}
use Rattle.ak_merge.proofs.ExchangeCells.{only_wanted}
use Rattle.ak_merge.proofs.TakingLaws.{received_under, newest_in, all_taken_at, is_name}
use Rattle.ak_keep.specs.declared.keepers.Wanted.TheVariants.{Unsent, From}
use Rattle.ak_keep.proofs.RowsByName.{same_of_tied}
use Rattle.ak_keep.specs.Collections.{Collection, Rows, rows_of}
use Rattle.ak_base.specs.Tables.{graves_of, has_stamps}
use Rattle.std.specs.Prelude.{◌≡◌, ◌≢◌, ◌≤ℤ◌, ◌<ℤ◌, ℕ, ℤ, pos, negsuc, codes, true, false, cond, if◌then◌else◌, is_some, IsTrue, IfSome, ⊤, ◌⊎◌, List, [], ◌∷◌, Option, Some, None}
use Rattle.std.proofs.lemmas.Option.{same_Some}
use Rattle.std.proofs.Common.{refl, sym, ap, subst, ◌∙◌, inl, inr, arith}
use Rattle.std.proofs.Math.Path.{fun_ext}
use Rattle.std.proofs.lemmas.Int.{ints}
use Rattle.std.specs.FinMap.{get, get-empty, get-insert}
use Rattle.std.specs.List.{AllByRecursion, Contains}
use Rattle.std.specs.Option.{option_and_then}
use Rattle.ak_base.specs.Contents.{same_content}
use Rattle.ak_base.specs.Names.{name_cmp, names_total}
use Rattle.ak_base.specs.Rows.{IsChecked, name_of, stamp_of, usn_of, with_usn}
use Rattle.ak_base.specs.declared.cards.Card.{Card}
use Rattle.ak_base.specs.declared.heads.Head.{Head}
use Rattle.ak_base.specs.declared.names.Name.{Name}
use Rattle.ak_base.specs.declared.names.Table.{Table}
use Rattle.ak_base.specs.declared.names.Table.TheVariants as tables
use Rattle.ak_base.specs.declared.note_types.NoteType.{NoteType}
use Rattle.ak_base.specs.declared.notes.Note.{Note}
use Rattle.ak_base.specs.declared.rows.Row.{Row}
use Rattle.ak_base.specs.declared.rows.Row.TheVariants as rows
use Rattle.ak_merge.proofs.Finding.{not_none, not_both}
use Rattle.ak_base.proofs.RowFacts.{same-turned, same-through}
use Rattle.ak_merge.proofs.SoundLaws.{has_place}
use Rattle.ak_merge.specs.Joins.{AreApart, joined_under, join}
use Rattle.ak_merge.specs.Links.{AreLinked, AreLinkedParts, HasTaken, IsGiven, IsKnown, IsOwn, IsShared}
use Rattle.ak_merge.specs.Soundness.{IsSound, lacks_template, type_under}

-- ---- collections of a few rows
-- these rows, each under its name
abbrev pub standing : List Row → RowsByName
standing [] name = None
standing (row ∷ more) name = if is_name name (name_of row) then Some row else standing more name

-- note 7 with these fields, changed at this second
abbrev pub note_with : ℤ → ℤ → List ℕ → Note
note_with usn stamp fields = record {
  id = pos 7;
  guid = codes "seven";
  mid = pos 1;
  stamp = stamp;
  usn = usn;
  tags = [];
  flds = fields;
  sfld = [];
  csum = pos 0;
  flags = pos 0;
  extra = [];
}

abbrev pub note_row : ℤ → ℤ → List ℕ → Row
note_row usn stamp fields = rows.Note (note_with usn stamp fields)

-- a card of note 7, changed at this second, with so many answers
abbrev pub card_of_it : ℤ → ℤ → ℤ → Card
card_of_it id stamp reps = record {
  id = id;
  nid = pos 7;
  did = pos 1;
  ord = pos 0;
  stamp = stamp;
  usn = negsuc 0;
  kind = pos 0;
  queue = pos 0;
  due = pos 1;
  ivl = pos 0;
  factor = pos 2500;
  reps = reps;
  lapses = pos 0;
  left = pos 0;
  odue = pos 0;
  odid = pos 0;
  flags = pos 0;
  extra = [];
}

abbrev review_of_8 : Row
review_of_8 = rows.Review (record { id = pos 5000; cid = pos 8; usn = negsuc 0; ease = pos 3; ivl = pos 1; last_ivl = negsuc 59; factor = pos 2500; time = pos 4000; kind = pos 0 })

-- the grave of this row: kind 1 of a note's, 0 of a card's
abbrev grave_of : ℤ → ℤ → Row
grave_of kind id = rows.Grave (record { usn = negsuc 0; oid = id; kind = kind })

-- ---- one note, two edits
abbrev early : Row
early = note_row (negsuc 0) (pos 10) (codes "house")

abbrev late : Row
late = note_row (negsuc 0) (pos 20) (codes "home")

-- A note was edited on both sides: the join holds the later edit, whichever side is first.
the_later_edit_stands : (joined_under (standing (early ∷ [])) (standing (late ∷ [])) (name_in tables.Note (pos 7)) ≡ Some late)
    × (joined_under (standing (late ∷ [])) (standing (early ∷ [])) (name_in tables.Note (pos 7)) ≡ Some late)
the_later_edit_stands = (refl, refl)

-- ---- a deletion and an answer
abbrev answered : Row
answered = rows.Card (card_of_it (pos 8) (pos 20) (pos 1))

abbrev note_deleted : RowsByName
note_deleted = standing (grave_of (pos 1) (pos 7) ∷ [])

abbrev card_answered : RowsByName
card_answered = standing (early ∷ answered ∷ review_of_8 ∷ [])

-- One side deleted the note, the other answered its card: the note is gone with its grave, and the answered card stands, for
-- cards have graves of their own.
a_deleted_note_is_gone : (joined_under note_deleted card_answered (name_in tables.Note (pos 7)) ≡ None)
    × (joined_under note_deleted card_answered (name_in tables.NoteGrave (pos 7)) ≡ Some (grave_of (pos 1) (pos 7)))
    × (joined_under note_deleted card_answered (name_in tables.Card (pos 8)) ≡ Some answered)
a_deleted_note_is_gone = (refl, refl, refl)

abbrev both_deleted : RowsByName
both_deleted = standing (grave_of (pos 1) (pos 7) ∷ grave_of (pos 0) (pos 8) ∷ [])

-- One side deleted the note with its card: both are gone, and the review of the other's answer stays.
a_deleted_card_leaves_its_review : (joined_under both_deleted card_answered (name_in tables.Note (pos 7)) ≡ None)
    × (joined_under both_deleted card_answered (name_in tables.Card (pos 8)) ≡ None)
    × (joined_under both_deleted card_answered (name_in tables.CardGrave (pos 8)) ≡ Some (grave_of (pos 0) (pos 8)))
    × (joined_under both_deleted card_answered (name_in tables.Review (pos 5000)) ≡ Some review_of_8)
a_deleted_card_leaves_its_review = (refl, refl, refl, refl)

-- ---- the settings
abbrev changed_at : ℤ → Collection → Collection
changed_at moment c = record c { head = record c.head { moment = moment } }

-- One side changed its settings after the other was changed last: the join has these settings, whichever side is first.
the_last_settings_stand : (a b : Collection) → ((join (changed_at (pos 10) a) (changed_at (pos 20) b)).conf ≡ b.head.conf)
    × ((join (changed_at (pos 20) b) (changed_at (pos 10) a)).conf ≡ b.head.conf)
the_last_settings_stand a b = (refl, refl)

-- Both were changed last at one moment: the join has the settings of the second, the server.
the_servers_settings_stand_at_one_moment : (a b : Collection) → (join (changed_at (pos 10) a) (changed_at (pos 10) b)).conf ≡ b.head.conf
the_servers_settings_stand_at_one_moment a b = refl

-- ---- two sound sides whose join is not sound
-- what holds of each of these rows holds of whatever stands there
each_standing : (P : Row → Type 0) (xs : List Row) → AllByRecursion P xs → (name : Name) (row : Row) → standing xs name ≡ Some row → P row
each_standing P [] all name row is = absurd (not_none (sym is))
each_standing P (x ∷ xs) all name row is =
    elim (is_name name (name_of x)) as (λ b. (if b then Some x else standing xs name) ≡ Some row → P row) [
      | true ↦ λ is. subst P (same_Some x row is) all.0
      | false ↦ λ is. each_standing P xs all.1 name row is
    ] is

-- a note has a card and its type; a card has its note, and a place among the templates
abbrev IsGood : RowsByName → Row → Type 0
IsGood at (rows.Note note) = ((card : Card) × (at (name_in tables.Card card.id) ≡ Some (rows.Card card)) × (card.nid ≡ note.id)) × (is_some (at (name_in tables.NoteType note.mid)) ≡ true)
IsGood at (rows.Card card) = (is_some (at (name_in tables.Note card.nid)) ≡ true) × (lacks_template card.ord (type_under at (name_in tables.Note card.nid)) ≡ false)
IsGood at (rows.Review r) = ⊤
IsGood at (rows.NoteType t) = ⊤
IsGood at (rows.Deck d) = ⊤
IsGood at (rows.Options o) = ⊤
IsGood at (rows.Grave g) = ⊤

sound_where_good : (xs : List Row) → AllByRecursion (IsGood (standing xs)) xs → IsSound (standing xs)
sound_where_good xs good = record {
  card_note = λ card has. (each_standing (IsGood (standing xs)) xs good _ (rows.Card card) has).0;
  note_card = λ note has. (each_standing (IsGood (standing xs)) xs good _ (rows.Note note) has).0;
  note_type = λ note has. (each_standing (IsGood (standing xs)) xs good _ (rows.Note note) has).1;
  template = λ card note type has. has_place (standing xs) (name_in tables.Note card.nid) card.ord note type (each_standing (IsGood (standing xs)) xs good _ (rows.Card card) has).1;
}

-- a type for clozes, whatever its other columns
abbrev cloze_type : NoteType → Row
cloze_type any = rows.NoteType (record any { id = pos 1; cloze = true })

abbrev first_card : Card
first_card = card_of_it (pos 8) (pos 10) (pos 0)

abbrev second_card : Card
second_card = card_of_it (pos 9) (pos 20) (pos 0)

-- the one side deleted the note with its card, the other made a second card of it
abbrev without_the_note : NoteType → List Row
without_the_note any = cloze_type any ∷ grave_of (pos 1) (pos 7) ∷ grave_of (pos 0) (pos 8) ∷ []

abbrev with_a_card_more : NoteType → List Row
with_a_card_more any = cloze_type any ∷ early ∷ rows.Card first_card ∷ rows.Card second_card ∷ []

-- Each of the sides is sound.
both_sides_are_sound : (any : NoteType) → IsSound (standing (without_the_note any)) × IsSound (standing (with_a_card_more any))
both_sides_are_sound any = (
  sound_where_good (without_the_note any) (tt, (tt, (tt, tt))),
  sound_where_good (with_a_card_more any) (tt, (((first_card, refl, refl), refl), ((refl, refl), ((refl, refl), tt)))),
)

-- Their join is not: the new card stands without its note.
the_join_is_not_sound : (any : NoteType) → IsSound (joined_under (standing (without_the_note any)) (standing (with_a_card_more any))) → ⊥
the_join_is_not_sound any sound = not_both (sound.card_note second_card refl) refl

-- ---- apart
-- Two edits of one note in the same second that say different things are in doubt.
edits_of_one_second_are_in_doubt : AreApart (standing (note_row (negsuc 0) (pos 10) (codes "house") ∷ [])) (standing (note_row (negsuc 0) (pos 10) (codes "home") ∷ [])) → ⊥
edits_of_one_second_are_in_doubt apart = not_both (apart (name_in tables.Note (pos 7)) _ _ refl refl refl) refl

-- The same edit on both sides is in no doubt, though one of them was sent.
the_same_edit_is_apart : AreApart (standing (note_row (negsuc 0) (pos 10) (codes "house") ∷ [])) (standing (note_row (pos 3) (pos 10) (codes "house") ∷ []))
the_same_edit_is_apart name x y has held _ =
    let one : same_content x early ≡ true = each_standing (λ row. same_content row early ≡ true) (note_row (negsuc 0) (pos 10) (codes "house") ∷ []) (refl, tt) name x has in
    let other : same_content y early ≡ true = each_standing (λ row. same_content row early ≡ true) (note_row (pos 3) (pos 10) (codes "house") ∷ []) (refl, tt) name y held in
    same-through x early y one (same-turned y early other)

-- ---- ties
-- the device's edit of a second, and the server's, whose number is 3
abbrev own_edit : Row
own_edit = note_row (negsuc 0) (pos 10) (codes "house")

abbrev their_edit : Row
their_edit = note_row (pos 3) (pos 10) (codes "home")

-- Of two edits of one second the server's stands: in the join, on the device that takes it, and on the server that takes the device's.
a_tie_is_the_servers : (joined_under (standing (own_edit ∷ [])) (standing (their_edit ∷ [])) (name_in tables.Note (pos 7)) ≡ Some their_edit)
    × (received_under Device (pos 5) (standing (own_edit ∷ [])) (newest_in Device (their_edit ∷ [])) (name_in tables.Note (pos 7)) ≡ Some (note_row (pos 5) (pos 10) (codes "home")))
    × (received_under Server (pos 5) (standing (their_edit ∷ [])) (newest_in Server (own_edit ∷ [])) (name_in tables.Note (pos 7)) ≡ Some their_edit)
a_tie_is_the_servers = (refl, refl, refl)

-- A device that holds a grave which it did not send yet keeps it as it is where the server gives it too.
a_grave_stays_unsent : received_under Device (pos 5) (standing (grave_of (pos 0) (pos 8) ∷ [])) (newest_in Device (with_usn (grave_of (pos 0) (pos 8)) (pos 3) ∷ [])) (name_in tables.CardGrave (pos 8)) ≡ Some (grave_of (pos 0) (pos 8))
a_grave_stays_unsent = refl

-- ---- linked
-- a collection of these rows whose number is 5, with one schema moment and no tags
abbrev held_of : List Row → Head → Collection
held_of xs any = record { rows = rows_of xs; head = record any { usn = pos 5; schema = pos 1; tags = [] } }

pub rows_stand : (xs : List Row) (name : Name) → get (rows_of xs) name ≡ standing xs name
rows_stand [] name = get-empty name_cmp name
rows_stand (x ∷ xs) name = get-insert names_total (rows_of xs) (name_of x) x name ∙ ap (cond (is_name name (name_of x)) (Some x)) (rows_stand xs name)

pub all_stand : (xs : List Row) → get (rows_of xs) ≡ standing xs
all_stand xs = fun_ext (rows_stand xs)

-- what holds of the rows as a list holds of the map of them, and the other way round
pub of_maps : (xs ys : List Row) (P : RowsByName → RowsByName → Type 0) → P (standing xs) (standing ys) → P (get (rows_of xs)) (get (rows_of ys))
of_maps xs ys P so = subst (λ (a : RowsByName). P a (get (rows_of ys))) (sym (all_stand xs)) (subst (P (standing xs)) (sym (all_stand ys)) so)

of_lists : (xs ys : List Row) (P : RowsByName → RowsByName → Type 0) → P (get (rows_of xs)) (get (rows_of ys)) → P (standing xs) (standing ys)
of_lists xs ys P so = subst (P (standing xs)) (all_stand ys) (subst (λ (a : RowsByName). P a (get (rows_of ys))) (all_stand xs) so)

-- of note 7 alone: the device's row x and the server's y suit each other
record DoSuit (x y : Row) : Type 0 where
  own : IsOwn (pos 5) (usn_of x)
  given : IsGiven (pos 5) (usn_of y)
  taken : (g : Option Row) → HasTaken (pos 5) (Some x) g (Some y)
  known : (h : Option Row) → IsKnown (pos 5) (Some x) (Some y) h

abbrev seven : Name
seven = name_in tables.Note (pos 7)

-- where a note stands alone there is no grave
no_grave : (usn stamp : ℤ) (fields : List ℕ) (table : Table) (id : ℤ) → is_some (option_and_then (λ (graves : Table). standing (note_row usn stamp fields ∷ []) (name_in graves id)) (graves_of table)) ≡ false
no_grave usn stamp fields tables.Note id = refl
no_grave usn stamp fields tables.Card id = refl
no_grave usn stamp fields tables.Review id = refl
no_grave usn stamp fields tables.NoteType id = refl
no_grave usn stamp fields tables.Deck id = refl
no_grave usn stamp fields tables.Options id = refl
no_grave usn stamp fields tables.NoteGrave id = refl
no_grave usn stamp fields tables.CardGrave id = refl
no_grave usn stamp fields tables.DeckGrave id = refl

unstamped : (x y : Row) (name : Name) → has_stamps name.table ≡ false → IsShared (pos 5) (if is_name name seven then Some x else None) (if is_name name seven then Some y else None)
unstamped x y name without =
    elim (is_name name seven) as (λ b. is_name name seven ≡ b → IsShared (pos 5) (if b then Some x else None) (if b then Some y else None)) [
      | true ↦ λ is. absurd (not_both (ap (λ (n : Name). has_stamps n.table) (same_of_tied name seven is)) without)
      | false ↦ λ _. record { sent = tt; came = tt }
    ] refl

-- then a device with the one and a server with the other are linked, if their moments and settings suit each other as well
note_links : (any their : Head) (u s v t : ℤ) (fields their_fields : List ℕ) → their.moment ≤ℤ any.moment
    → (any.moment ≡ their.moment → (any.conf ≡ their.conf) × (any.crt ≡ their.crt)) → DoSuit (note_row u s fields) (note_row v t their_fields)
    → AreLinkedParts (held_of (note_row u s fields ∷ []) any) (held_of (note_row v t their_fields ∷ []) their)
note_links any their u s v t fields their_fields later settings suit =
    let x = note_row u s fields in
    let y = note_row v t their_fields in
    record {
      usn = omega (arith, ints);
      given = record {
        rows = of_maps (x ∷ []) (y ∷ []) (λ a b. (name : Name) → IfSome (b name) (λ row. IsGiven (pos 5) (usn_of row))) (λ name.
            elim (is_name name seven) as (λ b. IfSome (if b then Some y else None) (λ row. IsGiven (pos 5) (usn_of row))) [ true ↦ suit.given | false ↦ tt ]);
        tags = λ _. tt;
      };
      own = record {
        rows = of_maps (x ∷ []) (y ∷ []) (λ a b. (name : Name) → IfSome (a name) (λ row. IsOwn (pos 5) (usn_of row))) (λ name.
            elim (is_name name seven) as (λ b. IfSome (if b then Some x else None) (λ row. IsOwn (pos 5) (usn_of row))) [ true ↦ suit.own | false ↦ tt ]);
        tags = λ _. tt;
      };
      taken = of_maps (x ∷ []) (y ∷ []) (λ a b. (name : Name) → IsTrue (has_stamps name.table) → HasTaken (pos 5) (a name) (grave_under a name) (b name)) (λ name _.
          elim (is_name name seven) as (λ b. HasTaken (pos 5) (if b then Some x else None) (grave_under (standing (x ∷ [])) name) (if b then Some y else None)) [
            | true ↦ suit.taken (grave_under (standing (x ∷ [])) name)
            | false ↦ tt
          ]);
      known = of_maps (x ∷ []) (y ∷ []) (λ a b. (name : Name) → IsTrue (has_stamps name.table) → IsKnown (pos 5) (a name) (b name) (grave_under b name)) (λ name _.
          elim (is_name name seven) as (λ b. IsKnown (pos 5) (if b then Some x else None) (if b then Some y else None) (grave_under (standing (y ∷ [])) name)) [
            | true ↦ suit.known (grave_under (standing (y ∷ [])) name)
            | false ↦ tt
          ]);
      shared = of_maps (x ∷ []) (y ∷ []) (λ a b. (name : Name) → has_stamps name.table ≡ false → IsShared (pos 5) (a name) (b name)) (unstamped x y);
      tags = λ _. record { sent = tt; came = tt };
      own_single = of_maps (x ∷ []) (y ∷ []) (λ a b. IsSingle a) (λ name dead. absurd (not_both dead (no_grave u s fields name.table name.id)));
      single = of_maps (x ∷ []) (y ∷ []) (λ a b. IsSingle b) (λ name dead. absurd (not_both dead (no_grave v t their_fields name.table name.id)));
      later = λ _. later;
      settings = λ _. settings;
    }

abbrev given_3 : Row
given_3 = note_row (pos 3) (pos 10) (codes "house")

three : IsGiven (pos 5) (pos 3)
three = record { low = omega (arith, ints); high = omega (arith, ints) }

-- After a sync the device holds the server's note with the server's number, and has its moment and settings: the two are linked.
linked_after_a_sync : (any : Head) → AreLinked (held_of (given_3 ∷ []) any) (held_of (given_3 ∷ []) any)
linked_after_a_sync any = inr (note_links any any (pos 3) (pos 10) (pos 3) (pos 10) (codes "house") (codes "house") (omega (arith, ints)) (λ _. (refl, refl)) (record {
  own = inr three;
  given = three;
  taken = λ _ _. inl refl;
  known = λ _ _. inl refl;
}))

-- The device edited the note since: its row is newer and was not sent yet, and the two are still linked.
linked_after_an_edit : (any their : Head) → their.moment <ℤ any.moment → AreLinked (held_of (late ∷ []) any) (held_of (given_3 ∷ []) their)
linked_after_an_edit any their moved = inr (note_links any their (negsuc 0) (pos 20) (pos 3) (pos 10) (codes "home") (codes "house")
    (omega (arith, ints, moved)) (λ at_once. absurd (omega (arith, ints, moved, at_once))) (record {
      own = inl refl;
      given = three;
      taken = λ _ _. inr (inl (record { unsent = refl; newer = omega (arith, ints) }));
      known = λ _ settled. absurd (not_both settled refl);
    }))

-- The device holds a note as settled that the server never had: the two are not linked.
not_linked_by_a_lost_row : (any their : Head) → AreLinked (held_of (given_3 ∷ []) any) (held_of [] their) → ⊥
not_linked_by_a_lost_row any their linked =
    elim linked as (λ _. ⊥) [
      | inl differ ↦ differ refl
      | inr parts ↦
          let none : ⊥ ⊎ (⊥ ⊎ ⊥) = of_lists (given_3 ∷ []) [] (λ a b. IsKnown (pos 5) (a seven) (b seven) (grave_under b seven)) (parts.known seven refl) refl in
          elim none as (λ _. ⊥) [ inl never ↦ never | inr (inl never) ↦ never | inr (inr never) ↦ never ]
    ]

-- The server was changed after the device, and the two have one number: the device missed a commit, and they are not linked.
not_linked_by_a_missed_commit : (any their : Head) → any.moment <ℤ their.moment → AreLinked (held_of (given_3 ∷ []) any) (held_of (given_3 ∷ []) their) → ⊥
not_linked_by_a_missed_commit any their missed linked =
    elim linked as (λ _. ⊥) [
      | inl differ ↦ differ refl
      | inr parts ↦ let least = parts.later refl in omega (arith, ints, missed, least)
    ]

-- The two have one number and one moment, and other moments of creation: they are not linked.
not_linked_by_other_settings : (any their : Head) → any.moment ≡ their.moment → any.crt ≢ their.crt → AreLinked (held_of (given_3 ∷ []) any) (held_of (given_3 ∷ []) their) → ⊥
not_linked_by_other_settings any their at_once other linked =
    elim linked as (λ _. ⊥) [
      | inl differ ↦ differ refl
      | inr parts ↦ other (parts.settings refl at_once).1
    ]

-- ---- an exchange in parts
abbrev their_card : Row
their_card = rows.Card (record (card_of_it (pos 8) (pos 10) (pos 0)) { usn = pos 3 })

-- the server holds note 7 and its card 8
abbrev server_rows : List Row
server_rows = given_3 ∷ their_card ∷ []

-- the device deleted the card, and has a review and the note edited
abbrev device_rows : List Row
device_rows = grave_of (pos 0) (pos 8) ∷ review_of_8 ∷ late ∷ []

-- what the server holds once it took the graves first, and then two chunks
abbrev in_parts : Rows
in_parts = all_taken Server (pos 5) (late ∷ []) (all_taken Server (pos 5) (review_of_8 ∷ []) (all_taken Server (pos 5) (grave_of (pos 0) (pos 8) ∷ []) (rows_of server_rows)))

parts_stand : (name : Name) → get in_parts name ≡ received_under Server (pos 5) (standing server_rows) (newest_in Server device_rows) name
parts_stand name = all_taken_at Server (pos 5) device_rows (rows_of server_rows) name ∙ ap (λ (at : RowsByName). received_under Server (pos 5) at (newest_in Server device_rows) name) (all_stand server_rows)

abbrev IsJoinedAt : Name → Type 0
IsJoinedAt name = IsTrue (same_held (get in_parts name) (joined_under (standing device_rows) (standing server_rows) name))

joined_at : (name : Name) → IsTrue (same_held (received_under Server (pos 5) (standing server_rows) (newest_in Server device_rows) name) (joined_under (standing device_rows) (standing server_rows) name)) → IsJoinedAt name
joined_at name is = ap (λ o. same_held o (joined_under (standing device_rows) (standing server_rows) name)) (parts_stand name) ∙ is

-- Taken in parts, what the device sent gives the join: the edited note, no card, the card's grave and the review.
an_exchange_in_parts_gives_the_join : IsJoinedAt seven × IsJoinedAt (name_in tables.Card (pos 8)) × IsJoinedAt (name_in tables.CardGrave (pos 8)) × IsJoinedAt (name_in tables.Review (pos 5000))
an_exchange_in_parts_gives_the_join = (
  joined_at seven refl,
  joined_at (name_in tables.Card (pos 8)) refl,
  joined_at (name_in tables.CardGrave (pos 8)) refl,
  joined_at (name_in tables.Review (pos 5000)) refl,
)

the_card_is_gone : get in_parts (name_in tables.Card (pos 8)) ≡ None
the_card_is_gone = parts_stand (name_in tables.Card (pos 8))

-- ---- a reply that is lost
-- the device edited the note at 20, the server was changed at 10, and commits at 30
abbrev device_then : Head → Collection
device_then any = held_of (late ∷ []) (record any { moment = pos 20 })

abbrev server_then : Head → Collection
server_then their = held_of (given_3 ∷ []) (record their { moment = pos 10 })

abbrev server_now : Head → Head → Collection
server_now any their = record {
  rows = all_taken Server (pos 5) (late ∷ []) (rows_of (given_3 ∷ []));
  head = record their { moment = pos 30; usn = pos 6; schema = pos 1; tags = []; conf = any.conf; crt = any.crt };
}

abbrev nothing_came : Received
nothing_came = record { rows = []; tags = []; settings = None }

abbrev note_sent : Head → Received
note_sent any = record { rows = late ∷ []; tags = []; settings = Some (record { conf = any.conf; crt = any.crt }) }

standing_named : (xs : List Row) → AreNamed (standing xs)
standing_named [] name row is = absurd (not_none (sym is))
standing_named (x ∷ xs) name row is =
    elim (is_name name (name_of x)) as (λ b. is_name name (name_of x) ≡ b → (if b then Some x else standing xs name) ≡ Some row → name_of row ≡ name) [
      | true ↦ λ tied is. ap name_of (sym (same_Some x row is)) ∙ sym (same_of_tied name (name_of x) tied)
      | false ↦ λ _ is. standing_named xs name row is
    ] refl is

pub map_named : (xs : List Row) → AreNamed (get (rows_of xs))
map_named xs = of_maps xs xs (λ a b. AreNamed a) (standing_named xs)

pub map_checked : (xs : List Row) → AllByRecursion IsChecked xs → AreChecked (get (rows_of xs))
map_checked xs all = of_maps xs xs (λ a b. AreChecked a) (each_standing IsChecked xs all)

linked_then : (any their : Head) → AreLinkedParts (device_then any) (server_then their)
linked_then any their = note_links (record any { moment = pos 20 }) (record their { moment = pos 10 }) (negsuc 0) (pos 20) (pos 3) (pos 10) (codes "home") (codes "house")
    (omega (arith, ints)) (λ at_once. absurd (omega (arith, ints, at_once))) (record {
      own = inl refl;
      given = three;
      taken = λ _ _. inr (inl (record { unsent = refl; newer = omega (arith, ints) }));
      known = λ _ settled. absurd (not_both settled refl);
    })

sent_then : (any : Head) → IsSent (late ∷ []) (wanted_under Unsent (row_under (device_then any))) (get (all_taken Device (pos 5) [] (device_then any).rows))
sent_then any = record {
  each = All-from_recursion (λ row. wanted_under Unsent (row_under (device_then any)) (name_of row) ≡ Some row) (late ∷ []) (ap (only_wanted Unsent) (rows_stand (late ∷ []) seven), tt);
  whole = λ name row is _. subst (λ (r : Row). Contains (late ∷ []) r) (only_late name row (ap (only_wanted Unsent) (sym (rows_stand (late ∷ []) name)) ∙ is)) (0, omega arith, refl);
}
  where
    only_late : (name : Name) (row : Row) → only_wanted Unsent (standing (late ∷ []) name) ≡ Some row → late ≡ row
    only_late name row is =
        elim (is_name name seven) as (λ b. only_wanted Unsent (if b then Some late else None) ≡ Some row → late ≡ row) [
          | true ↦ λ is. same_Some late row is
          | false ↦ λ is. absurd (not_none (sym is))
        ] is

server_half : (any their : Head) → IsServerHalf nothing_came (note_sent any) (device_then any) (server_then their) (server_now any their)
server_half any their = record {
  gives = All-from_recursion (λ row. wanted_under (From (pos 5)) (row_under (server_then their)) (name_of row) ≡ Some row) [] tt;
  sends = sent_then any;
  tags = λ name. refl;
  settings = refl;
  commits = record { rows = refl; tags = refl; settings = refl; usn = refl; schema = refl; last_sync = refl; moment = omega (arith, ints) };
  moment = omega (arith, ints);
}

-- The reply to the last request is lost: the server holds the join, and the device, which is as it was, is linked with it still.
a_lost_reply_leaves_the_servers_half : (any their : Head) → HoldsJoin (device_then any) (server_then their) (server_now any their) × AreLinked (device_then any) (server_now any their)
a_lost_reply_leaves_the_servers_half any their =
    let half = server_half any their in
    let low : pos 0 ≤ℤ pos 5 = omega (arith, ints) in (
      server_half_joins nothing_came (note_sent any) (device_then any) (server_then their) (server_now any their) half (linked_then any their)
          (map_named (late ∷ [])) (map_named (given_3 ∷ [])) low,
      commits_keep_links (note_sent any) (device_then any) (server_then their) (server_now any their) half.commits (map_named (given_3 ∷ [])) low (inr (linked_then any their)),
    )

-- The keys by which cards are found: each card has its keys, now and at the mark.
use Rattle.std.specs.Prelude.{◌≡◌, ℤ, Bool, true, false, T, cond, not, ◌&&◌, ◌||◌, Option, Some, None, IfSome, List}
use Rattle.std.proofs.Common.{refl, sym, ap, subst, ◌∙◌}
use Rattle.std.specs.BTreeMap.{is_at}
use Rattle.std.specs.BTreeSet.{BTreeSet}
use Rattle.std.specs.Cmp.{eq_by_cmp_equiv, signed_Decides}
use Rattle.std.specs.Option.{option_and_then}
use Rattle.std.specs.Ordering.{int_cmp, int_eq, is_eq, ordering_then}
use Rattle.std.specs.declared.cmp.Ordering.{Ordering}
use Rattle.std.specs.declared.cmp.Ordering.TheVariants.{Less, Equal, Greater}
use Rattle.ak_base.specs.Names.{name_cmp, names_total}
use Rattle.ak_base.specs.declared.names.Name.{Name}
use Rattle.ak_base.specs.declared.rows.Row.{Row}
use Rattle.ak_base.specs.declared.rows.Row.TheVariants as rows
use Rattle.ak_keep.proofs.RowsByName.{same_of_tied}
use Rattle.ak_memory.specs.CardKeys.{HasKeys, HaveKeys, KeepsKeys, note_key, queue_key, shares_note, shares_place}
use Rattle.ak_memory.specs.FoundBy.{found_by}
use Rattle.ak_memory.specs.Indexes.{HaveAllKeys}
use Rattle.ak_memory.specs.NoteKeys.{NoteKey, has_key, is_note, key_cmp, note_of_card}
use Rattle.ak_memory.specs.Places.{found_under, row_under}
use Rattle.ak_memory.specs.QueueKeys.{QueueKey, has_queue_key, place_cmp, queue_key_cmp}
use Rattle.ak_memory.specs.declared.card_keys.CardKeys.{CardKeys}
use Rattle.ak_memory.specs.declared.held_rows.FoundBy.{FoundBy}
use Rattle.ak_memory.specs.declared.places.Place.{Place}
use Rattle.ak_memory.specs.declared.versions.Version.{Version}
use Rattle.ak_memory.specs.declared.versions.Version.TheVariants.{Now, Mark}

eq_then : (r s : Ordering) → is_eq (ordering_then r s) ≡ (is_eq r && is_eq s)
eq_then Less s = refl
eq_then Equal s = refl
eq_then Greater s = refl

true_false : true ≡ false → ⊥
true_false is = subst T is tt

first_true : (a b : Bool) → (a && b) ≡ true → a ≡ true
first_true true b is = refl
first_true false b is = is

second_true : (a b : Bool) → (a && b) ≡ true → b ≡ true
second_true true b is = is
second_true false b is = absurd (true_false (sym is))

-- ---- keys that are tied
note_tie : (was card : FoundBy) (name q : Name) → is_at (key_cmp (note_key was name)) (note_key card q) ≡ (int_eq was.note card.note && is_at (name_cmp name) q)
note_tie was card name q = eq_then (int_cmp was.note card.note) (name_cmp name q)

queue_tie : (was card : FoundBy) (name q : Name) → is_at (queue_key_cmp (queue_key was name)) (queue_key card q) ≡ (int_eq was.queue card.queue && (int_eq was.due card.due && is_at (name_cmp name) q))
queue_tie was card name q =
    eq_then (int_cmp was.queue card.queue) (place_cmp (was.due, name) (card.due, q)) ∙ ap (λ b. int_eq was.queue card.queue && b) (eq_then (int_cmp was.due card.due) (name_cmp name q))

pub note_itself : (card : FoundBy) (name : Name) → is_at (key_cmp (note_key card name)) (note_key card name) ≡ true
note_itself card name =
    note_tie card card name name ∙ ap (λ b. b && is_at (name_cmp name) name) ((signed_Decides card.note card.note).1 refl) ∙ (eq_by_cmp_equiv names_total).refl name

pub queue_itself : (card : FoundBy) (name : Name) → is_at (queue_key_cmp (queue_key card name)) (queue_key card name) ≡ true
queue_itself card name =
    queue_tie card card name name ∙ ap (λ b. b && (int_eq card.due card.due && is_at (name_cmp name) name)) ((signed_Decides card.queue card.queue).1 refl)
    ∙ ap (λ b. b && is_at (name_cmp name) name) ((signed_Decides card.due card.due).1 refl) ∙ (eq_by_cmp_equiv names_total).refl name

-- ---- keys more
still : (b t : Bool) → t ≡ true → cond b true t ≡ true
still true t is = refl
still false t is = is

-- a key by a note was put in, and nothing else changed
pub note_added : (old new : CardKeys) (card : FoundBy) (name : Name) → ((key : NoteKey) → has_key new.notes.keys key ≡ cond (is_at (key_cmp (note_key card name)) key) true (has_key old.notes.keys key))
    → new.queues ≡ old.queues → KeepsKeys old new
note_added old new card name added same = record {
  notes = λ key is. added key ∙ still (is_at (key_cmp (note_key card name)) key) (has_key old.notes.keys key) is;
  queues = λ key is. ap (λ (s : BTreeSet QueueKey). has_queue_key s.keys key) same ∙ is;
}

pub queue_added : (old new : CardKeys) (card : FoundBy) (name : Name)
    → ((key : QueueKey) → has_queue_key new.queues.keys key ≡ cond (is_at (queue_key_cmp (queue_key card name)) key) true (has_queue_key old.queues.keys key)) → new.notes ≡ old.notes → KeepsKeys old new
queue_added old new card name added same = record {
  notes = λ key is. ap (λ (s : BTreeSet NoteKey). has_key s.keys key) same ∙ is;
  queues = λ key is. added key ∙ still (is_at (queue_key_cmp (queue_key card name)) key) (has_queue_key old.queues.keys key) is;
}

-- no key of a queue was put in, and nothing else changed
pub notes_kept : (old new : CardKeys) → new.notes.keys ≡ old.notes.keys → new.queues ≡ old.queues → KeepsKeys old new
notes_kept old new notes same = record {
  notes = λ key is. ap (λ (keys : List NoteKey). has_key keys key) notes ∙ is;
  queues = λ key is. ap (λ (s : BTreeSet QueueKey). has_queue_key s.keys key) same ∙ is;
}

pub queues_kept : (old new : CardKeys) → new.queues.keys ≡ old.queues.keys → new.notes ≡ old.notes → KeepsKeys old new
queues_kept old new queues same = record {
  notes = λ key is. ap (λ (s : BTreeSet NoteKey). has_key s.keys key) same ∙ is;
  queues = λ key is. ap (λ (keys : List QueueKey). has_queue_key keys key) queues ∙ is;
}

pub kept_twice : (a b c : CardKeys) → KeepsKeys a b → KeepsKeys b c → KeepsKeys a c
kept_twice a b c first then = record { notes = λ key is. then.notes key (first.notes key is); queues = λ key is. then.queues key (first.queues key is) }

put_there : (b there : Bool) → b ≡ true → cond b true there ≡ true
put_there true there is = refl
put_there false there is = absurd (true_false (sym is))

-- the card has both keys
pub both_put : (a b c : CardKeys) (card : FoundBy) (name : Name) → ((key : NoteKey) → has_key b.notes.keys key ≡ cond (is_at (key_cmp (note_key card name)) key) true (has_key a.notes.keys key)) → KeepsKeys b c
    → ((key : QueueKey) → has_queue_key c.queues.keys key ≡ cond (is_at (queue_key_cmp (queue_key card name)) key) true (has_queue_key b.queues.keys key)) → HasKeys c card name
both_put a b c card name noted kept queued = record {
  note = kept.notes (note_key card name) (noted (note_key card name) ∙ put_there _ _ (note_itself card name));
  queue = queued (queue_key card name) ∙ put_there _ _ (queue_itself card name);
}

-- ---- keys by queues, as they are read
pub queue_put : (old new : List QueueKey) (card : FoundBy) (name : Name) (queue due : ℤ) → queue ≡ card.queue → due ≡ card.due
    → ((key : QueueKey) → has_queue_key new key ≡ cond (is_at (queue_key_cmp (queue, Some (due, name))) key) true (has_queue_key old key)) → (key : QueueKey)
    → has_queue_key new key ≡ cond (is_at (queue_key_cmp (queue_key card name)) key) true (has_queue_key old key)
queue_put old new card name queue due queue_is due_is put key =
    put key ∙ (λ i. cond (is_at (queue_key_cmp (queue_is i, Some (due_is i, name))) key) true (has_queue_key old key))

pub queue_dropped : (old new : List QueueKey) (card : FoundBy) (name : Name) (needed : Bool) (queue due : ℤ) → queue ≡ card.queue → due ≡ card.due → needed ≡ false
    → ((key : QueueKey) → has_queue_key new key ≡ cond (is_at (queue_key_cmp (queue, Some (due, name))) key) false (has_queue_key old key)) → (key : QueueKey)
    → has_queue_key new key ≡ cond (not needed && is_at (queue_key_cmp (queue_key card name)) key) false (has_queue_key old key)
queue_dropped old new card name needed queue due queue_is due_is free dropped key =
    dropped key ∙ (λ i. cond (is_at (queue_key_cmp (queue_is i, Some (due_is i, name))) key) false (has_queue_key old key))
    ∙ ap (λ b. cond (not b && is_at (queue_key_cmp (queue_key card name)) key) false (has_queue_key old key)) (sym free)

pub keys-kept : (keys after : CardKeys) (es : List (Name × Place)) → KeepsKeys keys after → HaveAllKeys keys es → HaveAllKeys after es
keys-kept keys after es kept have version name card is =
    let had = have version name card is in
    record { note = kept.notes (note_key card name) had.note; queue = kept.queues (queue_key card name) had.queue }

-- ---- keys less
-- whether a card has the same, now or at the mark
needed : (version : Version) (f : Option FoundBy → Bool) (es : List (Name × Place)) (name : Name) → f (found_under version es name) ≡ true
    → (f (found_under Now es name) || f (found_under Mark es name)) ≡ true
needed Now f es name is = ap (λ b. b || f (found_under Mark es name)) is
needed Mark f es name is = or_second (f (found_under Now es name)) (f (found_under Mark es name)) is
  where
    or_second : (a b : Bool) → b ≡ true → (a || b) ≡ true
    or_second true b is = refl
    or_second false b is = is

same_int : (a b : ℤ) → int_eq a b ≡ true → int_eq b a ≡ true
same_int a b is = (signed_Decides b a).1 (sym ((signed_Decides a b).0 is))

both_same : (a b c d : ℤ) → int_eq a b ≡ true → int_eq c d ≡ true → (int_eq b a && int_eq d c) ≡ true
both_same a b c d g h = ap (λ x. x && int_eq d c) (same_int a b g) ∙ same_int c d h

found_here : (version : Version) (es : List (Name × Place)) (name q : Name) (card : FoundBy) → is_at (name_cmp name) q ≡ true → found_under version es q ≡ Some card → found_under version es name ≡ Some card
found_here version es name q card tied is = ap (found_under version es) (same_of_tied name q tied) ∙ is

off : (needed : Bool) → not needed ≡ true → needed ≡ true → ⊥
off true not_so so = true_false (sym not_so)
off false not_so so = true_false (sym so)

kept_where : (drop there : Bool) → (drop ≡ true → ⊥) → there ≡ true → cond drop false there ≡ true
kept_where true there none is = absurd (none refl)
kept_where false there none is = is

pub needed_by : (f : Option FoundBy → Bool) (r : Bool) (x y u v : Option FoundBy) → r ≡ (f x || f y) → x ≡ u → y ≡ v → r ≡ (f u || f v)
needed_by f r x y u v is first second = is ∙ ap (λ o. f o || f y) first ∙ ap (λ o. f u || f o) second

pub keys-forgotten : (keys after : CardKeys) (es : List (Name × Place)) (was : FoundBy) (name : Name) (noted waits : Bool) → HaveAllKeys keys es
    → noted ≡ (shares_note (found_under Now es name) was || shares_note (found_under Mark es name) was)
    → waits ≡ (shares_place (found_under Now es name) was || shares_place (found_under Mark es name) was)
    → ((key : NoteKey) → has_key after.notes.keys key ≡ cond (not noted && is_at (key_cmp (note_key was name)) key) false (has_key keys.notes.keys key))
    → ((key : QueueKey) → has_queue_key after.queues.keys key ≡ cond (not waits && is_at (queue_key_cmp (queue_key was name)) key) false (has_queue_key keys.queues.keys key))
    → HaveAllKeys after es
keys-forgotten keys after es was name noted waits have noted_is waits_is notes queues version q card is =
    let had = have version q card is in
    record {
      note = notes (note_key card q) ∙ kept_where _ _ (λ gone.
          let tie : (int_eq was.note card.note && is_at (name_cmp name) q) ≡ true = sym (note_tie was card name q) ∙ second_true _ _ gone in
          let here = found_here version es name q card (second_true _ _ tie) is in
          off noted (first_true _ _ gone) (noted_is ∙ needed version (λ o. shares_note o was) es name
          (ap (λ o. shares_note o was) here ∙ same_int was.note card.note (first_true _ _ tie)))) had.note;
      queue = queues (queue_key card q) ∙ kept_where _ _ (λ gone.
          let tie : (int_eq was.queue card.queue && (int_eq was.due card.due && is_at (name_cmp name) q)) ≡ true = sym (queue_tie was card name q) ∙ second_true _ _ gone in
          let place = second_true _ _ tie in
          let here = found_here version es name q card (second_true _ _ place) is in
          off waits (first_true _ _ gone) (waits_is ∙ needed version (λ o. shares_place o was) es name
          (ap (λ o. shares_place o was) here ∙ both_same was.queue card.queue was.due card.due (first_true _ _ tie) (first_true _ _ place)))) had.queue;
    }

-- the key is gone if it is not needed
pub gone : (drop there : Bool) → drop ≡ true → cond drop false there ≡ false
gone true there is = refl
gone false there is = absurd (true_false (sym is))

pub not_needed : (a b needed tie : Bool) → needed ≡ (a || b) → a ≡ false → b ≡ false → tie ≡ true → (not needed && tie) ≡ true
not_needed a b needed tie is first second tied = ap (λ n. not n && tie) (is ∙ ap (λ x. x || b) first ∙ second) ∙ tied

-- ---- places changed
pub keys-same : (keys : CardKeys) (es fs : List (Name × Place)) → ((version : Version) (q : Name) → row_under version fs q ≡ row_under version es q) → HaveAllKeys keys es → HaveAllKeys keys fs
keys-same keys es fs same have version q card is = have version q card (ap (option_and_then found_by) (sym (same version q)) ∙ is)

pub keys-settled : (keys : CardKeys) (es fs : List (Name × Place)) (name : Name) (version : Version)
    → ((each : Version) (q : Name) → row_under each fs q ≡ cond (is_at (name_cmp name) q) (row_under version es q) (row_under each es q)) → HaveAllKeys keys es → HaveAllKeys keys fs
keys-settled keys es fs name version settled have each q card is =
    elim (is_at (name_cmp name) q) as (λ b. option_and_then found_by (cond b (row_under version es q) (row_under each es q)) ≡ Some card → HasKeys keys card q) [
      | true ↦ have version q card
      | false ↦ have each q card
    ] (ap (option_and_then found_by) (sym (settled each q)) ∙ is)

-- a row was put under a name, or taken out, in one version
pub keys-with : (keys : CardKeys) (f g : Name → Option Row) (name : Name) (row : Option Row) → ((q : Name) → g q ≡ cond (is_at (name_cmp name) q) row (f q))
    → IfSome (option_and_then found_by row) (λ card. HasKeys keys card name) → HaveKeys keys f → HaveKeys keys g
keys-with keys f g name row put has have q card is =
    elim (is_at (name_cmp name) q) as (λ b. is_at (name_cmp name) q ≡ b → option_and_then found_by (cond b row (f q)) ≡ Some card → HasKeys keys card q) [
      | true ↦ λ tied h. subst (λ (n : Name). HasKeys keys card n) (same_of_tied name q tied) (subst (λ (o : Option FoundBy). IfSome o (λ (c : FoundBy). HasKeys keys c name)) h has)
      | false ↦ λ _ h. have q card h
    ] refl (ap (option_and_then found_by) (sym (put q)) ∙ is)

pub keys-held : (keys : CardKeys) (es fs : List (Name × Place)) (name : Name) (row : Option Row)
    → ((q : Name) → row_under Now fs q ≡ cond (is_at (name_cmp name) q) row (row_under Now es q)) → ((q : Name) → row_under Mark fs q ≡ row_under Mark es q)
    → IfSome (option_and_then found_by row) (λ card. HasKeys keys card name) → HaveAllKeys keys es → HaveAllKeys keys fs
keys-held keys es fs name row now mark has have Now q card is = keys-with keys (row_under Now es) (row_under Now fs) name row now has (have Now) q card is
keys-held keys es fs name row now mark has have Mark q card is = have Mark q card (ap (option_and_then found_by) (sym (mark q)) ∙ is)

-- ---- the keys by notes
note_found : (note : ℤ) (o : Option Row) → is_note note (option_and_then note_of_card o) ≡ true → (card : FoundBy) × (option_and_then found_by o ≡ Some card) × (card.note ≡ note)
note_found note None is = absurd (true_false (sym is))
note_found note (Some (rows.Note n)) is = absurd (true_false (sym is))
note_found note (Some (rows.Card c)) is = (record { note = c.nid; queue = c.queue; due = c.due }, refl, (signed_Decides c.nid note).0 is)
note_found note (Some (rows.Review r)) is = absurd (true_false (sym is))
note_found note (Some (rows.NoteType t)) is = absurd (true_false (sym is))
note_found note (Some (rows.Deck d)) is = absurd (true_false (sym is))
note_found note (Some (rows.Options o)) is = absurd (true_false (sym is))
note_found note (Some (rows.Grave g)) is = absurd (true_false (sym is))

pub note_keyed : (keys : CardKeys) (f : Name → Option Row) → HaveKeys keys f → (note : ℤ) (q : Name) → is_note note (option_and_then note_of_card (f q)) ≡ true → has_key keys.notes.keys (note, Some q) ≡ true
note_keyed keys f have note q is =
    let found = note_found note (f q) is in
    subst (λ (n : ℤ). has_key keys.notes.keys (n, Some q) ≡ true) found.2 (have q found.0 found.1).note

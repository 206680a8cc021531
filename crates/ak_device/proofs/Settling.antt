-- What a device settles: what stands under the names of what was sent.
use Rattle.std.specs.FinMap.{get, insert, get-insert, same_map}
use Rattle.std.specs.Option.{option_map, option_map_or}
use Rattle.std.specs.Prelude.{◌≡◌, ℕ, ℤ, pos, ◌+◌, ◌<◌, Bool, true, false, IfSome, if◌then◌else◌, List, [], ◌∷◌, ◌++◌, map, length, drop, get_or, Option, Some, None}
use Rattle.std.proofs.Common.{refl, sym, ap, ◌∙◌}
use Rattle.std.proofs.lemmas.List.{drop_more, map-append}
use Rattle.ak_base.proofs.NameOrder.{names_exact}
use Rattle.ak_base.proofs.RowFacts.{name_of-with_usn}
use Rattle.ak_base.specs.Heads.{IsHeadInRange, IsWithin}
use Rattle.ak_base.specs.Limits.{last_head_usn}
use Rattle.ak_base.specs.Names.{names_total}
use Rattle.ak_base.specs.Rows.{IsChecked, name_of, with_usn}
use Rattle.ak_base.specs.declared.heads.Head.{Head}
use Rattle.ak_base.specs.declared.names.Name.{Name}
use Rattle.ak_base.specs.declared.names.Table.TheVariants as tables
use Rattle.ak_base.specs.declared.cards.Card.{Card}
use Rattle.ak_base.specs.declared.decks.Deck.{Deck}
use Rattle.ak_base.specs.declared.note_types.NoteType.{NoteType}
use Rattle.ak_base.specs.declared.notes.Note.{Note}
use Rattle.ak_base.specs.declared.option_groups.Options.{Options}
use Rattle.ak_base.specs.declared.reviews.Review.{Review}
use Rattle.ak_base.specs.declared.rows.Row.{Row}
use Rattle.ak_base.specs.declared.rows.Row.TheVariants as rows
use Rattle.ak_device.proofs.Receiving.{changed_same, changed_twice}
use Rattle.ak_sync_rows.proofs.TakenHeads.{usn_fits}
use Rattle.ak_device.specs.Settlings.{names_in, names_sent, settled_by, settled_under, tags_settled, with_all_settled, with_settled, with_tags_settled}
use Rattle.ak_keep.proofs.RowsByName.{same_of_tied}
use Rattle.ak_keep.specs.Collections.{Holding, Rows, is_pending, with_head, with_row}
use Rattle.ak_keep.specs.Keepers.{Keeping, WhereTold, changed, head_set, put}
use Rattle.ak_keep.specs.Marks as marks
use Rattle.ak_keep.specs.Marks.{WithMark}
use Rattle.ak_merge.proofs.CheckedRows.{checked_with_usn}
use Rattle.ak_merge.proofs.TagLists.{settled_in_range, settled_order}
use Rattle.ak_merge.proofs.TakingLaws.{is_name}
use Rattle.ak_merge.specs.Exchanges.{settled}
use Rattle.ak_messages.specs.declared.requests.Ask.TheVariants as asks
use Rattle.ak_messages.specs.declared.requests.Changes.{Changes}
use Rattle.ak_messages.specs.declared.requests.Chunk.{Chunk}
use Rattle.ak_messages.specs.declared.requests.GraveIds.{GraveIds}
use Rattle.ak_session.specs.Messages.{grave_with}

-- ---- one name
abbrev keeping_of : Keeping → Option (WithMark Holding) → Keeping
keeping_of k told = record { headed = k.headed; told = told }

none_told : (usn : ℤ) (name : Name) (t : Option (WithMark Holding)) → IfSome t (λ w. None ≡ get w.current.rows name)
    → t ≡ option_map (marks.changed (with_settled usn name)) t
none_told usn name None is = refl
none_told usn name (Some w) is =
    ap (λ (o : Option Row). Some (record {
      current = record w.current { rows = option_map_or (λ (row : Row). insert w.current.rows name (settled usn row)) o w.current.rows };
      mark = w.mark;
    })) is

-- nothing stands there
pub settles_none : (usn : ℤ) (name : Name) (before now : Keeping) → now ≡ before → WhereTold before (λ h. None ≡ get h.rows name)
    → now ≡ changed (with_settled usn name) before
settles_none usn name before now same none = same ∙ ap (keeping_of before) (none_told usn name before.told none)

-- to put in what stands there changes nothing
same_insert : (held : Rows) (name : Name) (row : Row) → Some row ≡ get held name → insert held name row ≡ held
same_insert held name row is =
    same_map names_total names_exact (insert held name row) held (λ q. get-insert names_total held name row q ∙ by q (is_name q name) refl)
  where
    by : (q : Name) (b : Bool) → is_name q name ≡ b → (if b then Some row else get held q) ≡ get held q
    by q true same = is ∙ ap (get held) (sym (same_of_tied q name same))
    by q false apart = refl

abbrev with_rows : WithMark Holding → Rows → Option (WithMark Holding)
with_rows w held = Some (record { current = record w.current { rows = held }; mark = w.mark })

row_told : (usn : ℤ) (name : Name) (row : Row) (w : WithMark Holding) → Some row ≡ get w.current.rows name
    → with_rows w (insert w.current.rows name (settled usn row)) ≡ option_map (marks.changed (with_settled usn name)) (Some w)
row_told usn name row w is =
    ap (λ (o : Option Row). with_rows w (option_map_or (λ (r : Row). insert w.current.rows name (settled usn r)) o w.current.rows)) is

sent_told : (usn : ℤ) (name : Name) (row : Row) → is_pending row ≡ false → (t : Option (WithMark Holding))
    → IfSome t (λ w. Some row ≡ get w.current.rows name) → t ≡ option_map (marks.changed (with_settled usn name)) t
sent_told usn name row sent None is = refl
sent_told usn name row sent (Some w) is =
    sym (ap (with_rows w) (ap (insert w.current.rows name) (ap (λ (b : Bool). if b then with_usn row usn else row) sent)
    ∙ same_insert w.current.rows name row is))
    ∙ row_told usn name row w is

-- the row that stands there was sent before
pub settles_sent : (usn : ℤ) (name : Name) (row : Row) (k : Keeping) → is_pending row ≡ false → WhereTold k (λ h. Some row ≡ get h.rows name)
    → k ≡ changed (with_settled usn name) k
settles_sent usn name row k sent stands = ap (keeping_of k) (sent_told usn name row sent k.told stands)

put_told : (usn : ℤ) (name : Name) (row : Row) → is_pending row ≡ true → name_of row ≡ name → (t : Option (WithMark Holding))
    → IfSome t (λ w. Some row ≡ get w.current.rows name)
    → option_map (marks.changed (with_row (with_usn row usn))) t ≡ option_map (marks.changed (with_settled usn name)) t
put_told usn name row pending named None is = refl
put_told usn name row pending named (Some w) is =
    ap (λ (n : Name). with_rows w (insert w.current.rows n (with_usn row usn))) (name_of-with_usn row usn ∙ named)
    ∙ ap (λ (r : Row). with_rows w (insert w.current.rows name r)) (sym (ap (λ (b : Bool). if b then with_usn row usn else row) pending))
    ∙ row_told usn name row w is

-- it was not, and is put with the number
pub settles_put : (usn : ℤ) (name : Name) (row : Row) (before now : Keeping) → is_pending row ≡ true → name_of row ≡ name
    → WhereTold before (λ h. Some row ≡ get h.rows name) → now ≡ put (with_usn row usn) before → now ≡ changed (with_settled usn name) before
settles_put usn name row before now pending named stands puts = puts ∙ ap (keeping_of before) (put_told usn name row pending named before.told stands)

-- ---- names, one after the other
-- a keeper once the rows under these names were settled, one by one
abbrev pub names_settled : ℤ → List Name → Keeping → Keeping
names_settled usn [] k = k
names_settled usn (name ∷ more) k = names_settled usn more (changed (with_settled usn name) k)

-- once the next one is settled, those that are left lead to the same
pub next_settled : {X : Type 0} (f : X → Name) (usn : ℤ) (xs : List X) (i : ℕ) (x d : X) (name : Name) (k new all : Keeping) → i < length xs
    → x ≡ get_or xs i d → name ≡ f x → names_settled usn (map f (drop i xs)) k ≡ all → new ≡ changed (with_settled usn name) k
    → names_settled usn (map f (drop (i + 1) xs)) new ≡ all
next_settled {X = X} f usn xs i x d name k new all low is made so now =
    ap (names_settled usn (map f (drop (i + 1) xs))) (now ∙ ap (λ (n : Name). changed (with_settled usn n) k) (made ∙ ap f is))
    ∙ sym (ap (λ (ys : List X). names_settled usn (map f ys) k) (drop_more xs i d low))
    ∙ so

none_settled : (usn : ℤ) (t : Option (WithMark Holding)) → t ≡ option_map (marks.changed (with_all_settled usn [])) t
none_settled usn None = refl
none_settled usn (Some w) = refl

pub in_one : (usn : ℤ) (names : List Name) (k : Keeping) → names_settled usn names k ≡ changed (with_all_settled usn names) k
in_one usn [] k = ap (keeping_of k) (none_settled usn k.told)
in_one usn (name ∷ more) k =
    in_one usn more (changed (with_settled usn name) k)
    ∙ ap (keeping_of k) (changed_twice (with_settled usn name) (with_all_settled usn more) k.told)

names_append : (usn : ℤ) (one two : List Name) (k : Keeping) → names_settled usn two (names_settled usn one k) ≡ names_settled usn (one ++ two) k
names_append usn [] two k = refl
names_append usn (name ∷ more) two k = names_append usn more two (changed (with_settled usn name) k)

-- three lists of them
three_settled : (usn : ℤ) (a b d all : List Name) (k0 k1 k2 k3 : Keeping) → a ++ (b ++ d) ≡ all
    → k1 ≡ changed (with_all_settled usn a) k0 → k2 ≡ changed (with_all_settled usn b) k1 → k3 ≡ changed (with_all_settled usn d) k2
    → k3 ≡ changed (with_all_settled usn all) k0
three_settled usn a b d all k0 k1 k2 k3 whole one two three =
    three
    ∙ sym (in_one usn d k2)
    ∙ ap (names_settled usn d) (two ∙ sym (in_one usn b k1) ∙ ap (names_settled usn b) (one ∙ sym (in_one usn a k0)))
    ∙ names_append usn b d (names_settled usn a k0)
    ∙ names_append usn a (b ++ d) k0
    ∙ in_one usn (a ++ (b ++ d)) k0
    ∙ ap (λ (names : List Name). changed (with_all_settled usn names) k0) whole

-- ---- the names of a request
named_by : {X : Type 0} (f : X → Row) (g : X → Name) → ((x : X) → name_of (f x) ≡ g x) → (xs : List X) → map g xs ≡ map (λ (row : Row). name_of row) (map f xs)
named_by f g same [] = refl
named_by f g same (x ∷ xs) =
    ap (λ (n : Name). n ∷ map g xs) (sym (same x)) ∙ ap (λ (l : List Name). name_of (f x) ∷ l) (named_by f g same xs)

-- what is sent in a table, by the ids that it has
pub reviews_named : (list : List Review) → map (λ (it : Review). record { table = tables.Review; id = it.id }) list ≡ map (λ (row : Row). name_of row) (map rows.Review list)
reviews_named list = named_by rows.Review (λ (it : Review). record { table = tables.Review; id = it.id }) (λ it. refl) list

pub cards_named : (list : List Card) → map (λ (it : Card). record { table = tables.Card; id = it.id }) list ≡ map (λ (row : Row). name_of row) (map rows.Card list)
cards_named list = named_by rows.Card (λ (it : Card). record { table = tables.Card; id = it.id }) (λ it. refl) list

pub notes_named : (list : List Note) → map (λ (it : Note). record { table = tables.Note; id = it.id }) list ≡ map (λ (row : Row). name_of row) (map rows.Note list)
notes_named list = named_by rows.Note (λ (it : Note). record { table = tables.Note; id = it.id }) (λ it. refl) list

pub types_named : (list : List NoteType) → map (λ (it : NoteType). record { table = tables.NoteType; id = it.id }) list ≡ map (λ (row : Row). name_of row) (map rows.NoteType list)
types_named list = named_by rows.NoteType (λ (it : NoteType). record { table = tables.NoteType; id = it.id }) (λ it. refl) list

pub decks_named : (list : List Deck) → map (λ (it : Deck). record { table = tables.Deck; id = it.id }) list ≡ map (λ (row : Row). name_of row) (map rows.Deck list)
decks_named list = named_by rows.Deck (λ (it : Deck). record { table = tables.Deck; id = it.id }) (λ it. refl) list

pub options_named : (list : List Options) → map (λ (it : Options). record { table = tables.Options; id = it.id }) list ≡ map (λ (row : Row). name_of row) (map rows.Options list)
options_named list = named_by rows.Options (λ (it : Options). record { table = tables.Options; id = it.id }) (λ it. refl) list

three_named : (a b d : List Row) (x y z : List Name) → x ≡ map (λ (row : Row). name_of row) a → y ≡ map (λ (row : Row). name_of row) b → z ≡ map (λ (row : Row). name_of row) d
    → x ++ (y ++ z) ≡ map (λ (row : Row). name_of row) (a ++ (b ++ d))
three_named a b d x y z one two three =
    ap (λ (l : List Name). l ++ (y ++ z)) one
    ∙ ap (λ (l : List Name). map (λ (row : Row). name_of row) a ++ (l ++ z)) two
    ∙ ap (λ (l : List Name). map (λ (row : Row). name_of row) a ++ (map (λ (row : Row). name_of row) b ++ l)) three
    ∙ ap (λ (l : List Name). map (λ (row : Row). name_of row) a ++ l) (sym (map-append (λ (row : Row). name_of row) b d))
    ∙ sym (map-append (λ (row : Row). name_of row) a (b ++ d))

graves_named : (ids : GraveIds) → names_in tables.NoteGrave ids.notes ++ (names_in tables.CardGrave ids.cards ++ names_in tables.DeckGrave ids.decks)
    ≡ names_sent (asks.ApplyGraves ids)
graves_named ids =
    three_named (map (grave_with (pos 1)) ids.notes) (map (grave_with (pos 0)) ids.cards) (map (grave_with (pos 2)) ids.decks) _ _ _
    (named_by (grave_with (pos 1)) (λ (id : ℤ). record { table = tables.NoteGrave; id = id }) (λ id. refl) ids.notes)
    (named_by (grave_with (pos 0)) (λ (id : ℤ). record { table = tables.CardGrave; id = id }) (λ id. refl) ids.cards)
    (named_by (grave_with (pos 2)) (λ (id : ℤ). record { table = tables.DeckGrave; id = id }) (λ id. refl) ids.decks)

-- ---- what a request sent
head_alone : (o : Option Head) → o ≡ option_map (λ (head : Head). head) o
head_alone None = refl
head_alone (Some head) = refl

rows_alone : (usn : ℤ) (names : List Name) (h : Holding) → with_all_settled usn names h
    ≡ record { rows = settled_under usn names h.rows; head = option_map (λ (head : Head). head) h.head }
rows_alone usn names h = ap (λ (o : Option Head). record { rows = settled_under usn names h.rows; head = o }) (head_alone h.head)

pub graves_settled : (usn : ℤ) (ids : GraveIds) (k0 k1 k2 k3 : Keeping) → k1 ≡ changed (with_all_settled usn (names_in tables.NoteGrave ids.notes)) k0
    → k2 ≡ changed (with_all_settled usn (names_in tables.CardGrave ids.cards)) k1 → k3 ≡ changed (with_all_settled usn (names_in tables.DeckGrave ids.decks)) k2
    → k3 ≡ changed (settled_by usn (asks.ApplyGraves ids)) k0
graves_settled usn ids k0 k1 k2 k3 one two three =
    three_settled usn (names_in tables.NoteGrave ids.notes) (names_in tables.CardGrave ids.cards) (names_in tables.DeckGrave ids.decks)
    (names_sent (asks.ApplyGraves ids)) k0 k1 k2 k3 (graves_named ids) one two three
    ∙ changed_same (with_all_settled usn (names_sent (asks.ApplyGraves ids))) (settled_by usn (asks.ApplyGraves ids))
    (rows_alone usn (names_sent (asks.ApplyGraves ids))) k0

pub chunk_settled : (usn : ℤ) (chunk : Chunk) (a b d : List Name) (k0 k1 k2 k3 : Keeping)
    → a ≡ map (λ (row : Row). name_of row) (map rows.Review chunk.reviews) → b ≡ map (λ (row : Row). name_of row) (map rows.Card chunk.cards)
    → d ≡ map (λ (row : Row). name_of row) (map rows.Note chunk.notes) → k1 ≡ changed (with_all_settled usn a) k0 → k2 ≡ changed (with_all_settled usn b) k1
    → k3 ≡ changed (with_all_settled usn d) k2 → k3 ≡ changed (settled_by usn (asks.ApplyChunk chunk)) k0
chunk_settled usn chunk a b d k0 k1 k2 k3 first second third one two three =
    three_settled usn a b d (names_sent (asks.ApplyChunk chunk)) k0 k1 k2 k3
    (three_named (map rows.Review chunk.reviews) (map rows.Card chunk.cards) (map rows.Note chunk.notes) a b d first second third) one two three
    ∙ changed_same (with_all_settled usn (names_sent (asks.ApplyChunk chunk))) (settled_by usn (asks.ApplyChunk chunk))
    (rows_alone usn (names_sent (asks.ApplyChunk chunk))) k0

pub changes_settled : (usn : ℤ) (changes : Changes) (a b d : List Name) (k k0 k1 k2 k3 : Keeping)
    → a ≡ map (λ (row : Row). name_of row) (map rows.NoteType changes.models) → b ≡ map (λ (row : Row). name_of row) (map rows.Deck changes.decks)
    → d ≡ map (λ (row : Row). name_of row) (map rows.Options changes.options) → k0 ≡ changed (with_tags_settled usn) k
    → k1 ≡ changed (with_all_settled usn a) k0 → k2 ≡ changed (with_all_settled usn b) k1 → k3 ≡ changed (with_all_settled usn d) k2
    → k3 ≡ changed (settled_by usn (asks.ApplyChanges changes)) k
changes_settled usn changes a b d k k0 k1 k2 k3 first second third zero one two three =
    three_settled usn a b d (names_sent (asks.ApplyChanges changes)) k0 k1 k2 k3
    (three_named (map rows.NoteType changes.models) (map rows.Deck changes.decks) (map rows.Options changes.options) a b d first second third) one two three
    ∙ ap (changed (with_all_settled usn (names_sent (asks.ApplyChanges changes)))) zero
    ∙ ap (keeping_of k) (changed_twice (with_tags_settled usn) (with_all_settled usn (names_sent (asks.ApplyChanges changes))) k.told)

-- ---- the head
tags_told : (usn : ℤ) (head made : Head) (t : Option (WithMark Holding)) → IfSome t (λ w. w.current.head ≡ Some head) → made ≡ tags_settled usn head
    → option_map (marks.changed (with_head made)) t ≡ option_map (marks.changed (with_tags_settled usn)) t
tags_told usn head made None is so = refl
tags_told usn head made (Some w) is so =
    ap (λ (o : Option Head). Some (record { current = record w.current { head = o }; mark = w.mark }))
    (ap (λ (h : Head). Some h) so ∙ sym (ap (option_map (tags_settled usn)) is))

pub settles_tags : (usn : ℤ) (head made : Head) (before now : Keeping) → before.headed.current ≡ true → WhereTold before (λ h. h.head ≡ Some head)
    → made ≡ tags_settled usn head → now ≡ head_set made before → now ≡ changed (with_tags_settled usn) before
settles_tags usn head made before now held is so set =
    set
    ∙ ap (λ (b : Bool). record {
      headed = record { current = b; mark = before.headed.mark };
      told = option_map (marks.changed (with_head made)) before.told;
    }) (sym held)
    ∙ ap (keeping_of before) (tags_told usn head made before.told is so)

-- ---- ranges
pub checked_settled : (row : Row) (usn : ℤ) → IsChecked row → IsWithin (pos 0) last_head_usn usn → IsChecked (with_usn row usn)
checked_settled row usn is number = checked_with_usn row usn (usn_fits usn number).low (usn_fits usn number).high is

pub settled_head_fits : (usn : ℤ) (head : Head) → IsHeadInRange head → IsWithin (pos 0) last_head_usn usn → IsHeadInRange (tags_settled usn head)
settled_head_fits usn head is number = record {
  crt = is.crt;
  moment = is.moment;
  schema = is.schema;
  usn = is.usn;
  last_sync = is.last_sync;
  conf = is.conf;
  tags = settled_in_range usn head.tags (usn_fits usn number) is.tags;
  ascending = settled_order usn head.tags is.ascending;
}

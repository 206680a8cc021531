-- The requests of a sync: their form, and how many they are.
use Rattle.std.specs.Prelude.{◌≡◌, ◌≢◌, ◌⊎◌, ℕ, suc, ◌+◌, ◌/◌, ◌≤◌, ℤ, pos, ◌≤ℤ◌, Bool, true, false, List, [], ◌∷◌, ◌++◌, map, length}
use Rattle.std.specs.Int.{div_ceil}
use Rattle.std.specs.List.{AllByRecursion, range_with_len}
use Rattle.std.proofs.Common.{refl, sym, ap, subst, ◌∙◌, inl, inr, arith}
use Rattle.std.proofs.lemmas.List.{length-append, length-map, map-append}
use Rattle.std.proofs.lemmas.List.Elements.{All-from_recursion}
use Rattle.std.proofs.lemmas.List.FromFn.{length-map-range_with_len}
use Rattle.std.proofs.lemmas.Nat.{div-add-mod', le-div}
use Rattle.ak_base.specs.Rows.{name_of}
use Rattle.ak_base.specs.declared.names.Table.{Table}
use Rattle.ak_base.specs.declared.names.Table.TheVariants as tables
use Rattle.ak_base.specs.declared.rows.Row.{Row}
use Rattle.ak_base.specs.declared.rows.Row.TheVariants as rows
use Rattle.ak_keep.specs.Collections.{Rows, Collection, wanted_past}
use Rattle.ak_keep.specs.declared.keepers.Wanted.{Wanted}
use Rattle.ak_keep.specs.declared.keepers.Wanted.TheVariants.{Unsent, From}
use Rattle.ak_merge.proofs.WantedCounts.{unsent_never_grow, others_add_none}
use Rattle.ak_merge.specs.Takings.{all_taken}
use Rattle.ak_messages.specs.declared.requests.Ask.{Ask}
use Rattle.ak_messages.specs.declared.requests.Ask.TheVariants as asks
use Rattle.ak_messages.specs.declared.requests.Changes.{Changes}
use Rattle.ak_messages.specs.declared.requests.GraveIds.{GraveIds}
use Rattle.ak_messages.specs.declared.requests.Request.{Request}
use Rattle.ak_session.specs.Answers.{all_given, server_rows, counts_of}
use Rattle.ak_session.specs.Asks.{asks_of, all_brought}
use Rattle.ak_session.specs.Messages.{grave_ids, grave_with, graves_from, chunk_of, changes_of, change_rows}
use Rattle.ak_session.specs.Plans.{device_rows, device_changes, graves_to_send, chunks_to_ask, rows_to_send, planned_start, planned_graves, planned_changes, planned_chunks, planned_pushes, planned_check, planned, Asker, requests_from, plan, IsPlanned}
use Rattle.ak_session.specs.Requests.{is_meta, is_download, asks_commit}
use Rattle.ak_session.specs.Slices.{wanted_of, wanted_graves, wanted_in_chunks, slice, filled_slices, slices_until_short}
use Rattle.ak_session.proofs.Folds.{fold_takes_all}
use Rattle.ak_session.proofs.InOrder.{not_table}
use Rattle.ak_session.proofs.Ranges.{not_both, all_append}
use Rattle.ak_merge.specs.declared.sides.Side.TheVariants.{Device, Server}

-- ---- requests and what they ask
asks_back : (who : Asker) (base : ℤ) (step : ℕ) (list : List Ask) → asks_of (requests_from who base step list) ≡ list
asks_back who base step [] = refl
asks_back who base step (ask ∷ more) = ap (λ (l : List Ask). ask ∷ l) (asks_back who base (step + 1) more)

pub plan_asks : (who : Asker) (c s : Collection) → asks_of (plan who c s) ≡ planned c s
plan_asks who c s = asks_back who s.head.moment 1 (planned c s)

first_of : Request → List Request → Request
first_of other [] = other
first_of other (request ∷ more) = request

rest_of : List Request → List Request
rest_of [] = []
rest_of (request ∷ more) = more

is_empty : List Request → Bool
is_empty [] = true
is_empty (request ∷ more) = false

-- a request of a list that is made so, with these before it
record IsMade (who : Asker) (base : ℤ) (step : ℕ) (before : List Request) (request : Request) : Type 0 where
  host : request.host ≡ who.host
  session : request.session ≡ who.session
  step_is : request.step ≡ step + length before
  base_is : request.base ≡ base

made_at : (who : Asker) (base : ℤ) (step : ℕ) (list : List Ask) (before : List Request) (request : Request) (after : List Request) → before ++ request ∷ after ≡ requests_from who base step list
    → IsMade who base step before request
unfolding first_of rest_of is_empty
made_at who base step [] [] request after is = absurd (not_both (ap is_empty is) refl)
made_at who base step [] (b ∷ before) request after is = absurd (not_both (ap is_empty is) refl)
made_at who base step (ask ∷ more) [] request after is =
    let same : request ≡ record { host = who.host; session = who.session; step = step; base = base; ask = ask } = ap (first_of request) is in
    record {
      host = ap (λ (r : Request). r.host) same;
      session = ap (λ (r : Request). r.session) same;
      step_is = ap (λ (r : Request). r.step) same ∙ (let one : step ≡ step + 0 = omega arith in one);
      base_is = ap (λ (r : Request). r.base) same;
    }
made_at who base step (ask ∷ more) (b ∷ before) request after is =
    let rest : IsMade who base (step + 1) before request = made_at who base (step + 1) more before request after (ap rest_of is) in
    record {
      host = rest.host;
      session = rest.session;
      step_is = rest.step_is ∙ (let one : step + 1 + length before ≡ step + length (b ∷ before) = omega arith in one);
      base_is = rest.base_is;
    }

-- ---- what is asked
-- neither a meta nor a download, and no commit
abbrev IsPlain : Ask → Type 0
IsPlain ask = (is_meta ask ≡ false) × (is_download ask ≡ false) × (asks_commit ask ≡ false)

each_plain : (f : List Row → Ask) → ((part : List Row) → IsPlain (f part)) → (parts : List (List Row)) → AllByRecursion IsPlain (map f parts)
each_plain f plain [] = tt
each_plain f plain (part ∷ more) = (plain part, each_plain f plain more)

check_plain : (c s : Collection) → AllByRecursion IsPlain (planned_check c s)
check_plain c s =
    all_append IsPlain (planned_pushes c s) (asks.SanityCheck2 (counts_of (device_rows c s (planned_pushes c s))) ∷ [])
    (all_append IsPlain (planned_chunks c s) (rows_to_send (wanted_in_chunks Unsent (device_rows c s (planned_chunks c s))))
    (all_append IsPlain (planned_changes c s) (chunks_to_ask (server_rows s (planned_changes c s)))
    (all_append IsPlain (planned_graves c s) (asks.ApplyChanges (changes_of (device_changes c s)) ∷ [])
    (all_append IsPlain (planned_start c) (graves_to_send (wanted_graves Unsent (device_rows c s (planned_start c))))
    ((refl, refl, refl), tt)
    (each_plain (λ (part : List Row). asks.ApplyGraves (grave_ids part)) (λ part. (refl, refl, refl)) (filled_slices (wanted_graves Unsent (device_rows c s (planned_start c))))))
    ((refl, refl, refl), tt))
    (each_plain (λ (part : List Row). asks.Chunk) (λ part. (refl, refl, refl)) (slices_until_short (server_rows s (planned_changes c s)))))
    (each_plain (λ (part : List Row). asks.ApplyChunk (chunk_of part)) (λ part. (refl, refl, refl)) (slices_until_short (wanted_in_chunks Unsent (device_rows c s (planned_chunks c s))))))
    ((refl, refl, refl), tt)

all_at : (P : Ask → Type 0) (xs : List Ask) (x : Ask) (ys : List Ask) → AllByRecursion P (xs ++ x ∷ ys) → P x
all_at P [] x ys all = all.0
all_at P (y ∷ xs) x ys all = all_at P xs x ys all.1

abbrev IsNoRead : Ask → Type 0
IsNoRead ask = (is_meta ask ≡ false) × (is_download ask ≡ false)

no_reads : (list : List Ask) → AllByRecursion IsPlain list → AllByRecursion IsNoRead list
no_reads [] all = tt
no_reads (ask ∷ more) all = ((all.0.0, all.0.1), no_reads more all.1)

pub asked_place : (who : Asker) (c s : Collection) (before : List Request) (request : Request) (after : List Request) → before ++ request ∷ after ≡ plan who c s
    → asks_of before ++ request.ask ∷ asks_of after ≡ planned c s
asked_place who c s before request after is = sym (map-append (λ (r : Request). r.ask) before (request ∷ after)) ∙ ap asks_of is ∙ plan_asks who c s

pub each_planned : (who : Asker) (c s : Collection) (before : List Request) (request : Request) (after : List Request) → before ++ request ∷ after ≡ plan who c s → IsPlanned who s.head.moment before request
each_planned who c s before request after is =
    let made : IsMade who s.head.moment 1 before request = made_at who s.head.moment 1 (planned c s) before request after is in
    let reads : AllByRecursion IsNoRead (planned c s) = all_append IsNoRead (planned_check c s) (asks.Finish ∷ []) (no_reads (planned_check c s) (check_plain c s)) ((refl, refl), tt) in
    let own : IsNoRead request.ask = all_at IsNoRead (asks_of before) request.ask (asks_of after) (subst (AllByRecursion IsNoRead) (sym (asked_place who c s before request after is)) reads) in
    record {
      host = made.host;
      session = made.session;
      step = made.step_is ∙ (let one : 1 + length before ≡ length before + 1 = omega arith in one);
      base_is = made.base_is;
      later = own.0;
      reads_nothing = own.1;
    }

-- ---- the finish
first_asked : Ask → List Ask → Ask
first_asked other [] = other
first_asked other (ask ∷ more) = ask

rest_asked : List Ask → List Ask
rest_asked [] = []
rest_asked (ask ∷ more) = more

is_none_asked : List Ask → Bool
is_none_asked [] = true
is_none_asked (ask ∷ more) = false

not_empty : (xs : List Ask) (x : Ask) (ys : List Ask) → xs ++ x ∷ ys ≡ [] → ⊥
unfolding is_none_asked
not_empty [] x ys is = not_both (ap is_none_asked is) refl
not_empty (y ∷ xs) x ys is = not_both (ap is_none_asked is) refl

-- a place of a list with one more at its end: the end, or a place of the list
end_or_inside : (xs before : List Ask) (ask : Ask) (after : List Ask) (last : Ask) → before ++ ask ∷ after ≡ xs ++ last ∷ []
    → ((before ≡ xs) × (ask ≡ last) × (after ≡ [])) ⊎ ((rest : List Ask) × (before ++ ask ∷ rest ≡ xs))
unfolding first_asked rest_asked
end_or_inside [] [] ask after last is = inl (refl, ap (first_asked last) is, ap rest_asked is)
end_or_inside [] (b ∷ before) ask after last is = absurd (not_empty before ask after (ap rest_asked is))
end_or_inside (x ∷ xs) [] ask after last is = inr (xs, ap (λ (a : Ask). a ∷ xs) (ap (first_asked last) is))
end_or_inside (x ∷ xs) (b ∷ before) ask after last is =
    elim (end_or_inside xs before ask after last (ap rest_asked is)) as (λ _. ((b ∷ before ≡ x ∷ xs) × (ask ≡ last) × (after ≡ [])) ⊎ ((rest : List Ask) × (b ∷ (before ++ ask ∷ rest) ≡ x ∷ xs))) [
      | inl end ↦ inl (ap (λ (a : Ask). a ∷ before) (ap (first_asked last) is) ∙ ap (λ (l : List Ask). x ∷ l) end.0, end.1, end.2)
      | inr place ↦ inr (place.0, ap (λ (a : Ask). a ∷ (before ++ ask ∷ place.0)) (ap (first_asked last) is) ∙ ap (λ (l : List Ask). x ∷ l) place.1)
    ]

nothing_asked : (after : List Request) → asks_of after ≡ [] → after ≡ []
nothing_asked [] is = refl
nothing_asked (request ∷ more) is = absurd (not_empty [] request.ask (asks_of more) is)

pub finish_is_last : (who : Asker) (c s : Collection) (before : List Request) (request : Request) (after : List Request) → before ++ request ∷ after ≡ plan who c s → asks_commit request.ask ≡ true
    → (request.ask ≡ asks.Finish) × (asks_of before ≡ planned_check c s) × (after ≡ [])
finish_is_last who c s before request after is commits =
    elim (end_or_inside (planned_check c s) (asks_of before) request.ask (asks_of after) asks.Finish (asked_place who c s before request after is))
    as (λ _. (request.ask ≡ asks.Finish) × (asks_of before ≡ planned_check c s) × (after ≡ [])) [
      | inl end ↦ (end.1, end.0, nothing_asked after end.2)
      | inr place ↦ absurd (not_both commits (all_at IsPlain (asks_of before) request.ask place.0 (subst (AllByRecursion IsPlain) (sym place.1) (check_plain c s))).2)
    ]

-- ---- how many
requests_length : (who : Asker) (base : ℤ) (step : ℕ) (list : List Ask) → length (requests_from who base step list) ≡ length list
requests_length who base step [] = refl
requests_length who base step (ask ∷ more) = ap suc (requests_length who base (step + 1) more)

parts_length : (f : List Row → Ask) (list : List Row) (n : ℕ) → length (map f (map (λ (k : ℕ). slice k list) (range_with_len 0 n))) ≡ n
parts_length f list n = length-map (map (λ (k : ℕ). slice k list) (range_with_len 0 n)) f ∙ length-map-range_with_len (λ (k : ℕ). slice k list) 0 n

three_length : (one two three : Table) (want : Wanted) (held : Rows)
    → length (wanted_of one two three want held) ≡ length (wanted_past one want (pos 0) held) + (length (wanted_past two want (pos 0) held) + length (wanted_past three want (pos 0) held))
three_length one two three want held =
    length-append (wanted_past one want (pos 0) held) (wanted_past two want (pos 0) held ++ wanted_past three want (pos 0) held)
    ∙ ap (λ (n : ℕ). length (wanted_past one want (pos 0) held) + n) (length-append (wanted_past two want (pos 0) held) (wanted_past three want (pos 0) held))

unsent_fewer : (one two three : Table) (usn : ℤ) (came : List Row) (held : Rows) → pos 0 ≤ℤ usn → length (wanted_of one two three Unsent (all_taken Device usn came held)) ≤ length (wanted_of one two three Unsent held)
unsent_fewer one two three usn came held low =
    let a = three_length one two three Unsent (all_taken Device usn came held) in
    let b = three_length one two three Unsent held in
    let x = unsent_never_grow one Device usn came held low in
    let y = unsent_never_grow two Device usn came held low in
    let z = unsent_never_grow three Device usn came held low in
    omega (arith, a, b, x, y, z)

-- rows that are no reviews, cards or notes
abbrev IsOther : Row → Type 0
IsOther row = ((name_of row).table ≢ tables.Review) × ((name_of row).table ≢ tables.Card) × ((name_of row).table ≢ tables.Note)

each_other : {X : Type 0} (f : X → Row) → ((x : X) → IsOther (f x)) → (list : List X) → AllByRecursion IsOther (map f list)
each_other f other [] = tt
each_other f other (x ∷ more) = (other x, each_other f other more)

graves_other : (ids : GraveIds) → AllByRecursion IsOther (graves_from ids)
graves_other ids =
    all_append IsOther (map (grave_with (pos 1)) ids.notes) (map (grave_with (pos 0)) ids.cards ++ map (grave_with (pos 2)) ids.decks)
    (each_other (grave_with (pos 1)) (λ id. (not_table tables.NoteGrave tables.Review refl, not_table tables.NoteGrave tables.Card refl, not_table tables.NoteGrave tables.Note refl)) ids.notes)
    (all_append IsOther (map (grave_with (pos 0)) ids.cards) (map (grave_with (pos 2)) ids.decks)
    (each_other (grave_with (pos 0)) (λ id. (not_table tables.CardGrave tables.Review refl, not_table tables.CardGrave tables.Card refl, not_table tables.CardGrave tables.Note refl)) ids.cards)
    (each_other (grave_with (pos 2)) (λ id. (not_table tables.DeckGrave tables.Review refl, not_table tables.DeckGrave tables.Card refl, not_table tables.DeckGrave tables.Note refl)) ids.decks))

changes_other : (changes : Changes) → AllByRecursion IsOther (change_rows changes)
changes_other changes =
    all_append IsOther (map rows.NoteType changes.models) (map rows.Deck changes.decks ++ map rows.Options changes.options)
    (each_other rows.NoteType (λ t. (not_table tables.NoteType tables.Review refl, not_table tables.NoteType tables.Card refl, not_table tables.NoteType tables.Note refl)) changes.models)
    (all_append IsOther (map rows.Deck changes.decks) (map rows.Options changes.options)
    (each_other rows.Deck (λ t. (not_table tables.Deck tables.Review refl, not_table tables.Deck tables.Card refl, not_table tables.Deck tables.Note refl)) changes.decks)
    (each_other rows.Options (λ t. (not_table tables.Options tables.Review refl, not_table tables.Options tables.Card refl, not_table tables.Options tables.Note refl)) changes.options))

many_graves_other : (parts : List (List Row)) (rest : List Ask) → AllByRecursion IsOther (all_brought rest).rows → AllByRecursion IsOther (all_brought (map (λ (part : List Row). asks.ApplyGraves (grave_ids part)) parts ++ rest)).rows
many_graves_other [] rest all = all
many_graves_other (part ∷ more) rest all =
    all_append IsOther (graves_from (grave_ids part)) (all_brought (map (λ (part : List Row). asks.ApplyGraves (grave_ids part)) more ++ rest)).rows (graves_other (grave_ids part)) (many_graves_other more rest all)

brought_other : (c s : Collection) → AllByRecursion IsOther (all_brought (planned_changes c s)).rows
brought_other c s =
    many_graves_other (filled_slices (wanted_graves Unsent (device_rows c s (planned_start c)))) (asks.ApplyChanges (changes_of (device_changes c s)) ∷ [])
    (all_append IsOther (change_rows (changes_of (device_changes c s))) [] (changes_other (changes_of (device_changes c s))) tt)

weaker_rows : (P Q : Row → Type 0) → ((row : Row) → P row → Q row) → (xs : List Row) → AllByRecursion P xs → AllByRecursion Q xs
weaker_rows P Q so [] all = tt
weaker_rows P Q so (x ∷ xs) all = (so x all.0, weaker_rows P Q so xs all.1)

pub list_fewer : (c s : Collection) → length (server_rows s (planned_changes c s)) ≤ length (wanted_in_chunks (From c.head.usn) s.rows)
list_fewer c s =
    let came : List Row = (all_brought (planned_changes c s)).rows in
    let after : Rows = all_taken Server s.head.usn came s.rows in
    let same : length (server_rows s (planned_changes c s)) ≡ length (wanted_in_chunks (From c.head.usn) after) =
    ap (λ (held : Collection). length (wanted_in_chunks (From c.head.usn) held.rows)) (fold_takes_all s (planned_changes c s)) in
    let a = three_length tables.Review tables.Card tables.Note (From c.head.usn) after in
    let b = three_length tables.Review tables.Card tables.Note (From c.head.usn) s.rows in
    let x = others_add_none tables.Review (From c.head.usn) Server s.head.usn came s.rows (All-from_recursion (λ row. (name_of row).table ≢ tables.Review) came (weaker_rows IsOther (λ row. (name_of row).table ≢ tables.Review) (λ row own. own.0) came (brought_other c s))) in
    let y = others_add_none tables.Card (From c.head.usn) Server s.head.usn came s.rows (All-from_recursion (λ row. (name_of row).table ≢ tables.Card) came (weaker_rows IsOther (λ row. (name_of row).table ≢ tables.Card) (λ row own. own.1) came (brought_other c s))) in
    let z = others_add_none tables.Note (From c.head.usn) Server s.head.usn came s.rows (All-from_recursion (λ row. (name_of row).table ≢ tables.Note) came (weaker_rows IsOther (λ row. (name_of row).table ≢ tables.Note) (λ row own. own.2) came (brought_other c s))) in
    omega (arith, same, a, b, x, y, z)

fewer_parts : (m n : ℕ) → m ≤ n → m / 250 ≤ n / 250
fewer_parts m n less = let whole = div-add-mod' m 250 in le-div (m / 250) n 250 (omega arith) (omega (arith, whole, less))

pub plans_are_short : (who : Asker) (c s : Collection) → pos 0 ≤ℤ s.head.usn
    → length (plan who c s) + 1 ≤ 8 + length (wanted_graves Unsent c.rows) / 250 + length (wanted_in_chunks (From c.head.usn) s.rows) / 250 + length (wanted_in_chunks Unsent c.rows) / 250
plans_are_short who c s low =
    let graves : List Row = wanted_graves Unsent (device_rows c s (planned_start c)) in
    let list : List Row = server_rows s (planned_changes c s) in
    let pushes : List Row = wanted_in_chunks Unsent (device_rows c s (planned_chunks c s)) in
    let one : length (graves_to_send graves) ≡ div_ceil (length graves) 250 = parts_length (λ (part : List Row). asks.ApplyGraves (grave_ids part)) graves (div_ceil (length graves) 250) in
    let two : length (planned_changes c s) ≡ length (planned_graves c s) + 1 = length-append (planned_graves c s) (asks.ApplyChanges (changes_of (device_changes c s)) ∷ []) in
    let three : length (planned_chunks c s) ≡ length (planned_changes c s) + (length list / 250 + 1) =
    length-append (planned_changes c s) (chunks_to_ask list) ∙ ap (λ (n : ℕ). length (planned_changes c s) + n) (parts_length (λ (part : List Row). asks.Chunk) list (length list / 250 + 1)) in
    let four : length (planned_pushes c s) ≡ length (planned_chunks c s) + (length pushes / 250 + 1) =
    length-append (planned_chunks c s) (rows_to_send pushes) ∙ ap (λ (n : ℕ). length (planned_chunks c s) + n) (parts_length (λ (part : List Row). asks.ApplyChunk (chunk_of part)) pushes (length pushes / 250 + 1)) in
    let five : length (planned_check c s) ≡ length (planned_pushes c s) + 1 = length-append (planned_pushes c s) (asks.SanityCheck2 (counts_of (device_rows c s (planned_pushes c s))) ∷ []) in
    let six : length (planned c s) ≡ length (planned_check c s) + 1 = length-append (planned_check c s) (asks.Finish ∷ []) in
    let seven : length (plan who c s) ≡ length (planned c s) = requests_length who s.head.moment 1 (planned c s) in
    let zero_is : length (planned_graves c s) ≡ length (graves_to_send graves) + 1 = omega arith in
    let a = fewer_parts (length graves) (length (wanted_graves Unsent c.rows)) (unsent_fewer tables.NoteGrave tables.CardGrave tables.DeckGrave s.head.usn (all_given s (planned_start c)).rows c.rows low) in
    let b = fewer_parts (length list) (length (wanted_in_chunks (From c.head.usn) s.rows)) (list_fewer c s) in
    let d = fewer_parts (length pushes) (length (wanted_in_chunks Unsent c.rows)) (unsent_fewer tables.Review tables.Card tables.Note s.head.usn (all_given s (planned_chunks c s)).rows c.rows low) in
    omega (arith, one, two, three, four, five, six, seven, zero_is, a, b, d)

pub pushes_fewer : (c s : Collection) → pos 0 ≤ℤ s.head.usn → length (wanted_in_chunks Unsent (device_rows c s (planned_chunks c s))) ≤ length (wanted_in_chunks Unsent c.rows)
pushes_fewer c s low = unsent_fewer tables.Review tables.Card tables.Note s.head.usn (all_given s (planned_chunks c s)).rows c.rows low

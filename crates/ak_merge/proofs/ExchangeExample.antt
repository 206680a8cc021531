-- A worked example: an exchange in which rows, graves and tags go both ways.
use Rattle.ak_base.specs.Cards.{place_faults, schedule_faults, mark_faults}
use Rattle.ak_base.specs.Columns.{id_fault, id_or_zero_fault, stamp_fault, long_fault, code_fault}
use Rattle.ak_base.specs.Notes.{identity_faults, content_faults}
use Rattle.ak_base.specs.Rows.{name_of, stamp_of, usn_of, with_usn}
use Rattle.ak_base.specs.Tables.{has_stamps}
use Rattle.ak_base.specs.declared.heads.Head.{Head}
use Rattle.ak_base.specs.declared.heads.Tag.{Tag}
use Rattle.ak_base.specs.declared.names.Name.{Name}
use Rattle.ak_base.specs.declared.names.Table.TheVariants as tables
use Rattle.ak_base.specs.declared.rows.Row.{Row}
use Rattle.ak_base.specs.declared.rows.Row.TheVariants as rows
use Rattle.ak_base.specs.Names.{names_total}
use Rattle.ak_keep.proofs.RowsByName.{same_of_tied}
use Rattle.ak_keep.specs.Collections.{Collection, Rows, is_pending, is_settled, rows_of}
use Rattle.ak_keep.specs.declared.keepers.Wanted.TheVariants.{Unsent, From}
use Rattle.ak_merge.proofs.Examples.{all_stand, card_of_it, map_checked, map_named, note_row, note_with, of_maps, rows_stand, standing}
use Rattle.ak_merge.proofs.ExchangeCells.{only_wanted}
use Rattle.ak_merge.proofs.ExchangeLaws.{exchange_links}
use Rattle.ak_merge.proofs.Finding.{not_both}
use Rattle.ak_merge.proofs.PartLaws.{pending_was_held}
use Rattle.ak_merge.proofs.TakingLaws.{all_taken_at, is_name, newest_in, received_under}
use Rattle.ak_merge.specs.Commits.{Received}
use Rattle.ak_merge.specs.Exchanges.{is_tag_from, is_unsent_tag, wanted_under, IsSent, IsExchange, AreExchanged, settled, settled_tags}
use Rattle.ak_keep.specs.Graves.{RowsByName, grave_under, is_dead}
use Rattle.ak_merge.specs.Holdings.{name_in, row_under, has_tag, AreChecked, IsSingle}
use Rattle.ak_merge.specs.Joins.{joined_under}
use Rattle.ak_merge.specs.Links.{AreLinkedParts, HasTaken, IsGiven, IsHeldLike, IsKnown, IsOwn}
use Rattle.ak_merge.specs.Tags.{tags_taken}
use Rattle.ak_merge.specs.Takings.{all_taken}
use Rattle.ak_merge.specs.declared.sides.Side.TheVariants.{Device, Server}
use Rattle.std.proofs.lemmas.List.Elements.{All-from_recursion}
use Rattle.std.proofs.lemmas.Option.{none-some, same_Some}
use Rattle.std.specs.Cmp.Lexicographic.{pointwise}
use Rattle.std.specs.FinMap.{get, insert, get-insert}
use Rattle.std.specs.List.{AllByRecursion, Contains}
use Rattle.std.specs.Option.{option_map}
use Rattle.std.specs.Prelude.{◌≡◌, ◌≢◌, ◌==◌, ◌||◌, ◌≤ℤ◌, ◌<ℤ◌, ℤ, pos, negsuc, codes, true, false, if◌then◌else◌, IsTrue, IfSome, List, [], ◌∷◌, Option, Some, None}
use Rattle.std.proofs.Common.{refl, sym, ap, subst, ◌∙◌, inl, inr, arith}
use Rattle.std.proofs.lemmas.Int.{ints}

-- ---- the two sides
-- a card of note 7 with this number
abbrev card_row : ℤ → ℤ → Row
card_row usn id = rows.Card (record (card_of_it id (pos 10) (pos 0)) { usn = usn })

-- the grave of a card with this number
abbrev grave_row : ℤ → ℤ → Row
grave_row usn id = rows.Grave (record { usn = usn; oid = id; kind = pos 0 })

-- note 9, which came to the server from elsewhere
abbrev new_note : ℤ → Row
new_note usn = rows.Note (record (note_with usn (pos 15) (codes "new")) { id = pos 9 })

abbrev edited_note : ℤ → Row
edited_note usn = note_row usn (pos 20) (codes "home")

abbrev old_note : Row
old_note = note_row (pos 1) (pos 10) (codes "house")

-- The device edited note 7 and deleted card 11 since it synced last, when its number became 3. It still holds card 8.
abbrev own_rows : List Row
own_rows = edited_note (negsuc 0) ∷ card_row (pos 1) (pos 8) ∷ grave_row (negsuc 0) (pos 11) ∷ []

-- The server holds note 7 and card 11 as they were. Card 8 was deleted there, and note 9 came, both with the number 4.
abbrev their_rows : List Row
their_rows = old_note ∷ card_row (pos 1) (pos 11) ∷ grave_row (pos 4) (pos 8) ∷ new_note (pos 4) ∷ []

abbrev own_tag : Tag
own_tag = record { name = codes "own"; usn = negsuc 0 }

abbrev their_tag : Tag
their_tag = record { name = codes "their"; usn = pos 4 }

abbrev device : Head → Collection
device any = record { rows = rows_of own_rows; head = record any { usn = pos 3; schema = pos 1; moment = pos 20; tags = own_tag ∷ [] } }

abbrev server : Head → Collection
server their = record { rows = rows_of their_rows; head = record their { usn = pos 5; schema = pos 1; moment = pos 10; tags = their_tag ∷ [] } }

-- the server gives the grave of card 8, note 9 and its tag; the device gives note 7, the grave of card 11, its tag and its settings
abbrev got : Received
got = record { rows = grave_row (pos 4) (pos 8) ∷ new_note (pos 4) ∷ []; tags = codes "their" ∷ []; settings = None }

abbrev sent : Head → Received
sent any = record { rows = edited_note (negsuc 0) ∷ grave_row (negsuc 0) (pos 11) ∷ []; tags = codes "own" ∷ []; settings = Some (record { conf = any.conf; crt = any.crt }) }

-- the server commits at 30
abbrev server_then : Head → Head → Collection
server_then any their = record {
  rows = all_taken Server (pos 5) (sent any).rows (rows_of their_rows);
  head = record their { usn = pos 6; schema = pos 1; moment = pos 30; tags = tags_taken (pos 5) (sent any).tags (their_tag ∷ []); conf = any.conf; crt = any.crt };
}

-- the device takes what came, and settles what it sent
abbrev took : Rows
took = all_taken Device (pos 5) got.rows (rows_of own_rows)

abbrev seven : Name
seven = name_in tables.Note (pos 7)

abbrev grave_11 : Name
grave_11 = name_in tables.CardGrave (pos 11)

abbrev device_then : Head → Collection
device_then any = record {
  rows = insert (insert took grave_11 (grave_row (pos 5) (pos 11))) seven (edited_note (pos 5));
  head = record any { usn = pos 6; schema = pos 1; moment = pos 30; last_sync = pos 30; tags = settled_tags (pos 5) (tags_taken (pos 5) got.tags (own_tag ∷ [])) };
}

-- ---- facts of a few rows
-- what holds of no row, and of each of these under its name, holds under each name
under_each : (xs : List Row) (P : Name → Option Row → Type 0) → ((name : Name) → P name None) → AllByRecursion (λ (row : Row). P (name_of row) (Some row)) xs → (name : Name) → P name (standing xs name)
under_each [] P none all name = none name
under_each (x ∷ xs) P none all name =
    elim (is_name name (name_of x)) as (λ b. is_name name (name_of x) ≡ b → P name (if b then Some x else standing xs name)) [
      | true ↦ λ is. subst (λ (n : Name). P n (Some x)) (sym (same_of_tied name (name_of x) is)) all.0
      | false ↦ λ _. under_each xs P none all.1 name
    ] refl

given : (usn number : ℤ) → pos 0 ≤ℤ number → number <ℤ usn → IsGiven usn number
given usn number low high = record { low = low; high = high }

linked : (any their : Head) → AreLinkedParts (device any) (server their)
linked any their = record {
  usn = omega (arith, ints);
  given = record {
    rows = of_maps own_rows their_rows (λ a b. (name : Name) → IfSome (b name) (λ row. IsGiven (pos 5) (usn_of row)))
        (under_each their_rows (λ name o. IfSome o (λ row. IsGiven (pos 5) (usn_of row))) (λ _. tt) (one_given, (one_given, (four_given, (four_given, tt)))));
    tags = λ name. elim (pointwise ◌==◌ (codes "their") name) as (λ b. IfSome (option_map (λ (tag : Tag). tag.usn) (if b then Some their_tag else None)) (IsGiven (pos 5))) [ true ↦ four_given | false ↦ tt ];
  };
  own = record {
    rows = of_maps own_rows their_rows (λ a b. (name : Name) → IfSome (a name) (λ row. IsOwn (pos 3) (usn_of row)))
        (under_each own_rows (λ name o. IfSome o (λ row. IsOwn (pos 3) (usn_of row))) (λ _. tt) (inl refl, (inr own_given, (inl refl, tt))));
    tags = λ name. elim (pointwise ◌==◌ (codes "own") name) as (λ b. IfSome (option_map (λ (tag : Tag). tag.usn) (if b then Some own_tag else None)) (IsOwn (pos 3))) [ true ↦ inl refl | false ↦ tt ];
  };
  taken = of_maps own_rows their_rows (λ a b. (name : Name) → IsTrue (has_stamps name.table) → HasTaken (pos 3) (a name) (grave_under a name) (b name))
      (under_each their_rows (λ name y. IsTrue (has_stamps name.table) → HasTaken (pos 3) (standing own_rows name) (grave_under (standing own_rows) name) y) (λ _ _. tt) ((λ _ _. inr (inl (record { unsent = refl; newer = omega (arith, ints) }))), ((λ _ _. inr (inr refl)), ((λ none. absurd (not_both none refl)), ((λ _ below. absurd (omega (arith, ints, below))), tt)))));
  known = of_maps own_rows their_rows (λ a b. (name : Name) → IsTrue (has_stamps name.table) → IsKnown (pos 3) (a name) (b name) (grave_under b name))
      (under_each own_rows (λ name x. IsTrue (has_stamps name.table) → IsKnown (pos 3) x (standing their_rows name) (grave_under (standing their_rows) name)) (λ _ _. tt) ((λ _ settled. absurd (not_both settled refl)), ((λ _ _. inr (inr (omega (arith, ints)))), ((λ none. absurd (not_both none refl)), tt))));
  shared = λ name none. record {
    sent = of_maps own_rows their_rows (λ a b. (name : Name) → has_stamps name.table ≡ false → IfSome (a name) (λ row. IsTrue (is_settled row) → IsHeldLike row (b name)))
        (under_each own_rows (λ name x. has_stamps name.table ≡ false → IfSome x (λ row. IsTrue (is_settled row) → IsHeldLike row (standing their_rows name))) (λ _ _. tt) ((λ none. absurd (not_both refl none)), ((λ none. absurd (not_both refl none)), ((λ _ settled. absurd (not_both settled refl)), tt)))) name none;
    came = of_maps own_rows their_rows (λ a b. (name : Name) → has_stamps name.table ≡ false → IfSome (b name) (λ row. usn_of row <ℤ pos 3 → IsHeldLike row (a name)))
        (under_each their_rows (λ name y. has_stamps name.table ≡ false → IfSome y (λ row. usn_of row <ℤ pos 3 → IsHeldLike row (standing own_rows name))) (λ _ _. tt) ((λ none. absurd (not_both refl none)), ((λ none. absurd (not_both refl none)), ((λ _ below. absurd (omega (arith, ints, below))), ((λ none. absurd (not_both refl none)), tt))))) name none;
  };
  tags = λ name. record {
    sent = elim (pointwise ◌==◌ (codes "own") name) as (λ b. IfSome (option_map (λ (tag : Tag). tag.usn) (if b then Some own_tag else None)) (λ number. number ≢ negsuc 0 → IsTrue (has_tag (their_tag ∷ []) name))) [
      | true ↦ λ differ. absurd (differ refl)
      | false ↦ tt
    ];
    came = elim (pointwise ◌==◌ (codes "their") name) as (λ b. IfSome (option_map (λ (tag : Tag). tag.usn) (if b then Some their_tag else None)) (λ number. number <ℤ pos 3 → IsTrue (has_tag (own_tag ∷ []) name))) [
      | true ↦ λ below. absurd (omega (arith, ints, below))
      | false ↦ tt
    ];
  };
  own_single = of_maps own_rows their_rows (λ a b. IsSingle a)
      (under_each own_rows (λ name x. is_dead (standing own_rows) name ≡ true → x ≡ None) (λ _ _. refl) ((λ dead. absurd (not_both dead refl)), ((λ dead. absurd (not_both dead refl)), ((λ dead. absurd (not_both dead refl)), tt))));
  single = of_maps own_rows their_rows (λ a b. IsSingle b)
      (under_each their_rows (λ name y. is_dead (standing their_rows) name ≡ true → y ≡ None) (λ _ _. refl)
      ((λ dead. absurd (not_both dead refl)), ((λ dead. absurd (not_both dead refl)), ((λ dead. absurd (not_both dead refl)), ((λ dead. absurd (not_both dead refl)), tt)))));
  later = λ same. absurd (omega (arith, ints, same));
  settings = λ same _. absurd (omega (arith, ints, same));
}
  where
    one_given : IsGiven (pos 5) (pos 1)
    one_given = given (pos 5) (pos 1) (omega (arith, ints)) (omega (arith, ints))

    four_given : IsGiven (pos 5) (pos 4)
    four_given = given (pos 5) (pos 4) (omega (arith, ints)) (omega (arith, ints))

    own_given : IsGiven (pos 3) (pos 1)
    own_given = given (pos 3) (pos 1) (omega (arith, ints)) (omega (arith, ints))

own_checked : AreChecked (get (rows_of own_rows))
unfolding identity_faults content_faults place_faults schedule_faults mark_faults id_fault id_or_zero_fault stamp_fault long_fault code_fault
own_checked = map_checked own_rows (refl, (refl, (refl, tt)))

their_checked : AreChecked (get (rows_of their_rows))
unfolding identity_faults content_faults place_faults schedule_faults mark_faults id_fault id_or_zero_fault stamp_fault long_fault code_fault
their_checked = map_checked their_rows (refl, (refl, (refl, (refl, tt))))

-- ---- the exchange
first_of : (x : Row) (xs : List Row) → Contains (x ∷ xs) x
first_of x xs = (0, omega arith, refl)

second_of : (w x : Row) (xs : List Row) → Contains (w ∷ x ∷ xs) x
second_of w x xs = (1, omega arith, refl)

device_sends : (any : Head) → IsSent (sent any).rows (wanted_under Unsent (row_under (device any))) (get took)
device_sends any = record {
  each = All-from_recursion (λ row. wanted_under Unsent (row_under (device any)) (name_of row) ≡ Some row) (sent any).rows
      (ap (only_wanted Unsent) (rows_stand own_rows seven), (ap (only_wanted Unsent) (rows_stand own_rows grave_11), tt));
  whole = λ name row is _.
      under_each own_rows (λ name o. only_wanted Unsent o ≡ Some row → Contains (sent any).rows row) (λ _ none. absurd (none-some row none)) ((λ one. subst (Contains (sent any).rows) (same_Some (edited_note (negsuc 0)) row one) (first_of (edited_note (negsuc 0)) (grave_row (negsuc 0) (pos 11) ∷ []))), ((λ none. absurd (none-some row none)), ((λ one. subst (Contains (sent any).rows) (same_Some (grave_row (negsuc 0) (pos 11)) row one) (second_of (edited_note (negsuc 0)) (grave_row (negsuc 0) (pos 11)) [])), tt))) name (ap (only_wanted Unsent) (sym (rows_stand own_rows name)) ∙ is);
}

server_sends : (any their : Head) → IsSent got.rows (wanted_under (From (pos 3)) (row_under (server their))) (get (all_taken Server (pos 5) (sent any).rows (rows_of their_rows)))
server_sends any their = record {
  each = All-from_recursion (λ row. wanted_under (From (pos 3)) (row_under (server their)) (name_of row) ≡ Some row) got.rows
      (ap (only_wanted (From (pos 3))) (rows_stand their_rows (name_in tables.CardGrave (pos 8))), (ap (only_wanted (From (pos 3))) (rows_stand their_rows (name_in tables.Note (pos 9))), tt));
  whole = λ name row is _.
      under_each their_rows (λ name o. only_wanted (From (pos 3)) o ≡ Some row → Contains got.rows row) (λ _ none. absurd (none-some row none)) ((λ none. absurd (none-some row none)), ((λ none. absurd (none-some row none)), ((λ one. subst (Contains got.rows) (same_Some (grave_row (pos 4) (pos 8)) row one) (first_of (grave_row (pos 4) (pos 8)) (new_note (pos 4) ∷ []))), ((λ one. subst (Contains got.rows) (same_Some (new_note (pos 4)) row one) (second_of (grave_row (pos 4) (pos 8)) (new_note (pos 4)) [])), tt)))) name (ap (only_wanted (From (pos 3))) (sym (rows_stand their_rows name)) ∙ is);
}

took_at : (name : Name) → get took name ≡ received_under Device (pos 5) (standing own_rows) (newest_in Device got.rows) name
took_at name = all_taken_at Device (pos 5) got.rows (rows_of own_rows) name ∙ ap (λ (at : RowsByName). received_under Device (pos 5) at (newest_in Device got.rows) name) (all_stand own_rows)

-- what is not sent yet under other names than the two is settled already
others_settled : (name : Name) → is_name name seven ≡ false → is_name name grave_11 ≡ false → (o : Option Row) → get took name ≡ o → o ≡ option_map (settled (pos 5)) o
others_settled name not_seven not_grave None is = refl
others_settled name not_seven not_grave (Some row) is =
    elim (is_pending row) as (λ b. is_pending row ≡ b → Some row ≡ Some (settled (pos 5) row)) [
      | true ↦ λ pending. absurd (under_each own_rows (λ name o. is_name name seven ≡ false → is_name name grave_11 ≡ false → o ≡ Some row → ⊥) (λ _ _ _ none. none-some row none) ((λ other _ _. not_both refl other), ((λ _ _ held. not_both pending (ap is_pending (sym (same_Some (card_row (pos 1) (pos 8)) row held)))), ((λ _ other _. not_both refl other), tt))) name not_seven not_grave (sym (rows_stand own_rows name) ∙ pending_was_held Device (pos 5) got.rows (rows_of own_rows) name row (omega (arith, ints)) is pending))
      | false ↦ λ sent. ap (λ b. Some (if b then with_usn row (pos 5) else row)) (sym sent)
    ] refl

device_settles : (any : Head) (name : Name) → row_under (device_then any) name ≡ option_map (settled (pos 5)) (get took name)
device_settles any name =
    get-insert names_total (insert took grave_11 (grave_row (pos 5) (pos 11))) seven (edited_note (pos 5)) name
    ∙ elim (is_name name seven) as (λ b. is_name name seven ≡ b → (if b then Some (edited_note (pos 5)) else get (insert took grave_11 (grave_row (pos 5) (pos 11))) name) ≡ option_map (settled (pos 5)) (get took name)) [
      | true ↦ λ is. sym (ap (option_map (settled (pos 5))) (ap (get took) (same_of_tied name seven is) ∙ took_at seven))
      | false ↦ λ not_seven.
          get-insert names_total took grave_11 (grave_row (pos 5) (pos 11)) name
          ∙ elim (is_name name grave_11) as (λ b. is_name name grave_11 ≡ b → (if b then Some (grave_row (pos 5) (pos 11)) else get took name) ≡ option_map (settled (pos 5)) (get took name)) [
            | true ↦ λ is. sym (ap (option_map (settled (pos 5))) (ap (get took) (same_of_tied name grave_11 is) ∙ took_at grave_11))
            | false ↦ λ not_grave. others_settled name not_seven not_grave (get took name) refl
          ] refl
    ] refl

exchange : (any their : Head) → IsExchange got (sent any) (device any) (server their) (device_then any) (server_then any their)
exchange any their = record {
  server = record {
    gives = (server_sends any their).each;
    sends = device_sends any;
    tags = λ name. elim (pointwise ◌==◌ (codes "own") name) as (λ b. (b || false) ≡ is_unsent_tag (option_map (λ (tag : Tag). tag.usn) (if b then Some own_tag else None))) [ true ↦ refl | false ↦ refl ];
    settings = refl;
    commits = record { rows = refl; tags = refl; settings = refl; usn = refl; schema = refl; last_sync = refl; moment = omega (arith, ints) };
    moment = omega (arith, ints);
  };
  device = record {
    sends = (device_sends any).each;
    gives = server_sends any their;
    tags_given = λ name. elim (pointwise ◌==◌ (codes "their") name) as (λ b. (b || false) ≡ is_tag_from (pos 3) (option_map (λ (tag : Tag). tag.usn) (if b then Some their_tag else None))) [ true ↦ refl | false ↦ refl ];
    gives_settings = refl;
    rows = device_settles any;
    tags = refl;
    settings = refl;
    usn = refl;
    moment = refl;
    last_sync = refl;
    schema = refl;
  };
}

-- Graves, rows and tags went both ways: the two are linked again and hold the join, each.
an_exchange_both_ways_links : (any their : Head) → AreExchanged (device any) (server their) (device_then any) (server_then any their)
an_exchange_both_ways_links any their =
    exchange_links got (sent any) (device any) (server their) (device_then any) (server_then any their) (exchange any their)
    (record { linked = linked any their; named = map_named own_rows; their_named = map_named their_rows; checked = own_checked; their_checked = their_checked })
    (omega (arith, ints))

abbrev joined : RowsByName
joined = joined_under (standing own_rows) (standing their_rows)

-- In the join note 7 is the device's, note 9 stands, and cards 8 and 11 are gone.
the_cards_are_gone : (joined (name_in tables.Card (pos 8)) ≡ None) × (joined (name_in tables.Card (pos 11)) ≡ None) × (joined seven ≡ Some (edited_note (negsuc 0))) × (joined (name_in tables.Note (pos 9)) ≡ Some (new_note (pos 4)))
the_cards_are_gone = (refl, refl, refl, refl)

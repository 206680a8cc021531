-- The rows that chunks still give, and where slices of them end.
use Rattle.std.specs.Prelude.{◌≡◌, ℕ, ℤ, pos, ◌<◌, ◌≤◌, ◌⊎◌, ◌==◌, ◌&&◌, int_lt, nat_lt, if◌then◌else◌, Bool, true, false, List, [], ◌∷◌, ◌++◌, length}
use Rattle.std.proofs.Common.{refl, sym, ap, subst, ◌∙◌, inl, inr, append_assoc, arith}
use Rattle.std.proofs.lemmas.List.{append-nil}
use Rattle.ak_base.specs.Names.{table_place}
use Rattle.ak_base.specs.Rows.{name_of}
use Rattle.ak_base.specs.declared.names.Name.{Name}
use Rattle.ak_base.specs.declared.names.Table.{Table}
use Rattle.ak_base.specs.declared.names.Table.TheVariants as tables
use Rattle.ak_base.specs.declared.rows.Row.{Row}
use Rattle.ak_keep.specs.Collections.{AscendsPast, Rows, IsPageOf, wanted_past, last_id}
use Rattle.ak_keep.specs.declared.keepers.Wanted.{Wanted}
use Rattle.ak_session.proofs.Ranges.{all_append}
use Rattle.ak_sync_rows.specs.Chunks.{AreChunked, rows_after, ahead_of, is_chunked, table_after, place_after, IsSlice}

not_so : {b : Bool} → b ≡ true → b ≡ false → ⊥
not_so so other = grind (arith, so, other)

-- rows of the table come first
in_table : (want : Wanted) (table : Table) (id : ℤ) (held : Rows) → is_chunked table ≡ true
    → ahead_of want (record { table = table; id = id }) held ≡ wanted_past table want id held ++ ahead_of want (record { table = table_after table; id = pos 0 }) held
in_table want tables.Review id held is = refl
in_table want tables.Card id held is = refl
in_table want tables.Note id held is = sym (append-nil (wanted_past tables.Note want id held))
in_table want tables.NoteType id held is = absurd (not_so is refl)
in_table want tables.Deck id held is = absurd (not_so is refl)
in_table want tables.Options id held is = absurd (not_so is refl)
in_table want tables.NoteGrave id held is = absurd (not_so is refl)
in_table want tables.CardGrave id held is = absurd (not_so is refl)
in_table want tables.DeckGrave id held is = absurd (not_so is refl)

below : (n m : ℕ) → nat_lt n m ≡ true → n < m
below n m is = grind (arith, is)

moves_by : (want : Wanted) (table : Table) (id : ℤ) (held : Rows) (limit : ℕ) (page : List Row) → is_chunked table ≡ true
    → IsPageOf (λ past. wanted_past table want past held) id limit page → (short : Bool) → nat_lt (length page) limit ≡ short
    → ahead_of want (record { table = table; id = id }) held
    ≡ page ++ ahead_of want (if short then record { table = table_after table; id = pos 0 } else record { table = table; id = last_id id page }) held
moves_by want table id held limit page is paged true short =
    let more : List Row = ahead_of want (record { table = table_after table; id = pos 0 }) held in
    in_table want table id held is ∙ ap (λ (rows : List Row). rows ++ more) (paged.whole (below (length page) limit short))
moves_by want table id held limit page is paged false full =
    let more : List Row = ahead_of want (record { table = table_after table; id = pos 0 }) held in
    let later : List Row = wanted_past table want (last_id id page) held in
    in_table want table id held is
    ∙ ap (λ (rows : List Row). rows ++ more) paged.rest
    ∙ append_assoc page later more
    ∙ ap (λ (rows : List Row). page ++ rows) (sym (in_table want table (last_id id page) held is))

-- what is given from a place is a page of its table, and what is given from the place after it
pub page_moves_on : (want : Wanted) (given : Name) (held : Rows) (limit : ℕ) (page : List Row) → is_chunked given.table ≡ true
    → IsPageOf (λ past. wanted_past given.table want past held) given.id limit page
    → ahead_of want given held ≡ page ++ ahead_of want (place_after given page limit) held
page_moves_on want given held limit page is paged = moves_by want given.table given.id held limit page is paged (nat_lt (length page) limit) refl

-- ---- the tables of a page
chunked_place : (table : Table) → is_chunked table ≡ nat_lt (table_place table) 3
chunked_place tables.Review = refl
chunked_place tables.Card = refl
chunked_place tables.Note = refl
chunked_place tables.NoteType = refl
chunked_place tables.Deck = refl
chunked_place tables.Options = refl
chunked_place tables.NoteGrave = refl
chunked_place tables.CardGrave = refl
chunked_place tables.DeckGrave = refl

chunked_as : (one other : Table) (b : Bool) → ((table_place one == table_place other) && b) ≡ true → is_chunked other ≡ true → is_chunked one ≡ true
chunked_as one other b same is =
    let place : table_place one ≡ table_place other = grind (arith, same) in
    chunked_place one ∙ ap (λ (n : ℕ). nat_lt n 3) place ∙ sym (chunked_place other) ∙ is

-- a page of a table that is given by chunks has its rows alone
page_chunked : (table : Table) (past : ℤ) (page : List Row) → is_chunked table ≡ true → AscendsPast table past page → AreChunked page
page_chunked table past [] is ascends = tt
page_chunked table past (row ∷ rows) is ascends =
    (chunked_as (name_of row).table table (int_lt past (name_of row).id) ascends.0 is, page_chunked table (name_of row).id rows is ascends.1)

-- and so have rows that it is added to
pub more_chunked : (table : Table) (past : ℤ) (old new page : List Row) → is_chunked table ≡ true → AscendsPast table past page
    → new ≡ old ++ page → AreChunked old → AreChunked new
more_chunked table past old new page is ascends added before =
    subst AreChunked (sym added)
    (all_append (λ (row : Row). is_chunked (name_of row).table ≡ true) old page before (page_chunked table past page is ascends))

-- ---- three reads
after_three : (table : Table) → table_after (table_after (table_after table)) ≡ tables.NoteGrave
after_three tables.Review = refl
after_three tables.Card = refl
after_three tables.Note = refl
after_three tables.NoteType = refl
after_three tables.Deck = refl
after_three tables.Options = refl
after_three tables.NoteGrave = refl
after_three tables.CardGrave = refl
after_three tables.DeckGrave = refl

none_after : (want : Wanted) (given : Name) (held : Rows) → given.table ≡ tables.NoteGrave → ahead_of want given held ≡ []
none_after want given held is = ap (λ (t : Table). rows_after want t given.id held) is

-- a read filled the slice, or went to the next table
abbrev pub Moved : List Row → Name → Name → Type 0
Moved rows given after = (length rows ≡ 250) ⊎ (after.table ≡ table_after given.table)

full_by : (n m : ℕ) → n ≡ 250 → n ≤ m → m ≤ 250 → m ≡ 250
full_by n m is more short = omega (arith, is, more, short)

-- three reads make a slice
pub slice_of : (want : Wanted) (g0 g1 g2 g3 : Name) (held : Rows) (a b c : List Row)
    → ahead_of want g0 held ≡ a ++ ahead_of want g1 held
    → a ++ ahead_of want g1 held ≡ b ++ ahead_of want g2 held
    → b ++ ahead_of want g2 held ≡ c ++ ahead_of want g3 held
    → Moved a g0 g1 → Moved b g1 g2 → Moved c g2 g3 → length a ≤ length b → length b ≤ length c → length c ≤ 250
    → IsSlice (ahead_of want g0 held) c (ahead_of want g3 held)
slice_of want g0 g1 g2 g3 held a b c one two three first second third ab bc short = record {
  whole = one ∙ two ∙ three;
  short = short;
  full = by first second third;
}
  where
    by : Moved a g0 g1 → Moved b g1 g2 → Moved c g2 g3 → (length c ≡ 250) ⊎ (ahead_of want g3 held ≡ [])
    by (inl is) second third = inl (full_by (length a) (length c) is (omega (arith, ab, bc)) short)
    by (inr to) (inl is) third = inl (full_by (length b) (length c) is bc short)
    by (inr to) (inr more) (inl is) = inl is
    by (inr to) (inr more) (inr last) =
        inr (none_after want g3 held (last ∙ ap table_after (more ∙ ap table_after to) ∙ after_three g0.table))

-- ---- a page that is read
-- rows so far and a page after them, and what is given from the place after it, are what there was
pub read_on : (want : Wanted) (given after : Name) (held : Rows) (limit : ℕ) (old new page : List Row) → is_chunked given.table ≡ true
    → IsPageOf (λ past. wanted_past given.table want past held) given.id limit page
    → after ≡ place_after given page limit → new ≡ old ++ page
    → old ++ ahead_of want given held ≡ new ++ ahead_of want after held
read_on want given after held limit old new page is paged placed added =
    ap (λ (rows : List Row). old ++ rows) (page_moves_on want given held limit page is paged)
    ∙ sym (append_assoc old page (ahead_of want (place_after given page limit) held))
    ∙ ap (λ (rows : List Row). rows ++ ahead_of want (place_after given page limit) held) (sym added)
    ∙ ap (λ (place : Name). new ++ ahead_of want place held) (sym placed)

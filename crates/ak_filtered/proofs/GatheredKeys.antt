-- What is gathered for a filtered deck from rows that come one by one or page by page.
use Rattle.std.proofs.Common.{◌≡◌, true, false, cond, Bool, ℤ, pos, List, [], ◌∷◌, ◌++◌, map, filter_map, length, Option, Some, None, IfSome, Ordering, refl, sym, ap, subst, ◌∙◌, append-nil}
use Rattle.std.proofs.lemmas.List.{map-append, nil_from_length}
use Rattle.std.proofs.lemmas.List.Elements.{filter_map-append}
use Rattle.std.specs.BTreeSet.{insert_key}
use Rattle.std.specs.List.{cons_option}
use Rattle.ak_base.specs.declared.cards.Card.{Card}
use Rattle.ak_base.specs.declared.days.Day.{Day}
use Rattle.ak_base.specs.declared.names.Table.TheVariants as tables
use Rattle.ak_base.specs.declared.rows.Row.{Row}
use Rattle.ak_filtered.specs.Candidates.{CardKey, candidate_key, key_cmp}
use Rattle.ak_filtered.specs.Emptyings.{emptied}
use Rattle.ak_filtered.specs.Gathering.{PutsRows, SievesBy, keys_of}
use Rattle.ak_filtered.specs.HomeDecks.{filtered_at}
use Rattle.ak_filtered.specs.declared.candidates.Sieve.{Sieve}
use Rattle.ak_keep.specs.Collections.{Holding, Rows, rows_past}
use Rattle.ak_keep.specs.Lookups.{as_card}
use Rattle.ak_keep.specs.Marks.{WithMark}
use Rattle.ak_keep.specs.Walks.{ahead}
use Rattle.ak_keep.specs.declared.walks.Walk.{Walk}
use Rattle.ak_queue.proofs.Gatherings.{put_among-append}
use Rattle.ak_queue.specs.Orders.{put_among}
use Rattle.ak_search.specs.Searching.{SearchStays, SearchesBy}
use Rattle.ak_search.specs.Trees.{Tree}
use Rattle.ak_search.specs.declared.searches.Search.{Search}

-- the keys of the cards among rows
abbrev pub keys_among : Sieve → Rows → Day → Tree → List Row → List CardKey
keys_among s held day tree rows = keys_of s held day tree (filter_map as_card rows)

-- ---- one part of the rows after another
pub keys-append : (s : Sieve) (held : Rows) (day : Day) (tree : Tree) (xs ys : List Row) → keys_among s held day tree (xs ++ ys) ≡ keys_among s held day tree xs ++ keys_among s held day tree ys
keys-append s held day tree xs ys =
    let key = candidate_key held day tree s.order in
    let home = emptied s.deck (filtered_at held) in
    ap (λ (cards : List Card). filter_map key (map home cards)) (filter_map-append as_card xs ys)
    ∙ ap (filter_map key) (map-append home (filter_map as_card xs) (filter_map as_card ys))
    ∙ filter_map-append key (map home (filter_map as_card xs)) (map home (filter_map as_card ys))

-- the keys so far, with those of these rows
abbrev pub with_rows : Sieve → Rows → Day → Tree → List CardKey → List Row → List CardKey
with_rows s held day tree keys rows = put_among key_cmp keys (keys_among s held day tree rows)

pub part_put : (s : Sieve) (held : Rows) (day : Day) (tree : Tree) (old new : List CardKey) (front rest : List Row) → new ≡ with_rows s held day tree old front
    → with_rows s held day tree old (front ++ rest) ≡ with_rows s held day tree new rest
part_put s held day tree old new front rest step =
    ap (put_among key_cmp old) (keys-append s held day tree front rest)
    ∙ put_among-append key_cmp old (keys_among s held day tree front) (keys_among s held day tree rest)
    ∙ ap (λ (keys : List CardKey). put_among key_cmp keys (keys_among s held day tree rest)) (sym step)

-- ---- rows
-- what is put in so far, with the rows that are left, is what all rows give
abbrev pub PutsOn : Sieve → Search → Search → List CardKey → List CardKey → List Row → List Row → Rows → Type 0
PutsOn s old new first keys all rest held =
    SievesBy s held → SearchStays old new held (λ day tree. with_rows s held day tree first all ≡ with_rows s held day tree keys rest)

-- what one step does
abbrev pub PutsThese : Sieve → Search → Search → List CardKey → List CardKey → List Row → Rows → Type 0
PutsThese s old new keys more rows held = SievesBy s held → SearchStays old new held (λ day tree. PutsRows s held day tree rows keys more)

pub no_row_put : (told : Option (WithMark Holding)) (s : Sieve) (search : Search) (keys : List CardKey) (all : List Row) → IfSome told (λ w. PutsOn s search search keys keys all all w.current.rows)
no_row_put None s search keys all = tt
no_row_put (Some w) s search keys all = λ _ day tree by. (by, refl)

pub row_put : (told : Option (WithMark Holding)) (s : Sieve) (old now new : Search) (first keys more : List CardKey) (all rest : List Row) (row : Row)
    → IfSome told (λ w. PutsOn s old now first keys all (row ∷ rest) w.current.rows) → IfSome told (λ w. PutsThese s now new keys more (row ∷ []) w.current.rows)
    → IfSome told (λ w. PutsOn s old new first more all rest w.current.rows)
row_put None s old now new first keys more all rest row so_far step = tt
row_put (Some w) s old now new first keys more all rest row so_far step = λ knows day tree by.
    let before = so_far knows day tree by in
    let after = step knows day tree before.0 in
    (after.0, before.1 ∙ part_put s w.current.rows day tree keys more (row ∷ []) rest after.1)

pub rows_put : (told : Option (WithMark Holding)) (s : Sieve) (old new : Search) (first keys : List CardKey) (all rest : List Row) → length rest ≡ 0
    → IfSome told (λ w. PutsOn s old new first keys all rest w.current.rows) → IfSome told (λ w. PutsThese s old new first keys all w.current.rows)
rows_put None s old new first keys all rest none so_far = tt
rows_put (Some w) s old new first keys all rest none so_far = λ knows day tree by.
    let before = so_far knows day tree by in
    (before.0, sym (before.1 ∙ ap (with_rows s w.current.rows day tree keys) (nil_from_length rest none)))

-- ---- pages
-- what is put in so far, with the rows ahead, is what all cards give
abbrev pub GathersOn : Sieve → Search → Search → List CardKey → Walk → Rows → Type 0
GathersOn s old new keys walk held =
    SievesBy s held → SearchStays old new held (λ day tree. with_rows s held day tree [] (rows_past tables.Card (pos 0) held) ≡ with_rows s held day tree keys (ahead walk held))

pub no_page_put : (told : Option (WithMark Holding)) (s : Sieve) (search : Search) (keys : List CardKey) (walk : Walk) → keys ≡ [] → walk ≡ record { past = record { table = tables.Card; id = pos 0 }; done = false }
    → IfSome told (λ w. GathersOn s search search keys walk w.current.rows)
no_page_put None s search keys walk none start = tt
no_page_put (Some w) s search keys walk none start = λ _ day tree by. (
  by,
  sym (ap (λ (ks : List CardKey). with_rows s w.current.rows day tree ks (ahead walk w.current.rows)) none
      ∙ ap (λ (v : Walk). with_rows s w.current.rows day tree [] (ahead v w.current.rows)) start),
)

pub page_put : (told : Option (WithMark Holding)) (s : Sieve) (old now new : Search) (keys more : List CardKey) (walk next : Walk) (page : List Row)
    → IfSome told (λ w. GathersOn s old now keys walk w.current.rows) → IfSome told (λ w. ahead walk w.current.rows ≡ page ++ ahead next w.current.rows)
    → IfSome told (λ w. PutsThese s now new keys more page w.current.rows) → IfSome told (λ w. GathersOn s old new more next w.current.rows)
page_put None s old now new keys more walk next page so_far split step = tt
page_put (Some w) s old now new keys more walk next page so_far split step = λ knows day tree by.
    let before = so_far knows day tree by in
    let after = step knows day tree before.0 in
    (after.0, before.1 ∙ ap (with_rows s w.current.rows day tree keys) split ∙ part_put s w.current.rows day tree keys more page (ahead next w.current.rows) after.1)

pub pages_put : (told : Option (WithMark Holding)) (s : Sieve) (old new : Search) (keys : List CardKey) (walk : Walk) → walk.done ≡ true
    → IfSome told (λ w. GathersOn s old new keys walk w.current.rows)
    → IfSome told (λ w. SievesBy s w.current.rows → SearchStays old new w.current.rows (λ day tree. keys ≡ with_rows s w.current.rows day tree [] (rows_past tables.Card (pos 0) w.current.rows)))
pages_put None s old new keys walk done so_far = tt
pages_put (Some w) s old new keys walk done so_far = λ knows day tree by.
    let before = so_far knows day tree by in
    (before.0, sym (before.1 ∙ ap (λ b. with_rows s w.current.rows day tree keys (cond b [] (rows_past walk.past.table walk.past.id w.current.rows))) done))

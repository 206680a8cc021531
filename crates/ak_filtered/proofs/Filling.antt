-- How a build is filled: its plan, its day and the cards that move in.
use Rattle.std.specs.Prelude.{◌≡◌, ◌⊎◌, ℤ, ◌≤◌, List, length, map, min, take, Option, Some, None, Result, Ok, Err, option_and_then}
use Rattle.std.proofs.Common.{sym, ap, ◌∙◌, arith}
use Rattle.std.proofs.lemmas.List.{length-take}
use Rattle.ak_base.specs.Days.{IsDayOf}
use Rattle.ak_base.specs.declared.days.Day.{Day}
use Rattle.ak_base.specs.declared.heads.Head.{Head}
use Rattle.ak_base.specs.declared.decks.Deck.{Deck}
use Rattle.ak_edit_calls.proofs.Telling.{where_held-map, where_told-both}
use Rattle.ak_edit.specs.Overlays.{unchanged}
use Rattle.ak_filtered.proofs.FilteredTells.{told_first}
use Rattle.ak_filtered.specs.Building.{AreRead, IsDayRead, IsFilled, IsReadPlan}
use Rattle.ak_filtered.specs.Builds.{RefusesPlan, RefusesSearch, RefusesToBuild, cards_emptied, due_in}
use Rattle.ak_filtered.specs.Candidates.{CardKey, candidates, first_cards}
use Rattle.ak_filtered.specs.Emptyings.{RefusesDeck}
use Rattle.ak_filtered.specs.FilteredDecks.{IsFilteredAt}
use Rattle.ak_filtered.specs.FilteredFaults.{FirstOf, TellsBy}
use Rattle.ak_filtered.specs.Gathering.{SievesBy}
use Rattle.ak_filtered.specs.HomeDecks.{DeckFlags, filtered_at, flags_of}
use Rattle.ak_filtered.proofs.PlanTexts.{limit_high}
use Rattle.ak_filtered.specs.Plans.{IsPlan, plan_of}
use Rattle.ak_filtered.specs.Refills.{dues_of, refill}
use Rattle.ak_filtered.specs.declared.builds.Filled.{Filled}
use Rattle.ak_filtered.specs.declared.builds.ReadPlan.{ReadPlan}
use Rattle.ak_filtered.specs.declared.candidates.Sieve.{Sieve}
use Rattle.ak_filtered.specs.declared.faults.FilteredFault.{FilteredFault}
use Rattle.ak_filtered.specs.declared.held_decks.HeldDecks.{HeldDecks}
use Rattle.ak_filtered.specs.declared.plans.Order.{Order}
use Rattle.ak_filtered.specs.declared.plans.Plan.{Plan}
use Rattle.ak_filtered.specs.declared.refills.Dues.{Dues}
use Rattle.ak_keep.proofs.Told.{where_told-map}
use Rattle.ak_keep.specs.Collections.{Holding}
use Rattle.ak_keep.specs.Keepers.{Keeping, WhereHeld, WhereTold}
use Rattle.ak_search.specs.Grammar.{ReadsSearch, pieces_in}
use Rattle.ak_search.specs.Searching.{SearchStays, SearchesBy}
use Rattle.ak_search.specs.Trees.{Tree, pieces_of}
use Rattle.ak_search.specs.declared.searches.Search.{Search}

-- ---- the plan
pub deck_first : (T U : Type 0) (k : Keeping) (id : ℤ) (fault : FilteredFault) → WhereHeld k (λ c. TellsBy {T = T} (RefusesDeck id c) (Err fault)) → WhereHeld k (λ c. TellsBy {T = U} (RefusesToBuild id c) (Err fault))
deck_first T U k id fault =
    where_held-map k (λ c. TellsBy {T = T} (RefusesDeck id c) (Err fault)) (λ c. TellsBy {T = U} (RefusesToBuild id c) (Err fault))
    (λ c tells. told_first {U = U} (RefusesDeck id c) (FirstOf (RefusesPlan id c.rows) (RefusesSearch id c.rows)) fault tells)

pub plan_read : (k : Keeping) (id : ℤ) (deck : Deck) (planned : ReadPlan) → plan_of deck.rest.text ≡ Some planned.plan
    → (tree : Tree) × ReadsSearch planned.plan.search tree × (pieces_in planned.expr.tokens.items ≡ pieces_of tree)
    → WhereTold k (IsFilteredAt id deck) → WhereTold k (λ h. IsReadPlan id planned h.rows)
plan_read k id deck planned has read =
    where_told-map k (IsFilteredAt id deck) (λ h. IsReadPlan id planned h.rows)
    (λ h is. record { plan = ap (option_and_then (λ (d : Deck). plan_of d.rest.text)) is.held ∙ has; tree = read.0; reads = read.1; pieces = read.2 })

-- ---- the day
pub day_read : (k : Keeping) (at : ℤ) (day : Day) (found : Option Head) (head : Head) → found ≡ Some head → IsDayOf head.crt at day → WhereTold k (λ h. found ≡ h.head) → WhereTold k (λ h. IsDayRead at h day)
day_read k at day found head some is =
    where_told-map k (λ h. found ≡ h.head) (λ h. IsDayRead at h day) (λ h read. record { head = head; is_head = sym read ∙ some; is_day = is })

-- ---- the cards
pub chosen_read : (k : Keeping) (sieve : Sieve) (planned : ReadPlan) (day : Day) (old new : Search) (keys : List CardKey) (chosen : List ℤ) → chosen ≡ take planned.plan.limit (map (λ (key : CardKey). key.2) keys)
    → WhereTold k (λ h. (tree : Tree) → pieces_in planned.expr.tokens.items ≡ pieces_of tree → SearchesBy old h.rows day tree)
    → WhereTold k (λ h. SievesBy sieve h.rows → SearchStays old new h.rows (λ on tree. keys ≡ candidates h.rows on tree sieve.order (cards_emptied sieve.deck h.rows)))
    → WhereTold k (λ h. AreRead sieve planned day h.rows chosen)
chosen_read k sieve planned day old new keys chosen first =
    where_told-both k (λ h. (tree : Tree) → pieces_in planned.expr.tokens.items ≡ pieces_of tree → SearchesBy old h.rows day tree)
    (λ h. SievesBy sieve h.rows → SearchStays old new h.rows (λ on tree. keys ≡ candidates h.rows on tree sieve.order (cards_emptied sieve.deck h.rows)))
    (λ h. AreRead sieve planned day h.rows chosen)
    (λ h searches gathers knows tree pieces. first ∙ ap (λ (ks : List CardKey). take planned.plan.limit (map (λ (key : CardKey). key.2) ks)) (gathers knows day tree (searches tree pieces)).1)

-- ---- all of it
-- what is read for a deck, by the decks that are held and an order
abbrev ReadsFor : ℤ → HeldDecks → Order → ReadPlan → Day → List ℤ → Holding → Type 0
ReadsFor deck decks order planned day chosen h =
    (flags_of decks ≡ filtered_at h.rows) → (tree : Tree) → (pieces_in planned.expr.tokens.items ≡ pieces_of tree)
    → chosen ≡ first_cards planned.plan (candidates h.rows day tree order (cards_emptied deck h.rows))

pub filled_told : (k : Keeping) (at deck : ℤ) (decks : HeldDecks) (planned : ReadPlan) (dues : Dues) (filled : Filled) → dues_of dues ≡ due_in filled.chosen
    → WhereTold k (λ h. flags_of decks ≡ filtered_at h.rows) → WhereTold k (λ h. IsDayRead at h filled.day) → WhereTold k (ReadsFor deck decks planned.plan.order planned filled.day filled.chosen)
    → WhereTold k (λ h. filled.change ≡ refill deck (flags_of decks) (dues_of dues) h.rows unchanged)
    → WhereTold k (λ h. IsDayRead at h filled.day × IsFilled deck planned h.rows filled)
filled_told k at deck decks planned dues filled due knows day chosen change =
    where_told-both k (λ h. (flags_of decks ≡ filtered_at h.rows) × IsDayRead at h filled.day)
    (λ h. ReadsFor deck decks planned.plan.order planned filled.day filled.chosen h × (filled.change ≡ refill deck (flags_of decks) (dues_of dues) h.rows unchanged))
    (λ h. IsDayRead at h filled.day × IsFilled deck planned h.rows filled)
    (λ h one other. (
      one.1,
      record {
        are = λ tree pieces. other.0 one.0 tree pieces;
        change =
            other.1 ∙ ap (λ (f : DeckFlags). refill deck f (dues_of dues) h.rows unchanged) one.0
            ∙ ap (λ (d : ℤ → Option ℤ). refill deck (filtered_at h.rows) d h.rows unchanged) due;
      },
    ))
    (where_told-both k (λ h. flags_of decks ≡ filtered_at h.rows) (λ h. IsDayRead at h filled.day) (λ h. (flags_of decks ≡ filtered_at h.rows) × IsDayRead at h filled.day) (λ h a b. (a, b)) knows day)
    (where_told-both k (ReadsFor deck decks planned.plan.order planned filled.day filled.chosen) (λ h. filled.change ≡ refill deck (flags_of decks) (dues_of dues) h.rows unchanged)
    (λ h. ReadsFor deck decks planned.plan.order planned filled.day filled.chosen h × (filled.change ≡ refill deck (flags_of decks) (dues_of dues) h.rows unchanged)) (λ h a b. (a, b)) chosen change)

pub few_enough : (plan : Plan) (chosen : List ℤ) → IsPlan plan → length chosen ≤ plan.limit → length chosen ≤ 99_999
few_enough plan chosen is few =
    let high : plan.limit ≤ 99_999 = limit_high plan.limit is in
    omega (arith, few, high)

pub few_first : (plan : Plan) (chosen ids : List ℤ) → chosen ≡ take plan.limit ids → length chosen ≤ plan.limit
few_first plan chosen ids is =
    let cut : length (take plan.limit ids) ≡ min plan.limit (length ids) = length-take plan.limit ids in
    let most : length chosen ≡ min plan.limit (length ids) = ap length is ∙ cut in
    omega (arith, most)

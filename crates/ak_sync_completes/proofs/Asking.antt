-- What a sync asked: its meta, and then a front of its plan.
use Rattle.std.specs.List.{AllByRecursion}
use Rattle.std.specs.Prelude.{◌≡◌, ◌⊎◌, ◌+◌, ℕ, ℤ, List, [], ◌∷◌, ◌++◌, length}
use Rattle.std.proofs.Common.{refl, sym, ap, ◌∙◌, inl, inr, arith, append_assoc}
use Rattle.std.proofs.lemmas.List.{length-append, map-append}
use Rattle.ak_client.specs.Greetings.{meta_of}
use Rattle.ak_client.specs.Syncs.{meta_tried}
use Rattle.ak_exchange.proofs.Replying.{asks_are}
use Rattle.ak_exchange.proofs.Tried.{asks_append, requests_append}
use Rattle.ak_exchange.specs.Asked.{TriedAsk, answers_in, asker, asks_in}
use Rattle.ak_exchange.specs.Grants.{AllGranted, AllGrantedButLast}
use Rattle.ak_exchange.specs.declared.envelopes.Ids.{Ids}
use Rattle.ak_keep.specs.Collections.{Collection}
use Rattle.ak_messages.specs.declared.requests.Ask.{Ask}
use Rattle.ak_messages.specs.declared.requests.Ask.TheVariants as asks
use Rattle.ak_messages.specs.declared.requests.Request.{Request}
use Rattle.ak_session.proofs.Steps.{last_is}
use Rattle.ak_session.specs.Asks.{asks_of}
use Rattle.ak_session.specs.NextMethods.{last_asked}
use Rattle.ak_session.specs.Plans.{Asker, plan, planned, requests_from}
use Rattle.ak_sync_completes.proofs.Serving.{Answer, IsReply}

-- ---- what was tried
-- all before the last was granted
pub granted_before : (before : List TriedAsk) (it : TriedAsk) → AllGrantedButLast (before ++ it ∷ []) → AllGranted before
granted_before [] it all = tt
granted_before (one ∷ []) it all = (all.0, tt)
granted_before (one ∷ next ∷ more) it all = (all.0, granted_before (next ∷ more) it all.1)

-- so it was answered
pub replies_of : (before : List TriedAsk) → AllGranted before → AllByRecursion IsReply (answers_in before)
replies_of [] all = tt
replies_of (one ∷ more) all = ((all.0.reply, all.0.is), replies_of more all.1)

-- the last of one is that
pub last_of_one : (one it : TriedAsk) (before : List TriedAsk) → one ∷ [] ≡ before ++ it ∷ [] → it ≡ one
last_of_one one it [] is = grind (arith, is)
last_of_one one it (other ∷ before) is = absurd (not_last before (grind (arith, is)))
  where
    not_last : (more : List TriedAsk) → more ++ it ∷ [] ≡ [] → ⊥
    not_last [] is = grind (arith, is)
    not_last (next ∷ more) is = grind (arith, is)

-- what asked nothing tried nothing
pub nothing_tried : (tries : List TriedAsk) → asks_in tries ≡ [] → tries ≡ []
nothing_tried [] is = refl
nothing_tried (it ∷ more) is = grind (arith, is)

-- the first that was tried, and what was tried after it
pub first_tried : (one other : TriedAsk) (more rest : List TriedAsk) → one ∷ more ≡ other ∷ rest → (one ≡ other) × (more ≡ rest)
first_tried one other more rest is = (grind (arith, is), grind (arith, is))

-- ---- the requests
pub requests_of_host : (who : Asker) (base : ℤ) (step : ℕ) (list : List Ask)
    → AllByRecursion (λ (request : Request). request.host.digits ≡ who.host.digits) (requests_from who base step list)
requests_of_host who base step [] = tt
requests_of_host who base step (ask ∷ more) = (refl, requests_of_host who base (step + 1) more)

-- the first of a list with one more at its end, and the others
pub first_and_others : (front : List Request) (last first : Request) (others : List Request) → front ++ last ∷ [] ≡ first ∷ others
    → ((front ≡ []) × (last ≡ first)) ⊎ ((more : List Request) × (front ≡ first ∷ more) × (more ++ last ∷ [] ≡ others))
first_and_others [] last first others is = inl (refl, grind (arith, is))
first_and_others (one ∷ more) last first others is = inr (more, grind (arith, is), grind (arith, is))

-- what was asked last
pub last_ask : (ids : Ids) (moment : ℤ) (meta : Answer) (tries before : List TriedAsk) (it : TriedAsk) (front : List Request) (request : Request)
    → meta_tried meta ∷ tries ≡ before ++ it ∷ [] → front ++ request ∷ [] ≡ meta_of ids ∷ requests_from (asker ids) moment 1 (asks_in tries) → request.ask ≡ it.ask
last_ask ids moment meta tries before it front request parts is =
    sym (last_is (asks_of front) request.ask)
    ∙ ap last_asked (sym (map-append (λ (r : Request). r.ask) front (request ∷ []))
    ∙ ap asks_of is
    ∙ ap (λ (l : List Ask). asks.Meta ∷ l) (asks_are (asker ids) moment 1 (asks_in tries))
    ∙ ap asks_in parts
    ∙ asks_append before (it ∷ []))
    ∙ last_is (asks_in before) it.ask

-- ---- the plan
-- a sync asked nothing after its meta, or a front of its plan over this moment
abbrev pub IsAskedOf : Collection → Collection → ℤ → List Ask → Type 0
IsAskedOf c s moment list = (list ≡ []) ⊎ ((moment ≡ s.head.moment) × ((rest : List Ask) × (list ++ rest ≡ planned c s)))

not_nothing : (xs : List Request) (x : Request) → xs ++ x ∷ [] ≡ [] → ⊥
not_nothing xs x is = let long = length-append xs (x ∷ []) in omega (arith, long, ap (λ (l : List Request). length l) is)

-- where the last of its requests stands in its plan
pub place_in_plan : (who : Asker) (c s : Collection) (moment : ℤ) (list : List Ask) (more : List Request) (request : Request)
    → more ++ request ∷ [] ≡ requests_from who moment 1 list → IsAskedOf c s moment list → (after : List Request) × (more ++ request ∷ after ≡ plan who c s)
place_in_plan who c s moment list more request others (inl none) = absurd (not_nothing more request (others ∙ ap (requests_from who moment 1) none))
place_in_plan who c s moment list more request others (inr (same, (rest, planned_is))) =
    let base : ℤ = s.head.moment in
    let after : List Request = requests_from who base (1 + length list) rest in (
      after,
      sym (append_assoc more (request ∷ []) after)
          ∙ ap (λ (l : List Request). l ++ after) (others ∙ ap (λ (m : ℤ). requests_from who m 1 list) same)
          ∙ sym (requests_append who base 1 list rest)
          ∙ ap (requests_from who base 1) planned_is,
    )

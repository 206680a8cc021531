-- The links of a door, served one after another.
use Rattle.std.specs.Prelude.{◌≡◌, ◌+◌, ◌-◌, ◌^◌, ◌<◌, ◌⊎◌, ℕ, Bool, true, false, min, List, [], ◌∷◌, ◌++◌, length, map, Option, Some, None, IfSome}
use Rattle.ak_account_keepers.specs.OpenedAccounts.{Service}
use Rattle.ak_faults.specs.Causes.{Health}
use Rattle.ak_http_links.specs.Isolation.{IsIsolated, StaysLawful}
use Rattle.ak_http_links.specs.ServedLinks.{EndCause, Scene, ServesLink}
use Rattle.ak_http_links.specs.declared.link_ends.LinkEnd.{LinkEnd}
use Rattle.ak_keep.specs.Keepers.{Keeping}
use Rattle.ak_links.specs.Doors.{DoorLinks, DoorState, after_give_back}

-- what is seen of a link, and of a keeper
pub record Views (L K : Type 0) : Type 0 where
  pub left : L → Option (List ℕ)
  pub written : L → Option (List ℕ)
  pub link_health : L → Health
  pub keeping : K → Keeping
  pub health : K → Health

-- a link with the server that it comes to
abbrev pub scene_of : {L K : Type 0} → Views L K → L → Service K → Scene K
scene_of views link service =
    record { left = views.left link; written = views.written link; accounts = service.accounts; moments = service.moments }

-- ---- one link
-- a link as it came, and as it was given back
pub record Turn (L : Type 0) : Type 0 where
  pub came : L
  pub gave : L

-- it was served once
pub record ServesTurn {L K : Type 0} (views : Views L K) (turn : Turn L) (before after : Service K) : Type 0 where
  pub end : LinkEnd
  pub serves : ServesLink views.keeping views.health (scene_of views turn.came before) (scene_of views turn.gave after) end
  pub isolated : IsIsolated (views.left turn.came) before.accounts after.accounts
  pub lawful : StaysLawful views.keeping before.accounts after.accounts
  pub cause : EndCause (views.link_health turn.came) (views.link_health turn.gave) end

-- a link that came by a door was served once, and the door has it back
pub record GivesTurn {L K : Type 0} (views : Views L K) (came : L) (old new : DoorState L) (before after : Service K) : Type 0 where
  pub gave : L
  pub serves : ServesTurn views (record { came = came; gave = gave }) before after
  pub back : new ≡ after_give_back gave old

-- ---- all links
-- links were served one after another, however each of them ended
abbrev pub ServesTurns : {L K : Type 0} → Views L K → List (Turn L) → Service K → Service K → Type 0
ServesTurns views [] before after = after ≡ before
ServesTurns {K = K} views (turn ∷ turns) before after =
    (then : Service K) × ServesTurn views turn before then × ServesTurns views turns then after

-- if a door tells its links: those that came were the first to come, in this order, and all of them were given back, in this order
abbrev pub PassesTurns : {L : Type 0} → Option (DoorLinks L) → Option (DoorLinks L) → List (Turn L) → Type 0
PassesTurns None new turns = new ≡ None
PassesTurns {L = L} (Some links) new turns = (rest : List L) × (links.to_come ≡ map (λ t. t.came) turns ++ rest)
    × (new ≡ Some (record { to_come = rest; given_back = links.given_back ++ map (λ t. t.gave) turns }))

-- if a door tells its links: none is to come
abbrev pub HasNoMore : {L : Type 0} → DoorState L → Type 0
HasNoMore door = IfSome door.told (λ links. links.to_come ≡ [])

-- how many turns there were, of so many at most: all of them, or fewer if the door ended after them; if it failed, none or fewer
abbrev pub EndsAfter : {L : Type 0} → ℕ → ℕ → DoorState L → DoorState L → Bool → Type 0
EndsAfter most count old new true =
    ((count ≡ most) × (new.ended ≡ old.ended)) ⊎ ((count < most) × (new.ended ≡ true) × HasNoMore new)
EndsAfter most count old new false = ((count ≡ 0) ⊎ (count < most)) × (new.ended ≡ old.ended)

-- a door was served for so many turns at most; it failed, or it was served to the end
pub record ServesDoor {L K : Type 0} (views : Views L K) (most : ℕ) (old new : DoorState L) (before after : Service K) (done : Bool) : Type 0 where
  pub turns : List (Turn L)
  pub serves : ServesTurns views turns before after
  pub passes : PassesTurns old.told new.told turns
  pub accepted : new.accepted ≡ min (old.accepted + length turns) (2 ^ 64 - 1)
  pub ends : EndsAfter most (length turns) old new done

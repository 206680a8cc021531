-- Links of a door that were served so far.
use Rattle.std.proofs.Common.{◌≡◌, ℕ, ◌+◌, ◌-◌, ◌^◌, ◌<◌, min, Bool, true, false, List, [], ◌∷◌, ◌++◌, length, map, Option, Some, None, IfSome, refl, ap, sym, ◌∙◌, subst, append-nil, append_assoc, length-append, inl, inr, arith}
use Rattle.std.specs.Option.{option_map}
use Rattle.ak_account_keepers.specs.OpenedAccounts.{Service}
use Rattle.ak_links.specs.Doors.{Accepts, DoorLinks, DoorState, GivesLink, with_given_back}
use Rattle.ak_server_runs.specs.ServedDoors.{EndsAfter, GivesTurn, PassesTurns, ServesDoor, ServesTurn, ServesTurns, Turn, Views}

-- so many turns were served of a door, which has not ended in them
pub record HasServed {L K : Type 0} (views : Views L K) (count : ℕ) (old now : DoorState L) (before after : Service K) : Type 0 where
  pub turns : List (Turn L)
  pub size : length turns ≡ count
  pub serves : ServesTurns views turns before after
  pub passes : PassesTurns old.told now.told turns
  pub accepted : now.accepted ≡ min (old.accepted + length turns) (2 ^ 64 - 1)
  pub ended : now.ended ≡ old.ended

-- ---- lists
map-last : {A B : Type 0} (f : A → B) (xs : List A) (x : A) → map f (xs ++ x ∷ []) ≡ map f xs ++ f x ∷ []
map-last f [] x = refl
map-last f (y ∷ ys) x = ap (λ rest. f y ∷ rest) (map-last f ys x)

serves_one_more : {L K : Type 0} (views : Views L K) (turns : List (Turn L)) (last : Turn L) (before then after : Service K)
    → ServesTurns views turns before then → ServesTurn views last then after → ServesTurns views (turns ++ last ∷ []) before after
serves_one_more views [] last before then after serves one = (after, subst (λ s. ServesTurn views last s after) serves one, refl)
serves_one_more views (first ∷ turns) last before then after serves one =
    (serves.0, serves.1, serves_one_more views turns last serves.0 then after serves.2 one)

-- ---- the links that are told
passes_none : {L : Type 0} (told : Option (DoorLinks L)) → PassesTurns told told []
passes_none None = refl
passes_none (Some links) = (links.to_come, refl, ap (λ given. Some (record { to_come = links.to_come; given_back = given })) (sym (append-nil links.given_back)))

passes_one_more : {L : Type 0} (old now given new : Option (DoorLinks L)) (turns : List (Turn L)) (last : Turn L)
    → PassesTurns old now turns → GivesLink now given (Some last.came) → new ≡ option_map (with_given_back last.gave) given
    → PassesTurns old new (turns ++ last ∷ [])
passes_one_more None now given new turns last passes gives back =
    let none : given ≡ None = subst (λ n. GivesLink n given (Some last.came)) passes gives in
    back ∙ ap (option_map (with_given_back last.gave)) none
passes_one_more {L = L} (Some links) now given new turns last passes gives back =
    let (rest, parts, is) = passes in
    let (left, first, then) = subst (λ n. GivesLink n given (Some last.came)) is gives in (
      left,
      parts ∙ ap (λ r. map (λ (t : Turn L). t.came) turns ++ r) first
          ∙ sym (append_assoc (map (λ (t : Turn L). t.came) turns) (last.came ∷ []) left)
          ∙ ap (λ front. front ++ left) (sym (map-last (λ (t : Turn L). t.came) turns last)),
      back ∙ ap (option_map (with_given_back last.gave)) then
          ∙ ap (λ gave. Some (record { to_come = left; given_back = gave })) (append_assoc links.given_back (map (λ (t : Turn L). t.gave) turns) (last.gave ∷ [])
          ∙ ap (λ back. links.given_back ++ back) (sym (map-last (λ (t : Turn L). t.gave) turns last))),
    )

passes_end : {L : Type 0} (old now new : Option (DoorLinks L)) (turns : List (Turn L)) → PassesTurns old now turns → GivesLink now new None
    → PassesTurns old new turns × IfSome new (λ (links : DoorLinks L). links.to_come ≡ [])
passes_end old None new turns passes gives = (subst (λ n. PassesTurns old n turns) (sym gives) passes, subst (λ n. IfSome n (λ (links : DoorLinks _). links.to_come ≡ [])) (sym gives) tt)
passes_end old (Some links) new turns passes gives =
    (subst (λ n. PassesTurns old n turns) (sym gives.1) passes, subst (λ n. IfSome n (λ (links : DoorLinks _). links.to_come ≡ [])) (sym gives.1) gives.0)

-- ---- turns
pub none_served : {L K : Type 0} (views : Views L K) (old now : DoorState L) (service : Service K) → old.accepted < 2 ^ 64 → now ≡ old
    → HasServed views 0 old now service service
none_served views old now service fits stays = record {
  turns = [];
  size = refl;
  serves = refl;
  passes = subst (λ (d : DoorState _). PassesTurns old.told d.told []) (sym stays) (passes_none old.told);
  accepted = ap (λ (d : DoorState _). d.accepted) stays ∙ omega (arith, fits);
  ended = ap (λ (d : DoorState _). d.ended) stays;
}

-- the door failed before any
pub none_came : {L K : Type 0} (views : Views L K) (most : ℕ) (old new : DoorState L) (service : Service K) (done : Bool) → old.accepted < 2 ^ 64
    → new ≡ old → done ≡ false → ServesDoor views most old new service service done
none_came views most old new service done fits stays failed =
    record {
      turns = [];
      serves = refl;
      passes = subst (λ (d : DoorState _). PassesTurns old.told d.told []) (sym stays) (passes_none old.told);
      accepted = ap (λ (d : DoorState _). d.accepted) stays ∙ omega (arith, fits);
      ends = subst (λ done. EndsAfter most 0 old new done) (sym failed) (inl refl, ap (λ (d : DoorState _). d.ended) stays);
    }

pub one_served : {L K : Type 0} (views : Views L K) (count : ℕ) (old now given new : DoorState L) (before then after : Service K) (came : L)
    → HasServed views count old now before then → Accepts now given (Some came) → GivesTurn views came given new then after
    → HasServed views (count + 1) old new before after
one_served views count old now given new before then after came has accepts gives =
    let last : Turn _ = record { came = came; gave = gives.gave } in
    let size : length (has.turns ++ last ∷ []) ≡ length has.turns + 1 = length-append has.turns (last ∷ []) in
    record {
      turns = has.turns ++ last ∷ [];
      size = omega (arith, size, has.size);
      serves = serves_one_more views has.turns last before then after has.serves gives.serves;
      passes = passes_one_more old.told now.told given.told new.told has.turns last has.passes accepts.told (ap (λ d. d.told) gives.back);
      accepted =
          let more : new.accepted ≡ min (now.accepted + 1) (2 ^ 64 - 1) = ap (λ d. d.accepted) gives.back ∙ accepts.accepted in
          omega (arith, more, has.accepted, size);
      ended = ap (λ d. d.ended) gives.back ∙ accepts.ended ∙ has.ended;
    }

-- all turns were served
pub all_served : {L K : Type 0} (views : Views L K) (count most : ℕ) (old now : DoorState L) (before after : Service K)
    → count ≡ most → HasServed views count old now before after → ServesDoor views most old now before after true
all_served views count most old now before after all has = record {
  turns = has.turns;
  serves = has.serves;
  passes = has.passes;
  accepted = has.accepted;
  ends = inl (has.size ∙ all, has.ended);
}

-- the door ended
pub ended_served : {L K : Type 0} (views : Views L K) (count most : ℕ) (old now new : DoorState L) (before after : Service K)
    → count < most → HasServed views count old now before after → Accepts now new None → ServesDoor views most old new before after true
ended_served views count most old now new before after fewer has accepts =
    let (passes, no_more) = passes_end old.told now.told new.told has.turns has.passes accepts.told in
    record {
      turns = has.turns;
      serves = has.serves;
      passes = passes;
      accepted = accepts.accepted ∙ has.accepted;
      ends = inr (omega (arith, fewer, has.size), accepts.ended, no_more);
    }

-- the door failed
pub failed_served : {L K : Type 0} (views : Views L K) (count most : ℕ) (old now new : DoorState L) (before after : Service K)
    → count < most → HasServed views count old now before after → new ≡ now → ServesDoor views most old new before after false
failed_served views count most old now new before after fewer has stays = record {
  turns = has.turns;
  serves = has.serves;
  passes = subst (λ d. PassesTurns old.told d.told has.turns) (sym stays) has.passes;
  accepted = ap (λ d. d.accepted) stays ∙ has.accepted;
  ends = (inr (omega (arith, fewer, has.size)), ap (λ d. d.ended) stays ∙ has.ended);
}

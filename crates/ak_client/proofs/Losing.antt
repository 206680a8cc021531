-- A sync whose last request was lost.
use Rattle.std.specs.Prelude.{◌≡◌, ℕ, ◌≤◌, true, List, [], ◌∷◌, ◌++◌, Some, Result, Err, ◌⊎◌}
use Rattle.std.proofs.Common.{refl, sym, ap, subst, ◌∙◌, inl, inr, arith}
use Rattle.ak_client.specs.Outcomes.{HasLostThrice, HasOutcomeCause, ShowsRefusal}
use Rattle.ak_client.specs.Syncs.{EndsAt, IsSync, meta_tried}
use Rattle.ak_client.specs.declared.outcomes.Outcome.{Outcome}
use Rattle.ak_client.specs.declared.outcomes.Outcome.TheVariants as outcomes
use Rattle.ak_client.specs.Greetings.{meta_of}
use Rattle.ak_exchange.proofs.Tried.{tried_goes}
use Rattle.ak_exchange.specs.Asked.{AreTried, TriedAsk, answers_in, asker, asks_in}
use Rattle.ak_exchange.specs.Grants.{AllGrantedButLast, EndsUnanswered, IsLast, IsNotGranted}
use Rattle.ak_exchange.specs.declared.envelopes.Ids.{Ids}
use Rattle.ak_faults.proofs.Healths.{goes_further, goes_nowhere}
use Rattle.ak_faults.specs.Causes.{GoesOn, Health, Rose, one_more}
use Rattle.ak_keep.specs.Keepers.{Keeping}
use Rattle.ak_messages.specs.declared.replies.Reply.{Reply}
use Rattle.ak_messages.specs.declared.requests.Request.{Request}
use Rattle.ak_session.specs.Plans.{requests_from}
use Rattle.ak_client_wire.specs.Tries.{Tried, silence_tried}
use Rattle.ak_client_wire.specs.Wires.{WireKind, WireState, more, said_after, said_of}
use Rattle.ak_client_wire.specs.declared.asks.Unanswered.TheVariants as unanswered
use Rattle.ak_client_wire.specs.declared.wires.Said.{Said}
use Rattle.ak_client_wire.specs.declared.wires.WireEnd.TheVariants as ends

cons_nil : {X : Type 0} (x : X) (xs : List X) → x ∷ xs ≡ [] → ⊥
cons_nil x xs is = grind (arith, is)

never_none : {X : Type 0} (before : List X) (x : X) → [] ≡ before ++ x ∷ [] → ⊥
never_none [] x is = cons_nil x [] (sym is)
never_none (first ∷ more) x is = cons_nil first (more ++ x ∷ []) (sym is)

same_one : {X : Type 0} (x y : X) (xs ys : List X) → x ∷ xs ≡ y ∷ ys → (x ≡ y) × (xs ≡ ys)
same_one x y xs ys is = (grind (arith, is), grind (arith, is))

-- ---- the last request
-- how what was tried last was tried: once the wire was called up to then
pub record IsTriedLast {kind : WireKind} (it : TriedAsk) (h0 h1 : Health) (w0 w1 : WireState kind) : Type 0 where
  pub request : Request
  pub health : Health
  pub wire : WireState kind
  pub tried : Tried health h1 wire w1 request it.answer
  pub goes : GoesOn h0 health
  pub reads : GoesOn w0.reading wire.reading
  pub silent : (wire.silence ≡ 0) ⊎ (wire.silence ≡ w0.silence)

only_one : {kind : WireKind} (request : Request) (list : List Request) (it : TriedAsk) (h0 h1 : Health) (w0 w1 : WireState kind)
    → AreTried (request ∷ list) (it.answer ∷ []) h0 h1 w0 w1 → IsTriedLast it h0 h1 w0 w1
only_one {kind} request [] it h0 h1 w0 w1 tried = record {
  request = request;
  health = h0;
  wire = w0;
  tried = subst (λ (h : Health). Tried h0 h w0 w1 request it.answer) (sym tried.3.0)
      (subst (λ (w : WireState kind). Tried h0 tried.0 w0 w request it.answer) (sym tried.3.1) tried.2);
  goes = goes_nowhere h0;
  reads = goes_nowhere w0.reading;
  silent = inr refl;
}
only_one request (next ∷ list) it h0 h1 w0 w1 tried = absurd tried.3

tried_last : {kind : WireKind} (list : List Request) (tries : List TriedAsk) (it : TriedAsk) (before : List TriedAsk) (h0 h1 : Health) (w0 w1 : WireState kind)
    → AreTried list (answers_in tries) h0 h1 w0 w1 → AllGrantedButLast tries → tries ≡ before ++ it ∷ [] → IsTriedLast it h0 h1 w0 w1
tried_last list [] it before h0 h1 w0 w1 tried granted last = absurd (never_none before it last)
tried_last [] (first ∷ more_tries) it before h0 h1 w0 w1 tried granted last = absurd tried
tried_last (request ∷ list) (first ∷ []) it [] h0 h1 w0 w1 tried granted last =
    only_one request list it h0 h1 w0 w1
    (subst (λ (t : TriedAsk). AreTried (request ∷ list) (t.answer ∷ []) h0 h1 w0 w1) (same_one first it [] [] last).0 tried)
tried_last (request ∷ list) (first ∷ []) it (b ∷ before) h0 h1 w0 w1 tried granted last =
    absurd (never_none before it (same_one first b [] (before ++ it ∷ []) last).1)
tried_last (request ∷ list) (first ∷ next ∷ more_tries) it [] h0 h1 w0 w1 tried granted last =
    absurd (cons_nil next more_tries (same_one first it (next ∷ more_tries) [] last).1)
tried_last (request ∷ list) (first ∷ next ∷ more_tries) it (b ∷ before) h0 h1 w0 w1 tried granted last =
    let then_on = tried_last list (next ∷ more_tries) it before tried.0 h1 tried.1 w1 tried.3 granted.1 (same_one first b (next ∷ more_tries) (before ++ it ∷ []) last).1 in
    record {
      request = then_on.request;
      health = then_on.health;
      wire = then_on.wire;
      tried = then_on.tried;
      goes = goes_further tried.2.goes then_on.goes;
      reads = goes_further tried.2.unread.goes then_on.reads;
      silent = inl (none then_on.wire.silence tried.1.silence then_on.silent (tried.2.silence ∙ ap (silence_tried w0.silence) granted.0.is));
    }
  where
    none : (b a : ℕ) → (b ≡ 0) ⊎ (b ≡ a) → a ≡ 0 → b ≡ 0
    none b a (inl is) answered = is
    none b a (inr is) answered = is ∙ answered

-- ---- it was lost
pub record IsLost {kind : WireKind} (h0 h1 : Health) (w0 w1 : WireState kind) : Type 0 where
  pub rose : more 3 h0.faults ≤ h1.faults
  pub never : h0.calm ≡ true → ⊥
  pub silent : (w1.silence ≡ 3) ⊎ (w1.silence ≡ more 3 w0.silence)

more_later : (a b c : ℕ) → a ≤ b → more 3 b ≤ c → more 3 a ≤ c
more_later a b c later rose = grind (arith, later, rose)

lost_last : {kind : WireKind} (it : TriedAsk) (h0 h1 : Health) (w0 w1 : WireState kind) → IsTriedLast it h0 h1 w0 w1 → it.answer ≡ Err ends.Failed → IsLost h0 h1 w0 w1
lost_last it h0 h1 w0 w1 last lost = record {
  rose = more_later h0.faults last.health.faults h1.faults last.goes.later (last.tried.lost lost);
  never = λ calm. last.tried.unfailed (last.goes.calm calm) lost;
  silent = three last.silent;
}
  where
    grew : w1.silence ≡ more 3 last.wire.silence
    grew = last.tried.silence ∙ ap (silence_tried last.wire.silence) lost

    three : (last.wire.silence ≡ 0) ⊎ (last.wire.silence ≡ w0.silence) → (w1.silence ≡ 3) ⊎ (w1.silence ≡ more 3 w0.silence)
    three (inl none) = inl (grew ∙ ap (more 3) none)
    three (inr same) = inr (grew ∙ ap (more 3) same)

-- ---- a sync that ended so
module _ {kind : WireKind} (ids : Ids) (before left : Keeping) (h0 h1 : Health) (w0 w1 : WireState kind) (outcome : Outcome) (sync : IsSync ids before left h0 h1 w0 w1 outcome) where
  abbrev tries : List TriedAsk
  tries = meta_tried sync.asked.meta ∷ sync.asked.tries

  -- what was tried last
  last_of : (it : TriedAsk) → IsLast it tries → IsTriedLast it h0 h1 w0 w1
  last_of it last =
      tried_last (meta_of ids ∷ requests_from (asker ids) sync.asked.moment 1 (asks_in sync.asked.tries)) tries it last.0 h0 h1 w0 w1 sync.asked.tried sync.ends.granted last.1

  is_lost : outcome ≡ outcomes.Lost → IsLost h0 h1 w0 w1
  is_lost is =
      let ended : EndsUnanswered tries unanswered.Lost = subst (EndsAt tries w1) is sync.ends.why in
      lost_last ended.0 h0 h1 w0 w1 (last_of ended.0 ended.1) ended.2

  pub lost_cause : HasOutcomeCause outcomes.Lost h0 h1 outcome
  lost_cause = record {
    goes = tried_goes (meta_of ids ∷ requests_from (asker ids) sync.asked.moment 1 (asks_in sync.asked.tries)) (sync.asked.meta ∷ answers_in sync.asked.tries) h0 h1 w0 w1 sync.asked.tried;
    failed = λ is. once h0.faults h1.faults (is_lost is).rose;
    unfailed = λ calm is. (is_lost is).never calm;
  }
    where
      once : (a b : ℕ) → more 3 a ≤ b → one_more a ≤ b
      once a b rose = grind (arith, rose)

  pub lost_thrice : HasLostThrice h0 h1 w0.silence w1.silence outcome
  lost_thrice = record {
    faults = λ is. (is_lost is).rose;
    silent = λ is. (is_lost is).silent;
  }

  -- what the reply of the last call said
  pub shows_refusal : ShowsRefusal w0.reading w1.reading w1.said outcome
  shows_refusal = record {
    refused = λ status word seen is.
        let ended : EndsUnanswered tries (unanswered.Refused status word seen) = subst (EndsAt tries w1) is sync.ends.why in
        let last = last_of ended.0 ended.1 in
        let reply = ended.2.0 in (
          said_of last.request reply,
          last.tried.said ∙ ap (said_after last.request) ended.2.1,
          sym ended.2.3,
          sym ended.2.4,
          sym ended.2.5,
          λ ok. ended.2.2 (sym ended.2.3 ∙ ok),
        );
    unread = λ is.
        let ended : EndsUnanswered tries unanswered.BadReply = subst (EndsAt tries w1) is sync.ends.why in
        not_read ended.0 (last_of ended.0 ended.1) ended.2;
  }
    where
      rose : (it : TriedAsk) → (last : IsTriedLast it h0 h1 w0 w1) → it.answer ≡ Err ends.BadReply → Rose w0.reading w1.reading
      rose it last is = let early = last.reads.later in let late = last.tried.unread.failed is in grind (arith, early, late)

      not_read : (it : TriedAsk) → IsTriedLast it h0 h1 w0 w1 → IsNotGranted it unanswered.BadReply
          → Rose w0.reading w1.reading ⊎ ((said : Said) × (w1.said ≡ Some said) × (said.status ≡ 200))
      not_read it last (inl is) = inl (rose it last is)
      not_read it last (inr (reply, is, ok, form)) = inr (said_of last.request reply, last.tried.said ∙ ap (said_after last.request) is, ok)

-- Requests that were asked one after the other: two lists of them make one.
use Rattle.std.specs.Prelude.{◌≡◌, ℕ, suc, ◌+◌, ◌≤◌, ℤ, Bool, cond, List, [], ◌∷◌, ◌++◌, length, count_by, Result}
use Rattle.std.proofs.Common.{refl, sym, ap, subst, ◌∙◌, arith}
use Rattle.std.proofs.lemmas.List.{length-append, map-append}
use Rattle.std.proofs.lemmas.List.Sums.{sum_by-append}
use Rattle.ak_client_wire.specs.Wires.{WireKind, WireState}
use Rattle.ak_client_wire.specs.declared.wires.WireEnd.{WireEnd}
use Rattle.ak_exchange.specs.Asked.{AreAsked, AreFew, AreTried, Talk, TriedAsk, answers_in, asker, asks_chunk, asks_in, is_other, request_at, sends_unfinished}
use Rattle.ak_exchange.specs.declared.envelopes.Envelopes.{Envelopes}
use Rattle.ak_faults.proofs.Healths.{goes_further, goes_nowhere}
use Rattle.ak_faults.specs.Causes.{GoesOn, Health}
use Rattle.ak_messages.specs.declared.replies.Reply.{Reply}
use Rattle.ak_messages.specs.declared.requests.Ask.{Ask}
use Rattle.ak_messages.specs.declared.requests.Request.{Request}
use Rattle.ak_session.specs.Plans.{Asker, requests_from}

abbrev Answer : Type 0
Answer = Result Reply WireEnd

-- ---- lists
pub asks_append : (a b : List TriedAsk) → asks_in (a ++ b) ≡ asks_in a ++ asks_in b
asks_append a b = map-append (λ (it : TriedAsk). it.ask) a b

pub answers_append : (a b : List TriedAsk) → answers_in (a ++ b) ≡ answers_in a ++ answers_in b
answers_append a b = map-append (λ (it : TriedAsk). it.answer) a b

pub asks_count : (a : List TriedAsk) → length (asks_in a) ≡ length a
asks_count [] = refl
asks_count (it ∷ more) = ap suc (asks_count more)

-- ---- requests
pub tried_then : {kind : WireKind} (a b : List Request) (x y : List Answer) (h0 h1 h2 : Health) (w0 w1 w2 : WireState kind) → AreTried a x h0 h1 w0 w1 → AreTried b y h1 h2 w1 w2
    → AreTried (a ++ b) (x ++ y) h0 h2 w0 w2
tried_then {kind} [] b [] y h0 h1 h2 w0 w1 w2 one two =
    subst (λ (h : Health). AreTried b y h h2 w0 w2) one.0 (subst (λ (w : WireState kind). AreTried b y h1 h2 w w2) one.1 two)
tried_then [] b (answer ∷ x) y h0 h1 h2 w0 w1 w2 one two = absurd one
tried_then (request ∷ more) b [] y h0 h1 h2 w0 w1 w2 one two = absurd one
tried_then (request ∷ more) b (answer ∷ x) y h0 h1 h2 w0 w1 w2 one two =
    (one.0, one.1, one.2, tried_then more b x y one.0 h1 h2 one.1 w1 w2 one.3 two)

-- the count of faults of a wire never falls, and neither does that of its bad answers
pub tried_goes : {kind : WireKind} (list : List Request) (answers : List Answer) (h0 h1 : Health) (w0 w1 : WireState kind) → AreTried list answers h0 h1 w0 w1 → GoesOn h0 h1
tried_goes [] [] h0 h1 w0 w1 tried = subst (λ (h : Health). GoesOn h0 h) (sym tried.0) (goes_nowhere h0)
tried_goes [] (answer ∷ answers) h0 h1 w0 w1 tried = absurd tried
tried_goes (request ∷ more) [] h0 h1 w0 w1 tried = absurd tried
tried_goes (request ∷ more) (answer ∷ answers) h0 h1 w0 w1 tried = goes_further tried.2.goes (tried_goes more answers tried.0 h1 tried.1 w1 tried.3)

pub tried_reads : {kind : WireKind} (list : List Request) (answers : List Answer) (h0 h1 : Health) (w0 w1 : WireState kind) → AreTried list answers h0 h1 w0 w1
    → GoesOn w0.reading w1.reading
tried_reads {kind} [] [] h0 h1 w0 w1 tried =
    subst (λ (w : WireState kind). GoesOn w0.reading w.reading) (sym tried.1) (goes_nowhere w0.reading)
tried_reads [] (answer ∷ answers) h0 h1 w0 w1 tried = absurd tried
tried_reads (request ∷ more) [] h0 h1 w0 w1 tried = absurd tried
tried_reads (request ∷ more) (answer ∷ answers) h0 h1 w0 w1 tried =
    goes_further tried.2.unread.goes (tried_reads more answers tried.0 h1 tried.1 w1 tried.3)

-- the requests of two lists of asks
pub requests_append : (who : Asker) (base : ℤ) (step : ℕ) (a b : List Ask)
    → requests_from who base step (a ++ b) ≡ requests_from who base step a ++ requests_from who base (step + length a) b
requests_append who base step [] b = let same : step ≡ step + 0 = omega arith in ap (λ (n : ℕ). requests_from who base n b) same
requests_append who base step (ask ∷ more) b =
    let same : step + 1 + length more ≡ step + suc (length more) = omega arith in
    ap (λ (l : List Request). request_at who base step ask ∷ l) (requests_append who base (step + 1) more b
    ∙ ap (λ (n : ℕ). requests_from who base (step + 1) more ++ requests_from who base n b) same)

-- ---- asks
pub asked_none : {kind : WireKind} (was now : Talk kind) → now.health ≡ was.health → now.wire ≡ was.wire → now.envelopes ≡ was.envelopes → AreAsked [] was now
asked_none was now health wire envelopes = record {
  tried = (health, wire);
  envelopes = let same : was.envelopes.step ≡ was.envelopes.step + 0 = omega arith in
      envelopes ∙ ap (λ (n : ℕ). record was.envelopes { step = n }) same;
}

pub asked_then : {kind : WireKind} (a b : List TriedAsk) (was mid now : Talk kind) → AreAsked a was mid → AreAsked b mid now → AreAsked (a ++ b) was now
asked_then a b was mid now one two = record {
  tried = subst (λ (l : List Request). AreTried l (answers_in (a ++ b)) was.health now.health was.wire now.wire)
      (sym (ap (requests_from (asker was.envelopes.ids) was.envelopes.base (was.envelopes.step + 1)) (asks_append a b)
      ∙ requests_append (asker was.envelopes.ids) was.envelopes.base (was.envelopes.step + 1) (asks_in a) (asks_in b)))
      (subst (λ (x : List Answer). AreTried
      (requests_from (asker was.envelopes.ids) was.envelopes.base (was.envelopes.step + 1) (asks_in a)
      ++ requests_from (asker was.envelopes.ids) was.envelopes.base (was.envelopes.step + 1 + length (asks_in a)) (asks_in b))
      x was.health now.health was.wire now.wire) (sym (answers_append a b))
      (tried_then (requests_from (asker was.envelopes.ids) was.envelopes.base (was.envelopes.step + 1) (asks_in a))
      (requests_from (asker was.envelopes.ids) was.envelopes.base (was.envelopes.step + 1 + length (asks_in a)) (asks_in b))
      (answers_in a) (answers_in b) was.health mid.health now.health was.wire mid.wire now.wire one.tried
      (subst (λ (n : ℕ). AreTried (requests_from (asker was.envelopes.ids) was.envelopes.base n (asks_in b)) (answers_in b) mid.health now.health mid.wire now.wire)
      (turned was.envelopes.step)
      (subst (λ (e : Envelopes). AreTried (requests_from (asker e.ids) e.base (e.step + 1) (asks_in b)) (answers_in b) mid.health now.health mid.wire now.wire)
      one.envelopes two.tried))));
  envelopes = two.envelopes
      ∙ ap (λ (e : Envelopes). record e { step = e.step + length b }) one.envelopes
      ∙ ap (λ (n : ℕ). record was.envelopes { step = n }) (sums was.envelopes.step);
}
  where
    turned : (n : ℕ) → n + length a + 1 ≡ n + 1 + length (asks_in a)
    turned n = let same = asks_count a in omega (arith, same)

    sums : (n : ℕ) → n + length a + length b ≡ n + length (a ++ b)
    sums n = let both = length-append a b in omega (arith, both)

-- ---- how many
counts_then : (p : Ask → Bool) (a b : List Ask) (m n : ℕ) → count_by p a ≤ m → count_by p b ≤ n → count_by p (a ++ b) ≤ m + n
counts_then p a b m n one two = let both = sum_by-append (λ (x : Ask). cond (p x) 1 0) a b in omega (arith, both, one, two)

few_both : (a b : List Ask) (p q o p2 q2 o2 : ℕ) → AreFew p q o a → AreFew p2 q2 o2 b → AreFew (p + p2) (q + q2) (o + o2) (a ++ b)
few_both a b p q o p2 q2 o2 one two = record {
  asked = counts_then asks_chunk a b p p2 one.asked two.asked;
  sent = counts_then sends_unfinished a b q q2 one.sent two.sent;
  rest = counts_then is_other a b o o2 one.rest two.rest;
}

pub few_then : (a b : List TriedAsk) (p q o p2 q2 o2 : ℕ) → AreFew p q o (asks_in a) → AreFew p2 q2 o2 (asks_in b)
    → AreFew (p + p2) (q + q2) (o + o2) (asks_in (a ++ b))
few_then a b p q o p2 q2 o2 one two =
    subst (AreFew (p + p2) (q + q2) (o + o2)) (sym (asks_append a b)) (few_both (asks_in a) (asks_in b) p q o p2 q2 o2 one two)

-- at most so many are at most more
pub few_more : (a : List Ask) (p q o p2 q2 o2 : ℕ) → p ≤ p2 → q ≤ q2 → o ≤ o2 → AreFew p q o a → AreFew p2 q2 o2 a
few_more a p q o p2 q2 o2 pulled pushed others few =
    let asked = few.asked in let sent = few.sent in let rest = few.rest in
    record { asked = omega (arith, asked, pulled); sent = omega (arith, sent, pushed); rest = omega (arith, rest, others) }

pub few_none : (p q o : ℕ) → AreFew p q o []
few_none p q o = record { asked = omega arith; sent = omega arith; rest = omega arith }

-- Why a part of a sync stopped, and what it was granted before.
use Rattle.std.specs.List.{AllByRecursion}
use Rattle.std.specs.Prelude.{◌≡◌, ◌≢◌, ◌==◌, ◌&&◌, ℕ, ◌≤◌, Bool, true, false, is_some, cond, if◌then◌else◌, List, [], ◌∷◌, ◌++◌, count_by, Option, Some, None, Result, Ok, Err, IsErrAnd, IfErr, OnOk, ok_or, ◌⊎◌, ◌↔◌}
use Rattle.std.proofs.Common.{refl, sym, ap, subst, ◌∙◌, inl, inr, append_assoc, arith}
use Rattle.std.proofs.lemmas.List.Sums.{sum_by-append}
use Rattle.ak_client_wire.specs.Tries.{granted_in, in_form}
use Rattle.ak_client_wire.specs.Wires.{WireKind, WireState}
use Rattle.ak_client_wire.specs.declared.asks.Unanswered.{Unanswered}
use Rattle.ak_client_wire.specs.declared.asks.Unanswered.TheVariants as unanswered
use Rattle.ak_client_wire.specs.declared.wires.WireEnd.{WireEnd}
use Rattle.ak_client_wire.specs.declared.wires.WireEnd.TheVariants as ends
use Rattle.ak_exchange.proofs.Faults.{IsUnkept}
use Rattle.ak_exchange.proofs.Tried.{asks_append}
use Rattle.ak_exchange.specs.Asked.{TriedAsk, asks_in, sends_unfinished}
use Rattle.ak_exchange.specs.Grants.{AllGranted, AllGrantedButLast, AreGranted, AreTooMany, EndsForMemory, EndsUnanswered, IsCheckedLast, IsGranted, IsLast, IsNotGranted, SendsRows, StopsFor, are_granted, came_unfinished, grants, is_in_form}
use Rattle.ak_exchange.specs.Phases.{IsFairStop, UnlessHalfDone}
use Rattle.ak_exchange.specs.Stops.{check_stop, is_keep, is_keep_or_memory, keep_stop, shows_bad_check, verdict_of, wire_stop}
use Rattle.ak_exchange.specs.declared.stops.Stop.{Stop}
use Rattle.ak_exchange.specs.declared.stops.Stop.TheVariants as stops
use Rattle.ak_keep.specs.Collections.{Collection}
use Rattle.ak_keep.specs.Keepers.{Keeping}
use Rattle.ak_keep.specs.declared.keepers.KeepFault.{KeepFault}
use Rattle.ak_keep.specs.declared.keepers.KeepFault.TheVariants as faults
use Rattle.ak_merge.specs.declared.checks.CheckFault.{CheckFault}
use Rattle.ak_messages.specs.declared.replies.Give.{Give}
use Rattle.ak_messages.specs.declared.replies.Reply.{Reply}
use Rattle.ak_messages.specs.declared.replies.SanityReply.{SanityReply}
use Rattle.ak_messages.specs.declared.requests.Ask.{Ask}
use Rattle.ak_session.proofs.Ranges.{all_append, not_both}
use Rattle.ak_session.specs.Sessions.{MaySync}

-- ---- a part that was refused
-- a part was refused, and not by what it asked
abbrev pub IsRefused : {T : Type 0} → Result T Stop → Type 0
IsRefused result = IsErrAnd result (λ (stop : Stop). is_keep_or_memory stop ≡ true)

-- a part stopped though what it asked was granted, or because it was not
abbrev pub StopsAfter : {G : Type 0} → Result G Unanswered → Stop → Type 0
StopsAfter {G} given stop = ((g : G) × (given ≡ Ok g) × (is_keep_or_memory stop ≡ true))
    ⊎ ((why : Unanswered) × (given ≡ Err why) × (stop ≡ wire_stop why))

-- and was refused so
abbrev pub IsRefusedAfter : {T G : Type 0} → Result G Unanswered → Result T Stop → Type 0
IsRefusedAfter given result = IsErrAnd result (StopsAfter given)

refused_as : {T : Type 0} (result : Result T Stop) (why : Stop) → is_keep_or_memory why ≡ true → IsErrAnd result (λ (stop : Stop). stop ≡ why) → IsRefused result
refused_as (Ok x) why quiet is = is
refused_as (Err stop) why quiet is = ap is_keep_or_memory is ∙ quiet

pub by_memory : {T : Type 0} (result : Result T Stop) → IsErrAnd result (λ (stop : Stop). stop ≡ stops.Memory) → IsRefused result
by_memory result is = refused_as result stops.Memory refl is

pub by_keeper : {T : Type 0} (result : Result T Stop) (fault : KeepFault) → IsErrAnd result (λ (stop : Stop). stop ≡ keep_stop fault) → IsRefused result
by_keeper result fault is = refused_as result (keep_stop fault) (each fault) is
  where
    each : (f : KeepFault) → is_keep_or_memory (keep_stop f) ≡ true
    each faults.Failed = refl
    each faults.Memory = refl

pub keeper_after : {T G : Type 0} (given : Result G Unanswered) (result : Result T Stop) (fault : KeepFault) (g : G) → given ≡ Ok g
    → IsErrAnd result (λ (stop : Stop). stop ≡ keep_stop fault) → IsRefusedAfter given result
keeper_after given result fault g was is = weaker result (by_keeper result fault is)
  where
    weaker : {T : Type 0} (r : Result T Stop) → IsRefused r → IsRefusedAfter given r
    weaker (Ok x) quiet = quiet
    weaker (Err stop) quiet = inl (g, was, quiet)

pub by_wire : {T G : Type 0} (given : Result G Unanswered) (result : Result T Stop) (why : Unanswered) → given ≡ Err why
    → IsErrAnd result (λ (stop : Stop). stop ≡ wire_stop why) → IsRefusedAfter given result
by_wire given (Ok x) why came is = is
by_wire given (Err stop) why came is = inr (why, came, is)

pub not_ok : {T : Type 0} (result : Result T Stop) (Q : Stop → Type 0) (P : Type 0) → IsErrAnd result Q → OnOk result P
not_ok (Ok x) Q P is = absurd is
not_ok (Err e) Q P is = tt

-- ---- what a refusal says
pub quiet_stops : {kind : WireKind} (tries : List TriedAsk) (wire : WireState kind) (stop : Stop) → AllGranted tries → is_keep_or_memory stop ≡ true
    → StopsFor tries wire stop
quiet_stops tries wire stops.Keep all quiet = all
quiet_stops tries wire stops.Memory all quiet = inl all
quiet_stops tries wire (stops.BadRow fault) all quiet = absurd (grind (arith, quiet))
quiet_stops tries wire (stops.BadCounts client server) all quiet = absurd (grind (arith, quiet))
quiet_stops tries wire (stops.Refused status word seen) all quiet = absurd (grind (arith, quiet))
quiet_stops tries wire stops.Lost all quiet = absurd (grind (arith, quiet))
quiet_stops tries wire stops.BadReply all quiet = absurd (grind (arith, quiet))
quiet_stops tries wire stops.TooManyChunks all quiet = absurd (grind (arith, quiet))

-- nothing was asked
pub refused_stops : {kind : WireKind} {T : Type 0} (wire : WireState kind) (result : Result T Stop) → IsRefused result → IfErr result (StopsFor [] wire)
refused_stops wire (Ok x) is = tt
refused_stops wire (Err stop) is = quiet_stops [] wire stop tt is

pub unanswered_stops : {kind : WireKind} (tries : List TriedAsk) (wire : WireState kind) (it : TriedAsk) (why : Unanswered) → IsLast it tries → IsNotGranted it why
    → StopsFor tries wire (wire_stop why)
unanswered_stops tries wire it unanswered.Lost last is = (it, last, is)
unanswered_stops tries wire it unanswered.BadReply last is = (it, last, is)
unanswered_stops tries wire it (unanswered.Refused status word seen) last is = (it, last, is)
unanswered_stops tries wire it unanswered.Memory last is = inr (it, last, is)

-- this was asked, and nothing else
pub refused_after_stops : {kind : WireKind} {T G : Type 0} (wire : WireState kind) (it : TriedAsk) (given : Result G Unanswered) (result : Result T Stop)
    → ((g : G) → given ≡ Ok g → IsGranted it) → ((why : Unanswered) → given ≡ Err why → IsNotGranted it why) → IsRefusedAfter given result
    → IfErr result (StopsFor (it ∷ []) wire)
refused_after_stops wire it given (Ok x) so not_so is = tt
refused_after_stops wire it given (Err stop) so not_so (inl (g, was, quiet)) = quiet_stops (it ∷ []) wire stop (so g was, tt) quiet
refused_after_stops wire it given (Err stop) so not_so (inr (why, came, is)) =
    subst (StopsFor (it ∷ []) wire) (sym is) (unanswered_stops (it ∷ []) wire it why ([], refl) (not_so why came))

-- ---- a stop that is no bad sanity check is fair to the server
pub quiet_is_fair : (c s : Collection) (stop : Stop) → is_keep_or_memory stop ≡ true → IsFairStop c s stop
quiet_is_fair c s stops.Keep quiet = tt
quiet_is_fair c s stops.Memory quiet = tt
quiet_is_fair c s (stops.BadRow fault) quiet = absurd (grind (arith, quiet))
quiet_is_fair c s (stops.BadCounts client server) quiet = absurd (grind (arith, quiet))
quiet_is_fair c s (stops.Refused status word seen) quiet = tt
quiet_is_fair c s stops.Lost quiet = tt
quiet_is_fair c s stops.BadReply quiet = tt
quiet_is_fair c s stops.TooManyChunks quiet = absurd (grind (arith, quiet))

unanswered_is_fair : (c s : Collection) (why : Unanswered) → IsFairStop c s (wire_stop why)
unanswered_is_fair c s unanswered.Lost = tt
unanswered_is_fair c s unanswered.BadReply = tt
unanswered_is_fair c s (unanswered.Refused status word seen) = tt
unanswered_is_fair c s unanswered.Memory = tt

pub refused_is_fair : {T : Type 0} (c s : Collection) (result : Result T Stop) → IsRefused result → IfErr result (λ (stop : Stop). MaySync c s → IsFairStop c s stop)
refused_is_fair c s (Ok x) is = tt
refused_is_fair c s (Err stop) is = λ may. quiet_is_fair c s stop is

pub refused_after_is_fair : {T G : Type 0} (c s : Collection) (given : Result G Unanswered) (result : Result T Stop) → IsRefusedAfter given result
    → IfErr result (λ (stop : Stop). MaySync c s → IsFairStop c s stop)
refused_after_is_fair c s given (Ok x) is = tt
refused_after_is_fair c s given (Err stop) (inl (g, was, quiet)) = λ may. quiet_is_fair c s stop quiet
refused_after_is_fair c s given (Err stop) (inr (why, came, is)) = λ may. subst (IsFairStop c s) (sym is) (unanswered_is_fair c s why)

-- ---- what an answer comes to
status_is : (status : ℕ) → (status == 200) ≡ true → status ≡ 200
status_is status is = grind (arith, is)

status_differs : (status : ℕ) → (status == 200) ≡ false → status ≢ 200
status_differs status is same = grind (arith, is, same)

same_why : {T : Type 0} (one other : Unanswered) → (let refused : Result T Unanswered = Err one in refused ≡ Err other) → one ≡ other
same_why one other is = grind (arith, is)

err-ok : {T : Type 0} (why : Unanswered) (it : T) → Err why ≡ Ok it → ⊥
err-ok why it is = grind (arith, is)

pub ok-err : {T : Type 0} (it : T) (why : Unanswered) → Ok it ≡ Err why → ⊥
ok-err it why is = grind (arith, is)

same_ok : {T : Type 0} (one other : T) → (let granted : Result T Unanswered = Ok one in granted ≡ Ok other) → one ≡ other
same_ok one other is = grind (arith, is)

module _ {G : Type 0} (part : Give → Option G) (ask : Ask) (form : (give : Give) → is_in_form ask give ≡ is_some (part give)) where
  abbrev tried : Result Reply WireEnd → TriedAsk
  tried answer = record { ask = ask; answer = answer }

  -- granted
  pub record Gave (answer : Result Reply WireEnd) (it : G) : Type 0 where
    pub granted : IsGranted (tried answer)
    pub gave : part granted.reply.give ≡ Some it

  pub was_granted : (answer : Result Reply WireEnd) (it : G) → in_form part (granted_in answer) ≡ Ok it → Gave answer it
  was_granted (Ok reply) it is = by (reply.status == 200) refl is
    where
      given : (o : Option G) → part reply.give ≡ o → ok_or o unanswered.BadReply ≡ Ok it → part reply.give ≡ Some it
      given None shown same = absurd (err-ok unanswered.BadReply it same)
      given (Some g) shown same = shown ∙ ap (λ (x : G). Some x) (same_ok g it same)

      by : (b : Bool) → (reply.status == 200) ≡ b
          → in_form part (if b then Ok reply.give else Err (unanswered.Refused reply.status reply.word reply.seen)) ≡ Ok it → Gave (Ok reply) it
      by true status same =
          let gave = given (part reply.give) refl same in
          record {
            granted = record { reply = reply; is = refl; status = status_is reply.status status; form = form reply.give ∙ ap (λ (o : Option G). is_some o) gave };
            gave = gave;
          }
      by false status same = absurd (err-ok (unanswered.Refused reply.status reply.word reply.seen) it same)
  was_granted (Err ends.Failed) it is = absurd (err-ok unanswered.Lost it is)
  was_granted (Err ends.BadReply) it is = absurd (err-ok unanswered.BadReply it is)
  was_granted (Err ends.Memory) it is = absurd (err-ok unanswered.Memory it is)

  -- not granted
  pub was_not_granted : (answer : Result Reply WireEnd) (why : Unanswered) → in_form part (granted_in answer) ≡ Err why → IsNotGranted (tried answer) why
  was_not_granted (Ok reply) why is = by (reply.status == 200) refl is
    where
      given : (o : Option G) → part reply.give ≡ o → (reply.status == 200) ≡ true → ok_or o unanswered.BadReply ≡ Err why → IsNotGranted (tried (Ok reply)) why
      given None shown status same = subst (IsNotGranted (tried (Ok reply))) (same_why unanswered.BadReply why same)
          (inr (reply, refl, status_is reply.status status, form reply.give ∙ ap (λ (o : Option G). is_some o) shown))
      given (Some g) shown status same = absurd (ok-err g why same)

      by : (b : Bool) → (reply.status == 200) ≡ b
          → in_form part (if b then Ok reply.give else Err (unanswered.Refused reply.status reply.word reply.seen)) ≡ Err why → IsNotGranted (tried (Ok reply)) why
      by true status same = given (part reply.give) refl status same
      by false status same = subst (IsNotGranted (tried (Ok reply))) (same_why (unanswered.Refused reply.status reply.word reply.seen) why same)
          (reply, refl, status_differs reply.status status, refl, refl, refl)
  was_not_granted (Err ends.Failed) why is = subst (IsNotGranted (tried (Err ends.Failed))) (same_why unanswered.Lost why is) refl
  was_not_granted (Err ends.BadReply) why is = subst (IsNotGranted (tried (Err ends.BadReply))) (same_why unanswered.BadReply why is) (inl refl)
  was_not_granted (Err ends.Memory) why is = subst (IsNotGranted (tried (Err ends.Memory))) (same_why unanswered.Memory why is) refl

-- whether it was granted shows in its answer
pub granted_shows : (it : TriedAsk) → IsGranted it → grants it.ask it.answer ≡ true
granted_shows it granted =
    ap (grants it.ask) granted.is
    ∙ ap (λ (status : ℕ). (status == 200) && is_in_form it.ask granted.reply.give) granted.status
    ∙ granted.form

pub refusal_shows : (it : TriedAsk) (why : Unanswered) → IsNotGranted it why → grants it.ask it.answer ≡ false
refusal_shows it unanswered.Lost is = ap (grants it.ask) is
refusal_shows it unanswered.BadReply (inl is) = ap (grants it.ask) is
refusal_shows it unanswered.BadReply (inr (reply, is, status, form)) =
    ap (grants it.ask) is ∙ ap (λ (b : Bool). (reply.status == 200) && b) form ∙ never (reply.status == 200)
  where
    never : (b : Bool) → (b && false) ≡ false
    never true = refl
    never false = refl
refusal_shows it (unanswered.Refused status word seen) (reply, is, differs, one, two, three) =
    ap (grants it.ask) is ∙ ap (λ (b : Bool). b && is_in_form it.ask reply.give) (other (reply.status == 200) refl)
  where
    other : (b : Bool) → (reply.status == 200) ≡ b → b ≡ false
    other true same = absurd (differs (status_is reply.status same))
    other false same = refl
refusal_shows it unanswered.Memory is = ap (grants it.ask) is

-- all of these were granted
pub all_granted : (tries : List TriedAsk) → AllGranted tries → are_granted tries ≡ true
all_granted [] all = refl
all_granted (it ∷ more) all =
    ap (λ (b : Bool). b && are_granted more) (granted_shows it all.0) ∙ all_granted more all.1

pub granted_before : (a b : List TriedAsk) → AllGranted a → are_granted (a ++ b) ≡ are_granted b
granted_before [] b all = refl
granted_before (it ∷ more) b all =
    ap (λ (own : Bool). own && are_granted (more ++ b)) (granted_shows it all.0) ∙ granted_before more b all.1

-- ---- a part that may be half done
-- it was refused by the keeper or by memory, though all was granted
pub spoilt : {T : Type 0} (tries : List TriedAsk) (result : Result T Stop) (P : Type 0) → are_granted tries ≡ true → IsRefused result → UnlessHalfDone tries result P
spoilt tries (Ok x) P all is = absurd is
spoilt tries (Err stop) P all is = λ whole. absurd (not_both (ap (λ (b : Bool). b && are_granted tries) is ∙ all) whole)

pub unless_map : {T : Type 0} (tries : List TriedAsk) (result : Result T Stop) (P Q : Type 0) → (P → Q) → UnlessHalfDone tries result P → UnlessHalfDone tries result Q
unless_map tries (Ok x) P Q f p = f p
unless_map tries (Err stop) P Q f p = λ whole. f (p whole)

-- what was granted before makes no difference
pub unless_then : {T : Type 0} (a b : List TriedAsk) (result : Result T Stop) (P : Type 0) → AllGranted a → UnlessHalfDone b result P → UnlessHalfDone (a ++ b) result P
unless_then a b (Ok x) P all p = p
unless_then a b (Err stop) P all p = λ whole. p (ap (λ (own : Bool). is_keep_or_memory stop && own) (sym (granted_before a b all)) ∙ whole)

-- if one request was not granted the keeper is as it was
abbrev pub IsKept : {G : Type 0} → Result G Unanswered → Keeping → Keeping → Type 0
IsKept given before after = (why : Unanswered) → given ≡ Err why → after ≡ before

-- it was granted
pub kept_granted : {G : Type 0} (given : Result G Unanswered) (it : G) (k0 k1 : Keeping) → given ≡ Ok it → IsKept given k0 k1
kept_granted given it k0 k1 was why came = absurd (ok-err it why (sym was ∙ came))

-- ---- one part after another
pub last_then : (a b : List TriedAsk) (it : TriedAsk) → IsLast it b → IsLast it (a ++ b)
last_then a b it (before, is) = (a ++ before, ap (λ (l : List TriedAsk). a ++ l) is ∙ sym (append_assoc a before (it ∷ [])))

pub ends_then : (a b : List TriedAsk) (why : Unanswered) → EndsUnanswered b why → EndsUnanswered (a ++ b) why
ends_then a b why (it, last, is) = (it, last_then a b it last, is)

pub checked_then : {kind : WireKind} (a b : List TriedAsk) (stop : Stop) (wire : WireState kind) → IsCheckedLast b stop wire → IsCheckedLast (a ++ b) stop wire
checked_then a b stop wire it = record {
  it = it.it;
  last = last_then a b it.it it.last;
  counts = it.counts;
  asks = it.asks;
  granted = it.granted;
  reply = it.reply;
  gave = it.gave;
  said = it.said;
  is = it.is;
  found = it.found;
  verdict = it.verdict;
}

pub many_then : (a b : List TriedAsk) → AreTooMany b → AreTooMany (a ++ b)
many_then a b (inl came) = let both = sum_by-append (λ (x : TriedAsk). cond (came_unfinished x) 1 0) a b in inl (omega (arith, both, came))
many_then a b (inr sent) = inr (subst (λ (l : List Ask). 39_999 ≤ count_by sends_unfinished l) (sym (asks_append a b)) (after (asks_in a) (asks_in b) sent))
  where
    after : (x y : List Ask) → 39_999 ≤ count_by sends_unfinished y → 39_999 ≤ count_by sends_unfinished (x ++ y)
    after x y is = let both = sum_by-append (λ (ask : Ask). cond (sends_unfinished ask) 1 0) x y in omega (arith, both, is)

pub memory_then : (a b : List TriedAsk) → AllGranted a → EndsForMemory b → EndsForMemory (a ++ b)
memory_then a b all (inl more) = inl (all_append IsGranted a b all more)
memory_then a b all (inr is) = inr (ends_then a b unanswered.Memory is)

stops_then : {kind : WireKind} (a b : List TriedAsk) (wire : WireState kind) (stop : Stop) → AllGranted a → StopsFor b wire stop → StopsFor (a ++ b) wire stop
stops_then a b wire (stops.BadRow fault) all is = checked_then a b (stops.BadRow fault) wire is
stops_then a b wire (stops.BadCounts client server) all is = checked_then a b (stops.BadCounts client server) wire is
stops_then a b wire (stops.Refused status word seen) all is = ends_then a b (unanswered.Refused status word seen) is
stops_then a b wire stops.Lost all is = ends_then a b unanswered.Lost is
stops_then a b wire stops.BadReply all is = ends_then a b unanswered.BadReply is
stops_then a b wire stops.TooManyChunks all is = many_then a b is
stops_then a b wire stops.Keep all is = all_append IsGranted a b all is
stops_then a b wire stops.Memory all is = memory_then a b all is

pub part_stops : {kind : WireKind} {T : Type 0} (a b : List TriedAsk) (wire : WireState kind) (result : Result T Stop) → AllGranted a
    → IfErr result (StopsFor b wire) → IfErr result (StopsFor (a ++ b) wire)
part_stops a b wire (Ok x) all is = tt
part_stops a b wire (Err stop) all is = stops_then a b wire stop all is

pub all_but_last : (a : List TriedAsk) → AllGranted a → AllGrantedButLast a
all_but_last [] all = tt
all_but_last (one ∷ []) all = tt
all_but_last (one ∷ next ∷ more) all = (all.0, all_but_last (next ∷ more) all.1)

-- the last of these was granted, and so was each before it
all_with_last : (tries : List TriedAsk) (it : TriedAsk) → IsLast it tries → IsGranted it → AllGrantedButLast tries → AllGranted tries
all_with_last tries it (before, is) granted but_last = subst AllGranted (sym is) (of before (subst AllGrantedButLast is but_last))
  where
    of : (a : List TriedAsk) → AllGrantedButLast (a ++ it ∷ []) → AllGranted (a ++ it ∷ [])
    of [] all = (granted, tt)
    of (one ∷ []) all = (all.0, (granted, tt))
    of (one ∷ next ∷ more) all = (all.0, of (next ∷ more) all.1)

pub but_last_then : (a b : List TriedAsk) → AllGranted a → AllGrantedButLast b → AllGrantedButLast (a ++ b)
but_last_then [] b one two = two
but_last_then (it ∷ []) [] one two = tt
but_last_then (it ∷ []) (next ∷ more) one two = (one.0, two)
but_last_then (it ∷ next ∷ more) b one two = (one.0, but_last_then (next ∷ more) b one.1 two)

pub granted_but_last : {T E : Type 0} (a : List TriedAsk) (result : Result T E) → AreGranted a result → AllGrantedButLast a
granted_but_last a (Ok x) all = all_but_last a all
granted_but_last a (Err e) all = all

pub granted_then : {T E : Type 0} (a b : List TriedAsk) (result : Result T E) → AllGranted a → AreGranted b result → AreGranted (a ++ b) result
granted_then a b (Ok x) one two = all_append IsGranted a b one two
granted_then a b (Err stop) one two = but_last_then a b one two

pub none_granted : {T E : Type 0} (result : Result T E) → AreGranted [] result
none_granted (Ok x) = tt
none_granted (Err e) = tt

pub one_but_last : {T E : Type 0} (it : TriedAsk) (result : Result T E) (Q : E → Type 0) → IsErrAnd result Q → AreGranted (it ∷ []) result
one_but_last it (Ok x) Q is = absurd is
one_but_last it (Err e) Q is = tt

pub rows_then : (a b : List TriedAsk) → AllByRecursion SendsRows (asks_in a) → AllByRecursion SendsRows (asks_in b)
    → AllByRecursion SendsRows (asks_in (a ++ b))
rows_then a b one two = subst (AllByRecursion SendsRows) (sym (asks_append a b)) (all_append SendsRows (asks_in a) (asks_in b) one two)

-- ---- a sanity check
pub verdict_is_bad : (reply : SanityReply) (stop : Stop) → verdict_of reply ≡ Err stop → shows_bad_check stop ≡ true
verdict_is_bad reply stop is = by reply.good is
  where
    same : (one other : Stop) → (let refused : Result (Unit {0}) Stop = Err one in refused ≡ Err other) → one ≡ other
    same one other is = grind (arith, is)

    not_err : (let good : Result (Unit {0}) Stop = Ok (tt {0}) in good ≡ Err stop) → ⊥
    not_err is = grind (arith, is)

    bad : (o : Option CheckFault) → shows_bad_check (check_stop o reply.client reply.server) ≡ true
    bad None = refl
    bad (Some fault) = refl

    by : (b : Bool) → (let found : Result (Unit {0}) Stop = if b then Ok (tt {0}) else Err (check_stop reply.fault reply.client reply.server) in found ≡ Err stop)
        → shows_bad_check stop ≡ true
    by true shown = absurd (not_err shown)
    by false shown = ap shows_bad_check (sym (same (check_stop reply.fault reply.client reply.server) stop shown)) ∙ bad reply.fault

-- an exchange that stops at a bad sanity check stops for what the check showed
checked_exactly : {kind : WireKind} (tries : List TriedAsk) (wire : WireState kind) (stop : Stop) → shows_bad_check stop ≡ true → (IsCheckedLast tries stop wire ↔ StopsFor tries wire stop)
checked_exactly tries wire (stops.BadRow fault) bad = (λ is. is, λ is. is)
checked_exactly tries wire (stops.BadCounts client server) bad = (λ is. is, λ is. is)
checked_exactly tries wire stops.Keep bad = absurd (grind (arith, bad))
checked_exactly tries wire stops.Memory bad = absurd (grind (arith, bad))
checked_exactly tries wire (stops.Refused status word seen) bad = absurd (grind (arith, bad))
checked_exactly tries wire stops.Lost bad = absurd (grind (arith, bad))
checked_exactly tries wire stops.BadReply bad = absurd (grind (arith, bad))
checked_exactly tries wire stops.TooManyChunks bad = absurd (grind (arith, bad))

pub check_stops : {kind : WireKind} (tries : List TriedAsk) (wire : WireState kind) (stop : Stop) → IsCheckedLast tries stop wire → StopsFor tries wire stop
check_stops tries wire stop is = (checked_exactly tries wire stop (verdict_is_bad is.reply stop is.verdict)).0 is

-- so all that it tried was granted
pub bad_check_granted : {kind : WireKind} (tries : List TriedAsk) (wire : WireState kind) (stop : Stop) → shows_bad_check stop ≡ true → AllGrantedButLast tries
    → StopsFor tries wire stop → AllGranted tries
bad_check_granted tries wire stop bad but_last is =
    let checked = (checked_exactly tries wire stop bad).1 is in
    all_with_last tries checked.it checked.last checked.granted but_last

-- a sanity check does not stop a sync because the keeper failed
pub unkept_verdict : (reply : SanityReply) (result : Result (Unit {0}) Stop) → result ≡ verdict_of reply → IsUnkept result
unkept_verdict reply result is = subst (λ (r : Result (Unit {0}) Stop). IsUnkept r) (sym is) (by reply.good)
  where
    bad : (o : Option CheckFault) → is_keep (check_stop o reply.client reply.server) ≡ false
    bad None = refl
    bad (Some fault) = refl

    by : (b : Bool) → IsUnkept {T = Unit {0}} (if b then Ok (tt {0}) else Err (check_stop reply.fault reply.client reply.server))
    by true = tt
    by false = bad reply.fault

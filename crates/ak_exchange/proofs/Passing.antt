-- A part of a sync leads from one place of its plan to another.
use Rattle.std.specs.List.{AllByRecursion}
use Rattle.std.specs.Prelude.{◌≡◌, ℕ, ◌+◌, ◌≤◌, ℤ, ◌&&◌, Bool, true, false, is_some, if◌then◌else◌, List, [], ◌∷◌, ◌++◌, Option, Some, Result, Ok, Err, IsErrAnd, IfOk, IfErr, OnOk}
use Rattle.std.proofs.Common.{refl, sym, ap, subst, ◌∙◌, append_assoc, append-nil, inl, inr}
use Rattle.std.proofs.lemmas.List.{length-append}
use Rattle.std.proofs.lemmas.List.Elements.{filter-append}
use Rattle.ak_exchange.proofs.Replying.{replies_go_on}
use Rattle.ak_exchange.proofs.Stepping.{asks_one}
use Rattle.ak_exchange.proofs.Stopping.{IsKept, IsRefused, IsRefusedAfter, StopsAfter, all_but_last, all_granted, granted_shows, granted_then, none_granted, not_ok, one_but_last, part_stops, quiet_stops, refused_after_is_fair, refused_after_stops, refusal_shows, refused_is_fair, refused_stops, rows_then, spoilt, unless_map, unless_then, was_granted, was_not_granted}
use Rattle.ak_exchange.proofs.Tried.{asked_none, asked_then, asks_append, few_more, few_none, few_then}
use Rattle.ak_exchange.specs.Asked.{AreAsked, AreFew, AreTried, Talk, TriedAsk, asker, asks_in, request_at}
use Rattle.ak_exchange.specs.Grants.{AreGranted, AreTooMany, IsGranted, IsNotGranted, SendsRows, StopsFor, are_granted, granted_of, grants, is_in_form}
use Rattle.ak_exchange.specs.Phases.{Advances, HasAsked, HasExchanged, HasTenMillionRows, IsAt, IsFairStop, IsLeft, IsMet, IsReached, Place, UnlessHalfDone, all_came_by, came_by, marked_at}
use Rattle.ak_exchange.specs.Stops.{is_keep_or_memory}
use Rattle.ak_exchange.specs.declared.envelopes.Envelopes.{Envelopes}
use Rattle.ak_exchange.specs.declared.envelopes.Met.{Met}
use Rattle.ak_exchange.specs.declared.stops.Stop.{Stop}
use Rattle.ak_exchange.specs.declared.stops.Stop.TheVariants as stops
use Rattle.ak_device.proofs.Receiving.{received_nothing}
use Rattle.ak_device.proofs.TakingAndSettling.{changed_then, more_taken, one_more_taken}
use Rattle.ak_device.specs.Devices.{received}
use Rattle.ak_device.specs.Settlings.{settled_by, taken_and_settled}
use Rattle.ak_keep.specs.Collections.{Collection}
use Rattle.ak_keep.specs.Keepers.{Keeping, changed}
use Rattle.ak_merge.specs.Commits.{Received}
use Rattle.ak_messages.specs.declared.replies.Give.{Give}
use Rattle.ak_messages.specs.declared.requests.Ask.{Ask}
use Rattle.ak_messages.specs.declared.requests.Request.{Request}
use Rattle.ak_protocol.specs.Accounts.{AccountState}
use Rattle.ak_session.proofs.Ranges.{all_append, not_both}
use Rattle.ak_session.proofs.Steps.{nothing_first, nothing_last, then_then}
use Rattle.ak_session.specs.Answers.{answer_to}
use Rattle.ak_session.specs.Asks.{and_then}
use Rattle.ak_session.specs.Plans.{Asker, planned}
use Rattle.ak_session.specs.Replies.{replied, all_replied}
use Rattle.ak_session.specs.Requests.{asks_commit, is_download, is_meta}
use Rattle.ak_session.specs.Sessions.{MaySync}
use Rattle.ak_client_wire.specs.Tries.{Answered}
use Rattle.ak_client_wire.specs.Wires.{WireKind, WireState}
use Rattle.ak_client_wire.specs.declared.asks.Unanswered.{Unanswered}

abbrev IsPlain : Ask → Type 0
IsPlain ask = asks_commit ask ≡ false

-- ---- nothing was asked
-- a place is within the plan
abbrev pub LeadsOn : Place → Type 0
LeadsOn place = (c s : Collection) (asked : List Ask) → MaySync c s → place c s asked → (rest : List Ask) × (asked ++ rest ≡ planned c s)

-- a sync that asked these is left there
pub left_here : {kind : WireKind} (place : Place) → LeadsOn place → (c s : Collection) (account : AccountState) (asked : List Ask) (was now : Talk kind)
    → HasAsked c s account asked place was → now.wire ≡ was.wire → IsLeft c s account (asker was.envelopes.ids) asked now
left_here {kind} place on c s account asked was now has same = record {
  reached = subst (λ (w : WireState kind). IsReached (asker was.envelopes.ids) account s asked w.log) (sym same) has.reached;
  front = λ may. on c s asked may (has.placed may);
}

-- a part that asked nothing and was refused
pub stays_here : {kind : WireKind} {T : Type 0} (pulled pushed others : ℕ) (from to : Place) (met : Met) (before after : Keeping) (was now : Talk kind) (result : Result T Stop)
    → LeadsOn from → now.health ≡ was.health → now.wire ≡ was.wire → now.envelopes ≡ was.envelopes → IsRefused result
    → Advances pulled pushed others from to met before after was now result
stays_here pulled pushed others from to met before after was now result on health wire envelopes is = record {
  tries = [];
  asked = asked_none was now health wire envelopes;
  few = few_none pulled pushed others;
  granted = none_granted result;
  rows = tt;
  plain = tt;
  ends = refused_stops now.wire result is;
  device = spoilt [] result (HasExchanged met.meta.usn [] before after) refl is;
  leads = λ c s account earlier met_is at. (
    subst (λ (l : List Ask). IsLeft c s account (asker was.envelopes.ids) l now) (sym (append-nil earlier))
        (left_here from on c s account earlier was now at.has wire),
    not_ok result (λ (stop : Stop). is_keep_or_memory stop ≡ true) (IsAt c s account (earlier ++ []) to after now) is,
    refused_is_fair c s result is,
  );
}

-- ---- what came and was settled
-- the answers to these and then to more
came_append : (a b : List TriedAsk) → all_came_by (a ++ b) ≡ and_then (all_came_by a) (all_came_by b)
came_append [] b = sym (nothing_first (all_came_by b))
came_append (it ∷ a) b = ap (and_then (came_by it.answer)) (came_append a b) ∙ sym (then_then (came_by it.answer) (all_came_by a) (all_came_by b))

-- a keeper that took what the answers to these brought, and settled what they sent
abbrev TookAll : ℤ → List TriedAsk → Keeping → Keeping → Type 0
TookAll usn tries before now = now ≡ changed (taken_and_settled usn (all_came_by tries) (asks_in tries)) before

took_then : (usn : ℤ) (a b : List TriedAsk) (k0 k1 k2 : Keeping) → TookAll usn a k0 k1 → TookAll usn b k1 k2 → TookAll usn (a ++ b) k0 k2
took_then usn a b k0 k1 k2 one two =
    more_taken usn (all_came_by a) (all_came_by b) (asks_in a) (asks_in b) k0 k1 k2 one two
    ∙ ap (λ (came : Received). changed (taken_and_settled usn came (asks_in a ++ asks_in b)) k0) (sym (came_append a b))
    ∙ ap (λ (sent : List Ask). changed (taken_and_settled usn (all_came_by (a ++ b)) sent) k0) (sym (asks_append a b))

exchanged_then : (usn : ℤ) (a b : List TriedAsk) (k0 k1 k2 : Keeping) → HasExchanged usn a k0 k1 → HasExchanged usn b k1 k2 → HasExchanged usn (a ++ b) k0 k2
exchanged_then usn a b k0 k1 k2 one two =
    subst (λ (l : List TriedAsk). TookAll usn l k0 k2) (sym (filter-append (λ (it : TriedAsk). grants it.ask it.answer) a b))
    (took_then usn (granted_of a) (granted_of b) k0 k1 k2 one two)

pub exchanged_one : (usn : ℤ) (it : TriedAsk) (granted : IsGranted it) (k0 k1 k2 : Keeping)
    → k1 ≡ changed (received usn (replied granted.reply.give)) k0 → k2 ≡ changed (settled_by usn it.ask) k1 → HasExchanged usn (it ∷ []) k0 k2
exchanged_one usn it granted k0 k1 k2 one two =
    subst (λ (b : Bool). TookAll usn (if b then it ∷ [] else []) k0 k2) (sym (granted_shows it granted))
    (changed_then (received usn (replied granted.reply.give)) (settled_by usn it.ask) (taken_and_settled usn (replied granted.reply.give) (it.ask ∷ [])) (λ h. refl) k0 k1 k2 one two
    ∙ ap (λ (came : Received). changed (taken_and_settled usn came (it.ask ∷ [])) k0) (sym (nothing_last (came_by it.answer) ∙ ap came_by granted.is)))

-- it was not granted
exchanged_none : (usn : ℤ) (it : TriedAsk) (why : Unanswered) (k0 k1 : Keeping) → IsNotGranted it why → k1 ≡ k0 → HasExchanged usn (it ∷ []) k0 k1
exchanged_none usn it why k0 k1 not_so same =
    subst (λ (b : Bool). TookAll usn (if b then it ∷ [] else []) k0 k1) (sym (refusal_shows it why not_so)) (same ∙ received_nothing usn k0)

-- a part that was refused once it had asked one: it was granted, so the keeper or memory refused what was left to do, or it was not
exchanged_refused : {T G : Type 0} (usn : ℤ) (it : TriedAsk) (given : Result G Unanswered) (k0 k1 : Keeping) (result : Result T Stop)
    → ((g : G) → given ≡ Ok g → IsGranted it) → ((why : Unanswered) → given ≡ Err why → IsNotGranted it why) → IsKept given k0 k1 → IsRefusedAfter given result
    → UnlessHalfDone (it ∷ []) result (HasExchanged usn (it ∷ []) k0 k1)
exchanged_refused {G = G} usn it given k0 k1 (Ok x) so not_so kept is = absurd is
exchanged_refused {G = G} usn it given k0 k1 (Err stop) so not_so kept is = by is
  where
    own : Bool
    own = is_keep_or_memory stop

    shown : (g : G) → given ≡ Ok g → own ≡ true → (own && are_granted (it ∷ [])) ≡ true
    shown g was quiet =
        ap (λ (b : Bool). b && are_granted (it ∷ [])) quiet ∙ ap (λ (b : Bool). b && true) (granted_shows it (so g was))

    by : StopsAfter given stop → (own && are_granted (it ∷ [])) ≡ false → HasExchanged usn (it ∷ []) k0 k1
    by (inl (g, was, quiet)) whole = absurd (not_both (shown g was quiet) whole)
    by (inr (why, was, same)) whole = exchanged_none usn it why k0 k1 (not_so why was) (kept why was)

-- whether a head is held stays
pub advances_held : {kind : WireKind} {T : Type 0} (p q o : ℕ) (from to : Place) (met : Met) (k0 k1 : Keeping) (t0 t1 : Talk kind) (result : Result T Stop)
    → Advances p q o from to met k0 k1 t0 t1 result → k0.headed.current ≡ true → OnOk result (k1.headed.current ≡ true)
advances_held {kind} {T} p q o from to met k0 k1 t0 t1 result one held =
    by result one.device
  where
    by : (r : Result T Stop) → UnlessHalfDone one.tries r (HasExchanged met.meta.usn one.tries k0 k1) → OnOk r (k1.headed.current ≡ true)
    by (Ok x) is = ap (λ (k : Keeping). k.headed.current) is ∙ held
    by (Err stop) is = tt

-- ---- one part after another
pub advances_then : {kind : WireKind} {T U : Type 0} (p q o p2 q2 o2 : ℕ) (from mid to : Place) (met : Met) (k0 k1 k2 : Keeping) (t0 t1 t2 : Talk kind) (x : T) (result : Result U Stop)
    → Advances p q o from mid met k0 k1 t0 t1 (Ok x) → Advances p2 q2 o2 mid to met k1 k2 t1 t2 result
    → Advances (p + p2) (q + q2) (o + o2) from to met k0 k2 t0 t2 result
advances_then p q o p2 q2 o2 from mid to met k0 k1 k2 t0 t1 t2 x result one two = record {
  tries = one.tries ++ two.tries;
  asked = asked_then one.tries two.tries t0 t1 t2 one.asked two.asked;
  few = few_then one.tries two.tries p q o p2 q2 o2 one.few two.few;
  granted = granted_then one.tries two.tries result one.granted two.granted;
  rows = rows_then one.tries two.tries one.rows two.rows;
  plain = subst (AllByRecursion IsPlain) (sym (asks_append one.tries two.tries)) (all_append IsPlain (asks_in one.tries) (asks_in two.tries) one.plain two.plain);
  ends = part_stops one.tries two.tries t2.wire result one.granted two.ends;
  device = unless_then one.tries two.tries result (HasExchanged met.meta.usn (one.tries ++ two.tries) k0 k2) one.granted
      (unless_map two.tries result (HasExchanged met.meta.usn two.tries k1 k2) (HasExchanged met.meta.usn (one.tries ++ two.tries) k0 k2)
      (exchanged_then met.meta.usn one.tries two.tries k0 k1 k2 one.device) two.device);
  leads = λ c s account earlier met_is at.
      let there = two.leads c s account (earlier ++ asks_in one.tries) met_is (one.leads c s account earlier met_is at).1 in
      subst (λ (l : List Ask). IsLeft c s account (asker t0.envelopes.ids) l t2 × OnOk result (IsAt c s account l to k2 t2) × IfErr result (λ (stop : Stop). MaySync c s → IsFairStop c s stop))
      (append_assoc earlier (asks_in one.tries) (asks_in two.tries)
      ∙ ap (λ (l : List Ask). earlier ++ l) (sym (asks_append one.tries two.tries))) (
        subst (λ (e : Envelopes). IsLeft c s account (asker e.ids) ((earlier ++ asks_in one.tries) ++ asks_in two.tries) t2) one.asked.envelopes there.0,
        there.1,
        there.2,
      );
}

-- with what both tried
pub both_tried : {kind : WireKind} {T U : Type 0} (p q o p2 q2 o2 : ℕ) (from mid to : Place) (met : Met) (k0 k1 k2 : Keeping) (t0 t1 t2 : Talk kind) (x : T) (result : Result U Stop)
    → (one : Advances p q o from mid met k0 k1 t0 t1 (Ok x)) → (two : Advances p2 q2 o2 mid to met k1 k2 t1 t2 result)
    → (it : Advances (p + p2) (q + q2) (o + o2) from to met k0 k2 t0 t2 result) × (it.tries ≡ one.tries ++ two.tries)
unfolding advances_then
both_tried p q o p2 q2 o2 from mid to met k0 k1 k2 t0 t1 t2 x result one two =
    (advances_then p q o p2 q2 o2 from mid to met k0 k1 k2 t0 t1 t2 x result one two, refl)

-- the same place, told in other words
pub advances_to : {kind : WireKind} {T U : Type 0} (p q o : ℕ) (from mid to : Place) (met : Met) (k0 k1 : Keeping) (t0 t1 : Talk kind) (x : T) (y : U)
    → ((c s : Collection) (asked : List Ask) → MaySync c s → mid c s asked → to c s asked)
    → Advances p q o from mid met k0 k1 t0 t1 (Ok x) → Advances p q o from to met k0 k1 t0 t1 (Ok y)
advances_to p q o from mid to met k0 k1 t0 t1 x y so one = record {
  tries = one.tries;
  asked = one.asked;
  few = one.few;
  granted = one.granted;
  rows = one.rows;
  plain = one.plain;
  ends = tt;
  device = one.device;
  leads = λ c s account earlier met_is at.
      let there = one.leads c s account earlier met_is at in (
        there.0,
        record {
          has = record {
            base = there.1.has.base;
            step = there.1.has.step;
            reached = there.1.has.reached;
            placed = λ may. so c s (earlier ++ asks_in one.tries) may (there.1.has.placed may);
          };
          device = there.1.device;
        },
        tt,
      );
}

-- with what was tried
pub same_tried : {kind : WireKind} {T U : Type 0} (p q o : ℕ) (from mid to : Place) (met : Met) (k0 k1 : Keeping) (t0 t1 : Talk kind) (x : T) (y : U)
    → ((c s : Collection) (asked : List Ask) → MaySync c s → mid c s asked → to c s asked)
    → (one : Advances p q o from mid met k0 k1 t0 t1 (Ok x)) → (it : Advances p q o from to met k0 k1 t0 t1 (Ok y)) × (it.tries ≡ one.tries)
unfolding advances_to
same_tried p q o from mid to met k0 k1 t0 t1 x y so one = (advances_to p q o from mid to met k0 k1 t0 t1 x y so one, refl)

-- nothing was asked, and nothing was refused
pub at_start : {kind : WireKind} {T : Type 0} (p q o : ℕ) (from to : Place) (met : Met) (k0 k1 : Keeping) (was now : Talk kind) (x : T) → LeadsOn from
    → ((c s : Collection) (account : AccountState) (asked : List Ask) → IsMet c s met → IsAt c s account asked from k0 was → MaySync c s → to c s asked)
    → k1 ≡ k0 → now.health ≡ was.health → now.wire ≡ was.wire → now.envelopes ≡ was.envelopes → Advances p q o from to met k0 k1 was now (Ok x)
at_start {kind} p q o from to met k0 k1 was now x on so kept health wire envelopes = record {
  tries = [];
  asked = asked_none was now health wire envelopes;
  few = few_none p q o;
  granted = tt;
  rows = tt;
  plain = tt;
  ends = tt;
  device = kept ∙ received_nothing met.meta.usn k0;
  leads = λ c s account earlier met_is at.
      subst (λ (l : List Ask). IsLeft c s account (asker was.envelopes.ids) l now × IsAt c s account l to k1 now × Unit {0}) (sym (append-nil earlier)) (
        left_here from on c s account earlier was now at.has wire,
        record {
          has = record {
            base = ap (λ (e : Envelopes). e.base) envelopes ∙ at.has.base;
            step = ap (λ (e : Envelopes). e.step) envelopes ∙ at.has.step;
            reached = subst (λ (e : Envelopes). IsReached (asker e.ids) account s earlier now.wire.log) (sym envelopes)
                (subst (λ (w : WireState kind). IsReached (asker was.envelopes.ids) account s earlier w.log) (sym wire) at.has.reached);
            placed = λ may. so c s account earlier met_is at may;
          };
          device = kept ∙ at.device;
        },
        tt,
      );
}

-- the same place of any result, told in other words
pub advances_place : {kind : WireKind} {T : Type 0} (p q o : ℕ) (from mid to : Place) (met : Met) (k0 k1 : Keeping) (t0 t1 : Talk kind) (result : Result T Stop)
    → ((c s : Collection) (asked : List Ask) → MaySync c s → mid c s asked → to c s asked)
    → Advances p q o from mid met k0 k1 t0 t1 result → Advances p q o from to met k0 k1 t0 t1 result
advances_place p q o from mid to met k0 k1 t0 t1 (Ok x) so one = advances_to p q o from mid to met k0 k1 t0 t1 x x so one
advances_place p q o from mid to met k0 k1 t0 t1 (Err stop) so one = record {
  tries = one.tries;
  asked = one.asked;
  few = one.few;
  granted = one.granted;
  rows = one.rows;
  plain = one.plain;
  ends = one.ends;
  device = one.device;
  leads = λ c s account earlier met_is at. let led = one.leads c s account earlier met_is at in (led.0, tt, led.2);
}

-- of more requests at most
pub advances_more : {kind : WireKind} {T : Type 0} (p q o p2 q2 o2 : ℕ) (from to : Place) (met : Met) (k0 k1 : Keeping) (t0 t1 : Talk kind) (result : Result T Stop)
    → p ≤ p2 → q ≤ q2 → o ≤ o2 → Advances p q o from to met k0 k1 t0 t1 result → Advances p2 q2 o2 from to met k0 k1 t0 t1 result
advances_more p q o p2 q2 o2 from to met k0 k1 t0 t1 result pulled pushed others one = record {
  tries = one.tries;
  asked = one.asked;
  few = few_more (asks_in one.tries) p q o p2 q2 o2 pulled pushed others one.few;
  granted = one.granted;
  rows = one.rows;
  plain = one.plain;
  ends = one.ends;
  device = one.device;
  leads = one.leads;
}

-- a part that went well, and then stopped all the same, for a reason that what it asked shows
advances_stopped : {kind : WireKind} {T U : Type 0} (p q o : ℕ) (from mid to : Place) (met : Met) (k0 k1 k2 : Keeping) (t0 t1 : Talk kind) (x : T) (result : Result U Stop)
    → (one : Advances p q o from mid met k0 k1 t0 t1 (Ok x)) → IsErrAnd result (StopsFor one.tries t1.wire)
    → ((c s : Collection) (account : AccountState) (asked : List Ask) → IsAt c s account asked mid k1 t1 → IfErr result (λ (stop : Stop). MaySync c s → IsFairStop c s stop))
    → UnlessHalfDone one.tries result (k2 ≡ k1) → Advances p q o from to met k0 k2 t0 t1 result
advances_stopped {U = U} p q o from mid to met k0 k1 k2 t0 t1 x result one is fair kept = record {
  tries = one.tries;
  asked = one.asked;
  few = one.few;
  granted = refused_granted result is;
  rows = one.rows;
  plain = one.plain;
  ends = if_refused result is;
  device = unless_map one.tries result (k2 ≡ k1) (HasExchanged met.meta.usn one.tries k0 k2) (λ same. same ∙ one.device) kept;
  leads = λ c s account earlier met_is at. (
    (one.leads c s account earlier met_is at).0,
    not_ok result (StopsFor one.tries t1.wire) (IsAt c s account (earlier ++ asks_in one.tries) to k2 t1) is,
    fair c s account (earlier ++ asks_in one.tries) (one.leads c s account earlier met_is at).1,
  );
}
  where
    refused_granted : (r : Result U Stop) → IsErrAnd r (StopsFor one.tries t1.wire) → AreGranted one.tries r
    refused_granted (Ok y) is = absurd is
    refused_granted (Err stop) is = all_but_last one.tries one.granted

    if_refused : (r : Result U Stop) → IsErrAnd r (StopsFor one.tries t1.wire) → IfErr r (StopsFor one.tries t1.wire)
    if_refused (Ok y) is = tt
    if_refused (Err stop) is = is

-- a part that went well, and then was refused all the same
pub advances_left : {kind : WireKind} {T U : Type 0} (p q o : ℕ) (from mid to : Place) (met : Met) (k0 k1 k2 : Keeping) (t0 t1 : Talk kind) (x : T) (result : Result U Stop) → IsRefused result
    → Advances p q o from mid met k0 k1 t0 t1 (Ok x) → Advances p q o from to met k0 k2 t0 t1 result
advances_left {U = U} p q o from mid to met k0 k1 k2 t0 t1 x result is one =
    advances_stopped p q o from mid to met k0 k1 k2 t0 t1 x result one (each result is) (λ c s account asked there. refused_is_fair c s result is)
    (spoilt one.tries result (k2 ≡ k1) (all_granted one.tries one.granted) is)
  where
    each : (r : Result U Stop) → IsRefused r → IsErrAnd r (StopsFor one.tries t1.wire)
    each (Ok y) is = is
    each (Err stop) is = quiet_stops one.tries t1.wire stop one.granted is

-- a part that went well, and asked for too much
pub advances_many : {kind : WireKind} {T U : Type 0} (p q o : ℕ) (from mid to : Place) (met : Met) (k0 k1 k2 : Keeping) (t0 t1 : Talk kind) (x : T)
    → (one : Advances p q o from mid met k0 k1 t0 t1 (Ok x)) → AreTooMany one.tries
    → ((c s : Collection) (account : AccountState) (asked : List Ask) → IsAt c s account asked mid k1 t1 → MaySync c s → HasTenMillionRows c s)
    → k2 ≡ k1 → Advances {T = U} p q o from to met k0 k2 t0 t1 (Err stops.TooManyChunks)
advances_many p q o from mid to met k0 k1 k2 t0 t1 x one many rows same =
    advances_stopped p q o from mid to met k0 k1 k2 t0 t1 x (Err stops.TooManyChunks) one many rows (λ whole. same)

-- a refusal that was handed on
pub advances_passed : {kind : WireKind} {T U : Type 0} (p q o : ℕ) (from mid to : Place) (met : Met) (k0 k1 : Keeping) (t0 t1 : Talk kind) (e : Stop) (result : Result U Stop)
    → IsErrAnd result (λ (stop : Stop). stop ≡ e) → Advances {T = T} p q o from mid met k0 k1 t0 t1 (Err e) → Advances p q o from to met k0 k1 t0 t1 result
advances_passed p q o from mid to met k0 k1 t0 t1 e (Ok x) is one = absurd is
advances_passed p q o from mid to met k0 k1 t0 t1 e (Err stop) is one = record {
  tries = one.tries;
  asked = one.asked;
  few = one.few;
  granted = one.granted;
  rows = one.rows;
  plain = one.plain;
  ends = subst (StopsFor one.tries t1.wire) (sym is) one.ends;
  device = λ whole. one.device (ap (λ (it : Stop). is_keep_or_memory it && are_granted one.tries) (sym is) ∙ whole);
  leads = λ c s account earlier met_is at.
      let led = one.leads c s account earlier met_is at in (led.0, tt, λ may. subst (IsFairStop c s) (sym is) (led.2 may));
}

-- over a keeper that was left as it was
pub advances_kept : {kind : WireKind} {T : Type 0} (p q o : ℕ) (from to : Place) (met : Met) (k0 k1 : Keeping) (t0 t1 : Talk kind) (result : Result T Stop)
    → k1 ≡ k0 → Advances p q o from to met k0 k0 t0 t1 result → Advances p q o from to met k0 k1 t0 t1 result
advances_kept p q o from to met k0 k1 t0 t1 result same one = subst (λ (k : Keeping). Advances p q o from to met k0 k t0 t1 result) (sym same) one

-- over a keeper that was as this one is
pub advances_from : {kind : WireKind} {T : Type 0} (p q o : ℕ) (from to : Place) (met : Met) (k0 k1 k2 : Keeping) (t0 t1 : Talk kind) (result : Result T Stop)
    → k1 ≡ k0 → Advances p q o from to met k1 k2 t0 t1 result → Advances p q o from to met k0 k2 t0 t1 result
advances_from p q o from to met k0 k1 k2 t0 t1 result same one = subst (λ (k : Keeping). Advances p q o from to met k k2 t0 t1 result) same one

-- ---- one request
module _ {kind : WireKind} {G : Type 0} (was now : Talk kind) (ask : Ask) (it : Request) (part : Give → Option G) (given : Result G Unanswered)
    (made : it ≡ request_at (asker was.envelopes.ids) was.envelopes.base (was.envelopes.step + 1) ask)
    (envelopes : now.envelopes ≡ record was.envelopes { step = was.envelopes.step + 1 })
    (call : Answered was.health now.health was.wire now.wire it part given) where
  -- it was tried
  abbrev pub tried_one : TriedAsk
  tried_one = record { ask = ask; answer = call.answer }

  pub asked_one : AreAsked (tried_one ∷ []) was now
  asked_one = record {
    tried = subst (λ (r : Request). AreTried (r ∷ []) (call.answer ∷ []) was.health now.health was.wire now.wire) made
        (now.health, now.wire, call.tried, (refl, refl));
    envelopes = envelopes;
  }

  module _ (later : is_meta ask ≡ false) (reads : is_download ask ≡ false) (plain : asks_commit ask ≡ false) where
    -- the sync is still under way, and what its reply gives is what the session answers
    pub shown_one : (c s : Collection) (account : AccountState) (asked : List Ask) (place : Place) → HasAsked c s account asked place was
        → IsReached (asker was.envelopes.ids) account s (asked ++ ask ∷ []) now.wire.log
        × IfOk given (λ (g : G). part (answer_to s asked ask) ≡ Some g)
    shown_one c s account asked place has =
        let who : Asker = asker was.envelopes.ids in
        let same : it ≡ request_at who s.head.moment (was.envelopes.step + 1) ask =
        made ∙ ap (λ (base : ℤ). request_at who base (was.envelopes.step + 1) ask) has.base in
        asks_one who account s asked ask was.health now.health was.wire now.wire part (was.envelopes.step + 1) given later reads plain
        (ap (λ (n : ℕ). n + 1) has.step) has.reached
        (subst (λ (r : Request). Answered was.health now.health was.wire now.wire r part given) same call)

    pub has_one : (c s : Collection) (account : AccountState) (asked : List Ask) (from to : Place) → HasAsked c s account asked from was
        → (MaySync c s → to c s (asked ++ ask ∷ [])) → HasAsked c s account (asked ++ ask ∷ []) to now
    has_one c s account asked from to has leads = record {
      base = ap (λ (e : Envelopes). e.base) envelopes ∙ has.base;
      step = ap (λ (e : Envelopes). e.step) envelopes ∙ ap (λ (n : ℕ). n + 1) has.step ∙ sym (length-append asked (ask ∷ []));
      reached = subst (λ (e : Envelopes). IsReached (asker e.ids) account s (asked ++ ask ∷ []) now.wire.log) (sym envelopes)
          (shown_one c s account asked from has).0;
      placed = leads;
    }

    module _ (p q o : ℕ) (few : AreFew p q o (ask ∷ [])) (from : Place) (met : Met) (before : Keeping)
        (next : (c s : Collection) (account : AccountState) (asked : List Ask) → IsMet c s met → IsAt c s account asked from before was → MaySync c s
        → (rest : List Ask) × (asked ++ ask ∷ rest ≡ planned c s)) where
      pub left_one : (c s : Collection) (account : AccountState) (asked : List Ask) → IsMet c s met → IsAt c s account asked from before was
          → IsLeft c s account (asker was.envelopes.ids) (asked ++ ask ∷ []) now
      left_one c s account asked met_is at = record {
        reached = (shown_one c s account asked from at.has).0;
        front = λ may. let rest = next c s account asked met_is at may in (rest.0, append_assoc asked (ask ∷ []) rest.0 ∙ rest.1);
      }

      module _ (form : (give : Give) → is_in_form ask give ≡ is_some (part give)) (sends : SendsRows ask) where
        -- what the reply brought was taken, and what was sent was settled
        abbrev IsTaken : Give → Keeping → Type 0
        IsTaken give after = (mid : Keeping) × (mid ≡ changed (received met.meta.usn (replied give)) before) × (after ≡ changed (settled_by met.meta.usn ask) mid)

        -- the part was refused once it had asked this
        pub refused_after : {T : Type 0} (to : Place) (after : Keeping) (result : Result T Stop) → IsKept given before after → IsRefusedAfter given result
            → Advances p q o from to met before after was now result
        refused_after {T} to after result kept is = record {
          tries = tried_one ∷ [];
          asked = asked_one;
          few = few;
          granted = one_but_last tried_one result (StopsAfter given) is;
          rows = (sends, tt);
          plain = (plain, tt);
          ends = refused_after_stops now.wire tried_one given result
              (λ g came. (was_granted part ask form call.answer g (sym call.came ∙ came)).granted)
              (λ why came. was_not_granted part ask form call.answer why (sym call.came ∙ came)) is;
          device = exchanged_refused met.meta.usn tried_one given before after result
              (λ g came. (was_granted part ask form call.answer g (sym call.came ∙ came)).granted)
              (λ why came. was_not_granted part ask form call.answer why (sym call.came ∙ came)) kept is;
          leads = λ c s account earlier met_is at.
              (left_one c s account earlier met_is at, not_ok result (StopsAfter given) (IsAt c s account (earlier ++ ask ∷ []) to after now) is, refused_after_is_fair c s given result is);
        }

        -- it was given this, the device took it, and that leads to a place
        pub took_after : {T : Type 0} (to : Place) (after : Keeping) (x : T) (g : G) → given ≡ Ok g
            → ((give : Give) → part give ≡ Some g → IsTaken give after)
            → ((c s : Collection) (account : AccountState) (asked : List Ask) → IsMet c s met → IsAt c s account asked from before was
            → part (answer_to s asked ask) ≡ Some g → MaySync c s → to c s (asked ++ ask ∷ []))
            → Advances p q o from to met before after was now (Ok x)
        took_after to after x g came took leads = record {
          tries = tried_one ∷ [];
          asked = asked_one;
          few = few;
          granted = ((was_granted part ask form call.answer g (sym call.came ∙ came)).granted, tt);
          rows = (sends, tt);
          plain = (plain, tt);
          ends = tt;
          device =
              let gave = was_granted part ask form call.answer g (sym call.came ∙ came) in
              let taken = took gave.granted.reply.give gave.gave in
              exchanged_one met.meta.usn tried_one gave.granted before taken.0 after taken.1 taken.2;
          leads = λ c s account earlier met_is at.
              let told : part (answer_to s earlier ask) ≡ Some g =
              subst (λ (r : Result G Unanswered). IfOk r (λ (it : G). part (answer_to s earlier ask) ≡ Some it)) came
              (shown_one c s account earlier from at.has).1 in (
                left_one c s account earlier met_is at,
                record {
                  has = has_one c s account earlier from to at.has (leads c s account earlier met_is at told);
                  device =
                      let taken = took (answer_to s earlier ask) told in
                      one_more_taken s.head.usn (all_replied s earlier) (replied (answer_to s earlier ask)) earlier ask (marked_at c) before taken.0 after at.device
                      (subst (λ (usn : ℤ). taken.0 ≡ changed (received usn (replied (answer_to s earlier ask))) before) met_is.usn taken.1)
                      (subst (λ (usn : ℤ). after ≡ changed (settled_by usn ask) taken.0) met_is.usn taken.2)
                      ∙ ap (λ (came : Received). changed (taken_and_settled s.head.usn came (earlier ++ ask ∷ [])) (marked_at c)) (sym (replies_go_on s earlier ask));
                },
                tt,
              );
        }

        -- with what was tried
        pub one_tried : {T : Type 0} (to : Place) (after : Keeping) (x : T) (g : G) → given ≡ Ok g
            → ((give : Give) → part give ≡ Some g → IsTaken give after)
            → ((c s : Collection) (account : AccountState) (asked : List Ask) → IsMet c s met → IsAt c s account asked from before was
            → part (answer_to s asked ask) ≡ Some g → MaySync c s → to c s (asked ++ ask ∷ []))
            → (it : Advances p q o from to met before after was now (Ok x)) × (it.tries ≡ tried_one ∷ [])
        unfolding took_after
        one_tried to after x g came took leads = (took_after to after x g came took leads, refl)

-- Why a transfer ended, and what the wire shows of it.
use Rattle.std.specs.Prelude.{◌≡◌, ◌≢◌, ◌==◌, ℕ, ◌≤◌, ℤ, Bool, true, false, if◌then◌else◌, List, Option, Some, None, Result, Ok, Err, OnErr, ok_or, ⊤, ◌⊎◌}
use Rattle.std.proofs.Common.{refl, sym, ap, subst, ◌∙◌, inl, inr, arith}
use Rattle.ak_client.proofs.Testing.{of_clocks}
use Rattle.ak_client.specs.Greetings.{clock_stop, meta_of}
use Rattle.ak_client.specs.Outcomes.{HasLostThrice, HasOutcomeCause, ShowsRefusal, outcome_at, outcome_of}
use Rattle.ak_client.specs.declared.outcomes.Outcome.{Outcome}
use Rattle.ak_client.specs.declared.outcomes.Outcome.TheVariants as outcomes
use Rattle.ak_client_wire.specs.Forms.{meta_in}
use Rattle.ak_client_wire.specs.Tries.{Tried, granted_in, in_form, silence_tried}
use Rattle.ak_client_wire.specs.Wires.{WireKind, more, said_after, said_of}
use Rattle.ak_client_wire.specs.declared.asks.Unanswered.{Unanswered}
use Rattle.ak_client_wire.specs.declared.asks.Unanswered.TheVariants as unanswered
use Rattle.ak_client_wire.specs.declared.wires.MetaSaid.{MetaSaid}
use Rattle.ak_client_wire.specs.declared.wires.Said.{Said}
use Rattle.ak_client_wire.specs.declared.wires.WireEnd.{WireEnd}
use Rattle.ak_client_wire.specs.declared.wires.WireEnd.TheVariants as ends
use Rattle.ak_exchange.specs.Asked.{asker, request_at}
use Rattle.ak_exchange.specs.Stops.{wire_stop}
use Rattle.ak_exchange.specs.declared.envelopes.Ids.{Ids}
use Rattle.ak_faults.proofs.Healths.{goes_further, goes_nowhere}
use Rattle.ak_faults.specs.Causes.{GoesOn, Rose, one_more}
use Rattle.ak_keep.specs.Keepers.{Keeping}
use Rattle.ak_merge.specs.Edits.{second_of}
use Rattle.ak_messages.specs.declared.replies.Give.{Give}
use Rattle.ak_messages.specs.declared.replies.Reply.{Reply}
use Rattle.ak_messages.specs.declared.replies.Word.{Word}
use Rattle.ak_messages.specs.declared.requests.Ask.{Ask}
use Rattle.ak_messages.specs.declared.requests.Request.{Request}
use Rattle.ak_messages.specs.declared.requests.Whole.{Whole}
use Rattle.ak_transfers.specs.Greetings.{Line, TransferOutside}
use Rattle.ak_transfers.specs.Transfers.{AsksNothing, AsksOnce, Continues, DownloadEnds, Errand, Follows, IsTransfer, StaysUnlessFinished, StopsUpload, TransferEnds, UploadEnds, download_errand, may_end_download, may_end_upload, upload_errand}
use Rattle.ak_transfers.specs.declared.asks.UploadMoments.{UploadMoments}

-- ---- what was not granted
-- why an answer grants nothing
abbrev NotGranted : Result Reply WireEnd → Unanswered → Type 0
NotGranted answer unanswered.Lost = answer ≡ Err ends.Failed
NotGranted answer unanswered.BadReply =
    (answer ≡ Err ends.BadReply) ⊎ ((reply : Reply) × (answer ≡ Ok reply) × (reply.status ≡ 200))
NotGranted answer (unanswered.Refused status word seen) = (reply : Reply) × (answer ≡ Ok reply) × (reply.status ≢ 200)
    × (reply.status ≡ status) × (reply.word ≡ word) × (reply.seen ≡ seen)
NotGranted answer unanswered.Memory = ⊤

same_err : {T : Type 0} (one other : Unanswered) → (let refused : Result T Unanswered = Err one in refused ≡ Err other) → one ≡ other
same_err one other is = grind (arith, is)

ok_err : {T : Type 0} (x : T) (why : Unanswered) → Ok x ≡ Err why → ⊥
ok_err x why is = grind (arith, is)

err_ok : {T : Type 0} (why : Unanswered) (x : T) → Err why ≡ Ok x → ⊥
err_ok why x is = grind (arith, is)

is_200 : (status : ℕ) → (status == 200) ≡ true → status ≡ 200
is_200 status is = grind (arith, is)

not_200 : (status : ℕ) → (status == 200) ≡ false → status ≢ 200
not_200 status is = grind (arith, is)

module _ {T : Type 0} (part : Give → Option T) where
  unformed : (reply : Reply) (o : Option T) (why : Unanswered) → reply.status ≡ 200 → ok_or o unanswered.BadReply ≡ Err why → NotGranted (Ok reply) why
  unformed reply None why ok is = subst (NotGranted (Ok reply)) (same_err {T = T} unanswered.BadReply why is) (inr (reply, refl, ok))
  unformed reply (Some x) why ok is = absurd (ok_err x why is)

  not_granted : (answer : Result Reply WireEnd) (why : Unanswered) → in_form part (granted_in answer) ≡ Err why → NotGranted answer why
  not_granted (Ok reply) why is = by (reply.status == 200) refl is
    where
      by : (b : Bool) → (reply.status == 200) ≡ b
          → in_form part (if b then Ok reply.give else Err (unanswered.Refused reply.status reply.word reply.seen)) ≡ Err why → NotGranted (Ok reply) why
      by true ok so = unformed reply (part reply.give) why (is_200 reply.status ok) so
      by false ok so =
          subst (NotGranted (Ok reply)) (same_err {T = T} (unanswered.Refused reply.status reply.word reply.seen) why so)
          (reply, refl, not_200 reply.status ok, refl, refl, refl)
  not_granted (Err ends.Failed) why is = subst (NotGranted (Err ends.Failed)) (same_err {T = T} unanswered.Lost why is) refl
  not_granted (Err ends.BadReply) why is = subst (NotGranted (Err ends.BadReply)) (same_err {T = T} unanswered.BadReply why is) (inl refl)
  not_granted (Err ends.Memory) why is = subst (NotGranted (Err ends.Memory)) (same_err {T = T} unanswered.Memory why is) tt

  -- what was granted came with status 200
  granted_reply : (answer : Result Reply WireEnd) (x : T) → in_form part (granted_in answer) ≡ Ok x
      → (reply : Reply) × (answer ≡ Ok reply) × (reply.status ≡ 200)
  granted_reply (Ok reply) x is = by (reply.status == 200) refl is
    where
      by : (b : Bool) → (reply.status == 200) ≡ b
          → in_form part (if b then Ok reply.give else Err (unanswered.Refused reply.status reply.word reply.seen)) ≡ Ok x
          → (one : Reply) × (let given : Result Reply WireEnd = Ok reply in given ≡ Ok one) × (one.status ≡ 200)
      by true ok so = (reply, refl, is_200 reply.status ok)
      by false ok so = absurd (err_ok (unanswered.Refused reply.status reply.word reply.seen) x so)
  granted_reply (Err ends.Failed) x is = absurd (err_ok unanswered.Lost x is)
  granted_reply (Err ends.BadReply) x is = absurd (err_ok unanswered.BadReply x is)
  granted_reply (Err ends.Memory) x is = absurd (err_ok unanswered.Memory x is)

-- ---- the last request
-- how the last request was tried, once the wire was called up to then
record Last {kind : WireKind} (was now : Line kind) : Type 0 where
  request : Request
  before : Line kind
  answer : Result Reply WireEnd
  tried : Tried before.health now.health before.wire now.wire request answer
  goes : GoesOn was.health before.health
  reads : GoesOn was.wire.reading before.wire.reading
  silent : (before.wire.silence ≡ 0) ⊎ (before.wire.silence ≡ was.wire.silence)

-- an outcome that no request gives by not being granted
abbrev pub is_silent : Outcome → Bool
is_silent outcomes.Lost = false
is_silent outcomes.BadReply = false
is_silent (outcomes.Refused status word seen) = false
is_silent outcome = true

-- such an outcome, or one of the last request
abbrev Shows : {kind : WireKind} → Line kind → Line kind → Outcome → Type 0
Shows was now outcome = (is_silent outcome ≡ true)
    ⊎ ((last : Last was now) × (why : Unanswered) × NotGranted last.answer why × (outcome ≡ outcome_at (wire_stop why)))

-- ---- outcomes of the last request
abbrev is_lost : Outcome → Bool
is_lost outcomes.Lost = true
is_lost outcome = false

abbrev is_bad : Outcome → Bool
is_bad outcomes.BadReply = true
is_bad outcome = false

true_false : {b : Bool} → b ≡ true → b ≡ false → ⊥
true_false one other = let both = sym one ∙ other in grind (arith, both)

more_later : (a b c : ℕ) → a ≤ b → more 3 b ≤ c → more 3 a ≤ c
more_later a b c later rose = grind (arith, later, rose)

once : (a b : ℕ) → more 3 a ≤ b → one_more a ≤ b
once a b rose = grind (arith, rose)

record IsLost {kind : WireKind} (was now : Line kind) : Type 0 where
  rose : more 3 was.health.faults ≤ now.health.faults
  never : was.health.calm ≡ true → ⊥
  silent : (now.wire.silence ≡ 3) ⊎ (now.wire.silence ≡ more 3 was.wire.silence)

lost_last : {kind : WireKind} (was now : Line kind) (last : Last was now) → last.answer ≡ Err ends.Failed → IsLost was now
lost_last was now last is = record {
  rose = more_later was.health.faults last.before.health.faults now.health.faults last.goes.later (last.tried.lost is);
  never = λ calm. last.tried.unfailed (last.goes.calm calm) is;
  silent = three last.silent;
}
  where
    grew : now.wire.silence ≡ more 3 last.before.wire.silence
    grew = last.tried.silence ∙ ap (silence_tried last.before.wire.silence) is

    three : (last.before.wire.silence ≡ 0) ⊎ (last.before.wire.silence ≡ was.wire.silence) → (now.wire.silence ≡ 3) ⊎ (now.wire.silence ≡ more 3 was.wire.silence)
    three (inl none) = inl (grew ∙ ap (more 3) none)
    three (inr same) = inr (grew ∙ ap (more 3) same)

failed_if : (answer : Result Reply WireEnd) (why : Unanswered) → is_lost (outcome_at (wire_stop why)) ≡ true → NotGranted answer why → answer ≡ Err ends.Failed
failed_if answer unanswered.Lost is so = so
failed_if answer unanswered.BadReply is so = absurd (true_false is refl)
failed_if answer (unanswered.Refused status word seen) is so = absurd (true_false is refl)
failed_if answer unanswered.Memory is so = absurd (true_false is refl)

lost : {kind : WireKind} {was now : Line kind} {outcome : Outcome} → outcome ≡ outcomes.Lost → Shows was now outcome → IsLost was now
lost {kind} {was} {now} {outcome} is (inl silent) = absurd (true_false silent (ap is_silent is))
lost {kind} {was} {now} {outcome} is (inr (last, why, not, ended)) =
    lost_last was now last (failed_if last.answer why (ap is_lost (sym ended ∙ is)) not)

-- what the last reply said
abbrev Refuses : Outcome → ℕ → Word → ℤ → Type 0
Refuses (outcomes.Refused status word seen) one two three = (status ≡ one) × (word ≡ two) × (seen ≡ three)
Refuses outcome one two three = ⊥

refused_if : (answer : Result Reply WireEnd) (why : Unanswered) (status : ℕ) (word : Word) (seen : ℤ) → Refuses (outcome_at (wire_stop why)) status word seen
    → NotGranted answer why
    → (reply : Reply) × (answer ≡ Ok reply) × (reply.status ≢ 200) × (reply.status ≡ status) × (reply.word ≡ word) × (reply.seen ≡ seen)
refused_if answer (unanswered.Refused s w n) status word seen (one, two, three) (reply, is, bad, a, b, c) =
    (reply, is, bad, a ∙ one, b ∙ two, c ∙ three)
refused_if answer unanswered.Lost status word seen is so = absurd is
refused_if answer unanswered.BadReply status word seen is so = absurd is
refused_if answer unanswered.Memory status word seen is so = absurd is

refused : {kind : WireKind} {was now : Line kind} {outcome : Outcome} (status : ℕ) (word : Word) (seen : ℤ) → outcome ≡ outcomes.Refused status word seen → Shows was now outcome
    → (it : Said) × (now.wire.said ≡ Some it) × (it.status ≡ status) × (it.word ≡ word) × (it.seen ≡ seen) × (status ≢ 200)
refused {kind} {was} {now} {outcome} status word seen is (inl silent) = absurd (true_false silent (ap is_silent is))
refused {kind} {was} {now} {outcome} status word seen is (inr (last, why, not, ended)) =
    let refuses : Refuses (outcome_at (wire_stop why)) status word seen =
    subst (λ (o : Outcome). Refuses o status word seen) (sym is ∙ ended) (refl, refl, refl) in
    let it = refused_if last.answer why status word seen refuses not in (
      said_of last.request it.0,
      last.tried.said ∙ ap (said_after last.request) it.1,
      it.3,
      it.4,
      it.5,
      λ ok. it.2 (it.3 ∙ ok),
    )

unread_if : (answer : Result Reply WireEnd) (why : Unanswered) → is_bad (outcome_at (wire_stop why)) ≡ true → NotGranted answer why
    → (answer ≡ Err ends.BadReply) ⊎ ((reply : Reply) × (answer ≡ Ok reply) × (reply.status ≡ 200))
unread_if answer unanswered.BadReply is so = so
unread_if answer unanswered.Lost is so = absurd (true_false is refl)
unread_if answer (unanswered.Refused status word seen) is so = absurd (true_false is refl)
unread_if answer unanswered.Memory is so = absurd (true_false is refl)

unread : {kind : WireKind} {was now : Line kind} {outcome : Outcome} → outcome ≡ outcomes.BadReply → Shows was now outcome
    → Rose was.wire.reading now.wire.reading ⊎ ((it : Said) × (now.wire.said ≡ Some it) × (it.status ≡ 200))
unread {kind} {was} {now} {outcome} is (inl silent) = absurd (true_false silent (ap is_silent is))
unread {kind} {was} {now} {outcome} is (inr (last, why, not, ended)) = by (unread_if last.answer why (ap is_bad (sym ended ∙ is)) not)
  where
    by : (last.answer ≡ Err ends.BadReply) ⊎ ((reply : Reply) × (last.answer ≡ Ok reply) × (reply.status ≡ 200))
        → Rose was.wire.reading now.wire.reading ⊎ ((it : Said) × (now.wire.said ≡ Some it) × (it.status ≡ 200))
    by (inl bad) = inl (let early = last.reads.later in let late = last.tried.unread.failed bad in grind (arith, early, late))
    by (inr (reply, so, ok)) = inr (said_of last.request reply, last.tried.said ∙ ap (said_after last.request) so, ok)

-- ---- what a transfer shows
-- what an errand may end as but for what is not granted
pub record IsPlain {T : Type 0} (errand : Errand T) : Type 0 where
  pub stops : (outcome : Outcome) → errand.stops outcome → is_silent outcome ≡ true
  pub ends : (ask : Ask) (given : T) (outcome : Outcome) → errand.ends ask given outcome → (is_silent outcome ≡ true) ⊎ (outcome ≡ outcomes.BadReply)

clock_silent : (said : MetaSaid) (second : ℤ) (why : Outcome) → clock_stop said second ≡ Some why → is_silent why ≡ true
clock_silent said second why is = of_clocks (λ (o : Outcome). is_silent o ≡ true) refl (λ device server. refl) said second why is

module _ {kind : WireKind} {T : Type 0} (errand : Errand T) (ids : Ids) (asked : List Ask) (was now : TransferOutside kind) (outcome : Outcome)
    (it : IsTransfer errand ids asked was now outcome) where
  -- the counts of the wire go on
  goes_from : GoesOn was.line.health it.met.health → GoesOn was.line.wire.reading it.met.wire.reading
      → (line : Line kind) → now.line ≡ line → (GoesOn it.met.health line.health × GoesOn it.met.wire.reading line.wire.reading)
      → GoesOn was.line.health now.line.health × GoesOn was.line.wire.reading now.line.wire.reading
  goes_from one two line is later =
      subst (λ (l : Line kind). GoesOn was.line.health l.health × GoesOn was.line.wire.reading l.wire.reading) (sym is)
      (goes_further one later.0, goes_further two later.1)

  still : AsksNothing asked it.met now.line → GoesOn was.line.health now.line.health × GoesOn was.line.wire.reading now.line.wire.reading
  still none = goes_from it.meta.tried.goes it.meta.tried.unread.goes it.met none.same (goes_nowhere it.met.health, goes_nowhere it.met.wire.reading)

  further : (moment : ℤ) → AsksOnce errand ids moment asked it.met now.line outcome
      → GoesOn was.line.health now.line.health × GoesOn was.line.wire.reading now.line.wire.reading
  further moment once = goes_from it.meta.tried.goes it.meta.tried.unread.goes now.line refl (once.heard.tried.goes, once.heard.tried.unread.goes)

  pub goes : GoesOn was.line.health now.line.health × GoesOn was.line.wire.reading now.line.wire.reading
  goes = by it.answer it.follows
    where
      after : (said : MetaSaid) (o : Option Outcome) → Continues errand ids said o asked it.met now.line outcome
          → GoesOn was.line.health now.line.health × GoesOn was.line.wire.reading now.line.wire.reading
      after said (Some why) (none, end) = still none
      after said None (inl (none, stops_it)) = still none
      after said None (inr once) = further said.moment once

      by : (answer : Result MetaSaid Unanswered) → Follows errand ids answer asked (record was { line = it.met }) now outcome
          → GoesOn was.line.health now.line.health × GoesOn was.line.wire.reading now.line.wire.reading
      by (Err why) (none, same, end) = still none
      by (Ok said) (at, given, follows) = after said (clock_stop said (second_of at)) follows

  module _ (plain : IsPlain errand) where
    abbrev meta_last : AsksNothing asked it.met now.line → Last was.line now.line
    meta_last none = record {
      request = meta_of ids;
      before = was.line;
      answer = it.meta.answer;
      tried = subst (λ (line : Line kind). Tried was.line.health line.health was.line.wire line.wire (meta_of ids) it.meta.answer) (sym none.same) it.meta.tried;
      goes = goes_nowhere was.line.health;
      reads = goes_nowhere was.line.wire.reading;
      silent = inr refl;
    }

    abbrev ask_last : (said : MetaSaid) → it.answer ≡ Ok said → (once : AsksOnce errand ids said.moment asked it.met now.line outcome) → Last was.line now.line
    ask_last said is once =
        let granted = granted_reply meta_in it.meta.answer said (sym it.meta.came ∙ is) in
        let tried : Tried was.line.health it.met.health was.line.wire it.met.wire (meta_of ids) (Ok granted.0) =
        subst (λ (r : Result Reply WireEnd). Tried was.line.health it.met.health was.line.wire it.met.wire (meta_of ids) r) granted.1 it.meta.tried in
        record {
          request = request_at (asker ids) said.moment 1 once.ask;
          before = it.met;
          answer = once.heard.answer;
          tried = once.heard.tried;
          goes = it.meta.tried.goes;
          reads = it.meta.tried.unread.goes;
          silent = inl tried.silence;
        }

    shows : Shows was.line now.line outcome
    shows = by it.answer refl it.follows
      where
        asked_shows : (said : MetaSaid) → it.answer ≡ Ok said → AsksOnce errand ids said.moment asked it.met now.line outcome → Shows was.line now.line outcome
        asked_shows said is once = each once.answer refl once.ends
          where
            granted : (given : T) → once.answer ≡ Ok given → (is_silent outcome ≡ true) ⊎ (outcome ≡ outcomes.BadReply) → Shows was.line now.line outcome
            granted given so (inl silent) = inl silent
            granted given so (inr bad) =
                inr (ask_last said is once, unanswered.BadReply, inr (granted_reply errand.part once.heard.answer given (sym once.heard.came ∙ so)), bad)

            each : (answer : Result T Unanswered) → once.answer ≡ answer → TransferEnds errand once.ask answer outcome → Shows was.line now.line outcome
            each (Err why) so end =
                inr (ask_last said is once, why, not_granted errand.part once.heard.answer why (sym once.heard.came ∙ so), end)
            each (Ok given) so end = granted given so (plain.ends once.ask given outcome end)

        after : (said : MetaSaid) → it.answer ≡ Ok said → (second : ℤ) (o : Option Outcome) → clock_stop said second ≡ o
            → Continues errand ids said o asked it.met now.line outcome → Shows was.line now.line outcome
        after said is second (Some why) so (none, end) = inl (ap is_silent end ∙ clock_silent said second why so)
        after said is second None so (inl (none, stops_it)) = inl (plain.stops outcome stops_it)
        after said is second None so (inr once) = asked_shows said is once

        by : (answer : Result MetaSaid Unanswered) → it.answer ≡ answer
            → Follows errand ids answer asked (record was { line = it.met }) now outcome → Shows was.line now.line outcome
        by (Err why) is (none, same, end) =
            inr (meta_last none, why, not_granted meta_in it.meta.answer why (sym it.meta.came ∙ is), end)
        by (Ok said) is (at, given, follows) = after said is (second_of at) (clock_stop said (second_of at)) refl follows

    -- ---- it was lost
    pub lost_cause : HasOutcomeCause outcomes.Lost was.line.health now.line.health outcome
    lost_cause = record {
      goes = goes.0;
      failed = λ is. once was.line.health.faults now.line.health.faults (lost is shows).rose;
      unfailed = λ calm is. (lost is shows).never calm;
    }

    pub lost_thrice : HasLostThrice was.line.health now.line.health was.line.wire.silence now.line.wire.silence outcome
    lost_thrice = record { faults = λ is. (lost is shows).rose; silent = λ is. (lost is shows).silent }

    pub shows_refusal : ShowsRefusal was.line.wire.reading now.line.wire.reading now.line.wire.said outcome
    shows_refusal = record {
      refused = λ status word seen is. refused status word seen is shows;
      unread = λ is. unread is shows;
    }

-- ---- how a transfer may end
module _ {kind : WireKind} {T : Type 0} (may : Outcome → Bool) (errand : Errand T) (ids : Ids) (asked : List Ask) (was now : TransferOutside kind) (outcome : Outcome)
    (it : IsTransfer errand ids asked was now outcome) (unasked : (why : Unanswered) → may (outcome_at (wire_stop why)) ≡ true)
    (stopped : may outcomes.Stopped ≡ true) (clocks : (device server : ℤ) → may (outcomes.ClockOff device server) ≡ true)
    (stops_so : (o : Outcome) → errand.stops o → may o ≡ true) (ends_so : (ask : Ask) (given : T) (o : Outcome) → errand.ends ask given o → may o ≡ true) where
  pub may_end : may outcome ≡ true
  may_end = by it.answer it.follows
    where
      each : (ask : Ask) (answer : Result T Unanswered) → TransferEnds errand ask answer outcome → may outcome ≡ true
      each ask (Err why) end = ap may end ∙ unasked why
      each ask (Ok given) end = ends_so ask given outcome end

      after : (said : MetaSaid) (second : ℤ) (o : Option Outcome) → clock_stop said second ≡ o → Continues errand ids said o asked it.met now.line outcome
          → may outcome ≡ true
      after said second (Some why) so (none, end) = ap may end ∙ of_clocks (λ (o : Outcome). may o ≡ true) stopped clocks said second why so
      after said second None so (inl (none, stops_it)) = stops_so outcome stops_it
      after said second None so (inr once) = each once.ask once.answer once.ends

      by : (answer : Result MetaSaid Unanswered) → Follows errand ids answer asked (record was { line = it.met }) now outcome → may outcome ≡ true
      by (Err why) (none, same, end) = ap may end ∙ unasked why
      by (Ok said) (at, given, follows) = after said (second_of at) (clock_stop said (second_of at)) refl follows

-- ---- the two errands
module _ (spares : Bool) (before left : Keeping) where
  pub upload_plain : IsPlain (upload_errand spares before left)
  upload_plain = record { stops = stops_so; ends = ends_so }
    where
      stops_so : (outcome : Outcome) → StopsUpload before outcome → is_silent outcome ≡ true
      stops_so outcome (inl (fault, is, unsound)) = ap is_silent is
      stops_so outcome (inr (inl is)) = ap is_silent is
      stops_so outcome (inr (inr is)) = ap is_silent is

      ends_so : (ask : Ask) (told : UploadMoments) (outcome : Outcome) → UploadEnds spares before left ask told outcome
          → (is_silent outcome ≡ true) ⊎ (outcome ≡ outcomes.BadReply)
      ends_so ask told outcome (inl (whole, is, done, put)) = inl (ap is_silent done)
      ends_so ask told outcome (inr (inl is)) = inl (ap is_silent is)
      ends_so ask told outcome (inr (inr (is, spared))) = inl (ap is_silent is)

  pub upload_may : {kind : WireKind} (ids : Ids) (asked : List Ask) (was now : TransferOutside kind) (outcome : Outcome) → IsTransfer (upload_errand spares before left) ids asked was now outcome
      → may_end_upload outcome ≡ true
  upload_may ids asked was now outcome it =
      may_end may_end_upload (upload_errand spares before left) ids asked was now outcome it unasked refl (λ device server. refl) stops_so ends_so
    where
      unasked : (why : Unanswered) → may_end_upload (outcome_at (wire_stop why)) ≡ true
      unasked unanswered.Lost = refl
      unasked unanswered.BadReply = refl
      unasked (unanswered.Refused status word seen) = refl
      unasked unanswered.Memory = refl

      stops_so : (o : Outcome) → StopsUpload before o → may_end_upload o ≡ true
      stops_so o (inl (fault, is, unsound)) = ap may_end_upload is
      stops_so o (inr (inl is)) = ap may_end_upload is
      stops_so o (inr (inr is)) = ap may_end_upload is

      ends_so : (ask : Ask) (told : UploadMoments) (o : Outcome) → UploadEnds spares before left ask told o → may_end_upload o ≡ true
      ends_so ask told o (inl (whole, is, done, put)) = ap may_end_upload done
      ends_so ask told o (inr (inl is)) = ap may_end_upload is
      ends_so ask told o (inr (inr (is, spared))) = ap may_end_upload is

module _ (before left : Keeping) where
  pub download_plain : IsPlain (download_errand before left)
  download_plain = record { stops = λ outcome is. absurd is; ends = ends_so }
    where
      ends_so : (ask : Ask) (whole : Whole) (outcome : Outcome) → DownloadEnds before left ask whole outcome
          → (is_silent outcome ≡ true) ⊎ (outcome ≡ outcomes.BadReply)
      ends_so ask whole outcome (inl (may, done, put)) = inl (ap is_silent done)
      ends_so ask whole outcome (inr (inl (not, bad))) = inr bad
      ends_so ask whole outcome (inr (inr (inl is))) = inl (ap is_silent is)
      ends_so ask whole outcome (inr (inr (inr is))) = inl (ap is_silent is)

  pub download_may : {kind : WireKind} (ids : Ids) (asked : List Ask) (was now : TransferOutside kind) (outcome : Outcome) → IsTransfer (download_errand before left) ids asked was now outcome
      → may_end_download outcome ≡ true
  download_may ids asked was now outcome it =
      may_end may_end_download (download_errand before left) ids asked was now outcome it unasked refl (λ device server. refl) (λ o is. absurd is) ends_so
    where
      unasked : (why : Unanswered) → may_end_download (outcome_at (wire_stop why)) ≡ true
      unasked unanswered.Lost = refl
      unasked unanswered.BadReply = refl
      unasked (unanswered.Refused status word seen) = refl
      unasked unanswered.Memory = refl

      ends_so : (ask : Ask) (whole : Whole) (o : Outcome) → DownloadEnds before left ask whole o → may_end_download o ≡ true
      ends_so ask whole o (inl (may, done, put)) = ap may_end_download done
      ends_so ask whole o (inr (inl (not, bad))) = ap may_end_download bad
      ends_so ask whole o (inr (inr (inl is))) = ap may_end_download is
      ends_so ask whole o (inr (inr (inr is))) = ap may_end_download is

-- ---- the device
-- it is as it was, unless the transfer is finished
pub stays : (before left : Keeping) (result : Result (Unit {0}) Outcome) → OnErr result (left ≡ before) → StaysUnlessFinished before left (outcome_of result)
stays before left (Ok done) is = tt
stays before left (Err outcome) is = each outcome
  where
    each : (o : Outcome) → StaysUnlessFinished before left o
    each outcomes.Finished = tt
    each outcomes.NoChanges = is
    each (outcomes.FullSchema device server) = is
    each (outcomes.FullSequence usn) = is
    each (outcomes.BadRow fault) = is
    each (outcomes.BadCounts client server) = is
    each (outcomes.ClockOff device server) = is
    each (outcomes.OwnCheck fault) = is
    each outcomes.Stopped = is
    each (outcomes.Refused status word seen) = is
    each outcomes.Lost = is
    each outcomes.BadReply = is
    each outcomes.TooManyChunks = is
    each outcomes.Keep = is
    each outcomes.Memory = is

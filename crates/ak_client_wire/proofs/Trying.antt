-- The tries of one request add up.
use Rattle.std.specs.Prelude.{◌≡◌, ℕ, suc, ◌≤◌, Bool, true, false, if◌then◌else◌, List, ◌++◌, Option, Some, None, Result, Ok, Err, IfOk}
use Rattle.std.specs.Result.{IsErrOf}
use Rattle.std.proofs.Common.{refl, sym, ap, subst, ◌∙◌, arith, append_assoc}
use Rattle.ak_faults.proofs.Healths.{goes_further}
use Rattle.ak_faults.specs.Causes.{Health, GoesOn, HasCauseOf, one_more}
use Rattle.ak_messages.specs.declared.replies.Reply.{Reply}
use Rattle.ak_messages.specs.declared.requests.Request.{Request}
use Rattle.ak_protocol.specs.Logs.{Event, Log, Grows, IsGrowth, IsReplyIn, with_growth}
use Rattle.ak_protocol.proofs.Syncs.{all_append, tries_are_one_growth, tries_reply}
use Rattle.ak_client_wire.specs.Tries.{AreCalls, Tried, is_failed, silence_tried}
use Rattle.ak_client_wire.specs.Wires.{WireKind, WireState, Called, BringsServings, Carries, GrowsByServings, IsServing, StaysAlone, more, said_after, silence_after}
use Rattle.ak_client_wire.specs.declared.wires.WireEnd.{WireEnd}
use Rattle.ak_client_wire.specs.declared.wires.WireEnd.TheVariants as ends

-- ---- counts
more_more : (n count : ℕ) → more n (more 1 count) ≡ more (suc n) count
more_more n count = grind arith

rose_more : (n before between now : ℕ) → one_more before ≤ between → more n between ≤ now → more (suc n) before ≤ now
rose_more n before between now once later = grind (arith, once, later)

-- ---- what a failed call says
was_failed : (result : Result Reply WireEnd) → is_failed result ≡ true → result ≡ Err ends.Failed
was_failed (Err ends.Failed) is = refl
was_failed (Err ends.BadReply) is = absurd (grind (arith, is))
was_failed (Err ends.Memory) is = absurd (grind (arith, is))
was_failed (Ok reply) is = absurd (grind (arith, is))

-- ---- the log
abbrev grown : Log → Log → List Event → List Event → Log
grown old new front rest = new

carries_grows : (old mid new : Log) (request : Request) (result : Result Reply WireEnd)
    → Grows old mid request (Err ends.Failed) → Grows mid new request result → Grows old new request result
carries_grows old mid new request result one two = record {
  growth = one.growth ++ two.growth;
  grown = two.grown ∙ ap (λ (log : Log). with_growth log two.growth) one.grown
      ∙ ap (λ (events : List Event). record { opening = old.opening; events = events }) (append_assoc old.events one.growth two.growth);
  may = tries_are_one_growth request old one.growth two.growth one.may
      (subst (λ (log : Log). IsGrowth log request two.growth) one.grown two.may);
  reply = reply_of result two.reply;
}
  where
    reply_of : (answer : Result Reply WireEnd) → IfOk answer (IsReplyIn mid two.growth request)
        → IfOk answer (IsReplyIn old (one.growth ++ two.growth) request)
    reply_of (Ok reply) place = tries_reply request old one.growth two.growth reply
        (subst (λ (log : Log). IsReplyIn log two.growth request reply) one.grown place)
    reply_of (Err end) place = tt

carries_on : (old mid new : Option Log) (request : Request) (result : Result Reply WireEnd)
    → Carries old mid request (Err ends.Failed) → Carries mid new request result → Carries old new request result
carries_on None mid new request result one two = subst (λ (log : Option Log). Carries log new request result) one two
carries_on (Some old) mid new request result one two =
    let again : Carries (Some one.0) new request result = subst (λ (log : Option Log). Carries log new request result) one.1 two in
    (again.0, again.1, carries_grows old one.0 again.0 request result one.2 again.2)

-- ---- a wire that nothing else uses
served_on : (old mid new : Log) (request : Request) → GrowsByServings old mid request → GrowsByServings mid new request → GrowsByServings old new request
served_on old mid new request one two = record {
  growth = one.growth ++ two.growth;
  grown = two.grown ∙ ap (λ (log : Log). with_growth log two.growth) one.grown
      ∙ ap (λ (events : List Event). record { opening = old.opening; events = events }) (append_assoc old.events one.growth two.growth);
  servings = all_append (IsServing request) one.growth two.growth one.servings two.servings;
}

brings_on : (old mid new : Option Log) (request : Request) (result : Result Reply WireEnd) → Carries old mid request result
    → BringsServings old mid request → BringsServings mid new request → BringsServings old new request
brings_on None mid new request result carries one two = λ before now is told. absurd (grind (arith, is))
brings_on (Some old) mid new request result carries one two = λ before now is told.
    served_on before carries.0 now request (one before carries.0 is carries.1) (two carries.0 now carries.1 told)

alone_on : {kind : WireKind} (old mid new : WireState kind) (request : Request) (result : Result Reply WireEnd) → Carries old.log mid.log request result
    → StaysAlone old mid request → StaysAlone mid new request → StaysAlone old new request
alone_on old mid new request result carries one two = record {
  stays = two.stays ∙ one.stays;
  brings = λ is. brings_on old.log mid.log new.log request result carries (one.brings is) (two.brings (one.stays ∙ is));
}

-- ---- this many tries, each but the last one of which failed
pub record TriedBy {kind : WireKind} (n : ℕ) (before now : Health) (old new : WireState kind) (request : Request) (result : Result Reply WireEnd) : Type 0 where
  pub each : AreCalls n before now old new request result
  pub carries : Carries old.log new.log request result
  pub calls : new.calls ≡ more n old.calls
  pub alone : StaysAlone old new request
  pub lost : IsErrOf result ends.Failed → more n before.faults ≤ now.faults
  pub goes : GoesOn before now
  pub unfailed : before.calm ≡ true → IsErrOf result ends.Failed → ⊥
  pub unread : HasCauseOf ends.BadReply old.reading new.reading result
  pub silence : new.silence ≡ (if is_failed result then more n old.silence else 0)
  pub said : new.said ≡ said_after request result

silence_once : (before : ℕ) (result : Result Reply WireEnd) → silence_after before result ≡ (if is_failed result then more 1 before else 0)
silence_once before (Err ends.Failed) = refl
silence_once before (Err ends.BadReply) = refl
silence_once before (Err ends.Memory) = refl
silence_once before (Ok reply) = refl

tried_once : {kind : WireKind} (before now : Health) (old new : WireState kind) (request : Request) (result : Result Reply WireEnd)
    → Called before now old new request result → TriedBy 1 before now old new request result
tried_once before now old new request result call = record {
  each = call;
  carries = call.carries;
  calls = call.calls;
  alone = call.alone;
  lost = call.lost.failed;
  goes = call.lost.goes;
  unfailed = call.lost.unfailed;
  unread = call.unread;
  silence = call.silence ∙ silence_once old.silence result;
  said = call.said;
}

silence_again : (n before : ℕ) (result : Result Reply WireEnd)
    → (if is_failed result then more n (more 1 before) else 0) ≡ (if is_failed result then more (suc n) before else 0)
silence_again n before (Err ends.Failed) = more_more n before
silence_again n before (Err ends.BadReply) = refl
silence_again n before (Err ends.Memory) = refl
silence_again n before (Ok reply) = refl

-- a failed call, and then one try or more
tried_after : {kind : WireKind} (n : ℕ) (before between now : Health) (old mid new : WireState kind) (request : Request) (result : Result Reply WireEnd)
    → Called before between old mid request (Err ends.Failed) → TriedBy (suc n) between now mid new request result
    → TriedBy (suc (suc n)) before now old new request result
tried_after n before between now old mid new request result call again = record {
  each = (between, mid, call, again.each);
  carries = carries_on old.log mid.log new.log request result call.carries again.carries;
  alone = alone_on old mid new request (Err ends.Failed) call.carries call.alone again.alone;
  calls = again.calls ∙ ap (more (suc n)) call.calls ∙ more_more (suc n) old.calls;
  lost = λ is. rose_more (suc n) before.faults between.faults now.faults (call.lost.failed refl) (again.lost is);
  goes = goes_further call.lost.goes again.goes;
  unfailed = λ is _. call.lost.unfailed is refl;
  unread = record {
    goes = goes_further call.unread.goes again.unread.goes;
    failed = λ is. let early = call.unread.goes.later in let late = again.unread.failed is in grind (arith, early, late);
    unfailed = λ is. again.unread.unfailed (call.unread.goes.calm is);
  };
  silence = again.silence ∙ ap (λ (k : ℕ). if is_failed result then more (suc n) k else 0) call.silence ∙ silence_again (suc n) old.silence result;
  said = again.said;
}

-- the same of a call whose result is known to be a failure
tried_again : {kind : WireKind} (n : ℕ) (before between now : Health) (old mid new : WireState kind) (request : Request) (first result : Result Reply WireEnd)
    → is_failed first ≡ true → Called before between old mid request first → TriedBy (suc n) between now mid new request result
    → TriedBy (suc (suc n)) before now old new request result
tried_again n before between now old mid new request first result is call again =
    tried_after n before between now old mid new request result
    (subst (λ (r : Result Reply WireEnd). Called before between old mid request r) (was_failed first is) call) again

-- ---- the end
third_silence : (n before : ℕ) (result : Result Reply WireEnd) → (is_failed result ≡ true → n ≡ 3)
    → (if is_failed result then more n before else 0) ≡ silence_tried before result
third_silence n before (Err ends.Failed) third = ap (λ (k : ℕ). more k before) (third refl)
third_silence n before (Err ends.BadReply) third = refl
third_silence n before (Err ends.Memory) third = refl
third_silence n before (Ok reply) third = refl

-- at most three tries, and only the third may have failed
tries : {kind : WireKind} (n : ℕ) (before now : Health) (old new : WireState kind) (request : Request) (result : Result Reply WireEnd)
    → n ≤ 3 → (is_failed result ≡ true → n ≡ 3) → TriedBy n before now old new request result
    → Tried before now old new request result
tries n before now old new request result most third by = record {
  tries = n;
  most = most;
  each = by.each;
  third = λ is. third (ap is_failed is);
  carries = by.carries;
  goes = by.goes;
  lost = λ is. subst (λ (k : ℕ). more k before.faults ≤ now.faults) (third (ap is_failed is)) (by.lost is);
  unfailed = by.unfailed;
  unread = by.unread;
  silence = by.silence ∙ third_silence n old.silence result third;
  said = by.said;
  calls = by.calls;
  alone = by.alone;
}

not_both : (r : Result Reply WireEnd) (n : ℕ) → is_failed r ≡ false → is_failed r ≡ true → n ≡ 3
not_both r n never failed = absurd (grind (arith, never, failed))

module _ (request : Request) where
  pub first_try : {kind : WireKind} (h0 h1 : Health) (s0 s1 : WireState kind) (first : Result Reply WireEnd)
      → Called h0 h1 s0 s1 request first → is_failed first ≡ false → Tried h0 h1 s0 s1 request first
  first_try h0 h1 s0 s1 first one answered =
      tries 1 h0 h1 s0 s1 request first (omega arith) (not_both first 1 answered) (tried_once h0 h1 s0 s1 request first one)

  pub second_try : {kind : WireKind} (h0 h1 h2 : Health) (s0 s1 s2 : WireState kind) (first second : Result Reply WireEnd)
      → Called h0 h1 s0 s1 request first → is_failed first ≡ true → Called h1 h2 s1 s2 request second → is_failed second ≡ false
      → Tried h0 h2 s0 s2 request second
  second_try h0 h1 h2 s0 s1 s2 first second one failed two answered =
      tries 2 h0 h2 s0 s2 request second (omega arith) (not_both second 2 answered)
      (tried_again 0 h0 h1 h2 s0 s1 s2 request first second failed one (tried_once h1 h2 s1 s2 request second two))

  pub third_try : {kind : WireKind} (h0 h1 h2 h3 : Health) (s0 s1 s2 s3 : WireState kind) (first second third : Result Reply WireEnd)
      → Called h0 h1 s0 s1 request first → is_failed first ≡ true → Called h1 h2 s1 s2 request second → is_failed second ≡ true
      → Called h2 h3 s2 s3 request third → Tried h0 h3 s0 s3 request third
  third_try h0 h1 h2 h3 s0 s1 s2 s3 first second third one failed two again three =
      tries 3 h0 h3 s0 s3 request third (omega arith) (λ is. refl)
      (tried_again 1 h0 h1 h3 s0 s1 s3 request first third failed one
      (tried_again 0 h1 h2 h3 s1 s2 s3 request second third again two (tried_once h2 h3 s2 s3 request third three)))

-- What a request of a sync makes of the log of its wire, and what its answer tells.
use Rattle.std.specs.Prelude.{◌≡◌, ℕ, ◌+◌, ℤ, ◌==◌, Bool, true, false, if◌then◌else◌, List, [], ◌∷◌, ◌++◌, length, Option, Some, None, Result, Ok, Err, IfOk, ok_or}
use Rattle.std.proofs.Common.{refl, sym, ap, subst, ◌∙◌, inr, arith}
use Rattle.ak_client_wire.specs.Tries.{Answered, granted_by, granted_in, in_form}
use Rattle.ak_client_wire.specs.Wires.{WireKind, WireState, Carries}
use Rattle.ak_client_wire.specs.declared.asks.Unanswered.{Unanswered}
use Rattle.ak_client_wire.specs.declared.asks.Unanswered.TheVariants as unanswered
use Rattle.ak_client_wire.specs.declared.wires.WireEnd.{WireEnd}
use Rattle.ak_client_wire.specs.declared.wires.WireEnd.TheVariants as ends
use Rattle.ak_exchange.specs.Asked.{request_at}
use Rattle.ak_faults.specs.Causes.{Health}
use Rattle.ak_keep.specs.Collections.{Collection}
use Rattle.ak_messages.specs.declared.replies.Give.{Give}
use Rattle.ak_messages.specs.declared.replies.Reply.{Reply}
use Rattle.ak_messages.specs.declared.requests.Ask.{Ask}
use Rattle.ak_messages.specs.declared.requests.Request.{Request}
use Rattle.ak_protocol.proofs.Calls.{calls_tell, syncs_ask_more}
use Rattle.ak_protocol.proofs.Syncs.{calls_keep_syncs}
use Rattle.ak_protocol.specs.Accounts.{AccountState}
use Rattle.ak_protocol.specs.Logs.{Log, Grows, with_growth, commits_of}
use Rattle.ak_protocol.specs.Replies.{granted}
use Rattle.ak_protocol.specs.Serving.{commit_reply}
use Rattle.ak_protocol.specs.Sessions.{IsAsked, Tells}
use Rattle.ak_protocol.specs.Syncs.{IsUnderWay, world_of}
use Rattle.ak_session.specs.Contents.{answer, closed, refusal}
use Rattle.ak_session.specs.Plans.{Asker}
use Rattle.ak_session.specs.Requests.{asks_commit, is_download, is_meta}

-- a wire tells a log in which the sync of this asker is under way, over this collection and with these requests
abbrev pub IsShown : Asker → AccountState → Collection → List Request → Option Log → Type 0
IsShown who account s asked told = (log : Log) × (told ≡ Some log) × IsUnderWay who.host.digits who.session.0 asked s account log

same_status : (status : ℕ) → (status == 200) ≡ true → status ≡ 200
same_status status is = grind (arith, is)

module _ (who : Asker) (account : AccountState) (s : Collection) (asked : List Request) (ask : Ask) where
  abbrev request : Request
  request = request_at who s.head.moment (length asked + 1) ask

  abbrev plan : List Request
  plan = asked ++ request ∷ []

  abbrev Reached : List Request → Log → Type 0
  Reached list log = IsUnderWay who.host.digits who.session.0 list s account log

  abbrev is_asked : IsAsked plan s.head.moment request
  is_asked = record { before = asked; after = []; place = refl; step = refl; base_is = refl }

  -- the log after the call
  still : (old new : Log) (result : Result Reply WireEnd) → Reached asked old → Grows old new request result → Reached plan new
  still old new result under grows =
      subst (λ (log : Log). Reached plan log) (sym grows.grown)
      (calls_keep_syncs request account old grows.growth grows.may plan s
      (syncs_ask_more who.host.digits who.session.0 asked (request ∷ []) s account old under) (inr is_asked))

  -- what a granted reply tells
  told : (old new : Log) (reply : Reply) → is_meta ask ≡ false → Reached asked old → Grows {E = WireEnd} old new request (Ok reply) → reply.status ≡ 200
      → (committed : Collection) × Tells who.session.0 plan s request is_asked committed (world_of who.host.digits account new).commits reply
  told old new reply later under grows ok = (
    (world_of who.host.digits account (with_growth old grows.reply.before)).state.committed,
    subst (λ (log : Log). Tells who.session.0 plan s request is_asked
        (world_of who.host.digits account (with_growth old grows.reply.before)).state.committed
        (world_of who.host.digits account log).commits reply) (sym grows.grown)
        (calls_tell request account old grows.growth grows.may reply grows.reply
        (syncs_ask_more who.host.digits who.session.0 asked (request ∷ []) s account old under).opening plan s
        (syncs_ask_more who.host.digits who.session.0 asked (request ∷ []) s account old under) is_asked later ok),
  )

  -- ---- a request that does not commit
  plain_reply : {T : Type 0} (part : Give → Option T) (reply : Reply) → (reply.status ≡ 200 → reply ≡ granted (answer s asked request))
      → IfOk (in_form part (granted_by reply)) (λ (it : T). part (answer s asked request) ≡ Some it)
  plain_reply {T} part reply tells = by (reply.status == 200) refl
    where
      given : (o : Option T) → part reply.give ≡ o → reply.status ≡ 200 → IfOk (ok_or o unanswered.BadReply) (λ (it : T). part (answer s asked request) ≡ Some it)
      given None is ok = tt
      given (Some it) is ok = ap part (sym (ap (λ (r : Reply). r.give) (tells ok))) ∙ is

      by : (b : Bool) → (reply.status == 200) ≡ b
          → IfOk (in_form part (if b then Ok reply.give else Err (unanswered.Refused reply.status reply.word reply.seen)))
          (λ (it : T). part (answer s asked request) ≡ Some it)
      by false is = tt
      by true is = given (part reply.give) refl (same_status reply.status is)

  plain_answer : {T : Type 0} (part : Give → Option T) (old new : Log) (result : Result Reply WireEnd) → is_meta ask ≡ false
      → is_download ask ≡ false → asks_commit ask ≡ false → Reached asked old → Grows old new request result
      → IfOk (in_form part (granted_in result)) (λ (it : T). part (answer s asked request) ≡ Some it)
  plain_answer part old new (Ok reply) later reads commits under grows =
      plain_reply part reply (λ ok. (told old new reply later under grows ok).1.answers commits reads)
  plain_answer part old new (Err ends.Failed) later reads commits under grows = tt
  plain_answer part old new (Err ends.BadReply) later reads commits under grows = tt
  plain_answer part old new (Err ends.Memory) later reads commits under grows = tt

  carried : (result : Result Reply WireEnd) (old new : Option Log) → Carries old new request result → (log : Log) → old ≡ Some log
      → (after : Log) × (new ≡ Some after) × Grows log after request result
  carried result old new carries log is = subst (λ (o : Option Log). Carries o new request result) is carries

  -- a request of a sync that does not commit: the sync is still under way, and what its reply gives is what the session answers
  pub plain_call : {kind : WireKind} {T : Type 0} (before now : Health) (old new : WireState kind) (part : Give → Option T) (result : Result T Unanswered)
      → is_meta ask ≡ false → is_download ask ≡ false → asks_commit ask ≡ false
      → IsShown who account s asked old.log → Answered before now old new request part result
      → IsShown who account s plan new.log × IfOk result (λ (it : T). part (answer s asked request) ≡ Some it)
  plain_call {kind} {T} before now old new part result later reads commits reached call =
      let grown = carried call.answer old.log new.log call.tried.carries reached.0 reached.1 in (
        (grown.0, grown.1, still reached.0 grown.0 call.answer reached.2 grown.2),
        subst (λ (r : Result T Unanswered). IfOk r (λ (it : T). part (answer s asked request) ≡ Some it)) (sym call.came)
            (plain_answer part reached.0 grown.0 call.answer later reads commits reached.2 grown.2),
      )

  -- ---- a request that commits
  -- the one commit of the session, at some moment
  abbrev pub CommitsOnce : Log → ℤ → Collection → Type 0
  CommitsOnce log now after = (after ≡ closed s asked request now)
      × (commits_of who.session.0 (world_of who.host.digits account log).commits ≡ record { key = who.session.0; before = s; after = after } ∷ [])
      × (refusal s asked request ≡ None)

  commit_given : {T : Type 0} (part : Give → Option T) (new : Log) (reply : Reply) → asks_commit ask ≡ true
      → (reply.status ≡ 200 → (committed : Collection) × Tells who.session.0 plan s request is_asked committed (world_of who.host.digits account new).commits reply)
      → IfOk (in_form part (granted_by reply)) (λ (it : T). (now : ℤ) × (after : Collection) × CommitsOnce new now after
      × (part (commit_reply ask after.head).give ≡ Some it))
  commit_given {T} part new reply commits tells = by (reply.status == 200) refl
    where
      Given : T → Type 0
      Given it = (now : ℤ) × (after : Collection) × CommitsOnce new now after × (part (commit_reply ask after.head).give ≡ Some it)

      given : (o : Option T) → part reply.give ≡ o → reply.status ≡ 200 → IfOk (ok_or o unanswered.BadReply) Given
      given None is ok = tt
      given (Some it) is ok =
          let tell = (tells ok).1 in
          let m = tell.commits commits in
          (m.0, closed s asked request m.0, (refl, m.2, tell.allowed), ap part (sym (ap (λ (r : Reply). r.give) m.1)) ∙ is)

      by : (b : Bool) → (reply.status == 200) ≡ b
          → IfOk (in_form part (if b then Ok reply.give else Err (unanswered.Refused reply.status reply.word reply.seen))) Given
      by false is = tt
      by true is = given (part reply.give) refl (same_status reply.status is)

  commit_answer : {T : Type 0} (part : Give → Option T) (old new : Log) (result : Result Reply WireEnd) → is_meta ask ≡ false → asks_commit ask ≡ true
      → Reached asked old → Grows old new request result
      → IfOk (in_form part (granted_in result)) (λ (it : T). (now : ℤ) × (after : Collection) × CommitsOnce new now after
      × (part (commit_reply ask after.head).give ≡ Some it))
  commit_answer part old new (Ok reply) later commits under grows =
      commit_given part new reply commits (λ ok. told old new reply later under grows ok)
  commit_answer part old new (Err ends.Failed) later commits under grows = tt
  commit_answer part old new (Err ends.BadReply) later commits under grows = tt
  commit_answer part old new (Err ends.Memory) later commits under grows = tt

  -- a request of a sync that commits: if it is granted, the session committed once, and the reply tells the new moment
  pub commit_call : {kind : WireKind} {T : Type 0} (before now : Health) (old new : WireState kind) (part : Give → Option T) (result : Result T Unanswered)
      → is_meta ask ≡ false → asks_commit ask ≡ true
      → IsShown who account s asked old.log → Answered before now old new request part result
      → IsShown who account s plan new.log
      × IfOk result (λ (it : T). (log : Log) × (new.log ≡ Some log) × ((moment : ℤ) × (after : Collection) × CommitsOnce log moment after
      × (part (commit_reply ask after.head).give ≡ Some it)))
  commit_call {kind} {T} before now old new part result later commits reached call =
      let grown = carried call.answer old.log new.log call.tried.carries reached.0 reached.1 in
      let Given : T → Type 0 = λ it. (moment : ℤ) × (after : Collection) × CommitsOnce grown.0 moment after × (part (commit_reply ask after.head).give ≡ Some it) in
      let Ends : T → Type 0 = λ it. (log : Log) × (new.log ≡ Some log) × ((moment : ℤ) × (after : Collection) × CommitsOnce log moment after × (part (commit_reply ask after.head).give ≡ Some it)) in (
        (grown.0, grown.1, still reached.0 grown.0 call.answer reached.2 grown.2),
        subst (λ (r : Result T Unanswered). IfOk r Ends) (sym call.came)
            (if_so (in_form part (granted_in call.answer)) Given Ends (λ it given. (grown.0, grown.1, given))
            (commit_answer part reached.0 grown.0 call.answer later commits reached.2 grown.2)),
      )
    where
      if_so : {U E : Type 0} (r : Result U E) (P Q : U → Type 0) → ((it : U) → P it → Q it) → IfOk r P → IfOk r Q
      if_so (Ok it) P Q so is = so it is
      if_so (Err e) P Q so is = tt

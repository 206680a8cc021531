-- Which requests a session and an account refuse, test by test.
use Rattle.std.specs.List.{list_any}
use Rattle.std.specs.Option.{option_map}
use Rattle.std.specs.Ordering.{int_eq}
use Rattle.std.specs.Prelude.{◌≡◌, ◌==◌, Bool, true, false, Option, Some, None, Result, Ok, Err, IfOk}
use Rattle.std.proofs.Common.{refl, sym, ap, ◌∙◌}
use Rattle.ak_keep.specs.Collections.{Collection}
use Rattle.ak_messages.specs.declared.methods.Method.{Method}
use Rattle.ak_messages.specs.declared.requests.Ask.{Ask}
use Rattle.ak_messages.specs.declared.requests.Request.{Request}
use Rattle.ak_protocol.specs.Replies.{PastBase, NoSession, WrongStep, Objected, objected, refused}
use Rattle.ak_server_rules.specs.Decisions.{objection_in, refusal_in, refusal_of}
use Rattle.ak_server_rules.specs.Serving.{has_next_step, may_come, objection_to, session_of, tests_of}
use Rattle.ak_server_rules.specs.declared.objections.Cause.{Cause}
use Rattle.ak_server_rules.specs.Summaries.{SessionSummary}
use Rattle.ak_session.specs.NextMethods.{methods_after}
use Rattle.ak_session.specs.Objections.{Objection}
use Rattle.ak_session.specs.Refusals.{first_objection}
use Rattle.ak_session.specs.Requests.{asked_method, same_method}

-- what holds of an answer follows from what holds of it
pub ok_so : {T E : Type 0} (r : Result T E) (P Q : T → Type 0) → ((x : T) → P x → Q x) → IfOk r P → IfOk r Q
ok_so (Ok x) P Q so is = so x is
ok_so (Err e) P Q so is = tt

-- ---- a session
pub may_next : (c : Collection) (live : SessionSummary) (ask : Ask) → may_come live ask ≡ true → objection_to c live ask ≡ first_objection (tests_of c live ask)
may_next c live ask may = rw may refl

-- a request whose method may come is refused for what it holds
pub objected_by : (c : Collection) (live : SessionSummary) (ask other : Ask) (method : Method) (follows : Bool) (why : Option Objection)
    → ask ≡ other → method ≡ asked_method ask → follows ≡ list_any (same_method method) (methods_after live.method live.done) → follows ≡ true
    → why ≡ first_objection (tests_of c live other) → why ≡ objection_to c live ask
objected_by c live ask other method follows why is named may so found =
    found
    ∙ ap (λ (a : Ask). first_objection (tests_of c live a)) (sym is)
    ∙ sym (may_next c live ask (ap (λ (m : Method). list_any (same_method m) (methods_after live.method live.done)) (sym named) ∙ sym may ∙ so))

-- ---- an account
pub refused_key : (c : Collection) (live : SessionSummary) (request : Request) → (live.key == request.session.0) ≡ false
    → refusal_in c (session_of (Some live) request) request ≡ Some NoSession
refused_key c live request other = rw other refl

pub refused_step : (c : Collection) (live : SessionSummary) (request : Request) → (live.key == request.session.0) ≡ true
    → has_next_step live request ≡ false → refusal_in c (session_of (Some live) request) request ≡ Some (WrongStep live.last)
refused_step c live request key other = rw (key, other) refl

pub refused_for : (c : Collection) (live : SessionSummary) (request : Request) → (live.key == request.session.0) ≡ true
    → has_next_step live request ≡ true
    → refusal_in c (session_of (Some live) request) request
    ≡ option_map (λ (why : Objection). Objected why live.last c.head.usn) (objection_to c live request.ask)
refused_for c live request key next = rw (key, next) refl

-- the reply to a request that its session refuses for a cause
pub refused_cause : (c : Collection) (live : SessionSummary) (request : Request) (found : Option Cause) (cause : Cause)
    → (live.key == request.session.0) ≡ true → has_next_step live request ≡ true
    → option_map objection_in found ≡ objection_to c live request.ask → found ≡ Some cause
    → option_map refused (refusal_in c (session_of (Some live) request) request) ≡ Some (objected (objection_in cause) live.last c.head.usn)
refused_cause c live request found cause key next is some =
    ap (option_map refused) (refused_for c live request key next
    ∙ ap (option_map (λ (why : Objection). Objected why live.last c.head.usn)) (sym is ∙ ap (option_map objection_in) some))

-- a request that its session has no objection to
pub refused_not : (c : Collection) (live : SessionSummary) (request : Request) (found : Option Cause)
    → (live.key == request.session.0) ≡ true → has_next_step live request ≡ true
    → option_map objection_in found ≡ objection_to c live request.ask → found ≡ None
    → option_map refused (refusal_in c (session_of (Some live) request) request) ≡ None
refused_not c live request found key next is none =
    ap (option_map refused) (refused_for c live request key next
    ∙ ap (option_map (λ (why : Objection). Objected why live.last c.head.usn)) (sym is ∙ ap (option_map objection_in) none))

pub refused_past : (c : Collection) (live : Option SessionSummary) (request : Request) → int_eq request.base c.head.moment ≡ false
    → refusal_of c live request ≡ Some (PastBase c.head.moment)
refused_past c live request past = rw past refl

pub refused_over : (c : Collection) (live : Option SessionSummary) (request : Request) → int_eq request.base c.head.moment ≡ true
    → refusal_of c live request ≡ refusal_in c (session_of live request) request
refused_over c live request over = rw over refl

-- A list of requests that a session accepts, request by request: all that they bring is in its ranges, and a start is the first.
use Rattle.std.specs.Prelude.{◌≡◌, ℤ, true, not, List, [], ◌∷◌, ◌++◌, None}
use Rattle.std.proofs.Common.{refl, sym, subst, append_assoc}
use Rattle.std.proofs.lemmas.List.{map-append}
use Rattle.ak_keep.specs.Collections.{Collection}
use Rattle.ak_messages.specs.declared.requests.Ask.{Ask}
use Rattle.ak_messages.specs.declared.requests.Ask.TheVariants as asks
use Rattle.ak_messages.specs.declared.requests.Request.{Request}
use Rattle.ak_session.specs.Asks.{asks_of, brought, all_brought}
use Rattle.ak_session.specs.Contents.{refusal}
use Rattle.ak_session.specs.Objections.{MayNotCome}
use Rattle.ak_session.specs.Refusals.{first_objection, start_tests, tests_of, objection_to}
use Rattle.ak_session.specs.Sessions.{AreAllowed}
use Rattle.ak_session.specs.NextMethods.{may_come}
use Rattle.ak_session.proofs.Ranges.{not_both, none_first, none_rest, untrue, Fits, nothing_fits, both_fit, brought_fits}

-- each of more requests, after these, meets no objection
abbrev pub MeetNoObjection : Collection → List Ask → List Ask → Type 0
MeetNoObjection c before [] = Unit {0}
MeetNoObjection c before (ask ∷ more) = (objection_to c before ask ≡ None) × MeetNoObjection c (before ++ ask ∷ []) more

taken_from : (c : Collection) (before more : List Request) → AreAllowed c (before ++ more) → MeetNoObjection c (asks_of before) (asks_of more)
unfolding refusal
taken_from c before [] all = tt
taken_from c before (request ∷ more) all = (
  (all before request more refl).allowed,
  subst (λ (l : List Ask). MeetNoObjection c l (asks_of more)) (map-append (λ (r : Request). r.ask) before (request ∷ []))
      (taken_from c (before ++ request ∷ []) more (subst (AreAllowed c) (sym (append_assoc before (request ∷ []) more)) all)),
)

pub taken_allowed : (c : Collection) (accepted : List Request) → AreAllowed c accepted → MeetNoObjection c [] (asks_of accepted)
taken_allowed c accepted all = taken_from c [] accepted all

-- the tests of a request that meets no objection find no fault
pub tests_pass : (c : Collection) (before : List Ask) (ask : Ask) → objection_to c before ask ≡ None → first_objection (tests_of c before ask) ≡ None
tests_pass c before ask none = none_rest (not (may_come c before ask)) MayNotCome (tests_of c before ask) none

-- its method may come
pub method_fits : (c : Collection) (before : List Ask) (ask : Ask) → objection_to c before ask ≡ None → may_come c before ask ≡ true
method_fits c before ask none = untrue (none_first (not (may_come c before ask)) MayNotCome (tests_of c before ask) none)

pub all_fit : (c : Collection) (before more : List Ask) → MeetNoObjection c before more → Fits (all_brought more)
all_fit c before [] all = nothing_fits
all_fit c before (ask ∷ more) all = both_fit (brought ask) (all_brought more) (brought_fits c before ask (tests_pass c before ask all.0)) (all_fit c (before ++ ask ∷ []) more all.1)

-- ---- the start
-- a list begins with a start whose tests find no fault
pub record IsStarted (c : Collection) (asked : List Ask) : Type 0 where
  pub min_usn : ℤ
  pub lmod : ℤ
  pub more : List Ask
  pub is : asked ≡ asks.Start min_usn lmod ∷ more
  pub tests : first_objection (start_tests c min_usn lmod) ≡ None

-- what is asked first, if something comes after it, is a start
first_is_start : (c : Collection) (ask next : Ask) (more : List Ask) → objection_to c [] ask ≡ None → may_come c (ask ∷ []) next ≡ true → IsStarted c (ask ∷ more)
first_is_start c asks.Meta next more none may = absurd (not_both (method_fits c [] asks.Meta none) refl)
first_is_start c (asks.Start min_usn lmod) next more none may = record { min_usn = min_usn; lmod = lmod; more = more; is = refl; tests = tests_pass c [] (asks.Start min_usn lmod) none }
first_is_start c (asks.ApplyGraves ids) next more none may = absurd (not_both (method_fits c [] (asks.ApplyGraves ids) none) refl)
first_is_start c (asks.ApplyChanges changes) next more none may = absurd (not_both (method_fits c [] (asks.ApplyChanges changes) none) refl)
first_is_start c asks.Chunk next more none may = absurd (not_both (method_fits c [] asks.Chunk none) refl)
first_is_start c (asks.ApplyChunk chunk) next more none may = absurd (not_both (method_fits c [] (asks.ApplyChunk chunk) none) refl)
first_is_start c (asks.SanityCheck2 counts) next more none may = absurd (not_both (method_fits c [] (asks.SanityCheck2 counts) none) refl)
first_is_start c asks.Finish next more none may = absurd (not_both (method_fits c [] asks.Finish none) refl)
first_is_start c (asks.Upload whole) next more none may = absurd (not_both may refl)
first_is_start c asks.Download next more none may = absurd (not_both may refl)

-- a session that accepts a finish began with a start
pub began_with_start : (c : Collection) (asked : List Ask) → MeetNoObjection c [] asked → objection_to c asked asks.Finish ≡ None → IsStarted c asked
began_with_start c [] all none = absurd (not_both (method_fits c [] asks.Finish none) refl)
began_with_start c (ask ∷ []) all none = first_is_start c ask asks.Finish [] all.0 (method_fits c (ask ∷ []) asks.Finish none)
began_with_start c (ask ∷ next ∷ more) all none = first_is_start c ask next (next ∷ more) all.0 (method_fits c (ask ∷ []) next all.1.0)

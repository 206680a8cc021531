-- What the tests tell of a request that passed them.
use Rattle.std.specs.Option.{option_map}
use Rattle.std.specs.Ordering.{int_eq}
use Rattle.std.specs.Prelude.{◌≡◌, ℤ, pos, ◌==◌, true, false, not, if◌then◌else◌, List, [], ◌∷◌, Option, Some, None, IfSome}
use Rattle.std.proofs.Common.{refl, sym, ap, ◌∙◌}
use Rattle.std.proofs.lemmas.List.Elements.{All-from_recursion}
use Rattle.ak_base.specs.Heads.{IsConfInRange, IsWithin}
use Rattle.ak_base.specs.Limits.{last_stamp}
use Rattle.ak_base.specs.Rows.{IsChecked}
use Rattle.ak_keep.specs.Collections.{Collection}
use Rattle.ak_merge.specs.Commits.{Settings}
use Rattle.ak_merge.specs.Tags.{IsTagName}
use Rattle.ak_messages.specs.declared.requests.Ask.{Ask}
use Rattle.ak_messages.specs.declared.requests.Ask.TheVariants as asks
use Rattle.ak_messages.specs.declared.requests.Request.{Request}
use Rattle.ak_protocol.proofs.Cases.{not_none}
use Rattle.ak_protocol.specs.Replies.{Refusal, Objected, PastBase, WrongStep}
use Rattle.ak_server_rules.proofs.Deciding.{refused_for, refused_key, refused_over, refused_past, refused_step}
use Rattle.ak_server_rules.specs.Decisions.{refusal_in, refusal_of}
use Rattle.ak_server_rules.specs.Serving.{has_next_step, is_device_newer, may_come, objection_to, session_of, tests_of}
use Rattle.ak_server_rules.specs.Summaries.{SessionSummary}
use Rattle.ak_session.proofs.Ranges.{Fits, SettingsFit, brought_fits, none_first, none_rest, untrue}
use Rattle.ak_session.specs.Asks.{brought}
use Rattle.ak_session.specs.Objections.{Objection, MayNotCome}
use Rattle.ak_session.specs.Refusals as refusals
use Rattle.ak_session.specs.Refusals.{Test, first_objection, test}
use Rattle.ak_sync_rows.specs.Takes.{MayBeTaken}

pub none_mapped : {X Y : Type 0} (f : X → Y) (o : Option X) → option_map f o ≡ None → o ≡ None
none_mapped f None is = refl
none_mapped f (Some x) is = absurd (not_none is)

-- a request passed all tests of the session that it is next of
pub record Passed (c : Collection) (live : SessionSummary) (request : Request) : Type 0 where
  pub base : int_eq request.base c.head.moment ≡ true
  pub key : (live.key == request.session.0) ≡ true
  pub step : has_next_step live request ≡ true
  pub may : may_come live request.ask ≡ true
  pub tests : first_objection (tests_of c live request.ask) ≡ None
  pub none : objection_to c live request.ask ≡ None

module _ (c : Collection) (live : SessionSummary) (request : Request) where
  by_step : (over : int_eq request.base c.head.moment ≡ true) (key : (live.key == request.session.0) ≡ true)
      → refusal_in c (session_of (Some live) request) request ≡ None → Passed c live request
  by_step over key none =
      elim (has_next_step live request) as (λ b. has_next_step live request ≡ b → Passed c live request) [
        | true ↦ λ next.
            let allowed : objection_to c live request.ask ≡ None =
            none_mapped (λ (why : Objection). Objected why live.last c.head.usn) (objection_to c live request.ask) (sym (refused_for c live request key next) ∙ none) in
            record {
              base = over;
              key = key;
              step = next;
              may = untrue (none_first (not (may_come live request.ask)) MayNotCome (tests_of c live request.ask) allowed);
              tests = none_rest (not (may_come live request.ask)) MayNotCome (tests_of c live request.ask) allowed;
              none = allowed;
            }
        | false ↦ λ other. absurd (not_none (sym (refused_step c live request key other) ∙ none))
      ] refl

  by_key : (over : int_eq request.base c.head.moment ≡ true) → refusal_in c (session_of (Some live) request) request ≡ None → Passed c live request
  by_key over none =
      elim (live.key == request.session.0) as (λ b. (live.key == request.session.0) ≡ b → Passed c live request) [
        | true ↦ λ key. by_step over key none
        | false ↦ λ other. absurd (not_none (sym (refused_key c live request other) ∙ none))
      ] refl

  pub passed_all : refusal_of c (Some live) request ≡ None → Passed c live request
  passed_all none =
      elim (int_eq request.base c.head.moment) as (λ b. int_eq request.base c.head.moment ≡ b → Passed c live request) [
        | true ↦ λ over. by_key over (sym (refused_over c (Some live) request over) ∙ none)
        | false ↦ λ past. absurd (not_none (sym (refused_past c (Some live) request past) ∙ none))
      ] refl

-- ---- what is brought
as_listed : (c : Collection) (live : SessionSummary) (ask : Ask) → tests_of c live ask ≡ refusals.tests_of c (asks.Start (pos 0) live.moment ∷ []) ask
as_listed c live asks.Meta = refl
as_listed c live (asks.Start min_usn lmod) = refl
as_listed c live (asks.ApplyGraves ids) = refl
as_listed c live (asks.ApplyChanges changes) = refl
as_listed c live asks.Chunk = refl
as_listed c live (asks.ApplyChunk chunk) = refl
as_listed c live (asks.SanityCheck2 counts) = refl
as_listed c live asks.Finish = refl
as_listed c live (asks.Upload whole) = refl
as_listed c live asks.Download = refl

own_conf : (o : Option Settings) → IfSome o SettingsFit → IfSome o (λ settings. IsConfInRange settings.conf)
own_conf None fits = tt
own_conf (Some s) fits = fits.conf

own_crt : (o : Option Settings) → IfSome o SettingsFit → IfSome o (λ settings. IsWithin (pos 0) last_stamp settings.crt)
own_crt None fits = tt
own_crt (Some s) fits = fits.crt

-- what a request brings that passed its tests may be taken
pub brought_taken : (c : Collection) (live : SessionSummary) (ask : Ask) → first_objection (tests_of c live ask) ≡ None → MayBeTaken (brought ask)
brought_taken c live ask none =
    let fits : Fits (brought ask) = brought_fits c (asks.Start (pos 0) live.moment ∷ []) ask (ap first_objection (sym (as_listed c live ask)) ∙ none) in
    record {
      rows = All-from_recursion IsChecked (brought ask).rows fits.rows;
      tags = All-from_recursion IsTagName (brought ask).tags fits.tags;
      conf = own_conf (brought ask).settings fits.settings;
      crt = own_crt (brought ask).settings fits.settings;
    }

-- ---- collections with the same numbers
-- heads with the same moments and the same number
pub record AlikeNumbers (a b : Collection) : Type 0 where
  pub moment : a.head.moment ≡ b.head.moment
  pub schema : a.head.schema ≡ b.head.schema
  pub usn : a.head.usn ≡ b.head.usn
  pub last_sync : a.head.last_sync ≡ b.head.last_sync

module _ (a b : Collection) (same : AlikeNumbers a b) where
  tests_alike : (live : SessionSummary) (ask : Ask) → tests_of a live ask ≡ tests_of b live ask
  tests_alike live asks.Meta = refl
  tests_alike live (asks.Start min_usn lmod) =
      ap (λ (usn : ℤ). refusals.start_tests (record { rows = a.rows; head = record a.head { usn = usn } }) min_usn lmod) same.usn
      ∙ ap (λ (moment : ℤ). refusals.start_tests (record { rows = a.rows; head = record a.head { usn = b.head.usn; moment = moment } }) min_usn lmod) same.moment
  tests_alike live (asks.ApplyGraves ids) = refl
  tests_alike live (asks.ApplyChanges changes) =
      ap (λ (moment : ℤ). refusals.change_tests (is_device_newer (record { rows = a.rows; head = record a.head { moment = moment } }) live) changes) same.moment
  tests_alike live asks.Chunk = refl
  tests_alike live (asks.ApplyChunk chunk) = refl
  tests_alike live (asks.SanityCheck2 counts) = refl
  tests_alike live asks.Finish = refl
  tests_alike live (asks.Upload whole) =
      ap (λ (moment : ℤ). refusals.upload_tests (record { rows = a.rows; head = record a.head { moment = moment } }) whole) same.moment
      ∙ ap (λ (schema : ℤ). refusals.upload_tests (record { rows = a.rows; head = record a.head { moment = b.head.moment; schema = schema } }) whole) same.schema
  tests_alike live asks.Download = refl

  pub objection_alike : (live : SessionSummary) (ask : Ask) → objection_to a live ask ≡ objection_to b live ask
  objection_alike live ask = ap (λ (tests : List Test). first_objection (test (not (may_come live ask)) MayNotCome ∷ tests)) (tests_alike live ask)

  in_alike : (live : Option SessionSummary) (request : Request) → refusal_in a live request ≡ refusal_in b live request
  in_alike None request = refl
  in_alike (Some live) request =
      ap (λ (usn : ℤ). if has_next_step live request then option_map (λ (why : Objection). Objected why live.last usn) (objection_to a live request.ask) else Some (WrongStep live.last)) same.usn
      ∙ ap (λ (o : Option Objection). if has_next_step live request then option_map (λ (why : Objection). Objected why live.last b.head.usn) o else Some (WrongStep live.last)) (objection_alike live request.ask)

  -- a request is refused alike over both
  pub refusal_alike : (live : Option SessionSummary) (request : Request) → refusal_of a live request ≡ refusal_of b live request
  refusal_alike live request =
      ap (λ (moment : ℤ). if int_eq request.base moment then refusal_in a (session_of live request) request else Some (PastBase moment)) same.moment
      ∙ ap (λ (why : Option Refusal). if int_eq request.base b.head.moment then why else Some (PastBase b.head.moment)) (in_alike (session_of live request) request)

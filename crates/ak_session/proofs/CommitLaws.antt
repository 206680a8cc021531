-- What a finish and an upload commit.
use Rattle.std.specs.Prelude.{◌≡◌, ℤ, pos, ◌+ℤ◌, ◌<ℤ◌, ◌||◌, ◌&&◌, Bool, true, false, not, List, [], ◌∷◌, None, Option, Some, IfSome}
use Rattle.std.specs.Int.{int_max}
use Rattle.std.specs.List.{AllByRecursion, list_all}
use Rattle.std.specs.Ordering.{int_eq}
use Rattle.std.specs.Cmp.{first_so, second_so}
use Rattle.std.proofs.Common.{refl, sym, ap, subst, ◌∙◌, arith}
use Rattle.std.proofs.lemmas.Int.{ints}
use Rattle.std.proofs.lemmas.List.Elements.{All-from_recursion}
use Rattle.ak_base.specs.Heads.{IsMoment, IsConfInRange, IsHeadInRange, IsWithin, tag_names, is_tag_name, is_within}
use Rattle.ak_base.specs.Limits.{last_stamp, last_head_usn}
use Rattle.ak_base.specs.Rows.{IsChecked}
use Rattle.ak_base.specs.declared.heads.Tag.{Tag}
use Rattle.ak_keep.specs.Collections.{Collection}
use Rattle.ak_merge.specs.Commits.{Settings, settings_of, with_received, IsCommitOf, IsInRange, IsUploadOf, IsWholeInRange}
use Rattle.ak_merge.specs.Tags.{IsTagName}
use Rattle.ak_messages.specs.declared.requests.Ask.{Ask}
use Rattle.ak_messages.specs.declared.requests.Ask.TheVariants as asks
use Rattle.ak_messages.specs.declared.requests.Request.{Request}
use Rattle.ak_messages.specs.declared.requests.Whole.{Whole}
use Rattle.ak_session.specs.Asks.{asks_of, all_brought, device_moment, fold_of}
use Rattle.ak_session.specs.Closings.{moment_past, of_finish, of_upload, closed_by, whole_brought}
use Rattle.ak_session.specs.Contents.{refusal, closed}
use Rattle.ak_session.specs.Objections.{WrongUsn, NoNumber, WrongRow}
use Rattle.ak_session.specs.Refusals.{test, has_twins, same_names, same_tags, has_last_moment, is_whole_in_range, has_no_next, is_tag_in_range, is_checked, is_conf_in_range, is_crt_in_range, first_objection, start_tests, upload_tests, objection_to}
use Rattle.ak_session.specs.Sessions.{AreAllowed}
use Rattle.ak_session.proofs.Folds.{fold_takes_all}
use Rattle.ak_session.proofs.Ranges.{not_both, none_of_two, untrue, all_pass, within, passed, tag_named, settings_fit, past_first, past_second, moment_fits, SettingsFit, Fits}
use Rattle.ak_session.proofs.Starts.{MeetNoObjection, taken_allowed, tests_pass, all_fit, IsStarted, began_with_start}

-- ---- later
later_by : (c : Collection) (asked : List Ask) (ask : Ask) (now : ℤ) → c.head.moment <ℤ (closed_by c asked ask now).head.moment
later_by c asked asks.Meta now = past_first now c.head.moment (device_moment asked)
later_by c asked (asks.Start min_usn lmod) now = past_first now c.head.moment (device_moment asked)
later_by c asked (asks.ApplyGraves ids) now = past_first now c.head.moment (device_moment asked)
later_by c asked (asks.ApplyChanges changes) now = past_first now c.head.moment (device_moment asked)
later_by c asked asks.Chunk now = past_first now c.head.moment (device_moment asked)
later_by c asked (asks.ApplyChunk chunk) now = past_first now c.head.moment (device_moment asked)
later_by c asked (asks.SanityCheck2 counts) now = past_first now c.head.moment (device_moment asked)
later_by c asked asks.Finish now = past_first now c.head.moment (device_moment asked)
later_by c asked (asks.Upload whole) now = past_first now c.head.moment whole.moment
later_by c asked asks.Download now = past_first now c.head.moment (device_moment asked)

pub commits_are_later : (committed : Collection) (accepted : List Request) (request : Request) (now : ℤ) → committed.head.moment <ℤ (closed committed accepted request now).head.moment
unfolding closed
commits_are_later committed accepted request now = later_by committed (asks_of accepted) request.ask now

-- ---- a finish
-- a finish commits all that was brought
pub finish_commits : (c : Collection) (asked : List Ask) (now : ℤ) → IsCommitOf (all_brought asked) c (of_finish c asked now)
finish_commits c asked now =
    let took : fold_of c asked ≡ with_received (all_brought asked) c = fold_takes_all c asked in
    record {
      rows = ap (λ (held : Collection). held.rows) took;
      tags = ap (λ (held : Collection). held.head.tags) took;
      settings = ap (λ (held : Collection). settings_of held.head) took;
      usn = refl;
      schema = ap (λ (held : Collection). held.head.schema) took;
      last_sync = ap (λ (held : Collection). held.head.last_sync) took;
      moment = past_first now c.head.moment (device_moment asked);
    }

pub finishes_commit : (committed : Collection) (accepted : List Request) (finish : Request) (now : ℤ) → finish.ask ≡ asks.Finish
    → IsCommitOf (all_brought (asks_of accepted)) committed (closed committed accepted finish now)
unfolding closed
finishes_commit committed accepted finish now is =
    subst (λ (ask : Ask). IsCommitOf (all_brought (asks_of accepted)) committed (closed_by committed (asks_of accepted) ask now)) (sym is) (finish_commits committed (asks_of accepted) now)

neither : (s t : Bool) → (s || t) ≡ false → (s ≡ false) × (t ≡ false)
neither true t is = absurd (not_both refl is)
neither false t is = (refl, is)

pub start_numbers : (c : Collection) (min_usn lmod : ℤ) → first_objection (start_tests c min_usn lmod) ≡ None
    → (int_eq c.head.usn last_head_usn ≡ false) × (has_no_next c.head.moment ≡ false) × (has_no_next lmod ≡ false)
start_numbers c min_usn lmod none =
    let all : (int_eq c.head.usn last_head_usn || has_no_next c.head.moment || has_no_next lmod) ≡ false =
    (none_of_two (not (is_within (pos 0) c.head.usn min_usn)) WrongUsn (int_eq c.head.usn last_head_usn || has_no_next c.head.moment || has_no_next lmod) NoNumber [] none).1 in
    let two = neither (int_eq c.head.usn last_head_usn || has_no_next c.head.moment) (has_no_next lmod) all in
    let one = neither (int_eq c.head.usn last_head_usn) (has_no_next c.head.moment) two.0 in
    (one.0, one.1, two.1)

below_last : (usn : ℤ) → IsWithin (pos 0) last_head_usn usn → int_eq usn last_head_usn ≡ false → usn <ℤ last_head_usn
below_last usn range differ =
    let high = range.high in
    grind (arith, ints, high, differ)

settings_conf : (o : Option Settings) → IfSome o SettingsFit → IfSome o (λ settings. IsConfInRange settings.conf)
settings_conf None fits = tt
settings_conf (Some s) fits = fits.conf

settings_crt : (o : Option Settings) → IfSome o SettingsFit → IfSome o (λ settings. IsWithin (pos 0) last_stamp settings.crt)
settings_crt None fits = tt
settings_crt (Some s) fits = fits.crt

finish_in_range : (c : Collection) (asked : List Ask) (now : ℤ) → MeetNoObjection c [] asked → objection_to c asked asks.Finish ≡ None → IsHeadInRange c.head → IsMoment now
    → IsInRange (all_brought asked) c (of_finish c asked now).head.moment
finish_in_range c asked now all none head timely =
    let began : IsStarted c asked = began_with_start c asked all none in
    let numbers = start_numbers c began.min_usn began.lmod began.tests in
    let fits : Fits (all_brought asked) = all_fit c [] asked all in
    record {
      rows = All-from_recursion IsChecked (all_brought asked).rows fits.rows;
      tags = All-from_recursion IsTagName (all_brought asked).tags fits.tags;
      conf = settings_conf (all_brought asked).settings fits.settings;
      crt = settings_crt (all_brought asked).settings fits.settings;
      usn = below_last c.head.usn head.usn numbers.0;
      moment = subst (λ (l : List Ask). IsMoment (moment_past now c.head.moment (device_moment l))) (sym began.is) (moment_fits now c.head.moment began.lmod timely numbers.1 numbers.2);
    }

pub finishes_in_range : (committed : Collection) (accepted : List Request) (finish : Request) (now : ℤ) → finish.ask ≡ asks.Finish → AreAllowed committed accepted
    → refusal committed accepted finish ≡ None → IsHeadInRange committed.head → IsMoment now → IsInRange (all_brought (asks_of accepted)) committed (closed committed accepted finish now).head.moment
unfolding closed refusal
finishes_in_range committed accepted finish now is all none head timely =
    subst (λ (ask : Ask). IsInRange (all_brought (asks_of accepted)) committed (closed_by committed (asks_of accepted) ask now).head.moment) (sym is)
    (finish_in_range committed (asks_of accepted) now (taken_allowed committed accepted all) (sym (ap (objection_to committed (asks_of accepted)) is) ∙ none) head timely)

-- ---- an upload
upload_replaces : (c : Collection) (whole : Whole) (now : ℤ) → IsUploadOf (whole_brought whole) c (of_upload c whole now)
upload_replaces c whole now = record {
  rows = refl;
  tags = refl;
  settings = refl;
  usn = refl;
  last_sync = refl;
  schema = past_first now c.head.schema whole.schema;
  their_schema = past_second now c.head.schema whole.schema;
  moment = past_first now c.head.moment whole.moment;
  their_moment = past_second now c.head.moment whole.moment;
}

pub uploads_replace : (committed : Collection) (accepted : List Request) (upload : Request) (whole : Whole) (now : ℤ) → upload.ask ≡ asks.Upload whole
    → IsUploadOf (whole_brought whole) committed (closed committed accepted upload now)
unfolding closed
uploads_replace committed accepted upload whole now is =
    subst (λ (ask : Ask). IsUploadOf (whole_brought whole) committed (closed_by committed (asks_of accepted) ask now)) (sym is) (upload_replaces committed whole now)

names_fit : (tags : List Tag) → list_all is_tag_in_range tags ≡ true → AllByRecursion IsTagName (tag_names tags)
names_fit [] is = tt
names_fit (tag ∷ more) is = (
  tag_named tag.name (first_so (is_tag_name tag.name) _ (first_so (is_tag_in_range tag) _ is)),
  names_fit more (second_so (is_tag_in_range tag) _ is),
)

upload_in_range : (c : Collection) (whole : Whole) (now : ℤ) → first_objection (upload_tests c whole) ≡ None → IsMoment now
    → IsWholeInRange (whole_brought whole) (of_upload c whole now).head.schema (of_upload c whole now).head.moment
upload_in_range c whole now none timely =
    let moment : Bool = has_no_next c.head.moment in
    let schema : Bool = has_no_next c.head.schema in
    let their_moment : Bool = has_no_next whole.moment in
    let their_schema : Bool = has_no_next whole.schema in
    let tests = none_of_two (has_last_moment c whole) NoNumber (not (is_whole_in_range whole)) WrongRow (test (has_twins same_names whole.rows || has_twins same_tags whole.tags) WrongRow ∷ []) none in
    let four = neither (moment || schema || their_moment) their_schema tests.0 in
    let three = neither (moment || schema) their_moment four.0 in
    let two = neither moment schema three.0 in
    let rows : Bool = list_all is_checked whole.rows in
    let tags : Bool = list_all is_tag_in_range whole.tags in
    let conf : Bool = is_conf_in_range whole.conf in
    let crt : Bool = is_crt_in_range whole.crt in
    let all : (rows && tags && conf && crt) ≡ true = untrue tests.1 in
    let but_crt : (rows && tags && conf) ≡ true = first_so (rows && tags && conf) crt all in
    let but_conf : (rows && tags) ≡ true = first_so (rows && tags) conf but_crt in
    record {
      rows = All-from_recursion IsChecked whole.rows (all_pass IsChecked is_checked passed whole.rows (first_so rows tags but_conf));
      tags = All-from_recursion IsTagName (tag_names whole.tags) (names_fit whole.tags (second_so rows tags but_conf));
      conf = settings_fit whole.conf (second_so (rows && tags) conf but_crt);
      crt = within (pos 0) last_stamp whole.crt (second_so (rows && tags && conf) crt all);
      schema = moment_fits now c.head.schema whole.schema timely two.1 four.1;
      moment = moment_fits now c.head.moment whole.moment timely two.0 three.1;
    }

pub uploads_in_range : (committed : Collection) (accepted : List Request) (upload : Request) (whole : Whole) (now : ℤ) → upload.ask ≡ asks.Upload whole
    → refusal committed accepted upload ≡ None → IsHeadInRange committed.head → IsMoment now
    → IsWholeInRange (whole_brought whole) (closed committed accepted upload now).head.schema (closed committed accepted upload now).head.moment
unfolding closed refusal
uploads_in_range committed accepted upload whole now is none head timely =
    subst (λ (ask : Ask). IsWholeInRange (whole_brought whole) (closed_by committed (asks_of accepted) ask now).head.schema (closed_by committed (asks_of accepted) ask now).head.moment) (sym is)
    (upload_in_range committed whole now (tests_pass committed (asks_of accepted) (asks.Upload whole) (sym (ap (objection_to committed (asks_of accepted)) is) ∙ none)) timely)

-- ---- moments
pub finish_moments : (committed : Collection) (start : Request) (accepted : List Request) (finish : Request) (now : ℤ) (min_usn lmod : ℤ) → start.ask ≡ asks.Start min_usn lmod → finish.ask ≡ asks.Finish
    → (closed committed (start ∷ accepted) finish now).head.moment ≡ int_max now (int_max (committed.head.moment +ℤ pos 1) (lmod +ℤ pos 1))
unfolding closed
finish_moments committed start accepted finish now min_usn lmod begins ends =
    ap (λ (ask : Ask). (closed_by committed (start.ask ∷ asks_of accepted) ask now).head.moment) ends
    ∙ ap (λ (ask : Ask). moment_past now committed.head.moment (device_moment (ask ∷ asks_of accepted))) begins

pub upload_moments : (committed : Collection) (accepted : List Request) (upload : Request) (whole : Whole) (now : ℤ) → upload.ask ≡ asks.Upload whole
    → (closed committed accepted upload now).head.moment ≡ int_max now (int_max (committed.head.moment +ℤ pos 1) (whole.moment +ℤ pos 1))
unfolding closed
upload_moments committed accepted upload whole now is = ap (λ (ask : Ask). (closed_by committed (asks_of accepted) ask now).head.moment) is

pub upload_schemas : (committed : Collection) (accepted : List Request) (upload : Request) (whole : Whole) (now : ℤ) → upload.ask ≡ asks.Upload whole
    → (closed committed accepted upload now).head.schema ≡ int_max now (int_max (committed.head.schema +ℤ pos 1) (whole.schema +ℤ pos 1))
unfolding closed
upload_schemas committed accepted upload whole now is = ap (λ (ask : Ask). (closed_by committed (asks_of accepted) ask now).head.schema) is

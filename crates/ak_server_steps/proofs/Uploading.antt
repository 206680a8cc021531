-- What an upload puts in place of a collection: its rows and its head are in their ranges, and no two rows share a name.
use Rattle.std.specs.Cmp.{first_so, second_so}
use Rattle.std.specs.List.{All, AllByRecursion, IsDistinct, list_all, list_any}
use Rattle.std.specs.List.Sorted.{IsStrictlySortedBy}
use Rattle.std.specs.Cmp.Lexicographic.{slice_cmp}
use Rattle.std.specs.Ordering.{eq_by_cmp, nat_cmp}
use Rattle.std.specs.Prelude.{◌≡◌, ℤ, pos, ◌≤ℤ◌, ◌||◌, ◌&&◌, Bool, true, false, not, cond, is_some, List, [], ◌∷◌, map, filter}
use Rattle.std.proofs.Common.{sym, ap, subst, ◌∙◌, arith}
use Rattle.std.proofs.lemmas.Bool.{or_parts}
use Rattle.std.proofs.lemmas.Int.{ints}
use Rattle.std.proofs.lemmas.List.Elements.{All-from_recursion}
use Rattle.ak_base.proofs.RowFacts.{name_of-with_usn}
use Rattle.ak_base.specs.Heads.{IsHeadInRange, IsMoment, IsTagInRange, tag_names, is_tag_name}
use Rattle.ak_base.specs.Limits.{last_moment, last_stamp}
use Rattle.ak_base.specs.Names.{name_cmp}
use Rattle.ak_base.specs.Rows.{IsChecked, buried_of, name_of, with_usn}
use Rattle.ak_base.specs.declared.heads.Conf.{Conf}
use Rattle.ak_base.specs.declared.heads.Head.{Head}
use Rattle.ak_base.specs.declared.heads.Tag.{Tag}
use Rattle.ak_base.specs.declared.names.Name.{Name}
use Rattle.ak_base.specs.declared.rows.Row.{Row}
use Rattle.ak_io.specs.Arrivals.{IsClockMoment}
use Rattle.ak_keep.proofs.HeadNumbers.{some_collection}
use Rattle.ak_keep.specs.Collections.{Collection}
use Rattle.ak_keep.specs.HeadNumbers.{AreNumbersInRange, numbered}
use Rattle.ak_keep.specs.declared.head_numbers.Numbers.{Numbers}
use Rattle.ak_keep.specs.Keepers.{Keeping, replaced}
use Rattle.ak_merge.specs.Commits.{uploaded_rows}
use Rattle.ak_merge.specs.Tags.{IsTagName, tags_taken}
use Rattle.ak_merge.proofs.CheckedRows.{checked_with_usn}
use Rattle.ak_merge.proofs.TagLaws.{tags_stay_in_range, tags_stay_ordered}
use Rattle.ak_messages.specs.declared.requests.Whole.{Whole}
use Rattle.ak_session.specs.Closings.{moment_past}
use Rattle.ak_session.specs.Refusals.{has_last_moment, has_no_next, has_twins, is_checked, is_conf_in_range, is_crt_in_range, is_tag_in_range, is_whole_in_range, same_names}
use Rattle.ak_session.proofs.Ranges.{moment_fits, passed, settings_fit, tag_named, within}
use Rattle.ak_server_steps.specs.Closings.{uploaded_head}

-- ---- rows

abbrev kept_first : Bool → Row → List Row → List Row
kept_first b row more = map (λ (r : Row). with_usn r (pos 0)) (cond (not b) (row ∷ filter (λ (r : Row). not (is_some (buried_of r))) more) (filter (λ (r : Row). not (is_some (buried_of r))) more))

apart_from : (row : Row) (rows : List Row) → list_any (same_names row) rows ≡ false
    → AllByRecursion (λ (name : Name). eq_by_cmp name_cmp (name_of row) name ≡ false) (map name_of (uploaded_rows rows))
apart_from row [] is = tt
apart_from row (other ∷ more) is =
    let parts = or_parts (same_names row other) (list_any (same_names row) more) is in
    let rest = apart_from row more parts.1 in
    elim (is_some (buried_of other)) as (λ b. AllByRecursion (λ (name : Name). eq_by_cmp name_cmp (name_of row) name ≡ false) (map name_of (kept_first b other more))) [
      | true ↦ rest
      | false ↦ (ap (λ (name : Name). eq_by_cmp name_cmp (name_of row) name) (name_of-with_usn other (pos 0)) ∙ parts.0, rest)
    ]

-- the rows that are put have distinct names
pub uploaded_apart : (rows : List Row) → has_twins same_names rows ≡ false → IsDistinct (eq_by_cmp name_cmp) (map name_of (uploaded_rows rows))
unfolding IsDistinct
uploaded_apart [] is = tt
uploaded_apart (row ∷ more) is =
    let parts = or_parts (list_any (same_names row) more) (has_twins same_names more) is in
    let rest = uploaded_apart more parts.1 in
    elim (is_some (buried_of row)) as (λ b. IsDistinct (eq_by_cmp name_cmp) (map name_of (kept_first b row more))) [
      | true ↦ rest
      | false ↦ (
        subst (λ (name : Name). AllByRecursion (λ (other : Name). eq_by_cmp name_cmp name other ≡ false) (map name_of (uploaded_rows more))) (sym (name_of-with_usn row (pos 0))) (apart_from row more parts.0),
        rest,
      )
    ]

zero_checked : (row : Row) → is_checked row ≡ true → IsChecked (with_usn row (pos 0))
zero_checked row is = checked_with_usn row (pos 0) (omega (arith, ints)) (omega (arith, ints)) (passed row is)

rows_fit : (rows : List Row) → list_all is_checked rows ≡ true → AllByRecursion IsChecked (uploaded_rows rows)
rows_fit [] is = tt
rows_fit (row ∷ more) is =
    let rest = rows_fit more (second_so (is_checked row) (list_all is_checked more) is) in
    elim (is_some (buried_of row)) as (λ b. AllByRecursion IsChecked (kept_first b row more)) [
      | true ↦ rest
      | false ↦ (zero_checked row (first_so (is_checked row) (list_all is_checked more) is), rest)
    ]

-- ---- the parts of a whole collection
record Parts (whole : Whole) : Type 0 where
  rows : list_all is_checked whole.rows ≡ true
  tags : list_all is_tag_in_range whole.tags ≡ true
  conf : is_conf_in_range whole.conf ≡ true
  crt : is_crt_in_range whole.crt ≡ true

parts_of : (whole : Whole) → is_whole_in_range whole ≡ true → Parts whole
parts_of whole is =
    let rows : Bool = list_all is_checked whole.rows in
    let tags : Bool = list_all is_tag_in_range whole.tags in
    let conf : Bool = is_conf_in_range whole.conf in
    let crt : Bool = is_crt_in_range whole.crt in
    let but_crt : (rows && tags && conf) ≡ true = first_so (rows && tags && conf) crt is in
    let but_conf : (rows && tags) ≡ true = first_so (rows && tags) conf but_crt in
    record {
      rows = first_so rows tags but_conf;
      tags = second_so rows tags but_conf;
      conf = second_so (rows && tags) conf but_crt;
      crt = second_so (rows && tags && conf) crt is;
    }

-- the rows that are put pass their check
pub uploaded_checked : (whole : Whole) → is_whole_in_range whole ≡ true → All IsChecked (uploaded_rows whole.rows)
uploaded_checked whole is = All-from_recursion IsChecked (uploaded_rows whole.rows) (rows_fit whole.rows (parts_of whole is).rows)

-- ---- the moments
record Moments (held : Numbers) (whole : Whole) : Type 0 where
  moment : has_no_next held.moment ≡ false
  schema : has_no_next held.schema ≡ false
  their_moment : has_no_next whole.moment ≡ false
  their_schema : has_no_next whole.schema ≡ false

moments_of : (held : Numbers) (whole : Whole) → ((c : Collection) → has_last_moment (numbered held c) whole ≡ false) → Moments held whole
moments_of held whole none =
    let moment : Bool = has_no_next held.moment in
    let schema : Bool = has_no_next held.schema in
    let their_moment : Bool = has_no_next whole.moment in
    let their_schema : Bool = has_no_next whole.schema in
    let four = or_parts (moment || schema || their_moment) their_schema (none some_collection) in
    let three = or_parts (moment || schema) their_moment four.0 in
    let two = or_parts moment schema three.0 in
    record { moment = two.0; schema = two.1; their_moment = three.1; their_schema = four.1 }

-- what has a next moment is no later than the last one
pub at_most_last : (moment : ℤ) → has_no_next moment ≡ false → moment ≤ℤ last_moment
at_most_last moment is = grind (arith, ints, is)

pub their_moment_fits : (held : Numbers) (whole : Whole) → ((c : Collection) → has_last_moment (numbered held c) whole ≡ false) → whole.moment ≤ℤ last_moment
their_moment_fits held whole none = at_most_last whole.moment (moments_of held whole none).their_moment

pub their_schema_fits : (held : Numbers) (whole : Whole) → ((c : Collection) → has_last_moment (numbered held c) whole ≡ false) → whole.schema ≤ℤ last_moment
their_schema_fits held whole none = at_most_last whole.schema (moments_of held whole none).their_schema

clock_fits : (now : ℤ) → IsClockMoment now → IsMoment now
clock_fits now clock = let high = clock.high in record { low = clock.low; high = grind (arith, ints, high) }

-- ---- the head
names_fit : (tags : List Tag) → list_all is_tag_in_range tags ≡ true → AllByRecursion IsTagName (tag_names tags)
names_fit [] is = tt
names_fit (tag ∷ more) is = (
  tag_named tag.name (first_so (is_tag_name tag.name) _ (first_so (is_tag_in_range tag) _ is)),
  names_fit more (second_so (is_tag_in_range tag) _ is),
)

no_tags_ascend : IsStrictlySortedBy (slice_cmp nat_cmp) (tag_names [])
unfolding IsStrictlySortedBy
no_tags_ascend = tt

-- the head that is put is in its ranges
pub uploaded_head_fits : (held : Numbers) (whole : Whole) (now : ℤ) → IsClockMoment now → AreNumbersInRange held → is_whole_in_range whole ≡ true
    → ((c : Collection) → has_last_moment (numbered held c) whole ≡ false) → IsHeadInRange (uploaded_head held whole now)
uploaded_head_fits held whole now clock range is none =
    let parts = parts_of whole is in
    let moments = moments_of held whole none in
    let timely = clock_fits now clock in
    let names : All IsTagName (tag_names whole.tags) = All-from_recursion IsTagName (tag_names whole.tags) (names_fit whole.tags parts.tags) in
    record {
      crt = within (pos 0) last_stamp whole.crt parts.crt;
      moment = moment_fits now held.moment whole.moment timely moments.moment moments.their_moment;
      schema = moment_fits now held.schema whole.schema timely moments.schema moments.their_schema;
      usn = record { low = omega (arith, ints); high = omega (arith, ints) };
      last_sync = range.moments.last_sync;
      conf = settings_fit whole.conf parts.conf;
      tags = tags_stay_in_range (pos 0) (tag_names whole.tags) [] names (record { low = omega (arith, ints); high = omega (arith, ints) }) (All-from_recursion IsTagInRange [] tt);
      ascending = tags_stay_ordered (pos 0) (tag_names whole.tags) [] no_tags_ascend;
    }

abbrev head_with : ℤ → ℤ → ℤ → ℤ → Conf → List Tag → Head
head_with crt moment schema last_sync conf tags = record { crt = crt; moment = moment; schema = schema; usn = pos 1; last_sync = last_sync; conf = conf; tags = tags }

-- a head of these parts is the one that an upload makes
pub uploaded_head_is : (held : Numbers) (whole : Whole) (now crt moment schema last_sync : ℤ) (conf : Conf) (tags : List Tag)
    → crt ≡ whole.crt → moment ≡ moment_past now held.moment whole.moment → schema ≡ moment_past now held.schema whole.schema
    → last_sync ≡ held.last_sync → conf ≡ whole.conf → tags ≡ tags_taken (pos 0) (tag_names whole.tags) []
    → record { crt = crt; moment = moment; schema = schema; usn = pos 1; last_sync = last_sync; conf = conf; tags = tags } ≡ uploaded_head held whole now
uploaded_head_is held whole now crt moment schema last_sync conf tags the_crt the_moment the_schema the_sync the_conf the_tags =
    ap (λ (x : ℤ). head_with x moment schema last_sync conf tags) the_crt
    ∙ ap (λ (x : ℤ). head_with whole.crt x schema last_sync conf tags) the_moment
    ∙ ap (λ (x : ℤ). head_with whole.crt (moment_past now held.moment whole.moment) x last_sync conf tags) the_schema
    ∙ ap (λ (x : ℤ). head_with whole.crt (moment_past now held.moment whole.moment) (moment_past now held.schema whole.schema) x conf tags) the_sync
    ∙ ap (λ (x : Conf). head_with whole.crt (moment_past now held.moment whole.moment) (moment_past now held.schema whole.schema) held.last_sync x tags) the_conf
    ∙ ap (λ (x : List Tag). head_with whole.crt (moment_past now held.moment whole.moment) (moment_past now held.schema whole.schema) held.last_sync whole.conf x) the_tags

-- what is put in place of a collection is what an upload puts
pub upload_puts : (rows came : List Row) (made head : Head) (k new : Keeping) → rows ≡ uploaded_rows came → made ≡ head
    → new ≡ replaced rows made k → new ≡ replaced (uploaded_rows came) head k
upload_puts rows came made head k new the_rows the_head is =
    is
    ∙ ap (λ (x : List Row). replaced x made k) the_rows
    ∙ ap (λ (x : Head). replaced (uploaded_rows came) x k) the_head

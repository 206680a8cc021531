-- Whole collections that pass the tests of who takes them: what a server has committed, and what a device sends.
use Rattle.std.specs.FinMap.{entries, entries_sorted, is_sorted}
use Rattle.std.specs.FinMap.Entries.{below_all}
use Rattle.std.specs.List.{AllByRecursion, IsDistinct, list_any}
use Rattle.std.specs.List.Sorted.{IsStrictlySortedBy}
use Rattle.std.specs.Map.{keys_of}
use Rattle.std.specs.Ordering.{eq_by_cmp, is_eq, nat_cmp}
use Rattle.std.specs.Cmp.Lexicographic.{pointwise, slice_cmp}
use Rattle.std.specs.Prelude.{◌≡◌, ◌||◌, ◌==◌, ℕ, T, pos, Bool, true, false, not, List, [], ◌∷◌, map, None}
use Rattle.std.specs.declared.cmp.Ordering.TheVariants.{Less}
use Rattle.std.proofs.Common.{refl, sym, ap, subst, ◌∙◌}
use Rattle.std.proofs.lemmas.List.Elements.{All-from_recursion, recursion_from_All}
use Rattle.std.proofs.lemmas.Map.Keys.{IsDistinct-from_sorted}
use Rattle.std.proofs.lemmas.Map.Text.{is_eq-slice_cmp}
use Rattle.ak_base.specs.Heads.{IsHeadInRange, IsTagInRange, tag_names}
use Rattle.ak_base.specs.Limits.{last_stamp}
use Rattle.ak_base.specs.Names.{name_cmp}
use Rattle.ak_base.specs.Rows.{IsChecked, name_of}
use Rattle.ak_base.specs.declared.heads.Tag.{Tag}
use Rattle.ak_base.specs.declared.names.Name.{Name}
use Rattle.ak_base.specs.declared.rows.Row.{Row}
use Rattle.ak_exchange.specs.Phases.{held_by}
use Rattle.ak_keep.proofs.RowsByName.{all_from_gets, both_first, both_second, is_less, named-get}
use Rattle.ak_keep.specs.Collections.{Collection, IsWellFormed, Rows}
use Rattle.ak_merge.specs.Commits.{IsCommitted}
use Rattle.ak_messages.specs.declared.requests.Ask.{Ask}
use Rattle.ak_messages.specs.declared.requests.Ask.TheVariants as asks
use Rattle.ak_messages.specs.declared.requests.Request.{Request}
use Rattle.ak_protocol.specs.Replies.{whole_of}
use Rattle.ak_session.proofs.Accepting.{all_true, between, checked_row, conf_fits, has_next, tag_decides}
use Rattle.ak_session.specs.Contents.{refusal}
use Rattle.ak_session.specs.Objections.{NoNumber, WrongRow}
use Rattle.ak_session.specs.Refusals.{first_objection, has_last_moment, has_twins, is_checked, is_tag_in_range, is_whole_in_range, objection_to, same_names, same_tags, test}
use Rattle.ak_session.specs.Uploads.{whole_to_send}
use Rattle.ak_transfer_laws.specs.Completing.{HaveMomentsLeft}
use Rattle.ak_transfers.proofs.Rows.{plain_may, twinless}
use Rattle.ak_transfers.specs.Forms.{MayBeHeld}
use Rattle.ak_transfers.specs.UploadParts.{MayBePut, all_rows}

-- ---- all rows of a collection
abbrev Named : List (Name × Row) → Type 0
Named es = AllByRecursion (λ (entry : Name × Row). name_of entry.1 ≡ entry.0) es

names_again : (es : List (Name × Row)) → Named es → map name_of (map (λ (entry : Name × Row). entry.1) es) ≡ keys_of es
names_again [] named = refl
names_again (e ∷ es) named =
    ap (λ (name : Name). name ∷ map name_of (map (λ (entry : Name × Row). entry.1) es)) named.0 ∙ ap (λ (names : List Name). e.0 ∷ names) (names_again es named.1)

below_first : (name : Name) (es : List (Name × Row)) → T (below_all name_cmp name es) → AllByRecursion (λ other. name_cmp name other ≡ Less) (keys_of es)
below_first name [] below = tt
below_first name (e ∷ es) below = (is_less _ (both_first _ _ below), below_first name es (both_second _ _ below))

names_ascend : (es : List (Name × Row)) → T (is_sorted name_cmp es) → IsStrictlySortedBy name_cmp (keys_of es)
unfolding IsStrictlySortedBy
names_ascend [] sorted = tt
names_ascend (e ∷ es) sorted = (below_first e.0 es (both_first _ _ sorted), names_ascend es (both_second _ _ sorted))

-- no two share a name
rows_apart : (rows : Rows) → Named (entries rows) → IsDistinct (eq_by_cmp name_cmp) (map name_of (all_rows rows))
rows_apart rows named =
    subst (IsDistinct (eq_by_cmp name_cmp)) (sym (names_again (entries rows) named))
    (IsDistinct-from_sorted name_cmp (keys_of (entries rows)) (names_ascend (entries rows) (entries_sorted rows)))

-- each passes its check
rows_checked : (es : List (Name × Row)) → AllByRecursion (λ (entry : Name × Row). IsChecked entry.1) es → AllByRecursion IsChecked (map (λ (entry : Name × Row). entry.1) es)
rows_checked [] all = tt
rows_checked (e ∷ es) all = (all.0, rows_checked es all.1)

-- ---- what a server has committed may be held by a device
pub committed_may_be_held : (s : Collection) → IsCommitted s → MayBeHeld (whole_of s)
committed_may_be_held s lawful = record {
  rows = All-from_recursion IsChecked (all_rows s.rows)
      (rows_checked (entries s.rows) (all_from_gets (λ (entry : Name × Row). IsChecked entry.1) s.rows lawful.checked));
  distinct = rows_apart s.rows (all_from_gets (λ (entry : Name × Row). name_of entry.1 ≡ entry.0) s.rows lawful.named);
  head = record {
    crt = lawful.head.crt;
    moment = lawful.head.moment;
    schema = lawful.head.schema;
    usn = lawful.head.usn;
    last_sync = lawful.head.moment;
    conf = lawful.head.conf;
    tags = lawful.head.tags;
    ascending = lawful.head.ascending;
  };
}

-- ---- tags in order have distinct names
-- a name that comes before another by bytes is not that one
less_differ : (one other : List ℕ) → slice_cmp nat_cmp one other ≡ Less → pointwise ◌==◌ one other ≡ false
less_differ one other less = sym (is_eq-slice_cmp one other) ∙ ap is_eq less

later_differ : (tag : Tag) (more : List Tag) → AllByRecursion (λ (name : List ℕ). slice_cmp nat_cmp tag.name name ≡ Less) (tag_names more) → list_any (same_tags tag) more ≡ false
later_differ tag [] all = refl
later_differ tag (other ∷ more) all =
    ap (λ (b : Bool). b || list_any (same_tags tag) more) (less_differ tag.name other.name all.0) ∙ later_differ tag more all.1

no_twins : (tags : List Tag) → IsStrictlySortedBy (slice_cmp nat_cmp) (tag_names tags) → has_twins same_tags tags ≡ false
unfolding IsStrictlySortedBy
no_twins [] sorted = refl
no_twins (tag ∷ more) sorted = ap (λ (b : Bool). b || has_twins same_tags more) (later_differ tag more sorted.0) ∙ no_twins more sorted.1

-- ---- what a device sends may be taken
module _ (c : Collection) (formed : IsWellFormed (held_by c)) where
  put : MayBePut (whole_to_send c).rows
  put =
      plain_may (all_rows c.rows)
      (record {
        checked = All-from_recursion IsChecked (all_rows c.rows) (rows_checked (entries c.rows) formed.checked);
        distinct = rows_apart c.rows (all_from_gets (λ (entry : Name × Row). name_of entry.1 ≡ entry.0) c.rows (λ name row at. named-get c.rows name row formed.named at));
      })

  head : IsHeadInRange c.head
  head = formed.head

  tag_fits : (tag : Tag) → IsTagInRange tag → is_tag_in_range tag ≡ true
  tag_fits tag fits = (tag_decides tag).1 fits

  in_range : is_whole_in_range (whole_to_send c) ≡ true
  in_range =
      rw (
        all_true IsChecked is_checked checked_row (whole_to_send c).rows (recursion_from_All IsChecked (whole_to_send c).rows put.checked),
        all_true IsTagInRange is_tag_in_range tag_fits c.head.tags (recursion_from_All IsTagInRange c.head.tags head.tags),
        conf_fits c.head.conf head.conf,
        between (pos 0) last_stamp c.head.crt head.crt,
      ) refl

  -- tags in order have distinct names
  tags_apart : has_twins same_tags c.head.tags ≡ false
  tags_apart = no_twins c.head.tags head.ascending

  apart : (has_twins same_names (whole_to_send c).rows || has_twins same_tags c.head.tags) ≡ false
  apart = rw (twinless (whole_to_send c).rows put.distinct, tags_apart) refl

  module _ (s : Collection) (room : HaveMomentsLeft c s) where
    numbered : has_last_moment s (whole_to_send c) ≡ false
    numbered =
        rw (
          has_next s.head.moment room.their_moment,
          has_next s.head.schema room.their_schema,
          has_next c.head.moment room.moment,
          has_next c.head.schema room.schema,
        ) refl

    -- a session takes it right after its meta
    pub upload_allowed : (request : Request) → request.ask ≡ asks.Upload (whole_to_send c) → refusal s [] request ≡ None
    unfolding refusal
    upload_allowed request is =
        ap (λ (ask : Ask). objection_to s [] ask) is
        ∙ ap (λ (b : Bool). first_objection (test b NoNumber ∷ test (not (is_whole_in_range (whole_to_send c))) WrongRow
        ∷ test (has_twins same_names (whole_to_send c).rows || has_twins same_tags c.head.tags) WrongRow ∷ [])) numbered
        ∙ ap (λ (b : Bool). first_objection (test (not b) WrongRow
        ∷ test (has_twins same_names (whole_to_send c).rows || has_twins same_tags c.head.tags) WrongRow ∷ [])) in_range
        ∙ ap (λ (b : Bool). first_objection (test b WrongRow ∷ [])) apart

-- a download is refused by no test of what it holds
pub download_allowed : (s : Collection) (request : Request) → request.ask ≡ asks.Download → refusal s [] request ≡ None
unfolding refusal
download_allowed s request is = ap (λ (ask : Ask). objection_to s [] ask) is

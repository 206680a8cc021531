-- What the replies of a session bring is what was given.
use Rattle.std.specs.Prelude.{◌≡◌, ℕ, ℤ, negsuc, List, [], ◌∷◌, ◌++◌, Option}
use Rattle.std.specs.FinMap.{get}
use Rattle.std.specs.List.{AllByRecursion}
use Rattle.std.specs.Option.{option_or}
use Rattle.std.proofs.Common.{refl, sym, ap, subst, ◌∙◌, append_assoc}
use Rattle.ak_base.specs.Rows.{IsChecked}
use Rattle.ak_base.specs.declared.rows.Row.{Row}
use Rattle.ak_base.specs.declared.rows.Row.TheVariants as rows
use Rattle.ak_keep.specs.Collections.{Rows, Collection}
use Rattle.ak_keep.specs.declared.keepers.Wanted.TheVariants.{From}
use Rattle.ak_merge.proofs.PartLaws.{numbers_make_no_difference, parts_add_up}
use Rattle.ak_merge.specs.Commits.{Settings, Received}
use Rattle.ak_merge.specs.Holdings.{AreNamed, AreChecked}
use Rattle.ak_merge.specs.Takings.{all_taken}
use Rattle.ak_messages.specs.declared.requests.Ask.{Ask}
use Rattle.ak_messages.specs.declared.requests.Ask.TheVariants as asks
use Rattle.ak_session.specs.Answers.{server_changes, server_rows, chunk_count, given_for, given_after, all_given, answer_to}
use Rattle.ak_session.specs.Asks.{least_usn, all_brought, fold_of}
use Rattle.ak_session.specs.Plans.{planned_check, planned}
use Rattle.ak_session.specs.Replies.{replied, replied_after, all_replied}
use Rattle.ak_session.specs.Sessions.{MaySync}
use Rattle.ak_session.specs.Slices.{wanted_graves, slice}
use Rattle.ak_session.proofs.InOrder.{Made, graves_keep, chunk_keeps, changes_keep}
use Rattle.ak_session.proofs.Ranges.{all_front}
use Rattle.ak_session.proofs.Steps.{nothing_last, brought_append}
use Rattle.ak_session.proofs.Sums.{fold_named, fold_checked, graves_of, chunk_rows_of, change_rows_of, slice_of_three, settings_back, brought_check, pushes_checked}
use Rattle.ak_merge.specs.declared.sides.Side.TheVariants.{Device}

-- ---- tags and settings
one_tags : (s : Collection) (before : List Ask) (ask : Ask) → (replied (answer_to s before ask)).tags ≡ (given_for s before ask).tags
one_tags s before asks.Meta = refl
one_tags s before (asks.Start min_usn lmod) = refl
one_tags s before (asks.ApplyGraves ids) = refl
one_tags s before (asks.ApplyChanges changes) = refl
one_tags s before asks.Chunk = refl
one_tags s before (asks.ApplyChunk chunk) = refl
one_tags s before (asks.SanityCheck2 counts) = refl
one_tags s before asks.Finish = refl
one_tags s before (asks.Upload whole) = refl
one_tags s before asks.Download = refl

tags_after : (s : Collection) (before list : List Ask) → (replied_after s before list).tags ≡ (given_after s before list).tags
tags_after s before [] = refl
tags_after s before (ask ∷ more) =
    ap (λ (l : List (List ℕ)). l ++ (replied_after s (before ++ ask ∷ []) more).tags) (one_tags s before ask)
    ∙ ap (λ (l : List (List ℕ)). (given_for s before ask).tags ++ l) (tags_after s (before ++ ask ∷ []) more)

pub same_tags : (s : Collection) (asked : List Ask) → (all_replied s asked).tags ≡ (all_given s asked).tags
same_tags s asked = tags_after s [] asked

one_settings : (s : Collection) (before : List Ask) (ask : Ask) → (replied (answer_to s before ask)).settings ≡ (given_for s before ask).settings
one_settings s before asks.Meta = refl
one_settings s before (asks.Start min_usn lmod) = refl
one_settings s before (asks.ApplyGraves ids) = refl
one_settings s before (asks.ApplyChanges changes) = settings_back (server_changes s before).settings
one_settings s before asks.Chunk = refl
one_settings s before (asks.ApplyChunk chunk) = refl
one_settings s before (asks.SanityCheck2 counts) = refl
one_settings s before asks.Finish = refl
one_settings s before (asks.Upload whole) = refl
one_settings s before asks.Download = refl

settings_after : (s : Collection) (before list : List Ask) → (replied_after s before list).settings ≡ (given_after s before list).settings
settings_after s before [] = refl
settings_after s before (ask ∷ more) =
    ap (λ (o : Option Settings). option_or o (replied (answer_to s before ask)).settings) (settings_after s (before ++ ask ∷ []) more)
    ∙ ap (option_or (given_after s (before ++ ask ∷ []) more).settings) (one_settings s before ask)

pub same_settings : (s : Collection) (asked : List Ask) → (all_replied s asked).settings ≡ (all_given s asked).settings
same_settings s asked = settings_after s [] asked

-- ---- rows
pub one_rows : (s : Collection) (before : List Ask) (ask : Ask) (usn : ℤ) (held : Rows) → AreNamed (get (fold_of s before).rows) → AreChecked (get (fold_of s before).rows)
    → all_taken Device usn (replied (answer_to s before ask)).rows held ≡ all_taken Device usn (given_for s before ask).rows held
one_rows s before asks.Meta usn held named checked = refl
one_rows s before (asks.Start min_usn lmod) usn held named checked =
    let list : List Row = wanted_graves (From min_usn) (fold_of s before).rows in
    ap (λ (l : List Row). all_taken Device usn l held) (graves_keep list (graves_of (From min_usn) (fold_of s before).rows named checked))
    ∙ numbers_make_no_difference Device usn (λ row. negsuc 0) list held
one_rows s before (asks.ApplyGraves ids) usn held named checked = refl
one_rows s before (asks.ApplyChanges changes) usn held named checked =
    ap (λ (l : List Row). all_taken Device usn l held) (changes_keep (server_changes s before) (change_rows_of (From (least_usn before)) (fold_of s before).rows named checked))
one_rows s before asks.Chunk usn held named checked =
    ap (λ (l : List Row). all_taken Device usn l held) (chunk_keeps (slice (chunk_count before) (server_rows s before))
    (slice_of_three (Made rows.Review) (Made rows.Card) (Made rows.Note) (server_rows s before) (chunk_rows_of (From (least_usn before)) (fold_of s before).rows named checked) (chunk_count before)))
one_rows s before (asks.ApplyChunk chunk) usn held named checked = refl
one_rows s before (asks.SanityCheck2 counts) usn held named checked = refl
one_rows s before asks.Finish usn held named checked = refl
one_rows s before (asks.Upload whole) usn held named checked = refl
one_rows s before asks.Download usn held named checked = refl

module _ (c s : Collection) (may : MaySync c s) where
  all_checked : AllByRecursion IsChecked (all_brought (planned c s)).rows
  all_checked =
      subst (λ (r : Received). AllByRecursion IsChecked r.rows)
      (sym (brought_append (planned_check c s) (asks.Finish ∷ []) ∙ nothing_last (all_brought (planned_check c s)) ∙ brought_check c s may)) (pushes_checked c s may)

  pub front_checked : (before rest : List Ask) → before ++ rest ≡ planned c s → AllByRecursion IsChecked (all_brought before).rows
  front_checked before rest is =
      all_front IsChecked (all_brought before).rows (all_brought rest).rows
      (subst (λ (r : Received). AllByRecursion IsChecked r.rows) (ap all_brought (sym is) ∙ brought_append before rest) all_checked)

  rows_after : (before list more : List Ask) (usn : ℤ) (held : Rows) → before ++ (list ++ more) ≡ planned c s
      → all_taken Device usn (replied_after s before list).rows held ≡ all_taken Device usn (given_after s before list).rows held
  rows_after before [] more usn held is = refl
  rows_after before (ask ∷ list) more usn held is =
      let next : List Ask = before ++ ask ∷ [] in
      parts_add_up Device usn (replied (answer_to s before ask)).rows (replied_after s (before ++ ask ∷ []) list).rows held
      ∙ ap (all_taken Device usn (replied_after s (before ++ ask ∷ []) list).rows)
      (one_rows s before ask usn held (fold_named c s may before) (fold_checked c s may before (front_checked before (ask ∷ (list ++ more)) is)))
      ∙ rows_after (before ++ ask ∷ []) list more usn (all_taken Device usn (given_for s before ask).rows held) (append_assoc before (ask ∷ []) (list ++ more) ∙ is)
      ∙ sym (parts_add_up Device usn (given_for s before ask).rows (given_after s (before ++ ask ∷ []) list).rows held)

pub same_rows : (c s : Collection) (asked more : List Ask) (usn : ℤ) (held : Rows) → MaySync c s → asked ++ more ≡ planned c s
    → all_taken Device usn (all_replied s asked).rows held ≡ all_taken Device usn (all_given s asked).rows held
same_rows c s asked more usn held may is = rows_after c s may [] asked more usn held is

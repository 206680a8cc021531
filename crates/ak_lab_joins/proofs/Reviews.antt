-- Once a sync finished, the server holds a review under each id under which the device held one. And a review that is committed stays, until an
-- upload is committed.
use Rattle.std.specs.FinMap.{get}
use Rattle.std.specs.List.{AllByRecursion}
use Rattle.std.specs.Prelude.{◌≡◌, ℕ, ℤ, true, false, if◌then◌else◌, List, [], ◌∷◌, is_some, IsTrue, int_lt, Option, Some, None}
use Rattle.std.proofs.Common.{refl, sym, ap, subst, ◌∙◌, arith}
use Rattle.ak_base.specs.Rows.{stamp_of}
use Rattle.ak_base.specs.declared.names.Name.{Name}
use Rattle.ak_base.specs.declared.rows.Row.{Row}
use Rattle.ak_io.specs.declared.lines.Line.{Line}
use Rattle.ak_keep.specs.Collections.{Collection, Rows}
use Rattle.ak_keep.specs.Graves.{RowsByName}
use Rattle.ak_lab.specs.LabStates.{LabState}
use Rattle.ak_lab.specs.LineOutcomes.{EndsAs}
use Rattle.ak_lab_joins.proofs.Leading.{lines_lead, runs_lead}
use Rattle.ak_lab_joins.specs.LabCrossings.{HasReviewsOf, HasSameReviews, LeadsOn, review_name}
use Rattle.ak_lab_joins.specs.LabJoins.{IsFinish, IsLinkedLab, committed_of, lab_world}
use Rattle.ak_line_runs.specs.LineRuns.{Accepted, AllGo}
use Rattle.ak_merge.proofs.CommitLaws.{commit_under, stays_unstamped, unstamped}
use Rattle.ak_merge.proofs.Settling.{taken_named}
use Rattle.ak_merge.proofs.TakingLaws.{newest_in, newest_named, received, received_under}
use Rattle.ak_merge.specs.Commits.{IsCommitOf, Received}
use Rattle.ak_merge.specs.Exchanges.{AreExchanged}
use Rattle.ak_merge.specs.Holdings.{AreNamed, row_under, same_held}
use Rattle.ak_merge.specs.Joins.{newest}
use Rattle.ak_merge.specs.declared.sides.Side.TheVariants.{Server}
use Rattle.ak_protocol.specs.Accounts.{AccountState}
use Rattle.ak_protocol.specs.Commits.{EachNewer, Leads}
use Rattle.ak_protocol.specs.Logs.{Commit}

-- the join of a review and of anything is something
newest_some : (x y : Option Row) → is_some x ≡ true → is_some (newest x y) ≡ true
newest_some None y is = absurd (grind (arith, is))
newest_some (Some x) None is = refl
newest_some (Some x) (Some y) is =
    elim (int_lt (stamp_of y) (stamp_of x)) as (λ b. is_some (if b then Some x else Some y) ≡ true) [
      | true ↦ refl
      | false ↦ refl
    ]

-- what is the same as something is something
same_some : (held joined : Option Row) → IsTrue (same_held held joined) → is_some joined ≡ true → is_some held ≡ true
same_some (Some x) joined same is = refl
same_some None None same is = is
same_some None (Some y) same is = absurd (grind (arith, same))

pub reviews_sent : (c base device after : Collection) → AreExchanged c base device after → HasReviewsOf c after
reviews_sent c base device after exchanged id is =
    same_some (row_under after (review_name id)) (newest (row_under c (review_name id)) (row_under base (review_name id)))
    (exchanged.server.rows (review_name id)) (newest_some (row_under c (review_name id)) (row_under base (review_name id)) is)

-- ---- reviews that are committed
-- what is taken under the name of a review: there is no grave of one
taken_review : (usn : ℤ) (at from : RowsByName) (id : ℤ) → received_under Server usn at from (review_name id) ≡ received Server usn (at (review_name id)) (from (review_name id))
taken_review usn at from id = refl

-- a finish leaves a review as it was
finish_keeps : (came : Received) (before after : Collection) → IsCommitOf came before after → AreNamed (row_under before) → HasSameReviews before after
finish_keeps came before after commit named id row is =
    let name : Name = review_name id in
    let from : RowsByName = newest_in Server came.rows in
    ap (λ (at : RowsByName). at name) (commit_under came before after commit)
    ∙ taken_review before.head.usn (row_under before) from id
    ∙ ap (λ (o : Option Row). received Server before.head.usn o (from name)) is
    ∙ stays_unstamped before.head.usn row (from name) (unstamped name (Some row) refl (named name row is)) (unstamped name (from name) refl (newest_named Server came.rows name))

-- and rows stand under their own names again
finish_named : (came : Received) (before after : Collection) → IsCommitOf came before after → AreNamed (row_under before) → AreNamed (row_under after)
finish_named came before after commit named =
    subst (λ (rows : Rows). AreNamed (get rows)) (sym commit.rows) (taken_named Server before.head.usn came.rows before.rows named)

-- what was committed at the end of some finishes
record StandsOn (first last : Collection) : Type 0 where
  named : AreNamed (row_under last)
  reviews : HasSameReviews first last

finishes_keep : (first last : Collection) (newer : List Commit) → Leads first newer last → AllByRecursion IsFinish newer → AreNamed (row_under first) → StandsOn first last
finishes_keep first last [] lead all named =
    subst (StandsOn first) (sym lead) (record { named = named; reviews = λ id row is. is })
finishes_keep first last (commit ∷ newer) lead all named =
    let before : StandsOn first commit.before = finishes_keep first commit.before newer lead.2 all.1 named in
    let finish : IsCommitOf all.0.0 commit.before commit.after = all.0.1.commits in
    subst (StandsOn first) (sym lead.0)
    (record {
      named = finish_named all.0.0 commit.before commit.after finish before.named;
      reviews = λ id row is. finish_keeps all.0.0 commit.before commit.after finish before.named id row (before.reviews id row is);
    })

reviews_stay : (account : AccountState) (s t : LabState) → IsLinkedLab account s → LeadsOn account s t → EachNewer IsFinish (lab_world account s) (lab_world account t)
    → HasSameReviews (committed_of account s) (committed_of account t)
reviews_stay account s t linked leads each =
    (finishes_keep (committed_of account s) (committed_of account t) leads.newer leads.lead (each leads.newer leads.grown) linked.server.lawful.committed.named).reviews

pub line_reviews_stay : (account : AccountState) (number : ℕ) (line : Line) (s t : LabState) (printed : List (List ℕ)) → IsLinkedLab account s
    → EndsAs number line s t (Accepted printed) → EachNewer IsFinish (lab_world account s) (lab_world account t)
    → HasSameReviews (committed_of account s) (committed_of account t)
line_reviews_stay account number line s t printed linked ended each = reviews_stay account s t linked (lines_lead account number line s t printed ended) each

pub run_reviews_stay : (account : AccountState) (number : ℕ) (all : List Line) (s t : LabState) (printed : List (List ℕ)) → IsLinkedLab account s
    → AllGo EndsAs number all s t printed → EachNewer IsFinish (lab_world account s) (lab_world account t)
    → HasSameReviews (committed_of account s) (committed_of account t)
run_reviews_stay account number all s t printed linked goes each = reviews_stay account s t linked (runs_lead account number all s t printed goes) each

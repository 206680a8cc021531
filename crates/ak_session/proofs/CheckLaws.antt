-- What a sanity check finds, and what the session of a sync holds before it.
use Rattle.std.specs.Prelude.{◌≡◌, ◌≢◌, ◌↔◌, ◌⊎◌, ◌==◌, ◌&&◌, ◌+◌, ℕ, ℤ, pos, Bool, true, false, not, is_some, IfSome, IsTrue, if◌then◌else◌, List, [], ◌∷◌, ◌++◌, Option, Some, None}
use Rattle.std.specs.Cmp.{first_so, second_so, unsigned_Decides}
use Rattle.std.specs.FinMap.{get}
use Rattle.std.specs.List.{list_any}
use Rattle.std.proofs.Common.{refl, sym, ap, subst, ◌∙◌, inl, inr, append_assoc, arith}
use Rattle.std.proofs.lemmas.Int.{ints}
use Rattle.std.proofs.lemmas.List.{map-append}
use Rattle.std.proofs.lemmas.Option.{none-some}
use Rattle.std.proofs.lemmas.List.Elements.{All-from_recursion}
use Rattle.ak_base.specs.Heads.{IsWithin}
use Rattle.ak_base.specs.Limits.{last_usn}
use Rattle.ak_base.specs.declared.names.Name.{Name}
use Rattle.ak_base.specs.declared.names.Table.{Table}
use Rattle.ak_base.specs.declared.names.Table.TheVariants as tables
use Rattle.ak_keep.specs.Collections.{Rows, Collection, row_count}
use Rattle.ak_merge.proofs.ContentLaws.{rows-turned, rows-through, sound_by_content, counts_by_content}
use Rattle.ak_merge.proofs.ExchangeLaws.{server_half_joins, device_rows_join}
use Rattle.ak_merge.proofs.FaultLaws.{first_fault_is_least}
use Rattle.ak_merge.proofs.Settling.{taken_named, taken_checked}
use Rattle.ak_merge.proofs.SoundLaws.{sound_has_no_fault}
use Rattle.ak_merge.specs.Commits.{Received, IsCommitted, with_received}
use Rattle.ak_merge.specs.Holdings.{row_under, AreNamed, AreChecked, content_of, same_held, SameContent}
use Rattle.ak_merge.specs.Joins.{joined_under, join}
use Rattle.ak_merge.specs.Soundness.{IsSound, IsLeastFault, first_fault}
use Rattle.ak_merge.specs.Takings.{all_taken}
use Rattle.ak_merge.specs.declared.checks.CheckFault.{CheckFault}
use Rattle.ak_messages.specs.declared.methods.Method.TheVariants as methods
use Rattle.ak_messages.specs.declared.replies.Give.TheVariants as gives
use Rattle.ak_messages.specs.declared.replies.SanityReply.{SanityReply}
use Rattle.ak_messages.specs.declared.requests.Ask.{Ask}
use Rattle.ak_messages.specs.declared.requests.Ask.TheVariants as asks
use Rattle.ak_messages.specs.declared.requests.Request.{Request}
use Rattle.ak_messages.specs.declared.requests.SanityCounts.{SanityCounts}
use Rattle.ak_session.specs.Answers.{counts_of, same_counts, is_good, sanity_reply, answer_to, is_bad_check}
use Rattle.ak_messages.specs.MessageForms.{no_counts}
use Rattle.ak_session.specs.Asks.{asks_of, brought, all_brought, fold_of}
use Rattle.ak_session.specs.Closings.{of_finish, closed_by}
use Rattle.ak_session.specs.Contents.{folded, refusal, answer, ends, closed}
use Rattle.ak_session.specs.NextMethods.{methods_after, may_come, was_done}
use Rattle.ak_session.specs.Plans.{device_rows, planned_pushes, planned_check, given_by_sync, sent_by_sync}
use Rattle.ak_session.specs.Refusals.{objection_to}
use Rattle.ak_session.specs.Requests.{asked_method, same_method}
use Rattle.ak_session.specs.Sessions.{AreAllowed, MaySync, TellsCheck}
use Rattle.ak_session.proofs.Folds.{fold_takes_all, fold_append}
use Rattle.ak_session.proofs.Ranges.{not_both, untrue, Fits}
use Rattle.ak_session.proofs.Starts.{taken_allowed, all_fit, method_fits}
use Rattle.ak_session.proofs.Steps.{last_is}
use Rattle.ak_session.proofs.Sums.{low, fold_named, fold_checked, pushes_checked, given_check}
use Rattle.ak_session.proofs.SyncLaws.{device_sends, may_exchange, server_gives, server_half}
use Rattle.ak_merge.specs.declared.sides.Side.TheVariants.{Device, Server}

-- ---- counts
same_number : (n : ℕ) → (n == n) ≡ true
same_number n = (unsigned_Decides n n).1 refl

counts_itself : (a : SanityCounts) → same_counts a a ≡ true
counts_itself a = rw (same_number a.cards, same_number a.notes, same_number a.reviews, same_number a.graves, same_number a.models, same_number a.decks, same_number a.options) refl

counts_same : (a b : SanityCounts) → same_counts a b ≡ true → a ≡ b
counts_same a b is =
    let p1 : Bool = a.cards == b.cards in
    let p2 : Bool = a.notes == b.notes in
    let p3 : Bool = a.reviews == b.reviews in
    let p4 : Bool = a.graves == b.graves in
    let p5 : Bool = a.models == b.models in
    let p6 : Bool = a.decks == b.decks in
    let p7 : Bool = a.options == b.options in
    let six : (p1 && p2 && p3 && p4 && p5 && p6) ≡ true = first_so (p1 && p2 && p3 && p4 && p5 && p6) p7 is in
    let five : (p1 && p2 && p3 && p4 && p5) ≡ true = first_so (p1 && p2 && p3 && p4 && p5) p6 six in
    let four : (p1 && p2 && p3 && p4) ≡ true = first_so (p1 && p2 && p3 && p4) p5 five in
    let three : (p1 && p2 && p3) ≡ true = first_so (p1 && p2 && p3) p4 four in
    let two : (p1 && p2) ≡ true = first_so (p1 && p2) p3 three in
    let cards : a.cards ≡ b.cards = (unsigned_Decides a.cards b.cards).0 (first_so p1 p2 two) in
    let notes : a.notes ≡ b.notes = (unsigned_Decides a.notes b.notes).0 (second_so p1 p2 two) in
    let reviews : a.reviews ≡ b.reviews = (unsigned_Decides a.reviews b.reviews).0 (second_so (p1 && p2) p3 three) in
    let graves : a.graves ≡ b.graves = (unsigned_Decides a.graves b.graves).0 (second_so (p1 && p2 && p3) p4 four) in
    let models : a.models ≡ b.models = (unsigned_Decides a.models b.models).0 (second_so (p1 && p2 && p3 && p4) p5 five) in
    let decks : a.decks ≡ b.decks = (unsigned_Decides a.decks b.decks).0 (second_so (p1 && p2 && p3 && p4 && p5) p6 six) in
    let options : a.options ≡ b.options = (unsigned_Decides a.options b.options).0 (second_so (p1 && p2 && p3 && p4 && p5 && p6) p7 is) in
    λ i. record { cards = cards i; notes = notes i; reviews = reviews i; graves = graves i; models = models i; decks = decks i; options = options i }

none_is : {A : Type 0} (o : Option A) → is_some o ≡ false → o ≡ None
none_is None is = refl
none_is (Some x) is = absurd (not_both refl is)

-- ---- one check
-- a check is good exactly if the rows are sound and the counts are theirs
pub check_decides : (held : Rows) (counts : SanityCounts) → AreNamed (get held) → AreChecked (get held) → (not (is_good held counts) ≡ false) ↔ (IsSound (get held) × (counts ≡ counts_of held))
check_decides held counts named checked = (
  (λ is.
      let good : is_good held counts ≡ true = untrue is in
      let faultless : not (is_some (first_fault held)) ≡ true = first_so (not (is_some (first_fault held))) (same_counts counts (counts_of held)) good in (
        (sound_has_no_fault held named checked).0 (none_is (first_fault held) (turned (is_some (first_fault held)) faultless)),
        counts_same counts (counts_of held) (second_so (not (is_some (first_fault held))) (same_counts counts (counts_of held)) good),
      )),
  (λ own.
      let none : first_fault held ≡ None = (sound_has_no_fault held named checked).1 own.0 in
      ap (λ (o : Option CheckFault). not (not (is_some o) && same_counts counts (counts_of held))) none
      ∙ ap (λ (c : SanityCounts). not (same_counts counts c)) (sym own.1)
      ∙ ap not (counts_itself counts)),
)
  where
    turned : (b : Bool) → not b ≡ true → b ≡ false
    turned true is = absurd (not_both is refl)
    turned false is = refl

faults_told : (held : Rows) → AreNamed (get held) → AreChecked (get held) → IfSome (first_fault held) (IsLeastFault (get held))
faults_told held named checked = by (first_fault held) refl
  where
    by : (o : Option CheckFault) → first_fault held ≡ o → IfSome o (IsLeastFault (get held))
    by None is = tt
    by (Some fault) is = first_fault_is_least held fault named checked is

-- a check that is not good shows a fault, or two counts that differ
shows : (held : Rows) (counts : SanityCounts) → is_good held counts ≡ false → (first_fault held ≢ None) ⊎ (counts ≢ counts_of held)
shows held counts bad = by (first_fault held) refl
  where
    by : (o : Option CheckFault) → first_fault held ≡ o → (first_fault held ≢ None) ⊎ (counts ≢ counts_of held)
    by None is = inr (λ same. not_both (counts_itself counts ∙ refl) (ap (same_counts counts) same ∙ sym (ap (λ (o : Option CheckFault). not (is_some o) && same_counts counts (counts_of held)) is) ∙ bad))
    by (Some fault) is = inl (λ none. none-some fault (sym none ∙ is))

pub check_told : (held : Rows) (counts : SanityCounts) → AreNamed (get held) → AreChecked (get held) → TellsCheck held counts (not (is_good held counts)) (sanity_reply held counts)
check_told held counts named checked = by (is_good held counts) refl
  where
    by : (b : Bool) → is_good held counts ≡ b
        → TellsCheck held counts (not b) (if b then record { good = true; fault = None; client = no_counts; server = no_counts } else record { good = false; fault = first_fault held; client = counts; server = counts_of held })
    by true is = record {
      good = refl;
      no_fault = λ _. refl;
      no_client = λ _. refl;
      no_server = λ _. refl;
      fault = λ never. absurd (not_both never refl);
      unsaid = λ never. absurd (not_both never refl);
      client = λ never. absurd (not_both never refl);
      server = λ never. absurd (not_both never refl);
      shows = λ never. absurd (not_both never refl);
    }
    by false is = record {
      good = refl;
      no_fault = λ never. absurd (not_both refl never);
      no_client = λ never. absurd (not_both refl never);
      no_server = λ never. absurd (not_both refl never);
      fault = λ _. faults_told held named checked;
      unsaid = λ _ none. (sound_has_no_fault held named checked).0 none;
      client = λ _. refl;
      server = λ _. refl;
      shows = λ _. shows held counts is;
    }

-- ---- any session
number_in_range : (c : Collection) → IsCommitted c → IsWithin (pos 0) last_usn c.head.usn
number_in_range c own = let high = own.head.usn.high in record { low = own.head.usn.low; high = omega (arith, ints, high) }

any_named : (c : Collection) (asked : List Ask) → IsCommitted c → AreNamed (get (fold_of c asked).rows)
any_named c asked own = subst (λ (held : Collection). AreNamed (get held.rows)) (sym (fold_takes_all c asked)) (taken_named Server c.head.usn (all_brought asked).rows c.rows own.named)

any_checked : (c : Collection) (asked : List Ask) → IsCommitted c → Fits (all_brought asked) → AreChecked (get (fold_of c asked).rows)
any_checked c asked own fits =
    subst (λ (held : Collection). AreChecked (get held.rows)) (sym (fold_takes_all c asked))
    (taken_checked Server c.head.usn (all_brought asked).rows c.rows (All-from_recursion _ (all_brought asked).rows fits.rows) (number_in_range c own) own.checked)

session_fits : (c : Collection) (accepted : List Request) → AreAllowed c accepted → Fits (all_brought (asks_of accepted))
session_fits c accepted all = all_fit c [] (asks_of accepted) (taken_allowed c accepted all)

pub checks_go_on : (committed : Collection) (accepted : List Request) (check : Request) (counts : SanityCounts) → IsCommitted committed → AreAllowed committed accepted → check.ask ≡ asks.SanityCheck2 counts
    → (ends committed accepted check ≡ false) ↔ (IsSound (row_under (folded committed accepted)) × (counts ≡ counts_of (folded committed accepted).rows))
unfolding ends folded
checks_go_on committed accepted check counts own all is =
    let held : Rows = (fold_of committed (asks_of accepted)).rows in
    subst (λ (ask : Ask). (is_bad_check committed (asks_of accepted) ask ≡ false) ↔ (IsSound (get held) × (counts ≡ counts_of held))) (sym is)
    (check_decides held counts (any_named committed (asks_of accepted) own) (any_checked committed (asks_of accepted) own (session_fits committed accepted all)))

pub checks_tell : (committed : Collection) (accepted : List Request) (check : Request) (counts : SanityCounts) → IsCommitted committed → AreAllowed committed accepted → check.ask ≡ asks.SanityCheck2 counts
    → (reply : SanityReply) × (answer committed accepted check ≡ gives.Sanity reply) × TellsCheck (folded committed accepted).rows counts (ends committed accepted check) reply
unfolding ends folded answer
checks_tell committed accepted check counts own all is =
    let held : Rows = (fold_of committed (asks_of accepted)).rows in (
      sanity_reply held counts,
      ap (answer_to committed (asks_of accepted)) is,
      subst (λ (ask : Ask). TellsCheck held counts (is_bad_check committed (asks_of accepted) ask) (sanity_reply held counts)) (sym is)
          (check_told held counts (any_named committed (asks_of accepted) own) (any_checked committed (asks_of accepted) own (session_fits committed accepted all))),
    )

-- ---- what a finish commits
-- a list is empty, or has a last
last_split : (l : List Request) → (l ≡ []) ⊎ ((front : List Request) × (last : Request) × (l ≡ front ++ last ∷ []))
last_split [] = inl refl
last_split (x ∷ xs) =
    elim (last_split xs) as (λ _. (x ∷ xs ≡ []) ⊎ ((front : List Request) × (last : Request) × (x ∷ xs ≡ front ++ last ∷ []))) [
      | inl none ↦ inr ([], x, ap (λ (l : List Request). x ∷ l) none)
      | inr more ↦ inr (x ∷ more.0, more.1, ap (λ (l : List Request). x ∷ l) more.2)
    ]

front_allowed : (c : Collection) (front : List Request) (last : Request) → AreAllowed c (front ++ last ∷ []) → AreAllowed c front
front_allowed c front last all before request after is =
    all before request (after ++ last ∷ []) (sym (append_assoc before (request ∷ after) (last ∷ [])) ∙ ap (λ (l : List Request). l ++ last ∷ []) is)

-- a finish may come after a sanity check alone
finish_after : (ask : Ask) (done : Bool) → list_any (same_method methods.Finish) (methods_after (asked_method ask) done) ≡ true → (counts : SanityCounts) × (ask ≡ asks.SanityCheck2 counts)
finish_after asks.Meta done is = absurd (not_both is refl)
finish_after (asks.Start min_usn lmod) done is = absurd (not_both is refl)
finish_after (asks.ApplyGraves ids) done is = absurd (not_both is refl)
finish_after (asks.ApplyChanges changes) done is = absurd (not_both is refl)
finish_after asks.Chunk true is = absurd (not_both is refl)
finish_after asks.Chunk false is = absurd (not_both is refl)
finish_after (asks.ApplyChunk chunk) true is = absurd (not_both is refl)
finish_after (asks.ApplyChunk chunk) false is = absurd (not_both is refl)
finish_after (asks.SanityCheck2 counts) done is = (counts, refl)
finish_after asks.Finish done is = absurd (not_both is refl)
finish_after (asks.Upload whole) done is = absurd (not_both is refl)
finish_after asks.Download done is = absurd (not_both is refl)

finish_may : (c : Collection) (accepted : List Request) (finish : Request) → finish.ask ≡ asks.Finish → refusal c accepted finish ≡ None → may_come c (asks_of accepted) asks.Finish ≡ true
unfolding refusal
finish_may c accepted finish is none = method_fits c (asks_of accepted) asks.Finish (sym (ap (objection_to c (asks_of accepted)) is) ∙ none)

check_before : (c : Collection) (front : List Request) (last : Request) → may_come c (asks_of (front ++ last ∷ [])) asks.Finish ≡ true → (counts : SanityCounts) × (last.ask ≡ asks.SanityCheck2 counts)
check_before c front last may =
    let asked : List Ask = asks_of front ++ last.ask ∷ [] in
    let same : asks_of (front ++ last ∷ []) ≡ asks_of front ++ last.ask ∷ [] = map-append (λ (r : Request). r.ask) front (last ∷ []) in
    let one : may_come c (asks_of front ++ last.ask ∷ []) asks.Finish ≡ true = ap (λ (l : List Ask). may_come c l asks.Finish) (sym same) ∙ may in
    finish_after last.ask (was_done c (asks_of front ++ last.ask ∷ []) last.ask)
    (ap (λ (ask : Ask). list_any (same_method methods.Finish) (methods_after (asked_method ask) (was_done c (asks_of front ++ last.ask ∷ []) ask))) (sym (last_is (asks_of front) last.ask)) ∙ one)

finish_rows : (c : Collection) (front : List Request) (last : Request) (counts : SanityCounts) → last.ask ≡ asks.SanityCheck2 counts → (fold_of c (asks_of (front ++ last ∷ []))).rows ≡ (fold_of c (asks_of front)).rows
finish_rows c front last counts is =
    ap (λ (l : List Ask). (fold_of c l).rows) (map-append (λ (r : Request). r.ask) front (last ∷ []))
    ∙ ap (λ (held : Collection). held.rows) (fold_append c (asks_of front) (last.ask ∷ []))
    ∙ ap (λ (ask : Ask). (with_received (brought ask) (fold_of c (asks_of front))).rows) is

sound_after : (c : Collection) (front : List Request) (last : Request) (finish : Request) (now : ℤ) → IsCommitted c → AreAllowed c (front ++ last ∷ []) → finish.ask ≡ asks.Finish → refusal c (front ++ last ∷ []) finish ≡ None
    → IsSound (row_under (closed c (front ++ last ∷ []) finish now))
unfolding closed folded
sound_after c front last finish now own all is none =
    let check = check_before c front last (finish_may c (front ++ last ∷ []) finish is none) in
    let goes : ends c front last ≡ false = (all front last [] refl).goes_on in
    let sound : IsSound (get (fold_of c (asks_of front)).rows) = ((checks_go_on c front last check.0 own (front_allowed c front last all) check.1).0 goes).0 in
    subst (λ (ask : Ask). IsSound (get (closed_by c (asks_of (front ++ last ∷ [])) ask now).rows)) (sym is)
    (subst (λ (held : Rows). IsSound (get held)) (sym (finish_rows c front last check.0 check.1)) sound)

pub finishes_are_sound : (committed : Collection) (accepted : List Request) (finish : Request) (now : ℤ) → IsCommitted committed → AreAllowed committed accepted → finish.ask ≡ asks.Finish
    → refusal committed accepted finish ≡ None → IsSound (row_under (closed committed accepted finish now))
finishes_are_sound committed accepted finish now own all is none =
    elim (last_split accepted) as (λ _. IsSound (row_under (closed committed accepted finish now))) [
      | inl empty ↦ absurd (not_both (finish_may committed [] finish is (sym (ap (λ (l : List Request). refusal committed l finish) empty) ∙ none)) refl)
      | inr split ↦ subst (λ (l : List Request). IsSound (row_under (closed committed l finish now))) (sym split.2)
          (sound_after committed split.0 split.1 finish now own (subst (AreAllowed committed) split.2 all) is (sym (ap (λ (l : List Request). refusal committed l finish) split.2) ∙ none))
    ]

-- ---- the session of a sync before its check
module _ (c s : Collection) (may : MaySync c s) where
  fold_holds : SameContent (content_of (fold_of s (planned_pushes c s))) (join c s)
  fold_holds =
      subst (λ (held : Collection). SameContent (content_of held) (join c s)) (fold_append s (planned_pushes c s) (asks.SanityCheck2 (counts_of (device_rows c s (planned_pushes c s))) ∷ []))
      (server_half_joins (given_by_sync c s) (sent_by_sync c s) c s (of_finish s (planned_check c s) (pos 0)) (server_half c s may (pos 0)) may.linked may.named may.committed.named (low c s may)).content

  device_holds : (name : Name) → IsTrue (same_held (get (device_rows c s (planned_pushes c s)) name) (joined_under (row_under c) (row_under s) name))
  device_holds =
      subst (λ (r : Received). (name : Name) → IsTrue (same_held (get (all_taken Device s.head.usn r.rows c.rows) name) (joined_under (row_under c) (row_under s) name))) (given_check c s may)
      (device_rows_join s.head.usn (given_by_sync c s).rows (sent_by_sync c s).rows c s (record { may = may_exchange c s may; sends = (device_sends c s may).each; gives = server_gives c s may }))

  each_count : (table : Table) → row_count table (fold_of s (planned_pushes c s)).rows ≡ row_count table (device_rows c s (planned_pushes c s))
  each_count table =
      counts_by_content (fold_of s (planned_pushes c s)).rows (device_rows c s (planned_pushes c s))
      (rows-through (row_under (fold_of s (planned_pushes c s))) (joined_under (row_under c) (row_under s)) (get (device_rows c s (planned_pushes c s))) fold_holds.rows
      (rows-turned (get (device_rows c s (planned_pushes c s))) (joined_under (row_under c) (row_under s)) device_holds)) table

  all_counts : counts_of (device_rows c s (planned_pushes c s)) ≡ counts_of (fold_of s (planned_pushes c s)).rows
  all_counts =
      sym (λ i. record {
        cards = each_count tables.Card i;
        notes = each_count tables.Note i;
        reviews = each_count tables.Review i;
        graves = each_count tables.NoteGrave i + each_count tables.CardGrave i + each_count tables.DeckGrave i;
        models = each_count tables.NoteType i;
        decks = each_count tables.Deck i;
        options = each_count tables.Options i;
      })

  pub check_finds : (not (is_good (fold_of s (planned_pushes c s)).rows (counts_of (device_rows c s (planned_pushes c s)))) ≡ false) ↔ IsSound (joined_under (row_under c) (row_under s))
  check_finds =
      let held : Rows = (fold_of s (planned_pushes c s)).rows in
      let decides = check_decides held (counts_of (device_rows c s (planned_pushes c s))) (fold_named c s may (planned_pushes c s)) (fold_checked c s may (planned_pushes c s) (pushes_checked c s may)) in (
        (λ good. sound_by_content (get held) (joined_under (row_under c) (row_under s)) fold_holds.rows (decides.0 good).0),
        (λ sound. decides.1 (sound_by_content (joined_under (row_under c) (row_under s)) (get held) (rows-turned (get held) (joined_under (row_under c) (row_under s)) fold_holds.rows) sound, all_counts)),
      )

pub folds_hold_the_join : (c s : Collection) (accepted : List Request) → MaySync c s → asks_of accepted ≡ planned_pushes c s → SameContent (content_of (folded s accepted)) (join c s)
unfolding folded
folds_hold_the_join c s accepted may asked = subst (λ (l : List Ask). SameContent (content_of (fold_of s l)) (join c s)) (sym asked) (fold_holds c s may)

pub counts_agree : (c s : Collection) (accepted : List Request) (table : Table) → MaySync c s → asks_of accepted ≡ planned_pushes c s
    → row_count table (folded s accepted).rows ≡ row_count table (device_rows c s (planned_pushes c s))
unfolding folded
counts_agree c s accepted table may asked = ap (λ (l : List Ask). row_count table (fold_of s l).rows) asked ∙ each_count c s may table

pub checks_test : (c s : Collection) (accepted : List Request) (check : Request) → MaySync c s → asks_of accepted ≡ planned_pushes c s
    → check.ask ≡ asks.SanityCheck2 (counts_of (device_rows c s (planned_pushes c s))) → (ends s accepted check ≡ false) ↔ IsSound (joined_under (row_under c) (row_under s))
unfolding ends
checks_test c s accepted check may asked is =
    subst (λ (l : List Ask). (is_bad_check s l check.ask ≡ false) ↔ IsSound (joined_under (row_under c) (row_under s))) (sym asked)
    (subst (λ (ask : Ask). (is_bad_check s (planned_pushes c s) ask ≡ false) ↔ IsSound (joined_under (row_under c) (row_under s))) (sym is) (check_finds c s may))

-- a sanity check alone ends a session without a commit
bad_is_check : (c : Collection) (asked : List Ask) (ask : Ask) → is_bad_check c asked ask ≡ true → asked_method ask ≡ methods.SanityCheck2
bad_is_check c asked asks.Meta is = absurd (not_both is refl)
bad_is_check c asked (asks.Start min_usn lmod) is = absurd (not_both is refl)
bad_is_check c asked (asks.ApplyGraves ids) is = absurd (not_both is refl)
bad_is_check c asked (asks.ApplyChanges changes) is = absurd (not_both is refl)
bad_is_check c asked asks.Chunk is = absurd (not_both is refl)
bad_is_check c asked (asks.ApplyChunk chunk) is = absurd (not_both is refl)
bad_is_check c asked (asks.SanityCheck2 counts) is = refl
bad_is_check c asked asks.Finish is = absurd (not_both is refl)
bad_is_check c asked (asks.Upload whole) is = absurd (not_both is refl)
bad_is_check c asked asks.Download is = absurd (not_both is refl)

pub checks_alone_end : (committed : Collection) (accepted : List Request) (request : Request) → ends committed accepted request ≡ true → asked_method request.ask ≡ methods.SanityCheck2
unfolding ends
checks_alone_end committed accepted request is = bad_is_check committed (asks_of accepted) request.ask is

-- what the reply to the check of a sync tells
pub sync_check_told : (c s : Collection) (accepted : List Request) (check : Request) → MaySync c s → asks_of accepted ≡ planned_pushes c s
    → check.ask ≡ asks.SanityCheck2 (counts_of (device_rows c s (planned_pushes c s)))
    → (reply : SanityReply) × (answer s accepted check ≡ gives.Sanity reply) × TellsCheck (folded s accepted).rows (counts_of (device_rows c s (planned_pushes c s))) (ends s accepted check) reply
unfolding ends folded answer
sync_check_told c s accepted check may asked is =
    let counts : SanityCounts = counts_of (device_rows c s (planned_pushes c s)) in
    let held : Rows = (fold_of s (planned_pushes c s)).rows in
    let told : TellsCheck held counts (not (is_good held counts)) (sanity_reply held counts) =
    check_told held counts (fold_named c s may (planned_pushes c s)) (fold_checked c s may (planned_pushes c s) (pushes_checked c s may)) in (
      sanity_reply held counts,
      ap (λ (l : List Ask). answer_to s l check.ask) asked ∙ ap (answer_to s (planned_pushes c s)) is,
      subst (λ (l : List Ask). TellsCheck (fold_of s l).rows counts (is_bad_check s l check.ask) (sanity_reply held counts)) (sym asked)
          (subst (λ (ask : Ask). TellsCheck held counts (is_bad_check s (planned_pushes c s) ask) (sanity_reply held counts)) (sym is) told),
    )

pub seven_counts_agree : (c s : Collection) (accepted : List Request) → MaySync c s → asks_of accepted ≡ planned_pushes c s → counts_of (folded s accepted).rows ≡ counts_of (device_rows c s (planned_pushes c s))
unfolding folded
seven_counts_agree c s accepted may asked = ap (λ (l : List Ask). counts_of (fold_of s l).rows) asked ∙ sym (all_counts c s may)

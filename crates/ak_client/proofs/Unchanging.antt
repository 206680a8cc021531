-- A greeting that finds nothing to sync: the device has the content of what was committed at its meta.
use Rattle.std.specs.Cmp.{signed_Decides}
use Rattle.std.specs.Ordering.{int_eq}
use Rattle.std.specs.Prelude.{◌≡◌, ◌≢◌, ℤ, ◌&&◌, Bool, true, false, not, if◌then◌else◌, List, [], ◌++◌, Option, Some, None, Ok}
use Rattle.std.proofs.Common.{refl, sym, ap, subst, ◌∙◌, inl, inr, arith}
use Rattle.std.proofs.lemmas.List.{append-nil}
use Rattle.std.proofs.lemmas.Option.{none-some, same_Some}
use Rattle.ak_base.specs.Limits.{last_head_usn}
use Rattle.ak_base.specs.Rows.{IsChecked}
use Rattle.ak_base.specs.declared.heads.Head.{Head}
use Rattle.ak_base.specs.declared.names.Name.{Name}
use Rattle.ak_base.specs.declared.rows.Row.{Row}
use Rattle.ak_client.proofs.Clocks.{stop_told}
use Rattle.ak_client.proofs.Meeting.{formed_by, linked_at_meta, linked_parts}
use Rattle.ak_client.proofs.Pending.{all_is_sent}
use Rattle.ak_client.proofs.Testing.{of_clocks}
use Rattle.ak_client.specs.Greetings.{EndsAtDevice, EndsGreeting, Finds, FindsTold, IsMetBy, IsMetOver, clock_stop, have_equal_heads, head_stop, is_unchanged}
use Rattle.ak_client.specs.Outcomes.{is_told_by_meta}
use Rattle.ak_client.specs.Syncs.{MayBegin, world_at}
use Rattle.ak_client.specs.Unsent.{has_unsent}
use Rattle.ak_client.specs.declared.outcomes.Outcome.{Outcome}
use Rattle.ak_client.specs.declared.outcomes.Outcome.TheVariants as outcomes
use Rattle.ak_client_wire.specs.declared.wires.MetaSaid.{MetaSaid}
use Rattle.ak_exchange.specs.Phases.{holding, held_by}
use Rattle.ak_exchange.specs.Stops.{keep_stop}
use Rattle.ak_keep.proofs.RowsByName.{all_gets, named-get}
use Rattle.ak_keep.specs.Collections.{Collection, IsWellFormed}
use Rattle.ak_keep.specs.Keepers.{Keeping, WhereTold}
use Rattle.ak_merge.proofs.EqualHeads.{equal_heads_are_equal_contents}
use Rattle.ak_merge.specs.Holdings.{AreChecked, AreNamed, SameContent, content_of, row_under}
use Rattle.ak_protocol.proofs.Commits.{not_both}
use Rattle.ak_protocol.specs.Accounts.{AccountState}
use Rattle.ak_protocol.specs.Commits.{EachNewer, HasFreshSchema}
use Rattle.ak_protocol.specs.Logs.{Event, Log, with_growth}
use Rattle.ak_session.specs.Plans.{Asker}

-- ---- no other reason says so
not_by_clocks : (meta : MetaSaid) (second : ℤ) (outcome : Outcome) → clock_stop meta second ≡ Some outcome → outcome ≡ outcomes.NoChanges → ⊥
not_by_clocks meta second outcome is = of_clocks (λ (o : Outcome). o ≢ outcomes.NoChanges) (λ same. grind (arith, same)) (λ device server same. grind (arith, same)) meta second outcome is

by_heads : (meta : MetaSaid) (head : Head) (unchanged : Bool) (outcome : Outcome) → head_stop meta head unchanged ≡ Some outcome → outcome ≡ outcomes.NoChanges → unchanged ≡ true
by_heads meta head true outcome is none = refl
by_heads meta head false outcome is none = absurd (by (not (int_eq head.schema meta.scm)) (int_eq meta.usn last_head_usn) is)
  where
    full : outcomes.FullSchema head.schema meta.scm ≡ outcomes.NoChanges → ⊥
    full is = grind (arith, is)

    last_one : outcomes.FullSequence meta.usn ≡ outcomes.NoChanges → ⊥
    last_one is = grind (arith, is)

    by : (schemas last : Bool) → (if schemas then Some (outcomes.FullSchema head.schema meta.scm) else if last then Some (outcomes.FullSequence meta.usn) else None) ≡ Some outcome → ⊥
    by true last is = full (same_Some (outcomes.FullSchema head.schema meta.scm) outcome is ∙ none)
    by false true is = last_one (same_Some (outcomes.FullSequence meta.usn) outcome is ∙ none)
    by false false is = none-some outcome is

-- what a greeting that says so has found
pub found_unchanged : (old new : Option (List ℤ)) (keeping : Keeping) (meta : MetaSaid) (outcome : Outcome) → EndsGreeting (Ok meta) old new keeping outcome → outcome ≡ outcomes.NoChanges
    → (head : Head) × FindsTold meta head true keeping
found_unchanged old new keeping meta outcome (at, given, inl stopped) none = absurd (not_by_clocks meta _ outcome stopped none)
found_unchanged old new keeping meta outcome (at, given, inr (pass, ends)) none = by ends
  where
    unsound_not : (one : Outcome) → outcome ≡ one → (one ≡ outcomes.NoChanges → ⊥) → ⊥
    unsound_not one is never = never (sym is ∙ none)

    by : EndsAtDevice meta keeping outcome → (head : Head) × FindsTold meta head true keeping
    by (inl (fault, is)) = absurd (not_both (ap is_told_by_meta none) (ap is_told_by_meta is ∙ stop_told (keep_stop fault)))
    by (inr (head, unchanged, finds, inl is)) = (head, subst (λ (b : Bool). FindsTold meta head b keeping) (by_heads meta head unchanged outcome is none) finds)
    by (inr (head, unchanged, finds, inr (passed, unsound))) = absurd (unsound_not (outcomes.OwnCheck unsound.0) unsound.1 (λ same. grind (arith, same)))

-- ---- equal heads
three : (a b c : Bool) → (a && b && c) ≡ true → (a ≡ true) × (b ≡ true) × (c ≡ true)
three true true true is = (refl, refl, refl)
three true true false is = absurd (not_both is refl)
three true false c is = absurd (not_both is refl)
three false b c is = absurd (not_both is refl)

both : (a b : Bool) → (a && not b) ≡ true → (a ≡ true) × (b ≡ false)
both true false is = (refl, refl)
both true true is = absurd (not_both is refl)
both false b is = absurd (not_both is refl)

module _ (who : Asker) (c s : Collection) (account : AccountState) (old now : Log) (before : Keeping) (meta : MetaSaid) (head : Head)
    (holds : before ≡ holding c) (may : MayBegin who c account old) (over : IsMetOver who account old now s) (by_meta : IsMetBy meta s)
    (fresh : EachNewer (HasFreshSchema c) (world_at who account old) (world_at who account now)) (finds : FindsTold meta head true before) where
  found : Finds meta head true (held_by c)
  found = subst (λ (k : Keeping). WhereTold k (Finds meta head true)) holds finds.told

  head_is : c.head ≡ head
  head_is = same_Some c.head head found.holds

  unchanged : (have_equal_heads meta head ≡ true) × (has_unsent c.rows head.tags ≡ false)
  unchanged = both (have_equal_heads meta head) (has_unsent c.rows head.tags) (sym found.tells)

  equal : (int_eq head.moment meta.moment ≡ true) × (int_eq head.schema meta.scm ≡ true) × (int_eq head.usn meta.usn ≡ true)
  equal = three (int_eq head.moment meta.moment) (int_eq head.schema meta.scm) (int_eq head.usn meta.usn) unchanged.0

  formed : IsWellFormed (held_by c)
  formed = formed_by c before holds finds.known

  named : AreNamed (row_under c)
  named = λ name row at. named-get c.rows name row formed.named at

  checked : AreChecked (row_under c)
  checked = λ name row at. all_gets (λ (entry : Name × Row). IsChecked entry.1) c.rows name row formed.checked at

  pub same_content : SameContent (content_of c) (content_of s)
  same_content =
      equal_heads_are_equal_contents c s
      (linked_parts c s (ap (λ (h : Head). h.schema) head_is ∙ (signed_Decides head.schema meta.scm).0 equal.1 ∙ by_meta.schema)
      (linked_at_meta who c s account old now [] (record { meta = meta; head = head }) may over
      (subst (λ (log : Log). EachNewer (HasFreshSchema c) (world_at who account old) (world_at who account log))
      (ap (λ (events : List Event). record now { events = events }) (sym (append-nil now.events))) fresh)))
      (ap (λ (h : Head). h.usn) head_is ∙ (signed_Decides head.usn meta.usn).0 equal.2 ∙ by_meta.usn)
      (ap (λ (h : Head). h.moment) head_is ∙ (signed_Decides head.moment meta.moment).0 equal.0 ∙ by_meta.moment)
      (all_is_sent c named checked (ap (λ (h : Head). has_unsent c.rows h.tags) head_is ∙ unchanged.1))

-- What the meta of a lab's sync tells: a sync goes on past it only if the two schema moments are one.
use Rattle.std.specs.Ordering.{int_eq}
use Rattle.std.specs.Option.{option_map, option_or}
use Rattle.std.specs.Cmp.{signed_Decides}
use Rattle.std.specs.Prelude.{◌≡◌, ◌≢◌, ◌⊎◌, ◌==◌, ℕ, ℤ, Bool, true, false, not, if◌then◌else◌, Option, Some, None}
use Rattle.std.proofs.Common.{refl, sym, ap, subst, ◌∙◌, inl, inr, arith}
use Rattle.std.proofs.lemmas.Option.{none-some, same_Some}
use Rattle.ak_base.specs.Limits.{last_head_usn}
use Rattle.ak_base.specs.declared.heads.Head.{Head}
use Rattle.ak_client.proofs.Testing.{clock_told}
use Rattle.ak_client.specs.Greetings.{clock_stop, device_stop, head_stop, is_unchanged}
use Rattle.ak_client.specs.Outcomes.{is_told_by_meta, outcome_at}
use Rattle.ak_client.specs.Syncs.{EndsByMeta}
use Rattle.ak_client.specs.declared.outcomes.Outcome.{Outcome}
use Rattle.ak_client.specs.declared.outcomes.Outcome.TheVariants as outcomes
use Rattle.ak_client_wire.specs.Forms.{is_meta_in_range, meta_in, meta_told}
use Rattle.ak_client_wire.specs.declared.wires.MetaSaid.{MetaSaid}
use Rattle.ak_exchange.specs.Phases.{held_by, holding}
use Rattle.ak_exchange.specs.Stops.{keep_stop}
use Rattle.ak_keep.specs.Collections.{Collection}
use Rattle.ak_keep.specs.declared.keepers.KeepFault.{KeepFault}
use Rattle.ak_keep.specs.declared.keepers.KeepFault.TheVariants as faults
use Rattle.ak_merge.specs.Edits.{second_of}
use Rattle.ak_merge.specs.Soundness.{first_fault}
use Rattle.ak_merge.specs.declared.checks.CheckFault.{CheckFault}
use Rattle.ak_messages.specs.declared.replies.Give.TheVariants as gives
use Rattle.ak_protocol.specs.Replies.{meta_reply}

-- ---- what the meta said
pub is_200 : (status : ℕ) → (status == 200) ≡ true → status ≡ 200
is_200 status is = grind (arith, is)

said_by : (b : Bool) (x y : MetaSaid) → (if b then Some x else None) ≡ Some y → x ≡ y
said_by true x y is = same_Some x y is
said_by false x y is = absurd (none-some y is)

-- a meta in its form says the schema moment of the head
pub schema_said : (head : Head) (now : ℤ) (said : MetaSaid) → meta_in (gives.Meta (meta_reply head now)) ≡ Some said → said.scm ≡ head.schema
schema_said head now said is =
    sym (ap (λ (m : MetaSaid). m.scm)
    (said_by (is_meta_in_range (meta_reply head now)) (meta_told (meta_reply head now)) said is))

pub granted_so : (b : Bool) (o : Option MetaSaid) (said : MetaSaid) → (if b then o else None) ≡ Some said → (b ≡ true) × (o ≡ Some said)
granted_so true o said is = (refl, is)
granted_so false o said is = absurd (none-some said is)

-- ---- why it ended
not_both : {b : Bool} → b ≡ true → b ≡ false → ⊥
not_both is not = grind (arith, is, not)

-- heads of two schema moments end a sync by its meta
head_told : (meta : MetaSaid) (head : Head) (unchanged : Bool) → head.schema ≢ meta.scm
    → (why : Outcome) × (head_stop meta head unchanged ≡ Some why) × (is_told_by_meta why ≡ true)
head_told meta head unchanged differ =
    by unchanged (int_eq head.schema meta.scm) (int_eq meta.usn last_head_usn) refl
  where
    by : (same schemas last : Bool) → int_eq head.schema meta.scm ≡ schemas
        → (why : Outcome) × ((if same then Some outcomes.NoChanges else if not schemas then Some (outcomes.FullSchema head.schema meta.scm)
        else if last then Some (outcomes.FullSequence meta.usn) else None) ≡ Some why) × (is_told_by_meta why ≡ true)
    by true schemas last is = (outcomes.NoChanges, refl, refl)
    by false false last is = (outcomes.FullSchema head.schema meta.scm, refl, refl)
    by false true last is = absurd (differ ((signed_Decides head.schema meta.scm).0 is))

-- a sync that ended for no reason that its meta gave, and not for want of memory or a keeper's fault, met one schema moment
module _ (meta : MetaSaid) (at : ℤ) (c : Collection) (outcome : Outcome) (ends : EndsByMeta meta at (holding c) outcome)
    (untold : is_told_by_meta outcome ≡ false) (unfailed : outcome ≢ outcomes.Keep) (enough : outcome ≢ outcomes.Memory) where
  told_so : (why : Outcome) → is_told_by_meta why ≡ true → outcome ≡ why → ⊥
  told_so why told is = not_both (ap is_told_by_meta is ∙ told) untold

  not_kept : (fault : KeepFault) → outcome ≡ outcome_at (keep_stop fault) → ⊥
  not_kept faults.Failed is = unfailed is
  not_kept faults.Memory is = enough is

  by_clock : (o : Option Outcome) → clock_stop meta (second_of at) ≡ o → c.head.schema ≢ meta.scm → ⊥
  by_clock (Some why) is differ = told_so why (clock_told meta (second_of at) why is) (ends.by_clocks why is)
  by_clock None is differ =
      let told = head_told meta c.head (is_unchanged meta c.head c.rows) differ in
      let stop_is : device_stop meta (held_by c) ≡ Some told.0 =
      ap (λ (o : Option Outcome). option_or o (option_map (λ (fault : CheckFault). outcomes.OwnCheck fault) (first_fault c.rows))) told.1 in
      either told (ends.by_device is told.0 stop_is)
    where
      either : (told : (why : Outcome) × (head_stop meta c.head (is_unchanged meta c.head c.rows) ≡ Some why) × (is_told_by_meta why ≡ true))
          → (outcome ≡ told.0) ⊎ ((fault : KeepFault) × (outcome ≡ outcome_at (keep_stop fault))) → ⊥
      either told (inl is) = told_so told.0 told.2 is
      either told (inr kept) = not_kept kept.0 kept.1

  pub one_schema : c.head.schema ≡ meta.scm
  one_schema = by (int_eq c.head.schema meta.scm) refl
    where
      by : (b : Bool) → int_eq c.head.schema meta.scm ≡ b → c.head.schema ≡ meta.scm
      by true is = (signed_Decides c.head.schema meta.scm).0 is
      by false is = absurd (by_clock (clock_stop meta (second_of at)) refl
          (λ same. not_both ((signed_Decides c.head.schema meta.scm).1 same) is))

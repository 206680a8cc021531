-- Why a device stops at its meta: it holds a copy of what is committed, or its schema moment is another.
use Rattle.std.specs.Option.{option_map, option_or}
use Rattle.std.specs.Ordering.{int_eq}
use Rattle.std.specs.Cmp.{signed_Decides}
use Rattle.std.specs.Prelude.{◌≡◌, ◌≢◌, ◌&&◌, ℤ, not, if◌then◌else◌, Bool, true, false, Option, Some, None}
use Rattle.std.proofs.Common.{refl, sym, ap, ◌∙◌}
use Rattle.ak_base.specs.Limits.{last_head_usn}
use Rattle.ak_base.specs.declared.heads.Head.{Head}
use Rattle.ak_client.specs.Greetings.{device_stop, is_unchanged}
use Rattle.ak_client.specs.Unsent.{has_unsent}
use Rattle.ak_client.specs.declared.outcomes.Outcome.{Outcome}
use Rattle.ak_client.specs.declared.outcomes.Outcome.TheVariants as outcomes
use Rattle.ak_client_wire.specs.declared.wires.MetaSaid.{MetaSaid}
use Rattle.ak_exchange.specs.Phases.{held_by}
use Rattle.ak_keep.specs.Collections.{Collection}
use Rattle.ak_merge.specs.Commits.{IsCommitted, IsCopyOf}
use Rattle.ak_merge.specs.Soundness.{first_fault}
use Rattle.ak_merge.specs.declared.checks.CheckFault.{CheckFault}
use Rattle.ak_protocol.proofs.Commits.{not_both}
use Rattle.ak_sync_completes.proofs.Metas.{Says}
use Rattle.ak_sync_completes.specs.Completing.{have_nothing_to_sync}
use Rattle.ak_transfer_laws.proofs.Sent.{all_sent}

abbrev own_faults : Collection → Option Outcome
own_faults c = option_map (λ (fault : CheckFault). outcomes.OwnCheck fault) (first_fault c.rows)

same_is : (a b : ℤ) → a ≡ b → int_eq a b ≡ true
same_is a b is = (signed_Decides a b).1 is

differs_is : (a b : ℤ) → a ≢ b → int_eq a b ≡ false
differs_is a b differs = by (int_eq a b) refl
  where
    by : (t : Bool) → int_eq a b ≡ t → int_eq a b ≡ false
    by true is = absurd (differs ((signed_Decides a b).0 is))
    by false is = is

-- a device on which nothing changed has nothing to sync
unchanged_stop : (c : Collection) (said : MetaSaid) → is_unchanged said c.head c.rows ≡ true → device_stop said (held_by c) ≡ Some outcomes.NoChanges
unchanged_stop c said unchanged =
    ap (λ (b : Bool). option_or (if b then Some outcomes.NoChanges else if not (int_eq c.head.schema said.scm) then Some (outcomes.FullSchema c.head.schema said.scm)
    else if int_eq said.usn last_head_usn then Some (outcomes.FullSequence said.usn) else None) (own_faults c)) unchanged

-- so it is where the heads are equal and nothing is to be sent
pub equal_sides_stop : (s c : Collection) (at : ℤ) (said : MetaSaid) → have_nothing_to_sync c s ≡ true → Says s at said
    → device_stop said (held_by c) ≡ Some outcomes.NoChanges
equal_sides_stop s c at said nothing says =
    unchanged_stop c said
    (ap (λ (moment : ℤ). (int_eq c.head.moment moment && int_eq c.head.schema said.scm && int_eq c.head.usn said.usn) && not (has_unsent c.rows c.head.tags)) says.moment
    ∙ ap (λ (scm : ℤ). (int_eq c.head.moment s.head.moment && int_eq c.head.schema scm && int_eq c.head.usn said.usn) && not (has_unsent c.rows c.head.tags)) says.schema
    ∙ ap (λ (usn : ℤ). (int_eq c.head.moment s.head.moment && int_eq c.head.schema s.head.schema && int_eq c.head.usn usn) && not (has_unsent c.rows c.head.tags)) says.usn
    ∙ nothing)

-- a copy has nothing to sync
pub copies_stop : (s c : Collection) (at : ℤ) (said : MetaSaid) → IsCommitted s → IsCopyOf s c → Says s at said → device_stop said (held_by c) ≡ Some outcomes.NoChanges
copies_stop s c at said lawful copy says = unchanged_stop c said unchanged
  where
    moment : int_eq c.head.moment said.moment ≡ true
    moment = same_is c.head.moment said.moment (ap (λ (h : Head). h.moment) copy.head ∙ sym says.moment)

    schema : int_eq c.head.schema said.scm ≡ true
    schema = same_is c.head.schema said.scm (ap (λ (h : Head). h.schema) copy.head ∙ sym says.schema)

    usn : int_eq c.head.usn said.usn ≡ true
    usn = same_is c.head.usn said.usn (ap (λ (h : Head). h.usn) copy.head ∙ sym says.usn)

    unchanged : is_unchanged said c.head c.rows ≡ true
    unchanged =
        ap (λ (b : Bool). (b && int_eq c.head.schema said.scm && int_eq c.head.usn said.usn) && not (has_unsent c.rows c.head.tags)) moment
        ∙ ap (λ (b : Bool). (b && int_eq c.head.usn said.usn) && not (has_unsent c.rows c.head.tags)) schema
        ∙ ap (λ (b : Bool). b && not (has_unsent c.rows c.head.tags)) usn
        ∙ ap not (all_sent s c lawful copy)

-- another schema moment needs the whole collection
pub schemas_stop : (s c : Collection) (at : ℤ) (said : MetaSaid) → c.head.schema ≢ s.head.schema → Says s at said
    → device_stop said (held_by c) ≡ Some (outcomes.FullSchema c.head.schema s.head.schema)
schemas_stop s c at said differ says =
    ap (λ (b : Bool). option_or (if b then Some outcomes.NoChanges else if not (int_eq c.head.schema said.scm) then Some (outcomes.FullSchema c.head.schema said.scm)
    else if int_eq said.usn last_head_usn then Some (outcomes.FullSequence said.usn) else None) (own_faults c)) changed
    ∙ ap (λ (b : Bool). option_or (if not b then Some (outcomes.FullSchema c.head.schema said.scm)
    else if int_eq said.usn last_head_usn then Some (outcomes.FullSequence said.usn) else None) (own_faults c)) schemas
    ∙ ap (λ (scm : ℤ). Some (outcomes.FullSchema c.head.schema scm)) says.schema
  where
    schemas : int_eq c.head.schema said.scm ≡ false
    schemas = differs_is c.head.schema said.scm (λ is. differ (is ∙ says.schema))

    changed : is_unchanged said c.head c.rows ≡ false
    changed = by (int_eq c.head.moment said.moment) (int_eq c.head.schema said.scm) schemas
      where
        by : (moments schema : Bool) → schema ≡ false → ((moments && schema && int_eq c.head.usn said.usn) && not (has_unsent c.rows c.head.tags)) ≡ false
        by false schema is = refl
        by true false is = refl
        by true true is = absurd (not_both refl is)

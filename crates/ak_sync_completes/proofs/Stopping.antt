-- That a sync over a wire which tells its log never ends as stopped.
use Rattle.std.specs.Option.{option_map, option_or}
use Rattle.std.specs.Ordering.{int_eq}
use Rattle.std.specs.Prelude.{◌≡◌, ◌⊎◌, ℤ, not, if◌then◌else◌, Bool, true, false, List, ◌∷◌, Option, Some, None, IfSome, option_and_then, Ok, Err}
use Rattle.std.proofs.Common.{refl, sym, ap, subst, ◌∙◌, inl, inr}
use Rattle.std.proofs.lemmas.Option.{none-some, same_Some}
use Rattle.ak_base.specs.Limits.{last_head_usn}
use Rattle.ak_base.specs.declared.heads.Head.{Head}
use Rattle.ak_client.specs.Greetings.{are_far_apart, clock_stop, device_stop, head_stop, is_unchanged, meta_of}
use Rattle.ak_client.specs.Outcomes.{is_told_by_meta}
use Rattle.ak_client.specs.Syncs.{IsSyncEnded, told_by}
use Rattle.ak_client.specs.declared.outcomes.Outcome.{Outcome}
use Rattle.ak_client.specs.declared.outcomes.Outcome.TheVariants as outcomes
use Rattle.ak_client_wire.specs.Forms.{is_meta_in_range, meta_told}
use Rattle.ak_client_wire.specs.Wires.{WireKind, Carries, WireState}
use Rattle.ak_client_wire.specs.declared.wires.MetaSaid.{MetaSaid}
use Rattle.ak_exchange.specs.Asked.{AreTried, answers_in, asker, asks_in}
use Rattle.ak_exchange.specs.declared.envelopes.Ids.{Ids}
use Rattle.ak_faults.specs.Causes.{Health}
use Rattle.ak_keep.specs.Collections.{Holding, Rows}
use Rattle.ak_keep.specs.Keepers.{Keeping, WhereTold}
use Rattle.ak_keep.specs.Marks.{WithMark}
use Rattle.ak_merge.specs.Edits.{second_of}
use Rattle.ak_merge.specs.Soundness.{first_fault}
use Rattle.ak_merge.specs.declared.checks.CheckFault.{CheckFault}
use Rattle.ak_messages.specs.declared.replies.Reply.{Reply}
use Rattle.ak_messages.specs.declared.requests.Request.{Request}
use Rattle.ak_protocol.proofs.Commits.{not_both}
use Rattle.ak_protocol.proofs.Syncs.{unknown_keys_are_told}
use Rattle.ak_protocol.specs.Accounts.{AccountState}
use Rattle.ak_protocol.specs.Logs.{Event, Grows, IsReplyIn, Log, with_growth}
use Rattle.ak_protocol.specs.Replies.{meta_reply}
use Rattle.ak_protocol.specs.Serving.{Setback, Undisturbed, KeeperFault, OutOfMemory, served}
use Rattle.ak_protocol.specs.Syncs.{world_of}
use Rattle.ak_session.specs.Plans.{requests_from}
use Rattle.ak_sync_completes.proofs.Metas.{one_of}
use Rattle.ak_sync_completes.proofs.Serving.{Answer, reply_at_place}

-- ---- what is no such end
abbrev pub is_stopped : Outcome → Bool
is_stopped outcomes.Stopped = true
is_stopped outcome = false

-- the server lets the sync go on, so the clocks do not stop it so
pub clocks_other : (said : MetaSaid) (second : ℤ) (why : Outcome) → said.cont ≡ true → clock_stop said second ≡ Some why → is_stopped why ≡ false
clocks_other said second why goes is =
    by (are_far_apart second said.ts)
    (sym (ap (λ (b : Bool). if not b then Some outcomes.Stopped else if are_far_apart second said.ts then Some (outcomes.ClockOff second said.ts) else None) goes) ∙ is)
  where
    by : (b : Bool) → (if b then Some (outcomes.ClockOff second said.ts) else None) ≡ Some why → is_stopped why ≡ false
    by true found = ap is_stopped (sym (same_Some (outcomes.ClockOff second said.ts) why found))
    by false found = absurd (none-some why found)

-- and neither does the device, by its head
head_other : (said : MetaSaid) (head : Head) (held : Rows) (why : Outcome)
    → option_or (head_stop said head (is_unchanged said head held)) (option_map (λ (fault : CheckFault). outcomes.OwnCheck fault) (first_fault held)) ≡ Some why
    → is_stopped why ≡ false
head_other said head held why = by (is_unchanged said head held) (int_eq head.schema said.scm) (int_eq said.usn last_head_usn)
  where
    own : (o : Option CheckFault) → option_map (λ (fault : CheckFault). outcomes.OwnCheck fault) o ≡ Some why → is_stopped why ≡ false
    own None found = absurd (none-some why found)
    own (Some fault) found = ap is_stopped (sym (same_Some (outcomes.OwnCheck fault) why found))

    by : (unchanged schemas last : Bool)
        → option_or (if unchanged then Some outcomes.NoChanges
        else if not schemas then Some (outcomes.FullSchema head.schema said.scm)
        else if last then Some (outcomes.FullSequence said.usn)
        else None) (option_map (λ (fault : CheckFault). outcomes.OwnCheck fault) (first_fault held)) ≡ Some why → is_stopped why ≡ false
    by true schemas last found = ap is_stopped (sym (same_Some outcomes.NoChanges why found))
    by false false last found = ap is_stopped (sym (same_Some (outcomes.FullSchema head.schema said.scm) why found))
    by false true true found = ap is_stopped (sym (same_Some (outcomes.FullSequence said.usn) why found))
    by false true false found = own (first_fault held) found

-- if it has none, it gives no reason
device_other : (said : MetaSaid) (h : Holding) (why : Outcome) → device_stop said h ≡ Some why → is_stopped why ≡ false
device_other said h why = by h.head
  where
    by : (o : Option Head)
        → option_and_then (λ (head : Head). option_or (head_stop said head (is_unchanged said head h.rows))
        (option_map (λ (fault : CheckFault). outcomes.OwnCheck fault) (first_fault h.rows))) o ≡ Some why → is_stopped why ≡ false
    by None found = absurd (none-some why found)
    by (Some head) found = head_other said head h.rows why found

-- ---- the meta
-- a meta that is granted lets the sync go on
meta_goes : (account : AccountState) (ids : Ids) (now : ℤ) (setback : Setback) (reply : Reply) (said : MetaSaid)
    → (served account (meta_of ids) now setback).reply ≡ reply → told_by (Ok reply) ≡ Some said → said.cont ≡ true
meta_goes account ids now Undisturbed reply said is told =
    let meta = meta_reply account.committed.head now in
    ap (λ (m : MetaSaid). m.cont)
    (sym (one_of (is_meta_in_range meta) (meta_told meta) said (subst (λ (r : Reply). told_by (Ok r) ≡ Some said) (sym is) told)))
meta_goes account ids now KeeperFault reply said is told = absurd (none-some said (subst (λ (r : Reply). told_by (Ok r) ≡ Some said) (sym is) told))
meta_goes account ids now OutOfMemory reply said is told = absurd (none-some said (subst (λ (r : Reply). told_by (Ok r) ≡ Some said) (sym is) told))

module _ {kind : WireKind} (ids : Ids) (old : Log) (h0 h1 : Health) (w0 w1 : WireState kind) (told_old : w0.log ≡ Some old) where
  pub said_goes : (answer : Answer) (more : List Request) (answers : List Answer) → AreTried (meta_of ids ∷ more) (answer ∷ answers) h0 h1 w0 w1
      → (said : MetaSaid) → told_by answer ≡ Some said → said.cont ≡ true
  said_goes (Err end) more answers tried said told = absurd (none-some said told)
  said_goes (Ok reply) more answers tried said told =
      let carried : (new : Log) × (tried.1.log ≡ Some new) × Grows old new (meta_of ids) (Ok reply) =
      subst (λ (o : Option Log). Carries o tried.1.log (meta_of ids) (Ok reply)) told_old tried.2.carries in
      by carried.2.growth carried.2.reply (old.opening ids.host.digits) refl
    where
      by : (growth : List Event) → IsReplyIn old growth (meta_of ids) reply → (o : Option AccountState) → old.opening ids.host.digits ≡ o → said.cont ≡ true
      by growth r None none =
          absurd (none-some said (subst (λ (one : Reply). told_by (Ok one) ≡ Some said) (unknown_keys_are_told (meta_of ids) old growth reply none r) told))
      by growth r (Some account) opening =
          meta_goes (world_of ids.host.digits account (with_growth old r.before)).state ids r.now r.setback reply said
          (reply_at_place (meta_of ids) account old growth reply r opening) told

  pub never_stopped : (held : WithMark Holding) (before left : Keeping) (moments : Option (List ℤ)) (outcome : Outcome) → before.told ≡ Some held
      → IsSyncEnded ids before left h0 h1 w0 w1 moments outcome → outcome ≡ outcomes.Stopped → ⊥
  never_stopped held before left moments outcome tells ended stopped = by (told_by ended.sync.asked.meta) refl
    where
      goes : (said : MetaSaid) → told_by ended.sync.asked.meta ≡ Some said → said.cont ≡ true
      goes = said_goes ended.sync.asked.meta (requests_from (asker ids) ended.sync.asked.moment 1 (asks_in ended.sync.asked.tries)) (answers_in ended.sync.asked.tries) ended.sync.asked.tried

      by_why : (said : MetaSaid) (second : ℤ) → said.cont ≡ true
          → (clock_stop said second ≡ Some outcome) ⊎ ((clock_stop said second ≡ None) × WhereTold before (λ h. device_stop said h ≡ Some outcome)) → ⊥
      by_why said second cont (inl found) = not_both (ap is_stopped stopped) (clocks_other said second outcome cont found)
      by_why said second cont (inr (pass, found)) =
          not_both (ap is_stopped stopped)
          (device_other said held.current outcome
          (subst (λ (o : Option (WithMark Holding)). IfSome o (λ (w : WithMark Holding). device_stop said w.current ≡ Some outcome)) tells found))

      by : (o : Option MetaSaid) → told_by ended.sync.asked.meta ≡ o → ⊥
      by None none = not_both (ap is_told_by_meta stopped) (ended.because.unmet none)
      by (Some said) is =
          let met = ended.because.met said is in
          by_why said (second_of met.0) (goes said is) (met.3.only (ap is_told_by_meta stopped))

-- Why a sync ends at its meta.
use Rattle.std.specs.Option.{option_map, option_or}
use Rattle.std.specs.Prelude.{◌≡◌, ◌==◌, ℤ, Bool, true, false, if◌then◌else◌, List, [], ◌∷◌, Option, Some, None, IfSome, option_and_then, Result, Ok, Err, ok_or, ◌⊎◌}
use Rattle.std.proofs.Common.{refl, sym, ap, subst, ◌∙◌, inl, inr, arith}
use Rattle.std.proofs.lemmas.Option.{none-some, same_Some}
use Rattle.ak_base.specs.declared.heads.Head.{Head}
use Rattle.ak_client.proofs.Clocks.{stop_told}
use Rattle.ak_client.specs.Greetings.{EndsAtDevice, EndsGreeting, Finds, IsGreeting, IsReady, clock_stop, device_stop, head_stop, is_unchanged, meta_of}
use Rattle.ak_client.specs.Outcomes.{is_told_by_meta, outcome_at}
use Rattle.ak_client.specs.Syncs.{EndsBecause, EndsByMeta, told_by}
use Rattle.ak_client.specs.declared.outcomes.Outcome.{Outcome}
use Rattle.ak_client.specs.declared.outcomes.Outcome.TheVariants as outcomes
use Rattle.ak_client_wire.specs.Forms.{meta_in}
use Rattle.ak_client_wire.specs.Tries.{granted_in, in_form}
use Rattle.ak_client_wire.specs.Wires.{WireKind, WireState}
use Rattle.ak_client_wire.specs.declared.asks.Unanswered.{Unanswered}
use Rattle.ak_client_wire.specs.declared.asks.Unanswered.TheVariants as unanswered
use Rattle.ak_client_wire.specs.declared.wires.MetaSaid.{MetaSaid}
use Rattle.ak_client_wire.specs.declared.wires.WireEnd.{WireEnd}
use Rattle.ak_client_wire.specs.declared.wires.WireEnd.TheVariants as ends
use Rattle.ak_exchange.specs.Asked.{TriedAsk}
use Rattle.ak_exchange.specs.Stops.{keep_stop, wire_stop}
use Rattle.ak_exchange.specs.declared.envelopes.Ids.{Ids}
use Rattle.ak_exchange.specs.declared.envelopes.Met.{Met}
use Rattle.ak_faults.specs.Causes.{Health}
use Rattle.ak_io.specs.Arrivals.{GivesNext}
use Rattle.ak_keep.specs.Collections.{Holding}
use Rattle.ak_keep.specs.Keepers.{Keeping, WhereTold}
use Rattle.ak_keep.specs.Marks.{WithMark}
use Rattle.ak_keep.specs.declared.keepers.KeepFault.{KeepFault}
use Rattle.ak_merge.specs.Edits.{second_of}
use Rattle.ak_merge.specs.Soundness.{first_fault}
use Rattle.ak_merge.specs.declared.checks.CheckFault.{CheckFault}
use Rattle.ak_messages.specs.declared.replies.Reply.{Reply}
use Rattle.ak_protocol.proofs.Commits.{not_both}

-- ---- what a meta told
err-ok : (why : Unanswered) (said : MetaSaid) → Err why ≡ Ok said → ⊥
err-ok why said is = grind (arith, is)

same_ok : (one other : MetaSaid) → (let granted : Result MetaSaid Unanswered = Ok one in granted ≡ Ok other) → one ≡ other
same_ok one other is = grind (arith, is)

told_ok : (answer : Result Reply WireEnd) (said : MetaSaid) → told_by answer ≡ Some said → in_form meta_in (granted_in answer) ≡ Ok said
told_ok (Err ends.Failed) said is = absurd (none-some said is)
told_ok (Err ends.BadReply) said is = absurd (none-some said is)
told_ok (Err ends.Memory) said is = absurd (none-some said is)
told_ok (Ok reply) said is = by (reply.status == 200) is
  where
    by : (b : Bool) → (if b then meta_in reply.give else None) ≡ Some said
        → in_form meta_in (if b then Ok reply.give else Err (unanswered.Refused reply.status reply.word reply.seen)) ≡ Ok said
    by true is = ap (λ (o : Option MetaSaid). ok_or o unanswered.BadReply) is
    by false is = absurd (none-some said is)

ok_told : (answer : Result Reply WireEnd) (said : MetaSaid) → in_form meta_in (granted_in answer) ≡ Ok said → told_by answer ≡ Some said
ok_told (Err ends.Failed) said is = absurd (err-ok unanswered.Lost said is)
ok_told (Err ends.BadReply) said is = absurd (err-ok unanswered.BadReply said is)
ok_told (Err ends.Memory) said is = absurd (err-ok unanswered.Memory said is)
ok_told (Ok reply) said is = by (reply.status == 200) is
  where
    given : (o : Option MetaSaid) → ok_or o unanswered.BadReply ≡ Ok said → o ≡ Some said
    given None is = absurd (err-ok unanswered.BadReply said is)
    given (Some own) is = ap (λ (m : MetaSaid). Some m) (same_ok own said is)

    by : (b : Bool) → in_form meta_in (if b then Ok reply.give else Err (unanswered.Refused reply.status reply.word reply.seen)) ≡ Ok said
        → (if b then meta_in reply.give else None) ≡ Some said
    by true is = given (meta_in reply.give) is
    by false is = absurd (err-ok (unanswered.Refused reply.status reply.word reply.seen) said is)

-- ---- what the device says
by_head : (meta : MetaSaid) (h : Holding) (head : Head) (unchanged : Bool) (why : Outcome) → Finds meta head unchanged h → head_stop meta head unchanged ≡ Some why → device_stop meta h ≡ Some why
by_head meta h head unchanged why found is =
    ap (option_and_then (λ (own : Head). option_or (head_stop meta own (is_unchanged meta own h.rows)) (option_map (λ (fault : CheckFault). outcomes.OwnCheck fault) (first_fault h.rows)))) found.holds
    ∙ ap (λ (o : Option Outcome). option_or o (option_map (λ (fault : CheckFault). outcomes.OwnCheck fault) (first_fault h.rows))) (ap (head_stop meta head) (sym found.tells) ∙ is)

by_rows : (meta : MetaSaid) (h : Holding) (head : Head) (found : Option CheckFault) → h.head ≡ Some head → head_stop meta head (is_unchanged meta head h.rows) ≡ None → first_fault h.rows ≡ found
    → device_stop meta h ≡ option_map (λ (fault : CheckFault). outcomes.OwnCheck fault) found
by_rows meta h head found held pass is =
    ap (option_and_then (λ (own : Head). option_or (head_stop meta own (is_unchanged meta own h.rows)) (option_map (λ (fault : CheckFault). outcomes.OwnCheck fault) (first_fault h.rows)))) held
    ∙ ap (λ (o : Option Outcome). option_or o (option_map (λ (fault : CheckFault). outcomes.OwnCheck fault) (first_fault h.rows))) pass
    ∙ ap (option_map (λ (fault : CheckFault). outcomes.OwnCheck fault)) is

-- what is true of all is true of what is told
where_all : (keeping : Keeping) (P : Holding → Type 0) → ((h : Holding) → P h) → WhereTold keeping P
where_all keeping P all = by keeping.told
  where
    by : (t : Option (WithMark Holding)) → IfSome t (λ (w : WithMark Holding). P w.current)
    by None = tt
    by (Some w) = all w.current

where_so : (keeping : Keeping) (P Q : Holding → Type 0) → ((h : Holding) → P h → Q h) → WhereTold keeping P → WhereTold keeping Q
where_so keeping P Q so = by keeping.told
  where
    by : (t : Option (WithMark Holding)) → IfSome t (λ (w : WithMark Holding). P w.current) → IfSome t (λ (w : WithMark Holding). Q w.current)
    by None is = tt
    by (Some w) is = so w.current is

where_both : (keeping : Keeping) (P Q R : Holding → Type 0) → ((h : Holding) → P h → Q h → R h) → WhereTold keeping P → WhereTold keeping Q → WhereTold keeping R
where_both keeping P Q R so = by keeping.told
  where
    by : (t : Option (WithMark Holding)) → IfSome t (λ (w : WithMark Holding). P w.current) → IfSome t (λ (w : WithMark Holding). Q w.current)
        → IfSome t (λ (w : WithMark Holding). R w.current)
    by None one two = tt
    by (Some w) one two = so w.current one two

-- ---- a greeting that ended the sync
by_clocks : (keeping : Keeping) (outcome : Outcome) (meta : MetaSaid) (at : ℤ) → clock_stop meta (second_of at) ≡ Some outcome → EndsByMeta meta at keeping outcome
by_clocks keeping outcome meta at is = record {
  by_clocks = λ why found. same_Some outcome why (sym is ∙ found);
  by_device = λ pass. absurd (none-some outcome (sym pass ∙ is));
  only = λ told. inl is;
}

module _ (keeping : Keeping) (outcome : Outcome) (meta : MetaSaid) (at : ℤ) (pass : clock_stop meta (second_of at) ≡ None) where
  abbrev ByDevice : Holding → Type 0
  ByDevice h = (why : Outcome) → device_stop meta h ≡ Some why → (outcome ≡ why) ⊎ ((fault : KeepFault) × (outcome ≡ outcome_at (keep_stop fault)))

  -- the device's own reason
  found : WhereTold keeping (λ h. device_stop meta h ≡ Some outcome) → EndsByMeta meta at keeping outcome
  found is = record {
    by_clocks = λ why found. absurd (none-some why (sym pass ∙ found));
    by_device = λ passed. where_so keeping (λ h. device_stop meta h ≡ Some outcome) ByDevice
        (λ h own why found. inl (same_Some outcome why (sym own ∙ found))) is;
    only = λ told. inr (pass, is);
  }

  by_device : EndsAtDevice meta keeping outcome → EndsByMeta meta at keeping outcome
  by_device (inl (fault, is)) = record {
    by_clocks = λ why found. absurd (none-some why (sym pass ∙ found));
    by_device = λ passed. where_all keeping ByDevice (λ h why found. inr (fault, is));
    only = λ told. absurd (not_both (sym (ap is_told_by_meta is) ∙ told) (stop_told (keep_stop fault)));
  }
  by_device (inr (head, unchanged, finds, inl is)) =
      found (where_so keeping (Finds meta head unchanged) (λ h. device_stop meta h ≡ Some outcome) (λ h own. by_head meta h head unchanged outcome own is) finds.told)
  by_device (inr (head, unchanged, finds, inr (passed, unsound))) =
      found (where_both keeping (Finds meta head unchanged) (λ h. first_fault h.rows ≡ Some unsound.0) (λ h. device_stop meta h ≡ Some outcome)
      (λ h own bad. by_rows meta h head (Some unsound.0) own.holds (ap (head_stop meta head) (sym own.tells) ∙ passed) bad ∙ ap (λ (o : Outcome). Some o) (sym unsound.1)) finds.told unsound.2)

pub unmet_because : {kind : WireKind} (ids : Ids) (h0 h1 : Health) (w0 w1 : WireState kind) (old new : Option (List ℤ)) (keeping : Keeping) (outcome : Outcome)
    → (it : IsGreeting ids h0 h1 w0 w1 old new keeping (Err outcome)) → (moment : ℤ) → EndsBecause it.heard.answer moment [] keeping old outcome
unmet_because ids h0 h1 w0 w1 old new keeping outcome it moment = record {
  unmet = λ none. untold it.answer it.heard.came it.ends none;
  met = λ said told. met said (subst (λ (r : Result MetaSaid Unanswered). EndsGreeting r old new keeping outcome)
      (it.heard.came ∙ told_ok it.heard.answer said told) it.ends);
  more = inl refl;
}
  where
    untold : (r : Result MetaSaid Unanswered) → r ≡ in_form meta_in (granted_in it.heard.answer) → EndsGreeting r old new keeping outcome → told_by it.heard.answer ≡ None
        → is_told_by_meta outcome ≡ false
    untold (Err why) came is none = ap is_told_by_meta is ∙ stop_told (wire_stop why)
    untold (Ok said) came is none = absurd (none-some said (sym none ∙ ok_told it.heard.answer said (sym came)))

    met : (said : MetaSaid) → EndsGreeting (Ok said) old new keeping outcome
        → (at : ℤ) × (to_come : Option (List ℤ)) × GivesNext old to_come at × EndsByMeta said at keeping outcome
    met said (at, given, inl is) = (at, new, given, by_clocks keeping outcome said at is)
    met said (at, given, inr (pass, is)) = (at, new, given, by_device keeping outcome said at pass is)

-- ---- a greeting after which the sync went on
pub met_because : {kind : WireKind} (ids : Ids) (h0 h1 : Health) (w0 w1 : WireState kind) (old new : Option (List ℤ)) (keeping : Keeping) (met : Met) (tries : List TriedAsk) (outcome : Outcome)
    → (it : IsGreeting ids h0 h1 w0 w1 old new keeping (Ok met)) → WhereTold keeping (λ h. IsReady h met)
    → (at : ℤ) × GivesNext old new at × (clock_stop met.meta (second_of at) ≡ None) → is_told_by_meta outcome ≡ false
    → EndsBecause it.heard.answer met.meta.moment tries keeping old outcome
met_because ids h0 h1 w0 w1 old new keeping met tries outcome it ready clocks untold =
    let told : told_by it.heard.answer ≡ Some met.meta = ok_told it.heard.answer met.meta (sym it.heard.came ∙ it.goes_on) in
    record {
      unmet = λ none. untold;
      met = λ said is. (
        clocks.0,
        new,
        clocks.1,
        subst (λ (m : MetaSaid). EndsByMeta m clocks.0 keeping outcome) (same_Some met.meta said (sym told ∙ is)) (record {
          by_clocks = λ why found. absurd (none-some why (sym clocks.2 ∙ found));
          by_device = λ pass. where_so keeping (λ h. IsReady h met) (λ h. (why : Outcome) → device_stop met.meta h ≡ Some why
              → (outcome ≡ why) ⊎ ((fault : KeepFault) × (outcome ≡ outcome_at (keep_stop fault))))
              (λ h own why found. absurd (none-some why (sym (by_rows met.meta h met.head None own.head own.pass own.sound) ∙ found))) ready;
          only = λ is_told. absurd (not_both is_told untold);
        }),
      );
      more = inr (met.meta, told, refl, untold);
    }

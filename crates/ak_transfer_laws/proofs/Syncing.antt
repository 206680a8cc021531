-- How a sync ends that is left alone and stops at its meta, for a reason that the device's collection gives.
use Rattle.std.specs.Prelude.{◌≡◌, ◌≢◌, ◌⊎◌, ℕ, ℤ, if◌then◌else◌, Bool, true, false, List, [], ◌∷◌, ◌++◌, Option, Some, None, Ok, Err}
use Rattle.std.proofs.Common.{refl, sym, ap, subst, ◌∙◌, inl, inr, arith}
use Rattle.std.proofs.lemmas.Option.{none-some}
use Rattle.ak_client.specs.Greetings.{clock_stop, device_stop}
use Rattle.ak_client.specs.Outcomes.{is_told_by_meta, outcome_at}
use Rattle.ak_client.specs.Syncs.{EndsAt, EndsByMeta, IsSync, meta_tried, told_by}
use Rattle.ak_client.specs.declared.outcomes.Outcome.{Outcome}
use Rattle.ak_client.specs.declared.outcomes.Outcome.TheVariants as outcomes
use Rattle.ak_exchange.specs.Asked.{TriedAsk, answers_in, asker, asks_in}
use Rattle.ak_exchange.specs.Grants.{AreTooMany, EndsUnanswered, IsCheckedLast, IsGranted}
use Rattle.ak_exchange.specs.Phases.{held_by}
use Rattle.ak_exchange.specs.Stops.{keep_stop}
use Rattle.ak_exchange.specs.declared.envelopes.Ids.{Ids}
use Rattle.ak_exchange.specs.declared.stops.Stop.{Stop}
use Rattle.ak_exchange.specs.declared.stops.Stop.TheVariants as stops
use Rattle.ak_faults.specs.Causes.{Rose}
use Rattle.ak_io.specs.Arrivals.{GivesNext}
use Rattle.ak_keep.specs.Collections.{Collection}
use Rattle.ak_keep.specs.Keepers.{Keeping, WhereTold}
use Rattle.ak_keep.specs.declared.keepers.KeepFault.{KeepFault}
use Rattle.ak_keep.specs.declared.keepers.KeepFault.TheVariants as faults
use Rattle.ak_merge.specs.Edits.{second_of}
use Rattle.ak_messages.specs.declared.replies.Reply.{Reply}
use Rattle.ak_messages.specs.declared.replies.Word.{Word}
use Rattle.ak_messages.specs.declared.requests.Ask.TheVariants as asks
use Rattle.ak_protocol.proofs.Commits.{not_both}
use Rattle.ak_protocol.specs.Accounts.{AccountState}
use Rattle.ak_session.specs.Plans.{requests_from}
use Rattle.ak_sync_completes.proofs.Asking.{last_of_one}
use Rattle.ak_sync_completes.proofs.Metas.{Says, clocks_pass}
use Rattle.ak_sync_completes.proofs.Serving.{Answer}
use Rattle.ak_sync_completes.specs.Completing.{IsSyncOver, RanOutOfMemory, SyncEnds}
use Rattle.ak_transfer_laws.proofs.Meeting.{Comes, clock_is, err_ok, meta_comes, not_granted, ok_same, told_of}
use Rattle.ak_transfer_laws.specs.Completing.{EndsWith, IsLeftAlone, committed_before}
use Rattle.ak_client_wire.specs.Forms.{meta_in}
use Rattle.ak_client_wire.specs.declared.asks.Unanswered.TheVariants as unanswered
use Rattle.ak_client_wire.specs.declared.wires.MetaSaid.{MetaSaid}
use Rattle.ak_client_wire.specs.declared.wires.WireEnd.TheVariants as ends
use Rattle.ak_client_wire.specs.Wires.{WireKind}

-- ---- answers
failed_read : ◌≡◌ {A = Answer} (Err ends.Failed) (Err ends.BadReply) → ⊥
failed_read is = grind (arith, is)

memory_read : ◌≡◌ {A = Answer} (Err ends.Memory) (Err ends.BadReply) → ⊥
memory_read is = grind (arith, is)

-- a meta that was refused says nothing
ungiven : (reply : Reply) → reply.status ≢ 200 → told_by (Ok reply) ≡ None
ungiven reply other = ap (λ (b : Bool). if b then meta_in reply.give else None) (not_granted reply other)

module _ {kind : WireKind} (ids : Ids) (c : Collection) (account : AccountState) (before after : SyncEnds kind) (outcome : Outcome) (it : IsLeftAlone ids c account before after)
    (over : IsSyncOver ids before after outcome) (why : Outcome)
    (stops_so : (said : MetaSaid) → Says (committed_before ids account it.old) it.at said → device_stop said (held_by c) ≡ Some why) where
  abbrev own : IsSync ids before.keeping after.keeping before.health after.health before.wire after.wire outcome
  own = over.ended.sync

  abbrev Ends : Type 0
  Ends = EndsWith why it.growth outcome ⊎ (outcome ≡ outcomes.Lost)

  unkept : outcome ≢ outcomes.Keep
  unkept is = it.keeper (over.kept.failed is)

  -- ---- a meta that was granted
  met : (said : MetaSaid) → told_by own.asked.meta ≡ Some said → Says (committed_before ids account it.old) it.at said → Ends
  met said told says = let m = over.ended.because.met said told in by m.0 m.1 m.2 m.3
    where
      refused : (fault : KeepFault) → outcome ≡ outcome_at (keep_stop fault) → Ends
      refused faults.Failed is = absurd (unkept is)
      refused faults.Memory is = inl (inr (inl is))

      by_device : (outcome ≡ why) ⊎ ((fault : KeepFault) × (outcome ≡ outcome_at (keep_stop fault))) → Ends
      by_device (inl is) = inl (inl is)
      by_device (inr (fault, is)) = refused fault is

      by : (at : ℤ) (to_come : Option (List ℤ)) → GivesNext before.moments to_come at → EndsByMeta said at before.keeping outcome → Ends
      by at to_come given ends_so =
          let pass : clock_stop said (second_of at) ≡ None =
          ap (λ (moment : ℤ). clock_stop said (second_of moment)) (clock_is ids c account before after it at to_come given)
          ∙ clocks_pass (committed_before ids account it.old) it.at said says in
          by_device
          (subst (λ (k : Keeping). WhereTold k (λ h. (other : Outcome) → device_stop said h ≡ Some other
          → (outcome ≡ other) ⊎ ((fault : KeepFault) × (outcome ≡ outcome_at (keep_stop fault))))) it.holds (ends_so.by_device pass) why (stops_so said says))

  -- ---- one that was not
  module _ (none : told_by own.asked.meta ≡ None) (refused : (reply : Reply) → own.asked.meta ≡ Ok reply → (reply.status ≢ 200) × RanOutOfMemory it.growth) (readable : own.asked.meta ≢ Err ends.BadReply) where
    nothing_tried : own.asked.tries ≡ []
    nothing_tried = by over.ended.because.more
      where
        by : (own.asked.tries ≡ []) ⊎ ((said : MetaSaid) × (told_by own.asked.meta ≡ Some said) × (own.asked.moment ≡ said.moment) × (is_told_by_meta outcome ≡ false)) → own.asked.tries ≡ []
        by (inl nothing) = nothing
        by (inr (said, told, same, other)) = absurd (none-some said (sym none ∙ told))

    untold : is_told_by_meta outcome ≡ true → ⊥
    untold told = not_both told (over.ended.because.unmet none)

    only_meta : (tried : TriedAsk) (earlier : List TriedAsk) → meta_tried own.asked.meta ∷ own.asked.tries ≡ earlier ++ tried ∷ [] → tried ≡ meta_tried own.asked.meta
    only_meta tried earlier parts =
        last_of_one (meta_tried own.asked.meta) tried earlier (ap (λ (l : List TriedAsk). meta_tried own.asked.meta ∷ l) (sym nothing_tried) ∙ parts)

    ungranted : IsGranted (meta_tried own.asked.meta) → ⊥
    ungranted one = (refused one.reply one.is).0 one.status

    unchecked : (stop : Stop) → IsCheckedLast (meta_tried own.asked.meta ∷ own.asked.tries) stop after.wire → ⊥
    unchecked stop check =
        let ask : asks.Meta ≡ asks.SanityCheck2 check.counts =
        ap (λ (t : TriedAsk). t.ask) (sym (only_meta check.it check.last.0 check.last.1)) ∙ check.asks in
        grind (arith, ask)

    answered_so : (tried : TriedAsk) (earlier : List TriedAsk) (reply : Reply)
        → meta_tried own.asked.meta ∷ own.asked.tries ≡ earlier ++ tried ∷ [] → tried.answer ≡ Ok reply → own.asked.meta ≡ Ok reply
    answered_so tried earlier reply parts answered = ap (λ (t : TriedAsk). t.answer) (sym (only_meta tried earlier parts)) ∙ answered

    refusal : (status : ℕ) (word : Word) (seen : ℤ) → outcome ≡ outcomes.Refused status word seen → EndsUnanswered (meta_tried own.asked.meta ∷ own.asked.tries) (unanswered.Refused status word seen) → Ends
    refusal status word seen is (tried, (earlier, parts), (reply, answered, other, same_status, same_word, same_seen)) =
        inl (inr (inr (status, word, seen, is, (refused reply (answered_so tried earlier reply parts answered)).1)))

    unreadable : EndsUnanswered (meta_tried own.asked.meta ∷ own.asked.tries) unanswered.BadReply → ⊥
    unreadable (tried, (earlier, parts), inl is) = readable (ap (λ (t : TriedAsk). t.answer) (sym (only_meta tried earlier parts)) ∙ is)
    unreadable (tried, (earlier, parts), inr (reply, answered, ok, wrong)) = (refused reply (answered_so tried earlier reply parts answered)).0 ok

    none_many : AreTooMany (meta_tried own.asked.meta ∷ own.asked.tries) → ⊥
    none_many many = by (subst (λ (l : List TriedAsk). AreTooMany (meta_tried own.asked.meta ∷ l)) nothing_tried many)
      where
        by : AreTooMany (meta_tried own.asked.meta ∷ []) → ⊥
        by (inl came) = omega (arith, came)
        by (inr sent) = omega (arith, sent)

    ends_at : (o : Outcome) → outcome ≡ o → EndsAt (meta_tried own.asked.meta ∷ own.asked.tries) after.wire o
    ends_at o is = subst (EndsAt (meta_tried own.asked.meta ∷ own.asked.tries) after.wire) is own.ends.why

    unmet : (o : Outcome) → outcome ≡ o → Ends
    unmet outcomes.Finished is = absurd (ungranted (own.ends.all_granted is).0)
    unmet outcomes.NoChanges is = absurd (untold (ap is_told_by_meta is))
    unmet (outcomes.FullSchema device server) is = absurd (untold (ap is_told_by_meta is))
    unmet (outcomes.FullSequence usn) is = absurd (untold (ap is_told_by_meta is))
    unmet (outcomes.BadRow fault) is = absurd (unchecked (stops.BadRow fault) (ends_at (outcomes.BadRow fault) is))
    unmet (outcomes.BadCounts client server) is = absurd (unchecked (stops.BadCounts client server) (ends_at (outcomes.BadCounts client server) is))
    unmet (outcomes.ClockOff device server) is = absurd (untold (ap is_told_by_meta is))
    unmet (outcomes.OwnCheck fault) is = absurd (untold (ap is_told_by_meta is))
    unmet outcomes.Stopped is = absurd (untold (ap is_told_by_meta is))
    unmet (outcomes.Refused status word seen) is = refusal status word seen is (ends_at (outcomes.Refused status word seen) is)
    unmet outcomes.Lost is = inr is
    unmet outcomes.BadReply is = absurd (unreadable (ends_at outcomes.BadReply is))
    unmet outcomes.TooManyChunks is = absurd (none_many (ends_at outcomes.TooManyChunks is))
    unmet outcomes.Keep is = absurd (unkept is)
    unmet outcomes.Memory is = inl (inr (inl is))

  -- ---- so it ends for that reason
  ends_by : Comes (committed_before ids account it.old) it.at it.growth own.asked.meta → Ends
  ends_by (inl failed) =
      unmet (ap told_by failed) (λ reply is. absurd (err_ok ends.Failed reply (sym failed ∙ is))) (λ is. absurd (failed_read (sym failed ∙ is))) outcome refl
  ends_by (inr (inl memory)) =
      unmet (ap told_by memory) (λ reply is. absurd (err_ok ends.Memory reply (sym memory ∙ is))) (λ is. absurd (memory_read (sym memory ∙ is))) outcome refl
  ends_by (inr (inr (inl (reply, answered, other, out)))) =
      unmet (ap told_by answered ∙ ungiven reply other)
      (λ again is. (subst (λ (r : Reply). r.status ≢ 200) (ok_same reply again (sym answered ∙ is)) other, out))
      (λ is. absurd (err_ok ends.BadReply reply (sym is ∙ answered))) outcome refl
  ends_by (inr (inr (inr (reply, said, answered, ok, given, says)))) = met said (ap told_by answered ∙ told_of reply said ok given) says

  pub syncs_end : EndsWith why it.growth outcome ⊎ (outcome ≡ outcomes.Lost)
  syncs_end = ends_by (meta_comes ids c account before after it own.asked.meta (requests_from (asker ids) own.asked.moment 1 (asks_in own.asked.tries)) (answers_in own.asked.tries) own.asked.tried)

  pub syncs_end_faultless : (Rose before.health after.health → ⊥) → EndsWith why it.growth outcome
  syncs_end_faultless calm = by syncs_end
    where
      by : Ends → EndsWith why it.growth outcome
      by (inl so) = so
      by (inr lost) = absurd (calm (over.lost.failed lost))

-- That an upload and a download which nothing stops are finished, or memory ran out.
use Rattle.std.specs.Prelude.{◌≡◌, ◌≢◌, ◌⊎◌, ◌==◌, ℤ, if◌then◌else◌, Bool, true, false, List, [], ◌∷◌, Option, Some, None, Result, Ok, Err, ok_or}
use Rattle.std.proofs.Common.{refl, sym, ap, subst, ◌∙◌, inl, inr, arith}
use Rattle.std.proofs.lemmas.Bool.{eqb-true}
use Rattle.std.proofs.lemmas.Option.{none-some}
use Rattle.ak_client.specs.Greetings.{clock_stop, meta_of}
use Rattle.ak_client.specs.Outcomes.{outcome_at}
use Rattle.ak_client.specs.declared.outcomes.Outcome.{Outcome}
use Rattle.ak_client.specs.declared.outcomes.Outcome.TheVariants as outcomes
use Rattle.ak_exchange.specs.Asked.{AreTried, asker, request_at}
use Rattle.ak_exchange.specs.Stops.{wire_stop}
use Rattle.ak_exchange.specs.declared.envelopes.Ids.{Ids}
use Rattle.ak_faults.proofs.Healths.{cause_after}
use Rattle.ak_io.specs.Arrivals.{GivesNext}
use Rattle.ak_keep.specs.Collections.{Collection}
use Rattle.ak_merge.specs.Edits.{second_of}
use Rattle.ak_messages.specs.declared.replies.Give.{Give}
use Rattle.ak_messages.specs.declared.replies.Reply.{Reply}
use Rattle.ak_messages.specs.declared.requests.Ask.{Ask}
use Rattle.ak_protocol.specs.Accounts.{AccountState}
use Rattle.ak_session.specs.Contents.{refusal}
use Rattle.ak_session.specs.Requests.{is_meta}
use Rattle.ak_sync_completes.proofs.Metas.{Says, clocks_pass}
use Rattle.ak_sync_completes.proofs.Serving.{Answer}
use Rattle.ak_sync_completes.specs.Completing.{EndsWell, RanOutOfMemory, SyncEnds}
use Rattle.ak_transfer_laws.proofs.Asking.{granted_or_out}
use Rattle.ak_transfer_laws.proofs.Meeting.{Comes, clock_is, err_ok, meta_comes, not_granted, ok_same}
use Rattle.ak_transfer_laws.specs.Completing.{IsLeftAlone, committed_before}
use Rattle.ak_transfers.specs.Greetings.{Line}
use Rattle.ak_transfers.specs.Transfers.{AsksNothing, AsksOnce, Continues, Errand, Follows, IsTransfer, MayAsk, TransferEnds}
use Rattle.ak_client_wire.specs.Forms.{meta_in}
use Rattle.ak_client_wire.specs.Tries.{Tried, granted_in, in_form}
use Rattle.ak_client_wire.specs.declared.asks.Unanswered.{Unanswered}
use Rattle.ak_client_wire.specs.declared.asks.Unanswered.TheVariants as unanswered
use Rattle.ak_client_wire.specs.declared.wires.MetaSaid.{MetaSaid}
use Rattle.ak_client_wire.specs.declared.wires.WireEnd.TheVariants as ends
use Rattle.ak_client_wire.specs.Wires.{WireKind}

-- ---- answers by their form
refused_as : {T : Type 0} (part : Give → Option T) (reply : Reply) → reply.status ≢ 200
    → in_form part (granted_in (Ok reply)) ≡ Err (unanswered.Refused reply.status reply.word reply.seen)
refused_as part reply other =
    ap (λ (b : Bool). in_form part (if b then Ok reply.give else Err (unanswered.Refused reply.status reply.word reply.seen))) (not_granted reply other)

given_as : {T : Type 0} (part : Give → Option T) (reply : Reply) (given : T) → reply.status ≡ 200 → part reply.give ≡ Some given
    → in_form part (granted_in (Ok reply)) ≡ Ok given
given_as {T = T} part reply given ok is =
    ap (λ (b : Bool). in_form part (if b then Ok reply.give else Err (unanswered.Refused reply.status reply.word reply.seen))) granted
    ∙ ap (λ (o : Option T). ok_or o unanswered.BadReply) is
  where
    granted : (reply.status == 200) ≡ true
    granted = grind (arith, ok)

err_same : {T : Type 0} (one other : Unanswered) → ◌≡◌ {A = Result T Unanswered} (Err one) (Err other) → one ≡ other
err_same one other is = grind (arith, is)

-- ---- how a transfer ends
module _ {kind : WireKind} {T : Type 0} (errand : Errand T) (ids : Ids) (c : Collection) (account : AccountState) (before after : SyncEnds kind) (outcome : Outcome)
    (it : IsLeftAlone ids c account before after) (asked : List Ask)
    (transfer : IsTransfer errand ids asked (record { line = record { health = before.health; wire = before.wire }; moments = before.moments })
    (record { line = record { health = after.health; wire = after.wire }; moments = after.moments }) outcome) where
  abbrev held : Collection
  held = committed_before ids account it.old

  -- well, or because a request was lost, or the device's keeper failed
  abbrev pub Ends : Type 0
  Ends = EndsWell it.growth outcome ⊎ ((outcome ≡ outcomes.Lost) ⊎ (outcome ≡ outcomes.Keep))

  abbrev met : Line kind
  met = transfer.met

  abbrev now : Line kind
  now = record { health = after.health; wire = after.wire }

  abbrev answer : Answer
  answer = transfer.meta.answer

  ends_well : (o : Outcome) → outcome ≡ o → EndsWell it.growth o → Ends
  ends_well o is well = inl (subst (EndsWell it.growth) (sym is) well)

  -- ---- the meta
  asked_nothing : AsksNothing asked met now → AreTried (meta_of ids ∷ []) (answer ∷ []) before.health after.health before.wire after.wire
  asked_nothing nothing =
      (met.health, met.wire, transfer.meta.tried, (ap (λ (line : Line kind). line.health) nothing.same, ap (λ (line : Line kind). line.wire) nothing.same))

  -- why it was not granted
  unmet : (why : Unanswered) → transfer.answer ≡ Err why → Comes held it.at it.growth answer → outcome ≡ outcome_at (wire_stop why) → Ends
  unmet why is (inl failed) ends_so =
      inr (inl (ends_so ∙ ap (λ (w : Unanswered). outcome_at (wire_stop w))
      (sym (err_same unanswered.Lost why (sym (ap (λ (a : Answer). in_form meta_in (granted_in a)) failed) ∙ sym transfer.meta.came ∙ is)))))
  unmet why is (inr (inl memory)) ends_so =
      ends_well outcomes.Memory
      (ends_so ∙ ap (λ (w : Unanswered). outcome_at (wire_stop w))
      (sym (err_same unanswered.Memory why (sym (ap (λ (a : Answer). in_form meta_in (granted_in a)) memory) ∙ sym transfer.meta.came ∙ is)))) tt
  unmet why is (inr (inr (inl (reply, answered, other, out)))) ends_so =
      ends_well (outcomes.Refused reply.status reply.word reply.seen)
      (ends_so ∙ ap (λ (w : Unanswered). outcome_at (wire_stop w))
      (sym (err_same (unanswered.Refused reply.status reply.word reply.seen) why
      (sym (ap (λ (a : Answer). in_form meta_in (granted_in a)) answered ∙ refused_as meta_in reply other) ∙ sym transfer.meta.came ∙ is)))) out
  unmet why is (inr (inr (inr (reply, said, answered, ok, given, says)))) ends_so =
      absurd (err_ok why said
      (sym is ∙ transfer.meta.came ∙ ap (λ (a : Answer). in_form meta_in (granted_in a)) answered ∙ given_as meta_in reply said ok given))

  -- what a meta says that was granted
  pub record IsMet (said : MetaSaid) : Type 0 where
    pub reply : Reply
    pub answered : answer ≡ Ok reply
    pub ok : reply.status ≡ 200
    pub says : Says held it.at said

  met_so : (said : MetaSaid) → transfer.answer ≡ Ok said → Comes held it.at it.growth answer → IsMet said
  met_so said is (inl failed) =
      absurd (err_ok unanswered.Lost said (sym (ap (λ (a : Answer). in_form meta_in (granted_in a)) failed) ∙ sym transfer.meta.came ∙ is))
  met_so said is (inr (inl memory)) =
      absurd (err_ok unanswered.Memory said (sym (ap (λ (a : Answer). in_form meta_in (granted_in a)) memory) ∙ sym transfer.meta.came ∙ is))
  met_so said is (inr (inr (inl (reply, answered, other, out)))) =
      absurd (err_ok (unanswered.Refused reply.status reply.word reply.seen) said
      (sym (ap (λ (a : Answer). in_form meta_in (granted_in a)) answered ∙ refused_as meta_in reply other) ∙ sym transfer.meta.came ∙ is))
  met_so said is (inr (inr (inr (reply, own, answered, ok, given, says)))) = record {
    reply = reply;
    answered = answered;
    ok = ok;
    says = subst (Says held it.at)
        (ok_same own said (sym (ap (λ (a : Answer). in_form meta_in (granted_in a)) answered ∙ given_as meta_in reply own ok given) ∙ sym transfer.meta.came ∙ is)) says;
  }

  -- ---- the request
  -- what is known of the errand: it may be asked after a meta, and what is granted has its form and lets it end well
  module _ (stopped : errand.stops outcome → Ends) (plain : (ask : Ask) → errand.asks ask → is_meta ask ≡ false)
      (allowed : (ask : Ask) → errand.asks ask → refusal (committed_before ids account it.old) [] (request_at (asker ids) (committed_before ids account it.old).head.moment 1 ask) ≡ None)
      (ended : (ask : Ask) → errand.asks ask → (told reply : Reply) → told.status ≡ 200 → reply.status ≡ 200
      → Tried before.health transfer.met.health before.wire transfer.met.wire (meta_of ids) (Ok told)
      → Tried transfer.met.health after.health transfer.met.wire after.wire (request_at (asker ids) (committed_before ids account it.old).head.moment 1 ask) (Ok reply)
      → (given : T) × (errand.part reply.give ≡ Some given) × (errand.ends ask given outcome → Ends)) where
    -- the meta was tried, and then this
    module _ (said : MetaSaid) (own : IsMet said) (once : AsksOnce errand ids said.moment asked met now outcome) where
      tried_meta : Tried before.health met.health before.wire met.wire (meta_of ids) (Ok own.reply)
      tried_meta = subst (λ (a : Answer). Tried before.health met.health before.wire met.wire (meta_of ids) a) own.answered transfer.meta.tried

      tried_it : (a : Answer) → once.heard.answer ≡ a
          → Tried met.health after.health met.wire after.wire (request_at (asker ids) held.head.moment 1 once.ask) a
      tried_it a is =
          subst (λ (moment : ℤ). Tried met.health after.health met.wire after.wire (request_at (asker ids) moment 1 once.ask) a) own.says.moment
          (subst (λ (x : Answer). Tried met.health after.health met.wire after.wire (request_at (asker ids) said.moment 1 once.ask) x) is once.heard.tried)

      ends_as : (result : Result T Unanswered) → in_form errand.part (granted_in once.heard.answer) ≡ result → TransferEnds errand once.ask result outcome
      ends_as result is = subst (λ (x : Result T Unanswered). TransferEnds errand once.ask x outcome) (once.heard.came ∙ is) once.ends

      answered_so : (reply : Reply) → once.heard.answer ≡ Ok reply → (b : Bool) → (reply.status == 200) ≡ b → Ends
      answered_so reply is true ok =
          let status : reply.status ≡ 200 = eqb-true reply.status 200 ok in
          let so = ended once.ask once.may own.reply reply own.ok status tried_meta (tried_it (Ok reply) is) in
          so.2 (ends_as (Ok so.0) (ap (λ (a : Answer). in_form errand.part (granted_in a)) is ∙ given_as errand.part reply so.0 status so.1))
      answered_so reply is false other =
          by (granted_or_out ids c account before after it met.health met.wire own.reply own.ok tried_meta once.ask (plain once.ask once.may) reply (tried_it (Ok reply) is)
          (allowed once.ask once.may))
        where
          differs : reply.status ≢ 200
          differs same = grind (arith, same, other)

          by : (reply.status ≡ 200) ⊎ RanOutOfMemory it.growth → Ends
          by (inl same) = absurd (differs same)
          by (inr out) =
              ends_well (outcomes.Refused reply.status reply.word reply.seen)
              (ends_as (Err (unanswered.Refused reply.status reply.word reply.seen))
              (ap (λ (a : Answer). in_form errand.part (granted_in a)) is ∙ refused_as errand.part reply differs)) out

      once_ends : (a : Answer) → once.heard.answer ≡ a → Ends
      once_ends (Ok reply) is = answered_so reply is (reply.status == 200) refl
      once_ends (Err ends.Failed) is = inr (inl (ends_as (Err unanswered.Lost) (ap (λ (a : Answer). in_form errand.part (granted_in a)) is)))
      once_ends (Err ends.Memory) is = ends_well outcomes.Memory (ends_as (Err unanswered.Memory) (ap (λ (a : Answer). in_form errand.part (granted_in a)) is)) tt
      once_ends (Err ends.BadReply) is =
          absurd (it.reading ((cause_after transfer.meta.tried.unread.goes (tried_it (Err ends.BadReply) is).unread).failed refl))

    may_end : (said : MetaSaid) → transfer.answer ≡ Ok said → MayAsk errand ids said.moment asked met now outcome → Ends
    may_end said is (inl (nothing, stops_so)) = stopped stops_so
    may_end said is (inr once) =
        once_ends said (met_so said is
        (meta_comes ids c account before after it answer (request_at (asker ids) said.moment 1 once.ask ∷ []) (once.heard.answer ∷ [])
        (met.health, met.wire, transfer.meta.tried, (after.health, after.wire, once.heard.tried, (refl, refl))))) once once.heard.answer refl

    continued : (said : MetaSaid) → transfer.answer ≡ Ok said → (at : ℤ) → GivesNext before.moments after.moments at → (why : Option Outcome) → clock_stop said (second_of at) ≡ why
        → Continues errand ids said why asked met now outcome → Ends
    continued said is at given (Some why) ends_it (nothing, ends_so) =
        absurd (none-some why (sym pass ∙ ends_it))
      where
        own : IsMet said
        own = met_so said is (meta_comes ids c account before after it answer [] [] (asked_nothing nothing))

        pass : clock_stop said (second_of at) ≡ None
        pass =
            ap (λ (moment : ℤ). clock_stop said (second_of moment)) (clock_is ids c account before after it at after.moments given)
            ∙ clocks_pass held it.at said own.says
    continued said is at given None ends_it goes = may_end said is goes

    followed : (result : Result MetaSaid Unanswered) → transfer.answer ≡ result
        → Follows errand ids result asked (record { line = met; moments = before.moments }) (record { line = now; moments = after.moments }) outcome → Ends
    followed (Err why) is (nothing, still, ends_so) =
        unmet why is (meta_comes ids c account before after it answer [] [] (asked_nothing nothing)) ends_so
    followed (Ok said) is (at, given, goes) = continued said is at given (clock_stop said (second_of at)) refl goes

    pub transfer_ends : Ends
    transfer_ends = followed transfer.answer refl transfer.follows

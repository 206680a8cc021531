-- What a bad sanity check of a server that meets the protocol shows.
use Rattle.std.specs.Option.{option_map_or}
use Rattle.std.specs.Prelude.{◌≡◌, ◌≢◌, Bool, true, false, not, if◌then◌else◌, List, Option, Some, None, option_and_then, Result, Ok, Err, ◌⊎◌}
use Rattle.std.proofs.Common.{refl, sym, ap, ◌∙◌, inl, inr, arith}
use Rattle.std.proofs.lemmas.Option.{none-some, same_Some}
use Rattle.ak_exchange.specs.Phases.{IsFairStop}
use Rattle.ak_exchange.specs.Stops.{check_stop, verdict_of}
use Rattle.ak_exchange.specs.declared.stops.Stop.{Stop}
use Rattle.ak_exchange.specs.declared.stops.Stop.TheVariants as stops
use Rattle.ak_keep.specs.Collections.{Collection}
use Rattle.ak_merge.specs.Holdings.{row_under}
use Rattle.ak_merge.specs.Joins.{joined_under}
use Rattle.ak_merge.specs.Soundness.{IsSound, fault_id}
use Rattle.ak_merge.specs.declared.checks.CheckFault.{CheckFault}
use Rattle.ak_messages.specs.declared.replies.Give.TheVariants as gives
use Rattle.ak_messages.specs.declared.replies.SanityReply.{SanityReply}
use Rattle.ak_messages.specs.declared.requests.Ask.TheVariants as asks
use Rattle.ak_messages.specs.declared.requests.Request.{Request}
use Rattle.ak_messages.specs.declared.requests.SanityCounts.{SanityCounts}
use Rattle.ak_protocol.proofs.Commits.{not_both}
use Rattle.ak_exchange.proofs.Replying.{asks_are}
use Rattle.ak_exchange.proofs.Stepping.{answered_by}
use Rattle.ak_exchange.proofs.Stopping.{verdict_is_bad}
use Rattle.ak_exchange.specs.Asked.{request_at}
use Rattle.ak_session.proofs.CheckLaws.{checks_test, seven_counts_agree, sync_check_told}
use Rattle.ak_session.specs.Answers.{answer_to, counts_of}
use Rattle.ak_session.specs.Contents.{answer, ends, folded}
use Rattle.ak_session.specs.Plans.{Asker, device_rows, planned_pushes, requests_from}
use Rattle.ak_session.specs.Refusals.{is_id}
use Rattle.ak_session.specs.Sessions.{MaySync, TellsCheck}
use Rattle.ak_client_wire.specs.Forms.{sanity_in, shows_cause, verdict_in}

-- the reply that a bad sanity check shows is the one that was given
shown_is : (own reply : SanityReply) → verdict_in (gives.Sanity own) ≡ Some reply → own ≡ reply
shown_is own reply = by (sanity_in (gives.Sanity own)) refl
  where
    given : (b : Bool) → (o : Option SanityReply) → (if b then Some own else None) ≡ o → (r : SanityReply) → o ≡ Some r → own ≡ r
    given true o is r some = same_Some own r (is ∙ some)
    given false o is r some = absurd (none-some r (is ∙ some))

    cause : (r : SanityReply) (b : Bool) → (if b then Some r else None) ≡ Some reply → r ≡ reply
    cause r true is = same_Some r reply is
    cause r false is = absurd (none-some reply is)

    by : (o : Option SanityReply) → sanity_in (gives.Sanity own) ≡ o
        → option_and_then (λ (r : SanityReply). if shows_cause r then Some r else None) o ≡ Some reply → own ≡ reply
    by None is shown = absurd (none-some reply shown)
    by (Some r) is shown = given (option_map_or (λ (fault : CheckFault). is_id (fault_id fault)) own.fault true) (sanity_in (gives.Sanity own)) refl r is ∙ cause r (shows_cause r) shown

module _ (who : Asker) (c s : Collection) (reply : SanityReply) (may : MaySync c s)
    (shown : verdict_in (answer_to s (planned_pushes c s) (asks.SanityCheck2 (counts_of (device_rows c s (planned_pushes c s))))) ≡ Some reply) where
  abbrev counts : SanityCounts
  counts = counts_of (device_rows c s (planned_pushes c s))

  abbrev accepted : List Request
  accepted = requests_from who s.head.moment 1 (planned_pushes c s)

  abbrev check : Request
  check = request_at who s.head.moment 1 (asks.SanityCheck2 counts)

  told : (own : SanityReply) × (answer s accepted check ≡ gives.Sanity own) × TellsCheck (folded s accepted).rows counts (ends s accepted check) own
  told = sync_check_told c s accepted check may (asks_are who s.head.moment 1 (planned_pushes c s)) refl

  own_is : told.0 ≡ reply
  own_is = shown_is told.0 reply
      (ap verdict_in (sym told.1 ∙ answered_by s accepted check (planned_pushes c s) (asks_are who s.head.moment 1 (planned_pushes c s))) ∙ shown)

  -- a good one shows that the join is sound
  pub sound_join : (x : Unit {0}) → verdict_of reply ≡ Ok x → IsSound (joined_under (row_under c) (row_under s))
  sound_join x good =
      (checks_test c s accepted check may (asks_are who s.head.moment 1 (planned_pushes c s)) refl).0
      (by (ends s accepted check) refl (sym told.2.good ∙ ap (λ (r : SanityReply). r.good) own_is ∙ is_good))
    where
      err-ok : (e : Stop) → (let refused : Result (Unit {0}) Stop = Err e in refused ≡ Ok x) → ⊥
      err-ok e is = grind (arith, is)

      is_good : reply.good ≡ true
      is_good = of reply.good refl good
        where
          of : (b : Bool) → reply.good ≡ b
              → (let found : Result (Unit {0}) Stop = if b then Ok (tt {0}) else Err (check_stop reply.fault reply.client reply.server) in found ≡ Ok x) → reply.good ≡ true
          of true good is = good
          of false good is = absurd (err-ok (check_stop reply.fault reply.client reply.server) is)

      by : (b : Bool) → ends s accepted check ≡ b → not (ends s accepted check) ≡ true → ends s accepted check ≡ false
      by false is so = is
      by true is so = absurd (not_both so (ap not is))

  -- a bad one
  module _ (stop : Stop) (bad : verdict_of reply ≡ Err stop) where
    ok-err : (let good : Result (Unit {0}) Stop = Ok (tt {0}) in good ≡ Err stop) → ⊥
    ok-err is = grind (arith, is)

    not_good : reply.good ≡ false
    not_good = by reply.good refl bad
      where
        by : (b : Bool) → reply.good ≡ b
            → (let found : Result (Unit {0}) Stop = if b then Ok (tt {0}) else Err (check_stop reply.fault reply.client reply.server) in found ≡ Err stop) → reply.good ≡ false
        by true good is = absurd (ok-err is)
        by false good is = good

    ended : ends s accepted check ≡ true
    ended = by (ends s accepted check) (sym told.2.good ∙ ap (λ (r : SanityReply). r.good) own_is ∙ not_good)
      where
        by : (b : Bool) → not b ≡ false → b ≡ true
        by true is = refl
        by false is = absurd (not_both refl is)

    is_stop : check_stop reply.fault reply.client reply.server ≡ stop
    is_stop = same (check_stop reply.fault reply.client reply.server)
        (sym (ap (λ (b : Bool). let found : Result (Unit {0}) Stop = if b then Ok (tt {0}) else Err (check_stop reply.fault reply.client reply.server) in found) not_good) ∙ bad)
      where
        same : (one : Stop) → (let refused : Result (Unit {0}) Stop = Err one in refused ≡ Err stop) → one ≡ stop
        same one is = grind (arith, is)

    -- it has a fault, since the counts agree
    has_fault : told.0.fault ≢ None
    has_fault none = by (told.2.shows ended)
      where
        by : (told.0.fault ≢ None) ⊎ (told.0.client ≢ told.0.server) → ⊥
        by (inl some) = some none
        by (inr differ) = differ (told.2.client ended
            ∙ sym (seven_counts_agree c s accepted may (asks_are who s.head.moment 1 (planned_pushes c s))) ∙ sym (told.2.server ended))

    never_counts : (client server : SanityCounts) → stop ≡ stops.BadCounts client server → ⊥
    never_counts client server is = by reply.fault refl
      where
        by : (o : Option CheckFault) → reply.fault ≡ o → ⊥
        by None none = has_fault (ap (λ (r : SanityReply). r.fault) own_is ∙ none)
        by (Some fault) some = not_both_stops (sym (ap (λ (o : Option CheckFault). check_stop o reply.client reply.server) some) ∙ is_stop ∙ is)
          where
            not_both_stops : stops.BadRow fault ≡ stops.BadCounts client server → ⊥
            not_both_stops same = grind (arith, same)

    not_sound : IsSound (joined_under (row_under c) (row_under s)) → ⊥
    not_sound sound = not_both ended ((checks_test c s accepted check may (asks_are who s.head.moment 1 (planned_pushes c s)) refl).1 sound)

pub fair_stop : (who : Asker) (c s : Collection) (stop : Stop) (reply : SanityReply) → verdict_of reply ≡ Err stop
    → (MaySync c s → verdict_in (answer_to s (planned_pushes c s) (asks.SanityCheck2 (counts_of (device_rows c s (planned_pushes c s))))) ≡ Some reply)
    → MaySync c s → IsFairStop c s stop
fair_stop who c s (stops.BadRow fault) reply bad shown may = not_sound who c s reply may (shown may) (stops.BadRow fault) bad
fair_stop who c s (stops.BadCounts client server) reply bad shown may =
    never_counts who c s reply may (shown may) (stops.BadCounts client server) bad client server refl
fair_stop who c s (stops.Refused status word seen) reply bad shown may = tt
fair_stop who c s stops.Lost reply bad shown may = tt
fair_stop who c s stops.BadReply reply bad shown may = tt
fair_stop who c s stops.TooManyChunks reply bad shown may = absurd (not_both (verdict_is_bad reply stops.TooManyChunks bad) refl)
fair_stop who c s stops.Keep reply bad shown may = tt
fair_stop who c s stops.Memory reply bad shown may = tt

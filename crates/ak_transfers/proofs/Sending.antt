-- What an upload asks, and how it ends then.
use Rattle.std.specs.Prelude.{◌≡◌, ◌≢◌, ℤ, pos, ◌+ℤ◌, ◌&&◌, Bool, true, false, if◌then◌else◌, List, [], ◌∷◌, Option, Some, None, IfSome, Result, Ok, Err, ◌⊎◌}
use Rattle.std.specs.Cmp.{first_so, second_so}
use Rattle.std.proofs.Common.{refl, sym, ap, subst, ◌∙◌, inl, inr, arith}
use Rattle.std.proofs.lemmas.Option.{none-some, same_Some}
use Rattle.ak_base.specs.Heads.{IsMoment}
use Rattle.ak_base.specs.Limits.{last_moment}
use Rattle.ak_client.specs.Outcomes.{outcome_at}
use Rattle.ak_client.specs.declared.outcomes.Outcome.{Outcome}
use Rattle.ak_client.specs.declared.outcomes.Outcome.TheVariants as outcomes
use Rattle.ak_exchange.proofs.Faults.{same_err}
use Rattle.ak_exchange.specs.Stops.{keep_stop, wire_stop}
use Rattle.ak_exchange.specs.declared.envelopes.Ids.{Ids}
use Rattle.ak_keep.specs.Collections.{Collection, Holding, collection_of}
use Rattle.ak_keep.specs.Keepers.{Keeping, WhereTold, committed, marked_here, moments_set}
use Rattle.ak_keep.specs.Marks.{WithMark}
use Rattle.ak_keep.specs.declared.keepers.KeepFault.{KeepFault}
use Rattle.ak_keep.specs.declared.keepers.KeepFault.TheVariants as faults
use Rattle.ak_merge.specs.Commits.{uploaded_rows}
use Rattle.ak_merge.specs.Soundness.{first_fault}
use Rattle.ak_merge.specs.declared.checks.CheckFault.{CheckFault}
use Rattle.ak_messages.specs.declared.replies.Give.{Give}
use Rattle.ak_messages.specs.declared.replies.Give.TheVariants as gives
use Rattle.ak_messages.specs.declared.requests.Ask.{Ask}
use Rattle.ak_messages.specs.declared.requests.Ask.TheVariants as asks
use Rattle.ak_messages.specs.declared.requests.Whole.{Whole}
use Rattle.ak_session.proofs.Ranges.{within}
use Rattle.ak_session.specs.Uploads.{whole_to_send}
use Rattle.ak_transfers.specs.Forms.{uploaded_in}
use Rattle.ak_transfers.specs.Greetings.{Line}
use Rattle.ak_transfers.specs.Transfers.{MayAsk, StopsUpload, TransferEnds, UploadEnds, put_in_place, upload_errand}
use Rattle.ak_transfers.specs.UploadParts.{Sends, SendsOnce, prepared, uploaded_device_head, wired}
use Rattle.ak_transfers.specs.declared.asks.UploadMoments.{UploadMoments}
use Rattle.ak_client_wire.specs.Forms.{is_moment}
use Rattle.ak_client_wire.specs.declared.asks.Unanswered.{Unanswered}
use Rattle.ak_client_wire.specs.Wires.{WireKind}

-- ---- the moments that are told
same_if : (b : Bool) (own told : UploadMoments) → (if b then Some own else None) ≡ Some told → (own ≡ told) × (b ≡ true)
same_if true own told is = (same_Some own told is, refl)
same_if false own told is = absurd (none-some told is)

-- they are in their ranges
pub moments_fit : (give : Give) (told : UploadMoments) → uploaded_in give ≡ Some told → IsMoment told.moment × IsMoment told.schema
moments_fit (gives.Uploaded moment schema) told is =
    let same = same_if (is_moment moment && is_moment schema) (record { moment = moment; schema = schema }) told is in
    subst (λ (m : UploadMoments). IsMoment m.moment × IsMoment m.schema) same.0 (
      within (pos 0) last_moment moment (first_so (is_moment moment) (is_moment schema) same.1),
      within (pos 0) last_moment schema (second_so (is_moment moment) (is_moment schema) same.1),
    )
moments_fit gives.Nothing told is = absurd (none-some told is)
moments_fit (gives.Meta m) told is = absurd (none-some told is)
moments_fit (gives.Graves g) told is = absurd (none-some told is)
moments_fit (gives.Changes c) told is = absurd (none-some told is)
moments_fit (gives.Chunk c) told is = absurd (none-some told is)
moments_fit (gives.Sanity s) told is = absurd (none-some told is)
moments_fit (gives.Moment m) told is = absurd (none-some told is)
moments_fit (gives.Whole w) told is = absurd (none-some told is)

-- ---- the keeper
-- what is told of a keeper that was marked is what was told before
unmarked_told : (P : Holding → Type 0) (k : Keeping) → WhereTold (marked_here k) P → WhereTold k P
unmarked_told P k = by k.told
  where
    by : (told : Option (WithMark Holding)) → WhereTold (marked_here (record { headed = k.headed; told = told })) P → WhereTold (record { headed = k.headed; told = told }) P
    by None is = tt
    by (Some w) is = is

-- what was prepared gets its moments, and is committed
prepared_told : (whole : Whole) (told : UploadMoments) (k : Keeping)
    → committed (moments_set told.moment told.schema (pos 0 +ℤ pos 1) told.moment (prepared whole (marked_here k)))
    ≡ put_in_place (uploaded_rows whole.rows) (uploaded_device_head whole told) k
prepared_told whole told k = by k.told
  where
    by : (t : Option (WithMark Holding))
        → committed (moments_set told.moment told.schema (pos 0 +ℤ pos 1) told.moment (prepared whole (marked_here (record { headed = k.headed; told = t }))))
        ≡ put_in_place (uploaded_rows whole.rows) (uploaded_device_head whole told) (record { headed = k.headed; told = t })
    by None = refl
    by (Some w) = refl

-- ---- why it ends
by_fault : (before : Keeping) (fault : KeepFault) → StopsUpload before (outcome_at (keep_stop fault))
by_fault before faults.Failed = inr (inl refl)
by_fault before faults.Memory = inr (inr refl)

err_ok : (outcome : Outcome) (told : UploadMoments) → Err outcome ≡ Ok told → ⊥
err_ok outcome told is = grind (arith, is)

same_told : (one other : UploadMoments) → (let going : Result UploadMoments Outcome = Ok one in going ≡ Ok other) → one ≡ other
same_told one other is = grind (arith, is)

module _ {kind : WireKind} (spares : Bool) (ids : Ids) (moment : ℤ) (before left : Keeping) (was : Line kind) where
  abbrev Asks : Line kind → Outcome → Type 0
  Asks now outcome = (asked : List Ask) × MayAsk (upload_errand spares before left) ids moment asked was now outcome

  -- the keeper refused before it was asked
  pub not_asked : (fault : KeepFault) → Asks was (outcome_at (keep_stop fault))
  not_asked fault = ([], inl (record { none = refl; same = refl }, by_fault before fault))

  module _ (now : Line kind) (sound : WhereTold before (λ h. first_fault h.rows ≡ None)) (mid : Keeping) where
    asks_once : (result : Result UploadMoments Outcome) (sends : SendsOnce ids moment (marked_here before) mid was now result) (outcome : Outcome)
        → ((why : Unanswered) → sends.answer ≡ Err why → outcome ≡ outcome_at (wire_stop why))
        → ((told : UploadMoments) → sends.answer ≡ Ok told → UploadEnds spares before left (asks.Upload sends.whole) told outcome)
        → Asks now outcome
    asks_once result sends outcome refused granted = (
      asks.Upload sends.whole ∷ [],
      inr (record {
        ask = asks.Upload sends.whole;
        may = record {
          whole = sends.whole;
          is = refl;
          sound = sound;
          sent = unmarked_told (λ h. IfSome (collection_of h) (λ (c : Collection). sends.whole ≡ whole_to_send c)) before sends.sent;
        };
        only = refl;
        answer = sends.answer;
        heard = sends.heard;
        ends = by sends.answer refl;
      }),
    )
      where
        by : (answer : Result UploadMoments Unanswered) → sends.answer ≡ answer
            → TransferEnds (upload_errand spares before left) (asks.Upload sends.whole) answer outcome
        by (Err why) is = refused why is
        by (Ok told) is = granted told is

    -- it was not granted
    pub stopped : (outcome : Outcome) → Sends ids moment (marked_here before) mid was now (Err outcome) → Asks now outcome
    stopped outcome (inl (same, (fault, is))) =
        subst (λ (line : Line kind). Asks line outcome) (sym same)
        (subst (λ (o : Outcome). Asks was o) (sym is) (not_asked fault))
    stopped outcome (inr sends) =
        asks_once (Err outcome) sends outcome
        (λ why so. same_err {T = UploadMoments} outcome (outcome_at (wire_stop why)) (sends.came ∙ ap wired so))
        (λ told so. absurd (err_ok outcome told (sends.came ∙ ap wired so)))

    module _ (told : UploadMoments) where
      told_once : (sends : SendsOnce ids moment (marked_here before) mid was now (Ok told)) (outcome : Outcome)
          → ((whole : Whole) → mid ≡ prepared whole (marked_here before) → UploadEnds spares before left (asks.Upload whole) told outcome) → Asks now outcome
      told_once sends outcome ends =
          asks_once (Ok told) sends outcome (λ why so. absurd (err_ok (outcome_at (wire_stop why)) told (sym (sends.came ∙ ap wired so))))
          (λ own so. subst (λ (m : UploadMoments). UploadEnds spares before left (asks.Upload sends.whole) m outcome)
          (same_told told own (sends.came ∙ ap wired so)) (ends sends.whole sends.put))

      -- it was granted, and the keeper refused to keep it
      pub unkept : (fault : KeepFault) → (spares ≡ true → fault ≢ faults.Memory) → Sends ids moment (marked_here before) mid was now (Ok told)
          → Asks now (outcome_at (keep_stop fault))
      unkept fault spared (inl (same, is)) = absurd is
      unkept fault spared (inr sends) = told_once sends (outcome_at (keep_stop fault)) (λ whole put. by whole fault spared)
        where
          spared_not : (b : Bool) → (b ≡ true → (let memory : KeepFault = faults.Memory in memory ≢ faults.Memory)) → b ≡ false
          spared_not true never = absurd (never refl refl)
          spared_not false never = refl

          by : (whole : Whole) (f : KeepFault) → (spares ≡ true → f ≢ faults.Memory) → UploadEnds spares before left (asks.Upload whole) told (outcome_at (keep_stop f))
          by whole faults.Failed never = inr (inl refl)
          by whole faults.Memory never = inr (inr (refl, spared_not spares never))

      -- it is finished
      pub kept : Sends ids moment (marked_here before) mid was now (Ok told)
          → left ≡ committed (moments_set told.moment told.schema (pos 0 +ℤ pos 1) told.moment mid) → Asks now outcomes.Finished
      kept (inl (same, is)) commits = absurd is
      kept (inr sends) commits =
          told_once sends outcomes.Finished
          (λ whole put. inl (
            whole,
            refl,
            refl,
            commits
                ∙ ap (λ (k : Keeping). committed (moments_set told.moment told.schema (pos 0 +ℤ pos 1) told.moment k)) put
                ∙ prepared_told whole told before,
          ))

-- the device's own rows stop it
pub rows_stop : (before : Keeping) (outcome : Outcome) → ((fault : KeepFault) × (outcome ≡ outcome_at (keep_stop fault)))
    ⊎ ((fault : CheckFault) × (outcome ≡ outcomes.OwnCheck fault) × WhereTold before (λ h. first_fault h.rows ≡ Some fault)) → StopsUpload before outcome
rows_stop before outcome (inl (fault, is)) = subst (StopsUpload before) (sym is) (by_fault before fault)
rows_stop before outcome (inr (fault, is, unsound)) = inl (fault, is, unsound)

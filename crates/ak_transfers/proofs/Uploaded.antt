-- What an upload leaves on the server and on the device.
use Rattle.std.specs.List.{AllByRecursion}
use Rattle.std.specs.Prelude.{◌≡◌, ◌&&◌, ℤ, Bool, true, false, if◌then◌else◌, List, [], ◌∷◌, ◌++◌, Option, Some, None, Result, Ok, Err, IfOk, ◌⊎◌}
use Rattle.std.proofs.Common.{refl, sym, ap, subst, ◌∙◌, inl, inr, arith}
use Rattle.std.proofs.lemmas.Option.{none-some, same_Some}
use Rattle.ak_base.specs.declared.heads.Head.{Head}
use Rattle.ak_client.specs.Greetings.{IsMetOver, clock_stop, meta_of}
use Rattle.ak_client.specs.Syncs.{world_at}
use Rattle.ak_client.specs.declared.outcomes.Outcome.{Outcome}
use Rattle.ak_client.specs.declared.outcomes.Outcome.TheVariants as outcomes
use Rattle.ak_exchange.proofs.Asking as asking
use Rattle.ak_exchange.proofs.Asking.{CommitsOnce, commit_call}
use Rattle.ak_exchange.specs.Asked.{asker, request_at}
use Rattle.ak_exchange.specs.Phases.{holding}
use Rattle.ak_exchange.specs.Stops.{wire_stop}
use Rattle.ak_exchange.specs.declared.envelopes.Ids.{Ids}
use Rattle.ak_exchange.specs.declared.stops.Stop.TheVariants as stops
use Rattle.ak_keep.proofs.RowsByName.{named-get}
use Rattle.ak_keep.specs.Collections.{Collection, rows_of}
use Rattle.ak_keep.specs.Keepers.{IsNamedRightly, Keeping, WhereHeld}
use Rattle.ak_merge.specs.Commits.{uploaded_rows}
use Rattle.ak_merge.specs.Edits.{second_of}
use Rattle.ak_merge.specs.Holdings.{AreNamed, row_under}
use Rattle.ak_messages.specs.declared.requests.Ask.{Ask}
use Rattle.ak_messages.specs.declared.requests.Ask.TheVariants as asks
use Rattle.ak_messages.specs.declared.requests.Request.{Request}
use Rattle.ak_messages.specs.declared.requests.Whole.{Whole}
use Rattle.ak_protocol.proofs.Syncs.{events_keep_syncs, syncs_are_held, unused_keys_commit_nothing}
use Rattle.ak_protocol.specs.Accounts.{AccountState}
use Rattle.ak_protocol.specs.Logs.{Event, Commit, Log, Grows, commits_of, with_growth}
use Rattle.ak_protocol.specs.Serving.{commit_reply}
use Rattle.ak_protocol.specs.Sessions.{IsOnlyCommit}
use Rattle.ak_protocol.specs.Syncs.{IsUnderWay, IsUnused}
use Rattle.ak_session.proofs.CommitLaws.{uploads_replace}
use Rattle.ak_session.proofs.UploadLaws.{upload_rows, upload_tags}
use Rattle.ak_session.specs.Asks.{asks_of}
use Rattle.ak_session.specs.Closings.{closed_by, of_upload}
use Rattle.ak_session.specs.Contents.{closed}
use Rattle.ak_session.specs.Plans.{Asker, requests_from}
use Rattle.ak_session.specs.Uploads.{whole_to_send}
use Rattle.ak_transfers.proofs.Logs.{Met, carried, clocks_unfinished, grew_on, grew_once, met_by, met_in, met_said, one_log, other_than_finished, unfinished, unused_later}
use Rattle.ak_transfers.specs.Forms.{uploaded_in}
use Rattle.ak_transfers.specs.Greetings.{Line, TransferOutside}
use Rattle.ak_transfers.specs.Transfers.{AsksNothing, AsksOnce, Continues, Follows, Grew, HoldsLater, HoldsUpload, IsTransfer, IsUploaded, MayTransfer, StopsUpload, TransferEnds, UploadEnds, Uploaded, UploadsAtMostOnce, UploadsTold, put_in_place, upload_errand}
use Rattle.ak_transfers.specs.UploadParts.{uploaded_device_head}
use Rattle.ak_transfers.specs.declared.asks.UploadMoments.{UploadMoments}
use Rattle.ak_client_wire.specs.Forms.{is_moment}
use Rattle.ak_client_wire.specs.Tries.{Answered}
use Rattle.ak_client_wire.specs.declared.asks.Unanswered.{Unanswered}
use Rattle.ak_client_wire.specs.declared.wires.MetaSaid.{MetaSaid}
use Rattle.ak_client_wire.specs.Wires.{WireKind}

-- ---- what is committed
each_place : (P : Request → Type 0) (before : List Request) (request : Request) (after : List Request)
    → AllByRecursion P (before ++ request ∷ after) → P request
each_place P [] request after all = all.0
each_place P (first ∷ more) request after all = each_place P more request after all.1

-- an upload of what a device sends
holds_upload : (c s : Collection) (accepted : List Request) (request : Request) (now : ℤ) → AreNamed (row_under c)
    → request.ask ≡ asks.Upload (whole_to_send c) → HoldsUpload c s (closed s accepted request now)
holds_upload c s accepted request now named is = record {
  replaces = uploads_replace s accepted request (whole_to_send c) now is;
  rows = λ name. upload_rows c s accepted request now name named is;
  tags = λ name. upload_tags c s accepted request now name is;
}

closed_upload : (s : Collection) (accepted : List Request) (request : Request) (whole : Whole) (now : ℤ) → request.ask ≡ asks.Upload whole
    → closed s accepted request now ≡ of_upload s whole now
unfolding closed
closed_upload s accepted request whole now is = ap (λ (ask : Ask). closed_by s (asks_of accepted) ask now) is

-- ---- the moments that the reply tells
same_if : (b : Bool) (own told : UploadMoments) → (if b then Some own else None) ≡ Some told → own ≡ told
same_if true own told is = same_Some own told is
same_if false own told is = absurd (none-some told is)

moments_told : (head : Head) (whole : Whole) (told : UploadMoments) → uploaded_in (commit_reply (asks.Upload whole) head).give ≡ Some told
    → record { moment = head.moment; schema = head.schema } ≡ told
moments_told head whole told is =
    same_if (is_moment head.moment && is_moment head.schema) (record { moment = head.moment; schema = head.schema }) told is

-- what the device holds then: what was committed, with the last sync at its moment
abbrev copy_of : Collection → Collection
copy_of after = record { rows = after.rows; head = record after.head { last_sync = after.head.moment } }

held_copy : (before left : Keeping) (c s after : Collection) (whole : Whole) (told : UploadMoments) (now : ℤ) → before ≡ holding c
    → after ≡ of_upload s whole now → record { moment = after.head.moment; schema = after.head.schema } ≡ told
    → left ≡ put_in_place (uploaded_rows whole.rows) (uploaded_device_head whole told) before
    → left ≡ holding (copy_of after)
held_copy before left c s after whole told now holds closes tells is =
    is
    ∙ ap (put_in_place (uploaded_rows whole.rows) (uploaded_device_head whole told)) holds
    ∙ ap (λ (m : UploadMoments). holding (record { rows = rows_of (uploaded_rows whole.rows); head = uploaded_device_head whole m })) (sym tells)
    ∙ ap (λ (t : Collection). holding (record {
      rows = rows_of (uploaded_rows whole.rows);
      head = uploaded_device_head whole (record { moment = t.head.moment; schema = t.head.schema });
    })) closes
    ∙ ap (λ (t : Collection). holding (copy_of t)) (sym closes)

-- ---- an upload that asked nothing more than its meta
module _ (who : Asker) (c : Collection) (account : AccountState) (old now : Log) (left : Keeping) (outcome : Outcome) (asked : List Ask)
    (none : asked ≡ []) (growth : List Event) (grew : Grew who account old now growth)
    (unused : IsUnused who.host.digits who.session.0 account now) (never : outcome ≡ outcomes.Finished → ⊥) where
  pub unasked : Uploaded who asked c account old now left outcome
  unasked = record {
    growth = growth;
    grew = grew;
    base = c;
    at_meta = inl none;
    asks = inl none;
    shown = inl (none, unused);
    unasked = λ is. unused_keys_commit_nothing who.host.digits who.session.0 account now unused;
    once = subst (λ (list : List Ask). HoldsLater who c list account now (UploadsAtMostOnce who.session.0 c c)) (sym none)
        (λ later timely own. inl (unused_later who account now unused c.head.moment later own));
    finished = λ is. absurd (never is);
  }

-- ---- an upload that asked
cons_nil : (ask : Ask) → ask ∷ [] ≡ [] → ⊥
cons_nil ask is = grind (arith, is)

unkept : (outcome : Outcome) → outcome ≡ outcomes.Keep → outcome ≡ outcomes.Finished → ⊥
unkept outcome is finished = unfinished outcome stops.Keep is finished

unmade : (outcome : Outcome) → outcome ≡ outcomes.Memory → outcome ≡ outcomes.Finished → ⊥
unmade outcome is finished = unfinished outcome stops.Memory is finished

module _ {kind : WireKind} (ids : Ids) (c : Collection) (account : AccountState) (old mid now : Log) (before left : Keeping) (outcome : Outcome)
    (holds : before ≡ holding c) (named : AreNamed (row_under c)) (s : Collection) (over : IsMetOver (asker ids) account old mid s)
    (spares : Bool) (was is : Line kind) (whole : Whole) (whole_is : whole ≡ whole_to_send c) (answer : Result UploadMoments Unanswered)
    (heard : Answered was.health is.health was.wire is.wire (request_at (asker ids) s.head.moment 1 (asks.Upload whole)) uploaded_in answer)
    (ends : TransferEnds (upload_errand spares before left) (asks.Upload whole) answer outcome)
    (told_mid : was.wire.log ≡ Some mid) (told_now : is.wire.log ≡ Some now)
    (grows : Grows mid now (request_at (asker ids) s.head.moment 1 (asks.Upload whole)) heard.answer) where
  abbrev who : Asker
  who = asker ids

  abbrev plan : List Request
  plan = requests_from who s.head.moment 1 (asks.Upload whole ∷ [])

  abbrev Given : UploadMoments → Type 0
  Given told = (log : Log) × (is.wire.log ≡ Some log) × ((moment : ℤ) × (after : Collection)
      × CommitsOnce who account s [] (asks.Upload whole) log moment after
      × (uploaded_in (commit_reply (asks.Upload whole) after.head).give ≡ Some told))

  called : asking.IsShown who account s plan is.wire.log × IfOk answer Given
  called =
      commit_call who account s [] (asks.Upload whole) was.health is.health was.wire is.wire uploaded_in answer refl refl
      (mid, told_mid, over.under_way) heard

  under : IsUnderWay who.host.digits who.session.0 plan s account now
  under =
      subst (λ (log : Log). IsUnderWay who.host.digits who.session.0 plan s account log)
      (one_log is.wire.log called.0.0 now called.0.1 told_now) called.0.2

  holds_by : (accepted : List Request) (request : Request) (at : ℤ) → request.ask ≡ asks.Upload whole → HoldsUpload c s (closed s accepted request at)
  holds_by accepted request at asks_it =
      holds_upload c s accepted request at named (asks_it ∙ ap (λ (w : Whole). asks.Upload w) whole_is)

  at_most_once : (log : Log) → IsUnderWay who.host.digits who.session.0 plan s account log → UploadsAtMostOnce who.session.0 c s (world_at who account log).commits
  at_most_once log reached = by (world_at who account log).commits (syncs_are_held who.host.digits who.session.0 plan s account log reached).once
    where
      by : (past : List Commit) → (commits_of who.session.0 past ≡ []) ⊎ IsOnlyCommit who.session.0 plan s past → UploadsAtMostOnce who.session.0 c s past
      by past (inl none) = inl none
      by past (inr one) = inr (record {
        after = closed s one.asked.before one.request one.now;
        only = one.only;
        holds = holds_by one.asked.before one.request one.now
            (each_place (λ (request : Request). request.ask ≡ asks.Upload whole) one.asked.before one.request one.asked.after
            (subst (AllByRecursion (λ (request : Request). request.ask ≡ asks.Upload whole)) (sym one.asked.place) (refl, tt)));
      })

  finished_by : (told : UploadMoments) → Given told → left ≡ put_in_place (uploaded_rows whole.rows) (uploaded_device_head whole told) before
      → IsUploaded who c s account now left
  finished_by told given put =
      let once = given.2.2 in
      let at : ℤ = given.2.0 in
      let after : Collection = given.2.1 in
      let request : Request = request_at who s.head.moment 1 (asks.Upload whole) in
      record {
        committed = record {
          after = after;
          only = subst (λ (log : Log). commits_of who.session.0 (world_at who account log).commits ≡ record { key = who.session.0; before = s; after = after } ∷ [])
              (one_log is.wire.log given.0 now given.1 told_now) once.1;
          holds = subst (HoldsUpload c s) (sym once.0) (holds_by [] request at refl);
        };
        device = copy_of after;
        holds = held_copy before left c s after whole told at holds (once.0 ∙ closed_upload s [] request whole at refl)
            (moments_told after.head whole told given.2.3) put;
        copy = record { rows = refl; head = refl };
      }

  finishes : outcome ≡ outcomes.Finished → IsUploaded who c s account now left
  finishes finished = by answer ends called.1
    where
      by_end : (told : UploadMoments) → UploadEnds spares before left (asks.Upload whole) told outcome → Given told → IsUploaded who c s account now left
      by_end told (inl (own, same, done, put)) given =
          finished_by told given
          (put ∙ ap (λ (w : Whole). put_in_place (uploaded_rows w.rows) (uploaded_device_head w told) before) (sym (same_upload whole own same)))
        where
          same_upload : (one other : Whole) → asks.Upload one ≡ asks.Upload other → one ≡ other
          same_upload one other is = grind (arith, is)
      by_end told (inr (inl kept)) given = absurd (unkept outcome kept finished)
      by_end told (inr (inr (memory, spared))) given = absurd (unmade outcome memory finished)

      by : (result : Result UploadMoments Unanswered) → TransferEnds (upload_errand spares before left) (asks.Upload whole) result outcome → IfOk result Given
          → IsUploaded who c s account now left
      by (Ok told) end given = by_end told end given
      by (Err why) end given = absurd (unfinished outcome (wire_stop why) end finished)

  pub asked_once : Uploaded who (asks.Upload whole ∷ []) c account old now left outcome
  asked_once = record {
    growth = (over.front ++ over.rest) ++ grows.growth;
    grew = grew_on who account old mid now s over (request_at who s.head.moment 1 (asks.Upload whole)) heard.answer grows;
    base = s;
    at_meta = inr (met_in who account old mid now s over (request_at who s.head.moment 1 (asks.Upload whole)) heard.answer grows);
    asks = inr (ap (λ (w : Whole). asks.Upload w ∷ []) whole_is);
    shown = inr (refl, under);
    unasked = λ none. absurd (cons_nil (asks.Upload whole) none);
    once = λ later timely own.
        at_most_once (with_growth now later) (events_keep_syncs who.host.digits who.session.0 plan s account now under later own);
    finished = finishes;
  }

-- ---- an upload
stopped_unfinished : (before : Keeping) (outcome : Outcome) → StopsUpload before outcome → outcome ≡ outcomes.Finished → ⊥
stopped_unfinished before outcome (inl (fault, is, unsound)) finished = other_than_finished outcome (outcomes.OwnCheck fault) (λ so. grind (arith, so)) is finished
stopped_unfinished before outcome (inr (inl is)) finished = unkept outcome is finished
stopped_unfinished before outcome (inr (inr is)) finished = unmade outcome is finished

named_by : (c : Collection) (before : Keeping) → before ≡ holding c → IsNamedRightly before → AreNamed (row_under c)
named_by c before holds named =
    let known : IsNamedRightly (holding c) = subst IsNamedRightly holds named in
    λ name row at. named-get c.rows name row known.current at

module _ {kind : WireKind} (spares : Bool) (ids : Ids) (before left : Keeping) (was now : TransferOutside kind) (outcome : Outcome) (asked : List Ask)
    (it : IsTransfer (upload_errand spares before left) ids asked was now outcome) (named : IsNamedRightly before) where
  abbrev device_of : Asker
  device_of = asker ids

  abbrev LeavesIt : Log → Type 0
  LeavesIt old = (new : Log) × (now.line.wire.log ≡ Some new) × ((c : Collection) (account : AccountState) → before ≡ holding c
      → MayTransfer device_of account old → Uploaded device_of asked c account old new left outcome)

  module _ (old : Log) (told : was.line.wire.log ≡ Some old) where
    met : (mid : Log) × (it.met.wire.log ≡ Some mid) × Grows old mid (meta_of ids) it.meta.answer
    met = carried was.line.wire.log it.met.wire.log (meta_of ids) it.meta.answer old told it.meta.tried.carries

    met_here : (account : AccountState) → MayTransfer device_of account old → Met ids account old met.0 it.answer
    met_here account may =
        met_by ids account old met.0 was.line.health it.met.health was.line.wire it.met.wire it.answer may.unused told met.1 it.meta

    nothing : AsksNothing asked it.met now.line → (outcome ≡ outcomes.Finished → ⊥) → LeavesIt old
    nothing none never = (
      met.0,
      ap (λ (line : Line kind). line.wire.log) none.same ∙ met.1,
      λ c account holds may.
          unasked device_of c account old met.0 left outcome asked none.none met.2.growth
          (grew_once device_of account old met.0 (meta_of ids) it.meta.answer met.2) (met_here account may).unused never,
    )

    once : (said : MetaSaid) → it.answer ≡ Ok said → AsksOnce (upload_errand spares before left) ids said.moment asked it.met now.line outcome
        → LeavesIt old
    once said is asks_it = (
      second.0,
      second.1,
      λ c account holds may.
          let over = met_said ids account old met.0 it.answer said is (met_here account may) in
          let whole_is : asks_it.may.whole ≡ whole_to_send c =
          subst (λ (k : Keeping). WhereHeld k (λ (d : Collection). asks_it.may.whole ≡ whole_to_send d)) holds asks_it.may.sent in
          subst (λ (list : List Ask). Uploaded device_of list c account old second.0 left outcome) (sym (asks_it.only ∙ ap (λ (ask : Ask). ask ∷ []) asks_it.may.is))
          (by c account holds over.0 over.1 whole_is asks_it.ask asks_it.may.is said.moment over.2.moment asks_it.heard asks_it.ends second.2),
    )
      where
        second : (new : Log) × (now.line.wire.log ≡ Some new) × Grows met.0 new (request_at device_of said.moment 1 asks_it.ask) asks_it.heard.answer
        second = carried it.met.wire.log now.line.wire.log (request_at device_of said.moment 1 asks_it.ask) asks_it.heard.answer met.0 met.1 asks_it.heard.tried.carries

        by : (c : Collection) (account : AccountState) → before ≡ holding c → (s : Collection) → IsMetOver device_of account old met.0 s
            → asks_it.may.whole ≡ whole_to_send c → (ask : Ask) → ask ≡ asks.Upload asks_it.may.whole → (moment : ℤ) → moment ≡ s.head.moment
            → (heard : Answered it.met.health now.line.health it.met.wire now.line.wire (request_at device_of moment 1 ask) uploaded_in asks_it.answer)
            → TransferEnds (upload_errand spares before left) ask asks_it.answer outcome
            → Grows met.0 second.0 (request_at device_of moment 1 ask) heard.answer
            → Uploaded device_of (asks.Upload asks_it.may.whole ∷ []) c account old second.0 left outcome
        by c account holds s over whole_is ask ask_is moment moment_is =
            subst (λ (a : Ask). (heard : Answered it.met.health now.line.health it.met.wire now.line.wire (request_at device_of moment 1 a) uploaded_in asks_it.answer)
            → TransferEnds (upload_errand spares before left) a asks_it.answer outcome
            → Grows met.0 second.0 (request_at device_of moment 1 a) heard.answer
            → Uploaded device_of (asks.Upload asks_it.may.whole ∷ []) c account old second.0 left outcome) (sym ask_is)
            (subst (λ (m : ℤ). (heard : Answered it.met.health now.line.health it.met.wire now.line.wire (request_at device_of m 1 (asks.Upload asks_it.may.whole)) uploaded_in asks_it.answer)
            → TransferEnds (upload_errand spares before left) (asks.Upload asks_it.may.whole) asks_it.answer outcome
            → Grows met.0 second.0 (request_at device_of m 1 (asks.Upload asks_it.may.whole)) heard.answer
            → Uploaded device_of (asks.Upload asks_it.may.whole ∷ []) c account old second.0 left outcome) (sym moment_is)
            (λ heard ends grows.
            asked_once ids c account old met.0 second.0 before left outcome holds (named_by c before holds named) s over spares it.met now.line
            asks_it.may.whole whole_is asks_it.answer heard ends met.1 second.1 grows))

    goes : (said : MetaSaid) → it.answer ≡ Ok said → (second : ℤ) (o : Option Outcome) → clock_stop said second ≡ o
        → Continues (upload_errand spares before left) ids said o asked it.met now.line outcome → LeavesIt old
    goes said is second (Some why) so (none, ends) = nothing none (clocks_unfinished outcome why said second so ends)
    goes said is second None so (inl (none, stops_it)) = nothing none (stopped_unfinished before outcome stops_it)
    goes said is second None so (inr asks_it) = once said is asks_it

    leaves : LeavesIt old
    leaves = by it.answer refl it.follows
      where
        by : (answer : Result MetaSaid Unanswered) → it.answer ≡ answer
            → Follows (upload_errand spares before left) ids answer asked (record was { line = it.met }) now outcome → LeavesIt old
        by (Err why) is (none, still, ends) = nothing none (unfinished outcome (wire_stop why) ends)
        by (Ok said) is (at, given, follows) = goes said is (second_of at) (clock_stop said (second_of at)) refl follows

  -- what an upload makes of what keeper and wire tell
  pub uploads_told : UploadsTold ids asked before left was.line.wire.log now.line.wire.log outcome
  uploads_told old told = leaves old told

-- What a download leaves on the server and on the device.
use Rattle.std.specs.FinMap.{entries, from_entries, get-entries, get-from_entries, same_map}
use Rattle.std.specs.List.{AllByRecursion}
use Rattle.std.specs.Prelude.{◌≡◌, ◌==◌, ℕ, ℤ, Bool, true, false, if◌then◌else◌, List, [], ◌∷◌, ◌++◌, map, Option, Some, None, Result, Ok, Err, ok_or}
use Rattle.std.proofs.Common.{refl, sym, ap, subst, ◌∙◌, inl, inr, append_assoc, arith}
use Rattle.std.proofs.lemmas.Option.{same_Some}
use Rattle.ak_base.proofs.NameOrder.{names_exact}
use Rattle.ak_base.specs.Names.{name_cmp, names_total}
use Rattle.ak_base.specs.Rows.{name_of}
use Rattle.ak_base.specs.declared.names.Name.{Name}
use Rattle.ak_base.specs.declared.rows.Row.{Row}
use Rattle.ak_client.proofs.Fates.{plain_commits_nothing}
use Rattle.ak_client.proofs.Growing.{lawful_grown, timely_growth}
use Rattle.ak_client.specs.Greetings.{IsMetOver, clock_stop, meta_of}
use Rattle.ak_client.specs.Syncs.{world_at}
use Rattle.ak_client.specs.declared.outcomes.Outcome.{Outcome}
use Rattle.ak_client.specs.declared.outcomes.Outcome.TheVariants as outcomes
use Rattle.ak_exchange.specs.Asked.{asker, request_at}
use Rattle.ak_exchange.specs.Phases.{holding}
use Rattle.ak_exchange.specs.Stops.{wire_stop}
use Rattle.ak_exchange.specs.declared.envelopes.Ids.{Ids}
use Rattle.ak_exchange.specs.declared.stops.Stop.TheVariants as stops
use Rattle.ak_keep.proofs.RowsByName.{all_from_gets}
use Rattle.ak_keep.specs.Collections.{Collection, Rows, StandsUnderNames, rows_of}
use Rattle.ak_keep.specs.Keepers.{Keeping}
use Rattle.ak_merge.specs.Commits.{IsCommitted}
use Rattle.ak_merge.specs.Edits.{second_of}
use Rattle.ak_messages.specs.declared.replies.Reply.{Reply}
use Rattle.ak_messages.specs.declared.requests.Ask.{Ask}
use Rattle.ak_messages.specs.declared.requests.Ask.TheVariants as asks
use Rattle.ak_messages.specs.declared.requests.Request.{Request}
use Rattle.ak_messages.specs.declared.requests.Whole.{Whole}
use Rattle.ak_protocol.proofs.Calls.{calls_tell, syncs_ask_more}
use Rattle.ak_protocol.proofs.Syncs.{all_append, all_front, calls_keep_syncs, events_keep_syncs}
use Rattle.ak_protocol.specs.Accounts.{AccountState}
use Rattle.ak_protocol.specs.LawfulServers.{IsLawfulAccount}
use Rattle.ak_protocol.specs.Logs.{Event, Asked, Log, Grows, IsTimely, commits_of, with_growth}
use Rattle.ak_protocol.specs.Replies.{download_reply, whole_of}
use Rattle.ak_protocol.specs.Sessions.{IsAsked}
use Rattle.ak_protocol.specs.Syncs.{IsUnderWay, IsUnused}
use Rattle.ak_session.specs.Plans.{Asker}
use Rattle.ak_transfers.proofs.Logs.{Met, carried, clocks_unfinished, grew_on, grew_once, grown_twice, met_by, met_said, unfinished, unused_later}
use Rattle.ak_transfers.specs.Forms.{downloaded_head, whole_in}
use Rattle.ak_transfers.specs.Greetings.{Line, TransferOutside}
use Rattle.ak_transfers.specs.Transfers.{AsksNothing, AsksOnce, Continues, DownloadEnds, Downloaded, DownloadsTold, Follows, Grew, HoldsLater, IsDownloaded, IsServedOver, IsTransfer, MayTransfer, TransferEnds, download_errand, put_in_place}
use Rattle.ak_client_wire.specs.Tries.{granted_in, in_form}
use Rattle.ak_client_wire.specs.declared.asks.Unanswered.{Unanswered}
use Rattle.ak_client_wire.specs.declared.asks.Unanswered.TheVariants as unanswered
use Rattle.ak_client_wire.specs.declared.wires.MetaSaid.{MetaSaid}
use Rattle.ak_client_wire.specs.declared.wires.WireEnd.{WireEnd}
use Rattle.ak_client_wire.specs.declared.wires.WireEnd.TheVariants as ends
use Rattle.ak_client_wire.specs.Wires.{WireKind}

-- ---- the rows of a collection, put in place again
abbrev listed : Rows → List Row
listed rows = map (λ (entry : Name × Row). entry.1) (entries rows)

named_again : (es : List (Name × Row)) → AllByRecursion (λ (entry : Name × Row). name_of entry.1 ≡ entry.0) es
    → map (λ (row : Row). (name_of row, row)) (map (λ (entry : Name × Row). entry.1) es) ≡ es
named_again [] named = refl
named_again (e ∷ es) named =
    ap (λ (name : Name). (name, e.1) ∷ map (λ (row : Row). (name_of row, row)) (map (λ (entry : Name × Row). entry.1) es)) named.0
    ∙ ap (λ (fs : List (Name × Row)). e ∷ fs) (named_again es named.1)

made_again : (rows : Rows) → StandsUnderNames rows → rows_of (listed rows) ≡ rows
made_again rows named =
    ap (λ (es : List (Name × Row)). from_entries {R = name_cmp} es) (named_again (entries rows) named)
    ∙ same_map names_total names_exact (from_entries (entries rows)) rows
    (λ q. get-from_entries names_total (entries rows) q ∙ sym (get-entries rows q))

-- what the device holds then: what was committed, with the last sync at its moment
abbrev copy_of : Collection → Collection
copy_of base = record { rows = base.rows; head = record base.head { last_sync = base.head.moment } }

held_copy : (before left : Keeping) (c base : Collection) (whole : Whole) → before ≡ holding c → IsCommitted base → whole_of base ≡ whole
    → left ≡ put_in_place whole.rows (downloaded_head whole) before → left ≡ holding (copy_of base)
held_copy before left c base whole holds lawful same is =
    is
    ∙ ap (put_in_place whole.rows (downloaded_head whole)) holds
    ∙ ap (λ (w : Whole). holding (record { rows = rows_of w.rows; head = downloaded_head w })) (sym same)
    ∙ ap (λ (rows : Rows). holding (record { rows = rows; head = (copy_of base).head }))
    (made_again base.rows (all_from_gets (λ (entry : Name × Row). name_of entry.1 ≡ entry.0) base.rows lawful.named))

-- ---- what the reply tells
is_200 : (status : ℕ) → (status == 200) ≡ true → status ≡ 200
is_200 status is = grind (arith, is)

-- a granted answer is a reply with status 200 that gives the whole collection
pub record Gives (answer : Result Reply WireEnd) (whole : Whole) : Type 0 where
  pub reply : Reply
  pub is : answer ≡ Ok reply
  pub status : reply.status ≡ 200
  pub gives : whole_in reply.give ≡ Some whole

same_ok : (one other : Whole) → (let granted : Result Whole Unanswered = Ok one in granted ≡ Ok other) → one ≡ other
same_ok one other is = grind (arith, is)

err_ok : (why : Unanswered) (whole : Whole) → Err why ≡ Ok whole → ⊥
err_ok why whole is = grind (arith, is)

formed : (o : Option Whole) (whole : Whole) → ok_or o unanswered.BadReply ≡ Ok whole → o ≡ Some whole
formed None whole is = absurd (err_ok unanswered.BadReply whole is)
formed (Some own) whole is = ap (λ (w : Whole). Some w) (same_ok own whole is)

pub gives_whole : (answer : Result Reply WireEnd) (whole : Whole) → in_form whole_in (granted_in answer) ≡ Ok whole → Gives answer whole
gives_whole (Ok reply) whole is = by (reply.status == 200) refl is
  where
    by : (b : Bool) → (reply.status == 200) ≡ b
        → in_form whole_in (if b then Ok reply.give else Err (unanswered.Refused reply.status reply.word reply.seen)) ≡ Ok whole → Gives (Ok reply) whole
    by true ok so = record { reply = reply; is = refl; status = is_200 reply.status ok; gives = formed (whole_in reply.give) whole so }
    by false ok so = absurd (err_ok (unanswered.Refused reply.status reply.word reply.seen) whole so)
gives_whole (Err ends.Failed) whole is = absurd (err_ok unanswered.Lost whole is)
gives_whole (Err ends.BadReply) whole is = absurd (err_ok unanswered.BadReply whole is)
gives_whole (Err ends.Memory) whole is = absurd (err_ok unanswered.Memory whole is)

-- ---- a download that asked nothing more than its meta
pub unasked : (who : Asker) (c : Collection) (account : AccountState) (old now : Log) (left : Keeping) (outcome : Outcome) (asked : List Ask)
    → asked ≡ [] → (growth : List Event) → Grew who account old now growth
    → IsUnused who.host.digits who.session.0 account now → (outcome ≡ outcomes.Finished → ⊥) → Downloaded who asked account old now left outcome
unasked who c account old now left outcome asked none growth grew unused never = record {
  growth = growth;
  grew = grew;
  base = c;
  shown = inl (none, unused);
  never = subst (λ (list : List Ask). HoldsLater who c list account now (λ past. commits_of who.session.0 past ≡ [])) (sym none)
      (λ later timely own. unused_later who account now unused c.head.moment later own);
  finished = λ is. absurd (never is);
}

-- ---- a download that asked
module _ (ids : Ids) (c : Collection) (account : AccountState) (old mid now : Log) (before left : Keeping) (outcome : Outcome)
    (holds : before ≡ holding c) (lawful : IsLawfulAccount (world_at (asker ids) account old).state)
    (s : Collection) (over : IsMetOver (asker ids) account old mid s) (answer : Result Whole Unanswered) (reply : Result Reply WireEnd)
    (came : answer ≡ in_form whole_in (granted_in reply))
    (ends_it : TransferEnds (download_errand before left) asks.Download answer outcome)
    (grows : Grows mid now (request_at (asker ids) s.head.moment 1 asks.Download) reply) where
  abbrev who : Asker
  who = asker ids

  abbrev request : Request
  request = request_at who s.head.moment 1 asks.Download

  abbrev plan : List Request
  plan = request ∷ []

  abbrev asked_here : IsAsked plan s.head.moment request
  asked_here = record { before = []; after = []; place = refl; step = refl; base_is = refl }

  abbrev going : IsUnderWay who.host.digits who.session.0 plan s account mid
  going = syncs_ask_more who.host.digits who.session.0 [] plan s account mid over.under_way

  under : IsUnderWay who.host.digits who.session.0 plan s account now
  under =
      subst (λ (log : Log). IsUnderWay who.host.digits who.session.0 plan s account log) (sym grows.grown)
      (calls_keep_syncs request account mid grows.growth grows.may plan s going (inr asked_here))

  module _ (one : Reply) (ok : one.status ≡ 200) (here : Grows {E = WireEnd} mid now request (Ok one)) where
    abbrev front : List Event
    front = (over.front ++ over.rest) ++ here.reply.before

    abbrev base : Collection
    base = (world_at who account (with_growth mid here.reply.before)).state.committed

    tells : one ≡ download_reply base
    tells =
        (calls_tell request account mid here.growth here.may one here.reply going.opening plan s going asked_here refl ok).reads refl

    mid_front : with_growth mid here.reply.before ≡ with_growth old front
    mid_front = grown_twice old mid (with_growth mid here.reply.before) (over.front ++ over.rest) here.reply.before over.grown refl

    front_timely : AllByRecursion IsTimely front
    front_timely =
        all_append IsTimely (over.front ++ over.rest) here.reply.before over.timely
        (all_front IsTimely here.reply.before (Asked request here.reply.now here.reply.setback ∷ here.reply.after)
        (subst (AllByRecursion IsTimely) (sym here.reply.place) (timely_growth mid.events request here.growth here.may)))

    base_lawful : IsCommitted base
    base_lawful =
        subst (λ (log : Log). IsCommitted (world_at who account log).state.committed) (sym mid_front)
        (lawful_grown who account old front front_timely lawful).committed

    served_over : IsServedOver who account old now base
    served_over = record {
      front = front;
      rest = here.reply.after;
      request = request;
      at = here.reply.now;
      setback = here.reply.setback;
      own = refl;
      ask = refl;
      grown =
          here.grown
          ∙ ap (λ (events : List Event). with_growth mid events) (sym here.reply.place)
          ∙ grown_twice old mid (with_growth mid (here.reply.before ++ Asked request here.reply.now here.reply.setback ∷ here.reply.after))
          (over.front ++ over.rest) (here.reply.before ++ Asked request here.reply.now here.reply.setback ∷ here.reply.after) over.grown refl
          ∙ ap (λ (events : List Event). with_growth old events)
          (sym (append_assoc (over.front ++ over.rest) here.reply.before (Asked request here.reply.now here.reply.setback ∷ here.reply.after)));
      place = ap (λ (log : Log). (world_at who account log).state.committed) (sym mid_front);
    }

    finished_by : (whole : Whole) → whole_in one.give ≡ Some whole → left ≡ put_in_place whole.rows (downloaded_head whole) before
        → IsDownloaded who account old now left
    finished_by whole given put = record {
      base = base;
      place = served_over;
      device = copy_of base;
      holds = held_copy before left c base whole holds base_lawful
          (same_Some (whole_of base) whole (ap (λ (r : Reply). whole_in r.give) (sym tells) ∙ given)) put;
      copy = record { rows = refl; head = refl };
    }

  finishes : outcome ≡ outcomes.Finished → IsDownloaded who account old now left
  finishes finished = by answer refl ends_it
    where
      by_end : (whole : Whole) → answer ≡ Ok whole → DownloadEnds before left asks.Download whole outcome → IsDownloaded who account old now left
      by_end whole is (inl (may, done, put)) =
          let given = gives_whole reply whole (sym came ∙ is) in
          finished_by given.reply given.status (subst (λ (r : Result Reply WireEnd). Grows mid now request r) given.is grows) whole given.gives put
      by_end whole is (inr (inl (not_held, bad))) = absurd (unfinished outcome stops.BadReply bad finished)
      by_end whole is (inr (inr (inl kept))) = absurd (unfinished outcome stops.Keep kept finished)
      by_end whole is (inr (inr (inr memory))) = absurd (unfinished outcome stops.Memory memory finished)

      by : (result : Result Whole Unanswered) → answer ≡ result → TransferEnds (download_errand before left) asks.Download result outcome
          → IsDownloaded who account old now left
      by (Ok whole) is end = by_end whole is end
      by (Err why) is end = absurd (unfinished outcome (wire_stop why) end finished)

  pub asked_once : Downloaded who (asks.Download ∷ []) account old now left outcome
  asked_once = record {
    growth = (over.front ++ over.rest) ++ grows.growth;
    grew = grew_on who account old mid now s over request reply grows;
    base = s;
    shown = inr (refl, under);
    never = λ later timely own.
        plain_commits_nothing who s account (asks.Download ∷ []) (with_growth now later) (refl, tt)
        (events_keep_syncs who.host.digits who.session.0 plan s account now under later own);
    finished = finishes;
  }

-- ---- a download
module _ {kind : WireKind} (ids : Ids) (before left : Keeping) (was now : TransferOutside kind) (outcome : Outcome) (asked : List Ask)
    (it : IsTransfer (download_errand before left) ids asked was now outcome) where
  abbrev device_of : Asker
  device_of = asker ids

  abbrev LeavesIt : Log → Type 0
  LeavesIt old = (new : Log) × (now.line.wire.log ≡ Some new) × ((c : Collection) (account : AccountState) → before ≡ holding c
      → MayTransfer device_of account old → Downloaded device_of asked account old new left outcome)

  module _ (old : Log) (told : was.line.wire.log ≡ Some old) where
    met : (mid : Log) × (it.met.wire.log ≡ Some mid) × Grows old mid (meta_of ids) it.meta.answer
    met = carried was.line.wire.log it.met.wire.log (meta_of ids) it.meta.answer old told it.meta.tried.carries

    met_here : (account : AccountState) → MayTransfer device_of account old → Met ids account old met.0 it.answer
    met_here account may =
        met_by ids account old met.0 was.line.health it.met.health was.line.wire it.met.wire it.answer may.unused told met.1 it.meta

    nothing : AsksNothing asked it.met now.line → (outcome ≡ outcomes.Finished → ⊥) → LeavesIt old
    nothing none never = (
      met.0,
      ap (λ (line : Line kind). line.wire.log) none.same ∙ met.1,
      λ c account holds may.
          unasked device_of c account old met.0 left outcome asked none.none met.2.growth
          (grew_once device_of account old met.0 (meta_of ids) it.meta.answer met.2) (met_here account may).unused never,
    )

    once : (said : MetaSaid) → it.answer ≡ Ok said → AsksOnce (download_errand before left) ids said.moment asked it.met now.line outcome
        → LeavesIt old
    once said is asks_it = (
      second.0,
      second.1,
      λ c account holds may.
          let over = met_said ids account old met.0 it.answer said is (met_here account may) in
          subst (λ (list : List Ask). Downloaded device_of list account old second.0 left outcome) (sym (asks_it.only ∙ ap (λ (ask : Ask). ask ∷ []) asks_it.may))
          (by c account holds may.lawful over.0 over.1 asks_it.ask asks_it.may said.moment over.2.moment asks_it.heard.answer asks_it.heard.came asks_it.ends second.2),
    )
      where
        second : (new : Log) × (now.line.wire.log ≡ Some new) × Grows met.0 new (request_at device_of said.moment 1 asks_it.ask) asks_it.heard.answer
        second = carried it.met.wire.log now.line.wire.log (request_at device_of said.moment 1 asks_it.ask) asks_it.heard.answer met.0 met.1 asks_it.heard.tried.carries

        by : (c : Collection) (account : AccountState) → before ≡ holding c → IsLawfulAccount (world_at device_of account old).state
            → (s : Collection) → IsMetOver device_of account old met.0 s → (ask : Ask) → ask ≡ asks.Download → (moment : ℤ) → moment ≡ s.head.moment
            → (reply : Result Reply WireEnd) → asks_it.answer ≡ in_form whole_in (granted_in reply)
            → TransferEnds (download_errand before left) ask asks_it.answer outcome
            → Grows met.0 second.0 (request_at device_of moment 1 ask) reply
            → Downloaded device_of (asks.Download ∷ []) account old second.0 left outcome
        by c account holds lawful s over ask ask_is moment moment_is reply came =
            subst (λ (a : Ask). TransferEnds (download_errand before left) a asks_it.answer outcome
            → Grows met.0 second.0 (request_at device_of moment 1 a) reply
            → Downloaded device_of (asks.Download ∷ []) account old second.0 left outcome) (sym ask_is)
            (subst (λ (m : ℤ). TransferEnds (download_errand before left) asks.Download asks_it.answer outcome
            → Grows met.0 second.0 (request_at device_of m 1 asks.Download) reply
            → Downloaded device_of (asks.Download ∷ []) account old second.0 left outcome) (sym moment_is)
            (λ end grows.
            asked_once ids c account old met.0 second.0 before left outcome holds lawful s over asks_it.answer reply came end grows))

    goes : (said : MetaSaid) → it.answer ≡ Ok said → (second : ℤ) (o : Option Outcome) → clock_stop said second ≡ o
        → Continues (download_errand before left) ids said o asked it.met now.line outcome → LeavesIt old
    goes said is second (Some why) so (none, end) = nothing none (clocks_unfinished outcome why said second so end)
    goes said is second None so (inl (none, stops_it)) = absurd stops_it
    goes said is second None so (inr asks_it) = once said is asks_it

    leaves : LeavesIt old
    leaves = by it.answer refl it.follows
      where
        by : (answer : Result MetaSaid Unanswered) → it.answer ≡ answer
            → Follows (download_errand before left) ids answer asked (record was { line = it.met }) now outcome → LeavesIt old
        by (Err why) is (none, still, end) = nothing none (unfinished outcome (wire_stop why) end)
        by (Ok said) is (at, given, follows) = goes said is (second_of at) (clock_stop said (second_of at)) refl follows

  -- what a download makes of what keeper and wire tell
  pub downloads_told : DownloadsTold ids asked before left was.line.wire.log now.line.wire.log outcome
  downloads_told old told = leaves old told

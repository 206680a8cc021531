-- What an account does, from what its keeper gave: a repeat, a refusal, and a request that is accepted.
use Rattle.std.specs.Option.{option_and_then, option_map, unwrap_or}
use Rattle.std.specs.Prelude.{◌≡◌, ℕ, ℤ, Bool, true, false, if◌then◌else◌, Option, Some, None, Result, Ok, IfSome, IfOk, IfErr, ⊤, ◌⊎◌}
use Rattle.std.proofs.Common.{refl, sym, ap, subst, ◌∙◌, inl, inr, arith}
use Rattle.ak_keep.specs.Collections.{Collection, collection_of}
use Rattle.ak_keep.specs.HeadNumbers.{AreNumbersInRange, numbered, numbers_of}
use Rattle.ak_keep.specs.Keepers.{IsNamedRightly, Keeping, WhereTold, back}
use Rattle.ak_keep.specs.declared.head_numbers.Numbers.{Numbers}
use Rattle.ak_keep.specs.declared.keepers.KeepFault.{KeepFault}
use Rattle.ak_keep.specs.declared.keepers.KeepFault.TheVariants.{Failed, Memory}
use Rattle.ak_messages.specs.declared.replies.Reply.{Reply}
use Rattle.ak_messages.specs.declared.requests.Ask.{Ask}
use Rattle.ak_messages.specs.declared.requests.Ask.TheVariants as asks
use Rattle.ak_messages.specs.declared.requests.Request.{Request}
use Rattle.ak_messages.specs.declared.requests.Whole.{Whole}
use Rattle.ak_protocol.proofs.Cases.{not_none}
use Rattle.ak_protocol.specs.Accounts.{KeptReply, given_again, is_repeat, repeated}
use Rattle.ak_protocol.specs.Replies.{Refusal, NoSession, Objected, PastBase, WrongStep, download_reply, keeper_failed, objected, out_of_memory, refused}
use Rattle.ak_protocol.specs.Serving.{Undisturbed}
use Rattle.ak_server.proofs.Keepings.{unmarked_tables}
use Rattle.ak_server.proofs.Outcomes.{done_if_accepted, done_if_refused}
use Rattle.ak_server.proofs.Passing.{AlikeNumbers, none_mapped, refusal_alike}
use Rattle.ak_server.proofs.Seeing.{for_some, numbered_same, numbers_alike, numbers_are, of_current, of_some, same_some, see}
use Rattle.ak_server.specs.Accounts.{AreGranted, IsKept, IsOver, IsRight, IsSameAccount, account_seen, committed_in, is_started, tables_in}
use Rattle.ak_server.specs.Servers.{DoesUndisturbed, IsTested, LeavesCommitted}
use Rattle.ak_server.specs.Serving.{Accepts, Does, FindsAgain, IsAccepted, IsDecided, IsGivenAgain, IsOnlyRead}
use Rattle.ak_server.specs.declared.accounts.Account.{Account}
use Rattle.ak_server_rules.specs.Decisions.{refusal_of, setback_reply}
use Rattle.ak_server_rules.specs.Serving.{Did, accepted, begun, by_repeat, does, unchanged}
use Rattle.ak_server_rules.specs.Sessions.{IsCounted, kept_seen, session_seen}
use Rattle.ak_server_rules.specs.Summaries.{AccountSummary, SessionSummary}
use Rattle.ak_server_rules.specs.declared.sessions.Kept.{Kept}
use Rattle.ak_server_rules.specs.declared.sessions.Session.{Session}
use Rattle.ak_server_steps.specs.Answers.{HasNumbers}
use Rattle.ak_server_steps.specs.declared.answers.Basis.{Basis}
use Rattle.ak_session.specs.Objections.{Objection, MayNotCome, WrongUsn, NoNumber, TooManyRows, WrongRow, WrongNewer}
use Rattle.ak_session.specs.Requests.{asks_commit, is_meta}

-- ---- an account that was only read
module _ {K : Type 0} (keeping : K → Keeping) (old new : Account K) (only : IsOnlyRead keeping old new) where
  pub live_read : new.live ≡ old.live
  live_read = ap (λ (a : Account K). a.live) only.rest

  pub kept_read : new.kept ≡ old.kept
  kept_read = ap (λ (a : Account K). a.kept) only.rest

  pub seen_read : account_seen keeping new ≡ account_seen keeping old
  seen_read =
      ap (account_seen keeping) only.rest
      ∙ ap (λ (k : Keeping). option_and_then (λ (committed : Collection). option_map (λ (tables : Collection). record {
        committed = committed;
        live = option_map (session_seen tables) old.live;
        kept = option_map kept_seen old.kept;
      }) (tables_in k)) (committed_in k)) only.keeper

  pub right_read : IsRight keeping old → IsRight keeping new
  right_read right = record {
    keeper = subst (λ (k : Keeping). IsKept k new.live) (sym only.keeper) (subst (λ (o : Option Session). IsKept (keeping old.keeper) o) (sym live_read) right.keeper);
    session = subst (λ (o : Option Session). IfSome o IsCounted) (sym live_read) right.session;
    told = λ c t over under. subst (λ (o : Option Session). IfSome o (λ live. IsOver live c t)) (sym live_read)
        (right.told c t (ap committed_in (sym only.keeper) ∙ over) (ap tables_in (sym only.keeper) ∙ under));
    granted = subst (λ (o : Option Kept). AreGranted o) (sym kept_read) right.granted;
    unread = subst (λ (o : Option Kept). IfSome o (λ kept. kept.reply ≡ None → is_started new.live ≡ false)) (sym kept_read)
        (subst (λ (l : Option Session). IfSome old.kept (λ kept. kept.reply ≡ None → is_started l ≡ false)) (sym live_read) right.unread);
  }

-- ---- repeats
pub repeated_not : (kept : KeptReply) (request : Request) → is_repeat kept request ≡ false → repeated (Some kept) request ≡ None
repeated_not kept request is = ap (λ (b : Bool). if b then Some kept else None) is

pub repeated_so : (kept : KeptReply) (request : Request) → is_repeat kept request ≡ true → repeated (Some kept) request ≡ Some kept
repeated_so kept request is = ap (λ (b : Bool). if b then Some kept else None) is

module _ {K : Type 0} (keeping : K → Keeping) (old : Account K) (request : Request) (kept : Kept) (held : old.kept ≡ Some kept)
    (again : is_repeat (kept_seen kept) request ≡ true) where
  found : (s : AccountSummary) → account_seen keeping old ≡ Some s → repeated s.kept request ≡ Some (kept_seen kept)
  found s own =
      ap (λ (o : Option KeptReply). repeated o request) ((see keeping old s own).kept ∙ ap (option_map kept_seen) held)
      ∙ repeated_so (kept_seen kept) request again

  -- a kept reply is given again
  pub again_kept : (reply : Reply) → kept.reply ≡ Some reply → IsGivenAgain keeping old request reply
  again_kept reply is = for_some (account_seen keeping old) (λ s. option_map (given_again s.committed) (repeated s.kept request) ≡ Some reply) (λ s own.
      ap (option_map (given_again s.committed)) (found s own)
      ∙ ap (λ (o : Option Reply). Some (unwrap_or o (download_reply s.committed))) is)

  -- and a download is read again
  pub again_read : (reply : Reply) → IsRight keeping old → IsNamedRightly (keeping old.keeper) → kept.reply ≡ None
      → WhereTold (keeping old.keeper) (λ h. IfSome (collection_of h) (λ c. reply ≡ download_reply c)) → IsGivenAgain keeping old request reply
  again_read reply right named is told = for_some (account_seen keeping old) (λ s. option_map (given_again s.committed) (repeated s.kept request) ≡ Some reply) (λ s own.
      let unread : is_started old.live ≡ false = of_some old.kept (λ (k : Kept). k.reply ≡ None → is_started old.live ≡ false) kept right.unread held is in
      ap (option_map (given_again s.committed)) (found s own)
      ∙ ap (λ (o : Option Reply). Some (unwrap_or o (download_reply s.committed))) is
      ∙ ap Some (sym (of_current (keeping old.keeper) (λ (c : Collection). reply ≡ download_reply c) s.committed told
      (unmarked_tables (keeping old.keeper) named (right.keeper.marked ∙ unread) ∙ (see keeping old s own).committed))))

given_by : (o : Option KeptReply) (s : AccountSummary) (request : Request) (now : ℤ) (reply : Reply) → option_map (given_again s.committed) o ≡ Some reply
    → by_repeat o s request now ≡ unchanged s reply
given_by None s request now reply is = absurd (not_none (sym is))
given_by (Some kept) s request now reply is = ap (unchanged s) (same_some (given_again s.committed kept) reply is)

-- what is given again is what the account gives
pub again_does : {K : Type 0} (keeping : K → Keeping) (old new : Account K) (request : Request) (now : ℤ) (reply : Reply) → is_meta request.ask ≡ false
    → IsOnlyRead keeping old new → IsGivenAgain keeping old request reply → Does keeping old request now new reply
again_does keeping old new request now reply later only again = for_some (account_seen keeping old) (λ s. DoesUndisturbed keeping s request now new reply) (λ s own.
    let did : does s request now Undisturbed ≡ unchanged s reply =
    ap (λ (b : Bool). if b then begun s request now else by_repeat (repeated s.kept request) s request now) later
    ∙ given_by (repeated s.kept request) s request now reply (of_some (account_seen keeping old) (λ (x : AccountSummary). option_map (given_again x.committed) (repeated x.kept request) ≡ Some reply) s again own) in
    record {
      reply_is = sym (ap (λ (d : Did). d.reply) did);
      seen = seen_read keeping old new only ∙ own ∙ sym (ap (λ (d : Did). Some d.next) did);
    })

-- ---- refusals
some_refused : (o : Option Refusal) (reply : Reply) → Some reply ≡ option_map refused o → (why : Refusal) × ((o ≡ Some why) × (reply ≡ refused why))
some_refused None reply is = absurd (not_none is)
some_refused (Some why) reply is = (why, (refl, same_some reply (refused why) is))

status_objected : (why : Objection) (last : ℕ) (usn : ℤ) → IsDecided (objected why last usn)
status_objected MayNotCome last usn = record { known = λ is. absurd (omega (arith, is)); kept = λ is. absurd (omega (arith, is)); spared = λ is. absurd (omega (arith, is)) }
status_objected WrongUsn last usn = record { known = λ is. absurd (omega (arith, is)); kept = λ is. absurd (omega (arith, is)); spared = λ is. absurd (omega (arith, is)) }
status_objected NoNumber last usn = record { known = λ is. absurd (omega (arith, is)); kept = λ is. absurd (omega (arith, is)); spared = λ is. absurd (omega (arith, is)) }
status_objected TooManyRows last usn = record { known = λ is. absurd (omega (arith, is)); kept = λ is. absurd (omega (arith, is)); spared = λ is. absurd (omega (arith, is)) }
status_objected WrongRow last usn = record { known = λ is. absurd (omega (arith, is)); kept = λ is. absurd (omega (arith, is)); spared = λ is. absurd (omega (arith, is)) }
status_objected WrongNewer last usn = record { known = λ is. absurd (omega (arith, is)); kept = λ is. absurd (omega (arith, is)); spared = λ is. absurd (omega (arith, is)) }

status_refused : (why : Refusal) → IsDecided (refused why)
status_refused (PastBase moment) = record { known = λ is. absurd (omega (arith, is)); kept = λ is. absurd (omega (arith, is)); spared = λ is. absurd (omega (arith, is)) }
status_refused NoSession = record { known = λ is. absurd (omega (arith, is)); kept = λ is. absurd (omega (arith, is)); spared = λ is. absurd (omega (arith, is)) }
status_refused (WrongStep last) = record { known = λ is. absurd (omega (arith, is)); kept = λ is. absurd (omega (arith, is)); spared = λ is. absurd (omega (arith, is)) }
status_refused (Objected why last usn) = status_objected why last usn

-- a reply to a refusal is 400 or 409
pub decided_refused : (o : Option Refusal) (reply : Reply) → Some reply ≡ option_map refused o → IsDecided reply
decided_refused o reply is = let so = some_refused o reply is in subst IsDecided (sym so.1.1) (status_refused so.0)

-- a reply that grants is one too
pub decided_granted : (reply : Reply) → reply.status ≡ 200 → IsDecided reply
decided_granted reply is = record { known = λ other. absurd (omega (arith, is, other)); kept = λ other. absurd (omega (arith, is, other)); spared = λ other. absurd (omega (arith, is, other)) }

-- what was decided over the numbers that were read is decided over the committed collection
pub decided_over : {K : Type 0} (keeping : K → Keeping) (old : Account K) (request : Request) (numbers : Numbers) (s : AccountSummary)
    (own : account_seen keeping old ≡ Some s) → IsRight keeping old → IsNamedRightly (keeping old.keeper) → WhereTold (keeping old.keeper) (λ h. option_map numbers_of h.head ≡ Some numbers)
    → refusal_of (numbered numbers (see keeping old s own).held) (option_map (session_seen (see keeping old s own).held) old.live) request
    ≡ refusal_of s.committed s.live request
decided_over keeping old request numbers s own right named told =
    let seen = see keeping old s own in
    let alike : AlikeNumbers seen.held s.committed =
    numbers_alike (keeping old.keeper) old.live s.committed seen.held named right.keeper (right.told s.committed seen.held seen.committed seen.tables) seen.committed seen.tables in
    ap (λ (c : Collection). refusal_of c (option_map (session_seen seen.held) old.live) request)
    (numbered_same numbers seen.held (numbers_are (keeping old.keeper) numbers seen.held told seen.tables))
    ∙ refusal_alike seen.held s.committed alike (option_map (session_seen seen.held) old.live) request
    ∙ ap (λ (live : Option SessionSummary). refusal_of s.committed live request) (sym seen.live)

-- a refusal is what the account gives
pub refused_does : {K : Type 0} (keeping : K → Keeping) (old new : Account K) (request : Request) (now : ℤ) (numbers : Numbers) (reply : Reply)
    → IsRight keeping old → IsNamedRightly (keeping old.keeper) → WhereTold (keeping old.keeper) (λ h. option_map numbers_of h.head ≡ Some numbers) → IsOnlyRead keeping old new
    → is_meta request.ask ≡ false → repeated (option_map kept_seen old.kept) request ≡ None
    → ((c : Collection) (tables : Collection) → Some reply ≡ option_map refused (refusal_of (numbered numbers c) (option_map (session_seen tables) old.live) request))
    → Does keeping old request now new reply
refused_does keeping old new request now numbers reply right named told only later first why = for_some (account_seen keeping old) (λ s. DoesUndisturbed keeping s request now new reply) (λ s own.
    let seen = see keeping old s own in
    let so = some_refused (refusal_of s.committed s.live request) reply
    (why seen.held seen.held ∙ ap (option_map refused) (decided_over keeping old request numbers s own right named told)) in
    let did : does s request now Undisturbed ≡ unchanged s (refused so.0) =
    done_if_refused s request now later (ap (λ (o : Option KeptReply). repeated o request) seen.kept ∙ first) so.0 so.1.0 in
    record {
      reply_is = so.1.1 ∙ sym (ap (λ (d : Did). d.reply) did);
      seen = seen_read keeping old new only ∙ own ∙ sym (ap (λ (d : Did). Some d.next) did);
    })

-- ---- what is accepted
-- an accepted request is done
pub accepted_does : {K : Type 0} (keeping : K → Keeping) (old read new : Account K) (request : Request) (now : ℤ) (basis : Basis) (reply : Reply)
    → IsRight keeping old → IsNamedRightly (keeping old.keeper) → WhereTold (keeping old.keeper) (λ h. option_map numbers_of h.head ≡ Some basis.numbers) → IsOnlyRead keeping old read
    → is_meta request.ask ≡ false → repeated (option_map kept_seen old.kept) request ≡ None → IsAccepted keeping read basis request
    → Accepts keeping read request now new reply → Does keeping old request now new reply
accepted_does keeping old read new request now basis reply right named told only later first taken accepts = for_some (account_seen keeping old) (λ s. DoesUndisturbed keeping s request now new reply) (λ s own.
    let seen = see keeping old s own in
    let live_is : old.live ≡ Some basis.live = sym (live_read keeping old read only) ∙ taken.live in
    let session : s.live ≡ Some (session_seen seen.held basis.live) = seen.live ∙ ap (option_map (session_seen seen.held)) live_is in
    let allowed : refusal_of s.committed s.live request ≡ None =
    sym (decided_over keeping old request basis.numbers s own right named told)
    ∙ ap (λ (o : Option Session). refusal_of (numbered basis.numbers seen.held) (option_map (session_seen seen.held) o) request) live_is
    ∙ taken.passed seen.held seen.held in
    let did : does s request now Undisturbed ≡ accepted s (session_seen seen.held basis.live) request now =
    done_if_accepted s request now later (ap (λ (o : Option KeptReply). repeated o request) seen.kept ∙ first) (session_seen seen.held basis.live) session allowed in
    let done = of_some s.live (λ (live : SessionSummary). (reply ≡ (accepted s live request now).reply) × (account_seen keeping new ≡ Some (accepted s live request now).next)) (session_seen seen.held basis.live)
    (of_some (account_seen keeping read) (λ (x : AccountSummary). IfSome x.live (λ live. (reply ≡ (accepted x live request now).reply) × (account_seen keeping new ≡ Some (accepted x live request now).next))) s accepts
    (seen_read keeping old read only ∙ own)) session in
    record {
      reply_is = done.0 ∙ sym (ap (λ (d : Did). d.reply) did);
      seen = done.1 ∙ sym (ap (λ (d : Did). Some d.next) did);
    })

-- a request that no test found fault with is accepted, over the numbers that were read
pub taken_read : {K : Type 0} (keeping : K → Keeping) (old new : Account K) (request : Request) (numbers : Numbers) (live : Session) → IsOnlyRead keeping old new
    → IsRight keeping old → IsNamedRightly (keeping old.keeper) → WhereTold (keeping old.keeper) (λ h. option_map numbers_of h.head ≡ Some numbers) → AreNumbersInRange numbers → old.live ≡ Some live
    → ((c : Collection) (tables : Collection) → None ≡ option_map refused (refusal_of (numbered numbers c) (option_map (session_seen tables) old.live) request))
    → IsAccepted keeping new (record { numbers = numbers; live = live }) request
taken_read keeping old new request numbers live only right named told range live_is none = record {
  held = record {
    held = ap (λ (k : Keeping). k.headed.current) only.keeper ∙ right.keeper.held;
    told = subst (λ (k : Keeping). WhereTold k (λ h. option_map numbers_of h.head ≡ Some numbers)) (sym only.keeper) told;
    range = range;
  };
  named = subst IsNamedRightly (sym only.keeper) named;
  live = live_read keeping old new only ∙ live_is;
  passed = λ c tables. none_mapped refused (refusal_of (numbered numbers c) (Some (session_seen tables live)) request)
      (ap (λ (o : Option Session). option_map refused (refusal_of (numbered numbers c) (option_map (session_seen tables) o) request)) (sym live_is) ∙ sym (none c tables));
}

-- what was left before a read was left after it
pub leaves_read : {K : Type 0} (keeping : K → Keeping) (old read new : Account K) → IsOnlyRead keeping old read → LeavesCommitted keeping read new → LeavesCommitted keeping old new
leaves_read keeping old read new only leaves = record {
  committed = leaves.committed ∙ ap back only.keeper;
  kept = leaves.kept ∙ kept_read keeping old read only;
}

pub does_read : {K : Type 0} (keeping : K → Keeping) (old read new : Account K) (request : Request) (now : ℤ) (reply : Reply) → IsOnlyRead keeping old read
    → Does keeping read request now new reply → Does keeping old request now new reply
does_read keeping old read new request now reply only did =
    subst (λ (o : Option AccountSummary). IfSome o (λ s. DoesUndisturbed keeping s request now new reply)) (seen_read keeping old read only) did

-- the reply to a setback is one of two
pub set_back : (fault : KeepFault) (reply : Reply) → reply ≡ setback_reply fault → (reply ≡ keeper_failed) ⊎ (reply ≡ out_of_memory)
set_back Failed reply is = inl is
set_back Memory reply is = inr is

-- what was tested after a read was tested before it
pub tested_read : {K : Type 0} (keeping : K → Keeping) (old read : Account K) (request : Request) (reply : Reply) → IsOnlyRead keeping old read
    → IsTested keeping read request reply → IsTested keeping old request reply
tested_read keeping old read request reply only (inl granted) = inl granted
tested_read keeping old read request reply only (inr first) = inr (record {
  numbers = first.numbers;
  held = subst (λ (k : Keeping). HasNumbers k first.numbers) only.keeper first.held;
  why = λ c tables. subst (λ (live : Option Session). option_map refused (refusal_of (numbered first.numbers c) (option_map (session_seen tables) live) request) ≡ Some reply)
      (live_read keeping old read only) (first.why c tables);
})

pub same_read : {K : Type 0} (keeping : K → Keeping) (old read new : Account K) → IsOnlyRead keeping old read → IsSameAccount read new → IsSameAccount old new
same_read keeping old read new only same = record {
  name = same.name ∙ ap (λ (a : Account _). a.name) only.rest;
  host = same.host ∙ ap (λ (a : Account _). a.host) only.rest;
}

-- ---- what is asked
pub later_asked : (ask : Ask) → (ask ≡ asks.Meta → ⊥) → is_meta ask ≡ false
later_asked asks.Meta other = absurd (other refl)
later_asked (asks.Start min_usn lmod) other = refl
later_asked (asks.ApplyGraves ids) other = refl
later_asked (asks.ApplyChanges changes) other = refl
later_asked asks.Chunk other = refl
later_asked (asks.ApplyChunk chunk) other = refl
later_asked (asks.SanityCheck2 counts) other = refl
later_asked asks.Finish other = refl
later_asked (asks.Upload whole) other = refl
later_asked asks.Download other = refl

pub stays_asked : (ask : Ask) → (ask ≡ asks.Finish → ⊥) → ((whole : Whole) → ask ≡ asks.Upload whole → ⊥) → asks_commit ask ≡ false
stays_asked asks.Meta other past = refl
stays_asked (asks.Start min_usn lmod) other past = refl
stays_asked (asks.ApplyGraves ids) other past = refl
stays_asked (asks.ApplyChanges changes) other past = refl
stays_asked asks.Chunk other past = refl
stays_asked (asks.ApplyChunk chunk) other past = refl
stays_asked (asks.SanityCheck2 counts) other past = refl
stays_asked asks.Finish other past = absurd (other refl)
stays_asked (asks.Upload whole) other past = absurd (past whole refl)
stays_asked asks.Download other past = refl

-- ---- a repeat that was found, and one that was not
module _ {K : Type 0} (old new : Account K) (request : Request) where
  pub finds_reply : (found : Option Reply) (reply : Reply) → found ≡ Some reply → FindsAgain (λ found same. found ≡ Some same) old new request (Ok found)
      → FindsAgain (λ reply same. reply ≡ same) old new request (Ok reply)
  finds_reply found reply is all = for_some old.kept (λ kept. IfSome kept.reply (λ same. is_meta request.ask ≡ false → is_repeat (kept_seen kept) request ≡ true → ((reply ≡ same) × (new ≡ old)) × ⊤)) (λ kept here.
      for_some kept.reply (λ same. is_meta request.ask ≡ false → is_repeat (kept_seen kept) request ≡ true → ((reply ≡ same) × (new ≡ old)) × ⊤) (λ same there later again.
      let one = of_some kept.reply (λ x. is_meta request.ask ≡ false → is_repeat (kept_seen kept) request ≡ true → ((found ≡ Some x) × (new ≡ old)) × ⊤) same
      (of_some old.kept (λ k. IfSome k.reply (λ x. is_meta request.ask ≡ false → is_repeat (kept_seen k) request ≡ true → ((found ≡ Some x) × (new ≡ old)) × ⊤)) kept all here) there later again in
      ((same_some reply same (sym is ∙ one.0.0), one.0.1), tt)))

  pub finds_none : (mid : Account K) (result : Result Reply KeepFault) → FindsAgain (λ found same. found ≡ Some same) old mid request (Ok None)
      → FindsAgain (λ reply same. reply ≡ same) old new request result
  finds_none mid result all = for_some old.kept (λ kept. IfSome kept.reply (λ same. is_meta request.ask ≡ false → is_repeat (kept_seen kept) request ≡ true
      → IfOk result (λ reply. (reply ≡ same) × (new ≡ old)) × IfErr result (λ fault. fault ≡ Memory))) (λ kept here.
      for_some kept.reply (λ same. is_meta request.ask ≡ false → is_repeat (kept_seen kept) request ≡ true
      → IfOk result (λ reply. (reply ≡ same) × (new ≡ old)) × IfErr result (λ fault. fault ≡ Memory)) (λ same there later again.
      let one = of_some kept.reply (λ x. is_meta request.ask ≡ false → is_repeat (kept_seen kept) request ≡ true → ((None ≡ Some x) × (mid ≡ old)) × ⊤) same
      (of_some old.kept (λ k. IfSome k.reply (λ x. is_meta request.ask ≡ false → is_repeat (kept_seen k) request ≡ true → ((None ≡ Some x) × (mid ≡ old)) × ⊤)) kept all here) there later again in
      absurd (not_none (sym one.0.0))))

-- A session that begins, and one that is over.
use Rattle.std.specs.List.{list_any}
use Rattle.std.specs.Option.{option_map}
use Rattle.std.specs.Prelude.{◌≡◌, ◌≢◌, ◌⊎◌, ℕ, ℤ, Bool, true, false, if◌then◌else◌, Option, Some, None, Result, Ok, Err, IfSome, IfOk, IfErr}
use Rattle.std.proofs.Common.{refl, sym, ap, subst, ◌∙◌, arith, inl, inr}
use Rattle.ak_faults.specs.Causes.{Health}
use Rattle.ak_keep.proofs.HeadNumbers.{some_collection}
use Rattle.ak_keep.specs.Collections.{Collection}
use Rattle.ak_keep.specs.HeadNumbers.{numbered, numbers_of}
use Rattle.ak_keep.specs.Keepers.{KeepCause, Keeping, WhereTold, back, is_marked}
use Rattle.ak_keep.specs.declared.head_numbers.Numbers.{Numbers}
use Rattle.ak_keep.specs.declared.keepers.KeepFault.{KeepFault}
use Rattle.ak_keep.specs.declared.keepers.KeepFault.TheVariants as keep_faults
use Rattle.ak_messages.specs.declared.methods.Method.{Method}
use Rattle.ak_messages.specs.declared.methods.Method.TheVariants as methods
use Rattle.ak_messages.specs.declared.replies.Give.TheVariants as gives
use Rattle.ak_messages.specs.declared.replies.Reply.{Reply}
use Rattle.ak_messages.specs.declared.requests.Request.{Request}
use Rattle.ak_protocol.specs.Accounts.{is_repeat, repeated}
use Rattle.ak_protocol.specs.Replies.{granted, meta_reply, out_of_memory}
use Rattle.ak_protocol.specs.Serving.{Undisturbed}
use Rattle.ak_server.proofs.Keepings.{committed_back, tables_back}
use Rattle.ak_server.proofs.Seeing.{alike_same, for_some, numbered_same, numbers_are, of_some, same_some, see, seen_as}
use Rattle.ak_server.specs.Accounts.{AreGranted, IsKept, IsOver, IsRight, account_seen, committed_in, is_started, tables_in}
use Rattle.ak_server.specs.Servers.{DoesSo, DoesUndisturbed, GivesAgain, IsStruck, LeavesCommitted, ServeCause, StrikesOne}
use Rattle.ak_server.specs.Serving.{Does, FindsAgain, IsDecided}
use Rattle.ak_server.specs.declared.accounts.Account.{Account}
use Rattle.ak_server_rules.specs.Decisions.{setback_of, setback_reply}
use Rattle.ak_server_rules.specs.Serving.{Did, begun, by_repeat, does, opened, struck}
use Rattle.ak_server_rules.specs.Sessions.{IsCounted, first_place, has_mark, kept_seen, session_seen}
use Rattle.ak_server_rules.specs.Summaries.{AccountSummary, SessionSummary}
use Rattle.ak_server_rules.specs.declared.sessions.Kept.{Kept}
use Rattle.ak_server_rules.specs.declared.sessions.Session.{Session}
use Rattle.ak_session.proofs.Ranges.{not_both}
use Rattle.ak_session.specs.NextMethods.{methods_after}
use Rattle.ak_session.specs.Requests.{is_meta, same_method}

-- a meta is done first of all
does_meta : (s : AccountSummary) (request : Request) (now : ℤ) → is_meta request.ask ≡ true → does s request now Undisturbed ≡ begun s request now
does_meta s request now meta = ap (λ (b : Bool). if b then begun s request now else by_repeat (repeated s.kept request) s request now) meta

module _ {K : Type 0} (keeping : K → Keeping) (old new : Account K) (right : IsRight keeping old) (back_is : keeping new.keeper ≡ back (keeping old.keeper)) where
  -- a keeper that went back holds a collection, and is not marked
  kept_back : is_started new.live ≡ false → IsKept (keeping new.keeper) new.live
  kept_back unstarted = record {
    held = ap (λ (k : Keeping). k.headed.current) back_is ∙ right.keeper.held_before;
    held_before = ap (λ (k : Keeping). (back k).headed.current) back_is ∙ right.keeper.held_before;
    marked = ap is_marked back_is ∙ sym unstarted;
  }

  pub over_back : (c : Collection) → committed_in (keeping old.keeper) ≡ Some c → committed_in (keeping new.keeper) ≡ Some c
  over_back c is = ap committed_in back_is ∙ committed_back (keeping old.keeper) ∙ is

  pub under_back : (c : Collection) → committed_in (keeping old.keeper) ≡ Some c → tables_in (keeping new.keeper) ≡ Some c
  under_back c is = ap tables_in back_is ∙ tables_back (keeping old.keeper) ∙ is

  same_back : (c t : Collection) → committed_in (keeping new.keeper) ≡ Some c → tables_in (keeping new.keeper) ≡ Some t → t ≡ c
  same_back c t over under =
      same_some t c (sym under ∙ ap tables_in back_is ∙ tables_back (keeping old.keeper) ∙ sym (committed_back (keeping old.keeper)) ∙ sym (ap committed_in back_is) ∙ over)

-- ---- a meta
begun_counted : (next : Session) (key : ℕ) (c : Collection) → session_seen c next ≡ opened c key → next.given ≡ first_place → IsCounted next
begun_counted next key c is place =
    let last : next.last ≡ 0 = ap (λ (s : SessionSummary). s.last) is in
    let chunks : next.chunks ≡ 0 = ap (λ (s : SessionSummary). s.chunks) is in
    let method : next.method ≡ methods.Meta = ap (λ (s : SessionSummary). s.method) is in
    record {
      first = (λ _. method, λ _. last);
      chunks = omega (arith, chunks, last);
      last = omega (arith, last);
      none = λ _. (chunks, place);
      room = λ marked. absurd (not_both marked (ap has_mark method));
    }

begun_over : (next : Session) (c t : Collection) → next.method ≡ methods.Meta → t ≡ c → IsOver next c t
begun_over next c t method same =
    let numbers = alike_same c t same in
    record {
      moment = numbers.moment;
      schema = numbers.schema;
      usn = numbers.usn;
      last_sync = numbers.last_sync;
      room = λ marked. absurd (not_both marked (ap has_mark method));
      next = λ may. absurd (not_both may (ap (λ (m : Method). list_any (same_method methods.Chunk) (methods_after m next.done)) method));
    }

module _ {K : Type 0} (keeping : K → Keeping) (old new : Account K) (right : IsRight keeping old) (back_is : keeping new.keeper ≡ back (keeping old.keeper))
    (request : Request) (next : Session) (live_is : new.live ≡ Some next) (none : new.kept ≡ None)
    (opens : (committed : Collection) → session_seen committed next ≡ opened committed request.session.0) (place : next.given ≡ first_place) where
  method_is : next.method ≡ methods.Meta
  method_is = ap (λ (s : SessionSummary). s.method) (opens some_collection)

  pub begun_right : IsRight keeping new
  begun_right = record {
    keeper = kept_back keeping old new right back_is (ap is_started live_is ∙ ap has_mark method_is);
    session = subst (λ (o : Option Session). IfSome o IsCounted) (sym live_is) (begun_counted next request.session.0 some_collection (opens some_collection) place);
    told = λ c t over under. subst (λ (o : Option Session). IfSome o (λ live. IsOver live c t)) (sym live_is) (begun_over next c t method_is (same_back keeping old new right back_is c t over under));
    granted = subst (λ (o : Option Kept). AreGranted o) (sym none) tt;
    unread = subst (λ (o : Option Kept). IfSome o (λ kept. kept.reply ≡ None → is_started new.live ≡ false)) (sym none) tt;
  }

  pub begun_does : (now : ℤ) (reply : Reply) (numbers : Numbers) → WhereTold (back (keeping old.keeper)) (λ h. option_map numbers_of h.head ≡ Some numbers)
      → is_meta request.ask ≡ true → ((c : Collection) → reply ≡ granted (gives.Meta (meta_reply (numbered numbers c).head now))) → Does keeping old request now new reply
  begun_does now reply numbers told meta is = for_some (account_seen keeping old) (λ s. DoesUndisturbed keeping s request now new reply) (λ s own.
      let seen = see keeping old s own in
      record {
        reply_is = is s.committed
            ∙ ap (λ (c : Collection). granted (gives.Meta (meta_reply c.head now)))
            (numbered_same numbers s.committed (numbers_are (back (keeping old.keeper)) numbers s.committed told (tables_back (keeping old.keeper) ∙ seen.committed)))
            ∙ sym (ap (λ (d : Did). d.reply) (does_meta s request now meta));
        seen = seen_as keeping new s.committed s.committed (Some (opened s.committed request.session.0)) None
            (over_back keeping old new right back_is s.committed seen.committed) (under_back keeping old new right back_is s.committed seen.committed)
            (ap (option_map (session_seen s.committed)) live_is ∙ ap Some (opens s.committed)) (ap (option_map kept_seen) none)
            ∙ sym (ap (λ (d : Did). Some d.next) (does_meta s request now meta));
      })

-- ---- a setback
does_struck : (s : AccountSummary) (request : Request) (now : ℤ) (fault : KeepFault) → does s request now (setback_of fault) ≡ struck s request (setback_reply fault)
does_struck s request now keep_faults.Failed = refl
does_struck s request now keep_faults.Memory = refl

module _ {K : Type 0} (keeping : K → Keeping) (old new : Account K) (right : IsRight keeping old) (back_is : keeping new.keeper ≡ back (keeping old.keeper))
    (over : new.live ≡ None) where
  -- an account whose session is over, with the kept reply or without one
  pub over_right : AreGranted new.kept → IsRight keeping new
  over_right granted = record {
    keeper = kept_back keeping old new right back_is (ap is_started over);
    session = subst (λ (o : Option Session). IfSome o IsCounted) (sym over) tt;
    told = λ c t _ _. subst (λ (o : Option Session). IfSome o (λ live. IsOver live c t)) (sym over) tt;
    granted = granted;
    unread = for_some new.kept (λ kept. kept.reply ≡ None → is_started new.live ≡ false) (λ kept _ _. ap is_started over);
  }

  pub struck_does : (request : Request) (now : ℤ) (fault : KeepFault) (reply : Reply) → reply ≡ setback_reply fault
      → new.kept ≡ (if is_meta request.ask then None else old.kept)
      → IfSome (account_seen keeping old) (λ s. DoesSo keeping s request now new reply)
  struck_does request now fault reply is kept_is = for_some (account_seen keeping old) (λ s. DoesSo keeping s request now new reply) (λ s own.
      let seen = see keeping old s own in
      record {
        setback = setback_of fault;
        reply_is = is ∙ sym (ap (λ (d : Did). d.reply) (does_struck s request now fault));
        seen = seen_as keeping new s.committed s.committed None (if is_meta request.ask then None else s.kept)
            (over_back keeping old new right back_is s.committed seen.committed) (under_back keeping old new right back_is s.committed seen.committed)
            (ap (option_map (session_seen s.committed)) over)
            (ap (option_map kept_seen) kept_is ∙ kept_by (is_meta request.ask) s seen.kept)
            ∙ sym (ap (λ (d : Did). Some d.next) (does_struck s request now fault));
      })
    where
      kept_by : (b : Bool) (s : AccountSummary) → s.kept ≡ option_map kept_seen old.kept → option_map kept_seen (if b then None else old.kept) ≡ (if b then None else s.kept)
      kept_by true s same = refl
      kept_by false s same = sym same

-- a setback after calls that left what was committed
pub struck_since : {K : Type 0} (keeping : K → Keeping) (old mid new : Account K) (request : Request) → LeavesCommitted keeping old mid → IsStruck keeping mid new request
    → IsStruck keeping old new request
struck_since keeping old mid new request leaves struck = record {
  over = struck.over;
  committed = struck.committed ∙ leaves.committed;
  kept = struck.kept ∙ ap (λ (o : Option Kept). if is_meta request.ask then None else o) leaves.kept;
}

kept_struck : (b : Bool) (kept : Option Kept) → AreGranted kept → AreGranted (if b then None else kept)
kept_struck true kept granted = tt
kept_struck false kept granted = granted

module _ {K : Type 0} (keeping : K → Keeping) (old new : Account K) (request : Request) (right : IsRight keeping old) (struck : IsStruck keeping old new request) where
  pub right_struck : IsRight keeping new
  right_struck = over_right keeping old new right struck.committed struck.over
      (subst (λ (o : Option Kept). AreGranted o) (sym struck.kept)
      (kept_struck (is_meta request.ask) old.kept right.granted))

  pub does_so_struck : (now : ℤ) (fault : KeepFault) (reply : Reply) → reply ≡ setback_reply fault
      → IfSome (account_seen keeping old) (λ s. DoesSo keeping s request now new reply)
  does_so_struck now fault reply is = struck_does keeping old new right struck.committed struck.over request now fault reply is struck.kept

-- ---- the status of a setback
-- 503 is the reply to a keeper that failed
pub cause_struck : {a b : Health} {T : Type 0} (fault : KeepFault) (reply : Reply) → reply ≡ setback_reply fault → KeepCause {T = T} a b (Err fault) → ServeCause a b reply
cause_struck keep_faults.Failed reply is cause = record { goes = cause.goes; failed = λ _. cause.failed refl; unfailed = λ calm _. cause.unfailed calm refl }
cause_struck keep_faults.Memory reply is cause = record {
  goes = cause.goes;
  failed = λ other. absurd (no_memory (ap (λ (r : Reply). r.status) is) other);
  unfailed = λ calm other. absurd (no_memory (ap (λ (r : Reply). r.status) is) other);
}
  where
    no_memory : {n : ℕ} → n ≡ 500 → n ≡ 503 → ⊥
    no_memory one other = omega (arith, one, other)

pub not_unknown : (fault : KeepFault) (reply : Reply) → reply ≡ setback_reply fault → reply.status ≢ 403
not_unknown keep_faults.Failed reply is other = let one : reply.status ≡ 503 = ap (λ (r : Reply). r.status) is in omega (arith, one, other)
not_unknown keep_faults.Memory reply is other = let one : reply.status ≡ 500 = ap (λ (r : Reply). r.status) is in omega (arith, one, other)

-- a reply of another status says nothing of a keeper
pub cause_decided : {a b : Health} {T : Type 0} (answer : T) (reply : Reply) → IsDecided reply → KeepCause a b (Ok answer) → ServeCause a b reply
cause_decided answer reply decided cause = record { goes = cause.goes; failed = λ is. absurd (decided.kept is); unfailed = λ _ is. decided.kept is }

pub strikes_not : {K : Type 0} (keeping : K → Keeping) (old new : Account K) (request : Request) (reply : Reply) → IsDecided reply → StrikesOne keeping old new request reply
strikes_not keeping old new request reply decided (inl is) = absurd (decided.kept is)
strikes_not keeping old new request reply decided (inr is) = absurd (decided.spared is)

-- ---- repeats, with a setback or without
module _ {K : Type 0} (old mid new : Account K) (request : Request) where
  abbrev given_so : Account K → Kept → Reply → Reply → Type 0
  given_so last kept same reply = is_meta request.ask ≡ false → is_repeat (kept_seen kept) request ≡ true
      → (reply ≡ out_of_memory) ⊎ ((reply ≡ same) × (Some last ≡ Some old))

  abbrev found_so : Account K → Result Reply KeepFault → Kept → Reply → Type 0
  found_so last result kept same = is_meta request.ask ≡ false → is_repeat (kept_seen kept) request ≡ true
      → IfOk result (λ found. (found ≡ same) × (last ≡ old)) × IfErr result (λ fault. fault ≡ keep_faults.Memory)

  pub again_given : (reply : Reply) → FindsAgain (λ reply same. reply ≡ same) old new request (Ok reply) → GivesAgain (Some old) (Some new) request reply
  again_given reply all = for_some old.kept (λ kept. IfSome kept.reply (λ same. given_so new kept same reply)) (λ kept here.
      for_some kept.reply (λ same. given_so new kept same reply) (λ same there later again.
      let one = of_some kept.reply (λ x. found_so new (Ok reply) kept x) same (of_some old.kept (λ k. IfSome k.reply (λ x. found_so new (Ok reply) k x)) kept all here) there later again in
      inr (one.0.0, ap Some one.0.1)))

  pub again_struck : (fault : KeepFault) (reply : Reply) → reply ≡ setback_reply fault → FindsAgain (λ reply same. reply ≡ same) old mid request (Err fault)
      → GivesAgain (Some old) (Some new) request reply
  again_struck fault reply is all = for_some old.kept (λ kept. IfSome kept.reply (λ same. given_so new kept same reply)) (λ kept here.
      for_some kept.reply (λ same. given_so new kept same reply) (λ same there later again.
      let one = of_some kept.reply (λ x. found_so mid (Err fault) kept x) same (of_some old.kept (λ k. IfSome k.reply (λ x. found_so mid (Err fault) k x)) kept all here) there later again in
      inl (is ∙ ap setback_reply one.1)))

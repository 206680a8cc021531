-- What is remembered of an account, from its parts and to them.
use Rattle.std.specs.Option.{option_and_then, option_map}
use Rattle.std.specs.Prelude.{◌≡◌, false, Option, Some, None, IfSome}
use Rattle.std.proofs.Common.{refl, sym, ap, subst, ◌∙◌}
use Rattle.ak_base.specs.declared.heads.Head.{Head}
use Rattle.ak_keep.proofs.HeadNumbers.{numbered_alike}
use Rattle.ak_keep.specs.Collections.{Collection, Holding, Rows, collection_of}
use Rattle.ak_keep.specs.HeadNumbers.{numbered, numbers_of}
use Rattle.ak_keep.specs.Keepers.{IsNamedRightly, Keeping, WhereHeld, WhereTold, is_marked}
use Rattle.ak_keep.specs.Marks.{WithMark}
use Rattle.ak_keep.specs.declared.head_numbers.Numbers.{Numbers}
use Rattle.ak_protocol.proofs.Cases.{not_none}
use Rattle.ak_protocol.specs.Accounts.{KeptReply}
use Rattle.ak_server.proofs.Keepings.{unmarked_tables}
use Rattle.ak_server.proofs.Passing.{AlikeNumbers}
use Rattle.ak_server.specs.Accounts.{IsKept, IsOver, account_seen, committed_in, is_started, seen, tables_in}
use Rattle.ak_server.specs.declared.accounts.Account.{Account}
use Rattle.ak_server_rules.specs.Sessions.{kept_seen, session_seen}
use Rattle.ak_server_rules.specs.Summaries.{AccountSummary, SessionSummary}
use Rattle.ak_server_rules.specs.declared.sessions.Kept.{Kept}
use Rattle.ak_server_rules.specs.declared.sessions.Session.{Session}

pub same_some : {X : Type 0} (a b : X) → Some a ≡ Some b → a ≡ b
same_some a b is = cc

-- for each that there is
pub for_some : {X : Type 0} (o : Option X) (P : X → Type 0) → ((x : X) → o ≡ Some x → P x) → IfSome o P
for_some None P so = tt
for_some (Some x) P so = so x refl

pub of_some : {X : Type 0} (o : Option X) (P : X → Type 0) (x : X) → IfSome o P → o ≡ Some x → P x
of_some None P x all is = absurd (not_none (sym is))
of_some (Some y) P x all is = subst P (same_some y x is) all

-- ---- accounts
-- the parts of what is remembered of a session and a reply over these collections, if they are told
pub record IsSeen (over under : Option Collection) (session : Option Session) (reply : Option Kept) (s : AccountSummary) : Type 0 where
  pub held : Collection
  pub committed : over ≡ Some s.committed
  pub tables : under ≡ Some held
  pub live : s.live ≡ option_map (session_seen held) session
  pub kept : s.kept ≡ option_map kept_seen reply

parts : (over under : Option Collection) (session : Option Session) (reply : Option Kept) (s : AccountSummary)
    → option_and_then (λ (committed : Collection). option_map (λ (tables : Collection). seen committed tables session reply) under) over ≡ Some s
    → IsSeen over under session reply s
parts None under session reply s is = absurd (not_none (sym is))
parts (Some c) None session reply s is = absurd (not_none (sym is))
parts (Some c) (Some t) session reply s is =
    let same : seen c t session reply ≡ s = same_some (seen c t session reply) s is in
    record {
      held = t;
      committed = ap (λ (x : AccountSummary). Some x.committed) same;
      tables = refl;
      live = sym (ap (λ (x : AccountSummary). x.live) same);
      kept = sym (ap (λ (x : AccountSummary). x.kept) same);
    }

pub see : {K : Type 0} (keeping : K → Keeping) (a : Account K) (s : AccountSummary) → account_seen keeping a ≡ Some s
    → IsSeen (committed_in (keeping a.keeper)) (tables_in (keeping a.keeper)) a.live a.kept s
see keeping a s is = parts (committed_in (keeping a.keeper)) (tables_in (keeping a.keeper)) a.live a.kept s is

-- and from its parts
pub seen_as : {K : Type 0} (keeping : K → Keeping) (a : Account K) (c t : Collection) (live : Option SessionSummary) (kept : Option KeptReply)
    → committed_in (keeping a.keeper) ≡ Some c → tables_in (keeping a.keeper) ≡ Some t → option_map (session_seen t) a.live ≡ live → option_map kept_seen a.kept ≡ kept
    → account_seen keeping a ≡ Some (record { committed = c; live = live; kept = kept })
seen_as keeping a c t live kept over under session reply =
    ap (option_and_then (λ (x : Collection). option_map (λ (tables : Collection). seen x tables a.live a.kept) (tables_in (keeping a.keeper)))) over
    ∙ ap (option_map (λ (tables : Collection). seen c tables a.live a.kept)) under
    ∙ ap (λ (x : Option SessionSummary). Some (record { committed = c; live = x; kept = option_map kept_seen a.kept })) session
    ∙ ap (λ (x : Option KeptReply). Some (record { committed = c; live = live; kept = x })) reply

-- ---- what is told
current_by : (t : Option (WithMark Holding)) (P : Collection → Type 0) (c : Collection) → IfSome t (λ w. IfSome (collection_of w.current) P)
    → option_and_then (λ (w : WithMark Holding). collection_of w.current) t ≡ Some c → P c
current_by None P c all is = absurd (not_none (sym is))
current_by (Some w) P c all is = of_some (collection_of w.current) P c all is

-- what holds of a collection that is told holds of the current one
pub of_current : (k : Keeping) (P : Collection → Type 0) (c : Collection) → WhereHeld k P → tables_in k ≡ Some c → P c
of_current k P c all is = current_by k.told P c all is

numbers_in : (rows : Rows) (head : Option Head) (numbers : Numbers) (c : Collection) → option_map numbers_of head ≡ Some numbers
    → collection_of (record { rows = rows; head = head }) ≡ Some c → numbers_of c.head ≡ numbers
numbers_in rows None numbers c told is = absurd (not_none (sym is))
numbers_in rows (Some head) numbers c told is =
    ap (λ (x : Collection). numbers_of x.head) (sym (same_some (record { rows = rows; head = head }) c is)) ∙ same_some (numbers_of head) numbers told

by_numbers : (t : Option (WithMark Holding)) (numbers : Numbers) (c : Collection) → IfSome t (λ w. option_map numbers_of w.current.head ≡ Some numbers)
    → option_and_then (λ (w : WithMark Holding). collection_of w.current) t ≡ Some c → numbers_of c.head ≡ numbers
by_numbers None numbers c told is = absurd (not_none (sym is))
by_numbers (Some w) numbers c told is = numbers_in w.current.rows w.current.head numbers c told is

-- the current collection has the numbers that are told
pub numbers_are : (k : Keeping) (numbers : Numbers) (c : Collection) → WhereTold k (λ h. option_map numbers_of h.head ≡ Some numbers) → tables_in k ≡ Some c
    → numbers_of c.head ≡ numbers
numbers_are k numbers c told is = by_numbers k.told numbers c told is

-- with the numbers that it has it is itself
pub numbered_same : (numbers : Numbers) (c : Collection) → numbers_of c.head ≡ numbers → numbered numbers c ≡ c
numbered_same numbers c is = ap (λ (n : Numbers). numbered n c) (sym is) ∙ numbered_alike c

-- ---- the numbers
pub alike_same : (c t : Collection) → t ≡ c → AlikeNumbers t c
alike_same c t is = record {
  moment = ap (λ (x : Collection). x.head.moment) is;
  schema = ap (λ (x : Collection). x.head.schema) is;
  usn = ap (λ (x : Collection). x.head.usn) is;
  last_sync = ap (λ (x : Collection). x.head.last_sync) is;
}

-- an unmarked keeper's collections are the same
pub same_unmarked : (k : Keeping) (c t : Collection) → IsNamedRightly k → is_marked k ≡ false → committed_in k ≡ Some c → tables_in k ≡ Some t → t ≡ c
same_unmarked k c t named un over under = same_some t c (sym under ∙ unmarked_tables k named un ∙ over)

numbers_by : (k : Keeping) (session : Option Session) (c t : Collection) → IsNamedRightly k → is_marked k ≡ is_started session
    → IfSome session (λ live. IsOver live c t) → committed_in k ≡ Some c → tables_in k ≡ Some t → AlikeNumbers t c
numbers_by k None c t named marked over committed tables = alike_same c t (same_unmarked k c t named marked committed tables)
numbers_by k (Some live) c t named marked over committed tables =
    record { moment = over.moment; schema = over.schema; usn = over.usn; last_sync = over.last_sync }

-- the current collection has the numbers of the committed one
pub numbers_alike : (k : Keeping) (session : Option Session) (c t : Collection) → IsNamedRightly k → IsKept k session
    → IfSome session (λ live. IsOver live c t) → committed_in k ≡ Some c → tables_in k ≡ Some t → AlikeNumbers t c
numbers_alike k session c t named kept over committed tables = numbers_by k session c t named kept.marked over committed tables

-- An account that was viewed.
use Rattle.std.specs.Option.{option_and_then, option_map}
use Rattle.std.specs.Prelude.{◌≡◌, ℕ, ℤ, List, Option, Some, None, IfSome, slice_get, slice_set}
use Rattle.std.proofs.Common.{refl, sym, ap, subst, ◌∙◌}
use Rattle.ak_base.specs.declared.heads.Head.{Head}
use Rattle.ak_base.specs.declared.names.Table.{Table}
use Rattle.ak_base.specs.declared.rows.Row.{Row}
use Rattle.ak_keep.specs.Collections.{Collection, Holding, IsPageOf, Rows, collection_of, rows_past}
use Rattle.ak_keep.specs.Keepers.{Keeping, WhereTold, back}
use Rattle.ak_keep.specs.Marks.{WithMark}
use Rattle.ak_protocol.proofs.Cases.{not_none}
use Rattle.ak_protocol.specs.Accounts.{AccountState, viewed}
use Rattle.ak_protocol.specs.Logs.{View, server_next}
use Rattle.ak_protocol.specs.Servers.{ServerState, by_view}
use Rattle.ak_server.proofs.Beginning.{over_back, over_right, under_back}
use Rattle.ak_server.proofs.Keepings.{tables_back}
use Rattle.ak_server.proofs.Seeing.{same_some, see, seen_as}
use Rattle.ak_server.proofs.Standing.{none_state, stands_next, state_of}
use Rattle.ak_server.specs.Accounts.{AreGranted, IsPlaceOf, IsRight, StandsFor, account_at, account_seen, tables_in}
use Rattle.ak_server.specs.Servers.{IsViewed, ViewsRows}
use Rattle.ak_server.specs.declared.accounts.Account.{Account}
use Rattle.ak_server_rules.specs.Sessions.{kept_seen, session_seen}
use Rattle.ak_server_rules.specs.Summaries.{account_summary}

-- ---- one account
module _ {K : Type 0} (keeping : K → Keeping) (old new : Account K) (right : IsRight keeping old) (view : IsViewed keeping old new) where
  live_viewed : new.live ≡ None
  live_viewed = ap (λ (a : Account K). a.live) view.rest

  pub kept_viewed : new.kept ≡ old.kept
  kept_viewed = ap (λ (a : Account K). a.kept) view.rest

  pub host_viewed : new.host ≡ old.host
  host_viewed = ap (λ (a : Account K). a.host) view.rest

  pub right_viewed : IsRight keeping new
  right_viewed = over_right keeping old new right view.keeper live_viewed
      (subst AreGranted (sym kept_viewed) right.granted)

  pub seen_viewed : (s : AccountState) → account_seen keeping old ≡ Some (account_summary s) → account_seen keeping new ≡ Some (account_summary (viewed s))
  seen_viewed s own =
      let seen = see keeping old (account_summary s) own in
      seen_as keeping new s.committed s.committed None s.kept
      (over_back keeping old new right view.keeper s.committed seen.committed) (under_back keeping old new right view.keeper s.committed seen.committed)
      (ap (option_map (session_seen s.committed)) live_viewed) (ap (option_map kept_seen) kept_viewed ∙ sym seen.kept)

-- ---- what is read
rows_by : (rows : Rows) (head : Option Head) (c : Collection) → option_map (λ (h : Head). record { rows = rows; head = h }) head ≡ Some c → (rows ≡ c.rows) × (head ≡ Some c.head)
rows_by rows None c is = absurd (not_none (sym is))
rows_by rows (Some h) c is =
    let same = same_some (record { rows = rows; head = h }) c is in
    (ap (λ (x : Collection). x.rows) same, ap (λ (x : Collection). Some x.head) same)

by_rows : (t : Option (WithMark Holding)) (P : Rows → Type 0) (c : Collection) → IfSome t (λ w. P w.current.rows)
    → option_and_then (λ (w : WithMark Holding). collection_of w.current) t ≡ Some c → P c.rows
by_rows None P c told is = absurd (not_none (sym is))
by_rows (Some w) P c told is = subst P (rows_by w.current.rows w.current.head c is).0 told

by_head : (t : Option (WithMark Holding)) (head : Option Head) (c : Collection) → IfSome t (λ w. head ≡ w.current.head)
    → option_and_then (λ (w : WithMark Holding). collection_of w.current) t ≡ Some c → head ≡ Some c.head
by_head None head c told is = absurd (not_none (sym is))
by_head (Some w) head c told is = told ∙ (rows_by w.current.rows w.current.head c is).1

-- ---- the server
module _ {K : Type 0} (keeping : K → Keeping) (old new : List (Account K)) (host : List ℕ) (place : ℕ) (a b : Account K) (at : IsPlaceOf host old place)
    (got : slice_get old place ≡ Some a) (made : new ≡ slice_set old place b) (right : IsRight keeping a) (view : IsViewed keeping a b) where
  named : b.host ≡ a.host
  named = host_viewed keeping a b right view

  pub ends_known : (server : ServerState) → StandsFor keeping old server → StandsFor keeping new (server_next server (View host))
  ends_known server stands =
      let state = state_of keeping old new host place a b at got made named server stands in
      subst (StandsFor keeping new) (sym (ap (λ (o : Option AccountState). by_view o host server) state.1.0))
      (stands_next keeping old new host place a b at got made named server (viewed state.0) stands (seen_viewed keeping a b right view state.0 state.1.1))

  committed_known : (server : ServerState) (stands : StandsFor keeping old server)
      → tables_in (back (keeping a.keeper)) ≡ Some (state_of keeping old new host place a b at got made named server stands).0.committed
  committed_known server stands =
      let state = state_of keeping old new host place a b at got made named server stands in
      tables_back (keeping a.keeper) ∙ (see keeping a (account_summary state.0) state.1.1).committed

  pub rows_known : (table : Table) (past : ℤ) (limit : ℕ) (page : List Row)
      → WhereTold (back (keeping a.keeper)) (λ h. IsPageOf (λ past. rows_past table past h.rows) past limit page)
      → (server : ServerState) → StandsFor keeping old server → ViewsRows table past limit (server host) (Some page)
  rows_known table past limit page told server stands =
      let state = state_of keeping old new host place a b at got made named server stands in
      subst (λ (o : Option AccountState). ViewsRows table past limit o (Some page)) (sym state.1.0)
      (by_rows (back (keeping a.keeper)).told (λ (rows : Rows). IsPageOf (λ past. rows_past table past rows) past limit page) state.0.committed told (committed_known server stands))

  pub head_known : (head : Option Head) → WhereTold (back (keeping a.keeper)) (λ h. head ≡ h.head)
      → (server : ServerState) → StandsFor keeping old server → head ≡ option_map (λ (s : AccountState). s.committed.head) (server host)
  head_known head told server stands =
      let state = state_of keeping old new host place a b at got made named server stands in
      by_head (back (keeping a.keeper)).told head state.0.committed told (committed_known server stands)
      ∙ sym (ap (option_map (λ (s : AccountState). s.committed.head)) state.1.0)

-- a host key that is no account's
module _ {K : Type 0} (keeping : K → Keeping) (accounts : List (Account K)) (host : List ℕ) (none : account_at host accounts ≡ None) where
  no_state : (server : ServerState) → StandsFor keeping accounts server → server host ≡ None
  no_state server stands = none_state (server host) (sym (ap (option_map (account_seen keeping)) none) ∙ stands.each host)

  pub ends_unknown : (server : ServerState) → StandsFor keeping accounts server → StandsFor keeping accounts (server_next server (View host))
  ends_unknown server stands = subst (StandsFor keeping accounts) (sym (ap (λ (o : Option AccountState). by_view o host server) (no_state server stands))) stands

  pub rows_unknown : (table : Table) (past : ℤ) (limit : ℕ) (server : ServerState) → StandsFor keeping accounts server → ViewsRows table past limit (server host) None
  rows_unknown table past limit server stands = subst (λ (o : Option AccountState). ViewsRows table past limit o None) (sym (no_state server stands)) refl

  pub head_unknown : (server : ServerState) → StandsFor keeping accounts server → None ≡ option_map (λ (s : AccountState). s.committed.head) (server host)
  head_unknown server stands = sym (ap (option_map (λ (s : AccountState). s.committed.head)) (no_state server stands))

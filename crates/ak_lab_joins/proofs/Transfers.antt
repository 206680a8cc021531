-- The laws of a lab's uploads and downloads.
use Rattle.std.specs.Prelude.{◌≡◌, ◌≢◌, ◌⊎◌, ℕ, ◌+ℤ◌, true, List, Some}
use Rattle.std.proofs.Common.{refl, sym, ap, subst, ◌∙◌, inl, inr}
use Rattle.ak_client.specs.declared.outcomes.Outcome.{Outcome}
use Rattle.ak_client.specs.declared.outcomes.Outcome.TheVariants as outcomes
use Rattle.ak_faults.specs.Causes.{one_more}
use Rattle.ak_keep.specs.Collections.{Collection}
use Rattle.ak_lab.specs.LabStates.{LabState}
use Rattle.ak_lab.specs.LabSyncs.{server_met, with_fails}
use Rattle.ak_lab_wires.specs.LabSessions.{lab_host}
use Rattle.ak_lab_wires.specs.declared.lab_sessions.SessionKind.{SessionKind}
use Rattle.ak_lab_wires.specs.declared.lab_sessions.SessionKind.TheVariants as kinds
use Rattle.ak_lab_devices.proofs.Places.{found_has_name}
use Rattle.ak_lab_devices.specs.Devices.{device_of, keeping_of}
use Rattle.ak_lab_devices.specs.declared.devices.Device.{Device}
use Rattle.ak_lab_joins.proofs.Alone.{EndsAlone}
use Rattle.ak_lab_joins.proofs.Devices.{changed_found, changed_or_old, others_found}
use Rattle.ak_lab_joins.proofs.Here as here
use Rattle.ak_lab_joins.proofs.Names.{changed_unlike}
use Rattle.ak_lab_joins.proofs.Servers.{committed_is, fails_unset}
use Rattle.ak_lab_joins.proofs.Synced.{holds_is, known_is}
use Rattle.ak_lab_joins.proofs.Transferred as transferred
use Rattle.ak_lab_joins.proofs.Transferred.{CommitsNoneOrUpload, EndsAfterAsk, TransferTold}
use Rattle.ak_lab_joins.proofs.Worlds.{StaysQuiet}
use Rattle.ak_lab_joins.specs.LabJoins.{CommitsOnceIn, DeviceHolds, LeavesDownload, HasFreshServer, HasSession, HoldsCopy, IsLinkedDevice, IsLinkedLab, IsLinkedServer, KeepsCommitted, KeepsOthers, KeepsTransferSides, MayHoldUpload, LeavesUpload, committed_of, lab_world, world_in, may_have_uploaded}
use Rattle.ak_lab_devices.specs.RestingKeepers.{kept_of}
use Rattle.ak_lab_lines.specs.declared.lab_lines.Direction.{Direction}
use Rattle.ak_lab_lines.specs.declared.lab_lines.Direction.TheVariants as directions
use Rattle.ak_sync_in_memory.specs.Entries.{log_in}
use Rattle.ak_merge.proofs.FirstLinks.{copies_are_linked}
use Rattle.ak_merge.specs.Commits.{IsCopyOf}
use Rattle.ak_protocol.specs.Accounts.{AccountState}
use Rattle.ak_protocol.specs.Logs.{World}
use Rattle.ak_transfers.specs.Transfers.{HoldsUpload}

module _ (account : AccountState) (direction : Direction) (name : List ℕ) (s t : LabState) (outcome : Outcome) (linked : IsLinkedLab account s) (room : HasSession s)
    (ends : EndsAlone (kinds.Transfer direction) name s t outcome) where
  abbrev kind : SessionKind
  kind = kinds.Transfer direction

  abbrev same_host : lab_host ≡ ends.session.ids.host.digits
  same_host = here.same_host kind account name s t outcome linked ends

  abbrev server_here : IsLinkedServer ends.session.ids.host.digits account s.sessions (server_met kind s)
  server_here = here.server_here kind account name s t outcome linked ends

  abbrev device_here : IsLinkedDevice (world_in ends.session.ids.host.digits account s.server).state.committed ends.d
  device_here = here.device_here kind account name s t outcome linked ends

  abbrev own : IsLinkedDevice (committed_of account s) ends.d
  own = linked.devices name ends.d ends.found

  server_left : IsLinkedServer lab_host account (one_more s.sessions) t.server
  server_left =
      subst (λ (h : List ℕ). IsLinkedServer h account (one_more s.sessions) t.server) (sym same_host)
      (fails_unset ends.session.ids.host.digits account (one_more s.sessions) t.server ends.fails_left
      (transferred.server_now direction account s.sessions s.clock (s.clock +ℤ ends.d.shift) ends.d ends.made (server_met kind s) (with_fails ends.fails_left t.server) outcome room ends.session server_here device_here))

  -- the server's schema moment is as it was, or not this one's
  abbrev IsApart : Collection → Type 0
  IsApart e = ((committed_of account t).head.schema ≡ (committed_of account s).head.schema) ⊎ (e.head.schema ≢ (committed_of account t).head.schema)

  apart : HasFreshServer account s t → (other : List ℕ) (d : Device) → device_of other s.devices ≡ Some d → (held : Collection) → d.collection ≡ kept_of held → IsApart held
  apart (inl same) other d found held is = inl same
  apart (inr differs) other d found held is = inr (differs other held (d, found, holds_is d held is))

  -- the same by the host key of the session
  apart_here : (e : Collection) → IsApart e
      → transferred.KeepsApart direction account s.sessions s.clock (s.clock +ℤ ends.d.shift) ends.d ends.made (server_met kind s) (with_fails ends.fails_left t.server) outcome room ends.session server_here device_here e
  apart_here e is =
      subst (λ (h : List ℕ). ((world_in h account t.server).state.committed.head.schema ≡ (world_in h account s.server).state.committed.head.schema)
      ⊎ (e.head.schema ≢ (world_in h account t.server).state.committed.head.schema)) same_host is

  made_left : HasFreshServer account s t → IsLinkedDevice (committed_of account t) ends.made
  made_left fresh =
      subst (λ (h : List ℕ). IsLinkedDevice (world_in h account t.server).state.committed ends.made) (sym same_host)
      (transferred.made_now direction account s.sessions s.clock (s.clock +ℤ ends.d.shift) ends.d ends.made (server_met kind s) (with_fails ends.fails_left t.server) outcome room ends.session server_here device_here
      (λ held is. apart_here held (apart fresh name ends.d ends.found held is)))

  other_left : HasFreshServer account s t → (other : List ℕ) (d : Device) → device_of other s.devices ≡ Some d → IsLinkedDevice (committed_of account t) d
  other_left fresh other d found =
      subst (λ (h : List ℕ). IsLinkedDevice (world_in h account t.server).state.committed d) (sym same_host)
      (transferred.others_now direction account s.sessions s.clock (s.clock +ℤ ends.d.shift) ends.d ends.made (server_met kind s) (with_fails ends.fails_left t.server) outcome room ends.session server_here device_here
      d (here.linked_here kind account name s t outcome linked ends d (linked.devices other d found)) (λ held is. apart_here held (apart fresh other d found held is)))

  pub transfer_linked : HasFreshServer account s t → IsLinkedLab account t
  transfer_linked fresh =
      subst (IsLinkedLab account) (sym ends.left) (record {
        server = server_left;
        names = changed_unlike ends.made s.devices linked.names;
        devices = λ other d found. by other d (changed_or_old ends.made s.devices other d found);
      })
    where
      by : (other : List ℕ) (d : Device) → (ends.made ≡ d) ⊎ (device_of other s.devices ≡ Some d) → IsLinkedDevice (committed_of account t) d
      by other d (inl is) = subst (λ (x : Device). IsLinkedDevice (committed_of account t) x) is (made_left fresh)
      by other d (inr found) = other_left fresh other d found

  -- ---- what is committed, by the lab's host key and the session's number
  pub told : TransferTold direction ends.session.ids.session.0 ends.session.ids own.c account (log_in s.server) (log_in t.server) (keeping_of ends.made) outcome
  told = transferred.told direction account s.sessions s.clock (s.clock +ℤ ends.d.shift) ends.d ends.made (server_met kind s) (with_fails ends.fails_left t.server) outcome room ends.session server_here device_here

  pub committed_so : CommitsNoneOrUpload (one_more s.sessions) own.c (lab_world account s) (lab_world account t)
  committed_so =
      subst (λ (key : ℕ). CommitsNoneOrUpload key own.c (lab_world account s) (lab_world account t)) ends.session.of.session
      (subst (λ (h : List ℕ). CommitsNoneOrUpload ends.session.ids.session.0 own.c (world_in h account s.server) (world_in h account t.server)) (sym same_host) told.committed)

  pub early_so : StaysQuiet (lab_world account s) (lab_world account t) ⊎ EndsAfterAsk outcome
  early_so =
      subst (λ (h : List ℕ). StaysQuiet (world_in h account s.server) (world_in h account t.server) ⊎ EndsAfterAsk outcome) (sym same_host) told.early

  -- ---- what a line leaves that transfers
  own_name : ends.made.name ≡ name
  own_name = ap (λ (x : Device). x.name) ends.session.rest ∙ found_has_name name s.devices ends.d ends.found

  pub keeps_others : KeepsOthers (kinds.Transfer direction) name s t
  keeps_others = record {
    clock = ap (λ (x : LabState). x.clock) ends.left;
    sessions = ap (λ (x : LabState). x.sessions) ends.left;
    breaks = ap (λ (x : LabState). x.fails) ends.left;
    others = λ other differ. ap (λ (x : LabState). device_of other x.devices) ends.left
        ∙ others_found ends.made s.devices other (λ is. differ (sym is ∙ own_name));
    d = ends.d;
    made = ends.made;
    was = ends.found;
    now = ap (λ (x : LabState). device_of name x.devices) ends.left ∙ changed_found ends.made ends.d s.devices name own_name ends.found;
    rest = ends.session.plan;
  }

  pub same_calls : ends.made.calls ≡ ends.d.calls
  same_calls = ends.session.calls

  was_held : DeviceHolds name s own.c
  was_held = here.here_holds name s ends.d own.c ends.found (known_is ends.d own.c own.holds)

  -- ---- finished
  pub copies : outcome ≡ outcomes.Finished → HoldsCopy account name t
  copies is =
      let it = told.finished is in
      let copy : IsCopyOf (committed_of account t) it.0 = subst (λ (h : List ℕ). IsCopyOf (world_in h account t.server).state.committed it.0) (sym same_host) it.2 in
      record {
        device = it.0;
        holds = here.left_holds kind account name s t outcome linked ends it.0 it.1;
        committed = committed_is lab_host account (one_more s.sessions) t.server server_left;
        copy = copy;
        linked = copies_are_linked (committed_of account t) it.0 server_left.lawful.committed copy;
      }

  -- ---- not finished
  pub held_still : outcome ≢ outcomes.Finished → DeviceHolds name t own.c
  held_still other =
      here.left_holds kind account name s t outcome linked ends own.c
      (transferred.kept direction account s.sessions s.clock (s.clock +ℤ ends.d.shift) ends.d ends.made (server_met kind s) (with_fails ends.fails_left t.server) outcome room ends.session server_here device_here other
      ∙ known_is ends.d own.c own.holds)

-- ---- what a server has committed
kept_committed : (before after : World) → StaysQuiet before after → KeepsCommitted before after
kept_committed before after quiet = (quiet.committed, quiet.commits)

-- a download commits nothing
pub download_quiet : (account : AccountState) (name : List ℕ) (s t : LabState) (outcome : Outcome) → IsLinkedLab account s → HasSession s
    → EndsAlone (kinds.Transfer directions.Download) name s t outcome → StaysQuiet (lab_world account s) (lab_world account t)
download_quiet account name s t outcome linked room ends =
    subst (λ (h : List ℕ). StaysQuiet (world_in h account s.server) (world_in h account t.server)) ends.session.of.host
    (told account directions.Download name s t outcome linked room ends).by_direction

pub download_keeps_schema : (account : AccountState) (name : List ℕ) (s t : LabState) (outcome : Outcome) → IsLinkedLab account s → HasSession s
    → EndsAlone (kinds.Transfer directions.Download) name s t outcome → (committed_of account t).head.schema ≡ (committed_of account s).head.schema
download_keeps_schema account name s t outcome linked room ends =
    ap (λ (c : Collection). c.head.schema) (download_quiet account name s t outcome linked room ends).committed

-- ---- the laws
-- an upload that finished committed
pub uploads : (account : AccountState) (name : List ℕ) (s t : LabState) → IsLinkedLab account s → HasSession s → EndsAlone (kinds.Transfer directions.Upload) name s t outcomes.Finished
    → LeavesUpload account name s t
unfolding keeps_others
uploads account name s t linked room ends =
    let once = (told account directions.Upload name s t outcomes.Finished linked room ends).by_direction refl in
    let c : Collection = (linked.devices name ends.d ends.found).c in
    record {
      c = c;
      held = was_held account directions.Upload name s t outcomes.Finished linked room ends;
      once = subst (λ (key : ℕ). CommitsOnceIn key (lab_world account s) (lab_world account t)) ends.session.of.session
          (subst (λ (h : List ℕ). CommitsOnceIn ends.session.ids.session.0 (world_in h account s.server) (world_in h account t.server)) ends.session.of.host once.0);
      upload = subst (λ (h : List ℕ). HoldsUpload c (world_in h account s.server).state.committed (world_in h account t.server).state.committed) ends.session.of.host once.1;
      copy = copies account directions.Upload name s t outcomes.Finished linked room ends refl;
      linked = transfer_linked account directions.Upload name s t outcomes.Finished linked room ends;
      keeps = keeps_others account directions.Upload name s t outcomes.Finished linked room ends;
      calls = same_calls account directions.Upload name s t outcomes.Finished linked room ends;
    }

pub downloads : (account : AccountState) (name : List ℕ) (s t : LabState) → IsLinkedLab account s → HasSession s → EndsAlone (kinds.Transfer directions.Download) name s t outcomes.Finished
    → LeavesDownload account name s t
unfolding keeps_others
downloads account name s t linked room ends = record {
  kept = kept_committed (lab_world account s) (lab_world account t) (download_quiet account name s t outcomes.Finished linked room ends);
  copy = copies account directions.Download name s t outcomes.Finished linked room ends refl;
  linked = transfer_linked account directions.Download name s t outcomes.Finished linked room ends
      (inl (download_keeps_schema account name s t outcomes.Finished linked room ends));
  keeps = keeps_others account directions.Download name s t outcomes.Finished linked room ends;
  calls = same_calls account directions.Download name s t outcomes.Finished linked room ends;
}

pub keeps_sides : (direction : Direction) (account : AccountState) (name : List ℕ) (s t : LabState) (outcome : Outcome) → IsLinkedLab account s → HasSession s
    → outcome ≢ outcomes.Finished → EndsAlone (kinds.Transfer direction) name s t outcome → KeepsTransferSides direction account name s t outcome
unfolding keeps_others
keeps_sides direction account name s t outcome linked room other ends = record {
  c = (linked.devices name ends.d ends.found).c;
  held = was_held account direction name s t outcome linked room ends;
  holds = held_still account direction name s t outcome linked room ends other;
  server = by direction ends;
  linked = transfer_linked account direction name s t outcome linked room ends;
  keeps = keeps_others account direction name s t outcome linked room ends;
  calls = same_calls account direction name s t outcome linked room ends;
}
  where
    quiet_now : StaysQuiet (lab_world account s) (lab_world account t) → KeepsCommitted (lab_world account s) (lab_world account t)
    quiet_now = kept_committed (lab_world account s) (lab_world account t)

    may_have : EndsAfterAsk outcome → may_have_uploaded outcome ≡ true
    may_have (inl is) = is
    may_have (inr (inl finished)) = absurd (other finished)
    may_have (inr (inr (inl lost))) = absurd (ends.session.unlost refl lost)
    may_have (inr (inr (inr kept))) = absurd (ends.session.unfailed refl kept)

    none_or_once : (c : Collection) → StaysQuiet (lab_world account s) (lab_world account t) ⊎ EndsAfterAsk outcome
        → CommitsNoneOrUpload (one_more s.sessions) c (lab_world account s) (lab_world account t)
        → MayHoldUpload directions.Upload (one_more s.sessions) c (lab_world account s) (lab_world account t) outcome
    none_or_once c (inl quiet) committed = inl (quiet_now quiet)
    none_or_once c (inr ended) (inl quiet) = inl (quiet_now quiet)
    none_or_once c (inr ended) (inr once) = inr (may_have ended, once.0, once.1)

    by : (way : Direction) → (it : EndsAlone (kinds.Transfer way) name s t outcome)
        → MayHoldUpload way (one_more s.sessions) (linked.devices name it.d it.found).c (lab_world account s) (lab_world account t) outcome
    by directions.Upload it =
        none_or_once (linked.devices name it.d it.found).c (early_so account directions.Upload name s t outcome linked room it)
        (committed_so account directions.Upload name s t outcome linked room it)
    by directions.Download it = quiet_now (download_quiet account name s t outcome linked room it)

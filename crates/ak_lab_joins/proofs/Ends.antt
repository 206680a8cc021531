-- The law of a lab's sync: finished, both sides hold the join; otherwise they hold what they held.
use Rattle.std.specs.List.{AllByRecursion}
use Rattle.std.specs.Prelude.{◌≡◌, ◌≢◌, ◌⊎◌, ℕ, suc, ℤ, pos, ◌+◌, ◌+ℤ◌, Bool, true, false, List, [], ◌∷◌, ◌++◌, length, Some}
use Rattle.std.proofs.Common.{refl, sym, ap, subst, ◌∙◌, inl, inr, append_assoc, arith, rules}
use Rattle.std.proofs.lemmas.Option.{same_Some}
use Rattle.ak_client.specs.Syncs.{ends_before_finish}
use Rattle.ak_client.specs.declared.outcomes.Outcome.{Outcome}
use Rattle.ak_client.specs.declared.outcomes.Outcome.TheVariants as outcomes
use Rattle.ak_faults.specs.Causes.{one_more}
use Rattle.ak_io.specs.declared.lines.Line.{Line}
use Rattle.ak_keep.specs.Collections.{Collection}
use Rattle.ak_lab.specs.LineOutcomes.{EndsAs}
use Rattle.ak_lab_joins.proofs.Alone.{EndsAlone, sync_alone}
use Rattle.ak_lab_joins.proofs.Counts.{all_room, fresh_goes}
use Rattle.ak_lab_joins.proofs.Devices.{changed_found, others_found}
use Rattle.ak_lab_joins.proofs.Lines as law_lines
use Rattle.ak_lab_joins.proofs.Lines.{LinesStep, all_linked, at_line_linked, base_of, opened_linked, sync_linked}
use Rattle.ak_lab_joins.proofs.Ordered.{at_line_ordered, run_unloaded, sync_fresh}
use Rattle.ak_lab_joins.proofs.Servers.{committed_is}
use Rattle.ak_lab_joins.proofs.Syncs.{CommitsNoneOrJoin}
use Rattle.ak_lab_joins.proofs.Synced as synced
use Rattle.ak_lab_joins.proofs.Synced.{holds_is}
use Rattle.ak_lab_joins.proofs.Worlds.{commit_as, StaysQuiet}
use Rattle.ak_lab_joins.specs.LabJoins.{Agrees, AllGoFresh, CommitsOnceIn, Finishes, GoFresh, HasFreshCheck, HasSession, IsLinkedDevice, IsLinkedLab, IsLinkedServer, KeepsCommitted, KeepsOthers, KeepsSides, MayHoldJoin, PlansNothing, RunsToSync, SaysNoUpload, StillCommits, StillHolds, ends_at_check, world_in}
use Rattle.ak_lab.specs.LabRuns.{IsLabOpening}
use Rattle.ak_lab.specs.LabStates.{LabState, at_line, opened_lab}
use Rattle.ak_lab_wires.specs.LabSessions.{lab_host}
use Rattle.ak_lab.specs.LabSyncs.{EndsSync, server_met, with_fails}
use Rattle.ak_lab_wires.specs.declared.lab_sessions.SessionKind.{SessionKind}
use Rattle.ak_lab_wires.specs.declared.lab_sessions.SessionKind.TheVariants as kinds
use Rattle.ak_lab_devices.proofs.Places.{found_has_name}
use Rattle.ak_lab_devices.specs.Devices.{device_of}
use Rattle.ak_lab_devices.specs.declared.devices.Device.{Device}
use Rattle.ak_lab_devices.specs.RestingKeepers.{Holds}
use Rattle.ak_line_runs.specs.LineRuns.{AllGo}
use Rattle.ak_sync_in_memory.specs.Entries.{account_opened}
use Rattle.ak_merge.specs.Exchanges.{AreExchanged, HoldsJoin}
use Rattle.ak_merge.specs.Holdings.{SameContent, content_of}
use Rattle.ak_openings.specs.declared.whole_collections.Opening.{Opening}
use Rattle.ak_protocol.specs.Accounts.{AccountState}
use Rattle.ak_protocol.specs.Logs.{World}

-- ---- what is said of a session is said of the one of its number
once_by_number : (key key' : ℕ) (before after : World) → key ≡ key' → CommitsOnceIn key before after → CommitsOnceIn key' before after
once_by_number key key' before after own one = one ∙ ap (λ (k : ℕ). commit_as k before.state.committed after.state.committed ∷ before.commits) own

by_number : (key key' : ℕ) (c : Collection) (before after : World) → key ≡ key' → CommitsNoneOrJoin key c before after
    → KeepsCommitted before after ⊎ CommitsOnceIn key' before after × HoldsJoin c before.state.committed after.state.committed
by_number key key' c before after own (inl stays) = inl (stays.committed, stays.commits)
by_number key key' c before after own (inr (one, joins)) = inr (once_by_number key key' before after own one, joins)

-- ---- a sync
module _ (account : AccountState) (name : List ℕ) (s t : LabState) (outcome : Outcome) (linked : IsLinkedLab account s) (room : HasSession s)
    (ends : EndsAlone kinds.Sync name s t outcome) (enough : outcome ≢ outcomes.Memory) where
  abbrev host : List ℕ
  host = ends.session.ids.host.digits

  abbrev same_host : host ≡ lab_host
  same_host = ends.session.of.host

  abbrev own : IsLinkedDevice (base_of account s) ends.d
  own = linked.devices name ends.d ends.found

  abbrev server_here : IsLinkedServer ends.session.ids.host.digits account s.sessions (server_met kinds.Sync s)
  server_here = law_lines.server_here account name s t outcome linked room ends enough

  abbrev device_here : IsLinkedDevice (world_in ends.session.ids.host.digits account s.server).state.committed ends.d
  device_here = law_lines.device_here account name s t outcome linked room ends enough

  lab_now : HasFreshCheck account name s t outcome → IsLinkedLab account t
  lab_now fresh = sync_linked account name s t outcome linked room ends enough fresh

  -- the device of the name
  own_name : ends.made.name ≡ name
  own_name = ap (λ (x : Device). x.name) ends.session.rest ∙ found_has_name name s.devices ends.d ends.found

  -- whose clock stays
  own_shift : ends.made.shift ≡ ends.d.shift
  own_shift = ap (λ (x : Device). x.shift) ends.session.rest

  now_found : device_of name t.devices ≡ Some ends.made
  now_found =
      ap (λ (x : LabState). device_of name x.devices) ends.left
      ∙ changed_found ends.made ends.d s.devices name own_name ends.found

  was_held : (d : Device) → device_of name s.devices ≡ Some d → Holds d.collection own.c
  was_held d found =
      subst (λ (x : Device). Holds x.collection own.c) (same_Some ends.d d (sym ends.found ∙ found)) (holds_is ends.d own.c own.holds)

  pub keeps_others : KeepsOthers kinds.Sync name s t
  keeps_others = record {
    clock = ap (λ (x : LabState). x.clock) ends.left;
    sessions = ap (λ (x : LabState). x.sessions) ends.left;
    breaks = ap (λ (x : LabState). x.fails) ends.left;
    others = λ other differ. ap (λ (x : LabState). device_of other x.devices) ends.left
        ∙ others_found ends.made s.devices other (λ is. differ (sym is ∙ own_name));
    d = ends.d;
    made = ends.made;
    was = ends.found;
    now = now_found;
    rest = ends.session.plan;
  }

  -- what was committed, by the lab's host key
  abbrev Committed : List ℕ → Type 0
  Committed h = CommitsNoneOrJoin ends.session.ids.session.0 own.c (world_in h account s.server) (world_in h account t.server)

  pub committed_so : MayHoldJoin (one_more s.sessions) own.c (world_in lab_host account s.server) (world_in lab_host account t.server)
  committed_so =
      by_number ends.session.ids.session.0 (one_more s.sessions) own.c (world_in lab_host account s.server) (world_in lab_host account t.server) ends.session.of.session
      (subst Committed same_host
      (synced.committed account s.sessions s.clock (s.clock +ℤ ends.d.shift) ends.d ends.made (server_met kinds.Sync s) (with_fails ends.fails_left t.server) outcome room ends.session
      server_here device_here))

  -- ---- not finished
  pub kept_early : ends_before_finish outcome ≡ true → KeepsCommitted (world_in lab_host account s.server) (world_in lab_host account t.server)
  kept_early early =
      let stays = subst (λ (h : List ℕ). StaysQuiet (world_in h account s.server) (world_in h account t.server)) same_host
      (synced.early_quiet account s.sessions s.clock (s.clock +ℤ ends.d.shift) ends.d ends.made (server_met kinds.Sync s) (with_fails ends.fails_left t.server) outcome room ends.session
      server_here device_here early) in
      (stays.committed, stays.commits)

  -- the server after any end but a finished one
  still_commits : outcome ≢ outcomes.Finished → (o : Outcome) → outcome ≡ o
      → StillCommits (one_more s.sessions) own.c (world_in lab_host account s.server) (world_in lab_host account t.server) o
  still_commits other outcomes.Finished is = absurd (other is)
  still_commits other outcomes.NoChanges is = kept_early (ap ends_before_finish is)
  still_commits other (outcomes.FullSchema device server) is = kept_early (ap ends_before_finish is)
  still_commits other (outcomes.FullSequence usn) is = kept_early (ap ends_before_finish is)
  still_commits other (outcomes.BadRow fault) is = kept_early (ap ends_before_finish is)
  still_commits other (outcomes.BadCounts client server) is = kept_early (ap ends_before_finish is)
  still_commits other (outcomes.ClockOff device server) is = kept_early (ap ends_before_finish is)
  still_commits other (outcomes.OwnCheck fault) is = kept_early (ap ends_before_finish is)
  still_commits other outcomes.Stopped is = kept_early (ap ends_before_finish is)
  still_commits other (outcomes.Refused status word seen) is = committed_so
  still_commits other outcomes.Lost is = committed_so
  still_commits other outcomes.BadReply is = committed_so
  still_commits other outcomes.TooManyChunks is = kept_early (ap ends_before_finish is)
  still_commits other outcomes.Keep is = committed_so
  still_commits other outcomes.Memory is = absurd (enough is)

  pub keeps_sides : HasFreshCheck account name s t outcome → outcome ≢ outcomes.Finished → KeepsSides account name s t outcome
  keeps_sides fresh other = record {
    c = own.c;
    held = was_held;
    device = λ d found. subst (λ (x : Device). StillHolds (s.clock +ℤ x.shift) own.c outcome x) (same_Some ends.made d (sym now_found ∙ found))
        (subst (λ (m : ℤ). StillHolds (s.clock +ℤ m) own.c outcome ends.made) (sym own_shift)
        (synced.still_holds account s.sessions s.clock (s.clock +ℤ ends.d.shift) ends.d ends.made (server_met kinds.Sync s) (with_fails ends.fails_left t.server) outcome room ends.session
        server_here device_here (law_lines.check_here account name s t outcome linked room ends enough fresh) other));
    server = still_commits other outcome refl;
    linked = lab_now fresh;
    keeps = keeps_others;
  }

  -- ---- nothing to sync
  pub agrees : outcome ≡ outcomes.NoChanges → Agrees account name s
  agrees is = record {
    c = own.c;
    held = was_held;
    same = subst (λ (h : List ℕ). SameContent (content_of own.c) (content_of (world_in h account s.server).state.committed)) same_host
        (synced.agreed_now account s.sessions s.clock (s.clock +ℤ ends.d.shift) ends.d ends.made (server_met kinds.Sync s) (with_fails ends.fails_left t.server) outcome room ends.session
        server_here device_here is);
  }

  -- ---- finished
  -- its sanity check was not bad
  good : outcome ≡ outcomes.Finished → HasFreshCheck account name s t outcome
  good is bad = absurd (not_both bad (ap ends_at_check is))
    where
      not_both : {b : Bool} → b ≡ true → b ≡ false → ⊥
      not_both one other = grind (arith, one, other)

  pub finishes : outcome ≡ outcomes.Finished → Finishes account name s t
  finishes is =
      let now = lab_now (good is) in
      let it = synced.finished_now account s.sessions s.clock (s.clock +ℤ ends.d.shift) ends.d ends.made (server_met kinds.Sync s) (with_fails ends.fails_left t.server) outcome room ends.session
      server_here device_here is in
      let exchanged : AreExchanged own.c (base_of account s) it.device (base_of account t) =
      subst (λ (h : List ℕ). AreExchanged own.c (world_in h account s.server).state.committed it.device (world_in h account t.server).state.committed) same_host it.exchanged in
      let moment : it.device.head.moment ≡ (base_of account t).head.moment =
      subst (λ (h : List ℕ). it.device.head.moment ≡ (world_in h account t.server).state.committed.head.moment) same_host it.moment in
      let server_number : (base_of account t).head.usn ≡ (base_of account s).head.usn +ℤ pos 1 =
      subst (λ (h : List ℕ). (world_in h account t.server).state.committed.head.usn ≡ (world_in h account s.server).state.committed.head.usn +ℤ pos 1) same_host it.server_number in
      let device_number : it.device.head.usn ≡ (base_of account s).head.usn +ℤ pos 1 =
      subst (λ (h : List ℕ). it.device.head.usn ≡ (world_in h account s.server).state.committed.head.usn +ℤ pos 1) same_host it.device_number in
      let once : CommitsOnceIn (one_more s.sessions) (world_in lab_host account s.server) (world_in lab_host account t.server) =
      once_by_number ends.session.ids.session.0 (one_more s.sessions) (world_in lab_host account s.server) (world_in lab_host account t.server) ends.session.of.session
      (subst (λ (h : List ℕ). CommitsOnceIn ends.session.ids.session.0 (world_in h account s.server) (world_in h account t.server)) same_host it.once) in
      record {
        joins = record {
          device = own.c;
          server = base_of account s;
          device_now = it.device;
          server_now = base_of account t;
          held = was_held;
          committed = committed_is lab_host account s.sessions s.server linked.server;
          held_now = λ d found. subst (λ (x : Device). Holds x.collection it.device) (same_Some ends.made d (sym now_found ∙ found))
              (holds_is ends.made it.device it.kept);
          committed_now = committed_is lab_host account t.sessions t.server now.server;
          same = exchanged.same;
          joined = exchanged.server;
          past_device = exchanged.past_device;
          past_server = exchanged.past_server;
          moment = moment;
          last_sync = exchanged.last_sync;
          device_number = device_number;
          server_number = server_number;
          linked = exchanged.linked;
        };
        once = once;
        linked = now;
        keeps = keeps_others;
      }

-- ---- one line
not_memory : outcomes.Finished ≢ outcomes.Memory
not_memory is = absurd (search (is, rules))

unchanged_enough : outcomes.NoChanges ≢ outcomes.Memory
unchanged_enough is = absurd (search (is, rules))

pub unchanged_agrees : (account : AccountState) (name : List ℕ) (s t : LabState) (crossed : List (List ℕ)) → IsLinkedLab account s → HasSession s → PlansNothing name s
    → EndsSync name s t crossed outcomes.NoChanges → Agrees account name s
unchanged_agrees account name s t crossed linked room plans ends =
    agrees account name s t outcomes.NoChanges linked room (sync_alone name s t crossed outcomes.NoChanges ends plans) unchanged_enough refl

pub finished_joins : (account : AccountState) (name : List ℕ) (s t : LabState) (crossed : List (List ℕ)) → IsLinkedLab account s → HasSession s → PlansNothing name s
    → EndsSync name s t crossed outcomes.Finished → Finishes account name s t
finished_joins account name s t crossed linked room plans ends =
    finishes account name s t outcomes.Finished linked room (sync_alone name s t crossed outcomes.Finished ends plans) not_memory refl

-- ---- over a run
-- the lab before a line of this number is the lab before it
unfoldable pub lines_aside_others : (kind : SessionKind) (number : ℕ) (name : List ℕ) (s t : LabState) → KeepsOthers kind name (at_line number s) t → KeepsOthers kind name s t
lines_aside_others kind number name s t it = record {
  clock = it.clock;
  sessions = it.sessions;
  breaks = it.breaks;
  others = it.others;
  d = it.d;
  made = it.made;
  was = it.was;
  now = it.now;
  rest = it.rest;
}

pub lines_aside_finishes : (account : AccountState) (number : ℕ) (name : List ℕ) (s t : LabState) → Finishes account name (at_line number s) t → Finishes account name s t
lines_aside_finishes account number name s t it = record {
  joins = record {
    device = it.joins.device;
    server = it.joins.server;
    device_now = it.joins.device_now;
    server_now = it.joins.server_now;
    held = it.joins.held;
    committed = it.joins.committed;
    held_now = it.joins.held_now;
    committed_now = it.joins.committed_now;
    same = it.joins.same;
    joined = it.joins.joined;
    past_device = it.joins.past_device;
    past_server = it.joins.past_server;
    moment = it.joins.moment;
    last_sync = it.joins.last_sync;
    device_number = it.joins.device_number;
    server_number = it.joins.server_number;
    linked = it.joins.linked;
  };
  once = it.once;
  linked = it.linked;
  keeps = lines_aside_others kinds.Sync number name s t it.keeps;
}

lines_aside_keeps : (account : AccountState) (number : ℕ) (name : List ℕ) (s t : LabState) (outcome : Outcome) → KeepsSides account name (at_line number s) t outcome
    → KeepsSides account name s t outcome
lines_aside_keeps account number name s t outcome it = record {
  c = it.c;
  held = it.held;
  device = it.device;
  server = it.server;
  linked = it.linked;
  keeps = lines_aside_others kinds.Sync number name s t it.keeps;
}

-- such lines after such lines
fresh_joined : (account : AccountState) (number next : ℕ) (front rest : List Line) (s mid t : LabState) (first later : List (List ℕ)) → next ≡ number + length front
    → AllGoFresh account number front s mid first → AllGoFresh account next rest mid t later → AllGoFresh account number (front ++ rest) s t (first ++ later)
fresh_joined account number next [] rest s mid t first later at (same, none) goes =
    subst (λ (printed : List (List ℕ)). AllGoFresh account number rest s t (printed ++ later)) (sym none)
    (subst (λ (x : LabState). AllGoFresh account number rest x t later) same
    (subst (λ (n : ℕ). AllGoFresh account n rest mid t later) (here next number at) goes))
  where
    here : (n m : ℕ) → n ≡ m + 0 → n ≡ m
    here n m is = omega (arith, is)
fresh_joined account number next (line ∷ more) rest s mid t first later at (there, own, others, ends, takes, front_goes, is) goes = (
  there,
  own,
  others ++ later,
  ends,
  takes,
  fresh_joined account (number + 1) next more rest there mid t others later (further next number (length more) at) front_goes goes,
  ap (λ (texts : List (List ℕ)). texts ++ later) is ∙ append_assoc own others later,
)
  where
    further : (n m k : ℕ) → n ≡ m + suc k → n ≡ (m + 1) + k
    further n m k is = omega (arith, is)

-- after the lines of a run, of which none uploads at first, and whose schema moments are fresh then
goes_fresh : LinesStep → (opening : Opening) (all : List Line) (s : LabState) (printed : List (List ℕ)) → IsLabOpening opening
    → HasSession s → GoFresh opening all s printed → AllGoFresh (account_opened opening) 1 all (opened_lab opening) s printed
goes_fresh steps opening all s printed opens room it =
    let there : HasSession it.mid =
    all_room (length it.front + 1) it.rest it.mid s it.later (fresh_goes (account_opened opening) (length it.front + 1) it.rest it.mid s it.later it.fresh) room in
    subst (λ (them : List Line). AllGoFresh (account_opened opening) 1 them (opened_lab opening) s printed) (sym it.parts)
    (subst (λ (texts : List (List ℕ)). AllGoFresh (account_opened opening) 1 (it.front ++ it.rest) (opened_lab opening) s texts) (sym it.said)
    (fresh_joined (account_opened opening) 1 (length it.front + 1) it.front it.rest (opened_lab opening) it.mid s it.first it.later (next (length it.front))
    (run_unloaded steps opening it.front it.mid it.first opens there it.plain it.goes).0 it.fresh))
  where
    next : (n : ℕ) → n + 1 ≡ 1 + n
    next n = omega (arith)

pub run_linked : LinesStep → (opening : Opening) (all : List Line) (s : LabState) (printed : List (List ℕ)) → IsLabOpening opening
    → HasSession s → GoFresh opening all s printed → IsLinkedLab (account_opened opening) s
run_linked steps opening all s printed opens room apart =
    all_linked steps (account_opened opening) 1 all (opened_lab opening) s printed (opened_linked opening opens) room (goes_fresh steps opening all s printed opens room apart)

module _ (steps : LinesStep) (opening : Opening) (all : List Line) (name : List ℕ) (s t : LabState) (outcome : Outcome)
    (runs : RunsToSync opening all name s t outcome) where
  abbrev here : IsLinkedLab (account_opened opening) s
  here = run_linked steps opening all s runs.printed runs.opens runs.room runs.goes.0

  abbrev before : LabState
  before = at_line (length all + 1) s

  linked_before : IsLinkedLab (account_opened opening) (at_line (length all + 1) s)
  linked_before = at_line_linked (account_opened opening) (length all + 1) s here

  goes : AllGo EndsAs 1 all (opened_lab opening) s runs.printed
  goes =
      fresh_goes (account_opened opening) 1 all (opened_lab opening) s runs.printed (goes_fresh steps opening all s runs.printed runs.opens runs.room runs.goes.0)

  -- the sync, between whose calls nothing came
  alone : EndsAlone kinds.Sync name before t outcome
  alone = sync_alone name before t runs.crossed outcome runs.comes runs.plans

  fresh_before : outcome ≢ outcomes.Memory → AllByRecursion SaysNoUpload all ⊎ HasFreshCheck (account_opened opening) name s t outcome
      → HasFreshCheck (account_opened opening) name (at_line (length all + 1) s) t outcome
  fresh_before enough (inl plain) =
      sync_fresh (account_opened opening) name before t outcome linked_before runs.room
      (at_line_ordered (account_opened opening) (length all + 1) s (run_unloaded steps opening all s runs.printed runs.opens runs.room plain goes).1) alone enough
  fresh_before enough (inr fresh) = fresh

  pub run_finishes : outcome ≡ outcomes.Finished → Finishes (account_opened opening) name s t
  run_finishes is =
      lines_aside_finishes (account_opened opening) (length all + 1) name s t
      (finishes (account_opened opening) name before t outcome linked_before runs.room alone (λ wrong. not_memory (sym is ∙ wrong)) is)

  pub run_keeps : outcome ≢ outcomes.Finished → outcome ≢ outcomes.Memory → KeepsSides (account_opened opening) name s t outcome
  run_keeps other enough =
      lines_aside_keeps (account_opened opening) (length all + 1) name s t outcome
      (keeps_sides (account_opened opening) name before t outcome linked_before runs.room alone enough (fresh_before enough runs.goes.1) other)

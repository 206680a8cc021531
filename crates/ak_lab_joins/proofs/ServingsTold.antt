-- What the reply to a request tells of what its servings committed.
use Rattle.std.specs.Option.{unwrap_or}
use Rattle.std.specs.Prelude.{◌≡◌, ◌⊎◌, ℕ, zero, suc, ℤ, ◌==◌, if◌then◌else◌, Bool, true, false, List, [], ◌∷◌, Option, Some, None}
use Rattle.std.proofs.Common.{refl, sym, ap, subst, ◌∙◌, inl, inr, arith}
use Rattle.std.proofs.lemmas.Bool.{eqb-true}
use Rattle.ak_keep.specs.Collections.{Collection}
use Rattle.ak_lab_joins.proofs.Worlds.{StaysQuiet, world_grown}
use Rattle.ak_lab_joins.specs.LabJoins.{world_in}
use Rattle.ak_messages.specs.declared.replies.Reply.{Reply}
use Rattle.ak_messages.specs.declared.requests.Ask.{Ask}
use Rattle.ak_messages.specs.declared.requests.Ask.TheVariants as asks
use Rattle.ak_messages.specs.declared.requests.Request.{Request}
use Rattle.ak_protocol.proofs.Cases.{by_cases}
use Rattle.ak_protocol.proofs.Commits.{not_both}
use Rattle.ak_protocol.proofs.Isolation.{account_after, same_as_itself}
use Rattle.ak_protocol.proofs.Repeats.{no_commit, repeats_change_nothing}
use Rattle.ak_protocol.proofs.Syncs.{own_first}
use Rattle.ak_protocol.specs.Accounts.{AccountState, given_again}
use Rattle.ak_protocol.specs.Logs.{Asked, Log, World, opened, with_growth, world_after, world_next, world_served}
use Rattle.ak_protocol.specs.Replies.{download_reply}
use Rattle.ak_protocol.specs.Servers.{by_account, same_host}
use Rattle.ak_protocol.specs.Serving.{Served, Setback, Undisturbed, commit_reply, kept_of, served, unchanged}
use Rattle.ak_protocol.specs.Syncs.{world_of}
use Rattle.ak_session.specs.Requests.{asks_commit, is_download, is_meta}
use Rattle.ak_sync_in_memory.proofs.Logging.{events_append}
use Rattle.ak_sync_in_memory.specs.Entries.{LoggedState, entry_of, health_in, log_in, log_with, server_in, setback_of, trouble_of}
use Rattle.ak_sync_in_memory.specs.LoggedServers.{IsServed}
use Rattle.ak_sync_in_memory.specs.LoopWires.{ServesInARow, ServesUpTo}
use Rattle.ak_sync_in_memory.specs.declared.logs.Logged.TheVariants as logged
use Rattle.ak_sync_in_memory.specs.declared.logs.Trouble.{Trouble}
use Rattle.ak_sync_in_memory.specs.declared.logs.Trouble.TheVariants as troubles

-- ---- what is committed
pub nothing_new : (w : World) → StaysQuiet w w
nothing_new w = record { committed = refl; commits = refl }

pub quiet_then : (u v w : World) → StaysQuiet u v → StaysQuiet v w → StaysQuiet u w
quiet_then u v w one two = record { committed = two.committed ∙ one.committed; commits = two.commits ∙ one.commits }

-- the reply to the commit by this request is kept
abbrev pub KeepsReply : Request → World → Type 0
KeepsReply request w = w.state.kept ≡ Some (kept_of request (commit_reply request.ask w.state.committed.head))

-- what is committed is as it was; or this request committed, and the reply to that is kept
abbrev pub QuietOrKept : Request → World → World → Type 0
QuietOrKept request before after = StaysQuiet before after ⊎ ((asks_commit request.ask ≡ true) × KeepsReply request after)

-- what is committed is as it was; or this request is one that commits, and was granted by this reply
abbrev pub QuietOrGranted : Request → Reply → World → World → Type 0
QuietOrGranted request reply before after = StaysQuiet before after
    ⊎ ((asks_commit request.ask ≡ true) × (reply ≡ commit_reply request.ask after.state.committed.head))

-- ---- one serving of an account
-- what is committed is as it was; or this request committed, was granted by this reply, and that is kept
abbrev QuietOrDone : Request → Reply → World → World → Type 0
QuietOrDone request reply before after = StaysQuiet before after
    ⊎ ((asks_commit request.ask ≡ true) × (reply ≡ commit_reply request.ask after.state.committed.head) × KeepsReply request after)

serving_done : (w : World) (request : Request) (now : ℤ) (setback : Setback)
    → QuietOrDone request (served w.state request now setback).reply w (world_next w (Asked request now setback))
serving_done w request now = by_cases w.state request now (λ it. QuietOrDone request it.reply w (world_served w request it)) (record {
  strikes = λ reply failed. inl (record { committed = refl; commits = refl });
  begins = λ _. inl (record { committed = refl; commits = refl });
  repeats = λ kept is repeat later. inl (record { committed = refl; commits = refl });
  refuses_it = λ why. inl (record { committed = refl; commits = refl });
  goes_on = λ session next none goes. inl (record { committed = refl; commits = refl });
  stops = λ session next none. inl (record { committed = refl; commits = refl });
  finishes = λ session next commits. inr (commits, refl, refl);
})

-- a request that asks for none commits nothing
pub plain_serving : (w : World) (request : Request) (now : ℤ) (setback : Setback) → asks_commit request.ask ≡ false
    → StaysQuiet w (world_next w (Asked request now setback))
plain_serving w request now setback plain = by (serving_done w request now setback)
  where
    by : QuietOrDone request (served w.state request now setback).reply w (world_next w (Asked request now setback))
        → StaysQuiet w (world_next w (Asked request now setback))
    by (inl quiet) = quiet
    by (inr granted) = absurd (not_both granted.0 plain)

-- no meta and no download asks for a commit
commit_is_no_meta : (ask : Ask) → asks_commit ask ≡ true → is_meta ask ≡ false
commit_is_no_meta asks.Meta commits = absurd (not_both commits refl)
commit_is_no_meta (asks.Start min_usn lmod) commits = refl
commit_is_no_meta (asks.ApplyGraves ids) commits = refl
commit_is_no_meta (asks.ApplyChanges changes) commits = refl
commit_is_no_meta asks.Chunk commits = refl
commit_is_no_meta (asks.ApplyChunk chunk) commits = refl
commit_is_no_meta (asks.SanityCheck2 counts) commits = refl
commit_is_no_meta asks.Finish commits = refl
commit_is_no_meta (asks.Upload whole) commits = refl
commit_is_no_meta asks.Download commits = refl

commit_is_no_download : (ask : Ask) → asks_commit ask ≡ true → is_download ask ≡ false
commit_is_no_download ask commits =
    elim (is_download ask) as (λ b. is_download ask ≡ b → b ≡ false) [
      | true ↦ λ e. absurd (not_both commits (no_commit ask e))
      | false ↦ λ e. refl
    ] refl

-- ---- the same request again, once it committed
module _ (w : World) (request : Request) (now : ℤ) (commits : asks_commit request.ask ≡ true) (kept : KeepsReply request w) where
  again : served w.state request now Undisturbed
      ≡ unchanged w.state (given_again w.state.committed (kept_of request (commit_reply request.ask w.state.committed.head)))
  again =
      repeats_change_nothing w.state request now (kept_of request (commit_reply request.ask w.state.committed.head)) kept refl refl refl
      (commit_is_no_meta request.ask commits)

  -- nothing changes, and the reply stays kept, also if something came in between
  again_kept : (trouble : Trouble) → KeepsReply request (world_next w (Asked request now (setback_of trouble)))
  again_kept troubles.Nothing = subst (λ (it : Served). KeepsReply request (world_served w request it)) (sym again) kept
  again_kept troubles.Keeper = ap (λ (b : Bool). if b then None else w.state.kept) (commit_is_no_meta request.ask commits) ∙ kept
  again_kept troubles.Memory = ap (λ (b : Bool). if b then None else w.state.kept) (commit_is_no_meta request.ask commits) ∙ kept

  again_quiet : StaysQuiet w (world_next w (Asked request now Undisturbed))
  again_quiet = subst (λ (it : Served). StaysQuiet w (world_served w request it)) (sym again) (record { committed = refl; commits = refl })

  -- it is given if nothing came in between
  again_given : (served w.state request now Undisturbed).reply ≡ commit_reply request.ask w.state.committed.head
  again_given =
      ap (λ (it : Served). it.reply) again
      ∙ ap (λ (b : Bool). unwrap_or (if b then None else Some (commit_reply request.ask w.state.committed.head)) (download_reply w.state.committed))
      (commit_is_no_download request.ask commits)

-- ---- one serving at a server
-- a request of this account was served with this trouble: what that made of the account, and what was replied
pub record ServedOnce (host : List ℕ) (account : AccountState) (old new : LoggedState) (request : Request) (now : ℤ) (reply : Reply) (trouble : Trouble) : Type 0 where
  pub world : world_in host account new ≡ world_next (world_in host account old) (Asked request now (setback_of trouble))
  pub reply_is : (served (world_in host account old).state request now (setback_of trouble)).reply ≡ reply
  pub opens : (log_in new).opening host ≡ Some account

served_once : (host : List ℕ) (account : AccountState) (old new : LoggedState) (request : Request) (now : ℤ) (reply : Reply) → request.host.digits ≡ host
    → (log_in old).opening host ≡ Some account → (is : IsServed old new request now reply) → ServedOnce host account old new request now reply is.trouble
served_once host account old new request now reply own opens is = record {
  world = ap (world_of host account) grown
      ∙ world_grown host account (log_in old) (Asked request now (setback_of is.trouble) ∷ [])
      ∙ ap (world_after (world_in host account old)) (own_first host (Asked request now (setback_of is.trouble)) [] here);
  reply_is = ap (λ (o : Option AccountState). (by_account o (server_in old) request now (setback_of is.trouble)).reply) (sym there) ∙ is.reply_is;
  opens = ap (λ (log : Log). log.opening host) grown ∙ opens;
}
  where
    grown : log_in new ≡ with_growth (log_in old) (Asked request now (setback_of is.trouble) ∷ [])
    grown =
        ap log_in is.adds
        ∙ ap (log_with old.host old.opening) (events_append old.host old.entries (entry_of old.line (logged.Served request now is.trouble) ∷ []))

    here : same_host host request.host.digits ≡ true
    here = subst (λ (h : List ℕ). same_host host h ≡ true) (sym own) (same_as_itself host)

    there : server_in old request.host.digits ≡ Some (world_in host account old).state
    there = ap (server_in old) own ∙ account_after host (log_in old).opening (opened account) (log_in old).events opens

keeper_not_memory : troubles.Keeper ≡ troubles.Memory → ⊥
keeper_not_memory is = grind (arith, is)

nothing_not_memory : troubles.Nothing ≡ troubles.Memory → ⊥
nothing_not_memory is = grind (arith, is)

-- only a reply with the status 500 tells that memory ran out
memory_is : (status : ℕ) → trouble_of status ≡ troubles.Memory → status ≡ 500
memory_is status =
    elim (status == 503) as (λ b. (if b then troubles.Keeper else if status == 500 then troubles.Memory else troubles.Nothing) ≡ troubles.Memory → status ≡ 500) [
      | true ↦ λ is. absurd (keeper_not_memory is)
      | false ↦ elim (status == 500) as (λ b. (status == 500) ≡ b → (if b then troubles.Memory else troubles.Nothing) ≡ troubles.Memory → status ≡ 500) [
        | true ↦ λ e is. eqb-true status 500 e
        | false ↦ λ e is. absurd (nothing_not_memory is)
      ] refl
    ]

-- ---- servings of one request in a row
-- what is known of a server between them: its account was opened so, and nothing was committed since, or by this request
pub record Stands (host : List ℕ) (account : AccountState) (request : Request) (base : World) (server : LoggedState) : Type 0 where
  pub opens : (log_in server).opening host ≡ Some account
  pub since : QuietOrKept request base (world_in host account server)

module _ (host : List ℕ) (account : AccountState) (request : Request) (own : request.host.digits ≡ host) (now : ℤ) (base : World) where
  abbrev StandsSo : LoggedState → Type 0
  StandsSo server = Stands host account request base server

  module _ (old new : LoggedState) (reply : Reply) (is : IsServed old new request now reply) (stands : StandsSo old) where
    abbrev was : World
    was = world_in host account old

    abbrev is_now : World
    is_now = world_in host account new

    once : ServedOnce host account old new request now reply is.trouble
    once = served_once host account old new request now reply own stands.opens is

    done : QuietOrDone request reply was is_now
    done =
        subst (λ (r : Reply). QuietOrDone request r was is_now) once.reply_is
        (subst (λ (w : World). QuietOrDone request (served was.state request now (setback_of is.trouble)).reply was w) (sym once.world)
        (serving_done was request now (setback_of is.trouble)))

    served_stands : StandsSo new
    served_stands = record { opens = once.opens; since = by stands.since done }
      where
        by : QuietOrKept request base was → QuietOrDone request reply was is_now → QuietOrKept request base is_now
        by (inl quiet) (inl still) = inl (quiet_then base was is_now quiet still)
        by (inl quiet) (inr (commits, granted, kept)) = inr (commits, kept)
        by (inr (commits, kept)) more = inr (commits, subst (KeepsReply request) (sym once.world) (again_kept was request now commits kept is.trouble))

    -- the first that may have committed
    first_grants : StaysQuiet base was → QuietOrGranted request reply base is_now
    first_grants quiet = by done
      where
        by : QuietOrDone request reply was is_now → QuietOrGranted request reply base is_now
        by (inl still) = inl (quiet_then base was is_now quiet still)
        by (inr (commits, granted, kept)) = inr (commits, granted)

    -- a later one, to which nothing came in between
    later_grants : asks_commit request.ask ≡ true → KeepsReply request was → is.trouble ≡ troubles.Nothing → QuietOrGranted request reply base is_now
    later_grants commits kept nothing =
        inr (
          commits,
          sym once.reply_is ∙ ap (λ (t : Trouble). (served was.state request now (setback_of t)).reply) nothing
              ∙ again_given was request now commits kept ∙ ap (λ (c : Collection). commit_reply request.ask c.head) (sym same),
        )
      where
        same : is_now.state.committed ≡ was.state.committed
        same =
            ap (λ (w : World). w.state.committed) once.world
            ∙ ap (λ (t : Trouble). (world_next was (Asked request now (setback_of t))).state.committed) nothing
            ∙ (again_quiet was request now commits kept).committed

    -- nothing was committed before it; or the server's keeper is not to fail, and the request is a finish, which is not refused for want of memory
    served_grants : StaysQuiet base was ⊎ (((health_in old).calm ≡ true) × (request.ask ≡ asks.Finish)) → QuietOrGranted request reply base is_now
    served_grants clear = by stands.since clear
      where
        by_trouble : asks_commit request.ask ≡ true → KeepsReply request was → (health_in old).calm ≡ true → request.ask ≡ asks.Finish
            → (trouble : Trouble) → is.trouble ≡ trouble → QuietOrGranted request reply base is_now
        by_trouble commits kept calm finish troubles.Nothing same = later_grants commits kept same
        by_trouble commits kept calm finish troubles.Keeper same = absurd (is.unfailed calm same)
        by_trouble commits kept calm finish troubles.Memory same = absurd (is.spared finish (memory_is reply.status (sym is.told ∙ same)))

        by : QuietOrKept request base was → StaysQuiet base was ⊎ (((health_in old).calm ≡ true) × (request.ask ≡ asks.Finish)) → QuietOrGranted request reply base is_now
        by (inl quiet) other = first_grants quiet
        by (inr kept) (inl quiet) = first_grants quiet
        by (inr (commits, kept)) (inr (calm, finish)) = by_trouble commits kept calm finish is.trouble refl

  -- ---- in a row
  pub row_stands : (n : ℕ) (old new : LoggedState) (reply : Reply) → Stands host account request base old → ServesInARow n old new request now reply → Stands host account request base new
  row_stands zero old new reply stands row = absurd row
  row_stands (suc zero) old new reply stands row = served_stands old new reply row stands
  row_stands (suc (suc n)) old new reply stands row = row_stands (suc n) row.0 new reply (served_stands old row.0 row.1 row.2 stands) row.3

  pub up_to_stands : (n : ℕ) (old new : LoggedState) → Stands host account request base old → ServesUpTo n old new request now → Stands host account request base new
  up_to_stands zero old new stands same = subst (Stands host account request base) (sym same) stands
  up_to_stands (suc n) old new stands row = row_stands (suc n) old new row.0 stands row.1

  pub row_calm : (n : ℕ) (old new : LoggedState) (reply : Reply) → (health_in old).calm ≡ true → ServesInARow n old new request now reply → (health_in new).calm ≡ true
  row_calm zero old new reply calm row = absurd row
  row_calm (suc zero) old new reply calm row = row.goes.calm calm
  row_calm (suc (suc n)) old new reply calm row = row_calm (suc n) row.0 new reply (row.2.goes.calm calm) row.3

  pub up_to_calm : (n : ℕ) (old new : LoggedState) → (health_in old).calm ≡ true → ServesUpTo n old new request now → (health_in new).calm ≡ true
  up_to_calm zero old new calm same = ap (λ (s : LoggedState). (health_in s).calm) same ∙ calm
  up_to_calm (suc n) old new calm row = row_calm (suc n) old new row.0 calm row.1

  -- the last of one or more servings of a finish grants what was committed, if the server's keeper is not to fail
  pub row_grants : (n : ℕ) (old new : LoggedState) (reply : Reply) → Stands host account request base old → (health_in old).calm ≡ true → request.ask ≡ asks.Finish
      → ServesInARow n old new request now reply → QuietOrGranted request reply base (world_in host account new)
  row_grants zero old new reply stands calm finish row = absurd row
  row_grants (suc zero) old new reply stands calm finish row = served_grants old new reply row stands (inr (calm, finish))
  row_grants (suc (suc n)) old new reply stands calm finish row =
      row_grants (suc n) row.0 new reply (served_stands old row.0 row.1 row.2 stands) (row.2.goes.calm calm) finish row.3

  -- so does the only one
  pub one_grants : (old new : LoggedState) (reply : Reply) → Stands host account request base old → StaysQuiet base (world_in host account old) → IsServed old new request now reply
      → QuietOrGranted request reply base (world_in host account new)
  one_grants old new reply stands quiet is = served_grants old new reply is stands (inl quiet)

-- As long as nothing but finishes is committed, the server's schema moment stays, and whoever is linked with the server stays so, whatever comes to it.
use Rattle.std.specs.List.{AllByRecursion}
use Rattle.std.specs.Prelude.{◌≡◌, ℕ, ◌<◌, ◌≤◌, List, [], ◌∷◌, ◌++◌}
use Rattle.std.proofs.Common.{refl, sym, ap, subst, ◌∙◌, inl, append_assoc, append-nil, arith}
use Rattle.std.proofs.lemmas.List.Elements.{All-weaker}
use Rattle.ak_edit.specs.Steps.{reversals_in}
use Rattle.ak_keep.specs.Collections.{Collection}
use Rattle.ak_lab_devices.specs.declared.devices.Device.{Device}
use Rattle.ak_lab_joins.proofs.Resent.{number_led}
use Rattle.ak_lab_joins.proofs.Worlds.{world_grown}
use Rattle.ak_lab_joins.specs.LabJoins.{HasNoUpload, IsFinish, IsLinkedDevice, IsLinkedServer, world_in}
use Rattle.ak_lab_wires.specs.LabSessions.{lab_host}
use Rattle.ak_merge.specs.Edits.{Reversal}
use Rattle.ak_merge.specs.Links.{AreLinked}
use Rattle.ak_merge.specs.Undoing.{StepFits}
use Rattle.ak_protocol.proofs.Commits.{commits_lead_on}
use Rattle.ak_protocol.proofs.ContentLaws.{fits_stay, lawful_stays_lawful, links_stay, some_of_all}
use Rattle.ak_protocol.proofs.Syncs.{all_back, all_front}
use Rattle.ak_protocol.specs.Accounts.{AccountState}
use Rattle.ak_protocol.specs.Commits.{CommitsGrow, EachNewer, HasFreshSchema, IsMade, Leads}
use Rattle.ak_protocol.specs.LawfulServers.{IsLawfulAccount}
use Rattle.ak_protocol.specs.Logs.{Commit, Event, IsTimely, Log, World, events_of, with_growth, world_after}
use Rattle.ak_protocol.specs.Syncs.{IsUnused, world_of}
use Rattle.ak_sync_in_memory.specs.Entries.{LoggedState, events_in, log_in, log_with}

-- ---- finishes
pub finishes_fresh : (c : Collection) (commits : List Commit) → AllByRecursion IsFinish commits → AllByRecursion (HasFreshSchema c) commits
finishes_fresh c [] all = tt
finishes_fresh c (commit ∷ commits) all = (inl all.0.1.commits.schema, finishes_fresh c commits all.1)

finishes_made : (commits : List Commit) → AllByRecursion IsFinish commits → AllByRecursion IsMade commits
finishes_made [] all = tt
finishes_made (commit ∷ commits) all = (inl all.0, finishes_made commits all.1)

-- they leave the schema moment
pub schema_led : (first last : Collection) (newer : List Commit) → Leads first newer last → AllByRecursion IsFinish newer → last.head.schema ≡ first.head.schema
schema_led first last [] lead all = ap (λ (c : Collection). c.head.schema) lead
schema_led first last (commit ∷ newer) lead all =
    ap (λ (c : Collection). c.head.schema) lead.0 ∙ all.0.1.commits.schema ∙ schema_led first commit.before newer lead.2 all.1

-- ---- between two worlds
module _ (P : Commit → Type 0) (a b c : World) (one : CommitsGrow a b) (two : CommitsGrow b c) (each : EachNewer P a c) where
  pub newer_first : EachNewer P a b
  newer_first newer is =
      all_back P two.newer newer
      (each (two.newer ++ newer) (two.grown ∙ ap (λ (l : List Commit). two.newer ++ l) is ∙ sym (append_assoc two.newer newer a.commits)))

  pub newer_rest : EachNewer P b c
  newer_rest newer is =
      all_front P newer one.newer
      (each (newer ++ one.newer) (is ∙ ap (λ (l : List Commit). newer ++ l) one.grown ∙ sym (append_assoc newer one.newer a.commits)))

-- ---- a server to which something came
-- the log grew by some events, and the keys past this count of sessions that were unused are unused. If nothing was uploaded, nothing is
pub record GrowsUnder (sessions : ℕ) (old new : LoggedState) : Type 0 where
  pub host : new.host ≡ old.host
  pub growth : List Event
  pub grown : log_in new ≡ with_growth (log_in old) growth
  pub unused : (account : AccountState) (key : ℕ) → sessions < key → IsUnused lab_host key account (log_in old) → IsUnused lab_host key account (log_in new)
  pub uploads : HasNoUpload old → HasNoUpload new

pub nothing_under : (sessions : ℕ) (s : LoggedState) → GrowsUnder sessions s s
nothing_under sessions s = record {
  host = refl;
  growth = [];
  grown = ap (log_with s.host s.opening) (sym (append-nil (events_in s.host s.entries)));
  unused = λ account key over is. is;
  uploads = λ none. none;
}

pub further_under : (sessions : ℕ) (a b c : LoggedState) → GrowsUnder sessions a b → GrowsUnder sessions b c → GrowsUnder sessions a c
further_under sessions a b c one two = record {
  host = two.host ∙ one.host;
  growth = one.growth ++ two.growth;
  grown = two.grown ∙ ap (λ (log : Log). with_growth log two.growth) one.grown
      ∙ ap (λ (events : List Event). record (log_in a) { events = events }) (append_assoc (log_in a).events one.growth two.growth);
  unused = λ account key over is. two.unused account key over (one.unused account key over is);
  uploads = λ none. two.uploads (one.uploads none);
}

pub wider_under : (few more : ℕ) (old new : LoggedState) → few ≤ more → GrowsUnder few old new → GrowsUnder more old new
wider_under few more old new most it = record {
  host = it.host;
  growth = it.growth;
  grown = it.grown;
  unused = λ account key over is. it.unused account key (past few more key most over) is;
  uploads = it.uploads;
}
  where
    past : (a b k : ℕ) → a ≤ b → b < k → a < k
    past a b k low high = omega (arith, low, high)

pub world_grown_under : (account : AccountState) (sessions : ℕ) (old new : LoggedState) (grows : GrowsUnder sessions old new)
    → world_in lab_host account new ≡ world_after (world_in lab_host account old) (events_of lab_host grows.growth)
world_grown_under account sessions old new grows = ap (world_of lab_host account) grows.grown ∙ world_grown lab_host account (log_in old) grows.growth

pub leads_under : (account : AccountState) (sessions : ℕ) (old new : LoggedState) → GrowsUnder sessions old new
    → CommitsGrow (world_in lab_host account old) (world_in lab_host account new)
leads_under account sessions old new grows =
    subst (λ (w : World). CommitsGrow (world_in lab_host account old) w) (sym (world_grown_under account sessions old new grows))
    (commits_lead_on (world_in lab_host account old) (events_of lab_host grows.growth))

-- ---- nothing but finishes is committed
-- and what comes comes at moments of a clock
pub record IsLevel (account : AccountState) (old new : LoggedState) : Type 0 where
  pub finishes : EachNewer IsFinish (world_in lab_host account old) (world_in lab_host account new)
  pub timely : (growth : List Event) → log_in new ≡ with_growth (log_in old) growth → AllByRecursion IsTimely growth

module _ (account : AccountState) (few more : ℕ) (a b c : LoggedState) (one : GrowsUnder few a b) (two : GrowsUnder more b c) (level : IsLevel account a c) where
  pub level_first : IsLevel account a b
  level_first = record {
    finishes = newer_first IsFinish (world_in lab_host account a) (world_in lab_host account b) (world_in lab_host account c)
        (leads_under account few a b one) (leads_under account more b c two) level.finishes;
    timely = λ growth is. all_front IsTimely growth two.growth
        (level.timely (growth ++ two.growth) (two.grown ∙ ap (λ (log : Log). with_growth log two.growth) is
        ∙ ap (λ (events : List Event). record (log_in a) { events = events }) (append_assoc (log_in a).events growth two.growth)));
  }

  pub level_rest : IsLevel account b c
  level_rest = record {
    finishes = newer_rest IsFinish (world_in lab_host account a) (world_in lab_host account b) (world_in lab_host account c)
        (leads_under account few a b one) (leads_under account more b c two) level.finishes;
    timely = λ growth is. all_back IsTimely one.growth growth
        (level.timely (one.growth ++ growth) (is ∙ ap (λ (log : Log). with_growth log growth) one.grown
        ∙ ap (λ (events : List Event). record (log_in a) { events = events }) (append_assoc (log_in a).events one.growth growth)));
  }

-- ---- what stays then
module _ (account : AccountState) (few more : ℕ) (old new : LoggedState) (most : few ≤ more) (grows : GrowsUnder more old new) (level : IsLevel account old new) where
  abbrev was : World
  was = world_in lab_host account old

  abbrev is_now : World
  is_now = world_in lab_host account new

  grown : is_now ≡ world_after was (events_of lab_host grows.growth)
  grown = world_grown_under account more old new grows

  own_timely : AllByRecursion IsTimely (events_of lab_host grows.growth)
  own_timely = some_of_all IsTimely lab_host grows.growth (level.timely grows.growth grows.grown)

  leads : CommitsGrow was is_now
  leads = leads_under account more old new grows

  pub schema_now : is_now.state.committed.head.schema ≡ was.state.committed.head.schema
  schema_now = schema_led was.state.committed is_now.state.committed leads.newer leads.lead (level.finishes leads.newer leads.grown)

  fresh : (c : Collection) → EachNewer (HasFreshSchema c) was is_now
  fresh c newer is = finishes_fresh c newer (level.finishes newer is)

  pub server_now : IsLinkedServer lab_host account few old → IsLinkedServer lab_host account more new
  server_now server = record {
    host_is = grows.host ∙ server.host_is;
    unused = λ key over. grows.unused account key over (server.unused key (past few more key most over));
    lawful = subst (λ (w : World). IsLawfulAccount w.state) (sym grown) (lawful_stays_lawful was (events_of lab_host grows.growth) own_timely server.lawful);
    number = number_led was.state.committed is_now.state.committed leads.newer leads.lead
        (finishes_made leads.newer (level.finishes leads.newer leads.grown)) server.number;
  }
    where
      past : (a b k : ℕ) → a ≤ b → b < k → a < k
      past a b k low high = omega (arith, low, high)

  linked_now : (c : Collection) → IsLawfulAccount was.state → AreLinked c was.state.committed → AreLinked c is_now.state.committed
  linked_now c lawful is =
      subst (λ (w : World). AreLinked c w.state.committed) (sym grown)
      (links_stay was (events_of lab_host grows.growth) c own_timely lawful (subst (EachNewer (HasFreshSchema c) was) grown (fresh c)) is)

  fits_now : (c : Collection) (step : Reversal) → StepFits c step was.state.committed → StepFits c step is_now.state.committed
  fits_now c step fits =
      subst (λ (w : World). StepFits c step w.state.committed) (sym grown)
      (fits_stay was (events_of lab_host grows.growth) c step (subst (EachNewer (HasFreshSchema c) was) grown (fresh c)) fits)

  pub device_now : IsLawfulAccount was.state → (d : Device) → IsLinkedDevice was.state.committed d → IsLinkedDevice is_now.state.committed d
  device_now lawful d it = record {
    c = it.c;
    holds = it.holds;
    named = it.named;
    links = record {
      linked = linked_now it.c lawful it.links.linked;
      fit = All-weaker (λ step. StepFits it.c step was.state.committed) (λ step. StepFits it.c step is_now.state.committed)
          (λ step. fits_now it.c step) (reversals_in d.undo) it.links.fit;
    };
    suits = it.suits;
  }

-- That nothing hinders the sync of a script's line, of a new device, and the one after a sync that did not finish.
use Rattle.std.specs.Cmp.Lexicographic.{bytes_decides}
use Rattle.std.specs.Prelude.{◌≡◌, ◌<◌, ◌+ℤ◌, ◌||◌, ℕ, ℤ, pos, Bool, true, false, int_lt, if◌then◌else◌, List, [], ◌∷◌, ◌++◌, Some, None}
use Rattle.std.proofs.Common.{refl, sym, ap, subst, ◌∙◌, inl, inr, arith}
use Rattle.std.proofs.lemmas.Int.{ints}
use Rattle.std.proofs.lemmas.Option.{none-some, same_Some}
use Rattle.ak_base.specs.Rows.{IsChecked, name_of}
use Rattle.ak_base.specs.declared.names.Name.{Name}
use Rattle.ak_base.specs.declared.rows.Row.{Row}
use Rattle.ak_client.specs.Greetings.{are_far_apart}
use Rattle.ak_client.specs.declared.outcomes.Outcome.{Outcome}
use Rattle.ak_client.specs.declared.outcomes.Outcome.TheVariants as outcomes
use Rattle.ak_exchange.specs.Phases.{held_by}
use Rattle.ak_faults.specs.Calls.{names_none}
use Rattle.ak_io.specs.declared.lines.Line.{Line}
use Rattle.ak_keep.proofs.RowsByName.{all_from_gets}
use Rattle.ak_keep.specs.Collections.{Collection, IsWellFormed}
use Rattle.ak_lab.specs.LabRuns.{IsLabOpening}
use Rattle.ak_lab.specs.LabStates.{LabState, at_line}
use Rattle.ak_lab.specs.LabSteps.{Accepts, AddsDevice}
use Rattle.ak_lab.specs.LabSyncs.{EndsSync}
use Rattle.ak_lab.specs.LineOutcomes.{EndsAs, Says}
use Rattle.ak_lab_completes.proofs.Healing.{OthersKeep, committed_is, holds_still, sides}
use Rattle.ak_lab_completes.specs.LabCompleting.{BeginsLeftAlone, BeginsUnhindered, EndedUnfinished, GoesLeftAlone, HasNearClock, LabEndsWith}
use Rattle.ak_lab_devices.specs.Devices.{as_downloaded, device_of, new_device, same_name}
use Rattle.ak_lab_devices.specs.declared.devices.Device.{Device}
use Rattle.ak_lab_joins.specs.LabBreaks.{HasNoBreak, HasNoBreakIn, StandsSo}
use Rattle.ak_lab_joins.specs.LabJoins.{AreUnlike, DeviceHolds, GoFresh, HasSession, IsLinkedLab, KeepsOthers, TakesFreshSchema, TakesFreshSchemas, committed_of, device_names}
use Rattle.ak_lab_lines.specs.LabLines.{lab_line_of}
use Rattle.ak_lab_lines.specs.declared.lab_lines.LabLine.{LabLine}
use Rattle.ak_lab_lines.specs.declared.lab_lines.LabLine.TheVariants as lines
use Rattle.ak_lab_wires.specs.declared.lab_sessions.SessionKind.TheVariants as kinds
use Rattle.ak_line_runs.specs.LineRuns.{Accepted}
use Rattle.ak_merge.specs.Commits.{IsCommitted, IsCopyOf}
use Rattle.ak_merge.specs.Edits.{second_of}
use Rattle.ak_openings.specs.declared.whole_collections.Opening.{Opening}
use Rattle.ak_protocol.proofs.Commits.{not_both}
use Rattle.ak_protocol.specs.Accounts.{AccountState}
use Rattle.ak_sync_in_memory.specs.Copies.{IsViewed, committed_in}
use Rattle.ak_sync_in_memory.specs.Entries.{LoggedState, account_opened}
use Rattle.ak_sync_in_memory.specs.Mishaps.{loses_nothing}

-- ---- laws of others
abbrev pub LinesKeepLinked : Type 0
LinesKeepLinked = (account : AccountState) (number : ℕ) (line : Line) (s t : LabState) (printed : List (List ℕ)) → IsLinkedLab account s → HasSession s
    → EndsAs number line s t (Accepted printed) → TakesFreshSchemas account number line s t → IsLinkedLab account t

abbrev pub RunsKeepLinked : Type 0
RunsKeepLinked = (opening : Opening) (all : List Line) (s : LabState) (printed : List (List ℕ)) → IsLabOpening opening → HasSession s → GoFresh opening all s printed
    → IsLinkedLab (account_opened opening) s

abbrev pub ViewsKeep : Type 0
ViewsKeep = (old new : LoggedState) → IsViewed old new → committed_in new ≡ committed_in old

abbrev pub SyncsUseUpBreaks : Type 0
SyncsUseUpBreaks = (name : List ℕ) (s t : LabState) (crossed : List (List ℕ)) (outcome : Outcome) → AreUnlike (device_names s.devices) → EndsSync name s t crossed outcome
    → HasNoBreak name t

-- a device that holds a copy of what is committed has nothing to sync
abbrev pub CopiesEnd : Type 0
CopiesEnd = (account : AccountState) (name : List ℕ) (s t : LabState) (c : Collection) (crossed : List (List ℕ)) (outcome : Outcome) → BeginsUnhindered account name s c
    → IsCopyOf (committed_of account s) c → EndsSync name s t crossed outcome → LabEndsWith outcomes.NoChanges s t outcome

-- ---- what a line says
says_one : (line : Line) (one other : LabLine) → Says line one → Says line other → one ≡ other
says_one line one other a b =
    same_Some one other (sym a.3 ∙ ap lab_line_of (same_Some a.1 b.1 (sym a.2 ∙ b.2)) ∙ b.3)

-- a line that says this and is accepted is accepted so
pub accepts_said : (number : ℕ) (line : Line) (it : LabLine) (s t : LabState) (printed : List (List ℕ)) → Says line it → EndsAs number line s t (Accepted printed)
    → Accepts it (at_line number s) t printed
accepts_said number line it s t printed says (inl nothing) = absurd (not_both nothing.1.0 says.0)
accepts_said number line it s t printed says (inr (said, here, ends)) =
    subst (λ (x : LabLine). Accepts x (at_line number s) t printed) (says_one line said it here says) ends

-- ---- the device that comes last
same_as_itself : (name : List ℕ) → same_name name name ≡ true
same_as_itself name = (bytes_decides name name).1 refl

-- it is found by its name, if none had it
last_found : (made : Device) (devices : List Device) (name : List ℕ) → made.name ≡ name → device_of name devices ≡ None → device_of name (devices ++ made ∷ []) ≡ Some made
last_found made [] name own none =
    ap (λ (b : Bool). if b then Some made else device_of name []) (ap (λ (n : List ℕ). same_name n name) own ∙ same_as_itself name)
last_found made (first ∷ others) name own none = by (λ later. last_found made others name own later) (same_name first.name name) none
  where
    by : (device_of name others ≡ None → device_of name (others ++ made ∷ []) ≡ Some made) → (b : Bool) → (if b then Some first else device_of name others) ≡ None
        → (if b then Some first else device_of name (others ++ made ∷ [])) ≡ Some made
    by rest true is = absurd (none-some first (sym is))
    by rest false is = rest is

-- and no break of its name stands
none_stands : (made : Device) (devices : List Device) (name : List ℕ) → made.fails ≡ [] → device_of name devices ≡ None → HasNoBreakIn name (devices ++ made ∷ [])
none_stands made [] name calm none = ((λ named. calm), tt)
none_stands made (first ∷ others) name calm none = by (λ later. none_stands made others name calm later) (same_name first.name name) refl none
  where
    by : (device_of name others ≡ None → HasNoBreakIn name (others ++ made ∷ [])) → (b : Bool) → same_name first.name name ≡ b
        → (if b then Some first else device_of name others) ≡ None → HasNoBreakIn name (first ∷ (others ++ made ∷ []))
    by rest true has is = absurd (none-some first (sym is))
    by rest false lacks is = ((λ named. absurd (not_both (ap (λ (n : List ℕ). same_name n name) named ∙ same_as_itself name) lacks)), rest is)

-- its clock is the lab's
no_gap : (at : ℤ) → are_far_apart (second_of (at +ℤ pos 0)) (second_of at) ≡ false
no_gap at = ap (λ (m : ℤ). are_far_apart (second_of m) (second_of at)) (stays at) ∙ ap (λ (b : Bool). b || b) (never (second_of at))
  where
    stays : (m : ℤ) → m +ℤ pos 0 ≡ m
    stays m = omega (arith, ints)

    never : (m : ℤ) → int_lt (m +ℤ pos 300) m ≡ false
    never m = grind (arith, ints)

-- a copy of what a server may hold is one that a keeper may hold
copy_formed : (s : Collection) → IsCommitted s → IsWellFormed (held_by (as_downloaded s))
copy_formed s is = record {
  named = all_from_gets (λ (entry : Name × Row). name_of entry.1 ≡ entry.0) s.rows is.named;
  checked = all_from_gets (λ (entry : Name × Row). IsChecked entry.1) s.rows is.checked;
  head = record {
    crt = is.head.crt;
    moment = is.head.moment;
    schema = is.head.schema;
    usn = is.head.usn;
    last_sync = is.head.moment;
    conf = is.head.conf;
    tags = is.head.tags;
    ascending = is.head.ascending;
  };
}

-- ---- the lab then
at_line_linked : (account : AccountState) (number : ℕ) (s : LabState) → IsLinkedLab account s → IsLinkedLab account (at_line number s)
at_line_linked account number s linked = record {
  server = record { host_is = linked.server.host_is; unused = linked.server.unused; lawful = linked.server.lawful; number = linked.server.number };
  names = linked.names;
  devices = linked.devices;
}

-- what hinders a sync is not told by the number of its line
at_line_goes : (number : ℕ) (name : List ℕ) (s : LabState) → GoesLeftAlone name s → GoesLeftAlone name (at_line number s)
at_line_goes number name s goes =
    record { room = goes.room; plans = goes.plans; device = goes.device; server = goes.server; clocks = goes.clocks }

-- ---- after the lines of a script
pub script_begins : RunsKeepLinked → (opening : Opening) (all : List Line) (printed : List (List ℕ)) (number : ℕ) (name : List ℕ) (s : LabState) (c : Collection) → IsLabOpening opening
    → GoFresh opening all s printed → GoesLeftAlone name s → DeviceHolds name s c → IsWellFormed (held_by c) → BeginsLeftAlone (account_opened opening) name (at_line number s) c
script_begins keeps opening all printed number name s c opens fresh goes holds formed = record {
  linked = at_line_linked (account_opened opening) number s (keeps opening all s printed opens goes.room fresh);
  holds = holds;
  formed = formed;
  goes = at_line_goes number name s goes;
}

-- ---- a new device
module _ (account : AccountState) (number next : ℕ) (line : Line) (name : List ℕ) (s t : LabState) (printed : List (List ℕ)) (linked : IsLinkedLab account s) (key_left : HasSession s)
    (stands : StandsSo false s) (says : Says line (lines.Device name)) (ends : EndsAs number line s t (Accepted printed)) (keeps : LinesKeepLinked) (views_keep : ViewsKeep) where
  adds : AddsDevice name (at_line number s) t
  adds = (accepts_said number line (lines.Device name) s t printed says ends).0

  abbrev made : Device
  made = new_device name adds.committed

  devices_are : t.devices ≡ s.devices ++ made ∷ []
  devices_are = ap (λ (x : LabState). x.devices) adds.left

  found : device_of name t.devices ≡ Some made
  found = ap (device_of name) devices_are ∙ last_found made s.devices name refl adds.new

  -- it is the only one of its name
  is_made : (d : Device) → device_of name t.devices ≡ Some d → d ≡ made
  is_made d is = same_Some d made (sym is ∙ found)

  committed_so : adds.committed ≡ committed_of account s
  committed_so = same_Some adds.committed (committed_of account s) (sym adds.is ∙ committed_is account s.sessions s.server linked.server)

  linked_then : IsLinkedLab account t
  linked_then =
      keeps account number line s t printed linked key_left ends
      (λ said here. subst (λ (x : LabLine). TakesFreshSchema account x (at_line number s) t) (says_one line (lines.Device name) said says here) tt)

  copy_is_formed : IsWellFormed (held_by (as_downloaded adds.committed))
  copy_is_formed = copy_formed adds.committed (subst IsCommitted (sym committed_so) linked.server.lawful.committed)

  -- what is committed stays
  committed_then : adds.committed ≡ committed_of account t
  committed_then =
      same_Some adds.committed (committed_of account t)
      (sym adds.is ∙ sym (views_keep (at_line number s).server t.server adds.read) ∙ committed_is account t.sessions t.server linked_then.server)

  key_still_left : HasSession t
  key_still_left =
      subst (λ (n : ℕ). n < 18_446_744_073_709_551_615) (sym (ap (λ (x : LabState). x.sessions) adds.left)) key_left

  made_begins : BeginsUnhindered account name (at_line next t) (as_downloaded adds.committed)
  made_begins = record {
    alone = record {
      linked = at_line_linked account next t linked_then;
      holds = (made, found, refl);
      formed = copy_is_formed;
      goes = record {
        room = key_still_left;
        plans = λ d is. ap (λ (x : Device). x.planned) (is_made d is);
        device = subst (HasNoBreakIn name) (sym devices_are) (none_stands made s.devices name refl adds.new);
        server = ap (λ (x : LabState). names_none x.fails) adds.left ∙ stands;
        clocks = λ d is. ap (λ (x : Device). are_far_apart (second_of (t.clock +ℤ x.shift)) (second_of t.clock)) (is_made d is) ∙ no_gap t.clock;
      };
    };
    losses = λ d is. ap (λ (x : Device). loses_nothing x.mishaps) (is_made d is);
  }

  pub new_begins : BeginsUnhindered account name (at_line next t) (as_downloaded (committed_of account t))
  new_begins =
      subst (λ (base : Collection). BeginsUnhindered account name (at_line next t) (as_downloaded base)) committed_then made_begins

  -- it holds a copy of what is committed
  pub new_unchanged : CopiesEnd → (u : LabState) (crossed : List (List ℕ)) (outcome : Outcome) → EndsSync name (at_line next t) u crossed outcome
      → LabEndsWith outcomes.NoChanges (at_line next t) u outcome
  new_unchanged copies_end u crossed outcome ended =
      copies_end account name (at_line next t) u (as_downloaded (committed_of account t)) crossed outcome new_begins (record { rows = refl; head = refl })
      ended

-- ---- after a sync that did not finish
module _ (account : AccountState) (name : List ℕ) (s t : LabState) (number : ℕ) (c : Collection) (first : Outcome) (unfinished : EndedUnfinished account name c s t first)
    (formed : IsWellFormed (held_by c)) (near : HasNearClock name s) (key_left : HasSession t) (others_keep : OthersKeep)
    (use_up : SyncsUseUpBreaks) where
  linked_still : IsLinkedLab account t
  linked_still = (sides account name s t c first unfinished others_keep).linked

  abbrev keeps : KeepsOthers kinds.Sync name s t
  keeps = (sides account name s t c first unfinished others_keep).keeps

  -- the device is as it was, but for what the sync used up
  is_left : (d : Device) → device_of name t.devices ≡ Some d
      → d ≡ (let x : Device = record keeps.d { collection = keeps.made.collection; undo = []; calls = keeps.made.calls; fails = []; mishaps = []; planned = [] } in x)
  is_left d is = same_Some d keeps.made (sym is ∙ keeps.now) ∙ keeps.rest

  clocks_still : HasNearClock name t
  clocks_still d is =
      ap (λ (x : Device). are_far_apart (second_of (t.clock +ℤ x.shift)) (second_of t.clock)) (is_left d is)
      ∙ ap (λ (at : ℤ). are_far_apart (second_of (at +ℤ keeps.d.shift)) (second_of at)) keeps.clock ∙ near keeps.d keeps.was

  pub next_begins : BeginsUnhindered account name (at_line number t) c
  next_begins = record {
    alone = record {
      linked = at_line_linked account number t linked_still;
      holds = (keeps.made, keeps.now, holds_still account name s t c first unfinished others_keep keeps.made keeps.now);
      formed = formed;
      goes = record {
        room = key_left;
        plans = λ d is. ap (λ (x : Device). x.planned) (is_left d is);
        device = use_up name s t unfinished.crossed first unfinished.linked.names unfinished.ended;
        server = ap names_none keeps.breaks;
        clocks = clocks_still;
      };
    };
    losses = λ d is. ap (λ (x : Device). loses_nothing x.mishaps) (is_left d is);
  }

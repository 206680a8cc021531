-- What the device holds at a place of its plan, if its keeper tells it.
use Rattle.std.specs.List.{list_any}
use Rattle.std.specs.Prelude.{◌≡◌, ℕ, ℤ, Bool, true, List, [], ◌∷◌, ◌++◌, map, Option, Some, None, IfSome}
use Rattle.std.proofs.Common.{refl, sym, ap, subst, ◌∙◌}
use Rattle.ak_base.specs.declared.heads.Head.{Head}
use Rattle.ak_base.specs.declared.rows.Row.{Row}
use Rattle.ak_client_wire.specs.Wires.{WireKind}
use Rattle.ak_device.proofs.Receiving.{received_nothing, received_then}
use Rattle.ak_device.proofs.TakingAndSettling.{head_after, rows_after, tags_if}
use Rattle.ak_device.specs.Devices.{changes_from, changes_to_send, received}
use Rattle.ak_sync_rows.specs.Takes.{head_with}
use Rattle.ak_device.specs.Settlings.{is_changes, names_of, settled_by, settled_under, taken_and_settled}
use Rattle.ak_exchange.proofs.Replying.{replied_append}
use Rattle.ak_exchange.proofs.SentRows.{changes_left, no_changes_yet}
use Rattle.ak_exchange.specs.Asked.{Talk}
use Rattle.ak_exchange.specs.Phases.{HasReceived, IsAt, Place, held_by}
use Rattle.ak_keep.specs.Collections.{Collection, Holding, Rows}
use Rattle.ak_keep.specs.Keepers.{IsMarkedAt, Keeping, WhereTold, back, changed, is_marked}
use Rattle.ak_merge.specs.Commits.{Received, Settings}
use Rattle.ak_messages.specs.declared.replies.Give.{Give}
use Rattle.ak_messages.specs.declared.replies.Give.TheVariants as gives
use Rattle.ak_messages.specs.declared.requests.Ask.{Ask}
use Rattle.ak_messages.specs.declared.requests.Changes.{Changes}
use Rattle.ak_protocol.specs.Accounts.{AccountState}
use Rattle.ak_session.proofs.MessageLaws.{same_rows, same_settings, same_tags}
use Rattle.ak_session.proofs.Steps.{nothing_first, nothing_last}
use Rattle.ak_session.proofs.Sums.{given_graves}
use Rattle.ak_session.specs.Answers.{all_given, answer_to}
use Rattle.ak_session.specs.Asks.{all_brought, and_then, nothing}
use Rattle.ak_session.specs.Messages.{changes_of}
use Rattle.ak_session.specs.Plans.{device_changes, device_rows, planned, planned_graves}
use Rattle.ak_session.specs.Replies.{all_replied, replied, replied_after}
use Rattle.ak_session.specs.Sessions.{MaySync}

-- what a keeper holds at a place
abbrev pub held_at : Collection → Collection → List Ask → Holding
held_at c s asked = taken_and_settled s.head.usn (all_replied s asked) asked (held_by c)

-- what is true of what the keeper tells is true of that
pub told_at : {kind : WireKind} (c s : Collection) (account : AccountState) (asked : List Ask) (place : Place) (keeping : Keeping) (talk : Talk kind)
    → IsAt c s account asked place keeping talk → (P : Holding → Type 0) → WhereTold keeping P → P (held_at c s asked)
told_at c s account asked place keeping talk at P told = subst (λ (k : Keeping). WhereTold k P) at.device told

-- its rows are those that the plan speaks of, with what was sent settled
pub rows_at : (c s : Collection) (asked : List Ask) → MaySync c s → (rest : List Ask) × (asked ++ rest ≡ planned c s)
    → (held_at c s asked).rows ≡ settled_under s.head.usn (names_of (all_brought asked).rows) (device_rows c s asked)
rows_at c s asked may ahead =
    rows_after s.head.usn asked (received s.head.usn (all_replied s asked) (held_by c))
    ∙ ap (settled_under s.head.usn (names_of (all_brought asked).rows)) (same_rows c s asked ahead.0 s.head.usn c.rows may ahead.1)

-- ---- requests that bring nothing
module _ {X : Type 0} (s : Collection) (f : X → Ask) (quiet : (before : List Ask) (x : X) → answer_to s before (f x) ≡ gives.Nothing) where
  quiet_after : (before : List Ask) (xs : List X) → replied_after s before (map f xs) ≡ nothing
  quiet_after before [] = refl
  quiet_after before (x ∷ xs) =
      ap (λ (give : Give). and_then (replied give) (replied_after s (before ++ f x ∷ []) (map f xs))) (quiet before x)
      ∙ nothing_first (replied_after s (before ++ f x ∷ []) (map f xs))
      ∙ quiet_after (before ++ f x ∷ []) xs

  pub replied_quietly : (asked : List Ask) (xs : List X) → all_replied s (asked ++ map f xs) ≡ all_replied s asked
  replied_quietly asked xs =
      replied_append s [] asked (map f xs) ∙ ap (and_then (all_replied s asked)) (quiet_after asked xs) ∙ nothing_last (all_replied s asked)

-- ---- the changes
-- before the changes nothing but rows came: the head is the device's own
head_same : (usn : ℤ) (came : Received) (head : Head) → came.tags ≡ [] → came.settings ≡ None → head_with usn came head ≡ head
head_same usn came head tags settings =
    ap (λ (t : List (List ℕ)). head_with usn (record { rows = came.rows; tags = t; settings = came.settings }) head) tags
    ∙ ap (λ (o : Option Settings). head_with usn (record { rows = came.rows; tags = []; settings = o }) head) settings

pub changes_at : {kind : WireKind} (c s : Collection) (account : AccountState) (asked : List Ask) (place : Place) (keeping : Keeping) (talk : Talk kind) (changes : Changes)
    → IsAt c s account asked place keeping talk → MaySync c s → asked ≡ planned_graves c s → (rest : List Ask) × (asked ++ rest ≡ planned c s)
    → WhereTold keeping (λ h. IfSome h.head (λ head. changes ≡ changes_to_send s.head.moment h.rows head))
    → changes ≡ changes_of (device_changes c s)
changes_at c s account asked place keeping talk changes at may is ahead told =
    let came = all_replied s asked in
    let head_is : (held_at c s asked).head ≡ Some (head_with s.head.usn came c.head) =
    head_after s.head.usn asked (received s.head.usn came (held_by c))
    ∙ ap (λ (b : Bool). tags_if s.head.usn b (Some (head_with s.head.usn came c.head))) (ap (list_any is_changes) is ∙ no_changes_yet c s) in
    subst (λ (o : Option Head). IfSome o (λ head. changes ≡ changes_to_send s.head.moment (held_at c s asked).rows head)) head_is
    (told_at c s account asked place keeping talk at (λ h. IfSome h.head (λ head. changes ≡ changes_to_send s.head.moment h.rows head)) told)
    ∙ ap (λ (head : Head). changes_to_send s.head.moment (held_at c s asked).rows head)
    (head_same s.head.usn came c.head
    (same_tags s asked ∙ ap (λ (l : List Ask). (all_given s l).tags) is ∙ ap (λ (r : Received). r.tags) (given_graves c s may))
    (same_settings s asked ∙ ap (λ (l : List Ask). (all_given s l).settings) is ∙ ap (λ (r : Received). r.settings) (given_graves c s may)))
    ∙ ap (λ (rows : Rows). changes_to_send s.head.moment rows c.head) (rows_at c s asked may ahead)
    ∙ ap (λ (l : List Ask). changes_to_send s.head.moment (settled_under s.head.usn (names_of (all_brought l).rows) (device_rows c s l)) c.head) is
    ∙ ap (λ (rows : List Row). changes_from s.head.moment rows c.head) (changes_left c s may)

-- ---- what came and was settled in turns
pub received_once : (usn : ℤ) (k : Keeping) → HasReceived usn k k
received_once usn k = (nothing, received_nothing usn k)

pub received_more : (usn : ℤ) (k0 k1 k2 : Keeping) → HasReceived usn k0 k1 → HasReceived usn k1 k2 → HasReceived usn k0 k2
received_more usn k0 k1 k2 one two =
    (and_then one.0 two.0, two.1 ∙ ap (changed (received usn two.0)) one.1 ∙ received_then usn one.0 two.0 k0)

-- the same request, told in other words
pub settled_ask : (usn : ℤ) (ask own : Ask) (k0 k1 : Keeping) → own ≡ ask → k1 ≡ changed (settled_by usn own) k0 → k1 ≡ changed (settled_by usn ask) k0
settled_ask usn ask own k0 k1 same is = is ∙ ap (λ (a : Ask). changed (settled_by usn a) k0) same

-- ---- what was left as it was
pub stays_same : (k0 k1 : Keeping) → is_marked k0 ≡ true → k1 ≡ k0 → IsMarkedAt (back k0) k1
stays_same k0 k1 marked same = subst (IsMarkedAt (back k0)) (sym same) (record { marked = marked; back = refl })

-- whether a head is held stays
pub received_held : (usn : ℤ) (k0 k1 : Keeping) → HasReceived usn k0 k1 → k0.headed.current ≡ true → k1.headed.current ≡ true
received_held usn k0 k1 took held = ap (λ (k : Keeping). k.headed.current) took.1 ∙ held

-- What the device holds once a finished sync is committed.
use Rattle.std.specs.FinMap.{get}
use Rattle.std.specs.List.{list_any}
use Rattle.std.specs.Option.{option_map}
use Rattle.std.specs.Prelude.{◌≡◌, ℤ, pos, ◌+ℤ◌, Bool, true, false, if◌then◌else◌, List, Option, Some, None, IfSome}
use Rattle.std.proofs.Common.{refl, sym, ap, subst, ◌∙◌}
use Rattle.std.proofs.lemmas.Option.{same_Some}
use Rattle.ak_base.specs.declared.heads.Head.{Head}
use Rattle.ak_client.proofs.Finishing.{ended_head, exchanged}
use Rattle.ak_client.specs.Endings.{IsEnded, IsGranted}
use Rattle.ak_client.specs.Syncs.{CommitsHead}
use Rattle.ak_device.proofs.TakingAndSettling.{head_after, tags_if}
use Rattle.ak_device.specs.Devices.{received}
use Rattle.ak_sync_rows.specs.Takes.{head_with}
use Rattle.ak_device.specs.Settlings.{is_changes, tags_settled, taken_and_settled}
use Rattle.ak_exchange.proofs.SentRows.{changes_sent, held_settled}
use Rattle.ak_exchange.specs.Phases.{IsMet, held_by, holding}
use Rattle.ak_exchange.specs.declared.envelopes.Met.{Met}
use Rattle.ak_keep.specs.Collections.{Collection, Holding, with_moments}
use Rattle.ak_keep.specs.Keepers.{Keeping, WhereTold, committed, moments_set}
use Rattle.ak_keep.specs.Marks as marks
use Rattle.ak_keep.specs.Marks.{WithMark}
use Rattle.ak_merge.specs.Commits.{Received}
use Rattle.ak_merge.specs.Exchanges.{AreExchanged, HoldsJoin, settled}
use Rattle.ak_merge.specs.Takings.{all_taken}
use Rattle.ak_messages.specs.declared.requests.Ask.{Ask}
use Rattle.ak_protocol.specs.Accounts.{AccountState}
use Rattle.ak_protocol.specs.Logs.{Log}
use Rattle.ak_session.specs.Plans.{Asker, planned_check}
use Rattle.ak_session.specs.Replies.{all_replied}
use Rattle.ak_session.specs.Sessions.{MaySync}
use Rattle.ak_merge.specs.declared.sides.Side.TheVariants.{Device}

-- what a keeper holds once these rows are held and this head got its moments
held_then : (moment schema usn : ℤ) (after : Holding) (head : Head) → after.head ≡ Some head
    → with_moments moment schema usn moment after
    ≡ record { rows = after.rows; head = Some (record head { moment = moment; schema = schema; usn = usn; last_sync = moment }) }
held_then moment schema usn after head is =
    ap (λ (o : Option Head). record {
      rows = after.rows;
      head = option_map (λ (h : Head). record h { moment = moment; schema = schema; usn = usn; last_sync = moment }) o;
    }) is

module _ (c s : Collection) (account : AccountState) (who : Asker) (asks : List Ask) (told : Option Log) (met : Met) (moment : ℤ) (left now : Keeping)
    (granted : IsGranted c s account who asks told left moment) (is_met : IsMet c s met)
    (commits : now ≡ committed (moments_set moment met.head.schema (met.meta.usn +ℤ pos 1) moment left)) where
  abbrev came : Received
  came = all_replied s granted.asked

  -- what is held, which took what came and settled what was sent
  abbrev after : Holding
  after = taken_and_settled s.head.usn came granted.asked (held_by c)

  -- its tags are settled if changes were sent
  abbrev head_if : Bool → Head
  head_if sent = let own = head_with s.head.usn came c.head in if sent then tags_settled s.head.usn own else own

  abbrev device_if : Bool → Collection
  device_if sent = record { rows = after.rows; head = record (head_if sent) { moment = moment; schema = c.head.schema; usn = s.head.usn +ℤ pos 1; last_sync = moment } }

  abbrev device : Collection
  device = device_if (list_any is_changes granted.asked)

  head_is : after.head ≡ Some (head_if (list_any is_changes granted.asked))
  head_is = head_after s.head.usn granted.asked (received s.head.usn came (held_by c)) ∙ by (list_any is_changes granted.asked)
    where
      by : (sent : Bool) → tags_if s.head.usn sent (Some (head_with s.head.usn came c.head)) ≡ Some (head_if sent)
      by true = refl
      by false = refl

  -- the numbers that are set are those of what was met
  abbrev numbered : ℤ → ℤ → Holding
  numbered schema usn = record {
    rows = after.rows;
    head = Some (record (head_if (list_any is_changes granted.asked)) { moment = moment; schema = schema; usn = usn +ℤ pos 1; last_sync = moment });
  }

  numbers : numbered met.head.schema met.meta.usn ≡ held_by device
  numbers = ap (λ (h : Head). numbered h.schema met.meta.usn) is_met.head ∙ ap (numbered c.head.schema) is_met.usn

  holds : now ≡ holding device
  holds =
      commits
      ∙ ap (λ (k : Keeping). committed (moments_set moment met.head.schema (met.meta.usn +ℤ pos 1) moment k)) granted.device
      ∙ ap (λ (h : Holding). record { headed = (holding c).headed; told = Some (record { current = h; mark = None }) })
      (held_then moment met.head.schema (met.meta.usn +ℤ pos 1) after (head_if (list_any is_changes granted.asked)) head_is ∙ numbers)

  half : MaySync c s → HoldsJoin c s granted.after → AreExchanged c s device granted.after
  half may joined =
      let whole : granted.asked ≡ planned_check c s = (granted.passed may).asked_is in
      let sent : list_any is_changes granted.asked ≡ true = ap (list_any is_changes) whole ∙ changes_sent c s in
      subst (λ (it : Bool). AreExchanged c s (device_if it) granted.after) (sym sent)
      (subst (λ (asked : List Ask). AreExchanged c s (record { rows = after.rows; head = ended_head s.head.usn moment (all_replied s asked) c.head }) granted.after) (sym whole)
      (exchanged c s granted.after may after.rows moment (sym granted.moment_is)
      (λ name. subst (λ (asked : List Ask). get (taken_and_settled s.head.usn (all_replied s asked) asked (held_by c)).rows name
      ≡ option_map (settled s.head.usn) (get (all_taken Device s.head.usn (all_replied s (planned_check c s)).rows c.rows) name)) (sym whole) ((held_settled c s may).rows name))
      joined))

  pub ended : IsEnded c s account who told now
  ended = record {
    after = granted.after;
    committed = granted.committed;
    device = device;
    holds = holds;
    moment = granted.moment_is;
    last_sync = granted.moment_is;
    usn = refl;
    schema = refl;
    sound = λ may. (granted.passed may).sound;
    half = half;
  }

-- ---- over any keeper
own_head : (moment schema usn : ℤ) (t : Option (WithMark Holding))
    → IfSome (option_map marks.committed (option_map (marks.changed (with_moments moment schema usn moment)) t))
    (λ (w : WithMark Holding). IfSome w.current.head (λ (now : Head). (now.last_sync ≡ now.moment) × (now.schema ≡ schema)))
own_head moment schema usn None = tt
own_head moment schema usn (Some w) = by w.current.head
  where
    by : (o : Option Head)
        → IfSome (option_map (λ (head : Head). record head { moment = moment; schema = schema; usn = usn; last_sync = moment }) o)
        (λ (now : Head). (now.last_sync ≡ now.moment) × (now.schema ≡ schema))
    by None = tt
    by (Some head) = (refl, refl)

-- the head that is committed
pub commits_head : (before mid left : Keeping) (moment schema usn : ℤ) (head : Head) → schema ≡ head.schema
    → WhereTold before (λ h. h.head ≡ Some head) → left ≡ committed (moments_set moment schema usn moment mid) → CommitsHead before left
commits_head before mid left moment schema usn head same own commits = by before.told own
  where
    set : (other : ℤ) → schema ≡ other → WhereTold left (λ h. IfSome h.head (λ now. (now.last_sync ≡ now.moment) × (now.schema ≡ other)))
    set other is =
        subst (λ (s : ℤ). WhereTold left (λ h. IfSome h.head (λ now. (now.last_sync ≡ now.moment) × (now.schema ≡ s)))) is
        (subst (λ (k : Keeping). WhereTold k (λ h. IfSome h.head (λ now. (now.last_sync ≡ now.moment) × (now.schema ≡ schema)))) (sym commits)
        (own_head moment schema usn mid.told))

    held : (o : Option Head) → o ≡ Some head
        → IfSome o (λ (own : Head). WhereTold left (λ h. IfSome h.head (λ now. (now.last_sync ≡ now.moment) × (now.schema ≡ own.schema))))
    held None is = tt
    held (Some other) is = set other.schema (same ∙ ap (λ (h : Head). h.schema) (sym (same_Some other head is)))

    by : (t : Option (WithMark Holding)) → IfSome t (λ (w : WithMark Holding). w.current.head ≡ Some head)
        → IfSome t (λ (w : WithMark Holding). IfSome w.current.head (λ (own : Head).
        WhereTold left (λ h. IfSome h.head (λ now. (now.last_sync ≡ now.moment) × (now.schema ≡ own.schema)))))
    by None is = tt
    by (Some w) is = held w.current.head is

-- What the meta of a sync says, if nothing else comes to the server, and that it lets the sync go on.
use Rattle.std.specs.List.{AllByRecursion}
use Rattle.std.specs.Option.{option_map, option_or}
use Rattle.std.specs.Ordering.{int_eq}
use Rattle.std.specs.Prelude.{◌≡◌, ◌<ℤ◌, ◌&&◌, ℤ, not, if◌then◌else◌, Bool, true, false, List, [], ◌∷◌, ◌++◌, Option, Some, None, Ok, Err, ◌⊎◌}
use Rattle.std.proofs.Common.{refl, sym, ap, subst, ◌∙◌, inl, inr, arith, append_assoc}
use Rattle.std.proofs.lemmas.Int.{ints}
use Rattle.std.proofs.lemmas.Option.{none-some, same_Some}
use Rattle.ak_base.specs.Limits.{last_head_usn}
use Rattle.ak_client.proofs.Growing.{HasGrown, tried_grows, world_grown}
use Rattle.ak_client.specs.Greetings.{are_far_apart, clock_stop, device_stop, head_stop, is_unchanged, meta_of}
use Rattle.ak_client.specs.Unsent.{has_unsent}
use Rattle.ak_client.specs.Outcomes.{is_told_by_meta}
use Rattle.ak_client.specs.Syncs.{EndsBecause, EndsByMeta, told_by, world_at}
use Rattle.ak_client.specs.declared.outcomes.Outcome.{Outcome}
use Rattle.ak_client.specs.declared.outcomes.Outcome.TheVariants as outcomes
use Rattle.ak_exchange.specs.Asked.{AreTried, TriedAsk, asker}
use Rattle.ak_exchange.specs.Phases.{held_by, holding}
use Rattle.ak_exchange.specs.declared.envelopes.Ids.{Ids}
use Rattle.ak_faults.specs.Causes.{Health}
use Rattle.ak_io.specs.Arrivals.{GivesNext}
use Rattle.ak_keep.specs.Collections.{Collection}
use Rattle.ak_keep.specs.Keepers.{Keeping, WhereTold}
use Rattle.ak_merge.specs.Edits.{second_of}
use Rattle.ak_merge.specs.Soundness.{first_fault}
use Rattle.ak_merge.specs.declared.checks.CheckFault.{CheckFault}
use Rattle.ak_messages.specs.declared.replies.Give.TheVariants as gives
use Rattle.ak_messages.specs.declared.replies.MetaReply.{MetaReply}
use Rattle.ak_messages.specs.declared.replies.Reply.{Reply}
use Rattle.ak_messages.specs.declared.requests.Request.{Request}
use Rattle.ak_protocol.proofs.Commits.{not_both}
use Rattle.ak_protocol.proofs.Syncs.{all_back, all_front}
use Rattle.ak_protocol.specs.Accounts.{AccountState}
use Rattle.ak_protocol.specs.Logs.{Event, View, Asked, IsReplyIn, Log, World, with_growth, world_after, world_next}
use Rattle.ak_protocol.specs.Replies.{granted, meta_reply}
use Rattle.ak_protocol.specs.Serving.{Setback, Undisturbed, KeeperFault, OutOfMemory, served}
use Rattle.ak_sync_completes.proofs.Serving.{Answer, all_own, same_growth, reply_at_place, served_alone, servings_are_of}
use Rattle.ak_sync_completes.specs.Completing.{IsMetaNear, have_nothing_to_sync}
use Rattle.ak_client_wire.specs.Forms.{is_meta_in_range, meta_told}
use Rattle.ak_client_wire.specs.Wires.{WireKind, IsServing, WireState}
use Rattle.ak_client_wire.specs.declared.wires.MetaSaid.{MetaSaid}

-- ---- the meta
-- a meta leaves what is committed
metas_keep : (ids : Ids) (w : World) (events : List Event) → AllByRecursion (IsServing (meta_of ids)) events → (world_after w events).state.committed ≡ w.state.committed
metas_keep ids w [] all = refl
metas_keep ids w (View host ∷ events) all = absurd all.0
metas_keep ids w (Asked other now setback ∷ events) all =
    metas_keep ids (world_next w (Asked other now setback)) events all.1
    ∙ ap (λ (r : Request). (served w.state r now setback).next.committed) all.0
    ∙ kept setback
  where
    kept : (b : Setback) → (served w.state (meta_of ids) now b).next.committed ≡ w.state.committed
    kept Undisturbed = refl
    kept KeeperFault = refl
    kept OutOfMemory = refl

-- what a meta says that was answered over this collection, while the server's clock was near this moment
pub record Says (s : Collection) (at : ℤ) (said : MetaSaid) : Type 0 where
  pub cont : said.cont ≡ true
  pub near : are_far_apart (second_of at) said.ts ≡ false
  pub moment : said.moment ≡ s.head.moment
  pub schema : said.scm ≡ s.head.schema
  pub usn : said.usn ≡ s.head.usn

-- what is found only if a test holds
pub one_of : {X : Type 0} (b : Bool) (x y : X) → (if b then Some x else None) ≡ Some y → x ≡ y
one_of true x y is = same_Some x y is
one_of false x y is = absurd (none-some y is)

said_by : (s : Collection) (account : AccountState) (ids : Ids) (at now : ℤ) (said : MetaSaid) (reply : Reply) → account.committed ≡ s → (setback : Setback)
    → (served account (meta_of ids) now setback).reply ≡ reply → IsMetaNear at (Asked (meta_of ids) now setback) → told_by (Ok reply) ≡ Some said → Says s at said
said_by s account ids at now said reply same Undisturbed is near told =
    let own : reply ≡ granted (gives.Meta (meta_reply s.head now)) = sym is ∙ ap (λ (k : Collection). granted (gives.Meta (meta_reply k.head now))) same in
    let meta : MetaReply = meta_reply s.head now in
    let one : meta_told meta ≡ said =
    one_of (is_meta_in_range meta) (meta_told meta) said (subst (λ (r : Reply). told_by (Ok r) ≡ Some said) own told) in
    record {
      cont = sym (ap (λ (m : MetaSaid). m.cont) one);
      near = subst (λ (m : MetaSaid). are_far_apart (second_of at) m.ts ≡ false) one (near refl);
      moment = sym (ap (λ (m : MetaSaid). m.moment) one);
      schema = sym (ap (λ (m : MetaSaid). m.scm) one);
      usn = sym (ap (λ (m : MetaSaid). m.usn) one);
    }
said_by s account ids at now said reply same KeeperFault is near told =
    absurd (none-some said (subst (λ (r : Reply). told_by (Ok r) ≡ Some said) (sym is) told))
said_by s account ids at now said reply same OutOfMemory is near told =
    absurd (none-some said (subst (λ (r : Reply). told_by (Ok r) ≡ Some said) (sym is) told))

-- it is answered over what was committed before it
pub held_at_meta : (ids : Ids) (account : AccountState) (old : Log) (mine : List Event) (reply : Reply) → AllByRecursion (IsServing (meta_of ids)) mine
    → (r : IsReplyIn old mine (meta_of ids) reply)
    → (world_at (asker ids) account (with_growth old r.before)).state.committed ≡ (world_at (asker ids) account old).state.committed
held_at_meta ids account old mine reply servings r =
    ap (λ (w : World). w.state.committed) (world_grown (asker ids) account old r.before
    ∙ ap (world_after (world_at (asker ids) account old)) (all_own ids.host.digits r.before (servings_are_of ids.host.digits (meta_of ids) r.before refl before)))
    ∙ metas_keep ids (world_at (asker ids) account old) r.before before
  where
    before : AllByRecursion (IsServing (meta_of ids)) r.before
    before =
        all_front (IsServing (meta_of ids)) r.before (Asked (meta_of ids) r.now r.setback ∷ r.after)
        (subst (AllByRecursion (IsServing (meta_of ids))) (sym r.place) servings)

module _ {kind : WireKind} (ids : Ids) (account : AccountState) (old now : Log) (growth : List Event) (opening : old.opening ids.host.digits ≡ Some account)
    (grown : now ≡ with_growth old growth) (at : ℤ) (near : AllByRecursion (IsMetaNear at) growth)
    (h0 h1 : Health) (w0 w1 : WireState kind) (alone : w0.alone ≡ true) (told_old : w0.log ≡ Some old) (told_now : w1.log ≡ Some now) where
  abbrev committed : Collection
  committed = (world_at (asker ids) account old).state.committed

  -- a meta that is tried first, and is granted, says what was committed before it
  pub meta_says : (answer : Answer) (more : List Request) (answers : List Answer) → AreTried (meta_of ids ∷ more) (answer ∷ answers) h0 h1 w0 w1
      → (said : MetaSaid) → told_by answer ≡ Some said → Says committed at said
  meta_says (Err end) more answers tried said told = absurd (none-some said told)
  meta_says (Ok reply) more answers tried said told =
      let first = served_alone h0 tried.0 w0 tried.1 (meta_of ids) (Ok reply) old tried.2 alone told_old in
      let rest : HasGrown first.0 w1.log = tried_grows more answers tried.0 h1 tried.1 w1 first.0 tried.3 first.1 in
      let whole : first.2.growth ++ rest.growth ≡ growth =
      same_growth old now (first.2.growth ++ rest.growth) growth
      (same_Some now rest.now (sym told_now ∙ rest.is)
      ∙ rest.grown
      ∙ ap (λ (log : Log). with_growth log rest.growth) first.2.grown
      ∙ ap (λ (events : List Event). record old { events = events }) (append_assoc old.events first.2.growth rest.growth)) grown in
      at_place first.2.growth first.2.servings (all_front (IsMetaNear at) first.2.growth rest.growth (subst (AllByRecursion (IsMetaNear at)) (sym whole) near)) first.2.reply
    where
      at_place : (mine : List Event) → AllByRecursion (IsServing (meta_of ids)) mine → AllByRecursion (IsMetaNear at) mine → IsReplyIn old mine (meta_of ids) reply → Says committed at said
      at_place mine servings close r =
          said_by committed (world_at (asker ids) account (with_growth old r.before)).state ids at r.now said reply (held_at_meta ids account old mine reply servings r) r.setback
          (reply_at_place (meta_of ids) account old mine reply r opening)
          (all_back (IsMetaNear at) r.before (Asked (meta_of ids) r.now r.setback ∷ r.after) (subst (AllByRecursion (IsMetaNear at)) (sym r.place) close)).0 told

-- ---- it lets the sync go on
pub clocks_pass : (s : Collection) (at : ℤ) (said : MetaSaid) → Says s at said → clock_stop said (second_of at) ≡ None
clocks_pass s at said says =
    ap (λ (b : Bool). if not b then Some outcomes.Stopped else if are_far_apart (second_of at) said.ts then Some (outcomes.ClockOff (second_of at) said.ts) else None) says.cont
    ∙ ap (λ (b : Bool). if b then Some (outcomes.ClockOff (second_of at) said.ts) else None) says.near

module _ (c s : Collection) (schema : c.head.schema ≡ s.head.schema) (differ : have_nothing_to_sync c s ≡ false) (room : s.head.usn <ℤ last_head_usn)
    (sound : first_fault c.rows ≡ None) (at : ℤ) (said : MetaSaid) (says : Says s at said) where
  heads_pass : head_stop said c.head (is_unchanged said c.head c.rows) ≡ None
  heads_pass =
      ap (λ (b : Bool). if b then Some outcomes.NoChanges else if not (int_eq c.head.schema said.scm) then Some (outcomes.FullSchema c.head.schema said.scm)
      else if int_eq said.usn last_head_usn then Some (outcomes.FullSequence said.usn) else None) changed
      ∙ ap (λ (b : Bool). if not b then Some (outcomes.FullSchema c.head.schema said.scm) else if int_eq said.usn last_head_usn then Some (outcomes.FullSequence said.usn) else None) schemas
      ∙ ap (λ (b : Bool). if b then Some (outcomes.FullSequence said.usn) else None) numbers
    where
      changed : is_unchanged said c.head c.rows ≡ false
      changed =
          ap (λ (moment : ℤ). (int_eq c.head.moment moment && int_eq c.head.schema said.scm && int_eq c.head.usn said.usn) && not (has_unsent c.rows c.head.tags)) says.moment
          ∙ ap (λ (scm : ℤ). (int_eq c.head.moment s.head.moment && int_eq c.head.schema scm && int_eq c.head.usn said.usn) && not (has_unsent c.rows c.head.tags)) says.schema
          ∙ ap (λ (usn : ℤ). (int_eq c.head.moment s.head.moment && int_eq c.head.schema s.head.schema && int_eq c.head.usn usn) && not (has_unsent c.rows c.head.tags)) says.usn
          ∙ differ

      schemas : int_eq c.head.schema said.scm ≡ true
      schemas = let is = says.schema in grind (arith, ints, is, schema)

      numbers : int_eq said.usn last_head_usn ≡ false
      numbers = let is = says.usn in grind (arith, ints, is, room)

  device_passes : device_stop said (held_by c) ≡ None
  device_passes =
      ap (λ (o : Option Outcome). option_or o (option_map (λ (fault : CheckFault). outcomes.OwnCheck fault) (first_fault c.rows))) heads_pass
      ∙ ap (option_map (λ (fault : CheckFault). outcomes.OwnCheck fault)) sound

-- the clock gives the moment that it told
pub gives_told : (at other : ℤ) (later : List ℤ) (new : Option (List ℤ)) → GivesNext (Some (at ∷ later)) new other → other ≡ at
gives_told at other [] new given = given.0
gives_told at other (next ∷ later) new given = given.0

-- a sync does not end at such a meta
pub goes_on_after : (ids : Ids) (c s : Collection) (answer : Answer) (moment at : ℤ) (later : List ℤ) (tries : List TriedAsk) (before : Keeping) (moments : Option (List ℤ)) (outcome : Outcome)
    → ((said : MetaSaid) → told_by answer ≡ Some said → Says s at said)
    → c.head.schema ≡ s.head.schema → have_nothing_to_sync c s ≡ false → s.head.usn <ℤ last_head_usn → first_fault c.rows ≡ None
    → before ≡ holding c → moments ≡ Some (at ∷ later) → EndsBecause answer moment tries before moments outcome
    → is_told_by_meta outcome ≡ true → ⊥
goes_on_after ids c s answer moment at later tries before moments outcome says schema differ room sound holds clock because told = by (told_by answer) refl
  where
    by : (o : Option MetaSaid) → told_by answer ≡ o → ⊥
    by None none = not_both told (because.unmet none)
    by (Some said) is =
        let m = because.met said is in
        ended m.0 m.1 m.2 m.3
      where
        ended : (other : ℤ) (to_come : Option (List ℤ)) → GivesNext moments to_come other → EndsByMeta said other before outcome → ⊥
        ended other to_come given ends =
            by_why (ends.only told)
          where
            pass : clock_stop said (second_of other) ≡ None
            pass =
                ap (λ (moment : ℤ). clock_stop said (second_of moment))
                (gives_told at other later to_come (subst (λ (o : Option (List ℤ)). GivesNext o to_come other) clock given))
                ∙ clocks_pass s at said (says said is)

            by_why : (clock_stop said (second_of other) ≡ Some outcome)
                ⊎ ((clock_stop said (second_of other) ≡ None) × WhereTold before (λ h. device_stop said h ≡ Some outcome)) → ⊥
            by_why (inl found) = none-some outcome (sym pass ∙ found)
            by_why (inr (passed, found)) =
                none-some outcome (sym (device_passes c s schema differ room sound at said (says said is))
                ∙ subst (λ (k : Keeping). WhereTold k (λ h. device_stop said h ≡ Some outcome)) holds found)

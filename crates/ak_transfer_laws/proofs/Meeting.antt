-- What the meta of a session comes to that is left alone, and what a request of it comes to.
use Rattle.std.specs.List.{AllByRecursion}
use Rattle.std.specs.Prelude.{◌≡◌, ◌≢◌, ◌⊎◌, ◌==◌, ℤ, if◌then◌else◌, Bool, true, false, List, [], ◌∷◌, ◌++◌, Option, Some, None, Result, Ok, Err}
use Rattle.std.proofs.Common.{refl, sym, ap, subst, ◌∙◌, inl, inr, arith, append_assoc}
use Rattle.std.proofs.lemmas.Bool.{eqb-true}
use Rattle.std.proofs.lemmas.Option.{same_Some}
use Rattle.ak_client.proofs.Growing.{HasGrown, tried_grows}
use Rattle.ak_client.specs.Greetings.{meta_of}
use Rattle.ak_client.specs.Syncs.{told_by}
use Rattle.ak_exchange.proofs.Tried.{tried_reads}
use Rattle.ak_exchange.specs.Asked.{AreTried}
use Rattle.ak_exchange.specs.declared.envelopes.Ids.{Ids}
use Rattle.ak_faults.proofs.Healths.{cause_before}
use Rattle.ak_io.specs.Arrivals.{GivesNext}
use Rattle.ak_keep.specs.Collections.{Collection}
use Rattle.ak_merge.specs.Commits.{IsCommitted}
use Rattle.ak_messages.specs.declared.replies.Give.TheVariants as gives
use Rattle.ak_messages.specs.declared.replies.Reply.{Reply}
use Rattle.ak_messages.specs.declared.requests.Request.{Request}
use Rattle.ak_protocol.proofs.Syncs.{all_back, all_front}
use Rattle.ak_protocol.specs.Accounts.{AccountState}
use Rattle.ak_protocol.specs.Logs.{Event, View, Asked, IsReplyIn, Log, with_growth}
use Rattle.ak_protocol.specs.Replies.{granted, meta_reply}
use Rattle.ak_protocol.specs.Serving.{Setback, Undisturbed, KeeperFault, OutOfMemory, served}
use Rattle.ak_protocol.specs.Syncs.{world_of}
use Rattle.ak_sync_completes.proofs.Forming.{metas_fit}
use Rattle.ak_sync_completes.proofs.Metas.{Says, gives_told, held_at_meta, meta_says}
use Rattle.ak_sync_completes.proofs.Serving.{Answer, IsServedAlone, reply_at_place, same_growth, served_alone}
use Rattle.ak_sync_completes.specs.Completing.{HasNoKeeperFault, RanOutOfMemory, SyncEnds}
use Rattle.ak_transfer_laws.specs.Completing.{IsLeftAlone, committed_before}
use Rattle.ak_client_wire.specs.Forms.{meta_in, meta_told}
use Rattle.ak_client_wire.specs.declared.wires.MetaSaid.{MetaSaid}
use Rattle.ak_client_wire.specs.declared.wires.WireEnd.TheVariants as ends
use Rattle.ak_client_wire.specs.Wires.{WireKind}

-- ---- where memory ran out
out_there : (xs ys : List Event) (request : Request) (now : ℤ) → RanOutOfMemory (xs ++ Asked request now OutOfMemory ∷ ys)
out_there [] ys request now = inl refl
out_there (View host ∷ xs) ys request now = out_there xs ys request now
out_there (Asked other at setback ∷ xs) ys request now = inr (out_there xs ys request now)

out_before : (xs ys : List Event) → RanOutOfMemory xs → RanOutOfMemory (xs ++ ys)
out_before [] ys out = absurd out
out_before (View host ∷ xs) ys out = out_before xs ys out
out_before (Asked request now setback ∷ xs) ys (inl is) = inl is
out_before (Asked request now setback ∷ xs) ys (inr out) = inr (out_before xs ys out)

out_after : (xs ys : List Event) → RanOutOfMemory ys → RanOutOfMemory (xs ++ ys)
out_after [] ys out = out
out_after (View host ∷ xs) ys out = out_after xs ys out
out_after (Asked request now setback ∷ xs) ys out = inr (out_after xs ys out)

-- ---- answers
pub ok_same : {T E : Type 0} (one other : T) → ◌≡◌ {A = Result T E} (Ok one) (Ok other) → one ≡ other
ok_same one other is = grind (arith, is)

pub err_ok : {T E : Type 0} (why : E) (given : T) → ◌≡◌ {A = Result T E} (Err why) (Ok given) → ⊥
err_ok why given is = grind (arith, is)

pub not_granted : (reply : Reply) → reply.status ≢ 200 → (reply.status == 200) ≡ false
not_granted reply other = by (reply.status == 200) refl
  where
    by : (b : Bool) → (reply.status == 200) ≡ b → (reply.status == 200) ≡ false
    by true is = absurd (other (eqb-true reply.status 200 is))
    by false is = is

-- a meta that was granted says this
pub told_of : (reply : Reply) (said : MetaSaid) → reply.status ≡ 200 → meta_in reply.give ≡ Some said → told_by (Ok reply) ≡ Some said
told_of reply said ok given = ap (λ (b : Bool). if b then meta_in reply.give else None) is ∙ given
  where
    is : (reply.status == 200) ≡ true
    is = grind (arith, ok)

-- ---- the meta
-- what a meta comes to: it got no answer, memory ran out, on the device or at the server, or it is granted and says what is committed
abbrev pub Comes : Collection → ℤ → List Event → Answer → Type 0
Comes s at growth answer = (answer ≡ Err ends.Failed) ⊎ (answer ≡ Err ends.Memory)
    ⊎ ((reply : Reply) × (answer ≡ Ok reply) × (reply.status ≢ 200) × RanOutOfMemory growth)
    ⊎ ((reply : Reply) × (said : MetaSaid) × (answer ≡ Ok reply) × (reply.status ≡ 200) × (meta_in reply.give ≡ Some said) × Says s at said)

module _ {kind : WireKind} (ids : Ids) (c : Collection) (account : AccountState) (before after : SyncEnds kind) (it : IsLeftAlone ids c account before after) where
  abbrev pub held : Collection
  held = committed_before ids account it.old

  pub lawful : IsCommitted (committed_before ids account it.old)
  lawful = it.may.lawful.committed

  pub clock_is : (other : ℤ) (new : Option (List ℤ)) → GivesNext before.moments new other → other ≡ it.at
  clock_is other new given = gives_told it.at other it.later new (subst (λ (o : Option (List ℤ)). GivesNext o new other) it.clock given)

  -- a reply to a request at a place of what came: nothing came in between, or memory ran out and it is a refusal
  pub by_setback : (request : Request) (mid : Log) (earlier mine later : List Event) (reply : Reply) → earlier ++ (mine ++ later) ≡ it.growth
      → (r : IsReplyIn mid mine request reply) → mid.opening request.host.digits ≡ Some account
      → (r.setback ≡ Undisturbed) ⊎ ((reply.status ≢ 200) × RanOutOfMemory it.growth)
  by_setback request mid earlier mine later reply parts r opening = by r.setback refl
    where
      mine_all : AllByRecursion HasNoKeeperFault (r.before ++ Asked request r.now r.setback ∷ r.after)
      mine_all =
          subst (AllByRecursion HasNoKeeperFault) (sym r.place)
          (all_front HasNoKeeperFault mine later
          (all_back HasNoKeeperFault earlier (mine ++ later) (subst (AllByRecursion HasNoKeeperFault) (sym parts) it.server)))

      here : r.setback ≢ KeeperFault
      here = (all_back HasNoKeeperFault r.before (Asked request r.now r.setback ∷ r.after) mine_all).0

      replied : (b : Setback) → r.setback ≡ b → (served (world_of request.host.digits account (with_growth mid r.before)).state request r.now b).reply ≡ reply
      replied b is =
          subst (λ (x : Setback). (served (world_of request.host.digits account (with_growth mid r.before)).state request r.now x).reply ≡ reply) is
          (reply_at_place request account mid mine reply r opening)

      out : r.setback ≡ OutOfMemory → RanOutOfMemory it.growth
      out is =
          subst RanOutOfMemory parts
          (out_after earlier (mine ++ later) (out_before mine later (subst RanOutOfMemory r.place
          (subst (λ (x : Setback). RanOutOfMemory (r.before ++ Asked request r.now x ∷ r.after)) (sym is) (out_there r.before r.after request r.now)))))

      refusal : reply.status ≡ 500 → reply.status ≢ 200
      refusal is ok = omega (arith, is, ok)

      by : (b : Setback) → r.setback ≡ b → (r.setback ≡ Undisturbed) ⊎ ((reply.status ≢ 200) × RanOutOfMemory it.growth)
      by Undisturbed is = inl is
      by KeeperFault is = absurd (here is)
      by OutOfMemory is = inr (refusal (ap (λ (x : Reply). x.status) (sym (replied OutOfMemory is))), out is)

  -- a meta that was answered at a place of what came
  module _ (reply : Reply) (more : List Request) (answers : List Answer) (tried : AreTried (meta_of ids ∷ more) (Ok reply ∷ answers) before.health after.health before.wire after.wire)
      (mid : Log) (mine : IsServedAlone it.old mid (meta_of ids) (Ok reply)) (rest : HasGrown mid after.wire.log) where
    abbrev r : IsReplyIn it.old mine.growth (meta_of ids) reply
    r = mine.reply

    abbrev told : MetaSaid
    told = meta_told (meta_reply held.head r.now)

    whole : mine.growth ++ rest.growth ≡ it.growth
    whole =
        same_growth it.old it.now (mine.growth ++ rest.growth) it.growth
        (same_Some it.now rest.now (sym it.told_now ∙ rest.is)
        ∙ rest.grown
        ∙ ap (λ (log : Log). with_growth log rest.growth) mine.grown
        ∙ ap (λ (events : List Event). record it.old { events = events }) (append_assoc it.old.events mine.growth rest.growth)) it.grown

    says : r.setback ≡ Undisturbed → reply ≡ granted (gives.Meta (meta_reply held.head r.now))
    says is =
        sym (subst (λ (b : Setback). (served (world_of ids.host.digits account (with_growth it.old r.before)).state (meta_of ids) r.now b).reply ≡ reply) is
        (reply_at_place (meta_of ids) account it.old mine.growth reply r it.may.unused.opening))
        ∙ ap (λ (k : Collection). granted (gives.Meta (meta_reply k.head r.now))) (held_at_meta ids account it.old mine.growth reply mine.servings r)

    given : r.setback ≡ Undisturbed → meta_in reply.give ≡ Some told
    given is = ap (λ (x : Reply). meta_in x.give) (says is) ∙ ap (λ (b : Bool). if b then Some told else None) (metas_fit held.head r.now lawful.head)

    by_place : (r.setback ≡ Undisturbed) ⊎ ((reply.status ≢ 200) × RanOutOfMemory it.growth) → Comes held it.at it.growth (Ok reply)
    by_place (inr refused) = inr (inr (inl (reply, refl, refused.0, refused.1)))
    by_place (inl quiet) =
        let ok : reply.status ≡ 200 = ap (λ (x : Reply). x.status) (says quiet) in
        inr (inr (inr (
          reply,
          told,
          refl,
          ok,
          given quiet,
          meta_says ids account it.old it.now it.growth it.may.unused.opening it.grown it.at it.near before.health after.health before.wire after.wire
              it.alone it.told it.told_now (Ok reply) more answers tried told (told_of reply told ok (given quiet)),
        )))

    replied : Comes held it.at it.growth (Ok reply)
    replied = by_place (by_setback (meta_of ids) it.old [] mine.growth rest.growth reply whole r it.may.unused.opening)

  pub meta_comes : (answer : Answer) (more : List Request) (answers : List Answer)
      → AreTried (meta_of ids ∷ more) (answer ∷ answers) before.health after.health before.wire after.wire → Comes (committed_before ids account it.old) it.at it.growth answer
  meta_comes (Err ends.Failed) more answers tried = inl refl
  meta_comes (Err ends.Memory) more answers tried = inr (inl refl)
  meta_comes (Err ends.BadReply) more answers tried =
      absurd (it.reading ((cause_before tried.2.unread (tried_reads more answers tried.0 after.health tried.1 after.wire tried.3)).failed refl))
  meta_comes (Ok reply) more answers tried =
      let first = served_alone before.health tried.0 before.wire tried.1 (meta_of ids) (Ok reply) it.old tried.2 it.alone it.told in
      let rest : HasGrown first.0 after.wire.log = tried_grows more answers tried.0 after.health tried.1 after.wire first.0 tried.3 first.1 in
      replied reply more answers tried first.0 first.2 rest

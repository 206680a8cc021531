use Rattle.std.specs.Option.{option_map}
use Rattle.std.specs.Prelude.{◌≡◌, Some}
use Rattle.std.proofs.Common.{refl, ap, subst, ◌∙◌, w64}
use Rattle.std.proofs.lemmas.Int.{to_z-of_z}
use Rattle.ak_faults.proofs.Healths.{goes_further}
use Rattle.ak_keep.proofs.Causing.{cause-ok}
use Rattle.ak_keep.proofs.HeadNumbers.{some_collection}
use Rattle.ak_keep.specs.HeadNumbers.{numbers_of}
use Rattle.ak_keep.specs.Keepers.{Keeping, WhereTold}
use Rattle.ak_messages.specs.declared.replies.Reply.{Reply}
use Rattle.ak_server.proofs.Beginning.{begun_does, begun_right}
use Rattle.ak_server.proofs.serving.begin.Goals as goal

pub returns-clause-right : goal.returns-clause-right
returns-clause-right g c =
    begun_right g.K.Lookup.keeping c.args.account.now _ c.requires.right (c.in_ok-numbers.ensures.reads.same ∙ c.end_session.ensures.back)
    c.args.request.now c.begun.result refl refl c.begun.ensures.summary c.begun.ensures.given

pub returns-clause-does : goal.returns-clause-does
returns-clause-does g c =
    begun_does g.K.Lookup.keeping c.args.account.now _ c.requires.right (c.in_ok-numbers.ensures.reads.same ∙ c.end_session.ensures.back)
    c.args.request.now c.begun.result refl refl c.begun.ensures.summary c.begun.ensures.given c.args.now c.in_ok-reply.reply c.in_ok-numbers.numbers
    (subst (λ (k : Keeping). WhereTold k (λ h. option_map numbers_of h.head ≡ Some c.in_ok-numbers.numbers)) c.end_session.ensures.back c.in_ok-numbers.ensures.reads.told)
    c.requires.meta (rw (to_z-of_z w64 c.args.now c.ranges.now) at c.in_ok-reply.ensures)

pub returns-clause-status : goal.returns-clause-status
returns-clause-status g c = ap (λ (r : Reply). r.status) (c.in_ok-reply.ensures some_collection)

pub returns-clause-cause : goal.returns-clause-cause
returns-clause-cause g c = cause-ok c.in_ok-reply.reply (goes_further c.end_session.ensures.goes c.in_ok-numbers.ensures.reads.cause.goes)

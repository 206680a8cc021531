use Rattle.std.specs.Prelude.{◌≡◌, Option, Ok, Some}
use Rattle.std.proofs.Common.{ap, inl, subst, w64}
use Rattle.std.proofs.lemmas.Int.{to_z-of_z}
use Rattle.ak_faults.proofs.Healths.{cause_after}
use Rattle.ak_keep.proofs.Causing.{cause-ok}
use Rattle.ak_messages.specs.declared.replies.Reply.{Reply}
use Rattle.ak_server.proofs.Faulting.{err_so, ok_so}
use Rattle.ak_server.proofs.Seeing.{of_some}
use Rattle.ak_server.proofs.Settling.{again_does, decided_granted, does_read, finds_none, finds_reply, later_asked, leaves_read, right_read, same_read, tested_read}
use Rattle.ak_server.specs.Serving.{FindsAgain, IsGivenAgain}
use Rattle.ak_server.specs.declared.accounts.Account.{Account}
use Rattle.ak_server.proofs.serving.attempt.Goals as goal

pub returns-in-Some : goal.returns-in-Some
returns-in-Some g c = record {
  right = right_read g.K.Lookup.keeping c.args.account.now c.repeat.new.account c.repeat.ensures.same c.requires.right;
  same = record {
    name = ap (λ (a : Account g.row.K.Denot). a.name) c.repeat.ensures.same.rest;
    host = ap (λ (a : Account g.row.K.Denot). a.host) c.repeat.ensures.same.rest;
  };
  does = again_does g.K.Lookup.keeping c.args.account.now c.repeat.new.account c.args.request.now c.args.now c.in-Some.reply (later_asked c.args.request.now.ask c.in_default.not-Meta) c.repeat.ensures.same
      (of_some c.in_ok-reply.field-0 (λ (reply : Reply). IsGivenAgain g.K.Lookup.keeping c.args.account.now c.args.request.now reply) c.in-Some.reply c.in_ok-reply.ensures.again c.in-Some.is);
  again = finds_reply c.args.account.now c.repeat.new.account c.args.request.now c.in_ok-reply.field-0 c.in-Some.reply c.in-Some.is c.in_ok-reply.ensures.kept;
  status = decided_granted c.in-Some.reply (of_some c.in_ok-reply.field-0 (λ (reply : Reply). reply.status ≡ 200) c.in-Some.reply c.in_ok-reply.ensures.status c.in-Some.is);
  tests = inl (of_some c.in_ok-reply.field-0 (λ (reply : Reply). reply.status ≡ 200) c.in-Some.reply c.in_ok-reply.ensures.status c.in-Some.is);
  err = tt;
  cause = cause-ok c.in-Some.reply c.in_ok-reply.ensures.cause.goes;
  spares = λ _ _ h. cc;
}

pub returns-in-None : goal.returns-in-None
returns-in-None g c = record {
  right = c.decide.ensures.right;
  same = same_read g.K.Lookup.keeping c.args.account.now c.repeat.new.account c.decide.new.account c.repeat.ensures.same c.decide.ensures.same;
  does = ok_so c.decide.result _ _ (λ reply did. does_read g.K.Lookup.keeping c.args.account.now c.repeat.new.account c.decide.new.account c.args.request.now c.args.now reply c.repeat.ensures.same did)
      (rw (to_z-of_z w64 c.args.now c.ranges.now) at c.decide.ensures.does);
  again = finds_none c.args.account.now c.decide.new.account c.args.request.now c.repeat.new.account c.decide.result
      (subst (λ (o : Option Reply). FindsAgain (λ found same. found ≡ Some same) c.args.account.now c.repeat.new.account c.args.request.now (Ok o)) c.in-None.is c.in_ok-reply.ensures.kept);
  status = c.decide.ensures.status;
  tests = ok_so c.decide.result _ _ (λ reply tested. tested_read g.K.Lookup.keeping c.args.account.now c.repeat.new.account c.args.request.now reply c.repeat.ensures.same tested)
      c.decide.ensures.tests;
  err = err_so c.decide.result _ _ (λ leaves. leaves_read g.K.Lookup.keeping c.args.account.now c.repeat.new.account c.decide.new.account c.repeat.ensures.same leaves) c.decide.ensures.err;
  cause = cause_after c.in_ok-reply.ensures.cause.goes c.decide.ensures.cause;
  spares = c.decide.ensures.spares;
}

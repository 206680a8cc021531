use Rattle.std.proofs.Common.{inl, rules, w64, SFits}
use Rattle.std.proofs.lemmas.Int.{to_z-of_z}
use Rattle.ak_http_links.proofs.Answering.{answered, ends_after}
use Rattle.ak_http_links.proofs.Isolated.{isolates, stays_lawful}
use Rattle.ak_http_links.proofs.serving.serve_link.Goals as goal

pub returns-in-Ok-clause-serves : goal.returns-in-Ok-clause-serves
returns-in-Ok-clause-serves g c =
    let fits : SFits w64 c.now-now.result = search rules in
    inl (answered g.K.Lookup.keeping g.K.Lookup.health _ _ _ _ _ _ _ _ _ _ c.in-Ok.request c.now-now.result c.serve-reply.result _
    c.in-Ok.ensures.told c.send_reply.ensures.apart c.in-Ok.ensures.apart c.now-now.ensures.range c.now-now.ensures.given
    (record {
      serves = rw (to_z-of_z w64 c.now-now.result fits) at c.serve-reply.ensures.serves;
      account = rw (to_z-of_z w64 c.now-now.result fits) at c.serve-reply.ensures.account;
      others = c.serve-reply.ensures.others;
      key = c.serve-reply.ensures.key;
      unknown = c.serve-reply.ensures.unknown;
      again = c.serve-reply.ensures.again;
      struck = c.serve-reply.ensures.struck;
      cause = c.serve-reply.ensures.cause;
    })
    c.send_reply.ensures.writes)

pub returns-in-Ok-clause-isolated : goal.returns-in-Ok-clause-isolated
returns-in-Ok-clause-isolated g c = isolates g.K.Lookup.keeping g.K.Lookup.health _ _ _ (returns-in-Ok-clause-serves g c)

pub returns-in-Ok-clause-lawful : goal.returns-in-Ok-clause-lawful
returns-in-Ok-clause-lawful g c = stays_lawful g.K.Lookup.keeping g.K.Lookup.health _ _ _ (returns-in-Ok-clause-serves g c)

pub returns-in-Ok-clause-cause : goal.returns-in-Ok-clause-cause
returns-in-Ok-clause-cause g c = ends_after c.in-Ok.ensures.cause.goes c.send_reply.ensures.cause

use Rattle.std.proofs.Common.{ap, ◌∙◌}
use Rattle.ak_http_wires.specs.RequestTexts.{request_http}
use Rattle.ak_http_wires.proofs.Exchanging.{carried}
use Rattle.ak_session.specs.Requests.{asked_method}
use Rattle.ak_http_wires.proofs.http_wires.HttpWire.ask.Goals as goal

pub returns-clause-once : goal.returns-clause-once
returns-clause-once g c =
    carried g.D.Dial.to_come g.D.End.health g.D.Link.Source.left g.D.Link.Sink.written g.D.Link.End.health
    (asked_method c.args.request.now.ask) c.asked_method.result (request_http c.args.self.now.host_name c.args.request.now) c.as_str-2.result.now
    c.args.self.now.dial c.dial.new.self c.in-Ok-dial.link c.exchange.new.link c.exchange.result c.asked_method.ensures
    (c.as_str-2.ensures ∙ c.in-Ok.ensures ∙ ap (λ host. request_http host c.args.request.now) c.as_str.ensures)
    c.in-Ok-dial.ensures.ok c.exchange.ensures.exchanges

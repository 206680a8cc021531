use Rattle.ak_http_wires.proofs.Exchanging.{exchanged}
use Rattle.ak_http_wires.proofs.exchanges.exchange.Goals as goal

pub returns-clause-exchanges : goal.returns-clause-exchanges
returns-clause-exchanges g c =
    exchanged g.L.Source.left g.L.Sink.written g.L.End.health c.args.method c.args.text.now c.as_bytes.result.now c.args.link.now
    c.write_all-sent.new.out c.read_answer-answer.new.link c.write_all-sent.result c.read_answer-answer.result c.end_of.result
    c.as_bytes.ensures.value c.read_answer-answer.ensures.apart c.write_all-sent.ensures.ok c.write_all-sent.ensures.part
    c.write_all-sent.ensures.cause c.read_answer-answer.ensures.told c.read_answer-answer.ensures.cause c.end_of.ensures

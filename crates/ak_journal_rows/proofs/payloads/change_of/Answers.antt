use Rattle.std.proofs.Common.{ap, codes}
use Rattle.serde_json.specs.Find.{get}
use Rattle.ak_journal_rows.proofs.Found.{faults_as, some_same}
use Rattle.ak_journal_rows.proofs.payloads.change_of.Goals as goal

pub returns-in_err-all : goal.returns-in_err-all
returns-in_err-all c = λ change formed is.
    faults_as change c.from_residual.result c.in_err-all.field-0.0 c.from_residual.ensures.1 (c.in_err-all.ensures change.all (ap (get (codes "all")) is))

pub returns : goal.returns
returns c = λ change formed is.
    let all = c.in_ok-all.ensures change.all (ap (get (codes "all")) is) in
    let cut = c.in_ok-cut.ensures change.cut formed.cut.each (ap (get (codes "cut")) is) in
    let head = c.in_ok-head.ensures change.head formed.head (some_same _ _ _ c.in_ok-under.ensures.found (ap (get (codes "head")) is)) in
    let put = c.in_ok-put.ensures change.put formed.put.each (ap (get (codes "put")) is) in
    λ i. record { all = all i; cut = cut i; head = head i; put = put i }

use Rattle.std.proofs.Common.{rules, w64}
use Rattle.std.proofs.lemmas.Int.{to_z-of_z}
use mir.Val.{SFits}
use Rattle.ak_search.proofs.Answering.{added}
use Rattle.ak_search.proofs.answers.Answers.add.Goals as goal

pub returns : goal.returns
returns c =
    let cid : SFits w64 c.args.review.now.cid = search rules in
    let ease : SFits w64 c.args.review.now.ease = search rules in
    let last : SFits w64 c.last_with-last.result = search rules in
    added c.args.self.now (record { last = c.insert.new.self }) c.args.review.now.cid c.args.review.now.ease c.last_with-last.result c.args.review.now.id _ _ _
    (to_z-of_z w64 c.args.review.now.cid cid) (to_z-of_z w64 c.args.review.now.ease ease) (to_z-of_z w64 c.last_with-last.result last) c.in_ok-insert.ensures.updates.0 c.last_with-last.ensures

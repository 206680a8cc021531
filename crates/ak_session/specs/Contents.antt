-- What requests do to contents: the five functions that a server's machine is made over.
use Rattle.std.specs.Prelude.{ℤ, Bool, List, Option}
use Rattle.ak_keep.specs.Collections.{Collection}
use Rattle.ak_messages.specs.declared.replies.Give.{Give}
use Rattle.ak_messages.specs.declared.requests.Request.{Request}
use Rattle.ak_session.specs.Answers.{answer_to, is_bad_check}
use Rattle.ak_session.specs.Asks.{asks_of, fold_of}
use Rattle.ak_session.specs.Closings.{closed_by}
use Rattle.ak_session.specs.Objections.{Objection}
use Rattle.ak_session.specs.Refusals.{objection_to}

-- what the requests that a session accepted make of the collection that was committed at its meta
unfoldable pub folded : Collection → List Request → Collection
folded committed accepted = fold_of committed (asks_of accepted)

-- why a session refuses a request that has its next step: its method may not come next, or what it holds is refused
unfoldable pub refusal : Collection → List Request → Request → Option Objection
refusal committed accepted request = objection_to committed (asks_of accepted) request.ask

-- what a request that a session accepts is given, if it neither commits nor is a download
unfoldable pub answer : Collection → List Request → Request → Give
answer committed accepted request = answer_to committed (asks_of accepted) request.ask

-- whether a request that a session accepts ends the session without a commit: a sanity check that is bad
unfoldable pub ends : Collection → List Request → Request → Bool
ends committed accepted request = is_bad_check committed (asks_of accepted) request.ask

-- the collection that is committed once a session accepts a finish or an upload at this moment
unfoldable pub closed : Collection → List Request → Request → ℤ → Collection
closed committed accepted request now = closed_by committed (asks_of accepted) request.ask now

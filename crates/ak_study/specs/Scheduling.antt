-- What the scheduler made of a card.
use Rattle.ak_base.specs.declared.days.Day.{Day}
use Rattle.ak_sched.specs.Answers.{IsAnswer, IsOnlyAnswer}
use Rattle.ak_study.specs.declared.answerings.Answering.{Answering}
use Rattle.ak_study.specs.declared.answers.CardAnswer.{CardAnswer}

-- the scheduler answered a card by its options, with this review's id
abbrev pub IsScheduled : CardAnswer → Day → Answering → Type 0
IsScheduled given day a = IsAnswer a.was a.options given.button day given.word given.taken a.answered.review.id a.made a.answered

-- no other answer is one
abbrev pub IsOnlyScheduled : CardAnswer → Day → Answering → Type 0
IsOnlyScheduled given day a = IsOnlyAnswer a.was a.options given.button day given.word given.taken a.answered.review.id a.made a.answered

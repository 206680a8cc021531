use Rattle.std.proofs.Common.{◌≡◌, ◌++◌, drop}
use Rattle.std.specs.String.{string_bytes}
use Rattle.ak_desk_texts.specs.AnswerTexts.{ids_text}
use Rattle.ak_desk_texts.proofs.answers.ids_text.Given as goal

-- the ids so far, and then those that are left
abbrev pub invariant-loop-id : goal.invariant-loop-id
invariant-loop-id l = string_bytes l.text ++ ids_text (drop l.id-index l.ids) ≡ ids_text l.ids

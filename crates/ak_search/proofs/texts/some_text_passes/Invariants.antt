use Rattle.std.proofs.Common.{◌≡◌, drop}
use Rattle.std.specs.List.{list_any}
use Rattle.ak_search.specs.Holds.{passes}
use Rattle.ak_search.proofs.texts.some_text_passes.Given as goal

-- the texts that are left decide
abbrev pub invariant-loop-text : goal.invariant-loop-text
invariant-loop-text l = list_any (passes l.mode l.pattern) (drop l.text-index l.texts) ≡ list_any (passes l.mode l.pattern) l.texts

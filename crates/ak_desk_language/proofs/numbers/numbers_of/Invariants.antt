use Rattle.std.proofs.Common.{◌≡◌, ◌++◌, drop, map, option_map}
use Rattle.ak_desk_language.specs.Reading.{numbers_of}
use Rattle.ak_desk_language.proofs.numbers.numbers_of.Given as goal

-- the numbers so far, and then those of the words that are left
abbrev pub invariant-loop-word : goal.invariant-loop-word
invariant-loop-word l =
    option_map (λ ids. l.ids ++ ids) (numbers_of (map (λ word. word.now) (drop l.word-index l.words))) ≡ numbers_of (map (λ word. word.now) l.words)

use Rattle.std.proofs.Common.{◌≡◌, ◌==◌, ap, rules, map, lit<}
use Rattle.std.proofs.lemmas.Result.{IfOk-at_ok}
use Rattle.std.specs.List.{slice_split}
use Rattle.std.proofs.lemmas.Iterator.Consumers.{map_from_collect}
use Rattle.std.proofs.lemmas.Iterator.Splits.{YieldsList-from_str_split}
use Rattle.ak_desk_language.specs.Reading.{numbers_of}
use Rattle.ak_desk_language.proofs.numbers.ids_in.Goals as goal

pub returns : goal.returns
returns c =
    let words : map (λ word. word.now) c.in_ok-words.words.items ≡ slice_split (λ byte. byte == 32) c.args.text.now = IfOk-at_ok _ c.in_ok-words.was (map_from_collect _ c.collect.ensures.ran (YieldsList-from_str_split 32 c.args.text.now (lit< tt) c.split.ensures.text c.split.ensures.has_more c.split.ensures.pattern)) in
    search (rules, ap numbers_of words)

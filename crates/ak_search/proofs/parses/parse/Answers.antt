use Rattle.std.proofs.Common.{◌≡◌, rules}
use Rattle.std.proofs.Math.Utf8.{encodes}
use Rattle.std.proofs.lemmas.Str.{encodes-chars}
use Rattle.std.specs.Str.{chars}
use Rattle.ak_search.proofs.Parsing.{tree_read, no_memory, inside}
use Rattle.ak_search.proofs.parses.parse.Goals as goal

pub returns-clause-tree : goal.returns-clause-tree
returns-clause-tree c = tree_read c.args.text.now c.read_search.result c.read_search.ensures.none c.read_search.ensures.tokens

pub returns-clause-only : goal.returns-clause-only
returns-clause-only c = λ tree h. no_memory c.args.text.now c.read_search.result tree h c.read_search.ensures.fault

pub returns-clause-within : goal.returns-clause-within
returns-clause-within c =
    let utf8 : encodes (chars c.args.text.now) ≡ c.args.text.now = search (rules, encodes-chars) in
    inside c.args.text.now c.read_search.result utf8 c.read_search.ensures.fault

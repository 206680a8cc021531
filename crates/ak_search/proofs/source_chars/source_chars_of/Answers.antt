use Rattle.std.proofs.Common.{◌≡◌, rules}
use Rattle.std.proofs.Math.Utf8.{encodes}
use Rattle.std.proofs.lemmas.Str.{encodes-chars}
use Rattle.ak_search.proofs.source_chars.source_chars_of.Goals as goal

pub read_source_chars-requires : goal.read_source_chars-requires
read_source_chars-requires c =
    let same : encodes c.deref.result.now ≡ c.args.text.now = search (rules, encodes-chars) in
    search (rules, same)

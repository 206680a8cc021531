use Rattle.std.proofs.Common.{◌≡◌, rules, string_bytes}
use Rattle.std.proofs.lemmas.Str.{IsUtf8-string_bytes}
use Rattle.ak_journal_rows.proofs.Nesting.{payload_of}
use Rattle.ak_journal_rows.proofs.payloads.write_change.Goals as goal

pub returns : goal.returns
returns c =
    let same : c.into_bytes.result.items ≡ string_bytes c.in_ok-text.text = search rules in
    payload_of c.args.change.now _ c.into_bytes.result.items (string_bytes c.in_ok-text.text) c.requires (c.in_ok-value.ensures c.requires) (IsUtf8-string_bytes c.in_ok-text.text)
    c.in_ok-text.ensures.text c.in_ok-text.ensures.reads_back same

use Rattle.std.proofs.Common.{◌≡◌, length, arith, rules}
use Rattle.std.proofs.lemmas.Bool.Decides.{nat_tests}
use Rattle.ak_accounts.specs.Accounts.{key_count}
use Rattle.ak_accounts.proofs.Tables.{key_count-entries}
use Rattle.ak_accounts.proofs.entries.has_keys.Goals as goal

pub returns : goal.returns
returns c =
    let counted = key_count-entries c.args.table.now.entries in
    let len = c.len.ensures.len in
    rw (counted, ← len) (search (rules, nat_tests))

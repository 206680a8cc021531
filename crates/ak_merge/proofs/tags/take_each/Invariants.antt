use Rattle.std.proofs.Common.{◌≡◌, drop}
use Rattle.ak_merge.specs.Tags.{tags_taken}
use Rattle.ak_merge.proofs.tags.take_each.Given as goal

-- what is left of the names, taken now, gives what all of them give
abbrev pub invariant-loop-name : goal.invariant-loop-name
invariant-loop-name l = tags_taken l.usn (drop l.name-index l.names) l.held.items ≡ tags_taken l.usn l.names l.fn.tags

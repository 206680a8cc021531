use Rattle.std.proofs.Common.{◌≡◌, drop}
use Rattle.ak_json.specs.Members.{knows}
use Rattle.ak_json.proofs.members.knows.Given as goal

-- no column so far is that member
abbrev pub invariant-loop-place : goal.invariant-loop-place
invariant-loop-place l = knows (drop l.place-index l.form) l.key ≡ knows l.form l.key

use Rattle.std.proofs.Common.{◌≡◌, drop}
use Rattle.std.specs.List.{list_any}
use Rattle.ak_deck_paths.specs.GivenPaths.{is_control}
use Rattle.ak_deck_paths.proofs.given_paths.has_control.Given as goal

-- none of the bytes so far is one
abbrev pub invariant-loop-byte : goal.invariant-loop-byte
invariant-loop-byte l = list_any is_control (drop l.byte-index l.bytes) ≡ list_any is_control l.bytes

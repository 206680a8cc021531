use Rattle.std.proofs.Common.{◌≡◌, drop, map}
use Rattle.std.specs.List.{list_any}
use Rattle.ak_search.specs.Holds.{path_matches}
use Rattle.ak_search.proofs.texts.some_path_matches.Given as goal

-- the names that are left decide
abbrev pub invariant-loop-name : goal.invariant-loop-name
invariant-loop-name l =
    list_any (path_matches l.pattern) (map (λ name. name.now) (drop l.name-index l.names)) ≡ list_any (path_matches l.pattern) (map (λ name. name.now) l.names)

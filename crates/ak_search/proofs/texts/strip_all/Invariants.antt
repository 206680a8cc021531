use Rattle.std.proofs.Common.{◌≡◌, ◌++◌, drop, map}
use Rattle.ak_filters.specs.Strips.{stripped}
use Rattle.ak_search.proofs.texts.strip_all.Given as goal

-- the texts so far, with those of the fields that are left, are those of all fields
abbrev pub invariant-loop-field : goal.invariant-loop-field
invariant-loop-field l = l.texts ++ map stripped (map (λ field. field.now) (drop l.field-index l.fields)) ≡ map stripped (map (λ field. field.now) l.fields)

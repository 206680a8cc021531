use Rattle.std.proofs.Common.{◌≡◌, ◌++◌, drop, option_map}
use Rattle.serde_json.specs.View.{items_view}
use Rattle.ak_desk_language.specs.Contents.{each_of, entry_of}
use Rattle.ak_desk_language.proofs.contents.each_entry.Given as goal

-- the entries so far, and then those of the values that are left
abbrev pub invariant-loop-value : goal.invariant-loop-value
invariant-loop-value l =
    option_map (λ entries. l.entries ++ entries) (each_of entry_of (items_view (drop l.value-index l.values))) ≡ each_of entry_of (items_view l.values)

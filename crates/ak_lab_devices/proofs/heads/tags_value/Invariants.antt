use Rattle.std.proofs.Common.{◌≡◌, map, take}
use Rattle.serde_json.specs.Data.{string}
use Rattle.serde_json.specs.View.{view}
use Rattle.ak_base.specs.declared.heads.Tag.{Tag}
use Rattle.ak_lab_devices.proofs.heads.tags_value.Given as goal

-- the names so far are written
abbrev pub invariant-loop-tag : goal.invariant-loop-tag
invariant-loop-tag l = map view l.names.items ≡ map (λ (tag : Tag). string tag.name) (take l.tag-index l.tags)

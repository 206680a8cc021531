use mir.Val.{SFits}
use Rattle.std.specs.Prelude.{◌∷◌}
use Rattle.std.proofs.Common.{◌≡◌, ap, ◌∙◌, rules, w64}
use Rattle.std.proofs.lemmas.Int.{to_z-of_z}
use Rattle.std.specs.BTreeMap.{insert_entry}
use Rattle.std.specs.String.{string_bytes, string_cmp}
use Rattle.ak_merge.specs.TagMaps.{precedes, mapped_tags, tags_of}
use Rattle.ak_merge.proofs.MappedTags.{put_first}
use Rattle.ak_merge.proofs.tag_maps.put_first.Goals as goal

pub returns : goal.returns
returns c =
    let name = c.in_ok-name.name in
    let same : string_bytes name ≡ c.args.tag.name = c.in_ok-name.ensures.ok ∙ c.as_str.ensures in
    let fits : SFits w64 c.args.tag.usn = search rules in
    ap mapped_tags c.in_ok-insert.ensures.entries
    ∙ ap (λ n. mapped_tags (insert_entry string_cmp c.args.numbers.now.entries name n)) (to_z-of_z w64 c.args.tag.usn fits)
    ∙ put_first c.args.numbers.now.entries name c.args.tag.usn (ap (λ n. precedes n (tags_of c.args.numbers.now)) same ∙ c.requires)
    ∙ ap (λ n. record { name = n; usn = c.args.tag.usn } ∷ tags_of c.args.numbers.now) same

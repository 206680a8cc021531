use Rattle.std.specs.Prelude.{◌≡◌, true, false}
use mir.Val.{SFits}
use Rattle.std.proofs.Common.{sym, ap, ◌∙◌, w64}
use Rattle.std.proofs.lemmas.Int.{to_z-of_z}
use Rattle.std.specs.BTreeMap.{insert_entry}
use Rattle.std.specs.String.{string_bytes, string_cmp}
use Rattle.ak_merge.proofs.MappedTags.{found, held_in, put_new, stays, comes}
use Rattle.ak_merge.specs.Holdings.{has_tag}
use Rattle.ak_merge.specs.TagMaps.{mapped_tags, tags_of}
use Rattle.ak_merge.specs.Tags.{with_tag}
use Rattle.ak_merge.proofs.tag_maps.take_name.Goals as goal

pub returns-then-contains_key : goal.returns-then-contains_key
returns-then-contains_key c =
    let there : has_tag (tags_of c.args.numbers.now) c.args.name.now ≡ true = sym (found c.args.numbers.now.entries c.args.name.now) ∙ ap (held_in c.args.numbers.now) (sym c.as_str.ensures) ∙ sym c.if-contains_key.ensures in
    stays c.args.usn c.args.name.now (tags_of c.args.numbers.now) there

pub returns : goal.returns
returns c =
    let name = c.in_ok-name.name in
    let tags = tags_of c.args.numbers.now in
    let same : string_bytes name ≡ c.args.name.now = c.in_ok-name.ensures.ok ∙ c.as_str-2.ensures in
    let none : has_tag tags c.args.name.now ≡ false = sym (found c.args.numbers.now.entries c.args.name.now) ∙ ap (held_in c.args.numbers.now) (sym c.as_str.ensures) ∙ sym c.if-contains_key.ensures in
    let fits : SFits w64 c.args.usn = c.ranges.usn in
    ap mapped_tags c.in_ok-insert.ensures.entries
    ∙ ap (λ n. mapped_tags (insert_entry string_cmp c.args.numbers.now.entries name n)) (to_z-of_z w64 c.args.usn fits)
    ∙ put_new c.args.numbers.now.entries name c.args.usn (ap (has_tag tags) same ∙ none)
    ∙ ap (λ n. with_tag (record { name = n; usn = c.args.usn }) tags) same
    ∙ comes c.args.usn c.args.name.now tags none

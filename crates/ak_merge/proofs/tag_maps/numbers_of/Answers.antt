use Rattle.std.specs.Prelude.{[], ◌∷◌, ◌++◌}
use Rattle.std.proofs.Common.{sym, ap, ◌∙◌}
use Rattle.std.proofs.lemmas.List.{append_assoc}
use Rattle.ak_merge.specs.TagMaps.{ascend, tags_of}
use Rattle.ak_merge.proofs.MappedTags.{before_next}
use Rattle.ak_merge.proofs.tag_maps.numbers_of.Goals as goal

pub put_first-requires : goal.put_first-requires
put_first-requires c =
    let tag = c.in-Some.tag in
    let front = c.pop.new.self.items in
    let tags = tags_of c.loop-tag.numbers in
    before_next front tag tags (ap ascend (sym (append_assoc front (tag ∷ []) tags) ∙ ap (λ ts. ts ++ tags) (sym c.in-Some.ensures.items) ∙ c.loop-tag.invariant) ∙ c.requires)

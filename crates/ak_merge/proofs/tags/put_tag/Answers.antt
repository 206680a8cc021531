use mir.Val.{SFits}
use Rattle.std.proofs.Common.{◌∙◌, w64}
use Rattle.std.proofs.lemmas.Int.{to_z-of_z}
use Rattle.ak_merge.proofs.TagPlaces.{put_in_place}
use Rattle.ak_merge.proofs.tags.put_tag.Goals as goal

pub returns : goal.returns
returns c =
    let fits : SFits w64 c.args.usn = c.ranges.usn in
    (simp (to_z-of_z, c.place_of-place.ensures.place, c.as_slice.ensures.value, c.in_ok-name.ensures) at c.in_ok-insert.ensures.items)
    ∙ put_in_place (record { name = c.args.name.now; usn = c.args.usn }) c.args.tags.now.items

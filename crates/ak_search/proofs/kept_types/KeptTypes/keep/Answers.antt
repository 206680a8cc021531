use Rattle.std.proofs.Common.{to_z, of_z, w64}
use Rattle.std.proofs.lemmas.Int.{to_z-of_z}
use Rattle.ak_search.proofs.Telling.{type_kept}
use Rattle.ak_search.proofs.kept_types.KeptTypes.keep.Goals as goal

pub returns : goal.returns
returns c = type_kept c.args.self.now (record { by_id = c.insert.new.self }) c.args.id (to_z w64 (of_z w64 c.args.id)) c.args.note_type (to_z-of_z w64 c.args.id c.ranges.id) c.in_ok-insert.ensures.updates.0

use Rattle.std.proofs.Common.{refl}
use Rattle.ak_desk_lines.proofs.MutedFilters.{dropped_line, refused_line}
use Rattle.ak_desk_lines.specs.DeskStates.{state_of}
use Rattle.ak_desk_lines.proofs.view_lines.mute_filter.Goals as goal

pub returns-then-drop_filter-clause-ends : goal.returns-then-drop_filter-clause-ends
returns-then-drop_filter-clause-ends g c = dropped_line c.args.turn c.args.filter (state_of g.K.Lookup c.args.desk.now) (state_of g.K.Lookup c.args.desk.now) refl refl

pub returns-clause-ends : goal.returns-clause-ends
returns-clause-ends g c = refused_line c.args.turn c.args.filter (state_of g.K.Lookup c.args.desk.now) (state_of g.K.Lookup c.args.desk.now) refl refl

use Rattle.std.proofs.Common.{length}
use Rattle.std.proofs.lemmas.Result.{err_from_is_err_and}
use Rattle.ak_edit_calls.proofs.Answering.{passed_first, refused_first}
use Rattle.ak_types.specs.PlaceMaps.{RefusesMap}
use Rattle.ak_types.proofs.type_tests.test_maps.Goals as goal

pub returns-in_err-check_map-clause-refused : goal.returns-in_err-check_map-clause-refused
returns-in_err-check_map-clause-refused c =
    let p = err_from_is_err_and c.from_residual.result c.from_residual.ensures.1 in
    let given = c.args.given.now in
    let old = c.args.old.now in
    rw (p.1, p.2) (refused_first (RefusesMap 0 (length old.fields) (length given.note_type.fields) given.from_fields)
    (RefusesMap (length given.note_type.fields) (length old.templates) (length given.note_type.templates) given.from_templates) c.in_err-check_map.field-0.0 (rw (c.fields_map.ensures.old, c.fields_map.ensures.new, c.fields_map.ensures.entries) at c.in_err-check_map.ensures.answers))

pub returns-clause-refused : goal.returns-clause-refused
returns-clause-refused c =
    let given = c.args.given.now in
    let old = c.args.old.now in
    passed_first (RefusesMap 0 (length old.fields) (length given.note_type.fields) given.from_fields)
    (RefusesMap (length given.note_type.fields) (length old.templates) (length given.note_type.templates) given.from_templates) tt c.check_map-2.result (rw (c.fields_map.ensures.old, c.fields_map.ensures.new, c.fields_map.ensures.entries) at c.in_ok-check_map.ensures.answers)
    (rw (c.as_slice.ensures, c.templates_map.ensures.old, c.templates_map.ensures.new, c.templates_map.ensures.entries) at c.check_map-2.ensures.answers)

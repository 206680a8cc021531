-- What an upload's tests find, one after the other.
use Rattle.std.specs.Prelude.{◌≡◌, true, false, Some, None}
use Rattle.std.proofs.Common.{refl}
use Rattle.ak_keep.specs.Collections.{Collection}
use Rattle.ak_messages.specs.declared.requests.Whole.{Whole}
use Rattle.ak_session.specs.Objections.{NoNumber, WrongRow}
use Rattle.ak_session.specs.Refusals.{first_objection, has_last_moment, has_twins, is_whole_in_range, same_names, same_tags, upload_tests}

pub upload_last : (c : Collection) (whole : Whole) → has_last_moment c whole ≡ true → Some NoNumber ≡ first_objection (upload_tests c whole)
upload_last c whole last = rw last refl

pub upload_outside : (c : Collection) (whole : Whole) → has_last_moment c whole ≡ false → is_whole_in_range whole ≡ false
    → Some WrongRow ≡ first_objection (upload_tests c whole)
upload_outside c whole next outside = rw (next, outside) refl

pub upload_twin_rows : (c : Collection) (whole : Whole) → has_last_moment c whole ≡ false → is_whole_in_range whole ≡ true
    → has_twins same_names whole.rows ≡ true → Some WrongRow ≡ first_objection (upload_tests c whole)
upload_twin_rows c whole next range twins = rw (next, range, twins) refl

pub upload_twin_tags : (c : Collection) (whole : Whole) → has_last_moment c whole ≡ false → is_whole_in_range whole ≡ true
    → has_twins same_names whole.rows ≡ false → has_twins same_tags whole.tags ≡ true → Some WrongRow ≡ first_objection (upload_tests c whole)
upload_twin_tags c whole next range single twins = rw (next, range, single, twins) refl

pub upload_fits : (c : Collection) (whole : Whole) → has_last_moment c whole ≡ false → is_whole_in_range whole ≡ true
    → has_twins same_names whole.rows ≡ false → has_twins same_tags whole.tags ≡ false → None ≡ first_objection (upload_tests c whole)
upload_fits c whole next range single unlike = rw (next, range, single, unlike) refl

-- What comes, taken into a keeper: rows one after the other, and a head; and when all that came may be taken.
use Rattle.std.specs.List.{All}
use Rattle.std.specs.Option.{option_map, unwrap_or}
use Rattle.std.specs.Prelude.{ℤ, pos, List, [], ◌∷◌, IfSome}
use Rattle.ak_base.specs.Heads.{IsConfInRange, IsWithin}
use Rattle.ak_base.specs.Limits.{last_stamp}
use Rattle.ak_base.specs.Rows.{IsChecked}
use Rattle.ak_base.specs.declared.heads.Head.{Head}
use Rattle.ak_base.specs.declared.rows.Row.{Row}
use Rattle.ak_keep.specs.Collections.{Holding}
use Rattle.ak_keep.specs.Keepers.{Keeping, changed}
use Rattle.ak_merge.specs.Commits.{Received, settings_of}
use Rattle.ak_merge.specs.Tags.{IsTagName, tags_taken}
use Rattle.ak_merge.specs.Takings.{all_taken, with_taken}
use Rattle.ak_merge.specs.declared.sides.Side.{Side}
use Rattle.ak_messages.specs.declared.requests.Changes.{Changes}
use Rattle.ak_session.specs.Messages.{change_rows, settings_in}

-- a keeper once it took these rows with this usn, one after the other
abbrev pub rows_taken : Side → ℤ → List Row → Keeping → Keeping
rows_taken side usn [] k = k
rows_taken side usn (row ∷ more) k = rows_taken side usn more (changed (with_taken side usn row) k)

-- the same of all that is held, in one
abbrev pub with_all_taken : Side → ℤ → List Row → Holding → Holding
with_all_taken side usn came h = record h { rows = all_taken side usn came h.rows }

-- a head once this came: each tag that was not held has this usn, and settings that came stand
abbrev pub head_with : ℤ → Received → Head → Head
head_with usn came head =
    let settings = unwrap_or came.settings (settings_of head) in
    record head { tags = tags_taken usn came.tags head.tags; conf = settings.conf; crt = settings.crt }

-- what changes bring, to either side
abbrev pub received_in : Changes → Received
received_in changes =
    record { rows = change_rows changes; tags = changes.tags; settings = option_map settings_in changes.newer }

-- what came is in its ranges
pub record MayBeTaken (came : Received) : Type 0 where
  pub rows : All IsChecked came.rows
  pub tags : All IsTagName came.tags
  pub conf : IfSome came.settings (λ settings. IsConfInRange settings.conf)
  pub crt : IfSome came.settings (λ settings. IsWithin (pos 0) last_stamp settings.crt)

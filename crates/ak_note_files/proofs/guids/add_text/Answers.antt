use Rattle.std.proofs.lemmas.Map.Text.{btree_set_updates_text}
use Rattle.std.proofs.Common.{true, string_bytes}
use Rattle.std.specs.BTreeSet.{contains_text}
use Rattle.ak_note_files.proofs.TextSets.{added}
use Rattle.ak_note_files.proofs.guids.add_text.Goals as goal

pub returns : goal.returns
returns c other = rw c.as_str.ensures at (rw c.in_ok-text.ensures.ok at
    (added (string_bytes c.in_ok-text.text) other (contains_text c.args.set.now other) (contains_text c.insert.new.self other)
    (btree_set_updates_text (string_bytes c.in_ok-text.text) c.args.set.now c.insert.new.self true c.in_ok-insert.ensures.updates other)))

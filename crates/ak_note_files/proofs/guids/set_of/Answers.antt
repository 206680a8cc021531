use Rattle.std.proofs.Common.{◌≡◌, ◌∷◌, ◌==◌, rules}
use Rattle.std.specs.BTreeSet.{contains_text}
use Rattle.std.specs.Cmp.Lexicographic.{pointwise}
use Rattle.ak_note_files.specs.Rules.{is_among}
use Rattle.ak_note_files.proofs.TextSets.{one_moved}
use Rattle.ak_note_files.proofs.guids.set_of.Goals as goal

pub loop-text-preserved : goal.loop-text-preserved
loop-text-preserved c other =
    let rest : c.loop-text.rest.now ≡ c.in-Some.text.now ∷ c.in-Some.others.now = search rules in
    one_moved (contains_text c.loop-text.set other) (contains_text c.add_text.new.set other) (pointwise ◌==◌ other c.in-Some.text.now) (is_among other c.in-Some.others.now)
    (is_among other c.args.texts.now) ((rw rest at c.loop-text.invariant) other) (c.in_ok-add_text.ensures other)

-- A sound collection begins with one in which the check finds nothing.
use Rattle.std.specs.Prelude.{◌≡◌, ℤ, pos, ◌<ℤ◌, List, [], Some, None}
use Rattle.std.proofs.Common.{arith, ap, subst}
use Rattle.std.proofs.lemmas.Int.{ints}
use Rattle.ak_base.specs.declared.names.Name.{Name}
use Rattle.ak_base.specs.declared.names.Table.TheVariants as tables
use Rattle.ak_base.specs.declared.rows.Row.TheVariants as rows
use Rattle.ak_edit.specs.Ends.{IsHeldRightly}
use Rattle.ak_keep.specs.Collections.{Collection}
use Rattle.ak_keep.specs.Keepers.{Keeping}
use Rattle.ak_merge.proofs.Finding.{id_over_zero}
use Rattle.ak_merge.proofs.SoundLaws.{sound_has_no_fault}
use Rattle.ak_merge.specs.Holdings.{name_in}
use Rattle.ak_merge.specs.Soundness.{first_fault}
use Rattle.ak_undo.specs.declared.steps.Step.{Step}
use Rattle.ak_content_laws.proofs.Keepings.{sound_held}
use Rattle.ak_content_laws.proofs.CheckedTypes.{checked_templates}
use Rattle.ak_content_laws.specs.SoundCalls.{HoldsSound, collection_told}

pub begins : (k : Keeping) (c : Collection) → collection_told k ≡ Some c → IsHeldRightly c → first_fault c.rows ≡ None → HoldsSound k []
begins k c told rightly none = record {
  c = c;
  told = told;
  sound = record {
    sound = (sound_has_no_fault c.rows rightly.named rightly.checked).0 none;
    templates = λ id type is _. checked_templates type (rightly.checked (name_in tables.NoteType id) (rows.NoteType type) is);
    ids = λ id note is.
        let own : name_in tables.Note note.id ≡ name_in tables.Note id = rightly.named (name_in tables.Note id) (rows.Note note) is in
        let over = id_over_zero (rows.Note note) (rightly.checked (name_in tables.Note id) (rows.Note note) is) in
        let zero : pos 0 <ℤ note.id = grind (arith, ints, over) in
        subst (λ (i : ℤ). pos 0 <ℤ i) (ap (λ (n : Name). n.id) own) zero;
  };
}

pub finds : (k : Keeping) (steps : List Step) (held : HoldsSound k steps) → IsHeldRightly held.c → first_fault held.c.rows ≡ None
finds k steps held rightly = (sound_has_no_fault held.c.rows rightly.named rightly.checked).1 (sound_held k steps held).sound

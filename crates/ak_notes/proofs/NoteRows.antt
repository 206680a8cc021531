-- The fields of a note, joined.
use Rattle.std.specs.Prelude.{◌≡◌, ℕ, List, [], ◌∷◌, ◌++◌}
use Rattle.std.proofs.Common.{ap, append-nil}
use Rattle.std.specs.List.{join_with_byte}
use Rattle.ak_notes.specs.NoteRows.{led_by}

-- the first text and the others, each after the byte, are joined by it
pub joined_led : (byte : ℕ) (text : List ℕ) (texts : List (List ℕ)) → text ++ led_by byte texts ≡ join_with_byte byte (text ∷ texts)
joined_led byte text [] = append-nil text
joined_led byte text (next ∷ more) = ap (λ (rest : List ℕ). text ++ byte ∷ rest) (joined_led byte next more)

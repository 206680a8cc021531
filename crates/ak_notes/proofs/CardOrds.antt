-- The cards that are held of a note, read one by one.
use Rattle.std.specs.Prelude.{◌≡◌, ℕ, ℤ, pos, ◌+◌, ◌<◌, List, ◌++◌, length, get_or, drop}
use Rattle.std.proofs.Common.{sym, ap, ◌∙◌, append_assoc}
use Rattle.std.proofs.lemmas.List.{at_drop_more}
use Rattle.ak_edit_calls.proofs.Telling.{where_told-both}
use Rattle.ak_keep.specs.Collections.{Rows}
use Rattle.ak_keep.specs.Keepers.{Keeping, WhereTold}
use Rattle.ak_keep.specs.Lookups.{card_at}
use Rattle.ak_notes.specs.LackingNotes.{held_ord, held_ords}

one_ord : (held : Rows) (ids : List ℤ) (i : ℕ) (before after : List ℤ) → i < length ids → before ++ held_ords held (drop i ids) ≡ held_ords held ids
    → after ≡ before ++ held_ord (card_at held (get_or ids i (pos 0))) → after ++ held_ords held (drop (i + 1) ids) ≡ held_ords held ids
one_ord held ids i before after within so_far is =
    let ord : List ℤ = held_ord (card_at held (get_or ids i (pos 0))) in
    let rest : List ℤ = held_ords held (drop (i + 1) ids) in
    ap (λ (ords : List ℤ). ords ++ rest) is ∙ append_assoc before ord rest
    ∙ ap (λ (ords : List ℤ). before ++ ords) (sym (at_drop_more (held_ords held) ids i (pos 0) within)) ∙ so_far

-- with the ord of one card more
pub more_ords : (k : Keeping) (ids : List ℤ) (i : ℕ) (before after : List ℤ) → i < length ids → WhereTold k (λ h. before ++ held_ords h.rows (drop i ids) ≡ held_ords h.rows ids)
    → WhereTold k (λ h. after ≡ before ++ held_ord (card_at h.rows (get_or ids i (pos 0)))) → WhereTold k (λ h. after ++ held_ords h.rows (drop (i + 1) ids) ≡ held_ords h.rows ids)
more_ords k ids i before after within =
    where_told-both k (λ h. before ++ held_ords h.rows (drop i ids) ≡ held_ords h.rows ids) (λ h. after ≡ before ++ held_ord (card_at h.rows (get_or ids i (pos 0))))
    (λ h. after ++ held_ords h.rows (drop (i + 1) ids) ≡ held_ords h.rows ids) (λ h so_far is. one_ord h.rows ids i before after within so_far is)

-- The rules that records are tested by.
use Rattle.std.proofs.Common.{◌≡◌, ℕ, ℤ, Bool, List, Option, Some, None, IfSome, refl, ap, ◌∙◌, length}
use Rattle.std.specs.Option.{option_map}
use Rattle.ak_base.specs.declared.note_types.NoteType.{NoteType}
use Rattle.ak_keep.specs.Collections.{Holding}
use Rattle.ak_keep.specs.Lookups.{note_type_at}
use Rattle.ak_keep.specs.Marks.{WithMark}
use Rattle.ak_note_files.specs.Rules.{AreRulesFor, field_count, guids_of_others, is_among}

-- a type with a number of fields is one that is held
own_counted : (note_type : ℤ) (found : Option NoteType)
    → option_map (λ (count : ℕ). note_type) (option_map (λ (one : NoteType). length one.fields) found) ≡ option_map (λ (one : NoteType). note_type) found
own_counted note_type None = refl
own_counted note_type (Some one) = refl

pub rules_told : (told : Option (WithMark Holding)) (note_type : ℤ) (fields : Option ℕ) (own : Option ℤ) (guids : List (List ℕ)) (among : List ℕ → Bool)
    → IfSome told (λ w. fields ≡ field_count note_type w.current.rows) → own ≡ option_map (λ (count : ℕ). note_type) fields
    → IfSome told (λ w. guids ≡ guids_of_others own w.current.rows) → ((text : List ℕ) → among text ≡ is_among text guids)
    → IfSome told (λ w. AreRulesFor note_type w.current.rows fields among)
rules_told None note_type fields own guids among counted is listed all = tt
rules_told (Some w) note_type fields own guids among counted is listed all =
    let same = is ∙ ap (option_map (λ (count : ℕ). note_type)) counted ∙ own_counted note_type (note_type_at w.current.rows note_type) in record {
      counted = counted;
      others = λ guid. all guid ∙ ap (is_among guid) (listed ∙ ap (λ (o : Option ℤ). guids_of_others o w.current.rows) same);
    }

-- The fronts of a type whose sides can be read.
use Rattle.std.specs.Prelude.{◌≡◌, ◌⊎◌, true, false, if◌then◌else◌, List, [], ◌∷◌, Option, Some, None}
use Rattle.std.proofs.Common.{refl, sym, ap, ◌∙◌, inl, inr}
use Rattle.std.proofs.lemmas.Option.{none-some}
use Rattle.std.specs.Option.{option_map, option_or}
use Rattle.ak_base.specs.declared.note_types.CardTemplate.{CardTemplate}
use Rattle.ak_base.specs.declared.note_types.NoteType.{NoteType}
use Rattle.ak_cardgen.specs.Generation.{front_fault, fronts_fault, generation_fault}
use Rattle.ak_cardgen.specs.declared.faults.GenFault.TheVariants.{Template as OfTemplate, Memory}
use Rattle.ak_template.specs.Grammar.{first_fault}
use Rattle.ak_template.specs.declared.faults.TemplateFault.{TemplateFault}
use Rattle.ak_types.specs.GivenTypes.{one_fault, sides_fault}

first_none : {X : Type 0} (a b : Option X) → option_or a b ≡ None → a ≡ None
first_none None b is = refl
first_none (Some x) b is = is

second_none : {X : Type 0} (a b : Option X) → option_or a b ≡ None → b ≡ None
second_none None b is = is
second_none (Some x) b is = absurd (none-some x (sym is))

front_none : (template : CardTemplate) (templates : List CardTemplate) → sides_fault (template ∷ templates) ≡ None → first_fault template.front ≡ None
front_none template templates is =
    first_none (first_fault template.front) (first_fault template.back) (first_none (one_fault template) (sides_fault templates) is)

all_none : (templates : List CardTemplate) → sides_fault templates ≡ None → fronts_fault templates ≡ None
all_none [] is = refl
all_none (template ∷ templates) is =
    ap (λ (o : Option TemplateFault). option_or o (fronts_fault templates)) (front_none template templates is)
    ∙ all_none templates (second_none (one_fault template) (sides_fault templates) is)

one_none : (templates : List CardTemplate) → sides_fault templates ≡ None → front_fault templates ≡ None
one_none [] is = refl
one_none (template ∷ templates) is = front_none template templates is

generation_none : (note_type : NoteType) → sides_fault note_type.templates ≡ None → generation_fault note_type ≡ None
generation_none note_type is =
    elim note_type.cloze as (λ b. (if b then front_fault note_type.templates else fronts_fault note_type.templates) ≡ None) [
      | true ↦ one_none note_type.templates is
      | false ↦ all_none note_type.templates is
    ]

other_fault : (fault : TemplateFault) → OfTemplate fault ≡ Memory → ⊥
other_fault fault is = cc

-- no front is refused
pub fronts_are_read : (note_type : NoteType) (fault : TemplateFault) → sides_fault note_type.templates ≡ None → (OfTemplate fault ≡ Memory) ⊎ (option_map OfTemplate (generation_fault note_type) ≡ Some (OfTemplate fault)) → ⊥
fronts_are_read note_type fault sides refuses =
    elim refuses [
      | inl is ↦ other_fault fault is
      | inr is ↦ none-some (OfTemplate fault) (sym (ap (option_map OfTemplate) (generation_none note_type sides)) ∙ is)
    ]

-- Verbs and their words.
use Rattle.std.proofs.Common.{◌≡◌, ℕ, ◌^◌, ◌==◌, nat_lt, Bool, ◌&&◌, List, [], ◌∷◌, Option, Some, None, true, false, if◌then◌else◌, refl, sym, ap, ◌∙◌}
use Rattle.std.specs.Prelude.{codes}
use Rattle.std.specs.Cmp.Lexicographic.{pointwise, bytes_decides}
use Rattle.std.proofs.lemmas.Option.{same_Some}
use Rattle.ak_desk_language.specs.Verbs.{Range, may_allow, ranges_of, verb_text}
use Rattle.ak_desk_language.specs.Reading.{verb_of, lone_verb_of, allowed_verb_of}
use Rattle.ak_search.specs.Terms.{is_word}
use Rattle.ak_desk_language.specs.declared.verbs.Verb.{Verb}
use Rattle.ak_desk_language.specs.declared.verbs.Verb.TheVariants as verbs
use Rattle.ak_desk_language.proofs.Spaces.{is_spaceless}

pub verb_spaceless : (verb : Verb) → is_spaceless (verb_text verb) ≡ true
verb_spaceless verbs.Note = refl
verb_spaceless verbs.Fields = refl
verb_spaceless verbs.Tags = refl
verb_spaceless verbs.Delete = refl
verb_spaceless verbs.Drop = refl
verb_spaceless verbs.Rename = refl
verb_spaceless verbs.Move = refl
verb_spaceless verbs.Adopt = refl
verb_spaceless verbs.Spread = refl
verb_spaceless verbs.Deck = refl
verb_spaceless verbs.Options = refl
verb_spaceless verbs.Type = refl
verb_spaceless verbs.Retype = refl
verb_spaceless verbs.Untype = refl
verb_spaceless verbs.Unoptions = refl
verb_spaceless verbs.Answer = refl
verb_spaceless verbs.Next = refl
verb_spaceless verbs.Counts = refl
verb_spaceless verbs.Find = refl
verb_spaceless verbs.Page = refl
verb_spaceless verbs.Mute = refl
verb_spaceless verbs.Suspend = refl
verb_spaceless verbs.Unsuspend = refl
verb_spaceless verbs.Bury = refl
verb_spaceless verbs.Flag = refl
verb_spaceless verbs.Undo = refl
verb_spaceless verbs.Check = refl

-- the numbers of ranges fit 64 bits
abbrev pub are_small : List Range → Bool
are_small [] = true
are_small (range ∷ ranges) = nat_lt range.1 (2 ^ 64) && are_small ranges

-- those of each verb do
pub small : (verb : Verb) → are_small (ranges_of verb) ≡ true
small verbs.Note = refl
small verbs.Fields = refl
small verbs.Tags = refl
small verbs.Delete = refl
small verbs.Drop = refl
small verbs.Rename = refl
small verbs.Move = refl
small verbs.Adopt = refl
small verbs.Spread = refl
small verbs.Deck = refl
small verbs.Options = refl
small verbs.Type = refl
small verbs.Retype = refl
small verbs.Untype = refl
small verbs.Unoptions = refl
small verbs.Answer = refl
small verbs.Next = refl
small verbs.Counts = refl
small verbs.Find = refl
small verbs.Page = refl
small verbs.Mute = refl
small verbs.Suspend = refl
small verbs.Unsuspend = refl
small verbs.Bury = refl
small verbs.Flag = refl
small verbs.Undo = refl
small verbs.Check = refl

-- verbs have codes of their own
abbrev pub verb_code : Verb → ℕ
verb_code verbs.Note = 0
verb_code verbs.Fields = 1
verb_code verbs.Tags = 2
verb_code verbs.Delete = 3
verb_code verbs.Drop = 4
verb_code verbs.Rename = 5
verb_code verbs.Move = 6
verb_code verbs.Adopt = 7
verb_code verbs.Spread = 8
verb_code verbs.Deck = 9
verb_code verbs.Options = 10
verb_code verbs.Type = 11
verb_code verbs.Retype = 12
verb_code verbs.Untype = 13
verb_code verbs.Unoptions = 14
verb_code verbs.Answer = 15
verb_code verbs.Next = 16
verb_code verbs.Counts = 17
verb_code verbs.Find = 18
verb_code verbs.Page = 19
verb_code verbs.Suspend = 20
verb_code verbs.Unsuspend = 21
verb_code verbs.Bury = 22
verb_code verbs.Flag = 23
verb_code verbs.Undo = 24
verb_code verbs.Check = 25
verb_code verbs.Mute = 26

-- the word is that of the first verb, or it is read among the others
first_or_other : (word : List ℕ) (first verb : Verb) (others : Option Verb) → (others ≡ Some verb → verb_text verb ≡ word)
    → (if is_word word (verb_text first) then Some first else others) ≡ Some verb → verb_text verb ≡ word
first_or_other word first verb others goes =
    elim (is_word word (verb_text first)) as (λ b. is_word word (verb_text first) ≡ b → (if b then Some first else others) ≡ Some verb → verb_text verb ≡ word) [
      | true ↦ λ same is. ap verb_text (sym (same_Some first verb is)) ∙ sym ((bytes_decides word (verb_text first)).0 same)
      | false ↦ λ _ is. goes is
    ] refl

no_other : (word : List ℕ) (verb : Verb) → ◌≡◌ {A = Option Verb} None (Some verb) → verb_text verb ≡ word
no_other word verb is = cc

pub verb_named : (word : List ℕ) (verb : Verb) → verb_of word ≡ Some verb → verb_text verb ≡ word
verb_named word verb =
    first_or_other word verbs.Note verb _ (first_or_other word verbs.Fields verb _ (first_or_other word verbs.Tags verb _ (first_or_other word verbs.Delete verb _ (first_or_other word verbs.Type verb _ (first_or_other word verbs.Retype verb _ (first_or_other word verbs.Untype verb _ (first_or_other word verbs.Drop verb _ (first_or_other word verbs.Rename verb _ (first_or_other word verbs.Move verb _ (first_or_other word verbs.Adopt verb _ (first_or_other word verbs.Spread verb _ (first_or_other word verbs.Deck verb _ (first_or_other word verbs.Options verb _ (first_or_other word verbs.Unoptions verb _ (first_or_other word verbs.Answer verb _ (first_or_other word verbs.Next verb _ (first_or_other word verbs.Counts verb _ (first_or_other word verbs.Find verb _ (first_or_other word verbs.Page verb _ (first_or_other word verbs.Mute verb _ (first_or_other word verbs.Suspend verb _ (first_or_other word verbs.Unsuspend verb _ (first_or_other word verbs.Bury verb _ (first_or_other word verbs.Flag verb None (no_other word verb)))))))))))))))))))))))))

pub lone_named : (word : List ℕ) (verb : Verb) → lone_verb_of word ≡ Some verb → verb_text verb ≡ word
lone_named word verb =
    first_or_other word verbs.Undo verb _ (first_or_other word verbs.Check verb None (no_other word verb))

pub allowed_named : (word : List ℕ) (verb : Verb) → allowed_verb_of word ≡ Some verb → verb_text verb ≡ word
allowed_named word verb =
    first_or_other word verbs.Retype verb _ (first_or_other word verbs.Untype verb _ (first_or_other word verbs.Unoptions verb None (no_other word verb)))

-- `allow` may stand before a verb that is read after it
pub allowed_may : (word : List ℕ) (verb : Verb) → allowed_verb_of word ≡ Some verb → may_allow verb ≡ true
allowed_may word verb =
    may_or_other word verbs.Retype verb _ refl (may_or_other word verbs.Untype verb _ refl (may_or_other word verbs.Unoptions verb None refl (λ is. cc)))
  where
    may_or_other : (word : List ℕ) (first verb : Verb) (others : Option Verb) → may_allow first ≡ true → (others ≡ Some verb → may_allow verb ≡ true)
        → (if is_word word (verb_text first) then Some first else others) ≡ Some verb → may_allow verb ≡ true
    may_or_other word first verb others may goes =
        elim (is_word word (verb_text first)) as (λ b. (if b then Some first else others) ≡ Some verb → may_allow verb ≡ true) [
          | true ↦ λ is. ap may_allow (sym (same_Some first verb is)) ∙ may
          | false ↦ λ is. goes is
        ]

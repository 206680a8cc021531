-- Rows of one content are equal but for their usn, and only they are. So it is of the stamp too.
use Rattle.std.specs.Prelude.{◌≡◌, ◌↔◌, ℕ, ℤ, pos, Bool, true, false, ◌&&◌, ◌||◌, ◌==◌, if◌then◌else◌, IsTrue, List, [], get_or}
use Rattle.std.proofs.Common.{refl, sym, ap, subst, ◌∙◌}
use Rattle.std.specs.Bool.{Decides}
use Rattle.std.proofs.lemmas.Bool.{and_from}
use Rattle.std.specs.Cmp.{unsigned_Decides, signed_Decides, first_so, second_so}
use Rattle.std.specs.Ordering.{int_eq}
use Rattle.std.specs.Cmp.Lexicographic.{pointwise, pointwise_decides, bytes_decides}
use Rattle.std.specs.Cmp.Rules.{signed_items}
use Rattle.ak_base.proofs.ContentLaws.{same_content_equiv}
use Rattle.ak_base.specs.Contents.{same_content, same_but_stamp_and_usn, kind_of, numbers_of, texts_of, fields_of, templates_of, same_numbers, same_texts, same_field, same_template, truth}
use Rattle.ak_base.specs.Contents.{note_numbers, card_numbers, review_numbers, grave_numbers, deck_numbers, note_type_numbers, general_numbers, review_options, lapse_numbers}
use Rattle.ak_base.specs.Rests.{lacks, lacks_options, field_keys, template_keys, note_type_keys, deck_keys}
use Rattle.ak_base.specs.Rows.{stamp_of, with_usn, with_stamp}
use Rattle.ak_base.specs.declared.cards.Card.{Card}
use Rattle.ak_base.specs.declared.decks.Deck.{Deck}
use Rattle.ak_base.specs.declared.graves.Grave.{Grave}
use Rattle.ak_base.specs.declared.note_types.CardTemplate.{CardTemplate}
use Rattle.ak_base.specs.declared.note_types.FieldDef.{FieldDef}
use Rattle.ak_base.specs.declared.note_types.NoteType.{NoteType}
use Rattle.ak_base.specs.declared.notes.Note.{Note}
use Rattle.ak_base.specs.declared.option_groups.Options.{Options}
use Rattle.ak_base.specs.declared.reviews.Review.{Review}
use Rattle.ak_base.specs.declared.rows.Row.{Row}
use Rattle.ak_base.specs.declared.rows.Row.TheVariants as rows
use Rattle.ak_base.proofs.Resting.{same_proof}
use Rattle.ak_base.proofs.RowFacts.{same-with_usn, same_fields-through, same_fields-turned, same_fields-with_stamp, same_fields-edited}

-- ---- parts of a row
abbrev number_at : ℕ → List ℤ → ℤ
number_at n numbers = get_or numbers n (pos 0)

abbrev text_at : ℕ → List (List ℕ) → List ℕ
text_at n texts = get_or texts n []

abbrev numbers_at : ℕ → List (List ℤ) → List ℤ
numbers_at n groups = get_or groups n []

one_truth : (a b : Bool) → truth a ≡ truth b → a ≡ b
one_truth true true e = refl
one_truth true false e = cc
one_truth false true e = cc
one_truth false false e = refl

-- fields of one name and one rest
pub one_field : (a b : FieldDef) → a.name ≡ b.name → a.rest.text ≡ b.rest.text → a ≡ b
one_field a b name rest = λ i. record {
  name = name i;
  rest = record { text = rest i; owner = record {}; unknown = same_proof (lacks field_keys) rest a.rest.unknown b.rest.unknown i };
}

-- templates of one name, one front, one back and one rest
pub one_template : (a b : CardTemplate) → a.name ≡ b.name → a.front ≡ b.front → a.back ≡ b.back → a.rest.text ≡ b.rest.text → a ≡ b
one_template a b name front back rest = λ i. record {
  name = name i;
  front = front i;
  back = back i;
  rest = record { text = rest i; owner = record {}; unknown = same_proof (lacks template_keys) rest a.rest.unknown b.rest.unknown i };
}

field_decides : (a b : FieldDef) → Decides (same_field a b) (a ≡ b)
field_decides a b = (
  λ same. one_field a b
      ((bytes_decides a.name b.name).0 (first_so _ (pointwise ◌==◌ a.rest.text b.rest.text) same))
      ((bytes_decides a.rest.text b.rest.text).0 (second_so (pointwise ◌==◌ a.name b.name) _ same)),
  λ e. ap (same_field a) (sym e) ∙ field_itself a,
)
  where
    field_itself : (a : FieldDef) → same_field a a ≡ true
    field_itself a = and_from (pointwise ◌==◌ a.name a.name) _ ((bytes_decides a.name a.name).1 refl) ((bytes_decides a.rest.text a.rest.text).1 refl)

template_decides : (a b : CardTemplate) → Decides (same_template a b) (a ≡ b)
template_decides a b = (
  λ same.
      let front3 = first_so _ (pointwise ◌==◌ a.rest.text b.rest.text) same in
      let front2 = first_so _ (pointwise ◌==◌ a.back b.back) front3 in
      one_template a b
      ((bytes_decides a.name b.name).0 (first_so _ (pointwise ◌==◌ a.front b.front) front2))
      ((bytes_decides a.front b.front).0 (second_so (pointwise ◌==◌ a.name b.name) _ front2))
      ((bytes_decides a.back b.back).0 (second_so (pointwise ◌==◌ a.name b.name && pointwise ◌==◌ a.front b.front) _ front3))
      ((bytes_decides a.rest.text b.rest.text).0 (second_so ((pointwise ◌==◌ a.name b.name && pointwise ◌==◌ a.front b.front) && pointwise ◌==◌ a.back b.back) _ same)),
  λ e. ap (same_template a) (sym e) ∙ template_itself a,
)
  where
    template_itself : (a : CardTemplate) → same_template a a ≡ true
    template_itself a =
        and_from _ _ (and_from _ _ (and_from _ _ ((bytes_decides a.name a.name).1 refl) ((bytes_decides a.front a.front).1 refl)) ((bytes_decides a.back a.back).1 refl)) ((bytes_decides a.rest.text a.rest.text).1 refl)

-- ---- what rows share that are equal but for stamp and usn
record Shared (a b : Row) : Type 0 where
  pub kind : kind_of a ≡ kind_of b
  pub numbers : numbers_of a ≡ numbers_of b
  pub texts : texts_of a ≡ texts_of b
  pub fields : fields_of a ≡ fields_of b
  pub templates : templates_of a ≡ templates_of b

shared : (a b : Row) → same_but_stamp_and_usn a b ≡ true → Shared a b
shared a b same =
    let numbers : Bool = pointwise same_numbers (numbers_of a) (numbers_of b) in
    let texts : Bool = same_texts (texts_of a) (texts_of b) in
    let fields : Bool = pointwise same_field (fields_of a) (fields_of b) in
    let templates : Bool = pointwise same_template (templates_of a) (templates_of b) in
    let front : (kind_of a == kind_of b && numbers) ≡ true = first_so _ (texts && (fields && templates)) same in
    let back : (texts && (fields && templates)) ≡ true = second_so (kind_of a == kind_of b && numbers) _ same in
    let lists : (fields && templates) ≡ true = second_so texts _ back in
    record {
      kind = (unsigned_Decides (kind_of a) (kind_of b)).0 (first_so _ numbers front);
      numbers = (pointwise_decides signed_items (numbers_of a) (numbers_of b)).0 (second_so (kind_of a == kind_of b) _ front);
      texts = (pointwise_decides bytes_decides (texts_of a) (texts_of b)).0 (first_so _ (fields && templates) back);
      fields = (pointwise_decides field_decides (fields_of a) (fields_of b)).0 (first_so _ templates lists);
      templates = (pointwise_decides template_decides (templates_of a) (templates_of b)).0 (second_so fields _ lists);
    }

-- ---- rows of each kind that share all that
one_note : (a b : Note) (usn : ℤ) → Shared (rows.Note a) (rows.Note b) → a.stamp ≡ b.stamp → with_usn (rows.Note a) usn ≡ with_usn (rows.Note b) usn
one_note a b usn s stamps =
    let numbers : note_numbers a ≡ note_numbers b = ap (numbers_at 0) s.numbers in
    ap rows.Note (λ i. record {
      id = number_at 0 (numbers i);
      guid = text_at 0 (s.texts i);
      mid = number_at 1 (numbers i);
      stamp = stamps i;
      usn = usn;
      tags = text_at 1 (s.texts i);
      flds = text_at 2 (s.texts i);
      sfld = text_at 3 (s.texts i);
      csum = number_at 2 (numbers i);
      flags = number_at 3 (numbers i);
      extra = text_at 4 (s.texts i);
    })

one_card : (a b : Card) (usn : ℤ) → Shared (rows.Card a) (rows.Card b) → a.stamp ≡ b.stamp → with_usn (rows.Card a) usn ≡ with_usn (rows.Card b) usn
one_card a b usn s stamps =
    let numbers : card_numbers a ≡ card_numbers b = ap (numbers_at 0) s.numbers in
    ap rows.Card (λ i. record {
      id = number_at 0 (numbers i);
      nid = number_at 1 (numbers i);
      did = number_at 2 (numbers i);
      ord = number_at 3 (numbers i);
      stamp = stamps i;
      usn = usn;
      kind = number_at 4 (numbers i);
      queue = number_at 5 (numbers i);
      due = number_at 6 (numbers i);
      ivl = number_at 7 (numbers i);
      factor = number_at 8 (numbers i);
      reps = number_at 9 (numbers i);
      lapses = number_at 10 (numbers i);
      left = number_at 11 (numbers i);
      odue = number_at 12 (numbers i);
      odid = number_at 13 (numbers i);
      flags = number_at 14 (numbers i);
      extra = text_at 0 (s.texts i);
    })

one_review : (a b : Review) (usn : ℤ) → Shared (rows.Review a) (rows.Review b) → with_usn (rows.Review a) usn ≡ with_usn (rows.Review b) usn
one_review a b usn s =
    let numbers : review_numbers a ≡ review_numbers b = ap (numbers_at 0) s.numbers in
    ap rows.Review (λ i. record {
      id = number_at 0 (numbers i);
      cid = number_at 1 (numbers i);
      usn = usn;
      ease = number_at 2 (numbers i);
      ivl = number_at 3 (numbers i);
      last_ivl = number_at 4 (numbers i);
      factor = number_at 5 (numbers i);
      time = number_at 6 (numbers i);
      kind = number_at 7 (numbers i);
    })

one_grave : (a b : Grave) (usn : ℤ) → Shared (rows.Grave a) (rows.Grave b) → with_usn (rows.Grave a) usn ≡ with_usn (rows.Grave b) usn
one_grave a b usn s =
    let numbers : grave_numbers a ≡ grave_numbers b = ap (numbers_at 0) s.numbers in
    ap rows.Grave (λ i. record { usn = usn; oid = number_at 0 (numbers i); kind = number_at 1 (numbers i) })

one_note_type : (a b : NoteType) (usn : ℤ) → Shared (rows.NoteType a) (rows.NoteType b) → a.stamp ≡ b.stamp → with_usn (rows.NoteType a) usn ≡ with_usn (rows.NoteType b) usn
one_note_type a b usn s stamps =
    let numbers : note_type_numbers a ≡ note_type_numbers b = ap (numbers_at 0) s.numbers in
    let cloze : a.cloze ≡ b.cloze = one_truth a.cloze b.cloze (ap (number_at 1) numbers) in
    let rest : a.rest.text ≡ b.rest.text = ap (text_at 1) s.texts in
    ap rows.NoteType (λ i. record {
      id = number_at 0 (numbers i);
      stamp = stamps i;
      usn = usn;
      name = text_at 0 (s.texts i);
      cloze = cloze i;
      sortf = number_at 2 (numbers i);
      fields = s.fields i;
      templates = s.templates i;
      rest = record { text = rest i; owner = record {}; unknown = same_proof (lacks note_type_keys) rest a.rest.unknown b.rest.unknown i };
    })

one_deck : (a b : Deck) (usn : ℤ) → Shared (rows.Deck a) (rows.Deck b) → a.stamp ≡ b.stamp → with_usn (rows.Deck a) usn ≡ with_usn (rows.Deck b) usn
one_deck a b usn s stamps =
    let numbers : deck_numbers a ≡ deck_numbers b = ap (numbers_at 0) s.numbers in
    let filtered : a.filtered ≡ b.filtered = one_truth a.filtered b.filtered (ap (number_at 2) numbers) in
    let rest : a.rest.text ≡ b.rest.text = ap (text_at 1) s.texts in
    ap rows.Deck (λ i. record {
      id = number_at 0 (numbers i);
      stamp = stamps i;
      usn = usn;
      name = text_at 0 (s.texts i);
      options = number_at 1 (numbers i);
      filtered = filtered i;
      new_today = record { day = number_at 3 (numbers i); count = number_at 4 (numbers i) };
      rev_today = record { day = number_at 5 (numbers i); count = number_at 6 (numbers i) };
      rest = record { text = rest i; owner = record {}; unknown = same_proof (lacks deck_keys) rest a.rest.unknown b.rest.unknown i };
    })

one_group : (a b : Options) (usn : ℤ) → Shared (rows.Options a) (rows.Options b) → a.stamp ≡ b.stamp → with_usn (rows.Options a) usn ≡ with_usn (rows.Options b) usn
one_group a b usn s stamps =
    let general : general_numbers a ≡ general_numbers b = ap (numbers_at 0) s.numbers in
    let reviews : review_options a ≡ review_options b = ap (numbers_at 2) s.numbers in
    let lapses : lapse_numbers a ≡ lapse_numbers b = ap (numbers_at 3) s.numbers in
    let new_bury : a.new_bury ≡ b.new_bury = one_truth a.new_bury b.new_bury (ap (number_at 6) general) in
    let rev_bury : a.rev_bury ≡ b.rev_bury = one_truth a.rev_bury b.rev_bury (ap (number_at 5) reviews) in
    let rest : a.rest.text ≡ b.rest.text = ap (text_at 1) s.texts in
    ap rows.Options (λ i. record {
      id = number_at 0 (general i);
      stamp = stamps i;
      usn = usn;
      name = text_at 0 (s.texts i);
      max_taken = number_at 1 (general i);
      new_steps = numbers_at 1 (s.numbers i);
      grad_ivl = number_at 2 (general i);
      easy_ivl = number_at 3 (general i);
      initial_factor = number_at 4 (general i);
      new_per_day = number_at 5 (general i);
      new_bury = new_bury i;
      rev_per_day = number_at 0 (reviews i);
      ease4 = number_at 1 (reviews i);
      ivl_fct = number_at 2 (reviews i);
      max_ivl = number_at 3 (reviews i);
      hard_factor = number_at 4 (reviews i);
      rev_bury = rev_bury i;
      lapse_steps = numbers_at 4 (s.numbers i);
      mult = number_at 0 (lapses i);
      min_int = number_at 1 (lapses i);
      leech_fails = number_at 2 (lapses i);
      leech_action = number_at 3 (lapses i);
      rest = record { text = rest i; owner = record {}; unknown = same_proof lacks_options rest a.rest.unknown b.rest.unknown i };
    })

-- rows of two kinds share none
other_kind : {T : Type 0} (m n : ℕ) → m ≡ n → (m == n) ≡ false → T
other_kind m n e apart = absurd (false_true (sym apart ∙ (unsigned_Decides m n).1 e))
  where
    false_true : false ≡ true → ⊥
    false_true e = cc

by_kind : (a b : Row) (usn : ℤ) → Shared a b → stamp_of a ≡ stamp_of b → with_usn a usn ≡ with_usn b usn
by_kind (rows.Note a) (rows.Note b) usn s stamps = one_note a b usn s stamps
by_kind (rows.Card a) (rows.Card b) usn s stamps = one_card a b usn s stamps
by_kind (rows.Review a) (rows.Review b) usn s stamps = one_review a b usn s
by_kind (rows.NoteType a) (rows.NoteType b) usn s stamps = one_note_type a b usn s stamps
by_kind (rows.Deck a) (rows.Deck b) usn s stamps = one_deck a b usn s stamps
by_kind (rows.Options a) (rows.Options b) usn s stamps = one_group a b usn s stamps
by_kind (rows.Grave a) (rows.Grave b) usn s stamps = one_grave a b usn s
by_kind a b usn s stamps = other_kind (kind_of a) (kind_of b) s.kind refl

-- ---- content
-- rows of one content have one stamp
pub like_stamp : (x y : Row) → IsTrue (same_content x y) → stamp_of x ≡ stamp_of y
like_stamp x y same = (signed_Decides (stamp_of x) (stamp_of y)).0 (first_so _ (same_but_stamp_and_usn x y) same)

-- rows of one content are one, once their usns are
pub same_is_one : (a b : Row) (usn : ℤ) → same_content a b ≡ true → with_usn a usn ≡ with_usn b usn
same_is_one a b usn same = by_kind a b usn (shared a b (second_so (int_eq (stamp_of a) (stamp_of b)) _ same)) (like_stamp a b same)

one_is_same : (a b : Row) (usn : ℤ) → with_usn a usn ≡ with_usn b usn → same_content a b ≡ true
one_is_same a b usn one =
    sym (same_content_equiv.congr (with_usn a usn) a b (same-with_usn a usn)) ∙ ap (λ x. same_content x b) one ∙ same-with_usn b usn

-- rows have one content exactly if they are one, once their usns are
pub same_exactly : (a b : Row) (usn : ℤ) → IsTrue (same_content a b) ↔ (with_usn a usn ≡ with_usn b usn)
same_exactly a b usn = (same_is_one a b usn, one_is_same a b usn)

-- ---- all but stamp and usn
-- the stamp that a row of a kind has, once it is given one
stamp_given : ℕ → ℤ → ℤ
stamp_given kind stamp = if kind == 2 || kind == 6 then pos 0 else stamp

stamp-given : (x : Row) (stamp : ℤ) → stamp_of (with_stamp x stamp) ≡ stamp_given (kind_of x) stamp
unfolding stamp_given
stamp-given (rows.Note n) stamp = refl
stamp-given (rows.Card c) stamp = refl
stamp-given (rows.Review r) stamp = refl
stamp-given (rows.NoteType t) stamp = refl
stamp-given (rows.Deck d) stamp = refl
stamp-given (rows.Options o) stamp = refl
stamp-given (rows.Grave g) stamp = refl

-- equal rows but for both are one, once both are
fields_are_one : (a b : Row) (stamp usn : ℤ) → same_but_stamp_and_usn a b ≡ true → with_usn (with_stamp a stamp) usn ≡ with_usn (with_stamp b stamp) usn
fields_are_one a b stamp usn same =
    let kinds : kind_of a ≡ kind_of b = (shared a b same).kind in
    let stamped : same_but_stamp_and_usn (with_stamp a stamp) (with_stamp b stamp) ≡ true =
    same_fields-through (with_stamp a stamp) a (with_stamp b stamp) (same_fields-with_stamp a stamp)
    (same_fields-through a b (with_stamp b stamp) same (same_fields-turned (with_stamp b stamp) b (same_fields-with_stamp b stamp))) in
    by_kind (with_stamp a stamp) (with_stamp b stamp) usn (shared _ _ stamped)
    (stamp-given a stamp ∙ ap (λ k. stamp_given k stamp) kinds ∙ sym (stamp-given b stamp))

one_has_fields : (a b : Row) (stamp usn : ℤ) → with_usn (with_stamp a stamp) usn ≡ with_usn (with_stamp b stamp) usn → same_but_stamp_and_usn a b ≡ true
one_has_fields a b stamp usn one =
    same_fields-through a (with_usn (with_stamp a stamp) usn) b (same_fields-turned _ a (same_fields-edited a stamp usn))
    (subst (λ x. IsTrue (same_but_stamp_and_usn x b)) (sym one) (same_fields-edited b stamp usn))

-- rows are equal but for both exactly if they are one, once both are
pub fields_exactly : (a b : Row) (stamp usn : ℤ) → IsTrue (same_but_stamp_and_usn a b) ↔ (with_usn (with_stamp a stamp) usn ≡ with_usn (with_stamp b stamp) usn)
fields_exactly a b stamp usn = (fields_are_one a b stamp usn, one_has_fields a b stamp usn)

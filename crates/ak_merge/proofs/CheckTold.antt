-- What the check says of a collection, where a keeper tells it.
use Rattle.std.specs.Prelude.{◌≡◌, ◌⊎◌, ℕ, ℤ, ◌+◌, ◌<◌, ◌≤◌, true, false, List, [], find, drop, get_or, length, map, Option, Some, None, Result, Ok, Err, IfOk}
use Rattle.std.proofs.Common.{inl, inr, refl, sym, ap, subst, ◌∙◌}
use Rattle.std.proofs.lemmas.List.{drop_all}
use Rattle.std.proofs.lemmas.List.Elements.{All-get_or}
use Rattle.std.specs.List.{All}
use Rattle.std.specs.Option.{option_map, option_or}
use Rattle.ak_base.specs.declared.names.Name.{Name}
use Rattle.ak_base.specs.declared.names.Table.{Table}
use Rattle.ak_base.specs.declared.names.Table.TheVariants as tables
use Rattle.ak_keep.proofs.Told.{where_told-map}
use Rattle.ak_keep.specs.Collections.{Holding, Rows, StandsUnderNames}
use Rattle.ak_keep.specs.Keepers.{IsNamedRightly, Keeping, WhereTold}
use Rattle.ak_keep.specs.declared.keepers.KeepFault.{KeepFault}
use Rattle.ak_merge.proofs.CheckedLinks.{find_here, find_next, first_by_links, id_of, known_at_first, links_as_read, links_of, name_id}
use Rattle.ak_merge.proofs.Passing.{told_three}
use Rattle.ak_merge.specs.CheckLinks.{AreKnown, AreLinksIn, AreLinksOf, IsGoodIn, bad_link, forgotten}
use Rattle.ak_merge.specs.Soundness.{first_bad, first_fault, first_of, table_of}
use Rattle.ak_merge.specs.declared.check_links.Link.{Link}
use Rattle.ak_merge.specs.declared.check_links.Links.{Links}
use Rattle.ak_merge.specs.declared.checks.CheckFault.{CheckFault}
use Rattle.ak_merge.specs.declared.checks.CheckFault.TheVariants as faults
use Rattle.ak_merge.specs.declared.checks.Part.{Part}
use Rattle.ak_merge.specs.declared.checks.Part.TheVariants as parts

pub told_both : (k : Keeping) (P Q S : Holding → Type 0) → ((h : Holding) → P h → Q h → S h) → WhereTold k P → WhereTold k Q → WhereTold k S
told_both k P Q S so p q = told_three k P Q Q S (λ h a b _. so h a b) p q q

-- ---- what was read
links_known : (held : Rows) (types notes cards : List Link) (links : Links) → StandsUnderNames held → types ≡ links_of tables.NoteType held → notes ≡ links_of tables.Note held → cards ≡ links_of tables.Card held
    → map forgotten links.notes.items ≡ map forgotten notes → map forgotten links.cards.items ≡ map forgotten cards → (AreKnown held types notes cards → AreKnown held types links.notes.items links.cards.items) → AreLinksOf held links
links_known held types notes cards links named are_types are_notes are_cards same_notes same_cards known =
    let all = known (known_at_first held types notes cards named are_types are_notes are_cards) in
    record {
      named = named;
      notes = links_as_read tables.Note held notes links.notes.items are_notes same_notes all.good_notes;
      cards = links_as_read tables.Card held cards links.cards.items are_cards same_cards all.good_cards;
    }

pub links_told : (k : Keeping) (types notes cards seen_notes seen_cards : List Link) (links : Links) → links.notes.items ≡ seen_notes → links.cards.items ≡ seen_cards → IsNamedRightly k
    → WhereTold k (λ h. types ≡ links_of tables.NoteType h.rows) → WhereTold k (λ h. notes ≡ links_of tables.Note h.rows) → WhereTold k (λ h. cards ≡ links_of tables.Card h.rows)
    → map forgotten seen_notes ≡ map forgotten notes → map forgotten seen_cards ≡ map forgotten cards → ((held : Rows) → AreKnown held types notes cards → AreKnown held types seen_notes seen_cards) → WhereTold k (λ h. AreLinksOf h.rows links)
links_told k types notes cards seen_notes seen_cards links is_notes is_cards named are_types are_notes are_cards same_notes same_cards known =
    told_three k (λ h. StandsUnderNames h.rows × (types ≡ links_of tables.NoteType h.rows)) (λ h. notes ≡ links_of tables.Note h.rows) (λ h. cards ≡ links_of tables.Card h.rows) (λ h. AreLinksOf h.rows links)
    (λ h first of_notes of_cards. links_known h.rows types notes cards links first.0 first.1 of_notes of_cards (ap (map forgotten) is_notes ∙ same_notes) (ap (map forgotten) is_cards ∙ same_cards)
    (λ all. subst (λ ns. AreKnown h.rows types ns links.cards.items) (sym is_notes) (subst (λ cs. AreKnown h.rows types seen_notes cs) (sym is_cards) (known h.rows all))))
    (told_both k (λ h. StandsUnderNames h.rows) (λ h. types ≡ links_of tables.NoteType h.rows) (λ h. StandsUnderNames h.rows × (types ≡ links_of tables.NoteType h.rows)) (λ h a b. (a, b)) named.current are_types)
    are_notes are_cards

-- ---- one link after another
-- the first bad one of those that are left is the first of all
abbrev pub HasPassed : Part → List Link → ℕ → Rows → Type 0
HasPassed part links i held = All (IsGoodIn (table_of part) held) links → find (bad_link part held) (drop i links) ≡ find (bad_link part held) links

pub passed_told : (k : Keeping) (part : Part) (links : List Link) (i : ℕ) (d : Link) → i < length links → WhereTold k (λ h. HasPassed part links i h.rows)
    → WhereTold k (λ h. IsGoodIn (table_of part) h.rows (get_or links i d) → false ≡ bad_link part h.rows (get_or links i d)) → WhereTold k (λ h. HasPassed part links (i + 1) h.rows)
passed_told k part links i d inside = told_both k (λ h. HasPassed part links i h.rows) (λ h. IsGoodIn (table_of part) h.rows (get_or links i d) → false ≡ bad_link part h.rows (get_or links i d)) (λ h. HasPassed part links (i + 1) h.rows)
    (λ h passed said good. find_next (bad_link part h.rows) links i d inside (sym (said (All-get_or (IsGoodIn (table_of part) h.rows) links i d inside good))) ∙ passed good)

pub found_told : (k : Keeping) (part : Part) (links : List Link) (i : ℕ) (d : Link) → i < length links → WhereTold k (λ h. HasPassed part links i h.rows)
    → WhereTold k (λ h. IsGoodIn (table_of part) h.rows (get_or links i d) → true ≡ bad_link part h.rows (get_or links i d))
    → WhereTold k (λ h. All (IsGoodIn (table_of part) h.rows) links → Some (get_or links i d).id ≡ option_map id_of (find (bad_link part h.rows) links))
found_told k part links i d inside = told_both k (λ h. HasPassed part links i h.rows) (λ h. IsGoodIn (table_of part) h.rows (get_or links i d) → true ≡ bad_link part h.rows (get_or links i d))
    (λ h. All (IsGoodIn (table_of part) h.rows) links → Some (get_or links i d).id ≡ option_map id_of (find (bad_link part h.rows) links))
    (λ h passed said good. ap (option_map id_of) (sym (find_here (bad_link part h.rows) links i d inside (sym (said (All-get_or (IsGoodIn (table_of part) h.rows) links i d inside good)))) ∙ passed good))

pub none_told : (k : Keeping) (part : Part) (links : List Link) (i : ℕ) → length links ≤ i → WhereTold k (λ h. HasPassed part links i h.rows)
    → WhereTold k (λ h. All (IsGoodIn (table_of part) h.rows) links → None ≡ option_map id_of (find (bad_link part h.rows) links))
none_told k part links i done = where_told-map k (λ h. HasPassed part links i h.rows) (λ h. All (IsGoodIn (table_of part) h.rows) links → None ≡ option_map id_of (find (bad_link part h.rows) links))
    (λ h passed good. ap (option_map id_of) (ap (find (bad_link part h.rows)) (sym (drop_all i links done)) ∙ passed good))

-- ---- the first bad row
pub first_told : (k : Keeping) (part : Part) (links : List Link) (named : Links) (first : Option ℤ) → ((held : Rows) → AreLinksOf held named → AreLinksIn (table_of part) held links)
    → WhereTold k (λ h. All (IsGoodIn (table_of part) h.rows) links → first ≡ option_map id_of (find (bad_link part h.rows) links))
    → WhereTold k (λ h. AreLinksOf h.rows named → first ≡ option_map name_id (first_bad part h.rows))
first_told k part links named first of_part = where_told-map k (λ h. All (IsGoodIn (table_of part) h.rows) links → first ≡ option_map id_of (find (bad_link part h.rows) links)) (λ h. AreLinksOf h.rows named → first ≡ option_map name_id (first_bad part h.rows))
    (λ h found are. let own = of_part h.rows are in found own.good ∙ first_by_links part h.rows links are.named own)

pub first_read : (k : Keeping) (part : Part) (links : List Link) (named : Links) (result : Result (Option ℤ) KeepFault) → ((held : Rows) → AreLinksOf held named → AreLinksIn (table_of part) held links)
    → IfOk result (λ first. WhereTold k (λ h. All (IsGoodIn (table_of part) h.rows) links → first ≡ option_map id_of (find (bad_link part h.rows) links)))
    → IfOk result (λ first. WhereTold k (λ h. AreLinksOf h.rows named → first ≡ option_map name_id (first_bad part h.rows)))
first_read k part links named (Ok first) of_part found = first_told k part links named first of_part found
first_read k part links named (Err fault) of_part found = tt

-- the parts that ask about cards, and those that ask about notes
pub of_cards : (part : Part) → (part ≡ parts.CardNote) ⊎ (part ≡ parts.CardTemplate) → table_of part ≡ tables.Card
of_cards part (inl is) = ap table_of is
of_cards part (inr is) = ap table_of is

pub of_notes : (part : Part) → (part ≡ parts.NoteCard) ⊎ (part ≡ parts.NoteType) → table_of part ≡ tables.Note
of_notes part (inl is) = ap table_of is
of_notes part (inr is) = ap table_of is

pub links_in_table : (table table' : Table) (held : Rows) (links links' : List Link) → table ≡ table' → links ≡ links' → AreLinksIn table' held links' → AreLinksIn table held links
links_in_table table table' held links links' in_table are read = subst (λ t. AreLinksIn t held links) (sym in_table) (subst (λ ls. AreLinksIn table' held ls) (sym are) read)

-- ---- the parts in their order
-- what the parts from one on find
abbrev from_two : Rows → Option CheckFault
from_two held = option_or (first_of faults.NoteNoCard parts.NoteCard held) (option_or (first_of faults.NoteNoType parts.NoteType held) (first_of faults.CardNoTemplate parts.CardTemplate held))

abbrev from_three : Rows → Option CheckFault
from_three held = option_or (first_of faults.NoteNoType parts.NoteType held) (first_of faults.CardNoTemplate parts.CardTemplate held)

fault_of_first : (fault : ℤ → CheckFault) (found : Option Name) → option_map fault (option_map name_id found) ≡ option_map (λ (name : Name). fault name.id) found
fault_of_first fault None = refl
fault_of_first fault (Some name) = refl

-- what a part finds, by the id that was found
by_id : (fault : ℤ → CheckFault) (part : Part) (held : Rows) (first : Option ℤ) → first ≡ option_map name_id (first_bad part held) → option_map fault first ≡ first_of fault part held
by_id fault part held first is = ap (option_map fault) is ∙ fault_of_first fault (first_bad part held)

pub one_found : (held : Rows) (id : ℤ) → Some id ≡ option_map name_id (first_bad parts.CardNote held) → Some (faults.CardNoNote id) ≡ first_fault held
one_found held id is = ap (λ o. option_or o (from_two held)) (by_id faults.CardNoNote parts.CardNote held (Some id) is)

past_one : (held : Rows) → None ≡ option_map name_id (first_bad parts.CardNote held) → from_two held ≡ first_fault held
past_one held is = ap (λ o. option_or o (from_two held)) (by_id faults.CardNoNote parts.CardNote held None is)

pub two_found : (held : Rows) (id : ℤ) → None ≡ option_map name_id (first_bad parts.CardNote held) → Some id ≡ option_map name_id (first_bad parts.NoteCard held) → Some (faults.NoteNoCard id) ≡ first_fault held
two_found held id one is = ap (λ o. option_or o (from_three held)) (by_id faults.NoteNoCard parts.NoteCard held (Some id) is) ∙ past_one held one

past_two : (held : Rows) → None ≡ option_map name_id (first_bad parts.CardNote held) → None ≡ option_map name_id (first_bad parts.NoteCard held) → from_three held ≡ first_fault held
past_two held one is = ap (λ o. option_or o (from_three held)) (by_id faults.NoteNoCard parts.NoteCard held None is) ∙ past_one held one

pub three_found : (held : Rows) (id : ℤ) → None ≡ option_map name_id (first_bad parts.CardNote held) → None ≡ option_map name_id (first_bad parts.NoteCard held) → Some id ≡ option_map name_id (first_bad parts.NoteType held)
    → Some (faults.NoteNoType id) ≡ first_fault held
three_found held id one two is = ap (λ o. option_or o (first_of faults.CardNoTemplate parts.CardTemplate held)) (by_id faults.NoteNoType parts.NoteType held (Some id) is) ∙ past_two held one two

pub four_found : (held : Rows) (four : Option ℤ) → None ≡ option_map name_id (first_bad parts.CardNote held) → None ≡ option_map name_id (first_bad parts.NoteCard held) → None ≡ option_map name_id (first_bad parts.NoteType held)
    → four ≡ option_map name_id (first_bad parts.CardTemplate held) → option_map faults.CardNoTemplate four ≡ first_fault held
four_found held four one two three is =
    by_id faults.CardNoTemplate parts.CardTemplate held four is ∙ ap (λ o. option_or o (first_of faults.CardNoTemplate parts.CardTemplate held)) (by_id faults.NoteNoType parts.NoteType held None three) ∙ past_two held one two

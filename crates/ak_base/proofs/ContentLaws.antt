-- To be equal but for the usn, and for the stamp too, are equivalences of rows.
use Rattle.std.specs.Cmp.{IsEquivalence, and_equiv, on_equiv, nat_eq_equiv, int_eq_equiv}
use Rattle.std.specs.Cmp.Lexicographic.{lists_equiv, nat_list_eq_equiv}
use Rattle.ak_base.specs.Contents.{same_content, same_but_stamp_and_usn, same_field, same_template, kind_of, numbers_of, texts_of, fields_of, templates_of}
use Rattle.ak_base.specs.Rows.{stamp_of}

field_equiv : IsEquivalence same_field
field_equiv = and_equiv (on_equiv (λ f. f.name) nat_list_eq_equiv) (on_equiv (λ f. f.rest.text) nat_list_eq_equiv)

template_equiv : IsEquivalence same_template
template_equiv =
    and_equiv (and_equiv (and_equiv (on_equiv (λ t. t.name) nat_list_eq_equiv) (on_equiv (λ t. t.front) nat_list_eq_equiv)) (on_equiv (λ t. t.back) nat_list_eq_equiv))
    (on_equiv (λ t. t.rest.text) nat_list_eq_equiv)

-- each row is as itself, and two are as each other whichever comes first
pub same_but_equiv : IsEquivalence same_but_stamp_and_usn
same_but_equiv =
    and_equiv (and_equiv (on_equiv kind_of nat_eq_equiv) (on_equiv numbers_of (lists_equiv (lists_equiv int_eq_equiv))))
    (and_equiv (on_equiv texts_of (lists_equiv nat_list_eq_equiv)) (and_equiv (on_equiv fields_of (lists_equiv field_equiv)) (on_equiv templates_of (lists_equiv template_equiv))))

-- the same of content
pub same_content_equiv : IsEquivalence same_content
same_content_equiv = and_equiv (on_equiv stamp_of int_eq_equiv) same_but_equiv

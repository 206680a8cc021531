-- How a device and a server come to be linked.
use Rattle.std.specs.Prelude.{◌≡◌, ◌≢◌, ℤ, pos, IsTrue, List, Option, Some, None, IfSome}
use Rattle.std.proofs.Common.{sym, ap, subst, inl, inr, arith}
use Rattle.std.proofs.lemmas.Int.{ints}
use Rattle.std.specs.FinMap.{get}
use Rattle.ak_base.specs.Heads.{IsHeadInRange}
use Rattle.ak_base.specs.Rows.{usn_of}
use Rattle.ak_base.specs.declared.heads.Head.{Head}
use Rattle.ak_base.specs.declared.heads.Tag.{Tag}
use Rattle.ak_keep.specs.Collections.{Collection, Rows}
use Rattle.ak_merge.proofs.TakingLaws.{if_weaker}
use Rattle.ak_merge.proofs.ExchangeLaws.{linked_same, number_own}
use Rattle.ak_merge.proofs.Finding.{not_both}
use Rattle.ak_merge.proofs.HeldFacts.{held-itself}
use Rattle.ak_merge.specs.Commits.{IsCommitted, IsCopyOf, IsOpening}
use Rattle.ak_merge.specs.Holdings.{row_under, AreNamed, AreChecked, tag_usn, has_tag, same_held, content_of, SameContent}
use Rattle.ak_merge.specs.Links.{IsGiven, IsOwn, AreNumbered, AreLinkedParts, AreLinked}

copy_usn : (s c : Collection) → IsCopyOf s c → c.head.usn ≡ s.head.usn
copy_usn s c copy = ap (λ (head : Head). head.usn) copy.head

copy_tags : (s c : Collection) → IsCopyOf s c → c.head.tags ≡ s.head.tags
copy_tags s c copy = ap (λ (head : Head). head.tags) copy.head

copy_own : (s c : Collection) → IsCopyOf s c → AreNumbered IsGiven s → AreNumbered IsOwn c
copy_own s c copy given = record {
  rows = λ name. subst (λ (usn : ℤ). IfSome (row_under c name) (λ row. IsOwn usn (usn_of row))) (sym (copy_usn s c copy))
      (subst (λ (held : Rows). IfSome (get held name) (λ row. IsOwn s.head.usn (usn_of row))) (sym copy.rows)
      (if_weaker (λ row. IsGiven s.head.usn (usn_of row)) (λ row. IsOwn s.head.usn (usn_of row)) (λ row h. inr h) (row_under s name) (given.rows name)));
  tags = λ name. subst (λ (usn : ℤ). IfSome (tag_usn c.head.tags name) (IsOwn usn)) (sym (copy_usn s c copy))
      (subst (λ (tags : List Tag). IfSome (tag_usn tags name) (IsOwn s.head.usn)) (sym (copy_tags s c copy)) (number_own s.head.usn (tag_usn s.head.tags name) (given.tags name)));
}

-- a copy of a collection has its content
pub copies_have_content : (s c : Collection) → IsCopyOf s c → SameContent (content_of c) (content_of s)
copies_have_content s c copy = record {
  rows = λ name. subst (λ (held : Rows). IsTrue (same_held (get held name) (row_under s name))) (sym copy.rows) (held-itself (row_under s name));
  tags = λ name. ap (λ (tags : List Tag). has_tag tags name) (copy_tags s c copy);
  conf = ap (λ (head : Head). head.conf) copy.head;
  crt = ap (λ (head : Head). head.crt) copy.head;
}

-- a copy of a committed collection is linked with it
pub copies_are_linked : (s c : Collection) → IsCommitted s → IsCopyOf s c → AreLinkedParts c s
copies_are_linked s c kept copy =
    linked_same c s (copy_usn s c copy) (ap (λ (head : Head). head.moment) copy.head) (copy_own s c copy kept.given) kept.given
    (copies_have_content s c copy) kept.single

-- a fresh schema moment links
pub fresh_schemas_link : (c s : Collection) → c.head.schema ≢ s.head.schema → AreLinked c s
fresh_schemas_link c s differ = inl differ

zero_given : (usn number : ℤ) → usn ≡ pos 1 → number ≡ pos 0 → IsGiven usn number
zero_given usn number one zero = record { low = omega (arith, ints, zero); high = omega (arith, ints, zero, one) }

tag_given : (usn : ℤ) → usn ≡ pos 1 → (o : Option ℤ) → IfSome o (λ number. number ≡ pos 0) → IfSome o (IsGiven usn)
tag_given usn one None zero = tt
tag_given usn one (Some number) zero = zero_given usn number one zero

-- what no device has synced with is what a server may hold
pub openings_are_lawful : (s : Collection) → AreNamed (row_under s) → AreChecked (row_under s) → IsHeadInRange s.head → IsOpening s → IsCommitted s
openings_are_lawful s named checked head opening = record {
  named = named;
  checked = checked;
  single = λ name dead. absurd (not_both dead (opening.graves name));
  given = record {
    rows = λ name. if_weaker (λ row. usn_of row ≡ pos 0) (λ row. IsGiven s.head.usn (usn_of row)) (λ row zero. zero_given s.head.usn (usn_of row) opening.usn zero) (row_under s name) (opening.rows name);
    tags = λ name. tag_given s.head.usn opening.usn (tag_usn s.head.tags name) (opening.tags name);
  };
  head = head;
}

-- Listed accounts that were opened so far, and those that are left.
use Rattle.std.proofs.Common.{◌≡◌, ◌<◌, ◌≤◌, List, [], ◌∷◌, ◌++◌, Option, Result, Ok, Err, IfOk, OnOk, refl, ap, sym, ◌∙◌, subst, append-nil, append_assoc, arith}
use Rattle.ak_accounts.specs.declared.listings.ListedAccount.{ListedAccount}
use Rattle.ak_faults.specs.Causes.{Health, Rose, one_more}
use Rattle.ak_keep.specs.Keepers.{Keeping, committed, marked_here, replaced}
use Rattle.ak_keep.specs.declared.keepers.KeepFault.{KeepFault}
use Rattle.ak_openings.specs.Openings.{IsOpening}
use Rattle.ak_openings.specs.declared.whole_collections.Opening.{Opening}
use Rattle.std.specs.Prelude.{ℤ, false}
use Rattle.ak_account_keepers.specs.OpenedAccounts.{IsOpenedAt, OpensAll, OpensFirst, OpensOne, Service}

-- of the listed accounts those in front were opened, and the rest is left
pub record HasOpened {K : Type 0} (keeping : K → Keeping) (listed rest : List ListedAccount) (told left : Option (List K)) (before after : Service K) : Type 0 where
  pub front : List ListedAccount
  pub parts : listed ≡ front ++ rest
  pub opens : OpensAll keeping front told left before after

-- one more was opened
opens_one_more : {K : Type 0} (keeping : K → Keeping) (front : List ListedAccount) (last : ListedAccount) (told between left : Option (List K)) (before then after : Service K)
    → OpensAll keeping front told between before then → OpensOne keeping last between left then after
    → OpensAll keeping (front ++ last ∷ []) told left before after
opens_one_more keeping [] last told between left before then after opens one = (
  left,
  after,
  subst (λ t. OpensOne keeping last t left before after) opens.0
      (subst (λ s. OpensOne keeping last between left s after) opens.1 one),
  (refl, refl),
)
opens_one_more keeping (first ∷ front) last told between left before then after opens one =
    (opens.0, opens.1, opens.2, opens_one_more keeping front last opens.0 between left opens.1 then after opens.3 one)

pub none_opened : {K : Type 0} (keeping : K → Keeping) (listed rest : List ListedAccount) (told : Option (List K)) (before : Service K)
    → rest ≡ listed → HasOpened keeping listed rest told told before before
none_opened keeping listed rest told before is = record { front = []; parts = sym is; opens = (refl, refl) }

one_opened : {K : Type 0} (keeping : K → Keeping) (listed : List ListedAccount) (last : ListedAccount) (rest : List ListedAccount)
    (told between left : Option (List K)) (before then after : Service K)
    → HasOpened keeping listed (last ∷ rest) told between before then → OpensOne keeping last between left then after
    → HasOpened keeping listed rest told left before after
one_opened keeping listed last rest told between left before then after has one = record {
  front = has.front ++ last ∷ [];
  parts = has.parts ∙ sym (append_assoc has.front (last ∷ []) rest);
  opens = opens_one_more keeping has.front last told between left before then after has.opens one;
}

pub all_opened : {K : Type 0} (keeping : K → Keeping) (listed rest : List ListedAccount) (told left : Option (List K)) (before after : Service K)
    → rest ≡ [] → HasOpened keeping listed rest told left before after → OpensAll keeping listed told left before after
all_opened keeping listed rest told left before after none has =
    let all : listed ≡ has.front = has.parts ∙ ap (λ r. has.front ++ r) none ∙ append-nil has.front in
    subst (λ l. OpensAll keeping l told left before after) (sym all) has.opens

pub first_opened : {K : Type 0} (keeping : K → Keeping) (listed : List ListedAccount) (last : ListedAccount) (rest : List ListedAccount)
    (told left : Option (List K)) (before after : Service K) → HasOpened keeping listed (last ∷ rest) told left before after
    → OpensFirst keeping listed told before after.accounts
first_opened keeping listed last rest told left before after has = record {
  front = has.front;
  rest = last ∷ rest;
  parts = has.parts;
  some = omega arith;
  left = left;
  after = after;
  opens = has.opens;
  accounts_are = refl;
}

-- a keeper that was marked, in which all was replaced, and which was committed if that was done
pub opened : (result put : Result (Unit {0}) KeepFault) (now : ℤ) (made : Opening) (k k1 k2 k3 : Keeping) → IsOpening now false made → k1 ≡ marked_here k
    → OnOk put (k2 ≡ replaced made.rows made.head k1) → OnOk result (k3 ≡ committed k2) → IfOk result (λ (value : Unit {0}). put ≡ Ok value)
    → OnOk result (IsOpenedAt now k k3)
opened (Ok value) put now made k k1 k2 k3 is marked replaces commits done =
    let replaced_all : k2 ≡ replaced made.rows made.head k1 = subst (λ (r : Result (Unit {0}) KeepFault). OnOk r (k2 ≡ replaced made.rows made.head k1)) done replaces in
    record { opening = made; is = is; holds = commits ∙ ap committed (replaced_all ∙ ap (replaced made.rows made.head) marked) }
opened (Err fault) put now made k k1 k2 k3 is marked replaces commits done = tt

-- what rose from no fault is over none
pub rose_from_none : (before now : Health) → before.faults ≡ 0 → Rose before now → 0 < now.faults
rose_from_none before now none rose = omega (arith, rose)

-- one fault more is a rise, from an earlier count on
pub one_more_rose : (earlier before now : Health) → earlier.faults ≤ before.faults → now.faults ≡ one_more before.faults → Rose earlier now
one_more_rose earlier before now later more = omega (arith, later, more)

-- the same of a list that begins with the one that was opened
pub next_opened : {K : Type 0} (keeping : K → Keeping) (listed items : List ListedAccount) (last : ListedAccount) (rest : List ListedAccount)
    (told between left : Option (List K)) (before then after : Service K)
    → items ≡ last ∷ rest → HasOpened keeping listed items told between before then → OpensOne keeping last between left then after
    → HasOpened keeping listed rest told left before after
next_opened keeping listed items last rest told between left before then after is has one =
    one_opened keeping listed last rest told between left before then after
    (subst (λ items. HasOpened keeping listed items told between before then) is has) one

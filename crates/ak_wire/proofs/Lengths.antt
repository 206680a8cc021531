-- How many values lists have.
use Rattle.std.proofs.Common.{◌≡◌, ℕ, ◌+◌, List, length, sym, ap, ◌∙◌}
use Rattle.serde_json.specs.Data.{Items}
use Rattle.serde_json.specs.Events.{items_len}
use Rattle.serde_json.specs.View.{items_view}
use Rattle.serde_json.specs.declared.value.Value.{Value}
use Rattle.serde_json.proofs.Views.{items_len-items_view}

pub len_of : (vs : List Value) (items : Items) → items_view vs ≡ items → length vs ≡ items_len items
len_of vs items is = sym (items_len-items_view vs) ∙ ap items_len is

pub sum_of : (a b c x y z : ℕ) → a ≡ x → b ≡ y → c ≡ z → a + b + c ≡ x + y + z
sum_of a b c x y z p q r = ap (λ n. n + b + c) p ∙ ap (λ n. x + n + c) q ∙ ap (λ n. x + y + n) r

use Rattle.std.proofs.Common.{◌≡◌, ℕ, ◌<◌, ◌≤◌, length, get_or}
use Rattle.ak_merge.specs.Exchanges.{settled_tag}
use Rattle.ak_merge.proofs.TagLists.{no_tag}
use Rattle.ak_merge.proofs.tags.settle_each.Given as goal

-- the tags so far are settled, and the others are as they were
abbrev pub invariant-loop-tag : goal.invariant-loop-tag
invariant-loop-tag l = record {
  settled : (k : ℕ) → k < l.tag-index → get_or l.tags k no_tag ≡ settled_tag l.usn (get_or l.fn.tags k no_tag);
  others : (k : ℕ) → l.tag-index ≤ k → get_or l.tags k no_tag ≡ get_or l.fn.tags k no_tag;
  length : length l.tags ≡ length l.fn.tags;
}

use Rattle.std.proofs.Common.{◌≡◌, ◌≤◌, ◌-◌, ◌++◌, length, take}
use Rattle.ak_memory.specs.QueueKeys.{keys_after, queue_run}
use Rattle.ak_memory.proofs.queue_keys.waiting_after.Given as goal

-- the page so far, with what is left of the run as far as there is room, is the whole page
abbrev pub invariant-loop-key : goal.invariant-loop-key
invariant-loop-key l =
    record {
      whole : l.page ++ take (l.limit - length l.page) (queue_run l.waiting l.places.entries l.key-iterator)
          ≡ take l.limit (queue_run l.waiting l.places.entries (keys_after l.start l.keys.keys));
      fits : length l.page ≤ l.limit;
    }

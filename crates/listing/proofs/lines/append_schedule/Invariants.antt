use Rattle.std.proofs.Common.{◌≡◌, ◌++◌, drop, vec_items}
use Rattle.std.specs.List.{flat_map}
use Rattle.listing.specs.Listings.{thread_text}
use Rattle.listing.proofs.lines.append_schedule.Given as goal

abbrev pub invariant-loop-thread : goal.invariant-loop-thread
invariant-loop-thread l = vec_items l.out ++ flat_map thread_text (drop l.thread-index l.schedule) ≡ vec_items l.initial.out ++ flat_map thread_text l.schedule

-- All worked examples together.
use Rattle.std.proofs.Common.{refl}
use Rattle.examples.specs.Examples.{Examples}
use Rattle.examples.proofs.Opening.{opens_eight, refuses_nine}
use Rattle.examples.proofs.Resting.{rests_with}
use Rattle.examples.proofs.Scripted.{three_pushes_play, two_pops_play, overtaken_plays}
use Rattle.examples.proofs.Taking.{record_full, took_last_entry, took_last_ticket, spent}

pub examples : (T : Type 0) → Examples T
examples T =
    record {
      first_ticket = record { split = refl; pushes_at = refl; pops_at = refl };
      later_ticket = record { split = refl; pushes_at = refl; pops_at = refl };
      last_ticket = record { split = refl; pushes_at = refl; pops_at = refl };
      last_ticket_in_nibbles = (refl, refl);
      eight_threads = opens_eight;
      nine_threads = (refl, refuses_nine);
      three_pushes_wait = (three_pushes_play, rests_with T 1 3 0);
      two_pops_wait = (two_pops_play, rests_with T 2 0 2);
      one_entry_for_two = (refl, record_full);
      one_entry_for_one = took_last_entry;
      last_takes = (took_last_ticket, refl, spent);
      first_pop = overtaken_plays;
    }

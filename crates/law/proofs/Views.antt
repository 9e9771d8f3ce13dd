-- A world as the proofs look at it: functions of a place in place of lists, kinds as 0 and 1, and a rank for the phase
-- of a thread, so that conditions on phases are inequalities.
use Rattle.std.proofs.Common.{ℕ, zero, suc, ◌%◌, List, ◌++◌, get_or}
use Rattle.turns.specs.Rows.{next_turn}
use Rattle.history.specs.declared.entry.Entry.{Entry}
use Rattle.history.specs.declared.entry.Kind.{Kind}
use Rattle.history.specs.declared.entry.Kind.TheVariants.{Push, Pop}
use Rattle.world.specs.declared.cell.Cell.{Cell}
use Rattle.world.specs.declared.cell.Mark.{Mark}
use Rattle.world.specs.declared.cell.Mark.TheVariants.{Empty, Full}
use Rattle.world.specs.declared.phase.Phase.{Phase}
use Rattle.world.specs.declared.phase.Phase.TheVariants.{Idle, Taking, Waiting, Storing, Reading, Emptying, Completing, Done}
use Rattle.world.specs.Steps.{cell}
use Rattle.world.specs.Worlds.{World, entered, phase_at}
use Rattle.law.proofs.Count.{upd}

abbrev pub bit : Kind → ℕ
bit Push = 0
bit Pop = 1

abbrev pub kind_of : ℕ → Kind
kind_of zero = Push
kind_of (suc k) = Pop

abbrev pub full : Mark → ℕ
full Empty = 0
full Full = 1

-- ranks: 0 idle, 1 taking, 2 at the wait, 3 storing or reading, 4 emptying, 5 completing, 6 done
pub record Thread (T : Type 0) : Type 0 where
  pub rank : ℕ
  pub kind : ℕ
  pub ticket : ℕ
  pub hand : T

abbrev pub thread : {T : Type 0} → ℕ → ℕ → ℕ → T → Thread T
thread rank kind ticket hand = record { rank = rank; kind = kind; ticket = ticket; hand = hand }

-- a thread in this phase with this element in its hand
abbrev pub thread_in : {T : Type 0} → Phase → T → Thread T
thread_in Idle x = thread 0 0 0 x
thread_in (Taking kind) x = thread 1 (bit kind) 0 x
thread_in (Waiting kind ticket) x = thread 2 (bit kind) ticket x
thread_in (Storing ticket) x = thread 3 0 ticket x
thread_in (Reading ticket) x = thread 3 1 ticket x
thread_in (Emptying ticket) x = thread 4 1 ticket x
thread_in (Completing kind ticket) x = thread 5 (bit kind) ticket x
thread_in (Done kind ticket) x = thread 6 (bit kind) ticket x

-- how many tickets of a kind are out
abbrev pub counts : ℕ → ℕ → ℕ → ℕ
counts pushes pops zero = pushes
counts pushes pops (suc zero) = pops
counts pushes pops (suc (suc k)) = 0

pub record View (T : Type 0) : Type 0 where
  pub out : ℕ → ℕ
  pub row : ℕ → ℕ
  pub threads : ℕ → Thread T
  pub cells : ℕ → Cell T
  pub entries : List (Entry T)

-- a world, where d is read past the end of a buffer
abbrev pub view : {T : Type 0} → T → World T → View T
view d w =
    record {
      out = counts w.table.pushes w.table.pops;
      row = λ slot. get_or w.row slot 0;
      threads = λ i. thread_in (phase_at w.table i) (get_or w.hands i d);
      cells = λ slot. get_or w.cells slot (cell d Empty);
      entries = entered w;
    }

-- a view after one thread moved on
abbrev pub moved : {T : Type 0} → View T → ℕ → Thread T → View T
moved s i x = record { out = s.out; row = s.row; threads = upd s.threads i x; cells = s.cells; entries = s.entries }

-- and wrote a cell
abbrev pub wrote : {T : Type 0} → View T → ℕ → Thread T → ℕ → Cell T → View T
wrote s i x slot c = record { out = s.out; row = s.row; threads = upd s.threads i x; cells = upd s.cells slot c; entries = s.entries }

-- a view after thread i took a ticket of kind k, with x in its hand, by which these entries were written
abbrev pub took : {T : Type 0} → View T → ℕ → ℕ → T → List (Entry T) → View T
took s i k x more =
    record {
      out = upd s.out k (suc (s.out k));
      row = s.row;
      threads = upd s.threads i (thread 2 k (s.out k) x);
      cells = s.cells;
      entries = s.entries ++ more;
    }

-- a view after thread i, which was as x says, completed
abbrev pub ended : {T : Type 0} → ℕ → ℕ → View T → ℕ → Thread T → View T
ended q m s i x =
    let slot = x.ticket % q in
    record { out = s.out; row = upd s.row slot (next_turn m (s.row slot)); threads = upd s.threads i (thread 6 x.kind x.ticket x.hand); cells = s.cells; entries = s.entries }

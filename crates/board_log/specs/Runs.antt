-- The board of one thread: which call may come next, and what stands after it.
use Rattle.std.specs.Prelude.{ℕ, ◌+◌, ◌*◌, ◌-◌, Bool, true, false, ◌==◌, ◌&&◌, not, List, [], ◌∷◌, ◌++◌, length, Option, Some, None, nat_lt, get_or, slice_set, replicate, count_by, sum_by, IsSome, cond}
use Rattle.std.specs.List.{position_or_len, remove}
use Rattle.board_log.specs.declared.offer.Offer.{Offer as Offered}
use Rattle.board_log.specs.declared.entry.Entry.{Entry}
use Rattle.board_log.specs.declared.entry.Entry.TheVariants.{Offer, Claim, Halted, Told, Drained, Cancelled, Stopped}
use Rattle.board_log.specs.Names.{offer_of, is_offer, is_for, is_of}

-- the offers that are neither claimed nor taken out, those that are claimed and not told, how many
-- were told since the last drain, how many cancels may come, and which workers were halted
pub record State : Type 0 where
  pub pending : List Offered
  pub owed : List Offered
  pub told : ℕ
  pub cancels : ℕ
  pub stopped : Bool
  pub halted : List Bool

-- a new board of so many workers
abbrev pub opened : ℕ → State
opened workers =
    record {
      pending = [];
      owed = [];
      told = 0;
      cancels = 0;
      stopped = false;
      halted = replicate workers false;
    }

-- whether one of the offers passes
abbrev pub has : (Offered → Bool) → List Offered → Bool
has p offers = nat_lt (position_or_len p offers) (length offers)

-- the offers without the oldest that passes
abbrev pub without : (Offered → Bool) → List Offered → List Offered
without p offers = remove offers (position_or_len p offers)

-- the oldest offer that passes, or else this one
abbrev pub oldest : (Offered → Bool) → List Offered → Offered → Offered
oldest p offers other = get_or offers (position_or_len p offers) other

-- whether the call may be the next, with this answer
abbrev pub is_legal : State → Entry → Bool
is_legal s (Offer worker name) = true
is_legal s (Claim worker name) =
    not s.stopped && has (is_for worker) s.pending
    && is_offer (oldest (is_for worker) s.pending (offer_of worker name)) (offer_of worker name)
is_legal s (Halted worker) = s.stopped && not (get_or s.halted worker true)
is_legal s (Told worker name kind) = has (is_offer (offer_of worker name)) s.owed
is_legal s (Drained count) = count == s.told
is_legal s (Cancelled name true) = nat_lt 0 s.cancels && has (is_of name) s.pending
is_legal s (Cancelled name false) = nat_lt 0 s.cancels && not (has (is_of name) s.pending)
is_legal s Stopped = not s.stopped

-- what stands after the call
abbrev pub after : State → Entry → State
after s (Offer worker name) =
    record s { pending = s.pending ++ offer_of worker name ∷ []; cancels = s.cancels + 1 }
after s (Claim worker name) =
    record s {
      pending = without (is_for worker) s.pending;
      owed = s.owed ++ offer_of worker name ∷ [];
    }
after s (Halted worker) = record s { halted = slice_set s.halted worker true }
after s (Told worker name kind) =
    record s { owed = without (is_offer (offer_of worker name)) s.owed; told = s.told + 1 }
after s (Drained count) = record s { told = 0 }
after s (Cancelled name true) =
    record s { pending = without (is_of name) s.pending; cancels = s.cancels - 1 }
after s (Cancelled name false) = record s { cancels = s.cancels - 1 }
after s Stopped = record s { stopped = true }

-- what stands after the calls, if each was the next that may come
abbrev pub replay : State → List Entry → Option State
replay s [] = Some s
replay s (e ∷ es) = cond (is_legal s e) (replay (after s e) es) None

-- these are the calls of a board of so many workers, as one thread could have made them
abbrev pub BoardRun : ℕ → List Entry → Type 0
BoardRun workers history = IsSome (replay (opened workers) history)

-- how many things a call took: a task, an offer that was withdrawn, reports
abbrev pub taken_by : Entry → ℕ
taken_by (Offer worker name) = 0
taken_by (Claim worker name) = 1
taken_by (Halted worker) = 0
taken_by (Told worker name kind) = 0
taken_by (Drained count) = count
taken_by (Cancelled name out) = cond out 1 0
taken_by Stopped = 0

-- how many things the calls took
abbrev pub takings_of : List Entry → ℕ
takings_of history = sum_by taken_by history

-- how many calls may still come, but for offers and drains
abbrev pub entries_to_come : State → ℕ
entries_to_come s =
    2 * length s.pending + length s.owed + s.cancels + cond s.stopped 0 1 + count_by not s.halted

-- whether the worker may claim now: there is an offer to it, or the board is stopped and the worker
-- has not been told
abbrev pub may_claim : State → ℕ → Bool
may_claim s worker =
    nat_lt worker (length s.halted)
    && cond s.stopped (not (get_or s.halted worker true)) (has (is_for worker) s.pending)

-- Logs, rows and holdings that are sound, and some that are not.
use Rattle.std.proofs.Common.{◌≡◌, ℕ, pos, List, [], ◌∷◌, ◌++◌, Some, None, false, refl, arith, inl, inr, ⊎_elim}
use Rattle.estate.specs.Holding.{StoredPart, empty_holding, commit_of}
use Rattle.estate.specs.declared.part_name.PartName.{PartName}
use Rattle.event_log.specs.Blocks.{IsBlock}
use Rattle.row_core.specs.declared.value.Value.TheVariants.{Null, Int, Text}
use Rattle.plan_model.specs.Settings.{default_values}
use Rattle.plan_model.specs.declared.node.Node.{Node}
use Rattle.plan_model.specs.declared.op.Op.TheVariants.{Source, Sink}
use Rattle.graph_model.specs.declared.event.Event.{Event}
use Rattle.graph_model.specs.declared.event.Event.TheVariants.{Opened, Started, Done, Ended}
use Rattle.graph_model.specs.States.{State}
use Rattle.event_codec.specs.Spelling.{word, events_bytes, EventsFit}
use Rattle.job_soundness.specs.Decoded.{AreRows, long_in, rows_in, short_in, word_in}
use Rattle.job_soundness.specs.Jobs.{Files, HasCommit, HasNone, Job, the_commit}
use Rattle.job_soundness.specs.Logs.{SaysEvents}
use Rattle.job_soundness.specs.Sound.{AreRight, IsSound}
use Rattle.job_soundness.specs.Starts.{state_of}
use Rattle.job_soundness.specs.Truth.{IsTrueEvent, WasPut}

-- ---- logs

-- a fresh log says nothing
nothing_said : SaysEvents [] []
nothing_said = ([], inl (omega arith, refl), refl)

-- a block of two events, and then a closed gate
abbrev body : List ℕ
body = 1 ∷ 0 ∷ 0 ∷ 0 ∷ 1 ∷ 9 ∷ 0 ∷ []

abbrev block : List ℕ
block = 1 ∷ 0 ∷ 0 ∷ 0 ∷ 0 ∷ 0 ∷ 0 ∷ 0 ∷ 7 ∷ body

spelled : body ≡ events_bytes (Opened 1 ∷ Ended false ∷ [])
unfolding word
spelled = refl

fits : EventsFit (Opened 1 ∷ Ended false ∷ [])
fits = (omega arith, (tt, tt))

is_block : IsBlock body block
is_block = record { gate = 1; head = 0 ∷ 0 ∷ 0 ∷ 0 ∷ 0 ∷ 0 ∷ 0 ∷ 7 ∷ []; is_open = omega arith; size = refl; says = refl; is = refl }

two_said : SaysEvents (block ++ 0 ∷ 5 ∷ []) (Opened 1 ∷ Ended false ∷ [])
two_said = (body ∷ [], inr (block, (block, [], is_block, refl, refl), (5 ∷ [], refl)), (Opened 1 ∷ Ended false ∷ [], [], fits, spelled, refl, refl))

-- behind a closed gate it says nothing
gate_closed : SaysEvents (0 ∷ block) []
gate_closed = ([], inr ([], refl, (block, refl)), refl)

-- ---- rows

-- the row (7, Null, ab)
row_read : rows_in (0 ∷ 3 ∷ 1 ∷ 0 ∷ 0 ∷ 0 ∷ 0 ∷ 0 ∷ 0 ∷ 0 ∷ 7 ∷ 0 ∷ 2 ∷ 0 ∷ 0 ∷ 0 ∷ 2 ∷ 97 ∷ 98 ∷ []) ≡ (Int (pos 7) ∷ Null ∷ Text (97 ∷ 98 ∷ []) ∷ []) ∷ []
unfolding short_in word_in long_in
row_read = refl

-- one byte is no row
no_row : AreRows (1 ∷ []) → ⊥
unfolding short_in word_in long_in
no_row (fit, is) = absurd (cc is)

-- ---- a job of a source and a sink over one file

abbrev nodes : List Node
nodes = record { op = Source (1 ∷ []) []; inputs = []; rebalance = false } ∷ record { op = Sink (2 ∷ []); inputs = 0 ∷ []; rebalance = false } ∷ []

abbrev job : Job
job = record { id = 7 ∷ []; text = 8 ∷ []; given = record { nodes = nodes; settings = default_values; files = (29 ∷ []) ∷ [] } }

abbrev name : PartName
name = record { vertex = 0; subtask = 0; epoch = 1; attempt = 0 }

none_is : {A : Type 0} (x : A) → None ≡ Some x → ⊥
none_is x is = absurd (cc is)

-- an estate that holds nothing is sound
empty_is_sound : (files : Files) → IsSound job files empty_holding
empty_is_sound files = (
  [],
  record {
    log = nothing_said;
    right = record {
      legal = record { begins = inl refl; legal = tt };
      are_true = tt;
      distinct = λ i j d lt less. absurd (omega (arith, less));
      epochs = λ part (k, lt, is). absurd (omega (arith, lt));
      once = inl refl;
      ended = λ is. absurd (cc is);
    };
    held = λ name (k, lt, is). absurd (omega (arith, lt));
  },
)

-- the first event opens the epoch, the second is the job's start
epoch_opened : (state_of job (Opened 3 ∷ Started (8 ∷ []) ((29 ∷ []) ∷ []) ∷ [])).epoch ≡ 3
epoch_opened = refl

-- a part that was never put is not true
not_put : (files : Files) (state : State) (inputs : List PartName) (sizes : List (List ℕ)) → IsTrueEvent job files [] state (Done name inputs sizes) → ⊥
not_put files state inputs sizes done = at done.put
  where
    at : WasPut [] name → ⊥
    at (part, (k, lt, is), named) = absurd (omega (arith, lt))

-- ---- commits

-- a commit of another id is none of the job's
other_id : HasNone job (commit_of (9 ∷ []) (8 ∷ []) [] ∷ [])
other_id = refl

-- one commit stands
one_commit : (files : Files) → HasCommit job files (commit_of (9 ∷ []) [] [] ∷ the_commit job files ∷ [])
one_commit files = refl

-- twice is not once
not_twice : (files : Files) → HasCommit job files (the_commit job files ∷ the_commit job files ∷ []) → ⊥
not_twice files has = absurd (cc has)

-- no commit may stand before the job is complete
not_before : (files : Files) (ever : List StoredPart) → AreRight job files [] ever (the_commit job files ∷ []) → ⊥
not_before files ever right = ⊎_elim (λ none. absurd (cc none)) (λ has. absurd (cc (((has.1).done) 0 (omega arith)))) right.once

-- and a job that ended finished has its commit
not_without : (files : Files) (ever : List StoredPart) (events : List Event) → (state_of job events).ended ≡ Some false → AreRight job files events ever [] → ⊥
not_without files ever events ended right = absurd (cc (right.ended ended))

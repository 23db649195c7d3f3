-- What the blocks of a log come to, as what is shown of it.
use Rattle.std.proofs.Common.{◌≡◌, inl, inr, IsTrue, ℕ, List, [], ◌∷◌, ◌++◌, length, refl, sym, subst}
use Rattle.estate.specs.Changes.{LogRose}
use Rattle.estate.specs.World.{World}
use Rattle.event_codec.specs.Spelling.{EventsFit}
use Rattle.event_log.specs.Answers.{WhyUnread}
use Rattle.event_log.specs.declared.log_error.LogError.{LogError}
use Rattle.event_log.specs.declared.log_error.LogError.TheVariants as unread
use Rattle.graph_model.specs.declared.event.Event.{Event}
use Rattle.job_events.specs.Replays.{AreSpelled, IsBroken}
use Rattle.job_events.specs.declared.replay_error.ReplayError.{ReplayError}
use Rattle.job_events.specs.declared.replay_error.ReplayError.TheVariants as replay
use Rattle.batch_commands.specs.Causes.{EventsCause}
use Rattle.batch_commands.specs.Events.{IsBlockFault, IsUnread}
use Rattle.batch_commands.specs.Refusals.{log_answer, replay_refusal}
use Rattle.batch_commands.specs.declared.log_refusal.LogRefusal.{LogRefusal}
use Rattle.batch_commands.specs.declared.log_refusal.LogRefusal.TheVariants.{Fault, TooLarge, BadLog, NoMemory}
use Rattle.event_log.specs.Blocks.{Reads}
use Rattle.event_log.specs.declared.log.TheConstants.{LOG_LIMIT}
use Rattle.std.specs.Prelude.{◌≤◌}

both_fit : (first rest : List Event) → EventsFit first → EventsFit rest → EventsFit (first ++ rest)
both_fit [] rest fits more = more
both_fit (event ∷ first) rest fits more = (fits.0, both_fit first rest fits.1 more)

-- events that blocks spell fit
pub spelled_fit : (blocks : List (List ℕ)) (events : List Event) → AreSpelled blocks events → EventsFit events
spelled_fit [] events none = subst EventsFit (sym none) tt
spelled_fit (block ∷ blocks) events (first, rest, here, behind, is) = subst EventsFit (sym is) (both_fit first rest here.fit (spelled_fit blocks rest behind))

-- why a log is refused whose blocks are not read
pub unread_cause : (old new : World) (error : LogError) (refusal : LogRefusal) → IsUnread error refusal → (IsTrue old.told → WhyUnread old.holding.log error)
    → (error ≡ unread.Fault → LogRose old new) → EventsCause [] old new (log_answer refusal)
unread_cause old new unread.Fault refusal is why rose = subst (λ (r : LogRefusal). EventsCause [] old new (log_answer r)) (sym is) (rose refl)
unread_cause old new (unread.TooLarge asked) refusal is why rose =
    subst (λ (r : LogRefusal). EventsCause [] old new (log_answer r)) (sym is) (λ told. let long = why told in (refl, long.0, long.1))
unread_cause old new (unread.BadBlock block before) refusal (error, broken, is) why rose =
    subst (λ (r : LogRefusal). EventsCause [] old new (log_answer r)) (sym is) (by error broken)
  where
    by : (error : ReplayError) → IsBroken before error → EventsCause [] old new (log_answer (replay_refusal error))
    by (replay.BadLog at event) broken = λ told. let breaks = why told in record { blocks = before; short = breaks.2; wrong = inr (breaks.0, broken) }
    by replay.NoMemory broken = tt
unread_cause old new unread.NoMemory refusal is why rose = subst (λ (r : LogRefusal). EventsCause [] old new (log_answer r)) (sym is) tt

-- why a log is refused whose blocks are read
pub block_cause : (old new : World) (blocks : List (List ℕ)) (refusal : LogRefusal) → (IsTrue old.told → Reads old.holding.log blocks × (length old.holding.log ≤ LOG_LIMIT))
    → IsBlockFault blocks refusal → EventsCause [] old new (log_answer refusal)
block_cause old new blocks Fault read fault = absurd fault
block_cause old new blocks (TooLarge asked) read fault = absurd fault
block_cause old new blocks (BadLog block event) read fault = λ told. let reads = read told in record { blocks = blocks; short = reads.1; wrong = inl (reads.0, fault) }
block_cause old new blocks NoMemory read fault = tt

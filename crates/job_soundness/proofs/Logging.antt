-- Which events a log says: one list at most, and those of one block more.
use Rattle.std.proofs.Common.{◌≡◌, ℕ, List, [], ◌∷◌, ◌++◌, refl, sym, ◌∙◌, ap, subst, append_assoc, append-nil}
use Rattle.estate.specs.Holding.{Holding}
use Rattle.estate.specs.World.{World}
use Rattle.event_log.specs.Blocks.{Reads, SameBlocks, GainsBlock, LandsBehind}
use Rattle.event_log.proofs.Laws.{log_reads_once}
use Rattle.graph_model.specs.declared.event.Event.{Event}
use Rattle.event_codec.specs.Spelling.{events_bytes, EventsFit}
use Rattle.job_soundness.specs.Logs.{AreSpelled, SaysEvents}

-- the events of one block are spelled in one way
abbrev pub OneSpelling : Type 0
OneSpelling = (a b : List Event) → EventsFit a → EventsFit b → events_bytes a ≡ events_bytes b → a ≡ b

spelled_once : OneSpelling → (bodies : List (List ℕ)) (a b : List Event) → AreSpelled bodies a → AreSpelled bodies b → a ≡ b
spelled_once one [] a b is_a is_b = is_a ∙ sym is_b
spelled_once one (body ∷ bodies) a b (first, rest, fits, spelled, is, more) (other, last, fit, same, are, others) =
    let front : first ≡ other = one first other fits fit (sym spelled ∙ same) in
    let behind : rest ≡ last = spelled_once one bodies rest last more others in
    is ∙ ap (λ (l : List Event). l ++ rest) front ∙ ap (λ (l : List Event). other ++ l) behind ∙ sym are

pub says_once : OneSpelling → (log : List ℕ) (a b : List Event) → SaysEvents log a → SaysEvents log b → a ≡ b
says_once one log a b (bodies, reads, spelled) (others, read, same) =
    let is : others ≡ bodies = log_reads_once log others bodies read reads in
    spelled_once one bodies a b spelled (subst (λ (l : List (List ℕ)). AreSpelled l b) is same)

spelled_push : (bodies : List (List ℕ)) (events more : List Event) (body : List ℕ) → AreSpelled bodies events → EventsFit more → body ≡ events_bytes more → AreSpelled (bodies ++ body ∷ []) (events ++ more)
spelled_push [] events more body none fits spelled = (more, [], fits, spelled, ap (λ (l : List Event). l ++ more) none ∙ sym (append-nil more), refl)
spelled_push (block ∷ bodies) events more body (first, rest, fit, same, is, behind) fits spelled =
    (first, rest ++ more, fit, same, ap (λ (l : List Event). l ++ more) is ∙ append_assoc first rest more, spelled_push bodies rest more body behind fits spelled)

-- a log with the same blocks
pub says_same : (old new : List ℕ) (events : List Event) → SameBlocks old new → SaysEvents old events → SaysEvents new events
says_same old new events same (bodies, reads, spelled) = (bodies, (same bodies).0 reads, spelled)

-- one block more
pub says_more : (body old new : List ℕ) (events more : List Event) → GainsBlock body old new → EventsFit more → body ≡ events_bytes more → SaysEvents old events → SaysEvents new (events ++ more)
says_more body old new events more gains fits spelled (bodies, reads, are) = (bodies ++ body ∷ [], gains bodies reads, spelled_push bodies events more body are fits spelled)

-- each crash now leaves one block more
pub says_landed : (body : List ℕ) (a b : World) (image : Holding) (events more : List Event) → LandsBehind body a b → b.images b.now image → EventsFit more → body ≡ events_bytes more → SaysEvents a.holding.log events → SaysEvents image.log (events ++ more)
says_landed body a b image events more lands here fits spelled (bodies, reads, are) = (bodies ++ body ∷ [], lands bodies reads image here, spelled_push bodies events more body are fits spelled)

-- no block says no event
pub says_nothing : (log : List ℕ) → Reads log [] → SaysEvents log []
says_nothing log reads = ([], reads, refl)

-- What a crash may leave while a log is started.
use Rattle.std.proofs.Common.{◌≡◌, inl, inr, ⊎_elim, ℕ, ◌+◌, ◌<◌, ◌≤◌, List, [], ◌∷◌, length, drop, Option, Some, None, IfSome, Ok, Err, IsTrue, refl, sym, ◌∙◌, ap, subst, arith}
use Rattle.estate.specs.Holding.{Holding}
use Rattle.estate.specs.World.{World, IsWorld, IsDurable}
use Rattle.estate.specs.Changes.{Torn, Holds, Step, Stays, Leads}
use Rattle.estate.proofs.Laws.{leads_after, leads_by, leads_more, now_since, step_by}
use Rattle.event_log.specs.Blocks.{Breaks, SameBlocks}
use Rattle.event_log.specs.Answers.{AnswersParse, WhyUnread, AnswersBytes}
use Rattle.event_log.specs.declared.log.TheConstants.{LOG_LIMIT}
use Rattle.event_log.specs.declared.log_error.LogError.{LogError}
use Rattle.event_log.specs.declared.log_error.LogError.TheVariants.{Fault, TooLarge, BadBlock, NoMemory}
use Rattle.event_log.specs.Started.{ClosesAt, IsRead, StaysFresh}
use Rattle.event_log.proofs.Reading.{fresh_blocks, same_reads}

fresh_same : (old new : List ℕ) → StaysFresh old new → SameBlocks old new
fresh_same old new (inl is) = subst (λ (l : List ℕ). SameBlocks old l) (sym is) (λ bodies. (λ read. read, λ read. read))
fresh_same old new (inr short) = same_reads old new [] (fresh_blocks old short.0) (fresh_blocks new short.1)

-- a fresh log that stays fresh gains no block
pub adds_nothing : (a b : World) → IsWorld a → Leads (Step StaysFresh None None) a b → Leads (Step SameBlocks None None) a b
adds_nothing a b lawful_a writes = leads_by a b lawful_a writes (λ d h from. step_by StaysFresh None None SameBlocks d h (fresh_same d.log h.log))

pub stays_fresh : (a b : World) → Leads Stays a b → Leads (Step StaysFresh None None) a b
stays_fresh a b stays = leads_more StaysFresh None None a b (λ log. inl refl) stays

pub then_fresh : (a b c : World) → IsWorld a → IsWorld b → IsWorld c → Leads Stays a b → Leads (Step StaysFresh None None) b c → Leads (Step StaysFresh None None) a c
then_fresh a b c lawful_a lawful_b lawful_c stays writes = leads_after StaysFresh None None a b c lawful_a lawful_b lawful_c (λ log. inl refl) stays writes

pub synced_stays : (a b : World) → IsWorld b → Leads Stays a b → IsDurable a → IsDurable b
synced_stays a b lawful_b stays synced image here =
    let from = stays.images image (now_since a b lawful_b stays.time image here) in
    let told = subst (λ t. IsTrue t) stays.time.told (lawful_b.tells b.now image here) in
    (from.2).log ∙ synced from.0 from.1 ∙ sym (stays.holding told).log

pub read_started : (world : World) (log : List ℕ) (bodies : List (List ℕ)) (end : ℕ) → log ≡ world.holding.log → IsRead log bodies end → IsDurable world → ClosesAt end world
read_started world log bodies end is read synced = record {
  front = read.front;
  bodies = bodies;
  size = read.size;
  whole = read.whole;
  images = λ image here. ((read.closed).0, synced image here ∙ sym is ∙ (read.closed).1);
}

pub fresh_keeps : (a b : World) → IsWorld a → (IsTrue a.told → length a.holding.log ≤ 1) → IsDurable a → Leads (Step (Torn 0 1) None None) a b → Leads (Step StaysFresh None None) a b
fresh_keeps a b lawful_a fresh synced write =
    leads_by a b lawful_a write (λ d h from step.
    let short : length d.log ≤ 1 = subst (λ (l : List ℕ). length l ≤ 1) (sym (synced d from)) (fresh (lawful_a.tells a.now d from)) in
    step_by (Torn 0 1) None None StaysFresh d h (λ torn. inr (short, omega (arith, short, torn.no_longer))) step)

pub fresh_started : (a b : World) → ((image : Holding) → b.images b.now image → Holds a.holding.log 0 (0 ∷ []) image.log) → ClosesAt 0 b
fresh_started a b written = record {
  front = [];
  bodies = [];
  size = refl;
  whole = refl;
  images = λ image here. (drop (0 + 1) a.holding.log, written image here);
}

-- a refusal of the bytes of a log is one of the log
pub refused_log : (log bytes : List ℕ) (error : LogError) → bytes ≡ log → 1 < length log → length log ≤ LOG_LIMIT → AnswersParse bytes (Err error) → WhyUnread log error
refused_log log bytes Fault is long most parsed = tt
refused_log log bytes (TooLarge asked) is long most parsed = absurd parsed
refused_log log bytes (BadBlock block before) is long most parsed =
    let broken = ⊎_elim (λ short. absurd (omega (arith, ap length is, long, short))) (λ breaks. subst (λ (l : List ℕ). Breaks l before) is breaks) parsed.0 in
    (broken, parsed.1, most)
refused_log log bytes NoMemory is long most parsed = tt

-- nothing was read of a fresh log
pub fresh_of : (log : List ℕ) (found : Option (List ℕ)) → found ≡ None → AnswersBytes log (Ok found) → length log ≤ 1
fresh_of log None is answers = answers
fresh_of log (Some bytes) is answers = absurd (cc)

-- what was read is the log
pub bytes_of : (log : List ℕ) (found : Option (List ℕ)) (bytes : List ℕ) → found ≡ Some bytes → AnswersBytes log (Ok found) → (bytes ≡ log) × (1 < length log) × (length log ≤ LOG_LIMIT)
bytes_of log found bytes is answers = subst (λ (f : Option (List ℕ)). AnswersBytes log (Ok f)) is answers

pub limit_of : (found : Option (List ℕ)) (bytes : List ℕ) → found ≡ Some bytes → IfSome found (λ b. length b ≤ LOG_LIMIT) → length bytes ≤ LOG_LIMIT
limit_of found bytes is limit = subst (λ (f : Option (List ℕ)). IfSome f (λ b. length b ≤ LOG_LIMIT)) is limit

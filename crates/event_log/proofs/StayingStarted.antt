-- A log that was started stays so while other parts of its estate are called.
use Rattle.std.proofs.Common.{ℕ, List, Option, None, IsTrue, ◌∙◌, subst}
use Rattle.estate.specs.Holding.{StoredPart}
use Rattle.estate.specs.declared.commit.Commit.{Commit}
use Rattle.estate.specs.World.{World, IsWorld}
use Rattle.estate.specs.Changes.{Same, Step, Leads}
use Rattle.estate.proofs.Laws.{now_since}
use Rattle.event_log.specs.Blocks.{Reads, SameBlocks, HasBlocks}
use Rattle.event_log.specs.Started.{IsStarted}
use Rattle.event_log.proofs.Reading.{reads_once, closed_reads}

-- after a call that leaves the log, as those of the shelf and of the sink do
pub same_started : (end : ℕ) (part : Option StoredPart) (commit : Option Commit) (a b : World) → IsWorld b → Leads (Step Same part commit) a b → IsStarted end a → IsStarted end b
same_started end part commit a b lawful_b same started told =
    let s = started (subst (λ t. IsTrue t) same.time.told told) in record {
      front = s.front;
      bodies = s.bodies;
      size = s.size;
      whole = s.whole;
      images = λ image here.
          let from = same.images image (now_since a b lawful_b same.time image here) in
          let was = s.images from.0 from.1 in
          (was.0, (from.2).log ∙ was.1);
    }

-- where the blocks were read at the entry and none was added, each image has them
pub started_lands : (end : ℕ) (bodies : List (List ℕ)) (a b : World) → IsWorld b → Leads (Step SameBlocks None None) a b → (IsTrue a.told → Reads a.holding.log bodies) → IsStarted end b → HasBlocks bodies b
started_lands end bodies a b lawful_b leads answer started image here =
    let told_b = lawful_b.tells b.now image here in
    let told = subst (λ t. IsTrue t) leads.time.told told_b in
    let s = started told_b in
    let own = closed_reads s.front s.bodies s.whole b.holding.log (s.images b.holding (lawful_b.own told_b)) in
    let same = reads_once b.holding.log s.bodies bodies own (((leads.holding told).log bodies).0 (answer told)) in
    subst (λ (l : List (List ℕ)). Reads image.log l) same (closed_reads s.front s.bodies s.whole image.log (s.images image here))

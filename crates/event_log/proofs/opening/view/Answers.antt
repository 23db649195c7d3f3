use Rattle.std.proofs.Common.{inl, ℕ, ◌≤◌, List, length, ◌∙◌, subst, arith}
use Rattle.event_log.specs.Blocks.{Reads}
use Rattle.event_log.specs.declared.log.TheConstants.{LOG_LIMIT}
use Rattle.event_log.proofs.Reading.{read_blocks}
use Rattle.event_log.proofs.Starts.{fresh_of, bytes_of, refused_log}
use Rattle.event_log.proofs.opening.view.Goals as goal

pub returns-in-None-clause-answer : goal.returns-in-None-clause-answer
returns-in-None-clause-answer g c told =
    let short = fresh_of _ _ c.in-None.is (c.in_ok-read_log.ensures.bytes told) in
    let most : length (g.E.Estate.world c.args.estate.now).holding.log ≤ LOG_LIMIT = omega (arith, short) in
    (inl (short, c.new.ensures), most)

pub returns-in-Ok-clause-answer : goal.returns-in-Ok-clause-answer
returns-in-Ok-clause-answer g c told =
    let bytes = bytes_of _ _ _ c.in-Some.is (c.in_ok-read_log.ensures.bytes told) in
    (subst (λ (l : List ℕ). Reads l c.in-Ok.blocks) (c.as_slice.ensures ∙ bytes.0) (read_blocks _ _ _ c.in-Ok.ensures), bytes.2)

pub returns-clause-answer : goal.returns-clause-answer
returns-clause-answer g c told =
    let bytes = bytes_of _ _ _ c.in-Some.is (c.in_ok-read_log.ensures.bytes told) in
    refused_log _ _ _ (c.as_slice.ensures ∙ bytes.0) bytes.1 bytes.2 c.in-Err.ensures

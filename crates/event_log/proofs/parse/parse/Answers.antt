use Rattle.std.proofs.Common.{◌≡◌, ◌⊎◌, ◌≤◌, [], inl, inr, ℕ, ◌+◌, ◌-◌, ◌<◌, List, length, take, drop, Err, sym, ◌∙◌, refl, ap, subst, arith, length-take, length-drop}
use Rattle.std.proofs.lemmas.List.{take_all}
use Rattle.event_log.specs.Blocks.{Breaks, length_at}
use Rattle.event_log.specs.Answers.{AnswersParse}
use Rattle.event_log.specs.declared.log_error.LogError.{LogError}
use Rattle.event_log.specs.declared.log_error.LogError.TheVariants.{BadBlock}
use Rattle.event_log.proofs.Reading.{more_read, broken_read, read_closed, size_more}
use Rattle.event_log.proofs.parse.parse.Goals as goal

-- what stands behind a place, as a slice has it
behind : (log : List ℕ) (place : ℕ) → take (length log - place) (drop place log) ≡ drop place log
behind log place = take_all (length log - place) (drop place log) (omega (arith, length-drop place log))

pub returns-then-log-end-eq0 : goal.returns-then-log-end-eq0
returns-then-log-end-eq0 c = read_closed c.args.log.now c.loop-end.end c.loop-end.blocks (omega arith) c.if-log-end-eq0.true c.loop-end.invariant.whole c.loop-end.invariant.takes

pub loop-end-preserved : goal.loop-end-preserved
loop-end-preserved c =
    let log = c.args.log.now in
    let end = c.loop-end.end in
    let after = take (length log - (end + 1)) (drop (end + 1) log) in
    let n = length_at after in
    let read = c.in-Some.ensures in
    let body = c.in_ok-from_slice-in-Some.field-0 in
    let body_is : body ≡ take n (drop 8 after) = c.in_ok-from_slice-in-Some.ensures ∙ read.0 in
    let read_size : length c.in-Some.body.now ≡ n = omega (arith, ap length read.0, length-take n (drop 8 after), length-drop 8 after, read.1) in
    let size : length body ≡ length c.in-Some.body.now = ap length c.in_ok-from_slice-in-Some.ensures in
    let more = size_more c.loop-end.blocks c.push.new.self body (length c.in-Some.body.now) c.in_ok-push-in-Some.ensures.ok size in
    record {
      whole = more_read log after body end (end + (9 + length c.in-Some.body.now)) c.loop-end.blocks c.push.new.self (omega arith) c.if-log-end-eq0.false (behind log (end + 1))
          body_is read.1 c.in_ok-push-in-Some.ensures.ok (omega (arith, read_size)) c.loop-end.invariant.whole;
      within = inl (omega (arith, ap length (behind log (end + 1)), length-drop (end + 1) log, read.1, read_size));
      takes = omega (arith, c.loop-end.invariant.takes, more);
    }

refused : (log : List ℕ) (bodies : List (List ℕ)) (error : LogError) → error ≡ BadBlock (length bodies) bodies → (length log ≤ 1) ⊎ Breaks log bodies → AnswersParse log (Err error)
refused log bodies error is read = subst (λ (e : LogError). AnswersParse log (Err e)) (sym is) (read, refl)

pub returns-in-None : goal.returns-in-None
returns-in-None c =
    let log = c.args.log.now in
    let end = c.loop-end.end in
    refused log c.loop-end.blocks _ c.broken.ensures
    (broken_read log (take (length log - (end + 1)) (drop (end + 1) log)) end c.loop-end.blocks (omega arith) c.if-log-end-eq0.false (behind log (end + 1)) c.in-None.ensures c.loop-end.invariant.whole)

-- the log ends where a gate is looked for, so it is empty
no_log : (log : List ℕ) (end : ℕ) (bodies : List (List ℕ)) → length log ≤ end → (end < length log) ⊎ ((end ≡ 0) × (bodies ≡ [])) → length log ≤ 1
no_log log end bodies le (inl lt) = absurd (omega arith)
no_log log end bodies le (inr none) = omega (arith, le, none.0)

pub returns : goal.returns
returns c = refused c.args.log.now c.loop-end.blocks _ c.broken-2.ensures (inl (no_log c.args.log.now c.loop-end.end c.loop-end.blocks (omega arith) c.loop-end.invariant.within))

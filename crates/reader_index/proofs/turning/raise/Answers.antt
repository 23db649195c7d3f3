use Rattle.std.proofs.Common.{◌≡◌, ◌+◌, ◌-◌, ◌<◌, ℕ, nat_eq, length, get_or, set, ◌∙◌, ap, arith}
use Rattle.std.proofs.lemmas.List.{get_or_default, length-set}
use Rattle.reader_index.specs.Links.{no_read}
use Rattle.reader_index.proofs.Chains.{as_one, count_here, same_yes, set_more}
use Rattle.reader_index.proofs.turning.raise.Goals as goal

pub overflow_add-index_mut : goal.overflow_add-index_mut
overflow_add-index_mut c =
    let reads = c.args.reads.now in
    let earlier = c.args.earlier.now in
    let at = c.loop-at.at in
    let reader = (get_or reads (at - 1) no_read).reader in
    let here = c.loop-at.invariant.2 reader in
    let step = count_here reads earlier at reader c.requires.back c.loop-at-test.true in
    let one : as_one (nat_eq reader reader) ≡ 1 = ap as_one (same_yes reader) in
    let all = c.requires.few reader in
    let low = c.loop-at.invariant.1 in
    let some = c.loop-at-test.true in
    let long = c.loop-at.invariant.0 in
    let inside : reader < length c.args.counts.now.items = c.requires.inside (at - 1) no_read (omega (arith, low, some)) in
    let value : c.index_mut.result.now ≡ get_or c.loop-at.counts.items reader 0 = c.index_mut.ensures.value ∙ get_or_default c.loop-at.counts.items reader c.index_mut.result.now 0 (omega (arith, inside, long)) in
    record { fits = omega (arith, here, step, one, all, value) }

pub loop-at-preserved : goal.loop-at-preserved
loop-at-preserved c =
    let reads = c.args.reads.now in
    let earlier = c.args.earlier.now in
    let counts = c.loop-at.counts.items in
    let at = c.loop-at.at in
    let reader = (get_or reads (at - 1) no_read).reader in
    let long = c.loop-at.invariant.0 in
    let low = c.requires.back (at - 1) in
    let under = c.loop-at.invariant.1 in
    let some = c.loop-at-test.true in
    let inside : reader < length c.args.counts.now.items = c.requires.inside (at - 1) no_read (omega (arith, under, some)) in
    let value : c.index_mut.result.now ≡ get_or counts reader 0 = c.index_mut.ensures.value ∙ get_or_default counts reader c.index_mut.result.now 0 (omega (arith, inside, long)) in (
      length-set counts reader (c.index_mut.result.now + 1) ∙ long,
      omega (arith, low, under),
      λ n.
          let more = set_more counts reader (omega (arith, inside, long)) n in
          let was = c.loop-at.invariant.2 n in
          let next = count_here reads earlier at n c.requires.back some in
          let now : get_or (set counts reader (c.index_mut.result.now + 1)) n 0 ≡ get_or (set counts reader (get_or counts reader 0 + 1)) n 0 = ap (λ (m : ℕ). get_or (set counts reader (m + 1)) n 0) value in
          omega (arith, more, was, next, now),
    )

use Rattle.std.proofs.Common.{◌≡◌, ◌-◌, ◌<◌, ◌≤◌, ◌++◌, [], ◌∷◌, List, ℕ, zero, suc, get_or, sym, ◌∙◌, ap, subst, arith, append_assoc}
use Rattle.std.proofs.lemmas.List.{append-nil}
use Rattle.reader_index.specs.Links.{chain_at, no_read}
use Rattle.reader_index.specs.declared.read.Read.{Read}
use Rattle.reader_index.proofs.Chains.{chain_step}
use Rattle.reader_index.proofs.turning.collect.Goals as goal

-- one read more is taken from the chain
step : (reads : List Read) (earlier readers : List ℕ) (at : ℕ) → ((k : ℕ) → get_or earlier k 0 ≤ k) → 0 < at
    → (readers ++ (get_or reads (at - 1) no_read).reader ∷ []) ++ chain_at reads earlier (get_or earlier (at - 1) 0) ≡ readers ++ chain_at reads earlier at
step reads earlier readers zero back lt = absurd (omega (arith, lt))
step reads earlier readers (suc k) back lt =
    let on : suc k - 1 ≡ k = omega arith in
    subst (λ (m : ℕ). (readers ++ (get_or reads m no_read).reader ∷ []) ++ chain_at reads earlier (get_or earlier m 0) ≡ readers ++ chain_at reads earlier (suc k)) (sym on)
    (append_assoc readers ((get_or reads k no_read).reader ∷ []) (chain_at reads earlier (get_or earlier k 0)) ∙ ap (λ (l : List ℕ). readers ++ l) (sym (chain_step reads earlier k back)))

pub loop-at-preserved : goal.loop-at-preserved
loop-at-preserved c =
    let reads = c.args.reads.now in
    let earlier = c.args.earlier.now in
    let at = c.loop-at.at in
    let under = c.loop-at.invariant.0 in
    let low = c.requires.back (at - 1) in
    let some = c.loop-at-test.true in (
      omega (arith, low, under),
      ap (λ (l : List ℕ). l ++ chain_at reads earlier (get_or earlier (at - 1) 0)) c.in_ok-push.ensures.items
          ∙ step reads earlier c.loop-at.readers.items at c.requires.back some ∙ c.loop-at.invariant.1,
    )

pub returns : goal.returns
returns c =
    let reads = c.args.reads.now in
    let earlier = c.args.earlier.now in
    let readers = c.loop-at.readers.items in
    let none : c.loop-at.at ≡ 0 = let end = c.loop-at-test.false in omega (arith, end) in
    sym (append-nil readers) ∙ ap (λ (n : ℕ). readers ++ chain_at reads earlier n) (sym none) ∙ c.loop-at.invariant.1

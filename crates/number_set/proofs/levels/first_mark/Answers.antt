use Rattle.std.proofs.Common.{◌≡◌, ◌⊎◌, ℕ, suc, ◌+◌, ◌-◌, ◌*◌, ◌<◌, List, Bool, [], false, length, sym, ◌∙◌, ap, subst, arith}
use Rattle.std.proofs.lemmas.List.{get_or_default}
use Rattle.number_set.specs.Levels.{TellsOf, level_at}
use Rattle.number_set.specs.Members.{is_marked}
use Rattle.number_set.proofs.Below.{first_below, none_marked}
use Rattle.number_set.proofs.levels.first_mark.Goals as goal

pub returns-then-not-at-clause-none : goal.returns-then-not-at-clause-none
returns-then-not-at-clause-none c =
    let levels = c.args.levels.now in
    let top : length levels - 1 < length levels = omega (arith, c.requires.some) in
    let level = c.index-levels-level.is ∙ get_or_default levels (length levels - 1) c.index-levels-level.result [] top in
    let none : is_marked (level_at levels (length levels - 1)) 0 ≡ false = ap (λ (l : List Bool). is_marked l 0) (sym level) ∙ sym c.at.ensures ∙ c.if-not-at.true in
    none_marked levels c.requires none (length levels - 1) 0 (omega (arith, c.requires.some))

pub loop-level-preserved : goal.loop-level-preserved
loop-level-preserved c =
    let levels = c.args.levels.now in
    let level = c.loop-level.level in
    let at = c.loop-level.at in
    let next = c.left_or_right-at.result in
    let inside : level < length levels = c.loop-level.invariant.0 in
    let up : suc (level - 1) ≡ level = omega arith in
    let under : level - 1 < length levels = omega arith in
    let tells = subst (λ (k : ℕ). TellsOf (level_at levels (level - 1)) (level_at levels k)) up (c.requires.tell (level - 1) (omega arith)) in
    let is = c.index-levels-level-in-loop-level.is ∙ get_or_default levels (level - 1) c.index-levels-level-in-loop-level.result [] under in (
      under,
      first_below (level_at levels (level - 1)) (level_at levels level) at next tells c.loop-level.invariant.1
          (ap (λ (l : List Bool). is_marked l next) (sym is) ∙ c.left_or_right-at.ensures.is)
          (subst (λ (l : List Bool). (next ≡ 2 * at) ⊎ ((next ≡ 2 * at + 1) × (is_marked l (2 * at) ≡ false))) is c.left_or_right-at.ensures.cases),
    )

use Rattle.std.proofs.Common.{◌≡◌, ℕ, suc, ◌+◌, ◌-◌, ◌*◌, ◌^◌, ◌<◌, ◌≤◌, List, Bool, All, [], length, sym, ◌∙◌, ap, subst, arith}
use Rattle.std.specs.List.{flat_map}
use Rattle.std.proofs.lemmas.List.{get_or_default}
use Rattle.number_set.specs.Levels.{TellsOf, level_at, marked_below}
use Rattle.number_set.proofs.Below.{members_small}
use Rattle.number_set.proofs.Spreading.{members_spread}
use Rattle.number_set.proofs.levels.marked_places.Goals as goal

pub spread-requires : goal.spread-requires
spread-requires c =
    let levels = c.args.levels.now in
    let level = c.loop-level.level in
    let inside : level < length levels = c.loop-level.invariant.0 in
    let up : suc (level - 1) ≡ level = omega arith in
    let tells = subst (λ (k : ℕ). TellsOf (level_at levels (level - 1)) (level_at levels k)) up (c.requires.tell (level - 1) (omega arith)) in
    subst (All (λ place. 2 * place + 1 < 2 ^ 64)) (sym (c.as_slice.ensures.value ∙ c.loop-level.invariant.1))
    (members_small (level_at levels (level - 1)) (level_at levels level) tells (c.requires.few (level - 1)))

pub loop-level-preserved : goal.loop-level-preserved
loop-level-preserved c =
    let levels = c.args.levels.now in
    let level = c.loop-level.level in
    let inside : level < length levels = c.loop-level.invariant.0 in
    let up : suc (level - 1) ≡ level = omega arith in
    let under : level - 1 < length levels = omega arith in
    let below = level_at levels (level - 1) in
    let above = level_at levels level in
    let tells = subst (λ (k : ℕ). TellsOf below (level_at levels k)) up (c.requires.tell (level - 1) (omega arith)) in
    let halves = subst (λ (k : ℕ). length below ≤ 2 * length (level_at levels k)) up (c.requires.halves (level - 1) (omega arith)) in
    let is = c.index-levels-level-in-loop-level.is ∙ get_or_default levels (level - 1) c.index-levels-level-in-loop-level.result [] under in (
      under,
      c.in_ok-found.ensures ∙ ap (λ (l : List Bool). flat_map (marked_below l) c.as_slice.result.now) is
          ∙ ap (flat_map (marked_below below)) (c.as_slice.ensures.value ∙ c.loop-level.invariant.1)
          ∙ members_spread below above tells halves,
    )

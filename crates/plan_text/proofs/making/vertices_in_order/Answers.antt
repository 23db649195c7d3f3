use Rattle.std.proofs.Common.{◌≡◌, ◌+◌, ◌<◌, ◌≤◌, ◌++◌, ℕ, List, [], length, map, All, sym, ◌∙◌, ap, subst, arith}
use Rattle.std.proofs.lemmas.List.{length-map}
use Rattle.plan_model.specs.Checks.{plan_faults}
use Rattle.plan_model.specs.Settings.{default_values}
use Rattle.plan_model.specs.declared.setting_values.SettingValues.{SettingValues}
use Rattle.vertex_builder.specs.Vertices.{makeable_heads, head_of, IsVertex}
use Rattle.plan_text.specs.Making.{heads_made}
use Rattle.plan_text.proofs.Printed.{chain_at, in_order}
use Rattle.plan_text.proofs.Rounds.{AfterRounds, round, settled}
use Rattle.plan_text.proofs.making.vertices_in_order.Goals as goal
use Rattle.plan_text.proofs.making.vertices_in_order.Goals.{else-loop-place-test, then-loop-place-test+then-place-len}

pub loop-place-preserved : goal.loop-place-preserved
loop-place-preserved c =
    let nodes = c.args.plan.now in
    let k = c.loop-place.place in
    let vertices = c.loop-place.vertices.items in
    let heads = map head_of vertices in
    let complete = c.loop-place.complete.items in
    let vertex = c.index.result.now in
    let after = map head_of c.make_more-in-loop-place.new.vertices.items in
    let within : k < length vertices = omega (arith, c.if-place-len.false, c.len.ensures) in
    let good = sym (ap plan_faults c.nodes-count.ensures.same) ∙ c.nodes-count.ensures.faultless in
    let chain = chain_at nodes default_values.max_parallelism vertices k vertex good c.loop-place.invariant.vertices within c.index.ensures in
    let done : c.extend_from_slice.new.self.items ≡ complete ++ vertex.nodes = c.in_ok-extend_from_slice.ensures.items ∙ ap (λ (l : List ℕ). complete ++ l) c.as_slice-in-loop-place.ensures in
    let more : after ≡ heads ++ makeable_heads nodes [] heads (complete ++ vertex.nodes) =
    c.in_ok-make_more-2.ensures.heads ∙ ap (λ (l : List ℕ). heads ++ makeable_heads nodes [] heads l) (c.as_slice-in-loop-place-2.ensures.value ∙ done) in
    record {
      rounds = subst (AfterRounds nodes [] (k + 1) after) (sym done)
          (round nodes [] k heads complete vertex.nodes after c.loop-place.invariant.rounds (omega (arith, within, length-map vertices head_of)) chain more);
      vertices = subst (λ (values : SettingValues). All (IsVertex nodes [] values.max_parallelism) c.make_more-in-loop-place.new.vertices.items) c.defaults-settings.ensures c.in_ok-make_more-2.ensures.vertices;
    }

pub returns : goal.returns
returns c =
    let nodes = c.args.plan.now in
    let k = c.loop-place.place in
    let vertices = c.loop-place.vertices.items in
    let made = c.loop-place.invariant.rounds.made in
    let good = sym (ap plan_faults c.nodes-count.ensures.same) ∙ c.nodes-count.ensures.faultless in
    let count = ap length c.nodes-count.ensures.same in
    in_order nodes vertices good c.loop-place.invariant.vertices
    (elim c.loop-place-test.branch [
      | else-loop-place-test w ↦
          let all : k ≡ length nodes = omega (arith, w.loop-place-test.false, c.loop-place.auto.place-end, count) in
          made ∙ ap (heads_made nodes []) all
      | then-loop-place-test+then-place-len w ↦
          let past : length (heads_made nodes [] k) ≤ k = omega (arith, ap length made, length-map vertices head_of, w.if-place-len.true, w.len.ensures) in
          made ∙ sym (settled nodes [] k (length nodes) (omega (arith, c.loop-place.auto.place-end, count)) past)
    ])

use Rattle.std.proofs.Common.{◌++◌, ◌∷◌, [], ℕ, List, sym, ◌∙◌, ap, arith, append_assoc}
use Rattle.std.proofs.lemmas.List.FromFn.{map-range_with_len_more}
use Rattle.graph_model.specs.declared.sub.Sub.{Sub}
use Rattle.event_graph.specs.Numbers.{own_subs}
use Rattle.event_graph.proofs.numbers.push_subs.Goals as goal

pub loop-subtask-preserved : goal.loop-subtask-preserved
loop-subtask-preserved c =
    let v = c.args.vertex in
    let k = c.loop-subtask.subtask in
    let old = c.args.subs.now.items in
    let at : ℕ → Sub = λ n. record { vertex = v; subtask = n } in
    let long = c.push_reserved.ensures.len in
    let room = c.push_reserved.ensures.capacity in
    let before = c.loop-subtask.invariant.1 in
    let wide = c.loop-subtask.invariant.2 in (
      c.push_reserved.ensures.items ∙ ap (λ (l : List Sub). l ++ at k ∷ []) c.loop-subtask.invariant.0 ∙ append_assoc old (own_subs v k) (at k ∷ [])
          ∙ ap (λ (l : List Sub). old ++ l) (sym (map-range_with_len_more at 0 k k (omega arith))),
      omega (arith, long, before),
      room ∙ wide,
    )

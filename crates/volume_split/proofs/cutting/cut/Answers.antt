use Rattle.std.proofs.Common.{◌+◌, ◌-◌, ◌++◌, ◌∷◌, List, [], ℕ, length, take, drop, sym, ap, ◌∙◌, append_assoc, arith}
use Rattle.volume_split.specs.declared.group.Group.{Group}
use Rattle.volume_split.proofs.Filling.{cut_from, cut_joins, cut_begins, cut_end, cut_whole}
use Rattle.volume_split.proofs.cutting.cut.Goals as goal
use Rattle.volume_split.proofs.cutting.cut.Goals.{in-Some, in-None+in_ok-push-in-None}

pub loop-size-preserved : goal.loop-size-preserved
loop-size-preserved c =
    let rest : List ℕ = take (length c.args.sizes.now - 1) (drop 1 c.args.sizes.now) in
    elim c.match-joined.branch [
      | in-Some w ↦ record {
        all =
            (λ i. (w.groups-is i).items ++ cut_from c.args.limit (w.group-is i).start ((w.group-is i).end + 1) c.match-joined.total (drop (c.loop-size.size-index + 1) rest))
            ∙ ap (λ (gs : List Group). c.loop-size.groups.items ++ gs)
            (sym (cut_joins c.args.limit c.loop-size.total c.match-joined.total c.loop-size.size-index rest c.loop-size.group.start c.loop-size.group.end c.loop-size-test.true (omega (arith, w.total-is, w.in-Some.ensures)) (omega (arith, w.total-is, w.in-Some.ensures))))
            ∙ c.loop-size.invariant.all;
        at = ap (λ (g : Group). g.end + 1) w.group-is ∙ ap (λ n. n + 1) c.loop-size.invariant.at;
      }
      | in-None+in_ok-push-in-None w ↦ record {
        all =
            (λ i. (w.groups-is i).items ++ cut_from c.args.limit (w.group-is i).start ((w.group-is i).end + 1) c.match-joined.total (drop (c.loop-size.size-index + 1) rest))
            ∙ ap (λ (gs : List Group). gs ++ cut_from c.args.limit c.loop-size.group.end (c.loop-size.group.end + 1) c.match-joined.total (drop (c.loop-size.size-index + 1) rest))
            w.in_ok-push-in-None.ensures.items
            ∙ append_assoc c.loop-size.groups.items (c.loop-size.group ∷ []) (cut_from c.args.limit c.loop-size.group.end (c.loop-size.group.end + 1) c.match-joined.total (drop (c.loop-size.size-index + 1) rest))
            ∙ ap (λ (gs : List Group). c.loop-size.groups.items ++ gs)
            (sym (cut_begins c.args.limit c.loop-size.total c.match-joined.total c.loop-size.size-index rest c.loop-size.group.start c.loop-size.group.end c.loop-size-test.true w.total-is (omega (arith, w.total-is, w.in-None.ensures))))
            ∙ c.loop-size.invariant.all;
        at = ap (λ (g : Group). g.end + 1) w.group-is ∙ ap (λ n. n + 1) c.loop-size.invariant.at;
      }
    ]

pub returns : goal.returns
returns c =
    let rest : List ℕ = take (length c.args.sizes.now - 1) (drop 1 c.args.sizes.now) in
    c.in_ok-push.ensures.items
    ∙ ap (λ (gs : List Group). c.loop-size.groups.items ++ gs)
    (sym (cut_end c.args.limit c.loop-size.group.start c.loop-size.group.end c.loop-size.total c.loop-size.size-index rest (omega arith)))
    ∙ c.loop-size.invariant.all
    ∙ sym (cut_whole c.args.limit c.args.sizes.now (omega arith))

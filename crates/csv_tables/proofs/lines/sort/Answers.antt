use Rattle.std.proofs.Common.{Bor, List, ℕ, rules, map}
use Rattle.std.proofs.lemmas.List.Sorted.{answers_always, ranks_by, IsPermutation-map}
use Rattle.std.specs.Cmp.{nat_cmp_total}
use Rattle.std.specs.Cmp.Lexicographic.{lists_total}
use Rattle.plan_model.specs.Sinks.{line_less}
use Rattle.csv_tables.proofs.Slices.{sorted_by_now}
use Rattle.csv_tables.proofs.lines.sort.Goals as goal

pub returns : goal.returns
returns c =
    let order = ranks_by (lists_total nat_cmp_total) (λ (line : Bor (List ℕ)). line.now) in
    let sorted = c.sort_unstable_by.ensures.sorted (λ a b. line_less a.now b.now) order (answers_always _ _ _ (λ f a r f' called. search rules)) in
    c.sorted_texts_ascend.ensures (map (λ line. line.now) c.args.lines.now.items) (map (λ line. line.now) c.sort_unstable_by.new.self.items)
    (IsPermutation-map (λ line. line.now) c.args.lines.now.items c.sort_unstable_by.new.self.items c.sort_unstable_by.ensures.permutation)
    (sorted_by_now line_less c.sort_unstable_by.new.self.items sorted)

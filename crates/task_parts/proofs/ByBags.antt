-- What a task may give goes by the bag of its chain's rows.
use Rattle.std.proofs.Common.{◌≡◌, ℕ, arith, List, [], ◌∷◌, length, refl, sym, ◌∙◌, subst, get_or}
use Rattle.row_core.specs.Bags.{SameBag}
use Rattle.bag_laws.specs.Rows.{OneRow as Row}
use Rattle.bag_laws.proofs.Laws.{same_on, total, total-same}
use Rattle.vertex_builder.specs.Vertices.{text_output}
use Rattle.vertex_builder.specs.declared.vertex_output.VertexOutput.{VertexOutput}
use Rattle.task_parts.specs.Tasks.{GoesBy, TaskMay}

-- a row weighs one
counted : (rows : List Row) → total (λ row. 1) rows ≡ length rows
counted [] = refl
counted (row ∷ rows) = omega (arith, counted rows)

pub same_length : (rows others : List Row) → SameBag rows others → length rows ≡ length others
same_length rows others same = sym (counted rows) ∙ total-same (λ row. 1) rows others same ∙ counted others

pub by_bags : (attempt : ℕ) (outputs : List VertexOutput) (rows others : List Row) (part : ℕ → ℕ → List Row)
    → SameBag rows others → TaskMay attempt outputs rows part → TaskMay attempt outputs others part
by_bags attempt outputs rows others part same may = record {
  each = λ e lt.
      let output = get_or outputs e text_output in
      record {
        sum = same_on (may.each e lt).sum same;
        goes = subst (λ (n : ℕ). GoesBy output.ship attempt output.cells n (part e)) (same_length rows others same) (may.each e lt).goes;
      };
}

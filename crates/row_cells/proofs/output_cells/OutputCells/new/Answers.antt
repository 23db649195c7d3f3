use Rattle.std.proofs.Common.{◌%◌, ℕ, List, [], sym, ap, subst, zero-add}
use Rattle.row_cells.specs.Cutting.{IsCutInto}
use Rattle.row_cells.proofs.Cuts.{none_cut}
use Rattle.row_cells.proofs.output_cells.OutputCells.new.Goals as goal

pub returns-clause-none : goal.returns-clause-none
returns-clause-none c = record {
  cut = subst (λ (bytes : List (List ℕ)). IsCutInto c.args.width c.args.attempt c.args.output.now [] bytes) (sym c.in_ok-cells.ensures)
      (none_cut c.args.width c.args.attempt c.args.output.now c.requires.ships);
  turn = ap (λ (n : ℕ). n % c.args.output.now.cells) (sym (zero-add c.args.attempt));
}

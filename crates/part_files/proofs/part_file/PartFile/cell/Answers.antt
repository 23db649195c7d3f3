use Rattle.std.proofs.Common.{◌≡◌, ℕ, List, map, sym, ap, ◌∙◌}
use Rattle.std.proofs.lemmas.Result.{IfOk-weaker}
use Rattle.part_files.specs.Parts.{part_file}
use Rattle.part_files.specs.Sources.{cells_at}
use Rattle.part_files.proofs.part_file.PartFile.cell.Goals as goal

pub returns : goal.returns
returns g c =
    IfOk-weaker c.cell_bytes.result _ _ (λ found is bytes told.
    let own = c.self.view_is ∙ told in
    let places = c.as_slice.result.now in (
      map (λ e. cells_at bytes e.items) places,
      c.self.invariant bytes own ∙ ap (λ es. part_file (map (λ e. cells_at bytes e.items) es)) (sym c.as_slice.ensures.value),
      is bytes own,
    )) c.cell_bytes.ensures

-- Rows of one key stand in cells of one number.
use Rattle.std.proofs.Common.{◌≡◌, ◌<◌, ◌%◌, ℕ, List, length, sym, ◌∙◌, subst}
use Rattle.std.specs.Prelude.{Contains}
use Rattle.std.proofs.lemmas.List.Elements.{All-contains}
use Rattle.row_core.specs.Hashing.{hash_of_key, key_of}
use Rattle.bag_laws.specs.Rows.{OneRow as Row}
use Rattle.plan_model.specs.declared.ship.Ship.{Ship}
use Rattle.plan_model.specs.declared.ship.Ship.TheVariants.{Hash}
use Rattle.vertex_builder.specs.declared.vertex_output.VertexOutput.{VertexOutput}
use Rattle.task_parts.specs.Tasks.{GoesBy, IsCut, hash_cell}

-- a row of a hashed output stands in the cell of its key's hash
pub cell_is : (attempt : ℕ) (output : VertexOutput) (rows : List Row) (cells : ℕ → List Row) (columns : List ℕ) (c : ℕ) (row : Row)
    → IsCut attempt output rows cells → output.ship ≡ Hash columns → c < output.cells → Contains (cells c) row → hash_cell columns output.cells row ≡ c
cell_is attempt output rows cells columns c row cut hashed lt inside =
    let goes = subst (λ (ship : Ship). GoesBy ship attempt output.cells (length rows) cells) hashed cut.goes in
    All-contains (λ row. hash_cell columns output.cells row ≡ c) (cells c) row (goes c lt) inside

pub share_cells : (attempt other : ℕ) (output another : VertexOutput) (rows others : List Row) (cells more : ℕ → List Row) (columns keys : List ℕ) (c d : ℕ) (a b : Row)
    → IsCut attempt output rows cells → IsCut other another others more → output.ship ≡ Hash columns → another.ship ≡ Hash keys → output.cells ≡ another.cells
    → c < output.cells → d < another.cells → Contains (cells c) a → Contains (more d) b → key_of columns a ≡ key_of keys b → c ≡ d
share_cells attempt other output another rows others cells more columns keys c d a b cut further hashed hashed' count lt lt' inside inside' same =
    sym (cell_is attempt output rows cells columns c a cut hashed lt inside)
    ∙ (λ i. hash_of_key (same i) % count i)
    ∙ cell_is other another others more keys d b further hashed' lt' inside'

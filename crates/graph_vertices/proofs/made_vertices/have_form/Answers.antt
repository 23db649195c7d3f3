use Rattle.std.proofs.Common.{ap, ◌∙◌, arith, List, ℕ, ◌<◌, length, subst, refl}
use Rattle.std.proofs.lemmas.Bool.{false≢true}
use Rattle.vertex_builder.specs.declared.vertex_output.VertexOutput.{VertexOutput}
use Rattle.graph_vertices.proofs.Looking.{same_maps, at_maps}
use Rattle.graph_vertices.proofs.made_vertices.have_form.Goals as goal

pub returns-then-as_slice-outputs : goal.returns-then-as_slice-outputs
returns-then-as_slice-outputs c =
    let sizes = c.args.sizes.now in
    let outputs = c.args.outputs.now in
    let k = c.loop-place.place in
    let lt : k < length sizes = c.loop-place-test.true in
    let less : k < length outputs = subst (λ (n : ℕ). k < n) c.if-sizes-outputs.false lt in (
      λ e. absurd (false≢true e),
      λ same. absurd (c.if-as_slice-outputs.true (ap (λ (l : List ℕ). length l) (c.as_slice.ensures ∙ c.index-sizes-place.is)
          ∙ at_maps (length {A = ℕ}) (λ (o : VertexOutput). o.cells) sizes outputs same k c.index-sizes-place.result c.index-outputs-place.result lt less)),
    )

pub returns : goal.returns
returns c =
    (λ _. same_maps (length {A = ℕ}) (λ (o : VertexOutput). o.cells) c.args.sizes.now c.args.outputs.now c.if-sizes-outputs.false (λ k d e lt. c.loop-place.invariant k d e (omega (arith, lt, c.loop-place-test.false))), λ _. refl)

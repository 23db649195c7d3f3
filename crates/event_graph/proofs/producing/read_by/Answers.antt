use Rattle.std.proofs.Common.{ap, ◌∙◌, sym, arith, ℕ, List, ◌≡◌, ◌+◌, take, length, length-take-le, ◌++◌, [], ◌∷◌}
use Rattle.std.proofs.lemmas.List.{take_more}
use Rattle.vertex_builder.specs.declared.vertex_input.VertexInput.{VertexInput}
use Rattle.rect_cover.specs.declared.rect.Rect.{Rect}
use Rattle.rect_cover.specs.Cells.{rects_of}
use Rattle.event_graph.specs.Numbers.{input_numbers, inputs_numbers}
use Rattle.event_graph.proofs.Touched.{inputs_more}
use Rattle.event_graph.proofs.producing.read_by.Goals as goal

pub loop-place-preserved : goal.loop-place-preserved
loop-place-preserved c =
    let vs = c.args.vertices.now in
    let numbering = c.args.numbers.now in
    let inputs = c.args.inputs.now in
    let reads = c.args.reads.now in
    let n = c.loop-place.place in
    let input : VertexInput = c.index-inputs-place.result in
    let one = input_numbers numbering vs input (rects_of reads n) in
    let all : take (n + 1) inputs ≡ take n inputs ++ input ∷ [] = take_more inputs n input c.loop-place-test.true ∙ ap (λ (i : VertexInput). take n inputs ++ i ∷ []) (sym c.index-inputs-place.is) in
    let long : length (take n inputs) ≡ n = length-take-le n inputs c.loop-place.auto.place-end in
    c.in_ok-push_input.ensures
    ∙ ap (λ (r : List Rect). c.loop-place.list.items ++ input_numbers numbering vs input r) c.rects-rects.ensures
    ∙ ap (λ (l : List ℕ). l ++ one) c.loop-place.invariant
    ∙ sym (ap (λ (l : List VertexInput). inputs_numbers numbering vs l 0 reads) all ∙ inputs_more numbering vs (take n inputs) input 0 n reads (omega (arith, long)))

use Rattle.std.proofs.Common.{◌≡◌, ℕ, ◌-◌, Bool, List, [], false, length, take, drop, get_or, Option, sym, ◌∙◌, ap, arith, length-drop}
use Rattle.std.proofs.lemmas.List.{take_all}
use Rattle.std.specs.List.{filter_map, list_all}
use Rattle.std.specs.Option.{option_map_or}
use Rattle.plan_model.specs.declared.node.Node.{Node}
use Rattle.vertex_builder.specs.declared.edge.Edge.{Edge}
use Rattle.vertex_builder.specs.Chains.{chain_of}
use Rattle.vertex_builder.specs.Vertices.{build_edge}
use Rattle.vertex_builder.proofs.Chains.{one_chain}
use Rattle.vertex_builder.proofs.Following.{is_chain}
use Rattle.vertex_builder.proofs.Ready.{by_builds}
use Rattle.vertex_builder.proofs.builder.is_makeable.Goals as goal

behind_whole : (l : List ℕ) → take (length l - 1) (drop 1 l) ≡ drop 1 l
behind_whole l = take_all (length l - 1) (drop 1 l) (omega (arith, length-drop 1 l))

pub returns : goal.returns
returns c =
    let nodes = c.args.links.now in
    let widened = c.args.widened.now in
    let node = c.args.node in
    let p : ℕ → Bool = λ input. get_or c.args.complete.now input false in
    let chain = c.as_slice-2.ensures ∙ one_chain nodes widened node c.in_ok-chain.chain (chain_of nodes widened node) c.in_ok-chain.ensures.chain (is_chain nodes widened node c.node.ensures.faultless) in
    let builds = c.as_slice-3.ensures.value ∙ c.in_ok-builds.ensures.edges ∙ ap (filter_map (build_edge nodes widened)) (behind_whole c.as_slice-2.result.now) ∙ ap (λ (l : List ℕ). filter_map (build_edge nodes widened) (drop 1 l)) chain in
    let head = sym c.is_head.ensures ∙ c.if-not-is_head.false in
    let unmade = sym c.is_marked.ensures ∙ c.if-is_marked.false in
    let inputs = ap (λ (o : Option Node). option_map_or (λ n. n.inputs) o []) c.node.ensures.at ∙ sym c.as_slice.ensures in
    let complete = ap (list_all p) inputs ∙ sym c.all_marked.ensures ∙ c.if-not-all_marked.false in
    c.all_from_marked.ensures
    ∙ ap (list_all (λ (edge : Edge). p edge.from)) builds
    ∙ by_builds nodes widened node p (get_or c.args.made.now node false) head unmade complete

use Rattle.std.proofs.Common.{◌≡◌, ℕ, true, false, not, Option, Some, None, get_or, refl, sym, ◌∙◌, ap}
use Rattle.std.specs.Option.{is_some}
use Rattle.std.proofs.lemmas.Bool.{false≢true}
use Rattle.std.proofs.lemmas.List.{get_or_default}
use Rattle.graph_vertices.proofs.NodeMakers.{note_none, note_some}
use Rattle.graph_vertices.proofs.makers.note_node.Goals as goal

none_is : (o : Option ℕ) → is_some o ≡ false → o ≡ None
none_is None e = refl
none_is (Some u) e = absurd (false≢true (sym e))

some_is : (o : Option ℕ) → is_some o ≡ true → (u : ℕ) × (o ≡ Some u)
some_is None e = absurd (false≢true e)
some_is (Some u) e = (u, refl)

pub returns-then-is_none-clause-noted : goal.returns-then-is_none-clause-noted
returns-then-is_none-clause-noted c =
    let makers = c.args.makers.now.items in
    let node = c.args.node in
    let at : c.index.result.now ≡ get_or makers node None = c.index.ensures ∙ get_or_default makers node c.index.result.now None c.requires in
    let none = none_is (get_or makers node None) (ap is_some (sym at) ∙ c.is_none.ensures ∙ ap not c.if-is_none.true) in
    λ n. note_none makers node c.args.vertex n c.requires none

pub returns-else-is_none-clause-noted : goal.returns-else-is_none-clause-noted
returns-else-is_none-clause-noted c =
    let makers = c.args.makers.now.items in
    let node = c.args.node in
    let at : c.index.result.now ≡ get_or makers node None = c.index.ensures ∙ get_or_default makers node c.index.result.now None c.requires in
    let some = some_is (get_or makers node None) (ap is_some (sym at) ∙ c.is_none.ensures ∙ ap not c.if-is_none.false) in
    λ n. note_some makers node c.args.vertex some.0 n some.1

-- One lost part more is noted.
use Rattle.std.proofs.Common.{◌≡◌, ℕ, ◌<◌, List, [], ◌∷◌, ◌++◌, length, Some, sym, ◌∙◌, ap, subst, arith, inl, inr}
use Rattle.estate.specs.declared.part_name.PartName.{PartName}
use Rattle.graph_model.specs.declared.made_vertex.MadeVertex.{MadeVertex}
use Rattle.graph_model.specs.declared.sub.Sub.{Sub}
use Rattle.graph_model.specs.States.{sub_of, subtasks_at, winner_name}
use Rattle.region_closure.specs.Closing.{AreGone, OwnParts}
use Rattle.region_closure.specs.Numbers.{ArePlaced, Notes, number_of}
use Rattle.region_closure.proofs.Closing.{finished_decided, named_finished}
use Rattle.region_closure.proofs.Losing.{gone_absent, gone_present}
use Rattle.region_closure.proofs.Placing.{vertex_inside}

abbrev pub no_name : PartName
no_name = record { vertex = 0; subtask = 0; epoch = 0; attempt = 0 }

module _ (vs : List MadeVertex) (places : List ℕ) (subs : List Sub) (placed : ArePlaced vs places subs) (name : PartName) where
  won_inside : winner_name vs (sub_of name) ≡ Some name → name.subtask < length (subtasks_at vs name.vertex)
  won_inside won = finished_decided vs (sub_of name) (named_finished vs (sub_of name) name won)

  pub has_place : winner_name vs (sub_of name) ≡ Some name → name.vertex < length places
  has_place won = let inside = vertex_inside vs (sub_of name) (won_inside won) in let long = placed.len in omega (arith, inside, long)

  pub has_number : winner_name vs (sub_of name) ≡ Some name → number_of places (sub_of name) < length subs
  has_number won = placed.within (sub_of name) (won_inside won)

  pub gone_noted : OwnParts vs → (front : List PartName) (lost new : List ℕ) → AreGone vs front subs lost → Notes vs places name lost new → AreGone vs (front ++ name ∷ []) subs new
  gone_noted own front lost new h notes = by notes
    where
      by : Notes vs places name lost new → AreGone vs (front ++ name ∷ []) subs new
      by (inl (won, is)) =
          subst (λ (l : List ℕ). AreGone vs (front ++ name ∷ []) subs l) (sym is)
          (gone_present vs subs own front name lost (number_of places (sub_of name)) h won (has_number won)
          (placed.is (sub_of name) (won_inside won)) (λ n lt same. sym (placed.number n lt) ∙ ap (number_of places) same))
      by (inr (absent, is)) =
          subst (λ (l : List ℕ). AreGone vs (front ++ name ∷ []) subs l) (sym is) (gone_absent vs subs own front name lost h absent)

-- What holds of the chosen groups.
use Rattle.std.proofs.Common.{◌≡◌, ◌≢◌, ◌⊎◌, inl, inr, ℕ, ◌<◌, ◌≤◌, min, List, [], ◌∷◌, All, length, refl, sym, ◌∙◌, ap, subst, arith}
use Rattle.std.specs.List.{concat}
use Rattle.std.proofs.lemmas.Bool.{cases_lt}
use Rattle.std.proofs.lemmas.List.FromFn.{length-map-range_with_len}
use Rattle.volume_split.specs.declared.group.Group.{Group}
use Rattle.volume_split.specs.Runs.{greedy_runs, largest_run}
use Rattle.volume_split.specs.Groups.{groups_of, runs_of, Parts, even_group, even_groups}
use Rattle.volume_split.specs.Choices.{IsLeastLimit, IsChosen}
use Rattle.volume_split.proofs.Places.{Filled, All-Filled, Parts-greedy, Parts-even_groups, Filled-greedy, Filled-even_groups, runs_of-greedy, length-groups_from}
use Rattle.volume_split.proofs.Smallest.{smallest_largest}

cases_empty : (sizes : List ℕ) → (sizes ≡ []) ⊎ (sizes ≢ [])
cases_empty [] = inl refl
cases_empty (size ∷ sizes) = inr (λ nothing. cc)

module _ (target fewest most : ℕ) (some : 1 ≤ fewest) (ordered : fewest ≤ most) (sizes : List ℕ) (groups : List Group) (chosen : IsChosen target fewest most sizes groups) where
  -- chosen groups are one that is empty, or greedy, or even
  by_kind : (P : List Group → Type 0)
      → (sizes ≡ [] → P (record { start = 0; end = 0 } ∷ []))
      → ((limit : ℕ) → sizes ≢ [] → length (greedy_runs limit sizes) ≤ most → P (groups_of (greedy_runs limit sizes)))
      → ((m : ℕ) → 0 < m → m ≤ length sizes → m ≤ most → P (even_groups (length sizes) m))
      → P groups
  by_kind P none greedy even =
      elim (cases_empty sizes) [
        | inl nothing ↦ subst P (sym (chosen.empty nothing)) (none nothing)
        | inr items ↦
            elim (cases_lt most (length (greedy_runs target sizes))) [
              | inl over ↦ let it = chosen.raised over in subst P (sym it.2) (greedy it.0 items it.1.fits)
              | inr within ↦
                  elim (cases_lt (length (greedy_runs target sizes)) (min fewest (length sizes))) [
                    | inl under ↦ subst P (sym (chosen.spread items within under)) (even (min fewest (length sizes)) (omega arith) (omega arith) (omega arith))
                    | inr enough ↦ subst P (sym (chosen.kept items within enough)) (greedy target items within)
                  ]
            ]
      ]

  pub chosen_parts : Parts 0 (length sizes) groups
  chosen_parts =
      by_kind (λ gs. Parts 0 (length sizes) gs)
      (λ nothing. (refl, omega arith, sym (ap length nothing)))
      (λ limit items few. Parts-greedy limit sizes)
      (λ m some within few. Parts-even_groups (length sizes) m some)

  pub chosen_filled : sizes ≢ [] → All (λ group. group.start < group.end) groups
  chosen_filled items =
      All-Filled groups
      (by_kind Filled
      (λ nothing. absurd (items nothing))
      (λ limit items few. Filled-greedy limit sizes)
      (λ m some within few. Filled-even_groups (length sizes) m some within))

  pub chosen_few : length groups ≤ most
  chosen_few =
      by_kind (λ gs. length gs ≤ most)
      (λ nothing. omega arith)
      (λ limit items few. omega (arith, length-groups_from 0 (greedy_runs limit sizes)))
      (λ m some within few. omega (arith, length-map-range_with_len (even_group (length sizes) m) 0 m))

  pub chosen_enough : length (greedy_runs target sizes) ≤ most → (fewest ≤ length groups) ⊎ (length sizes ≤ length groups)
  chosen_enough within =
      elim (cases_empty sizes) [
        | inl nothing ↦ inr (omega (arith, ap length nothing))
        | inr items ↦
            elim (cases_lt (length (greedy_runs target sizes)) (min fewest (length sizes))) [
              | inl under ↦ at_least
                  (omega (arith, ap length (chosen.spread items within under), length-map-range_with_len (even_group (length sizes) (min fewest (length sizes))) 0 (min fewest (length sizes))))
              | inr enough ↦ at_least (omega (arith, ap length (chosen.kept items within enough), length-groups_from 0 (greedy_runs target sizes)))
            ]
      ]
    where
      at_least : min fewest (length sizes) ≤ length groups → (fewest ≤ length groups) ⊎ (length sizes ≤ length groups)
      at_least le =
          elim (cases_lt (length sizes) fewest) [
            | inl more ↦ inr (omega arith)
            | inr some ↦ inl (omega arith)
          ]

  pub chosen_smallest : most < length (greedy_runs target sizes)
      → (runs : List (List ℕ)) → concat runs ≡ sizes → length runs ≤ most → largest_run (runs_of sizes groups) ≤ largest_run runs
  chosen_smallest over runs is few =
      let it = chosen.raised over in
      subst (λ (gs : List Group). largest_run (runs_of sizes gs) ≤ largest_run runs) (sym it.2)
      (subst (λ (rs : List (List ℕ)). largest_run rs ≤ largest_run runs) (sym (runs_of-greedy it.0 sizes)) (smallest_largest most it.0 sizes it.1 runs is few))

-- there is one choice
pub chosen_once : (target fewest most : ℕ) (sizes : List ℕ) (groups others : List Group)
    → IsChosen target fewest most sizes groups → IsChosen target fewest most sizes others → groups ≡ others
chosen_once target fewest most sizes groups others one two =
    elim (cases_empty sizes) [
      | inl nothing ↦ one.empty nothing ∙ sym (two.empty nothing)
      | inr items ↦
          elim (cases_lt most (length (greedy_runs target sizes))) [
            | inl over ↦ one_limit (one.raised over) (two.raised over)
            | inr within ↦
                elim (cases_lt (length (greedy_runs target sizes)) (min fewest (length sizes))) [
                  | inl under ↦ one.spread items within under ∙ sym (two.spread items within under)
                  | inr enough ↦ one.kept items within enough ∙ sym (two.kept items within enough)
                ]
          ]
    ]
  where
    one_limit : ((limit : ℕ) × IsLeastLimit most sizes limit × (groups ≡ groups_of (greedy_runs limit sizes)))
        → ((limit : ℕ) × IsLeastLimit most sizes limit × (others ≡ groups_of (greedy_runs limit sizes))) → groups ≡ others
    one_limit (limit, least, is) (other, smallest, was) =
        let same : limit ≡ other = omega (arith, least.least other smallest.fits, smallest.least limit least.fits) in
        is ∙ ap (λ l. groups_of (greedy_runs l sizes)) same ∙ sym was

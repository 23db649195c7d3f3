-- The order of names.
use Rattle.std.proofs.Common.{◌≡◌, ◌⊎◌, inl, inr, ⊎_elim, ℕ, ◌<◌, ◌↔◌, IsSome, Contains, List, sym, subst}
use Rattle.std.specs.declared.cmp.Ordering.{Ordering}
use Rattle.std.specs.declared.cmp.Ordering.TheVariants.{Less, Equal, Greater}
use Rattle.std.specs.Ordering.{ordering_then, nat_cmp}
use Rattle.std.specs.Cmp.{nat_cmp_is}
use Rattle.std.specs.BTreeMap.{BTreeMap, keys, IsOrdered, get}
use Rattle.std.proofs.lemmas.Bool.{cases_order}
use Rattle.std.proofs.lemmas.Map.Keys.{Less-from_sorted}
use Rattle.std.proofs.lemmas.Map.Views.{btree_map_contains_key_iff}
use Rattle.estate.specs.declared.part_name.PartName.{PartName}
use Rattle.estate.specs.contracts.part_name.PartNameOrd.TheImpl.Laws.{total-law}
use Rattle.estate.specs.Parts.{IsBefore, IsAscending}
use Rattle.estate.specs.Places.{name_cmp}

less_then : (x y : ℕ) (o : Ordering) → ordering_then (nat_cmp x y) o ≡ Less → (x < y) ⊎ ((x ≡ y) × (o ≡ Less))
less_then x y o is =
    ⊎_elim
    (λ (same : x ≡ y). let e : Equal ≡ nat_cmp x y = nat_cmp_is x y Equal same in inr (same, subst (λ (c : Ordering). ordering_then c o ≡ Less) (sym e) is))
    (λ (apart : (x < y) ⊎ (y < x)). ⊎_elim (λ (lt : x < y). inl lt)
    (λ (gt : y < x).
    let e : Greater ≡ nat_cmp x y = nat_cmp_is x y Greater gt in
    let wrong : Greater ≡ Less = subst (λ (c : Ordering). ordering_then c o ≡ Less) (sym e) is in absurd (cc)) apart)
    (cases_order x y)

equal_then : (x y : ℕ) (o : Ordering) → ordering_then (nat_cmp x y) o ≡ Equal → (x ≡ y) × (o ≡ Equal)
equal_then x y o is =
    ⊎_elim
    (λ (same : x ≡ y). let e : Equal ≡ nat_cmp x y = nat_cmp_is x y Equal same in (same, subst (λ (c : Ordering). ordering_then c o ≡ Equal) (sym e) is))
    (λ (apart : (x < y) ⊎ (y < x)). ⊎_elim
    (λ (lt : x < y).
    let e : Less ≡ nat_cmp x y = nat_cmp_is x y Less lt in
    let wrong : Less ≡ Equal = subst (λ (c : Ordering). ordering_then c o ≡ Equal) (sym e) is in absurd (cc))
    (λ (gt : y < x).
    let e : Greater ≡ nat_cmp x y = nat_cmp_is x y Greater gt in
    let wrong : Greater ≡ Equal = subst (λ (c : Ordering). ordering_then c o ≡ Equal) (sym e) is in absurd (cc)) apart)
    (cases_order x y)

less : (x y : ℕ) → nat_cmp x y ≡ Less → x < y
less x y is =
    ⊎_elim
    (λ (same : x ≡ y). let e : Equal ≡ nat_cmp x y = nat_cmp_is x y Equal same in absurd (cc))
    (λ (apart : (x < y) ⊎ (y < x)). ⊎_elim (λ (lt : x < y). lt)
    (λ (gt : y < x). let e : Greater ≡ nat_cmp x y = nat_cmp_is x y Greater gt in absurd (cc)) apart)
    (cases_order x y)

equal : (x y : ℕ) → nat_cmp x y ≡ Equal → x ≡ y
equal x y is =
    ⊎_elim
    (λ (same : x ≡ y). same)
    (λ (apart : (x < y) ⊎ (y < x)). ⊎_elim
    (λ (lt : x < y). let e : Less ≡ nat_cmp x y = nat_cmp_is x y Less lt in absurd (cc))
    (λ (gt : y < x). let e : Greater ≡ nat_cmp x y = nat_cmp_is x y Greater gt in absurd (cc)) apart)
    (cases_order x y)

pub less_is_before : (a b : PartName) → name_cmp a b ≡ Less → IsBefore a b
less_is_before a b is =
    ⊎_elim (λ lt. inl lt)
    (λ first. ⊎_elim (λ lt. inr (inl (first.0, lt)))
    (λ second. ⊎_elim (λ lt. inr (inr (inl (first.0, second.0, lt))))
    (λ third. inr (inr (inr (first.0, second.0, third.0, less a.attempt b.attempt third.1))))
    (less_then a.epoch b.epoch _ second.1))
    (less_then a.subtask b.subtask _ first.1))
    (less_then a.vertex b.vertex _ is)

pub same_name : (a b : PartName) → name_cmp a b ≡ Equal → a ≡ b
same_name a b is =
    let first = equal_then a.vertex b.vertex _ is in
    let second = equal_then a.subtask b.subtask _ first.1 in
    let third = equal_then a.epoch b.epoch _ second.1 in
    let last = equal a.attempt b.attempt third.1 in
    λ i. record { vertex = first.0 i; subtask = second.0 i; epoch = third.0 i; attempt = last i }

pub keys_ascend : (names : List PartName) (map : BTreeMap PartName ℕ) → names ≡ keys map → IsOrdered name_cmp map → IsAscending names
keys_ascend names map is ordered =
    subst (λ (l : List PartName). IsAscending l) (sym is) (λ i j d below within. less_is_before _ _ (Less-from_sorted name_cmp (keys map) i j d ordered below within))

pub keys_found : (names : List PartName) (map : BTreeMap PartName ℕ) → names ≡ keys map → IsOrdered name_cmp map → (name : PartName) → Contains names name ↔ IsSome (get name_cmp map name)
keys_found names map is ordered name =
    let iff = btree_map_contains_key_iff total-law same_name map name in
    subst (λ (l : List PartName). Contains l name ↔ IsSome (get name_cmp map name)) (sym is) (iff.1, iff.0)

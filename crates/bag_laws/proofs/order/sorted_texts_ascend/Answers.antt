use Rattle.std.specs.Cmp.Lexicographic.{slice_cmp}
use Rattle.std.specs.Ordering.{is_lt, is_eq, nat_cmp}
use Rattle.bag_laws.proofs.Sorted.{sorted_is}
use Rattle.bag_laws.proofs.Orders.{bytes_strict}
use Rattle.bag_laws.proofs.order.sorted_texts_ascend.Goals as goal

pub returns : goal.returns
returns c = λ texts sorted moved up. sorted_is (λ a b. is_lt (slice_cmp nat_cmp a b)) (λ a b. is_eq (slice_cmp nat_cmp a b)) bytes_strict texts sorted moved up

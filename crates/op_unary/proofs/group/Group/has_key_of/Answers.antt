use Rattle.op_unary.proofs.ByHash.{hashes_apart}
use Rattle.op_unary.proofs.group.Group.has_key_of.Goals as goal

pub returns-else-self-other : goal.returns-else-self-other
returns-else-self-other c =
    let ours = c.args.self.now in
    let theirs = c.args.other.now in
    hashes_apart ours.key theirs.key ours.hash theirs.hash ours.hashed theirs.hashed c.if-self-other.false

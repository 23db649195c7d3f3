use Rattle.std.proofs.lemmas.Result.{IfOk-weaker}
use Rattle.skew_splitter.specs.Decisions.{IsDecided, IsJoinCover}
use Rattle.skew_splitter.proofs.Decided.{decided_cover}
use Rattle.skew_splitter.proofs.deciding.decide_join.Goals as goal

pub returns-clause-cover : goal.returns-clause-cover
returns-clause-cover c =
    IfOk-weaker c.share_join.result (IsDecided c.args.kind c.args.side c.args.settings.now c.args.sizes.now) (IsJoinCover c.args.kind c.args.sizes.now)
    (λ subtasks decided. decided_cover c.args.kind c.args.side c.args.settings.now c.args.sizes.now subtasks c.requires.join c.requires.repeated decided)
    c.share_join.ensures

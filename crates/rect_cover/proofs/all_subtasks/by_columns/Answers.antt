use Rattle.rect_cover.proofs.all_subtasks.by_columns.Goals as goal

pub returns-then-all_whole : goal.returns-then-all_whole
returns-then-all_whole c = (
  λ is. record { full = c.all_whole.ensures.0 c.if-all_whole.true; once = c.columns_once.ensures.0 is },
  λ by. c.columns_once.ensures.1 by.once,
)

use Rattle.batch_commands.proofs.Eventful.{spelled_fit}
use Rattle.batch_commands.proofs.events_text.block_lines.Goals as goal

pub event_lines-requires : goal.event_lines-requires
event_lines-requires c = let replay = c.in_ok-log.ensures.ok in spelled_fit c.args.blocks.now c.in_ok-log.log.events replay.spelled

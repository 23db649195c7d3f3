use Rattle.std.proofs.Common.{◌∙◌}
use Rattle.std.specs.Int.{w64, to_be_bytes}
use Rattle.part_files.proofs.Standing.{front_stands}
use Rattle.part_files.proofs.part_header.PartHeader.cell_len.Goals as goal

pub returns-clause-stands : goal.returns-clause-stands
returns-clause-stands g c bytes told =
    front_stands 8 bytes c.args.self.now.at c.pass.new.self.at (to_be_bytes w64 c.len_of.result) (c.len_of.ensures ∙ c.in_ok-fill.ensures bytes told) c.in_ok-pass.ensures.at

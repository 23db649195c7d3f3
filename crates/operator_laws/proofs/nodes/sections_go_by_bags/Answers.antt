use Rattle.operator_laws.proofs.Sections.{lines_same, section_same, texts_same}
use Rattle.operator_laws.proofs.nodes.sections_go_by_bags.Goals as goal

pub returns : goal.returns
returns c = record { lines = lines_same; section = section_same; text = texts_same }

use Rattle.std.proofs.Common.{IsUtf8, sym, subst}
use Rattle.job_json.proofs.NameBytes.{byte_is_utf8}
use Rattle.job_json.proofs.part_writing.write_separator.Goals as goal

pub write_text-requires : goal.write_text-requires
write_text-requires c = subst IsUtf8 (sym c.as_slice.ensures) (byte_is_utf8 c.args.separator c.requires)

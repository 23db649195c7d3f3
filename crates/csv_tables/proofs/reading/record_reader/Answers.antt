use Rattle.std.proofs.Common.{◌∙◌, sym, refl, ap, inr}
use Rattle.csv.specs.Reading.{Reached, strip_bom, builder_trim, builder_config, builder_names_headers, builder_is_flexible}
use Rattle.csv_tables.proofs.reading.record_reader.Goals as goal

pub returns : goal.returns
unfolding Reached
returns c =
    let from = c.from_reader.ensures in
    let headers = c.has_headers.ensures in
    let flexible = c.flexible.ensures in
    let new = c.new.ensures in
    record {
      plain = from.trim ∙ ap builder_trim flexible ∙ ap builder_trim headers ∙ new.trim;
      ready = inr (inr (from.has_headers ∙ ap builder_names_headers flexible ∙ ap builder_names_headers headers, from.headers));
      flexible = from.flexible ∙ ap builder_is_flexible flexible;
      config = from.config ∙ ap builder_config flexible ∙ ap builder_config headers ∙ new.config;
      left = strip_bom c.args.text.now;
      source = from.source;
      reached = (sym from.state, refl);
    }

use Rattle.std.proofs.Common.{append_assoc}
use Rattle.std.proofs.lemmas.Result.{IfOk-equal}
use Rattle.event_text.proofs.lines.put_started.Goals as goal

pub returns : goal.returns
returns c = IfOk-equal c.put_labelled-2.result c.put_labelled-2.new.text _ _ c.put_labelled-2.ensures
    (simp (c.sum_of_all.ensures, c.in_ok-put_labelled.ensures, c.number_in_all.ensures, append_assoc))

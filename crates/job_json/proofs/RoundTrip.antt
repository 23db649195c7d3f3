-- The text of a job reads back as the job.
use Rattle.std.proofs.Common.{◌≡◌, ◌≤◌, List, ℕ, nat_le, length, true, IsUtf8, Some, Ok, refl, ap, arith}
use Rattle.std.proofs.lemmas.Bool.Decides.{nat_tests}
use Rattle.serde_json.specs.Read.{read}
use Rattle.job_json.specs.Spelling.{job_value}
use Rattle.job_json.specs.Texts.{job_in, printed_text, IsWellFormed}
use Rattle.job_json.specs.declared.job.Job.{Job}
use Rattle.job_json.proofs.ParsedTexts.{parsed}
use Rattle.job_json.proofs.SpelledNodes.{job_again}

fits : (n : ℕ) → n ≤ 1048576 → nat_le n 1048576 ≡ true
fits n h = grind (arith, nat_tests)

pub reads_back : (job : Job) (text : List ℕ) → IsWellFormed job → IsUtf8 text → read text ≡ Some (job_value job) → text ≡ printed_text job → job_in text ≡ Ok job
unfolding job_in
reads_back job text h utf8 e is =
    let small : length text ≤ 1048576 = omega (arith, h.printed, ap length is) in
    rw (fits (length text) small, parsed text (job_value job) utf8 e, job_again job h.form, fits (length (printed_text job)) h.printed) refl

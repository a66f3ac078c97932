use Rattle.std.proofs.Common.{◌-◌, ap, ◌∙◌}
use Rattle.tierra_model.specs.Findings.{finding_of}
use Rattle.schedule_drill.proofs.drill.Drill.claim.Goals as goal
use Rattle.schedule_drill.proofs.Hands.{at_claim}

pub invariant_of-self-in_ok-run_job-in-Job-2 : goal.invariant_of-self-in_ok-run_job-in-Job-2
invariant_of-self-in_ok-run_job-in-Job-2 g c =
    at_claim (record { book = c.self.inside.book; hands = c.self.inside.hands.items; answered = c.self.inside.answered }) (c.args.hand - 1)
    c.in_ok-run_job-in-Job.field-0 c.claim.new.self c.self.inside.answered c.self.invariant c.in-Job.ensures.answer.0
    (c.in_ok-run_job-in-Job.ensures ∙ ap finding_of c.in-Job.ensures.answer.1) c.keeps_settings.ensures.same c.keeps_settings.ensures.most
    c.in-Job.ensures.book

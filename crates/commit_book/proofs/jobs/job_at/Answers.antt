use Rattle.std.proofs.Common.{◌≡◌, ◌+◌, sym, ◌∙◌, ap, subst, arith}
use Rattle.std.specs.Arc.{arc_value}
use Rattle.std.specs.Prelude.{option_map, slice_get}
use Rattle.tierra_model.specs.Living.{one_of}
use Rattle.tierra_model.specs.Sound.{IsSound}
use Rattle.tierra_model.specs.World.{World}
use Rattle.quantum_run.specs.Job.{OfSoundWorld}
use Rattle.commit_book.proofs.JobLemmas.{ahead-is_job, job-scene}
use Rattle.commit_book.proofs.jobs.job_at.Goals as goal

pub of-requires-clause-sound : goal.of-requires-clause-sound
of-requires-clause-sound c =
    let w : World = c.args.world.now.world in
    let same : c.version.new.self.world ≡ w = c.in_ok-soup.ensures.world in
    let sound : IsSound w = subst IsSound same c.settings-settings.ensures.sound in
    let number : c.quanta.result + c.from.result + 1 ≡ w.quanta + c.args.k + 1 =
    omega (arith, c.quanta.ensures, c.from.ensures, ap (λ (v : World). v.quanta) same) in
    subst OfSoundWorld (job-scene w c.args.k (c.quanta.result + c.from.result + 1) c.settings-settings.result.now c.in-Some.front.now c.in_ok-soup.soup
    (arc_value c.in_ok-free.free) (arc_value c.in_ok-yard.yard) sound c.requires.place c.requires.few
    (c.settings-settings.ensures.settings ∙ ap (λ (v : World). v.settings) same) number
    (c.in-Some.ensures ∙ ap (λ (v : World). option_map (one_of v.living) (slice_get v.slicer c.args.k)) same)
    c.in_ok-soup.ensures.ok c.in_ok-free.ensures.list c.in_ok-yard.ensures.list)
    (ahead-is_job w c.args.k sound c.requires.place c.requires.few)

pub returns-clause-job : goal.returns-clause-job
returns-clause-job c =
    let w : World = c.args.world.now.world in
    let same : c.version.new.self.world ≡ w = c.in_ok-soup.ensures.world in
    let sound : IsSound w = subst IsSound same c.settings-settings.ensures.sound in
    let number : c.quanta.result + c.from.result + 1 ≡ w.quanta + c.args.k + 1 =
    omega (arith, c.quanta.ensures, c.from.ensures, ap (λ (v : World). v.quanta) same) in
    c.in_ok-job.ensures ∙ sym (job-scene w c.args.k (c.quanta.result + c.from.result + 1) c.settings-settings.result.now c.in-Some.front.now c.in_ok-soup.soup
    (arc_value c.in_ok-free.free) (arc_value c.in_ok-yard.yard) sound c.requires.place c.requires.few
    (c.settings-settings.ensures.settings ∙ ap (λ (v : World). v.settings) same) number
    (c.in-Some.ensures ∙ ap (λ (v : World). option_map (one_of v.living) (slice_get v.slicer c.args.k)) same)
    c.in_ok-soup.ensures.ok c.in_ok-free.ensures.list c.in_ok-yard.ensures.list)

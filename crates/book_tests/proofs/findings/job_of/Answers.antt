use Rattle.std.proofs.Common.{◌≡◌, ℕ, zero, suc, ◌+◌, ◌<◌, List, [], ◌∷◌, sym, ◌∙◌, ap, subst, arith}
use Rattle.std.specs.Arc.{arc_value}
use Rattle.std.specs.Prelude.{None, Option, Some, length, option_map, slice_get}
use Rattle.tierra_model.specs.declared.creatures.Creature.{Creature}
use Rattle.tierra_model.specs.Living.{one_of}
use Rattle.tierra_model.specs.Sound.{IsSound}
use Rattle.tierra_model.specs.World.{World}
use Rattle.quantum_run.specs.Job.{OfSoundWorld}
use Rattle.commit_book.proofs.JobLemmas.{ahead-is_job, job-scene}
use Rattle.book_tests.proofs.findings.job_of.Goals as goal

-- there is a place where something is found
found-below : (f : ℕ → Creature) (xs : List ℕ) (k : ℕ) (c : Creature) → Some c ≡ option_map f (slice_get xs k) → k < length xs
found-below f [] k c e = cc
found-below f (x ∷ xs) zero c e = omega arith
found-below f (x ∷ xs) (suc k) c e = omega (arith, found-below f xs k c e)

pub of-requires-clause-sound : goal.of-requires-clause-sound
of-requires-clause-sound c =
    let w : World = c.args.world.now.world in
    let same : c.version.new.self.world ≡ w = c.in_ok-soup.ensures.world in
    let sound : IsSound w = subst IsSound same c.settings-settings.ensures.sound in
    let record_is : Some c.in-Some.front.now ≡ option_map (one_of w.living) (slice_get w.slicer c.args.k)
    = c.in-Some.ensures ∙ ap (λ (v : World). option_map (one_of v.living) (slice_get v.slicer c.args.k)) same in
    let here : c.args.k < length w.slicer = found-below (one_of w.living) w.slicer c.args.k c.in-Some.front.now record_is in
    let few : w.quanta + c.args.k < 4000000 =
    omega (arith, c.if-saturating_sub-from.false, c.saturating_sub.ensures, c.from.ensures, c.quanta.ensures) in
    let number : c.quanta-2.result + c.from-2.result + 1 ≡ w.quanta + c.args.k + 1 =
    omega (arith, c.quanta-2.ensures, c.from-2.ensures, ap (λ (v : World). v.quanta) same) in
    subst OfSoundWorld (job-scene w c.args.k (c.quanta-2.result + c.from-2.result + 1) c.settings-settings.result.now c.in-Some.front.now c.in_ok-soup.soup
    (arc_value c.in_ok-free.free) (arc_value c.in_ok-yard-2.yard) sound here few
    (c.settings-settings.ensures.settings ∙ ap (λ (v : World). v.settings) same) number record_is
    c.in_ok-soup.ensures.ok (c.in_ok-free.ensures.ok ∙ c.in_ok-free_list.ensures) (c.in_ok-yard-2.ensures.ok ∙ c.in_ok-yard.ensures))
    (ahead-is_job w c.args.k sound here few)

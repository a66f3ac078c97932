-- No more creatures live than the soup has cells: each has a block of its own.
use Rattle.std.proofs.Common.{◌≡◌, ℕ, ◌+◌, ◌<◌, ◌≤◌, ◌^◌, List, [], ◌∷◌, ap, arith, length, subst, sym}
use Rattle.std.specs.Prelude.{All, map, replicate}
use Rattle.std.proofs.lemmas.List.{length-map, length-replicate}
use Rattle.std.proofs.lemmas.List.Elements.{All-cons, All-head, All-nil, All-tail}
use Rattle.tierra_model.specs.declared.creatures.Block.{Block}
use Rattle.tierra_model.specs.declared.creatures.Creature.{Creature}
use Rattle.tierra_model.specs.declared.setups.Inoculum.{Inoculum}
use Rattle.tierra_model.specs.Blocks.{is_in}
use Rattle.tierra_model.specs.Counting.{one_if, sum_of}
use Rattle.tierra_model.specs.Setups.{block_of}
use Rattle.tierra_model.specs.Sound.{IsPlaced, IsSound, owners}
use Rattle.tierra_model.specs.World.{World}
use Rattle.tierra_model.specs.Yard.{yard}
use Rattle.tierra_model.proofs.DisturbanceCounts.{length-reaper}
use Rattle.tierra_model.proofs.SumOfSizes.{Lies, sizes_fit}
use Rattle.tierra_model.specs.Scene.{Scene, scene_of}
use Rattle.quantum_run.specs.Job.{OfSoundWorld}

filled : (n : ℕ) → length (replicate {A = ℕ} n 0) ≡ n
filled n = length-replicate {A = ℕ} n 0

-- a code that fills the creature's block
abbrev filler : Creature → Inoculum
filler c = record { at = c.own.at; code = replicate c.own.size 0 }

filler-block : (c : Creature) → block_of (filler c) ≡ c.own
filler-block c = (λ i. record { at = c.own.at; size = filled c.own.size i })

filler-apart : (p : ℕ) (cs : List Creature) → sum_of (λ c. one_if (is_in (block_of c) p)) (map filler cs) ≤ owners cs p
filler-apart p [] = omega arith
filler-apart p (c ∷ cs) =
    let same : one_if (is_in (block_of (filler c)) p) ≡ one_if (is_in c.own p) = ap (λ (b : Block). one_if (is_in b p)) (filler-block c) in
    omega (arith, same, filler-apart p cs)

filler-lies : (n : ℕ) (cs : List Creature) → All (IsPlaced n) cs → All (Lies n) (map filler cs)
filler-lies n [] h = All-nil (Lies n)
filler-lies n (c ∷ cs) h =
    let own = (All-head (IsPlaced n) c cs h).own in
    All-cons (Lies n) (filler c) (map filler cs)
    (let lies : c.own.at + length (replicate {A = ℕ} c.own.size 0) ≤ n = omega (arith, own.2, filled c.own.size) in lies)
    (filler-lies n cs (All-tail (IsPlaced n) c cs h))

filler-some : (n : ℕ) (cs : List Creature) → All (IsPlaced n) cs → length cs ≤ sum_of (λ c. length c.code) (map filler cs)
filler-some n [] h = omega arith
filler-some n (c ∷ cs) h =
    let own = (All-head (IsPlaced n) c cs h).own in
    omega (arith, own.0, filled c.own.size, filler-some n cs (All-tail (IsPlaced n) c cs h))

pub living_few : (w : World) → IsSound w → length w.living ≤ w.settings.soup_size
living_few w s =
    let n : ℕ = w.settings.soup_size in
    let fit = sizes_fit n (map filler w.living) (λ p. (let a = filler-apart p w.living in let b = s.apart p in omega arith))
    (filler-lies n w.living s.placed) in
    omega (arith, fit, filler-some n w.living s.placed)

pub yard_few : (w : World) → IsSound w → length (yard w) < 2 ^ 30
yard_few w s =
    let long : length (yard w) ≡ length w.reaper = length-map w.reaper _ in
    omega (arith, long, length-reaper w s, living_few w s, w.settings.soup.1)

-- the yard of a sound world's scene
pub job_few : (scene : Scene) → OfSoundWorld scene → length scene.yard < 2 ^ 30
unfolding scene_of
job_few scene o = subst (λ (t : Scene). length t.yard < 2 ^ 30) (sym o.is) (yard_few o.world o.sound)

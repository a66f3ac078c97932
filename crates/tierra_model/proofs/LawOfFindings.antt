-- Where a finding stands and agrees with a sound world, its replay is the quantum.
use Rattle.std.proofs.Common.{◌≡◌, ℕ, ◌+◌, ◌-◌, Bool, true, false, List, [], ◌∷◌, refl, sym, ◌∙◌, ap, subst, arith, length, replicate}
use Rattle.std.specs.Prelude.{Some, None, Option, slice_set}
use Rattle.std.proofs.lemmas.List.{length-set, length-replicate}
use Rattle.tierra_model.specs.declared.parameters.Settings.{Settings}
use Rattle.tierra_model.specs.declared.creatures.Creature.{Creature}
use Rattle.tierra_model.specs.Quantum.{run, quantum, slice_of}
use Rattle.tierra_model.specs.World.{World, front, put}
use Rattle.tierra_model.specs.Sound.{IsSound}
use Rattle.tierra_model.specs.Events.{turn_end}
use Rattle.tierra_model.specs.FreeList.{free_list}
use Rattle.tierra_model.specs.Yard.{yard}
use Rattle.tierra_model.specs.Scene.{Scene}
use Rattle.tierra_model.specs.Reads.{Reads, some_if}
use Rattle.tierra_model.specs.SceneRun.{SceneRun, scene_machine, run_in_scene, run_start, reads_of}
use Rattle.tierra_model.specs.Log.{log_machine, empty_log}
use Rattle.tierra_model.specs.Replay.{CanAllHappen, after_events, replay}
use Rattle.tierra_model.specs.Findings.{Finding, Stands, Agrees, CellsAgree, SameIfSome, FindingReplays, scene_of_finding, seen_soup}
use Rattle.tierra_model.proofs.Shares.{Shares, shares-fits}
use Rattle.tierra_model.proofs.Sound.{quantum-sound}
use Rattle.tierra_model.proofs.LogIsWorld.{run-now}
use Rattle.tierra_model.proofs.Follows.{Follows}
use Rattle.tierra_model.proofs.FollowsStart.{follows-start}
use Rattle.tierra_model.proofs.Agreement.{RunAgrees, follows-run}

pub length-seen_soup : (cs : List (ℕ × ℕ)) (l : List ℕ) → length (seen_soup cs l) ≡ length l
length-seen_soup [] l = refl
length-seen_soup (c ∷ cs) l = length-seen_soup cs (slice_set l c.0 c.1) ∙ length-set l c.0 c.1

-- ---- what was noted

same_if : {A : Type 0} (b : Bool) (a c : A) (o : Option A) → some_if b a ≡ o → SameIfSome o c → b ≡ true → a ≡ c
same_if true a c None e h t = cc
same_if true a c (Some d) e h t = (let k : a ≡ d = cc in k ∙ h)
same_if false a c o e h t = cc

run_agreed : (f : Finding) (w : World) (x : SceneRun) → reads_of x ≡ f.reads → Agrees f.reads f.before w → RunAgrees w x
run_agreed f w x e a = (
  subst (λ (r : Reads). CellsAgree r.cells w) (sym e) a.cells,
  same_if x.free_noted x.start.free (free_list w) f.reads.free (ap (λ (r : Reads). r.free) e) a.free,
  same_if x.yard_noted x.start.yard (yard w) f.reads.yard (ap (λ (r : Reads). r.yard) e) a.yard,
)

-- ---- the law

-- the run in a scene, with the settings, the number and the record of the world
abbrev run_in : World → Scene → SceneRun
run_in w s = run scene_machine w.settings (w.quanta + 1) (slice_of (front w).own.size w.settings) (run_start s)

run_in-same : (f : Finding) (w : World) → w.settings ≡ f.settings → w.quanta + 1 ≡ f.quantum → front w ≡ f.before
    → run_in_scene (scene_of_finding f) ≡ run_in w (scene_of_finding f)
unfolding run_in_scene
run_in-same f w e q c =
    let n : f.quantum - 1 + 1 ≡ w.quanta + 1 = omega arith in
    ap (λ (k : ℕ). run scene_machine f.settings k (slice_of f.before.own.size f.settings) (run_start (scene_of_finding f))) n
    ∙ ap (λ (s : Settings). run scene_machine s (w.quanta + 1) (slice_of f.before.own.size s) (run_start (scene_of_finding f))) (sym e)
    ∙ ap (λ (d : Creature). run scene_machine w.settings (w.quanta + 1) (slice_of d.own.size w.settings) (run_start (scene_of_finding f))) (sym c)

pub law : (f : Finding) (w : World) → IsSound w → Stands f → w.settings ≡ f.settings → w.quanta + 1 ≡ f.quantum
    → Agrees f.reads f.before w → FindingReplays f w
unfolding quantum replay
law f w s st e q a =
    let scene : Scene = scene_of_finding f in
    let x : SceneRun = run_in w scene in
    let c : run_in_scene (scene_of_finding f) ≡ x = run_in-same f w e q a.front in
    let events : x.events ≡ f.events = ap (λ (y : SceneRun). y.events) (sym c) ∙ st.events in
    let after : x.now.front ≡ f.after = ap (λ (y : SceneRun). y.now.front) (sym c) ∙ st.after in
    let reads : reads_of x ≡ f.reads = ap (λ (y : SceneRun). reads_of y) (sym c) ∙ st.reads in
    let k : ℕ = slice_of (front w).own.size w.settings in
    let g : Follows w scene x (run log_machine w.settings (w.quanta + 1) k (empty_log w)) =
    follows-run w scene (w.quanta + 1) k (run_start scene) (empty_log w)
    (follows-start scene w s e a.front (length-seen_soup f.reads.cells (replicate f.settings.soup_size 0) ∙ length-replicate f.settings.soup_size 0))
    (run_agreed f w x reads a) in
    let same : replay f.events f.after w ≡ quantum w =
    sym (ap (λ (u : World). turn_end u) (sym (run-now w.settings (w.quanta + 1) k (empty_log w)) ∙ g.same ∙ ap (put x.now.front) g.mirrors.after_events)
    ∙ (λ i. turn_end (put (after i) (after_events w (events i))))) in
    record {
      quantum = same;
      fit = record {
        each = subst (CanAllHappen w) events g.mirrors.can;
        sound = subst IsSound (sym same) (quantum-sound w s (omega (arith, q, st.at_most_limit)));
        record_fits = shares-fits (front (after_events w f.events)) f.after
            (subst (λ es. Shares (front (after_events w es)) f.after) events
            (subst (λ u. Shares (front u) f.after) g.mirrors.after_events (subst (Shares (front g.before)) after g.mirrors.fits)));
      };
    }

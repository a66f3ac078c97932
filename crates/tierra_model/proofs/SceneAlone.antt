-- What a quantum reads and does are those of its scene.
use Rattle.std.proofs.Common.{◌≡◌, ℕ, ◌+◌, Bool, true, false, cond, List, [], ◌∷◌, ◌++◌, refl, sym, ap}
use Rattle.std.specs.Prelude.{slice_index}
use Rattle.tierra_model.specs.declared.parameters.Settings.{Settings}
use Rattle.tierra_model.specs.Quantum.{run, quantum, slice_of}
use Rattle.tierra_model.specs.World.{World, front}
use Rattle.tierra_model.specs.Sound.{IsSound}
use Rattle.tierra_model.specs.Events.{turn_end}
use Rattle.tierra_model.specs.FreeList.{free_list}
use Rattle.tierra_model.specs.Yard.{yard}
use Rattle.tierra_model.specs.Scene.{Scene, scene_of}
use Rattle.tierra_model.specs.Reads.{Reads, some_if}
use Rattle.tierra_model.specs.SceneRun.{SceneRun, scene_machine, run_in_scene, run_start}
use Rattle.tierra_model.specs.Log.{log_machine, empty_log, log_of, SceneAlone}
use Rattle.tierra_model.specs.Findings.{CellsAgree}
use Rattle.tierra_model.specs.SceneRun.{is_known, with_noted_cell}
use Rattle.tierra_model.proofs.Operations.{EachOperation, each-run}
use Rattle.tierra_model.proofs.LogIsWorld.{run-now}
use Rattle.tierra_model.proofs.Follows.{Follows, follows-front}
use Rattle.tierra_model.proofs.FollowsStart.{follows-start}
use Rattle.tierra_model.proofs.Agreement.{follows-run}

-- ---- what a quantum notes in the scene of a world is the world's

pub record InScene (w : World) (x : SceneRun) : Type 0 where
  pub start : x.start ≡ scene_of w
  pub cells : CellsAgree x.cells w

CellsAgree-push : (w : World) (xs : List (ℕ × ℕ)) (p v : ℕ) → slice_index w.soup p ≡ v → CellsAgree xs w → CellsAgree (xs ++ (p, v) ∷ []) w
CellsAgree-push w [] p v e h = (e, tt)
CellsAgree-push w (c ∷ cs) p v e h = (h.0, CellsAgree-push w cs p v e h.1)

in_scene : (w : World) → EachOperation scene_machine (λ x y. InScene w x → InScene w y)
unfolding with_noted_cell scene_of
in_scene w =
    record {
      none = λ x o. o;
      next = λ x y z f g o. g (f o);
      put = λ c x o. record { start = o.start; cells = o.cells };
      look = λ p x o. record {
        start = o.start;
        cells = go (is_known x p) x.cells p (slice_index x.start.soup p) (ap (λ (t : Scene). slice_index t.soup p) (sym o.start)) o.cells;
      };
      ask_free = λ x o. record { start = o.start; cells = o.cells };
      ask_reaper = λ x o. record { start = o.start; cells = o.cells };
      apply = λ e x o. record { start = o.start; cells = o.cells };
    }
  where
    go : (b : Bool) (cells : List (ℕ × ℕ)) (p v : ℕ) → slice_index w.soup p ≡ v → CellsAgree cells w → CellsAgree (cond b cells (cells ++ (p, v) ∷ [])) w
    go true cells p v e h = h
    go false cells p v e h = CellsAgree-push w cells p v e h

pub run-in_scene : (w : World) (s : Settings) (q k : ℕ) → InScene w (run scene_machine s q k (run_start (scene_of w)))
run-in_scene w s q k = each-run scene_machine s (λ x y. InScene w x → InScene w y) (in_scene w) q k (run_start (scene_of w))
    (record { start = refl; cells = tt })

-- ---- the law

-- the log of a sound world's quantum, and the run in its scene
pub follows-own : (w : World) → IsSound w
    → Follows w (scene_of w) (run scene_machine w.settings (w.quanta + 1) (slice_of (front w).own.size w.settings) (run_start (scene_of w)))
    (run log_machine w.settings (w.quanta + 1) (slice_of (front w).own.size w.settings) (empty_log w))
unfolding scene_of
follows-own w s =
    let k : ℕ = slice_of (front w).own.size w.settings in
    let q : ℕ = w.quanta + 1 in
    let own = run-in_scene w w.settings q k in
    follows-run w (scene_of w) q k (run_start (scene_of w)) (empty_log w) (follows-start (scene_of w) w s refl refl s.cells)
    (own.cells, (λ _. ap (λ (t : Scene). t.free) own.start), (λ _. ap (λ (t : Scene). t.yard) own.start))

some_if-same : {A : Type 0} (b c : Bool) (x y : A) → b ≡ c → x ≡ y → some_if b x ≡ some_if c y
some_if-same b c x y e h = (λ i. some_if (e i) (h i))

pub scene_alone : SceneAlone
unfolding quantum run_in_scene scene_of log_of
scene_alone w s =
    let k : ℕ = slice_of (front w).own.size w.settings in
    let q : ℕ = w.quanta + 1 in
    let x : SceneRun = run scene_machine w.settings q k (run_start (scene_of w)) in
    let g : Follows w (scene_of w) x (run log_machine w.settings q k (empty_log w)) = follows-own w s in
    let n = g.notes in
    record {
      quantum = ap (λ (u : World). turn_end u) (run-now w.settings q k (empty_log w));
      reads = (λ i. let r : Reads = record {
        cells = n.cells i;
        free = some_if-same _ _ (free_list w) x.start.free n.free_noted (sym (ap (λ (t : Scene). t.free) g.began)) i;
        yard = some_if-same _ _ (yard w) x.start.yard n.yard_noted (sym (ap (λ (t : Scene). t.yard) g.began)) i;
      } in r);
      events = n.events;
      front = follows-front w (scene_of w) x (run log_machine w.settings q k (empty_log w)) g;
    }

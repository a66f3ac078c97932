-- A run in a scene follows the log of a world to the end, if what the run noted is the world's, or what the log noted is
-- the scene's.
use Rattle.std.proofs.Common.{◌≡◌, ℕ, Bool, true, false, cond, List, [], ◌∷◌, ◌++◌, refl, sym, ◌∙◌, ap, subst}
use Rattle.std.specs.Prelude.{◌||◌, slice_index}
use Rattle.std.specs.List.{list_any}
use Rattle.tierra_model.specs.World.{World}
use Rattle.tierra_model.specs.FreeList.{free_list}
use Rattle.tierra_model.specs.Yard.{yard}
use Rattle.tierra_model.specs.Scene.{Scene}
use Rattle.tierra_model.specs.Reads.{is_noted, writes}
use Rattle.tierra_model.specs.SceneRun.{SceneRun, scene_machine, with_noted_cell, is_known}
use Rattle.tierra_model.specs.Log.{Log, log_machine}
use Rattle.tierra_model.specs.Findings.{CellsAgree}
use Rattle.tierra_model.proofs.EventEffects.{front-in_scene}
use Rattle.tierra_model.proofs.SceneCells.{WasSame}
use Rattle.tierra_model.proofs.Operations.{EachOperation}
use Rattle.tierra_model.proofs.Simulation.{Back, Simulates, same-run}
use Rattle.tierra_model.proofs.Follows.{Follows, follows-front, follows-look, follows-below, follows-put, follows-ask_reaper, follows-ask_free}
use Rattle.tierra_model.proofs.FollowsLists.{SameFree, SameYard, follows-owned, follows-victim, follows-others, follows-number, follows-done}
use Rattle.tierra_model.specs.Quantum.{run}

-- What the run noted, by A, or what the log noted, by B, makes what they read the same in the scene and in the world.
record Agree (w : World) (start : Scene) (A : SceneRun → Type 0) (B : Log → Type 0) : Type 0 where
  first : EachOperation scene_machine (Back A)
  second : EachOperation log_machine (Back B)
  cell : (p : ℕ) (x : SceneRun) (l : Log) → Follows w start x l → A (with_noted_cell x p) → B (log_machine.look l p) → WasSame x w.soup p
  free : (x : SceneRun) (l : Log) → Follows w start x l → A (scene_machine.ask_free x) → B (log_machine.ask_free l) → SameFree w start
  yard : (x : SceneRun) (l : Log) → Follows w start x l → A (scene_machine.ask_reaper x) → B (log_machine.ask_reaper l) → SameYard w start

simulates : (w : World) (start : Scene) (A : SceneRun → Type 0) (B : Log → Type 0) → Agree w start A B
    → Simulates scene_machine log_machine w.settings (Follows w start) A B (SameFree w start) (SameYard w start)
unfolding with_noted_cell
simulates w start A B g =
    record {
      first = g.first;
      second = g.second;
      front_put = λ c x. refl;
      front_look = λ p x. refl;
      front_ask_free = λ x. refl;
      front_ask_reaper = λ x. refl;
      front_apply = λ e x. front-in_scene x.newborns x.now e;
      front = λ x l f. follows-front w start x l f;
      put = λ c x l f k. follows-put w start c x l f k;
      below = λ p x l f. follows-below w start p x l f;
      look = λ p x l f a b. follows-look w start p x l f (g.cell p x l f a b);
      ask_free = λ x l f. follows-ask_free w start x l f;
      free = g.free;
      owned = λ x l f h. follows-owned w start x l f h;
      ask_reaper = λ x l f. follows-ask_reaper w start x l f;
      yard = g.yard;
      victim = λ x l f h. follows-victim w start w.settings x l f h;
      others = λ x l f h. follows-others w start x l f h;
      number = λ x l f h. follows-number w start x l f h;
      apply = λ e x l f d. follows-done w start e x l f d;
    }

CellsAgree-left : (w : World) (xs ys : List (ℕ × ℕ)) → CellsAgree (xs ++ ys) w → CellsAgree xs w
CellsAgree-left w [] ys h = tt
CellsAgree-left w (x ∷ xs) ys h = (h.0, CellsAgree-left w xs ys h.1)

CellsAgree-right : (w : World) (xs ys : List (ℕ × ℕ)) → CellsAgree (xs ++ ys) w → CellsAgree ys w
CellsAgree-right w [] ys h = h
CellsAgree-right w (x ∷ xs) ys h = CellsAgree-right w xs ys h.1

CellsAgree-if : (w : World) (b : Bool) (xs ys : List (ℕ × ℕ)) → CellsAgree (cond b xs (xs ++ ys)) w → CellsAgree xs w
CellsAgree-if w true xs ys h = h
CellsAgree-if w false xs ys h = CellsAgree-left w xs ys h

-- ---- what the run noted

abbrev pub RunAgrees : World → SceneRun → Type 0
RunAgrees w x =
    CellsAgree x.cells w
    × (x.free_noted ≡ true → x.start.free ≡ free_list w)
    × (x.yard_noted ≡ true → x.start.yard ≡ yard w)

run_agrees : (w : World) (start : Scene) → Agree w start (RunAgrees w) (λ l. Unit {0})
unfolding with_noted_cell
run_agrees w start =
    record {
      first = record {
        none = λ x a. a;
        next = λ x y z f g a. f (g a);
        put = λ c x a. a;
        look = λ p x a. (CellsAgree-if w (is_known x p) x.cells ((p, slice_index x.start.soup p) ∷ []) a.0, a.1, a.2);
        ask_free = λ x a. (a.0, (λ _. a.1 refl), a.2);
        ask_reaper = λ x a. (a.0, a.1, (λ _. a.2 refl));
        apply = λ e x a. a;
      };
      second = record {
        none = λ l b. b;
        next = λ l m n f g b. b;
        put = λ c l b. b;
        look = λ p l b. b;
        ask_free = λ l b. b;
        ask_reaper = λ l b. b;
        apply = λ e l b. b;
      };
      cell = λ p x l f a b k. sym (CellsAgree-right w x.cells ((p, slice_index x.start.soup p) ∷ [])
          (subst (λ c. CellsAgree (cond c x.cells (x.cells ++ (p, slice_index x.start.soup p) ∷ [])) w) k a.0)).0;
      free = λ x l f a b. ap (λ (t : Scene). t.free) (sym f.began) ∙ a.1 refl;
      yard = λ x l f a b. ap (λ (t : Scene). t.yard) (sym f.began) ∙ a.2 refl;
    }

-- what the run noted is the world's
pub follows-run : (w : World) (start : Scene) (q k : ℕ) (x : SceneRun) (l : Log) → Follows w start x l
    → RunAgrees w (run scene_machine w.settings q k x) → Follows w start (run scene_machine w.settings q k x) (run log_machine w.settings q k l)
follows-run w start q k x l f a =
    same-run scene_machine log_machine w.settings (Follows w start) (RunAgrees w) (λ l. Unit {0}) (SameFree w start) (SameYard w start)
    (simulates w start (RunAgrees w) (λ l. Unit {0}) (run_agrees w start)) q k x l f a tt

-- ---- what the log noted

abbrev with_soup : World → List ℕ → World
with_soup w soup = record w { soup = soup }

abbrev pub LogAgrees : World → Scene → Log → Type 0
LogAgrees w start l =
    CellsAgree l.cells (record w { soup = start.soup })
    × (l.free_noted ≡ true → start.free ≡ free_list w)
    × (l.yard_noted ≡ true → start.yard ≡ yard w)

log_agrees : (w : World) (start : Scene) → Agree w start (λ x. Unit {0}) (LogAgrees w start)
unfolding with_noted_cell
log_agrees w start =
    let u : World = with_soup w start.soup in
    record {
      first = record {
        none = λ x a. a;
        next = λ x y z f g a. a;
        put = λ c x a. a;
        look = λ p x a. a;
        ask_free = λ x a. a;
        ask_reaper = λ x a. a;
        apply = λ e x a. a;
      };
      second = record {
        none = λ l b. b;
        next = λ l m n f g b. f (g b);
        put = λ c l b. b;
        look = λ p l b. (CellsAgree-if u (is_noted l.cells p || list_any (writes p) l.events) l.cells ((p, slice_index l.start.soup p) ∷ []) b.0, b.1, b.2);
        ask_free = λ l b. (b.0, (λ _. b.1 refl), b.2);
        ask_reaper = λ l b. (b.0, b.1, (λ _. b.2 refl));
        apply = λ e l b. b;
      };
      cell = λ p x l f a b k.
          (let same : (is_noted l.cells p || list_any (writes p) l.events) ≡ is_known x p = λ i.
          is_noted (f.notes.cells i) p || list_any (writes p) (f.notes.events i) in
          ap (λ (t : Scene). slice_index t.soup p) f.began
          ∙ (CellsAgree-right u l.cells ((p, slice_index l.start.soup p) ∷ [])
          (subst (λ c. CellsAgree (cond c l.cells (l.cells ++ (p, slice_index l.start.soup p) ∷ [])) u) (same ∙ k) b.0)).0
          ∙ ap (λ (v : World). slice_index v.soup p) f.notes.start);
      free = λ x l f a b. b.1 refl;
      yard = λ x l f a b. b.2 refl;
    }

-- what the log noted is the scene's
pub follows-log : (w : World) (start : Scene) (q k : ℕ) (x : SceneRun) (l : Log) → Follows w start x l
    → LogAgrees w start (run log_machine w.settings q k l) → Follows w start (run scene_machine w.settings q k x) (run log_machine w.settings q k l)
follows-log w start q k x l f b =
    same-run scene_machine log_machine w.settings (Follows w start) (λ x. Unit {0}) (LogAgrees w start) (SameFree w start) (SameYard w start)
    (simulates w start (λ x. Unit {0}) (LogAgrees w start) (log_agrees w start)) q k x l f tt b

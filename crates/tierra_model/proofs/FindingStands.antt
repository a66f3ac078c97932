-- What the quantum of a sound world finds in its scene stands: a scene that holds only what was read runs alike.
use Rattle.std.proofs.Common.{◌≡◌, ℕ, zero, suc, ◌+◌, ◌-◌, Bool, true, false, List, [], ◌∷◌, refl, sym, ◌∙◌, ap, subst, arith, inl, inr, length, replicate}
use Rattle.std.specs.Prelude.{unwrap_or, slice_index, slice_set}
use Rattle.std.proofs.lemmas.List.{get_or-set_other, length-set, length-replicate}
use Rattle.std.proofs.lemmas.Bool.Decides.{eqb_tells}
use Rattle.tierra_model.specs.Quantum.{run, slice_of}
use Rattle.tierra_model.specs.World.{World, front}
use Rattle.tierra_model.specs.Scene.{Scene, scene_of}
use Rattle.tierra_model.specs.Reads.{Reads, some_if}
use Rattle.tierra_model.specs.SceneRun.{SceneRun, scene_machine, run_in_scene, run_start, reads_of}
use Rattle.tierra_model.specs.Log.{Log, log_machine, empty_log}
use Rattle.tierra_model.specs.Findings.{CellsAgree, Finding, FindingStands, finding_of, scene_of_finding, seen_soup}
use Rattle.tierra_model.proofs.Follows.{Follows, follows-front}
use Rattle.tierra_model.proofs.FollowsStart.{follows-start}
use Rattle.tierra_model.proofs.Agreement.{LogAgrees, follows-log}
use Rattle.tierra_model.proofs.LawOfFindings.{length-seen_soup}
use Rattle.tierra_model.proofs.SceneAlone.{follows-own, run-in_scene}

-- ---- the cells that were read

set-to : (soup other : List ℕ) (p v : ℕ) → length soup ≡ length other → slice_index other p ≡ v → slice_index (slice_set soup p v) p ≡ slice_index other p
set-to [] [] p v n e = refl
set-to [] (y ∷ ys) p v n e = absurd (omega arith)
set-to (x ∷ xs) [] p v n e = absurd (omega arith)
set-to (x ∷ xs) (y ∷ ys) zero v n e = sym e
set-to (x ∷ xs) (y ∷ ys) (suc p) v n e = set-to xs ys p v (omega arith) e

-- where the soup holds what the world holds, it holds that also after cells of the world are put in
seen_soup-same : (cs : List (ℕ × ℕ)) (soup : List ℕ) (w : World) (p : ℕ) → CellsAgree cs w → length soup ≡ length w.soup
    → slice_index soup p ≡ slice_index w.soup p → slice_index (seen_soup cs soup) p ≡ slice_index w.soup p
seen_soup-same [] soup w p h n e = e
seen_soup-same (c ∷ cs) soup w p h n e =
    seen_soup-same cs (slice_set soup c.0 c.1) w p h.1 (length-set soup c.0 c.1 ∙ n)
    (elim (eqb_tells c.0 p) [
      | inl a ↦ subst (λ q. slice_index (slice_set soup c.0 c.1) q ≡ slice_index w.soup q) a.1 (set-to soup w.soup c.0 c.1 n h.0)
      | inr a ↦ get_or-set_other soup c.0 p c.1 0 (λ b. a.1 (sym b)) ∙ e
    ])

seen_soup-agrees : (cs : List (ℕ × ℕ)) (soup : List ℕ) (w : World) → CellsAgree cs w → length soup ≡ length w.soup
    → CellsAgree cs (record w { soup = seen_soup cs soup })
seen_soup-agrees [] soup w h n = tt
seen_soup-agrees (c ∷ cs) soup w h n =
    let after : List ℕ = slice_set soup c.0 c.1 in
    let long = length-set soup c.0 c.1 ∙ n in
    (seen_soup-same cs after w c.0 h.1 long (set-to soup w.soup c.0 c.1 n h.0) ∙ h.0, seen_soup-agrees cs after w h.1 long)

-- ---- the lists that were read

noted-is : {A : Type 0} (b : Bool) (a d : A) → b ≡ true → unwrap_or (some_if b a) d ≡ a
noted-is true a d h = refl
noted-is false a d h = cc

some_if-noted : {A : Type 0} (b : Bool) (a d : A) → some_if b (unwrap_or (some_if b a) d) ≡ some_if b a
some_if-noted true a d = refl
some_if-noted false a d = refl

noted-same : {A : Type 0} (b c : Bool) (x a d : A) → b ≡ c → x ≡ unwrap_or (some_if c a) d → some_if b x ≡ some_if c a
noted-same b c x a d e h = (λ i. some_if (e i) (h i)) ∙ some_if-noted c a d

-- ---- the law

pub finding_stands : FindingStands
unfolding scene_of run_in_scene
finding_stands w s few =
    let k : ℕ = slice_of (front w).own.size w.settings in
    let q : ℕ = w.quanta + 1 in
    let l : Log = run log_machine w.settings q k (empty_log w) in
    let x : SceneRun = run scene_machine w.settings q k (run_start (scene_of w)) in
    let g : Follows w (scene_of w) x l = follows-own w s in
    let own = run-in_scene w w.settings q k in
    let f : Finding = finding_of (scene_of w) in
    let t : Scene = scene_of_finding f in
    let zeros : List ℕ = replicate w.settings.soup_size 0 in
    let long : length zeros ≡ length w.soup = length-replicate w.settings.soup_size 0 ∙ sym s.cells in
    let agrees : LogAgrees w t l = (
      subst (λ cs. CellsAgree cs (record w { soup = t.soup })) (sym g.notes.cells) (seen_soup-agrees x.cells zeros w own.cells long),
      (λ e. noted-is x.free_noted x.start.free [] (sym g.notes.free_noted ∙ e) ∙ ap (λ (c : Scene). c.free) own.start),
      (λ e. noted-is x.yard_noted x.start.yard [] (sym g.notes.yard_noted ∙ e) ∙ ap (λ (c : Scene). c.yard) own.start),
    ) in
    let y : SceneRun = run scene_machine w.settings q k (run_start t) in
    let h : Follows w t y l = follows-log w t q k (run_start t) (empty_log w)
    (follows-start t w s refl refl (length-seen_soup x.cells zeros ∙ length-replicate w.settings.soup_size 0)) agrees in
    let same : run_in_scene t ≡ y = (let n : w.quanta + 1 - 1 + 1 ≡ q = omega arith in ap (λ (j : ℕ). run scene_machine w.settings j k (run_start t)) n) in
    let reads : reads_of y ≡ reads_of x = (λ i. let r : Reads = record {
      cells = (sym h.notes.cells ∙ g.notes.cells) i;
      free = noted-same y.free_noted x.free_noted y.start.free x.start.free [] (sym h.notes.free_noted ∙ g.notes.free_noted)
          (ap (λ (c : Scene). c.free) h.began) i;
      yard = noted-same y.yard_noted x.yard_noted y.start.yard x.start.yard [] (sym h.notes.yard_noted ∙ g.notes.yard_noted)
          (ap (λ (c : Scene). c.yard) h.began) i;
    } in r) in
    record {
      reads = ap reads_of same ∙ reads;
      events = ap (λ (r : SceneRun). r.events) same ∙ sym h.notes.events ∙ g.notes.events;
      after = ap (λ (r : SceneRun). r.now.front) same ∙ sym (follows-front w t y l h) ∙ follows-front w (scene_of w) x l g;
      at_least_one = omega arith;
      at_most_limit = omega arith;
    }

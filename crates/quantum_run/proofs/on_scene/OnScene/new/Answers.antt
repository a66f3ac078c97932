use Rattle.std.proofs.Common.{◌≡◌, ◌+◌, ◌-◌, ◌*◌, ◌≤◌, [], List, ℕ, false, length, refl, sym, ◌∙◌, ap, subst, arith, replicate}
use Rattle.tierra_model.specs.declared.creatures.Block.{Block}
use Rattle.tierra_model.specs.declared.parameters.Settings.{Settings}
use Rattle.tierra_model.specs.Scene.{Scene}
use Rattle.block_alloc.specs.Runs.{AreRuns}
use Rattle.block_alloc.specs.Blocks.{BlocksFields}
use Rattle.quantum_run.specs.OnScene.{SceneFields, SceneReady}
use Rattle.quantum_run.specs.Seen.{fresh_cells}
use Rattle.quantum_run.proofs.Happening.{fields_from, run_from}
use Rattle.quantum_run.proofs.Starting.{free_few, free_runs, soup_sized, starts}
use Rattle.quantum_run.proofs.on_scene.OnScene.new.Goals as goal

pub begin-requires-2 : goal.begin-requires-2
begin-requires-2 c =
    let scene : Scene = c.args.job.now in
    let same = ap (λ (t : Settings). t.soup_size) c.settings.ensures.settings in
    record {
      runs = subst (λ (k : ℕ). AreRuns 0 k c.free.result.now) (sym same)
          (subst (λ (l : List Block). AreRuns 0 scene.settings.soup_size l) (sym c.free.ensures) (free_runs scene c.settings.ensures.sound));
      few = omega (
        arith,
        ap length c.free.ensures,
        free_few scene c.settings.ensures.sound,
        scene.settings.soup,
        ap length c.standings.ensures.yard,
        c.standings.ensures.few,
        c.requires.few,
      );
    }

pub begin-requires-3 : goal.begin-requires-3
begin-requires-3 c =
    let size : length c.cells.result.now ≡ c.args.job.now.settings.soup_size =
    ap length c.cells.ensures.cells ∙ soup_sized c.args.job.now c.settings.ensures.sound in
    record {
      size = c.requires.size ∙ sym size;
      fresh = c.requires.fresh;
      room = omega (arith, size, ap (λ (t : Settings). t.soup_size) c.settings.ensures.settings, c.in_ok-lists.ensures.cells);
      none = c.in_ok-lists.ensures.reads;
    }

pub returns-clause-run : goal.returns-clause-run
returns-clause-run c =
    let scene : Scene = c.args.job.now in
    let front = c.front-front.ensures in
    let cells : c.begin-3.result ≡ fresh_cells scene.soup scene.front.own scene.front.daughter =
    c.begin-3.ensures ∙ (λ j. fresh_cells (c.cells.ensures.cells j) (front j).own (front j).daughter) in
    let free = c.in_ok-free.ensures.free ∙ c.free.ensures in
    let yard = c.in_ok-yard.ensures.items ∙ c.standings-2.ensures.yard in
    (λ j. run_from scene (front j) (cells j).now (free j) (yard j) (cells j).reads.cells false false (c.in_ok-lists.ensures.none j) 0)

pub returns-clause-ready : goal.returns-clause-ready
returns-clause-ready c =
    let scene : Scene = c.args.job.now in
    let front = c.front-front.ensures in
    let cells : c.begin-3.result ≡ fresh_cells scene.soup scene.front.own scene.front.daughter =
    c.begin-3.ensures ∙ (λ j. fresh_cells (c.cells.ensures.cells j) (front j).own (front j).daughter) in
    let free = c.in_ok-free.ensures.free ∙ c.free.ensures in
    let yard = c.in_ok-yard.ensures.items ∙ c.standings-2.ensures.yard in
    let size : c.in_ok-free.free.size ≡ scene.settings.soup_size =
    c.in_ok-free.ensures.size ∙ ap (λ (t : Settings). t.soup_size) c.settings.ensures.settings in
    let living : length c.standings.result.now ≡ length scene.yard = ap length c.standings.ensures.yard in
    let few = c.standings.ensures.few in
    let slice = c.requires.few in
    let er : ℕ = c.in_ok-lists.lists.events.cap - c.in_ok-lists.lists.events.len in
    let yr : ℕ = c.in_ok-yard.yard.room in
    let br : ℕ = c.in_ok-free.free.spare in
    let m : ℕ = 4 * c.args.slice + 1 in
    let events : length scene.yard + m ≤ er = omega (arith, living, few, slice, c.in_ok-lists.ensures.len, c.in_ok-lists.ensures.events) in
    let standings : m ≤ yr = omega (arith, slice, c.in_ok-yard.ensures.room) in
    let blocks : 2 * length scene.yard + m ≤ br = omega (arith, living, few, slice, c.in_ok-free.ensures.room) in
    let end : fields_from scene scene.front (fresh_cells scene.soup scene.front.own scene.front.daughter) (let z : BlocksFields =
    record { size = c.in_ok-free.free.size; free = scene.free; spare = br } in z) scene.yard false false [] 0 er yr
    ≡ fields_from scene c.front-front.result.now c.begin-3.result c.in_ok-free.free c.in_ok-yard.yard.items false false c.in_ok-lists.lists.events.items 0 er
    yr =
    (λ j. fields_from scene (sym front j) (sym cells j) (let z : BlocksFields = record { size = c.in_ok-free.free.size; free = sym free j; spare = br } in
    z) (sym yard j) false false (sym c.in_ok-lists.ensures.none j) 0 er yr) in
    subst (λ (v : SceneFields). SceneReady v m) end
    (starts scene c.settings.ensures.sound (replicate (length scene.soup) false) c.in_ok-free.free.size er yr br m size refl (omega (arith, slice)) few events
    standings blocks)

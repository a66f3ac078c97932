-- A world within a quantum: its population, codes, genotypes and savings are in bounds that each event raises a little.
use Rattle.std.proofs.Common.{◌≡◌, ℕ, ◌+◌, ◌-◌, ◌*◌, ◌<◌, ◌≤◌, true, false, List, [], ◌∷◌, ◌++◌, sym, ◌∙◌, subst, arith, length, drop}
use Rattle.std.specs.Prelude.{Some, None, Option, IfSome, IsSome, All, slice_index, slice_range, slice_set}
use Rattle.std.proofs.lemmas.List.{length-take, length-drop}
use Rattle.std.proofs.lemmas.List.Elements.{All-set, All-take, All-drop}
use Rattle.tierra_model.specs.declared.parameters.Settings.{Settings}
use Rattle.tierra_model.specs.declared.creatures.Block.{Block}
use Rattle.tierra_model.specs.declared.creatures.Creature.{Creature}
use Rattle.tierra_model.specs.declared.creatures.Effort.{Effort}
use Rattle.tierra_model.specs.declared.events.Event.{Event}
use Rattle.tierra_model.specs.declared.events.Event.TheVariants as event
use Rattle.tierra_model.specs.Counting.{one_if}
use Rattle.tierra_model.specs.Ranges.{IsBlock, IsCode}
use Rattle.tierra_model.specs.Blocks.{is_in, is_in_daughter}
use Rattle.tierra_model.specs.Living.{newborn}
use Rattle.tierra_model.specs.World.{World, Genotype, front, put, first_of}
use Rattle.tierra_model.specs.Sound.{owners_of}
use Rattle.tierra_model.specs.Individuals.{savings_after, with_individual, genotypes_at_birth}
use Rattle.tierra_model.specs.Events.{apply_event, record_after, with_birth}
use Rattle.tierra_model.specs.Replay.{CanHappen}
use Rattle.tierra_model.proofs.Shares.{Shares}
use Rattle.tierra_model.proofs.Commutes.{HasFront, front-id, has_front-put}
use Rattle.tierra_model.proofs.Each.{Each, each-map, each-append, each-with, each-without, each-one}
use Rattle.tierra_model.proofs.Population.{Population, population-event, population-put, front-in_bounds, errors_of}
use Rattle.tierra_model.specs.SceneRun.{births_of}
use Rattle.tierra_model.proofs.EachOnce.{EachOnce, owners-put}
use Rattle.tierra_model.proofs.Owners.{ids_of-with}
use Rattle.tierra_model.proofs.Genotypes.{Listed, Counts, with_individual-listed, totals-weaker}
use Rattle.tierra_model.proofs.Savings.{Saves, saves-with_individual}
use Rattle.tierra_model.proofs.Efforts.{length-with_effort_of, with_effort_of-listed, with_effort_of-saves}
use Rattle.tierra_model.proofs.Steps.{InSoup}

-- ---- codes

abbrev pub IsCell : ℕ → Type 0
IsCell v = v < 32

-- the code of a block of the soup
pub code_of_block : (n : ℕ) (soup : List ℕ) (b : Block) → IsBlock n b → length soup ≡ n → All IsCell soup
    → IsCode (slice_range soup b.at (b.at + b.size)) × (length (slice_range soup b.at (b.at + b.size)) ≡ b.size)
code_of_block n soup b k e a =
    let code : List ℕ = slice_range soup b.at (b.at + b.size) in
    let size : length code ≡ b.size = omega (arith, k.2, length-take (b.at + b.size - b.at) (drop b.at soup), length-drop b.at soup) in
    ((omega (arith, k.0), omega (arith, k.1), All-take IsCell (b.at + b.size - b.at) (drop b.at soup) (All-drop IsCell b.at soup a)), size)

-- ---- what holds while a quantum runs

abbrev pub GenotypeBelow : ℕ → Creature → Type 0
GenotypeBelow n c = c.genotype < n

-- Errors are at most e, copies at most m, birth numbers and totals at most b, and what quantum q saved comes to z at the most.
pub record WithinQuantum (s : Settings) (e m b z q : ℕ) (w : World) : Type 0 where
  pub population : Population s.soup_size e m b w
  pub settings : w.settings ≡ s
  pub number : w.quanta + 1 ≡ q
  pub codes : All IsCell w.soup
  pub genotype : Each (GenotypeBelow (length w.genotypes)) w.living
  pub genotype_count : length w.genotypes < w.next_birth
  pub listed : Listed b w.genotypes
  pub saves : Saves q z s.save_at w.genotypes w.saved

pub listed-weaker : (t u : ℕ) (gs : List Genotype) → t ≤ u → Listed t gs → Listed u gs
listed-weaker t u gs h l = record { once = l.once; written = l.written; parents = l.parents; totals = totals-weaker t u gs h l.totals; efforts = l.efforts }

pub saves-weaker : (q z y a : ℕ) (gs : List Genotype) (saved : List _) → z ≤ y → Saves q z a gs saved → Saves q y a gs saved
saves-weaker q z y a gs saved h s =
    record { once = s.once; known = s.known; rising = s.rising; past = s.past; efforts = s.efforts; sizes = s.sizes; size = omega (arith, s.size) }

front-genotype_below : (s : Settings) (e m b z q : ℕ) (w : World) → WithinQuantum s e m b z q w → (front w).genotype < length w.genotypes
front-genotype_below s e m b z q w d = each-one (GenotypeBelow (length w.genotypes)) w.living (first_of w.slicer) d.population.has_front.here d.genotype

-- ---- one event

-- what an event may add
pub record Adds (v : Event) (e b z e' b' z' : ℕ) : Type 0 where
  pub errors : e + errors_of v ≤ e'
  pub next_birth : b + births_of v ≤ b'
  pub size : z + 20100 * births_of v ≤ z'

-- the daughter block becomes a creature
within-divide : (s : Settings) (e m b z q e' b' z' ran moved : ℕ) (w : World) (o : Option Block) → WithinQuantum s e m b z q w → IfSome o (IsBlock s.soup_size)
    → IsSome o
    → 1 ≤ ran → b + 1 ≤ b' → z + 20100 ≤ z'
    → Population s.soup_size e' m b' (put (record_after (event.Divide ran moved) (front w))
    (with_birth (genotypes_at_birth (front w) ran moved w.genotypes) o (front w).genotype w))
    → WithinQuantum s e' m b' z' q (put (record_after (event.Divide ran moved) (front w))
    (with_birth (genotypes_at_birth (front w) ran moved w.genotypes) o (front w).genotype w))
within-divide s e m b z q e' b' z' ran moved w None d k h r1 b1 z1 c = (let f : false ≡ true = h in cc)
within-divide s e m b z q e' b' z' ran moved w (Some x) d k h r1 b1 z1 c =
    let mother : Creature = front w in
    let effort : Effort = record { ran = ran; moved = moved } in
    let code : List ℕ = slice_range w.soup x.at (x.at + x.size) in
    let is = code_of_block s.soup_size w.soup x k d.population.cells d.codes in
    let known : List Genotype = genotypes_at_birth mother ran moved w.genotypes in
    let long : length known ≡ length w.genotypes = length-with_effort_of mother.genotype (mother.bred + 1) effort w.genotypes in
    let listed = with_effort_of-listed b mother.genotype (mother.bred + 1) effort w.genotypes r1 d.listed in
    let gs : List Genotype = (with_individual known code (Some mother.genotype) (w.quanta + 1)).0 in
    let j : ℕ = (with_individual known code (Some mother.genotype) (w.quanta + 1)).1 in
    let mine = front-genotype_below s e m b z q w d in
    let r : Listed (b + 1) gs × Counts code known gs j = with_individual-listed b known code (Some mother.genotype) (w.quanta + 1) is.0 (rw long mine) listed in
    let longer : (y : Creature) → GenotypeBelow (length w.genotypes) y → GenotypeBelow (length gs) y = λ y p. omega (arith, r.1.longer, long) in
    let put_after : Creature = record_after (event.Divide ran moved) mother in
    let nb : Creature = newborn w.next_birth x j in
    let size = is.1 in
    let few = k.1 in
    let saves = saves-with_individual q z s.save_at known gs code j w.saved r.1 r.0.efforts
    (with_effort_of-saves q z s.save_at mother.genotype (mother.bred + 1) effort w.genotypes w.saved d.saves) in
    record {
      population = c;
      settings = d.settings;
      number = d.number;
      codes = d.codes;
      genotype = each-with (GenotypeBelow (length gs)) put_after (w.living ++ nb ∷ []) (longer (front w) mine)
          (each-append (GenotypeBelow (length gs)) w.living (nb ∷ [])
          (each-map (GenotypeBelow (length w.genotypes)) (GenotypeBelow (length gs)) longer w.living d.genotype) (r.1.among, tt));
      genotype_count = omega (arith, r.1.few, d.genotype_count, long);
      listed = listed-weaker (b + 1) b' gs b1 r.0;
      saves = subst (λ (t : Settings). Saves q z' s.save_at gs (savings_after t.save_at gs j (w.quanta + 1) w.saved)) (sym d.settings)
          (subst (λ k. Saves q z' s.save_at gs (savings_after s.save_at gs j k w.saved)) (sym d.number)
          (saves-weaker q (z + (length code + 100)) z' s.save_at gs (savings_after s.save_at gs j q w.saved) (omega arith) saves));
    }

-- an event that leaves the genotypes and what was saved
within-kept : (soup : List ℕ) (living : List Creature) (slicer reaper : List ℕ) (deaths : ℕ) (v : Event) (s : Settings) (e m b z q e' b' z' : ℕ) (w : World)
    → WithinQuantum s e m b z q w → Adds v e b z e' b' z'
    → Population s.soup_size e' m b' (record w { soup = soup; living = living; slicer = slicer; reaper = reaper; deaths = deaths })
    → All IsCell soup → Each (GenotypeBelow (length w.genotypes)) living
    → WithinQuantum s e' m b' z' q (record w { soup = soup; living = living; slicer = slicer; reaper = reaper; deaths = deaths })
within-kept soup living slicer reaper deaths v s e m b z q e' b' z' w d a p codes below =
    record {
      population = p;
      settings = d.settings;
      number = d.number;
      codes = codes;
      genotype = below;
      genotype_count = d.genotype_count;
      listed = listed-weaker b b' w.genotypes (omega (arith, a.next_birth)) d.listed;
      saves = saves-weaker q z z' s.save_at w.genotypes w.saved (omega (arith, a.size)) d.saves;
    }

pub within-event : (v : Event) (s : Settings) (e m b z q e' b' z' : ℕ) (w : World) → WithinQuantum s e m b z q w → CanHappen w v → Adds v e b z e' b' z'
    → WithinQuantum s e' m b' z' q (apply_event w v)
unfolding apply_event
within-event (event.Write at value) s e m b z q e' b' z' w d c a =
    let v : Event = event.Write at value in
    within-kept (slice_set w.soup at value) w.living w.slicer w.reaper w.deaths v s e m b z q e' b' z' w d a
    (population-event v s.soup_size e m b e' b' w d.population c a.errors a.next_birth) (All-set IsCell w.soup at value c.1 d.codes) d.genotype
within-event event.Good s e m b z q e' b' z' w d c a =
    let v : Event = event.Good in
    within-kept w.soup w.living w.slicer (apply_event w v).reaper w.deaths v s e m b z q e' b' z' w d a
    (population-event v s.soup_size e m b e' b' w d.population c a.errors a.next_birth) d.codes d.genotype
within-event (event.Reap place) s e m b z q e' b' z' w d c a =
    let v : Event = event.Reap place in
    let u : World = apply_event w v in
    within-kept w.soup u.living u.slicer u.reaper u.deaths v s e m b z q e' b' z' w d a
    (population-event v s.soup_size e m b e' b' w d.population c a.errors a.next_birth) d.codes
    (each-without (GenotypeBelow (length w.genotypes)) (slice_index w.reaper place) w.living d.genotype)
within-event (event.Divide ran moved) s e m b z q e' b' z' w d c a =
    let v : Event = event.Divide ran moved in
    within-divide s e m b z q e' b' z' ran moved w (front w).daughter d (front-in_bounds s.soup_size e m b w d.population).daughter c.0 c.1
    (omega (arith, a.next_birth)) (omega (arith, a.size)) (population-event v s.soup_size e m b e' b' w d.population c a.errors a.next_birth)
-- the others change the running record alone, and the reaper queue
within-event v s e m b z q e' b' z' w d c a =
    let u : World = apply_event w v in
    within-kept w.soup u.living w.slicer u.reaper w.deaths v s e m b z q e' b' z' w d a
    (population-event v s.soup_size e m b e' b' w d.population c a.errors a.next_birth) d.codes
    (each-with (GenotypeBelow (length w.genotypes)) (record_after v (front w)) w.living (front-genotype_below s e m b z q w d) d.genotype)

-- ---- the record of a step put in

-- a record with the same blocks leaves who owns a cell
each_once-put : (c : Creature) (w : World) → HasFront w → EachOnce w → Shares (front w) c → EachOnce (put c w)
each_once-put c w l t f =
    let same : c.id ≡ first_of w.slicer = f.id ∙ front-id w l in
    record {
      once = λ id. rw (ids_of-with c w.living) (t.once id);
      reaper = λ id. rw (ids_of-with c w.living) (t.reaper id);
      fresh = λ id h. rw (ids_of-with c w.living) (t.fresh id h);
      apart = λ p. (
          let own : owners_of c p ≡ owners_of (front w) p = (λ i. let n : ℕ = one_if (is_in (f.own i) p) + one_if (is_in_daughter (f.daughter i) p) in n) in
          omega (arith, owners-put c w p l t.once same, own, t.apart p));
    }

pub within-put : (c : Creature) (s : Settings) (e m b z q : ℕ) (w : World) → WithinQuantum s e m b z q w → Shares (front w) c → InSoup s.soup_size (m + 1) c
    → WithinQuantum s e (m + 1) b z q (put c w)
within-put c s e m b z q w d f h =
    let g = front-in_bounds s.soup_size e m b w d.population in
    record {
      population = population-put c s.soup_size e m b (m + 1) w d.population (has_front-put c w d.population.has_front)
          (each_once-put c w d.population.has_front d.population.each_once f) (omega arith) (record {
            own = subst (IsBlock s.soup_size) (sym f.own) g.own;
            daughter = subst (λ o. IfSome o (IsBlock s.soup_size)) (sym f.daughter) g.daughter;
            ip = h.0;
            sp = h.1;
            errors = rw (f.errors) g.errors;
            moved = h.2;
            ran = h.3;
            bred = rw (f.bred) g.bred;
          });
      settings = d.settings;
      number = d.number;
      codes = d.codes;
      genotype = each-with (GenotypeBelow (length w.genotypes)) c w.living (rw (f.genotype) (front-genotype_below s e m b z q w d)) d.genotype;
      genotype_count = d.genotype_count;
      listed = d.listed;
      saves = d.saves;
    }

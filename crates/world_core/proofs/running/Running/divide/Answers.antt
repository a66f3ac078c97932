use Rattle.std.proofs.Common.{◌≡◌, ◌∙◌, ◌<◌, ◌+◌, ◌^◌, ◌==◌, ℕ, List, Some, ap, arith, length, refl, subst, sym}
use Rattle.tierra_model.specs.declared.creatures.Creature.{Creature}
use Rattle.tierra_model.specs.declared.events.Event.TheVariants as event
use Rattle.tierra_model.specs.Counting.{times_in}
use Rattle.tierra_model.specs.Living.{ids_of, with_record}
use Rattle.tierra_model.specs.Events.{apply_event, record_after}
use Rattle.tierra_model.specs.World.{World, front}
use Rattle.world_core.specs.Running.{IsRunning, WorldFields}
use Rattle.world_core.specs.contracts.running.Running.{the_view}
use Rattle.std.specs.Prelude.{All, IfSome, Option, slice_range}
use Rattle.tierra_model.specs.declared.creatures.Block.{Block}
use Rattle.tierra_model.specs.Counting.{one_if}
use Rattle.tierra_model.specs.Individuals.{with_individual}
use Rattle.tierra_model.specs.Ranges.{IsCode}
use Rattle.tierra_model.proofs.WithinQuantum.{code_of_block}
use Rattle.census.specs.Census.{living_of}
use Rattle.world_core.specs.declared.running.Running.TheInside.{Inside}
use Rattle.tierra_model.specs.Individuals.{savings_after}
use Rattle.world_core.proofs.Within.{daughter_block, genotype_front, here_front, one_front, placed_front, small_front}
use Rattle.world_core.proofs.Numbered.{totals-with_effort}
use Rattle.world_core.proofs.Tying.{Puts, few_counted, here-entered, one-entered, puts-entered, tied-born}
use Rattle.world_core.proofs.EventWorlds.{born}
use Rattle.world_core.proofs.running.Running.divide.Goals as goal

-- the code is that of the daughter block
code_is : (i : Inside) (h : WorldFields) (x : Creature) (b : Block) (code : List ℕ) → the_view i ≡ h → x ≡ front (the_view i).world → x.daughter ≡ Some b
    → IfSome (front h.world).daughter (λ k. code ≡ slice_range h.world.soup k.at (k.at + k.size)) → code ≡ slice_range i.soup.cells b.at (b.at + b.size)
code_is i h x b code v e d is =
    let inside : IfSome (front (the_view i).world).daughter (λ k. code ≡ slice_range i.soup.cells k.at (k.at + k.size))
    = subst (λ (g : WorldFields). IfSome (front g.world).daughter (λ k. code ≡ slice_range g.world.soup k.at (k.at + k.size))) (sym v) is in
    subst (λ (o : Option Block). IfSome o (λ k. code ≡ slice_range i.soup.cells k.at (k.at + k.size))) (ap (λ (y : Creature). y.daughter) (sym e) ∙ d) inside

pub overflow_add-mother : goal.overflow_add-mother
overflow_add-mother c =
    let r : IsRunning (the_view c.self.inside).world = subst (λ (h : WorldFields). IsRunning h.world) (sym c.self.view_is) c.requires.within in
    let small = small_front _ c.front.result.now r c.front.ensures in
    omega arith

pub note_effort-requires : goal.note_effort-requires
note_effort-requires c =
    let r : IsRunning (the_view c.self.inside).world = subst (λ (h : WorldFields). IsRunning h.world) (sym c.self.view_is) c.requires.within in
    genotype_front _ c.front.result.now r c.front.ensures

pub note_birth-genotype-requires-clause-code : goal.note_birth-genotype-requires-clause-code
note_birth-genotype-requires-clause-code c =
    let r : IsRunning (the_view c.self.inside).world = subst (λ (h : WorldFields). IsRunning h.world) (sym c.self.view_is) c.requires.within in
    let x = c.front.result.now in
    let b = c.unwrap-block.result in
    let n = c.self.inside.settings.soup_size in
    let placed = placed_front _ x r c.front.ensures in
    let is = code_of_block n c.self.inside.soup.cells b (daughter_block n x b placed c.unwrap-block.ensures) r.cells r.codes in
    subst IsCode (sym (code_is c.self.inside c.args.self.now x b c.args.code c.self.view_is c.front.ensures c.unwrap-block.ensures c.requires.code)) is.0

pub note_birth-genotype-requires-clause-counts : goal.note_birth-genotype-requires-clause-counts
note_birth-genotype-requires-clause-counts c =
    let r : IsRunning (the_view c.self.inside).world = subst (λ (h : WorldFields). IsRunning h.world) (sym c.self.view_is) c.requires.within in
    let x = c.front.result.now in
    subst (All (λ g. g.total < 2 ^ 60)) (sym c.note_effort.ensures.genotypes)
    (totals-with_effort (2 ^ 60) x.genotype (x.bred + 1) (record { ran = c.args.ran; moved = c.args.moved }) c.self.inside.genes.genotypes r.totals)

pub born-requires-clause-count : goal.born-requires-clause-count
born-requires-clause-count c =
    let r : IsRunning (the_view c.self.inside).world = subst (λ (h : WorldFields). IsRunning h.world) (sym c.self.view_is) c.requires.within in
    let few : length c.self.inside.population.living < 2 ^ 60 = omega (arith, r.living_and_dead, r.next_birth) in
    omega (arith, c.self.invariant.counts c.note_birth-genotype.result, few_counted c.self.inside.population.living c.note_birth-genotype.result)

pub bear-requires : goal.bear-requires
bear-requires c =
    let r : IsRunning (the_view c.self.inside).world = subst (λ (h : WorldFields). IsRunning h.world) (sym c.self.view_is) c.requires.within in
    let small = small_front _ c.front.result.now r c.front.ensures in
    omega arith

pub put-requires-clause-here : goal.put-requires-clause-here
put-requires-clause-here c =
    let r : IsRunning (the_view c.self.inside).world = subst (λ (h : WorldFields). IsRunning h.world) (sym c.self.view_is) c.requires.within in
    let x = c.front.result.now in
    rw (c.enter.ensures.living, c.bear.ensures) (here-entered c.self.inside.population.living c.newborn.result x.id (here_front _ x r c.front.ensures))

pub put-requires-clause-errors : goal.put-requires-clause-errors
put-requires-clause-errors c =
    let r : IsRunning (the_view c.self.inside).world = subst (λ (h : WorldFields). IsRunning h.world) (sym c.self.view_is) c.requires.within in
    let x = c.front.result.now in
    let here = here_front _ x r c.front.ensures in
    rw (c.enter.ensures.living, c.bear.ensures)
    (ap (λ (y : Creature). y.errors) (one-entered c.self.inside.population.living c.newborn.result x.id here ∙ one_front _ x r c.front.ensures))

pub invariant_of-self : goal.invariant_of-self
invariant_of-self c =
    let r : IsRunning (the_view c.self.inside).world = subst (λ (h : WorldFields). IsRunning h.world) (sym c.self.view_is) c.requires.within in
    let x = c.front.result.now in
    let e = c.front.ensures in
    let nb = c.newborn.result in
    let k = c.note_birth-genotype.result in
    let living = c.self.inside.population.living in
    let a : Creature = record_after (event.Divide x.ran x.moved) x in
    let new : times_in (ids_of living) nb.id ≡ 0
    = ap (λ (y : Creature). times_in (ids_of living) y.id) c.newborn.ensures ∙ r.fresh c.self.inside.next_birth (omega arith) in
    let puts : Puts living x a = record { here = here_front _ x r e; once = r.once; found = one_front _ x r e; own = refl; genotype = refl } in
    let more : (g : ℕ) → living_of c.born.new.self g ≡ living_of c.self.inside.census g + one_if (nb.genotype == g)
    = λ g. c.born.ensures.living g ∙ ap (λ (y : Creature). living_of c.self.inside.census g + one_if (y.genotype == g)) (sym c.newborn.ensures) in
    rw (c.put.ensures.living, c.enter.ensures.living, c.bear.ensures)
    (tied-born c.self.inside.settings.soup_size living c.self.inside.blocks c.self.inside.census c.born.new.self x a nb c.unwrap-block.result
    (puts-entered living nb x a new puts) c.unwrap-block.ensures refl (ap (λ (y : Creature). y.own) c.newborn.ensures)
    (ap (λ (y : Creature). y.daughter) c.newborn.ensures) more c.self.invariant)

pub returns-clause-world : goal.returns-clause-world
returns-clause-world c =
    let x = c.front.result.now in
    let b = c.unwrap-block.result in
    let w : World = (the_view c.self.inside).world in
    let nb = c.newborn.result in
    (λ i. record w {
      living = (c.put.ensures.living ∙ (λ j. with_record (c.bear.ensures j) (c.enter.ensures.living j))) i;
      slicer = (c.put.ensures.slicer ∙ c.enter.ensures.slicer) i;
      reaper = (c.put.ensures.reaper ∙ c.enter.ensures.reaper) i;
      genotypes = c.note_birth-genotype.new.self.genotypes;
      saved = c.note_birth-genotype.new.self.saved;
      next_birth = w.next_birth + 1;
      births = w.births + 1;
    })
    ∙ born w c.args.ran c.args.moved b x nb c.note_effort.new.self.genotypes c.note_birth-genotype.new.self.genotypes c.note_birth-genotype.result
    c.from-save_at.result
    c.args.code c.note_birth-genotype.new.self.saved c.front.ensures c.unwrap-block.ensures
    (code_is c.self.inside c.args.self.now x b c.args.code c.self.view_is c.front.ensures c.unwrap-block.ensures c.requires.code)
    c.note_effort.ensures.genotypes c.note_birth-genotype.ensures.genotypes c.note_birth-genotype.ensures.number c.from-save_at.ensures
    (c.note_birth-genotype.ensures.saved
    ∙ ap (savings_after c.from-save_at.result (with_individual c.note_effort.new.self.genotypes c.args.code (Some x.genotype) (c.self.inside.quanta + 1)).0
    c.note_birth-genotype.result (c.self.inside.quanta + 1)) c.note_effort.ensures.saved) c.newborn.ensures
    ∙ ap (λ (h : WorldFields). apply_event h.world (event.Divide c.args.ran c.args.moved)) c.self.view_is

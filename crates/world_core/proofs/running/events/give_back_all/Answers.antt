use Rattle.std.proofs.Common.{◌≡◌, ◌∙◌, ℕ, Bool, true, false, List, ap, sym}
use Rattle.std.specs.Prelude.{◌||◌}
use Rattle.tierra_model.specs.declared.creatures.Block.{Block}
use Rattle.tierra_model.specs.Blocks.{is_in, is_in_daughter}
use Rattle.tierra_model.specs.FreeList.{is_in_some, runs_of}
use Rattle.tierra_model.proofs.Free.{runs_of_in}
use Rattle.block_alloc.proofs.Owned.{runs_of-alike}
use Rattle.tierra_model.specs.Room.{holds}
use Rattle.world_core.proofs.Ownership.{holds_daughter, not_own, regroup, runs-again}
use Rattle.world_core.proofs.running.events.give_back_all.Goals as goal
use Rattle.world_core.proofs.running.events.give_back_all.Goals.{After-give_back}

-- what is free once the creature's own block is
free_then : (c : After-give_back) → c.give_back.new.self.free
    ≡ runs_of c.give_back.new.self.size (λ p. is_in_some c.args.blocks.now.free p || is_in c.args.creature.now.own p)
free_then c =
    c.give_back.ensures.free ∙ ap (λ (n : ℕ). runs_of n (λ p. is_in_some c.args.blocks.now.free p || is_in c.args.creature.now.own p))
    (sym c.give_back.ensures.size)

pub give_back_daughter-requires-clause-runs : goal.give_back_daughter-requires-clause-runs
give_back_daughter-requires-clause-runs c = runs-again _ _ _ (free_then ((goal.at.give_back_daughter-requires-clause-runs c).After-give_back))

pub give_back_daughter-requires-clause-owned : goal.give_back_daughter-requires-clause-owned
give_back_daughter-requires-clause-owned c p h =
    let x = c.args.creature.now in
    let n = c.args.blocks.now.size in
    let held : holds x p ≡ true = holds_daughter x p h in
    let free : is_in_some c.args.blocks.now.free p ≡ false = c.requires.owned p held in
    let other : is_in x.own p ≡ false = not_own (is_in x.own p) (is_in_daughter x.daughter p) (c.requires.apart p) h in
    ap (λ (f : List Block). is_in_some f p) c.give_back.ensures.free
    ∙ runs_of_in n (λ p. is_in_some c.args.blocks.now.free p || is_in x.own p) p (c.requires.within p held)
    ∙ (λ i. free i || other i)

pub returns-clause-free : goal.returns-clause-free
returns-clause-free c =
    let x = c.args.creature.now in
    let n = c.args.blocks.now.size in
    let free : ℕ → Bool = λ p. is_in_some c.args.blocks.now.free p in
    c.give_back_daughter.ensures.free
    ∙ (λ i. runs_of (c.give_back.ensures.size i) (λ p. is_in_some (c.give_back.ensures.free i) p || is_in_daughter x.daughter p))
    ∙ runs_of-alike n (λ p. is_in_some (runs_of n (λ p. free p || is_in x.own p)) p || is_in_daughter x.daughter p) (λ p. free p || holds x p)
    (λ q l. ap (λ (b : Bool). b || is_in_daughter x.daughter q) (runs_of_in n (λ p. free p || is_in x.own p) q l)
    ∙ regroup (free q) (is_in x.own q) (is_in_daughter x.daughter q))

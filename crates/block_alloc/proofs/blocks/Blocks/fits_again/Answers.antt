use Rattle.std.proofs.Common.{◌≡◌, ◌∙◌, Option, Some, None, ap, subst, sym}
use Rattle.std.specs.Prelude.{◌↔◌, ◌||◌, IsTrue, find, not}
use Rattle.tierra_model.specs.declared.creatures.Block.{Block}
use Rattle.tierra_model.specs.Blocks.{is_in}
use Rattle.tierra_model.specs.FreeList.{is_in_some}
use Rattle.tierra_model.specs.Room.{first_fit}
use Rattle.block_alloc.specs.Again.{tells}
use Rattle.block_alloc.specs.Blocks.{BlocksFields}
use Rattle.block_alloc.specs.Runs.{AllBelow}
use Rattle.block_alloc.proofs.Again.{first_again, is_behind}
use Rattle.block_alloc.proofs.blocks.Blocks.fits_again.Goals as goal
use Rattle.block_alloc.proofs.blocks.Blocks.fits_again.Goals.{After-first_told}

-- what the run that tells first tells
told : (c : After-first_told) → IsTrue (is_behind c.args.block c.first_told.result)
    ↔ (first_fit c.args.self.now.size (λ p. not (is_in_some c.args.self.now.free p || is_in c.args.block p)) c.args.block.size ≡ Some c.args.block.at)
told c =
    let b = c.args.block in
    let xs = c.self.inside.free.items in
    let same = sym c.self.view_is in
    subst (λ (s : BlocksFields). IsTrue (is_behind b c.first_told.result)
    ↔ (first_fit s.size (λ p. not (is_in_some s.free p || is_in b p)) b.size ≡ Some b.at)) c.self.view_is
    (first_again c.self.inside.size b c.requires.some xs c.first_told.result c.self.invariant.runs
    (subst (λ (s : BlocksFields). AllBelow s.size b) same c.requires.within)
    (λ p h. ap (λ (s : BlocksFields). is_in_some s.free p) c.self.view_is ∙ c.requires.owned p h)
    (c.first_told.ensures ∙ ap (find (tells b)) c.deref.ensures.value))

pub returns-in-Some : goal.returns-in-Some
returns-in-Some c = rw c.in-Some.is at (told (goal.at.returns-in-Some c).After-first_told)

pub returns-in-None : goal.returns-in-None
returns-in-None c = rw c.in-None.is at (told (goal.at.returns-in-None c).After-first_told)

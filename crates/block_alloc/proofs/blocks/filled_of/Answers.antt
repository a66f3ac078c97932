use Rattle.std.proofs.Common.{◌≡◌, ◌+◌, arith, refl}
use Rattle.std.specs.Prelude.{not}
use Rattle.tierra_model.specs.FreeList.{is_in_some}
use Rattle.tierra_model.specs.Room.{filled}
use Rattle.block_alloc.specs.Runs.{cells_of}
use Rattle.block_alloc.proofs.Counts.{count-owned}
use Rattle.block_alloc.proofs.blocks.filled_of.Goals as goal

pub returns-clause-filled : goal.returns-clause-filled
returns-clause-filled c =
    let xs = c.args.runs.now in
    let n = c.args.cells in
    let owned : filled n (λ p. not (is_in_some xs p)) + cells_of xs ≡ n =
    count-owned (λ p. not (is_in_some xs p)) n xs 0 n (omega arith) c.requires (λ q l m. refl) in
    omega (arith, owned, c.cells_in.ensures.sum, c.cells_in.ensures.few)

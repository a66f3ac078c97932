use Rattle.std.proofs.Common.{◌≡◌, ◌∙◌, List, ap, arith, subst, sym, take, true}
use Rattle.std.proofs.lemmas.List.{take_all}
use Rattle.std.proofs.lemmas.List.Elements.{All-get_or}
use Rattle.std.specs.Prelude.{not, ◌&&◌}
use Rattle.tierra_model.specs.declared.creatures.Block.{Block}
use Rattle.tierra_model.specs.declared.setups.Inoculum.{Inoculum}
use Rattle.tierra_model.specs.Blocks.{is_in}
use Rattle.tierra_model.specs.FreeList.{is_in_some, runs_of}
use Rattle.tierra_model.specs.Ranges.{IsCode}
use Rattle.tierra_model.specs.Room.{first_fit}
use Rattle.tierra_model.specs.Setups.{block_of}
use Rattle.tierra_model.proofs.Free.{runs_of_in}
use Rattle.block_alloc.proofs.Owned.{runs_of-tell}
use Rattle.soup_isles.specs.Isles.{is_settled}
use Rattle.soup_isles.proofs.Joining.{still-free, taken-next}
use Rattle.soup_isles.proofs.settling.room_beside.Goals as goal

pub block_of-requires : goal.block_of-requires
block_of-requires c =
    let code : IsCode c.creature-item.result.code = subst (λ (x : Inoculum). IsCode x.code) (sym c.creature-item.is)
    (All-get_or (λ x. IsCode x.code) c.args.creatures.now c.loop-creature.creature-index c.creature-item.result (omega arith) c.requires.setup.written) in
    code.1

pub take-requires-clause-free : goal.take-requires-clause-free
take-requires-clause-free c p h =
    let xs = c.args.creatures.now in
    let i = c.loop-creature.creature-index in
    let x : Inoculum = c.creature-item.result in
    let n = c.args.settings.now.soup_size in
    let here : is_in (block_of x) p ≡ true = ap (λ (b : Block). is_in b p) (sym c.block_of.ensures) ∙ h in
    let free = still-free c.args.settings.now xs i x p c.requires.setup (omega arith) c.creature-item.is here in
    ap (λ (f : List Block). is_in_some f p) (c.in_ok-reserve.ensures.free ∙ c.loop-creature.invariant.1)
    ∙ runs_of_in n (λ p. not (is_settled (take i xs) p)) p free.0
    ∙ ap not free.1

pub loop-creature-preserved : goal.loop-creature-preserved
loop-creature-preserved c =
    let xs = c.args.creatures.now in
    let i = c.loop-creature.creature-index in
    let x : Inoculum = c.creature-item.result in
    let n = c.args.settings.now.soup_size in
    let size = c.in_ok-reserve.ensures.size ∙ c.loop-creature.invariant.0 in
    let free = c.in_ok-reserve.ensures.free ∙ c.loop-creature.invariant.1 in (
      c.take.ensures.size ∙ size,
      c.take.ensures.free
          ∙ (λ j. runs_of (size j) (λ p. is_in_some (free j) p && not (is_in (c.block_of.ensures j) p)))
          ∙ taken-next n xs i x (omega arith) c.creature-item.is,
    )

pub returns : goal.returns
returns c =
    let xs = c.args.creatures.now in
    let n = c.args.settings.now.soup_size in
    let i = c.loop-creature.creature-index in
    let size = c.loop-creature.invariant.0 in
    let free = c.loop-creature.invariant.1 in
    c.fit.ensures
    ∙ (λ j. first_fit (size j) (λ p. not (is_in_some (free j) p)) c.args.size)
    ∙ (runs_of-tell n (is_settled (take i xs))).fit c.args.size c.requires.one
    ∙ ap (λ (l : List Inoculum). first_fit n (is_settled l) c.args.size) (take_all i xs (omega arith))

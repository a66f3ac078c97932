use Rattle.std.proofs.Common.{◌≡◌, ◌∙◌, ◌+◌, ◌<◌, ℕ, suc, List, ◌∷◌, ap, arith, drop, drop-cons, get_or, length, refl, subst, sym}
use Rattle.tierra_model.specs.declared.setups.Inoculum.{Inoculum}
use Rattle.tierra_model.specs.World.{World}
use Rattle.tierra_model.specs.Serial.{with_inocula}
use Rattle.world_core.specs.Starting.{CanInoculate, inoculated}
use Rattle.world_core.proofs.Starting.{Fills, fills-can, fills-next, fills-none}
use Rattle.world_core.proofs.world.inoculate_all.Goals as goal

-- the list from a place on
split : (xs : List Inoculum) (i : ℕ) (x : Inoculum) → i < length xs → x ≡ get_or xs i x → drop i xs ≡ x ∷ drop (i + 1) xs
split xs i x h e = drop-cons xs i x h ∙ (λ j. (sym e j) ∷ drop (next j) xs)
  where
    next : suc i ≡ i + 1
    next = omega arith

pub loop-inoculum-init : goal.loop-inoculum-init
loop-inoculum-init c =
    let s = c.args.running.now.world.settings in (
      subst (λ (w : World). Fills s c.args.creatures.now w) (sym c.requires.empty)
          (fills-none (record { settings = s; creatures = c.args.creatures.now }) c.requires.setup),
      refl,
    )

pub inoculate-requires-clause-can : goal.inoculate-requires-clause-can
inoculate-requires-clause-can c =
    let xs = c.args.creatures.now in
    let i = c.loop-inoculum.inoculum-index in
    let x : Inoculum = c.inoculum-item.result in
    let left : drop i xs ≡ x ∷ drop (i + 1) xs = split xs i x (omega arith) c.inoculum-item.is in
    let fills = subst (λ (l : List Inoculum). Fills c.args.running.now.world.settings l c.loop-inoculum.running.world) left c.loop-inoculum.invariant.0 in
    let can : CanInoculate c.loop-inoculum.running.world x.at x.code =
    fills-can c.args.running.now.world.settings x (drop (i + 1) xs) c.loop-inoculum.running.world fills in
    subst (λ (w : World). CanInoculate w x.at c.in_ok-code.code) (sym c.in_ok-reserve.ensures.world)
    (subst (λ (l : List ℕ). CanInoculate c.loop-inoculum.running.world x.at l) (sym c.in_ok-code.ensures) can)

pub loop-inoculum-preserved : goal.loop-inoculum-preserved
loop-inoculum-preserved c =
    let s = c.args.running.now.world.settings in
    let xs = c.args.creatures.now in
    let i = c.loop-inoculum.inoculum-index in
    let x : Inoculum = c.inoculum-item.result in
    let w : World = c.loop-inoculum.running.world in
    let left : drop i xs ≡ x ∷ drop (i + 1) xs = split xs i x (omega arith) c.inoculum-item.is in
    let fills = subst (λ (l : List Inoculum). Fills s l w) left c.loop-inoculum.invariant.0 in
    let next : c.inoculate.new.self.world ≡ inoculated w x.at x.code
    = c.in_ok-inoculate.ensures ∙ (λ j. inoculated (c.in_ok-reserve.ensures.world j) x.at (c.in_ok-code.ensures j)) in (
      subst (Fills s (drop (i + 1) xs)) (sym next) (fills-next s x (drop (i + 1) xs) w fills),
      ap (with_inocula (drop (i + 1) xs)) next ∙ ap (λ (l : List Inoculum). with_inocula l w) (sym left) ∙ c.loop-inoculum.invariant.1,
    )

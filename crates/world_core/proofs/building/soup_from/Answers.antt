use Rattle.std.proofs.Common.{◌≡◌, ◌∙◌, ◌+◌, ◌<◌, ◌≤◌, List, ℕ, ap, arith, get_or, length, rules, set, take}
use Rattle.std.proofs.lemmas.List.{length-replicate, length-take}
use Rattle.std.specs.Prelude.{replicate}
use Rattle.tierra_model.specs.Serial.{overwrite}
use Rattle.world_core.proofs.Cells.{length-overwrite, overwrite-more}
use Rattle.world_core.proofs.building.soup_from.Goals as goal

pub loop-at-preserved : goal.loop-at-preserved
loop-at-preserved c =
    let cells = c.args.cells.now in
    let n = c.args.size in
    let at = c.loop-at.at in
    let within : at < length cells = search rules in
    let lies : 0 + length cells ≤ length (replicate {A = ℕ} n 0) = omega (arith, length-replicate {A = ℕ} n 0, c.requires.size) in
    let here : at ≡ 0 + at = omega arith in
    c.set.ensures.cells ∙ (λ j. set ((c.in_ok-ready.ensures.cells ∙ c.loop-at.invariant) j) (here j) (get_or cells at 0))
    ∙ overwrite-more (replicate n 0) 0 cells at within lies

long : (n : ℕ) (cells : List ℕ) (at : ℕ) (soup : List ℕ) → length cells ≡ n → soup ≡ overwrite (replicate n 0) 0 (take at cells) → length soup ≡ n
long n cells at soup all is =
    let part = length-take at cells in
    let lies : 0 + length (take at cells) ≤ length (replicate {A = ℕ} n 0) = omega (arith, length-replicate {A = ℕ} n 0) in
    ap length is ∙ length-overwrite (replicate n 0) 0 (take at cells) lies ∙ length-replicate {A = ℕ} n 0

pub ready-requires : goal.ready-requires
ready-requires c =
    let is = long c.args.size c.args.cells.now c.loop-at.at c.loop-at.soup.cells c.requires.size c.loop-at.invariant in
    let within : c.loop-at.at < length c.args.cells.now = search rules in
    omega (arith, c.requires.size)

pub set-requires-clause-within : goal.set-requires-clause-within
set-requires-clause-within c =
    let is = long c.args.size c.args.cells.now c.loop-at.at c.ready.new.self.cells c.requires.size (c.in_ok-ready.ensures.cells ∙ c.loop-at.invariant) in
    let within : c.loop-at.at < length c.args.cells.now = search rules in
    omega (arith, c.requires.size)

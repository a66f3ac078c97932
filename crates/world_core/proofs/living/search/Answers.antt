use Rattle.std.proofs.Common.{◌≡◌, ◌<◌, ◌≤◌, ap, arith, get_or, length, rules}
use Rattle.std.proofs.lemmas.List.{get_or_read}
use Rattle.tierra_model.specs.declared.creatures.Creature.{Creature}
use Rattle.tierra_model.specs.Counting.{times_in}
use Rattle.tierra_model.specs.Living.{ids_of, nobody}
use Rattle.world_state.proofs.BirthNumbers.{ids-rise, none-around}
use Rattle.world_core.proofs.living.search.Goals as goal
use Rattle.world_core.proofs.living.search.Goals.{else-place-len-via-then-place-len+else-index-id, else-place-len-via-else-place-len}

pub born_before-place-requires : goal.born_before-place-requires
born_before-place-requires c = ids-rise 1 c.args.creatures.now.items c.requires

pub returns-else-place-len-clause-none : goal.returns-else-place-len-clause-none
returns-else-place-len-clause-none c =
    let xs = c.args.creatures.now.items in
    let place = c.born_before-place.result in
    let long : c.len.result ≡ length xs = search rules in
    let around : (place < length xs → c.args.id < (get_or xs place nobody).id) → times_in (ids_of xs) c.args.id ≡ 0
    = λ at. none-around 1 c.args.id xs place nobody c.requires (λ k h l. c.born_before-place.ensures.before k nobody (omega arith) h) at in
    elim c.else-place-len.branch [
      | else-place-len-via-then-place-len+else-index-id w ↦ around (λ h.
          let at_least : c.args.id ≤ (get_or xs place nobody).id = c.born_before-place.ensures.behind place nobody (omega arith) h in
          let same : w.index.result.now.id ≡ (get_or xs place nobody).id =
          ap (λ (x : Creature). x.id) (get_or_read xs place w.index.result.now h w.index.ensures nobody) in
          let other = w.if-index-id.false in
          omega arith)
      | else-place-len-via-else-place-len w ↦ around (λ h. (let past = w.if-place-len.false in absurd (omega arith)))
    ]

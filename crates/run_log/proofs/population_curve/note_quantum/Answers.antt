use Rattle.std.proofs.Common.{◌≡◌, ◌∙◌, ◌-◌, ◌≤◌, ℕ, List, ap, sym, subst, arith, length}
use Rattle.std.specs.Prelude.{filter, not}
use Rattle.tierra_model.specs.Counting.{times_in}
use Rattle.tierra_model.proofs.Sound.{sound-each_once}
use Rattle.run_log.specs.Curve.{dead_in, lived_in, lives}
use Rattle.run_log.specs.Records.{living_in}
use Rattle.run_log.proofs.Notes.{order-births}
use Rattle.run_log.proofs.Numbers.{ordered-once}
use Rattle.run_log.proofs.Survivors.{deaths-counted, lived-ordered, survivors}
use Rattle.run_log.proofs.Runs.{is-turn, living-after, turn-lived, turn-records}
use Rattle.run_log.proofs.population_curve.note_quantum.Goals as goal

pub overflow_add-next : goal.overflow_add-next
overflow_add-next c =
    let turn = is-turn c.args.run.now c.next.new.self c.args.quantum c.requires.sound c.requires.quantum c.requires.more c.in_ok-next.ensures in
    omega (arith, turn.few, turn.later.births, c.requires.numbers, c.births-2.ensures)

pub overflow_add-next-2 : goal.overflow_add-next-2
overflow_add-next-2 c =
    let turn = is-turn c.args.run.now c.next.new.self c.args.quantum c.requires.sound c.requires.quantum c.requires.more c.in_ok-next.ensures in
    omega (arith, turn.few, turn.later.births, c.requires.numbers, c.births-2.ensures)

pub note_births-requires-clause-fresh : goal.note_births-requires-clause-fresh
note_births-requires-clause-fresh c id le =
    ap (λ (l : List ℕ). times_in l id) c.requires.living
    ∙ (sound-each_once c.args.run.now c.requires.sound).fresh id (omega (arith, le, c.requires.numbers, c.births.ensures))

pub note_births-requires-clause-range : goal.note_births-requires-clause-range
note_births-requires-clause-range c =
    let turn = is-turn c.args.run.now c.next.new.self c.args.quantum c.requires.sound c.requires.quantum c.requires.more c.in_ok-next.ensures in
    omega (arith, c.births.ensures, c.births-2.ensures, turn.later.births, turn.later.next_birth)

pub overflow_sub-died : goal.overflow_sub-died
overflow_sub-died c =
    let turn = is-turn c.args.run.now c.next.new.self c.args.quantum c.requires.sound c.requires.quantum c.requires.more c.in_ok-next.ensures in
    omega (arith, deaths-counted c.args.run.now c.next.new.self turn.sound_before turn.sound_after turn.later, c.deaths-dead.ensures, c.deaths.ensures)

pub note_deaths-requires-clause-order : goal.note_deaths-requires-clause-order
note_deaths-requires-clause-order c =
    order-births c.args.quantum c.args.log.now.records c.note_births.new.log.records _ c.requires.order c.in_ok-note_births.ensures.records

pub note_deaths-requires-clause-living : goal.note_deaths-requires-clause-living
note_deaths-requires-clause-living c =
    let noted = c.in_ok-note_births.ensures in
    living-after c.args.log.now.inoculated c.args.quantum c.args.log.now.records c.note_births.new.log.records c.args.living.items
    c.note_births.new.living.items _
    c.requires.noted noted.records noted.living
    ∙ ap (λ (i : ℕ). living_in i c.note_births.new.log.records) (sym noted.inoculated)

pub note_deaths-requires-clause-once : goal.note_deaths-requires-clause-once
note_deaths-requires-clause-once c id =
    let turn = is-turn c.args.run.now c.next.new.self c.args.quantum c.requires.sound c.requires.quantum c.requires.more c.in_ok-next.ensures in
    let seen = turn-lived c.args.inoculated c.births.result c.births-2.result c.args.run.now c.next.new.self c.args.living.items c.note_births.new.living.items
    turn
    c.requires.numbers c.births.ensures c.births-2.ensures c.requires.living c.in_ok-note_births.ensures.living in
    subst (λ (l : List ℕ). times_in l id ≤ 1) (sym seen)
    (ordered-once 1 (lived_in c.args.run.now c.next.new.self) id (lived-ordered c.args.run.now c.next.new.self turn.sound_before turn.sound_after turn.later))

pub note_deaths-requires-clause-died : goal.note_deaths-requires-clause-died
note_deaths-requires-clause-died c =
    let turn = is-turn c.args.run.now c.next.new.self c.args.quantum c.requires.sound c.requires.quantum c.requires.more c.in_ok-next.ensures in
    let seen = turn-lived c.args.inoculated c.births.result c.births-2.result c.args.run.now c.next.new.self c.args.living.items c.note_births.new.living.items
    turn
    c.requires.numbers c.births.ensures c.births-2.ensures c.requires.living c.in_ok-note_births.ensures.living in
    let dead : length (dead_in c.args.run.now c.next.new.self) ≡ c.deaths.result - c.deaths-dead.result =
    omega (arith, deaths-counted c.args.run.now c.next.new.self turn.sound_before turn.sound_after turn.later, c.deaths-dead.ensures, c.deaths.ensures) in
    ap (λ (l : List ℕ). length (filter (λ id. not (lives c.next.new.self id)) l)) seen ∙ dead

pub returns-clause-living : goal.returns-clause-living
returns-clause-living c =
    let turn = is-turn c.args.run.now c.next.new.self c.args.quantum c.requires.sound c.requires.quantum c.requires.more c.in_ok-next.ensures in
    let seen = turn-lived c.args.inoculated c.births.result c.births-2.result c.args.run.now c.next.new.self c.args.living.items c.note_births.new.living.items
    turn
    c.requires.numbers c.births.ensures c.births-2.ensures c.requires.living c.in_ok-note_births.ensures.living in
    c.in_ok-left.ensures.living ∙ ap (filter (lives c.next.new.self)) seen
    ∙ survivors c.args.run.now c.next.new.self turn.sound_before turn.sound_after turn.later

pub returns-clause-inoculated : goal.returns-clause-inoculated
returns-clause-inoculated c = c.in_ok-left.ensures.inoculated ∙ c.in_ok-note_births.ensures.inoculated

pub returns-clause-records : goal.returns-clause-records
returns-clause-records c =
    let turn = is-turn c.args.run.now c.next.new.self c.args.quantum c.requires.sound c.requires.quantum c.requires.more c.in_ok-next.ensures in
    let seen = turn-lived c.args.inoculated c.births.result c.births-2.result c.args.run.now c.next.new.self c.args.living.items c.note_births.new.living.items
    turn
    c.requires.numbers c.births.ensures c.births-2.ensures c.requires.living c.in_ok-note_births.ensures.living in
    turn-records c.args.quantum c.args.run.now c.next.new.self c.args.log.now.records c.note_births.new.log.records _ _ _ _ c.requires.living
    c.in_ok-note_births.ensures.records
    c.in_ok-note_births.ensures.living c.in_ok-left.ensures.records seen

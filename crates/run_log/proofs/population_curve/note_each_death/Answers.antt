use Rattle.std.proofs.Common.{◌≡◌, ◌∙◌, ◌++◌, ℕ, List, ap, sym, refl, get_or, take, map}
use Rattle.std.specs.Prelude.{filter, not}
use Rattle.std.proofs.lemmas.Grind.{get_or_default_zero}
use Rattle.std.proofs.lemmas.List.{append-nil, take_all}
use Rattle.run_log.specs.Curve.{lives}
use Rattle.run_log.specs.declared.record.Record.TheVariants.{Death}
use Rattle.run_log.specs.Records.{living_in}
use Rattle.run_log.proofs.Notes.{left-next, order-deaths, present-next, records-next, same-next}
use Rattle.run_log.proofs.population_curve.note_each_death.Goals as goal

pub loop-id-init : goal.loop-id-init
loop-id-init c = record {
  inoculated = refl;
  left = c.new-left.ensures.items;
  records = sym (append-nil c.args.log.now.records);
  same = sym c.requires.living ∙ sym (ap (λ (l : List ℕ). l ++ c.args.living.now) c.new-left.ensures.items);
}

pub returns : goal.returns
returns c =
    let whole : take c.loop-id.id-index c.args.living.now ≡ c.args.living.now = take_all c.loop-id.id-index c.args.living.now c.loop-id-test.false in
    record {
      inoculated = c.loop-id.invariant.inoculated;
      living = c.loop-id.invariant.left ∙ ap (filter (lives c.args.run.now)) whole;
      records = c.loop-id.invariant.records
          ∙ ap (λ (l : List ℕ). c.args.log.now.records ++ map (λ id. Death c.args.quantum id) (filter (λ id. not (lives c.args.run.now id)) l)) whole;
    }

pub keep_or_note-requires-clause-order : goal.keep_or_note-requires-clause-order
keep_or_note-requires-clause-order c =
    order-deaths c.args.quantum c.args.log.now.records c.loop-id.log.records
    (filter (λ id. not (lives c.args.run.now id)) (take c.loop-id.id-index c.args.living.now)) c.requires.order c.loop-id.invariant.records

pub keep_or_note-requires-clause-present : goal.keep_or_note-requires-clause-present
keep_or_note-requires-clause-present c =
    let xs : List ℕ = c.args.living.now in
    let id : ℕ = get_or xs c.loop-id.id-index 0 in
    present-next (lives c.args.run.now) c.args.quantum c.loop-id.id-index id xs c.loop-id.left.items c.loop-id.log.inoculated c.args.log.now.records
    c.loop-id.log.records
    c.loop-id-test.true (sym (get_or_default_zero xs c.loop-id.id-index id c.loop-id-test.true)) c.requires.once c.loop-id.invariant.left
    c.loop-id.invariant.same c.loop-id.invariant.records

pub loop-id-preserved : goal.loop-id-preserved
loop-id-preserved c =
    let xs : List ℕ = c.args.living.now in
    let i : ℕ = c.loop-id.id-index in
    let id : ℕ = get_or xs i 0 in
    let item = sym (get_or_default_zero xs i id c.loop-id-test.true) in
    let inoculated = c.keep_or_note.ensures.inoculated in
    let kept = c.in_ok-keep_or_note.ensures.left in
    let noted = c.in_ok-keep_or_note.ensures.records in
    record {
      inoculated = inoculated ∙ c.loop-id.invariant.inoculated;
      left = left-next (lives c.args.run.now) c.args.quantum i id xs c.loop-id.left.items c.loop-id.log.inoculated c.args.log.now.records c.loop-id.log.records
          c.loop-id-test.true item c.requires.once c.loop-id.invariant.left c.loop-id.invariant.same c.loop-id.invariant.records c.keep_or_note.new.left.items
          kept;
      records = records-next (lives c.args.run.now) c.args.quantum i id xs c.loop-id.left.items c.loop-id.log.inoculated c.args.log.now.records
          c.loop-id.log.records
          c.loop-id-test.true item c.requires.once c.loop-id.invariant.left c.loop-id.invariant.same c.loop-id.invariant.records c.keep_or_note.new.log.records
          noted;
      same = ap (λ n. living_in n c.keep_or_note.new.log.records) inoculated
          ∙ same-next (lives c.args.run.now) c.args.quantum i id xs c.loop-id.left.items c.loop-id.log.inoculated c.args.log.now.records c.loop-id.log.records
          c.loop-id-test.true item c.requires.once c.loop-id.invariant.left c.loop-id.invariant.same c.loop-id.invariant.records
          c.keep_or_note.new.left.items c.keep_or_note.new.log.records kept noted;
    }

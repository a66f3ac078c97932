use Rattle.std.proofs.Common.{◌≡◌, ◌∙◌, ◌-◌, ◌++◌, ◌∷◌, [], List, ℕ, sym, ap, arith}
use Rattle.std.specs.List.{range_with_len}
use Rattle.tierra_model.specs.Counting.{times_in}
use Rattle.run_log.specs.declared.record.Record.{Record}
use Rattle.run_log.specs.Records.{living_in}
use Rattle.run_log.specs.declared.record.Record.TheVariants.{Birth}
use Rattle.run_log.proofs.Entries.{living-push}
use Rattle.run_log.proofs.Notes.{absent-next, births-next, born-next, order-births}
use Rattle.run_log.proofs.population_curve.note_births.Goals as goal

pub born-requires-clause-order : goal.born-requires-clause-order
born-requires-clause-order c =
    order-births c.args.quantum c.args.log.now.records c.reserve.new.self.records (range_with_len c.args.first (c.loop-id.id - c.args.first)) c.requires.order
    (c.in_ok-reserve.ensures.records ∙ c.loop-id.invariant.records)

pub born-requires-clause-absent : goal.born-requires-clause-absent
born-requires-clause-absent c =
    let none = absent-next c.args.first c.loop-id.id c.args.living.now.items c.loop-id.living.items c.requires.fresh (omega arith) c.loop-id.invariant.living in
    ap (λ n. times_in (living_in n c.reserve.new.self.records) c.loop-id.id) c.in_ok-reserve.ensures.inoculated
    ∙ ap (λ (rs : List Record). times_in (living_in c.loop-id.log.inoculated rs) c.loop-id.id) c.in_ok-reserve.ensures.records
    ∙ ap (λ (xs : List ℕ). times_in xs c.loop-id.id) (sym c.loop-id.invariant.same) ∙ none

pub loop-id-preserved : goal.loop-id-preserved
loop-id-preserved c =
    let records : c.born.new.self.records ≡ c.loop-id.log.records ++ Birth c.args.quantum c.loop-id.id ∷ [] =
    c.born.ensures.records ∙ ap (λ (rs : List Record). rs ++ Birth c.args.quantum c.loop-id.id ∷ []) c.in_ok-reserve.ensures.records in
    let inoculated : c.born.new.self.inoculated ≡ c.loop-id.log.inoculated = c.born.ensures.inoculated ∙ c.in_ok-reserve.ensures.inoculated in
    let pushed : c.push.new.self.items ≡ c.loop-id.living.items ++ c.loop-id.id ∷ [] = c.in_ok-push.ensures.items in
    record {
      inoculated = inoculated ∙ c.loop-id.invariant.inoculated;
      living = pushed ∙ born-next c.args.first c.loop-id.id c.args.living.now.items c.loop-id.living.items (omega arith) c.loop-id.invariant.living;
      records = records ∙ births-next c.args.quantum c.args.first c.loop-id.id c.args.log.now.records c.loop-id.log.records (omega arith)
          c.loop-id.invariant.records;
      same = pushed ∙ ap (λ (xs : List ℕ). xs ++ c.loop-id.id ∷ []) c.loop-id.invariant.same
          ∙ sym (ap (λ n. living_in n c.born.new.self.records) inoculated ∙ ap (living_in c.loop-id.log.inoculated) records
          ∙ living-push c.loop-id.log.inoculated c.loop-id.log.records (Birth c.args.quantum c.loop-id.id));
    }

use Rattle.std.proofs.Common.{◌∙◌, ap, arith, sym}
use Rattle.std.proofs.lemmas.List.{length-map}
use Rattle.std.specs.Prelude.{Option, Some, option_map, slice_index, ℕ}
use Rattle.tierra_model.proofs.AnyMachine.{place_of_first_other-is}
use Rattle.reaper_queue.specs.Reaper.{ids_of}
use Rattle.reaper_queue.proofs.Others.{find-other, id_of-at}
use Rattle.reaper_queue.proofs.reaper.Reaper.first_other.Goals as goal

pub at-requires : goal.at-requires
at-requires c =
    let es = c.args.self.now.entries in
    let there = place_of_first_other-is c.args.id (ids_of es) c.in-Some.place (sym c.in-Some.ensures) in
    omega (arith, there.0, length-map es (λ x. x.0))

pub returns-in-Some : goal.returns-in-Some
returns-in-Some c =
    let es = c.args.self.now.entries in
    ap Some (sym (id_of-at es c.in-Some.place c.at.result c.at.ensures))
    ∙ ap (λ (o : Option ℕ). option_map (slice_index (ids_of es)) o) c.in-Some.ensures
    ∙ sym (find-other c.args.id (ids_of es))

pub returns-in-None : goal.returns-in-None
returns-in-None c =
    let es = c.args.self.now.entries in
    ap (λ (o : Option ℕ). option_map (slice_index (ids_of es)) o) c.in-None.ensures
    ∙ sym (find-other c.args.id (ids_of es))

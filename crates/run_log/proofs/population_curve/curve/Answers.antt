use Rattle.std.proofs.Common.{◌∙◌, ◌++◌, ℕ, List, ap}
use Rattle.std.specs.List.{flat_map}
use Rattle.tierra_model.specs.Serial.{serial}
use Rattle.run_log.specs.Curve.{counts_of, curve_text, point_line, record_line, run_records, shown}
use Rattle.run_log.specs.Records.{point_of, up_to}
use Rattle.run_log.proofs.Texts.{shown-same}
use Rattle.run_log.proofs.population_curve.curve.Goals as goal

pub returns : goal.returns
unfolding curve_text
returns c =
    let lines : ℕ → List ℕ = λ (q : ℕ). point_line q (point_of c.in_ok-log.log.inoculated (up_to q c.in_ok-log.log.records)) in
    let told : ℕ → List ℕ = λ (q : ℕ). point_line q (counts_of (serial c.args.setup.now q)) in
    c.in_ok-add_points.ensures
    ∙ ap (λ (l : List ℕ). l ++ flat_map lines (shown c.args.quanta c.args.every))
    (c.in_ok-add_records.ensures ∙ ap (λ (l : List ℕ). l ++ flat_map record_line c.in_ok-log.log.records) c.new-items.ensures.items
    ∙ ap (flat_map record_line) c.in_ok-log.ensures.records)
    ∙ ap (λ (l : List ℕ). flat_map record_line (run_records c.args.setup.now c.args.quanta) ++ l)
    (shown-same lines told c.args.quanta c.args.every (λ q below. ap (point_line q) (c.in_ok-log.ensures.counts q below)))

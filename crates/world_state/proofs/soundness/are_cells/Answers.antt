use Rattle.std.proofs.Common.{◌≡◌, ◌∙◌, ◌<◌, length, rules, sym}
use Rattle.world_state.specs.Checks.{is_code_number}
use Rattle.world_state.proofs.Deciding.{all-decides, cell-decides}
use Rattle.world_state.proofs.soundness.are_cells.Goals as goal

pub returns : goal.returns
returns c =
    let all = all-decides is_code_number (λ v. v < 32) cell-decides c.args.cells.now in
    let long : length c.args.cells.now ≡ c.args.size = search rules in (
      λ e. (long, all.0 (sym c.are_code_numbers.ensures ∙ e)),
      λ h. c.are_code_numbers.ensures ∙ all.1 h.1,
    )

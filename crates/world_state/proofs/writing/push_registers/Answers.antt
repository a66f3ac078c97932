use Rattle.std.proofs.Common.{rules, ◌≡◌, ◌∙◌, ◌++◌, ℕ, ℤ, List, Ok, Err, append_assoc, to_z, of_z, w32}
use Rattle.std.specs.Prelude.{OnOk}
use Rattle.world_state.specs.StateBytes.{register_bytes, registers_bytes}
use Rattle.world_state.proofs.writing.push_registers.Goals as goal

pub returns : goal.returns
unfolding registers_bytes
returns c =
    let told : ℤ → ℤ = λ v. to_z w32 (of_z w32 v) in
    let ax : told c.args.creature.now.ax ≡ c.args.creature.now.ax = search rules in
    let bx : told c.args.creature.now.bx ≡ c.args.creature.now.bx = search rules in
    let cx : told c.args.creature.now.cx ≡ c.args.creature.now.cx = search rules in
    let dx : told c.args.creature.now.dx ≡ c.args.creature.now.dx = search rules in
    let a : List ℕ = register_bytes c.args.creature.now.ax ++ register_bytes c.args.creature.now.bx in
    let b : List ℕ = register_bytes c.args.creature.now.cx ++ register_bytes c.args.creature.now.dx in
    let start = c.args.out.now.items in
    let first : c.push_two_registers.new.out.items ≡ start ++ a
    = c.in_ok-push_two_registers.ensures ∙ (λ i. start ++ (register_bytes (ax i) ++ register_bytes (bx i))) in
    elim c.push_two_registers-2.result as (λ r. OnOk r (c.push_two_registers-2.new.out.items
    ≡ c.push_two_registers.new.out.items ++ (register_bytes (told c.args.creature.now.cx) ++ register_bytes (told c.args.creature.now.dx)))
    → OnOk r (c.push_two_registers-2.new.out.items ≡ start ++ (a ++ b))) [
      | Ok x ↦ (λ e. e ∙ (λ i. first i ++ (register_bytes (cx i) ++ register_bytes (dx i))) ∙ append_assoc start a b)
      | Err e ↦ (λ h. h)
    ] c.push_two_registers-2.ensures

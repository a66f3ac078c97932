-- A step is a look at its cell, and then the instruction.
use Rattle.std.proofs.Common.{◌≡◌, ℕ, refl, sym, ◌∙◌, ap}
use Rattle.std.specs.Prelude.{Option, ℤ}
use Rattle.tierra_model.specs.declared.creatures.Creature.{Creature}
use Rattle.tierra_model.specs.declared.events.Act.{Act}
use Rattle.tierra_model.specs.declared.ops.Op.{Op}
use Rattle.tierra_model.specs.declared.ops.Op.TheVariants.{Nop0}
use Rattle.tierra_model.specs.declared.parameters.Settings.{Settings}
use Rattle.tierra_model.specs.Draw.{word}
use Rattle.tierra_model.specs.Look.{Look, pass}
use Rattle.tierra_model.specs.Step.{Outcome, execute, step}
use Rattle.tierra_model.specs.Table.{op_of}
use Rattle.mutation_streams.specs.Draws.{DrawFields}
use Rattle.cpu_core.specs.Draws.{copy_bit_of, flaw_of, with_rates_of}
use Rattle.cpu_core.specs.Executing.{Executes, after_act, start_record}

-- The rates count only by what is drawn.
execute-with_rates_of : (d : DrawFields) (s : Settings) (f : ℤ) (bit : Option ℕ) (ip : ℕ) (c : Creature) (op : Op)
    → execute (with_rates_of d s) f bit ip c op ≡ execute s f bit ip c op
execute-with_rates_of d s f bit ip c Nop0 = refl
execute-with_rates_of d s f bit ip c _ = refl

pub step_executes : {S : Type 0} (cells : S → ℕ → ℕ) (looked : S → ℕ → S) (written : S → ℕ → ℕ → S) (d : DrawFields) (s : Settings) (i : ℕ)
    (code : ℕ) (op : Op) (c b e : Creature) (v w u : S) (a : Act) → code ≡ cells v c.ip → op ≡ op_of code → w ≡ looked v c.ip → b ≡ start_record s c
    → Executes cells looked written (execute s (flaw_of d i) (copy_bit_of d i) c.ip b op) w u e a
    → Executes cells looked written (step (with_rates_of d s) (word d.seed d.quantum) i c) v u e a
unfolding step flaw_of copy_bit_of
step_executes {S} cells looked written d s i code op c b e v w u a k l m n h =
    ap (λ (t : Look Outcome). after_act written (pass cells looked t (looked v c.ip)))
    (execute-with_rates_of d s (flaw_of d i) (copy_bit_of d i) c.ip (start_record s c) (op_of (cells v c.ip)))
    ∙ (λ j. after_act written (pass cells looked (execute s (flaw_of d i) (copy_bit_of d i) c.ip (sym n j) (op_of (sym k j))) (sym m j)))
    ∙ ap (λ (o : Op). after_act written (pass cells looked (execute s (flaw_of d i) (copy_bit_of d i) c.ip b o) w)) (sym l)
    ∙ h

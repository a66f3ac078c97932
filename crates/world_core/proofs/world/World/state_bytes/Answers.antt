use Rattle.std.proofs.Common.{◌≡◌, ◌∙◌, ◌++◌, refl, subst, sym}
use Rattle.tierra_model.specs.Sound.{IsSound}
use Rattle.world_state.specs.Restoring.{FitsTypes}
use Rattle.world_state.specs.StateBytes.{state_bytes}
use Rattle.world_core.specs.Running.{WorldFields}
use Rattle.world_core.proofs.world.World.state_bytes.Goals as goal

pub returns-clause-bytes : goal.returns-clause-bytes
returns-clause-bytes c =
    let running : c.deref.result.now ≡ c.args.self.now = c.deref.ensures ∙ c.self.view_is in
    c.in_ok-push_state.ensures ∙ (λ i. c.new-items.ensures.items i ++ state_bytes (running i).world)

pub returns-clause-world : goal.returns-clause-world
returns-clause-world c =
    let running : c.deref.result.now ≡ c.args.self.now = c.deref.ensures ∙ c.self.view_is in
    record {
      settings = refl;
      sound = subst (λ (h : WorldFields). IsSound h.world) c.self.view_is c.self.invariant;
      types = subst (λ (h : WorldFields). FitsTypes h.world) (c.deref-2.ensures ∙ c.self.view_is) c.world_fits.ensures;
      bytes = sym (c.in_ok-push_state.ensures ∙ (λ i. c.new-items.ensures.items i ++ state_bytes (running i).world));
    }

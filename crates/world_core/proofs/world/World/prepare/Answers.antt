use Rattle.std.proofs.Common.{◌≡◌, ◌∙◌, List, ap, subst, sym}
use Rattle.tierra_model.specs.declared.events.Event.{Event}
use Rattle.tierra_model.specs.Replay.{CanAllHappen, EventsFit}
use Rattle.tierra_model.specs.Sound.{IsSound}
use Rattle.tierra_model.specs.World.{World}
use Rattle.world_core.specs.Prepared.{HasRoomFor}
use Rattle.world_core.specs.Running.{WorldFields, can_be_set}
use Rattle.world_core.proofs.world.World.prepare.Goals as goal

pub returns-clause-ready : goal.returns-clause-ready
returns-clause-ready c =
    let running : WorldFields = c.make_room.new.running in
    let events : List Event = c.in_ok-items.items.items in
    let copied : events ≡ c.events.inside.items.items = c.in_ok-items.ensures.items_if_clones_equal (λ x y e. e) ∙ c.deref.ensures.value in
    let world : running.world ≡ c.args.self.now.world =
    c.make_room.ensures.world ∙ ap (λ (h : WorldFields). h.world) (c.deref_mut.ensures.value ∙ c.self.view_is) in
    record {
      fit = subst (λ (es : List Event). EventsFit es c.args.after.now running.world) (sym (copied ∙ c.events.view_is))
          (subst (λ (w : World). EventsFit c.args.events.now c.args.after.now w) (sym world) c.requires);
      room = subst (λ (es : List Event). HasRoomFor es c.in_ok-codes.codes.items running) (c.deref-2.ensures.value ∙ sym copied)
          c.in_ok-codes.ensures.ok;
    }

pub returns-clause-world : goal.returns-clause-world
returns-clause-world c = c.make_room.ensures.world ∙ ap (λ (h : WorldFields). h.world) (c.deref_mut.ensures.value ∙ c.self.view_is)

pub returns-clause-kept : goal.returns-clause-kept
returns-clause-kept c p set =
    c.make_room.ensures.kept p (ap (λ (h : WorldFields). can_be_set h p) (c.deref_mut.ensures.value ∙ c.self.view_is) ∙ set)

pub returns-in_err-codes-clause-world : goal.returns-in_err-codes-clause-world
returns-in_err-codes-clause-world c =
    c.make_room.ensures.world ∙ ap (λ (h : WorldFields). h.world) (c.deref_mut.ensures.value ∙ c.self.view_is)

pub returns-in_err-codes-clause-kept : goal.returns-in_err-codes-clause-kept
returns-in_err-codes-clause-kept c p set =
    c.make_room.ensures.kept p (ap (λ (h : WorldFields). can_be_set h p) (c.deref_mut.ensures.value ∙ c.self.view_is) ∙ set)

pub invariant_of-self : goal.invariant_of-self
invariant_of-self c =
    subst IsSound (sym (c.make_room.ensures.world ∙ ap (λ (h : WorldFields). h.world) c.deref_mut.ensures.value)) c.self.invariant

pub invariant_of-self-2 : goal.invariant_of-self-2
invariant_of-self-2 c =
    subst IsSound (sym (c.make_room.ensures.world ∙ ap (λ (h : WorldFields). h.world) c.deref_mut.ensures.value)) c.self.invariant

pub make_room-requires-clause-sound : goal.make_room-requires-clause-sound
make_room-requires-clause-sound c = subst (λ (h : WorldFields). IsSound h.world) (sym c.deref_mut.ensures.value) c.self.invariant

pub make_room-requires-clause-can : goal.make_room-requires-clause-can
make_room-requires-clause-can c =
    subst (λ (es : List Event). CanAllHappen c.deref_mut.result.now.world es) (sym (c.deref-2.ensures.value ∙ c.events.view_is))
    (subst (λ (h : WorldFields). CanAllHappen h.world c.args.events.now) (sym (c.deref_mut.ensures.value ∙ c.self.view_is)) c.requires.each)

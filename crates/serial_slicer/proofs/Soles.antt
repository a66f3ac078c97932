-- All cells of a world stay ready through what happens in it.
use Rattle.std.proofs.Common.{◌≡◌, ℕ, List, refl, sym, ◌∙◌, ap, length}
use Rattle.std.specs.Prelude.{Option, slice_set}
use Rattle.std.proofs.lemmas.List.{length-set}
use Rattle.tierra_model.specs.declared.creatures.Block.{Block}
use Rattle.tierra_model.specs.declared.creatures.Creature.{Creature}
use Rattle.tierra_model.specs.declared.events.Event.{Event}
use Rattle.tierra_model.specs.declared.events.Event.TheVariants as event
use Rattle.tierra_model.specs.declared.parameters.Settings.{Settings}
use Rattle.tierra_model.specs.Events.{apply_event, turn_end}
use Rattle.tierra_model.specs.World.{World, put}
use Rattle.tierra_model.proofs.EventEffects.{settings-event, soup-event, soup_after}
use Rattle.world_core.specs.Running.{KeepsReady, WorldFields}
use Rattle.serial_slicer.specs.Turns.{IsSole, SoleFields}

sole-kept : (h k : WorldFields) → IsSole h → KeepsReady h k → k.world.settings ≡ h.world.settings → length k.world.soup ≡ length h.world.soup → IsSole k
sole-kept h k s ready settings cells =
    let size : k.world.settings.soup_size ≡ h.world.settings.soup_size = ap (λ (z : Settings). z.soup_size) settings in
    record {
      size = cells ∙ s.size ∙ sym size;
      ready = λ p below. ready p ∙ s.ready p (rw (← size) below);
    }

pub sole-same : (h k : WorldFields) → IsSole h → KeepsReady h k → k.world ≡ h.world → IsSole k
sole-same h k s ready same = sole-kept h k s ready (ap (λ (w : World). w.settings) same) (ap (λ (w : World). length w.soup) same)

pub sole-put : (h k : WorldFields) (c : Creature) → IsSole h → KeepsReady h k → k.world ≡ put c h.world → IsSole k
sole-put h k c s ready same = sole-kept h k s ready (ap (λ (w : World). w.settings) same) (ap (λ (w : World). length w.soup) same)

pub sole-turn_end : (h k : WorldFields) → IsSole h → KeepsReady h k → k.world ≡ turn_end h.world → IsSole k
sole-turn_end h k s ready same = sole-kept h k s ready (ap (λ (w : World). w.settings) same) (ap (λ (w : World). length w.soup) same)

length-soup_after : (e : Event) (soup : List ℕ) → length (soup_after e soup) ≡ length soup
length-soup_after (event.Write at value) soup = length-set soup at value
length-soup_after event.Err soup = refl
length-soup_after event.Good soup = refl
length-soup_after event.GiveUp soup = refl
length-soup_after (event.Mal at size) soup = refl
length-soup_after (event.Reap place) soup = refl
length-soup_after (event.Divide ran moved) soup = refl

pub sole-event : (e : Event) (h k : WorldFields) → IsSole h → KeepsReady h k → k.world ≡ apply_event h.world e → IsSole k
sole-event e h k s ready same =
    sole-kept h k s ready (ap (λ (w : World). w.settings) same ∙ settings-event h.world e)
    (ap (λ (w : World). length w.soup) same ∙ ap length (soup-event h.world e) ∙ length-soup_after e h.world.soup)

-- the write of a cell, as the view tells it
pub sole-written : (h k : WorldFields) (own : Block) (daughter : Option Block) (v : SoleFields) (at value : ℕ)
    → v ≡ record { world = h.world; own = own; daughter = daughter }
    → k.world ≡ apply_event h.world (event.Write at value)
    → record { world = k.world; own = own; daughter = daughter } ≡ record v { world = record v.world { soup = slice_set v.world.soup at value } }
unfolding apply_event
sole-written h k own daughter v at value is after =
    (λ j. record { world = after j; own = own; daughter = daughter })
    ∙ (λ j. let u : SoleFields = sym is j in let w : SoleFields = record u { world = record u.world { soup = slice_set u.world.soup at value } } in w)

-- A serial run, quantum after quantum.
use Rattle.std.proofs.Common.{◌≡◌, ℕ, zero, suc, add-one, ◌+◌, ◌≤◌, refl, sym, ◌∙◌, ap, arith}
use Rattle.tierra_model.specs.declared.limits.TheConstants.{MOST_QUANTA}
use Rattle.tierra_model.specs.Laws.{StaysSound}
use Rattle.tierra_model.specs.Quantum.{quantum}
use Rattle.std.specs.Prelude.{List, None, [], ◌∷◌}
use Rattle.tierra_model.specs.declared.setups.Inoculum.{Inoculum}
use Rattle.tierra_model.specs.Events.{with_creature}
use Rattle.tierra_model.specs.Serial.{empty_world, overwrite, serial, start, with_inocula}
use Rattle.tierra_model.specs.Setups.{SetupFields, block_of}
use Rattle.tierra_model.specs.Sound.{IsSound}
use Rattle.tierra_model.specs.World.{World}
use Rattle.tierra_model.proofs.Sound.{quantum_is_sound}
use Rattle.serial_slicer.specs.Onward.{after}

pub starts : (w u : World) → u ≡ w → u ≡ after 0 w
unfolding after
starts w u is = is

pub goes_on : (n : ℕ) (w u v : World) → u ≡ after n w → v ≡ quantum u → v ≡ after (n + 1) w
unfolding after
goes_on n w u v is next = next ∙ ap quantum is ∙ sym (ap (λ (k : ℕ). after k w) (add-one n))

-- a run from the start is the serial run
pub after-start : (setup : SetupFields) (n : ℕ) → after n (start setup) ≡ serial setup n
unfolding after serial
after-start setup zero = refl
after-start setup (suc n) = ap quantum (after-start setup n)

pub serial-next : (setup : SetupFields) (n : ℕ) → serial setup (n + 1) ≡ quantum (serial setup n)
unfolding serial
serial-next setup n = ap (serial setup) (add-one n)

-- what holds of its worlds
pub record IsSoundAfter (n : ℕ) (w u : World) : Type 0 where
  pub sound : IsSound u
  pub settings : u.settings ≡ w.settings
  pub quanta : u.quanta ≡ w.quanta + n

pub sound_after : (n : ℕ) (w : World) → IsSound w → w.quanta + n ≤ MOST_QUANTA → IsSoundAfter n w (after n w)
unfolding after
sound_after zero w h few = record { sound = h; settings = refl; quanta = omega arith }
sound_after (suc n) w h few =
    let r : IsSoundAfter n w (after n w) = sound_after n w h (omega arith) in
    let q : StaysSound (after n w) = quantum_is_sound (after n w) r.sound (omega (arith, r.quanta)) in
    record { sound = q.sound; settings = q.settings ∙ r.settings; quanta = omega (arith, q.quanta, r.quanta) }

pub sound_at : (n : ℕ) (w u : World) → IsSound w → w.quanta + n ≤ MOST_QUANTA → u ≡ after n w → IsSoundAfter n w u
sound_at n w u h few is =
    let r = sound_after n w h few in
    record {
      sound = rw is r.sound;
      settings = ap (λ (x : World). x.settings) is ∙ r.settings;
      quanta = ap (λ (x : World). x.quanta) is ∙ r.quanta;
    }

-- what a start leaves as it is
pub record Same (w v : World) : Type 0 where
  pub quanta : v.quanta ≡ w.quanta
  pub births : v.births ≡ w.births
  pub deaths : v.deaths ≡ w.deaths

inocula-same : (cs : List Inoculum) (w : World) → Same w (with_inocula cs w)
inocula-same [] w = record { quanta = refl; births = refl; deaths = refl }
inocula-same (c ∷ cs) w =
    let r = inocula-same cs (with_creature w.genotypes (block_of c) c.code None 0 (record w { soup = overwrite w.soup c.at c.code })) in
    record { quanta = r.quanta; births = r.births; deaths = r.deaths }

-- nothing happened before the start
pub start-new : (setup : SetupFields) → Same (empty_world setup.settings) (start setup)
unfolding start
start-new setup = inocula-same setup.creatures (empty_world setup.settings)

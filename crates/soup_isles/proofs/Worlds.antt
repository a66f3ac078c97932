-- The worlds of isles, and the settings that they have.
use Rattle.std.proofs.Common.{◌≡◌, ℕ, ◌<◌, ◌≤◌, List, [], ◌∷◌, refl, sym, ◌∙◌, ap, arith, length, map, get_or}
use Rattle.std.specs.Prelude.{All}
use Rattle.std.proofs.lemmas.List.{get_or-map, length-map}
use Rattle.std.proofs.lemmas.List.FromFn.{length-map-range_with_len}
use Rattle.std.proofs.lemmas.List.Elements.{All-head, All-map, All-tail, All-weaker}
use Rattle.tierra_model.specs.declared.limits.TheConstants.{MOST_QUANTA}
use Rattle.tierra_model.specs.declared.parameters.Settings.{Settings}
use Rattle.tierra_model.specs.declared.setups.Inoculum.{Inoculum}
use Rattle.tierra_model.specs.Laws.{IsSerialRun}
use Rattle.tierra_model.specs.Serial.{empty_world, serial}
use Rattle.tierra_model.specs.Setups.{IsSetup, SetupFields, default_settings, setup_for}
use Rattle.tierra_model.specs.Sound.{IsSound}
use Rattle.tierra_model.specs.World.{World}
use Rattle.tierra_model.proofs.StartIsSound.{serial_is_sound}
use Rattle.soup_isles.specs.Isles.{next_setup, next_setups, setup_at, world_at}
use Rattle.soup_isles.specs.Runs.{worlds_of}
use Rattle.soup_isles.proofs.Joining.{setup-under}

pub worlds-sound : (setups : List SetupFields) (n : ℕ) → n ≤ MOST_QUANTA → All IsSetup setups → All IsSound (worlds_of setups n)
worlds-sound setups n few all =
    All-map IsSound (λ s. serial s n) setups
    (All-weaker IsSetup (λ s. IsSound (serial s n)) (λ s is. (let r : IsSerialRun s n = serial_is_sound s n is few in r.sound)) setups all)

abbrev pub settings_of_worlds : List World → List Settings
settings_of_worlds worlds = map (λ w. w.settings) worlds

abbrev pub settings_of_setups : List SetupFields → List Settings
settings_of_setups setups = map (λ s. s.settings) setups

pub worlds-settings : (setups : List SetupFields) (n : ℕ) → n ≤ MOST_QUANTA → All IsSetup setups
    → settings_of_worlds (worlds_of setups n) ≡ settings_of_setups setups
worlds-settings [] n few all = refl
worlds-settings (s ∷ ss) n few all =
    let r : IsSerialRun s n = serial_is_sound s n (All-head IsSetup s ss all) few in
    (λ i. r.settings i ∷ worlds-settings ss n few (All-tail IsSetup s ss all) i)

pub worlds-many : (worlds : List World) (setups : List SetupFields) → settings_of_worlds worlds ≡ settings_of_setups setups → length worlds ≡ length setups
worlds-many worlds setups same =
    sym (length-map worlds (λ (w : World). w.settings)) ∙ ap length same ∙ length-map setups (λ (s : SetupFields). s.settings)

pub world-settings : (worlds : List World) (setups : List SetupFields) (k : ℕ) → settings_of_worlds worlds ≡ settings_of_setups setups → k < length setups
    → (world_at worlds k).settings ≡ (setup_at setups k).settings
world-settings worlds setups k same h =
    let many = worlds-many worlds setups same in
    sym (get_or-map (λ (w : World). w.settings) worlds k (empty_world default_settings) default_settings (omega arith))
    ∙ ap (λ (l : List Settings). get_or l k default_settings) same
    ∙ get_or-map (λ (s : SetupFields). s.settings) setups k (setup_for []) default_settings h

-- who begins the next epoch under settings with as many cells as before
pub next-is_setup : (worlds : List World) (setups : List SetupFields) (k : ℕ) (s t : Settings) (creatures : List Inoculum)
    → settings_of_worlds worlds ≡ settings_of_setups setups → k < length setups → (setup_at setups k).settings ≡ s → t.soup_size ≡ s.soup_size
    → IsSetup (record { settings = (world_at worlds k).settings; creatures = creatures }) → IsSetup (record { settings = t; creatures = creatures })
next-is_setup worlds setups k s t creatures same within is size setup =
    setup-under (world_at worlds k).settings t creatures
    (ap (λ (x : Settings). x.soup_size) (world-settings worlds setups k same within ∙ is) ∙ sym size) setup

-- there are as many isles in the next epoch
pub next-many : (setups : List SetupFields) (worlds : List World) (seed : List ℕ) (epoch : ℕ) → length (next_setups setups worlds seed epoch) ≡ length setups
unfolding next_setups
next-many setups worlds seed epoch = length-map-range_with_len (next_setup setups worlds seed epoch) 0 (length setups)

use Rattle.std.proofs.Common.{◌≡◌, ◌∙◌, ◌<◌, ap, arith, length, map, subst, sym}
use Rattle.std.specs.Prelude.{slice_index_or}
use Rattle.std.proofs.lemmas.List.{get_or-map, get_or_read, length-map}
use Rattle.std.proofs.lemmas.List.Elements.{All-get_or}
use Rattle.tierra_model.specs.Sound.{IsSound}
use Rattle.world_core.specs.Running.{WorldFields}
use Rattle.soup_isles.proofs.lists.WorldList.get.Goals as goal

pub returns-clause-sound : goal.returns-clause-sound
returns-clause-sound c =
    let xs = c.self.inside.items.items in
    let k = c.args.place in
    let r : WorldFields = c.index.result.now in
    let within : k < length xs = omega (arith, length-map xs (λ (w : WorldFields). w.world), ap length c.self.view_is) in
    let is : r ≡ slice_index_or xs k r = get_or_read xs k r within c.index.ensures r in
    subst IsSound (get_or-map (λ (w : WorldFields). w.world) xs k r r.world within ∙ ap (λ (w : WorldFields). w.world) (sym is))
    (All-get_or IsSound (map (λ (w : WorldFields). w.world) xs) k r.world (omega (arith, length-map xs (λ (w : WorldFields). w.world))) c.self.invariant)

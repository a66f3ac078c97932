use Rattle.std.proofs.Common.{◌≡◌, ◌<◌, ◌/◌, sym, subst, List, length, map, Some, None}
use Rattle.std.specs.Prelude.{slice_get, slice_index_or}
use Rattle.genotype_probe.specs.declared.Efforts.{Efforts}
use Rattle.genotype_probe.specs.Probes.{probe}
use Rattle.genotype_probe.proofs.Parts.{found_is, found_within}
use Rattle.genotype_probe.proofs.dealing.dealt.Goals as goal

pub bounds-part-place : goal.bounds-part-place
bounds-part-place c =
    subst (λ (xs : List Efforts). c.args.place / length c.args.parts.now < length xs) (sym c.as_slice-part.ensures.value)
    (found_within c.args.saved.now c.args.n c.args.place c.args.parts.now c.index-parts-place.result c.requires.parts c.requires.some
    c.index-parts-place.is c.requires.place)

pub returns : goal.returns
returns c =
    let none : Efforts = record { first = None; second = None } in
    subst
    (λ (xs : List Efforts). slice_get (map (λ s. probe s.code c.args.n) c.args.saved.now) c.args.place
    ≡ Some (slice_index_or xs (c.args.place / length c.args.parts.now) none)) (sym c.as_slice-part.ensures.value)
    (found_is c.args.saved.now c.args.n c.args.place c.args.parts.now c.index-parts-place.result none c.requires.parts c.requires.some
    c.index-parts-place.is c.requires.place)

-- The text of a sight, worked out.
use Rattle.std.proofs.Common.{◌≡◌, ◌∷◌, [], refl}
use Rattle.std.specs.Prelude.{codes}
use Rattle.std.specs.Fmt.{digits}
use Rattle.genotyper.specs.Names.{name_text}
use Rattle.soup_watch.specs.Text.{sights_text}

two_live : sights_text (record {
  quanta = 2;
  births = 0;
  deaths = 1;
  living = 3;
  counts = record { name = record { size = 2; rank = 0 }; living = 1; total = 2 }
      ∷ record { name = record { size = 80; rank = 1 }; living = 2; total = 2 } ∷ [];
} ∷ []) ≡ codes "sight quanta 2 births 0 deaths 1 living 3\n0002aaa 1 2\n0080aab 2 2\n"
unfolding name_text digits
two_live = refl

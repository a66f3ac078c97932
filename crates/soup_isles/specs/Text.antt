-- What is told of isles.
use Rattle.std.specs.Fmt.{decimal}
use Rattle.std.specs.List.{flat_map, range_with_len}
use Rattle.std.specs.Prelude.{List, codes, length, ℕ, ◌++◌, ◌+◌}
use Rattle.report_text.specs.Report.{report}
use Rattle.tierra_model.specs.World.{World}
use Rattle.soup_isles.specs.Isles.{world_at}

-- the number of the isle at a place, and the report of its world
unfoldable pub isle_text : List World → ℕ → List ℕ
isle_text worlds place = codes "isle " ++ decimal (place + 1) ++ codes "\n" ++ report (world_at worlds place)

-- all isles in order
unfoldable pub isles_text : List World → List ℕ
isles_text worlds = flat_map (isle_text worlds) (range_with_len 0 (length worlds))

use Rattle.std.proofs.Common.{◌++◌}
use Rattle.std.specs.Fmt.{decimal}
use Rattle.std.specs.Prelude.{codes, string_bytes}
use Rattle.soup_watch.proofs.Labels.{number_added, piece_added}
use Rattle.soup_watch.proofs.text.add_head.Goals as goal

pub returns : goal.returns
returns c =
    let s = c.args.sight.now in
    let old = string_bytes c.args.text.now in
    let quanta = codes "sight quanta " ++ decimal s.quanta in
    let births = quanta ++ codes " births " ++ decimal s.births in
    let deaths = births ++ codes " deaths " ++ decimal s.deaths in
    let living = deaths ++ codes " living " ++ decimal s.living in
    let two = number_added old quanta _ _ (codes " births ") (decimal s.births) c.in_ok-add_number.ensures c.in_ok-add_number-2.ensures in
    let three = number_added old births _ _ (codes " deaths ") (decimal s.deaths) two c.in_ok-add_number-3.ensures in
    let four = number_added old deaths _ _ (codes " living ") (decimal s.living) three c.in_ok-add_number-4.ensures in
    piece_added old living _ _ (codes "\n") four c.in_ok-push_str.ensures.bytes

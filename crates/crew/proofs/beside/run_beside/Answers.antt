use Rattle.std.proofs.Common.{rules, refl}
use Rattle.crew.proofs.beside.run_beside.Goals as goal

pub join_mut-book-requires-after_bounds : goal.join_mut-book-requires-after_bounds
join_mut-book-requires-after_bounds g c κs within = (
  (search rules, (c.args.book, refl, c.requires.course)),
  ((search rules, c.requires.hand), (search rules, search rules)),
)

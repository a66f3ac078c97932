-- The cells so far match, and the rest is compared from the place on.
use Rattle.std.proofs.Common.{◌≡◌, ◌<◌}
use Rattle.template_search.proofs.Comparing.{ComparesOn}
use Rattle.template_search.proofs.template.is_complement.Given as goal

abbrev pub invariant-loop-nop : goal.invariant-loop-nop
invariant-loop-nop g l =
    record {
      size : l.size ≡ g.V.View.size l.view;
      place : l.place < l.size;
      compared : ComparesOn g.V.View.cells g.V.View.looked l.size l.nops l.start l.fn.view l.nop-index l.place l.view;
    }

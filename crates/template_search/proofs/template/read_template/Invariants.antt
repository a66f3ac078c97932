-- The cells read so far begin the template, and the rest of it is read from the place on.
use Rattle.std.proofs.Common.{◌≡◌, ◌<◌, length}
use Rattle.template_search.proofs.Packing.{IsWordOf}
use Rattle.template_search.proofs.Reading.{ReadsOn}
use Rattle.template_search.proofs.template.read_template.Given as goal

abbrev pub invariant-loop-len : goal.invariant-loop-len
invariant-loop-len g l =
    record {
      size : l.size ≡ g.V.View.size l.view;
      place : l.place < l.size;
      ten : length l.cells ≡ 10;
      word : IsWordOf l.cells l.len l.word;
      read : ReadsOn g.V.View.cells g.V.View.looked l.size l.start l.fn.view l.len l.cells l.place l.view;
    }

use Rattle.std.proofs.Common.{◌≡◌, ◌⊎◌, drop, map, string_bytes}
use Rattle.std.specs.Vec.Iter.{into_iter_items}
use Rattle.soup_top.specs.declared.status.Status.TheVariants as status
use Rattle.tierra.specs.Program.{Faults, KeepsPromises, call_of}
use Rattle.tierra.proofs.Promises.{at_words}
use Rattle.tierra.proofs.run.Goals as goal

pub returns-in-Ok-clause-promises : goal.returns-in-Ok-clause-promises
returns-in-Ok-clause-promises g c =
    at_words c.args.words (λ all. drop 1 (into_iter_items all)) c.in-Ok.words.items
    (λ items. (c.run_words.result.status ≡ status.OutOfMemory) ⊎ ((f : Faults) × KeepsPromises (call_of (map string_bytes items)
    (g.I.Read.remaining c.args.input) (g.I.Read.remaining c.run_words.result.input) (c.run_words.result.input ≡ c.args.input)
    (g.O.Write.contents c.args.output) (g.O.Write.contents c.run_words.result.output) (c.run_words.result.output ≡ c.args.output)
    f c.run_words.result.status)))
    c.in-Ok.ensures.words c.run_words.ensures

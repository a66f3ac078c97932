use Rattle.std.proofs.Common.{◌≡◌, map, take}
use Rattle.clap.specs.Words.{app_of}
use Rattle.soup_words.specs.Split.{with_options}
use Rattle.soup_words.proofs.split.with_options.Given as goal

abbrev pub invariant-loop-name : goal.invariant-loop-name
invariant-loop-name l = app_of l.command ≡ with_options (app_of l.fn.command) (map (λ n. n.now) (take l.name-index l.names))

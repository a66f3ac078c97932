use Rattle.std.proofs.Common.{◌≡◌, ◌^◌, nat_eq, arith, length}
use Rattle.std.specs.Prelude.{unwrap_or}
use Rattle.std.specs.HashMap.{get}
use Rattle.genotyper.proofs.Births.{count_lt, ranked-first}
use Rattle.genotyper.proofs.genotypes.Genotypes.enter_with.Goals as goal

pub count_one-rank-requires-clause-count : goal.count_one-rank-requires-clause-count
count_one-rank-requires-clause-count c =
    count_lt c.self.inside.entries.entries (λ size. unwrap_or (get nat_eq c.self.inside.sizes size) 0) c.len.result (2 ^ 63) c.self.invariant
    (omega (arith, c.len-number.ensures.small, c.len-number.ensures.len))

pub invariant_of-self : goal.invariant_of-self
invariant_of-self c =
    let size : c.len.result ≡ length c.args.code = cc in
    ranked-first _ _ (λ size. unwrap_or (get nat_eq c.self.inside.sizes size) 0) _ c.args.code _ c.len.result c.put_last.ensures.entries
    c.self.invariant c.requires.code.1 size c.count_one-rank.ensures.before c.count_one-rank.ensures.counts

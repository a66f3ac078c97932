use Rattle.std.proofs.Common.{◌≡◌, IfOk, length, refl, subst}
use Rattle.std.specs.Vec.Iter.{into_iter_items, into_iter_len}
use Rattle.std.proofs.lemmas.Iterator.{items_from_collect}
use Rattle.std.proofs.lemmas.Iterator.Adapters.{YieldsList-from_vec}
use Rattle.tierra.proofs.Words.{taken_is_first}
use Rattle.tierra.proofs.but_the_first.Goals as goal

pub returns : goal.returns
returns c =
    let left = into_iter_items c.next.new.self in
    let long : into_iter_len c.next.new.self ≡ length left = search in
    let rest = taken_is_first c.args.words c.next.new.self c.next.result c.next.ensures.cases c.next.ensures.items long in
    let got = items_from_collect c.collect.result c.collect.ensures.ran (YieldsList-from_vec left refl long) in
    subst (λ xs. IfOk c.collect.result (λ others. others.items ≡ xs)) rest got

use Rattle.std.proofs.Common.{ℕ, ◌≡◌, ◌∙◌, ◌+◌, List, [], ◌∷◌, ◌++◌, ap, sym, arith, length}
use Rattle.std.specs.List.{range_with_len}
use Rattle.std.specs.Prelude.{map, slice_index_or}
use Rattle.std.proofs.lemmas.List.FromFn.{get_or-map-range_with_len, length-map-range_with_len, map-range_with_len_more}
use Rattle.mutation_streams.specs.Draws.{draws_of}
use Rattle.mutation_streams.specs.Entries.{BlockFields, EntryFields, entry_of}
use Rattle.mutation_streams.proofs.block.TapeBlock.write.Goals as goal

pub loop-k-preserved : goal.loop-k-preserved
loop-k-preserved c =
    let l = c.loop-k in
    let f : ℕ → EntryFields = λ j. entry_of (draws_of c.args.settings.now (c.args.first + j)) c.args.reach in
    let e : EntryFields = c.in_ok-of.field-0 in
    let is : e ≡ f l.k = c.in_ok-of.ensures ∙ ap f c.from.ensures in
    c.in_ok-push.ensures.items
    ∙ ap (λ (xs : List EntryFields). xs ++ e ∷ []) l.invariant
    ∙ ap (λ (x : EntryFields). map f (range_with_len 0 l.k) ++ x ∷ []) is
    ∙ sym (map-range_with_len_more f 0 l.k l.k (omega arith))

pub invariant_of-result : goal.invariant_of-result
invariant_of-result c =
    let l = c.loop-k in
    let f : ℕ → EntryFields = λ j. entry_of (draws_of c.args.settings.now (c.args.first + j)) c.args.reach in
    let long : length l.entries.items ≡ l.k = ap (λ (xs : List EntryFields). length xs) l.invariant ∙ length-map-range_with_len f 0 l.k in
    record {
      begun = omega arith;
      within = omega arith;
      few = omega (arith, long);
      each = λ k e less later.
          ap (λ (xs : List EntryFields). slice_index_or xs k e) l.invariant
          ∙ get_or-map-range_with_len f 0 l.k k k e (omega (arith, less, long)) (omega arith);
    }

pub returns : goal.returns
returns c =
    let l = c.loop-k in
    let f : ℕ → EntryFields = λ j. entry_of (draws_of c.args.settings.now (c.args.first + j)) c.args.reach in
    let long : length l.entries.items ≡ l.k = ap (λ (xs : List EntryFields). length xs) l.invariant ∙ length-map-range_with_len f 0 l.k in
    let all : length l.entries.items ≡ c.args.count = omega (arith, long) in
    ap (λ (n : ℕ). let b : BlockFields = record { next = draws_of c.args.settings.now c.args.first; reach = c.args.reach; end = c.args.first + n } in b) all

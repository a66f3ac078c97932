use Rattle.std.proofs.Common.{◌≡◌, ◌∙◌, ◌∷◌, ◌++◌, sym, ap, [], List, Bool, true, false}
use Rattle.std.specs.Prelude.{cond}
use Rattle.mutation_streams.specs.declared.entry.Chance.{Chance}
use Rattle.mutation_streams.specs.Draws.{DrawFields, draws_of}
use Rattle.mutation_streams.specs.Entries.{chance_of, is_any}
use Rattle.mutation_streams.proofs.Found.{listed_more}
use Rattle.mutation_streams.proofs.entry.TapeEntry.of.Goals.{then-is_any+in_ok-push, else-is_any}
use Rattle.mutation_streams.proofs.entry.TapeEntry.of.Goals as goal

pub loop-instruction-preserved : goal.loop-instruction-preserved
loop-instruction-preserved c =
    let d : DrawFields = draws_of c.args.settings.now c.args.q in
    let l = c.loop-instruction in
    let x : Chance = c.chance-chance.result in
    let xs : List Chance = l.chances.items in
    let is = c.chance-chance.ensures.chance ∙ ap (λ (e : DrawFields). chance_of e l.instruction) l.invariant.0 in
    let more = listed_more d l.instruction xs x l.invariant.1 is in
    let items : c.if-is_any.chances.items ≡ cond (is_any x) (xs ++ x ∷ []) xs = elim c.if-is_any.branch [
      | then-is_any+in_ok-push w ↦
          let yes : is_any x ≡ true = sym c.is_any.ensures ∙ w.if-is_any.true in
          ap (λ v. v.items) w.chances-is ∙ w.in_ok-push.ensures.items ∙ ap (λ (b : Bool). cond b (xs ++ x ∷ []) xs) (sym yes)
      | else-is_any w ↦
          let no : is_any x ≡ false = sym c.is_any.ensures ∙ w.if-is_any.false in
          ap (λ v. v.items) w.chances-is ∙ ap (λ (b : Bool). cond b (xs ++ x ∷ []) xs) (sym no)
    ] in
    (c.chance-chance.ensures.same ∙ l.invariant.0, items ∙ more)
